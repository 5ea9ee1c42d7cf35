-- The piece of a file that a reader has in hand.
use Rattle.std.proofs.Common.{◌≡◌, ℕ, ◌+◌, ◌-◌, ◌<◌, ◌≤◌, min, List, [], ◌∷◌, ◌++◌, length, slice_index, take, drop, refl, sym, ◌∙◌, ap, subst, arith, append_assoc, length-append, length-take, get_or-take}
use Rattle.std.proofs.lemmas.List.{drop_all, drop_more, drop-drop, drop-take, take-take, take-append-drop}

used_up : (piece : List ℕ) (used filled : ℕ) → filled ≤ used → drop used (take filled piece) ≡ []
used_up piece used filled past = drop_all used (take filled piece) (omega (arith, length-take filled piece))

-- a piece that is fetched where the one in hand is used up changes nothing of what is to come
pub refilled : (piece buf content : List ℕ) (place used filled n m size : ℕ) → filled ≤ used → n ≡ min (length piece) (length content - place) → take n buf ≡ take n (drop place content) → size ≡ length content → m ≡ min n (size - place)
    → take m buf ++ drop (place + (m - 0)) content ≡ drop used (take filled piece) ++ drop (place + (filled - used)) content
refilled piece buf content place used filled n m size past got is whole kept =
    let all : m ≡ n = omega arith in
    let shift : place + (m - 0) ≡ place + n = omega arith in
    let left : take m buf ++ drop (place + (m - 0)) content ≡ drop place content =
    (λ i. take (all i) buf ++ drop (shift i) content)
    ∙ ((λ i. is i ++ sym (drop-drop n place content) i)
    ∙ take-append-drop n (drop place content)) in
    let none : place + (filled - used) ≡ place = omega arith in
    left ∙ sym (λ i. used_up piece used filled past i ++ drop (none i) content)

-- the first byte of the rest of the piece
pub first_byte : (piece content : List ℕ) (place used filled byte : ℕ) → used < filled → filled ≤ length piece → byte ≡ slice_index piece used
    → drop used (take filled piece) ++ drop (place + (filled - used)) content ≡ byte ∷ (drop (used + 1) (take filled piece) ++ drop (place + 1 + (filled - (used + 1))) content)
first_byte piece content place used filled byte within whole is =
    let head : drop used (take filled piece) ≡ byte ∷ drop (used + 1) (take filled piece) =
    drop_more (take filled piece) used 0 (omega (arith, length-take filled piece)) ∙ ap (λ b. b ∷ drop (used + 1) (take filled piece)) (get_or-take filled piece used 0 within ∙ sym is) in
    let same : place + (filled - used) ≡ place + 1 + (filled - (used + 1)) = omega arith in
    (λ i. head i ++ drop (same i) content)

-- the first n bytes of it
pub first_bytes : (piece content : List ℕ) (place used filled n : ℕ) → used + n ≤ filled
    → drop used (take filled piece) ++ drop (place + (filled - used)) content ≡ take n (drop used (take filled piece)) ++ (drop (used + n) (take filled piece) ++ drop (place + n + (filled - (used + n))) content)
first_bytes piece content place used filled n within =
    let window = drop used (take filled piece) in
    let same : place + (filled - used) ≡ place + n + (filled - (used + n)) = omega arith in
    (λ i. sym (take-append-drop n window) i ++ drop (same i) content)
    ∙ (append_assoc (take n window) (drop n window) _ ∙ ap (λ (l : List ℕ). take n window ++ (l ++ drop (place + n + (filled - (used + n))) content)) (drop-drop n used (take filled piece)))

pub front_of_piece : (piece : List ℕ) (used filled n : ℕ) → used + n ≤ filled → take n (drop used (take filled piece)) ≡ take ((used + n) - used) (drop used piece)
front_of_piece piece used filled n within =
    let rest : filled ≡ used + (filled - used) = omega arith in
    let some : n ≡ (used + n) - used = omega arith in
    ap (λ k. take n (drop used (take k piece))) rest
    ∙ (ap (take n) (drop-take used (filled - used) piece)
    ∙ (take-take n (filled - used) (drop used piece) (omega arith) ∙ ap (λ k. take k (drop used piece)) some))
