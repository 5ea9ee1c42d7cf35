-- Lists of which a part is taken out or replaced.
use Rattle.std.proofs.Common.{◌≡◌, ℕ, suc, ◌+◌, ◌-◌, ◌<◌, ◌≤◌, List, [], ◌∷◌, ◌++◌, sym, ap, ◌∙◌, arith, length, take, drop, append_assoc}
use Rattle.std.specs.Prelude.{slice_set}
use Rattle.std.specs.List.{remove}
use Rattle.std.proofs.lemmas.List.{drop-drop, drop-set-lt, drop_at, length-take-le, take_at, take_more_set}

-- one more taken out
pub remove-between : {X : Type 0} (xs : List X) (from to left : ℕ) → 0 < left → from + left ≤ to → to ≤ length xs → remove (take from xs ++ drop (to - left) xs) from ≡ take from xs ++ drop (to - (left - 1)) xs
remove-between xs from to left some order within =
    let front = take from xs in
    let back = drop (to - left) xs in
    let here : length front ≡ from = length-take-le from xs (omega arith) in
    let next : from + 1 ≡ suc from = omega arith in
    let behind : (to - left) + 1 ≡ to - (left - 1) = omega arith in
    let rest : drop (suc from) (front ++ back) ≡ drop (to - (left - 1)) xs =
    ap (λ n. drop n (front ++ back)) (sym next) ∙ sym (drop-drop 1 from (front ++ back)) ∙ ap (drop 1) (drop_at front back from here) ∙ drop-drop 1 (to - left) xs ∙ ap (λ n. drop n xs) behind in
    ap (λ l. l ++ drop (suc from) (front ++ back)) (take_at front back from here) ∙ ap (λ l. front ++ l) rest

-- the first of a part replaced, and the others taken out
pub replace-between : {X : Type 0} (xs : List X) (from to : ℕ) (x : X) → from < to → to ≤ length xs → take (from + 1) (slice_set xs from x) ++ drop to (slice_set xs from x) ≡ take from xs ++ x ∷ drop to xs
replace-between xs from to x order within =
    ap (λ l. l ++ drop to (slice_set xs from x)) (take_more_set xs from x (omega arith))
    ∙ ap (λ l. (take from xs ++ x ∷ []) ++ l) (drop-set-lt to xs from x order)
    ∙ append_assoc (take from xs) (x ∷ []) (drop to xs)
