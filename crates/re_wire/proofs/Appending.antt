-- Bytes written behind bytes, one after the other.
use Rattle.std.proofs.Common.{◌≡◌, ℕ, zero, suc, ◌-◌, ◌+◌, ◌≤◌, ◌<◌, List, [], ◌∷◌, ◌++◌, length, take, drop, get_or, max, refl, sym, ap, ◌∙◌, append_assoc, arith, length-append}
use Rattle.std.specs.Int.{w64, to_be_bytes}
use Rattle.std.specs.List.{flat_map, range_with_len}
use Rattle.std.proofs.lemmas.List.{append-nil, take_more, take-append-drop}
use Rattle.std.proofs.lemmas.List.Concat.{flat_map-append}
use Rattle.re_outside.specs.Listed.{Listed, plain}
use Rattle.re_terms.specs.Spellings.{vector_bytes, rows_bytes}
use Rattle.re_terms.specs.declared.replicated.Rows.{Rows}
use Rattle.re_wire.specs.Appended.{appended}

pub appended-nil : (l : Listed ℕ) → l ≡ appended l []
appended-nil l =
    let items : l.items ≡ l.items ++ [] = sym (append-nil l.items) in
    let spare : l.spare ≡ l.spare - 0 = omega arith in
    λ i. record { items = items i; spare = spare i }

pub appended-appended : (l : Listed ℕ) (xs ys : List ℕ) → appended (appended l xs) ys ≡ appended l (xs ++ ys)
appended-appended l xs ys =
    let items : (l.items ++ xs) ++ ys ≡ l.items ++ (xs ++ ys) = append_assoc l.items xs ys in
    let spare : l.spare - length xs - length ys ≡ l.spare - length (xs ++ ys) = omega (arith, length-append xs ys) in
    λ i. record { items = items i; spare = spare i }

pub appended_next : (out l after : Listed ℕ) (xs ys : List ℕ) → l ≡ appended out xs → after ≡ appended l ys → after ≡ appended out (xs ++ ys)
appended_next out l after xs ys e f = f ∙ ap (λ (m : Listed ℕ). appended m ys) e ∙ appended-appended out xs ys

-- ---- so many devices

range_more : (a n j : ℕ) → a + n ≡ j → range_with_len a (suc n) ≡ range_with_len a n ++ j ∷ []
range_more a zero j e = ap (λ (x : ℕ). x ∷ []) (omega arith)
range_more a (suc n) j e = ap (λ (xs : List ℕ). a ∷ xs) (range_more (a + 1) n j (omega arith))

range_next : (n : ℕ) → range_with_len 0 (n + 1) ≡ range_with_len 0 n ++ n ∷ []
range_next n = let e : n + 1 ≡ suc n = omega arith in ap (range_with_len 0) e ∙ range_more 0 n n (omega arith)

pub vector_next : (n : ℕ) (counts : List ℕ) → vector_bytes (n + 1) counts ≡ vector_bytes n counts ++ to_be_bytes w64 (get_or counts n 0)
unfolding vector_bytes
vector_next n counts =
    let f : ℕ → List ℕ = λ device. to_be_bytes w64 (get_or counts device 0) in
    ap (flat_map f) (range_next n) ∙ flat_map-append f (range_with_len 0 n) (n ∷ []) ∙ ap (λ (ys : List ℕ). flat_map f (range_with_len 0 n) ++ ys) (append-nil (f n))

pub rows_next : (n : ℕ) (rows : Rows) → rows_bytes (n + 1) rows ≡ rows_bytes n rows ++ (to_be_bytes w64 (get_or rows.plus n 0) ++ to_be_bytes w64 (get_or rows.minus n 0))
unfolding rows_bytes
rows_next n rows =
    let f : ℕ → List ℕ = λ device. to_be_bytes w64 (get_or rows.plus device 0) ++ to_be_bytes w64 (get_or rows.minus device 0) in
    ap (flat_map f) (range_next n) ∙ flat_map-append f (range_with_len 0 n) (n ∷ []) ∙ ap (λ (ys : List ℕ). flat_map f (range_with_len 0 n) ++ ys) (append-nil (f n))

pub vector_written : (n : ℕ) (counts : List ℕ) (out l after : Listed ℕ) (bytes : List ℕ) → l ≡ appended out (vector_bytes n counts) → bytes ≡ to_be_bytes w64 (get_or counts n 0) → after ≡ appended l bytes → after ≡ appended out (vector_bytes (n + 1) counts)
vector_written n counts out l after bytes e is f =
    appended_next out l after (vector_bytes n counts) bytes e f ∙ ap (λ (ys : List ℕ). appended out (vector_bytes n counts ++ ys)) is ∙ ap (appended out) (sym (vector_next n counts))

pub rows_written : (n : ℕ) (rows : Rows) (out l between after : Listed ℕ) (increments decrements : List ℕ) → l ≡ appended out (rows_bytes n rows) → increments ≡ to_be_bytes w64 (get_or rows.plus n 0) → decrements ≡ to_be_bytes w64 (get_or rows.minus n 0)
    → between ≡ appended l increments → after ≡ appended between decrements → after ≡ appended out (rows_bytes (n + 1) rows)
rows_written n rows out l between after increments decrements e is js f g =
    let both : after ≡ appended l (increments ++ decrements) = appended_next l between after increments decrements f g in
    appended_next out l after (rows_bytes n rows) (increments ++ decrements) e both ∙ (λ i. appended out (rows_bytes n rows ++ (is i ++ js i))) ∙ ap (appended out) (sym (rows_next n rows))

-- the spare after a write of this length
pub spare_after : (l after : Listed ℕ) (bytes : List ℕ) (n : ℕ) → after ≡ appended l bytes → length bytes ≡ n → after.spare ≡ l.spare - n
spare_after l after bytes n e len = ap (λ (m : Listed ℕ). m.spare) e ∙ ap (λ (k : ℕ). l.spare - k) len

pub vector_none : (counts : List ℕ) → vector_bytes 0 counts ≡ []
unfolding vector_bytes
vector_none counts = refl

pub rows_none : (rows : Rows) → rows_bytes 0 rows ≡ []
unfolding rows_bytes
rows_none rows = refl

-- ---- a list of items

pub items_next : {X : Type 0} (f : X → List ℕ) (xs : List X) (i : ℕ) (x : X) → i < length xs → x ≡ get_or xs i x → flat_map f (take (i + 1) xs) ≡ flat_map f (take i xs) ++ f x
items_next f xs i x lt is =
    ap (flat_map f) (take_more xs i x lt) ∙ flat_map-append f (take i xs) (get_or xs i x ∷ []) ∙ ap (λ (ys : List ℕ). flat_map f (take i xs) ++ ys) (append-nil (f (get_or xs i x)) ∙ ap f (sym is))

-- the bytes of the next item go in where the bytes of all go in
pub items_room : {X : Type 0} (f : X → List ℕ) (xs : List X) (i : ℕ) (x : X) → i < length xs → x ≡ get_or xs i x → length (flat_map f (take i xs)) + length (f x) ≤ length (flat_map f xs)
items_room f xs i x lt is =
    let whole : flat_map f xs ≡ flat_map f (take (i + 1) xs) ++ flat_map f (drop (i + 1) xs) = ap (flat_map f) (sym (take-append-drop (i + 1) xs)) ∙ flat_map-append f (take (i + 1) xs) (drop (i + 1) xs) in
    let next = ap length (items_next f xs i x lt is) ∙ length-append (flat_map f (take i xs)) (f x) in
    omega (arith, next, ap length whole ∙ length-append (flat_map f (take (i + 1) xs)) (flat_map f (drop (i + 1) xs)))

pub appended_items : {X : Type 0} (f : X → List ℕ) (xs : List X) (i : ℕ) (x : X) (head : List ℕ) (out l after : Listed ℕ) → i < length xs → x ≡ get_or xs i x
    → l ≡ appended out (head ++ flat_map f (take i xs)) → after ≡ appended l (f x) → after ≡ appended out (head ++ flat_map f (take (i + 1) xs))
appended_items f xs i x head out l after lt is e g =
    appended_next out l after (head ++ flat_map f (take i xs)) (f x) e g ∙ ap (appended out) (append_assoc head (flat_map f (take i xs)) (f x) ∙ ap (λ (ys : List ℕ). head ++ ys) (sym (items_next f xs i x lt is)))

pub room_for_next : {X : Type 0} (f : X → List ℕ) (xs : List X) (i : ℕ) (x : X) (head : List ℕ) (out l : Listed ℕ) → i < length xs → x ≡ get_or xs i x
    → l ≡ appended out (head ++ flat_map f (take i xs)) → length (head ++ flat_map f xs) ≤ out.spare → length (f x) ≤ l.spare
room_for_next f xs i x head out l lt is e room =
    let left : l.spare ≡ out.spare - length (head ++ flat_map f (take i xs)) = ap (λ (m : Listed ℕ). m.spare) e in
    omega (arith, left, room, items_room f xs i x lt is, length-append head (flat_map f (take i xs)), length-append head (flat_map f xs))

-- the bytes for which there was exactly as much room as they take
pub only_written : (bytes : List ℕ) (n : ℕ) (reserved first whole : Listed ℕ) → reserved ≡ record { items = []; spare = max 0 n } → n ≡ 1 + length bytes → first ≡ appended reserved (1 ∷ []) → whole ≡ appended first bytes → whole ≡ plain (1 ∷ bytes)
only_written bytes n reserved first whole e is f g =
    let both : whole ≡ appended (record { items = []; spare = max 0 n }) (1 ∷ bytes) = appended_next reserved first whole (1 ∷ []) bytes f g ∙ ap (λ (m : Listed ℕ). appended m (1 ∷ bytes)) e in
    let spare : max 0 n - length (1 ∷ bytes) ≡ 0 = omega arith in
    both ∙ (λ i. record { items = 1 ∷ bytes; spare = spare i })
