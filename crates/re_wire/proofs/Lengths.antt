-- How many bytes pairs and states take.
use Rattle.std.proofs.Common.{◌≡◌, ℕ, zero, suc, ◌+◌, ◌*◌, ◌≤◌, ◌<◌, List, ◌∷◌, ◌++◌, length, take, get_or, ap, ◌∙◌, arith, length-append}
use Rattle.std.specs.Int.{w64, to_be_bytes}
use Rattle.std.specs.List.{flat_map}
use Rattle.std.proofs.lemmas.List.{take_all}
use Rattle.re_terms.specs.Spellings.{word_bytes, pair_bytes, pairs_bytes, vector_bytes, rows_bytes, cell_bytes, state_bytes}
use Rattle.re_terms.specs.declared.replicated.Pair.{Pair}
use Rattle.re_terms.specs.declared.replicated.RState.{RState}
use Rattle.re_terms.specs.declared.replicated.Rows.{Rows}
use Rattle.re_wire.proofs.Appending.{items_next, vector_next, vector_none, rows_next, rows_none}

pub length-pair_bytes : (p : Pair) → length (pair_bytes p) ≡ length (word_bytes p.element) + 9
unfolding pair_bytes
length-pair_bytes p = length-append (word_bytes p.element) (p.dot.device ∷ to_be_bytes w64 p.dot.number)

pub length-pairs_bytes : (ps : List Pair) → length (pairs_bytes ps) ≡ 2 + length (flat_map pair_bytes ps)
unfolding pairs_bytes
length-pairs_bytes ps = omega arith

pub length-vector_bytes : (n : ℕ) (counts : List ℕ) → length (vector_bytes n counts) ≡ 8 * n
length-vector_bytes zero counts = ap length (vector_none counts)
length-vector_bytes (suc n) counts =
    let more : suc n ≡ n + 1 = omega arith in
    let next : vector_bytes (suc n) counts ≡ vector_bytes n counts ++ to_be_bytes w64 (get_or counts n 0) = ap (λ (k : ℕ). vector_bytes k counts) more ∙ vector_next n counts in
    omega (arith, ap length next ∙ length-append (vector_bytes n counts) (to_be_bytes w64 (get_or counts n 0)), length-vector_bytes n counts)

pub length-rows_bytes : (n : ℕ) (rows : Rows) → length (rows_bytes n rows) ≡ 16 * n
length-rows_bytes zero rows = ap length (rows_none rows)
length-rows_bytes (suc n) rows =
    let last : List ℕ = to_be_bytes w64 (get_or rows.plus n 0) ++ to_be_bytes w64 (get_or rows.minus n 0) in
    let more : suc n ≡ n + 1 = omega arith in
    let next : rows_bytes (suc n) rows ≡ rows_bytes n rows ++ last = ap (λ (k : ℕ). rows_bytes k rows) more ∙ rows_next n rows in
    omega (arith, ap length next ∙ length-append (rows_bytes n rows) last, length-rows_bytes n rows)

pub length-state_bytes : (n : ℕ) (s : RState) → length (state_bytes n s) ≡ 8 * n + length (flat_map (cell_bytes n) s.cells.items)
unfolding state_bytes
length-state_bytes n s = omega (arith, length-append (vector_bytes n s.vector.counts) (flat_map (cell_bytes n) s.cells.items), length-vector_bytes n s.vector.counts)

-- the length of the bytes of the next item too
pub length_next : {X : Type 0} (f : X → List ℕ) (xs : List X) (i : ℕ) (x : X) → i < length xs → x ≡ get_or xs i x → length (flat_map f (take (i + 1) xs)) ≡ length (flat_map f (take i xs)) + length (f x)
length_next f xs i x lt is = ap length (items_next f xs i x lt is) ∙ length-append (flat_map f (take i xs)) (f x)

pub length_all : {X : Type 0} (f : X → List ℕ) (xs : List X) (i : ℕ) → length xs ≤ i → length (flat_map f (take i xs)) ≡ length (flat_map f xs)
length_all f xs i le = ap (λ (ys : List _). length (flat_map f ys)) (take_all i xs le)
