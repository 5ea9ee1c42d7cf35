-- Numbers by device that are written are read again: a vector, and a counter's rows.
use Rattle.std.proofs.Common.{◌≡◌, ℕ, zero, ◌+◌, ◌-◌, ◌^◌, ◌<◌, ◌≤◌, List, [], ◌∷◌, ◌++◌, length, Result, Ok, refl, sym, ap, subst, ◌∙◌, arith, inl, inr}
use Rattle.std.specs.Prelude.{map, replicate, slice_index}
use Rattle.std.specs.Int.{w64, to_be_bytes}
use Rattle.std.specs.List.{AllByRecursion, flat_map, range_with_len}
use Rattle.std.proofs.lemmas.Bool.{cases_lt}
use Rattle.std.proofs.lemmas.List.{length-append, length-replicate, get_or_past, ext_get_or}
use Rattle.std.proofs.lemmas.List.Concat.{flat_map-cons}
use Rattle.std.proofs.lemmas.List.FromFn.{length-map-range_with_len, get_or-map-range_with_len}
use Rattle.re_terms.specs.Shapes.{AreOfDevices}
use Rattle.re_terms.specs.Spellings.{vector_bytes, rows_bytes}
use Rattle.re_terms.specs.declared.replicated.Rows.{Rows}
use Rattle.re_wire.specs.Reading.{below_at, several_at, padded, vector_at, row_at, rows_at}
use Rattle.re_wire.proofs.Takes.{Takes, Takes-first, Takes-second, wide64, below_again}
use Rattle.re_wire.proofs.TakesRows.{by_place, at_padded, past_padded, row_bytes, IsRow, as_rows, row_of}

-- ---- several values

pub several_again : {X : Type 0} (spelling : X → List ℕ) (P : X → Type 0) (bytes : List ℕ) (read : ℕ → Result (X × ℕ) ℕ) → ((at : ℕ) (x : X) (place : ℕ) → P x → Takes bytes at (spelling x) place → read at ≡ Ok (x, place))
    → (xs : List X) (at place : ℕ) → AllByRecursion P xs → Takes bytes at (flat_map spelling xs) place → several_at read (length xs) at ≡ Ok (xs, place)
unfolding several_at
several_again spelling P bytes read one [] at place all t = let end : place ≡ at = omega (arith, t.place_is) in ap (λ (n : ℕ). Ok ([], n)) (sym end)
several_again spelling P bytes read one (x ∷ xs) at place all t =
    let parted : Takes bytes at (spelling x ++ flat_map spelling xs) place = subst (λ (l : List ℕ). Takes bytes at l place) (flat_map-cons spelling x xs) t in
    let mid = at + length (spelling x) in
    rw (
      one at x mid all.0 (Takes-first bytes at (spelling x) (flat_map spelling xs) place parted),
      several_again spelling P bytes read one xs mid place all.1 (Takes-second bytes at (spelling x) (flat_map spelling xs) place parted),
    ) refl

-- ---- numbers by device

all_places : {X : Type 0} (P : X → Type 0) (f : ℕ → X) → ((d : ℕ) → P (f d)) → (ds : List ℕ) → AllByRecursion P (map f ds)
all_places P f h [] = tt
all_places P f h (d ∷ ds) = (h d, all_places P f h ds)

pub below_bound : (devices bound : ℕ) (numbers : List ℕ) → 0 < bound → AreOfDevices devices bound numbers → (device : ℕ) → slice_index numbers device < bound
below_bound devices bound numbers positive are device =
    elim (cases_lt device (length numbers)) [
      | inl lt ↦ are.bounded device 0 lt
      | inr le ↦ rw (get_or_past numbers device 0 le) positive
    ]

-- the numbers of the devices, padded, are the list
padded_back : (devices bound : ℕ) (numbers : List ℕ) → devices ≤ 16 → AreOfDevices devices bound numbers → padded (map (λ d. slice_index numbers d) (range_with_len 0 devices)) ≡ numbers
padded_back devices bound numbers few are =
    let front = map (λ d. slice_index numbers d) (range_with_len 0 devices) in
    let len : length front ≡ devices = length-map-range_with_len (λ d. slice_index numbers d) 0 devices in
    let places = are.places in
    ext_get_or 0 (padded front) numbers (omega (arith, length-append front (replicate (16 - length front) 0), length-replicate (16 - length front) zero)) (λ i _.
    elim (cases_lt i devices) [
      | inl lt ↦ at_padded front i (omega arith) ∙ get_or-map-range_with_len (λ d. slice_index numbers d) 0 devices i i 0 lt (omega arith)
      | inr le ↦ past_padded front i (omega arith) ∙ sym (are.none i le)
    ])

-- ---- the vector

pub vector_again : (devices : ℕ) (bytes : List ℕ) (at : ℕ) (counts : List ℕ) (place : ℕ) → devices ≤ 16 → AreOfDevices devices (2 ^ 48) counts → Takes bytes at (vector_bytes devices counts) place → vector_at devices bytes at ≡ Ok (record { counts = counts }, place)
unfolding vector_at vector_bytes
vector_again devices bytes at counts place few are t =
    let numbers = map (λ d. slice_index counts d) (range_with_len 0 devices) in
    let len : length numbers ≡ devices = length-map-range_with_len (λ d. slice_index counts d) 0 devices in
    let text : Takes bytes at (flat_map (to_be_bytes w64) numbers) place = subst (λ (l : List ℕ). Takes bytes at l place) (by_place (to_be_bytes w64) (λ d. slice_index counts d) (range_with_len 0 devices)) t in
    let all = all_places (λ n. n < 2 ^ 48) (λ d. slice_index counts d) (below_bound devices (2 ^ 48) counts (omega arith) are) (range_with_len 0 devices) in
    let read = several_again (to_be_bytes w64) (λ n. n < 2 ^ 48) bytes (below_at w64 (2 ^ 48) bytes) (λ start n end lt u. below_again w64 (2 ^ 64) wide64 (2 ^ 48) bytes start n end (omega arith) lt u) numbers at place all text in
    let counted : several_at (below_at w64 (2 ^ 48) bytes) devices at ≡ Ok (numbers, place) = subst (λ (n : ℕ). several_at (below_at w64 (2 ^ 48) bytes) n at ≡ Ok (numbers, place)) len read in
    rw counted (ap (λ (l : List ℕ). Ok (record { counts = l }, place)) (padded_back devices (2 ^ 48) counts few are))

-- ---- rows

row_again : (bytes : List ℕ) (at : ℕ) (row : ℕ × ℕ) (place : ℕ) → IsRow row → Takes bytes at (row_bytes row) place → row_at bytes at ≡ Ok (row, place)
unfolding row_at
row_again bytes at row place is t =
    let mid = at + length (to_be_bytes w64 row.0) in
    let plus = is.0 in
    let minus = is.1 in
    rw (
      below_again w64 (2 ^ 64) wide64 (2 ^ 63) bytes at row.0 mid (omega arith) plus (Takes-first bytes at (to_be_bytes w64 row.0) (to_be_bytes w64 row.1) place t),
      below_again w64 (2 ^ 64) wide64 (2 ^ 63) bytes mid row.1 place (omega arith) minus (Takes-second bytes at (to_be_bytes w64 row.0) (to_be_bytes w64 row.1) place t),
    ) refl

firsts_of : (rows : Rows) (ds : List ℕ) → map (λ (row : ℕ × ℕ). row.0) (map (row_of rows) ds) ≡ map (λ d. slice_index rows.plus d) ds
firsts_of rows [] = refl
firsts_of rows (d ∷ ds) = ap (λ (l : List ℕ). slice_index rows.plus d ∷ l) (firsts_of rows ds)

seconds_of : (rows : Rows) (ds : List ℕ) → map (λ (row : ℕ × ℕ). row.1) (map (row_of rows) ds) ≡ map (λ d. slice_index rows.minus d) ds
seconds_of rows [] = refl
seconds_of rows (d ∷ ds) = ap (λ (l : List ℕ). slice_index rows.minus d ∷ l) (seconds_of rows ds)

rows_back : (devices : ℕ) (rows : Rows) → devices ≤ 16 → AreOfDevices devices (2 ^ 63) rows.plus → AreOfDevices devices (2 ^ 63) rows.minus → as_rows (map (row_of rows) (range_with_len 0 devices)) ≡ rows
rows_back devices rows few plus minus =
    let p = ap padded (firsts_of rows (range_with_len 0 devices)) ∙ padded_back devices (2 ^ 63) rows.plus few plus in
    let m = ap padded (seconds_of rows (range_with_len 0 devices)) ∙ padded_back devices (2 ^ 63) rows.minus few minus in
    λ i. record { plus = p i; minus = m i }

pub rows_again : (devices : ℕ) (bytes : List ℕ) (at : ℕ) (rows : Rows) (place : ℕ) → devices ≤ 16 → AreOfDevices devices (2 ^ 63) rows.plus → AreOfDevices devices (2 ^ 63) rows.minus → Takes bytes at (rows_bytes devices rows) place → rows_at devices bytes at ≡ Ok (rows, place)
unfolding rows_at rows_bytes
rows_again devices bytes at rows place few plus minus t =
    let list = map (row_of rows) (range_with_len 0 devices) in
    let len : length list ≡ devices = length-map-range_with_len (row_of rows) 0 devices in
    let text : Takes bytes at (flat_map row_bytes list) place = subst (λ (l : List ℕ). Takes bytes at l place) (by_place row_bytes (row_of rows) (range_with_len 0 devices)) t in
    let all = all_places IsRow (row_of rows) (λ d. (below_bound devices (2 ^ 63) rows.plus (omega arith) plus d, below_bound devices (2 ^ 63) rows.minus (omega arith) minus d)) (range_with_len 0 devices) in
    let read = several_again row_bytes IsRow bytes (row_at bytes) (λ start row end is u. row_again bytes start row end is u) list at place all text in
    let counted : several_at (row_at bytes) devices at ≡ Ok (list, place) = subst (λ (n : ℕ). several_at (row_at bytes) n at ≡ Ok (list, place)) len read in
    rw counted (ap (λ (r : Rows). Ok (r, place)) (rows_back devices rows few plus minus))
