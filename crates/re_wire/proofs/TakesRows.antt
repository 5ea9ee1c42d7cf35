-- Numbers by device that are read are spelled so: a vector, and a counter's rows.
use Rattle.std.proofs.Common.{◌≡◌, ℕ, zero, suc, ◌-◌, ◌^◌, ◌<◌, ◌≤◌, List, [], ◌∷◌, ◌++◌, length, get_or, Result, Ok, refl, sym, ap, subst, ◌∙◌, arith, inl, inr}
use Rattle.std.specs.Prelude.{map, replicate, slice_index}
use Rattle.std.specs.Int.{w64, to_be_bytes}
use Rattle.std.specs.List.{AllByRecursion, flat_map, range_with_len}
use Rattle.std.proofs.lemmas.Bool.{cases_lt}
use Rattle.std.proofs.lemmas.List.{length-append, length-map, length-replicate, get_or_append_left, get_or-append_right, get_or-replicate, get_or_past, get_or-map}
use Rattle.std.proofs.lemmas.List.Concat.{flat_map-cons}
use Rattle.std.proofs.lemmas.List.Elements.{All-append, All-replicate, All-from_recursion}
use Rattle.std.proofs.lemmas.List.FromFn.{fill_by_all}
use Rattle.re_terms.specs.Shapes.{AreOfDevices}
use Rattle.re_terms.specs.Spellings.{vector_bytes, rows_bytes}
use Rattle.re_terms.specs.declared.replicated.Rows.{Rows}
use Rattle.re_terms.specs.declared.replicated.Vector.{Vector}
use Rattle.re_wire.proofs.Bytes.{IsBytes}
use Rattle.re_wire.specs.Reading.{◌>>=◌, below_at, several_at, padded, vector_at, row_at, rows_at}
use Rattle.re_wire.proofs.Takes.{bind_ok, ok_is, Takes, Takes-none, Takes-then, wide64, below_takes}

-- ---- several values

pub record SeveralTaken {X : Type 0} (spelling : X → List ℕ) (P : X → Type 0) (bytes : List ℕ) (at : ℕ) (xs : List X) (place : ℕ) : Type 0 where
  pub text : Takes bytes at (flat_map spelling xs) place
  pub all : AllByRecursion P xs

pub several_take : {X : Type 0} (spelling : X → List ℕ) (P : X → Type 0) (bytes : List ℕ) (read : ℕ → Result (X × ℕ) ℕ) → ((at : ℕ) (x : X × ℕ) → read at ≡ Ok x → Takes bytes at (spelling x.0) x.1 × P x.0)
    → (count at : ℕ) (x : List X × ℕ) → at ≤ length bytes → several_at read count at ≡ Ok x → SeveralTaken spelling P bytes at x.0 x.1 × (length x.0 ≡ count)
unfolding several_at
several_take {X} spelling P bytes read one zero at x within e =
    subst (λ (y : List X × ℕ). SeveralTaken spelling P bytes at y.0 y.1 × (length y.0 ≡ 0)) (ok_is ([], at) x e) (record { text = Takes-none bytes at within; all = tt }, refl)
several_take {X} spelling P bytes read one (suc count) at x within e =
    let a = bind_ok (read at) (λ first. several_at read count first.1 >>= λ others. Ok (first.0 ∷ others.0, others.1)) x e in
    let b = bind_ok (several_at read count a.0.1) (λ others. Ok (a.0.0 ∷ others.0, others.1)) x a.2 in
    let t = one at a.0 a.1 in
    let u = several_take spelling P bytes read one count a.0.1 b.0 t.0.bounded b.1 in
    let both = Takes-then bytes at (spelling a.0.0) a.0.1 (flat_map spelling b.0.0) b.0.1 t.0 u.0.text in
    subst (λ (y : List X × ℕ). SeveralTaken spelling P bytes at y.0 y.1 × (length y.0 ≡ suc count)) (ok_is (a.0.0 ∷ b.0.0, b.0.1) x b.2)
    (record { text = rw flat_map-cons both; all = (t.1, u.0.all) }, ap suc u.1)

-- ---- numbers by device

-- the bytes for each device are those of what stands there
pub by_place : {X : Type 0} (spelling : X → List ℕ) (f : ℕ → X) (ds : List ℕ) → flat_map (λ d. spelling (f d)) ds ≡ flat_map spelling (map f ds)
by_place spelling f [] = refl
by_place spelling f (d ∷ ds) = ap (λ (l : List ℕ). spelling (f d) ++ l) (by_place spelling f ds)

pub at_padded : (numbers : List ℕ) (device : ℕ) → device < length numbers → slice_index (padded numbers) device ≡ get_or numbers device 0
at_padded numbers device lt = get_or_append_left numbers (replicate (16 - length numbers) 0) 0 device lt

pub past_padded : (numbers : List ℕ) (device : ℕ) → length numbers ≤ device → slice_index (padded numbers) device ≡ 0
past_padded numbers device le =
    get_or-append_right numbers (replicate (16 - length numbers) 0) (length numbers) device 0 refl le
    ∙ elim (cases_lt (device - length numbers) (16 - length numbers)) [
      | inl lt ↦ get_or-replicate (16 - length numbers) (device - length numbers) 0 0 lt
      | inr past ↦ get_or_past (replicate (16 - length numbers) 0) (device - length numbers) 0 (omega (arith, length-replicate (16 - length numbers) zero))
    ]

pub padded_are : (devices bound : ℕ) (numbers : List ℕ) → devices ≤ 16 → length numbers ≡ devices → 0 < bound → AllByRecursion (λ n. n < bound) numbers → AreOfDevices devices bound (padded numbers)
padded_are devices bound numbers few len positive all =
    record {
      places = omega (arith, length-append numbers (replicate (16 - length numbers) 0), length-replicate (16 - length numbers) zero);
      bounded = All-append (λ n. n < bound) numbers (replicate (16 - length numbers) 0) (All-from_recursion (λ n. n < bound) numbers all) (All-replicate (λ n. n < bound) (16 - length numbers) 0 positive);
      none = λ device le. past_padded numbers device (omega arith);
    }

-- ---- the vector

-- the vector's bytes are those of its numbers
vector_spelled : (devices : ℕ) (numbers : List ℕ) → length numbers ≡ devices → vector_bytes devices (padded numbers) ≡ flat_map (to_be_bytes w64) numbers
unfolding vector_bytes
vector_spelled devices numbers len =
    by_place (to_be_bytes w64) (λ d. slice_index (padded numbers) d) (range_with_len 0 devices)
    ∙ ap (λ (l : List ℕ). flat_map (to_be_bytes w64) l) (sym (fill_by_all (λ d. slice_index (padded numbers) d) numbers devices 0 len (λ d lt. sym (at_padded numbers d (omega arith)))))

pub record VectorTaken (devices : ℕ) (bytes : List ℕ) (at : ℕ) (counts : List ℕ) (place : ℕ) : Type 0 where
  pub text : Takes bytes at (vector_bytes devices counts) place
  pub are : AreOfDevices devices (2 ^ 48) counts

pub vector_takes : (devices : ℕ) (bytes : List ℕ) (at : ℕ) (x : Vector × ℕ) → devices ≤ 16 → IsBytes bytes → at ≤ length bytes → vector_at devices bytes at ≡ Ok x → VectorTaken devices bytes at x.0.counts x.1
unfolding vector_at
vector_takes devices bytes at x few fits within e =
    let b = bind_ok (several_at (below_at w64 (2 ^ 48) bytes) devices at) (λ numbers. Ok (record { counts = padded numbers.0 }, numbers.1)) x e in
    let t = several_take (to_be_bytes w64) (λ n. n < 2 ^ 48) bytes (below_at w64 (2 ^ 48) bytes) (λ place y h. below_takes w64 (2 ^ 64) wide64 (2 ^ 48) bytes place y fits h) devices at b.0 within b.1 in
    let text : Takes bytes at (vector_bytes devices (padded b.0.0)) b.0.1 = subst (λ (l : List ℕ). Takes bytes at l b.0.1) (sym (vector_spelled devices b.0.0 t.1)) t.0.text in
    let are = padded_are devices (2 ^ 48) b.0.0 few t.1 (omega arith) t.0.all in
    subst (λ (y : Vector × ℕ). VectorTaken devices bytes at y.0.counts y.1) (ok_is (record { counts = padded b.0.0 }, b.0.1) x b.2) (record { text = text; are = are })

-- ---- rows

abbrev pub row_bytes : ℕ × ℕ → List ℕ
row_bytes row = to_be_bytes w64 row.0 ++ to_be_bytes w64 row.1

abbrev pub IsRow : ℕ × ℕ → Type 0
IsRow row = (row.0 < 2 ^ 63) × (row.1 < 2 ^ 63)

row_takes : (bytes : List ℕ) (at : ℕ) (x : (ℕ × ℕ) × ℕ) → IsBytes bytes → row_at bytes at ≡ Ok x → Takes bytes at (row_bytes x.0) x.1 × IsRow x.0
unfolding row_at
row_takes bytes at x fits e =
    let a = bind_ok (below_at w64 (2 ^ 63) bytes at) (λ plus. below_at w64 (2 ^ 63) bytes plus.1 >>= λ minus. Ok ((plus.0, minus.0), minus.1)) x e in
    let b = bind_ok (below_at w64 (2 ^ 63) bytes a.0.1) (λ minus. Ok ((a.0.0, minus.0), minus.1)) x a.2 in
    let t = below_takes w64 (2 ^ 64) wide64 (2 ^ 63) bytes at a.0 fits a.1 in
    let u = below_takes w64 (2 ^ 64) wide64 (2 ^ 63) bytes a.0.1 b.0 fits b.1 in
    let both = Takes-then bytes at (to_be_bytes w64 a.0.0) a.0.1 (to_be_bytes w64 b.0.0) b.0.1 t.0 u.0 in
    subst (λ (y : (ℕ × ℕ) × ℕ). Takes bytes at (row_bytes y.0) y.1 × IsRow y.0) (ok_is ((a.0.0, b.0.0), b.0.1) x b.2) (both, (t.1, u.1))

firsts : (rows : List (ℕ × ℕ)) → AllByRecursion IsRow rows → AllByRecursion (λ n. n < 2 ^ 63) (map (λ row. row.0) rows)
firsts [] all = tt
firsts (row ∷ rows) all = (all.0.0, firsts rows all.1)

seconds : (rows : List (ℕ × ℕ)) → AllByRecursion IsRow rows → AllByRecursion (λ n. n < 2 ^ 63) (map (λ row. row.1) rows)
seconds [] all = tt
seconds (row ∷ rows) all = (all.0.1, seconds rows all.1)

-- the rows that were read, as a counter keeps them
abbrev pub as_rows : List (ℕ × ℕ) → Rows
as_rows rows = record { plus = padded (map (λ row. row.0) rows); minus = padded (map (λ row. row.1) rows) }

-- what stands there for a device
abbrev pub row_of : Rows → ℕ → ℕ × ℕ
row_of rows device = (slice_index rows.plus device, slice_index rows.minus device)

row_back : (rows : List (ℕ × ℕ)) (device : ℕ) → device < length rows → get_or rows device (0, 0) ≡ row_of (as_rows rows) device
row_back rows device lt =
    let plus = at_padded (map (λ row. row.0) rows) device (omega (arith, length-map rows (λ (row : ℕ × ℕ). row.0))) ∙ get_or-map (λ (row : ℕ × ℕ). row.0) rows device (0, 0) 0 lt in
    let minus = at_padded (map (λ row. row.1) rows) device (omega (arith, length-map rows (λ (row : ℕ × ℕ). row.1))) ∙ get_or-map (λ (row : ℕ × ℕ). row.1) rows device (0, 0) 0 lt in
    λ i. (sym plus i, sym minus i)

rows_spelled : (devices : ℕ) (rows : List (ℕ × ℕ)) → length rows ≡ devices → rows_bytes devices (as_rows rows) ≡ flat_map row_bytes rows
unfolding rows_bytes
rows_spelled devices rows len =
    by_place row_bytes (row_of (as_rows rows)) (range_with_len 0 devices)
    ∙ ap (λ (l : List (ℕ × ℕ)). flat_map row_bytes l) (sym (fill_by_all (row_of (as_rows rows)) rows devices (0, 0) len (λ d lt. row_back rows d (omega arith))))

pub record RowsTaken (devices : ℕ) (bytes : List ℕ) (at : ℕ) (rows : Rows) (place : ℕ) : Type 0 where
  pub text : Takes bytes at (rows_bytes devices rows) place
  pub plus : AreOfDevices devices (2 ^ 63) rows.plus
  pub minus : AreOfDevices devices (2 ^ 63) rows.minus

pub rows_take : (devices : ℕ) (bytes : List ℕ) (at : ℕ) (x : Rows × ℕ) → devices ≤ 16 → IsBytes bytes → at ≤ length bytes → rows_at devices bytes at ≡ Ok x → RowsTaken devices bytes at x.0 x.1
unfolding rows_at
rows_take devices bytes at x few fits within e =
    let b = bind_ok (several_at (row_at bytes) devices at) (λ rows. Ok (as_rows rows.0, rows.1)) x e in
    let t = several_take row_bytes IsRow bytes (row_at bytes) (λ place y h. row_takes bytes place y fits h) devices at b.0 within b.1 in
    let text : Takes bytes at (rows_bytes devices (as_rows b.0.0)) b.0.1 = subst (λ (l : List ℕ). Takes bytes at l b.0.1) (sym (rows_spelled devices b.0.0 t.1)) t.0.text in
    let plus = padded_are devices (2 ^ 63) (map (λ row. row.0) b.0.0) few (length-map b.0.0 (λ (row : ℕ × ℕ). row.0) ∙ t.1) (omega arith) (firsts b.0.0 t.0.all) in
    let minus = padded_are devices (2 ^ 63) (map (λ row. row.1) b.0.0) few (length-map b.0.0 (λ (row : ℕ × ℕ). row.1) ∙ t.1) (omega arith) (seconds b.0.0 t.0.all) in
    subst (λ (y : Rows × ℕ). RowsTaken devices bytes at y.0 y.1) (ok_is (as_rows b.0.0, b.0.1) x b.2) (record { text = text; plus = plus; minus = minus })
