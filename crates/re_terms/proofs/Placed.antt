-- What an entry changes has its places.
use Rattle.std.proofs.Common.{◌≡◌, ◌<◌, ℕ, Bool, true, false, ◌&&◌, Option, None, Some, List, length, refl, arith}
use Rattle.std.specs.Prelude.{slice_get, slice_index, filter, not}
use Rattle.std.specs.List.{All, count_by, range_with_len}
use Rattle.std.specs.Option.{option_map_or}
use Rattle.std.proofs.lemmas.List.Elements.{All-map, All-filter, filter_passes}
use Rattle.std.proofs.lemmas.List.FromFn.{length-range_with_len, get_or-range_with_len, length-map-range_with_len, get_or-map-range_with_len}
use Rattle.re_terms.specs.declared.entry.Put.{Put}
use Rattle.re_terms.specs.declared.program.Decl.{Decl}
use Rattle.re_terms.specs.declared.program.Program.{Program}
use Rattle.re_terms.specs.Propagation.{Step, effect, differing, changes, signal_changes, is_cell_at, is_signal_at}
use Rattle.re_terms.specs.Cells.{is_cell, cell_place}
use Rattle.re_terms.specs.SignalWords.{signal_word}
use Rattle.re_terms.specs.WordOrder.{same_word}
use Rattle.re_terms.proofs.ChangesKept.{place_within}
use Rattle.re_terms.specs.Placing.{at_each}

-- the count at a declaration's own place
pub at_each-at : (count : List Decl → ℕ → ℕ) (decls : List Decl) (id : ℕ) → id < length decls → slice_index (at_each count decls) id ≡ count decls id
at_each-at count decls id within = get_or-map-range_with_len (count decls) 0 (length decls) id id 0 within (omega arith)

pub length-at_each : (count : List Decl → ℕ → ℕ) (decls : List Decl) → length (at_each count decls) ≡ length decls
length-at_each count decls = length-map-range_with_len (count decls) 0 (length decls)

left_true : (a b : Bool) → (a && b) ≡ true → a ≡ true
left_true true b is = refl
left_true false b is = is

-- what holds of each wanted declaration holds of those that differ
pub All-differing : (P : ℕ → Type 0) (is_wanted : ℕ → Bool) (p : Program) (s : Step) → ((id : ℕ) → id < length p.decls.items → is_wanted id ≡ true → P id) → All (λ put. P put.id) (differing is_wanted p s)
All-differing P is_wanted p s each =
    let n : ℕ = length p.decls.items in
    let test : ℕ → Bool = λ id. is_wanted id && not (same_word (signal_word p s.words s.old_view id) (effect p s id).word) in
    let within = All-filter test (λ id. id < n) (range_with_len 0 n) (λ k d below. let count = length-range_with_len 0 n in let at = get_or-range_with_len 0 n k d (omega (arith, below, count)) in omega (arith, below, count, at)) in
    let passes = filter_passes test (range_with_len 0 n) in
    All-map (λ (put : Put). P put.id) (λ id. record { id = id; word = (effect p s id).word }) (filter test (range_with_len 0 n)) (λ k d below. each _ (within k d below) (left_true _ _ (passes k d below)))

-- a var or a fold has a place among the words
a_cell : (decls : List Decl) (id : ℕ) (found : Option Decl) → slice_get decls id ≡ found → option_map_or is_cell found false ≡ true → cell_place decls id < count_by is_cell decls
a_cell decls id None at cell = absurd (let e : false ≡ true = cell in cc)
a_cell decls id (Some d) at cell = place_within decls id d at cell

pub cell_place-below : (decls : List Decl) (id : ℕ) → is_cell_at decls id ≡ true → cell_place decls id < count_by is_cell decls
cell_place-below decls id cell = a_cell decls id (slice_get decls id) refl cell

-- what an entry changes is declared
pub changes-declared : (p : Program) (s : Step) → All (λ put. put.id < length p.decls.items) (changes p s)
changes-declared p s = All-differing (λ id. id < length p.decls.items) (is_cell_at p.decls.items) p s (λ id within cell. within)

pub signal_changes-declared : (p : Program) (s : Step) → All (λ put. put.id < length p.decls.items) (signal_changes p s)
signal_changes-declared p s = All-differing (λ id. id < length p.decls.items) (is_signal_at p.decls.items) p s (λ id within signal. within)

-- it has places among the words
pub changes-placed : (p : Program) (s : Step) → All (λ put. slice_index (at_each cell_place p.decls.items) put.id < count_by is_cell p.decls.items) (changes p s)
changes-placed p s =
    All-differing (λ id. slice_index (at_each cell_place p.decls.items) id < count_by is_cell p.decls.items) (is_cell_at p.decls.items) p s
    (λ id within cell. let below = cell_place-below p.decls.items id cell in let at = at_each-at cell_place p.decls.items id within in omega arith)
