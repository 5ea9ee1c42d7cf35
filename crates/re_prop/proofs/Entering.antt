-- What an entry changes has places.
use Rattle.std.proofs.Common.{◌≡◌, ◌<◌, ℕ, Bool, true, false, cond, List, length, get_or, refl, sym, ap, subst, ◌∙◌, arith}
use Rattle.std.specs.Prelude.{count_by, slice_get}
use Rattle.std.specs.List.{All}
use Rattle.std.specs.Option.{option_map_or}
use Rattle.std.proofs.lemmas.List.Elements.{All-weaker}
use Rattle.std.proofs.lemmas.List.Sums.{sum_by_more_le}
use Rattle.std.proofs.lemmas.Option.{slice_get_within, get_or_from_slice_get}
use Rattle.re_terms.specs.declared.word.Word.{Word}
use Rattle.re_terms.specs.declared.entry.Put.{Put}
use Rattle.re_terms.specs.declared.program.Decl.{Decl}
use Rattle.re_terms.specs.declared.program.Program.{Program}
use Rattle.re_terms.specs.Cells.{is_cell, cell_place}
use Rattle.re_terms.specs.Propagation.{Step, changes, signal_changes, is_cell_at, is_signal_at, is_signal_body}
use Rattle.re_prop.specs.Caching.{signal_words}
use Rattle.re_prop.proofs.Before.{length-signal_words}
use Rattle.re_prop.proofs.Consequences.{differing_wanted}
use Rattle.re_prop.proofs.Putting.{at_some}

-- what is found is declared
found_within : (decls : List Decl) (test : Decl → Bool) (id : ℕ) → option_map_or test (slice_get decls id) false ≡ true → id < length decls
found_within decls test id h = let found = at_some decls id test (slice_get decls id) refl h in slice_get_within decls id found.0 found.1.0

-- a var or a fold has a place among the words
place_within : (decls : List Decl) (id : ℕ) → is_cell_at decls id ≡ true → cell_place decls id < count_by is_cell decls
place_within decls id h =
    let found = at_some decls id is_cell (slice_get decls id) refl h in
    let at = get_or_from_slice_get decls id found.0 found.0 found.1.0 in
    let n : ℕ = 1 in
    let one : cond (is_cell (get_or decls id found.0)) 1 0 ≡ n = ap (λ x. cond (is_cell x) 1 0) at ∙ ap (λ b. cond b 1 0) found.1.1 in
    omega (arith, one, sum_by_more_le (λ x. cond (is_cell x) 1 0) decls id found.0 (slice_get_within decls id found.0 found.1.0))

-- the changes, as they are listed
pub listed-declared : (p : Program) (s : Step) (puts : List Put) → puts ≡ changes p s → All (λ put. put.id < length p.decls.items) puts
listed-declared p s puts is =
    subst (λ (l : List Put). All (λ put. put.id < length p.decls.items) l) (sym is)
    (All-weaker (λ put. is_cell_at p.decls.items put.id ≡ true) (λ put. put.id < length p.decls.items) (λ put h. found_within p.decls.items is_cell put.id h) (changes p s) (differing_wanted (is_cell_at p.decls.items) p s))

pub listed-placed : (p : Program) (s : Step) (puts : List Put) → length s.words ≡ count_by is_cell p.decls.items → puts ≡ changes p s → All (λ put. cell_place p.decls.items put.id < length s.words) puts
listed-placed p s puts count is =
    subst (λ (n : ℕ). All (λ put. cell_place p.decls.items put.id < n) puts) (sym count)
    (subst (λ (l : List Put). All (λ put. cell_place p.decls.items put.id < count_by is_cell p.decls.items) l) (sym is)
    (All-weaker (λ put. is_cell_at p.decls.items put.id ≡ true) (λ put. cell_place p.decls.items put.id < count_by is_cell p.decls.items) (λ put h. place_within p.decls.items put.id h) (changes p s) (differing_wanted (is_cell_at p.decls.items) p s)))

-- and those of signals
pub listed_signals-declared : (p : Program) (s : Step) (words : List Word) (puts : List Put) → words ≡ signal_words p s.words s.old_view → puts ≡ signal_changes p s → All (λ put. put.id < length words) puts
listed_signals-declared p s words puts are is =
    subst (λ (n : ℕ). All (λ put. put.id < n) puts) (sym (ap length are ∙ length-signal_words p s.words s.old_view))
    (subst (λ (l : List Put). All (λ put. put.id < length p.decls.items) l) (sym is)
    (All-weaker (λ put. is_signal_at p.decls.items put.id ≡ true) (λ put. put.id < length p.decls.items) (λ put h. found_within p.decls.items (λ d. is_signal_body d.body) put.id h) (signal_changes p s) (differing_wanted (is_signal_at p.decls.items) p s)))
