-- Changes of vars and folds that are put at the places that are kept of these.
use Rattle.std.proofs.Common.{◌≡◌, ◌<◌, ℕ, List, [], ◌∷◌, length, refl, ap, ◌∙◌}
use Rattle.std.specs.Prelude.{slice_index, slice_set}
use Rattle.std.specs.List.{All}
use Rattle.std.proofs.lemmas.List.Elements.{All-head, All-tail}
use Rattle.re_terms.specs.declared.word.Word.{Word}
use Rattle.re_terms.specs.declared.entry.Put.{Put}
use Rattle.re_terms.specs.declared.program.Decl.{Decl}
use Rattle.re_terms.specs.declared.program.Program.{Program}
use Rattle.re_terms.specs.Propagation.{Step, changes, is_cell_at}
use Rattle.re_terms.specs.Cells.{cell_place}
use Rattle.re_terms.specs.Changes.{with_changes}
use Rattle.re_terms.specs.Placing.{at_each}
use Rattle.re_terms.proofs.Placed.{All-differing, at_each-at}
use Rattle.re_prop.specs.Caching.{put_at}

-- what is put at the places of vars and folds are changes of their words
put_at-changes : (decls : List Decl) (f : ℕ → ℕ) (words : List Word) (puts : List Put) → All (λ put. f put.id ≡ cell_place decls put.id) puts → put_at f words puts ≡ with_changes decls words puts
put_at-changes decls f words [] same = refl
put_at-changes decls f words (x ∷ puts) same =
    ap (λ place. put_at f (slice_set words place x.word) puts) (All-head (λ put. f put.id ≡ cell_place decls put.id) x puts same)
    ∙ put_at-changes decls f (slice_set words (cell_place decls x.id) x.word) puts (All-tail (λ put. f put.id ≡ cell_place decls put.id) x puts same)

-- the places that are kept are those of the cells
pub put_at-places : (p : Program) (s : Step) → put_at (slice_index (at_each cell_place p.decls.items)) s.words (changes p s) ≡ with_changes p.decls.items s.words (changes p s)
put_at-places p s =
    put_at-changes p.decls.items (slice_index (at_each cell_place p.decls.items)) s.words (changes p s)
    (All-differing (λ id. slice_index (at_each cell_place p.decls.items) id ≡ cell_place p.decls.items id) (is_cell_at p.decls.items) p s (λ id within cell. at_each-at cell_place p.decls.items id within))
