-- The sizes of sets, counted along the replicated cells.
use Rattle.std.proofs.Common.{◌≡◌, ◌<◌, ◌+◌, ℕ, List, [], ◌∷◌, ◌++◌, map, length, take, sym, ap, ◌∙◌}
use Rattle.std.specs.Prelude.{Some, slice_get}
use Rattle.std.proofs.lemmas.List.{map_more}
use Rattle.std.proofs.lemmas.Option.{slice_get-get_or}
use Rattle.re_terms.specs.declared.replicated.RCell.{RCell}
use Rattle.re_terms.specs.declared.replicated.RCell.TheVariants as cell
use Rattle.re_terms.specs.Listed.{plain}
use Rattle.re_terms.specs.Views.{cell_size}

-- one cell more
pub sizes_step : (cells : List RCell) (i : ℕ) (sizes : List ℕ) (n : ℕ) → i < length cells → sizes ≡ map (λ c. cell_size (Some c)) (take i cells) → n ≡ cell_size (slice_get cells i) → sizes ++ n ∷ [] ≡ map (λ c. cell_size (Some c)) (take (i + 1) cells)
sizes_step cells i sizes n within so_far is =
    let d : RCell = cell.Set (plain []) in
    ap (λ ns. ns ++ n ∷ []) so_far
    ∙ ap (λ m. map (λ c. cell_size (Some c)) (take i cells) ++ m ∷ []) (is ∙ ap cell_size (slice_get-get_or cells i d within))
    ∙ sym (map_more (λ c. cell_size (Some c)) cells i d within)
