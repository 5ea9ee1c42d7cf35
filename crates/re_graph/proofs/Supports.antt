-- A region is behind a declaration where it is its own, or behind one of its inputs.
use Rattle.std.proofs.Common.{◌≡◌, ◌<◌, ◌==◌, ℕ, Bool, true, false, ◌&&◌, ◌||◌, List, get_or, refl, sym, ap, ◌∙◌, length, arith}
use Rattle.std.specs.Prelude.{Option, None, Some, filter}
use Rattle.std.specs.Option.{is_some}
use Rattle.std.specs.List.{All, list_any, range_with_len}
use Rattle.re_terms.specs.Dependencies.{PlainNode, inputs_at, region_at, ids, IsOrdered, is_behind, reach, is_reached}
use Rattle.re_graph.specs.Footprint.{is_region, is_supported, footprint}
use Rattle.re_graph.specs.Kept.{has_bit}
use Rattle.std.proofs.lemmas.List.Elements.{filter_agree, All-filter}
use Rattle.re_graph.proofs.Lists.{list_any_same, list_any-filter, list_any-or, list_any-and, list_any-swap, and_or_right}
use Rattle.re_graph.proofs.Own.{is_behind-own}
use Rattle.re_graph.proofs.Ranges.{list_any-at, All-range}

only_cells : (own : Option ℕ) (behind : Bool) (region : ℕ) → ((is_some own && behind) && is_region own region) ≡ (behind && is_region own region)
only_cells None true region = refl
only_cells None false region = refl
only_cells (Some r) behind region = refl

-- a cell with this region is behind the declaration
abbrev is_region_behind : List PlainNode → ℕ → ℕ → Bool
is_region_behind graph region id = list_any (λ cell. is_behind graph cell id && is_region (region_at graph cell) region) (ids graph)

supported_is : (graph : List PlainNode) (region id : ℕ) → is_supported graph region id ≡ is_region_behind graph region id
supported_is graph region id =
    list_any-filter (λ cell. is_region (region_at graph cell) region) (λ cell. is_some (region_at graph cell) && is_behind graph cell id) (ids graph)
    ∙ list_any_same (λ cell. (is_some (region_at graph cell) && is_behind graph cell id) && is_region (region_at graph cell) region) (λ cell. is_behind graph cell id && is_region (region_at graph cell) region) (ids graph)
    (λ k d inside. let cell = get_or (ids graph) k d in only_cells (region_at graph cell) (is_behind graph cell id) region)

behind_by : (graph : List PlainNode) (region id cell : ℕ) → IsOrdered graph → id < length graph → (is_behind graph cell id && is_region (region_at graph cell) region) ≡ (((cell == id) && is_region (region_at graph cell) region) || list_any (λ input. is_behind graph cell input && is_region (region_at graph cell) region) (inputs_at graph id))
behind_by graph region id cell ordered within =
    let here = is_region (region_at graph cell) region in
    ap (λ b. b && here) (is_behind-own graph cell id ordered within)
    ∙ and_or_right (cell == id) (list_any (is_behind graph cell) (inputs_at graph id)) here
    ∙ ap (λ b. ((cell == id) && here) || b) (sym (list_any-and (is_behind graph cell) here (inputs_at graph id)))

-- what a declaration's regions are made of
pub is_supported-own : (graph : List PlainNode) (region id : ℕ) → IsOrdered graph → id < length graph → is_supported graph region id ≡ (is_region (region_at graph id) region || list_any (is_supported graph region) (inputs_at graph id))
is_supported-own graph region id ordered within =
    let own : ℕ → Bool = λ cell. (cell == id) && is_region (region_at graph cell) region in
    let inner : ℕ → ℕ → Bool = λ cell input. is_behind graph cell input && is_region (region_at graph cell) region in
    supported_is graph region id
    ∙ list_any_same (λ cell. is_behind graph cell id && is_region (region_at graph cell) region) (λ cell. own cell || list_any (inner cell) (inputs_at graph id)) (ids graph) (λ k d inside. behind_by graph region id (get_or (ids graph) k d) ordered within)
    ∙ list_any-or own (λ cell. list_any (inner cell) (inputs_at graph id)) (ids graph)
    ∙ ap (λ b. b || list_any (λ cell. list_any (inner cell) (inputs_at graph id)) (ids graph)) (list_any-at (λ cell. is_region (region_at graph cell) region) id (length graph) within)
    ∙ ap (λ b. is_region (region_at graph id) region || b)
    (list_any-swap inner (ids graph) (inputs_at graph id)
    ∙ list_any_same (λ input. is_region_behind graph region input) (is_supported graph region) (inputs_at graph id) (λ k d inside. sym (supported_is graph region (get_or (inputs_at graph id) k d))))

-- all that is reached stands in the graph
pub All-reach : (graph : List PlainNode) (touched : List ℕ) → All (λ id. id < length graph) (reach graph touched)
All-reach graph touched = All-filter (is_reached graph touched) (λ id. id < length graph) (ids graph) (All-range (λ id. id < length graph) 0 (length graph) (λ x from to. omega arith))

-- the regions that were joined of all that is reached are the footprint
pub footprint_is : (graph : List PlainNode) (touched regions : List ℕ) (bits : ℕ) → ((id region : ℕ) → id < length graph → has_bit (get_or regions id 0) region ≡ is_supported graph region id) → ((region : ℕ) → has_bit bits region ≡ list_any (λ id. has_bit (get_or regions id 0) region) (reach graph touched)) → filter (has_bit bits) (range_with_len 0 5) ≡ footprint graph touched
footprint_is graph touched regions bits each joined =
    filter_agree (has_bit bits) (λ region. list_any (is_supported graph region) (reach graph touched))
    (λ region. joined region ∙ list_any_same (λ id. has_bit (get_or regions id 0) region) (is_supported graph region) (reach graph touched)
    (λ k d inside. each (get_or (reach graph touched) k d) region (All-reach graph touched k d inside)))
    (range_with_len 0 5)
