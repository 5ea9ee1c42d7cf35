-- A graph that is built up to a place.
use Rattle.std.proofs.Common.{◌≡◌, ◌<◌, ◌≤◌, ◌+◌, ◌==◌, ◌⊎◌, inl, inr, ℕ, Bool, true, false, ◌&&◌, ◌||◌, List, [], ◌∷◌, ◌++◌, map, length, take, get_or, refl, sym, ap, subst, ◌∙◌, arith}
use Rattle.std.specs.Prelude.{nat_lt, None, Some}
use Rattle.std.specs.Option.{option_map, option_map_or}
use Rattle.std.specs.List.{All, list_any, range_with_len, slice_get}
use Rattle.std.proofs.lemmas.Bool.{cases_eq, eq-eqb, ne_eqb, lt-ltb, le-ltb, ltb-true, ltb-false}
use Rattle.std.proofs.lemmas.List.{length_push, get_or_push, get_or_append_left, map-append, take_more, length-map, get_or-map}
use Rattle.std.proofs.Math.Seq.{take-length}
use Rattle.std.proofs.lemmas.List.Elements.{All-map, All-weaker}
use Rattle.std.proofs.lemmas.List.Folds.{list_any_at}
use Rattle.std.proofs.lemmas.List.FromFn.{get_or-map-range_with_len, length-map-range_with_len}
use Rattle.std.proofs.lemmas.Option.{slice_get-map, slice_get-get_or}
use Rattle.re_terms.specs.declared.program.Decl.{Decl}
use Rattle.re_terms.specs.Listed.{Listed, plain}
use Rattle.re_terms.specs.Dependencies.{PlainNode, node_of, graph_of, inputs_at, region_at, IsOrdered, level_above, level}
use Rattle.re_graph.specs.Footprint.{is_region, is_supported}
use Rattle.re_graph.specs.Kept.{has_bit, is_among, list_at, IsKept, IsOrderBy, comes_before}
use Rattle.re_graph.proofs.Lists.{map_same, list_any_same}
use Rattle.re_graph.proofs.Own.{level-own, level-low, inputs_at-none}
use Rattle.re_graph.proofs.Ranges.{range-more, All-range}
use Rattle.re_graph.proofs.Steps.{list_at-push}
use Rattle.re_graph.proofs.Supports.{is_supported-own}

-- what the loop has made up to a place
pub record IsBuilding (graph : List PlainNode) (i : ℕ) (nodes : List PlainNode) (levels regions : List ℕ) (dependents : List (Listed ℕ)) : Type 0 where
  pub nodes_so_far : nodes ≡ take i graph
  pub level_list : levels ≡ map (level graph) (range_with_len 0 i)
  pub region_count : length regions ≡ i
  pub region_sets : (id region : ℕ) → id < i → has_bit (get_or regions id 0) region ≡ is_supported graph region id
  pub dependent_count : length dependents ≡ i
  pub links : (id other : ℕ) → is_among (list_at dependents id) other ≡ (nat_lt other i && is_among (inputs_at graph other) id)

-- a declaration's node is in the graph at its place
pub node_at : (decls : List Decl) (i : ℕ) (d : Decl) → i < length decls → slice_get (graph_of decls) i ≡ Some (node_of (get_or decls i d))
node_at decls i d within = slice_get-map node_of decls i ∙ ap (option_map node_of) (slice_get-get_or decls i d within)

pub inputs_at-decl : (decls : List Decl) (i : ℕ) (d : Decl) → i < length decls → inputs_at (graph_of decls) i ≡ (node_of (get_or decls i d)).inputs
inputs_at-decl decls i d within = ap (λ found. option_map_or (λ node. node.inputs) found []) (node_at decls i d within)

pub region_at-decl : (decls : List Decl) (i : ℕ) (d : Decl) → i < length decls → region_at (graph_of decls) i ≡ (node_of (get_or decls i d)).region
region_at-decl decls i d within = ap (λ found. option_map_or (λ node. node.region) found None) (node_at decls i d within)

pub level_count : (graph : List PlainNode) (i : ℕ) (levels : List ℕ) → levels ≡ map (level graph) (range_with_len 0 i) → length levels ≡ i
level_count graph i levels is = ap length is ∙ length-map-range_with_len (level graph) 0 i

pub level_got : (graph : List PlainNode) (i id : ℕ) (levels : List ℕ) → levels ≡ map (level graph) (range_with_len 0 i) → id < i → get_or levels id 0 ≡ level graph id
level_got graph i id levels is under = ap (λ xs. get_or xs id 0) is ∙ get_or-map-range_with_len (level graph) 0 i id id 0 under (omega arith)

-- levels of few declarations are low
pub levels_low : (graph : List PlainNode) (i n : ℕ) (levels : List ℕ) → IsOrdered graph → i ≤ length graph → i ≤ n → levels ≡ map (level graph) (range_with_len 0 i) → All (λ l. l < n) levels
levels_low graph i n levels ordered within few is =
    subst (λ xs. All (λ l. l < n) xs) (sym is) (All-map (λ l. l < n) (level graph) (range_with_len 0 i) (All-range (λ id. level graph id < n) 0 i (λ id from to. omega (arith, level-low graph id ordered (omega arith)))))

next_levels : (graph : List PlainNode) (i l : ℕ) (levels : List ℕ) → IsOrdered graph → i < length graph → levels ≡ map (level graph) (range_with_len 0 i) → l ≡ level_above (map (λ input. get_or levels input 0) (inputs_at graph i)) → levels ++ l ∷ [] ≡ map (level graph) (range_with_len 0 (i + 1))
next_levels graph i l levels ordered within so_far new =
    let z : 0 + i ≡ i = omega arith in
    let own : l ≡ level graph i = new ∙ ap level_above (map_same (λ input. get_or levels input 0) (level graph) (inputs_at graph i) (All-weaker (λ input. input < i) (λ input. get_or levels input 0 ≡ level graph input) (λ input under. level_got graph i input levels so_far under) (inputs_at graph i) (ordered i))) ∙ sym (level-own graph i ordered within) in
    ap (λ xs. xs ++ l ∷ []) so_far
    ∙ ap (λ k. map (level graph) (range_with_len 0 i) ++ k ∷ []) own
    ∙ sym (ap (map (level graph)) (range-more 0 i ∙ ap (λ k. range_with_len 0 i ++ k ∷ []) z) ∙ map-append (level graph) (range_with_len 0 i) (i ∷ []))

sets_by : (graph : List PlainNode) (i bits id region : ℕ) (regions : List ℕ) → IsOrdered graph → i < length graph → length regions ≡ i → ((id region : ℕ) → id < i → has_bit (get_or regions id 0) region ≡ is_supported graph region id) → ((region : ℕ) → has_bit bits region ≡ (is_region (region_at graph i) region || list_any (λ id. has_bit (get_or regions id 0) region) (inputs_at graph i))) → id < i + 1 → (id ≡ i) ⊎ (id ≡ i → ⊥) → has_bit (get_or (regions ++ bits ∷ []) id 0) region ≡ is_supported graph region id
sets_by graph i bits id region regions ordered within count so_far new under (inl e) =
    ap (λ n. has_bit n region) (get_or_push regions bits 0 id (count ∙ sym e))
    ∙ new region
    ∙ ap (λ b. is_region (region_at graph i) region || b) (list_any_same (λ input. has_bit (get_or regions input 0) region) (is_supported graph region) (inputs_at graph i) (All-weaker (λ input. input < i) (λ input. has_bit (get_or regions input 0) region ≡ is_supported graph region input) (λ input below_i. so_far input region below_i) (inputs_at graph i) (ordered i)))
    ∙ sym (is_supported-own graph region i ordered within)
    ∙ ap (is_supported graph region) (sym e)
sets_by graph i bits id region regions ordered within count so_far new under (inr other) = ap (λ n. has_bit n region) (get_or_append_left regions (bits ∷ []) 0 id (omega arith)) ∙ so_far id region (omega arith)

links_by : (graph : List PlainNode) (i id other : ℕ) → (other ≡ i) ⊎ (other ≡ i → ⊥) → ((nat_lt other i && is_among (inputs_at graph other) id) || ((i == other) && is_among (inputs_at graph i) id)) ≡ (nat_lt other (i + 1) && is_among (inputs_at graph other) id)
links_by graph i id other (inl e) =
    ap (λ b. (b && is_among (inputs_at graph other) id) || ((i == other) && is_among (inputs_at graph i) id)) (le-ltb other i (omega arith))
    ∙ ap (λ b. b && is_among (inputs_at graph i) id) (eq-eqb i other (sym e))
    ∙ ap (λ k. is_among (inputs_at graph k) id) (sym e)
    ∙ ap (λ b. b && is_among (inputs_at graph other) id) (sym (lt-ltb other (i + 1) (omega arith)))
links_by graph i id other (inr not_it) =
    ap (λ b. (nat_lt other i && is_among (inputs_at graph other) id) || (b && is_among (inputs_at graph i) id)) (ne_eqb i other (λ e. not_it (sym e)))
    ∙ or_false (nat_lt other i && is_among (inputs_at graph other) id)
    ∙ ap (λ b. b && is_among (inputs_at graph other) id) same
  where
    or_false : (b : Bool) → (b || false) ≡ b
    or_false true = refl
    or_false false = refl

    same : nat_lt other i ≡ nat_lt other (i + 1)
    same = grind arith

-- one declaration more
pub build_step : (graph : List PlainNode) (i : ℕ) (nodes : List PlainNode) (levels regions : List ℕ) (dependents linked : List (Listed ℕ)) (node : PlainNode) (l bits : ℕ) → IsOrdered graph → i < length graph → IsBuilding graph i nodes levels regions dependents → node ≡ get_or graph i node → l ≡ level_above (map (λ input. get_or levels input 0) (inputs_at graph i)) → ((region : ℕ) → has_bit bits region ≡ (is_region (region_at graph i) region || list_any (λ id. has_bit (get_or regions id 0) region) (inputs_at graph i))) → length linked ≡ length dependents → ((input other : ℕ) → is_among (list_at linked input) other ≡ (is_among (list_at dependents input) other || ((i == other) && is_among (inputs_at graph i) input))) → IsBuilding graph (i + 1) (nodes ++ node ∷ []) (levels ++ l ∷ []) (regions ++ bits ∷ []) (linked ++ plain [] ∷ [])
build_step graph i nodes levels regions dependents linked node l bits ordered within so_far is level_is bits_are count links_are = record {
  nodes_so_far = ap (λ xs. xs ++ node ∷ []) so_far.nodes_so_far ∙ ap (λ n. take i graph ++ n ∷ []) is ∙ sym (take_more graph i node within);
  level_list = next_levels graph i l levels ordered within so_far.level_list level_is;
  region_count = length_push regions bits ∙ ap (λ n. n + 1) so_far.region_count;
  region_sets = λ id region under. sets_by graph i bits id region regions ordered within so_far.region_count so_far.region_sets bits_are under (cases_eq id i);
  dependent_count = length_push linked (plain []) ∙ ap (λ n. n + 1) (count ∙ so_far.dependent_count);
  links = λ id other.
      ap (λ xs. is_among xs other) (list_at-push linked id)
      ∙ links_are id other
      ∙ ap (λ b. b || ((i == other) && is_among (inputs_at graph i) id)) (so_far.links id other)
      ∙ links_by graph i id other (cases_eq other i);
}

-- a node that stands in the graph at its place
pub record IsHere (graph : List PlainNode) (i : ℕ) (node : PlainNode) : Type 0 where
  pub within : i < length graph
  pub is : node ≡ get_or graph i node
  pub inputs_are : node.inputs ≡ inputs_at graph i
  pub region_is : node.region ≡ region_at graph i

pub here : (decls read : List Decl) (i : ℕ) (d : Decl) (node : PlainNode) → read ≡ decls → i < length read → d ≡ get_or read i d → node ≡ node_of d → IsHere (graph_of decls) i node
here decls read i d node same inside is_read is =
    let under : i < length decls = omega (arith, inside, ap length same) in
    let found : d ≡ get_or decls i d = is_read ∙ ap (λ xs. get_or xs i d) same in
    record {
      within = omega (arith, under, length-map decls node_of);
      is = is ∙ ap node_of found ∙ sym (get_or-map node_of decls i d node under);
      inputs_are = ap (λ n. n.inputs) (is ∙ ap node_of found) ∙ sym (inputs_at-decl decls i d under);
      region_is = ap (λ n. n.region) (is ∙ ap node_of found) ∙ sym (region_at-decl decls i d under);
    }

-- the inputs of a declaration stand before it
pub declared_of : (graph : List PlainNode) (i n : ℕ) (xs : List ℕ) → IsOrdered graph → xs ≡ inputs_at graph i → n ≡ i → All (λ input. input < n) xs
declared_of graph i n xs ordered is count = subst (λ ys. All (λ input. input < n) ys) (sym is) (subst (λ m. All (λ input. input < m) (inputs_at graph i)) (sym count) (ordered i))

before_same : (f g : ℕ → ℕ) (a b : ℕ) → f a ≡ g a → f b ≡ g b → comes_before f a b ≡ true → comes_before g a b ≡ true
before_same f g a b p q before =
    subst (λ x. (nat_lt x (g b) || ((x == g b) && nat_lt a b)) ≡ true) p (subst (λ y. (nat_lt (f a) y || ((f a == y) && nat_lt a b)) ≡ true) q before)

-- the order by levels that were found is that by levels
pub order_by : (f g : ℕ → ℕ) (n : ℕ) (order : List ℕ) → ((id : ℕ) → id < n → f id ≡ g id) → IsOrderBy f n order → IsOrderBy g n order
order_by f g n order same found = record {
  each = found.each;
  ascending = λ i j d before inside. before_same f g (get_or order i d) (get_or order j d) (same (get_or order i d) (in_range i d (omega arith))) (same (get_or order j d) (in_range j d inside)) (found.ascending i j d before inside);
}
  where
    in_range : (k d : ℕ) → k < length order → get_or order k d < n
    in_range k d inside = let x = get_or order k d in ltb-true x n (sym (found.each x) ∙ list_any_at (λ other. other == x) order k d inside (eq-eqb x x refl))

kept_at : (graph nodes : List PlainNode) (levels regions : List ℕ) (dependents : List (Listed ℕ)) (order : List ℕ) → IsOrdered graph → length graph ≤ 512 → IsBuilding graph (length graph) nodes levels regions dependents → nodes ≡ graph → IsOrderBy (λ id. get_or levels id 0) (length levels) order → IsKept graph levels regions dependents order
kept_at graph nodes levels regions dependents order ordered few built all found =
    let count : length levels ≡ length graph = level_count graph (length graph) levels built.level_list in
    record {
      ordered = ordered;
      few = few;
      level_list = built.level_list;
      region_count = built.region_count;
      region_sets = built.region_sets;
      dependent_count = built.dependent_count;
      links = λ id other. built.links id other ∙ inside id other (nat_lt other (length graph)) refl;
      by_level = order_by (λ id. get_or levels id 0) (level graph) (length graph) order (λ id under. level_got graph (length graph) id levels built.level_list under) (subst (λ n. IsOrderBy (λ id. get_or levels id 0) n order) count found);
    }
  where
    inside : (id other : ℕ) (b : Bool) → nat_lt other (length graph) ≡ b → (nat_lt other (length graph) && is_among (inputs_at graph other) id) ≡ is_among (inputs_at graph other) id
    inside id other true is = ap (λ b. b && is_among (inputs_at graph other) id) is
    inside id other false is = ap (λ b. b && is_among (inputs_at graph other) id) is ∙ sym (ap (λ xs. is_among xs id) (inputs_at-none graph other (ltb-false other (length graph) is)))

-- what was built to the end is what a graph keeps
pub kept_of : (graph nodes : List PlainNode) (levels regions : List ℕ) (dependents : List (Listed ℕ)) (order : List ℕ) (i : ℕ) → IsOrdered graph → length graph ≤ 512 → IsBuilding graph i nodes levels regions dependents → i ≡ length graph → IsOrderBy (λ id. get_or levels id 0) (length levels) order → IsKept nodes levels regions dependents order
kept_of graph nodes levels regions dependents order i ordered few built end found =
    let whole = subst (λ n. IsBuilding graph n nodes levels regions dependents) end built in
    let all : nodes ≡ graph = whole.nodes_so_far ∙ take-length graph in
    subst (λ g. IsKept g levels regions dependents order) (sym all) (kept_at graph nodes levels regions dependents order ordered few whole all found)

-- the loop ends behind the last declaration
pub at_end : (decls read : List Decl) (i : ℕ) → read ≡ decls → i ≤ length read → length read ≤ i → i ≡ length (graph_of decls)
at_end decls read i same bound past = omega (arith, ap length same, length-map decls node_of)
