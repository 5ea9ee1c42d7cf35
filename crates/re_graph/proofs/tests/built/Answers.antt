use Rattle.std.proofs.Common.{◌≡◌, ◌<◌, ◌≤◌, ℕ, subst, ap, below_more, arith, ◌∙◌}
use Rattle.std.specs.Prelude.{Some, unwrap_or}
use Rattle.std.specs.List.{All}
use Rattle.re_terms.specs.Dependencies.{graph_of, inputs_at, region_at}
use Rattle.re_graph.specs.Kept.{plain_node}
use Rattle.re_graph.proofs.Building.{here, at_end}
use Rattle.re_graph.proofs.Own.{IsOrdered-from, HasRegions-from}
use Rattle.re_graph.proofs.tests.built.Goals as goal

pub looking-preserved : goal.looking-preserved
looking-preserved c =
    let decls = c.args.p.now.decls.items in
    let graph = graph_of decls in
    let i = c.looking.id in
    let node = here decls c.as_slice-decl-items.result.now i c.decl-item.result (plain_node c.in_ok-node.node) c.as_slice-decl-items.ensures c.looking-test.true c.decl-item.is c.in_ok-node.ensures in
    let inputs : All (λ input. input < i) (inputs_at graph i) = subst (λ xs. All (λ input. input < i) xs) (c.as_slice.ensures ∙ node.inputs_are) (c.are_below.ensures c.if-not-are_below.false) in
    let few : (region : ℕ) → region_at graph i ≡ Some region → region ≤ 4 = λ region is. omega (arith, ap (λ own. unwrap_or own 0) (node.region_is ∙ is), c.unwrap_or.ensures, c.if-unwrap_or-gt4.false) in (
      below_more (λ k. All (λ input. input < k) (inputs_at graph k)) i c.looking.invariant.0 inputs,
      λ k region under. below_more (λ k. (region : ℕ) → region_at graph k ≡ Some region → region ≤ 4) i (λ k under region. c.looking.invariant.1 k region under) few k under region,
    )

pub build-requires : goal.build-requires
build-requires c =
    let decls = c.args.p.now.decls.items in
    let end = at_end decls c.as_slice-decl-items.result.now c.looking.id c.as_slice-decl-items.ensures c.looking.auto.id-end c.looking-test.false in
    record {
      ordered = IsOrdered-from (graph_of decls) (λ k under. c.looking.invariant.0 k (omega (arith, end)));
      few = omega (arith, c.if-len-gt512.false, c.len.ensures);
      regions = HasRegions-from (graph_of decls) (λ k region under is. c.looking.invariant.1 k region (omega (arith, end)) is);
    }
