-- A copy of the order is in order.
use Rattle.std.proofs.Common.{◌≡◌, ◌<◌, List, ℕ, length, get_or, sym, ap, subst, ◌∙◌, arith}
use Rattle.re_terms.specs.Dependencies.{level}
use Rattle.re_terms.specs.Listed.{Listed}
use Rattle.re_graph.specs.Kept.{IsOrderBy}
use Rattle.re_levels.specs.Places.{IsRanking}
use Rattle.re_levels.proofs.Ranking.{order_long, order_low, ranking}
use Rattle.re_levels.proofs.places.Places.of.Goals as goal

pub ranks_of-requires-clause-few : goal.ranks_of-requires-clause-few
ranks_of-requires-clause-few c =
    let same : c.as_slice.result.now ≡ c.order.result.now.items = c.as_slice.ensures ∙ ap (λ (l : Listed ℕ). l.items) c.in_ok-order.ensures in
    omega (arith, ap length same, order_long c.args.g.now c.requires.ordered c.order.result.now.items c.order.ensures, c.requires.few)

pub ranks_of-requires-clause-low : goal.ranks_of-requires-clause-low
ranks_of-requires-clause-low c =
    let same : c.as_slice.result.now ≡ c.order.result.now.items = c.as_slice.ensures ∙ ap (λ (l : Listed ℕ). l.items) c.in_ok-order.ensures in
    subst (λ (xs : List ℕ). (k d : ℕ) → k < length xs → get_or xs k d < length xs) (sym same) (order_low c.args.g.now c.requires.ordered c.order.result.now.items c.order.ensures)

pub readers_of-requires-clause-count : goal.readers_of-requires-clause-count
readers_of-requires-clause-count c = c.len.ensures ∙ ap (λ (l : Listed ℕ). length l.items) c.in_ok-order.ensures ∙ order_long c.args.g.now c.requires.ordered c.order.result.now.items c.order.ensures

pub readers_of-requires-clause-few : goal.readers_of-requires-clause-few
readers_of-requires-clause-few c =
    let count = readers_of-requires-clause-count c in
    omega (arith, count, c.requires.few)

pub returns-clause-ranking : goal.returns-clause-ranking
returns-clause-ranking c =
    let same : c.as_slice.result.now ≡ c.in_ok-order.order.items = c.as_slice.ensures in
    let by_level : IsOrderBy (level c.args.g.now) (length c.args.g.now) c.as_slice.result.now = subst (IsOrderBy (level c.args.g.now) (length c.args.g.now)) (sym (same ∙ ap (λ (l : Listed ℕ). l.items) c.in_ok-order.ensures)) c.order.ensures in
    subst (λ (xs : List ℕ). IsRanking c.args.g.now xs c.in_ok-ranks.ranks.items) same
    (ranking c.args.g.now c.requires.ordered c.as_slice.result.now by_level c.in_ok-ranks.ranks.items c.in_ok-ranks.ensures.count c.in_ok-ranks.ensures.ranks)
