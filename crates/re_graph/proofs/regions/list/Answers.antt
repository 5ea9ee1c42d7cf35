use Rattle.std.proofs.Common.{sym, ap, ◌∙◌}
use Rattle.std.specs.Prelude.{filter}
use Rattle.std.specs.List.{range_with_len}
use Rattle.re_terms.specs.Listed.{plain}
use Rattle.re_graph.specs.Kept.{has_bit}
use Rattle.re_graph.proofs.Bits.{has_bit-tried, has_bit-failed}
use Rattle.re_graph.proofs.Lists.{plain_push}
use Rattle.re_graph.proofs.Ranges.{filter_range-takes, filter_range-skips}
use Rattle.re_graph.proofs.regions.list.Goals as goal
use Rattle.re_graph.proofs.regions.list.Goals.{then-bits-region-eq1+in_ok-push, else-bits-region-eq1}

pub loop-region-preserved : goal.loop-region-preserved
loop-region-preserved c =
    let bits = c.args.bits in
    let region = c.loop-region.region in
    elim c.if-bits-region-eq1.branch [
      | then-bits-region-eq1+in_ok-push w ↦
          w.regions-is
          ∙ plain_push c.loop-region.regions w.push.new.self (filter (has_bit bits) (range_with_len 0 region)) region c.loop-region.invariant w.in_ok-push.ensures.ok
          ∙ ap plain (sym (filter_range-takes (has_bit bits) region (has_bit-tried bits region w.if-bits-region-eq1.true)))
      | else-bits-region-eq1 w ↦
          w.regions-is ∙ c.loop-region.invariant ∙ ap plain (sym (filter_range-skips (has_bit bits) region (has_bit-failed bits region w.if-bits-region-eq1.false)))
    ]
