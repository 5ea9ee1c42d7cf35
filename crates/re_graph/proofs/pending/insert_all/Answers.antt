use Rattle.std.proofs.Common.{get_or}
use Rattle.std.specs.Ordering.{nat_cmp}
use Rattle.std.specs.BTreeSet.{contains}
use Rattle.re_graph.proofs.Steps.{insert_step, is_at-key}
use Rattle.re_graph.proofs.pending.insert_all.Goals as goal

pub loop-id-preserved : goal.loop-id-preserved
loop-id-preserved c = λ id. insert_step c.loop-id.pending c.insert.new.self c.args.ids.now c.loop-id.id-index id (contains nat_cmp c.args.pending.now id) c.loop-id-test.true (c.in_ok-insert.ensures.updates.0 id) (is_at-key (get_or c.args.ids.now c.loop-id.id-index 0) id) (c.loop-id.invariant id)
