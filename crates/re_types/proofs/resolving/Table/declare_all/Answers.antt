use Rattle.std.proofs.Common.{◌+◌, drop}
use Rattle.std.specs.List.{list_all}
use Rattle.re_terms.specs.Trees.{is_declaration}
use Rattle.re_types.proofs.Conjunctions.{both}
use Rattle.re_types.proofs.Remaining.{next_left, remain_next}
use Rattle.re_types.proofs.resolving.Table.declare_all.Goals as goal

pub declare-requires-clause-raw : goal.declare-requires-clause-raw
declare-requires-clause-raw c =
    let decls = c.args.decls.now in
    let i = c.decls.raw-index in
    let left = rw (next_left decls i c.raw-item.result c.decls-test.true c.raw-item.is) at c.decls.invariant.left.raw in
    (both {a = is_declaration c.raw-item.result} {b = list_all is_declaration (drop (i + 1) decls)} left).0

pub decls-preserved : goal.decls-preserved
decls-preserved c =
    let decls = c.args.decls.now in
    let i = c.decls.raw-index in
    let left = rw (next_left decls i c.raw-item.result c.decls-test.true c.raw-item.is) at c.decls.invariant.left in
    record {
      table = c.in_ok-declare.ensures.table;
      left = remain_next c.args.self.now.decls.items decls c.decls.self.decls.items c.declare.new.self.decls.items c.raw-item.result (drop (i + 1) decls) left c.in_ok-declare.ensures.declared;
    }
