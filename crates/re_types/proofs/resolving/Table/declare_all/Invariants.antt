use Rattle.std.proofs.Common.{drop}
use Rattle.re_types.specs.Tables.{IsTable}
use Rattle.re_types.proofs.Remaining.{Remain}
use Rattle.re_types.proofs.resolving.Table.declare_all.Given as goal

abbrev pub invariant-decls : goal.invariant-decls
invariant-decls l = record {
  table : IsTable l.self;
  left : Remain l.fn.self.decls.items l.decls l.self.decls.items (drop l.raw-index l.decls);
}
