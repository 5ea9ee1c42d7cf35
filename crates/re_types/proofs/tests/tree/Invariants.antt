use Rattle.std.proofs.Common.{◌≡◌, true}
use Rattle.std.specs.List.{list_all}
use Rattle.re_terms.specs.Trees.{is_declaration}
use Rattle.re_types.proofs.tests.tree.Given as goal

abbrev pub invariant-decls : goal.invariant-decls
invariant-decls l = record {
  plain : l.decls.spare ≡ 0;
  declarations : list_all is_declaration l.decls.items ≡ true;
}
