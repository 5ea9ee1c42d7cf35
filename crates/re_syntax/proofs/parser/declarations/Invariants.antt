use Rattle.std.proofs.Common.{◌≡◌, ◌-◌, length}
use Rattle.re_syntax.proofs.Programs.{Progress}
use Rattle.re_syntax.proofs.parser.declarations.Given as goal

abbrev pub invariant-declarations : goal.invariant-declarations
invariant-declarations l = record {
  plain : l.decls.spare ≡ 0;
  read : Progress l.tokens l.decls.items l.at;
}

abbrev pub decreases-declarations : goal.decreases-declarations
decreases-declarations l = length l.tokens - l.at
