use Rattle.std.proofs.Common.{◌≡◌, true, take}
use Rattle.std.specs.List.{list_all}
use Rattle.re_types.specs.Admitting.{keeps_kind}
use Rattle.re_types.specs.Parts.{turn_in_order}
use Rattle.re_types.proofs.admitting.resolved_parts.Given as goal

abbrev pub invariant-parts : goal.invariant-parts
invariant-parts l = record { turn : l.turn ≡ turn_in_order l.decls (take l.raw-index l.parts); kinds : list_all (keeps_kind l.decls) (take l.raw-index l.parts) ≡ true }
