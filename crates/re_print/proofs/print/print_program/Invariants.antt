use Rattle.std.proofs.Common.{◌≡◌, take}
use Rattle.std.specs.List.{flat_map}
use Rattle.re_print.specs.Canonical.{line_text}
use Rattle.re_print.proofs.print.print_program.Given as goal

-- the lines of the declarations so far
abbrev pub invariant-loop-decl : goal.invariant-loop-decl
invariant-loop-decl l = l.text.items ≡ flat_map (line_text l.fn.p) (take l.decl-index l.decl-items)
