use Rattle.std.proofs.Common.{◌≡◌, map, take}
use Rattle.std.specs.Prelude.{filter}
use Rattle.re_terms.specs.Programs.{is_symbol}
use Rattle.re_print.proofs.names.Names.of.Given as goal

-- the symbols among the declarations so far
abbrev pub invariant-loop-decl : goal.invariant-loop-decl
invariant-loop-decl l = map (λ d. d.now) l.symbols.items ≡ filter is_symbol (take l.decl-index l.decl-items)
