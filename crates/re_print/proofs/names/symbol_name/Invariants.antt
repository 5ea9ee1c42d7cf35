use Rattle.std.proofs.Common.{◌≡◌, drop}
use Rattle.std.specs.Prelude.{filter, slice_get}
use Rattle.re_terms.specs.Programs.{is_symbol}
use Rattle.re_print.specs.Canonical.{declared_name, symbol_text}
use Rattle.re_print.proofs.names.symbol_name.Given as goal

-- so many symbols stand before the one that is sought, from here on
abbrev pub invariant-loop-decl : goal.invariant-loop-decl
invariant-loop-decl l = declared_name (slice_get (filter is_symbol (drop l.decl-index l.decl-items)) l.before) ≡ symbol_text l.p l.number
