use Rattle.std.proofs.Common.{◌≡◌, drop}
use Rattle.std.specs.Prelude.{filter, slice_get}
use Rattle.re_print.specs.Canonical.{declared_name}
use Rattle.re_terms.specs.Programs.{is_device}
use Rattle.re_tool.proofs.names.device_name.Given as goal
use Rattle.re_tool.specs.Names.{device_name}

-- so many devices stand before the one that is sought, from here on
abbrev pub invariant-loop-decl : goal.invariant-loop-decl
invariant-loop-decl l = declared_name (slice_get (filter is_device (drop l.decl-index l.decl-items)) l.before) ≡ device_name l.p l.device
