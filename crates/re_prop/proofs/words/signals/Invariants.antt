-- The words of the signals that were passed.
use Rattle.std.proofs.Common.{◌≡◌, map}
use Rattle.std.specs.List.{range_with_len}
use Rattle.re_prop.proofs.Before.{signal_only}
use Rattle.re_prop.proofs.words.signals.Given as goal

abbrev pub invariant-finding : goal.invariant-finding
invariant-finding l = l.found.items ≡ map (signal_only l.decls l.words) (range_with_len 0 l.id)
