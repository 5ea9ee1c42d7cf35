use Rattle.std.proofs.Common.{take}
use Rattle.re_tool.specs.Relay.{Relays, steps_of}
use Rattle.re_tool.proofs.relays.relay.Given as goal

abbrev pub invariant-loop-leg : goal.invariant-loop-leg
invariant-loop-leg l = Relays (take l.leg-index l.legs.items) l.fn.files (steps_of l.traces.items) l.files
