use Rattle.std.proofs.Common.{sym, subst}
use Rattle.re_device.proofs.device.Device.packet.Goals as goal
use Rattle.re_terms.proofs.ProgramShapes.{program_shape}
use Rattle.re_terms.specs.Shapes.{IsShape}

pub packet-requires-clause-shape : goal.packet-requires-clause-shape
packet-requires-clause-shape c = subst IsShape (sym c.self.invariant.shape) (program_shape c.self.inside.program c.self.invariant.is_program)
