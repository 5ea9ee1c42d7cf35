-- A program's shape is one.
use Rattle.std.proofs.Common.{subst, sym}
use Rattle.re_terms.specs.Shapes.{IsShape}
use Rattle.re_terms.proofs.ProgramShapes.{program_shape}
use Rattle.re_restore.proofs.replay.Replay.of.Goals as goal

pub new-requires-clause-shape : goal.new-requires-clause-shape
new-requires-clause-shape c = subst IsShape (sym c.requires.shape) (program_shape c.args.p.now c.requires.program)
