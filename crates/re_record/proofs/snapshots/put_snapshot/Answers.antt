use Rattle.std.proofs.Common.{sym, subst}
use Rattle.re_record.proofs.snapshots.put_snapshot.Goals as goal
use Rattle.re_terms.proofs.ProgramShapes.{program_shape}
use Rattle.re_terms.specs.Shapes.{IsShape}

pub put_state-requires-clause-shape : goal.put_state-requires-clause-shape
put_state-requires-clause-shape c = subst IsShape (sym c.requires.shape) (program_shape c.args.p.now c.requires.program)
