use Rattle.re_terms.proofs.ProgramShapes.{program_shape}
use Rattle.re_terms.proofs.replicated.Shape.of.Goals as goal

pub returns-in_err-replicated_kinds-clause-limits : goal.returns-in_err-replicated_kinds-clause-limits
returns-in_err-replicated_kinds-clause-limits c = program_shape c.args.p.now c.requires

pub returns-clause-limits : goal.returns-clause-limits
returns-clause-limits c = program_shape c.args.p.now c.requires
