use Rattle.re_terms.proofs.ProgramShapes.{program_shape}
use Rattle.re_terms.proofs.StateLengths.{packet_long, state_long}
use Rattle.re_terms.proofs.length_laws.state_length_law.Goals as goal

pub returns : goal.returns
returns c = record { program = program_shape; state = state_long; packet = packet_long }
