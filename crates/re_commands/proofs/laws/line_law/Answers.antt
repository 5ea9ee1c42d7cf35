use Rattle.re_commands.proofs.Commanded.{nothing, long, no_token}
use Rattle.re_commands.proofs.laws.line_law.Goals as goal

pub returns-clause-nothing : goal.returns-clause-nothing
returns-clause-nothing c = nothing

pub returns-clause-long : goal.returns-clause-long
returns-clause-long c = long

pub returns-clause-no_token : goal.returns-clause-no_token
returns-clause-no_token c = no_token
