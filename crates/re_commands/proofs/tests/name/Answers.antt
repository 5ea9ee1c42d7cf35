use Rattle.re_commands.proofs.NameTokens.{first_name}
use Rattle.re_commands.proofs.tests.name.Goals as goal

pub returns-in-Some : goal.returns-in-Some
returns-in-Some c = first_name _ _ _ _ c.as_slice.ensures c.in_ok-found.ensures.list c.in-Some.ensures c.in_ok-copy-in-Some.ensures
