use Rattle.std.proofs.Common.{[], subst}
use Rattle.std.proofs.lemmas.List.{append-nil}
use Rattle.re_session.proofs.Faring.{acts_fare, fares_none, stays}
use Rattle.re_session.proofs.laws.fares_law.Goals as goal
use Rattle.re_session.specs.Fares.{Fares}

pub returns : goal.returns
returns c = λ p lines before after old new w is_program told acts is. subst (λ l. Fares l old new) (append-nil lines) (acts_fare p is_program lines [] before after old new new w told is acts (stays new) (fares_none new new))
