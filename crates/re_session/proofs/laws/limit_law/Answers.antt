use Rattle.re_commands.specs.Commanding.{commanded}
use Rattle.re_session.proofs.LimitCodes.{full_always, full_only, limit_always, limit_only, only_entries}
use Rattle.re_session.proofs.laws.limit_law.Goals as goal

pub returns-clause-full : goal.returns-clause-full
returns-clause-full c = λ p w line device turn is. (full_only p w (commanded p line) device turn is, full_always p w (commanded p line) device turn is)

pub returns-clause-limits : goal.returns-clause-limits
returns-clause-limits c = λ p w line device turn f is. (limit_only p w (commanded p line) device turn is f, limit_always p w (commanded p line) device turn is f)

pub returns-clause-only : goal.returns-clause-only
returns-clause-only c = λ p w line o code many few h. only_entries p w code many few (commanded p line) o h
