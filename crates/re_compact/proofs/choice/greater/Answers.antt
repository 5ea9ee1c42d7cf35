use Rattle.std.proofs.Common.{inr, sym}
use Rattle.re_compact.proofs.Counted.{generation_full}
use Rattle.re_compact.proofs.choice.greater.Goals as goal

pub returns-then-first-second-2-clause-chosen : goal.returns-then-first-second-2-clause-chosen
returns-then-first-second-2-clause-chosen c = λ a b one two. (one, inr (c.args.second, two, c.if-first-second-2.true), sym (generation_full b c.args.second two))
