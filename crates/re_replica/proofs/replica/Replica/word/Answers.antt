use Rattle.std.proofs.Common.{◌∙◌, rules}
use Rattle.re_replica.proofs.ReplicaOf.{word_shown}
use Rattle.re_replica.proofs.replica.Replica.word.Goals as goal

-- src/replica.rt:132:5
pub returns-in-Some-Counter-clause-value : goal.returns-in-Some-Counter-clause-value
returns-in-Some-Counter-clause-value c = λ us small is. (search rules) ∙ word_shown c.args.self.now us small is c.args.cell

-- src/replica.rt:132:5
pub returns-in-Some-Register-clause-value : goal.returns-in-Some-Register-clause-value
returns-in-Some-Register-clause-value c = λ us small is. (search rules) ∙ word_shown c.args.self.now us small is c.args.cell

-- src/replica.rt:132:5
pub returns-in_default-clause-value : goal.returns-in_default-clause-value
returns-in_default-clause-value c = λ us small is. (search rules) ∙ word_shown c.args.self.now us small is c.args.cell

-- src/replica.rt:132:5
pub returns-in_default-2-clause-value : goal.returns-in_default-2-clause-value
returns-in_default-2-clause-value c = λ us small is. (search rules) ∙ word_shown c.args.self.now us small is c.args.cell
