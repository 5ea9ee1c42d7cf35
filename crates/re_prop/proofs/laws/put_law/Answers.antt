use Rattle.re_terms.proofs.PutWords.{words_put}
use Rattle.re_prop.proofs.Cells.{length-words_after}
use Rattle.re_prop.proofs.Outcomes.{effect_word}
use Rattle.re_prop.proofs.Putting.{put_signals}
use Rattle.re_prop.proofs.laws.put_law.Goals as goal

pub returns-clause-words : goal.returns-clause-words
returns-clause-words c = effect_word

pub returns-clause-count : goal.returns-clause-count
returns-clause-count c = length-words_after

pub returns-clause-changes : goal.returns-clause-changes
returns-clause-changes c = words_put

pub returns-clause-signals : goal.returns-clause-signals
returns-clause-signals c = put_signals
