use Rattle.re_terms.proofs.ChangesKept.{puts_kept}
use Rattle.re_terms.proofs.PutWords.{words_put}
use Rattle.re_terms.proofs.kind_laws.change_law.Goals as goal

pub returns : goal.returns
returns c = record { after = words_put; kinds = λ p words puts are changed. puts_kept p words puts are changed.kinds }
