use Rattle.re_terms.proofs.ChangesKept.{after_kept, changes_kept}
use Rattle.re_terms.proofs.EntriesKept.{effect_word, effect_value}
use Rattle.re_terms.proofs.kind_laws.entry_kind_law.Goals as goal

pub returns : goal.returns
returns c = record {
  names = λ p s id k program step. effect_word p program s step id k;
  values = λ p s id k w program step. effect_value p program s step id k w;
  words = λ p s program step. after_kept p program s step;
  changes = λ p s program step. changes_kept p program s step;
}
