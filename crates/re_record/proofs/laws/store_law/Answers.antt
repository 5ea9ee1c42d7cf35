use Rattle.re_record.proofs.BehindGates.{behind_first, behind_second}
use Rattle.re_record.proofs.OneStore.{one_stored}
use Rattle.re_record.proofs.StoreLaws.{first_opens, second_opens, records_more, after_more, one_opening}
use Rattle.re_record.proofs.laws.store_law.Goals as goal

pub returns : goal.returns
returns c =
    record {
      first = λ p device g s bodies rest second entries is short number fits records gates closed older are. first_opens p device g s bodies rest is short number fits second entries records gates closed older are;
      second = λ p device g s bodies rest first entries is short number fits records gates closed older are. second_opens p device g s bodies rest is short number fits first entries records gates closed older are;
      more = records_more;
      done = after_more;
      behind_first = behind_first;
      behind_second = behind_second;
      only = λ p device first second x y is small a b. one_stored p device is small first second x y a b;
      one = one_opening;
    }
