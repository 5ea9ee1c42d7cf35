use Rattle.re_tokens.proofs.WholeLists.{blank_is}
use Rattle.re_tokens.proofs.gap.is_blank_text.Goals as goal

pub returns : goal.returns
returns c = blank_is c.args.text.now c.skip_gap.result.now _ c.skip_gap.ensures c.is_empty.ensures
