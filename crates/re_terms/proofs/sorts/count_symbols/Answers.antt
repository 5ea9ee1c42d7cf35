use Rattle.std.proofs.Common.{rules}
use Rattle.re_terms.proofs.sorts.count_symbols.Goals as goal

-- src/sorts.rt:49:1
pub returns : goal.returns
returns c = search rules
