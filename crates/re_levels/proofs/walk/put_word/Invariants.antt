-- The word is put by what is left to look at.
use Rattle.std.proofs.Common.{◌≡◌, drop}
use Rattle.re_terms.specs.Propagation.{put_word}
use Rattle.re_levels.proofs.walk.put_word.Given as goal

abbrev pub invariant-loop-put : goal.invariant-loop-put
invariant-loop-put l = put_word l.puts l.id ≡ put_word (drop l.put-index l.puts) l.id
