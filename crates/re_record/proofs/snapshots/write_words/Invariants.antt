use Rattle.std.proofs.Common.{◌≡◌, take}
use Rattle.std.specs.List.{flat_map}
use Rattle.re_terms.specs.Spellings.{word_bytes}
use Rattle.re_wire.specs.Appended.{appended}
use Rattle.re_record.proofs.snapshots.write_words.Given as goal

abbrev pub invariant-loop-word : goal.invariant-loop-word
invariant-loop-word l = l.out ≡ appended l.fn.out (flat_map word_bytes (take l.word-index l.words))
