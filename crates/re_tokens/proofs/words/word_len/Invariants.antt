use Rattle.std.proofs.Common.{◌≡◌, ◌+◌, drop}
use Rattle.std.specs.List.{prefix_len}
use Rattle.re_terms.specs.Tokens.{is_word_byte}
use Rattle.re_tokens.proofs.words.word_len.Given as goal

abbrev pub invariant-loop-place : goal.invariant-loop-place
invariant-loop-place l = l.place + prefix_len is_word_byte (drop l.place l.text) ≡ prefix_len is_word_byte l.text
