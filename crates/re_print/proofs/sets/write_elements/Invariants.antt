-- The text so far, and what is left to write, give the whole.
use Rattle.std.proofs.Common.{◌≡◌, ◌++◌, drop}
use Rattle.re_print.proofs.Elements.{others_text}
use Rattle.re_print.proofs.sets.write_elements.Given as goal

abbrev pub invariant-loop-pair : goal.invariant-loop-pair
invariant-loop-pair l = l.text.items ++ others_text l.p l.before (drop l.pair-index l.others) ≡ l.initial.text.items ++ others_text l.p l.initial.before l.others
