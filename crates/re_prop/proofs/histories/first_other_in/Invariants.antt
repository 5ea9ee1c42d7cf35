-- It is a state of the program, and the words of the signals are its own.
use Rattle.std.proofs.Common.{◌≡◌}
use Rattle.re_terms.specs.Views.{view_of}
use Rattle.re_terms.specs.WordKinds.{IsStateOf}
use Rattle.re_prop.specs.Caching.{signal_words}
use Rattle.re_prop.proofs.histories.first_other_in.Given as goal

abbrev pub invariant-loop-row : goal.invariant-loop-row
invariant-loop-row g l = record {
  state : IsStateOf l.p l.s;
  cache : l.c ≡ signal_words l.p l.s.words.items (view_of l.s.rep);
}
