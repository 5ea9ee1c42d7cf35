-- The words of the declarations that were passed.
use Rattle.std.proofs.Common.{◌≡◌, map}
use Rattle.std.specs.List.{range_with_len}
use Rattle.re_terms.specs.SignalWords.{signal_word}
use Rattle.re_terms.specs.Views.{view_of}
use Rattle.re_prop.proofs.words.from_cache.Given as goal

abbrev pub invariant-reading : goal.invariant-reading
invariant-reading l = l.words.items ≡ map (signal_word l.p l.s.words.items (view_of l.s.rep)) (range_with_len 0 l.id)
