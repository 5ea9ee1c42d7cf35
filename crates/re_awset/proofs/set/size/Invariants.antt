use Rattle.std.proofs.Common.{◌≡◌, length, min, take}
use Rattle.re_terms.specs.WordOrder.{elements_of}
use Rattle.re_awset.proofs.set.size.Given as goal

-- the elements of the pairs so far
abbrev pub invariant-loop-place : goal.invariant-loop-place
invariant-loop-place l = l.count ≡ min (length (elements_of (take l.place l.pairs))) 4294967295
