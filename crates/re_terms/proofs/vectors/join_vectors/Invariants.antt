use Rattle.std.proofs.Common.{◌≡◌, ◌<◌, ℕ, ◌≤◌, get_or, length}
use Rattle.std.specs.Prelude.{max}
use Rattle.re_terms.proofs.vectors.join_vectors.Given as goal

abbrev pub invariant-loop-i : goal.invariant-loop-i
invariant-loop-i l =
    record {
      wide : length l.counts ≡ 16;
      done : (k : ℕ) → k < l.i → get_or l.counts k 0 ≡ max (get_or l.a.counts k 0) (get_or l.b.counts k 0);
      left : (k : ℕ) → l.i ≤ k → get_or l.counts k 0 ≡ get_or l.a.counts k 0;
    }
