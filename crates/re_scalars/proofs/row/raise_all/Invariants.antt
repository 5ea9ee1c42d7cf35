use Rattle.std.proofs.Common.{◌≡◌, ◌<◌, ℕ, ◌≤◌, get_or, false, length}
use Rattle.std.specs.Prelude.{max}
use Rattle.re_scalars.proofs.row.raise_all.Given as goal

abbrev pub invariant-loop-i : goal.invariant-loop-i
invariant-loop-i l =
    record {
      wide : length l.a ≡ 16;
      done : (k : ℕ) → k < l.i → get_or l.a k 0 ≡ max (get_or l.fn.a k 0) (get_or l.b k 0);
      left : (k : ℕ) → l.i ≤ k → get_or l.a k 0 ≡ get_or l.fn.a k 0;
      same : l.changed ≡ false → l.a ≡ l.fn.a;
      other : l.a ≡ l.fn.a → l.changed ≡ false;
    }
