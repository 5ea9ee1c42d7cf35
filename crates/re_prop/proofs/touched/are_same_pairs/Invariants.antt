-- The lists are equal where what is left of them is.
use Rattle.std.proofs.Common.{◌≡◌, drop, length}
use Rattle.std.specs.Cmp.Lexicographic.{pointwise}
use Rattle.re_prop.specs.Touched.{is_same_pair}
use Rattle.re_prop.proofs.touched.are_same_pairs.Given as goal

abbrev pub invariant-comparing : goal.invariant-comparing
invariant-comparing l = record {
  rest : pointwise is_same_pair l.a l.b ≡ pointwise is_same_pair (drop l.i l.a) (drop l.i l.b);
  same : length l.a ≡ length l.b;
}
