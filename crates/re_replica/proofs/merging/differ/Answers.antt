use Rattle.std.proofs.Common.{◌≡◌, ap, ◌∙◌, true, false, Bool, refl}
use Rattle.std.specs.Prelude.{not}
use Rattle.std.specs.Cmp.Lexicographic.{pointwise}
use Rattle.std.proofs.lemmas.Slice.Eq.{slice_eq-Decides}
use Rattle.re_terms.specs.contracts.replicated.PairPartialEq.TheImpl.{eq-value}
use Rattle.re_replica.proofs.Pairs.{pair_eq}
use Rattle.re_replica.proofs.merging.differ.Goals as goal

not_back : (a b : Bool) → a ≡ not b → a ≡ false → b ≡ true
not_back a true e h = refl
not_back a false e h = absurd (cc)

pub returns : goal.returns
returns c =
    let a = c.args.a.now in
    let b = c.args.b.now in
    let d = slice_eq-Decides pair_eq a b (pointwise eq-value.it a b) refl in
    (λ e. d.0 (not_back c.ne.result (pointwise eq-value.it a b) c.ne.ensures e), λ e. c.ne.ensures ∙ ap not (d.1 e))
