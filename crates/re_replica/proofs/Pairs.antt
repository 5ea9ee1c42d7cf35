-- Equality of pairs as programs test it.
use Rattle.std.proofs.Common.{◌≡◌, Bool, true, false, eqb, refl, sym, ap, subst}
use Rattle.std.specs.Prelude.{◌&&◌}
use Rattle.std.specs.Bool.{Decides}
use Rattle.std.proofs.lemmas.Bool.Decides.{Decides-eqb, Decides-int_eq}
use Rattle.re_terms.specs.declared.word.Word.{Word}
use Rattle.re_terms.specs.declared.word.Word.TheVariants as word
use Rattle.re_terms.specs.declared.replicated.Dot.{Dot}
use Rattle.re_terms.specs.declared.replicated.Pair.{Pair}
use Rattle.re_terms.specs.contracts.replicated.PairPartialEq.TheImpl.{eq-value}
use mathlib.Core.Bool.{beq, true≢false}

left : (a b : Bool) → (a && b) ≡ true → a ≡ true
left true b e = refl
left false b e = e

right : (a b : Bool) → (a && b) ≡ true → b ≡ true
right true b e = e
right false b e = absurd (true≢false (sym e))

both : (a b : Bool) → a ≡ true → b ≡ true → (a && b) ≡ true
both a b e h = (λ i. e i && h i)

abbrev pair_of : Word → Dot → Pair
pair_of w d = record { element = w; dot = d }

dot_to : (d e : Dot) → (eqb d.device e.device && eqb d.number e.number) ≡ true → d ≡ e
dot_to d e h =
    let device = (Decides-eqb d.device e.device).0 (left _ _ h) in
    let number = (Decides-eqb d.number e.number).0 (right _ _ h) in
    λ i. record { device = device i; number = number i }

dot_refl : (d : Dot) → (eqb d.device d.device && eqb d.number d.number) ≡ true
dot_refl d = both _ _ ((Decides-eqb d.device d.device).1 refl) ((Decides-eqb d.number d.number).1 refl)

bool_to : (x y : Bool) → beq x y ≡ true → x ≡ y
bool_to true true h = refl
bool_to false false h = refl
bool_to true false h = absurd (true≢false (sym h))
bool_to false true h = absurd (true≢false (sym h))

bool_refl : (x : Bool) → beq x x ≡ true
bool_refl true = refl
bool_refl false = refl

eq_to : (v w : Word) (d e : Dot) → eq-value.it (pair_of v d) (pair_of w e) ≡ true → (v ≡ w) × (d ≡ e)
eq_to (word.Int x) (word.Int y) d e h = (ap word.Int ((Decides-int_eq x y).0 (left _ _ h)), dot_to d e (right _ _ h))
eq_to (word.Bool x) (word.Bool y) d e h = (ap word.Bool (bool_to x y (left _ _ h)), dot_to d e (right _ _ h))
eq_to (word.Sym x) (word.Sym y) d e h = (ap word.Sym ((Decides-eqb x y).0 (left _ _ h)), dot_to d e (right _ _ h))
eq_to (word.Fault x) (word.Fault y) d e h = (ap word.Fault ((Decides-eqb x y).0 (left _ _ h)), dot_to d e (right _ _ h))
eq_to v w d e h = absurd (true≢false (sym h))

eq_refl : (v : Word) (d : Dot) → eq-value.it (pair_of v d) (pair_of v d) ≡ true
eq_refl (word.Int x) d = both _ _ ((Decides-int_eq x x).1 refl) (dot_refl d)
eq_refl (word.Bool x) d = both _ _ (bool_refl x) (dot_refl d)
eq_refl (word.Sym x) d = both _ _ ((Decides-eqb x x).1 refl) (dot_refl d)
eq_refl (word.Fault x) d = both _ _ ((Decides-eqb x x).1 refl) (dot_refl d)

pub pair_eq : (a b : Pair) → Decides (eq-value.it a b) (a ≡ b)
pair_eq a b = (λ h. let e = eq_to a.element b.element a.dot b.dot h in λ i. pair_of (e.0 i) (e.1 i), λ e. subst (λ x. eq-value.it a x ≡ true) e (eq_refl a.element a.dot))
