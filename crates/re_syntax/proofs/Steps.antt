use Rattle.std.proofs.Common.{lit<, ℕ, ◌+◌, ◌<◌, ◌≤◌, ◌≡◌, ◌⊎◌, inl, inr, Bool, true, false, List, [], ◌∷◌, ◌++◌, length, length-append, refl, sym, subst, arith}
use Rattle.re_terms.specs.declared.token.Mark.{Mark}
use Rattle.re_syntax.specs.Places.{Agrees}
use Rattle.re_syntax.specs.Steps.{Language, Holds, IsEnough, nothing, Exactly, Cause, Unfit, Beyond, fitting, Refusal, Then, Done, One}

-- what stands from place k on makes, with what was read before it from i, a whole, and nothing else does
pub record SoFar {V : Type 0} (X : Language V) (goes_on : Mark → Bool) (at : ℕ → Mark) (seen i k : ℕ) (R : Language V) : Type 0 where
  pub forward : i ≤ k
  pub build : (limit : ℕ → ℕ) → IsEnough limit → (other : ℕ → Mark) (v : V) (n : ℕ) → Agrees k at other → R other limit v k n → X other limit v i n
  pub invert : (limit : ℕ → ℕ) (other : ℕ → Mark) (v : V) (n : ℕ) → Agrees seen at other → X other limit v i n
      → R other limit v k n ⊎ ((goes_on (other n) ≡ true) × (n < k))

-- whatever stands from a place on, it can be completed, with expressions that are open beside no more than 128 others
pub record Completes {V : Type 0} (X : Language V) : Type 0 where
  pub value : V
  pub ahead : List Mark
  pub whole : (limit : ℕ → ℕ) (other : ℕ → Mark) (k n : ℕ) → ((p : ℕ) → k ≤ p → 129 ≤ limit p) → Holds other k ahead n → X other limit value k n

-- behind a reading that ends before a mark that goes on, this can only end at once
pub record Follows {A V : Type 0} (first : Mark → Bool) (Y : A → Language V) (goes_on : Mark → Bool) : Type 0 where
  pub at_once : (limit : ℕ → ℕ) (other : ℕ → Mark) (a : A) (v : V) (k n : ℕ) → first (other k) ≡ true → Y a other limit v k n
      → (goes_on (other n) ≡ true) × (n ≡ k)

-- what passes the first test passes the second
pub record Includes (some all : Mark → Bool) : Type 0 where
  pub each : (m : Mark) → some m ≡ true → all m ≡ true

pub agrees_less : (at other : ℕ → Mark) (k n : ℕ) → k ≤ n → Agrees n at other → Agrees k at other
agrees_less at other k n h agrees p below = agrees p (omega arith)

pub holds_forward : (other : ℕ → Mark) (k n : ℕ) (ms : List Mark) → Holds other k ms n → k + length ms ≤ n
holds_forward other k n [] h = omega (arith, h)
holds_forward other k n (m ∷ ms) h = let ih = holds_forward other (k + 1) n ms h.1 in omega (arith, ih)

pub holds_split : (other : ℕ → Mark) (k n : ℕ) (ms ns : List Mark) → Holds other k (ms ++ ns) n → (p : ℕ) × (Holds other k ms p × Holds other p ns n)
holds_split other k n [] ns h = (k, (refl, h))
holds_split other k n (m ∷ ms) ns h = let r = holds_split other (k + 1) n ms ns h.1 in (r.0, ((h.0, r.1.0), r.1.1))

longer_some : (ms ns : List Mark) → 0 < length ms → 0 < length (ms ++ ns)
longer_some ms ns h = rw length-append (omega arith)

pub fitting_least : (cause : Cause) (j : ℕ) → j ≤ fitting cause j
fitting_least Unfit j = omega arith
fitting_least Beyond j = omega arith

module _ {V : Type 0} (X : Language V) (goes_on : Mark → Bool) (at : ℕ → Mark) where
  pub so_start : (i : ℕ) → SoFar X goes_on at i i i X
  so_start i = record { forward = omega arith; build = λ limit enough other v n agrees r. r; invert = λ limit other v n agrees x. inl x }

  -- a whole that is read to its end
  pub so_ends : (seen seen' i k n : ℕ) (v : V) (R : Language V) (ends : Mark → Bool) → SoFar X goes_on at seen i k R → Exactly R ends at seen' v k n → seen ≤ seen'
      → Includes ends goes_on → Exactly X goes_on at seen' v i n
  so_ends seen seen' i k n v R ends s e h wider =
      let f1 = s.forward in let f2 = e.forward in
      record {
        forward = omega arith;
        read = λ limit enough other agrees. s.build limit enough other v n (agrees_less at other k n f2 agrees) (e.read limit enough other agrees);
        only = λ limit other w m agrees x. elim (s.invert limit other w m (agrees_less at other seen seen' h agrees) x) [
          | inl r ↦ elim (e.only limit other w m agrees r) [
            | inl same ↦ inl same
            | inr early ↦ inr (wider.each (other m) early.0, early.1)
          ]
          | inr early ↦ inr (early.0, omega (arith, early.1))
        ];
      }

  -- a refusal of what is left
  pub so_stops : (seen i k j : ℕ) (cause : Cause) (R : Language V) (ends : Mark → Bool) → SoFar X goes_on at seen i k R → Refusal R ends at cause k j → seen ≤ j + 1
      → Includes ends goes_on → Refusal X goes_on at cause i j
  so_stops seen i k j cause R ends s r h wider =
      let f1 = s.forward in let f2 = r.reached in
      record {
        reached = omega arith;
        value = r.value;
        ahead = r.ahead;
        some = r.some;
        begun = λ limit roomy other n agrees holds. s.build limit roomy.enough other r.value n (agrees_less at other k (fitting cause j) f2 agrees) (r.begun limit roomy other n agrees holds);
        ended = λ limit under other w m agrees x. elim (s.invert limit other w m (agrees_less at other seen (j + 1) h agrees) x) [
          | inl rest ↦ let e = r.ended limit under other w m agrees rest in (wider.each (other m) e.0, e.1)
          | inr early ↦ (early.0, omega (arith, early.1))
        ];
      }

  -- one phrase more is read
  pub so_next : {A : Type 0} (seen seen' i k k' : ℕ) (Y : Language A) (Z : A → Language V) (ends : Mark → Bool) (a : A) → SoFar X goes_on at seen i k (Then Y Z) → Exactly Y ends at seen' a k k'
      → seen ≤ seen' → Follows ends Z goes_on → SoFar X goes_on at seen' i k' (Z a)
  so_next {A} seen seen' i k k' Y Z ends a s e h follows =
      let f1 = s.forward in let f2 = e.forward in
      record {
        forward = omega arith;
        build = λ limit enough other v n agrees r. s.build limit enough other v n (agrees_less at other k k' f2 agrees)
            (record { value = a; middle = k'; first = e.read limit enough other agrees; second = r });
        invert = λ limit other v n agrees x. elim (s.invert limit other v n (agrees_less at other seen seen' h agrees) x) [
          | inl r ↦ elim (e.only limit other r.value r.middle agrees r.first) [
            | inl same ↦ inl (subst (λ (b : A). Z b other limit v k' n) same.0 (subst (λ (p : ℕ). Z r.value other limit v p n) same.1 r.second))
            | inr early ↦ let f = follows.at_once limit other r.value v r.middle n early.0 r.second in inr (f.0, omega (arith, f.1, early.1))
          ]
          | inr early ↦ inr (early.0, omega (arith, early.1))
        ];
      }

  -- the next phrase is refused
  pub so_fails : {A : Type 0} (seen i k j : ℕ) (cause : Cause) (Y : Language A) (Z : A → Language V) (ends : Mark → Bool) → SoFar X goes_on at seen i k (Then Y Z) → Refusal Y ends at cause k j
      → seen ≤ j + 1 → Follows ends Z goes_on → ((a : A) → Completes (Z a)) → Refusal X goes_on at cause i j
  so_fails seen i k j cause Y Z ends s r h follows completes =
      let f1 = s.forward in let f2 = r.reached in
      let c = completes r.value in
      record {
        reached = omega arith;
        value = c.value;
        ahead = r.ahead ++ c.ahead;
        some = longer_some r.ahead c.ahead r.some;
        begun = λ limit roomy other n agrees holds.
            let p = holds_split other (fitting cause j) n r.ahead c.ahead holds in
            let longer : fitting cause j + length r.ahead ≤ p.0 = holds_forward other (fitting cause j) p.0 r.ahead p.1.0 in
            let some : 0 < length r.ahead = r.some in
            let behind : j ≤ fitting cause j = fitting_least cause j in
            s.build limit roomy.enough other c.value n (agrees_less at other k (fitting cause j) f2 agrees)
            (record { value = r.value; middle = p.0; first = r.begun limit roomy other p.0 agrees p.1.0; second = c.whole limit other p.0 n (λ q far. roomy.behind q (omega arith)) p.1.1 });
        ended = λ limit under other w m agrees x. elim (s.invert limit other w m (agrees_less at other seen (j + 1) h agrees) x) [
          | inl rest ↦ let e = r.ended limit under other rest.value rest.middle agrees rest.first in
              let f = follows.at_once limit other rest.value w rest.middle m e.0 rest.second in (f.0, omega (arith, f.1, e.1))
          | inr early ↦ (early.0, omega (arith, early.1))
        ];
      }

pub one_exact : {V : Type 0} (P : Mark → V → Type 0) (at : ℕ → Mark) (seen i : ℕ) (v : V) → P (at i) v → ((w : V) → P (at i) w → w ≡ v) → i + 1 ≤ seen
    → Exactly (One P) nothing at seen v i (i + 1)
one_exact {V} P at seen i v h same far = record {
  forward = omega arith;
  read = λ limit enough other agrees. record { fits = subst (λ (m : Mark). P m v) (sym (agrees i (omega arith))) h; next = refl };
  only = λ limit other w m agrees x. inl (same w (subst (λ (f : Mark). P f w) (agrees i (omega arith)) x.fits), x.next);
}

pub one_refused : {V : Type 0} (P : Mark → V → Type 0) (at : ℕ → Mark) (i : ℕ) (v : V) (m : Mark) → P m v → ((w : V) → P (at i) w → ⊥) → Refusal (One P) nothing at Unfit i i
one_refused {V} P at i v m h none = record {
  reached = omega arith;
  value = v;
  ahead = m ∷ [];
  some = lit< tt;
  begun = λ limit roomy other n agrees holds. record { fits = subst (λ (f : Mark). P f v) (sym holds.0) h; next = holds.1 };
  ended = λ limit under other w n agrees x. absurd (none w (subst (λ (f : Mark). P f w) (agrees i (omega arith)) x.fits));
}

pub one_completes : {V : Type 0} {P : Mark → V → Type 0} (v : V) (m : Mark) → P m v → Completes (One P)
one_completes {P = P} v m h = record { value = v; ahead = m ∷ []; whole = λ limit other k n room holds. record { fits = subst (λ (f : Mark). P f v) (sym holds.0) h; next = holds.1 } }

pub done_completes : {V : Type 0} (v : V) → Completes (Done v)
done_completes v = record { value = v; ahead = []; whole = λ limit other k n room holds. record { is = refl; stays = holds } }

pub then_completes : {A V : Type 0} {Y : Language A} {Z : A → Language V} → Completes Y → ((a : A) → Completes (Z a)) → Completes (Then Y Z)
then_completes {A} {V} {Y} {Z} c d =
    let e = d c.value in
    record {
      value = e.value;
      ahead = c.ahead ++ e.ahead;
      whole = λ limit other k n room holds.
          let p = holds_split other k n c.ahead e.ahead holds in
          let longer : k + length c.ahead ≤ p.0 = holds_forward other k p.0 c.ahead p.1.0 in
          record { value = c.value; middle = p.0; first = c.whole limit other k p.0 room p.1.0; second = e.whole limit other p.0 n (λ q far. room q (omega arith)) p.1.1 };
    }

pub done_exact : {V : Type 0} (v : V) (at : ℕ → Mark) (seen i : ℕ) → Exactly (Done v) nothing at seen v i i
done_exact v at seen i = record { forward = omega arith; read = λ limit enough other agrees. record { is = refl; stays = refl }; only = λ limit other w m agrees x. inl (x.is, x.stays) }

pub no_true : false ≡ true → ⊥
no_true e = cc

pub after_nothing : {A V : Type 0} {Y : A → Language V} {goes_on : Mark → Bool} → Follows nothing Y goes_on
after_nothing = record { at_once = λ limit other a v k n h x. absurd (no_true h) }

pub never_more : {goes_on : Mark → Bool} → Includes nothing goes_on
never_more = record { each = λ m h. absurd (no_true h) }

pub no_more : {goes_on : Mark → Bool} → Includes goes_on goes_on
no_more = record { each = λ m h. h }

-- what goes on with the first phrase doesn't begin the second
pub after_one : {A B V : Type 0} {first goes_on : Mark → Bool} {P : Mark → B → Type 0} {Z : A → B → Language V}
    → ((m : Mark) (b : B) → first m ≡ true → P m b → ⊥) → Follows first (λ (a : A). Then (One P) (Z a)) goes_on
after_one differ = record { at_once = λ limit other a v k n h x. absurd (differ (other k) x.value h x.first.fits) }
