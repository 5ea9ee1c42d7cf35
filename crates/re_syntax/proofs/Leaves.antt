use Rattle.std.proofs.Common.{ℕ, ◌+◌, ◌^◌, ◌<◌, ◌≤◌, ◌≡◌, ◌≢◌, ◌⊎◌, inl, inr, Bool, true, false, List, [], ◌∷◌, length, Option, Some, pos, refl, sym, subst, ◌∙◌, ap, arith, lit≤, lit<}
use Rattle.std.specs.Prelude.{◌-ℤ◌}
use Rattle.re_terms.specs.Listed.{Listed, plain}
use Rattle.re_terms.specs.declared.reserved.TheConstants.{IN, TRUE, FALSE, INT, BOOL, SYM, NOT, RECOVER, HAS, FAULT, SIZE, ARG, SELF}
use Rattle.re_terms.specs.declared.signs.TheConstants.{COLON, EQUALS, COMMA, OPEN, CLOSE, MINUS}
use Rattle.re_terms.specs.declared.token.Token.{Token}
use Rattle.re_terms.specs.declared.token.Mark.{Mark}
use Rattle.re_terms.specs.declared.token.Mark.TheVariants as mark
use Rattle.re_terms.specs.declared.word.Kind.{Kind}
use Rattle.re_terms.specs.declared.word.Kind.TheVariants as kind
use Rattle.re_terms.specs.declared.raw_expr.RawLit.{RawLit}
use Rattle.re_terms.specs.declared.raw_expr.RawLit.TheVariants as literal
use Rattle.re_terms.specs.declared.raw_expr.RawExpr.{RawExpr}
use Rattle.re_terms.specs.declared.raw_expr.RawExpr.TheVariants as expr
use Rattle.re_syntax.specs.declared.stop.Stop.TheVariants as stop
use Rattle.re_syntax.specs.Grammar.{kind_of, Literal, number, negative, truth, falsity, name, Region, unwritten, written, Primary, Reads, literal_, arg, own, brackets, negation, recovery, fault, size, membership}
use Rattle.re_syntax.specs.Steps.{Language, text, nothing, is_region_word, EndsLast, Accepts, Misses, Then, Done, Single, Named, AKind, FaultCode, ALiteral, ARegion, APhrase, FirstName, OnlyName, KindPart, StartPart}
use Rattle.re_syntax.proofs.Steps.{Completes, one_completes, so_next, after_nothing}
use Rattle.re_syntax.proofs.Tokens.{Stage, one_accepts, one_misses}
use Rattle.re_syntax.proofs.Rules.{clash, same_name, same_number, form, moved}

pub mark_completes : (m : Mark) → Completes (Single m)
mark_completes m = one_completes tt m refl

pub name_completes : Completes Named
name_completes = one_completes (plain []) (mark.Name (plain [])) refl

pub kind_completes : Completes AKind
unfolding kind_of
kind_completes = one_completes kind.Int (mark.Reserved INT) refl

pub code_completes : Completes FaultCode
code_completes = one_completes 100 (mark.Number 100) (refl, lit≤ tt, lit≤ tt)

pub literal_completes : Completes ALiteral
literal_completes = record {
  value = literal.Bool true;
  ahead = mark.Reserved TRUE ∷ [];
  whole = λ limit other k n room h. subst (λ (q : ℕ). Literal other (literal.Bool true) k q) (sym h.1) (truth h.0);
}

pub region_completes : Completes ARegion
region_completes = record { value = 1; ahead = []; whole = λ limit other k n room h. subst (λ (q : ℕ). Region other 1 k q) (sym h) unwritten }

pub no_kind : (k : Kind) → kind_of mark.End ≡ Some k → ⊥
unfolding kind_of
no_kind k e = cc

pub same_kind : {m : Option Kind} {a b : Kind} → m ≡ Some a → m ≡ Some b → b ≡ a
same_kind c d = cc

pub kind_accepts : (tokens : List Token) (i : ℕ) (w : ℕ) (k : Kind) → i < length tokens → EndsLast tokens → text tokens i ≡ mark.Reserved w → kind_of (mark.Reserved w) ≡ Some k → Accepts AKind nothing 0 tokens k i (i + 1)
kind_accepts tokens i w k inside ends h is = one_accepts (λ m k. kind_of m ≡ Some k) tokens i k inside ends (no_kind k) (ap kind_of h ∙ is) (λ u g. same_kind (ap kind_of h ∙ is) g)

pub int_kind : kind_of (mark.Reserved INT) ≡ Some kind.Int
unfolding kind_of
int_kind = refl

pub bool_kind : kind_of (mark.Reserved BOOL) ≡ Some kind.Bool
unfolding kind_of
bool_kind = refl

pub sym_kind : kind_of (mark.Reserved SYM) ≡ Some kind.Sym
unfolding kind_of
sym_kind = refl

no_kind_word : (w : ℕ) (k : Kind) → w ≢ INT → w ≢ BOOL → w ≢ SYM → kind_of (mark.Reserved w) ≡ Some k → ⊥
unfolding kind_of
no_kind_word w k a b c e = grind arith

no_kind_mark : (m : Mark) (k : Kind) → (m ≡ mark.Reserved INT → ⊥) → (m ≡ mark.Reserved BOOL → ⊥) → (m ≡ mark.Reserved SYM → ⊥) → kind_of m ≡ Some k → ⊥
unfolding kind_of
no_kind_mark (mark.Number n) k a b c e = cc
no_kind_mark (mark.Name t) k a b c e = cc
no_kind_mark (mark.Reserved w) k a b c e = no_kind_word w k (λ h. a (ap mark.Reserved h)) (λ h. b (ap mark.Reserved h)) (λ h. c (ap mark.Reserved h)) e
no_kind_mark (mark.Sign s) k a b c e = cc
no_kind_mark mark.End k a b c e = cc

pub kind_misses : (tokens : List Token) (i : ℕ) → i < length tokens → (text tokens i ≡ mark.Reserved INT → ⊥) → (text tokens i ≡ mark.Reserved BOOL → ⊥) → (text tokens i ≡ mark.Reserved SYM → ⊥) → Misses AKind nothing tokens i (stop.Unexpected i)
kind_misses tokens i inside a b c = one_misses (λ m k. kind_of m ≡ Some k) tokens i kind.Int (mark.Reserved INT) inside int_kind (λ k e. no_kind_mark (text tokens i) k a b c e)

-- literals

one_literal : (tokens : List Token) (i : ℕ) (v : RawLit) (m : Mark) → i < length tokens → EndsLast tokens → text tokens i ≡ m → (mark.End ≡ m → ⊥)
    → ((other : ℕ → Mark) → other i ≡ m → Literal other v i (i + 1))
    → ((other : ℕ → Mark) (w : RawLit) (n : ℕ) → other i ≡ m → Literal other w i n → (w ≡ v) × (n ≡ i + 1)) → Accepts ALiteral nothing 0 tokens v i (i + 1)
one_literal tokens i v m inside ends h no_end build only = record {
  exact = record {
    forward = omega arith;
    read = λ limit enough other agrees. build other (agrees i (omega arith) ∙ h);
    only = λ limit other w n agrees x. inl (only other w n (agrees i (omega arith) ∙ h) x);
  };
  inside = ends i inside (λ e. no_end (sym e ∙ h));
}

number_only : (k : ℕ) (other : ℕ → Mark) (w : RawLit) (i n : ℕ) → other i ≡ mark.Number k → Literal other w i n → (w ≡ literal.Int (pos k)) × (n ≡ i + 1)
number_only k other _ _ _ h (number g _) = (ap (λ a. literal.Int (pos a)) (same_number g h), refl)
number_only k other _ _ _ h (negative g _ _) = absurd (omega (arith, clash h g))
number_only k other _ _ _ h (truth g) = absurd (omega (arith, clash h g))
number_only k other _ _ _ h (falsity g) = absurd (omega (arith, clash h g))
number_only k other _ _ _ h (name g) = absurd (omega (arith, clash h g))

truth_only : (other : ℕ → Mark) (w : RawLit) (i n : ℕ) → other i ≡ mark.Reserved TRUE → Literal other w i n → (w ≡ literal.Bool true) × (n ≡ i + 1)
truth_only other _ _ _ h (number g _) = absurd (omega (arith, clash h g))
truth_only other _ _ _ h (negative g _ _) = absurd (omega (arith, clash h g))
truth_only other _ _ _ h (truth g) = (refl, refl)
truth_only other _ _ _ h (falsity g) = absurd (omega (arith, clash h g))
truth_only other _ _ _ h (name g) = absurd (omega (arith, clash h g))

falsity_only : (other : ℕ → Mark) (w : RawLit) (i n : ℕ) → other i ≡ mark.Reserved FALSE → Literal other w i n → (w ≡ literal.Bool false) × (n ≡ i + 1)
falsity_only other _ _ _ h (number g _) = absurd (omega (arith, clash h g))
falsity_only other _ _ _ h (negative g _ _) = absurd (omega (arith, clash h g))
falsity_only other _ _ _ h (truth g) = absurd (omega (arith, clash h g))
falsity_only other _ _ _ h (falsity g) = (refl, refl)
falsity_only other _ _ _ h (name g) = absurd (omega (arith, clash h g))

name_only : (t : Listed ℕ) (other : ℕ → Mark) (w : RawLit) (i n : ℕ) → other i ≡ mark.Name t → Literal other w i n → (w ≡ literal.Name t) × (n ≡ i + 1)
name_only t other _ _ _ h (number g _) = absurd (omega (arith, clash h g))
name_only t other _ _ _ h (negative g _ _) = absurd (omega (arith, clash h g))
name_only t other _ _ _ h (truth g) = absurd (omega (arith, clash h g))
name_only t other _ _ _ h (falsity g) = absurd (omega (arith, clash h g))
name_only t other _ _ _ h (name g) = (ap literal.Name (same_name g h), refl)

negative_only : (k : ℕ) (other : ℕ → Mark) (w : RawLit) (i n : ℕ) → other i ≡ mark.Sign MINUS → other (i + 1) ≡ mark.Number k → Literal other w i n → (w ≡ literal.Int (pos 0 -ℤ pos k)) × (n ≡ i + 2)
negative_only k other _ _ _ h f (number g _) = absurd (omega (arith, clash h g))
negative_only k other _ _ _ h f (negative _ g _) = (ap (λ a. literal.Int (pos 0 -ℤ pos a)) (same_number g f), refl)
negative_only k other _ _ _ h f (truth g) = absurd (omega (arith, clash h g))
negative_only k other _ _ _ h f (falsity g) = absurd (omega (arith, clash h g))
negative_only k other _ _ _ h f (name g) = absurd (omega (arith, clash h g))

pub no_end : {m : Mark} → 0 < form m → mark.End ≡ m → ⊥
no_end {m} h e = let f : form mark.End ≡ form m = ap form e in omega arith

pub number_accepts : (tokens : List Token) (i k : ℕ) → i < length tokens → EndsLast tokens → text tokens i ≡ mark.Number k → k < 2 ^ 63 → Accepts ALiteral nothing 0 tokens (literal.Int (pos k)) i (i + 1)
number_accepts tokens i k inside ends h small = one_literal tokens i (literal.Int (pos k)) (mark.Number k) inside ends h (no_end (lit< tt)) (λ other e. number e small) (λ other w n e x. number_only k other w i n e x)

pub truth_accepts : (tokens : List Token) (i : ℕ) → i < length tokens → EndsLast tokens → text tokens i ≡ mark.Reserved TRUE → Accepts ALiteral nothing 0 tokens (literal.Bool true) i (i + 1)
truth_accepts tokens i inside ends h = one_literal tokens i (literal.Bool true) (mark.Reserved TRUE) inside ends h (no_end (lit< tt)) (λ other e. truth e) (λ other w n e x. truth_only other w i n e x)

pub falsity_accepts : (tokens : List Token) (i : ℕ) → i < length tokens → EndsLast tokens → text tokens i ≡ mark.Reserved FALSE → Accepts ALiteral nothing 0 tokens (literal.Bool false) i (i + 1)
falsity_accepts tokens i inside ends h = one_literal tokens i (literal.Bool false) (mark.Reserved FALSE) inside ends h (no_end (lit< tt)) (λ other e. falsity e) (λ other w n e x. falsity_only other w i n e x)

pub name_accepts : (tokens : List Token) (i : ℕ) (t : Listed ℕ) → i < length tokens → EndsLast tokens → text tokens i ≡ mark.Name t → Accepts ALiteral nothing 0 tokens (literal.Name t) i (i + 1)
name_accepts tokens i t inside ends h = one_literal tokens i (literal.Name t) (mark.Name t) inside ends h (no_end (lit< tt)) (λ other e. name e) (λ other w n e x. name_only t other w i n e x)

pub negative_accepts : (tokens : List Token) (i k : ℕ) → i + 1 < length tokens → EndsLast tokens → text tokens i ≡ mark.Sign MINUS → text tokens (i + 1) ≡ mark.Number k → k ≤ 2 ^ 63
    → Accepts ALiteral nothing 0 tokens (literal.Int (pos 0 -ℤ pos k)) i (i + 2)
negative_accepts tokens i k inside ends h f small = record {
  exact = record {
    forward = omega arith;
    read = λ limit enough other agrees. negative (agrees i (omega arith) ∙ h) (agrees (i + 1) (omega arith) ∙ f) small;
    only = λ limit other w n agrees x. inl (negative_only k other w i n (agrees i (omega arith) ∙ h) (agrees (i + 1) (omega arith) ∙ f) x);
  };
  inside = let e : i + 1 + 1 < length tokens = ends (i + 1) inside (λ e. no_end {m = mark.Number k} (lit< tt) (sym e ∙ f)) in omega arith;
}

negative_none : (other : ℕ → Mark) (w : RawLit) (i n : ℕ) → other i ≡ mark.Sign MINUS → ((k : ℕ) → other (i + 1) ≡ mark.Number k → k ≤ 2 ^ 63 → ⊥) → Literal other w i n → ⊥
negative_none other _ _ _ h f (number g _) = omega (arith, clash h g)
negative_none other _ _ _ h f (negative _ g b) = f _ g b
negative_none other _ _ _ h f (truth g) = omega (arith, clash h g)
negative_none other _ _ _ h f (falsity g) = omega (arith, clash h g)
negative_none other _ _ _ h f (name g) = omega (arith, clash h g)

pub negative_misses : (tokens : List Token) (i : ℕ) → i + 1 < length tokens → text tokens i ≡ mark.Sign MINUS → ((k : ℕ) → text tokens (i + 1) ≡ mark.Number k → k ≤ 2 ^ 63 → ⊥)
    → Misses ALiteral nothing tokens i (stop.Unexpected (i + 1))
negative_misses tokens i inside h none = record {
  told = (
    record {
      reached = omega arith;
      value = literal.Int (pos 0 -ℤ pos 0);
      ahead = mark.Number 0 ∷ [];
      some = lit< tt;
      begun = λ limit roomy other n agrees holds. subst (λ (q : ℕ). Literal other (literal.Int (pos 0 -ℤ pos 0)) i q) (let e : i + 2 ≡ n = omega (arith, holds.1) in e) (negative (agrees i (omega arith) ∙ h) holds.0 (lit≤ tt));
      ended = λ limit under other w n agrees x. absurd (negative_none other w i n (agrees i (omega arith) ∙ h) (λ k e b. none k (sym (agrees (i + 1) (omega arith)) ∙ e) b) x);
    },
    inside,
  );
}

literal_none : (other : ℕ → Mark) (w : RawLit) (i n : ℕ) → (other i ≡ mark.Sign MINUS → ⊥) → (other i ≡ mark.Reserved TRUE → ⊥) → (other i ≡ mark.Reserved FALSE → ⊥)
    → ((t : Listed ℕ) → other i ≡ mark.Name t → ⊥) → ((k : ℕ) → other i ≡ mark.Number k → k < 2 ^ 63 → ⊥) → Literal other w i n → ⊥
literal_none other _ _ _ a b c d e (number g s) = e _ g s
literal_none other _ _ _ a b c d e (negative g _ _) = a g
literal_none other _ _ _ a b c d e (truth g) = b g
literal_none other _ _ _ a b c d e (falsity g) = c g
literal_none other _ _ _ a b c d e (name g) = d _ g

pub literal_misses : (tokens : List Token) (i : ℕ) → i < length tokens → (text tokens i ≡ mark.Sign MINUS → ⊥) → (text tokens i ≡ mark.Reserved TRUE → ⊥) → (text tokens i ≡ mark.Reserved FALSE → ⊥)
    → ((t : Listed ℕ) → text tokens i ≡ mark.Name t → ⊥) → ((k : ℕ) → text tokens i ≡ mark.Number k → k < 2 ^ 63 → ⊥) → Misses ALiteral nothing tokens i (stop.Unexpected i)
literal_misses tokens i inside a b c d e = record {
  told = (
    record {
      reached = omega arith;
      value = literal.Bool true;
      ahead = mark.Reserved TRUE ∷ [];
      some = lit< tt;
      begun = λ limit roomy other n agrees holds. subst (λ (q : ℕ). Literal other (literal.Bool true) i q) (sym holds.1) (truth holds.0);
      ended = λ limit under other w n agrees x.
          let s : text tokens i ≡ other i = sym (agrees i (omega arith)) in
          absurd (literal_none other w i n (λ g. a (s ∙ g)) (λ g. b (s ∙ g)) (λ g. c (s ∙ g)) (λ t g. d t (s ∙ g)) (λ k g l. e k (s ∙ g) l) x);
    },
    inside,
  );
}

-- regions

unwritten_only : (other : ℕ → Mark) (r i n : ℕ) → (other i ≡ mark.Reserved IN → ⊥) → Region other r i n → (r ≡ 1) × (n ≡ i)
unwritten_only other _ _ _ h unwritten = (refl, refl)
unwritten_only other _ _ _ h (written g _ _ _) = absurd (h g)

pub unwritten_accepts : (tokens : List Token) (i : ℕ) → i < length tokens → (text tokens i ≡ mark.Reserved IN → ⊥) → Accepts ARegion is_region_word 1 tokens 1 i i
unwritten_accepts tokens i inside h = record {
  exact = record {
    forward = omega arith;
    read = λ limit enough other agrees. unwritten;
    only = λ limit other r n agrees x. inl (unwritten_only other r i n (λ e. h (sym (agrees i (omega arith)) ∙ e)) x);
  };
  inside = inside;
}

region_word : (other : ℕ → Mark) (i : ℕ) → other i ≡ mark.Reserved IN → is_region_word (other i) ≡ true
region_word other i h = ap is_region_word h

written_only : (other : ℕ → Mark) (k r i n : ℕ) → other i ≡ mark.Reserved IN → other (i + 1) ≡ mark.Number k → Region other r i n → ((r ≡ k) × (n ≡ i + 2)) ⊎ ((is_region_word (other n) ≡ true) × (n < i + 2))
written_only other k _ i _ h f unwritten = inr (region_word other i h, omega arith)
written_only other k _ i _ h f (written _ g _ _) = inl (same_number g f, refl)

pub written_accepts : (tokens : List Token) (i k : ℕ) → i + 1 < length tokens → EndsLast tokens → text tokens i ≡ mark.Reserved IN → text tokens (i + 1) ≡ mark.Number k → 1 ≤ k → k ≤ 4
    → Accepts ARegion is_region_word 1 tokens k i (i + 2)
written_accepts tokens i k inside ends h f low high = record {
  exact = record {
    forward = omega arith;
    read = λ limit enough other agrees. written (agrees i (omega arith) ∙ h) (agrees (i + 1) (omega arith) ∙ f) low high;
    only = λ limit other r n agrees x. written_only other k r i n (agrees i (omega arith) ∙ h) (agrees (i + 1) (omega arith) ∙ f) x;
  };
  inside = let e : i + 1 + 1 < length tokens = ends (i + 1) inside (λ e. no_end {m = mark.Number k} (lit< tt) (sym e ∙ f)) in omega arith;
}

region_none : (other : ℕ → Mark) (r i n : ℕ) → other i ≡ mark.Reserved IN → ((k : ℕ) → other (i + 1) ≡ mark.Number k → 1 ≤ k → k ≤ 4 → ⊥) → Region other r i n → (is_region_word (other n) ≡ true) × (n < i + 1)
region_none other _ i _ h f unwritten = (region_word other i h, omega arith)
region_none other _ i _ h f (written _ g a b) = absurd (f _ g a b)

pub region_misses : (tokens : List Token) (i : ℕ) → i + 1 < length tokens → text tokens i ≡ mark.Reserved IN → ((k : ℕ) → text tokens (i + 1) ≡ mark.Number k → 1 ≤ k → k ≤ 4 → ⊥)
    → Misses ARegion is_region_word tokens i (stop.Unexpected (i + 1))
region_misses tokens i inside h none = record {
  told = (
    record {
      reached = omega arith;
      value = 1;
      ahead = mark.Number 1 ∷ [];
      some = lit< tt;
      begun = λ limit roomy other n agrees holds. subst (λ (q : ℕ). Region other 1 i q) (let e : i + 2 ≡ n = omega (arith, holds.1) in e) (written (agrees i (omega arith) ∙ h) holds.0 (lit≤ tt) (lit≤ tt));
      ended = λ limit under other r n agrees x. region_none other r i n (agrees i (omega arith) ∙ h) (λ k e a b. none k (sym (agrees (i + 1) (omega arith)) ∙ e) a b) x;
    },
    inside,
  );
}

-- a primary expression that begins with none of the words and signs of the others is a literal

leaf_only : (opened : ℕ) (limit : ℕ → ℕ) (other : ℕ → Mark) (v : RawExpr) (i n : ℕ) → (other i ≡ mark.Sign OPEN → ⊥) → (other i ≡ mark.Reserved NOT → ⊥) → (other i ≡ mark.Reserved RECOVER → ⊥)
    → (other i ≡ mark.Reserved HAS → ⊥) → (other i ≡ mark.Reserved FAULT → ⊥) → (other i ≡ mark.Reserved SIZE → ⊥) → (other i ≡ mark.Reserved ARG → ⊥) → (other i ≡ mark.Reserved SELF → ⊥)
    → Reads other limit Primary opened v i n → Then ALiteral (λ w. Done (expr.Lit w)) other limit v i n
leaf_only opened limit other _ _ _ a b c d e f g h (literal_ {n = n} {v = v} x) = record { value = v; middle = n; first = x; second = record { is = refl; stays = refl } }
leaf_only opened limit other _ _ _ a b c d e f g h (arg x) = absurd (g x)
leaf_only opened limit other _ _ _ a b c d e f g h (own x) = absurd (h x)
leaf_only opened limit other _ _ _ a b c d e f g h (brackets x _ _) = absurd (a x)
leaf_only opened limit other _ _ _ a b c d e f g h (negation x _ _ _) = absurd (b x)
leaf_only opened limit other _ _ _ a b c d e f g h (recovery x _ _ _ _ _) = absurd (c x)
leaf_only opened limit other _ _ _ a b c d e f g h (fault x _ _ _ _ _) = absurd (e x)
leaf_only opened limit other _ _ _ a b c d e f g h (size x _ _ _) = absurd (f x)
leaf_only opened limit other _ _ _ a b c d e f g h (membership x _ _ _ _ _) = absurd (d x)

pub leaf_stage : (opened : ℕ) (tokens : List Token) (i : ℕ) → (text tokens i ≡ mark.Sign OPEN → ⊥) → (text tokens i ≡ mark.Reserved NOT → ⊥) → (text tokens i ≡ mark.Reserved RECOVER → ⊥)
    → (text tokens i ≡ mark.Reserved HAS → ⊥) → (text tokens i ≡ mark.Reserved FAULT → ⊥) → (text tokens i ≡ mark.Reserved SIZE → ⊥) → (text tokens i ≡ mark.Reserved ARG → ⊥) → (text tokens i ≡ mark.Reserved SELF → ⊥)
    → Stage (APhrase Primary opened) nothing tokens 1 i i (Then ALiteral (λ w. Done (expr.Lit w)))
leaf_stage opened tokens i a b c d e f g h = record {
  so_far = record {
    forward = omega arith;
    build = λ limit enough other v n agrees r. moved (λ x q. Reads other limit Primary opened x i q) (literal_ r.first) r.second.is r.second.stays;
    invert = λ limit other v n agrees x.
        let s : text tokens i ≡ other i = sym (agrees i (omega arith)) in
        inl (leaf_only opened limit other v i n (λ y. a (s ∙ y)) (λ y. b (s ∙ y)) (λ y. c (s ∙ y)) (λ y. d (s ∙ y)) (λ y. e (s ∙ y)) (λ y. f (s ∙ y)) (λ y. g (s ∙ y)) (λ y. h (s ∙ y)) x);
  };
}

-- phrases that are read together

module _ {V : Type 0} (X : Language V) (goes_on : Mark → Bool) (tokens : List Token) (ahead i k : ℕ) where
  pub first_name_together : (Z : Listed ℕ → Language V) → Stage X goes_on tokens ahead i k (Then (Single (mark.Sign OPEN)) (λ _. Then Named (λ t. Then (Single (mark.Sign COMMA)) (λ _. Z t))))
      → Stage X goes_on tokens ahead i k (Then FirstName Z)
  first_name_together Z s = let g = s.so_far in record {
    so_far = record {
      forward = g.forward;
      build = λ limit enough other v n agrees r. g.build limit enough other v n agrees
          (let f = r.first in let d = f.second.second.second in
          record {
            value = f.value;
            middle = f.middle;
            first = f.first;
            second = record {
              value = f.second.value;
              middle = f.second.middle;
              first = f.second.first;
              second = record {
                value = tt;
                middle = f.second.second.middle;
                first = f.second.second.first;
                second = moved (λ (t : Listed ℕ) (q : ℕ). Z t other limit v q n) r.second (sym d.is) (sym d.stays);
              };
            };
          });
      invert = λ limit other v n agrees x. elim (g.invert limit other v n agrees x) [
        | inl r ↦ inl (record {
          value = r.second.value;
          middle = r.second.second.middle;
          first = record {
            value = r.value;
            middle = r.middle;
            first = r.first;
            second = record {
              value = r.second.value;
              middle = r.second.middle;
              first = r.second.first;
              second = record { value = tt; middle = r.second.second.middle; first = r.second.second.first; second = record { is = refl; stays = refl } };
            };
          };
          second = r.second.second.second;
        })
        | inr early ↦ inr early
      ];
    };
  }

  pub only_name_together : (Z : Listed ℕ → Language V) → Stage X goes_on tokens ahead i k (Then (Single (mark.Sign OPEN)) (λ _. Then Named (λ t. Then (Single (mark.Sign CLOSE)) (λ _. Z t))))
      → Stage X goes_on tokens ahead i k (Then OnlyName Z)
  only_name_together Z s = let g = s.so_far in record {
    so_far = record {
      forward = g.forward;
      build = λ limit enough other v n agrees r. g.build limit enough other v n agrees
          (let f = r.first in let d = f.second.second.second in
          record {
            value = f.value;
            middle = f.middle;
            first = f.first;
            second = record {
              value = f.second.value;
              middle = f.second.middle;
              first = f.second.first;
              second = record {
                value = tt;
                middle = f.second.second.middle;
                first = f.second.second.first;
                second = moved (λ (t : Listed ℕ) (q : ℕ). Z t other limit v q n) r.second (sym d.is) (sym d.stays);
              };
            };
          });
      invert = λ limit other v n agrees x. elim (g.invert limit other v n agrees x) [
        | inl r ↦ inl (record {
          value = r.second.value;
          middle = r.second.second.middle;
          first = record {
            value = r.value;
            middle = r.middle;
            first = r.first;
            second = record {
              value = r.second.value;
              middle = r.second.middle;
              first = r.second.first;
              second = record { value = tt; middle = r.second.second.middle; first = r.second.second.first; second = record { is = refl; stays = refl } };
            };
          };
          second = r.second.second.second;
        })
        | inr early ↦ inr early
      ];
    };
  }

  pub kind_together : (Z : Kind → Language V) → Stage X goes_on tokens ahead i k (Then (Single (mark.Sign COLON)) (λ _. Then AKind Z))
      → Stage X goes_on tokens ahead i k (Then KindPart Z)
  kind_together Z s = let g = s.so_far in record {
    so_far = record {
      forward = g.forward;
      build = λ limit enough other v n agrees r. g.build limit enough other v n agrees
          (let f = r.first in record { value = f.value; middle = f.middle; first = f.first; second = record { value = r.value; middle = r.middle; first = f.second; second = r.second } });
      invert = λ limit other v n agrees x. elim (g.invert limit other v n agrees x) [
        | inl r ↦ inl (record { value = r.second.value; middle = r.second.middle; first = record { value = r.value; middle = r.middle; first = r.first; second = r.second.first }; second = r.second.second })
        | inr early ↦ inr early
      ];
    };
  }

  pub start_together : (Z : Kind × RawLit → Language V) → Stage X goes_on tokens ahead i k (Then (Single (mark.Sign COLON)) (λ _. Then AKind (λ k. Then (Single (mark.Sign EQUALS)) (λ _. Then ALiteral (λ v. Z (k, v))))))
      → Stage X goes_on tokens ahead i k (Then StartPart Z)
  start_together Z s = let g = s.so_far in record {
    so_far = record {
      forward = g.forward;
      build = λ limit enough other v n agrees r. g.build limit enough other v n agrees
          (let f = r.first in let p = f.first in let d = f.second.second.second in
          record {
            value = p.value;
            middle = p.middle;
            first = p.first;
            second = record {
              value = f.value;
              middle = f.middle;
              first = p.second;
              second = record {
                value = f.second.value;
                middle = f.second.middle;
                first = f.second.first;
                second = record {
                  value = f.second.second.value;
                  middle = f.second.second.middle;
                  first = f.second.second.first;
                  second = moved (λ (t : Kind × RawLit) (q : ℕ). Z t other limit v q n) r.second (sym d.is) (sym d.stays);
                };
              };
            };
          });
      invert = λ limit other v n agrees x. elim (g.invert limit other v n agrees x) [
        | inl r ↦ inl (let a = r.second in let b = a.second in let d = b.second in record {
          value = (a.value, d.value);
          middle = d.middle;
          first = record {
            value = a.value;
            middle = a.middle;
            first = record { value = r.value; middle = r.middle; first = r.first; second = a.first };
            second = record { value = b.value; middle = b.middle; first = b.first; second = record { value = d.value; middle = d.middle; first = d.first; second = record { is = refl; stays = refl } } };
          };
          second = d.second;
        })
        | inr early ↦ inr early
      ];
    };
  }

pub no_end_word : {w : ℕ} {m : Mark} → m ≡ mark.Reserved w → m ≡ mark.End → ⊥
no_end_word e f = cc

pub no_end_sign : {s : ℕ} {m : Mark} → m ≡ mark.Sign s → m ≡ mark.End → ⊥
no_end_sign e f = cc

pub inside_next : (tokens : List Token) (i : ℕ) → i < length tokens → EndsLast tokens → (text tokens i ≡ mark.End → ⊥) → i + 1 < length tokens
inside_next tokens i inside ends h = ends i inside h

same_code : {m : Mark} {a b : ℕ} → m ≡ mark.Number a → m ≡ mark.Number b → b ≡ a
same_code e f = cc

no_end_number : {n : ℕ} → mark.End ≡ mark.Number n → ⊥
no_end_number e = cc

pub code_accepts : (tokens : List Token) (i k : ℕ) → i < length tokens → EndsLast tokens → text tokens i ≡ mark.Number k → 100 ≤ k → k ≤ 999 → Accepts FaultCode nothing 0 tokens k i (i + 1)
code_accepts tokens i k inside ends h low high = one_accepts (λ m code. (m ≡ mark.Number code) × (100 ≤ code) × (code ≤ 999)) tokens i k inside ends (λ e. no_end_number e.0) (h, low, high) (λ u g. same_code h g.0)

pub code_misses : (tokens : List Token) (i : ℕ) → i < length tokens → ((k : ℕ) → text tokens i ≡ mark.Number k → 100 ≤ k → k ≤ 999 → ⊥) → Misses FaultCode nothing tokens i (stop.Unexpected i)
code_misses tokens i inside none = one_misses (λ m code. (m ≡ mark.Number code) × (100 ≤ code) × (code ≤ 999)) tokens i 100 (mark.Number 100) inside (refl, lit≤ tt, lit≤ tt) (λ k e. none k e.0 e.1 e.2)

-- a literal is at least one mark long
literal_longer : (other : ℕ → Mark) (v : RawLit) (i n : ℕ) → Literal other v i n → i < n
literal_longer other _ _ _ (number _ _) = omega arith
literal_longer other _ _ _ (negative _ _ _) = omega arith
literal_longer other _ _ _ (truth _) = omega arith
literal_longer other _ _ _ (falsity _) = omega arith
literal_longer other _ _ _ (name _) = omega arith

pub next_one_literal : {V : Type 0} {X : Language V} {goes_on : Mark → Bool} {tokens : List Token} {i k k' : ℕ} {Z : RawLit → Language V} {v : RawLit}
    → Stage X goes_on tokens 1 i k (Then ALiteral Z) → Accepts ALiteral nothing 0 tokens v k k' → Stage X goes_on tokens 0 i k' (Z v)
next_one_literal {V} {X} {goes_on} {tokens} {i} {k} {k'} {Z} {v} s e =
    let longer : k < k' = literal_longer (text tokens) v k k' (e.exact.read (λ _. 128) (λ _. lit≤ tt) (text tokens) (λ _ _. refl)) in
    record { so_far = so_next X goes_on (text tokens) (k + 1) (k' + 0) i k k' ALiteral Z nothing v s.so_far e.exact (omega arith) after_nothing }
