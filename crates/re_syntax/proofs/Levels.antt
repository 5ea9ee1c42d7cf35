use Rattle.std.proofs.Common.{ℕ, ◌+◌, ◌-◌, ◌<◌, ◌≤◌, ◌≡◌, ◌⊎◌, inl, inr, Bool, true, false, List, [], ◌∷◌, length, Option, Some, None, pos, refl, sym, subst, ◌∙◌, ap, arith, lit<}
use Rattle.re_terms.specs.declared.reserved.TheConstants.{IF, THEN, ELSE, IN}
use Rattle.re_terms.specs.declared.signs.TheConstants.{COMMA, CLOSE, SEMICOLON}
use Rattle.re_terms.specs.declared.token.Token.{Token}
use Rattle.re_terms.specs.declared.token.Mark.{Mark}
use Rattle.re_terms.specs.declared.token.Mark.TheVariants as mark
use Rattle.re_terms.specs.declared.expr.Op.{Op}
use Rattle.re_terms.specs.declared.raw_expr.RawLit.TheVariants as literal
use Rattle.re_terms.specs.declared.raw_expr.RawExpr.{RawExpr}
use Rattle.re_terms.specs.declared.raw_expr.RawExpr.TheVariants as expr
use Rattle.re_syntax.specs.declared.stop.Stop.TheVariants as stop
use Rattle.re_syntax.specs.Grammar.{operator_of, level_of, number, negative, truth, falsity, name, Expression, Level, Further, Primary, Reads, condition, plain, operands, primary, last, again, once, literal_, arg, own, brackets, negation, recovery, fault, size, membership}
use Rattle.re_syntax.specs.Steps.{Language, text, nothing, joins, binds_from, extends, EndsLast, Accepts, StopsBehind, Never, Then, Done, Single, APhrase, AnExpression}
use Rattle.re_syntax.proofs.Steps.{SoFar, Completes, Follows, Includes, no_true, so_ends}
use Rattle.re_syntax.proofs.Tokens.{Stage}
use Rattle.re_syntax.proofs.Rules.{clash, moved}

-- the number 0 is an expression of each level

zero_primary : (opened : ℕ) (limit : ℕ → ℕ) (other : ℕ → Mark) (k : ℕ) → other k ≡ mark.Number 0 → Reads other limit Primary opened (expr.Lit (literal.Int (pos 0))) k (k + 1)
zero_primary opened limit other k h = literal_ (number h (lit< tt))

zero_level : (opened : ℕ) (limit : ℕ → ℕ) (other : ℕ → Mark) (k : ℕ) → other k ≡ mark.Number 0 → Reads other limit (Level 0) opened (expr.Lit (literal.Int (pos 0))) k (k + 1)
zero_level opened limit other k h =
    operands (lit< tt) (operands (lit< tt) (operands (lit< tt) (operands (lit< tt) (operands (lit< tt) (primary refl (zero_primary opened limit other k h)) last) last) last) last) last

pub expression_completes : (opened : ℕ) → opened ≤ 129 → Completes (AnExpression opened)
expression_completes opened few = record {
  value = expr.Lit (literal.Int (pos 0));
  ahead = mark.Number 0 ∷ [];
  whole = λ limit other k n room h. let enough : 129 ≤ limit k = room k (omega arith) in
      subst (λ (q : ℕ). Reads other limit Expression opened (expr.Lit (literal.Int (pos 0))) k q) (sym h.1) (plain (omega arith) (zero_level opened limit other k h.0));
}

pub further_completes : (level opened : ℕ) (l : RawExpr) → Completes (APhrase (Further level l) opened)
further_completes level opened l = record { value = l; ahead = []; whole = λ limit other k n room h. subst (λ (q : ℕ). Reads other limit (Further level l) opened l k q) (sym h) last }

-- expressions

no_primary_if : (opened : ℕ) (limit : ℕ → ℕ) (other : ℕ → Mark) (v : RawExpr) (i n : ℕ) → other i ≡ mark.Reserved IF → Reads other limit Primary opened v i n → ⊥
no_primary_if opened limit other _ _ _ h (literal_ (number g _)) = omega (arith, clash h g)
no_primary_if opened limit other _ _ _ h (literal_ (negative g _ _)) = omega (arith, clash h g)
no_primary_if opened limit other _ _ _ h (literal_ (truth g)) = omega (arith, clash h g)
no_primary_if opened limit other _ _ _ h (literal_ (falsity g)) = omega (arith, clash h g)
no_primary_if opened limit other _ _ _ h (literal_ (name g)) = omega (arith, clash h g)
no_primary_if opened limit other _ _ _ h (arg g) = omega (arith, clash h g)
no_primary_if opened limit other _ _ _ h (own g) = omega (arith, clash h g)
no_primary_if opened limit other _ _ _ h (brackets g _ _) = omega (arith, clash h g)
no_primary_if opened limit other _ _ _ h (negation g _ _ _) = omega (arith, clash h g)
no_primary_if opened limit other _ _ _ h (recovery g _ _ _ _ _) = omega (arith, clash h g)
no_primary_if opened limit other _ _ _ h (fault g _ _ _ _ _) = omega (arith, clash h g)
no_primary_if opened limit other _ _ _ h (size g _ _ _) = omega (arith, clash h g)
no_primary_if opened limit other _ _ _ h (membership g _ _ _ _ _) = omega (arith, clash h g)

pub no_level_if : {other : ℕ → Mark} {limit : ℕ → ℕ} {level opened : ℕ} {v : RawExpr} {i n : ℕ} → other i ≡ mark.Reserved IF → Reads other limit (Level level) opened v i n → ⊥
no_level_if h (operands _ x _) = no_level_if h x
no_level_if {other} {limit} h (primary {opened = opened} {i = i} {n = n} {e = e} _ x) = no_primary_if opened limit other e i n h x

abbrev pub condition_rest : ℕ → Language RawExpr
condition_rest opened = Then (AnExpression (opened + 1)) (λ c. Then (Single (mark.Reserved THEN)) (λ _. Then (AnExpression (opened + 1)) (λ a. Then (Single (mark.Reserved ELSE)) (λ _.
    Then (AnExpression (opened + 1)) (λ b. Done (expr.If c a b))))))

condition_builds : (opened : ℕ) (limit : ℕ → ℕ) (other : ℕ → Mark) (v : RawExpr) (i n : ℕ) → opened ≤ limit i → other i ≡ mark.Reserved IF → condition_rest opened other limit v (i + 1) n → Reads other limit Expression opened v i n
condition_builds opened limit other v i n few h r =
    let a = r.second in let b = a.second in let c = b.second in let d = c.second in
    moved (λ x q. Reads other limit Expression opened x i q)
    (condition few h r.first a.first.fits (subst (λ (q : ℕ). Reads other limit Expression (opened + 1) b.value q b.middle) a.first.next b.first) c.first.fits
    (subst (λ (q : ℕ). Reads other limit Expression (opened + 1) d.value q d.middle) c.first.next d.first)) d.second.is d.second.stays

condition_inverts : (opened : ℕ) (limit : ℕ → ℕ) (other : ℕ → Mark) (v : RawExpr) (i n : ℕ) → other i ≡ mark.Reserved IF → Reads other limit Expression opened v i n → condition_rest opened other limit v (i + 1) n
condition_inverts opened limit other _ _ _ h (condition {j = j} {k = k} {n = n} {c = c} {a = a} {b = b} _ _ x p y q z) =
    record {
      value = c;
      middle = j;
      first = x;
      second = record {
        value = tt;
        middle = j + 1;
        first = record { fits = p; next = refl };
        second = record {
          value = a;
          middle = k;
          first = y;
          second = record {
            value = tt;
            middle = k + 1;
            first = record { fits = q; next = refl };
            second = record { value = b; middle = n; first = z; second = record { is = refl; stays = refl } };
          };
        };
      };
    }
condition_inverts opened limit other _ _ _ h (plain _ x) = absurd (no_level_if h x)

pub condition_stage : (opened : ℕ) (tokens : List Token) (i : ℕ) → opened ≤ 128 → text tokens i ≡ mark.Reserved IF → Stage (AnExpression opened) (joins 0) tokens 0 i (i + 1) (condition_rest opened)
condition_stage opened tokens i few h = record {
  so_far = record {
    forward = omega arith;
    build = λ limit enough other v n agrees r. let e : 128 ≤ limit i = enough i in condition_builds opened limit other v i n (omega arith) (agrees i (omega arith) ∙ h) r;
    invert = λ limit other v n agrees x. inl (condition_inverts opened limit other v i n (agrees i (omega arith) ∙ h) x);
  };
}

plain_inverts : (opened : ℕ) (limit : ℕ → ℕ) (other : ℕ → Mark) (v : RawExpr) (i n : ℕ) → (other i ≡ mark.Reserved IF → ⊥) → Reads other limit Expression opened v i n → Reads other limit (Level 0) opened v i n
plain_inverts opened limit other _ _ _ h (condition _ g _ _ _ _ _) = absurd (h g)
plain_inverts opened limit other _ _ _ h (plain _ x) = x

pub plain_stage : (opened : ℕ) (tokens : List Token) (i : ℕ) → opened ≤ 128 → (text tokens i ≡ mark.Reserved IF → ⊥) → SoFar (AnExpression opened) (joins 0) (text tokens) (i + 1) i i (APhrase (Level 0) opened)
plain_stage opened tokens i few h = record {
  forward = omega arith;
  build = λ limit enough other v n agrees r. let e : 128 ≤ limit i = enough i in plain (omega arith) r;
  invert = λ limit other v n agrees x. inl (plain_inverts opened limit other v i n (λ e. h (sym (agrees i (omega arith)) ∙ e)) x);
}

-- levels

tightest_inverts : (opened : ℕ) (limit : ℕ → ℕ) (other : ℕ → Mark) (v : RawExpr) (level i n : ℕ) → level ≡ 5 → Reads other limit (Level level) opened v i n → Reads other limit Primary opened v i n
tightest_inverts opened limit other _ level _ _ h (operands b _ _) = absurd (omega (arith, b))
tightest_inverts opened limit other _ level _ _ h (primary _ x) = x

pub tightest_stage : (opened level : ℕ) (tokens : List Token) (i : ℕ) → level ≡ 5 → Stage (APhrase (Level level) opened) (joins level) tokens 0 i i (APhrase Primary opened)
tightest_stage opened level tokens i h = record {
  so_far = record {
    forward = omega arith;
    build = λ limit enough other v n agrees r. primary h r;
    invert = λ limit other v n agrees x. inl (tightest_inverts opened limit other v level i n h x);
  };
}

operands_inverts : (opened : ℕ) (limit : ℕ → ℕ) (other : ℕ → Mark) (v : RawExpr) (level i n : ℕ) → level < 5 → Reads other limit (Level level) opened v i n
    → Then (APhrase (Level (level + 1)) opened) (λ a. APhrase (Further level a) opened) other limit v i n
operands_inverts opened limit other _ level _ _ h (operands {k = k} {l = l} _ x y) = record { value = l; middle = k; first = x; second = y }
operands_inverts opened limit other _ level _ _ h (primary e _) = absurd (omega arith)

pub operands_stage : (opened level : ℕ) (tokens : List Token) (i : ℕ) → level < 5
    → Stage (APhrase (Level level) opened) (joins level) tokens 0 i i (Then (APhrase (Level (level + 1)) opened) (λ a. APhrase (Further level a) opened))
operands_stage opened level tokens i h = record {
  so_far = record {
    forward = omega arith;
    build = λ limit enough other v n agrees r. operands h r.first r.second;
    invert = λ limit other v n agrees x. inl (operands_inverts opened limit other v level i n h x);
  };
}

binds_less : (level : ℕ) (o : Option Op) → binds_from (level + 1) o ≡ true → binds_from level o ≡ true
binds_less level None h = absurd (no_true h)
binds_less level (Some o) h = grind arith

binds_some : (level : ℕ) (m : Option Op) (o : Op) → m ≡ Some o → level_of o ≡ level → binds_from level m ≡ true
binds_some level m o h e = grind arith

binds_not : (level : ℕ) (m : Option Op) (o : Op) → m ≡ Some o → level_of o ≡ level → binds_from (level + 1) m ≡ true → ⊥
binds_not level m o h e b = grind arith

further_ends : (opened : ℕ) (limit : ℕ → ℕ) (other : ℕ → Mark) (l v : RawExpr) (level k n : ℕ) → joins (level + 1) (other k) ≡ true → Reads other limit (Further level l) opened v k n
    → (joins level (other n) ≡ true) × (n ≡ k)
further_ends opened limit other _ _ level k _ j last = (binds_less level (operator_of (other k)) j, refl)
further_ends opened limit other _ _ level k _ j (again {o = o} h e _ _ _) = absurd (binds_not level (operator_of (other k)) o h e j)
further_ends opened limit other _ _ level k _ j (once {o = o} h e _ _) = absurd (binds_not level (operator_of (other k)) o h e j)

pub after_operand : (opened level : ℕ) (f : RawExpr → RawExpr) → Follows (joins (level + 1)) (λ a. APhrase (Further level (f a)) opened) (joins level)
after_operand opened level f = record { at_once = λ limit other a v k n j x. further_ends opened limit other (f a) v level k n j x }

pub joins_less : (level : ℕ) → Includes (joins (level + 1)) (joins level)
joins_less level = record { each = λ m h. binds_less level (operator_of m) h }

-- an operator goes on with a chain

again_inverts : (opened : ℕ) (limit : ℕ → ℕ) (other : ℕ → Mark) (l v : RawExpr) (level k n : ℕ) (o : Op) → operator_of (other k) ≡ Some o → level_of o ≡ level → (level ≡ 2 → ⊥) → Reads other limit (Further level l) opened v k n
    → Then (APhrase (Level (level + 1)) opened) (λ r. APhrase (Further level (expr.Bin o l r)) opened) other limit v (k + 1) n ⊎ ((joins level (other n) ≡ true) × (n < k + 1))
again_inverts opened limit other _ _ level k _ o h e chained last = inr (binds_some level (operator_of (other k)) o h e, omega arith)
again_inverts opened limit other l _ level k _ o h e chained (again {k = j} {n = n} {r = r} {e = v} {o = p} g _ _ x y) =
    let same : p ≡ o = same_operator g h in
    inl (record { value = r; middle = j; first = x; second = subst (λ (q : Op). Reads other limit (Further level (expr.Bin q l r)) opened v j n) same y })
  where
    same_operator : {m : Option Op} {a b : Op} → m ≡ Some a → m ≡ Some b → a ≡ b
    same_operator c d = cc
again_inverts opened limit other _ _ level k _ o h e chained (once _ _ two _) = absurd (chained two)

pub again_stage : {X : Language RawExpr} (opened level : ℕ) (tokens : List Token) (i k : ℕ) (l : RawExpr) (o : Op) → operator_of (text tokens k) ≡ Some o → level_of o ≡ level → (level ≡ 2 → ⊥)
    → Stage X (joins level) tokens 1 i k (APhrase (Further level l) opened)
    → Stage X (joins level) tokens 0 i (k + 1) (Then (APhrase (Level (level + 1)) opened) (λ r. APhrase (Further level (expr.Bin o l r)) opened))
again_stage {X} opened level tokens i k l o h e chained s = let g = s.so_far in let f = g.forward in record {
  so_far = record {
    forward = omega arith;
    build = λ limit enough other v n agrees r. g.build limit enough other v n (λ p below. agrees p (omega arith))
        (again (ap operator_of (agrees k (omega arith)) ∙ h) e chained r.first r.second);
    invert = λ limit other v n agrees x. elim (g.invert limit other v n (λ p below. agrees p (omega arith)) x) [
      | inl r ↦ again_inverts opened limit other l v level k n o (ap operator_of (agrees k (omega arith)) ∙ h) e chained r
      | inr early ↦ inr (early.0, omega (arith, early.1))
    ];
  };
}

-- no operator goes on with operands

ended_inverts : (opened : ℕ) (limit : ℕ → ℕ) (other : ℕ → Mark) (l v : RawExpr) (level k n : ℕ) → ((o : Op) → operator_of (other k) ≡ Some o → level_of o ≡ level → ⊥) → Reads other limit (Further level l) opened v k n
    → (v ≡ l) × (n ≡ k)
ended_inverts opened limit other _ _ level _ _ h last = (refl, refl)
ended_inverts opened limit other _ _ level _ _ h (again {o = o} g e _ _ _) = absurd (h o g e)
ended_inverts opened limit other _ _ level _ _ h (once {o = o} g e _ _) = absurd (h o g e)

pub ended_accepts : {X : Language RawExpr} (opened level : ℕ) (tokens : List Token) (i k : ℕ) (l : RawExpr) → ((o : Op) → operator_of (text tokens k) ≡ Some o → level_of o ≡ level → ⊥)
    → k < length tokens → Stage X (joins level) tokens 1 i k (APhrase (Further level l) opened) → Accepts X (joins level) 1 tokens l i k
ended_accepts {X} opened level tokens i k l h inside s = record {
  exact = so_ends X (joins level) (text tokens) (k + 1) (k + 1) i k k l (APhrase (Further level l) opened) nothing s.so_far
      (record {
        forward = omega arith;
        read = λ limit enough other agrees. last;
        only = λ limit other w m agrees x. inl (ended_inverts opened limit other l w level k m (λ o g e. h o (sym (ap operator_of (agrees k (omega arith))) ∙ g) e) x);
      }) (omega arith) (record { each = λ m e. absurd (no_true e) });
  inside = inside;
}

-- a comparison

once_inverts : (opened : ℕ) (limit : ℕ → ℕ) (other : ℕ → Mark) (l v : RawExpr) (k n : ℕ) (o : Op) → operator_of (other k) ≡ Some o → level_of o ≡ 2 → Reads other limit (Further 2 l) opened v k n
    → Then (APhrase (Level 3) opened) (λ r. Done (expr.Bin o l r)) other limit v (k + 1) n ⊎ ((joins 2 (other n) ≡ true) × (n < k + 1))
once_inverts opened limit other _ _ k _ o h e last = inr (binds_some 2 (operator_of (other k)) o h e, omega arith)
once_inverts opened limit other _ _ k _ o h e (again _ _ chained _ _) = absurd (chained refl)
once_inverts opened limit other l _ k _ o h e (once {n = n} {r = r} {o = p} g _ _ x) =
    let same : p ≡ o = same_operator g h in
    inl (record { value = r; middle = n; first = x; second = record { is = ap (λ (q : Op). expr.Bin q l r) same; stays = refl } })
  where
    same_operator : {m : Option Op} {a b : Op} → m ≡ Some a → m ≡ Some b → a ≡ b
    same_operator c d = cc

pub once_stage : {X : Language RawExpr} (opened : ℕ) (tokens : List Token) (i k : ℕ) (l : RawExpr) (o : Op) → operator_of (text tokens k) ≡ Some o → level_of o ≡ 2
    → Stage X (joins 2) tokens 1 i k (APhrase (Further 2 l) opened) → Stage X (joins 2) tokens 0 i (k + 1) (Then (APhrase (Level 3) opened) (λ r. Done (expr.Bin o l r)))
once_stage {X} opened tokens i k l o h e s = let g = s.so_far in let f = g.forward in record {
  so_far = record {
    forward = omega arith;
    build = λ limit enough other v n agrees r. g.build limit enough other v n (λ p below. agrees p (omega arith))
        (moved (λ x q. Reads other limit (Further 2 l) opened x k q) (once (ap operator_of (agrees k (omega arith)) ∙ h) e refl r.first) r.second.is r.second.stays);
    invert = λ limit other v n agrees x. elim (g.invert limit other v n (λ p below. agrees p (omega arith)) x) [
      | inl r ↦ once_inverts opened limit other l v k n o (ap operator_of (agrees k (omega arith)) ∙ h) e r
      | inr early ↦ inr (early.0, omega (arith, early.1))
    ];
  };
}

pub after_second : (o : Op) (l : RawExpr) → Follows (joins 3) (λ r. Done (expr.Bin o l r)) (joins 2)
after_second o l = record { at_once = λ limit other a v k n j x. (ap (joins 2) (ap other x.stays) ∙ binds_less 2 (operator_of (other k)) j, x.stays) }

-- marks that are no operators

pub no_close : operator_of (mark.Sign CLOSE) ≡ None
unfolding operator_of
no_close = refl

pub no_comma : operator_of (mark.Sign COMMA) ≡ None
unfolding operator_of
no_comma = refl

pub no_then : operator_of (mark.Reserved THEN) ≡ None
unfolding operator_of
no_then = refl

pub no_else : operator_of (mark.Reserved ELSE) ≡ None
unfolding operator_of
no_else = refl

pub no_in : operator_of (mark.Reserved IN) ≡ None
unfolding operator_of
no_in = refl

pub no_semicolon : extends (mark.Sign SEMICOLON) ≡ false
unfolding operator_of
no_semicolon = refl

pub after_done : {V : Type 0} {goes_on : Mark → Bool} (f : RawExpr → V) → Follows goes_on (λ a. Done (f a)) goes_on
after_done {V} {goes_on} f = record { at_once = λ limit other a v k n j x. (ap goes_on (ap other x.stays) ∙ j, x.stays) }

expression_within : {other : ℕ → Mark} {limit : ℕ → ℕ} {opened : ℕ} {v : RawExpr} {i n : ℕ} → Reads other limit Expression opened v i n → opened ≤ limit i
expression_within (condition few _ _ _ _ _ _) = few
expression_within (plain few _) = few

pub too_many : (opened : ℕ) (tokens : List Token) (i : ℕ) → 0 < i → i < length tokens → opened ≡ 128 → StopsBehind (AnExpression (opened + 1)) (joins 0) Never tokens i (stop.TooMany (i - 1))
too_many opened tokens i behind inside full = let here : i - 1 + 1 ≡ i = omega arith in record {
  told = (
    record {
      reached = omega arith;
      value = expr.Lit (literal.Int (pos 0));
      ahead = mark.Number 0 ∷ [];
      some = lit< tt;
      begun = λ limit roomy other n agrees holds.
          let h : other i ≡ mark.Number 0 = subst (λ (q : ℕ). other q ≡ mark.Number 0) here holds.0 in
          let few : 129 ≤ limit i = roomy.behind i (omega arith) in
          let far : i + 1 ≡ n = omega (arith, holds.1) in
          subst (λ (q : ℕ). Reads other limit Expression (opened + 1) (expr.Lit (literal.Int (pos 0))) i q) far (plain (omega arith) (zero_level (opened + 1) limit other i h));
      ended = λ limit under other w m agrees x. absurd (let few : opened + 1 ≤ limit i = expression_within x in let most : limit i ≤ 128 = under i (omega arith) in omega arith);
    },
    omega arith,
    λ s d. d,
  );
}

no_end_operator : (o : Op) → operator_of mark.End ≡ Some o → ⊥
unfolding operator_of
no_end_operator o e = cc

pub operator_inside : (tokens : List Token) (i : ℕ) (o : Op) → EndsLast tokens → i < length tokens → operator_of (text tokens i) ≡ Some o → i + 1 < length tokens
operator_inside tokens i o ends inside h = ends i inside (λ e. no_end_operator o (sym (ap operator_of e) ∙ h))
