use Rattle.std.proofs.Common.{ℕ, ◌+◌, ◌≡◌, inl, Bool, List, Some, refl, sym, subst, ◌∙◌, ap, arith}
use Rattle.re_terms.specs.Listed.{Listed}
use Rattle.re_terms.specs.declared.reserved.TheConstants.{DEVICE, SYMBOL, VAR, EVENT, SIGNAL, FOLD, COUNTER, SET, REGISTER, CHANGED, MAP, FILTER, EITHER, ON, DO, ARG, SELF, NOT, RECOVER, FAULT, SIZE, HAS}
use Rattle.re_terms.specs.declared.signs.TheConstants.{SEMICOLON, COLON, EQUALS, COMMA, OPEN, CLOSE}
use Rattle.re_terms.specs.declared.token.Token.{Token}
use Rattle.re_terms.specs.declared.token.Mark.{Mark}
use Rattle.re_terms.specs.declared.token.Mark.TheVariants as mark
use Rattle.re_terms.specs.declared.raw_expr.RawExpr.{RawExpr}
use Rattle.re_terms.specs.declared.raw_expr.RawExpr.TheVariants as expr
use Rattle.re_terms.specs.declared.raw.RawBody.{RawBody}
use Rattle.re_terms.specs.declared.raw.RawBody.TheVariants as body
use Rattle.re_terms.specs.declared.raw.RawDecl.{RawDecl}
use Rattle.re_syntax.specs.Grammar.{kind_of, Literal, number, negative, truth, falsity, name, Expression, Primary, Reads, literal_, arg, own, brackets, negation, recovery, fault, size, membership, Source, changed, mapped, filtered, either, Content, device, symbol, var, event, derived, signal, fold, counter, set, register, Declaration}
use Rattle.re_syntax.specs.Steps.{Language, text, IsEnough, nothing, extends, Then, Done, Single, Named, AKind, FaultCode, ALiteral, ARegion, APhrase, AnExpression, ASource, AContent, ADeclaration}
use Rattle.re_syntax.proofs.Tokens.{Stage}

-- a number for each form of mark
abbrev pub form : Mark → ℕ
form mark.End = 0
form (mark.Number n) = 1
form (mark.Name t) = 2
form (mark.Sign s) = 10 + s
form (mark.Reserved k) = 100 + k

pub clash : {x y m : Mark} → m ≡ x → m ≡ y → form x ≡ form y
clash e f = ap form (sym e ∙ f)

pub moved : {V : Type 0} (P : V → ℕ → Type 0) {v u : V} {n m : ℕ} → P u m → v ≡ u → n ≡ m → P v n
moved {V} P {v} {u} {n} {m} p e f = subst (λ (a : V). P a n) (sym e) (subst (λ (k : ℕ). P u k) (sym f) p)

pub same_name : {m : Mark} {t u : Listed ℕ} → m ≡ mark.Name t → m ≡ mark.Name u → t ≡ u
same_name e f = cc

pub same_number : {m : Mark} {a b : ℕ} → m ≡ mark.Number a → m ≡ mark.Number b → a ≡ b
same_number e f = cc

-- what was read so far is a mark that is known
pub stage_from : {V : Type 0} (X R : Language V) {goes_on : Mark → Bool} (tokens : List Token) (i : ℕ) (m : Mark) → text tokens i ≡ m
    → ((limit : ℕ → ℕ) (other : ℕ → Mark) (v : V) (n : ℕ) → IsEnough limit → other i ≡ m → R other limit v (i + 1) n → X other limit v i n)
    → ((limit : ℕ → ℕ) (other : ℕ → Mark) (v : V) (n : ℕ) → other i ≡ m → X other limit v i n → R other limit v (i + 1) n)
    → Stage X goes_on tokens 0 i (i + 1) R
stage_from X R tokens i m h build invert = record {
  so_far = record {
    forward = omega arith;
    build = λ limit enough other v n agrees r. build limit other v n enough (agrees i (omega arith) ∙ h) r;
    invert = λ limit other v n agrees x. inl (invert limit other v n (agrees i (omega arith) ∙ h) x);
  };
}

-- nothing was read so far
pub stage_at : {V : Type 0} (X R : Language V) {goes_on : Mark → Bool} (tokens : List Token) (i : ℕ)
    → ((limit : ℕ → ℕ) (other : ℕ → Mark) (v : V) (n : ℕ) → IsEnough limit → R other limit v i n → X other limit v i n)
    → ((limit : ℕ → ℕ) (other : ℕ → Mark) (v : V) (n : ℕ) → X other limit v i n → R other limit v i n)
    → Stage X goes_on tokens 0 i i R
stage_at X R tokens i build invert = record {
  so_far = record {
    forward = omega arith;
    build = λ limit enough other v n agrees r. build limit other v n enough r;
    invert = λ limit other v n agrees x. inl (invert limit other v n x);
  };
}

abbrev pub arg_rest : (opened : ℕ) → Language RawExpr
arg_rest opened = Done (expr.Arg)

arg_builds : (opened : ℕ) (limit : ℕ → ℕ) (other : ℕ → Mark) (v : RawExpr) (i n : ℕ) → other i ≡ mark.Reserved ARG → arg_rest opened other limit v (i + 1) n → Reads other limit Primary opened v i n
arg_builds opened limit other v i n h r =
    moved (λ a q. Reads other limit Primary opened a i q) (arg h) r.is (omega (arith, r.stays))

arg_inverts : (opened : ℕ) (limit : ℕ → ℕ) (other : ℕ → Mark) (v : RawExpr) (i n : ℕ) → other i ≡ mark.Reserved ARG → Reads other limit Primary opened v i n → arg_rest opened other limit v (i + 1) n
arg_inverts opened limit other _ _ _ h (literal_ (number g _)) = absurd (omega (arith, clash h g))
arg_inverts opened limit other _ _ _ h (literal_ (negative g _ _)) = absurd (omega (arith, clash h g))
arg_inverts opened limit other _ _ _ h (literal_ (truth g)) = absurd (omega (arith, clash h g))
arg_inverts opened limit other _ _ _ h (literal_ (falsity g)) = absurd (omega (arith, clash h g))
arg_inverts opened limit other _ _ _ h (literal_ (name g)) = absurd (omega (arith, clash h g))
arg_inverts opened limit other _ _ _ h (arg {i = i} g) = record { is = refl; stays = refl }
arg_inverts opened limit other _ _ _ h (own g) = absurd (omega (arith, clash h g))
arg_inverts opened limit other _ _ _ h (brackets g _ _) = absurd (omega (arith, clash h g))
arg_inverts opened limit other _ _ _ h (negation g _ _ _) = absurd (omega (arith, clash h g))
arg_inverts opened limit other _ _ _ h (recovery g _ _ _ _ _) = absurd (omega (arith, clash h g))
arg_inverts opened limit other _ _ _ h (fault g _ _ _ _ _) = absurd (omega (arith, clash h g))
arg_inverts opened limit other _ _ _ h (size g _ _ _) = absurd (omega (arith, clash h g))
arg_inverts opened limit other _ _ _ h (membership g _ _ _ _ _) = absurd (omega (arith, clash h g))

pub arg_stage : (opened : ℕ) (tokens : List Token) (i : ℕ) → text tokens i ≡ mark.Reserved ARG → Stage (APhrase Primary opened) nothing tokens 0 i (i + 1) (arg_rest opened)
arg_stage opened tokens i h = stage_from (APhrase Primary opened) (arg_rest opened) tokens i (mark.Reserved ARG) h (λ limit other v n enough e r. arg_builds opened limit other v i n e r) (λ limit other v n e x. arg_inverts opened limit other v i n e x)

abbrev pub own_rest : (opened : ℕ) → Language RawExpr
own_rest opened = Done (expr.Own)

own_builds : (opened : ℕ) (limit : ℕ → ℕ) (other : ℕ → Mark) (v : RawExpr) (i n : ℕ) → other i ≡ mark.Reserved SELF → own_rest opened other limit v (i + 1) n → Reads other limit Primary opened v i n
own_builds opened limit other v i n h r =
    moved (λ a q. Reads other limit Primary opened a i q) (own h) r.is (omega (arith, r.stays))

own_inverts : (opened : ℕ) (limit : ℕ → ℕ) (other : ℕ → Mark) (v : RawExpr) (i n : ℕ) → other i ≡ mark.Reserved SELF → Reads other limit Primary opened v i n → own_rest opened other limit v (i + 1) n
own_inverts opened limit other _ _ _ h (literal_ (number g _)) = absurd (omega (arith, clash h g))
own_inverts opened limit other _ _ _ h (literal_ (negative g _ _)) = absurd (omega (arith, clash h g))
own_inverts opened limit other _ _ _ h (literal_ (truth g)) = absurd (omega (arith, clash h g))
own_inverts opened limit other _ _ _ h (literal_ (falsity g)) = absurd (omega (arith, clash h g))
own_inverts opened limit other _ _ _ h (literal_ (name g)) = absurd (omega (arith, clash h g))
own_inverts opened limit other _ _ _ h (arg g) = absurd (omega (arith, clash h g))
own_inverts opened limit other _ _ _ h (own {i = i} g) = record { is = refl; stays = refl }
own_inverts opened limit other _ _ _ h (brackets g _ _) = absurd (omega (arith, clash h g))
own_inverts opened limit other _ _ _ h (negation g _ _ _) = absurd (omega (arith, clash h g))
own_inverts opened limit other _ _ _ h (recovery g _ _ _ _ _) = absurd (omega (arith, clash h g))
own_inverts opened limit other _ _ _ h (fault g _ _ _ _ _) = absurd (omega (arith, clash h g))
own_inverts opened limit other _ _ _ h (size g _ _ _) = absurd (omega (arith, clash h g))
own_inverts opened limit other _ _ _ h (membership g _ _ _ _ _) = absurd (omega (arith, clash h g))

pub own_stage : (opened : ℕ) (tokens : List Token) (i : ℕ) → text tokens i ≡ mark.Reserved SELF → Stage (APhrase Primary opened) nothing tokens 0 i (i + 1) (own_rest opened)
own_stage opened tokens i h = stage_from (APhrase Primary opened) (own_rest opened) tokens i (mark.Reserved SELF) h (λ limit other v n enough e r. own_builds opened limit other v i n e r) (λ limit other v n e x. own_inverts opened limit other v i n e x)

abbrev pub brackets_rest : (opened : ℕ) → Language RawExpr
brackets_rest opened = Then (AnExpression (opened + 1)) (λ e. Then (Single (mark.Sign CLOSE)) (λ _. Done (e)))

brackets_builds : (opened : ℕ) (limit : ℕ → ℕ) (other : ℕ → Mark) (v : RawExpr) (i n : ℕ) → other i ≡ mark.Sign OPEN → brackets_rest opened other limit v (i + 1) n → Reads other limit Primary opened v i n
brackets_builds opened limit other v i n h r =
    let e2 : r.second.middle ≡ r.middle + 1 = omega (arith, r.second.first.next) in
    moved (λ a q. Reads other limit Primary opened a i q) (brackets h r.first r.second.first.fits) r.second.second.is (omega (arith, r.second.second.stays, e2))

brackets_inverts : (opened : ℕ) (limit : ℕ → ℕ) (other : ℕ → Mark) (v : RawExpr) (i n : ℕ) → other i ≡ mark.Sign OPEN → Reads other limit Primary opened v i n → brackets_rest opened other limit v (i + 1) n
brackets_inverts opened limit other _ _ _ h (literal_ (number g _)) = absurd (omega (arith, clash h g))
brackets_inverts opened limit other _ _ _ h (literal_ (negative g _ _)) = absurd (omega (arith, clash h g))
brackets_inverts opened limit other _ _ _ h (literal_ (truth g)) = absurd (omega (arith, clash h g))
brackets_inverts opened limit other _ _ _ h (literal_ (falsity g)) = absurd (omega (arith, clash h g))
brackets_inverts opened limit other _ _ _ h (literal_ (name g)) = absurd (omega (arith, clash h g))
brackets_inverts opened limit other _ _ _ h (arg g) = absurd (omega (arith, clash h g))
brackets_inverts opened limit other _ _ _ h (own g) = absurd (omega (arith, clash h g))
brackets_inverts opened limit other _ _ _ h (brackets {i = i} {n = m} {e = e} g a0 a1) = record { value = e; middle = m; first = a0; second = record { value = tt; middle = m + 1; first = record { fits = a1; next = omega arith }; second = record { is = refl; stays = refl } } }
brackets_inverts opened limit other _ _ _ h (negation g _ _ _) = absurd (omega (arith, clash h g))
brackets_inverts opened limit other _ _ _ h (recovery g _ _ _ _ _) = absurd (omega (arith, clash h g))
brackets_inverts opened limit other _ _ _ h (fault g _ _ _ _ _) = absurd (omega (arith, clash h g))
brackets_inverts opened limit other _ _ _ h (size g _ _ _) = absurd (omega (arith, clash h g))
brackets_inverts opened limit other _ _ _ h (membership g _ _ _ _ _) = absurd (omega (arith, clash h g))

pub brackets_stage : (opened : ℕ) (tokens : List Token) (i : ℕ) → text tokens i ≡ mark.Sign OPEN → Stage (APhrase Primary opened) nothing tokens 0 i (i + 1) (brackets_rest opened)
brackets_stage opened tokens i h = stage_from (APhrase Primary opened) (brackets_rest opened) tokens i (mark.Sign OPEN) h (λ limit other v n enough e r. brackets_builds opened limit other v i n e r) (λ limit other v n e x. brackets_inverts opened limit other v i n e x)

abbrev pub negation_rest : (opened : ℕ) → Language RawExpr
negation_rest opened = Then (Single (mark.Sign OPEN)) (λ _. Then (AnExpression (opened + 1)) (λ e. Then (Single (mark.Sign CLOSE)) (λ _. Done (expr.Not e))))

negation_builds : (opened : ℕ) (limit : ℕ → ℕ) (other : ℕ → Mark) (v : RawExpr) (i n : ℕ) → other i ≡ mark.Reserved NOT → negation_rest opened other limit v (i + 1) n → Reads other limit Primary opened v i n
negation_builds opened limit other v i n h r =
    let e1 : r.middle ≡ i + 2 = omega (arith, r.first.next) in
    let e3 : r.second.second.middle ≡ r.second.middle + 1 = omega (arith, r.second.second.first.next) in
    moved (λ a q. Reads other limit Primary opened a i q) (negation h r.first.fits (subst (λ (q : ℕ). Reads other limit Expression (opened + 1) r.second.value q r.second.middle) e1 r.second.first) r.second.second.first.fits) r.second.second.second.is (omega (arith, r.second.second.second.stays, e3))

negation_inverts : (opened : ℕ) (limit : ℕ → ℕ) (other : ℕ → Mark) (v : RawExpr) (i n : ℕ) → other i ≡ mark.Reserved NOT → Reads other limit Primary opened v i n → negation_rest opened other limit v (i + 1) n
negation_inverts opened limit other _ _ _ h (literal_ (number g _)) = absurd (omega (arith, clash h g))
negation_inverts opened limit other _ _ _ h (literal_ (negative g _ _)) = absurd (omega (arith, clash h g))
negation_inverts opened limit other _ _ _ h (literal_ (truth g)) = absurd (omega (arith, clash h g))
negation_inverts opened limit other _ _ _ h (literal_ (falsity g)) = absurd (omega (arith, clash h g))
negation_inverts opened limit other _ _ _ h (literal_ (name g)) = absurd (omega (arith, clash h g))
negation_inverts opened limit other _ _ _ h (arg g) = absurd (omega (arith, clash h g))
negation_inverts opened limit other _ _ _ h (own g) = absurd (omega (arith, clash h g))
negation_inverts opened limit other _ _ _ h (brackets g _ _) = absurd (omega (arith, clash h g))
negation_inverts opened limit other _ _ _ h (negation {i = i} {n = m} {e = e} g a0 a1 a2) = record { value = tt; middle = i + 2; first = record { fits = a0; next = omega arith }; second = record { value = e; middle = m; first = a1; second = record { value = tt; middle = m + 1; first = record { fits = a2; next = omega arith }; second = record { is = refl; stays = refl } } } }
negation_inverts opened limit other _ _ _ h (recovery g _ _ _ _ _) = absurd (omega (arith, clash h g))
negation_inverts opened limit other _ _ _ h (fault g _ _ _ _ _) = absurd (omega (arith, clash h g))
negation_inverts opened limit other _ _ _ h (size g _ _ _) = absurd (omega (arith, clash h g))
negation_inverts opened limit other _ _ _ h (membership g _ _ _ _ _) = absurd (omega (arith, clash h g))

pub negation_stage : (opened : ℕ) (tokens : List Token) (i : ℕ) → text tokens i ≡ mark.Reserved NOT → Stage (APhrase Primary opened) nothing tokens 0 i (i + 1) (negation_rest opened)
negation_stage opened tokens i h = stage_from (APhrase Primary opened) (negation_rest opened) tokens i (mark.Reserved NOT) h (λ limit other v n enough e r. negation_builds opened limit other v i n e r) (λ limit other v n e x. negation_inverts opened limit other v i n e x)

abbrev pub recovery_rest : (opened : ℕ) → Language RawExpr
recovery_rest opened = Then (Single (mark.Sign OPEN)) (λ _. Then (AnExpression (opened + 1)) (λ a. Then (Single (mark.Sign COMMA)) (λ _. Then (AnExpression (opened + 1)) (λ b. Then (Single (mark.Sign CLOSE)) (λ _. Done (expr.Recover a b))))))

recovery_builds : (opened : ℕ) (limit : ℕ → ℕ) (other : ℕ → Mark) (v : RawExpr) (i n : ℕ) → other i ≡ mark.Reserved RECOVER → recovery_rest opened other limit v (i + 1) n → Reads other limit Primary opened v i n
recovery_builds opened limit other v i n h r =
    let e1 : r.middle ≡ i + 2 = omega (arith, r.first.next) in
    let e3 : r.second.second.middle ≡ r.second.middle + 1 = omega (arith, r.second.second.first.next) in
    let e5 : r.second.second.second.second.middle ≡ r.second.second.second.middle + 1 = omega (arith, r.second.second.second.second.first.next) in
    moved (λ a q. Reads other limit Primary opened a i q) (recovery h r.first.fits (subst (λ (q : ℕ). Reads other limit Expression (opened + 1) r.second.value q r.second.middle) e1 r.second.first) r.second.second.first.fits (subst (λ (q : ℕ). Reads other limit Expression (opened + 1) r.second.second.second.value q r.second.second.second.middle) e3 r.second.second.second.first) r.second.second.second.second.first.fits) r.second.second.second.second.second.is (omega (arith, r.second.second.second.second.second.stays, e5))

recovery_inverts : (opened : ℕ) (limit : ℕ → ℕ) (other : ℕ → Mark) (v : RawExpr) (i n : ℕ) → other i ≡ mark.Reserved RECOVER → Reads other limit Primary opened v i n → recovery_rest opened other limit v (i + 1) n
recovery_inverts opened limit other _ _ _ h (literal_ (number g _)) = absurd (omega (arith, clash h g))
recovery_inverts opened limit other _ _ _ h (literal_ (negative g _ _)) = absurd (omega (arith, clash h g))
recovery_inverts opened limit other _ _ _ h (literal_ (truth g)) = absurd (omega (arith, clash h g))
recovery_inverts opened limit other _ _ _ h (literal_ (falsity g)) = absurd (omega (arith, clash h g))
recovery_inverts opened limit other _ _ _ h (literal_ (name g)) = absurd (omega (arith, clash h g))
recovery_inverts opened limit other _ _ _ h (arg g) = absurd (omega (arith, clash h g))
recovery_inverts opened limit other _ _ _ h (own g) = absurd (omega (arith, clash h g))
recovery_inverts opened limit other _ _ _ h (brackets g _ _) = absurd (omega (arith, clash h g))
recovery_inverts opened limit other _ _ _ h (negation g _ _ _) = absurd (omega (arith, clash h g))
recovery_inverts opened limit other _ _ _ h (recovery {i = i} {k = k} {n = m} {a = a} {b = b} g a0 a1 a2 a3 a4) = record { value = tt; middle = i + 2; first = record { fits = a0; next = omega arith }; second = record { value = a; middle = k; first = a1; second = record { value = tt; middle = k + 1; first = record { fits = a2; next = omega arith }; second = record { value = b; middle = m; first = a3; second = record { value = tt; middle = m + 1; first = record { fits = a4; next = omega arith }; second = record { is = refl; stays = refl } } } } } }
recovery_inverts opened limit other _ _ _ h (fault g _ _ _ _ _) = absurd (omega (arith, clash h g))
recovery_inverts opened limit other _ _ _ h (size g _ _ _) = absurd (omega (arith, clash h g))
recovery_inverts opened limit other _ _ _ h (membership g _ _ _ _ _) = absurd (omega (arith, clash h g))

pub recovery_stage : (opened : ℕ) (tokens : List Token) (i : ℕ) → text tokens i ≡ mark.Reserved RECOVER → Stage (APhrase Primary opened) nothing tokens 0 i (i + 1) (recovery_rest opened)
recovery_stage opened tokens i h = stage_from (APhrase Primary opened) (recovery_rest opened) tokens i (mark.Reserved RECOVER) h (λ limit other v n enough e r. recovery_builds opened limit other v i n e r) (λ limit other v n e x. recovery_inverts opened limit other v i n e x)

abbrev pub fault_rest : (opened : ℕ) → Language RawExpr
fault_rest opened = Then (Single (mark.Sign OPEN)) (λ _. Then FaultCode (λ code. Then (Single (mark.Sign CLOSE)) (λ _. Done (expr.Fault code))))

fault_builds : (opened : ℕ) (limit : ℕ → ℕ) (other : ℕ → Mark) (v : RawExpr) (i n : ℕ) → other i ≡ mark.Reserved FAULT → fault_rest opened other limit v (i + 1) n → Reads other limit Primary opened v i n
fault_builds opened limit other v i n h r =
    let e1 : r.middle ≡ i + 2 = omega (arith, r.first.next) in
    let e2 : r.second.middle ≡ i + 3 = omega (arith, r.second.first.next, e1) in
    let e3 : r.second.second.middle ≡ i + 4 = omega (arith, r.second.second.first.next, e2) in
    moved (λ a q. Reads other limit Primary opened a i q) (fault h r.first.fits (subst (λ (q : ℕ). other q ≡ mark.Number r.second.value) e1 r.second.first.fits.0) r.second.first.fits.1 r.second.first.fits.2 (subst (λ (q : ℕ). other q ≡ mark.Sign CLOSE) e2 r.second.second.first.fits)) r.second.second.second.is (omega (arith, r.second.second.second.stays, e3))

fault_inverts : (opened : ℕ) (limit : ℕ → ℕ) (other : ℕ → Mark) (v : RawExpr) (i n : ℕ) → other i ≡ mark.Reserved FAULT → Reads other limit Primary opened v i n → fault_rest opened other limit v (i + 1) n
fault_inverts opened limit other _ _ _ h (literal_ (number g _)) = absurd (omega (arith, clash h g))
fault_inverts opened limit other _ _ _ h (literal_ (negative g _ _)) = absurd (omega (arith, clash h g))
fault_inverts opened limit other _ _ _ h (literal_ (truth g)) = absurd (omega (arith, clash h g))
fault_inverts opened limit other _ _ _ h (literal_ (falsity g)) = absurd (omega (arith, clash h g))
fault_inverts opened limit other _ _ _ h (literal_ (name g)) = absurd (omega (arith, clash h g))
fault_inverts opened limit other _ _ _ h (arg g) = absurd (omega (arith, clash h g))
fault_inverts opened limit other _ _ _ h (own g) = absurd (omega (arith, clash h g))
fault_inverts opened limit other _ _ _ h (brackets g _ _) = absurd (omega (arith, clash h g))
fault_inverts opened limit other _ _ _ h (negation g _ _ _) = absurd (omega (arith, clash h g))
fault_inverts opened limit other _ _ _ h (recovery g _ _ _ _ _) = absurd (omega (arith, clash h g))
fault_inverts opened limit other _ _ _ h (fault {i = i} {code = code} g a0 a1 a2 a3 a4) = record { value = tt; middle = i + 2; first = record { fits = a0; next = omega arith }; second = record { value = code; middle = i + 3; first = record { fits = (a1, a2, a3); next = omega arith }; second = record { value = tt; middle = i + 4; first = record { fits = a4; next = omega arith }; second = record { is = refl; stays = refl } } } }
fault_inverts opened limit other _ _ _ h (size g _ _ _) = absurd (omega (arith, clash h g))
fault_inverts opened limit other _ _ _ h (membership g _ _ _ _ _) = absurd (omega (arith, clash h g))

pub fault_stage : (opened : ℕ) (tokens : List Token) (i : ℕ) → text tokens i ≡ mark.Reserved FAULT → Stage (APhrase Primary opened) nothing tokens 0 i (i + 1) (fault_rest opened)
fault_stage opened tokens i h = stage_from (APhrase Primary opened) (fault_rest opened) tokens i (mark.Reserved FAULT) h (λ limit other v n enough e r. fault_builds opened limit other v i n e r) (λ limit other v n e x. fault_inverts opened limit other v i n e x)

abbrev pub size_rest : (opened : ℕ) → Language RawExpr
size_rest opened = Then (Single (mark.Sign OPEN)) (λ _. Then Named (λ t. Then (Single (mark.Sign CLOSE)) (λ _. Done (expr.Size t))))

size_builds : (opened : ℕ) (limit : ℕ → ℕ) (other : ℕ → Mark) (v : RawExpr) (i n : ℕ) → other i ≡ mark.Reserved SIZE → size_rest opened other limit v (i + 1) n → Reads other limit Primary opened v i n
size_builds opened limit other v i n h r =
    let e1 : r.middle ≡ i + 2 = omega (arith, r.first.next) in
    let e2 : r.second.middle ≡ i + 3 = omega (arith, r.second.first.next, e1) in
    let e3 : r.second.second.middle ≡ i + 4 = omega (arith, r.second.second.first.next, e2) in
    moved (λ a q. Reads other limit Primary opened a i q) (size h r.first.fits (subst (λ (q : ℕ). other q ≡ mark.Name r.second.value) e1 r.second.first.fits) (subst (λ (q : ℕ). other q ≡ mark.Sign CLOSE) e2 r.second.second.first.fits)) r.second.second.second.is (omega (arith, r.second.second.second.stays, e3))

size_inverts : (opened : ℕ) (limit : ℕ → ℕ) (other : ℕ → Mark) (v : RawExpr) (i n : ℕ) → other i ≡ mark.Reserved SIZE → Reads other limit Primary opened v i n → size_rest opened other limit v (i + 1) n
size_inverts opened limit other _ _ _ h (literal_ (number g _)) = absurd (omega (arith, clash h g))
size_inverts opened limit other _ _ _ h (literal_ (negative g _ _)) = absurd (omega (arith, clash h g))
size_inverts opened limit other _ _ _ h (literal_ (truth g)) = absurd (omega (arith, clash h g))
size_inverts opened limit other _ _ _ h (literal_ (falsity g)) = absurd (omega (arith, clash h g))
size_inverts opened limit other _ _ _ h (literal_ (name g)) = absurd (omega (arith, clash h g))
size_inverts opened limit other _ _ _ h (arg g) = absurd (omega (arith, clash h g))
size_inverts opened limit other _ _ _ h (own g) = absurd (omega (arith, clash h g))
size_inverts opened limit other _ _ _ h (brackets g _ _) = absurd (omega (arith, clash h g))
size_inverts opened limit other _ _ _ h (negation g _ _ _) = absurd (omega (arith, clash h g))
size_inverts opened limit other _ _ _ h (recovery g _ _ _ _ _) = absurd (omega (arith, clash h g))
size_inverts opened limit other _ _ _ h (fault g _ _ _ _ _) = absurd (omega (arith, clash h g))
size_inverts opened limit other _ _ _ h (size {i = i} {t = t} g a0 a1 a2) = record { value = tt; middle = i + 2; first = record { fits = a0; next = omega arith }; second = record { value = t; middle = i + 3; first = record { fits = a1; next = omega arith }; second = record { value = tt; middle = i + 4; first = record { fits = a2; next = omega arith }; second = record { is = refl; stays = refl } } } }
size_inverts opened limit other _ _ _ h (membership g _ _ _ _ _) = absurd (omega (arith, clash h g))

pub size_stage : (opened : ℕ) (tokens : List Token) (i : ℕ) → text tokens i ≡ mark.Reserved SIZE → Stage (APhrase Primary opened) nothing tokens 0 i (i + 1) (size_rest opened)
size_stage opened tokens i h = stage_from (APhrase Primary opened) (size_rest opened) tokens i (mark.Reserved SIZE) h (λ limit other v n enough e r. size_builds opened limit other v i n e r) (λ limit other v n e x. size_inverts opened limit other v i n e x)

abbrev pub membership_rest : (opened : ℕ) → Language RawExpr
membership_rest opened = Then (Single (mark.Sign OPEN)) (λ _. Then Named (λ t. Then (Single (mark.Sign COMMA)) (λ _. Then (AnExpression (opened + 1)) (λ e. Then (Single (mark.Sign CLOSE)) (λ _. Done (expr.Has t e))))))

membership_builds : (opened : ℕ) (limit : ℕ → ℕ) (other : ℕ → Mark) (v : RawExpr) (i n : ℕ) → other i ≡ mark.Reserved HAS → membership_rest opened other limit v (i + 1) n → Reads other limit Primary opened v i n
membership_builds opened limit other v i n h r =
    let e1 : r.middle ≡ i + 2 = omega (arith, r.first.next) in
    let e2 : r.second.middle ≡ i + 3 = omega (arith, r.second.first.next, e1) in
    let e3 : r.second.second.middle ≡ i + 4 = omega (arith, r.second.second.first.next, e2) in
    let e5 : r.second.second.second.second.middle ≡ r.second.second.second.middle + 1 = omega (arith, r.second.second.second.second.first.next) in
    moved (λ a q. Reads other limit Primary opened a i q) (membership h r.first.fits (subst (λ (q : ℕ). other q ≡ mark.Name r.second.value) e1 r.second.first.fits) (subst (λ (q : ℕ). other q ≡ mark.Sign COMMA) e2 r.second.second.first.fits) (subst (λ (q : ℕ). Reads other limit Expression (opened + 1) r.second.second.second.value q r.second.second.second.middle) e3 r.second.second.second.first) r.second.second.second.second.first.fits) r.second.second.second.second.second.is (omega (arith, r.second.second.second.second.second.stays, e5))

membership_inverts : (opened : ℕ) (limit : ℕ → ℕ) (other : ℕ → Mark) (v : RawExpr) (i n : ℕ) → other i ≡ mark.Reserved HAS → Reads other limit Primary opened v i n → membership_rest opened other limit v (i + 1) n
membership_inverts opened limit other _ _ _ h (literal_ (number g _)) = absurd (omega (arith, clash h g))
membership_inverts opened limit other _ _ _ h (literal_ (negative g _ _)) = absurd (omega (arith, clash h g))
membership_inverts opened limit other _ _ _ h (literal_ (truth g)) = absurd (omega (arith, clash h g))
membership_inverts opened limit other _ _ _ h (literal_ (falsity g)) = absurd (omega (arith, clash h g))
membership_inverts opened limit other _ _ _ h (literal_ (name g)) = absurd (omega (arith, clash h g))
membership_inverts opened limit other _ _ _ h (arg g) = absurd (omega (arith, clash h g))
membership_inverts opened limit other _ _ _ h (own g) = absurd (omega (arith, clash h g))
membership_inverts opened limit other _ _ _ h (brackets g _ _) = absurd (omega (arith, clash h g))
membership_inverts opened limit other _ _ _ h (negation g _ _ _) = absurd (omega (arith, clash h g))
membership_inverts opened limit other _ _ _ h (recovery g _ _ _ _ _) = absurd (omega (arith, clash h g))
membership_inverts opened limit other _ _ _ h (fault g _ _ _ _ _) = absurd (omega (arith, clash h g))
membership_inverts opened limit other _ _ _ h (size g _ _ _) = absurd (omega (arith, clash h g))
membership_inverts opened limit other _ _ _ h (membership {i = i} {n = m} {t = t} {e = e} g a0 a1 a2 a3 a4) = record { value = tt; middle = i + 2; first = record { fits = a0; next = omega arith }; second = record { value = t; middle = i + 3; first = record { fits = a1; next = omega arith }; second = record { value = tt; middle = i + 4; first = record { fits = a2; next = omega arith }; second = record { value = e; middle = m; first = a3; second = record { value = tt; middle = m + 1; first = record { fits = a4; next = omega arith }; second = record { is = refl; stays = refl } } } } } }

pub membership_stage : (opened : ℕ) (tokens : List Token) (i : ℕ) → text tokens i ≡ mark.Reserved HAS → Stage (APhrase Primary opened) nothing tokens 0 i (i + 1) (membership_rest opened)
membership_stage opened tokens i h = stage_from (APhrase Primary opened) (membership_rest opened) tokens i (mark.Reserved HAS) h (λ limit other v n enough e r. membership_builds opened limit other v i n e r) (λ limit other v n e x. membership_inverts opened limit other v i n e x)

abbrev pub changed_rest : Language RawBody
changed_rest = Then (Single (mark.Sign OPEN)) (λ _. Then Named (λ t. Then (Single (mark.Sign CLOSE)) (λ _. Done (body.Changed t))))

changed_builds : (limit : ℕ → ℕ) (other : ℕ → Mark) (v : RawBody) (i n : ℕ) → other i ≡ mark.Reserved CHANGED → changed_rest other limit v (i + 1) n → Source other limit v i n
changed_builds limit other v i n h r =
    let e1 : r.middle ≡ i + 2 = omega (arith, r.first.next) in
    let e2 : r.second.middle ≡ i + 3 = omega (arith, r.second.first.next, e1) in
    let e3 : r.second.second.middle ≡ i + 4 = omega (arith, r.second.second.first.next, e2) in
    moved (λ a q. Source other limit a i q) (changed h r.first.fits (subst (λ (q : ℕ). other q ≡ mark.Name r.second.value) e1 r.second.first.fits) (subst (λ (q : ℕ). other q ≡ mark.Sign CLOSE) e2 r.second.second.first.fits)) r.second.second.second.is (omega (arith, r.second.second.second.stays, e3))

changed_inverts : (limit : ℕ → ℕ) (other : ℕ → Mark) (v : RawBody) (i n : ℕ) → other i ≡ mark.Reserved CHANGED → Source other limit v i n → changed_rest other limit v (i + 1) n
changed_inverts limit other _ _ _ h (changed {i = i} {t = t} g a0 a1 a2) = record { value = tt; middle = i + 2; first = record { fits = a0; next = omega arith }; second = record { value = t; middle = i + 3; first = record { fits = a1; next = omega arith }; second = record { value = tt; middle = i + 4; first = record { fits = a2; next = omega arith }; second = record { is = refl; stays = refl } } } }
changed_inverts limit other _ _ _ h (mapped g _ _ _ _ _) = absurd (omega (arith, clash h g))
changed_inverts limit other _ _ _ h (filtered g _ _ _ _ _) = absurd (omega (arith, clash h g))
changed_inverts limit other _ _ _ h (either g _ _ _ _ _) = absurd (omega (arith, clash h g))

pub changed_stage : (tokens : List Token) (i : ℕ) → text tokens i ≡ mark.Reserved CHANGED → Stage ASource nothing tokens 0 i (i + 1) (changed_rest)
changed_stage tokens i h = stage_from ASource (changed_rest) tokens i (mark.Reserved CHANGED) h (λ limit other v n enough e r. changed_builds limit other v i n e r) (λ limit other v n e x. changed_inverts limit other v i n e x)

abbrev pub mapped_rest : Language RawBody
mapped_rest = Then (Single (mark.Sign OPEN)) (λ _. Then Named (λ t. Then (Single (mark.Sign COMMA)) (λ _. Then (AnExpression 1) (λ e. Then (Single (mark.Sign CLOSE)) (λ _. Done (body.Map t e))))))

mapped_builds : (limit : ℕ → ℕ) (other : ℕ → Mark) (v : RawBody) (i n : ℕ) → other i ≡ mark.Reserved MAP → mapped_rest other limit v (i + 1) n → Source other limit v i n
mapped_builds limit other v i n h r =
    let e1 : r.middle ≡ i + 2 = omega (arith, r.first.next) in
    let e2 : r.second.middle ≡ i + 3 = omega (arith, r.second.first.next, e1) in
    let e3 : r.second.second.middle ≡ i + 4 = omega (arith, r.second.second.first.next, e2) in
    let e5 : r.second.second.second.second.middle ≡ r.second.second.second.middle + 1 = omega (arith, r.second.second.second.second.first.next) in
    moved (λ a q. Source other limit a i q) (mapped h r.first.fits (subst (λ (q : ℕ). other q ≡ mark.Name r.second.value) e1 r.second.first.fits) (subst (λ (q : ℕ). other q ≡ mark.Sign COMMA) e2 r.second.second.first.fits) (subst (λ (q : ℕ). Reads other limit Expression (1) r.second.second.second.value q r.second.second.second.middle) e3 r.second.second.second.first) r.second.second.second.second.first.fits) r.second.second.second.second.second.is (omega (arith, r.second.second.second.second.second.stays, e5))

mapped_inverts : (limit : ℕ → ℕ) (other : ℕ → Mark) (v : RawBody) (i n : ℕ) → other i ≡ mark.Reserved MAP → Source other limit v i n → mapped_rest other limit v (i + 1) n
mapped_inverts limit other _ _ _ h (changed g _ _ _) = absurd (omega (arith, clash h g))
mapped_inverts limit other _ _ _ h (mapped {i = i} {n = m} {t = t} {e = e} g a0 a1 a2 a3 a4) = record { value = tt; middle = i + 2; first = record { fits = a0; next = omega arith }; second = record { value = t; middle = i + 3; first = record { fits = a1; next = omega arith }; second = record { value = tt; middle = i + 4; first = record { fits = a2; next = omega arith }; second = record { value = e; middle = m; first = a3; second = record { value = tt; middle = m + 1; first = record { fits = a4; next = omega arith }; second = record { is = refl; stays = refl } } } } } }
mapped_inverts limit other _ _ _ h (filtered g _ _ _ _ _) = absurd (omega (arith, clash h g))
mapped_inverts limit other _ _ _ h (either g _ _ _ _ _) = absurd (omega (arith, clash h g))

pub mapped_stage : (tokens : List Token) (i : ℕ) → text tokens i ≡ mark.Reserved MAP → Stage ASource nothing tokens 0 i (i + 1) (mapped_rest)
mapped_stage tokens i h = stage_from ASource (mapped_rest) tokens i (mark.Reserved MAP) h (λ limit other v n enough e r. mapped_builds limit other v i n e r) (λ limit other v n e x. mapped_inverts limit other v i n e x)

abbrev pub filtered_rest : Language RawBody
filtered_rest = Then (Single (mark.Sign OPEN)) (λ _. Then Named (λ t. Then (Single (mark.Sign COMMA)) (λ _. Then (AnExpression 1) (λ e. Then (Single (mark.Sign CLOSE)) (λ _. Done (body.Filter t e))))))

filtered_builds : (limit : ℕ → ℕ) (other : ℕ → Mark) (v : RawBody) (i n : ℕ) → other i ≡ mark.Reserved FILTER → filtered_rest other limit v (i + 1) n → Source other limit v i n
filtered_builds limit other v i n h r =
    let e1 : r.middle ≡ i + 2 = omega (arith, r.first.next) in
    let e2 : r.second.middle ≡ i + 3 = omega (arith, r.second.first.next, e1) in
    let e3 : r.second.second.middle ≡ i + 4 = omega (arith, r.second.second.first.next, e2) in
    let e5 : r.second.second.second.second.middle ≡ r.second.second.second.middle + 1 = omega (arith, r.second.second.second.second.first.next) in
    moved (λ a q. Source other limit a i q) (filtered h r.first.fits (subst (λ (q : ℕ). other q ≡ mark.Name r.second.value) e1 r.second.first.fits) (subst (λ (q : ℕ). other q ≡ mark.Sign COMMA) e2 r.second.second.first.fits) (subst (λ (q : ℕ). Reads other limit Expression (1) r.second.second.second.value q r.second.second.second.middle) e3 r.second.second.second.first) r.second.second.second.second.first.fits) r.second.second.second.second.second.is (omega (arith, r.second.second.second.second.second.stays, e5))

filtered_inverts : (limit : ℕ → ℕ) (other : ℕ → Mark) (v : RawBody) (i n : ℕ) → other i ≡ mark.Reserved FILTER → Source other limit v i n → filtered_rest other limit v (i + 1) n
filtered_inverts limit other _ _ _ h (changed g _ _ _) = absurd (omega (arith, clash h g))
filtered_inverts limit other _ _ _ h (mapped g _ _ _ _ _) = absurd (omega (arith, clash h g))
filtered_inverts limit other _ _ _ h (filtered {i = i} {n = m} {t = t} {e = e} g a0 a1 a2 a3 a4) = record { value = tt; middle = i + 2; first = record { fits = a0; next = omega arith }; second = record { value = t; middle = i + 3; first = record { fits = a1; next = omega arith }; second = record { value = tt; middle = i + 4; first = record { fits = a2; next = omega arith }; second = record { value = e; middle = m; first = a3; second = record { value = tt; middle = m + 1; first = record { fits = a4; next = omega arith }; second = record { is = refl; stays = refl } } } } } }
filtered_inverts limit other _ _ _ h (either g _ _ _ _ _) = absurd (omega (arith, clash h g))

pub filtered_stage : (tokens : List Token) (i : ℕ) → text tokens i ≡ mark.Reserved FILTER → Stage ASource nothing tokens 0 i (i + 1) (filtered_rest)
filtered_stage tokens i h = stage_from ASource (filtered_rest) tokens i (mark.Reserved FILTER) h (λ limit other v n enough e r. filtered_builds limit other v i n e r) (λ limit other v n e x. filtered_inverts limit other v i n e x)

abbrev pub either_rest : Language RawBody
either_rest = Then (Single (mark.Sign OPEN)) (λ _. Then Named (λ t. Then (Single (mark.Sign COMMA)) (λ _. Then Named (λ u. Then (Single (mark.Sign CLOSE)) (λ _. Done (body.Either t u))))))

either_builds : (limit : ℕ → ℕ) (other : ℕ → Mark) (v : RawBody) (i n : ℕ) → other i ≡ mark.Reserved EITHER → either_rest other limit v (i + 1) n → Source other limit v i n
either_builds limit other v i n h r =
    let e1 : r.middle ≡ i + 2 = omega (arith, r.first.next) in
    let e2 : r.second.middle ≡ i + 3 = omega (arith, r.second.first.next, e1) in
    let e3 : r.second.second.middle ≡ i + 4 = omega (arith, r.second.second.first.next, e2) in
    let e4 : r.second.second.second.middle ≡ i + 5 = omega (arith, r.second.second.second.first.next, e3) in
    let e5 : r.second.second.second.second.middle ≡ i + 6 = omega (arith, r.second.second.second.second.first.next, e4) in
    moved (λ a q. Source other limit a i q) (either h r.first.fits (subst (λ (q : ℕ). other q ≡ mark.Name r.second.value) e1 r.second.first.fits) (subst (λ (q : ℕ). other q ≡ mark.Sign COMMA) e2 r.second.second.first.fits) (subst (λ (q : ℕ). other q ≡ mark.Name r.second.second.second.value) e3 r.second.second.second.first.fits) (subst (λ (q : ℕ). other q ≡ mark.Sign CLOSE) e4 r.second.second.second.second.first.fits)) r.second.second.second.second.second.is (omega (arith, r.second.second.second.second.second.stays, e5))

either_inverts : (limit : ℕ → ℕ) (other : ℕ → Mark) (v : RawBody) (i n : ℕ) → other i ≡ mark.Reserved EITHER → Source other limit v i n → either_rest other limit v (i + 1) n
either_inverts limit other _ _ _ h (changed g _ _ _) = absurd (omega (arith, clash h g))
either_inverts limit other _ _ _ h (mapped g _ _ _ _ _) = absurd (omega (arith, clash h g))
either_inverts limit other _ _ _ h (filtered g _ _ _ _ _) = absurd (omega (arith, clash h g))
either_inverts limit other _ _ _ h (either {i = i} {t = t} {u = u} g a0 a1 a2 a3 a4) = record { value = tt; middle = i + 2; first = record { fits = a0; next = omega arith }; second = record { value = t; middle = i + 3; first = record { fits = a1; next = omega arith }; second = record { value = tt; middle = i + 4; first = record { fits = a2; next = omega arith }; second = record { value = u; middle = i + 5; first = record { fits = a3; next = omega arith }; second = record { value = tt; middle = i + 6; first = record { fits = a4; next = omega arith }; second = record { is = refl; stays = refl } } } } } }

pub either_stage : (tokens : List Token) (i : ℕ) → text tokens i ≡ mark.Reserved EITHER → Stage ASource nothing tokens 0 i (i + 1) (either_rest)
either_stage tokens i h = stage_from ASource (either_rest) tokens i (mark.Reserved EITHER) h (λ limit other v n enough e r. either_builds limit other v i n e r) (λ limit other v n e x. either_inverts limit other v i n e x)

abbrev pub device_rest : Language RawBody
device_rest = Done (body.Device)

pub device_builds : (limit : ℕ → ℕ) (other : ℕ → Mark) (v : RawBody) (i n : ℕ) → device_rest other limit v i n → Content other limit DEVICE v i n
device_builds limit other v i n r =
    moved (λ a q. Content other limit DEVICE a i q) (device refl) r.is (omega (arith, r.stays))

device_inverts : (limit : ℕ → ℕ) (other : ℕ → Mark) (v : RawBody) (i n : ℕ) → Content other limit DEVICE v i n → device_rest other limit v i n
device_inverts limit other _ _ _ (device {i = i} g) = record { is = refl; stays = refl }
device_inverts limit other _ _ _ (symbol g) = absurd (omega (arith, g))
device_inverts limit other _ _ _ (var g _ _ _ _ _) = absurd (omega (arith, g))
device_inverts limit other _ _ _ (event g _ _) = absurd (omega (arith, g))
device_inverts limit other _ _ _ (derived g _ _) = absurd (omega (arith, g))
device_inverts limit other _ _ _ (signal g _ _) = absurd (omega (arith, g))
device_inverts limit other _ _ _ (fold g _ _ _ _ _ _ _ _ _) = absurd (omega (arith, g))
device_inverts limit other _ _ _ (counter g) = absurd (omega (arith, g))
device_inverts limit other _ _ _ (set g _ _) = absurd (omega (arith, g))
device_inverts limit other _ _ _ (register g _ _ _ _) = absurd (omega (arith, g))

pub device_stage : (tokens : List Token) (i : ℕ) → Stage (AContent DEVICE) extends tokens 0 i i device_rest
device_stage tokens i = stage_at (AContent DEVICE) device_rest tokens i (λ limit other v n enough r. device_builds limit other v i n r) (λ limit other v n x. device_inverts limit other v i n x)

abbrev pub symbol_rest : Language RawBody
symbol_rest = Done (body.Symbol)

pub symbol_builds : (limit : ℕ → ℕ) (other : ℕ → Mark) (v : RawBody) (i n : ℕ) → symbol_rest other limit v i n → Content other limit SYMBOL v i n
symbol_builds limit other v i n r =
    moved (λ a q. Content other limit SYMBOL a i q) (symbol refl) r.is (omega (arith, r.stays))

symbol_inverts : (limit : ℕ → ℕ) (other : ℕ → Mark) (v : RawBody) (i n : ℕ) → Content other limit SYMBOL v i n → symbol_rest other limit v i n
symbol_inverts limit other _ _ _ (device g) = absurd (omega (arith, g))
symbol_inverts limit other _ _ _ (symbol {i = i} g) = record { is = refl; stays = refl }
symbol_inverts limit other _ _ _ (var g _ _ _ _ _) = absurd (omega (arith, g))
symbol_inverts limit other _ _ _ (event g _ _) = absurd (omega (arith, g))
symbol_inverts limit other _ _ _ (derived g _ _) = absurd (omega (arith, g))
symbol_inverts limit other _ _ _ (signal g _ _) = absurd (omega (arith, g))
symbol_inverts limit other _ _ _ (fold g _ _ _ _ _ _ _ _ _) = absurd (omega (arith, g))
symbol_inverts limit other _ _ _ (counter g) = absurd (omega (arith, g))
symbol_inverts limit other _ _ _ (set g _ _) = absurd (omega (arith, g))
symbol_inverts limit other _ _ _ (register g _ _ _ _) = absurd (omega (arith, g))

pub symbol_stage : (tokens : List Token) (i : ℕ) → Stage (AContent SYMBOL) extends tokens 0 i i symbol_rest
symbol_stage tokens i = stage_at (AContent SYMBOL) symbol_rest tokens i (λ limit other v n enough r. symbol_builds limit other v i n r) (λ limit other v n x. symbol_inverts limit other v i n x)

abbrev pub counter_rest : Language RawBody
counter_rest = Done (body.Counter)

pub counter_builds : (limit : ℕ → ℕ) (other : ℕ → Mark) (v : RawBody) (i n : ℕ) → counter_rest other limit v i n → Content other limit COUNTER v i n
counter_builds limit other v i n r =
    moved (λ a q. Content other limit COUNTER a i q) (counter refl) r.is (omega (arith, r.stays))

counter_inverts : (limit : ℕ → ℕ) (other : ℕ → Mark) (v : RawBody) (i n : ℕ) → Content other limit COUNTER v i n → counter_rest other limit v i n
counter_inverts limit other _ _ _ (device g) = absurd (omega (arith, g))
counter_inverts limit other _ _ _ (symbol g) = absurd (omega (arith, g))
counter_inverts limit other _ _ _ (var g _ _ _ _ _) = absurd (omega (arith, g))
counter_inverts limit other _ _ _ (event g _ _) = absurd (omega (arith, g))
counter_inverts limit other _ _ _ (derived g _ _) = absurd (omega (arith, g))
counter_inverts limit other _ _ _ (signal g _ _) = absurd (omega (arith, g))
counter_inverts limit other _ _ _ (fold g _ _ _ _ _ _ _ _ _) = absurd (omega (arith, g))
counter_inverts limit other _ _ _ (counter {i = i} g) = record { is = refl; stays = refl }
counter_inverts limit other _ _ _ (set g _ _) = absurd (omega (arith, g))
counter_inverts limit other _ _ _ (register g _ _ _ _) = absurd (omega (arith, g))

pub counter_stage : (tokens : List Token) (i : ℕ) → Stage (AContent COUNTER) extends tokens 0 i i counter_rest
counter_stage tokens i = stage_at (AContent COUNTER) counter_rest tokens i (λ limit other v n enough r. counter_builds limit other v i n r) (λ limit other v n x. counter_inverts limit other v i n x)

abbrev pub var_rest : Language RawBody
var_rest = Then (Single (mark.Sign COLON)) (λ _. Then AKind (λ k. Then (Single (mark.Sign EQUALS)) (λ _. Then ALiteral (λ v. Then ARegion (λ r. Done (body.Var k v r))))))

pub var_builds : (limit : ℕ → ℕ) (other : ℕ → Mark) (v : RawBody) (i n : ℕ) → var_rest other limit v i n → Content other limit VAR v i n
var_builds limit other v i n r =
    let e1 : r.middle ≡ i + 1 = omega (arith, r.first.next) in
    let e2 : r.second.middle ≡ i + 2 = omega (arith, r.second.first.next, e1) in
    let e3 : r.second.second.middle ≡ i + 3 = omega (arith, r.second.second.first.next, e2) in
    moved (λ a q. Content other limit VAR a i q) (var refl r.first.fits (subst (λ (q : ℕ). kind_of (other q) ≡ Some r.second.value) e1 r.second.first.fits) (subst (λ (q : ℕ). other q ≡ mark.Sign EQUALS) e2 r.second.second.first.fits) (subst (λ (q : ℕ). Literal other r.second.second.second.value q r.second.second.second.middle) e3 r.second.second.second.first) r.second.second.second.second.first) r.second.second.second.second.second.is (omega (arith, r.second.second.second.second.second.stays))

var_inverts : (limit : ℕ → ℕ) (other : ℕ → Mark) (v : RawBody) (i n : ℕ) → Content other limit VAR v i n → var_rest other limit v i n
var_inverts limit other _ _ _ (device g) = absurd (omega (arith, g))
var_inverts limit other _ _ _ (symbol g) = absurd (omega (arith, g))
var_inverts limit other _ _ _ (var {i = i} {j = j} {n = m} {r = r} {k = k} {v = v} g a0 a1 a2 a3 a4) = record { value = tt; middle = i + 1; first = record { fits = a0; next = omega arith }; second = record { value = k; middle = i + 2; first = record { fits = a1; next = omega arith }; second = record { value = tt; middle = i + 3; first = record { fits = a2; next = omega arith }; second = record { value = v; middle = j; first = a3; second = record { value = r; middle = m; first = a4; second = record { is = refl; stays = refl } } } } } }
var_inverts limit other _ _ _ (event g _ _) = absurd (omega (arith, g))
var_inverts limit other _ _ _ (derived g _ _) = absurd (omega (arith, g))
var_inverts limit other _ _ _ (signal g _ _) = absurd (omega (arith, g))
var_inverts limit other _ _ _ (fold g _ _ _ _ _ _ _ _ _) = absurd (omega (arith, g))
var_inverts limit other _ _ _ (counter g) = absurd (omega (arith, g))
var_inverts limit other _ _ _ (set g _ _) = absurd (omega (arith, g))
var_inverts limit other _ _ _ (register g _ _ _ _) = absurd (omega (arith, g))

pub var_stage : (tokens : List Token) (i : ℕ) → Stage (AContent VAR) extends tokens 0 i i var_rest
var_stage tokens i = stage_at (AContent VAR) var_rest tokens i (λ limit other v n enough r. var_builds limit other v i n r) (λ limit other v n x. var_inverts limit other v i n x)

abbrev pub event_rest : Language RawBody
event_rest = Then (Single (mark.Sign COLON)) (λ _. Then AKind (λ k. Done (body.Event k)))

pub event_builds : (limit : ℕ → ℕ) (other : ℕ → Mark) (v : RawBody) (i n : ℕ) → event_rest other limit v i n → Content other limit EVENT v i n
event_builds limit other v i n r =
    let e1 : r.middle ≡ i + 1 = omega (arith, r.first.next) in
    let e2 : r.second.middle ≡ i + 2 = omega (arith, r.second.first.next, e1) in
    moved (λ a q. Content other limit EVENT a i q) (event refl r.first.fits (subst (λ (q : ℕ). kind_of (other q) ≡ Some r.second.value) e1 r.second.first.fits)) r.second.second.is (omega (arith, r.second.second.stays, e2))

event_inverts : (limit : ℕ → ℕ) (other : ℕ → Mark) (v : RawBody) (i n : ℕ) → (other i ≡ mark.Sign EQUALS → ⊥) → Content other limit EVENT v i n → event_rest other limit v i n
event_inverts limit other _ _ _ h (device g) = absurd (omega (arith, g))
event_inverts limit other _ _ _ h (symbol g) = absurd (omega (arith, g))
event_inverts limit other _ _ _ h (var g _ _ _ _ _) = absurd (omega (arith, g))
event_inverts limit other _ _ _ h (event {i = i} {k = k} g a0 a1) = record { value = tt; middle = i + 1; first = record { fits = a0; next = omega arith }; second = record { value = k; middle = i + 2; first = record { fits = a1; next = omega arith }; second = record { is = refl; stays = refl } } }
event_inverts limit other _ _ _ h (derived g e _) = absurd (h e)
event_inverts limit other _ _ _ h (signal g _ _) = absurd (omega (arith, g))
event_inverts limit other _ _ _ h (fold g _ _ _ _ _ _ _ _ _) = absurd (omega (arith, g))
event_inverts limit other _ _ _ h (counter g) = absurd (omega (arith, g))
event_inverts limit other _ _ _ h (set g _ _) = absurd (omega (arith, g))
event_inverts limit other _ _ _ h (register g _ _ _ _) = absurd (omega (arith, g))

abbrev pub signal_rest : Language RawBody
signal_rest = Then (Single (mark.Sign EQUALS)) (λ _. Then (AnExpression 1) (λ e. Done (body.Signal e)))

pub signal_builds : (limit : ℕ → ℕ) (other : ℕ → Mark) (v : RawBody) (i n : ℕ) → signal_rest other limit v i n → Content other limit SIGNAL v i n
signal_builds limit other v i n r =
    let e1 : r.middle ≡ i + 1 = omega (arith, r.first.next) in
    moved (λ a q. Content other limit SIGNAL a i q) (signal refl r.first.fits (subst (λ (q : ℕ). Reads other limit Expression (1) r.second.value q r.second.middle) e1 r.second.first)) r.second.second.is (omega (arith, r.second.second.stays))

signal_inverts : (limit : ℕ → ℕ) (other : ℕ → Mark) (v : RawBody) (i n : ℕ) → Content other limit SIGNAL v i n → signal_rest other limit v i n
signal_inverts limit other _ _ _ (device g) = absurd (omega (arith, g))
signal_inverts limit other _ _ _ (symbol g) = absurd (omega (arith, g))
signal_inverts limit other _ _ _ (var g _ _ _ _ _) = absurd (omega (arith, g))
signal_inverts limit other _ _ _ (event g _ _) = absurd (omega (arith, g))
signal_inverts limit other _ _ _ (derived g _ _) = absurd (omega (arith, g))
signal_inverts limit other _ _ _ (signal {i = i} {n = m} {e = e} g a0 a1) = record { value = tt; middle = i + 1; first = record { fits = a0; next = omega arith }; second = record { value = e; middle = m; first = a1; second = record { is = refl; stays = refl } } }
signal_inverts limit other _ _ _ (fold g _ _ _ _ _ _ _ _ _) = absurd (omega (arith, g))
signal_inverts limit other _ _ _ (counter g) = absurd (omega (arith, g))
signal_inverts limit other _ _ _ (set g _ _) = absurd (omega (arith, g))
signal_inverts limit other _ _ _ (register g _ _ _ _) = absurd (omega (arith, g))

pub signal_stage : (tokens : List Token) (i : ℕ) → Stage (AContent SIGNAL) extends tokens 0 i i signal_rest
signal_stage tokens i = stage_at (AContent SIGNAL) signal_rest tokens i (λ limit other v n enough r. signal_builds limit other v i n r) (λ limit other v n x. signal_inverts limit other v i n x)

abbrev pub fold_rest : Language RawBody
fold_rest = Then (Single (mark.Sign COLON)) (λ _. Then AKind (λ k. Then (Single (mark.Sign EQUALS)) (λ _. Then ALiteral (λ v. Then (Single (mark.Reserved ON)) (λ _. Then Named (λ t. Then (Single (mark.Reserved DO)) (λ _. Then (AnExpression 1) (λ e. Then ARegion (λ r. Done (body.Fold k v t e r))))))))))

pub fold_builds : (limit : ℕ → ℕ) (other : ℕ → Mark) (v : RawBody) (i n : ℕ) → fold_rest other limit v i n → Content other limit FOLD v i n
fold_builds limit other v i n r =
    let e1 : r.middle ≡ i + 1 = omega (arith, r.first.next) in
    let e2 : r.second.middle ≡ i + 2 = omega (arith, r.second.first.next, e1) in
    let e3 : r.second.second.middle ≡ i + 3 = omega (arith, r.second.second.first.next, e2) in
    let e5 : r.second.second.second.second.middle ≡ r.second.second.second.middle + 1 = omega (arith, r.second.second.second.second.first.next) in
    let e6 : r.second.second.second.second.second.middle ≡ r.second.second.second.middle + 2 = omega (arith, r.second.second.second.second.second.first.next, e5) in
    let e7 : r.second.second.second.second.second.second.middle ≡ r.second.second.second.middle + 3 = omega (arith, r.second.second.second.second.second.second.first.next, e6) in
    moved (λ a q. Content other limit FOLD a i q) (fold refl r.first.fits (subst (λ (q : ℕ). kind_of (other q) ≡ Some r.second.value) e1 r.second.first.fits) (subst (λ (q : ℕ). other q ≡ mark.Sign EQUALS) e2 r.second.second.first.fits) (subst (λ (q : ℕ). Literal other r.second.second.second.value q r.second.second.second.middle) e3 r.second.second.second.first) r.second.second.second.second.first.fits (subst (λ (q : ℕ). other q ≡ mark.Name r.second.second.second.second.second.value) e5 r.second.second.second.second.second.first.fits) (subst (λ (q : ℕ). other q ≡ mark.Reserved DO) e6 r.second.second.second.second.second.second.first.fits) (subst (λ (q : ℕ). Reads other limit Expression (1) r.second.second.second.second.second.second.second.value q r.second.second.second.second.second.second.second.middle) e7 r.second.second.second.second.second.second.second.first) r.second.second.second.second.second.second.second.second.first) r.second.second.second.second.second.second.second.second.second.is (omega (arith, r.second.second.second.second.second.second.second.second.second.stays))

fold_inverts : (limit : ℕ → ℕ) (other : ℕ → Mark) (v : RawBody) (i n : ℕ) → Content other limit FOLD v i n → fold_rest other limit v i n
fold_inverts limit other _ _ _ (device g) = absurd (omega (arith, g))
fold_inverts limit other _ _ _ (symbol g) = absurd (omega (arith, g))
fold_inverts limit other _ _ _ (var g _ _ _ _ _) = absurd (omega (arith, g))
fold_inverts limit other _ _ _ (event g _ _) = absurd (omega (arith, g))
fold_inverts limit other _ _ _ (derived g _ _) = absurd (omega (arith, g))
fold_inverts limit other _ _ _ (signal g _ _) = absurd (omega (arith, g))
fold_inverts limit other _ _ _ (fold {i = i} {j = j} {m = m} {n = l} {r = r} {k = k} {v = v} {t = t} {e = e} g a0 a1 a2 a3 a4 a5 a6 a7 a8) = record { value = tt; middle = i + 1; first = record { fits = a0; next = omega arith }; second = record { value = k; middle = i + 2; first = record { fits = a1; next = omega arith }; second = record { value = tt; middle = i + 3; first = record { fits = a2; next = omega arith }; second = record { value = v; middle = j; first = a3; second = record { value = tt; middle = j + 1; first = record { fits = a4; next = omega arith }; second = record { value = t; middle = j + 2; first = record { fits = a5; next = omega arith }; second = record { value = tt; middle = j + 3; first = record { fits = a6; next = omega arith }; second = record { value = e; middle = m; first = a7; second = record { value = r; middle = l; first = a8; second = record { is = refl; stays = refl } } } } } } } } } }
fold_inverts limit other _ _ _ (counter g) = absurd (omega (arith, g))
fold_inverts limit other _ _ _ (set g _ _) = absurd (omega (arith, g))
fold_inverts limit other _ _ _ (register g _ _ _ _) = absurd (omega (arith, g))

pub fold_stage : (tokens : List Token) (i : ℕ) → Stage (AContent FOLD) extends tokens 0 i i fold_rest
fold_stage tokens i = stage_at (AContent FOLD) fold_rest tokens i (λ limit other v n enough r. fold_builds limit other v i n r) (λ limit other v n x. fold_inverts limit other v i n x)

abbrev pub set_rest : Language RawBody
set_rest = Then (Single (mark.Sign COLON)) (λ _. Then AKind (λ k. Done (body.Set k)))

pub set_builds : (limit : ℕ → ℕ) (other : ℕ → Mark) (v : RawBody) (i n : ℕ) → set_rest other limit v i n → Content other limit SET v i n
set_builds limit other v i n r =
    let e1 : r.middle ≡ i + 1 = omega (arith, r.first.next) in
    let e2 : r.second.middle ≡ i + 2 = omega (arith, r.second.first.next, e1) in
    moved (λ a q. Content other limit SET a i q) (set refl r.first.fits (subst (λ (q : ℕ). kind_of (other q) ≡ Some r.second.value) e1 r.second.first.fits)) r.second.second.is (omega (arith, r.second.second.stays, e2))

set_inverts : (limit : ℕ → ℕ) (other : ℕ → Mark) (v : RawBody) (i n : ℕ) → Content other limit SET v i n → set_rest other limit v i n
set_inverts limit other _ _ _ (device g) = absurd (omega (arith, g))
set_inverts limit other _ _ _ (symbol g) = absurd (omega (arith, g))
set_inverts limit other _ _ _ (var g _ _ _ _ _) = absurd (omega (arith, g))
set_inverts limit other _ _ _ (event g _ _) = absurd (omega (arith, g))
set_inverts limit other _ _ _ (derived g _ _) = absurd (omega (arith, g))
set_inverts limit other _ _ _ (signal g _ _) = absurd (omega (arith, g))
set_inverts limit other _ _ _ (fold g _ _ _ _ _ _ _ _ _) = absurd (omega (arith, g))
set_inverts limit other _ _ _ (counter g) = absurd (omega (arith, g))
set_inverts limit other _ _ _ (set {i = i} {k = k} g a0 a1) = record { value = tt; middle = i + 1; first = record { fits = a0; next = omega arith }; second = record { value = k; middle = i + 2; first = record { fits = a1; next = omega arith }; second = record { is = refl; stays = refl } } }
set_inverts limit other _ _ _ (register g _ _ _ _) = absurd (omega (arith, g))

pub set_stage : (tokens : List Token) (i : ℕ) → Stage (AContent SET) extends tokens 0 i i set_rest
set_stage tokens i = stage_at (AContent SET) set_rest tokens i (λ limit other v n enough r. set_builds limit other v i n r) (λ limit other v n x. set_inverts limit other v i n x)

abbrev pub register_rest : Language RawBody
register_rest = Then (Single (mark.Sign COLON)) (λ _. Then AKind (λ k. Then (Single (mark.Sign EQUALS)) (λ _. Then ALiteral (λ v. Done (body.Register k v)))))

pub register_builds : (limit : ℕ → ℕ) (other : ℕ → Mark) (v : RawBody) (i n : ℕ) → register_rest other limit v i n → Content other limit REGISTER v i n
register_builds limit other v i n r =
    let e1 : r.middle ≡ i + 1 = omega (arith, r.first.next) in
    let e2 : r.second.middle ≡ i + 2 = omega (arith, r.second.first.next, e1) in
    let e3 : r.second.second.middle ≡ i + 3 = omega (arith, r.second.second.first.next, e2) in
    moved (λ a q. Content other limit REGISTER a i q) (register refl r.first.fits (subst (λ (q : ℕ). kind_of (other q) ≡ Some r.second.value) e1 r.second.first.fits) (subst (λ (q : ℕ). other q ≡ mark.Sign EQUALS) e2 r.second.second.first.fits) (subst (λ (q : ℕ). Literal other r.second.second.second.value q r.second.second.second.middle) e3 r.second.second.second.first)) r.second.second.second.second.is (omega (arith, r.second.second.second.second.stays))

register_inverts : (limit : ℕ → ℕ) (other : ℕ → Mark) (v : RawBody) (i n : ℕ) → Content other limit REGISTER v i n → register_rest other limit v i n
register_inverts limit other _ _ _ (device g) = absurd (omega (arith, g))
register_inverts limit other _ _ _ (symbol g) = absurd (omega (arith, g))
register_inverts limit other _ _ _ (var g _ _ _ _ _) = absurd (omega (arith, g))
register_inverts limit other _ _ _ (event g _ _) = absurd (omega (arith, g))
register_inverts limit other _ _ _ (derived g _ _) = absurd (omega (arith, g))
register_inverts limit other _ _ _ (signal g _ _) = absurd (omega (arith, g))
register_inverts limit other _ _ _ (fold g _ _ _ _ _ _ _ _ _) = absurd (omega (arith, g))
register_inverts limit other _ _ _ (counter g) = absurd (omega (arith, g))
register_inverts limit other _ _ _ (set g _ _) = absurd (omega (arith, g))
register_inverts limit other _ _ _ (register {i = i} {n = m} {k = k} {v = v} g a0 a1 a2 a3) = record { value = tt; middle = i + 1; first = record { fits = a0; next = omega arith }; second = record { value = k; middle = i + 2; first = record { fits = a1; next = omega arith }; second = record { value = tt; middle = i + 3; first = record { fits = a2; next = omega arith }; second = record { value = v; middle = m; first = a3; second = record { is = refl; stays = refl } } } } }

pub register_stage : (tokens : List Token) (i : ℕ) → Stage (AContent REGISTER) extends tokens 0 i i register_rest
register_stage tokens i = stage_at (AContent REGISTER) register_rest tokens i (λ limit other v n enough r. register_builds limit other v i n r) (λ limit other v n x. register_inverts limit other v i n x)

-- an event whose content begins with no `=`
pub event_stage : (tokens : List Token) (i : ℕ) → (text tokens i ≡ mark.Sign EQUALS → ⊥) → Stage (AContent EVENT) extends tokens 1 i i event_rest
event_stage tokens i h = record {
  so_far = record {
    forward = omega arith;
    build = λ limit enough other v n agrees r. event_builds limit other v i n r;
    invert = λ limit other v n agrees x. inl (event_inverts limit other v i n (λ e. h (sym (agrees i (omega arith)) ∙ e)) x);
  };
}

derived_inverts : (limit : ℕ → ℕ) (other : ℕ → Mark) (v : RawBody) (i n : ℕ) → other i ≡ mark.Sign EQUALS → Content other limit EVENT v i n → Source other limit v (i + 1) n
derived_inverts limit other _ _ _ h (device g) = absurd (omega (arith, g))
derived_inverts limit other _ _ _ h (symbol g) = absurd (omega (arith, g))
derived_inverts limit other _ _ _ h (var g _ _ _ _ _) = absurd (omega (arith, g))
derived_inverts limit other _ _ _ h (event _ g _) = absurd (omega (arith, clash h g))
derived_inverts limit other _ _ _ h (derived _ _ s) = s
derived_inverts limit other _ _ _ h (signal g _ _) = absurd (omega (arith, g))
derived_inverts limit other _ _ _ h (fold g _ _ _ _ _ _ _ _ _) = absurd (omega (arith, g))
derived_inverts limit other _ _ _ h (counter g) = absurd (omega (arith, g))
derived_inverts limit other _ _ _ h (set g _ _) = absurd (omega (arith, g))
derived_inverts limit other _ _ _ h (register g _ _ _ _) = absurd (omega (arith, g))

pub derived_stage : (tokens : List Token) (i : ℕ) → text tokens i ≡ mark.Sign EQUALS → Stage (AContent EVENT) extends tokens 0 i (i + 1) ASource
derived_stage tokens i h = stage_from (AContent EVENT) ASource tokens i (mark.Sign EQUALS) h (λ limit other v n enough e s. derived refl e s) (λ limit other v n e x. derived_inverts limit other v i n e x)

-- a declaration behind its word
abbrev pub declaration_rest : ℕ → Language RawDecl
declaration_rest word = Then Named (λ t. Then (AContent word) (λ b. Then (Single (mark.Sign SEMICOLON)) (λ _. Done (record { name = t; body = b }))))

same_word : {m : Mark} {a b : ℕ} → m ≡ mark.Reserved a → m ≡ mark.Reserved b → a ≡ b
same_word e f = cc

pub declaration_stage : (word : ℕ) (tokens : List Token) (i : ℕ) → text tokens i ≡ mark.Reserved word → Stage ADeclaration nothing tokens 0 i (i + 1) (declaration_rest word)
declaration_stage word tokens i h = stage_from ADeclaration (declaration_rest word) tokens i (mark.Reserved word) h
    (λ limit other v n enough e r.
    let e1 : r.middle ≡ i + 2 = omega (arith, r.first.next) in
    let e2 : v ≡ record { name = r.value; body = r.second.value } = r.second.second.second.is in
    moved (λ a q. Declaration other limit a i q)
    (record { word = word; last = r.second.middle; begins = e; named = r.first.fits; content = subst (λ (q : ℕ). Content other limit word r.second.value q r.second.middle) e1 r.second.first; ends = r.second.second.first.fits; next = refl })
    e2 (omega (arith, r.second.second.second.stays, r.second.second.first.next)))
    (λ limit other v n e x.
    let same : x.word ≡ word = same_word x.begins e in
    record {
      value = v.name;
      middle = i + 2;
      first = record { fits = x.named; next = omega arith };
      second = record {
        value = v.body;
        middle = x.last;
        first = subst (λ (q : ℕ). Content other limit q v.body (i + 2) x.last) same x.content;
        second = record { value = tt; middle = x.last + 1; first = record { fits = x.ends; next = refl }; second = record { is = refl; stays = x.next } };
      };
    })
