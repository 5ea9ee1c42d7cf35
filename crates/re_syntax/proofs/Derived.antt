use Rattle.std.proofs.Common.{ℕ, ◌+◌, ◌<◌, ◌≤◌, ◌≡◌, Bool, true, false, ◌||◌, List, length, Option, Some, None, refl, sym, subst, ◌∙◌, ap, arith, lit≤, lit<}
use Rattle.re_terms.specs.Listed.{Listed}
use Rattle.re_terms.specs.Trees.{raw_depth}
use Rattle.re_terms.specs.declared.reserved.TheConstants.{IN, ON, DO, THEN, ELSE, NOT, RECOVER, HAS, FAULT, SIZE, ARG, SELF, TRUE, FALSE}
use Rattle.re_terms.specs.declared.signs.TheConstants.{SEMICOLON, COLON, EQUALS, COMMA, OPEN, CLOSE, MINUS}
use Rattle.re_terms.specs.declared.token.Token.{Token}
use Rattle.re_terms.specs.declared.token.Mark.{Mark}
use Rattle.re_terms.specs.declared.token.Mark.TheVariants as mark
use Rattle.re_terms.specs.declared.word.Kind.{Kind}
use Rattle.re_terms.specs.declared.expr.Op.{Op}
use Rattle.re_terms.specs.declared.raw_expr.RawLit.{RawLit}
use Rattle.re_terms.specs.declared.raw_expr.RawExpr.{RawExpr}
use Rattle.re_terms.specs.declared.raw_expr.RawExpr.TheVariants as expr
use Rattle.re_terms.specs.declared.raw.RawBody.{RawBody}
use Rattle.re_terms.specs.declared.raw.RawBody.TheVariants as body
use Rattle.re_terms.specs.declared.raw.RawDecl.{RawDecl}
use Rattle.re_syntax.specs.Grammar.{kind_of, operator_of, level_of, Literal, number, negative, truth, falsity, name, Region, unwritten, written, Phrase, Expression, Level, Further, Primary, Reads, condition, plain, operands, primary, last, again, once, literal_, arg, own, brackets, negation, recovery, fault, size, membership, Source, changed, mapped, filtered, either, Content, device, symbol, var, event, derived, signal, fold, counter, set, register, Declaration}
use Rattle.re_syntax.specs.Places.{open_limit}
use Rattle.re_syntax.specs.Programs.{IsShallow}
use Rattle.re_syntax.specs.Steps.{text, nothing, joins, binds_from, extends, is_region_word, EndsLast, Accepts, Then, Done, Single, Named, AKind, FaultCode, ALiteral, ARegion, APhrase, AnExpression, ASource, AContent, ADeclaration, FirstName, KindPart, StartPart, DeepAt, DeepSource, DeepContent, DeepDeclaration}
use Rattle.re_syntax.proofs.Steps.{no_true, no_more, never_more, after_nothing}
use Rattle.re_syntax.proofs.Tokens.{Stage, begin, next, next_one, finish, last_of, farther, accepts_from, after_mark, one_accepts}
use Rattle.re_syntax.proofs.Rules.{clash, form, same_name, arg_stage, own_stage, brackets_stage, negation_stage, recovery_stage, fault_stage, size_stage, membership_stage, changed_stage, mapped_stage, filtered_stage, either_stage, device_stage, symbol_stage, counter_stage, var_stage, event_stage, derived_stage, signal_stage, fold_stage, set_stage, register_stage, declaration_stage}
use Rattle.re_syntax.proofs.Leaves.{number_accepts, negative_accepts, truth_accepts, falsity_accepts, name_accepts, unwritten_accepts, written_accepts, code_accepts, leaf_stage, next_one_literal, first_name_together, kind_together, start_together, inside_next, no_end_word, no_end_sign, no_end, no_kind, same_kind}
use Rattle.re_syntax.proofs.Levels.{no_level_if, joins_less, after_operand, after_second, after_done, condition_stage, plain_stage, tightest_stage, operands_stage, again_stage, ended_accepts, once_stage, operator_inside, no_close, no_comma, no_then, no_else, no_in, no_semicolon}
use Rattle.re_syntax.proofs.Depths.{accepted_not_deep}
use Rattle.re_syntax.proofs.Heads.{reading, next_far, kind_longer, no_head, map_down, filter_down, plain_not_deep, event_not_deep, event_down, signal_down, fold_down, after_whole, after_fold, after_region, after_content, declaration_down}

-- marks

pub sign_accepts : (tokens : List Token) (i n s : ℕ) → i < length tokens → EndsLast tokens → text tokens i ≡ mark.Sign s → n ≡ i + 1 → Accepts (Single (mark.Sign s)) nothing 0 tokens tt i n
sign_accepts tokens i n s inside ends h e = subst (λ (k : ℕ). Accepts (Single (mark.Sign s)) nothing 0 tokens tt i k) (sym e)
    (one_accepts (λ (m : Mark) (v : Unit {0}). m ≡ mark.Sign s) tokens i tt inside ends (λ g. no_end_sign g refl) h (λ w g. refl))

pub word_accepts : (tokens : List Token) (i n w : ℕ) → i < length tokens → EndsLast tokens → text tokens i ≡ mark.Reserved w → n ≡ i + 1 → Accepts (Single (mark.Reserved w)) nothing 0 tokens tt i n
word_accepts tokens i n w inside ends h e = subst (λ (k : ℕ). Accepts (Single (mark.Reserved w)) nothing 0 tokens tt i k) (sym e)
    (one_accepts (λ (m : Mark) (v : Unit {0}). m ≡ mark.Reserved w) tokens i tt inside ends (λ g. no_end_word g refl) h (λ w g. refl))

pub named_accepts : (tokens : List Token) (i n : ℕ) (t : Listed ℕ) → i < length tokens → EndsLast tokens → text tokens i ≡ mark.Name t → n ≡ i + 1 → Accepts Named nothing 0 tokens t i n
named_accepts tokens i n t inside ends h e = subst (λ (k : ℕ). Accepts Named nothing 0 tokens t i k) (sym e)
    (one_accepts (λ (m : Mark) (t : Listed ℕ). m ≡ mark.Name t) tokens i t inside ends (no_end {m = mark.Name t} (lit< tt)) h (λ w g. same_name g h))

kind_mark_accepts : (tokens : List Token) (i n : ℕ) (k : Kind) → i < length tokens → EndsLast tokens → kind_of (text tokens i) ≡ Some k → n ≡ i + 1 → Accepts AKind nothing 0 tokens k i n
kind_mark_accepts tokens i n k inside ends h e = subst (λ (q : ℕ). Accepts AKind nothing 0 tokens k i q) (sym e)
    (one_accepts (λ m k. kind_of m ≡ Some k) tokens i k inside ends (no_kind k) h (λ u g. same_kind h g))

-- ":" Kind
kind_accepts : (tokens : List Token) (i : ℕ) (k : Kind) → i < length tokens → EndsLast tokens → text tokens i ≡ mark.Sign COLON → kind_of (text tokens (i + 1)) ≡ Some k → Accepts KindPart nothing 0 tokens k i (i + 2)
kind_accepts tokens i k inside ends h g =
    let a = sign_accepts tokens i (i + 1) COLON inside ends h refl in
    let b = kind_mark_accepts tokens (i + 1) (i + 2) k a.inside ends g (omega arith) in
    last_of (next (begin i) a (lit≤ tt) after_nothing) b (lit≤ tt) never_more

-- "(" NAME ","
first_name_accepts : (tokens : List Token) (i n : ℕ) (t : Listed ℕ) → i < length tokens → EndsLast tokens → text tokens i ≡ mark.Sign OPEN → text tokens (i + 1) ≡ mark.Name t → text tokens (i + 2) ≡ mark.Sign COMMA → n ≡ i + 3
    → Accepts FirstName nothing 0 tokens t i n
first_name_accepts tokens i n t inside ends h g f e =
    let a = sign_accepts tokens i (i + 1) OPEN inside ends h refl in
    let b = named_accepts tokens (i + 1) (i + 2) t a.inside ends g (omega arith) in
    let c = sign_accepts tokens (i + 2) n COMMA b.inside ends f (omega (arith, e)) in
    finish (next (next (next (begin i) a (lit≤ tt) after_nothing) b (lit≤ tt) after_nothing) c (lit≤ tt) after_nothing) c.inside

-- the same behind the word of a phrase
first_name_after : (tokens : List Token) (i n : ℕ) (t : Listed ℕ) → i + 1 < length tokens → EndsLast tokens → text tokens (i + 1) ≡ mark.Sign OPEN → text tokens (i + 2) ≡ mark.Name t → text tokens (i + 3) ≡ mark.Sign COMMA → n ≡ i + 4
    → Accepts FirstName nothing 0 tokens t (i + 1) n
first_name_after tokens i n t inside ends h g f e =
    first_name_accepts tokens (i + 1) n t inside ends h (subst (λ (q : ℕ). text tokens q ≡ mark.Name t) (let p : i + 2 ≡ i + 1 + 1 = omega arith in p) g)
    (subst (λ (q : ℕ). text tokens q ≡ mark.Sign COMMA) (let p : i + 3 ≡ i + 1 + 2 = omega arith in p) f) (omega (arith, e))

-- the number of a fault
fault_number_accepts : (tokens : List Token) (i n code : ℕ) → i < length tokens → EndsLast tokens → text tokens i ≡ mark.Number code → 100 ≤ code → code ≤ 999 → n ≡ i + 1 → Accepts FaultCode nothing 0 tokens code i n
fault_number_accepts tokens i n code inside ends h low high e = subst (λ (q : ℕ). Accepts FaultCode nothing 0 tokens code i q) (sym e) (code_accepts tokens i code inside ends h low high)

-- literals and regions

pub literal_accepts : (tokens : List Token) → EndsLast tokens → {v : RawLit} {i n : ℕ} → Literal (text tokens) v i n → i < length tokens → Accepts ALiteral nothing 0 tokens v i n
literal_accepts tokens ends (number {i = i} {n = k} h small) inside = number_accepts tokens i k inside ends h small
literal_accepts tokens ends (negative {i = i} {n = k} h g small) inside = negative_accepts tokens i k (inside_next tokens i inside ends (no_end_sign h)) ends h g small
literal_accepts tokens ends (truth {i = i} h) inside = truth_accepts tokens i inside ends h
literal_accepts tokens ends (falsity {i = i} h) inside = falsity_accepts tokens i inside ends h
literal_accepts tokens ends (name {i = i} {t = t} h) inside = name_accepts tokens i t inside ends h

no_region_word : (m : Mark) → is_region_word m ≡ false → m ≡ mark.Reserved IN → ⊥
no_region_word m h e = no_true (sym h ∙ ap is_region_word e)

pub region_accepts : (tokens : List Token) → EndsLast tokens → {r i n : ℕ} → Region (text tokens) r i n → i < length tokens → is_region_word (text tokens n) ≡ false → Accepts ARegion is_region_word 1 tokens r i n
region_accepts tokens ends (unwritten {i = i}) inside over = unwritten_accepts tokens i inside (no_region_word (text tokens i) over)
region_accepts tokens ends (written {i = i} {n = k} h g low high) inside over = written_accepts tokens i k (inside_next tokens i inside ends (no_end_word h)) ends h g low high

-- a mark that is no bracket, and no word from `arg` to `has`, begins a literal
leaf_at : (opened : ℕ) (tokens : List Token) (i f : ℕ) → form (text tokens i) ≡ f → (f ≡ form (mark.Sign OPEN) → ⊥) → (form (mark.Reserved ARG) ≤ f → form (mark.Reserved HAS) < f)
    → Stage (APhrase Primary opened) nothing tokens 1 i i (Then ALiteral (λ w. Done (expr.Lit w)))
leaf_at opened tokens i f h a b = leaf_stage opened tokens i (λ g. a (sym h ∙ ap form g)) (λ g. word NOT (lit≤ tt) (lit≤ tt) g) (λ g. word RECOVER (lit≤ tt) (lit≤ tt) g) (λ g. word HAS (lit≤ tt) (lit≤ tt) g)
    (λ g. word FAULT (lit≤ tt) (lit≤ tt) g) (λ g. word SIZE (lit≤ tt) (lit≤ tt) g) (λ g. word ARG (lit≤ tt) (lit≤ tt) g) (λ g. word SELF (lit≤ tt) (lit≤ tt) g)
  where
    word : (w : ℕ) → ARG ≤ w → w ≤ HAS → text tokens i ≡ mark.Reserved w → ⊥
    word w low high g =
        let e : f ≡ 100 + w = sym h ∙ ap form g in
        let c : form (mark.Reserved HAS) < f = b (omega (arith, e, low)) in
        omega (arith, e, high, c)

literal_stage : (opened : ℕ) (tokens : List Token) {v : RawLit} {i n : ℕ} → Literal (text tokens) v i n → Stage (APhrase Primary opened) nothing tokens 1 i i (Then ALiteral (λ w. Done (expr.Lit w)))
literal_stage opened tokens (number {i = i} h _) = leaf_at opened tokens i 1 (ap form h) (λ e. omega (arith, e)) (λ l. absurd (omega (arith, l)))
literal_stage opened tokens (negative {i = i} h _ _) = leaf_at opened tokens i (form (mark.Sign MINUS)) (ap form h) (λ e. omega (arith, e)) (λ l. absurd (omega (arith, l)))
literal_stage opened tokens (truth {i = i} h) = leaf_at opened tokens i (form (mark.Reserved TRUE)) (ap form h) (λ e. omega (arith, e)) (λ l. lit≤ tt)
literal_stage opened tokens (falsity {i = i} h) = leaf_at opened tokens i (form (mark.Reserved FALSE)) (ap form h) (λ e. omega (arith, e)) (λ l. lit≤ tt)
literal_stage opened tokens (name {i = i} h) = leaf_at opened tokens i 2 (ap form h) (λ e. omega (arith, e)) (λ l. absurd (omega (arith, l)))

-- expressions

-- what goes on with a phrase
abbrev pub going_on : Phrase → Mark → Bool
going_on Expression = joins 0
going_on (Level level) = joins level
going_on (Further level l) = joins level
going_on Primary = nothing

-- a phrase is accepted; what follows a left operand is accepted together with it
abbrev pub IsAccepted : Phrase → ℕ → List Token → RawExpr → ℕ → ℕ → Type 0
IsAccepted Expression opened tokens e i n = Accepts (AnExpression opened) (joins 0) 1 tokens e i n
IsAccepted (Level level) opened tokens e i n = Accepts (APhrase (Level level) opened) (joins level) 1 tokens e i n
IsAccepted (Further level l) opened tokens e i n = (start : ℕ) → Stage (APhrase (Level level) opened) (joins level) tokens 1 start i (APhrase (Further level l) opened) → Accepts (APhrase (Level level) opened) (joins level) 1 tokens e start n
IsAccepted Primary opened tokens e i n = Accepts (APhrase Primary opened) nothing 1 tokens e i n

not_true : (b : Bool) → (b ≡ true → ⊥) → b ≡ false
not_true true h = absurd (h refl)
not_true false h = refl

-- a mark that is no operator goes on with no operands
not_joining : (level : ℕ) {m o : Mark} → m ≡ o → operator_of o ≡ None → joins level m ≡ false
not_joining level e h = let g = ap operator_of e ∙ h in rw g refl

no_operator : (level : ℕ) (m : Option Op) (o : Op) → m ≡ Some o → level_of o ≡ level → binds_from level m ≡ false → ⊥
no_operator level m o h e b = grind arith

-- where no operator of a level goes on behind what follows an operand, none of a tighter level goes on behind the operand
not_tighter : (tokens : List Token) {level opened k n : ℕ} {l e : RawExpr} → Reads (text tokens) open_limit (Further level l) opened e k n → joins level (text tokens n) ≡ false → joins (level + 1) (text tokens k) ≡ false
not_tighter tokens {level} {opened} {k} {n} {l} {e} x over =
    not_true (joins (level + 1) (text tokens k)) (λ j. no_true (sym over ∙ ((after_operand opened level (λ a. l)).at_once open_limit (text tokens) l e k n j x).0))

less_joined : (level : ℕ) (m : Mark) → joins level m ≡ false → joins (level + 1) m ≡ false
less_joined level m over = not_true (joins (level + 1) m) (λ j. no_true (sym over ∙ (joins_less level).each m j))

compared : (tokens : List Token) {opened level start i n : ℕ} {l r : RawExpr} {o : Op} → level ≡ 2 → operator_of (text tokens i) ≡ Some o → level_of o ≡ level
    → Stage (APhrase (Level level) opened) (joins level) tokens 1 start i (APhrase (Further level l) opened) → Accepts (APhrase (Level (level + 1)) opened) (joins (level + 1)) 1 tokens r (i + 1) n
    → Accepts (APhrase (Level level) opened) (joins level) 1 tokens (expr.Bin o l r) start n
compared tokens {opened} {level} {start} {i} {n} {l} {r} {o} two h g =
    subst (λ (q : ℕ). Stage (APhrase (Level q) opened) (joins q) tokens 1 start i (APhrase (Further q l) opened) → Accepts (APhrase (Level (q + 1)) opened) (joins (q + 1)) 1 tokens r (i + 1) n
    → Accepts (APhrase (Level q) opened) (joins q) 1 tokens (expr.Bin o l r) start n) (sym two)
    (λ s a. finish (next (once_stage opened tokens start i l o h (g ∙ two) s) a (lit≤ tt) (after_second o l)) a.inside)

pub phrase_accepts : (tokens : List Token) → EndsLast tokens → {p : Phrase} {opened : ℕ} {e : RawExpr} {i n : ℕ} → Reads (text tokens) open_limit p opened e i n → i < length tokens → going_on p (text tokens n) ≡ false
    → IsAccepted p opened tokens e i n
phrase_accepts tokens ends (condition {opened = opened} {i = i} {j = j} {k = k} few h x p y q z) inside over =
    let a = phrase_accepts tokens ends x (inside_next tokens i inside ends (no_end_word h)) (not_joining 0 p no_then) in
    let b = word_accepts tokens j (j + 1) THEN a.inside ends p refl in
    let c = phrase_accepts tokens ends y b.inside (not_joining 0 q no_else) in
    let d = word_accepts tokens k (k + 1) ELSE c.inside ends q refl in
    let e = phrase_accepts tokens ends z d.inside over in
    finish (next (next_one (next (next_one (next (condition_stage opened tokens i few h) a (lit≤ tt) (after_mark _ no_then)) b (lit≤ tt) after_nothing) c (lit≤ tt) (after_mark _ no_else)) d (lit≤ tt) after_nothing) e (lit≤ tt) (after_done _)) e.inside
phrase_accepts tokens ends (plain {opened = opened} {i = i} few x) inside over = accepts_from (plain_stage opened tokens i few (λ h. no_level_if h x)) (phrase_accepts tokens ends x inside over)
phrase_accepts tokens ends (operands {level = level} {opened = opened} {i = i} less x y) inside over =
    let a = phrase_accepts tokens ends x inside (not_tighter tokens y over) in
    phrase_accepts tokens ends y a.inside over i (next (operands_stage opened level tokens i less) a (lit≤ tt) (after_operand opened level (λ a. a)))
phrase_accepts tokens ends (primary {level = level} {opened = opened} {i = i} tight x) inside over = last_of (tightest_stage opened level tokens i tight) (phrase_accepts tokens ends x inside refl) (lit≤ tt) never_more
phrase_accepts tokens ends (last {level = level} {opened = opened} {i = i} {l = l}) inside over = λ start s. ended_accepts opened level tokens start i l (λ o h e. no_operator level (operator_of (text tokens i)) o h e over) inside s
phrase_accepts tokens ends (again {level = level} {opened = opened} {i = i} {l = l} {o = o} h e chained x y) inside over = λ start s.
    let a = phrase_accepts tokens ends x (operator_inside tokens i o ends inside h) (not_tighter tokens y over) in
    phrase_accepts tokens ends y a.inside over start (next (again_stage opened level tokens start i l o h e chained s) a (lit≤ tt) (after_operand opened level (λ r. expr.Bin o l r)))
phrase_accepts tokens ends (once {level = level} {opened = opened} {i = i} {n = n} {l = l} {o = o} h e two x) inside over = λ start s.
    compared tokens two h e s (phrase_accepts tokens ends x (operator_inside tokens i o ends inside h) (less_joined level (text tokens n) over))
phrase_accepts tokens ends (literal_ {opened = opened} x) inside over = let a = literal_accepts tokens ends x inside in farther (finish (next_one_literal (literal_stage opened tokens x) a) a.inside) (lit≤ tt) never_more
phrase_accepts tokens ends (arg {opened = opened} {i = i} h) inside over = farther (finish (arg_stage opened tokens i h) (ends i inside (no_end_word h))) (lit≤ tt) never_more
phrase_accepts tokens ends (own {opened = opened} {i = i} h) inside over = farther (finish (own_stage opened tokens i h) (ends i inside (no_end_word h))) (lit≤ tt) never_more
phrase_accepts tokens ends (brackets {opened = opened} {i = i} {n = n} h x q) inside over =
    let a = phrase_accepts tokens ends x (inside_next tokens i inside ends (no_end_sign h)) (not_joining 0 q no_close) in
    let b = sign_accepts tokens n (n + 1) CLOSE a.inside ends q refl in
    farther (finish (next_one (next (brackets_stage opened tokens i h) a (lit≤ tt) (after_mark _ no_close)) b (lit≤ tt) after_nothing) b.inside) (lit≤ tt) never_more
phrase_accepts tokens ends (negation {opened = opened} {i = i} {n = n} h g x q) inside over =
    let o = sign_accepts tokens (i + 1) (i + 2) OPEN (inside_next tokens i inside ends (no_end_word h)) ends g (omega arith) in
    let a = phrase_accepts tokens ends x o.inside (not_joining 0 q no_close) in
    let b = sign_accepts tokens n (n + 1) CLOSE a.inside ends q refl in
    farther (finish (next_one (next (next (negation_stage opened tokens i h) o (lit≤ tt) after_nothing) a (lit≤ tt) (after_mark _ no_close)) b (lit≤ tt) after_nothing) b.inside) (lit≤ tt) never_more
phrase_accepts tokens ends (recovery {opened = opened} {i = i} {k = k} {n = n} h g x p y q) inside over =
    let o = sign_accepts tokens (i + 1) (i + 2) OPEN (inside_next tokens i inside ends (no_end_word h)) ends g (omega arith) in
    let a = phrase_accepts tokens ends x o.inside (not_joining 0 p no_comma) in
    let m = sign_accepts tokens k (k + 1) COMMA a.inside ends p refl in
    let b = phrase_accepts tokens ends y m.inside (not_joining 0 q no_close) in
    let c = sign_accepts tokens n (n + 1) CLOSE b.inside ends q refl in
    farther (finish (next_one (next (next_one (next (next (recovery_stage opened tokens i h) o (lit≤ tt) after_nothing) a (lit≤ tt) (after_mark _ no_comma)) m (lit≤ tt) after_nothing) b (lit≤ tt) (after_mark _ no_close)) c (lit≤ tt) after_nothing) c.inside) (lit≤ tt) never_more
phrase_accepts tokens ends (fault {opened = opened} {i = i} {code = code} h g f low high q) inside over =
    let o = sign_accepts tokens (i + 1) (i + 2) OPEN (inside_next tokens i inside ends (no_end_word h)) ends g (omega arith) in
    let a = fault_number_accepts tokens (i + 2) (i + 3) code o.inside ends f low high (omega arith) in
    let b = sign_accepts tokens (i + 3) (i + 4) CLOSE a.inside ends q (omega arith) in
    farther (finish (next (next (next (fault_stage opened tokens i h) o (lit≤ tt) after_nothing) a (lit≤ tt) after_nothing) b (lit≤ tt) after_nothing) b.inside) (lit≤ tt) never_more
phrase_accepts tokens ends (size {opened = opened} {i = i} {t = t} h g f q) inside over =
    let o = sign_accepts tokens (i + 1) (i + 2) OPEN (inside_next tokens i inside ends (no_end_word h)) ends g (omega arith) in
    let a = named_accepts tokens (i + 2) (i + 3) t o.inside ends f (omega arith) in
    let b = sign_accepts tokens (i + 3) (i + 4) CLOSE a.inside ends q (omega arith) in
    farther (finish (next (next (next (size_stage opened tokens i h) o (lit≤ tt) after_nothing) a (lit≤ tt) after_nothing) b (lit≤ tt) after_nothing) b.inside) (lit≤ tt) never_more
phrase_accepts tokens ends (membership {opened = opened} {i = i} {n = n} {t = t} h g f m x q) inside over =
    let s = first_name_after tokens i (i + 4) t (inside_next tokens i inside ends (no_end_word h)) ends g f m (omega arith) in
    let a = phrase_accepts tokens ends x s.inside (not_joining 0 q no_close) in
    let b = sign_accepts tokens n (n + 1) CLOSE a.inside ends q refl in
    farther (finish (next_one (next (next (first_name_together _ _ _ _ _ _ _ (membership_stage opened tokens i h)) s (lit≤ tt) after_nothing) a (lit≤ tt) (after_mark _ no_close)) b (lit≤ tt) after_nothing) b.inside) (lit≤ tt) never_more

-- the expression of a declaration
expression_accepts : (tokens : List Token) → EndsLast tokens → {e : RawExpr} {i n : ℕ} → Reads (text tokens) open_limit Expression 1 e i n → i < length tokens → joins 0 (text tokens n) ≡ false → Accepts (AnExpression 1) (joins 0) 1 tokens e i n
expression_accepts tokens ends x inside over = phrase_accepts tokens ends x inside over

-- one that isn't too deep
expression_shallow : {tokens : List Token} {e : RawExpr} {i n : ℕ} → Accepts (AnExpression 1) (joins 0) 1 tokens e i n → raw_depth e ≤ 64 → (s : ℕ) → DeepAt tokens i s → ⊥
expression_shallow {tokens} {e} {i} {n} a few s d = accepted_not_deep tokens e i n a few d.1

-- sources

-- a source is accepted, and where its expression isn't too deep none is read there that is
pub record SourceAccepted (tokens : List Token) (b : RawBody) (i n : ℕ) : Type 0 where
  pub accepts : Accepts ASource nothing 0 tokens b i n
  pub shallow : IsShallow b → (s : ℕ) → DeepSource tokens i s → ⊥

pub source_accepted : (tokens : List Token) → EndsLast tokens → {b : RawBody} {i n : ℕ} → Source (text tokens) open_limit b i n → i < length tokens → SourceAccepted tokens b i n
source_accepted tokens ends (changed {i = i} {t = t} h g f q) inside =
    let o = sign_accepts tokens (i + 1) (i + 2) OPEN (inside_next tokens i inside ends (no_end_word h)) ends g (omega arith) in
    let a = named_accepts tokens (i + 2) (i + 3) t o.inside ends f (omega arith) in
    let b = sign_accepts tokens (i + 3) (i + 4) CLOSE a.inside ends q (omega arith) in
    record {
      accepts = finish (next (next (next (changed_stage tokens i h) o (lit≤ tt) after_nothing) a (lit≤ tt) after_nothing) b (lit≤ tt) after_nothing) b.inside;
      shallow = λ few s d. no_head (λ g. omega (arith, clash h g)) (λ g. omega (arith, clash h g)) d.0;
    }
source_accepted tokens ends (mapped {i = i} {n = n} {t = t} h g f m x q) inside =
    let o = first_name_after tokens i (i + 4) t (inside_next tokens i inside ends (no_end_word h)) ends g f m refl in
    let a = expression_accepts tokens ends x o.inside (not_joining 0 q no_close) in
    let b = sign_accepts tokens n (n + 1) CLOSE a.inside ends q refl in
    record {
      accepts = finish (next_one (next (next (first_name_together _ _ _ _ _ _ _ (mapped_stage tokens i h)) o (lit≤ tt) after_nothing) a (lit≤ tt) (after_mark _ no_close)) b (lit≤ tt) after_nothing) b.inside;
      shallow = λ few s d. expression_shallow a few s (map_down tokens t i (i + 4) h (reading o) s d);
    }
source_accepted tokens ends (filtered {i = i} {n = n} {t = t} h g f m x q) inside =
    let o = first_name_after tokens i (i + 4) t (inside_next tokens i inside ends (no_end_word h)) ends g f m refl in
    let a = expression_accepts tokens ends x o.inside (not_joining 0 q no_close) in
    let b = sign_accepts tokens n (n + 1) CLOSE a.inside ends q refl in
    record {
      accepts = finish (next_one (next (next (first_name_together _ _ _ _ _ _ _ (filtered_stage tokens i h)) o (lit≤ tt) after_nothing) a (lit≤ tt) (after_mark _ no_close)) b (lit≤ tt) after_nothing) b.inside;
      shallow = λ few s d. expression_shallow a few s (filter_down tokens t i (i + 4) h (reading o) s d);
    }
source_accepted tokens ends (either {i = i} {t = t} {u = u} h g f m p q) inside =
    let o = first_name_after tokens i (i + 4) t (inside_next tokens i inside ends (no_end_word h)) ends g f m refl in
    let a = named_accepts tokens (i + 4) (i + 5) u o.inside ends p (omega arith) in
    let b = sign_accepts tokens (i + 5) (i + 6) CLOSE a.inside ends q (omega arith) in
    record {
      accepts = finish (next (next (next (first_name_together _ _ _ _ _ _ _ (either_stage tokens i h)) o (lit≤ tt) after_nothing) a (lit≤ tt) after_nothing) b (lit≤ tt) after_nothing) b.inside;
      shallow = λ few s d. no_head (λ g. omega (arith, clash h g)) (λ g. omega (arith, clash h g)) d.0;
    }

-- contents

pub record ContentAccepted (tokens : List Token) (word : ℕ) (b : RawBody) (i n : ℕ) : Type 0 where
  pub accepts : Accepts (AContent word) extends 1 tokens b i n
  pub shallow : IsShallow b → (s : ℕ) → DeepContent tokens word i s → ⊥

-- ":" Kind "=" Lit
pub start_accepts : (tokens : List Token) → EndsLast tokens → {k : Kind} {v : RawLit} {i n : ℕ} → i < length tokens → text tokens i ≡ mark.Sign COLON → kind_of (text tokens (i + 1)) ≡ Some k → text tokens (i + 2) ≡ mark.Sign EQUALS
    → Literal (text tokens) v (i + 3) n → Accepts StartPart nothing 0 tokens (k, v) i n
start_accepts tokens ends {k} {v} {i} {n} inside h g f l =
    let a = kind_accepts tokens i k inside ends h g in
    let b = sign_accepts tokens (i + 2) (i + 3) EQUALS a.inside ends f (omega arith) in
    let c = literal_accepts tokens ends l b.inside in
    finish (next (next (next (begin i) a (lit≤ tt) after_nothing) b (lit≤ tt) after_nothing) c (lit≤ tt) after_nothing) c.inside

neither_joined : (a b : Bool) → (a || b) ≡ false → a ≡ false
neither_joined true b h = h
neither_joined false b h = refl

neither_region : (a b : Bool) → (a || b) ≡ false → b ≡ false
neither_region true b h = absurd (no_true (sym h))
neither_region false b h = h

-- behind an expression that a region follows stands no operator
not_joined_before : (tokens : List Token) {r i n : ℕ} → Region (text tokens) r i n → extends (text tokens n) ≡ false → joins 0 (text tokens i) ≡ false
not_joined_before tokens (unwritten {i = i}) over = neither_joined (joins 0 (text tokens i)) (is_region_word (text tokens i)) over
not_joined_before tokens (written h _ _ _) over = not_joining 0 h no_in

no_region_behind : (tokens : List Token) (n : ℕ) → extends (text tokens n) ≡ false → is_region_word (text tokens n) ≡ false
no_region_behind tokens n over = neither_region (joins 0 (text tokens n)) (is_region_word (text tokens n)) over

word_is : {tokens : List Token} {word w i n : ℕ} {b : RawBody} → word ≡ w → ContentAccepted tokens w b i n → ContentAccepted tokens word b i n
word_is {tokens} {word} {w} {i} {n} {b} e a = subst (λ (q : ℕ). ContentAccepted tokens q b i n) (sym e) a

pub content_accepted : (tokens : List Token) → EndsLast tokens → {word : ℕ} {b : RawBody} {i n : ℕ} → Content (text tokens) open_limit word b i n → i < length tokens → extends (text tokens n) ≡ false → ContentAccepted tokens word b i n
content_accepted tokens ends (device {i = i} w) inside over = word_is w (record {
  accepts = farther (finish (device_stage tokens i) inside) (lit≤ tt) no_more;
  shallow = λ few. plain_not_deep tokens _ i (λ e. omega (arith, e)) (λ e. omega (arith, e)) (λ e. omega (arith, e));
})
content_accepted tokens ends (symbol {i = i} w) inside over = word_is w (record {
  accepts = farther (finish (symbol_stage tokens i) inside) (lit≤ tt) no_more;
  shallow = λ few. plain_not_deep tokens _ i (λ e. omega (arith, e)) (λ e. omega (arith, e)) (λ e. omega (arith, e));
})
content_accepted tokens ends (var {i = i} {n = n} w h g f l r) inside over =
    let a = start_accepts tokens ends inside h g f l in
    let b = region_accepts tokens ends r a.inside (no_region_behind tokens n over) in
    word_is w (record {
      accepts = finish (next (next (start_together _ _ _ _ _ _ (λ p. Then ARegion (λ r. Done (body.Var p.0 p.1 r))) (var_stage tokens i)) a (lit≤ tt) after_nothing) b (lit≤ tt) (after_region _)) b.inside;
      shallow = λ few. plain_not_deep tokens _ i (λ e. omega (arith, e)) (λ e. omega (arith, e)) (λ e. omega (arith, e));
    })
content_accepted tokens ends (event {i = i} {k = k} w h g) inside over =
    let a = kind_accepts tokens i k inside ends h g in
    word_is w (record {
      accepts = farther (finish (next_far (kind_together _ _ _ _ _ _ _ (event_stage tokens i (λ e. omega (arith, clash h e)))) a (kind_longer tokens k i (i + 2) a) after_nothing) a.inside) (lit≤ tt) no_more;
      shallow = λ few. event_not_deep tokens i (λ e. omega (arith, clash h e));
    })
content_accepted tokens ends (derived {i = i} w h x) inside over =
    let a = source_accepted tokens ends x (inside_next tokens i inside ends (no_end_sign h)) in
    word_is w (record {
      accepts = farther (last_of (derived_stage tokens i h) a.accepts (lit≤ tt) never_more) (lit≤ tt) no_more;
      shallow = λ few s d. a.shallow few s (event_down tokens i s d);
    })
content_accepted tokens ends (signal {i = i} {n = n} w h x) inside over =
    let a = sign_accepts tokens i (i + 1) EQUALS inside ends h refl in
    let b = expression_accepts tokens ends x a.inside (neither_joined (joins 0 (text tokens n)) (is_region_word (text tokens n)) over) in
    word_is w (record {
      accepts = finish (next (next (signal_stage tokens i) a (lit≤ tt) after_nothing) b (lit≤ tt) (after_whole _)) b.inside;
      shallow = λ few s d. expression_shallow b few s (signal_down tokens i (i + 1) refl s d);
    })
content_accepted tokens ends (fold {i = i} {j = j} {m = m} {n = n} {k = k} {v = v} {t = t} w h g f l o p q x r) inside over =
    let a = start_accepts tokens ends inside h g f l in
    let b = word_accepts tokens j (j + 1) ON a.inside ends o refl in
    let c = named_accepts tokens (j + 1) (j + 2) t b.inside ends p (omega arith) in
    let d = word_accepts tokens (j + 2) (j + 3) DO c.inside ends q (omega arith) in
    let e = expression_accepts tokens ends x d.inside (not_joined_before tokens r over) in
    let z = region_accepts tokens ends r e.inside (no_region_behind tokens n over) in
    word_is w (record {
      accepts = finish (next (next (next (next (next (next (start_together _ _ _ _ _ _ (λ p. Then (Single (mark.Reserved ON)) (λ _. Then Named (λ t. Then (Single (mark.Reserved DO)) (λ _. Then (AnExpression 1) (λ e. Then ARegion (λ r. Done (body.Fold p.0 p.1 t e r))))))) (fold_stage tokens i)) a (lit≤ tt) after_nothing) b (lit≤ tt) after_nothing) c (lit≤ tt) after_nothing) d (lit≤ tt) after_nothing) e (lit≤ tt) (after_fold (λ a r. body.Fold _ _ _ a r))) z (lit≤ tt) (after_region _)) z.inside;
      shallow = λ few s deep. expression_shallow e few s (fold_down tokens (k, v) t i j (j + 1) (j + 2) (j + 3) a b c d s deep);
    })
content_accepted tokens ends (counter {i = i} w) inside over = word_is w (record {
  accepts = farther (finish (counter_stage tokens i) inside) (lit≤ tt) no_more;
  shallow = λ few. plain_not_deep tokens _ i (λ e. omega (arith, e)) (λ e. omega (arith, e)) (λ e. omega (arith, e));
})
content_accepted tokens ends (set {i = i} {k = k} w h g) inside over =
    let a = kind_accepts tokens i k inside ends h g in
    word_is w (record {
      accepts = farther (finish (next (kind_together _ _ _ _ _ _ _ (set_stage tokens i)) a (lit≤ tt) after_nothing) a.inside) (lit≤ tt) no_more;
      shallow = λ few. plain_not_deep tokens _ i (λ e. omega (arith, e)) (λ e. omega (arith, e)) (λ e. omega (arith, e));
    })
content_accepted tokens ends (register {i = i} w h g f l) inside over =
    let a = start_accepts tokens ends inside h g f l in
    word_is w (record {
      accepts = farther (finish (next (start_together _ _ _ _ _ _ (λ p. Done (body.Register p.0 p.1)) (register_stage tokens i)) a (lit≤ tt) after_nothing) a.inside) (lit≤ tt) no_more;
      shallow = λ few. plain_not_deep tokens _ i (λ e. omega (arith, e)) (λ e. omega (arith, e)) (λ e. omega (arith, e));
    })

-- declarations

pub record DeclarationAccepted (tokens : List Token) (d : RawDecl) (i n : ℕ) : Type 0 where
  pub accepts : Accepts ADeclaration nothing 0 tokens d i n
  pub longer : i < n
  pub shallow : IsShallow d.body → (s : ℕ) → DeepDeclaration tokens i s → ⊥

pub declaration_accepted : (tokens : List Token) → EndsLast tokens → (d : RawDecl) (i n : ℕ) → Declaration (text tokens) open_limit d i n → i < length tokens → DeclarationAccepted tokens d i n
declaration_accepted tokens ends d i n x inside =
    let a = named_accepts tokens (i + 1) (i + 2) d.name (inside_next tokens i inside ends (no_end_word x.begins)) ends x.named (omega arith) in
    let b = content_accepted tokens ends x.content a.inside (ap extends x.ends ∙ no_semicolon) in
    let c = sign_accepts tokens x.last n SEMICOLON b.accepts.inside ends x.ends x.next in
    record {
      accepts = finish (next_one (next (next (declaration_stage x.word tokens i x.begins) a (lit≤ tt) after_nothing) b.accepts (lit≤ tt) (after_content _)) c (lit≤ tt) after_nothing) c.inside;
      longer = omega (arith, b.accepts.exact.forward, x.next);
      shallow = λ few s deep. b.shallow few s (declaration_down tokens x.word d.name i (i + 2) x.begins a s deep);
    }
