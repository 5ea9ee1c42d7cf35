use Rattle.std.proofs.Common.{ℕ, ◌+◌, ◌^◌, ◌<◌, ◌≤◌, ◌≡◌, ◌&&◌, Bool, true, pos, refl, sym, ◌∙◌, ap, arith, nat_le}
use Rattle.std.specs.Prelude.{◌-ℤ◌}
use Rattle.std.proofs.lemmas.Int.{ints}
use Rattle.re_terms.specs.Arithmetic.{is_word_number}
use Rattle.re_terms.specs.Listed.{Listed}
use Rattle.re_terms.specs.Trees.{is_name_text, is_fault_code, is_region, is_literal, expr_step, is_expr, is_whole_expr, is_body, is_declaration, raw_depth}
use Rattle.re_terms.specs.declared.token.Mark.{Mark}
use Rattle.re_terms.specs.declared.token.Mark.TheVariants as mark
use Rattle.re_terms.specs.declared.expr.Op.{Op}
use Rattle.re_terms.specs.declared.raw_expr.RawLit.{RawLit}
use Rattle.re_terms.specs.declared.raw_expr.RawExpr.{RawExpr, fold-roll-RawExpr}
use Rattle.re_terms.specs.declared.raw_expr.RawExpr.TheVariants as expr
use Rattle.re_terms.specs.declared.raw.RawBody.{RawBody}
use Rattle.re_terms.specs.declared.raw.RawDecl.{RawDecl}
use Rattle.re_syntax.specs.Grammar.{Literal, number, negative, truth, falsity, name, Region, unwritten, written, Phrase, Expression, Further, Reads, condition, plain, operands, primary, last, again, once, literal_, arg, own, brackets, negation, recovery, fault, size, membership, Source, changed, mapped, filtered, either, Content, device, symbol, var, event, derived, signal, fold, counter, set, register, Declaration}
use Rattle.re_syntax.specs.Programs.{IsShallow}

-- the names of a text are names
pub record HasNames (at : ℕ → Mark) : Type 0 where
  pub each : (i : ℕ) (t : Listed ℕ) → at i ≡ mark.Name t → is_name_text t ≡ true

both : (a b : Bool) → a ≡ true → b ≡ true → (a && b) ≡ true
both a b e f = rw (e, f) refl

small_number : (n : ℕ) → n < 2 ^ 63 → is_word_number (pos n) ≡ true
small_number n h = grind (arith, ints)

small_negative : (n : ℕ) → n ≤ 2 ^ 63 → is_word_number (pos 0 -ℤ pos n) ≡ true
small_negative n h = grind (arith, ints)

pub literal_is : {at : ℕ → Mark} {v : RawLit} {i n : ℕ} → HasNames at → Literal at v i n → is_literal v ≡ true
literal_is names (number {n = n} _ h) = small_number n h
literal_is names (negative {n = n} _ _ h) = small_negative n h
literal_is names (truth _) = refl
literal_is names (falsity _) = refl
literal_is names (name {i = i} {t = t} h) = names.each i t h

le_true : (a b : ℕ) → a ≤ b → nat_le a b ≡ true
le_true a b h = grind arith

-- the expressions of each form

is-Lit : (v : RawLit) → is_expr (expr.Lit v) ≡ is_literal v
is-Lit v = ap is_expr (sym (expr.rolls-Lit v)) ∙ fold-roll-RawExpr Bool expr_step _

is-Arg : is_expr expr.Arg ≡ true
is-Arg = ap is_expr (sym expr.rolls-Arg) ∙ fold-roll-RawExpr Bool expr_step _

is-Own : is_expr expr.Own ≡ true
is-Own = ap is_expr (sym expr.rolls-Own) ∙ fold-roll-RawExpr Bool expr_step _

is-Fault : (n : ℕ) → is_expr (expr.Fault n) ≡ is_fault_code n
is-Fault n = ap is_expr (sym (expr.rolls-Fault n)) ∙ fold-roll-RawExpr Bool expr_step _

is-Not : (a : RawExpr) → is_expr (expr.Not a) ≡ is_expr a
is-Not a = ap is_expr (sym (expr.rolls-Not a)) ∙ fold-roll-RawExpr Bool expr_step _

is-Bin : (o : Op) (a b : RawExpr) → is_expr (expr.Bin o a b) ≡ (is_expr a && is_expr b)
is-Bin o a b = ap is_expr (sym (expr.rolls-Bin o a b)) ∙ fold-roll-RawExpr Bool expr_step _

is-If : (c a b : RawExpr) → is_expr (expr.If c a b) ≡ (is_expr c && is_expr a && is_expr b)
is-If c a b = ap is_expr (sym (expr.rolls-If c a b)) ∙ fold-roll-RawExpr Bool expr_step _

is-Recover : (a b : RawExpr) → is_expr (expr.Recover a b) ≡ (is_expr a && is_expr b)
is-Recover a b = ap is_expr (sym (expr.rolls-Recover a b)) ∙ fold-roll-RawExpr Bool expr_step _

is-Size : (t : Listed ℕ) → is_expr (expr.Size t) ≡ is_name_text t
is-Size t = ap is_expr (sym (expr.rolls-Size t)) ∙ fold-roll-RawExpr Bool expr_step _

is-Has : (t : Listed ℕ) (a : RawExpr) → is_expr (expr.Has t a) ≡ (is_name_text t && is_expr a)
is-Has t a = ap is_expr (sym (expr.rolls-Has t a)) ∙ fold-roll-RawExpr Bool expr_step _

-- what a phrase stands behind is an expression
abbrev pub left_is : Phrase → Type 0
left_is (Further level l) = is_expr l ≡ true
left_is p = Unit {0}

pub phrase_is : {at : ℕ → Mark} {limit : ℕ → ℕ} {p : Phrase} {opened : ℕ} {e : RawExpr} {i n : ℕ} → HasNames at → left_is p → Reads at limit p opened e i n → is_expr e ≡ true
phrase_is names h (condition {c = c} {a = a} {b = b} _ _ x _ y _ z) = is-If c a b ∙ both _ _ (both _ _ (phrase_is names tt x) (phrase_is names tt y)) (phrase_is names tt z)
phrase_is names h (plain _ x) = phrase_is names tt x
phrase_is names h (operands _ x y) = phrase_is names (phrase_is names tt x) y
phrase_is names h (primary _ x) = phrase_is names tt x
phrase_is names h last = h
phrase_is names h (again {l = l} {r = r} {o = o} _ _ _ x y) = phrase_is names (is-Bin o l r ∙ both _ _ h (phrase_is names tt x)) y
phrase_is names h (once {l = l} {r = r} {o = o} _ _ _ x) = is-Bin o l r ∙ both _ _ h (phrase_is names tt x)
phrase_is names h (literal_ {v = v} x) = is-Lit v ∙ literal_is names x
phrase_is names h (arg _) = is-Arg
phrase_is names h (own _) = is-Own
phrase_is names h (brackets _ x _) = phrase_is names tt x
phrase_is names h (negation {e = e} _ _ x _) = is-Not e ∙ phrase_is names tt x
phrase_is names h (recovery {a = a} {b = b} _ _ x _ y _) = is-Recover a b ∙ both _ _ (phrase_is names tt x) (phrase_is names tt y)
phrase_is names h (fault {code = code} _ _ _ low high _) = is-Fault code ∙ both _ _ (le_true 100 code low) (le_true code 999 high)
phrase_is names h (size {i = i} {t = t} _ _ g _) = is-Size t ∙ names.each (i + 2) t g
phrase_is names h (membership {i = i} {t = t} {e = e} _ _ g _ x _) = is-Has t e ∙ both _ _ (names.each (i + 2) t g) (phrase_is names tt x)

whole_is : {at : ℕ → Mark} {limit : ℕ → ℕ} {e : RawExpr} {i n : ℕ} → HasNames at → Reads at limit Expression 1 e i n → raw_depth e ≤ 64 → is_whole_expr e ≡ true
whole_is {e = e} names x h = both _ _ (phrase_is names tt x) (le_true (raw_depth e) 64 h)

region_is : {at : ℕ → Mark} {r i n : ℕ} → Region at r i n → is_region r ≡ true
region_is unwritten = refl
region_is (written {n = n} _ _ low high) = both _ _ (le_true 1 n low) (le_true n 4 high)

source_is : {at : ℕ → Mark} {limit : ℕ → ℕ} {b : RawBody} {i n : ℕ} → HasNames at → Source at limit b i n → IsShallow b → is_body b ≡ true
source_is names (changed {i = i} {t = t} _ _ g _) h = names.each (i + 2) t g
source_is names (mapped {i = i} {t = t} _ _ g _ x _) h = both _ _ (names.each (i + 2) t g) (whole_is names x h)
source_is names (filtered {i = i} {t = t} _ _ g _ x _) h = both _ _ (names.each (i + 2) t g) (whole_is names x h)
source_is names (either {i = i} {t = t} {u = u} _ _ g _ f _) h = both _ _ (names.each (i + 2) t g) (names.each (i + 4) u f)

content_is : {at : ℕ → Mark} {limit : ℕ → ℕ} {word : ℕ} {b : RawBody} {i n : ℕ} → HasNames at → Content at limit word b i n → IsShallow b → is_body b ≡ true
content_is names (device _) h = refl
content_is names (symbol _) h = refl
content_is names (var _ _ _ _ l r) h = both _ _ (literal_is names l) (region_is r)
content_is names (event _ _ _) h = refl
content_is names (derived _ _ s) h = source_is names s h
content_is names (signal _ _ x) h = whole_is names x h
content_is names (fold {j = j} {t = t} _ _ _ _ l _ g _ x r) h = both _ _ (both _ _ (both _ _ (literal_is names l) (names.each (j + 1) t g)) (whole_is names x h)) (region_is r)
content_is names (counter _) h = refl
content_is names (set _ _ _) h = refl
content_is names (register _ _ _ _ l) h = literal_is names l

pub declaration_is : {at : ℕ → Mark} {limit : ℕ → ℕ} (d : RawDecl) (i n : ℕ) → HasNames at → Declaration at limit d i n → IsShallow d.body → is_declaration d ≡ true
declaration_is d i n names x h = both _ _ (names.each (i + 1) d.name x.named) (content_is names x.content h)
