-- The marks of an expression's text are that expression, over names.
use Rattle.std.proofs.Common.{ℕ, suc, ◌≡◌, ◌≤◌, ◌<◌, ◌+◌, ◌-◌, ◌*◌, ◌&&◌, Bool, true, false, List, [], ◌∷◌, ◌++◌, max, refl, sym, ap, subst, ◌∙◌, Some, arith}
use Rattle.std.specs.Prelude.{ℤ, pos, negsuc, ◌-ℤ◌, nat_le}
use Rattle.std.proofs.lemmas.Bool.{and_parts, and_from, le-leb, cond-true}
use Rattle.re_terms.specs.Arithmetic.{is_word_number}
use Rattle.re_terms.specs.Trees.{is_expr, raw_depth, depth_step}
use Rattle.re_terms.specs.Trees.{expr_step as range_step}
use Rattle.re_terms.specs.Programs.{expr_depth, expr_depth_step}
use Rattle.re_terms.specs.declared.token.Mark.{Mark}
use Rattle.re_terms.specs.declared.token.Mark.TheVariants as mark
use Rattle.re_terms.specs.declared.word.Word.{Word}
use Rattle.re_terms.specs.declared.word.Word.TheVariants as word
use Rattle.re_terms.specs.declared.expr.Op.{Op}
use Rattle.re_terms.specs.declared.expr.Expr.{Expr, roll-Expr, map-Expr}
use Rattle.re_terms.specs.declared.expr.Expr.TheOpen.{Expr-F, Lit, Name, Arg, Own, Not, Bin, If, Recover, Size, Has}
use Rattle.re_terms.specs.declared.expr.Expr.TheFolds.{fold-roll-Expr, ind-Expr}
use Rattle.re_terms.specs.declared.raw_expr.RawLit.TheVariants as literal
use Rattle.re_terms.specs.declared.raw_expr.RawExpr.{RawExpr, fold-roll-RawExpr}
use Rattle.re_terms.specs.declared.raw_expr.RawExpr.TheVariants as expr
use Rattle.re_terms.specs.declared.program.Program.{Program}
use Rattle.re_syntax.specs.Grammar.{Literal, number, negative, truth, falsity, name, operator_of, Expression, Primary, Reads, condition, plain as direct, literal_, arg, own, brackets, negation, recovery, fault, size, membership}
use Rattle.re_syntax.specs.Places.{open_limit}
use Rattle.re_reading.proofs.ExprScans.{int_small, int_large, fault_small}
use Rattle.re_reading.proofs.Levels.{operator_is, whole, joined}
use Rattle.re_reading.proofs.Places.{Stand, apart, at_as}
use Rattle.re_reading.proofs.Unresolved.{name_of, raw_literal, raw_word, raw_step, raw_expr, opening, closing, comma, reserved, operator_mark, int_marks, word_marks, name_mark, marks_step, expr_marks, is_sayable, is_named, sayable_step, is_sayable_expr, is_plain_word}
use Rattle.re_terms.specs.declared.reserved.TheConstants.{IF, THEN, ELSE, NOT, RECOVER, HAS}

minus_is : (n : ℕ) → pos 0 -ℤ pos (suc n) ≡ negsuc n
minus_is n =
    let e : suc n - 1 ≡ n = omega arith in
    cond-true (nat_le 1 (suc n)) (negsuc (suc n - 1)) (pos (0 - suc n)) (le-leb 1 (suc n) (omega arith)) ∙ ap negsuc e

int_read : (at : ℕ → Mark) (z : ℤ) (i n : ℕ) → is_word_number z ≡ true → Stand at i (int_marks z) n → Literal at (literal.Int z) i n
int_read at (pos v) i n h s = subst (Literal at (literal.Int (pos v)) i) (sym s.1) (number s.0 (int_small v h))
int_read at (negsuc v) i n h s =
    let e : n ≡ i + 2 = let k = s.1.1 in omega arith in
    subst (Literal at (literal.Int (negsuc v)) i) (sym e) (subst (λ z. Literal at (literal.Int z) i (i + 2)) (minus_is v) (negative s.0 s.1.0 (int_large v h)))

truth_read : (at : ℕ → Mark) (p : Program) (b : Bool) (i n : ℕ) → Stand at i (word_marks p (word.Bool b)) n → Literal at (literal.Bool b) i n
truth_read at p true i n s = subst (Literal at (literal.Bool true) i) (sym s.1) (truth s.0)
truth_read at p false i n s = subst (Literal at (literal.Bool false) i) (sym s.1) (falsity s.0)

pub word_read : (at : ℕ → Mark) (p : Program) (w : Word) (i n : ℕ) → is_sayable p w ≡ true → is_plain_word w ≡ true → Stand at i (word_marks p w) n → Literal at (raw_literal p w) i n
word_read at p (word.Int z) i n h k s = int_read at z i n h s
word_read at p (word.Bool b) i n h k s = truth_read at p b i n s
word_read at p (word.Sym symbol) i n h k s = subst (Literal at (raw_literal p (word.Sym symbol)) i) (sym s.1) (name s.0)
word_read at p (word.Fault code) i n h k s = absurd (cc)

-- what an expression's marks are read as, at a place where so many are open; and its depth
record ExprReads (p : Program) (e : Expr) : Type 0 where
  some : 0 < expr_depth e
  depth : raw_depth (raw_expr p e) ≡ expr_depth e
  ranged : is_sayable_expr p e ≡ true → is_expr (raw_expr p e) ≡ true
  read : is_sayable_expr p e ≡ true → (at : ℕ → Mark) (opened i n : ℕ) → opened + 2 * expr_depth e ≤ 130 → Stand at i (expr_marks p e) n → Reads at open_limit Primary opened (raw_expr p e) i n

-- one layer of each fold
raw_roll : (p : Program) (d : Expr-F Expr) → raw_expr p (roll-Expr d) ≡ raw_step p (map-Expr Expr RawExpr (raw_expr p) d)
raw_roll p d = fold-roll-Expr RawExpr (raw_step p) d

marks_roll : (p : Program) (d : Expr-F Expr) → expr_marks p (roll-Expr d) ≡ marks_step p (map-Expr Expr (List Mark) (expr_marks p) d)
marks_roll p d = fold-roll-Expr (List Mark) (marks_step p) d

sayable_roll : (p : Program) (d : Expr-F Expr) → is_sayable_expr p (roll-Expr d) ≡ sayable_step p (map-Expr Expr Bool (is_sayable_expr p) d)
sayable_roll p d = fold-roll-Expr Bool (sayable_step p) d

depth_roll : (d : Expr-F Expr) → expr_depth (roll-Expr d) ≡ expr_depth_step (map-Expr Expr ℕ expr_depth d)
depth_roll d = fold-roll-Expr ℕ expr_depth_step d

-- by its layer
by_layer : (p : Program) (d : Expr-F Expr) (r : RawExpr) → raw_step p (map-Expr Expr RawExpr (raw_expr p) d) ≡ r
    → 0 < expr_depth_step (map-Expr Expr ℕ expr_depth d)
    → raw_depth r ≡ expr_depth_step (map-Expr Expr ℕ expr_depth d)
    → (sayable_step p (map-Expr Expr Bool (is_sayable_expr p) d) ≡ true → is_expr r ≡ true)
    → (sayable_step p (map-Expr Expr Bool (is_sayable_expr p) d) ≡ true → (at : ℕ → Mark) (opened i n : ℕ) → opened + 2 * expr_depth_step (map-Expr Expr ℕ expr_depth d) ≤ 130
    → Stand at i (marks_step p (map-Expr Expr (List Mark) (expr_marks p) d)) n → Reads at open_limit Primary opened r i n)
    → ExprReads p (roll-Expr d)
by_layer p d r e some depth ranged read =
    let raw_is : raw_expr p (roll-Expr d) ≡ r = raw_roll p d ∙ e in
    record {
      some = subst (λ k. 0 < k) (sym (depth_roll d)) some;
      depth = ap raw_depth raw_is ∙ depth ∙ sym (depth_roll d);
      ranged = λ h. ap is_expr raw_is ∙ ranged (sym (sayable_roll p d) ∙ h);
      read = λ h at opened i n k s.
          subst (λ x. Reads at open_limit Primary opened x i n) (sym raw_is)
          (read (sym (sayable_roll p d) ∙ h) at opened i n (subst (λ x. opened + 2 * x ≤ 130) (depth_roll d) k) (subst (λ ms. Stand at i ms n) (marks_roll p d) s));
    }

-- words
word_read_expr : (at : ℕ → Mark) (p : Program) (w : Word) (opened i n : ℕ) → is_sayable p w ≡ true → Stand at i (word_marks p w) n → Reads at open_limit Primary opened (raw_word p w) i n
word_read_expr at p (word.Int z) opened i n h s = literal_ (word_read at p (word.Int z) i n h refl s)
word_read_expr at p (word.Bool b) opened i n h s = literal_ (word_read at p (word.Bool b) i n h refl s)
word_read_expr at p (word.Sym k) opened i n h s = literal_ (word_read at p (word.Sym k) i n h refl s)
word_read_expr at p (word.Fault code) opened i n h s =
    let l = fault_small code h in
    let e : n ≡ i + 4 = let k = s.1.1.1.1 in omega arith in
    subst (Reads at open_limit Primary opened (expr.Fault code) i) (sym e)
    (fault s.0 s.1.0 (at_as at (i + 1 + 1) (i + 2) (mark.Number code) s.1.1.0 (omega arith)) l.0 l.1 (at_as at (i + 1 + 1 + 1) (i + 3) closing s.1.1.1.0 (omega arith)))

word_depth : (p : Program) (w : Word) → raw_depth (raw_word p w) ≡ 1
word_depth p (word.Int z) = ap raw_depth (sym (expr.rolls-Lit (literal.Int z))) ∙ fold-roll-RawExpr ℕ depth_step _
word_depth p (word.Bool b) = ap raw_depth (sym (expr.rolls-Lit (literal.Bool b))) ∙ fold-roll-RawExpr ℕ depth_step _
word_depth p (word.Sym k) = ap raw_depth (sym (expr.rolls-Lit (raw_literal p (word.Sym k)))) ∙ fold-roll-RawExpr ℕ depth_step _
word_depth p (word.Fault code) = ap raw_depth (sym (expr.rolls-Fault code)) ∙ fold-roll-RawExpr ℕ depth_step _

word_ranged : (p : Program) (w : Word) → is_sayable p w ≡ true → is_expr (raw_word p w) ≡ true
word_ranged p (word.Int z) h = ap is_expr (sym (expr.rolls-Lit (literal.Int z))) ∙ fold-roll-RawExpr Bool range_step _ ∙ h
word_ranged p (word.Bool b) h = ap is_expr (sym (expr.rolls-Lit (literal.Bool b))) ∙ fold-roll-RawExpr Bool range_step _
word_ranged p (word.Sym k) h = ap is_expr (sym (expr.rolls-Lit (raw_literal p (word.Sym k)))) ∙ fold-roll-RawExpr Bool range_step _ ∙ and_from _ _ h refl
word_ranged p (word.Fault code) h = ap is_expr (sym (expr.rolls-Fault code)) ∙ fold-roll-RawExpr Bool range_step _ ∙ h

word_reads : (p : Program) (w : Word) → ExprReads p (roll-Expr (Lit w))
word_reads p w = by_layer p (Lit w) (raw_word p w) refl (omega arith) (word_depth p w) (word_ranged p w) (λ h at opened i n k s. word_read_expr at p w opened i n h s)

name_reads : (p : Program) (id : ℕ) → ExprReads p (roll-Expr (Name id))
name_reads p id =
    let x = literal.Name (name_of p id) in
    by_layer p (Name id) (expr.Lit x) refl (omega arith)
    (ap raw_depth (sym (expr.rolls-Lit x)) ∙ fold-roll-RawExpr ℕ depth_step _)
    (λ h. ap is_expr (sym (expr.rolls-Lit x)) ∙ fold-roll-RawExpr Bool range_step _ ∙ and_from _ _ h refl)
    (λ h at opened i n k s. literal_ (subst (Literal at x i) (sym s.1) (name s.0)))

arg_reads : (p : Program) → ExprReads p (roll-Expr Arg)
arg_reads p = by_layer p Arg expr.Arg refl (omega arith)
    (ap raw_depth (sym expr.rolls-Arg) ∙ fold-roll-RawExpr ℕ depth_step _)
    (λ h. ap is_expr (sym expr.rolls-Arg) ∙ fold-roll-RawExpr Bool range_step _)
    (λ h at opened i n k s. subst (Reads at open_limit Primary opened expr.Arg i) (sym s.1) (arg s.0))

own_reads : (p : Program) → ExprReads p (roll-Expr Own)
own_reads p = by_layer p Own expr.Own refl (omega arith)
    (ap raw_depth (sym expr.rolls-Own) ∙ fold-roll-RawExpr ℕ depth_step _)
    (λ h. ap is_expr (sym expr.rolls-Own) ∙ fold-roll-RawExpr Bool range_step _)
    (λ h at opened i n k s. subst (Reads at open_limit Primary opened expr.Own i) (sym s.1) (own s.0))

size_reads : (p : Program) (set : ℕ) → ExprReads p (roll-Expr (Size set))
size_reads p set = by_layer p (Size set) (expr.Size (name_of p set)) refl (omega arith)
    (ap raw_depth (sym (expr.rolls-Size (name_of p set))) ∙ fold-roll-RawExpr ℕ depth_step _)
    (λ h. ap is_expr (sym (expr.rolls-Size (name_of p set))) ∙ fold-roll-RawExpr Bool range_step _ ∙ and_from _ _ h refl)
    (λ h at opened i n k s.
    let e : n ≡ i + 4 = let q = s.1.1.1.1 in omega arith in
    subst (Reads at open_limit Primary opened (expr.Size (name_of p set)) i) (sym e)
    (size s.0 s.1.0 (at_as at (i + 1 + 1) (i + 2) (name_mark p set) s.1.1.0 (omega arith)) (at_as at (i + 1 + 1 + 1) (i + 3) closing s.1.1.1.0 (omega arith))))

-- an operand in its own brackets, behind a word
operand_read : (p : Program) (x : Expr) → ExprReads p x → is_sayable_expr p x ≡ true → (at : ℕ → Mark) (opened i n : ℕ) → opened + 2 * expr_depth x ≤ 130 → Stand at i (expr_marks p x) n → Reads at open_limit Expression opened (raw_expr p x) i n
operand_read p x r h at opened i n k s =
    let some = r.some in
    whole at opened (raw_expr p x) i n (omega arith) (r.read h at opened i n k s)

not_read : (p : Program) (x : Expr) → ExprReads p x → is_sayable_expr p x ≡ true → (at : ℕ → Mark) (opened i n : ℕ) → opened + 2 * suc (expr_depth x) ≤ 130
    → Stand at i (reserved NOT ∷ opening ∷ (expr_marks p x ++ (closing ∷ []))) n → Reads at open_limit Primary opened (expr.Not (raw_expr p x)) i n
not_read p x r h at opened i n k s =
    let t = apart at (i + 1 + 1) (expr_marks p x) (closing ∷ []) n s.1.1 in
    let operand = operand_read p x r h at (opened + 1) (i + 1 + 1) t.middle (omega arith) t.first in
    let two : i + 1 + 1 ≡ i + 2 = omega arith in
    subst (Reads at open_limit Primary opened (expr.Not (raw_expr p x)) i) (sym t.second.1)
    (negation s.0 s.1.0 (subst (λ j. Reads at open_limit Expression (opened + 1) (raw_expr p x) j t.middle) two operand) t.second.0)

not_reads : (p : Program) (x : Expr) → ExprReads p x → ExprReads p (roll-Expr (Not x))
not_reads p x r = by_layer p (Not x) (expr.Not (raw_expr p x)) refl (omega arith)
    (ap raw_depth (sym (expr.rolls-Not (raw_expr p x))) ∙ fold-roll-RawExpr ℕ depth_step _ ∙ ap suc r.depth)
    (λ h. ap is_expr (sym (expr.rolls-Not (raw_expr p x))) ∙ fold-roll-RawExpr Bool range_step _ ∙ r.ranged h)
    (λ h at opened i n k s. not_read p x r h at opened i n k s)

max_left : (a b : ℕ) → a ≤ max a b
max_left a b = omega arith

max_right : (a b : ℕ) → b ≤ max a b
max_right a b = omega arith

bin_read : (p : Program) (o : Op) (l r : Expr) → ExprReads p l → ExprReads p r → is_sayable_expr p l ≡ true → is_sayable_expr p r ≡ true → (at : ℕ → Mark) (opened i n : ℕ) → opened + 2 * suc (max (expr_depth l) (expr_depth r)) ≤ 130
    → Stand at i (opening ∷ (expr_marks p l ++ (operator_mark o ∷ (expr_marks p r ++ (closing ∷ []))))) n → Reads at open_limit Primary opened (expr.Bin o (raw_expr p l) (raw_expr p r)) i n
bin_read p o l r x y h g at opened i n k s =
    let t = apart at (i + 1) (expr_marks p l) (operator_mark o ∷ (expr_marks p r ++ (closing ∷ []))) n s.1 in
    let u = apart at (t.middle + 1) (expr_marks p r) (closing ∷ []) n t.second.1 in
    let a = max_left (expr_depth l) (expr_depth r) in
    let b = max_right (expr_depth l) (expr_depth r) in
    let some = x.some in
    let left = x.read h at (opened + 1) (i + 1) t.middle (omega arith) t.first in
    let right = y.read g at (opened + 1) (t.middle + 1) u.middle (omega arith) u.first in
    let is : operator_of (at t.middle) ≡ Some o = ap operator_of t.second.0 ∙ operator_is o in
    subst (Reads at open_limit Primary opened (expr.Bin o (raw_expr p l) (raw_expr p r)) i) (sym u.second.1)
    (brackets s.0 (direct (omega arith) (joined at (opened + 1) (i + 1) t.middle u.middle (raw_expr p l) (raw_expr p r) o is left right)) u.second.0)

bin_reads : (p : Program) (o : Op) (l r : Expr) → ExprReads p l → ExprReads p r → ExprReads p (roll-Expr (Bin o l r))
bin_reads p o l r x y = by_layer p (Bin o l r) (expr.Bin o (raw_expr p l) (raw_expr p r)) refl (omega arith)
    (ap raw_depth (sym (expr.rolls-Bin o (raw_expr p l) (raw_expr p r))) ∙ fold-roll-RawExpr ℕ depth_step _ ∙ ap (λ a. suc (max a (raw_depth (raw_expr p r)))) x.depth ∙ ap (λ b. suc (max (expr_depth l) b)) y.depth)
    (λ h. let q = and_parts (is_sayable_expr p l) (is_sayable_expr p r) h in
    ap is_expr (sym (expr.rolls-Bin o (raw_expr p l) (raw_expr p r))) ∙ fold-roll-RawExpr Bool range_step _ ∙ and_from _ _ (x.ranged q.0) (y.ranged q.1))
    (λ h at opened i n k s. let q = and_parts (is_sayable_expr p l) (is_sayable_expr p r) h in bin_read p o l r x y q.0 q.1 at opened i n k s)

if_read : (p : Program) (c a b : Expr) → ExprReads p c → ExprReads p a → ExprReads p b → is_sayable_expr p c ≡ true → is_sayable_expr p a ≡ true → is_sayable_expr p b ≡ true → (at : ℕ → Mark) (opened i n : ℕ)
    → opened + 2 * suc (max (expr_depth c) (max (expr_depth a) (expr_depth b))) ≤ 130
    → Stand at i (opening ∷ reserved IF ∷ (expr_marks p c ++ (reserved THEN ∷ (expr_marks p a ++ (reserved ELSE ∷ (expr_marks p b ++ (closing ∷ []))))))) n
    → Reads at open_limit Primary opened (expr.If (raw_expr p c) (raw_expr p a) (raw_expr p b)) i n
if_read p c a b x y z h g f at opened i n k s =
    let t = apart at (i + 1 + 1) (expr_marks p c) (reserved THEN ∷ (expr_marks p a ++ (reserved ELSE ∷ (expr_marks p b ++ (closing ∷ []))))) n s.1.1 in
    let u = apart at (t.middle + 1) (expr_marks p a) (reserved ELSE ∷ (expr_marks p b ++ (closing ∷ []))) n t.second.1 in
    let v = apart at (u.middle + 1) (expr_marks p b) (closing ∷ []) n u.second.1 in
    let d = max_left (expr_depth c) (max (expr_depth a) (expr_depth b)) in
    let e = max_right (expr_depth c) (max (expr_depth a) (expr_depth b)) in
    let l = max_left (expr_depth a) (expr_depth b) in
    let m = max_right (expr_depth a) (expr_depth b) in
    let some = x.some in
    let first = operand_read p c x h at (opened + 1 + 1) (i + 1 + 1) t.middle (omega arith) t.first in
    let second = operand_read p a y g at (opened + 1 + 1) (t.middle + 1) u.middle (omega arith) u.first in
    let third = operand_read p b z f at (opened + 1 + 1) (u.middle + 1) v.middle (omega arith) v.first in
    subst (Reads at open_limit Primary opened (expr.If (raw_expr p c) (raw_expr p a) (raw_expr p b)) i) (sym v.second.1)
    (brackets s.0 (condition (omega arith) s.1.0 first t.second.0 second u.second.0 third) v.second.0)

if_reads : (p : Program) (c a b : Expr) → ExprReads p c → ExprReads p a → ExprReads p b → ExprReads p (roll-Expr (If c a b))
if_reads p c a b x y z = by_layer p (If c a b) (expr.If (raw_expr p c) (raw_expr p a) (raw_expr p b)) refl (omega arith)
    (ap raw_depth (sym (expr.rolls-If (raw_expr p c) (raw_expr p a) (raw_expr p b))) ∙ fold-roll-RawExpr ℕ depth_step _
    ∙ ap (λ k. suc (max k (max (raw_depth (raw_expr p a)) (raw_depth (raw_expr p b))))) x.depth
    ∙ ap (λ k. suc (max (expr_depth c) (max k (raw_depth (raw_expr p b))))) y.depth
    ∙ ap (λ k. suc (max (expr_depth c) (max (expr_depth a) k))) z.depth)
    (λ h. let q = and_parts (is_sayable_expr p c) (is_sayable_expr p a && is_sayable_expr p b) h in
    let r = and_parts (is_sayable_expr p a) (is_sayable_expr p b) q.1 in
    ap is_expr (sym (expr.rolls-If (raw_expr p c) (raw_expr p a) (raw_expr p b))) ∙ fold-roll-RawExpr Bool range_step _
    ∙ and_from _ _ (and_from _ _ (x.ranged q.0) (y.ranged r.0)) (z.ranged r.1))
    (λ h at opened i n k s.
    let q = and_parts (is_sayable_expr p c) (is_sayable_expr p a && is_sayable_expr p b) h in
    let r = and_parts (is_sayable_expr p a) (is_sayable_expr p b) q.1 in
    if_read p c a b x y z q.0 r.0 r.1 at opened i n k s)

recover_read : (p : Program) (a b : Expr) → ExprReads p a → ExprReads p b → is_sayable_expr p a ≡ true → is_sayable_expr p b ≡ true → (at : ℕ → Mark) (opened i n : ℕ) → opened + 2 * suc (max (expr_depth a) (expr_depth b)) ≤ 130
    → Stand at i (reserved RECOVER ∷ opening ∷ (expr_marks p a ++ (comma ∷ (expr_marks p b ++ (closing ∷ []))))) n → Reads at open_limit Primary opened (expr.Recover (raw_expr p a) (raw_expr p b)) i n
recover_read p a b x y h g at opened i n k s =
    let t = apart at (i + 1 + 1) (expr_marks p a) (comma ∷ (expr_marks p b ++ (closing ∷ []))) n s.1.1 in
    let u = apart at (t.middle + 1) (expr_marks p b) (closing ∷ []) n t.second.1 in
    let l = max_left (expr_depth a) (expr_depth b) in
    let m = max_right (expr_depth a) (expr_depth b) in
    let first = operand_read p a x h at (opened + 1) (i + 1 + 1) t.middle (omega arith) t.first in
    let second = operand_read p b y g at (opened + 1) (t.middle + 1) u.middle (omega arith) u.first in
    let two : i + 1 + 1 ≡ i + 2 = omega arith in
    subst (Reads at open_limit Primary opened (expr.Recover (raw_expr p a) (raw_expr p b)) i) (sym u.second.1)
    (recovery s.0 s.1.0 (subst (λ j. Reads at open_limit Expression (opened + 1) (raw_expr p a) j t.middle) two first) t.second.0 second u.second.0)

recover_reads : (p : Program) (a b : Expr) → ExprReads p a → ExprReads p b → ExprReads p (roll-Expr (Recover a b))
recover_reads p a b x y = by_layer p (Recover a b) (expr.Recover (raw_expr p a) (raw_expr p b)) refl (omega arith)
    (ap raw_depth (sym (expr.rolls-Recover (raw_expr p a) (raw_expr p b))) ∙ fold-roll-RawExpr ℕ depth_step _ ∙ ap (λ k. suc (max k (raw_depth (raw_expr p b)))) x.depth ∙ ap (λ k. suc (max (expr_depth a) k)) y.depth)
    (λ h. let q = and_parts (is_sayable_expr p a) (is_sayable_expr p b) h in
    ap is_expr (sym (expr.rolls-Recover (raw_expr p a) (raw_expr p b))) ∙ fold-roll-RawExpr Bool range_step _ ∙ and_from _ _ (x.ranged q.0) (y.ranged q.1))
    (λ h at opened i n k s. let q = and_parts (is_sayable_expr p a) (is_sayable_expr p b) h in recover_read p a b x y q.0 q.1 at opened i n k s)

has_read : (p : Program) (set : ℕ) (x : Expr) → ExprReads p x → is_sayable_expr p x ≡ true → (at : ℕ → Mark) (opened i n : ℕ) → opened + 2 * suc (expr_depth x) ≤ 130
    → Stand at i (reserved HAS ∷ opening ∷ name_mark p set ∷ comma ∷ (expr_marks p x ++ (closing ∷ []))) n → Reads at open_limit Primary opened (expr.Has (name_of p set) (raw_expr p x)) i n
has_read p set x r h at opened i n k s =
    let t = apart at (i + 1 + 1 + 1 + 1) (expr_marks p x) (closing ∷ []) n s.1.1.1.1 in
    let operand = operand_read p x r h at (opened + 1) (i + 1 + 1 + 1 + 1) t.middle (omega arith) t.first in
    let four : i + 1 + 1 + 1 + 1 ≡ i + 4 = omega arith in
    subst (Reads at open_limit Primary opened (expr.Has (name_of p set) (raw_expr p x)) i) (sym t.second.1)
    (membership s.0 s.1.0 (at_as at (i + 1 + 1) (i + 2) (name_mark p set) s.1.1.0 (omega arith)) (at_as at (i + 1 + 1 + 1) (i + 3) comma s.1.1.1.0 (omega arith))
    (subst (λ j. Reads at open_limit Expression (opened + 1) (raw_expr p x) j t.middle) four operand) t.second.0)

has_reads : (p : Program) (set : ℕ) (x : Expr) → ExprReads p x → ExprReads p (roll-Expr (Has set x))
has_reads p set x r = by_layer p (Has set x) (expr.Has (name_of p set) (raw_expr p x)) refl (omega arith)
    (ap raw_depth (sym (expr.rolls-Has (name_of p set) (raw_expr p x))) ∙ fold-roll-RawExpr ℕ depth_step _ ∙ ap suc r.depth)
    (λ h. let q = and_parts (is_named p set) (is_sayable_expr p x) h in
    ap is_expr (sym (expr.rolls-Has (name_of p set) (raw_expr p x))) ∙ fold-roll-RawExpr Bool range_step _ ∙ and_from _ _ (and_from _ _ q.0 refl) (r.ranged q.1))
    (λ h at opened i n k s. let q = and_parts (is_named p set) (is_sayable_expr p x) h in has_read p set x r q.1 at opened i n k s)

abbrev Part : Program → Type 0
Part p = (e : Expr) × ExprReads p e

layer_reads : (p : Program) (d : Expr-F (Part p)) → ExprReads p (roll-Expr (map-Expr (Part p) Expr (λ e. e.0) d))
layer_reads p (Lit w) = word_reads p w
layer_reads p (Name id) = name_reads p id
layer_reads p Arg = arg_reads p
layer_reads p Own = own_reads p
layer_reads p (Not operand) = not_reads p operand.0 operand.1
layer_reads p (Bin o left right) = bin_reads p o left.0 right.0 left.1 right.1
layer_reads p (If c a b) = if_reads p c.0 a.0 b.0 c.1 a.1 b.1
layer_reads p (Recover tried other) = recover_reads p tried.0 other.0 tried.1 other.1
layer_reads p (Size set) = size_reads p set
layer_reads p (Has set element) = has_reads p set element.0 element.1

all_read : (p : Program) (e : Expr) → ExprReads p e
all_read p = ind-Expr (ExprReads p) (λ x y is. subst (λ z. ExprReads p (roll-Expr z)) is (layer_reads p y))

-- the expression of a declaration, which is at most 64 deep
pub expr_read : (p : Program) (e : Expr) (at : ℕ → Mark) (i n : ℕ) → is_sayable_expr p e ≡ true → expr_depth e ≤ 64 → Stand at i (expr_marks p e) n → Reads at open_limit Expression 1 (raw_expr p e) i n
expr_read p e at i n h k s = operand_read p e (all_read p e) h at 1 i n (omega arith) s

pub expr_ranged : (p : Program) (e : Expr) → is_sayable_expr p e ≡ true → is_expr (raw_expr p e) ≡ true
expr_ranged p e h = (all_read p e).ranged h

pub raw_depth_is : (p : Program) (e : Expr) → raw_depth (raw_expr p e) ≡ expr_depth e
raw_depth_is p e = (all_read p e).depth
