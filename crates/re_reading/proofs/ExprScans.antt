-- The text of an expression has its marks.
use Rattle.std.proofs.Common.{ℕ, zero, suc, ◌≡◌, ◌==◌, ◌≤◌, ◌<◌, ◌+◌, ◌%◌, ◌^◌, ◌&&◌, ◌||◌, Bool, true, false, not, List, [], ◌∷◌, ◌++◌, length, get_or, Some, refl, sym, ap, subst, ◌∙◌, arith, append_assoc}
use Rattle.std.specs.Prelude.{ℤ, pos, negsuc, codes, int_le}
use Rattle.std.specs.List.{list_all}
use Rattle.std.specs.Fmt.{decimal, signed_decimal}
use Rattle.std.specs.List.{position}
use Rattle.std.specs.Str.{bytes_eq}
use Rattle.std.proofs.lemmas.Fmt.{decimal_by_steps, decimal_digit, decimal_nonempty, first_decimal, decimal_is_IsNumeral}
use Rattle.std.proofs.lemmas.List.Folds.{list_all-append}
use Rattle.std.proofs.lemmas.Bool.{and_parts, and_from, or_left, not_from_false, ne_eqb, le-leb, leb-true}
use Rattle.re_terms.specs.Arithmetic.{is_word_number}
use Rattle.re_terms.specs.Tokens.{reserved_words, is_digit}
use Rattle.re_terms.specs.Trees.{is_fault_code}
use Rattle.re_terms.specs.declared.token.Mark.{Mark}
use Rattle.re_terms.specs.declared.token.Mark.TheVariants as mark
use Rattle.re_terms.specs.declared.word.Word.{Word}
use Rattle.re_terms.specs.declared.word.Word.TheVariants as word
use Rattle.re_terms.specs.declared.expr.Op.{Op}
use Rattle.re_terms.specs.declared.expr.Op.TheVariants as op
use Rattle.re_terms.specs.declared.expr.Expr.{Expr, roll-Expr, map-Expr}
use Rattle.re_terms.specs.declared.expr.Expr.TheOpen.{Expr-F, Lit, Name, Arg, Own, Not, Bin, If, Recover, Size, Has}
use Rattle.re_terms.specs.declared.expr.Expr.TheFolds.{fold-roll-Expr, ind-Expr}
use Rattle.re_terms.specs.declared.program.Program.{Program}
use Rattle.re_tokens.specs.TokenGrammar.{is_numeral, Spells}
use Rattle.re_print.specs.Canonical.{name_text, op_text, truth_text, literal_text, expr_step, expr_text}
use Rattle.re_tokens.proofs.Marks.{and_three_from, begins_word}
use Rattle.re_reading.proofs.Scans.{Scans, scans_mark, scans_blank, scans_reserved, scans_name, scans_open, scans_close, scans_minus, scans_sign, scans_as}
use Rattle.re_reading.proofs.Unresolved.{truth_mark, int_marks, word_marks, marks_step, expr_marks, operator_mark, opening, closing, comma, reserved, name_mark, is_sayable, is_named, sayable_step, is_sayable_expr}
use Rattle.re_terms.specs.declared.reserved.TheConstants.{ARG, SELF, IF, THEN, ELSE, AND, OR, NOT, RECOVER, FAULT, SIZE, HAS, TRUE, FALSE}
use Rattle.re_terms.specs.declared.signs.TheConstants.{COMMA, PLUS, MINUS, TIMES, DIVIDE, REMAINDER, LESS, GREATER, EQUAL, NOT_EQUAL, AT_MOST, AT_LEAST}

-- the decimal text of a number spells it
digit_passes : (d : ℕ) → d < 10 → is_digit (48 + d) ≡ true
digit_passes d h = and_from _ _ (le-leb 48 (48 + d) (omega arith)) (le-leb (48 + d) 57 (omega arith))

digits_pass : (n : ℕ) → n < 2 ^ 64 → list_all is_digit (decimal n) ≡ true
digits_pass = decimal_by_steps (λ n ds. list_all is_digit ds ≡ true) (λ n h. and_from _ _ (digit_passes n h) refl) (λ n ds h k. more n ds k)
  where
    more : (n : ℕ) (ds : List ℕ) → list_all is_digit ds ≡ true → list_all is_digit (ds ++ ((48 + n % 10) ∷ [])) ≡ true
    more n ds k = list_all-append is_digit ds _ ∙ and_from _ _ k (and_from _ _ (digit_passes (n % 10) (omega arith)) refl)

no_leading_zero : (n : ℕ) → n < 2 ^ 64 → (not (get_or (decimal n) 0 0 == 48) || (length (decimal n) == 1)) ≡ true
no_leading_zero zero h = ap (λ ds. not (get_or ds 0 0 == 48) || (length ds == 1)) (decimal_digit 0 (omega arith))
no_leading_zero (suc n) h =
    let k = first_decimal (suc n) (omega arith) h in
    let no : get_or (decimal (suc n)) 0 0 ≡ 48 → ⊥ = λ e. omega arith in
    or_left _ _ (not_from_false _ (ne_eqb (get_or (decimal (suc n)) 0 0) 48 no))

digits_of : (n : ℕ) → n < 2 ^ 64 → is_numeral (decimal n) ≡ true
digits_of n h =
    let k = decimal_nonempty n h in
    let no : length (decimal n) ≡ 0 → ⊥ = λ e. omega arith in
    and_three_from _ _ _ (digits_pass n h) (not_from_false _ (ne_eqb (length (decimal n)) 0 no)) (no_leading_zero n h)

pub number_spelled : (n : ℕ) → n ≤ 2 ^ 63 → Spells (mark.Number n) (decimal n)
number_spelled n h = let small : n < 2 ^ 64 = omega arith in (digits_of n small, (decimal_is_IsNumeral n small).1, h)

pub scans_number : (n : ℕ) (text : List ℕ) (marks : List Mark) → n ≤ 2 ^ 63 → begins_word text ≡ false → Scans text marks → Scans (decimal n ++ text) (mark.Number n ∷ marks)
scans_number n [] marks h k s = scans_mark (mark.Number n) (decimal n) [] marks (number_spelled n h) refl s
scans_number n (b ∷ text) marks h k s = scans_mark (mark.Number n) (decimal n) (b ∷ text) marks (number_spelled n h) k s

pub int_small : (n : ℕ) → is_word_number (pos n) ≡ true → n < 2 ^ 63
int_small n h = let k = leb-true n 9223372036854775807 (and_parts (int_le (negsuc 9223372036854775807) (pos n)) (int_le (pos n) (pos 9223372036854775807)) h).1 in omega arith

pub int_large : (n : ℕ) → is_word_number (negsuc n) ≡ true → suc n ≤ 2 ^ 63
int_large n h = let k = leb-true n 9223372036854775807 (and_parts (int_le (negsuc 9223372036854775807) (negsuc n)) (int_le (negsuc n) (pos 9223372036854775807)) h).0 in omega arith

scans_int : (z : ℤ) (text : List ℕ) (marks : List Mark) → is_word_number z ≡ true → begins_word text ≡ false → Scans text marks → Scans (signed_decimal z ++ text) (int_marks z ++ marks)
scans_int (pos n) text marks h k s = scans_number n text marks (let l = int_small n h in omega arith) k s
scans_int (negsuc n) text marks h k s = scans_minus (decimal (suc n) ++ text) (mark.Number (suc n) ∷ marks) (scans_number (suc n) text marks (int_large n h) k s)

scans_truth : (b : Bool) (text : List ℕ) (marks : List Mark) → begins_word text ≡ false → Scans text marks → Scans (truth_text b ++ text) (truth_mark b ∷ marks)
scans_truth true text marks k s = scans_reserved TRUE (codes "true") text marks refl k s
scans_truth false text marks k s = scans_reserved FALSE (codes "false") text marks refl k s

-- `fault(n)`
fault_text : (digits text : List ℕ) → (codes "fault(" ++ digits ++ codes ")") ++ text ≡ codes "fault" ++ (40 ∷ (digits ++ (41 ∷ text)))
fault_text digits text = simp append_assoc

pub fault_small : (code : ℕ) → is_fault_code code ≡ true → (100 ≤ code) × (code ≤ 999)
fault_small code h = let p = and_parts _ _ h in (leb-true 100 code p.0, leb-true code 999 p.1)

scans_fault : (code : ℕ) (text : List ℕ) (marks : List Mark) → is_fault_code code ≡ true → Scans text marks → Scans ((codes "fault(" ++ decimal code ++ codes ")") ++ text) (reserved FAULT ∷ opening ∷ mark.Number code ∷ closing ∷ marks)
scans_fault code text marks h s =
    let l = fault_small code h in
    let small : code ≤ 2 ^ 63 = omega arith in
    scans_as _ _ _ _ (fault_text (decimal code) text) refl
    (scans_reserved FAULT (codes "fault") _ _ refl refl (scans_open _ _ (scans_number code _ _ small refl (scans_close text marks s))))

-- a word
pub scans_word : (p : Program) (w : Word) (text : List ℕ) (marks : List Mark) → is_sayable p w ≡ true → begins_word text ≡ false → Scans text marks → Scans (literal_text p w ++ text) (word_marks p w ++ marks)
scans_word p (word.Int z) text marks h k s = scans_int z text marks h k s
scans_word p (word.Bool b) text marks h k s = scans_truth b text marks k s
scans_word p (word.Sym number) text marks h k s = scans_name _ text marks h k s
scans_word p (word.Fault code) text marks h k s = scans_fault code text marks h s

-- an operator, and the blank behind it
scans_operator : (o : Op) (text : List ℕ) (marks : List Mark) → Scans text marks → Scans (op_text o ++ (32 ∷ text)) (operator_mark o ∷ marks)
scans_operator op.Add text marks s = scans_sign PLUS (codes "+") text marks refl refl s
scans_operator op.Sub text marks s = scans_sign MINUS (codes "-") text marks refl refl s
scans_operator op.Mul text marks s = scans_sign TIMES (codes "*") text marks refl refl s
scans_operator op.Div text marks s = scans_sign DIVIDE (codes "/") text marks refl refl s
scans_operator op.Rem text marks s = scans_sign REMAINDER (codes "%") text marks refl refl s
scans_operator op.Lt text marks s = scans_sign LESS (codes "<") text marks refl refl s
scans_operator op.Gt text marks s = scans_sign GREATER (codes ">") text marks refl refl s
scans_operator op.Eq text marks s = scans_sign EQUAL (codes "==") text marks refl refl s
scans_operator op.Ne text marks s = scans_sign NOT_EQUAL (codes "!=") text marks refl refl s
scans_operator op.Le text marks s = scans_sign AT_MOST (codes "<=") text marks refl refl s
scans_operator op.Ge text marks s = scans_sign AT_LEAST (codes ">=") text marks refl refl s
scans_operator op.And text marks s = scans_reserved AND (codes "and") _ marks refl refl (scans_blank 32 text marks refl s)
scans_operator op.Or text marks s = scans_reserved OR (codes "or") _ marks refl refl (scans_blank 32 text marks refl s)

-- a reserved word and the bracket or blank behind it
pub scans_call : (place : ℕ) (word text : List ℕ) (marks : List Mark) → position (bytes_eq word) reserved_words ≡ Some place → Scans text marks → Scans (word ++ (40 ∷ text)) (reserved place ∷ opening ∷ marks)
scans_call place word text marks e s = scans_reserved place word (40 ∷ text) (opening ∷ marks) e refl (scans_open text marks s)

pub scans_apart : (place : ℕ) (word text : List ℕ) (marks : List Mark) → position (bytes_eq word) reserved_words ≡ Some place → Scans text marks → Scans (word ++ (32 ∷ text)) (reserved place ∷ marks)
scans_apart place word text marks e s = scans_reserved place word (32 ∷ text) marks e refl (scans_blank 32 text marks refl s)

-- and with a blank before it
pub scans_between : (place : ℕ) (word text : List ℕ) (marks : List Mark) → position (bytes_eq word) reserved_words ≡ Some place → Scans text marks → Scans (32 ∷ (word ++ (32 ∷ text))) (reserved place ∷ marks)
scans_between place word text marks e s = scans_blank 32 _ _ refl (scans_apart place word text marks e s)

pub scans_comma : (text : List ℕ) (marks : List Mark) → Scans text marks → Scans (44 ∷ 32 ∷ text) (comma ∷ marks)
scans_comma text marks s = scans_sign COMMA (44 ∷ []) text marks refl refl s

-- one layer of each fold
text_roll : (p : Program) (d : Expr-F Expr) → expr_text p (roll-Expr d) ≡ expr_step p (map-Expr Expr (List ℕ) (expr_text p) d)
text_roll p d = fold-roll-Expr (List ℕ) (expr_step p) d

marks_roll : (p : Program) (d : Expr-F Expr) → expr_marks p (roll-Expr d) ≡ marks_step p (map-Expr Expr (List Mark) (expr_marks p) d)
marks_roll p d = fold-roll-Expr (List Mark) (marks_step p) d

sayable_roll : (p : Program) (d : Expr-F Expr) → is_sayable_expr p (roll-Expr d) ≡ sayable_step p (map-Expr Expr Bool (is_sayable_expr p) d)
sayable_roll p d = fold-roll-Expr Bool (sayable_step p) d

-- an expression before a text that doesn't go on with a word
record ScansExpr (p : Program) (e : Expr) : Type 0 where
  before : is_sayable_expr p e ≡ true → (text : List ℕ) (marks : List Mark) → begins_word text ≡ false → Scans text marks → Scans (expr_text p e ++ text) (expr_marks p e ++ marks)

-- by its layer
by_layer : (p : Program) (d : Expr-F Expr)
    → (sayable_step p (map-Expr Expr Bool (is_sayable_expr p) d) ≡ true → (text : List ℕ) (marks : List Mark) → begins_word text ≡ false → Scans text marks
    → Scans (expr_step p (map-Expr Expr (List ℕ) (expr_text p) d) ++ text) (marks_step p (map-Expr Expr (List Mark) (expr_marks p) d) ++ marks))
    → ScansExpr p (roll-Expr d)
by_layer p d f = record {
  before = λ h text marks k s. scans_as _ _ _ _ (ap (λ t. t ++ text) (text_roll p d)) (ap (λ ms. ms ++ marks) (marks_roll p d)) (f (sym (sayable_roll p d) ∙ h) text marks k s);
}

not_text : (operand text : List ℕ) → (codes "not(" ++ operand ++ codes ")") ++ text ≡ codes "not" ++ (40 ∷ (operand ++ (41 ∷ text)))
not_text operand text = simp append_assoc

closed : (ms marks : List Mark) → (ms ++ (closing ∷ [])) ++ marks ≡ ms ++ (closing ∷ marks)
closed ms marks = append_assoc ms (closing ∷ []) marks

not_scans : (p : Program) (x : Expr) → ScansExpr p x → ScansExpr p (roll-Expr (Not x))
not_scans p x i = by_layer p (Not x) (λ h text marks k s.
    scans_as _ _ _ _ (not_text (expr_text p x) text) (ap (λ ms. reserved NOT ∷ opening ∷ ms) (closed (expr_marks p x) marks))
    (scans_call NOT (codes "not") _ _ refl (i.before h _ _ refl (scans_close text marks s))))

bin_text : (l o r text : List ℕ) → (codes "(" ++ l ++ codes " " ++ o ++ codes " " ++ r ++ codes ")") ++ text ≡ 40 ∷ (l ++ (32 ∷ (o ++ (32 ∷ (r ++ (41 ∷ text))))))
bin_text l o r text = simp append_assoc

bin_marks : (l r : List Mark) (o : Mark) (marks : List Mark) → (opening ∷ (l ++ (o ∷ (r ++ (closing ∷ []))))) ++ marks ≡ opening ∷ (l ++ (o ∷ (r ++ (closing ∷ marks))))
bin_marks l r o marks = simp append_assoc

bin_scans : (p : Program) (o : Op) (l r : Expr) → ScansExpr p l → ScansExpr p r → ScansExpr p (roll-Expr (Bin o l r))
bin_scans p o l r i j = by_layer p (Bin o l r) (λ h text marks k s.
    let q = and_parts (is_sayable_expr p l) (is_sayable_expr p r) h in
    scans_as _ _ _ _ (bin_text (expr_text p l) (op_text o) (expr_text p r) text) (bin_marks (expr_marks p l) (expr_marks p r) (operator_mark o) marks)
    (scans_open _ _ (i.before q.0 _ _ refl (scans_blank 32 _ _ refl (scans_operator o _ _ (j.before q.1 _ _ refl (scans_close text marks s)))))))

if_text : (c a b text : List ℕ) → (codes "(if " ++ c ++ codes " then " ++ a ++ codes " else " ++ b ++ codes ")") ++ text
    ≡ 40 ∷ (codes "if" ++ (32 ∷ (c ++ (32 ∷ (codes "then" ++ (32 ∷ (a ++ (32 ∷ (codes "else" ++ (32 ∷ (b ++ (41 ∷ text))))))))))))
if_text c a b text = simp append_assoc

if_marks : (c a b marks : List Mark) → (opening ∷ reserved IF ∷ (c ++ (reserved THEN ∷ (a ++ (reserved ELSE ∷ (b ++ (closing ∷ []))))))) ++ marks
    ≡ opening ∷ reserved IF ∷ (c ++ (reserved THEN ∷ (a ++ (reserved ELSE ∷ (b ++ (closing ∷ marks))))))
if_marks c a b marks = simp append_assoc

if_scans : (p : Program) (c a b : Expr) → ScansExpr p c → ScansExpr p a → ScansExpr p b → ScansExpr p (roll-Expr (If c a b))
if_scans p c a b i j l = by_layer p (If c a b) (λ h text marks k s.
    let q = and_parts (is_sayable_expr p c) (is_sayable_expr p a && is_sayable_expr p b) h in
    let r = and_parts (is_sayable_expr p a) (is_sayable_expr p b) q.1 in
    scans_as _ _ _ _ (if_text (expr_text p c) (expr_text p a) (expr_text p b) text) (if_marks (expr_marks p c) (expr_marks p a) (expr_marks p b) marks)
    (scans_open _ _ (scans_apart IF (codes "if") _ _ refl
    (i.before q.0 _ _ refl (scans_between THEN (codes "then") _ _ refl
    (j.before r.0 _ _ refl (scans_between ELSE (codes "else") _ _ refl
    (l.before r.1 _ _ refl (scans_close text marks s)))))))))

recover_text : (a b text : List ℕ) → (codes "recover(" ++ a ++ codes ", " ++ b ++ codes ")") ++ text ≡ codes "recover" ++ (40 ∷ (a ++ (44 ∷ 32 ∷ (b ++ (41 ∷ text)))))
recover_text a b text = simp append_assoc

recover_marks : (a b marks : List Mark) → (reserved RECOVER ∷ opening ∷ (a ++ (comma ∷ (b ++ (closing ∷ []))))) ++ marks ≡ reserved RECOVER ∷ opening ∷ (a ++ (comma ∷ (b ++ (closing ∷ marks))))
recover_marks a b marks = simp append_assoc

recover_scans : (p : Program) (a b : Expr) → ScansExpr p a → ScansExpr p b → ScansExpr p (roll-Expr (Recover a b))
recover_scans p a b i j = by_layer p (Recover a b) (λ h text marks k s.
    let q = and_parts (is_sayable_expr p a) (is_sayable_expr p b) h in
    scans_as _ _ _ _ (recover_text (expr_text p a) (expr_text p b) text) (recover_marks (expr_marks p a) (expr_marks p b) marks)
    (scans_call RECOVER (codes "recover") _ _ refl (i.before q.0 _ _ refl (scans_comma _ _ (j.before q.1 _ _ refl (scans_close text marks s))))))

size_text : (name text : List ℕ) → (codes "size(" ++ name ++ codes ")") ++ text ≡ codes "size" ++ (40 ∷ (name ++ (41 ∷ text)))
size_text name text = simp append_assoc

size_scans : (p : Program) (set : ℕ) → ScansExpr p (roll-Expr (Size set))
size_scans p set = by_layer p (Size set) (λ h text marks k s.
    scans_as _ _ _ _ (size_text (name_text p set) text) refl
    (scans_call SIZE (codes "size") _ _ refl (scans_name (name_text p set) _ _ h refl (scans_close text marks s))))

has_text : (name element text : List ℕ) → (codes "has(" ++ name ++ codes ", " ++ element ++ codes ")") ++ text ≡ codes "has" ++ (40 ∷ (name ++ (44 ∷ 32 ∷ (element ++ (41 ∷ text)))))
has_text name element text = simp append_assoc

has_scans : (p : Program) (set : ℕ) (x : Expr) → ScansExpr p x → ScansExpr p (roll-Expr (Has set x))
has_scans p set x i = by_layer p (Has set x) (λ h text marks k s.
    let q = and_parts (is_named p set) (is_sayable_expr p x) h in
    scans_as _ _ _ _ (has_text (name_text p set) (expr_text p x) text) (ap (λ ms. reserved HAS ∷ opening ∷ name_mark p set ∷ comma ∷ ms) (closed (expr_marks p x) marks))
    (scans_call HAS (codes "has") _ _ refl (scans_name (name_text p set) _ _ q.0 refl (scans_comma _ _ (i.before q.1 _ _ refl (scans_close text marks s))))))

abbrev Part : Program → Type 0
Part p = (e : Expr) × ScansExpr p e

layer_scans : (p : Program) (d : Expr-F (Part p)) → ScansExpr p (roll-Expr (map-Expr (Part p) Expr (λ e. e.0) d))
layer_scans p (Lit w) = by_layer p (Lit w) (λ h text marks k s. scans_word p w text marks h k s)
layer_scans p (Name id) = by_layer p (Name id) (λ h text marks k s. scans_name (name_text p id) text marks h k s)
layer_scans p Arg = by_layer p Arg (λ h text marks k s. scans_reserved ARG (codes "arg") text marks refl k s)
layer_scans p Own = by_layer p Own (λ h text marks k s. scans_reserved SELF (codes "self") text marks refl k s)
layer_scans p (Not operand) = not_scans p operand.0 operand.1
layer_scans p (Bin o left right) = bin_scans p o left.0 right.0 left.1 right.1
layer_scans p (If condition a b) = if_scans p condition.0 a.0 b.0 condition.1 a.1 b.1
layer_scans p (Recover tried other) = recover_scans p tried.0 other.0 tried.1 other.1
layer_scans p (Size set) = size_scans p set
layer_scans p (Has set element) = has_scans p set element.0 element.1

all_scan : (p : Program) (e : Expr) → ScansExpr p e
all_scan p = ind-Expr (ScansExpr p) (λ x y is. subst (λ z. ScansExpr p (roll-Expr z)) is (layer_scans p y))

pub scans_expr : (p : Program) (e : Expr) (text : List ℕ) (marks : List Mark) → is_sayable_expr p e ≡ true → begins_word text ≡ false → Scans text marks → Scans (expr_text p e ++ text) (expr_marks p e ++ marks)
scans_expr p e text marks h k s = (all_scan p e).before h text marks k s
