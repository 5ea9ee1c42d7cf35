-- What holds of an expression holds of its operands.
use Rattle.std.proofs.Common.{ℕ, suc, ◌≡◌, ◌<◌, max, Bool, true, ◌&&◌, List, sym, ap, ◌∙◌, arith}
use Rattle.re_terms.specs.Listed.{Listed}
use Rattle.re_terms.specs.Trees.{is_expr, expr_step, is_name_text, raw_depth, depth_step}
use Rattle.re_terms.specs.declared.expr.Op.{Op}
use Rattle.re_terms.specs.declared.raw_expr.RawExpr.{RawExpr, fold-roll-RawExpr}
use Rattle.re_terms.specs.declared.raw_expr.RawExpr.TheVariants as raw
use Rattle.re_types.proofs.Conjunctions.{both, all_three}
use Rattle.re_types.specs.Resolving.{is_known, knows_expr, knows_step}

-- an operand: each name in it is declared, its names and numbers are in their ranges, and it is less deep than the whole
pub record IsOperand (names : List (List ℕ)) (whole operand : RawExpr) : Type 0 where
  pub known : knows_expr names operand ≡ true
  pub ranged : is_expr operand ≡ true
  pub smaller : raw_depth operand < raw_depth whole

knows-Bin : (names : List (List ℕ)) (o : Op) (l r : RawExpr) → knows_expr names (raw.Bin o l r) ≡ (knows_expr names l && knows_expr names r)
knows-Bin names o l r = ap (knows_expr names) (sym (raw.rolls-Bin o l r)) ∙ fold-roll-RawExpr Bool (knows_step names) _

knows-If : (names : List (List ℕ)) (c a b : RawExpr) → knows_expr names (raw.If c a b) ≡ (knows_expr names c && knows_expr names a && knows_expr names b)
knows-If names c a b = ap (knows_expr names) (sym (raw.rolls-If c a b)) ∙ fold-roll-RawExpr Bool (knows_step names) _

knows-Has : (names : List (List ℕ)) (set : Listed ℕ) (a : RawExpr) → knows_expr names (raw.Has set a) ≡ (is_known names set && knows_expr names a)
knows-Has names set a = ap (knows_expr names) (sym (raw.rolls-Has set a)) ∙ fold-roll-RawExpr Bool (knows_step names) _

is_expr-Bin : (o : Op) (l r : RawExpr) → is_expr (raw.Bin o l r) ≡ (is_expr l && is_expr r)
is_expr-Bin o l r = ap is_expr (sym (raw.rolls-Bin o l r)) ∙ fold-roll-RawExpr Bool expr_step _

is_expr-If : (c a b : RawExpr) → is_expr (raw.If c a b) ≡ (is_expr c && is_expr a && is_expr b)
is_expr-If c a b = ap is_expr (sym (raw.rolls-If c a b)) ∙ fold-roll-RawExpr Bool expr_step _

is_expr-Has : (set : Listed ℕ) (a : RawExpr) → is_expr (raw.Has set a) ≡ (is_name_text set && is_expr a)
is_expr-Has set a = ap is_expr (sym (raw.rolls-Has set a)) ∙ fold-roll-RawExpr Bool expr_step _

raw_depth-Bin : (o : Op) (l r : RawExpr) → raw_depth (raw.Bin o l r) ≡ suc (max (raw_depth l) (raw_depth r))
raw_depth-Bin o l r = ap raw_depth (sym (raw.rolls-Bin o l r)) ∙ fold-roll-RawExpr ℕ depth_step _

raw_depth-If : (c a b : RawExpr) → raw_depth (raw.If c a b) ≡ suc (max (raw_depth c) (max (raw_depth a) (raw_depth b)))
raw_depth-If c a b = ap raw_depth (sym (raw.rolls-If c a b)) ∙ fold-roll-RawExpr ℕ depth_step _

raw_depth-Has : (set : Listed ℕ) (a : RawExpr) → raw_depth (raw.Has set a) ≡ suc (raw_depth a)
raw_depth-Has set a = ap raw_depth (sym (raw.rolls-Has set a)) ∙ fold-roll-RawExpr ℕ depth_step _

pub of_bin : (names : List (List ℕ)) (e : RawExpr) (o : Op) (a b : RawExpr) → e ≡ raw.Bin o a b → knows_expr names e ≡ true → is_expr e ≡ true → IsOperand names e a × IsOperand names e b
of_bin names e o a b is k r =
    let known = both {a = knows_expr names a} {b = knows_expr names b} (sym (ap (knows_expr names) is ∙ knows-Bin names o a b) ∙ k) in
    let ranged = both {a = is_expr a} {b = is_expr b} (sym (ap is_expr is ∙ is_expr-Bin o a b) ∙ r) in
    let deeper = ap raw_depth is ∙ raw_depth-Bin o a b in
    (record { known = known.0; ranged = ranged.0; smaller = omega (arith, deeper) }, record { known = known.1; ranged = ranged.1; smaller = omega (arith, deeper) })

pub of_has : (names : List (List ℕ)) (e : RawExpr) (set : Listed ℕ) (a : RawExpr) → e ≡ raw.Has set a → knows_expr names e ≡ true → is_expr e ≡ true → (is_known names set ≡ true) × IsOperand names e a
of_has names e set a is k r =
    let known = both {a = is_known names set} {b = knows_expr names a} (sym (ap (knows_expr names) is ∙ knows-Has names set a) ∙ k) in
    let ranged = both {a = is_name_text set} {b = is_expr a} (sym (ap is_expr is ∙ is_expr-Has set a) ∙ r) in
    let deeper = ap raw_depth is ∙ raw_depth-Has set a in
    (known.0, record { known = known.1; ranged = ranged.1; smaller = omega (arith, deeper) })

pub of_if : (names : List (List ℕ)) (e c a b : RawExpr) → e ≡ raw.If c a b → knows_expr names e ≡ true → is_expr e ≡ true → IsOperand names e c × IsOperand names e a × IsOperand names e b
of_if names e c a b is k r =
    let known = all_three (knows_expr names c) (knows_expr names a) (knows_expr names b) (sym (ap (knows_expr names) is ∙ knows-If names c a b) ∙ k) in
    let ranged = all_three (is_expr c) (is_expr a) (is_expr b) (sym (ap is_expr is ∙ is_expr-If c a b) ∙ r) in
    let deeper = ap raw_depth is ∙ raw_depth-If c a b in
    (record { known = known.0; ranged = ranged.0; smaller = omega (arith, deeper) }, record { known = known.1; ranged = ranged.1; smaller = omega (arith, deeper) }, record { known = known.2; ranged = ranged.2; smaller = omega (arith, deeper) })
