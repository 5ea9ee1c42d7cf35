-- What an expression over names means.
use Rattle.std.proofs.Common.{ℕ, ◌≡◌, ◌&&◌, Bool, true, List, Option, Some, None, option_map, refl, sym, ap, subst, ◌∙◌, arith}
use Rattle.std.specs.Prelude.{slice_get, count_by, is_some, option_and_then}
use Rattle.std.proofs.lemmas.Bool.{and_parts, and_from, ltb-true}
use Rattle.std.proofs.lemmas.Option.{option_and_then_some, slice_get_within}
use Rattle.re_terms.specs.Kinds.{Sort, Device, Symbol, Value, Set, Event, SomeKind, ◌>>=◌, value_kind_of, set_kind_of, event_kind_of, value_kind, set_kind, expr_kind, kind_step, sorts_of}
use Rattle.re_terms.specs.Kinds.{Place as Standing}
use Rattle.re_terms.specs.Programs.{is_symbol, names_of, is_literal_word, has_literals, literals_step}
use Rattle.re_terms.specs.declared.word.Word.{Word}
use Rattle.re_terms.specs.declared.word.Word.TheVariants as word
use Rattle.re_terms.specs.declared.word.Kind.{Kind}
use Rattle.re_terms.specs.declared.expr.Op.{Op}
use Rattle.re_terms.specs.declared.expr.Expr.{Expr, roll-Expr, map-Expr}
use Rattle.re_terms.specs.declared.expr.Expr.TheVariants as tree
use Rattle.re_terms.specs.declared.expr.Expr.TheOpen.{Expr-F, Lit, Name, Arg, Own, Not, Bin, If, Recover, Size, Has}
use Rattle.re_terms.specs.declared.expr.Expr.TheFolds.{fold-roll-Expr, ind-Expr}
use Rattle.re_terms.specs.declared.program.Decl.{Decl}
use Rattle.re_terms.specs.declared.program.Program.{Program}
use Rattle.re_terms.specs.declared.raw_expr.RawLit.TheVariants as literal
use Rattle.re_terms.specs.declared.raw_expr.RawExpr.{RawExpr, fold-roll-RawExpr}
use Rattle.re_terms.specs.declared.raw_expr.RawExpr.TheVariants as expr
use Rattle.re_types.specs.Resolving.{Scope, scope_of, place_of, knows_expr, knows_step, resolved_expr, resolved_step, name_expr}
use Rattle.re_print.specs.Canonical.{name_text, symbol_text}
use Rattle.re_reading.proofs.NamePlaces.{Context, NameIs, name_is_at}
use Rattle.re_reading.proofs.Sorts.{sorts_length, symbol_is_at}
use Rattle.re_reading.proofs.Unresolved.{name_of, raw_literal, raw_word, raw_step, raw_expr, sayable_step, is_sayable_expr}

-- a value that is there goes on to what is made of it
pub then_some : {A B : Type 0} (o : Option A) (x : A) (f : A → Option B) → o ≡ Some x → (o >>= f) ≡ f x
then_some o x f e = ap (option_and_then f) e

pub mapped_some : {A B : Type 0} (f : A → B) (o : Option A) (y : B) (P : Type 0) → option_map f o ≡ Some y → ((x : A) → o ≡ Some x → P) → P
mapped_some f None y P e more = absurd (cc)
mapped_some f (Some x) y P e more = more x refl

is_some_of : {A : Type 0} (o : Option A) (x : A) → o ≡ Some x → is_some o ≡ true
is_some_of o x e = ap is_some e

-- the sort behind a kind
pub value_sort : (o : Option Sort) (k : Kind) → value_kind_of o ≡ Some k → o ≡ Some (Value k)
value_sort None k e = absurd (cc)
value_sort (Some Device) k e = absurd (cc)
value_sort (Some (Symbol n)) k e = absurd (cc)
value_sort (Some (Value v)) k e = ap (option_map Value) e
value_sort (Some (Set v)) k e = absurd (cc)
value_sort (Some (Event v)) k e = absurd (cc)

pub set_sort : (o : Option Sort) (k : Kind) → set_kind_of o ≡ Some k → o ≡ Some (Set k)
set_sort None k e = absurd (cc)
set_sort (Some Device) k e = absurd (cc)
set_sort (Some (Symbol n)) k e = absurd (cc)
set_sort (Some (Value v)) k e = absurd (cc)
set_sort (Some (Set v)) k e = ap (option_map Set) e
set_sort (Some (Event v)) k e = absurd (cc)

pub event_sort : (o : Option Sort) (k : Kind) → event_kind_of o ≡ Some k → o ≡ Some (Event k)
event_sort None k e = absurd (cc)
event_sort (Some Device) k e = absurd (cc)
event_sort (Some (Symbol n)) k e = absurd (cc)
event_sort (Some (Value v)) k e = absurd (cc)
event_sort (Some (Set v)) k e = absurd (cc)
event_sort (Some (Event v)) k e = ap (option_map Event) e

-- a name with a sort is declared earlier
pub sorted_name : (p : Program) (earlier rest : List Decl) (id : ℕ) (s : Sort) → Context p earlier rest → slice_get (sorts_of earlier) id ≡ Some s → NameIs p earlier id
sorted_name p earlier rest id s c e =
    let n = slice_get_within (sorts_of earlier) id s e in
    let l = sorts_length earlier in
    name_is_at p earlier rest id c (omega arith)

-- an expression is what its text means, names only what is declared, and can be said
pub record Meaning (p : Program) (earlier : List Decl) (e : Expr) : Type 0 where
  pub resolved : resolved_expr (scope_of earlier) (raw_expr p e) ≡ Some e
  pub known : knows_expr (names_of earlier) (raw_expr p e) ≡ true
  pub sayable : is_sayable_expr p e ≡ true

record ExprMeans (p : Program) (earlier : List Decl) (place : Standing) (e : Expr) : Type 0 where
  means : (k : SomeKind) → expr_kind (sorts_of earlier) place e ≡ Some k → has_literals (count_by is_symbol earlier) e ≡ true → Meaning p earlier e

-- one layer of each fold
raw_roll : (p : Program) (d : Expr-F Expr) → raw_expr p (roll-Expr d) ≡ raw_step p (map-Expr Expr RawExpr (raw_expr p) d)
raw_roll p d = fold-roll-Expr RawExpr (raw_step p) d

sayable_roll : (p : Program) (d : Expr-F Expr) → is_sayable_expr p (roll-Expr d) ≡ sayable_step p (map-Expr Expr Bool (is_sayable_expr p) d)
sayable_roll p d = fold-roll-Expr Bool (sayable_step p) d

kind_roll : (sorts : List Sort) (place : Standing) (d : Expr-F Expr) → expr_kind sorts place (roll-Expr d) ≡ kind_step sorts place (map-Expr Expr (Option SomeKind) (expr_kind sorts place) d)
kind_roll sorts place d = fold-roll-Expr (Option SomeKind) (kind_step sorts place) d

literals_roll : (symbols : ℕ) (d : Expr-F Expr) → has_literals symbols (roll-Expr d) ≡ literals_step symbols (map-Expr Expr Bool (has_literals symbols) d)
literals_roll symbols d = fold-roll-Expr Bool (literals_step symbols) d

-- what a layer's text means
record LayerMeaning (p : Program) (earlier : List Decl) (d : Expr-F Expr) (r : RawExpr) : Type 0 where
  resolved : resolved_expr (scope_of earlier) r ≡ Some (roll-Expr d)
  known : knows_expr (names_of earlier) r ≡ true
  sayable : sayable_step p (map-Expr Expr Bool (is_sayable_expr p) d) ≡ true

by_layer : (p : Program) (earlier : List Decl) (place : Standing) (d : Expr-F Expr) (r : RawExpr) → raw_step p (map-Expr Expr RawExpr (raw_expr p) d) ≡ r
    → ((k : SomeKind) → kind_step (sorts_of earlier) place (map-Expr Expr (Option SomeKind) (expr_kind (sorts_of earlier) place) d) ≡ Some k
    → literals_step (count_by is_symbol earlier) (map-Expr Expr Bool (has_literals (count_by is_symbol earlier)) d) ≡ true → LayerMeaning p earlier d r)
    → ExprMeans p earlier place (roll-Expr d)
by_layer p earlier place d r e f = record {
  means = λ k h l.
      let m = f k (sym (kind_roll (sorts_of earlier) place d) ∙ h) (sym (literals_roll (count_by is_symbol earlier) d) ∙ l) in
      let raw_is : raw_expr p (roll-Expr d) ≡ r = raw_roll p d ∙ e in
      record {
        resolved = ap (resolved_expr (scope_of earlier)) raw_is ∙ m.resolved;
        known = ap (knows_expr (names_of earlier)) raw_is ∙ m.known;
        sayable = sayable_roll p d ∙ m.sayable;
      };
}

resolved_by : (scope : Scope) (r : RawExpr) (x y : Option Expr) → resolved_expr scope r ≡ x → x ≡ y → resolved_expr scope r ≡ y
resolved_by scope r x y e f = e ∙ f

-- words
word_means : (p : Program) (earlier rest : List Decl) (w : Word) → Context p earlier rest → is_literal_word (count_by is_symbol earlier) w ≡ true → LayerMeaning p earlier (Lit w) (raw_word p w)
word_means p earlier rest (word.Int z) c l = record {
  resolved = ap (resolved_expr (scope_of earlier)) (sym (expr.rolls-Lit (literal.Int z))) ∙ fold-roll-RawExpr (Option Expr) (resolved_step (scope_of earlier)) _ ∙ ap Some (sym (tree.rolls-Lit (word.Int z)));
  known = ap (knows_expr (names_of earlier)) (sym (expr.rolls-Lit (literal.Int z))) ∙ fold-roll-RawExpr Bool (knows_step (names_of earlier)) _;
  sayable = l;
}
word_means p earlier rest (word.Bool b) c l = record {
  resolved = ap (resolved_expr (scope_of earlier)) (sym (expr.rolls-Lit (literal.Bool b))) ∙ fold-roll-RawExpr (Option Expr) (resolved_step (scope_of earlier)) _ ∙ ap Some (sym (tree.rolls-Lit (word.Bool b)));
  known = ap (knows_expr (names_of earlier)) (sym (expr.rolls-Lit (literal.Bool b))) ∙ fold-roll-RawExpr Bool (knows_step (names_of earlier)) _;
  sayable = refl;
}
word_means p earlier rest (word.Sym number) c l =
    let s = symbol_is_at p earlier rest number c (ltb-true number (count_by is_symbol earlier) l) in
    let x = raw_literal p (word.Sym number) in
    record {
      resolved =
          ap (resolved_expr (scope_of earlier)) (sym (expr.rolls-Lit x)) ∙ fold-roll-RawExpr (Option Expr) (resolved_step (scope_of earlier)) _
          ∙ then_some (place_of (names_of earlier) (symbol_text p number)) s.id (λ id. Some (name_expr (slice_get (sorts_of earlier) id) id)) s.place
          ∙ ap (λ o. Some (name_expr o s.id)) s.sort ∙ ap Some (sym (tree.rolls-Lit (word.Sym number)));
      known = ap (knows_expr (names_of earlier)) (sym (expr.rolls-Lit x)) ∙ fold-roll-RawExpr Bool (knows_step (names_of earlier)) _ ∙ is_some_of _ s.id s.place;
      sayable = s.named;
    }
word_means p earlier rest (word.Fault code) c l = record {
  resolved = ap (resolved_expr (scope_of earlier)) (sym (expr.rolls-Fault code)) ∙ fold-roll-RawExpr (Option Expr) (resolved_step (scope_of earlier)) _ ∙ ap Some (sym (tree.rolls-Lit (word.Fault code)));
  known = ap (knows_expr (names_of earlier)) (sym (expr.rolls-Fault code)) ∙ fold-roll-RawExpr Bool (knows_step (names_of earlier)) _;
  sayable = l;
}

-- names
name_means : (p : Program) (earlier rest : List Decl) (id : ℕ) (k : Kind) → Context p earlier rest → value_kind (sorts_of earlier) id ≡ Some k → LayerMeaning p earlier (Name id) (expr.Lit (literal.Name (name_of p id)))
name_means p earlier rest id k c e =
    let s = value_sort (slice_get (sorts_of earlier) id) k e in
    let n = sorted_name p earlier rest id (Value k) c s in
    let x = literal.Name (name_of p id) in
    record {
      resolved =
          ap (resolved_expr (scope_of earlier)) (sym (expr.rolls-Lit x)) ∙ fold-roll-RawExpr (Option Expr) (resolved_step (scope_of earlier)) _
          ∙ then_some (place_of (names_of earlier) (name_text p id)) id (λ i. Some (name_expr (slice_get (sorts_of earlier) i) i)) n.place
          ∙ ap (λ o. Some (name_expr o id)) s ∙ ap Some (sym (tree.rolls-Name id));
      known = ap (knows_expr (names_of earlier)) (sym (expr.rolls-Lit x)) ∙ fold-roll-RawExpr Bool (knows_step (names_of earlier)) _ ∙ is_some_of _ id n.place;
      sayable = n.named;
    }

arg_means : (p : Program) (earlier : List Decl) → LayerMeaning p earlier Arg expr.Arg
arg_means p earlier = record {
  resolved = ap (resolved_expr (scope_of earlier)) (sym expr.rolls-Arg) ∙ fold-roll-RawExpr (Option Expr) (resolved_step (scope_of earlier)) _ ∙ ap Some (sym tree.rolls-Arg);
  known = ap (knows_expr (names_of earlier)) (sym expr.rolls-Arg) ∙ fold-roll-RawExpr Bool (knows_step (names_of earlier)) _;
  sayable = refl;
}

own_means : (p : Program) (earlier : List Decl) → LayerMeaning p earlier Own expr.Own
own_means p earlier = record {
  resolved = ap (resolved_expr (scope_of earlier)) (sym expr.rolls-Own) ∙ fold-roll-RawExpr (Option Expr) (resolved_step (scope_of earlier)) _ ∙ ap Some (sym tree.rolls-Own);
  known = ap (knows_expr (names_of earlier)) (sym expr.rolls-Own) ∙ fold-roll-RawExpr Bool (knows_step (names_of earlier)) _;
  sayable = refl;
}

not_means : (p : Program) (earlier : List Decl) (x : Expr) → Meaning p earlier x → LayerMeaning p earlier (Not x) (expr.Not (raw_expr p x))
not_means p earlier x m = record {
  resolved =
      ap (resolved_expr (scope_of earlier)) (sym (expr.rolls-Not (raw_expr p x))) ∙ fold-roll-RawExpr (Option Expr) (resolved_step (scope_of earlier)) _
      ∙ ap (option_map tree.Not) m.resolved ∙ ap Some (sym (tree.rolls-Not x));
  known = ap (knows_expr (names_of earlier)) (sym (expr.rolls-Not (raw_expr p x))) ∙ fold-roll-RawExpr Bool (knows_step (names_of earlier)) _ ∙ m.known;
  sayable = m.sayable;
}

bin_means : (p : Program) (earlier : List Decl) (o : Op) (l r : Expr) → Meaning p earlier l → Meaning p earlier r → LayerMeaning p earlier (Bin o l r) (expr.Bin o (raw_expr p l) (raw_expr p r))
bin_means p earlier o l r m n = record {
  resolved =
      ap (resolved_expr (scope_of earlier)) (sym (expr.rolls-Bin o (raw_expr p l) (raw_expr p r))) ∙ fold-roll-RawExpr (Option Expr) (resolved_step (scope_of earlier)) _
      ∙ then_some _ l (λ a. resolved_expr (scope_of earlier) (raw_expr p r) >>= λ b. Some (tree.Bin o a b)) m.resolved
      ∙ then_some _ r (λ b. Some (tree.Bin o l b)) n.resolved ∙ ap Some (sym (tree.rolls-Bin o l r));
  known = ap (knows_expr (names_of earlier)) (sym (expr.rolls-Bin o (raw_expr p l) (raw_expr p r))) ∙ fold-roll-RawExpr Bool (knows_step (names_of earlier)) _ ∙ and_from _ _ m.known n.known;
  sayable = and_from _ _ m.sayable n.sayable;
}

if_means : (p : Program) (earlier : List Decl) (c a b : Expr) → Meaning p earlier c → Meaning p earlier a → Meaning p earlier b → LayerMeaning p earlier (If c a b) (expr.If (raw_expr p c) (raw_expr p a) (raw_expr p b))
if_means p earlier c a b m n o = record {
  resolved =
      ap (resolved_expr (scope_of earlier)) (sym (expr.rolls-If (raw_expr p c) (raw_expr p a) (raw_expr p b))) ∙ fold-roll-RawExpr (Option Expr) (resolved_step (scope_of earlier)) _
      ∙ then_some _ c (λ x. resolved_expr (scope_of earlier) (raw_expr p a) >>= λ y. resolved_expr (scope_of earlier) (raw_expr p b) >>= λ z. Some (tree.If x y z)) m.resolved
      ∙ then_some _ a (λ y. resolved_expr (scope_of earlier) (raw_expr p b) >>= λ z. Some (tree.If c y z)) n.resolved
      ∙ then_some _ b (λ z. Some (tree.If c a z)) o.resolved ∙ ap Some (sym (tree.rolls-If c a b));
  known = ap (knows_expr (names_of earlier)) (sym (expr.rolls-If (raw_expr p c) (raw_expr p a) (raw_expr p b))) ∙ fold-roll-RawExpr Bool (knows_step (names_of earlier)) _ ∙ and_from _ _ (and_from _ _ m.known n.known) o.known;
  sayable = and_from _ _ m.sayable (and_from _ _ n.sayable o.sayable);
}

recover_means : (p : Program) (earlier : List Decl) (a b : Expr) → Meaning p earlier a → Meaning p earlier b → LayerMeaning p earlier (Recover a b) (expr.Recover (raw_expr p a) (raw_expr p b))
recover_means p earlier a b m n = record {
  resolved =
      ap (resolved_expr (scope_of earlier)) (sym (expr.rolls-Recover (raw_expr p a) (raw_expr p b))) ∙ fold-roll-RawExpr (Option Expr) (resolved_step (scope_of earlier)) _
      ∙ then_some _ a (λ x. resolved_expr (scope_of earlier) (raw_expr p b) >>= λ y. Some (tree.Recover x y)) m.resolved
      ∙ then_some _ b (λ y. Some (tree.Recover a y)) n.resolved ∙ ap Some (sym (tree.rolls-Recover a b));
  known = ap (knows_expr (names_of earlier)) (sym (expr.rolls-Recover (raw_expr p a) (raw_expr p b))) ∙ fold-roll-RawExpr Bool (knows_step (names_of earlier)) _ ∙ and_from _ _ m.known n.known;
  sayable = and_from _ _ m.sayable n.sayable;
}

size_means : (p : Program) (earlier rest : List Decl) (set : ℕ) (k : Kind) → Context p earlier rest → set_kind (sorts_of earlier) set ≡ Some k → LayerMeaning p earlier (Size set) (expr.Size (name_of p set))
size_means p earlier rest set k c e =
    let n = sorted_name p earlier rest set (Set k) c (set_sort (slice_get (sorts_of earlier) set) k e) in
    record {
      resolved =
          ap (resolved_expr (scope_of earlier)) (sym (expr.rolls-Size (name_of p set))) ∙ fold-roll-RawExpr (Option Expr) (resolved_step (scope_of earlier)) _
          ∙ ap (option_map tree.Size) n.place ∙ ap Some (sym (tree.rolls-Size set));
      known = ap (knows_expr (names_of earlier)) (sym (expr.rolls-Size (name_of p set))) ∙ fold-roll-RawExpr Bool (knows_step (names_of earlier)) _ ∙ is_some_of _ set n.place;
      sayable = n.named;
    }

has_means : (p : Program) (earlier rest : List Decl) (set : ℕ) (k : Kind) (x : Expr) → Context p earlier rest → set_kind (sorts_of earlier) set ≡ Some k → Meaning p earlier x → LayerMeaning p earlier (Has set x) (expr.Has (name_of p set) (raw_expr p x))
has_means p earlier rest set k x c e m =
    let n = sorted_name p earlier rest set (Set k) c (set_sort (slice_get (sorts_of earlier) set) k e) in
    record {
      resolved =
          ap (resolved_expr (scope_of earlier)) (sym (expr.rolls-Has (name_of p set) (raw_expr p x))) ∙ fold-roll-RawExpr (Option Expr) (resolved_step (scope_of earlier)) _
          ∙ then_some _ set (λ id. resolved_expr (scope_of earlier) (raw_expr p x) >>= λ a. Some (tree.Has id a)) n.place
          ∙ then_some _ x (λ a. Some (tree.Has set a)) m.resolved ∙ ap Some (sym (tree.rolls-Has set x));
      known = ap (knows_expr (names_of earlier)) (sym (expr.rolls-Has (name_of p set) (raw_expr p x))) ∙ fold-roll-RawExpr Bool (knows_step (names_of earlier)) _ ∙ and_from _ _ (is_some_of _ set n.place) m.known;
      sayable = and_from _ _ n.named m.sayable;
    }

abbrev Part : Program → List Decl → Standing → Type 0
Part p earlier place = (e : Expr) × ExprMeans p earlier place e

-- the kinds of operands, where an operation has one
layer_means : (p : Program) (earlier rest : List Decl) (place : Standing) (c : Context p earlier rest) (d : Expr-F (Part p earlier place)) → ExprMeans p earlier place (roll-Expr (map-Expr (Part p earlier place) Expr (λ e. e.0) d))
layer_means p earlier rest place c (Lit w) = by_layer p earlier place (Lit w) (raw_word p w) refl (λ k h l. word_means p earlier rest w c l)
layer_means p earlier rest place c (Name id) = by_layer p earlier place (Name id) _ refl (λ k h l. mapped_some _ _ k _ h (λ v e. name_means p earlier rest id v c e))
layer_means p earlier rest place c Arg = by_layer p earlier place Arg expr.Arg refl (λ k h l. arg_means p earlier)
layer_means p earlier rest place c Own = by_layer p earlier place Own expr.Own refl (λ k h l. own_means p earlier)
layer_means p earlier rest place c (Not x) = by_layer p earlier place (Not x.0) _ refl (λ k h l. option_and_then_some _ _ k h (λ a ea ra. not_means p earlier x.0 (x.1.means a ea l)))
layer_means p earlier rest place c (Bin o x y) = by_layer p earlier place (Bin o x.0 y.0) _ refl (λ k h l.
    let q = and_parts (has_literals (count_by is_symbol earlier) x.0) (has_literals (count_by is_symbol earlier) y.0) l in
    option_and_then_some _ _ k h (λ a ea ra. option_and_then_some _ _ k ra (λ b eb rb. bin_means p earlier o x.0 y.0 (x.1.means a ea q.0) (y.1.means b eb q.1))))
layer_means p earlier rest place c (If x y z) = by_layer p earlier place (If x.0 y.0 z.0) _ refl (λ k h l.
    let q = and_parts (has_literals (count_by is_symbol earlier) x.0 && has_literals (count_by is_symbol earlier) y.0) (has_literals (count_by is_symbol earlier) z.0) l in
    let r = and_parts (has_literals (count_by is_symbol earlier) x.0) (has_literals (count_by is_symbol earlier) y.0) q.0 in
    option_and_then_some _ _ k h (λ a ea ra. option_and_then_some _ _ k ra (λ b eb rb. option_and_then_some _ _ k rb (λ m em rm.
    if_means p earlier x.0 y.0 z.0 (x.1.means a ea r.0) (y.1.means b eb r.1) (z.1.means m em q.1)))))
layer_means p earlier rest place c (Recover x y) = by_layer p earlier place (Recover x.0 y.0) _ refl (λ k h l.
    let q = and_parts (has_literals (count_by is_symbol earlier) x.0) (has_literals (count_by is_symbol earlier) y.0) l in
    option_and_then_some _ _ k h (λ a ea ra. option_and_then_some _ _ k ra (λ b eb rb. recover_means p earlier x.0 y.0 (x.1.means a ea q.0) (y.1.means b eb q.1))))
layer_means p earlier rest place c (Size set) = by_layer p earlier place (Size set) _ refl (λ k h l. mapped_some _ _ k _ h (λ v e. size_means p earlier rest set v c e))
layer_means p earlier rest place c (Has set x) = by_layer p earlier place (Has set x.0) _ refl (λ k h l. option_and_then_some _ _ k h (λ v e r. option_and_then_some _ _ k r (λ a ea ra. has_means p earlier rest set v x.0 c e (x.1.means a ea l))))

all_mean : (p : Program) (earlier rest : List Decl) (place : Standing) → Context p earlier rest → (e : Expr) → ExprMeans p earlier place e
all_mean p earlier rest place c = ind-Expr (ExprMeans p earlier place) (λ x y is. subst (λ z. ExprMeans p earlier place (roll-Expr z)) is (layer_means p earlier rest place c y))

pub expr_means : (p : Program) (earlier rest : List Decl) (place : Standing) → Context p earlier rest → (e : Expr) (k : SomeKind) → expr_kind (sorts_of earlier) place e ≡ Some k → has_literals (count_by is_symbol earlier) e ≡ true → Meaning p earlier e
expr_means p earlier rest place c e k h l = (all_mean p earlier rest place c e).means k h l
