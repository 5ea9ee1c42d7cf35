-- An expression means the same in two environments that are alike in all that it names.
use Rattle.std.proofs.Common.{◌≡◌, ℕ, true, false, List, [], ◌∷◌, ◌++◌, refl, sym, ap, subst, ◌∙◌}
use Rattle.std.specs.Prelude.{Option, None, Some, is_some, option_map, option_and_then, unwrap_or, pos}
use Rattle.std.specs.List.{All}
use Rattle.std.proofs.lemmas.List.Elements.{All-nil, All-cons, All-head, All-tail}
use Rattle.std.proofs.Math.Path.{fun_ext}
use Rattle.re_terms.specs.declared.expr.Expr.{Expr, roll-Expr, map-Expr}
use Rattle.re_terms.specs.declared.expr.Expr.TheOpen.{Expr-F, Lit, Name, Arg, Own, Not, Bin, If, Recover, Size, Has}
use Rattle.re_terms.specs.declared.expr.Expr.TheFolds.{fold-roll-Expr, ind-Expr}
use Rattle.re_terms.specs.declared.word.Kind.{Kind}
use Rattle.re_terms.specs.declared.word.Kind.TheVariants as kind
use Rattle.re_terms.specs.declared.word.Word.{Word}
use Rattle.re_terms.specs.declared.word.Word.TheVariants as word
use Rattle.re_terms.specs.Arithmetic.{operator_word, not_word, if_word, recover_word}
use Rattle.re_terms.specs.Dependencies.{expr_names, names_step}
use Rattle.re_terms.specs.Kinds.{Sort, SomeKind, Place, kind_step, expr_kind, value_kind, set_kind, taking}
use Rattle.re_terms.specs.Meaning.{Environment, has_word, meaning, meaning_step}

all_left : (P : ℕ → Type 0) (xs ys : List ℕ) → All P (xs ++ ys) → All P xs
all_left P [] ys h = All-nil P
all_left P (x ∷ xs) ys h = All-cons P x xs (All-head P x (xs ++ ys) h) (all_left P xs ys (All-tail P x (xs ++ ys) h))

all_right : (P : ℕ → Type 0) (xs ys : List ℕ) → All P (xs ++ ys) → All P ys
all_right P [] ys h = h
all_right P (x ∷ xs) ys h = all_right P xs ys (All-tail P x (xs ++ ys) h)

-- what is made of a value that is there
pub bind_then : {A B P : Type 0} (o : Option A) (f : A → Option B) → is_some (option_and_then f o) ≡ true → ((x : A) → o ≡ Some x → is_some (f x) ≡ true → P) → P
bind_then None f h next = absurd (no h)
  where
    no : false ≡ true → ⊥
    no e = cc
bind_then (Some x) f h next = next x refl h

pub bind_some : {A B : Type 0} (o : Option A) (f : A → Option B) → is_some (option_and_then f o) ≡ true → is_some o ≡ true
bind_some o f h = bind_then o f h (λ x is more. ap is_some is)

pub map_some : {A B : Type 0} (o : Option A) (f : A → B) → is_some (option_map f o) ≡ true → is_some o ≡ true
map_some None f h = h
map_some (Some x) f h = refl

-- a name that stands for a word has the same word, and one that stands for a set the same size and members
pub record IsAlikeAt (sorts : List Sort) (v w : Environment) (n : ℕ) : Type 0 where
  pub word : is_some (value_kind sorts n) ≡ true → v.word n ≡ w.word n
  pub size : is_some (set_kind sorts n) ≡ true → v.size n ≡ w.size n
  pub has : is_some (set_kind sorts n) ≡ true → (x : Word) → v.has n x ≡ w.has n x

module _ (sorts : List Sort) (place : Place) (v w : Environment) (arg_same : v.arg ≡ w.arg) (own_same : v.own ≡ w.own) where
  abbrev Alike : ℕ → Type 0
  Alike = IsAlikeAt sorts v w

  abbrev Means : Expr → Type 0
  Means e = is_some (expr_kind sorts place e) ≡ true → All Alike (expr_names e) → meaning e v ≡ meaning e w

  abbrev Part : Type 0
  Part = (e : Expr) × Means e

  abbrev whole : Expr-F Part → Expr-F Expr
  whole = map-Expr Part Expr (λ e. e.0)

  by_layer : (y : Expr-F Part) → is_some (kind_step sorts place (map-Expr Expr (Option SomeKind) (expr_kind sorts place) (whole y))) ≡ true → All Alike (names_step (map-Expr Expr (List ℕ) expr_names (whole y)))
      → meaning_step (map-Expr Expr (Environment → Word) meaning (whole y)) v ≡ meaning_step (map-Expr Expr (Environment → Word) meaning (whole y)) w
  by_layer (Lit x) k h = refl
  by_layer (Name id) k h = (All-head Alike id [] h).word (map_some (value_kind sorts id) Some k)
  by_layer Arg k h = ap (λ o. unwrap_or o (word.Fault 2)) arg_same
  by_layer Own k h = ap (λ o. unwrap_or o (word.Fault 2)) own_same
  by_layer (Not operand) k h = ap not_word (operand.1 (bind_some _ _ k) h)
  by_layer (Bin o left right) k h = bind_then _ _ k (λ a is rest.
      let x = left.1 (ap is_some is) (all_left Alike (expr_names left.0) (expr_names right.0) h) in
      let y = right.1 (bind_some _ _ rest) (all_right Alike (expr_names left.0) (expr_names right.0) h) in
      λ i. operator_word o (x i) (y i))
  by_layer (If condition a b) k h = bind_then _ _ k (λ c is rest. bind_then _ _ rest (λ x at more.
      let front = all_left Alike (expr_names condition.0 ++ expr_names a.0) (expr_names b.0) h in
      let first = condition.1 (ap is_some is) (all_left Alike (expr_names condition.0) (expr_names a.0) front) in
      let second = a.1 (ap is_some at) (all_right Alike (expr_names condition.0) (expr_names a.0) front) in
      let third = b.1 (bind_some _ _ more) (all_right Alike (expr_names condition.0 ++ expr_names a.0) (expr_names b.0) h) in
      λ i. if_word (first i) (second i) (third i)))
  by_layer (Recover tried other) k h = bind_then _ _ k (λ a is rest.
      let x = tried.1 (ap is_some is) (all_left Alike (expr_names tried.0) (expr_names other.0) h) in
      let y = other.1 (bind_some _ _ rest) (all_right Alike (expr_names tried.0) (expr_names other.0) h) in
      λ i. recover_word (x i) (y i))
  by_layer (Size set) k h = ap (λ n. word.Int (pos n)) ((All-head Alike set [] h).size (map_some (set_kind sorts set) (λ elements. Some kind.Int) k))
  by_layer (Has set element) k h = bind_then {A = Kind} {B = SomeKind} (set_kind sorts set) _ k (λ elements is rest.
      let same : v.has set ≡ w.has set = fun_ext ((All-head Alike set (expr_names element.0) h).has (ap is_some is)) in
      let x = element.1 (bind_some _ (λ a. taking (Some elements) (Some kind.Bool) a) rest) (All-tail Alike set (expr_names element.0) h) in
      λ i. has_word (same i) (x i))

  -- with the same value of the occurrence and the same word of the fold
  pub meaning-alike : (e : Expr) → is_some (expr_kind sorts place e) ≡ true → All Alike (expr_names e) → meaning e v ≡ meaning e w
  meaning-alike = ind-Expr Means (λ x y is. subst (λ z. Means (roll-Expr z)) is (λ k h.
      ap (λ (f : Environment → Word). f v) (fold-roll-Expr (Environment → Word) meaning_step (whole y))
      ∙ by_layer y (sym (ap is_some (fold-roll-Expr (Option SomeKind) (kind_step sorts place) (whole y))) ∙ k) (subst (All Alike) (fold-roll-Expr (List ℕ) names_step (whole y)) h)
      ∙ sym (ap (λ (f : Environment → Word). f w) (fold-roll-Expr (Environment → Word) meaning_step (whole y)))))
