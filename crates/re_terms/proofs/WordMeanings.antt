-- An expression's word is of the expression's kind or a fault.
use Rattle.std.proofs.Common.{◌≡◌, ◌≤◌, ℕ, Bool, true, false, ◌&&◌, ◌||◌, refl, sym, ap, subst, ◌∙◌, arith}
use Rattle.std.specs.Prelude.{ℤ, pos, ◌+ℤ◌, ◌-ℤ◌, ◌*ℤ◌, int_div, ◌==◌, Option, None, Some, List, if◌then◌else◌, unwrap_or, option_map, nat_lt}
use Rattle.std.specs.Ordering.{int_eq}
use Rattle.std.proofs.lemmas.Bool.{and_parts, ltb-true}
use Rattle.re_terms.specs.declared.expr.Op.{Op}
use Rattle.re_terms.specs.declared.expr.Op.TheVariants as op
use Rattle.re_terms.specs.declared.expr.Expr.{Expr, roll-Expr, map-Expr}
use Rattle.re_terms.specs.declared.expr.Expr.TheOpen.{Expr-F, Lit, Name, Arg, Own, Not, Bin, If, Recover, Size, Has}
use Rattle.re_terms.specs.declared.expr.Expr.TheFolds.{fold-roll-Expr, ind-Expr}
use Rattle.re_terms.specs.declared.word.Kind.{Kind}
use Rattle.re_terms.specs.declared.word.Kind.TheVariants as kind
use Rattle.re_terms.specs.declared.word.Word.{Word}
use Rattle.re_terms.specs.declared.word.Word.TheVariants as word
use Rattle.re_terms.specs.Arithmetic.{is_word_number, whole, number_word, strict_word, and_word, or_word, operator_word, not_word, if_word, recover_word}
use Rattle.re_terms.specs.Kinds.{Sort, SomeKind, Place, kind_eq, word_kind, common_kind, taking, operator_kind, only_if, is_start, agrees_with, kind_step, expr_kind, value_kind, set_kind}
use Rattle.re_terms.specs.Meaning.{Environment, has_word, meaning, meaning_step}
use Rattle.re_terms.specs.Programs.{has_literals, literals_step, is_literal_word}
use Rattle.re_terms.specs.Shapes.{is_word_of}
use Rattle.re_terms.specs.Trees.{is_fault_code}
use Rattle.re_terms.specs.WordKinds.{is_code, is_word_or_fault, IsEnvironmentOf}
use Rattle.re_terms.proofs.Ordered.{through}

pub never : {A : Type 0} → false ≡ true → A
never h = absurd (no h)
  where
    no : false ≡ true → ⊥
    no e = cc

-- ---- kinds

pub kind_is : (a b : Kind) → kind_eq a b ≡ true → a ≡ b
kind_is kind.Int kind.Int h = refl
kind_is kind.Bool kind.Bool h = refl
kind_is kind.Sym kind.Sym h = refl
kind_is kind.Int kind.Bool h = never h
kind_is kind.Int kind.Sym h = never h
kind_is kind.Bool kind.Int h = never h
kind_is kind.Bool kind.Sym h = never h
kind_is kind.Sym kind.Int h = never h
kind_is kind.Sym kind.Bool h = never h

pub kind_itself : (a : Kind) → kind_eq a a ≡ true
kind_itself kind.Int = refl
kind_itself kind.Bool = refl
kind_itself kind.Sym = refl

-- an expression of this kind may stand where that kind is wanted
abbrev pub suits : Kind → SomeKind → Bool
suits k s = agrees_with k (Some s)

some_suits : (s : SomeKind) → (k : Kind) × (suits k s ≡ true)
some_suits None = (kind.Int, refl)
some_suits (Some a) = (a, kind_itself a)

pub only : {A : Type 0} (b : Bool) (x y : A) → only_if b x ≡ Some y → (b ≡ true) × (x ≡ y)
only true x y h = (refl, same)
  where
    same : x ≡ y
    same = cc
only false x y h = absurd (cc)

common : (a b c : SomeKind) (k : Kind) → common_kind a b ≡ Some c → suits k c ≡ true → (suits k a ≡ true) × (suits k b ≡ true)
common None b c k e h = let same : b ≡ c = cc in (refl, ap (suits k) same ∙ h)
common (Some a) None c k e h = let same : Some a ≡ c = cc in (ap (suits k) same ∙ h, refl)
common (Some a) (Some b) c k e h =
    let o = only (kind_eq a b) (Some a) c e in
    let first : suits k (Some a) ≡ true = ap (suits k) o.1 ∙ h in
    (first, ap (λ x. kind_eq x k) (sym (kind_is a b o.0)) ∙ first)

taken : (wanted : Kind) (given operand s : SomeKind) → taking (Some wanted) given operand ≡ Some s → (suits wanted operand ≡ true) × (given ≡ s)
taken wanted given None s h = let same : given ≡ s = cc in (refl, same)
taken wanted given (Some a) s h = by (kind_eq a wanted) refl h
  where
    by : (b : Bool) → kind_eq a wanted ≡ b → option_map (λ (c : SomeKind). given) (only_if b (Some a)) ≡ Some s → (suits wanted (Some a) ≡ true) × (given ≡ s)
    by true is e = let same : given ≡ s = cc in (is, same)
    by false is e = absurd (cc)

taken_any : (given operand s : SomeKind) → taking None given operand ≡ Some s → given ≡ s
taken_any given None s h = cc
taken_any given (Some a) s h = cc

-- ---- words

module _ (symbols : ℕ) where
  -- a word of this kind is one of it or a fault
  pub word_or_fault : (k : Kind) (w : Word) → is_word_of symbols k w ≡ true → is_word_or_fault symbols k w ≡ true
  word_or_fault k (word.Int z) h = h
  word_or_fault k (word.Bool b) h = h
  word_or_fault k (word.Sym n) h = h
  word_or_fault kind.Int (word.Fault c) h = never h
  word_or_fault kind.Bool (word.Fault c) h = never h
  word_or_fault kind.Sym (word.Fault c) h = never h

  pub whole_word : (z : ℤ) → is_word_or_fault symbols kind.Int (whole z) ≡ true
  whole_word z = by (is_word_number z) refl
    where
      by : (b : Bool) → is_word_number z ≡ b → is_word_or_fault symbols kind.Int (if b then word.Int z else word.Fault 1) ≡ true
      by true is = is
      by false is = refl

  divided : (b : Bool) (z : ℤ) → is_word_or_fault symbols kind.Int (if b then word.Fault 2 else whole z) ≡ true
  divided true z = refl
  divided false z = whole_word z

  -- an operator on two ints
  ints : (o : Op) (k : Kind) (a b : Word) → is_word_or_fault symbols kind.Int a ≡ true → is_word_or_fault symbols kind.Int b ≡ true → ((x y : ℤ) → is_word_or_fault symbols k (number_word o x y) ≡ true) → is_word_or_fault symbols k (strict_word o a b) ≡ true
  ints o k (word.Fault c) b ha hb each = ha
  ints o k (word.Int x) (word.Fault c) ha hb each = hb
  ints o k (word.Int x) (word.Int y) ha hb each = each x y
  ints o k (word.Int x) (word.Bool y) ha hb each = never hb
  ints o k (word.Int x) (word.Sym y) ha hb each = never hb
  ints o k (word.Bool x) b ha hb each = never ha
  ints o k (word.Sym x) b ha hb each = never ha

  equal_words : (j : Kind) (a b : Word) → is_word_or_fault symbols j a ≡ true → is_word_or_fault symbols j b ≡ true → is_word_or_fault symbols kind.Bool (strict_word op.Eq a b) ≡ true
  equal_words j (word.Fault c) b ha hb = ha
  equal_words j (word.Int x) (word.Fault c) ha hb = hb
  equal_words j (word.Bool x) (word.Fault c) ha hb = hb
  equal_words j (word.Sym x) (word.Fault c) ha hb = hb
  equal_words j a b ha hb = refl

  other_words : (j : Kind) (a b : Word) → is_word_or_fault symbols j a ≡ true → is_word_or_fault symbols j b ≡ true → is_word_or_fault symbols kind.Bool (strict_word op.Ne a b) ≡ true
  other_words j (word.Fault c) b ha hb = ha
  other_words j (word.Int x) (word.Fault c) ha hb = hb
  other_words j (word.Bool x) (word.Fault c) ha hb = hb
  other_words j (word.Sym x) (word.Fault c) ha hb = hb
  other_words j a b ha hb = refl

  both_words : (a b : Word) → is_word_or_fault symbols kind.Bool a ≡ true → is_word_or_fault symbols kind.Bool b ≡ true → is_word_or_fault symbols kind.Bool (and_word a b) ≡ true
  both_words (word.Fault c) b ha hb = ha
  both_words (word.Bool true) b ha hb = hb
  both_words (word.Bool false) b ha hb = refl
  both_words (word.Int x) b ha hb = never ha
  both_words (word.Sym x) b ha hb = never ha

  either_word : (a b : Word) → is_word_or_fault symbols kind.Bool a ≡ true → is_word_or_fault symbols kind.Bool b ≡ true → is_word_or_fault symbols kind.Bool (or_word a b) ≡ true
  either_word (word.Fault c) b ha hb = ha
  either_word (word.Bool true) b ha hb = refl
  either_word (word.Bool false) b ha hb = hb
  either_word (word.Int x) b ha hb = never ha
  either_word (word.Sym x) b ha hb = never ha

  negated : (a : Word) → is_word_or_fault symbols kind.Bool a ≡ true → is_word_or_fault symbols kind.Bool (not_word a) ≡ true
  negated (word.Bool x) h = refl
  negated (word.Fault c) h = h
  negated (word.Int x) h = never h
  negated (word.Sym x) h = never h

  one_of : (k : Kind) (c a b : Word) → is_word_or_fault symbols kind.Bool c ≡ true → is_word_or_fault symbols k a ≡ true → is_word_or_fault symbols k b ≡ true → is_word_or_fault symbols k (if_word c a b) ≡ true
  one_of k (word.Fault c) a b hc ha hb = hc
  one_of k (word.Bool false) a b hc ha hb = hb
  one_of k (word.Bool true) a b hc ha hb = ha
  one_of k (word.Int x) a b hc ha hb = ha
  one_of k (word.Sym x) a b hc ha hb = ha

  recovered : (k : Kind) (a b : Word) → is_word_or_fault symbols k a ≡ true → is_word_or_fault symbols k b ≡ true → is_word_or_fault symbols k (recover_word a b) ≡ true
  recovered k (word.Fault c) b ha hb = hb
  recovered k (word.Int x) b ha hb = ha
  recovered k (word.Bool x) b ha hb = ha
  recovered k (word.Sym x) b ha hb = ha

  member : (k : Kind) (has : Word → Bool) (a : Word) → is_word_or_fault symbols k a ≡ true → is_word_or_fault symbols kind.Bool (has_word has a) ≡ true
  member k has (word.Fault c) h = h
  member k has (word.Int x) h = refl
  member k has (word.Bool x) h = refl
  member k has (word.Sym x) h = refl

  -- a word for each kind that an operand may stand for
  abbrev Stands : SomeKind → Word → Type 0
  Stands s w = (k : Kind) → suits k s ≡ true → is_word_or_fault symbols k w ≡ true

  of_kind : (k given : Kind) (w : Word) → suits k (Some given) ≡ true → is_word_or_fault symbols given w ≡ true → is_word_or_fault symbols k w ≡ true
  of_kind k given w h is = subst (λ j. is_word_or_fault symbols j w ≡ true) (kind_is given k h) is

  -- an operator that takes ints
  on_ints : (o : Op) (given : Kind) (left right s : SomeKind) (a b : Word) → (c : SomeKind) → common_kind left right ≡ Some c → taking (Some kind.Int) (Some given) c ≡ Some s
      → Stands left a → Stands right b → ((x y : ℤ) → is_word_or_fault symbols given (number_word o x y) ≡ true) → Stands s (strict_word o a b)
  on_ints o given left right s a b c e t ha hb each k h =
      let k_int = taken kind.Int (Some given) c s t in
      let parts = common left right c kind.Int e k_int.0 in
      of_kind k given (strict_word o a b) (ap (suits k) k_int.1 ∙ h) (ints o given a b (ha kind.Int parts.0) (hb kind.Int parts.1) each)

  on_bools : (f : Word → Word → Word) (left right s : SomeKind) (a b : Word) → (c : SomeKind) → common_kind left right ≡ Some c → taking (Some kind.Bool) (Some kind.Bool) c ≡ Some s
      → Stands left a → Stands right b → (is_word_or_fault symbols kind.Bool a ≡ true → is_word_or_fault symbols kind.Bool b ≡ true → is_word_or_fault symbols kind.Bool (f a b) ≡ true) → Stands s (f a b)
  on_bools f left right s a b c e t ha hb both k h =
      let k_bool = taken kind.Bool (Some kind.Bool) c s t in
      let parts = common left right c kind.Bool e k_bool.0 in
      of_kind k kind.Bool (f a b) (ap (suits k) k_bool.1 ∙ h) (both (ha kind.Bool parts.0) (hb kind.Bool parts.1))

  on_any : (o : Op) (left right s : SomeKind) (a b : Word) → (c : SomeKind) → common_kind left right ≡ Some c → taking None (Some kind.Bool) c ≡ Some s
      → Stands left a → Stands right b → ((j : Kind) → is_word_or_fault symbols j a ≡ true → is_word_or_fault symbols j b ≡ true → is_word_or_fault symbols kind.Bool (strict_word o a b) ≡ true) → Stands s (strict_word o a b)
  on_any o left right s a b c e t ha hb both k h =
      let j = some_suits c in
      let parts = common left right c j.0 e j.1 in
      of_kind k kind.Bool (strict_word o a b) (ap (suits k) (taken_any (Some kind.Bool) c s t) ∙ h) (both j.0 (ha j.0 parts.0) (hb j.0 parts.1))

  -- an operator gives a word of its kind or a fault
  operated : (o : Op) (left right s : SomeKind) (a b : Word) → operator_kind o left right ≡ Some s → Stands left a → Stands right b → Stands s (operator_word o a b)
  operated op.Add left right s a b e ha hb = let t = through (common_kind left right) _ s e in on_ints op.Add kind.Int left right s a b t.value t.is t.then_is ha hb (λ x y. whole_word (x +ℤ y))
  operated op.Sub left right s a b e ha hb = let t = through (common_kind left right) _ s e in on_ints op.Sub kind.Int left right s a b t.value t.is t.then_is ha hb (λ x y. whole_word (x -ℤ y))
  operated op.Mul left right s a b e ha hb = let t = through (common_kind left right) _ s e in on_ints op.Mul kind.Int left right s a b t.value t.is t.then_is ha hb (λ x y. whole_word (x *ℤ y))
  operated op.Div left right s a b e ha hb = let t = through (common_kind left right) _ s e in on_ints op.Div kind.Int left right s a b t.value t.is t.then_is ha hb (λ x y. divided (int_eq y (pos 0)) (int_div x y))
  operated op.Rem left right s a b e ha hb = let t = through (common_kind left right) _ s e in on_ints op.Rem kind.Int left right s a b t.value t.is t.then_is ha hb (λ x y. divided (int_eq y (pos 0)) (x -ℤ (y *ℤ (int_div x y))))
  operated op.Lt left right s a b e ha hb = let t = through (common_kind left right) _ s e in on_ints op.Lt kind.Bool left right s a b t.value t.is t.then_is ha hb (λ x y. refl)
  operated op.Le left right s a b e ha hb = let t = through (common_kind left right) _ s e in on_ints op.Le kind.Bool left right s a b t.value t.is t.then_is ha hb (λ x y. refl)
  operated op.Gt left right s a b e ha hb = let t = through (common_kind left right) _ s e in on_ints op.Gt kind.Bool left right s a b t.value t.is t.then_is ha hb (λ x y. refl)
  operated op.Ge left right s a b e ha hb = let t = through (common_kind left right) _ s e in on_ints op.Ge kind.Bool left right s a b t.value t.is t.then_is ha hb (λ x y. refl)
  operated op.Eq left right s a b e ha hb = let t = through (common_kind left right) _ s e in on_any op.Eq left right s a b t.value t.is t.then_is ha hb (λ j. equal_words j a b)
  operated op.Ne left right s a b e ha hb = let t = through (common_kind left right) _ s e in on_any op.Ne left right s a b t.value t.is t.then_is ha hb (λ j. other_words j a b)
  operated op.And left right s a b e ha hb = let t = through (common_kind left right) _ s e in on_bools and_word left right s a b t.value t.is t.then_is ha hb (both_words a b)
  operated op.Or left right s a b e ha hb = let t = through (common_kind left right) _ s e in on_bools or_word left right s a b t.value t.is t.then_is ha hb (either_word a b)

-- ---- literals

behind_or : (a b : Bool) → b ≡ true → (a || b) ≡ true
behind_or true b h = refl
behind_or false b h = h

pub code_of : (code : ℕ) → is_fault_code code ≡ true → is_code code ≡ true
code_of code h = behind_or ((code == 1) || (code == 2)) (is_fault_code code) h

fewer : (number n symbols : ℕ) → n ≤ symbols → nat_lt number n ≡ true → nat_lt number symbols ≡ true
fewer number n symbols few h = let below = ltb-true number n h in grind (arith, below)

-- a start literal is a word of its kind
pub start_word_of : (n symbols : ℕ) (k : Kind) (w : Word) → n ≤ symbols → is_start k w ≡ true → is_literal_word n w ≡ true → is_word_of symbols k w ≡ true
start_word_of n symbols kind.Int (word.Int z) few h is = is
start_word_of n symbols kind.Bool (word.Bool b) few h is = refl
start_word_of n symbols kind.Sym (word.Sym number) few h is = fewer number n symbols few is
start_word_of n symbols k (word.Fault c) few h is = never h
start_word_of n symbols kind.Int (word.Bool b) few h is = never h
start_word_of n symbols kind.Int (word.Sym number) few h is = never h
start_word_of n symbols kind.Bool (word.Int z) few h is = never h
start_word_of n symbols kind.Bool (word.Sym number) few h is = never h
start_word_of n symbols kind.Sym (word.Int z) few h is = never h
start_word_of n symbols kind.Sym (word.Bool b) few h is = never h

literal_word : (n symbols : ℕ) (w : Word) → n ≤ symbols → is_literal_word n w ≡ true → Stands symbols (word_kind w) w
literal_word n symbols (word.Fault c) few is k h = code_of c is
literal_word n symbols (word.Int z) few is k h = word_or_fault symbols k (word.Int z) (start_word_of n symbols k (word.Int z) few h is)
literal_word n symbols (word.Bool b) few is k h = word_or_fault symbols k (word.Bool b) (start_word_of n symbols k (word.Bool b) few h is)
literal_word n symbols (word.Sym number) few is k h = word_or_fault symbols k (word.Sym number) (start_word_of n symbols k (word.Sym number) few h is)

-- ---- expressions

-- the value that may be there is of the place's kind
placed : (symbols : ℕ) (k : Kind) (kind_there : Option Kind) (there : Option Word) → kind_there ≡ Some k → ((j : Kind) (w : Word) → kind_there ≡ Some j → there ≡ Some w → is_word_or_fault symbols j w ≡ true) → is_word_or_fault symbols k (unwrap_or there (word.Fault 2)) ≡ true
placed symbols k kind_there None is each = refl
placed symbols k kind_there (Some w) is each = each k w is refl

named : (o : Option Kind) (s : SomeKind) (k : Kind) → option_map Some o ≡ Some s → suits k s ≡ true → o ≡ Some k
named None s k e h = absurd (cc)
named (Some a) s k e h =
    let same : Some a ≡ s = cc in
    ap Some (kind_is a k (ap (suits k) same ∙ h))

module _ (n symbols : ℕ) (few : n ≤ symbols) (sorts : List Sort) (place : Place) (env : Environment) (is : IsEnvironmentOf symbols sorts place env) where
  abbrev Kept : Expr → Type 0
  Kept e = (s : SomeKind) → expr_kind sorts place e ≡ Some s → has_literals n e ≡ true → Stands symbols s (meaning e env)

  abbrev Part : Type 0
  Part = (e : Expr) × Kept e

  abbrev exprs : Expr-F Part → Expr-F Expr
  exprs = map-Expr Part Expr (λ e. e.0)

  layer : (d : Expr-F Part) (s : SomeKind) → kind_step sorts place (map-Expr Expr (Option SomeKind) (expr_kind sorts place) (exprs d)) ≡ Some s → literals_step n (map-Expr Expr Bool (has_literals n) (exprs d)) ≡ true
      → Stands symbols s (meaning_step (map-Expr Expr (Environment → Word) meaning (exprs d)) env)
  layer (Lit w) s e l k h = let same : word_kind w ≡ s = cc in literal_word n symbols w few l k (ap (suits k) same ∙ h)
  layer (Name id) s e l k h = is.words id k (named (value_kind sorts id) s k e h)
  layer Arg s e l k h = placed symbols k place.arg env.arg (named place.arg s k e h) is.arg
  layer Own s e l k h = placed symbols k place.own env.own (named place.own s k e h) is.own
  layer (Not a) s e l k h =
      let t = through (expr_kind sorts place a.0) _ s e in
      let b = taken kind.Bool (Some kind.Bool) t.value s t.then_is in
      of_kind symbols k kind.Bool (not_word (meaning a.0 env)) (ap (suits k) b.1 ∙ h) (negated symbols (meaning a.0 env) (a.1 t.value t.is l kind.Bool b.0))
  layer (Bin o x y) s e l k h =
      let a = through (expr_kind sorts place x.0) _ s e in
      let b = through (expr_kind sorts place y.0) _ s a.then_is in
      let ls = and_parts (has_literals n x.0) (has_literals n y.0) l in
      operated symbols o a.value b.value s (meaning x.0 env) (meaning y.0 env) b.then_is (x.1 a.value a.is ls.0) (y.1 b.value b.is ls.1) k h
  layer (If c x y) s e l k h =
      let t = through (expr_kind sorts place c.0) _ s e in
      let a = through (expr_kind sorts place x.0) _ s t.then_is in
      let b = through (expr_kind sorts place y.0) _ s a.then_is in
      let both = through (common_kind a.value b.value) _ s b.then_is in
      let test = taken kind.Bool both.value t.value s both.then_is in
      let ls = and_parts (has_literals n c.0 && has_literals n x.0) (has_literals n y.0) l in
      let firsts = and_parts (has_literals n c.0) (has_literals n x.0) ls.0 in
      let parts = common a.value b.value both.value k both.is (ap (suits k) test.1 ∙ h) in
      one_of symbols k (meaning c.0 env) (meaning x.0 env) (meaning y.0 env) (c.1 t.value t.is firsts.0 kind.Bool test.0) (x.1 a.value a.is firsts.1 k parts.0) (y.1 b.value b.is ls.1 k parts.1)
  layer (Recover x y) s e l k h =
      let a = through (expr_kind sorts place x.0) _ s e in
      let b = through (expr_kind sorts place y.0) _ s a.then_is in
      let ls = and_parts (has_literals n x.0) (has_literals n y.0) l in
      let parts = common a.value b.value s k b.then_is h in
      recovered symbols k (meaning x.0 env) (meaning y.0 env) (x.1 a.value a.is ls.0 k parts.0) (y.1 b.value b.is ls.1 k parts.1)
  layer (Size set) s e l k h =
      let m = mapped_is (set_kind sorts set) s e in
      of_kind symbols k kind.Int (word.Int (pos (env.size set))) (ap (suits k) m.2 ∙ h) (is.sizes set m.0 m.1)
    where
      mapped_is : (o : Option Kind) (s : SomeKind) → option_map (λ (elements : Kind). Some kind.Int) o ≡ Some s → (j : Kind) × (o ≡ Some j) × (Some kind.Int ≡ s)
      mapped_is None s e = absurd (cc)
      mapped_is (Some j) s e = let same : Some kind.Int ≡ s = cc in (j, refl, same)
  layer (Has set x) s e l k h =
      let j = through (set_kind sorts set) _ s e in
      let a = through (expr_kind sorts place x.0) _ s j.then_is in
      let b = taken j.value (Some kind.Bool) a.value s a.then_is in
      of_kind symbols k kind.Bool (has_word (env.has set) (meaning x.0 env)) (ap (suits k) b.1 ∙ h) (member symbols j.value (env.has set) (meaning x.0 env) (x.1 a.value a.is l j.value b.0))

  rolled : (y : Expr-F Part) → Kept (roll-Expr (exprs y))
  rolled y s e l k h =
      subst (λ (m : Environment → Word). is_word_or_fault symbols k (m env) ≡ true) (sym (fold-roll-Expr (Environment → Word) meaning_step (exprs y)))
      (layer y s (sym (fold-roll-Expr (Option SomeKind) (kind_step sorts place) (exprs y)) ∙ e) (sym (fold-roll-Expr Bool (literals_step n) (exprs y)) ∙ l) k h)

  kept : (e : Expr) → Kept e
  kept = ind-Expr Kept (λ x y is. subst (λ z. Kept (roll-Expr z)) is (rolled y))

-- an expression that agrees with a kind means a word of that kind or a fault
pub meaning_kept : (n symbols : ℕ) (sorts : List Sort) (place : Place) (env : Environment) (e : Expr) (k : Kind) → n ≤ symbols → agrees_with k (expr_kind sorts place e) ≡ true → has_literals n e ≡ true → IsEnvironmentOf symbols sorts place env → is_word_or_fault symbols k (meaning e env) ≡ true
meaning_kept n symbols sorts place env e k few h l is = by (expr_kind sorts place e) refl h
  where
    by : (o : Option SomeKind) → expr_kind sorts place e ≡ o → agrees_with k o ≡ true → is_word_or_fault symbols k (meaning e env) ≡ true
    by None at a = never a
    by (Some s) at a = kept n symbols few sorts place env is e s at l k a
