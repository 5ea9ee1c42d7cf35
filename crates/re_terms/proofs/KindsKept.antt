-- A program's words are of their kinds: in views, in signals, and after entries.
use Rattle.std.proofs.Common.{◌≡◌, ◌<◌, ◌≤◌, inl, inr, ℕ, zero, suc, true, ◌&&◌, cond, List, length, take, refl, sym, ap, subst, ◌∙◌, arith}
use Rattle.std.specs.Prelude.{Option, None, Some, option_map, unwrap_or, slice_get, slice_index_or, count_by}
use Rattle.std.specs.Option.{option_map_or}
use Rattle.std.proofs.lemmas.Bool.{and_parts, cases_eq}
use Rattle.std.proofs.lemmas.List.{length-take-le}
use Rattle.std.proofs.lemmas.List.Sums.{sum_by-take-le}
use Rattle.std.proofs.lemmas.Option.{slice_get_within}
use Rattle.re_terms.specs.declared.expr.Expr.{Expr}
use Rattle.re_terms.specs.declared.program.Body.{Body}
use Rattle.re_terms.specs.declared.program.Body.TheVariants as body
use Rattle.re_terms.specs.declared.program.Decl.{Decl}
use Rattle.re_terms.specs.declared.program.Program.{Program}
use Rattle.re_terms.specs.declared.replicated.RKind.{RKind}
use Rattle.re_terms.specs.declared.replicated.RKind.TheVariants as replicated
use Rattle.re_terms.specs.declared.word.Kind.{Kind}
use Rattle.re_terms.specs.declared.word.Kind.TheVariants as kind
use Rattle.re_terms.specs.declared.word.Word.{Word}
use Rattle.re_terms.specs.Admission.{symbol_count}
use Rattle.re_terms.specs.Cells.{is_cell_body, cell_place}
use Rattle.re_terms.specs.Dependencies.{below}
use Rattle.re_terms.specs.Kinds.{Sort, Device, Symbol, Value, Set, Event, SomeKind, Place, in_signal, at_event, in_fold, is_of_kind, agrees_with, is_start, kind_eq, value_kind_of, event_kind_of, value_kind, event_kind, expr_kind, sort_of, sorts_of}
use Rattle.re_terms.specs.Programs.{IsProgram, is_ranged, is_ranged_expr, has_literals, is_symbol}
use Rattle.re_terms.specs.Shapes.{replicated_kind}
use Rattle.re_terms.specs.SignalWords.{no_word, names_environment, replicated_place, body_word, place_word, signal_word}
use Rattle.re_terms.specs.Views.{View}
use Rattle.re_terms.specs.WordKinds.{is_word_or_fault, IsEnvironmentOf, is_kept_word, AreWordsOf, is_shown_word, IsViewOf}
use Rattle.re_terms.proofs.Below.{below-here, below-more}
use Rattle.re_terms.proofs.Ordered.{through, mapped, sorts_of-count, value_found, event_found, some_sort}
use Rattle.re_terms.proofs.ReplicatedPlaces.{kind_at}
use Rattle.re_terms.proofs.DeclaredSorts.{declared, sort_found, sort_kept}
use Rattle.re_terms.proofs.WordMeanings.{never, only, meaning_kept, word_or_fault}

-- ---- what has a word, and what has a value

abbrev pub ranged : ℕ → Body → Type 0
ranged n b = is_ranged n b ≡ true

pub none : {A : Type 0} {k : Kind} → None ≡ Some k → A
none {k = k} h = absurd (no h)
  where
    no : None ≡ Some k → ⊥
    no e = cc

value_of : (s t : Sort) (k : Kind) → Some s ≡ Some t → value_kind_of (Some t) ≡ Some k → value_kind_of (Some s) ≡ Some k
value_of s t k e h = let same : s ≡ t = cc in ap (λ x. value_kind_of (Some x)) same ∙ h

event_of : (s t : Sort) (k : Kind) → Some s ≡ Some t → event_kind_of (Some t) ≡ Some k → event_kind_of (Some s) ≡ Some k
event_of s t k e h = let same : s ≡ t = cc in ap (λ x. event_kind_of (Some x)) same ∙ h

pub kind_same : (j k : Kind) → Some j ≡ Some k → j ≡ k
kind_same j k e = cc

-- an expression of one kind agrees with it
pub agrees : (k : Kind) (e : Option SomeKind) → is_of_kind k e ≡ true → agrees_with k e ≡ true
agrees k None h = never h
agrees k (Some None) h = never h
agrees k (Some (Some a)) h = h

-- by the kind of the word of a declaration that has one
pub record ValueCases (sorts : List Sort) (P : Body → Kind → Type 0) : Type 0 where
  pub var : (k : Kind) (start : Word) (region : ℕ) → P (body.Var k start region) k
  pub signal : (k : Kind) (expr : Expr) → agrees_with k (expr_kind sorts in_signal expr) ≡ true → P (body.Signal k expr) k
  pub fold : (k arg : Kind) (start : Word) (source : ℕ) (expr : Expr) (region : ℕ) → event_kind sorts source ≡ Some arg → agrees_with k (expr_kind sorts (in_fold arg k) expr) ≡ true → P (body.Fold k start source expr region) k
  pub counter : P body.Counter kind.Int
  pub register : (k : Kind) (start : Word) → P (body.Register k start) k

module _ (sorts : List Sort) (P : Body → Kind → Type 0) (cases : ValueCases sorts P) where
  moved : (b : Body) (j k : Kind) → j ≡ k → P b j → P b k
  moved b j k e h = subst (P b) e h

  pub by_value : (b : Body) (s : Sort) (k : Kind) → sort_of sorts b ≡ Some s → value_kind_of (Some s) ≡ Some k → P b k
  by_value body.Device s k h v = none (value_of Device s k h v)
  by_value body.Symbol s k h v = none (value_of (Symbol _) s k h v)
  by_value (body.Var j start region) s k h v =
      let o = only (is_start j start) (Value j) s h in
      moved (body.Var j start region) j k (kind_same j k (ap (λ x. value_kind_of (Some x)) o.1 ∙ v)) (cases.var j start region)
  by_value (body.Event j) s k h v = none (value_of (Event j) s k h v)
  by_value (body.Signal j expr) s k h v =
      let o = only (is_of_kind j (expr_kind sorts in_signal expr)) (Value j) s h in
      moved (body.Signal j expr) j k (kind_same j k (ap (λ x. value_kind_of (Some x)) o.1 ∙ v)) (cases.signal j expr (agrees j _ o.0))
  by_value (body.Changed of) s k h v = let m = mapped Event (value_kind sorts of) s h in none (value_of (Event m.0) s k (ap (option_map Event) (sym m.1) ∙ h) v)
  by_value (body.Map source j expr) s k h v =
      let a = through (event_kind sorts source) _ s h in
      let o = only (is_of_kind j (expr_kind sorts (at_event a.value) expr)) (Event j) s a.then_is in
      none (ap (λ x. value_kind_of (Some x)) o.1 ∙ v)
  by_value (body.Filter source expr) s k h v =
      let a = through (event_kind sorts source) _ s h in
      let o = only (agrees_with kind.Bool (expr_kind sorts (at_event a.value) expr)) (Event a.value) s a.then_is in
      none (ap (λ x. value_kind_of (Some x)) o.1 ∙ v)
  by_value (body.Either left right) s k h v =
      let a = through (event_kind sorts left) _ s h in
      let b = through (event_kind sorts right) _ s a.then_is in
      let o = only (kind_eq a.value b.value) (Event a.value) s b.then_is in
      none (ap (λ x. value_kind_of (Some x)) o.1 ∙ v)
  by_value (body.Fold j start source expr region) s k h v =
      let a = through (event_kind sorts source) _ s h in
      let o = only (is_start j start && agrees_with j (expr_kind sorts (in_fold a.value j) expr)) (Value j) s a.then_is in
      let both = and_parts (is_start j start) (agrees_with j (expr_kind sorts (in_fold a.value j) expr)) o.0 in
      moved (body.Fold j start source expr region) j k (kind_same j k (ap (λ x. value_kind_of (Some x)) o.1 ∙ v)) (cases.fold j a.value start source expr region a.is both.1)
  by_value body.Counter s k h v = moved body.Counter kind.Int k (kind_same kind.Int k (value_of (Value kind.Int) s k h v)) cases.counter
  by_value (body.Set j) s k h v = none (value_of (Set j) s k h v)
  by_value (body.Register j start) s k h v =
      let o = only (is_start j start) (Value j) s h in
      moved (body.Register j start) j k (kind_same j k (ap (λ x. value_kind_of (Some x)) o.1 ∙ v)) (cases.register j start)

-- ---- a program's names

pub literals : (n : ℕ) (e : Expr) → is_ranged_expr n e ≡ true → has_literals n e ≡ true
literals n e h = (and_parts (has_literals n e) _ h).0

module _ (p : Program) (program : IsProgram p) where
  abbrev pub decls : List Decl
  decls = p.decls.items

  abbrev pub symbols : ℕ
  symbols = symbol_count decls

  pub record DeclaredSort (id : ℕ) (d : Decl) : Type 0 where
    pub sort : Sort
    pub is : sort_of (sorts_of (take id decls)) d.body ≡ Some sort
    pub at : slice_get (sorts_of decls) id ≡ Some sort

  pub declared_sort : (id : ℕ) (d : Decl) → slice_get decls id ≡ Some d → DeclaredSort id d
  declared_sort id d at =
      let s = some_sort (sort_of (sorts_of (take id decls)) d.body) (program.kinds id d at) in
      record { sort = s.0; is = s.1; at = sort_found decls id d at ∙ ap (λ o. Some (unwrap_or o Device)) s.1 }

  -- symbols declared so far are among all
  pub symbols_so_far : (n : ℕ) → count_by is_symbol (take n decls) ≤ symbols
  symbols_so_far n = sum_by-take-le (λ d. cond (is_symbol d) 1 0) decls n

  earlier_within : (n id : ℕ) (s : Sort) → n ≤ length decls → slice_get (sorts_of (take n decls)) id ≡ Some s → id < n
  earlier_within n id s within at =
      let a = slice_get_within (sorts_of (take n decls)) id s at in
      let b = sorts_of-count (take n decls) in
      let c = length-take-le n decls within in
      omega arith

  -- what an earlier name stands for
  pub earlier_value : (n id : ℕ) (k : Kind) → n ≤ length decls → value_kind (sorts_of (take n decls)) id ≡ Some k → (id < n) × (value_kind (sorts_of decls) id ≡ Some k)
  earlier_value n id k within h =
      let f = value_found (slice_get (sorts_of (take n decls)) id) k h in
      (earlier_within n id f.0 within f.1, ap value_kind_of (sort_kept decls n id f.0 f.1 ∙ sym f.1) ∙ h)

  pub earlier_event : (n id : ℕ) (k : Kind) → n ≤ length decls → event_kind (sorts_of (take n decls)) id ≡ Some k → (id < n) × (event_kind (sorts_of decls) id ≡ Some k)
  earlier_event n id k within h =
      let f = event_found (slice_get (sorts_of (take n decls)) id) k h in
      (earlier_within n id f.0 within f.1, ap event_kind_of (sort_kept decls n id f.0 f.1 ∙ sym f.1) ∙ h)

  -- names below a place have words of their kinds or faults
  abbrev pub AreKept : ℕ → (ℕ → Word) → Type 0
  AreKept n words = (id : ℕ) (k : Kind) → id < n → value_kind (sorts_of decls) id ≡ Some k → is_word_or_fault symbols k (words id) ≡ true

  -- what an expression of a declaration is read in
  pub environment : (n : ℕ) (view : View) (words : ℕ → Word) (place : Place) (arg own : Option Word) → n ≤ length decls → IsViewOf p view → AreKept n words
      → ((k : Kind) (w : Word) → place.arg ≡ Some k → arg ≡ Some w → is_word_or_fault symbols k w ≡ true) → ((k : Kind) (w : Word) → place.own ≡ Some k → own ≡ Some w → is_word_or_fault symbols k w ≡ true)
      → IsEnvironmentOf symbols (sorts_of (take n decls)) place (names_environment decls view words arg own)
  environment n view words place arg own within shown kept arg_is own_is = record {
    words = λ id k h. let e = earlier_value n id k within h in kept id k e.0 e.1;
    sizes = λ id k h. shown.sizes (replicated_place decls id);
    arg = arg_is;
    own = own_is;
  }

  -- ---- signals

  module _ (cells : List Word) (view : View) (words_are : AreWordsOf p cells) (shown : IsViewOf p view) where
    -- the word of a declaration over those of the earlier ones
    abbrev Gives : ℕ → Body → Kind → Type 0
    Gives n b k = (words : ℕ → Word) → n ≤ length decls → ranged (count_by is_symbol (take n decls)) b → AreKept n words
        → (is_cell_body b ≡ true → is_kept_word symbols b (slice_index_or cells (cell_place decls n) no_word) ≡ true)
        → ((r : RKind) → replicated_kind b ≡ Some r → is_shown_word symbols r (view.word (replicated_place decls n)) ≡ true)
        → is_word_or_fault symbols k (body_word decls cells view n b words) ≡ true

    gives : (n : ℕ) → ValueCases (sorts_of (take n decls)) (Gives n)
    gives n = record {
      var = λ k start region words within range kept cell shows. word_or_fault symbols k _ (cell refl);
      signal = λ k expr agreed words within range kept cell shows.
          meaning_kept (count_by is_symbol (take n decls)) symbols (sorts_of (take n decls)) in_signal _ expr k (symbols_so_far n) agreed (literals _ expr range)
          (environment n view words in_signal None None within shown kept (λ k w a b. none a) (λ k w a b. none a));
      fold = λ k arg start source expr region event agreed words within range kept cell shows. cell refl;
      counter = λ words within range kept cell shows. shows replicated.Counter refl;
      register = λ k start words within range kept cell shows. word_or_fault symbols k _ (shows (replicated.Register k start) refl);
    }

    given : (n : ℕ) (words : ℕ → Word) (d : Decl) (k : Kind) → slice_get decls n ≡ Some d → value_kind (sorts_of decls) n ≡ Some k → AreKept n words → is_word_or_fault symbols k (body_word decls cells view n d.body words) ≡ true
    given n words d k at v kept =
        let s = declared_sort n d at in
        let within = slice_get_within decls n d at in
        by_value (sorts_of (take n decls)) (Gives n) (gives n) d.body s.sort k s.is (ap value_kind_of (sym s.at) ∙ v) words (omega arith) (program.ranges n d at) kept
        (words_are.kinds n d at)
        (λ r is. shown.words (replicated_place decls n) r (kind_at decls n d r at is))

    place_given : (n : ℕ) (words : ℕ → Word) (k : Kind) → n < length decls → value_kind (sorts_of decls) n ≡ Some k → AreKept n words → is_word_or_fault symbols k (place_word decls cells view n words) ≡ true
    place_given n words k within v kept =
        let d = declared decls n within in
        subst (λ o. is_word_or_fault symbols k (option_map_or (λ d. body_word decls cells view n d.body words) o no_word) ≡ true) (sym d.1) (given n words d.0 k d.1 v kept)

    kept_below : (n : ℕ) → n ≤ length decls → AreKept n (below no_word (place_word decls cells view) n)
    kept_below zero within id k under v = absurd (omega arith)
    kept_below (suc n) within id k under v =
        elim (cases_eq id n) [
          | inl e ↦
              subst (λ i. is_word_or_fault symbols k (below no_word (place_word decls cells view) (suc n) i) ≡ true) (sym e)
              (subst (λ w. is_word_or_fault symbols k w ≡ true) (sym (below-here no_word (place_word decls cells view) n))
              (place_given n (below no_word (place_word decls cells view) n) k (omega arith) (ap (value_kind (sorts_of decls)) (sym e) ∙ v) (kept_below n (omega arith))))
          | inr other ↦
              subst (λ w. is_word_or_fault symbols k w ≡ true) (sym (below-more no_word (place_word decls cells view) n id other)) (kept_below n (omega arith) id k (omega arith) v)
        ]

    -- the words of vars, folds, signals, counters and registers
    pub signal_kept : (id : ℕ) (k : Kind) → value_kind (sorts_of decls) id ≡ Some k → is_word_or_fault symbols k (signal_word p cells view id) ≡ true
    signal_kept id k v =
        let f = value_found (slice_get (sorts_of decls) id) k v in
        let a = slice_get_within (sorts_of decls) id f.0 f.1 in
        let b = sorts_of-count decls in
        kept_below (length decls) (omega arith) id k (omega arith) v
