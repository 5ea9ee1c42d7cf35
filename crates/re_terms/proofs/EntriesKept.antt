-- What an entry makes of words of their kinds: words and values of theirs.
use Rattle.std.proofs.Common.{◌≡◌, ◌<◌, ◌≤◌, ◌==◌, inl, inr, ℕ, zero, suc, Bool, true, false, ◌&&◌, List, [], ◌∷◌, length, take, refl, sym, ap, subst, ◌∙◌, arith}
use Rattle.std.specs.Prelude.{Option, None, Some, if◌then◌else◌, option_map, option_and_then, unwrap_or, slice_get, slice_index_or, count_by}
use Rattle.std.specs.List.{list_all}
use Rattle.std.specs.Option.{option_map_or}
use Rattle.std.proofs.lemmas.Bool.{and_parts, cases_eq, eqb-true}
use Rattle.std.proofs.lemmas.Option.{slice_get_within}
use Rattle.re_terms.specs.declared.entry.Put.{Put}
use Rattle.re_terms.specs.declared.expr.Expr.{Expr}
use Rattle.re_terms.specs.declared.program.Body.{Body}
use Rattle.re_terms.specs.declared.program.Body.TheVariants as body
use Rattle.re_terms.specs.declared.program.Decl.{Decl}
use Rattle.re_terms.specs.declared.program.Program.{Program}
use Rattle.re_terms.specs.declared.replicated.RKind.{RKind}
use Rattle.re_terms.specs.declared.replicated.RKind.TheVariants as replicated
use Rattle.re_terms.specs.declared.word.Kind.{Kind}
use Rattle.re_terms.specs.declared.word.Kind.TheVariants as kind
use Rattle.re_terms.specs.declared.word.Word.{Word}
use Rattle.re_terms.specs.declared.word.Word.TheVariants as word
use Rattle.re_terms.specs.Admission.{is_put_of, source_kind, symbol_count, var_kind}
use Rattle.re_terms.specs.Cells.{is_cell_body, cell_place}
use Rattle.re_terms.specs.Dependencies.{below}
use Rattle.re_terms.specs.Kinds.{Sort, Device, Symbol, Value, Set, Event, Place, in_signal, at_event, in_fold, is_of_kind, agrees_with, is_start, kind_eq, event_kind_of, value_kind_of, value_kind, event_kind, expr_kind, sort_of, sorts_of}
use Rattle.re_terms.specs.Meaning.{meaning}
use Rattle.re_terms.specs.Programs.{IsProgram, has_literals, is_literal_word, is_ranged_expr, is_symbol}
use Rattle.re_terms.specs.Trees.{is_region}
use Rattle.re_terms.specs.Propagation.{Step, Effect, no_effect, put_word, filtered, either_of, body_effect, place_effect, effect}
use Rattle.re_terms.specs.Shapes.{is_word_of, replicated_kind}
use Rattle.re_terms.specs.SignalWords.{no_word, names_environment, replicated_place, signal_word}
use Rattle.re_terms.specs.WordOrder.{same_word}
use Rattle.re_terms.specs.WordKinds.{is_word_or_fault, is_kept_word, is_shown_word, IsStepOf}
use Rattle.re_terms.proofs.Below.{below-here, below-more, below-own}
use Rattle.re_terms.proofs.KindsKept.{ranged, none, kind_same, agrees, ValueCases, by_value, literals, declared_sort, symbols_so_far, earlier_value, earlier_event, environment}
use Rattle.re_terms.proofs.Ordered.{through, mapped, sorts_of-count, value_found, event_found}
use Rattle.re_terms.proofs.ReplicatedPlaces.{kind_at}
use Rattle.re_terms.proofs.DeclaredSorts.{declared}
use Rattle.re_terms.proofs.WordMeanings.{never, only, kind_is, meaning_kept, word_or_fault}

-- ---- events

no_event : {A : Type 0} (s t : Sort) (k : Kind) → Some s ≡ Some t → event_kind_of (Some s) ≡ None → event_kind_of (Some t) ≡ Some k → A
no_event s t k e is h = let same : s ≡ t = cc in none (sym is ∙ ap (λ x. event_kind_of (Some x)) same ∙ h)

event_is : (j k : Kind) (t : Sort) → Event j ≡ t → event_kind_of (Some t) ≡ Some k → j ≡ k
event_is j k t e h = kind_same j k (ap (λ x. event_kind_of (Some x)) e ∙ h)

-- by the kind of the value of an event
record EventCases (sorts : List Sort) (P : Body → Kind → Type 0) : Type 0 where
  source : (k : Kind) → P (body.Event k) k
  changed : (k : Kind) (of : ℕ) → value_kind sorts of ≡ Some k → P (body.Changed of) k
  mapped_by : (k arg : Kind) (from : ℕ) (expr : Expr) → event_kind sorts from ≡ Some arg → agrees_with k (expr_kind sorts (at_event arg) expr) ≡ true → P (body.Map from k expr) k
  filtered_by : (k : Kind) (from : ℕ) (expr : Expr) → event_kind sorts from ≡ Some k → agrees_with kind.Bool (expr_kind sorts (at_event k) expr) ≡ true → P (body.Filter from expr) k
  either : (k : Kind) (left right : ℕ) → event_kind sorts left ≡ Some k → event_kind sorts right ≡ Some k → P (body.Either left right) k

module _ (sorts : List Sort) (P : Body → Kind → Type 0) (cases : EventCases sorts P) where
  moved : (b : Body) (j k : Kind) → j ≡ k → P b j → P b k
  moved b j k e h = subst (P b) e h

  by_event : (b : Body) (t : Sort) (k : Kind) → sort_of sorts b ≡ Some t → event_kind_of (Some t) ≡ Some k → P b k
  by_event body.Device t k h v = no_event Device t k h refl v
  by_event body.Symbol t k h v = no_event (Symbol _) t k h refl v
  by_event (body.Var j start region) t k h v = let o = only (is_start j start) (Value j) t h in no_event (Value j) t k (ap Some o.1) refl v
  by_event (body.Event j) t k h v = let same : Event j ≡ t = cc in moved (body.Event j) j k (event_is j k t same v) (cases.source j)
  by_event (body.Signal j expr) t k h v = let o = only (is_of_kind j (expr_kind sorts in_signal expr)) (Value j) t h in no_event (Value j) t k (ap Some o.1) refl v
  by_event (body.Changed of) t k h v =
      let m = mapped Event (value_kind sorts of) t h in
      let is : Some (Event m.0) ≡ Some t = ap (option_map Event) (sym m.1) ∙ h in
      let same : Event m.0 ≡ t = cc in
      moved (body.Changed of) m.0 k (event_is m.0 k t same v) (cases.changed m.0 of m.1)
  by_event (body.Map from j expr) t k h v =
      let a = through (event_kind sorts from) _ t h in
      let o = only (is_of_kind j (expr_kind sorts (at_event a.value) expr)) (Event j) t a.then_is in
      moved (body.Map from j expr) j k (event_is j k t o.1 v) (cases.mapped_by j a.value from expr a.is (agrees j _ o.0))
  by_event (body.Filter from expr) t k h v =
      let a = through (event_kind sorts from) _ t h in
      let o = only (agrees_with kind.Bool (expr_kind sorts (at_event a.value) expr)) (Event a.value) t a.then_is in
      moved (body.Filter from expr) a.value k (event_is a.value k t o.1 v) (cases.filtered_by a.value from expr a.is o.0)
  by_event (body.Either left right) t k h v =
      let a = through (event_kind sorts left) _ t h in
      let b = through (event_kind sorts right) _ t a.then_is in
      let o = only (kind_eq a.value b.value) (Event a.value) t b.then_is in
      moved (body.Either left right) a.value k (event_is a.value k t o.1 v) (cases.either a.value left right a.is (b.is ∙ ap Some (sym (kind_is a.value b.value o.0))))
  by_event (body.Fold j start from expr region) t k h v =
      let a = through (event_kind sorts from) _ t h in
      let o = only (is_start j start && agrees_with j (expr_kind sorts (in_fold a.value j) expr)) (Value j) t a.then_is in
      no_event (Value j) t k (ap Some o.1) refl v
  by_event body.Counter t k h v = no_event (Value kind.Int) t k h refl v
  by_event (body.Set j) t k h v = no_event (Set j) t k h refl v
  by_event (body.Register j start) t k h v = let o = only (is_start j start) (Value j) t h in no_event (Value j) t k (ap Some o.1) refl v

-- ---- puts

put_by : (test : Put → Bool) (x : Put) (id : ℕ) (w : Word) (o : Option Word) (b : Bool) → (x.id == id) ≡ b → test x ≡ true → (o ≡ Some w → test (record { id = id; word = w }) ≡ true) → (if b then Some x.word else o) ≡ Some w → test (record { id = id; word = w }) ≡ true
put_by test x id w o true is own rest h =
    let a : x.id ≡ id = eqb-true x.id id is in
    let b : x.word ≡ w = cc in
    ap test (λ i. record { id = sym a i; word = sym b i }) ∙ own
put_by test x id w o false is own rest h = rest h

-- a word that is put passes what all puts pass
put_passes : (test : Put → Bool) (puts : List Put) (id : ℕ) (w : Word) → list_all test puts ≡ true → put_word puts id ≡ Some w → test (record { id = id; word = w }) ≡ true
put_passes test [] id w all h = absurd (let e : None ≡ Some w = h in cc)
put_passes test (x ∷ puts) id w all h =
    let parts = and_parts (test x) (list_all test puts) all in
    put_by test x id w (put_word puts id) (x.id == id) refl parts.0 (put_passes test puts id w parts.1) h

-- and is of the kind of what it is put for
put_kept : (decls : List Decl) (kind_of : Body → Option Kind) (puts : List Put) (id : ℕ) (d : Decl) (k : Kind) (w : Word) → list_all (is_put_of kind_of decls) puts ≡ true → slice_get decls id ≡ Some d → kind_of d.body ≡ Some k → put_word puts id ≡ Some w → is_word_of (symbol_count decls) k w ≡ true
put_kept decls kind_of puts id d k w all at is h =
    sym (ap (λ (o : Option Kind). option_map_or (λ k. is_word_of (symbol_count decls) k w) o false) is)
    ∙ sym (ap (λ (o : Option Decl). option_map_or (λ d. option_map_or (λ k. is_word_of (symbol_count decls) k w) (kind_of d.body) false) o false) at)
    ∙ put_passes (is_put_of kind_of decls) puts id w all h

-- ---- values

changed_to : (b : Bool) (new w : Word) → (if b then None else Some new) ≡ Some w → new ≡ w
changed_to true new w h = absurd (cc)
changed_to false new w h = cc

word_same : (v w : Word) → Some v ≡ Some w → v ≡ w
word_same v w e = cc

module _ (symbols : ℕ) where
  word_moved : (k : Kind) (v w : Word) → Some v ≡ Some w → is_word_or_fault symbols k v ≡ true → is_word_or_fault symbols k w ≡ true
  word_moved k v w e h = subst (λ x. is_word_or_fault symbols k x ≡ true) (word_same v w e) h

  stands_for : (j k : Kind) (v w : Word) → is_word_or_fault symbols j v ≡ true → Some j ≡ Some k → Some v ≡ Some w → is_word_or_fault symbols k w ≡ true
  stands_for j k v w h e f = word_moved k v w f (subst (λ x. is_word_or_fault symbols x v ≡ true) (kind_same j k e) h)

  filtered_kept : (k : Kind) (c value w : Word) → is_word_or_fault symbols kind.Bool c ≡ true → is_word_or_fault symbols k value ≡ true → filtered c value ≡ Some w → is_word_or_fault symbols k w ≡ true
  filtered_kept k (word.Bool true) value w hc h e = word_moved k value w e h
  filtered_kept k (word.Bool false) value w hc h e = absurd (cc)
  filtered_kept k (word.Fault code) value w hc h e = word_moved k (word.Fault code) w e hc
  filtered_kept k (word.Int z) value w hc h e = never hc
  filtered_kept k (word.Sym n) value w hc h e = never hc

  either_kept : (k : Kind) (a b : Option Word) (w : Word) → ((v : Word) → a ≡ Some v → is_word_or_fault symbols k v ≡ true) → ((v : Word) → b ≡ Some v → is_word_or_fault symbols k v ≡ true) → either_of a b ≡ Some w → is_word_or_fault symbols k w ≡ true
  either_kept k None b w ha hb e = hb w e
  either_kept k (Some v) b w ha hb e = word_moved k v w e (ha v refl)

-- ---- entries

module _ (p : Program) (program : IsProgram p) (s : Step) (step : IsStepOf p s) where
  abbrev decls : List Decl
  decls = p.decls.items

  abbrev symbols : ℕ
  symbols = symbol_count decls

  -- what the declarations below a place have after the entry
  record AreEffects (n : ℕ) (earlier : ℕ → Effect) : Type 0 where
    words : (id : ℕ) (k : Kind) → id < n → value_kind (sorts_of decls) id ≡ Some k → is_word_or_fault symbols k (earlier id).word ≡ true
    values : (id : ℕ) (k : Kind) (w : Word) → id < n → event_kind (sorts_of decls) id ≡ Some k → (earlier id).occurrence ≡ Some w → is_word_or_fault symbols k w ≡ true

  abbrev kept_before : ℕ → Word
  kept_before n = slice_index_or s.words (cell_place decls n) no_word

  -- what is known at a place
  record Known (n : ℕ) (b : Body) (earlier : ℕ → Effect) : Type 0 where
    within : n ≤ length decls
    range : ranged (count_by is_symbol (take n decls)) b
    kept : AreEffects n earlier
    cell : is_cell_body b ≡ true → is_kept_word symbols b (kept_before n) ≡ true
    shows : (r : RKind) → replicated_kind b ≡ Some r → is_shown_word symbols r (s.new_view.word (replicated_place decls n)) ≡ true
    sets : (k : Kind) (w : Word) → var_kind b ≡ Some k → put_word s.sets n ≡ Some w → is_word_of symbols k w ≡ true
    fires : (k : Kind) (w : Word) → source_kind b ≡ Some k → put_word s.fires n ≡ Some w → is_word_of symbols k w ≡ true

  abbrev sorts_at : ℕ → List Sort
  sorts_at n = sorts_of (take n decls)

  abbrev HasLiterals : ℕ → Expr → Type 0
  HasLiterals n expr = has_literals (count_by is_symbol (take n decls)) expr ≡ true

  fold_literals : (n : ℕ) (k : Kind) (start : Word) (source : ℕ) (expr : Expr) (region : ℕ) → ranged (count_by is_symbol (take n decls)) (body.Fold k start source expr region) → HasLiterals n expr
  fold_literals n k start source expr region range =
      let parts = and_parts (is_literal_word (count_by is_symbol (take n decls)) start && is_ranged_expr (count_by is_symbol (take n decls)) expr) (is_region region) range in
      let both = and_parts (is_literal_word (count_by is_symbol (take n decls)) start) (is_ranged_expr (count_by is_symbol (take n decls)) expr) parts.0 in
      literals (count_by is_symbol (take n decls)) expr both.1

  -- an expression at a place
  module _ (n : ℕ) (b : Body) (earlier : ℕ → Effect) (known : Known n b earlier) where
    means : (place : Place) (arg own : Option Word) (expr : Expr) (k : Kind) → HasLiterals n expr → agrees_with k (expr_kind (sorts_at n) place expr) ≡ true
        → ((k : Kind) (w : Word) → place.arg ≡ Some k → arg ≡ Some w → is_word_or_fault symbols k w ≡ true) → ((k : Kind) (w : Word) → place.own ≡ Some k → own ≡ Some w → is_word_or_fault symbols k w ≡ true)
        → is_word_or_fault symbols k (meaning expr (names_environment decls s.new_view (λ name. (earlier name).word) arg own)) ≡ true
    means place arg own expr k range agreed arg_is own_is =
        meaning_kept (count_by is_symbol (take n decls)) symbols (sorts_at n) place _ expr k (symbols_so_far p program n) agreed range
        (environment p program n s.new_view (λ name. (earlier name).word) place arg own known.within step.new_view known.kept.words arg_is own_is)

    event_value : (source : ℕ) (k : Kind) (w : Word) → event_kind (sorts_at n) source ≡ Some k → (earlier source).occurrence ≡ Some w → is_word_or_fault symbols k w ≡ true
    event_value source k w is at = let e = earlier_event p program n source k known.within is in known.kept.values source k w e.0 e.1 at

    var_word : (k : Kind) (o : Option Word) → ((w : Word) → o ≡ Some w → is_word_of symbols k w ≡ true) → is_word_of symbols k (kept_before n) ≡ true → is_word_of symbols k (unwrap_or o (kept_before n)) ≡ true
    var_word k None set before = before
    var_word k (Some w) set before = set w refl

    fold_word : (k arg : Kind) (source : ℕ) (expr : Expr) (o : Option Word) → (earlier source).occurrence ≡ o → HasLiterals n expr → event_kind (sorts_at n) source ≡ Some arg → agrees_with k (expr_kind (sorts_at n) (in_fold arg k) expr) ≡ true → is_word_or_fault symbols k (kept_before n) ≡ true
        → is_word_or_fault symbols k (option_map_or (λ value. meaning expr (names_environment decls s.new_view (λ name. (earlier name).word) (Some value) (Some (kept_before n)))) o (kept_before n)) ≡ true
    fold_word k arg source expr None at range event agreed before = before
    fold_word k arg source expr (Some value) at range event agreed before =
        means (in_fold arg k) (Some value) (Some (kept_before n)) expr k range agreed
        (λ j w e f. stands_for symbols arg j value w (event_value source arg value event at) e f)
        (λ j w e f. stands_for symbols k j (kept_before n) w before e f)

    map_value : (k arg : Kind) (source : ℕ) (expr : Expr) (w : Word) (o : Option Word) → (earlier source).occurrence ≡ o → HasLiterals n expr → event_kind (sorts_at n) source ≡ Some arg → agrees_with k (expr_kind (sorts_at n) (at_event arg) expr) ≡ true
        → option_map (λ value. meaning expr (names_environment decls s.new_view (λ name. (earlier name).word) (Some value) None)) o ≡ Some w → is_word_or_fault symbols k w ≡ true
    map_value k arg source expr w None at range event agreed h = absurd (cc)
    map_value k arg source expr w (Some value) at range event agreed h =
        word_moved symbols k _ w h
        (means (at_event arg) (Some value) None expr k range agreed
        (λ j w e f. stands_for symbols arg j value w (event_value source arg value event at) e f)
        (λ j w e f. none e))

    filter_value : (k : Kind) (source : ℕ) (expr : Expr) (w : Word) (o : Option Word) → (earlier source).occurrence ≡ o → HasLiterals n expr → event_kind (sorts_at n) source ≡ Some k → agrees_with kind.Bool (expr_kind (sorts_at n) (at_event k) expr) ≡ true
        → option_and_then (λ value. filtered (meaning expr (names_environment decls s.new_view (λ name. (earlier name).word) (Some value) None)) value) o ≡ Some w → is_word_or_fault symbols k w ≡ true
    filter_value k source expr w None at range event agreed h = absurd (cc)
    filter_value k source expr w (Some value) at range event agreed h =
        filtered_kept symbols k _ value w
        (means (at_event k) (Some value) None expr kind.Bool range agreed
        (λ j w e f. stands_for symbols k j value w (event_value source k value event at) e f)
        (λ j w e f. none e))
        (event_value source k value event at) h

  abbrev GivesWord : ℕ → Body → Kind → Type 0
  GivesWord n b k = (earlier : ℕ → Effect) → Known n b earlier → is_word_or_fault symbols k (body_effect p s n b earlier).word ≡ true

  abbrev GivesValue : ℕ → Body → Kind → Type 0
  GivesValue n b k = (earlier : ℕ → Effect) → Known n b earlier → (w : Word) → (body_effect p s n b earlier).occurrence ≡ Some w → is_word_or_fault symbols k w ≡ true

  gives_word : (n : ℕ) → ValueCases (sorts_at n) (GivesWord n)
  gives_word n = record {
    var = λ k start region earlier known. word_or_fault symbols k _ (var_word n (body.Var k start region) earlier known k (put_word s.sets n) (λ w h. known.sets k w refl h) (known.cell refl));
    signal = λ k expr agreed earlier known. means n (body.Signal k expr) earlier known in_signal None None expr k (literals _ expr known.range) agreed (λ j w e f. none e) (λ j w e f. none e);
    fold = λ k arg start source expr region event agreed earlier known.
        fold_word n (body.Fold k start source expr region) earlier known k arg source expr (earlier source).occurrence refl (fold_literals n k start source expr region known.range) event agreed (known.cell refl);
    counter = λ earlier known. known.shows replicated.Counter refl;
    register = λ k start earlier known. word_or_fault symbols k _ (known.shows (replicated.Register k start) refl);
  }

  gives_value : (n : ℕ) → EventCases (sorts_at n) (GivesValue n)
  gives_value n = record {
    source = λ k earlier known w h. word_or_fault symbols k w (known.fires k w refl h);
    changed = λ k of is earlier known w h.
        let e = earlier_value p program n of k known.within is in
        subst (λ x. is_word_or_fault symbols k x ≡ true) (changed_to (same_word (signal_word p s.words s.old_view of) (earlier of).word) (earlier of).word w h) (known.kept.words of k e.0 e.1);
    mapped_by = λ k arg from expr event agreed earlier known w h. map_value n (body.Map from k expr) earlier known k arg from expr w (earlier from).occurrence refl (literals _ expr known.range) event agreed h;
    filtered_by = λ k from expr event agreed earlier known w h. filter_value n (body.Filter from expr) earlier known k from expr w (earlier from).occurrence refl (literals _ expr known.range) event agreed h;
    either = λ k left right first second earlier known w h.
        either_kept symbols k (earlier left).occurrence (earlier right).occurrence w
        (λ v at. event_value n (body.Either left right) earlier known left k v first at)
        (λ v at. event_value n (body.Either left right) earlier known right k v second at) h;
  }

  -- a place of the program
  known_at : (n : ℕ) (d : Decl) (earlier : ℕ → Effect) → slice_get decls n ≡ Some d → AreEffects n earlier → Known n d.body earlier
  known_at n d earlier at kept =
      let within = slice_get_within decls n d at in
      record {
        within = omega arith;
        range = program.ranges n d at;
        kept = kept;
        cell = step.words.kinds n d at;
        shows = λ r is. step.new_view.words (replicated_place decls n) r (kind_at decls n d r at is);
        sets = λ k w is h. put_kept decls var_kind s.sets n d k w step.sets at is h;
        fires = λ k w is h. put_kept decls source_kind s.fires n d k w step.fires at is h;
      }

  word_here : (n : ℕ) (earlier : ℕ → Effect) (k : Kind) → n < length decls → AreEffects n earlier → value_kind (sorts_of decls) n ≡ Some k → is_word_or_fault symbols k (place_effect p s n earlier).word ≡ true
  word_here n earlier k within kept v =
      let d = declared decls n within in
      let t = declared_sort p program n d.0 d.1 in
      subst (λ o. is_word_or_fault symbols k (option_map_or (λ d. body_effect p s n d.body earlier) o no_effect).word ≡ true) (sym d.1)
      (by_value (sorts_at n) (GivesWord n) (gives_word n) d.0.body t.sort k t.is (ap value_kind_of (sym t.at) ∙ v) earlier (known_at n d.0 earlier d.1 kept))

  value_here : (n : ℕ) (earlier : ℕ → Effect) (k : Kind) (w : Word) → n < length decls → AreEffects n earlier → event_kind (sorts_of decls) n ≡ Some k → (place_effect p s n earlier).occurrence ≡ Some w → is_word_or_fault symbols k w ≡ true
  value_here n earlier k w within kept v h =
      let d = declared decls n within in
      let t = declared_sort p program n d.0 d.1 in
      by_event (sorts_at n) (GivesValue n) (gives_value n) d.0.body t.sort k t.is (ap event_kind_of (sym t.at) ∙ v) earlier (known_at n d.0 earlier d.1 kept) w
      (sym (ap (λ o. (option_map_or (λ d. body_effect p s n d.body earlier) o no_effect).occurrence) d.1) ∙ h)

  abbrev effects : ℕ → ℕ → Effect
  effects n = below no_effect (place_effect p s) n

  -- one declaration more
  one_more : (n : ℕ) → suc n ≤ length decls → AreEffects n (effects n) → AreEffects (suc n) (effects (suc n))
  one_more n within kept = record {
    words = λ id k under v.
        elim (cases_eq id n) [
          | inl e ↦
              subst (λ i. is_word_or_fault symbols k (effects (suc n) i).word ≡ true) (sym e)
              (subst (λ x. is_word_or_fault symbols k x.word ≡ true) (sym (below-here no_effect (place_effect p s) n))
              (word_here n (effects n) k (omega arith) kept (ap (value_kind (sorts_of decls)) (sym e) ∙ v)))
          | inr other ↦ subst (λ x. is_word_or_fault symbols k x.word ≡ true) (sym (below-more no_effect (place_effect p s) n id other)) (kept.words id k (omega arith) v)
        ];
    values = λ id k w under v h.
        elim (cases_eq id n) [
          | inl e ↦ value_here n (effects n) k w (omega arith) kept (ap (event_kind (sorts_of decls)) (sym e) ∙ v) (ap (λ x. x.occurrence) (sym (below-here no_effect (place_effect p s) n)) ∙ ap (λ i. (effects (suc n) i).occurrence) (sym e) ∙ h)
          | inr other ↦ kept.values id k w (omega arith) v (ap (λ x. x.occurrence) (sym (below-more no_effect (place_effect p s) n id other)) ∙ h)
        ];
  }

  kept_below : (n : ℕ) → n ≤ length decls → AreEffects n (effects n)
  kept_below zero within = record { words = λ id k under v. absurd (omega arith); values = λ id k w under v h. absurd (omega arith) }
  kept_below (suc n) within = one_more n within (kept_below n (omega arith))

  -- the word of a declaration that has one, and the value of an event that occurs
  pub effect_word : (id : ℕ) (k : Kind) → value_kind (sorts_of decls) id ≡ Some k → is_word_or_fault symbols k (effect p s id).word ≡ true
  effect_word id k v =
      let f = value_found (slice_get (sorts_of decls) id) k v in
      let a = slice_get_within (sorts_of decls) id f.0 f.1 in
      let b = sorts_of-count decls in
      (kept_below (length decls) (omega arith)).words id k (omega arith) v

  pub effect_value : (id : ℕ) (k : Kind) (w : Word) → event_kind (sorts_of decls) id ≡ Some k → (effect p s id).occurrence ≡ Some w → is_word_or_fault symbols k w ≡ true
  effect_value id k w v h =
      let f = event_found (slice_get (sorts_of decls) id) k v in
      let a = slice_get_within (sorts_of decls) id f.0 f.1 in
      let b = sorts_of-count decls in
      (kept_below (length decls) (omega arith)).values id k w (omega arith) v h

  fold_sort : (n : ℕ) (k : Kind) (start : Word) (source : ℕ) (expr : Expr) (region : ℕ) (t : Sort) → sort_of (sorts_at n) (body.Fold k start source expr region) ≡ Some t → value_kind_of (Some t) ≡ Some k
  fold_sort n k start source expr region t h =
      let a = through (event_kind (sorts_at n) source) _ t h in
      let o = only (is_start k start && agrees_with k (expr_kind (sorts_at n) (in_fold a.value k) expr)) (Value k) t a.then_is in
      ap (λ x. value_kind_of (Some x)) (sym o.1)

  -- a var's word is of its kind, a fold's of its kind or a fault
  kept_word : (n : ℕ) (d : Decl) (b : Body) (earlier : ℕ → Effect) → b ≡ d.body → slice_get decls n ≡ Some d → is_cell_body b ≡ true → Known n b earlier → is_kept_word symbols b (body_effect p s n b earlier).word ≡ true
  kept_word n d (body.Var k start region) earlier is at cell known = var_word n (body.Var k start region) earlier known k (put_word s.sets n) (λ w h. known.sets k w refl h) (known.cell refl)
  kept_word n d (body.Fold k start source expr region) earlier is at cell known =
      let t = declared_sort p program n d at in
      by_value (sorts_at n) (GivesWord n) (gives_word n) (body.Fold k start source expr region) t.sort k (ap (sort_of (sorts_at n)) is ∙ t.is) (fold_sort n k start source expr region t.sort (ap (sort_of (sorts_at n)) is ∙ t.is)) earlier known
  kept_word n d body.Device earlier is at cell known = never cell
  kept_word n d body.Symbol earlier is at cell known = never cell
  kept_word n d (body.Event k) earlier is at cell known = never cell
  kept_word n d (body.Signal k expr) earlier is at cell known = never cell
  kept_word n d (body.Changed of) earlier is at cell known = never cell
  kept_word n d (body.Map source k expr) earlier is at cell known = never cell
  kept_word n d (body.Filter source expr) earlier is at cell known = never cell
  kept_word n d (body.Either left right) earlier is at cell known = never cell
  kept_word n d body.Counter earlier is at cell known = never cell
  kept_word n d (body.Set k) earlier is at cell known = never cell
  kept_word n d (body.Register k start) earlier is at cell known = never cell

  pub effect_kept : (id : ℕ) (d : Decl) → slice_get decls id ≡ Some d → is_cell_body d.body ≡ true → is_kept_word symbols d.body (effect p s id).word ≡ true
  effect_kept id d at cell =
      let within = slice_get_within decls id d at in
      let own : effect p s id ≡ body_effect p s id d.body (effects id) = below-own no_effect (place_effect p s) (length decls) id within ∙ ap (λ o. option_map_or (λ d. body_effect p s id d.body (effects id)) o no_effect) at in
      subst (λ x. is_kept_word symbols d.body x.word ≡ true) (sym own)
      (kept_word id d d.body (effects id) refl at cell (known_at id d (effects id) at (kept_below id (omega arith))))
