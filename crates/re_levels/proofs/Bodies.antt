-- What a declaration has depends on what its inputs have, and on nothing else.
use Rattle.std.proofs.Common.{◌≡◌, ◌≤◌, ℕ, Bool, true, false, List, [], ◌∷◌, length, take, refl, sym, ap, ◌∙◌, arith}
use Rattle.std.specs.Prelude.{Option, None, Some, is_some, option_map, option_and_then, unwrap_or, slice_get}
use Rattle.std.specs.List.{All}
use Rattle.std.specs.Option.{option_map_or}
use Rattle.std.proofs.lemmas.List.Elements.{All-head, All-tail, All-weaker}
use Rattle.std.proofs.lemmas.Option.{slice_get_within}
use Rattle.re_terms.specs.declared.expr.Expr.{Expr}
use Rattle.re_terms.specs.declared.program.Body.{Body}
use Rattle.re_terms.specs.declared.program.Body.TheVariants as body
use Rattle.re_terms.specs.declared.program.Decl.{Decl}
use Rattle.re_terms.specs.declared.program.Program.{Program}
use Rattle.re_terms.specs.declared.word.Kind.{Kind}
use Rattle.re_terms.specs.declared.word.Kind.TheVariants as kind
use Rattle.re_terms.specs.declared.word.Word.{Word}
use Rattle.re_terms.specs.Dependencies.{expr_names, inputs}
use Rattle.re_terms.specs.Kinds.{Place, SomeKind, Sort, agrees_with, at_event, event_kind, expr_kind, in_fold, in_signal, is_of_kind, is_start, only_if, sort_of, sorts_of, value_kind, Event}
use Rattle.re_terms.specs.Meaning.{Environment, meaning}
use Rattle.re_terms.specs.Programs.{IsProgram, is_replicated_body}
use Rattle.re_terms.specs.Propagation.{Effect, change_of, either_of, filtered, occurs, put_word, word_effect}
use Rattle.re_terms.specs.Worlds.{is_set_at}
use Rattle.std.proofs.lemmas.Bool.{and_parts}
use Rattle.re_eval.specs.Told.{environment}
use Rattle.re_prop.specs.Reading.{is_valued_at, is_valued_body}
use Rattle.re_levels.specs.Seen.{Sight, body_seen, told_over}
use Rattle.re_levels.proofs.Alike.{IsAlikeAt, bind_then, map_some, meaning-alike}
use Rattle.re_levels.proofs.NameSorts.{set_from, valued_from}

only_some : {A : Type 0} (b : Bool) (x : A) → is_some (only_if b x) ≡ true → b ≡ true
only_some true x h = refl
only_some false x h = h

kind_some : (k : Kind) (e : Option SomeKind) → is_of_kind k e ≡ true → is_some e ≡ true
kind_some k None h = h
kind_some k (Some e) h = refl

agrees_some : (k : Kind) (e : Option SomeKind) → agrees_with k e ≡ true → is_some e ≡ true
agrees_some k None h = h
agrees_some k (Some e) h = refl

-- what an expression is told of a name is alike
pub record IsNameAlike (p : Program) (v w : Environment) (n : ℕ) : Type 0 where
  pub word : is_valued_at p.decls.items n ≡ true → v.word n ≡ w.word n
  pub size : is_set_at p.decls.items n ≡ true → v.size n ≡ w.size n
  pub has : is_set_at p.decls.items n ≡ true → (x : Word) → v.has n x ≡ w.has n x

-- what an input has, and what is told of it, is alike on two sides
pub record IsInputAlike (p : Program) (a b : Sight) (f g : ℕ → Effect) (n : ℕ) : Type 0 where
  pub word : is_valued_at p.decls.items n ≡ true → (f n).word ≡ (g n).word
  pub occurrence : (f n).occurrence ≡ (g n).occurrence
  pub before : is_valued_at p.decls.items n ≡ true → a.old.word n ≡ b.old.word n
  pub size : is_set_at p.decls.items n ≡ true → a.new.size n ≡ b.new.size n
  pub has : is_set_at p.decls.items n ≡ true → (w : Word) → a.new.has n w ≡ b.new.has n w

module _ (p : Program) (program : IsProgram p) (id : ℕ) (d : Decl) (at : slice_get p.decls.items id ≡ Some d) where
  inside : id ≤ length p.decls.items
  inside = omega (arith, slice_get_within p.decls.items id d at)

  abbrev sorts : List Sort
  sorts = sorts_of (take id p.decls.items)

  kinded : (b : Body) → d.body ≡ b → is_some (sort_of sorts b) ≡ true
  kinded b is = ap (λ b. is_some (sort_of sorts b)) (sym is) ∙ program.kinds id d at

  -- what a body's expression means over environments that are alike at its names
  pub expression_alike : (place : Place) (v w : Environment) (expr : Expr) → is_some (expr_kind sorts place expr) ≡ true → v.arg ≡ w.arg → v.own ≡ w.own
      → All (IsNameAlike p v w) (expr_names expr)
      → meaning expr v ≡ meaning expr w
  expression_alike place v w expr k arg own alike = meaning-alike sorts place v w arg own expr k (All-weaker (IsNameAlike p v w) (IsAlikeAt sorts v w) (λ n h. record {
    word = λ valued. h.word (valued_from p program id inside n valued);
    size = λ set. h.size (set_from p program id inside n set);
    has = λ set. h.has (set_from p program id inside n set);
  }) (expr_names expr) alike)

  -- a signal's expression has a kind
  pub signal_kinded : (k : Kind) (expr : Expr) → d.body ≡ body.Signal k expr → is_some (expr_kind sorts in_signal expr) ≡ true
  signal_kinded k expr is = kind_some k _ (only_some _ _ (kinded (body.Signal k expr) is))

  module _ (a b : Sight) (f g : ℕ → Effect) where
    abbrev Alike : ℕ → Type 0
    Alike = IsInputAlike p a b f g

    over_alike : (place : Place) (arg own own' : Option Word) (expr : Expr) → is_some (expr_kind sorts place expr) ≡ true → own ≡ own' → All Alike (expr_names expr)
        → meaning expr (environment (told_over a f) arg own) ≡ meaning expr (environment (told_over b g) arg own')
    over_alike place arg own own' expr k same alike = expression_alike place (environment (told_over a f) arg own) (environment (told_over b g) arg own') expr k refl same
        (All-weaker Alike (IsNameAlike p (environment (told_over a f) arg own) (environment (told_over b g) arg own')) (λ n h. record { word = h.word; size = h.size; has = h.has }) (expr_names expr) alike)

    module _ (sets : put_word a.sets id ≡ put_word b.sets id) (fires : put_word a.fires id ≡ put_word b.fires id) (old : is_valued_body d.body ≡ true → a.old.word id ≡ b.old.word id) (new : is_replicated_body d.body ≡ true → is_valued_body d.body ≡ true → a.new.word id ≡ b.new.word id) where
      fold_case : (k : Kind) (start : Word) (source : ℕ) (expr : Expr) (region : ℕ) → d.body ≡ body.Fold k start source expr region → All Alike (inputs (body.Fold k start source expr region)) → body_seen a id (body.Fold k start source expr region) f ≡ body_seen b id (body.Fold k start source expr region) g
      fold_case k start source expr region is alike =
          bind_then (event_kind sorts source) _ (kinded _ is) (λ arg found rest.
          let agreed = (and_parts (is_start k start) (agrees_with k (expr_kind sorts (in_fold arg k) expr)) (only_some _ _ rest)).1 in
          let named = All-tail Alike source (expr_names expr) alike in
          let kept : a.old.word id ≡ b.old.word id = old (ap is_valued_body is) in
          let fired = (All-head Alike source (expr_names expr) alike).occurrence in
          let first : Word → Word = λ value. meaning expr (environment (told_over a f) (Some value) (Some (a.old.word id))) in
          let second : Word → Word = λ value. meaning expr (environment (told_over b g) (Some value) (Some (b.old.word id))) in
          let each : first ≡ second =
          λ i value. over_alike (in_fold arg k) (Some value) (Some (a.old.word id)) (Some (b.old.word id)) expr (agrees_some k _ agreed) (ap Some kept) named i in
          λ i. word_effect (option_map_or (each i) (fired i) (kept i)))

      body_case : (c : Body) → d.body ≡ c → All Alike (inputs c) → body_seen a id c f ≡ body_seen b id c g
      body_case (body.Var k start region) is alike = let kept = old (ap is_valued_body is) in λ i. word_effect (unwrap_or (sets i) (kept i))
      body_case (body.Signal k expr) is alike = ap word_effect (over_alike in_signal None None None expr (kind_some k _ (only_some _ _ (kinded _ is))) refl alike)
      body_case (body.Fold k start source expr region) is alike = fold_case k start source expr region is alike
      body_case body.Counter is alike = ap word_effect (new (ap is_replicated_body is) (ap is_valued_body is))
      body_case (body.Register k start) is alike = ap word_effect (new (ap is_replicated_body is) (ap is_valued_body is))
      body_case (body.Event k) is alike = ap occurs fires
      body_case (body.Changed of) is alike =
          let valued = valued_from p program id inside of (map_some (value_kind sorts of) Event (kinded (body.Changed of) is)) in
          let own = All-head Alike of [] alike in
          let before = own.before valued in
          let after = own.word valued in
          λ i. occurs (change_of (before i) (after i))
      body_case (body.Map source k expr) is alike =
          bind_then (event_kind sorts source) _ (kinded _ is) (λ arg found rest.
          let named = All-tail Alike source (expr_names expr) alike in
          let fired = (All-head Alike source (expr_names expr) alike).occurrence in
          let first : Word → Word = λ value. meaning expr (environment (told_over a f) (Some value) None) in
          let second : Word → Word = λ value. meaning expr (environment (told_over b g) (Some value) None) in
          let each : first ≡ second =
          λ i value. over_alike (at_event arg) (Some value) None None expr (kind_some k _ (only_some _ _ rest)) refl named i in
          λ i. occurs (option_map (each i) (fired i)))
      body_case (body.Filter source expr) is alike =
          bind_then (event_kind sorts source) _ (kinded _ is) (λ arg found rest.
          let named = All-tail Alike source (expr_names expr) alike in
          let fired = (All-head Alike source (expr_names expr) alike).occurrence in
          let first : Word → Word = λ value. meaning expr (environment (told_over a f) (Some value) None) in
          let second : Word → Word = λ value. meaning expr (environment (told_over b g) (Some value) None) in
          let each : first ≡ second =
          λ i value. over_alike (at_event arg) (Some value) None None expr (agrees_some kind.Bool _ (only_some _ _ rest)) refl named i in
          λ i. occurs (option_and_then (λ value. filtered (each i value) value) (fired i)))
      body_case (body.Either left right) is alike =
          let first = (All-head Alike left (right ∷ []) alike).occurrence in
          let second = (All-head Alike right [] (All-tail Alike left (right ∷ []) alike)).occurrence in
          λ i. occurs (either_of (first i) (second i))
      body_case body.Device is alike = refl
      body_case body.Symbol is alike = refl
      body_case (body.Set k) is alike = refl

      -- two sides on which the inputs are alike
      pub body-alike : All Alike (inputs d.body) → body_seen a id d.body f ≡ body_seen b id d.body g
      body-alike alike = body_case d.body refl alike
