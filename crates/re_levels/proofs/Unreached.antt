-- A declaration that isn't reached keeps its word, and doesn't occur.
use Rattle.std.proofs.Common.{◌≡◌, ◌<◌, ◌≤◌, ℕ, zero, suc, Bool, true, false, ◌||◌, List, [], ◌∷◌, length, refl, sym, ap, subst, ◌∙◌, arith}
use Rattle.std.specs.Prelude.{Option, None, Some, if◌then◌else◌, nat_lt, option_map, option_and_then, slice_get, slice_index_or, unwrap_or}
use Rattle.std.specs.List.{All, list_any}
use Rattle.std.specs.Option.{option_map_or}
use Rattle.std.proofs.lemmas.Bool.{ltb-true, ltb-false}
use Rattle.std.proofs.lemmas.List.{length-map}
use Rattle.std.proofs.lemmas.List.Elements.{All-nil, All-cons, All-head, All-tail, All-weaker}
use Rattle.std.proofs.lemmas.Option.{slice_get-map, slice_get_within}
use Rattle.re_terms.specs.declared.program.Body.{Body}
use Rattle.re_terms.specs.declared.program.Body.TheVariants as body
use Rattle.re_terms.specs.declared.program.Decl.{Decl}
use Rattle.re_terms.specs.declared.program.Program.{Program}
use Rattle.re_terms.specs.declared.word.Kind.{Kind}
use Rattle.re_terms.specs.declared.word.Word.{Word}
use Rattle.re_terms.specs.Cells.{cell_place}
use Rattle.re_terms.specs.Dependencies.{PlainNode, below, expr_names, graph_of, inputs, inputs_at, is_reached, node_of}
use Rattle.re_terms.specs.Kinds.{in_signal}
use Rattle.re_terms.specs.Meaning.{meaning}
use Rattle.re_terms.specs.Programs.{IsProgram, is_replicated, is_replicated_body}
use Rattle.re_terms.specs.Propagation.{Step, Effect, body_effect, effect, either_of, filtered, no_effect, place_effect}
use Rattle.re_terms.specs.SignalWords.{body_word, names_environment, no_word, place_word, replicated_place, signal_word}
use Rattle.re_terms.specs.WordOrder.{same_word}
use Rattle.re_terms.specs.Worlds.{is_set_at, is_set_body}
use Rattle.re_terms.proofs.DeclaredSorts.{declared}
use Rattle.re_terms.proofs.Ordered.{inputs-before, program-ordered}
use Rattle.re_terms.proofs.WordMeanings.{never}
use Rattle.re_terms.proofs.WordOrders.{same_word-refl}
use Rattle.re_graph.specs.Kept.{is_among}
use Rattle.re_graph.proofs.Own.{below-none, below-places, is_reached-own}
use Rattle.re_prop.specs.Touched.{is_replicated_at}
use Rattle.re_prop.proofs.Along.{effect-own}
use Rattle.re_prop.proofs.Before.{signal_word-none, signal_word-own}
use Rattle.re_levels.specs.Telling.{HoldsTouched}
use Rattle.re_levels.proofs.Bodies.{IsNameAlike, expression_alike, signal_kinded}

-- the inputs of a declaration in the graph
pub inputs_of : (p : Program) (id : ℕ) (d : Decl) → slice_get p.decls.items id ≡ Some d → inputs_at (graph_of p.decls.items) id ≡ inputs d.body
inputs_of p id d at =
    let found : slice_get (graph_of p.decls.items) id ≡ Some (node_of d) = slice_get-map node_of p.decls.items id ∙ ap (option_map node_of) at in
    ap (λ o. option_map_or (λ node. node.inputs) o []) found

or_parts : (a b : Bool) → (a || b) ≡ false → (a ≡ false) × (b ≡ false)
or_parts true b h = absurd (let e : true ≡ false = h in cc)
or_parts false b h = (refl, h)

-- where no element passes, each fails
pub none_passes : (f : ℕ → Bool) (xs : List ℕ) → list_any f xs ≡ false → All (λ x. f x ≡ false) xs
none_passes f [] h = All-nil (λ x. f x ≡ false)
none_passes f (x ∷ xs) h = let parts = or_parts (f x) (list_any f xs) h in All-cons (λ x. f x ≡ false) x xs parts.0 (none_passes f xs parts.1)

set_replicated : (b : Body) → is_set_body b ≡ true → is_replicated_body b ≡ true
set_replicated (body.Set k) h = refl
set_replicated b h = never h

set_by : (o : Option Decl) → option_map_or (λ d. is_set_body d.body) o false ≡ true → option_map_or is_replicated o false ≡ true
set_by None h = h
set_by (Some d) h = set_replicated d.body h

-- a set is a replicated cell
pub set_is_replicated : (p : Program) (id : ℕ) → is_set_at p.decls.items id ≡ true → is_replicated_at p.decls.items id ≡ true
set_is_replicated p id h = set_by (slice_get p.decls.items id) h

-- a declaration has after an entry what it had before
pub record IsAsBefore (p : Program) (s : Step) (id : ℕ) : Type 0 where
  pub word : (effect p s id).word ≡ signal_word p s.words s.old_view id
  pub still : (effect p s id).occurrence ≡ None

module _ (p : Program) (program : IsProgram p) (s : Step) (touched : List ℕ) (holds : HoldsTouched p s touched) where
  abbrev decls : List Decl
  decls = p.decls.items

  abbrev graph : List PlainNode
  graph = graph_of decls

  abbrev R : ℕ → Bool
  R = is_reached graph touched

  in_graph : (id : ℕ) → id < length decls → id < length graph
  in_graph id within = omega (arith, within, length-map decls node_of)

  -- what isn't reached isn't touched, and neither is any input of it
  pub untouched : (id : ℕ) → id < length decls → R id ≡ false → is_among touched id ≡ false
  untouched id within off = (or_parts (is_among touched id) (list_any R (inputs_at graph id)) (sym (is_reached-own graph touched id (program-ordered p program) (in_graph id within)) ∙ off)).0

  pub inputs_off : (id : ℕ) (d : Decl) → slice_get decls id ≡ Some d → R id ≡ false → All (λ n. R n ≡ false) (inputs d.body)
  inputs_off id d at off =
      let within = slice_get_within decls id d at in
      subst (All (λ n. R n ≡ false)) (inputs_of p id d at)
      (none_passes R (inputs_at graph id) (or_parts (is_among touched id) (list_any R (inputs_at graph id)) (sym (is_reached-own graph touched id (program-ordered p program) (in_graph id within)) ∙ off)).1)

  module _ (id : ℕ) (d : Decl) (at : slice_get decls id ≡ Some d) (off : R id ≡ false) (earlier_as : (n : ℕ) → n < id → R n ≡ false → IsAsBefore p s n) where
    inside : id < length decls
    inside = slice_get_within decls id d at

    quiet : is_among touched id ≡ false
    quiet = untouched id inside off

    abbrev earlier : ℕ → Effect
    earlier = below no_effect (place_effect p s) id

    abbrev words : ℕ → Word
    words = below no_word (place_word decls s.words s.old_view) id

    -- an input has what it had, and isn't touched
    record IsStill (n : ℕ) : Type 0 where
      under : n < id
      reached : R n ≡ false
      word : (earlier n).word ≡ words n
      word_before : (earlier n).word ≡ signal_word p s.words s.old_view n
      still : (earlier n).occurrence ≡ None

    one_still : (n : ℕ) → n < id → R n ≡ false → IsStill n
    one_still n under reached =
        let kept = earlier_as n under reached in
        let same = below-places no_effect (place_effect p s) id (length decls) n under (omega (arith, under, inside)) in
        let old = below-places no_word (place_word decls s.words s.old_view) (length decls) id n (omega (arith, under, inside)) under in
        record {
          under = under;
          reached = reached;
          word = ap (λ e. e.word) same ∙ kept.word ∙ old;
          word_before = ap (λ e. e.word) same ∙ kept.word;
          still = ap (λ e. e.occurrence) same ∙ kept.still;
        }

    both_all : (xs : List ℕ) → All (λ n. n < id) xs → All (λ n. R n ≡ false) xs → All IsStill xs
    both_all [] a b = All-nil IsStill
    both_all (x ∷ xs) a b = All-cons IsStill x xs (one_still x (All-head (λ n. n < id) x xs a) (All-head (λ n. R n ≡ false) x xs b)) (both_all xs (All-tail (λ n. n < id) x xs a) (All-tail (λ n. R n ≡ false) x xs b))

    all_still : All IsStill (inputs d.body)
    all_still = both_all (inputs d.body) (inputs-before p program id d at) (inputs_off id d at off)

    still_of : (c : Body) → d.body ≡ c → All IsStill (inputs c)
    still_of c is = subst (λ b. All IsStill (inputs b)) is all_still

    cell_same : is_replicated_body d.body ≡ true → s.new_view.word (replicated_place decls id) ≡ s.old_view.word (replicated_place decls id)
    cell_same is = (holds.cells id (ap (λ o. option_map_or is_replicated o false) at ∙ is) quiet).word

    signal_same : (k : Kind) (expr : _) → d.body ≡ body.Signal k expr → meaning expr (names_environment decls s.new_view (λ n. (earlier n).word) None None) ≡ meaning expr (names_environment decls s.old_view words None None)
    signal_same k expr is = expression_alike p program id d at in_signal (names_environment decls s.new_view (λ n. (earlier n).word) None None) (names_environment decls s.old_view words None None) expr (signal_kinded p program id d at k expr is) refl refl
        (All-weaker IsStill (IsNameAlike p (names_environment decls s.new_view (λ n. (earlier n).word) None None) (names_environment decls s.old_view words None None)) (λ n still. record {
          word = λ valued. still.word;
          size = λ set. (holds.cells n (set_is_replicated p n set) (untouched n (omega (arith, still.under, inside)) still.reached)).size;
          has = λ set. (holds.cells n (set_is_replicated p n set) (untouched n (omega (arith, still.under, inside)) still.reached)).has;
        }) (expr_names expr) (still_of (body.Signal k expr) is))

    word_case : (c : Body) → d.body ≡ c → (body_effect p s id c earlier).word ≡ body_word decls s.words s.old_view id c words
    word_case (body.Var k start region) is = ap (λ o. unwrap_or o (slice_index_or s.words (cell_place decls id) no_word)) (holds.sets id quiet)
    word_case (body.Signal k expr) is = signal_same k expr is
    word_case (body.Fold k start source expr region) is = ap (λ o. option_map_or (λ value. meaning expr (names_environment decls s.new_view (λ n. (earlier n).word) (Some value) (Some (slice_index_or s.words (cell_place decls id) no_word)))) o (slice_index_or s.words (cell_place decls id) no_word)) (All-head IsStill source (expr_names expr) (still_of (body.Fold k start source expr region) is)).still
    word_case body.Counter is = cell_same (ap is_replicated_body is)
    word_case (body.Register k start) is = cell_same (ap is_replicated_body is)
    word_case body.Device is = refl
    word_case body.Symbol is = refl
    word_case (body.Event k) is = refl
    word_case (body.Changed of) is = refl
    word_case (body.Map source k expr) is = refl
    word_case (body.Filter source expr) is = refl
    word_case (body.Either left right) is = refl
    word_case (body.Set k) is = refl

    still_case : (c : Body) → d.body ≡ c → (body_effect p s id c earlier).occurrence ≡ None
    still_case (body.Var k start region) is = refl
    still_case (body.Signal k expr) is = refl
    still_case (body.Fold k start source expr region) is = refl
    still_case body.Counter is = refl
    still_case (body.Register k start) is = refl
    still_case body.Device is = refl
    still_case body.Symbol is = refl
    still_case (body.Event k) is = holds.fires id quiet
    still_case (body.Changed of) is =
        let own = All-head IsStill of [] (still_of (body.Changed of) is) in
        let before : Word = signal_word p s.words s.old_view of in
        let same : same_word before (earlier of).word ≡ true = ap (same_word before) own.word_before ∙ same_word-refl before in
        ap (λ b. if b then None else Some (earlier of).word) same
    still_case (body.Map source k expr) is = ap (option_map (λ value. meaning expr (names_environment decls s.new_view (λ n. (earlier n).word) (Some value) None))) (All-head IsStill source (expr_names expr) (still_of (body.Map source k expr) is)).still
    still_case (body.Filter source expr) is = ap (option_and_then (λ value. filtered (meaning expr (names_environment decls s.new_view (λ n. (earlier n).word) (Some value) None)) value)) (All-head IsStill source (expr_names expr) (still_of (body.Filter source expr) is)).still
    still_case (body.Either left right) is =
        let all = still_of (body.Either left right) is in
        let first = (All-head IsStill left (right ∷ []) all).still in
        let second = (All-head IsStill right [] (All-tail IsStill left (right ∷ []) all)).still in
        λ i. either_of (first i) (second i)
    still_case (body.Set k) is = refl

    one_as : IsAsBefore p s id
    one_as = record {
      word = ap (λ e. e.word) (effect-own p s (length decls) id d inside at) ∙ word_case d.body refl ∙ sym (signal_word-own p s.words s.old_view id d at);
      still = ap (λ e. e.occurrence) (effect-own p s (length decls) id d inside at) ∙ still_case d.body refl;
    }

  past_as : (id : ℕ) → length decls ≤ id → IsAsBefore p s id
  past_as id past = record {
    word = ap (λ e. e.word) (below-none no_effect (place_effect p s) (length decls) id past) ∙ sym (signal_word-none p s.words s.old_view id past);
    still = ap (λ e. e.occurrence) (below-none no_effect (place_effect p s) (length decls) id past);
  }

  as_by : (id : ℕ) → R id ≡ false → ((n : ℕ) → n < id → R n ≡ false → IsAsBefore p s n) → (b : Bool) → nat_lt id (length decls) ≡ b → IsAsBefore p s id
  as_by id off earlier_as true lt = let d = declared decls id (ltb-true id (length decls) lt) in one_as id d.0 d.1 off earlier_as
  as_by id off earlier_as false lt = past_as id (ltb-false id (length decls) lt)

  as_below : (m id : ℕ) → id < m → R id ≡ false → IsAsBefore p s id
  as_below zero id under off = absurd (omega arith)
  as_below (suc m) id under off = as_by id off (λ n lower. as_below m n (omega arith)) (nat_lt id (length decls)) refl

  -- what isn't reached is as before
  pub unreached-as_before : (id : ℕ) → R id ≡ false → IsAsBefore p s id
  unreached-as_before id off = as_below (suc id) id (omega arith) off
