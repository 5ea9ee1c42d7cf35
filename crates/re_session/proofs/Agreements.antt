-- Devices that have taken in the same updates show the same of what rests on replicated cells alone.
use Rattle.std.proofs.Common.{ℕ, zero, suc, ◌≡◌, ◌<◌, ◌≤◌, ◌==◌, ◌||◌, ◌&&◌, Bool, true, false, List, [], ◌∷◌, ◌++◌, length, Some, None, Ok, inl, inr, refl, sym, ap, subst, ◌∙◌, arith}
use Rattle.std.proofs.lemmas.List.{length-map}
use Rattle.std.proofs.lemmas.Bool.{eq-eqb}
use Rattle.std.proofs.lemmas.Bool.Decides.{nat_tests}
use Rattle.std.proofs.lemmas.List.Elements.{All-cons, All-head, All-nil, All-tail}
use Rattle.std.proofs.lemmas.Option.{slice_get-map, slice_get_cases, slice_get_past}
use Rattle.std.specs.List.{All, list_any}
use Rattle.std.specs.Option.{is_some, option_map_or}
use Rattle.std.specs.Prelude.{if◌then◌else◌, nat_lt, option_map, slice_get}
use Rattle.re_terms.specs.declared.command.Command.TheVariants as command
use Rattle.re_terms.specs.declared.expr.Expr.{Expr, roll-Expr, map-Expr}
use Rattle.re_terms.specs.declared.expr.Expr.TheOpen.{Expr-F, Lit, Name, Arg, Own, Not, Bin, If, Recover, Size, Has}
use Rattle.re_terms.specs.declared.expr.Expr.TheFolds.{fold-roll-Expr, ind-Expr}
use Rattle.re_terms.specs.declared.program.Body.{Body}
use Rattle.re_terms.specs.declared.program.Body.TheVariants as body
use Rattle.re_terms.specs.declared.program.Decl.{Decl}
use Rattle.re_terms.specs.declared.program.Program.{Program}
use Rattle.re_terms.specs.declared.word.Word.{Word}
use Rattle.re_terms.specs.Admission.{device_count}
use Rattle.re_terms.specs.Arithmetic.{operator_word, not_word, if_word, recover_word}
use Rattle.re_terms.specs.CausalWorlds.{IsCausalWorld}
use Rattle.re_terms.specs.Dependencies.{PlainNode, below, cell_region, expr_names, graph_of, inputs, inputs_at, is_behind, names_step, node_of, region_at, support}
use Rattle.re_terms.specs.DeviceWorlds.{World, Fine, device_state, settled_taken, taken}
use Rattle.re_terms.specs.Entries.{run_updates}
use Rattle.re_terms.specs.Meaning.{Environment, has_word, meaning, meaning_step}
use Rattle.re_terms.specs.Programs.{IsProgram, is_replicated_body}
use Rattle.re_terms.specs.Runs.{plain_view}
use Rattle.re_terms.specs.Shapes.{shape_of}
use Rattle.re_terms.specs.SignalWords.{body_word, names_environment, no_word, place_word, replicated_place, signal_word}
use Rattle.re_terms.specs.TakenIn.{IsTakenIn}
use Rattle.re_terms.specs.UpdateSets.{SameUpdates}
use Rattle.re_terms.specs.Updates.{Update, IsIn, vector_of}
use Rattle.re_terms.specs.Values.{value_at, value_elements, view_of_updates}
use Rattle.re_terms.specs.Vectors.{covers}
use Rattle.re_terms.specs.Views.{View, cell_elements}
use Rattle.re_terms.specs.Worlds.{Members, Value, is_set_at, shown}
use Rattle.re_terms.proofs.Growing.{entries_taken, run_taken-append}
use Rattle.re_terms.proofs.Logs.{IsIn-from_filter}
use Rattle.re_terms.proofs.MemberValues.{values_same}
use Rattle.re_terms.proofs.Members.{state_same}
use Rattle.re_terms.proofs.Ordered.{inputs-before, program-ordered}
use Rattle.re_terms.proofs.Values.{elements_are}
use Rattle.re_terms.proofs.WorldEffects.{device-taken}
use Rattle.re_graph.proofs.Own.{below-none, below-own, is_behind-own}
use Rattle.re_graph.proofs.Ranges.{is_among-filter}
use Rattle.re_graph.specs.Kept.{is_among}
use Rattle.re_print.specs.AnswerTexts.{answer_text}
use Rattle.re_prop.specs.Touched.{is_replicated_at}
use Rattle.re_session.proofs.Meanings.{signal_word-meaning}
use Rattle.re_session.proofs.VarWords.{got_text}
use Rattle.re_session.specs.Histories.{HaveSame}
use Rattle.re_session.specs.LineAnswers.{Reading, line_text}

-- ---- an expression over words that are alike where it names them

all_left : (P : ℕ → Type 0) (xs ys : List ℕ) → All P (xs ++ ys) → All P xs
all_left P [] ys h = All-nil P
all_left P (x ∷ xs) ys h = All-cons P x xs (All-head P x (xs ++ ys) h) (all_left P xs ys (All-tail P x (xs ++ ys) h))

all_right : (P : ℕ → Type 0) (xs ys : List ℕ) → All P (xs ++ ys) → All P ys
all_right P [] ys h = h
all_right P (x ∷ xs) ys h = all_right P xs ys (All-tail P x (xs ++ ys) h)

module _ (decls : List Decl) (view : View) (v w : ℕ → Word) where
  abbrev over : (ℕ → Word) → Environment
  over words = names_environment decls view words None None

  abbrev IsAlike : ℕ → Type 0
  IsAlike n = v n ≡ w n

  abbrev Means : Expr → Type 0
  Means e = All IsAlike (expr_names e) → meaning e (over v) ≡ meaning e (over w)

  abbrev Part : Type 0
  Part = (e : Expr) × Means e

  abbrev whole : Expr-F Part → Expr-F Expr
  whole = map-Expr Part Expr (λ e. e.0)

  by_layer : (y : Expr-F Part) → All IsAlike (names_step (map-Expr Expr (List ℕ) expr_names (whole y))) → meaning_step (map-Expr Expr (Environment → Word) meaning (whole y)) (over v) ≡ meaning_step (map-Expr Expr (Environment → Word) meaning (whole y)) (over w)
  by_layer (Lit x) h = refl
  by_layer (Name id) h = All-head IsAlike id [] h
  by_layer Arg h = refl
  by_layer Own h = refl
  by_layer (Not operand) h = ap not_word (operand.1 h)
  by_layer (Bin o left right) h =
      let a = left.1 (all_left IsAlike (expr_names left.0) (expr_names right.0) h) in
      let b = right.1 (all_right IsAlike (expr_names left.0) (expr_names right.0) h) in
      λ i. operator_word o (a i) (b i)
  by_layer (If condition x y) h =
      let front = all_left IsAlike (expr_names condition.0 ++ expr_names x.0) (expr_names y.0) h in
      let a = condition.1 (all_left IsAlike (expr_names condition.0) (expr_names x.0) front) in
      let b = x.1 (all_right IsAlike (expr_names condition.0) (expr_names x.0) front) in
      let c = y.1 (all_right IsAlike (expr_names condition.0 ++ expr_names x.0) (expr_names y.0) h) in
      λ i. if_word (a i) (b i) (c i)
  by_layer (Recover tried other) h =
      let a = tried.1 (all_left IsAlike (expr_names tried.0) (expr_names other.0) h) in
      let b = other.1 (all_right IsAlike (expr_names tried.0) (expr_names other.0) h) in
      λ i. recover_word (a i) (b i)
  by_layer (Size set) h = refl
  by_layer (Has set element) h = ap (has_word ((over v).has set)) (element.1 (All-tail IsAlike set (expr_names element.0) h))

  alike_meaning : (e : Expr) → Means e
  alike_meaning = ind-Expr Means (λ x y is. subst (λ z. Means (roll-Expr z)) is (λ h.
      ap (λ (f : Environment → Word). f (over v)) (fold-roll-Expr (Environment → Word) meaning_step (whole y))
      ∙ by_layer y (subst (All IsAlike) (fold-roll-Expr (List ℕ) names_step (whole y)) h)
      ∙ sym (ap (λ (f : Environment → Word). f (over w)) (fold-roll-Expr (Environment → Word) meaning_step (whole y)))))

-- ---- the words of what rests on replicated cells

or_right : (a b : Bool) → b ≡ true → (a || b) ≡ true
or_right true b h = refl
or_right false b h = h

module _ (p : Program) (view : View) (xs ys : List Word) where
  abbrev all : List Decl
  all = p.decls.items

  -- a name's word is one, whichever of both lists the words of vars and folds are
  abbrev HasAlike : ℕ → Type 0
  HasAlike id = signal_word p xs view id ≡ signal_word p ys view id

  past_alike : (id : ℕ) → length all ≤ id → HasAlike id
  past_alike id past = below-none no_word (place_word all xs view) (length all) id past ∙ sym (below-none no_word (place_word all ys view) (length all) id past)

  module _ (id : ℕ) (d : Decl) (at : slice_get all id ≡ Some d) (within : id < length all) where
    word_is : (cells : List Word) → signal_word p cells view id ≡ body_word all cells view id d.body (below no_word (place_word all cells view) id)
    word_is cells = below-own no_word (place_word all cells view) (length all) id within ∙ ap (λ o. option_map_or (λ (x : Decl). body_word all cells view id x.body (below no_word (place_word all cells view) id)) o no_word) at

    by_word : (b : Body) → d.body ≡ b → body_word all xs view id b (below no_word (place_word all xs view) id) ≡ body_word all ys view id b (below no_word (place_word all ys view) id) → HasAlike id
    by_word b is same = word_is xs ∙ subst (λ x. body_word all xs view id x (below no_word (place_word all xs view) id) ≡ body_word all ys view id x (below no_word (place_word all ys view) id)) (sym is) same ∙ sym (word_is ys)

    by_cell : (b : Body) → d.body ≡ b → is_replicated_body b ≡ true → HasAlike id
    by_cell body.Counter is kept = by_word body.Counter is refl
    by_cell (body.Set kind) is kept = by_word (body.Set kind) is refl
    by_cell (body.Register kind start) is kept = by_word (body.Register kind start) is refl
    by_cell b is kept = absurd (cc)

  cell_alike : (id : ℕ) → is_replicated_at all id ≡ true → HasAlike id
  cell_alike id kept = elim ((slice_get_cases all id).1) [
    | inl found ↦ by_cell id found.0 found.2 found.1 found.0.body refl (sym (ap (λ o. option_map_or (λ (x : Decl). is_replicated_body x.body) o false) found.2) ∙ kept)
    | inr past ↦ past_alike id past.0
  ]

  abbrev graph : List PlainNode
  graph = graph_of all

  -- the cells behind a declaration are replicated
  abbrev Rests : ℕ → Type 0
  Rests id = (cell : ℕ) → is_some (region_at graph cell) ≡ true → is_behind graph cell id ≡ true → is_replicated_at all cell ≡ true

  names_alike : (id : ℕ) → ((n : ℕ) → n < id → Rests n → HasAlike n) → (names : List ℕ) → All (λ n. n < id) names
      → ((cell : ℕ) → is_some (region_at graph cell) ≡ true → list_any (is_behind graph cell) names ≡ true → is_replicated_at all cell ≡ true) → All HasAlike names
  names_alike id earlier [] smaller rest = All-nil HasAlike
  names_alike id earlier (n ∷ names) smaller rest =
      All-cons HasAlike n names (earlier n (All-head (λ m. m < id) n names smaller) (λ cell some behind. rest cell some (ap (λ b. b || list_any (is_behind graph cell) names) behind)))
      (names_alike id earlier names (All-tail (λ m. m < id) n names smaller) (λ cell some behind. rest cell some (or_right (is_behind graph cell n) (list_any (is_behind graph cell) names) behind)))

  module _ (h : IsProgram p) where
    module _ (id : ℕ) (d : Decl) (at : slice_get all id ≡ Some d) (within : id < length all) where
      in_graph : id < length graph
      in_graph = let e : length graph ≡ length all = length-map all node_of in omega (arith, e, within)

      inputs_are : inputs_at graph id ≡ inputs d.body
      inputs_are = ap (λ o. option_map_or (λ (node : PlainNode). node.inputs) o []) (slice_get-map node_of all id ∙ ap (option_map node_of) at)

      region_is : region_at graph id ≡ cell_region d.body
      region_is = ap (λ o. option_map_or (λ (node : PlainNode). node.region) o None) (slice_get-map node_of all id ∙ ap (option_map node_of) at)

      behind_itself : is_behind graph id id ≡ true
      behind_itself = is_behind-own graph id id (program-ordered p h) in_graph ∙ ap (λ b. b || list_any (is_behind graph id) (inputs_at graph id)) (eq-eqb id id refl)

      behind_input : (cell : ℕ) → list_any (is_behind graph cell) (inputs d.body) ≡ true → is_behind graph cell id ≡ true
      behind_input cell e = is_behind-own graph cell id (program-ordered p h) in_graph ∙ or_right (cell == id) (list_any (is_behind graph cell) (inputs_at graph id)) (ap (list_any (is_behind graph cell)) inputs_are ∙ e)

      no_cell : (b : Body) → d.body ≡ b → is_some (cell_region b) ≡ true → is_replicated_body b ≡ false → Rests id → ⊥
      no_cell b is some kept rests =
          let found : is_replicated_at all id ≡ false = ap (λ o. option_map_or (λ (x : Decl). is_replicated_body x.body) o false) at ∙ ap is_replicated_body is ∙ kept in
          let here : is_replicated_at all id ≡ true = rests id (ap is_some (region_is ∙ ap cell_region is) ∙ some) behind_itself in
          let no : false ≡ true = sym found ∙ here in
          cc

      by_body : ((n : ℕ) → n < id → Rests n → HasAlike n) → Rests id → (b : Body) → d.body ≡ b → HasAlike id
      by_body earlier rests (body.Signal kind expr) is =
          let smaller : All (λ n. n < id) (expr_names expr) = subst (λ b. All (λ n. n < id) (inputs b)) is (inputs-before p h id d at) in
          let names = names_alike id earlier (expr_names expr) smaller (λ cell some behind. rests cell some (behind_input cell (ap (λ b. list_any (is_behind graph cell) (inputs b)) is ∙ behind))) in
          signal_word-meaning p xs view id d kind expr h at is
          ∙ alike_meaning all view (signal_word p xs view) (signal_word p ys view) expr names
          ∙ sym (signal_word-meaning p ys view id d kind expr h at is)
      by_body earlier rests (body.Var kind start region) is = absurd (no_cell (body.Var kind start region) is refl refl rests)
      by_body earlier rests (body.Fold kind start source expr region) is = absurd (no_cell (body.Fold kind start source expr region) is refl refl rests)
      by_body earlier rests b is = by_word id d at within b is refl

    alike_below : (bound id : ℕ) → id < bound → Rests id → HasAlike id
    alike_below zero id less rests = absurd (omega arith)
    alike_below (suc bound) id less rests = elim ((slice_get_cases all id).1) [
      | inl found ↦ by_body id found.0 found.2 found.1 (λ n smaller. alike_below bound n (omega arith)) rests found.0.body refl
      | inr past ↦ past_alike id past.0
    ]

  among : (P : ℕ → Type 0) (cells : List ℕ) (id : ℕ) → All P cells → is_among cells id ≡ true → P id
  among P [] id each h = absurd (cc)
  among P (cell ∷ cells) id each h = elim (cell == id) as (λ b. (cell == id) ≡ b → P id) [
    | true ↦ λ e. let same : cell ≡ id = grind (arith, nat_tests) in subst P same (All-head P cell cells each)
    | false ↦ λ e. among P cells id (All-tail P cell cells each) (sym (ap (λ b. b || is_among cells id) e) ∙ h)
  ] refl

  in_reach : (cell : ℕ) → is_some (region_at graph cell) ≡ true → nat_lt cell (length graph) ≡ true
  in_reach cell some = elim (nat_lt cell (length graph)) as (λ b. nat_lt cell (length graph) ≡ b → b ≡ true) [
    | true ↦ λ e. refl
    | false ↦ λ e.
        let past : length graph ≤ cell = grind (arith, nat_tests) in
        let none : is_some (region_at graph cell) ≡ false = ap (λ o. is_some (option_map_or (λ (node : PlainNode). node.region) o None)) (slice_get_past graph cell past) in
        let no : false ≡ true = sym none ∙ some in
        absurd (cc)
  ] refl

  -- what is behind a declaration is in its support
  rests_on : (id : ℕ) → All (λ cell. is_replicated_at all cell ≡ true) (support graph id) → Rests id
  rests_on id each cell some behind =
      let inside = in_reach cell some in
      among (λ x. is_replicated_at all x ≡ true) (support graph id) cell each
      (is_among-filter (λ x. is_some (region_at graph x) && is_behind graph x id) cell (length graph) ∙ (λ i. inside i && (some i && behind i)))

  signal_alike : IsProgram p → (id : ℕ) → All (λ cell. is_replicated_at all cell ≡ true) (support graph id) → HasAlike id
  signal_alike h id each = alike_below h (suc id) id (omega arith) (rests_on id each)

-- ---- two devices

module _ (p : Program) (w : World) (a b : ℕ) (causal : IsCausalWorld (device_count p.decls.items) w) (have : HaveSame w a b) where
  -- the log with what a device has made and not settled
  abbrev log_with : ℕ → List Update
  log_with d = w.log ++ run_updates d (settled_taken w d) (w.unsettled d)

  taken_in : (d : ℕ) → w.up d ≡ true → IsTakenIn (log_with d) d (taken w d)
  taken_in d up =
      subst (IsTakenIn (log_with d) d) (sym (run_taken-append d (w.base d).taken (w.settled d) (w.unsettled d)))
      (entries_taken w.log (settled_taken w d) d (w.unsettled d) (causal.taken_in d (causal.ups d up)) (causal.unsettled d))

  updates : SameUpdates (taken w a) (taken w b)
  updates = record { once = (taken_in a have.up).same.once; other_once = (taken_in b have.other_up).same.once; to = have.to; back = have.back }

  in_log : (u : Update) → IsIn u (taken w b) → IsIn u (log_with b)
  in_log u h = (IsIn-from_filter (λ x. covers (vector_of (taken w b)) x.dot) u (log_with b) ((taken_in b have.other_up).same.to u h)).0

  views : plain_view p (device_state p w a) ≡ plain_view p (device_state p w b)
  views =
      ap (view_of_updates (shape_of p)) (device-taken p w a)
      ∙ values_same (shape_of p) (log_with b) (taken w a) (taken w b) (taken_in b have.other_up).causal updates in_log
      ∙ sym (ap (view_of_updates (shape_of p)) (device-taken p w b))

  elements : (place : ℕ) → value_elements (value_at (shape_of p) (device_state p w a).taken place) ≡ value_elements (value_at (shape_of p) (device_state p w b).taken place)
  elements place =
      ap (λ us. value_elements (value_at (shape_of p) us place)) (device-taken p w a)
      ∙ sym (elements_are (shape_of p) (taken w a) place)
      ∙ ap (λ r. cell_elements (slice_get r.cells.items place)) (state_same (shape_of p) (log_with b) (taken w a) (taken w b) (taken_in b have.other_up).causal updates in_log)
      ∙ elements_are (shape_of p) (taken w b) place
      ∙ sym (ap (λ us. value_elements (value_at (shape_of p) us place)) (device-taken p w b))

  module _ (id : ℕ) (alike : (view : View) (xs ys : List Word) → HasAlike p view xs ys id) where
    words : signal_word p (device_state p w a).words (plain_view p (device_state p w a)) id ≡ signal_word p (device_state p w b).words (plain_view p (device_state p w b)) id
    words = ap (λ v. signal_word p (device_state p w a).words v id) views ∙ alike (plain_view p (device_state p w b)) (device_state p w a).words (device_state p w b).words

    both_show : shown p (device_state p w a) id ≡ shown p (device_state p w b) id
    both_show = λ i. if is_set_at p.decls.items id then Members (elements (replicated_place p.decls.items id) i) else Value (words i)

    both_say : (l other : Reading) → l ≡ Ok (Some (command.Get a id)) → other ≡ Ok (Some (command.Get b id)) → line_text p w l Fine ≡ line_text p w other Fine
    both_say l other get got =
        ap (λ x. line_text p w x Fine) get
        ∙ got_text p w a id have.up have.runs
        ∙ ap (λ x. answer_text p x ++ 10 ∷ []) both_show
        ∙ sym (ap (λ x. line_text p w x Fine) got ∙ got_text p w b id have.other_up have.other_runs)

  -- what both say of a replicated cell
  pub cells_agree : (id : ℕ) (l other : Reading) → l ≡ Ok (Some (command.Get a id)) → other ≡ Ok (Some (command.Get b id)) → is_replicated_at p.decls.items id ≡ true → line_text p w l Fine ≡ line_text p w other Fine
  cells_agree id l other get got kept = both_say id (λ view xs ys. cell_alike p view xs ys id kept) l other get got

  -- what both say of a name whose support holds replicated cells alone
  pub signals_agree : (id : ℕ) (l other : Reading) → IsProgram p → l ≡ Ok (Some (command.Get a id)) → other ≡ Ok (Some (command.Get b id)) → All (λ cell. is_replicated_at p.decls.items cell ≡ true) (support (graph_of p.decls.items) id) → line_text p w l Fine ≡ line_text p w other Fine
  signals_agree id l other is get got each = both_say id (λ view xs ys. signal_alike p view xs ys is id each) l other get got
