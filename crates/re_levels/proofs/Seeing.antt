-- What is seen of an entry through environments that tell of a state is what it does there.
use Rattle.std.proofs.Common.{◌≡◌, ◌<◌, ◌==◌, ℕ, zero, suc, Bool, true, false, ◌&&◌, ◌||◌, List, [], ◌∷◌, length, refl, sym, ap, subst, ◌∙◌, arith}
use Rattle.std.specs.Prelude.{Some, if◌then◌else◌, nat_lt, slice_get, slice_index_or, unwrap_or}
use Rattle.std.specs.List.{All, list_any}
use Rattle.std.specs.Option.{option_map_or}
use Rattle.std.proofs.lemmas.Bool.{eq-eqb, eqb-true, lt-ltb, ltb-true, ltb-false}
use Rattle.std.proofs.lemmas.List.{length-map}
use Rattle.std.proofs.lemmas.List.Elements.{All-nil, All-cons, All-head, All-tail}
use Rattle.std.proofs.lemmas.Option.{slice_get_within}
use Rattle.re_terms.specs.declared.entry.Entry.{Entry}
use Rattle.re_terms.specs.declared.program.Body.{Body}
use Rattle.re_terms.specs.declared.program.Body.TheVariants as body
use Rattle.re_terms.specs.declared.program.Decl.{Decl}
use Rattle.re_terms.specs.declared.program.Program.{Program}
use Rattle.re_terms.specs.Cells.{is_cell_body}
use Rattle.re_terms.specs.Dependencies.{PlainNode, below, graph_of, inputs, inputs_at, is_reached, node_of, reach}
use Rattle.re_terms.specs.Meaning.{meaning}
use Rattle.re_terms.specs.Programs.{IsProgram, is_replicated}
use Rattle.re_terms.specs.Propagation.{Step, Effect, body_effect, effect, no_effect, place_effect, put_word, word_effect}
use Rattle.re_terms.specs.SignalWords.{names_environment, replicated_place, signal_word}
use Rattle.re_terms.proofs.DeclaredSorts.{declared}
use Rattle.re_terms.proofs.Ordered.{inputs-before}
use Rattle.re_eval.specs.Told.{Told}
use Rattle.re_graph.specs.Kept.{is_among}
use Rattle.re_graph.proofs.Own.{below-own, below-places, is_reached-none}
use Rattle.re_graph.proofs.Ranges.{is_among-filter}
use Rattle.re_prop.specs.Reading.{is_valued_body}
use Rattle.re_prop.proofs.Along.{effect-own}
use Rattle.re_prop.proofs.Before.{kept_word}
use Rattle.re_levels.specs.Seen.{Sight, body_seen, place_seen, reached_seen, seen, sight_of}
use Rattle.re_levels.specs.Telling.{TellsOf, is_needed}
use Rattle.re_levels.proofs.Bodies.{IsInputAlike, body-alike}
use Rattle.re_levels.proofs.Unreached.{inputs_of, unreached-as_before}

or_right : (a b : Bool) → b ≡ true → (a || b) ≡ true
or_right true b h = refl
or_right false b h = h

any_by : (test : ℕ → Bool) (x y : ℕ) (rest more b : Bool) → (y == x) ≡ b → (b || rest) ≡ true → test x ≡ true → (rest ≡ true → more ≡ true) → (test y || more) ≡ true
any_by test x y rest more true e h passes from = ap (λ b. b || more) (ap test (eqb-true y x e) ∙ passes)
any_by test x y rest more false e h passes from = or_right (test y) more (from h)

-- one that passes stands in the list
pub any_from : (test : ℕ → Bool) (x : ℕ) (xs : List ℕ) → is_among xs x ≡ true → test x ≡ true → list_any test xs ≡ true
any_from test x [] h passes = h
any_from test x (y ∷ xs) h passes = any_by test x y (is_among xs x) (list_any test xs) (y == x) refl h passes (λ e. any_from test x xs e passes)

module _ (p : Program) (touched : List ℕ) where
  abbrev pub graph : List PlainNode
  graph = graph_of p.decls.items

  abbrev pub R : ℕ → Bool
  R = is_reached graph touched

  reached_by : (id : ℕ) → R id ≡ true → (b : Bool) → nat_lt id (length graph) ≡ b → id < length p.decls.items
  reached_by id on true lt = let under = ltb-true id (length graph) lt in omega (arith, under, length-map p.decls.items node_of)
  reached_by id on false lt = absurd (let off = is_reached-none graph touched id (ltb-false id (length graph) lt) in let no : true ≡ false = sym on ∙ off in cc)

  -- what is reached is declared
  pub reached-declared : (id : ℕ) → R id ≡ true → id < length p.decls.items
  reached-declared id on = reached_by id on (nat_lt id (length graph)) refl

  among_reached : (id : ℕ) → R id ≡ true → is_among (reach graph touched) id ≡ true
  among_reached id on =
      is_among-filter R id (length graph)
      ∙ ap (λ b. nat_lt id (length graph) && b) on
      ∙ ap (λ b. b && true) (lt-ltb id (length graph) (omega (arith, reached-declared id on, length-map p.decls.items node_of)))

  -- what is reached is needed
  pub needed-reached : (id : ℕ) → R id ≡ true → is_needed p touched id ≡ true
  needed-reached id on = any_from (λ other. (other == id) || list_any (λ input. input == id) (inputs_at graph other)) id (reach graph touched) (among_reached id on)
      (ap (λ b. b || list_any (λ input. input == id) (inputs_at graph id)) (eq-eqb id id refl))

  -- and so are its inputs
  pub needed-input : (id n : ℕ) → R id ≡ true → is_among (inputs_at graph id) n ≡ true → is_needed p touched n ≡ true
  needed-input id n on among = any_from (λ other. (other == n) || list_any (λ input. input == n) (inputs_at graph other)) id (reach graph touched) (among_reached id on)
      (or_right (id == n) (list_any (λ input. input == n) (inputs_at graph id)) among)

-- each element of a list is among it
pub All-among : (xs : List ℕ) → All (λ x. is_among xs x ≡ true) xs
All-among [] = All-nil (λ x. false ≡ true)
All-among (x ∷ xs) = All-cons (λ y. is_among (x ∷ xs) y ≡ true) x xs (ap (λ b. b || is_among xs x) (eq-eqb x x refl)) (weaken xs (All-among xs))
  where
    weaken : (ys : List ℕ) → All (λ y. is_among xs y ≡ true) ys → All (λ y. is_among (x ∷ xs) y ≡ true) ys
    weaken ys h = λ k d within. or_right (x == slice_index_or ys k d) (is_among xs (slice_index_or ys k d)) (h k d within)

module _ (p : Program) (s : Step) (old new : Told) (touched : List ℕ) where
  -- what a step shows, as environments
  abbrev pub step_sight : Sight
  step_sight = record {
    old = record { word = signal_word p s.words s.old_view; size = old.size; has = old.has };
    new = record { word = λ id. s.new_view.word (replicated_place p.decls.items id); size = λ id. s.new_view.size (replicated_place p.decls.items id); has = λ id. s.new_view.has (replicated_place p.decls.items id) };
    sets = s.sets;
    fires = s.fires;
    touched = touched;
  }

  effect_case : (id : ℕ) (d : Decl) (f : ℕ → Effect) (c : Body) → slice_get p.decls.items id ≡ Some d → d.body ≡ c → body_effect p s id c f ≡ body_seen step_sight id c f
  effect_case id d f (body.Var k start region) at is =
      ap (λ w. word_effect (unwrap_or (put_word s.sets id) w)) (sym (kept_word p s.words s.old_view id d at (ap is_cell_body is)))
  effect_case id d f (body.Fold k start source expr region) at is =
      ap (λ w. word_effect (option_map_or (λ value. meaning expr (names_environment p.decls.items s.new_view (λ n. (f n).word) (Some value) (Some w))) (f source).occurrence w)) (sym (kept_word p s.words s.old_view id d at (ap is_cell_body is)))
  effect_case id d f (body.Signal k expr) at is = refl
  effect_case id d f body.Counter at is = refl
  effect_case id d f (body.Register k start) at is = refl
  effect_case id d f body.Device at is = refl
  effect_case id d f body.Symbol at is = refl
  effect_case id d f (body.Event k) at is = refl
  effect_case id d f (body.Changed of) at is = refl
  effect_case id d f (body.Map source k expr) at is = refl
  effect_case id d f (body.Filter source expr) at is = refl
  effect_case id d f (body.Either left right) at is = refl
  effect_case id d f (body.Set k) at is = refl

-- what is seen of a reached declaration, and of one that isn't
module _ (p : Program) (s : Sight) where
  pub seen-reached : (id : ℕ) (d : Decl) → slice_get p.decls.items id ≡ Some d → is_reached (graph_of p.decls.items) s.touched id ≡ true → seen p s id ≡ body_seen s id d.body (below no_effect (place_seen p s) id)
  seen-reached id d at on =
      below-own no_effect (place_seen p s) (length p.decls.items) id (slice_get_within p.decls.items id d at)
      ∙ ap (λ b. if b then reached_seen p s id (below no_effect (place_seen p s) id) else word_effect (s.old.word id)) on
      ∙ ap (λ o. option_map_or (λ d. body_seen s id d.body (below no_effect (place_seen p s) id)) o no_effect) at

  pub seen-unreached : (id : ℕ) → id < length p.decls.items → is_reached (graph_of p.decls.items) s.touched id ≡ false → seen p s id ≡ word_effect (s.old.word id)
  seen-unreached id within off =
      below-own no_effect (place_seen p s) (length p.decls.items) id within
      ∙ ap (λ b. if b then reached_seen p s id (below no_effect (place_seen p s) id) else word_effect (s.old.word id)) off

module _ (p : Program) (program : IsProgram p) (e : Entry) (touched : List ℕ) (old new : Told) (s : Step) (tells : TellsOf p e touched old new s) where
  abbrev pub sight : Sight
  sight = sight_of e touched old new

  abbrev F : ℕ → ℕ → Effect
  F = below no_effect (place_seen p sight)

  abbrev G : ℕ → ℕ → Effect
  G = below no_effect (place_effect p s)

  abbrev Same : ℕ → Type 0
  Same id = R p touched id ≡ true → seen p sight id ≡ effect p s id

  module _ (id : ℕ) (d : Decl) (at : slice_get p.decls.items id ≡ Some d) (on : R p touched id ≡ true) (earlier : (n : ℕ) → n < id → Same n) where
    inside : id < length p.decls.items
    inside = slice_get_within p.decls.items id d at

    abbrev Alike : ℕ → Type 0
    Alike = IsInputAlike p sight (step_sight p s old new touched) (F id) (G id)

    alike_by : (n : ℕ) → n < id → is_needed p touched n ≡ true → (b : Bool) → R p touched n ≡ b → Alike n
    alike_by n under needed true is =
        let left = below-places no_effect (place_seen p sight) id (length p.decls.items) n under (omega (arith, under, inside)) in
        let right = below-places no_effect (place_effect p s) (length p.decls.items) id n (omega (arith, under, inside)) under in
        let same : F id n ≡ G id n = left ∙ earlier n under is ∙ right in
        record {
          word = λ valued. ap (λ e. e.word) same;
          occurrence = ap (λ e. e.occurrence) same;
          before = λ valued. tells.words n valued needed;
          size = λ set. tells.sizes n set needed;
          has = λ set w. tells.members n w set needed;
        }
    alike_by n under needed false is =
        let left = below-places no_effect (place_seen p sight) id (length p.decls.items) n under (omega (arith, under, inside)) in
        let right = below-places no_effect (place_effect p s) (length p.decls.items) id n (omega (arith, under, inside)) under in
        let off = seen-unreached p sight n (omega (arith, under, inside)) is in
        let kept = unreached-as_before p program s touched tells.holds n is in
        record {
          word = λ valued. ap (λ e. e.word) (left ∙ off) ∙ tells.words n valued needed ∙ sym kept.word ∙ ap (λ e. e.word) right;
          occurrence = ap (λ e. e.occurrence) (left ∙ off) ∙ sym kept.still ∙ ap (λ e. e.occurrence) right;
          before = λ valued. tells.words n valued needed;
          size = λ set. tells.sizes n set needed;
          has = λ set w. tells.members n w set needed;
        }

    alike_at : (xs : List ℕ) → All (λ n. n < id) xs → All (λ n. is_among (inputs_at (graph p touched) id) n ≡ true) xs → All Alike xs
    alike_at [] a b = All-nil Alike
    alike_at (x ∷ xs) a b =
        All-cons Alike x xs (alike_by x (All-head (λ n. n < id) x xs a) (needed-input p touched id x on (All-head (λ n. is_among (inputs_at (graph p touched) id) n ≡ true) x xs b)) (R p touched x) refl)
        (alike_at xs (All-tail (λ n. n < id) x xs a) (All-tail (λ n. is_among (inputs_at (graph p touched) id) n ≡ true) x xs b))

    among : All (λ n. is_among (inputs_at (graph p touched) id) n ≡ true) (inputs d.body)
    among = subst (λ xs. All (λ n. is_among xs n ≡ true) (inputs d.body)) (sym (inputs_of p id d at)) (All-among (inputs d.body))

    same_here : seen p sight id ≡ effect p s id
    same_here =
        seen-reached p sight id d at on
        ∙ body-alike p program id d at sight (step_sight p s old new touched) (F id) (G id)
        (ap (λ puts. put_word puts id) (sym tells.sets)) (ap (λ puts. put_word puts id) (sym tells.fires))
        (λ valued. tells.words id (ap (λ o. option_map_or (λ d. is_valued_body d.body) o false) at ∙ valued) (needed-reached p touched id on))
        (λ replicated valued. tells.cells id (ap (λ o. option_map_or is_replicated o false) at ∙ replicated) (ap (λ o. option_map_or (λ d. is_valued_body d.body) o false) at ∙ valued) (needed-reached p touched id on))
        (alike_at (inputs d.body) (inputs-before p program id d at) among)
        ∙ sym (effect_case p s old new touched id d (G id) d.body at refl)
        ∙ sym (effect-own p s (length p.decls.items) id d inside at)

  same_below : (m id : ℕ) → id < m → Same id
  same_below zero id under on = absurd (omega arith)
  same_below (suc m) id under on = let d = declared p.decls.items id (reached-declared p touched id on) in same_here id d.0 d.1 on (λ n lower. same_below m n (omega arith))

  -- a reached declaration is seen to have what it has after the entry
  pub seen-effect : (id : ℕ) → R p touched id ≡ true → seen p sight id ≡ effect p s id
  seen-effect id on = same_below (suc id) id (omega arith) on
