-- What follows from the definition of propagation.
use Rattle.std.proofs.Common.{◌≡◌, ◌<◌, ◌≤◌, ◌+◌, ℕ, Bool, true, false, ◌&&◌, [], ◌∷◌, length, get_or, refl, sym, ap, subst, ◌∙◌, arith}
use Rattle.std.specs.Prelude.{None, Some, option_map, not, nat_lt, filter, unwrap_or, if◌then◌else◌, slice_get, slice_index_or}
use Rattle.std.specs.Option.{option_map_or}
use Rattle.std.specs.List.{All, AllPairs, range_with_len}
use Rattle.std.specs.List.Sorted.{IsStrictlySortedBy, IsStrictlyIncreasing}
use Rattle.std.specs.Ordering.{nat_cmp}
use Rattle.std.proofs.lemmas.Bool.{ltb-true, ltb-false}
use Rattle.std.proofs.lemmas.List.{length-map, get_or-map}
use Rattle.std.proofs.lemmas.List.Elements.{All-head, All-map, All-weaker, filter_passes}
use Rattle.std.proofs.lemmas.List.FromFn.{length-range_with_len, get_or-range_with_len}
use Rattle.std.proofs.lemmas.List.Kept.{IsStrictlySortedBy-filter}
use Rattle.std.proofs.lemmas.Map.Keys.{sorted_from_strictly_increasing, below_from_sorted}
use Rattle.std.proofs.lemmas.Option.{slice_get_within, slice_get-map}
use Rattle.re_terms.specs.declared.expr.Expr.{Expr}
use Rattle.re_terms.specs.declared.word.Kind.{Kind}
use Rattle.re_terms.specs.declared.word.Word.{Word}
use Rattle.re_terms.specs.declared.entry.Put.{Put}
use Rattle.re_terms.specs.declared.program.Body.{Body}
use Rattle.re_terms.specs.declared.program.Body.TheVariants as body
use Rattle.re_terms.specs.declared.program.Decl.{Decl}
use Rattle.re_terms.specs.declared.program.Program.{Program}
use Rattle.re_terms.specs.Cells.{is_cell, is_cell_body, cell_place}
use Rattle.re_terms.specs.Dependencies.{below, graph_of, inputs, node_of, inputs_at}
use Rattle.re_terms.specs.Meaning.{meaning}
use Rattle.re_terms.specs.Programs.{IsProgram}
use Rattle.re_terms.specs.Propagation.{Step, body_effect, change_of, changes, differing, effect, is_cell_at, no_effect, place_effect, put_word, words_after}
use Rattle.re_terms.specs.SignalWords.{names_environment, no_word, signal_word}
use Rattle.re_terms.specs.WordOrder.{same_word}
use Rattle.re_terms.proofs.Ordered.{program-ordered}
use Rattle.re_terms.proofs.WordOrders.{same_word-refl}
use Rattle.re_graph.proofs.Own.{below-none, below-places}
use Rattle.re_prop.specs.Folds.{IsFoldAt, is_fold_body}
use Rattle.re_prop.proofs.Along.{effect-own}
use Rattle.re_prop.proofs.Before.{kept_word}
use Rattle.re_prop.proofs.Cells.{never, words_after-at}
use Rattle.re_prop.proofs.Putting.{and_left, at_some}

-- an event that doesn't occur doesn't occur below any place either
quiet_by : (p : Program) (s : Step) (n source : ℕ) → n ≤ length p.decls.items → (effect p s source).occurrence ≡ None → (b : Bool) → nat_lt source n ≡ b → (below no_effect (place_effect p s) n source).occurrence ≡ None
quiet_by p s n source within quiet true is = let under : source < n = ltb-true source n is in ap (λ e. e.occurrence) (below-places no_effect (place_effect p s) n (length p.decls.items) source under (omega arith)) ∙ quiet
quiet_by p s n source within quiet false is = ap (λ e. e.occurrence) (below-none no_effect (place_effect p s) n source (ltb-false source n is))

-- a fold whose event doesn't occur has the word that was kept
pub quiet_fold : (p : Program) (s : Step) (id : ℕ) (d : Decl) (kind : Kind) (start : Word) (source : ℕ) (expr : Expr) (region : ℕ) → slice_get p.decls.items id ≡ Some d → d.body ≡ body.Fold kind start source expr region → (effect p s source).occurrence ≡ None → (effect p s id).word ≡ slice_index_or s.words (cell_place p.decls.items id) no_word
quiet_fold p s id d kind start source expr region at is quiet =
    let within : id < length p.decls.items = slice_get_within p.decls.items id d at in
    ap (λ e. e.word) (effect-own p s (length p.decls.items) id d within at ∙ ap (λ b. body_effect p s id b (below no_effect (place_effect p s) id)) is)
    ∙ ap (λ value. option_map_or (λ value. meaning expr (names_environment p.decls.items s.new_view (λ name. (below no_effect (place_effect p s) id name).word) (Some value) (Some (slice_index_or s.words (cell_place p.decls.items id) no_word)))) value (slice_index_or s.words (cell_place p.decls.items id) no_word)) (quiet_by p s id source (omega arith) quiet (nat_lt source id) refl)

pub kept_fold : (p : Program) (s : Step) (id : ℕ) (d : Decl) (kind : Kind) (start : Word) (source : ℕ) (expr : Expr) (region : ℕ) → slice_get p.decls.items id ≡ Some d → d.body ≡ body.Fold kind start source expr region → (effect p s source).occurrence ≡ None → slice_index_or (words_after p s) (cell_place p.decls.items id) no_word ≡ slice_index_or s.words (cell_place p.decls.items id) no_word
kept_fold p s id d kind start source expr region at is quiet =
    words_after-at p s id (slice_get_within p.decls.items id d at) (ap (λ found. option_map_or is_cell found false) at ∙ ap is_cell_body is)
    ∙ quiet_fold p s id d kind start source expr region at is quiet

same_fold : (p : Program) (s : Step) (id : ℕ) (d : Decl) (b : Body) → ((k : ℕ) → (effect p s k).occurrence ≡ None) → slice_get p.decls.items id ≡ Some d → d.body ≡ b → is_fold_body b ≡ true → same_word (signal_word p s.words s.old_view id) (effect p s id).word ≡ true
same_fold p s id d (body.Fold kind start source expr region) quiet at is fold =
    ap (λ w. same_word w (effect p s id).word) (kept_word p s.words s.old_view id d at (ap is_cell_body is))
    ∙ ap (same_word (slice_index_or s.words (cell_place p.decls.items id) no_word)) (quiet_fold p s id d kind start source expr region at is (quiet source))
    ∙ same_word-refl (slice_index_or s.words (cell_place p.decls.items id) no_word)
same_fold p s id d body.Device quiet at is fold = never fold
same_fold p s id d body.Symbol quiet at is fold = never fold
same_fold p s id d (body.Var kind start region) quiet at is fold = never fold
same_fold p s id d (body.Event kind) quiet at is fold = never fold
same_fold p s id d (body.Signal kind expr) quiet at is fold = never fold
same_fold p s id d (body.Changed of) quiet at is fold = never fold
same_fold p s id d (body.Map source kind expr) quiet at is fold = never fold
same_fold p s id d (body.Filter source expr) quiet at is fold = never fold
same_fold p s id d (body.Either left right) quiet at is fold = never fold
same_fold p s id d body.Counter quiet at is fold = never fold
same_fold p s id d (body.Set kind) quiet at is fold = never fold
same_fold p s id d (body.Register kind start) quiet at is fold = never fold

and_right : (a b : Bool) → (a && b) ≡ true → b ≡ true
and_right true b h = h
and_right false b h = never h

-- with no event no fold changes
pub still_folds : (p : Program) (s : Step) → ((id : ℕ) → (effect p s id).occurrence ≡ None) → All (λ put. IsFoldAt p.decls.items put.id → ⊥) (changes p s)
still_folds p s quiet =
    All-map (λ put. IsFoldAt p.decls.items put.id → ⊥) (λ id. record { id = id; word = (effect p s id).word }) (filter changed (range_with_len 0 (length p.decls.items)))
    (All-weaker (λ id. changed id ≡ true) (λ id. IsFoldAt p.decls.items id → ⊥) none (filter changed (range_with_len 0 (length p.decls.items))) (filter_passes changed (range_with_len 0 (length p.decls.items))))
  where
    changed : ℕ → Bool
    changed id = is_cell_at p.decls.items id && not (same_word (signal_word p s.words s.old_view id) (effect p s id).word)

    none : (id : ℕ) → changed id ≡ true → IsFoldAt p.decls.items id → ⊥
    none id differs fold =
        let found = at_some p.decls.items id (λ d. is_fold_body d.body) (slice_get p.decls.items id) refl fold in
        let same = same_fold p s id found.0 found.0.body quiet found.1.0 refl found.1.1 in
        never (sym (ap not same) ∙ and_right (is_cell_at p.decls.items id) (not (same_word (signal_word p s.words s.old_view id) (effect p s id).word)) differs)

change_of-same : (w : Word) → change_of w w ≡ None
change_of-same w = ap (λ b. if b then None else Some w) (same_word-refl w)

-- a var that is set to its own word has it
own_word : (p : Program) (s : Step) (var : ℕ) (v : Decl) (kind : Kind) (start : Word) (region : ℕ) → slice_get p.decls.items var ≡ Some v → v.body ≡ body.Var kind start region → put_word s.sets var ≡ Some (slice_index_or s.words (cell_place p.decls.items var) no_word) → (effect p s var).word ≡ signal_word p s.words s.old_view var
own_word p s var v kind start region at is put =
    ap (λ e. e.word) (effect-own p s (length p.decls.items) var v (slice_get_within p.decls.items var v at) at ∙ ap (λ b. body_effect p s var b (below no_effect (place_effect p s) var)) is)
    ∙ ap (λ w. unwrap_or w (slice_index_or s.words (cell_place p.decls.items var) no_word)) put
    ∙ sym (kept_word p s.words s.old_view var v at (ap is_cell_body is))

-- no `changed` of it occurs
pub unchanged : (p : Program) (s : Step) (var id : ℕ) (v d : Decl) (kind : Kind) (start : Word) (region : ℕ) → IsProgram p → slice_get p.decls.items var ≡ Some v → v.body ≡ body.Var kind start region → put_word s.sets var ≡ Some (slice_index_or s.words (cell_place p.decls.items var) no_word) → slice_get p.decls.items id ≡ Some d → d.body ≡ body.Changed var → (effect p s id).occurrence ≡ None
unchanged p s var id v d kind start region program at is put here changed =
    let within : id < length p.decls.items = slice_get_within p.decls.items id d here in
    let named : inputs_at (graph_of p.decls.items) id ≡ var ∷ [] = ap (λ found. option_map_or (λ node. node.inputs) found []) (slice_get-map node_of p.decls.items id ∙ ap (option_map node_of) here) ∙ ap inputs changed in
    let before : var < id = All-head (λ input. input < id) var [] (subst (λ xs. All (λ input. input < id) xs) named (program-ordered p program id)) in
    ap (λ e. e.occurrence) (effect-own p s (length p.decls.items) id d within here ∙ ap (λ b. body_effect p s id b (below no_effect (place_effect p s) id)) changed)
    ∙ ap (λ e. change_of (signal_word p s.words s.old_view var) e.word) (below-places no_effect (place_effect p s) id (length p.decls.items) var before (omega arith))
    ∙ ap (change_of (signal_word p s.words s.old_view var)) (own_word p s var v kind start region at is put)
    ∙ change_of-same (signal_word p s.words s.old_view var)

range_rises : (n : ℕ) → IsStrictlySortedBy nat_cmp (range_with_len 0 n)
range_rises n = sorted_from_strictly_increasing (range_with_len 0 n) rises
  where
    rises : IsStrictlyIncreasing (range_with_len 0 n)
    rises k inside =
        let room : k + 1 < n = omega (arith, inside, length-range_with_len 0 n) in
        omega (arith, get_or-range_with_len 0 n k 0 (omega arith), get_or-range_with_len 0 n (k + 1) 0 room)

-- what differs ascends by id
pub differing_rises : (is_wanted : ℕ → Bool) (p : Program) (s : Step) → AllPairs (λ a b. a.id < b.id) (differing is_wanted p s)
differing_rises is_wanted p s i j d before inside =
    let room : j < length (filter test (range_with_len 0 (length p.decls.items))) = omega (arith, inside, length-map (filter test (range_with_len 0 (length p.decls.items))) put) in
    let first : (get_or (differing is_wanted p s) i d).id ≡ get_or (filter test (range_with_len 0 (length p.decls.items))) i 0 = ap (λ x. x.id) (get_or-map put (filter test (range_with_len 0 (length p.decls.items))) i 0 d (omega arith)) in
    let second : (get_or (differing is_wanted p s) j d).id ≡ get_or (filter test (range_with_len 0 (length p.decls.items))) j 0 = ap (λ x. x.id) (get_or-map put (filter test (range_with_len 0 (length p.decls.items))) j 0 d room) in
    omega (arith, first, second, below_from_sorted (filter test (range_with_len 0 (length p.decls.items))) i j 0 (IsStrictlySortedBy-filter nat_cmp test (range_with_len 0 (length p.decls.items)) (range_rises (length p.decls.items))) before room)
  where
    test : ℕ → Bool
    test id = is_wanted id && not (same_word (signal_word p s.words s.old_view id) (effect p s id).word)

    put : ℕ → Put
    put id = record { id = id; word = (effect p s id).word }

-- and is of the wanted sort
pub differing_wanted : (is_wanted : ℕ → Bool) (p : Program) (s : Step) → All (λ put. is_wanted put.id ≡ true) (differing is_wanted p s)
differing_wanted is_wanted p s =
    All-map (λ put. is_wanted put.id ≡ true) (λ id. record { id = id; word = (effect p s id).word }) (filter test (range_with_len 0 (length p.decls.items)))
    (All-weaker (λ id. test id ≡ true) (λ id. is_wanted id ≡ true) (λ id passes. and_left _ _ passes) (filter test (range_with_len 0 (length p.decls.items))) (filter_passes test (range_with_len 0 (length p.decls.items))))
  where
    test : ℕ → Bool
    test id = is_wanted id && not (same_word (signal_word p s.words s.old_view id) (effect p s id).word)
