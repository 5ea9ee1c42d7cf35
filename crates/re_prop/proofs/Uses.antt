-- What is touched, reached and used.
use Rattle.std.proofs.Common.{◌≡◌, ◌<◌, ◌≤◌, ◌+◌, ◌-◌, ◌==◌, ℕ, Bool, true, false, ◌&&◌, ◌||◌, List, [], ◌∷◌, ◌++◌, map, length, take, refl, sym, ap, subst, ◌∙◌, arith}
use Rattle.std.specs.Prelude.{Option, not, nat_lt, filter, slice_get, slice_index_or}
use Rattle.std.specs.Option.{option_map_or}
use Rattle.std.specs.List.{All, list_any, range_with_len}
use Rattle.std.proofs.Math.Path.{fun_ext}
use Rattle.std.proofs.lemmas.Bool.{ltb-true, ltb-false}
use Rattle.std.proofs.lemmas.List.{length-map, get_or_past, take_all}
use Rattle.std.proofs.lemmas.List.Elements.{All-filter}
use Rattle.std.proofs.lemmas.List.FromFn.{length-map-range_with_len, get_or-map-range_with_len}
use Rattle.std.proofs.lemmas.Option.{slice_get_past}
use Rattle.re_terms.specs.declared.word.Word.{Word}
use Rattle.re_terms.specs.declared.entry.Entry.{Entry}
use Rattle.re_terms.specs.declared.entry.State.{State}
use Rattle.re_terms.specs.declared.replicated.RState.{RState}
use Rattle.re_terms.specs.declared.program.Decl.{Decl}
use Rattle.re_terms.specs.declared.program.Program.{Program}
use Rattle.re_terms.specs.Dependencies.{PlainNode, graph_of, node_of, inputs_at, reach}
use Rattle.re_terms.specs.Listed.{Listed, plain}
use Rattle.re_terms.specs.SignalWords.{no_word, signal_word}
use Rattle.re_terms.specs.Views.{view_of}
use Rattle.re_graph.proofs.Lists.{list_any-or, map_same}
use Rattle.re_graph.proofs.Ranges.{All-range, filter_range-takes, filter_range-skips}
use Rattle.re_prop.specs.Chosen.{chosen_words}
use Rattle.re_terms.specs.Propagation.{differing, effect, step_in}
use Rattle.re_terms.specs.WordOrder.{same_word}
use Rattle.re_prop.specs.Effects.{effects_at, words_before}
use Rattle.re_prop.specs.Reading.{is_used, is_valued_at, is_valued_body, words_read}
use Rattle.re_prop.specs.Touched.{touched, touches}
use Rattle.re_prop.proofs.Before.{word_before_at}
use Rattle.re_prop.proofs.Choosing.{differs_at, plain_push, put_of}

-- at the end each use is marked
pub is_used_all : (graph : List PlainNode) (reached : List ℕ) (id n : ℕ) → length reached ≤ n → (list_any (λ other. other == id) reached || list_any (λ other. list_any (λ input. input == id) (inputs_at graph other)) (take n reached)) ≡ is_used graph reached id
is_used_all graph reached id n all =
    ap (λ xs. list_any (λ other. other == id) reached || list_any (λ other. list_any (λ input. input == id) (inputs_at graph other)) xs) (take_all n reached all)
    ∙ sym (list_any-or (λ other. other == id) (λ other. list_any (λ input. input == id) (inputs_at graph other)) reached)

-- one id more that passes, and one that doesn't
pub filter_push : (test : ℕ → Bool) (n : ℕ) (old new : Listed ℕ) → test n ≡ true → old ≡ plain (filter test (range_with_len 0 n)) → new ≡ record { items = old.items ++ n ∷ []; spare = old.spare - 1 } → new ≡ plain (filter test (range_with_len 0 (n + 1)))
filter_push test n old new passes so_far pushed = plain_push old new (filter test (range_with_len 0 n)) (filter test (range_with_len 0 (n + 1))) n so_far pushed (sym (filter_range-takes test n passes))

pub filter_pass : (test : ℕ → Bool) (n : ℕ) → test n ≡ false → filter test (range_with_len 0 (n + 1)) ≡ filter test (range_with_len 0 n)
filter_pass = filter_range-skips

-- what is touched is declared
pub touched_below : (p : Program) (s : State) (e : Entry) (behind : RState) (graph : List PlainNode) (ids : List ℕ) → graph ≡ graph_of p.decls.items → ids ≡ touched p s e behind → All (λ id. id < length graph) ids
touched_below p s e behind graph ids same is =
    subst (λ xs. All (λ id. id < length graph) xs) (sym is)
    (All-filter (touches p s e behind) (λ id. id < length graph) (range_with_len 0 (length p.decls.items)) (All-range (λ id. id < length graph) 0 (length p.decls.items) (λ id from to. omega (arith, to, ap length same, length-map p.decls.items node_of))))

marks_by : (f : ℕ → Bool) (n id : ℕ) → ((id : ℕ) → n ≤ id → f id ≡ false) → (b : Bool) → nat_lt id n ≡ b → slice_index_or (map f (range_with_len 0 n)) id false ≡ f id
marks_by f n id none true is = get_or-map-range_with_len f 0 n id id false (ltb-true id n is) (omega arith)
marks_by f n id none false is =
    let behind : n ≤ id = ltb-false id n is in
    get_or_past (map f (range_with_len 0 n)) id false (omega (arith, behind, length-map-range_with_len f 0 n)) ∙ sym (none id behind)

-- the words of marked declarations
pub chosen_is : (n : ℕ) (f : ℕ → Bool) (g : ℕ → Word) (marks : List Bool) (words : List Word) → marks ≡ map f (range_with_len 0 n) → ((id : ℕ) → n ≤ id → f id ≡ false) → ((id : ℕ) → slice_index_or words id no_word ≡ g id) → chosen_words marks words ≡ map (λ id. record { id = id; word = g id }) (filter f (range_with_len 0 n))
chosen_is n f g marks words is none words_are =
    ap (λ ms. chosen_words ms words) is
    ∙ ap (λ m. map (put_of words) (filter (λ id. slice_index_or (map f (range_with_len 0 n)) id false) (range_with_len 0 m))) (length-map-range_with_len f 0 n)
    ∙ ap (λ h. map (put_of words) (filter h (range_with_len 0 n))) (fun_ext (λ id. marks_by f n id none (nat_lt id n) refl))
    ∙ ap (λ h. map (λ id. record { id = id; word = h id }) (filter f (range_with_len 0 n))) (fun_ext words_are)

-- nothing is declared behind the list
pub at_none : (test : Decl → Bool) (decls : List Decl) (id : ℕ) → length decls ≤ id → option_map_or test (slice_get decls id) false ≡ false
at_none test decls id behind = ap (λ found. option_map_or test found false) (slice_get_past decls id behind)

-- few marks of a program's declarations
pub marks_few : (f : ℕ → Bool) (decls read : List Decl) (found marks : List Bool) → length decls ≤ 512 → read ≡ decls → found ≡ map f (range_with_len 0 (length read)) → marks ≡ found → length marks ≤ 512
marks_few f decls read found marks few same is all = omega (arith, few, ap length same, ap length is, length-map-range_with_len f 0 (length read), ap length all)

-- the changed words of one sort are those that were chosen
pub differing_is : (test : Decl → Bool) (p : Program) (s : State) (e : Entry) (behind : RState) (decls : List Decl) (old new words chosen : List Word) (values : List (Option Word)) (found marks : List Bool) → decls ≡ p.decls.items → old ≡ words_before p s → new ≡ words → chosen ≡ words → effects_at words values ≡ effect p (step_in s e behind) → found ≡ map (differs_at (λ id. option_map_or test (slice_get decls id) false) old new) (range_with_len 0 (length decls)) → marks ≡ found → chosen_words marks chosen ≡ differing (λ id. option_map_or test (slice_get p.decls.items id) false) p (step_in s e behind)
differing_is test p s e behind decls old new words chosen values found marks same old_is new_is chosen_words_are effects_are found_is marks_are =
    chosen_is (length p.decls.items) (λ id. option_map_or test (slice_get p.decls.items id) false && not (same_word (signal_word p s.words.items (view_of s.rep) id) (effect p (step_in s e behind) id).word)) (λ id. (effect p (step_in s e behind) id).word) marks chosen
    (marks_are ∙ found_is ∙ ap (λ ds. map (differs_at (λ id. option_map_or test (slice_get ds id) false) old new) (range_with_len 0 (length ds))) same ∙ ap (λ f. map f (range_with_len 0 (length p.decls.items))) (fun_ext each))
    (λ id behind_all. ap (λ b. b && not (same_word (signal_word p s.words.items (view_of s.rep) id) (effect p (step_in s e behind) id).word)) (at_none test p.decls.items id behind_all))
    (λ id. ap (λ ws. slice_index_or ws id no_word) chosen_words_are ∙ ap (λ f. (f id).word) effects_are)
  where
    each : (id : ℕ) → differs_at (λ id. option_map_or test (slice_get p.decls.items id) false) old new id ≡ (option_map_or test (slice_get p.decls.items id) false && not (same_word (signal_word p s.words.items (view_of s.rep) id) (effect p (step_in s e behind) id).word))
    each id =
        ap (λ w. option_map_or test (slice_get p.decls.items id) false && not (same_word w (slice_index_or new id no_word))) (word_before_at p s old id old_is)
        ∙ ap (λ w. option_map_or test (slice_get p.decls.items id) false && not (same_word (signal_word p s.words.items (view_of s.rep) id) w)) (ap (λ ws. slice_index_or ws id no_word) new_is ∙ ap (λ f. (f id).word) effects_are)

-- the words that are read are those that were chosen
pub read_is : (p : Program) (s : State) (e : Entry) (behind : RState) (decls : List Decl) (graph : List PlainNode) (reached : List ℕ) (used_list : List Bool) (before : List Word) (found marks : List Bool) → decls ≡ p.decls.items → graph ≡ graph_of p.decls.items → reached ≡ reach graph (touched p s e behind) → ((id : ℕ) → id < length decls → slice_index_or used_list id false ≡ is_used graph reached id) → before ≡ words_before p s → found ≡ map (λ id. is_valued_at decls id && slice_index_or used_list id false) (range_with_len 0 (length decls)) → marks ≡ found → chosen_words marks before ≡ words_read p s e behind
read_is p s e behind decls graph reached used_list before found marks same graph_is reached_is used_is before_is found_is marks_are =
    chosen_is (length p.decls.items) (λ id. is_valued_at p.decls.items id && is_used (graph_of p.decls.items) (reach (graph_of p.decls.items) (touched p s e behind)) id) (signal_word p s.words.items (view_of s.rep)) marks before
    (marks_are ∙ found_is
    ∙ map_same (λ id. is_valued_at decls id && slice_index_or used_list id false) (λ id. is_valued_at decls id && is_used graph reached id) (range_with_len 0 (length decls)) (All-range (λ id. (is_valued_at decls id && slice_index_or used_list id false) ≡ (is_valued_at decls id && is_used graph reached id)) 0 (length decls) (λ id from to. ap (λ b. is_valued_at decls id && b) (used_is id (omega arith))))
    ∙ ap (λ ds. map (λ id. is_valued_at ds id && is_used graph reached id) (range_with_len 0 (length ds))) same
    ∙ ap (λ r. map (λ id. is_valued_at p.decls.items id && is_used graph r id) (range_with_len 0 (length p.decls.items))) reached_is
    ∙ ap (λ g. map (λ id. is_valued_at p.decls.items id && is_used g (reach g (touched p s e behind)) id) (range_with_len 0 (length p.decls.items))) graph_is)
    (λ id behind_all. ap (λ b. b && is_used (graph_of p.decls.items) (reach (graph_of p.decls.items) (touched p s e behind)) id) (at_none (λ d. is_valued_body d.body) p.decls.items id behind_all))
    (λ id. word_before_at p s before id before_is)
