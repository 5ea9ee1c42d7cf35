-- The effects of declarations, one after the other.
use Rattle.std.proofs.Common.{◌≡◌, ◌<◌, ◌≤◌, ◌+◌, ◌⊎◌, inl, inr, ℕ, Bool, true, false, List, [], ◌∷◌, ◌++◌, length, get_or, refl, sym, ap, ◌∙◌, arith}
use Rattle.std.specs.Prelude.{Option, None, Some, nat_lt, slice_get, slice_index_or}
use Rattle.std.specs.Option.{option_map_or}
use Rattle.std.proofs.Math.Path.{fun_ext}
use Rattle.std.proofs.lemmas.Bool.{cases_eq, ltb-true, ltb-false}
use Rattle.std.proofs.lemmas.List.{length_push, get_or_push, get_or_append_left, get_or_past}
use Rattle.re_terms.specs.declared.word.Word.{Word}
use Rattle.re_terms.specs.declared.program.Decl.{Decl}
use Rattle.re_terms.specs.declared.program.Program.{Program}
use Rattle.re_terms.specs.Dependencies.{below}
use Rattle.re_terms.specs.Propagation.{Step, body_effect, no_effect, place_effect}
use Rattle.re_terms.specs.SignalWords.{no_word}
use Rattle.re_graph.proofs.Own.{below-none, below-own, below-places}
use Rattle.re_prop.specs.Effects.{effects_at}

-- what a declaration is made of, over those before it
pub effect-own : (p : Program) (s : Step) (n id : ℕ) (d : Decl) → id < n → slice_get p.decls.items id ≡ Some d → below no_effect (place_effect p s) n id ≡ body_effect p s id d.body (below no_effect (place_effect p s) id)
effect-own p s n id d under at =
    below-own no_effect (place_effect p s) n id under
    ∙ ap (λ found. option_map_or (λ d. body_effect p s id d.body (below no_effect (place_effect p s) id)) found no_effect) at

-- another place of a list than the one behind its end
push_other : {A : Type 0} (xs : List A) (x d : A) (n id : ℕ) → length xs ≡ n → (id ≡ n → ⊥) → (b : Bool) → nat_lt id n ≡ b → get_or (xs ++ x ∷ []) id d ≡ get_or xs id d
push_other xs x d n id count other true is = let under : id < n = ltb-true id n is in get_or_append_left xs (x ∷ []) d id (omega arith)
push_other xs x d n id count other false is =
    let behind : n ≤ id = ltb-false id n is in
    get_or_past (xs ++ x ∷ []) id d (omega (arith, behind, length_push xs x)) ∙ sym (get_or_past xs id d (omega arith))

below_other : (p : Program) (s : Step) (n id : ℕ) → (id ≡ n → ⊥) → (b : Bool) → nat_lt id n ≡ b → below no_effect (place_effect p s) n id ≡ below no_effect (place_effect p s) (n + 1) id
below_other p s n id other true is = let under : id < n = ltb-true id n is in below-places no_effect (place_effect p s) n (n + 1) id under (omega arith)
below_other p s n id other false is =
    let behind : n ≤ id = ltb-false id n is in
    below-none no_effect (place_effect p s) n id behind ∙ sym (below-none no_effect (place_effect p s) (n + 1) id (omega arith))

module _ (p : Program) (s : Step) (n : ℕ) (d : Decl) (words : List Word) (values : List (Option Word)) (w : Word) (v : Option Word) (word_count : length words ≡ n) (value_count : length values ≡ n) (at : slice_get p.decls.items n ≡ Some d) (so_far : effects_at words values ≡ below no_effect (place_effect p s) n) (word_is : w ≡ (body_effect p s n d.body (effects_at words values)).word) (value_is : v ≡ (body_effect p s n d.body (effects_at words values)).occurrence) where
  here : effects_at (words ++ w ∷ []) (values ++ v ∷ []) n ≡ below no_effect (place_effect p s) (n + 1) n
  here =
      let first : slice_index_or (words ++ w ∷ []) n no_word ≡ (body_effect p s n d.body (effects_at words values)).word = get_or_push words w no_word n word_count ∙ word_is in
      let second : slice_index_or (values ++ v ∷ []) n None ≡ (body_effect p s n d.body (effects_at words values)).occurrence = get_or_push values v None n value_count ∙ value_is in
      let both : effects_at (words ++ w ∷ []) (values ++ v ∷ []) n ≡ body_effect p s n d.body (effects_at words values) = λ i. record { word = first i; occurrence = second i } in
      both ∙ ap (body_effect p s n d.body) so_far ∙ sym (effect-own p s (n + 1) n d (omega arith) at)

  push_by : (id : ℕ) → (id ≡ n) ⊎ (id ≡ n → ⊥) → effects_at (words ++ w ∷ []) (values ++ v ∷ []) id ≡ below no_effect (place_effect p s) (n + 1) id
  push_by id (inl e) = ap (effects_at (words ++ w ∷ []) (values ++ v ∷ [])) e ∙ here ∙ ap (below no_effect (place_effect p s) (n + 1)) (sym e)
  push_by id (inr other) =
      let first : slice_index_or (words ++ w ∷ []) id no_word ≡ slice_index_or words id no_word = push_other words w no_word n id word_count other (nat_lt id n) refl in
      let second : slice_index_or (values ++ v ∷ []) id None ≡ slice_index_or values id None = push_other values v None n id value_count other (nat_lt id n) refl in
      let both : effects_at (words ++ w ∷ []) (values ++ v ∷ []) id ≡ effects_at words values id = λ i. record { word = first i; occurrence = second i } in
      both ∙ ap (λ f. f id) so_far ∙ below_other p s n id other (nat_lt id n) refl

  -- one declaration more
  pub effects_push : effects_at (words ++ w ∷ []) (values ++ v ∷ []) ≡ below no_effect (place_effect p s) (n + 1)
  effects_push = fun_ext (λ id. push_by id (cases_eq id n))
