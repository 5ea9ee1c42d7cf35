-- The vars and folds among declarations, by id and by their places in a state.
use Rattle.std.proofs.Common.{◌≡◌, ◌<◌, ◌≤◌, ◌+◌, ◌⊎◌, inl, inr, ℕ, zero, suc, Bool, true, false, List, [], ◌∷◌, map, length, take, get_or, refl, sym, ap, ◌∙◌, arith}
use Rattle.std.specs.Prelude.{filter, count_by, slice_index_or}
use Rattle.std.specs.Option.{option_map_or}
use Rattle.std.specs.List.{range_with_len}
use Rattle.std.proofs.lemmas.Bool.{cases_eq}
use Rattle.std.proofs.lemmas.List.{length-map, length_push, map-append, get_or_push, get_or_append_left, take_all}
use Rattle.std.proofs.lemmas.List.Sums.{count_by_more_yes, count_by_more_no}
use Rattle.std.proofs.lemmas.Option.{slice_get-get_or}
use Rattle.re_terms.specs.declared.program.Body.TheVariants as body
use Rattle.re_terms.specs.declared.program.Decl.{Decl}
use Rattle.re_terms.specs.declared.program.Program.{Program}
use Rattle.re_terms.specs.Cells.{is_cell, cell_place}
use Rattle.re_terms.specs.Propagation.{Step, effect, is_cell_at, cell_ids, words_after}
use Rattle.re_terms.specs.SignalWords.{no_word}
use Rattle.re_graph.proofs.Ranges.{filter_range-takes, filter_range-skips}

some_decl : Decl
some_decl = record { name = record { items = []; spare = 0 }; body = body.Device }

at_cell : (decls : List Decl) (id : ℕ) → id < length decls → is_cell_at decls id ≡ is_cell (get_or decls id some_decl)
at_cell decls id within = ap (λ found. option_map_or is_cell found false) (slice_get-get_or decls id some_decl within)

count_by_bool : (decls : List Decl) (n : ℕ) (b : Bool) → n < length decls → is_cell (get_or decls n some_decl) ≡ b → length (filter (is_cell_at decls) (range_with_len 0 n)) ≡ count_by is_cell (take n decls) → length (filter (is_cell_at decls) (range_with_len 0 (n + 1))) ≡ count_by is_cell (take (n + 1) decls)
count_by_bool decls n true within is so_far =
    ap length (filter_range-takes (is_cell_at decls) n (at_cell decls n within ∙ is))
    ∙ length_push (filter (is_cell_at decls) (range_with_len 0 n)) n
    ∙ ap (λ k. k + 1) so_far
    ∙ sym (count_by_more_yes is_cell decls n some_decl within is)
count_by_bool decls n false within is so_far =
    ap length (filter_range-skips (is_cell_at decls) n (at_cell decls n within ∙ is))
    ∙ so_far
    ∙ sym (count_by_more_no is_cell decls n some_decl within is)

-- as many ids of vars and folds stand below a place as there are vars and folds before it
pub cell_ids-count : (decls : List Decl) (n : ℕ) → n ≤ length decls → length (filter (is_cell_at decls) (range_with_len 0 n)) ≡ count_by is_cell (take n decls)
cell_ids-count decls zero within = refl
cell_ids-count decls (suc n) within =
    let s : suc n ≡ n + 1 = omega arith in
    ap (λ k. length (filter (is_cell_at decls) (range_with_len 0 k))) s
    ∙ count_by_bool decls n (is_cell (get_or decls n some_decl)) (omega arith) refl (cell_ids-count decls n (omega arith))
    ∙ ap (λ k. count_by is_cell (take k decls)) (sym s)

-- there are as many words of vars and folds after an entry as there are vars and folds
pub length-words_after : (p : Program) (s : Step) → length (words_after p s) ≡ count_by is_cell p.decls.items
length-words_after p s =
    length-map (cell_ids p.decls.items) (λ id. (effect p s id).word)
    ∙ cell_ids-count p.decls.items (length p.decls.items) (omega arith)
    ∙ ap (count_by is_cell) (take_all (length p.decls.items) p.decls.items (omega arith))

pub never : {A : Type 0} → false ≡ true → A
never h = absurd (no h)
  where
    no : false ≡ true → ⊥
    no e = cc

module _ {A : Type 0} (p : ℕ → Bool) (f : ℕ → A) (d : A) where
  length_by : (k n : ℕ) → k < suc n → p k ≡ true → (k < n → length (filter p (range_with_len 0 k)) < length (filter p (range_with_len 0 n))) → (b : Bool) → p n ≡ b → (k ≡ n) ⊎ (k ≡ n → ⊥) → length (filter p (range_with_len 0 k)) < length (filter p (range_with_len 0 (n + 1)))
  length_by k n under passes earlier true is (inl e) = omega (arith, ap length (filter_range-takes p n is), length_push (filter p (range_with_len 0 n)) n, ap (λ m. length (filter p (range_with_len 0 m))) e)
  length_by k n under passes earlier false is (inl e) = never (sym is ∙ ap p (sym e) ∙ passes)
  length_by k n under passes earlier true is (inr other) = omega (arith, ap length (filter_range-takes p n is), length_push (filter p (range_with_len 0 n)) n, earlier (omega arith))
  length_by k n under passes earlier false is (inr other) = omega (arith, ap length (filter_range-skips p n is), earlier (omega arith))

  below_length : (k n : ℕ) → k < n → p k ≡ true → length (filter p (range_with_len 0 k)) < length (filter p (range_with_len 0 n))
  below_length k zero under passes = absurd (omega arith)
  below_length k (suc n) under passes =
      let s : suc n ≡ n + 1 = omega arith in
      omega (arith, length_by k n under passes (λ before. below_length k n before passes) (p n) refl (cases_eq k n), ap (λ m. length (filter p (range_with_len 0 m))) s)

  at_by : (k n : ℕ) → k < suc n → p k ≡ true → (k < n → get_or (map f (filter p (range_with_len 0 n))) (length (filter p (range_with_len 0 k))) d ≡ f k) → (b : Bool) → p n ≡ b → (k ≡ n) ⊎ (k ≡ n → ⊥) → get_or (map f (filter p (range_with_len 0 (n + 1)))) (length (filter p (range_with_len 0 k))) d ≡ f k
  at_by k n under passes earlier true is (inl e) =
      ap (λ xs. get_or (map f xs) (length (filter p (range_with_len 0 k))) d) (filter_range-takes p n is)
      ∙ ap (λ xs. get_or xs (length (filter p (range_with_len 0 k))) d) (map-append f (filter p (range_with_len 0 n)) (n ∷ []))
      ∙ get_or_push (map f (filter p (range_with_len 0 n))) (f n) d (length (filter p (range_with_len 0 k))) (length-map (filter p (range_with_len 0 n)) f ∙ ap (λ m. length (filter p (range_with_len 0 m))) (sym e))
      ∙ ap f (sym e)
  at_by k n under passes earlier false is (inl e) = never (sym is ∙ ap p (sym e) ∙ passes)
  at_by k n under passes earlier true is (inr other) =
      ap (λ xs. get_or (map f xs) (length (filter p (range_with_len 0 k))) d) (filter_range-takes p n is)
      ∙ ap (λ xs. get_or xs (length (filter p (range_with_len 0 k))) d) (map-append f (filter p (range_with_len 0 n)) (n ∷ []))
      ∙ get_or_append_left (map f (filter p (range_with_len 0 n))) (f n ∷ []) d (length (filter p (range_with_len 0 k))) (omega (arith, below_length k n (omega arith) passes, length-map (filter p (range_with_len 0 n)) f))
      ∙ earlier (omega arith)
  at_by k n under passes earlier false is (inr other) =
      ap (λ xs. get_or (map f xs) (length (filter p (range_with_len 0 k))) d) (filter_range-skips p n is)
      ∙ earlier (omega arith)

  -- what stands at the place of a number that passes
  pub filter_range-at : (k n : ℕ) → k < n → p k ≡ true → get_or (map f (filter p (range_with_len 0 n))) (length (filter p (range_with_len 0 k))) d ≡ f k
  filter_range-at k zero under passes = absurd (omega arith)
  filter_range-at k (suc n) under passes =
      let s : suc n ≡ n + 1 = omega arith in
      ap (λ m. get_or (map f (filter p (range_with_len 0 m))) (length (filter p (range_with_len 0 k))) d) s ∙ at_by k n under passes (λ before. filter_range-at k n before passes) (p n) refl (cases_eq k n)

-- the word of a var or fold after an entry stands at its place
pub words_after-at : (p : Program) (s : Step) (id : ℕ) → id < length p.decls.items → is_cell_at p.decls.items id ≡ true → slice_index_or (words_after p s) (cell_place p.decls.items id) no_word ≡ (effect p s id).word
words_after-at p s id within cell =
    ap (λ k. slice_index_or (words_after p s) k no_word) (sym (cell_ids-count p.decls.items id (omega arith)))
    ∙ filter_range-at (is_cell_at p.decls.items) (λ id. (effect p s id).word) no_word id (length p.decls.items) within cell
