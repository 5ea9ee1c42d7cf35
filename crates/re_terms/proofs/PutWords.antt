-- The words before an entry with its changes put in them are the words after it.
use Rattle.std.proofs.Common.{◌≡◌, ◌<◌, ◌+◌, ◌⊎◌, inl, inr, ℕ, zero, suc, Bool, true, false, ◌&&◌, cond, List, [], ◌∷◌, length, map, take, refl, sym, ap, subst, ◌∙◌, arith}
use Rattle.std.specs.Prelude.{Option, None, Some, not, filter, count_by, slice_get, slice_index_or, slice_set}
use Rattle.std.specs.List.{range_with_len}
use Rattle.std.specs.Option.{option_map_or}
use Rattle.std.proofs.lemmas.Bool.{and_parts, cases_eq}
use Rattle.std.proofs.lemmas.List.{ext_get_or, length-map, length-set, get_or-set_same, get_or-set_other}
use Rattle.std.proofs.lemmas.List.FromFn.{length-range_with_len, get_or-range_with_len}
use Rattle.std.proofs.lemmas.List.Sums.{sum_by-cons}
use Rattle.std.proofs.lemmas.Option.{slice_get-get_or, slice_get_within}
use Rattle.re_terms.specs.declared.entry.Put.{Put}
use Rattle.re_terms.specs.declared.program.Body.{Body}
use Rattle.re_terms.specs.declared.program.Body.TheVariants as body
use Rattle.re_terms.specs.declared.program.Decl.{Decl}
use Rattle.re_terms.specs.declared.program.Program.{Program}
use Rattle.re_terms.specs.declared.word.Word.{Word}
use Rattle.re_terms.specs.Cells.{is_cell, is_cell_body, cell_place}
use Rattle.re_terms.specs.Changes.{with_changes}
use Rattle.re_terms.specs.Dependencies.{below}
use Rattle.re_terms.specs.Propagation.{Step, changes, effect, is_cell_at, cell_ids, words_after}
use Rattle.re_terms.specs.SignalWords.{no_word, body_word, place_word, signal_word}
use Rattle.re_terms.specs.Views.{View}
use Rattle.re_terms.specs.WordOrder.{same_word}
use Rattle.re_terms.proofs.Below.{below-own}
use Rattle.re_terms.proofs.ChangesKept.{cells_agree, place_within, same_place}
use Rattle.re_terms.proofs.RangedPlaces.{length-passing, passing-at}
use Rattle.re_terms.proofs.WordMeanings.{never}
use Rattle.re_terms.proofs.WordOrders.{same_word-is}

-- ---- places

-- the var or fold at a place
record Placed (decls : List Decl) (k : ℕ) : Type 0 where
  id : ℕ
  declaration : Decl
  at : slice_get decls id ≡ Some declaration
  cell : is_cell declaration ≡ true
  place : cell_place decls id ≡ k

placed_by : (x : Decl) (decls : List Decl) (k : ℕ) (b : Bool) → is_cell x ≡ b → k < cond b 1 0 + count_by is_cell decls → ((j : ℕ) → j < count_by is_cell decls → Placed decls j) → Placed (x ∷ decls) k
placed_by x decls zero true is within rest = record { id = 0; declaration = x; at = refl; cell = is; place = refl }
placed_by x decls (suc k) true is within rest =
    let r = rest k (omega arith) in
    let n : ℕ = 1 in
    let one : cond (is_cell x) 1 0 ≡ n = ap (λ c. cond c 1 0) is in
    let place = r.place in
    record { id = suc r.id; declaration = r.declaration; at = r.at; cell = r.cell; place = omega (arith, one, place, sum_by-cons (λ y. cond (is_cell y) 1 0) x (take r.id decls)) }
placed_by x decls k false is within rest =
    let r = rest k (omega arith) in
    let n : ℕ = 0 in
    let none : cond (is_cell x) 1 0 ≡ n = ap (λ c. cond c 1 0) is in
    let place = r.place in
    record { id = suc r.id; declaration = r.declaration; at = r.at; cell = r.cell; place = omega (arith, none, place, sum_by-cons (λ y. cond (is_cell y) 1 0) x (take r.id decls)) }

placed : (decls : List Decl) (k : ℕ) → k < count_by is_cell decls → Placed decls k
placed [] k within = absurd (omega arith)
placed (x ∷ decls) k within = placed_by x decls k (is_cell x) refl (subst (λ n. k < n) (sum_by-cons (λ y. cond (is_cell y) 1 0) x decls) within) (λ j. placed decls j)

-- ---- puts

found_by : (decls : List Decl) (x : ℕ) (o : Option Decl) → slice_get decls x ≡ o → option_map_or is_cell o false ≡ true → (e : Decl) × (slice_get decls x ≡ Some e) × (is_cell e ≡ true)
found_by decls x None at is = never is
found_by decls x (Some e) at is = (e, at, is)

module _ (decls : List Decl) (new : ℕ → Word) (id : ℕ) (d : Decl) (at : slice_get decls id ≡ Some d) (cell : is_cell d ≡ true) (test : ℕ → Bool) (kept : (x : ℕ) → test x ≡ true → is_cell_at decls x ≡ true) where
  abbrev here : List Word → Word
  here words = slice_index_or words (cell_place decls id) no_word

  abbrev put : ℕ → Put
  put x = record { id = x; word = new x }

  abbrev puts : List ℕ → List Put
  puts ids = map put (filter test ids)

  abbrev HasPlaces : List Word → Type 0
  HasPlaces words = length words ≡ count_by is_cell decls

  own_put : (words : List Word) (x : ℕ) → HasPlaces words → x ≡ id → here (slice_set words (cell_place decls x) (new x)) ≡ new id
  own_put words x long same =
      ap (λ y. here (slice_set words (cell_place decls y) (new y))) same
      ∙ get_or-set_same words (cell_place decls id) (new id) no_word (omega (arith, long, place_within decls id d at cell))

  other_put : (words : List Word) (x : ℕ) → test x ≡ true → (x ≡ id → ⊥) → here (slice_set words (cell_place decls x) (new x)) ≡ here words
  other_put words x is other =
      let e = found_by decls x (slice_get decls x) refl (kept x is) in
      get_or-set_other words (cell_place decls x) (cell_place decls id) (new x) no_word (λ same. other (same_place decls x id e.0 d e.1 e.2 at cell (sym same)))

  set_long : (words : List Word) (x : ℕ) → HasPlaces words → HasPlaces (slice_set words (cell_place decls x) (new x))
  set_long words x long = length-set words (cell_place decls x) (new x) ∙ long

  -- what has the new word keeps it
  still_by : (x : ℕ) (ids : List ℕ) (words : List Word) → HasPlaces words → here words ≡ new id → ((ws : List Word) → HasPlaces ws → here ws ≡ new id → here (with_changes decls ws (puts ids)) ≡ new id) → (b : Bool) → test x ≡ b
      → here (with_changes decls words (map put (cond b (x ∷ filter test ids) (filter test ids)))) ≡ new id
  still_by x ids words long is rest false h = rest words long is
  still_by x ids words long is rest true h = rest (slice_set words (cell_place decls x) (new x)) (set_long words x long) (elim (cases_eq x id) [ inl same ↦ own_put words x long same | inr other ↦ other_put words x h other ∙ is ])

  still : (ids : List ℕ) (words : List Word) → HasPlaces words → here words ≡ new id → here (with_changes decls words (puts ids)) ≡ new id
  still [] words long is = is
  still (x ∷ ids) words long is = still_by x ids words long is (still ids) (test x) refl

  -- what is put has the new word
  given_by : (x : ℕ) (ids : List ℕ) (words : List Word) → HasPlaces words → test id ≡ true → (x ≡ id) ⊎ ((ws : List Word) → HasPlaces ws → here (with_changes decls ws (puts ids)) ≡ new id) → (b : Bool) → test x ≡ b
      → here (with_changes decls words (map put (cond b (x ∷ filter test ids) (filter test ids)))) ≡ new id
  given_by x ids words long is (inl same) false h = never (sym h ∙ ap test same ∙ is)
  given_by x ids words long is (inl same) true h = still ids (slice_set words (cell_place decls x) (new x)) (set_long words x long) (own_put words x long same)
  given_by x ids words long is (inr rest) false h = rest words long
  given_by x ids words long is (inr rest) true h = rest (slice_set words (cell_place decls x) (new x)) (set_long words x long)

  given : (ids : List ℕ) (i : ℕ) (words : List Word) → slice_get ids i ≡ Some id → HasPlaces words → test id ≡ true → here (with_changes decls words (puts ids)) ≡ new id
  given [] i words there long is = absurd (let e : None ≡ Some id = there in cc)
  given (x ∷ ids) zero words there long is = given_by x ids words long is (inl (let e : Some x ≡ Some id = there in cc)) (test x) refl
  given (x ∷ ids) (suc i) words there long is = given_by x ids words long is (inr (λ ws l. given ids i ws there l is)) (test x) refl

length-with_changes : (decls : List Decl) (words : List Word) (puts : List Put) → length (with_changes decls words puts) ≡ length words
length-with_changes decls words [] = refl
length-with_changes decls words (x ∷ puts) = length-with_changes decls (slice_set words (cell_place decls x.id) x.word) puts ∙ length-set words (cell_place decls x.id) x.word

-- ---- the words of vars and folds

cell_word : (decls : List Decl) (cells : List Word) (view : View) (id : ℕ) (b : Body) (words : ℕ → Word) → is_cell_body b ≡ true → body_word decls cells view id b words ≡ slice_index_or cells (cell_place decls id) no_word
cell_word decls cells view id (body.Var kind start region) words h = refl
cell_word decls cells view id (body.Fold kind start source expr region) words h = refl
cell_word decls cells view id b words h = never h

-- a var or a fold has the word that is kept for it
kept_word : (p : Program) (cells : List Word) (view : View) (id : ℕ) (d : Decl) → slice_get p.decls.items id ≡ Some d → is_cell d ≡ true → signal_word p cells view id ≡ slice_index_or cells (cell_place p.decls.items id) no_word
kept_word p cells view id d at cell =
    let earlier : ℕ → Word = below no_word (place_word p.decls.items cells view) id in
    below-own no_word (place_word p.decls.items cells view) (length p.decls.items) id (slice_get_within p.decls.items id d at)
    ∙ ap (λ o. option_map_or (λ d. body_word p.decls.items cells view id d.body earlier) o no_word) at
    ∙ cell_word p.decls.items cells view id d.body earlier cell

not_different : (a b : Bool) → a ≡ true → (a && not b) ≡ false → b ≡ true
not_different true true wanted h = refl
not_different true false wanted h = sym h
not_different false b wanted h = never wanted

module _ (p : Program) (s : Step) (long : length s.words ≡ count_by is_cell p.decls.items) where
  abbrev test : ℕ → Bool
  test id = is_cell_at p.decls.items id && not (same_word (signal_word p s.words s.old_view id) (effect p s id).word)

  abbrev new : ℕ → Word
  new id = (effect p s id).word

  test_cell : (x : ℕ) → test x ≡ true → is_cell_at p.decls.items x ≡ true
  test_cell x h = (and_parts (is_cell_at p.decls.items x) _ h).0

  put_by : (id : ℕ) (d : Decl) → slice_get p.decls.items id ≡ Some d → is_cell d ≡ true → (b : Bool) → test id ≡ b → slice_index_or (with_changes p.decls.items s.words (changes p s)) (cell_place p.decls.items id) no_word ≡ new id
  put_by id d at cell true is =
      let within = slice_get_within p.decls.items id d at in
      let none : 0 + id ≡ id = omega arith in
      let there : slice_get (range_with_len 0 (length p.decls.items)) id ≡ Some id =
      slice_get-get_or (range_with_len 0 (length p.decls.items)) id 0 (omega (arith, within, length-range_with_len 0 (length p.decls.items))) ∙ ap Some (get_or-range_with_len 0 (length p.decls.items) id 0 within ∙ none) in
      given p.decls.items new id d at cell test test_cell (range_with_len 0 (length p.decls.items)) id s.words there long is
  put_by id d at cell false is =
      let wanted : is_cell_at p.decls.items id ≡ true = ap (λ o. option_map_or is_cell o false) at ∙ cell in
      let same = same_word-is (signal_word p s.words s.old_view id) (new id) (not_different _ _ wanted is) in
      still p.decls.items new id d at cell test test_cell (range_with_len 0 (length p.decls.items)) s.words long (sym (kept_word p s.words s.old_view id d at cell) ∙ same)

  after_long : length (words_after p s) ≡ count_by is_cell p.decls.items
  after_long = length-map (cell_ids p.decls.items) new ∙ length-passing (is_cell_at p.decls.items) is_cell p.decls.items 0 (cells_agree p.decls.items)

  after_at : (id : ℕ) (d : Decl) → slice_get p.decls.items id ≡ Some d → is_cell d ≡ true → slice_index_or (words_after p s) (cell_place p.decls.items id) no_word ≡ new id
  after_at id d at cell = passing-at (is_cell_at p.decls.items) is_cell new no_word p.decls.items 0 id d (cells_agree p.decls.items) at cell ∙ (let e : 0 + id ≡ id = omega arith in ap new e)

  pub words_put : with_changes p.decls.items s.words (changes p s) ≡ words_after p s
  words_put = ext_get_or no_word (with_changes p.decls.items s.words (changes p s)) (words_after p s) (length-with_changes p.decls.items s.words (changes p s) ∙ long ∙ sym after_long)
      (λ k within.
      let r = placed p.decls.items k (omega (arith, within, length-with_changes p.decls.items s.words (changes p s), long)) in
      subst (λ i. slice_index_or (with_changes p.decls.items s.words (changes p s)) i no_word ≡ slice_index_or (words_after p s) i no_word) r.place
      (put_by r.id r.declaration r.at r.cell (test r.id) refl ∙ sym (after_at r.id r.declaration r.at r.cell)))
