-- The words after an entry, what it changes, and changes put into words.
use Rattle.std.proofs.Common.{◌≡◌, ◌<◌, ◌≤◌, ◌+◌, ◌-◌, inl, inr, ℕ, zero, suc, Bool, true, false, ◌&&◌, cond, List, [], ◌∷◌, length, map, take, get_or, refl, sym, ap, subst, ◌∙◌, arith}
use Rattle.std.specs.Prelude.{Option, None, Some, not, filter, count_by, slice_get, slice_index_or, slice_set}
use Rattle.std.specs.List.{list_all, range_with_len}
use Rattle.std.specs.List.Sorted.{IsStrictlySortedBy, IsStrictlyIncreasing}
use Rattle.std.specs.Ordering.{nat_cmp}
use Rattle.std.specs.Option.{option_map_or}
use Rattle.std.proofs.lemmas.Bool.{and_parts, cases_eq}
use Rattle.std.proofs.lemmas.List.{length-map, length-set, get_or-map, get_or-set_same, get_or-set_other}
use Rattle.std.proofs.lemmas.Option.{get_or_from_slice_get, slice_get_within}
use Rattle.std.proofs.lemmas.List.FromFn.{length-range_with_len, get_or-range_with_len}
use Rattle.std.proofs.lemmas.List.Kept.{IsStrictlySortedBy-filter}
use Rattle.std.proofs.lemmas.List.Sums.{sum_by_more_le, sum_by-cons}
use Rattle.std.proofs.lemmas.Map.Keys.{sorted_from_strictly_increasing, below_from_sorted}
use Rattle.re_terms.specs.declared.entry.Put.{Put}
use Rattle.re_terms.specs.declared.program.Body.{Body}
use Rattle.re_terms.specs.declared.program.Body.TheVariants as body
use Rattle.re_terms.specs.declared.program.Decl.{Decl}
use Rattle.re_terms.specs.declared.program.Program.{Program}
use Rattle.re_terms.specs.declared.word.Word.{Word}
use Rattle.re_terms.specs.Admission.{symbol_count, AreAscending}
use Rattle.re_terms.specs.Cells.{is_cell, is_cell_body, cell_place}
use Rattle.re_terms.specs.Changes.{with_changes}
use Rattle.re_terms.specs.Programs.{IsProgram}
use Rattle.re_terms.specs.Propagation.{Step, effect, is_cell_at, cell_ids, words_after, changes}
use Rattle.re_terms.specs.SignalWords.{no_word, signal_word}
use Rattle.re_terms.specs.WordOrder.{same_word}
use Rattle.re_terms.specs.WordKinds.{AreChangesOf, AreWordsOf, IsStepOf, is_change_of, is_kept_word}
use Rattle.re_terms.proofs.EntriesKept.{effect_kept}
use Rattle.re_terms.proofs.RangedPlaces.{Agrees, length-passing, passing-at}
use Rattle.re_terms.proofs.WordMeanings.{never}

range_rises : (n : ℕ) → IsStrictlySortedBy nat_cmp (range_with_len 0 n)
range_rises n = sorted_from_strictly_increasing (range_with_len 0 n) rising
  where
    rising : IsStrictlyIncreasing (range_with_len 0 n)
    rising k inside =
        let room : k + 1 < n = omega (arith, inside, length-range_with_len 0 n) in
        omega (arith, get_or-range_with_len 0 n k 0 (omega arith), get_or-range_with_len 0 n (k + 1) 0 room)

pub cells_agree : (decls : List Decl) → Agrees (is_cell_at decls) is_cell 0 decls
cells_agree decls i d at = let e : 0 + i ≡ i = omega arith in ap (is_cell_at decls) e ∙ ap (λ o. option_map_or is_cell o false) at

module _ (p : Program) (program : IsProgram p) (s : Step) (step : IsStepOf p s) where
  -- the words after an entry are of their kinds
  pub after_kept : AreWordsOf p (words_after p s)
  after_kept = record {
    count = length-map (cell_ids p.decls.items) (λ id. (effect p s id).word) ∙ length-passing (is_cell_at p.decls.items) is_cell p.decls.items 0 (cells_agree p.decls.items);
    kinds = λ id d at cell.
        let own : slice_index_or (words_after p s) (cell_place p.decls.items id) no_word ≡ (effect p s id).word =
        passing-at (is_cell_at p.decls.items) is_cell (λ id. (effect p s id).word) no_word p.decls.items 0 id d (cells_agree p.decls.items) at cell ∙ (let e : 0 + id ≡ id = omega arith in ap (λ i. (effect p s i).word) e) in
        subst (λ w. is_kept_word (symbol_count p.decls.items) d.body w ≡ true) (sym own) (effect_kept p program s step id d at cell);
  }

  change_by : (id : ℕ) (o : Option Decl) → slice_get p.decls.items id ≡ o → option_map_or is_cell o false ≡ true → option_map_or (λ d. is_kept_word (symbol_count p.decls.items) d.body (effect p s id).word) o false ≡ true
  change_by id None at cell = cell
  change_by id (Some d) at cell = effect_kept p program s step id d at cell

  -- what differs of a var or fold is a change of it
  change_kept : (id : ℕ) → is_cell_at p.decls.items id ≡ true → is_change_of p.decls.items (record { id = id; word = (effect p s id).word }) ≡ true
  change_kept id cell = change_by id (slice_get p.decls.items id) refl cell

  abbrev test : ℕ → Bool
  test id = is_cell_at p.decls.items id && not (same_word (signal_word p s.words s.old_view id) (effect p s id).word)

  abbrev put : ℕ → Put
  put id = record { id = id; word = (effect p s id).word }

  one_kept : (id : ℕ) (ids : List ℕ) (b : Bool) → test id ≡ b → list_all (is_change_of p.decls.items) (map put (filter test ids)) ≡ true → list_all (is_change_of p.decls.items) (map put (cond b (id ∷ filter test ids) (filter test ids))) ≡ true
  one_kept id ids false is rest = rest
  one_kept id ids true is rest = ap (λ b. b && list_all (is_change_of p.decls.items) (map put (filter test ids))) (change_kept id (and_parts (is_cell_at p.decls.items id) _ is).0) ∙ rest

  all_kept : (ids : List ℕ) → list_all (is_change_of p.decls.items) (map put (filter test ids)) ≡ true
  all_kept [] = refl
  all_kept (id ∷ ids) = one_kept id ids (test id) refl (all_kept ids)

  abbrev places : List ℕ
  places = filter test (range_with_len 0 (length p.decls.items))

  ascending : AreAscending (changes p s)
  ascending i j d before inside =
      let room : j < length places = omega (arith, inside, length-map places put) in
      let first : (get_or (changes p s) i d).id ≡ get_or places i 0 = ap (λ x. x.id) (get_or-map put places i 0 d (omega arith)) in
      let second : (get_or (changes p s) j d).id ≡ get_or places j 0 = ap (λ x. x.id) (get_or-map put places j 0 d room) in
      omega (arith, first, second, below_from_sorted places i j 0 (IsStrictlySortedBy-filter nat_cmp test (range_with_len 0 (length p.decls.items)) (range_rises (length p.decls.items))) before room)

  pub changes_kept : AreChangesOf p (changes p s)
  changes_kept = record { order = ascending; kinds = all_kept (range_with_len 0 (length p.decls.items)) }

-- ---- changes put into words

-- a later place stands behind that of a var or fold
rises : (decls : List Decl) (a b : ℕ) (d : Decl) → a < b → slice_get decls a ≡ Some d → is_cell d ≡ true → b ≤ length decls → cell_place decls a < cell_place decls b
rises [] a b d order at cell within = absurd (omega arith)
rises (x ∷ decls) a zero d order at cell within = absurd (omega arith)
rises (x ∷ decls) zero (suc b) d order at cell within =
    let own : Some x ≡ Some d = at in
    let same : x ≡ d = cc in
    let n : ℕ = 1 in
    let one : cond (is_cell x) 1 0 ≡ n = ap (λ c. cond c 1 0) (ap is_cell same ∙ cell) in
    omega (arith, one, sum_by-cons (λ y. cond (is_cell y) 1 0) x (take b decls))
rises (x ∷ decls) (suc a) (suc b) d order at cell within =
    let rest = rises decls a b d (omega arith) at cell (omega arith) in
    omega (arith, rest, sum_by-cons (λ y. cond (is_cell y) 1 0) x (take a decls), sum_by-cons (λ y. cond (is_cell y) 1 0) x (take b decls))

pub place_within : (decls : List Decl) (id : ℕ) (d : Decl) → slice_get decls id ≡ Some d → is_cell d ≡ true → cell_place decls id < count_by is_cell decls
place_within decls id d found cell =
    let at = get_or_from_slice_get decls id d d found in
    let n : ℕ = 1 in
    let one : cond (is_cell (get_or decls id d)) 1 0 ≡ n = ap (λ x. cond (is_cell x) 1 0) at ∙ ap (λ b. cond b 1 0) cell in
    omega (arith, one, sum_by_more_le (λ x. cond (is_cell x) 1 0) decls id d (slice_get_within decls id d found))

-- no two vars or folds have one place
pub same_place : (decls : List Decl) (a b : ℕ) (d e : Decl) → slice_get decls a ≡ Some d → is_cell d ≡ true → slice_get decls b ≡ Some e → is_cell e ≡ true → cell_place decls a ≡ cell_place decls b → a ≡ b
same_place decls a b d e at cell other_at other_cell same =
    elim (cases_eq a b) [
      | inl is ↦ is
      | inr other ↦
          let a_within = slice_get_within decls a d at in
          let b_within = slice_get_within decls b e other_at in
          elim (cases_eq (a - b) 0) [
            | inl low ↦ let order : a < b = omega arith in absurd (let r = rises decls a b d order at cell (omega arith) in omega arith)
            | inr high ↦ let order : b < a = omega arith in absurd (let r = rises decls b a e order other_at other_cell (omega arith) in omega arith)
          ]
    ]

kept_is_cell : (symbols : ℕ) (b : Body) (w : Word) → is_kept_word symbols b w ≡ true → is_cell_body b ≡ true
kept_is_cell symbols (body.Var k start region) w h = refl
kept_is_cell symbols (body.Fold k start source expr region) w h = refl
kept_is_cell symbols b w h = never h

-- the declaration that a change is of
record Changed (decls : List Decl) (x : Put) : Type 0 where
  of : Decl
  at : slice_get decls x.id ≡ Some of
  kept : is_kept_word (symbol_count decls) of.body x.word ≡ true

changed_by : (decls : List Decl) (x : Put) (o : Option Decl) → slice_get decls x.id ≡ o → option_map_or (λ d. is_kept_word (symbol_count decls) d.body x.word) o false ≡ true → Changed decls x
changed_by decls x None at h = never h
changed_by decls x (Some d) at h = record { of = d; at = at; kept = h }

module _ (p : Program) where
  one_put : (words : List Word) (x : Put) → AreWordsOf p words → is_change_of p.decls.items x ≡ true → AreWordsOf p (slice_set words (cell_place p.decls.items x.id) x.word)
  one_put words x are is = record {
    count = length-set words (cell_place p.decls.items x.id) x.word ∙ are.count;
    kinds = λ id d at cell.
        let c = changed_by p.decls.items x (slice_get p.decls.items x.id) refl is in
        let c_cell = kept_is_cell (symbol_count p.decls.items) c.of.body x.word c.kept in
        elim (cases_eq (cell_place p.decls.items id) (cell_place p.decls.items x.id)) [
          | inl same ↦
              let one : id ≡ x.id = same_place p.decls.items id x.id d c.of at cell c.at c_cell same in
              let declaration : Some c.of ≡ Some d = sym c.at ∙ ap (slice_get p.decls.items) (sym one) ∙ at in
              let alike : c.of ≡ d = cc in
              let within = place_within p.decls.items x.id c.of c.at c_cell in
              let count = are.count in
              subst (λ i. is_kept_word (symbol_count p.decls.items) d.body (slice_index_or (slice_set words (cell_place p.decls.items x.id) x.word) i no_word) ≡ true) (sym same)
              (subst (λ w. is_kept_word (symbol_count p.decls.items) d.body w ≡ true) (sym (get_or-set_same words (cell_place p.decls.items x.id) x.word no_word (omega (arith, within, count))))
              (subst (λ (y : Decl). is_kept_word (symbol_count p.decls.items) y.body x.word ≡ true) alike c.kept))
          | inr other ↦
              subst (λ w. is_kept_word (symbol_count p.decls.items) d.body w ≡ true) (sym (get_or-set_other words (cell_place p.decls.items x.id) (cell_place p.decls.items id) x.word no_word other)) (are.kinds id d at cell)
        ];
  }

  -- words of their kinds with changes put into them are of their kinds
  pub puts_kept : (words : List Word) (puts : List Put) → AreWordsOf p words → list_all (is_change_of p.decls.items) puts ≡ true → AreWordsOf p (with_changes p.decls.items words puts)
  puts_kept words [] are is = are
  puts_kept words (x ∷ puts) are is =
      let parts = and_parts (is_change_of p.decls.items x) (list_all (is_change_of p.decls.items) puts) is in
      puts_kept (slice_set words (cell_place p.decls.items x.id) x.word) puts (one_put words x are parts.0) parts.1
