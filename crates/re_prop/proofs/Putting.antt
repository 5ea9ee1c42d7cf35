-- What is put gives the words after an entry.
use Rattle.std.proofs.Common.{◌≡◌, ◌<◌, ◌≤◌, ◌+◌, ℕ, zero, suc, Bool, true, false, ◌&&◌, List, [], ◌∷◌, ◌++◌, map, length, drop, refl, sym, ap, ◌∙◌, arith}
use Rattle.std.specs.Prelude.{if◌then◌else◌, Option, None, Some, not, filter, slice_get, slice_index_or, slice_set}
use Rattle.std.specs.Option.{option_map_or}
use Rattle.std.specs.List.{range_with_len}
use Rattle.std.proofs.Math.Seq.{drop-cons, set-append_seam}
use Rattle.std.proofs.lemmas.List.{append_assoc, append-nil, drop_all, length-map, length-set, length_push, map-append}
use Rattle.std.proofs.lemmas.List.FromFn.{get_or-map-range_with_len, length-range_with_len, length-map-range_with_len}
use Rattle.re_terms.specs.declared.word.Word.{Word}
use Rattle.re_terms.specs.declared.entry.Put.{Put}
use Rattle.re_terms.specs.declared.program.Decl.{Decl}
use Rattle.re_terms.specs.declared.program.Program.{Program}
use Rattle.re_terms.specs.Propagation.{Step, effect, is_signal_at, signal_changes, words_after}
use Rattle.re_terms.specs.SignalWords.{no_word, signal_word}
use Rattle.re_terms.specs.WordOrder.{same_word}
use Rattle.re_terms.proofs.WordOrders.{same_word-is}
use Rattle.re_graph.proofs.Ranges.{filter_range-takes, filter_range-skips}
use Rattle.re_prop.specs.Caching.{cached_word, put_all, put_at, signal_words}
use Rattle.re_prop.proofs.Cells.{never}
use Rattle.re_prop.proofs.Outcomes.{effect_word}

-- there are as many words after it
pub length-put_at : (place : ℕ → ℕ) (words : List Word) (puts : List Put) → length (put_at place words puts) ≡ length words
length-put_at place words [] = refl
length-put_at place words (x ∷ puts) = length-put_at place (slice_set words (place x.id) x.word) puts ∙ length-set words (place x.id) x.word

put_at-append : (place : ℕ → ℕ) (words : List Word) (xs ys : List Put) → put_at place words (xs ++ ys) ≡ put_at place (put_at place words xs) ys
put_at-append place words [] ys = refl
put_at-append place words (x ∷ xs) ys = put_at-append place (slice_set words (place x.id) x.word) xs ys

-- a list with one place for each number that is kept, into which the words of those that changed are put
module _ (place : ℕ → ℕ) (words : List Word) (keep changed : ℕ → Bool) (put new : ℕ → Word) (n_all : ℕ)
    (kept : (id : ℕ) → id < n_all → changed id ≡ true → keep id ≡ true)
    (at : (id : ℕ) → id < n_all → keep id ≡ true → place id ≡ length (filter keep (range_with_len 0 id)))
    (moved : (id : ℕ) → id < n_all → changed id ≡ true → put id ≡ new id)
    (still : (id : ℕ) → id < n_all → keep id ≡ true → changed id ≡ false → slice_index_or words (place id) no_word ≡ new id) where
  abbrev puts_below : ℕ → List Put
  puts_below n = map (λ id. record { id = id; word = put id }) (filter changed (range_with_len 0 n))

  abbrev kept_below : ℕ → List ℕ
  kept_below n = filter keep (range_with_len 0 n)

  abbrev mixed : ℕ → List Word
  mixed n = map new (kept_below n) ++ drop (length (kept_below n)) words

  -- the list after the number, where it is kept
  grown : (n : ℕ) → keep n ≡ true → mixed (n + 1) ≡ map new (kept_below n) ++ new n ∷ drop (suc (length (kept_below n))) words
  grown n is =
      let more : kept_below (n + 1) ≡ kept_below n ++ n ∷ [] = filter_range-takes keep n is in
      let count : length (kept_below n ++ n ∷ []) ≡ suc (length (kept_below n)) = omega (arith, length_push (kept_below n) n) in
      ap (λ ks. map new ks ++ drop (length ks) words) more
      ∙ ap (λ k. map new (kept_below n ++ n ∷ []) ++ drop k words) count
      ∙ ap (λ xs. xs ++ drop (suc (length (kept_below n))) words) (map-append new (kept_below n) (n ∷ []))
      ∙ append_assoc (map new (kept_below n)) (new n ∷ []) (drop (suc (length (kept_below n))) words)

  opened : (n : ℕ) → length (kept_below n) < length words → mixed n ≡ map new (kept_below n) ++ slice_index_or words (length (kept_below n)) no_word ∷ drop (suc (length (kept_below n))) words
  opened n within = ap (λ xs. map new (kept_below n) ++ xs) (drop-cons words (length (kept_below n)) no_word within)

  put_step : (n : ℕ) (k c : Bool) → n < n_all → length (kept_below (n + 1)) ≤ length words → keep n ≡ k → changed n ≡ c → put_at place words (puts_below n) ≡ mixed n → put_at place words (puts_below (n + 1)) ≡ mixed (n + 1)
  put_step n false true under room is differs so_far = never (sym is ∙ kept n under differs)
  put_step n false false under room is differs so_far =
      ap (λ ids. put_at place words (map (λ id. record { id = id; word = put id }) ids)) (filter_range-skips changed n differs)
      ∙ so_far
      ∙ sym (ap (λ ks. map new ks ++ drop (length ks) words) (filter_range-skips keep n is))
  put_step n true false under room is differs so_far =
      let within : length (kept_below n) < length words = omega (arith, room, ap length (filter_range-takes keep n is), length_push (kept_below n) n) in
      ap (λ ids. put_at place words (map (λ id. record { id = id; word = put id }) ids)) (filter_range-skips changed n differs)
      ∙ so_far
      ∙ opened n within
      ∙ ap (λ w. map new (kept_below n) ++ w ∷ drop (suc (length (kept_below n))) words) (ap (λ k. slice_index_or words k no_word) (sym (at n under is)) ∙ still n under is differs)
      ∙ sym (grown n is)
  put_step n true true under room is differs so_far =
      let within : length (kept_below n) < length words = omega (arith, room, ap length (filter_range-takes keep n is), length_push (kept_below n) n) in
      let here : place n ≡ length (map new (kept_below n)) = at n under is ∙ sym (length-map (kept_below n) new) in
      ap (λ ids. put_at place words (map (λ id. record { id = id; word = put id }) ids)) (filter_range-takes changed n differs)
      ∙ ap (put_at place words) (map-append (λ id. record { id = id; word = put id }) (filter changed (range_with_len 0 n)) (n ∷ []))
      ∙ put_at-append place words (puts_below n) ((record { id = n; word = put n }) ∷ [])
      ∙ ap (λ ws. slice_set ws (place n) (put n)) (so_far ∙ opened n within)
      ∙ ap (λ k. slice_set (map new (kept_below n) ++ slice_index_or words (length (kept_below n)) no_word ∷ drop (suc (length (kept_below n))) words) k (put n)) here
      ∙ set-append_seam (map new (kept_below n)) (slice_index_or words (length (kept_below n)) no_word) (drop (suc (length (kept_below n))) words) (put n)
      ∙ ap (λ w. map new (kept_below n) ++ w ∷ drop (suc (length (kept_below n))) words) (moved n under differs)
      ∙ sym (grown n is)

  length_more : (n : ℕ) (k : Bool) → keep n ≡ k → length (kept_below n) ≤ length (kept_below (n + 1))
  length_more n true is = omega (arith, ap length (filter_range-takes keep n is), length_push (kept_below n) n)
  length_more n false is = omega (arith, ap length (filter_range-skips keep n is))

  put_below : (n : ℕ) → n ≤ n_all → length (kept_below n) ≤ length words → put_at place words (puts_below n) ≡ mixed n
  put_below zero under room = refl
  put_below (suc n) under room =
      let s : suc n ≡ n + 1 = omega arith in
      let room_now : length (kept_below (n + 1)) ≤ length words = omega (arith, room, ap (λ m. length (kept_below m)) s) in
      ap (λ m. put_at place words (puts_below m)) s
      ∙ put_step n (keep n) (changed n) (omega arith) room_now refl refl (put_below n (omega arith) (omega (arith, room_now, length_more n (keep n) refl)))
      ∙ ap mixed (sym s)

  -- at the end each place has the new word
  pub put_all_below : length (kept_below n_all) ≡ length words → put_at place words (puts_below n_all) ≡ map new (kept_below n_all)
  put_all_below count =
      put_below n_all (omega arith) (omega (arith, count))
      ∙ ap (λ xs. map new (kept_below n_all) ++ xs) (drop_all (length (kept_below n_all)) words (omega (arith, count)))
      ∙ append-nil (map new (kept_below n_all))

pub and_left : (a b : Bool) → (a && b) ≡ true → a ≡ true
and_left true b h = refl
and_left false b h = h

not_false : (a b : Bool) → a ≡ true → (a && not b) ≡ false → b ≡ true
not_false true true wanted h = refl
not_false true false wanted h = sym h
not_false false b wanted h = never wanted

pub at_some : (decls : List Decl) (id : ℕ) (test : Decl → Bool) (found : Option Decl) → slice_get decls id ≡ found → option_map_or test found false ≡ true → (d : Decl) × ((slice_get decls id ≡ Some d) × (test d ≡ true))
at_some decls id test None is h = never h
at_some decls id test (Some d) is h = (d, (is, h))

keep_all : (xs : List ℕ) → filter (λ id. true) xs ≡ xs
keep_all [] = refl
keep_all (x ∷ xs) = ap (λ ys. x ∷ ys) (keep_all xs)

cached_same : (p : Program) (s : Step) (id : ℕ) (b : Bool) → is_signal_at p.decls.items id ≡ b → (b && not (same_word (signal_word p s.words s.old_view id) (effect p s id).word)) ≡ false → (if b then signal_word p s.words s.old_view id else no_word) ≡ (if b then signal_word p (words_after p s) s.new_view id else no_word)
cached_same p s id true is same = same_word-is _ _ (not_false true _ refl same) ∙ effect_word p s id
cached_same p s id false is same = refl

-- the changed signals of an entry, put into the words of signals before it, give those after it
pub put_signals : (p : Program) (s : Step) → put_all (signal_words p s.words s.old_view) (signal_changes p s) ≡ signal_words p (words_after p s) s.new_view
put_signals p s =
    let decls = p.decls.items in
    put_all_below (λ id. id) (signal_words p s.words s.old_view) (λ id. true) (λ id. is_signal_at p.decls.items id && not (same_word (signal_word p s.words s.old_view id) (effect p s id).word)) (λ id. (effect p s id).word) (cached_word p (words_after p s) s.new_view) (length p.decls.items)
    (λ id under differs. refl)
    (λ id under all. sym (ap length (keep_all (range_with_len 0 id)) ∙ length-range_with_len 0 id))
    (λ id under differs. effect_word p s id ∙ sym (ap (λ b. if b then signal_word p (words_after p s) s.new_view id else no_word) (and_left _ _ differs)))
    (λ id under all same. get_or-map-range_with_len (cached_word p s.words s.old_view) 0 (length p.decls.items) id id no_word under (omega arith) ∙ cached_same p s id (is_signal_at p.decls.items id) refl same)
    (ap length (keep_all (range_with_len 0 (length p.decls.items))) ∙ length-range_with_len 0 (length p.decls.items) ∙ sym (length-map-range_with_len (cached_word p s.words s.old_view) 0 (length p.decls.items)))
    ∙ ap (map (cached_word p (words_after p s) s.new_view)) (keep_all (range_with_len 0 (length p.decls.items)))
