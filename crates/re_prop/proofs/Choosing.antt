-- Words of chosen declarations, up to a place.
use Rattle.std.proofs.Common.{◌≡◌, ◌<◌, ◌+◌, ◌-◌, ℕ, Bool, true, false, ◌&&◌, List, [], ◌∷◌, ◌++◌, map, length, get_or, refl, sym, ap, ◌∙◌, arith}
use Rattle.std.specs.Prelude.{Some, slice_get, filter, not, slice_index_or}
use Rattle.std.specs.Option.{option_map_or}
use Rattle.std.specs.List.{range_with_len}
use Rattle.std.proofs.lemmas.List.{map-append}
use Rattle.std.proofs.lemmas.List.FromFn.{map-range_with_len_more}
use Rattle.std.proofs.lemmas.Option.{slice_get_read}
use Rattle.re_terms.specs.declared.word.Word.{Word}
use Rattle.re_terms.specs.declared.program.Decl.{Decl}
use Rattle.re_terms.specs.declared.entry.Put.{Put}
use Rattle.re_terms.specs.Listed.{Listed, plain}
use Rattle.re_terms.specs.SignalWords.{no_word}
use Rattle.re_terms.specs.WordOrder.{same_word}
use Rattle.re_graph.proofs.Ranges.{filter_range-takes, filter_range-skips}

-- the word of a place
abbrev pub put_of : List Word → ℕ → Put
put_of words id = record { id = id; word = slice_index_or words id no_word }

-- the words of the marked places below n
abbrev pub chosen_below : List Bool → List Word → ℕ → List Put
chosen_below marks words n = map (put_of words) (filter (λ id. slice_index_or marks id false) (range_with_len 0 n))

-- a declaration is wanted, and its words differ
abbrev pub differs_at : (ℕ → Bool) → List Word → List Word → ℕ → Bool
differs_at is_wanted old new id = is_wanted id && not (same_word (slice_index_or old id no_word) (slice_index_or new id no_word))

pub chosen_takes : (marks : List Bool) (words : List Word) (n : ℕ) → slice_index_or marks n false ≡ true → chosen_below marks words (n + 1) ≡ chosen_below marks words n ++ put_of words n ∷ []
chosen_takes marks words n is = ap (map (put_of words)) (filter_range-takes (λ id. slice_index_or marks id false) n is) ∙ map-append (put_of words) (filter (λ id. slice_index_or marks id false) (range_with_len 0 n)) (n ∷ [])

pub chosen_skips : (marks : List Bool) (words : List Word) (n : ℕ) → slice_index_or marks n false ≡ false → chosen_below marks words (n + 1) ≡ chosen_below marks words n
chosen_skips marks words n is = ap (map (put_of words)) (filter_range-skips (λ id. slice_index_or marks id false) n is)

-- a push onto a list with nothing reserved
pub plain_push : {A : Type 0} (old new : Listed A) (xs ys : List A) (x : A) → old ≡ plain xs → new ≡ record { items = old.items ++ x ∷ []; spare = old.spare - 1 } → xs ++ x ∷ [] ≡ ys → new ≡ plain ys
plain_push old new xs ys x was is all = is ∙ ap (λ l. record { items = l.items ++ x ∷ []; spare = l.spare - 1 }) was ∙ ap plain all

-- one place more
pub range_push : {X : Type 0} (f : ℕ → X) (xs : List X) (n : ℕ) (x : X) → xs ≡ map f (range_with_len 0 n) → x ≡ f n → xs ++ x ∷ [] ≡ map f (range_with_len 0 (n + 1))
range_push f xs n x so_far is = ap (λ ys. ys ++ x ∷ []) so_far ∙ ap (λ y. map f (range_with_len 0 n) ++ y ∷ []) is ∙ sym (map-range_with_len_more f 0 n n (omega arith))

-- an item that is read from a list
pub item_at : {X : Type 0} (xs read : List X) (i : ℕ) (x : X) → read ≡ xs → i < length read → x ≡ get_or read i x → slice_get xs i ≡ Some x
item_at xs read i x same within is = ap (λ ys. slice_get ys i) (sym same) ∙ slice_get_read read (length read) i x refl within is

-- whether the words of a wanted declaration differ
pub differs_is : (test : Decl → Bool) (decls : List Decl) (old new : List Word) (id : ℕ) (d : Decl) (a b : Word) (v : Bool) → slice_get decls id ≡ Some d → a ≡ slice_index_or old id no_word → b ≡ slice_index_or new id no_word → v ≡ (test d && not (same_word a b)) → v ≡ differs_at (λ id. option_map_or test (slice_get decls id) false) old new id
differs_is test decls old new id d a b v at first second is =
    is
    ∙ ap (λ found. option_map_or test found false && not (same_word a b)) (sym at)
    ∙ ap (λ w. option_map_or test (slice_get decls id) false && not (same_word w b)) first
    ∙ ap (λ w. option_map_or test (slice_get decls id) false && not (same_word (slice_index_or old id no_word) w)) second

-- a word that is put behind those of the marked places before it
pub put_push : (marks : List Bool) (words : List Word) (id : ℕ) (w : Word) (old new : Listed Put) → slice_index_or marks id false ≡ true → old ≡ plain (chosen_below marks words id) → w ≡ slice_index_or words id no_word → new ≡ record { items = old.items ++ (record { id = id; word = w }) ∷ []; spare = old.spare - 1 } → new ≡ plain (chosen_below marks words (id + 1))
put_push marks words id w old new marked so_far is pushed =
    plain_push old new (chosen_below marks words id) (chosen_below marks words (id + 1)) (record { id = id; word = w }) so_far pushed
    (ap (λ w. chosen_below marks words id ++ (record { id = id; word = w }) ∷ []) is ∙ sym (chosen_takes marks words id marked))
