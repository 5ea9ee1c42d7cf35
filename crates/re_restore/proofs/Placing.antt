-- The places of words, and of changes among them.
use Rattle.std.proofs.Common.{◌≡◌, ◌<◌, ℕ, true, false, Option, None, Some, List, length, get_or, refl, ap, ◌∙◌, arith}
use Rattle.std.specs.Prelude.{slice_get, slice_index}
use Rattle.std.specs.List.{All, count_by, list_all}
use Rattle.std.specs.Option.{option_map_or}
use Rattle.std.proofs.lemmas.List.Sums.{AllPass-from_list_all}
use Rattle.std.proofs.lemmas.Option.{slice_get_within}
use Rattle.re_terms.specs.Admission.{symbol_count}
use Rattle.re_terms.specs.Cells.{is_cell, is_cell_body, cell_place}
use Rattle.re_terms.specs.WordKinds.{is_change_of, is_kept_word}
use Rattle.re_terms.specs.declared.word.Word.{Word}
use Rattle.re_terms.specs.declared.entry.Put.{Put}
use Rattle.re_terms.specs.declared.program.Body.{Body}
use Rattle.re_terms.specs.declared.program.Body.TheVariants as body
use Rattle.re_terms.specs.declared.program.Decl.{Decl}
use Rattle.re_terms.proofs.ChangesKept.{place_within}
use Rattle.re_terms.proofs.Placed.{at_each-at, length-at_each}
use Rattle.re_terms.specs.Placing.{at_each}

never : {A : Type 0} → false ≡ true → A
never h = absurd (let e : false ≡ true = h in cc)

-- a change stands at a declaration that has a place among so many words
record IsPlaced (decls : List Decl) (n : ℕ) (x : Put) : Type 0 where
  declared : x.id < length decls
  placed : cell_place decls x.id < n

kept_is_cell : (symbols : ℕ) (b : Body) (w : Word) → is_kept_word symbols b w ≡ true → is_cell_body b ≡ true
kept_is_cell symbols (body.Var k start region) w h = refl
kept_is_cell symbols (body.Fold k start source expr region) w h = refl
kept_is_cell symbols b w h = never h

found_placed : (decls : List Decl) (x : Put) (found : Option Decl) → slice_get decls x.id ≡ found → option_map_or (λ d. is_kept_word (symbol_count decls) d.body x.word) found false ≡ true → IsPlaced decls (count_by is_cell decls) x
found_placed decls x None at is = never is
found_placed decls x (Some d) at is = record {
  declared = slice_get_within decls x.id d at;
  placed = place_within decls x.id d at (kept_is_cell (symbol_count decls) d.body x.word is);
}

change_placed : (decls : List Decl) (x : Put) → is_change_of decls x ≡ true → IsPlaced decls (count_by is_cell decls) x
change_placed decls x is = found_placed decls x (slice_get decls x.id) refl is

module _ (decls : List Decl) (places : List ℕ) (puts : List Put) (are : places ≡ at_each cell_place decls) (changes : list_all (is_change_of decls) puts ≡ true) where
  each : (k : ℕ) (d : Put) → k < length puts → IsPlaced decls (count_by is_cell decls) (get_or puts k d)
  each k d within = change_placed decls (get_or puts k d) (AllPass-from_list_all (is_change_of decls) puts changes k d within)

  -- what is changed is declared
  pub changes_declared : All (λ put. put.id < length places) puts
  changes_declared k d within =
      let at = (each k d within).declared in
      let count : length places ≡ length decls = ap length are ∙ length-at_each cell_place decls in
      omega (arith, at, count)

  -- the places that are kept are those of the words
  pub changes_own : All (λ put. slice_index places put.id ≡ cell_place decls put.id) puts
  changes_own k d within = ap (λ l. slice_index l (get_or puts k d).id) are ∙ at_each-at cell_place decls (get_or puts k d).id (each k d within).declared

  -- and they lie among the words
  pub changes_placed : (n : ℕ) → n ≡ count_by is_cell decls → All (λ put. slice_index places put.id < n) puts
  changes_placed n count k d within =
      let at = (each k d within).placed in
      let own = changes_own k d within in
      omega (arith, at, own, count)
