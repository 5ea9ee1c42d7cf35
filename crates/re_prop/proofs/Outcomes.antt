-- The words after an entry are those of the state after it.
use Rattle.std.proofs.Common.{◌≡◌, ◌<◌, ◌==◌, ℕ, zero, suc, Bool, true, false, cond, length, refl, sym, ap, ◌∙◌}
use Rattle.std.specs.Prelude.{Option, None, Some, slice_get, slice_index_or}
use Rattle.std.specs.Option.{option_map_or}
use Rattle.std.proofs.Math.Path.{fun_ext}
use Rattle.std.proofs.lemmas.Option.{slice_get_within}
use Rattle.re_terms.specs.declared.program.Body.{Body}
use Rattle.re_terms.specs.declared.program.Body.TheVariants as body
use Rattle.re_terms.specs.declared.program.Decl.{Decl}
use Rattle.re_terms.specs.declared.program.Program.{Program}
use Rattle.re_terms.specs.Cells.{is_cell, is_cell_body, cell_place}
use Rattle.re_terms.specs.Dependencies.{below}
use Rattle.re_terms.specs.Propagation.{Step, body_effect, effect, no_effect, place_effect, words_after}
use Rattle.re_terms.specs.SignalWords.{body_word, no_word, place_word, signal_word}
use Rattle.re_prop.proofs.Along.{effect-own}
use Rattle.re_prop.proofs.Cells.{words_after-at}

-- a var or a fold: its word after the entry is kept
cell_word : (p : Program) (s : Step) (n : ℕ) (d : Decl) → slice_get p.decls.items n ≡ Some d → is_cell_body d.body ≡ true → (body_effect p s n d.body (below no_effect (place_effect p s) n)).word ≡ slice_index_or (words_after p s) (cell_place p.decls.items n) no_word
cell_word p s n d at cell =
    let within : n < length p.decls.items = slice_get_within p.decls.items n d at in
    ap (λ e. e.word) (sym (effect-own p s (length p.decls.items) n d within at))
    ∙ sym (words_after-at p s n within (ap (λ found. option_map_or is_cell found false) at ∙ cell))

body_case : (p : Program) (s : Step) (n : ℕ) (d : Decl) (b : Body) → slice_get p.decls.items n ≡ Some d → d.body ≡ b → (body_effect p s n b (below no_effect (place_effect p s) n)).word ≡ body_word p.decls.items (words_after p s) s.new_view n b (λ name. (below no_effect (place_effect p s) n name).word)
body_case p s n d (body.Var kind start region) at is = ap (λ b. (body_effect p s n b (below no_effect (place_effect p s) n)).word) (sym is) ∙ cell_word p s n d at (ap is_cell_body is)
body_case p s n d (body.Fold kind start source expr region) at is = ap (λ b. (body_effect p s n b (below no_effect (place_effect p s) n)).word) (sym is) ∙ cell_word p s n d at (ap is_cell_body is)
body_case p s n d (body.Signal kind expr) at is = refl
body_case p s n d body.Counter at is = refl
body_case p s n d (body.Register kind start) at is = refl
body_case p s n d body.Device at is = refl
body_case p s n d body.Symbol at is = refl
body_case p s n d (body.Event kind) at is = refl
body_case p s n d (body.Changed of) at is = refl
body_case p s n d (body.Map source kind expr) at is = refl
body_case p s n d (body.Filter source expr) at is = refl
body_case p s n d (body.Either left right) at is = refl
body_case p s n d (body.Set kind) at is = refl

place_case : (p : Program) (s : Step) (n : ℕ) (found : Option Decl) → slice_get p.decls.items n ≡ found → (option_map_or (λ d. body_effect p s n d.body (below no_effect (place_effect p s) n)) found no_effect).word ≡ option_map_or (λ d. body_word p.decls.items (words_after p s) s.new_view n d.body (λ name. (below no_effect (place_effect p s) n name).word)) found no_word
place_case p s n None is = refl
place_case p s n (Some d) is = body_case p s n d d.body is refl

next_below : (p : Program) (s : Step) (n id : ℕ) → ((name : ℕ) → (below no_effect (place_effect p s) n name).word ≡ below no_word (place_word p.decls.items (words_after p s) s.new_view) n name) → (b : Bool) → (cond b (place_effect p s n (below no_effect (place_effect p s) n)) (below no_effect (place_effect p s) n id)).word ≡ cond b (place_word p.decls.items (words_after p s) s.new_view n (below no_word (place_word p.decls.items (words_after p s) s.new_view) n)) (below no_word (place_word p.decls.items (words_after p s) s.new_view) n id)
next_below p s n id earlier true = place_case p s n (slice_get p.decls.items n) refl ∙ ap (place_word p.decls.items (words_after p s) s.new_view n) (fun_ext earlier)
next_below p s n id earlier false = earlier id

word_below : (p : Program) (s : Step) (n id : ℕ) → (below no_effect (place_effect p s) n id).word ≡ below no_word (place_word p.decls.items (words_after p s) s.new_view) n id
word_below p s zero id = refl
word_below p s (suc n) id = next_below p s n id (λ name. word_below p s n name) (id == n)

-- the word that a declaration has after an entry is its word in the state after it
pub effect_word : (p : Program) (s : Step) (id : ℕ) → (effect p s id).word ≡ signal_word p (words_after p s) s.new_view id
effect_word p s id = word_below p s (length p.decls.items) id
