-- The words of vars, by the entries that set them.
use Rattle.std.proofs.Common.{ℕ, ◌≡◌, true, false, List, [], ◌∷◌, length, ◌++◌, Some, None, Ok, unwrap_or, refl, sym, ap, ◌∙◌}
use Rattle.std.specs.Prelude.{slice_get, slice_index_or}
use Rattle.std.specs.Option.{option_map_or}
use Rattle.std.proofs.lemmas.Option.{slice_get_within}
use Rattle.re_terms.specs.declared.command.Command.TheVariants as command
use Rattle.re_terms.specs.declared.program.Body.TheVariants as body
use Rattle.re_terms.specs.declared.program.Decl.{Decl}
use Rattle.re_terms.specs.declared.program.Program.{Program}
use Rattle.re_terms.specs.declared.word.Kind.{Kind}
use Rattle.re_terms.specs.declared.word.Word.{Word}
use Rattle.re_terms.specs.Cells.{cell_place}
use Rattle.re_terms.specs.Dependencies.{below}
use Rattle.re_terms.specs.Propagation.{Step, effect, place_effect, no_effect, put_word, words_after}
use Rattle.re_terms.specs.DeviceWorlds.{World, Fine, device_state}
use Rattle.re_terms.specs.Entries.{PlainEntry, entry_after, run_entries, sets_of, step_to, taken_after}
use Rattle.re_terms.specs.Runs.{PlainState, plain_view}
use Rattle.re_terms.specs.SignalWords.{no_word, signal_word, place_word}
use Rattle.re_terms.specs.Views.{View}
use Rattle.re_terms.specs.Worlds.{Value, is_set_at, is_set_body, shown}
use Rattle.re_graph.proofs.Own.{below-own}
use Rattle.re_prop.proofs.Outcomes.{effect_word}
use Rattle.re_print.specs.AnswerTexts.{answer_text}
use Rattle.re_session.specs.Histories.{last_set}
use Rattle.re_session.specs.LineAnswers.{line_text}
use Rattle.re_session.proofs.Codes.{running_get}

-- a var's word is the one that is kept
var_word : (p : Program) (cells : List Word) (view : View) (id : ℕ) (d : Decl) (kind : Kind) (start : Word) (region : ℕ) → slice_get p.decls.items id ≡ Some d → d.body ≡ body.Var kind start region → signal_word p cells view id ≡ slice_index_or cells (cell_place p.decls.items id) no_word
var_word p cells view id d kind start region at is =
    let step : ℕ → (ℕ → Word) → Word = place_word p.decls.items cells view in
    let own : signal_word p cells view id ≡ step id (below no_word step id) = below-own no_word step (length p.decls.items) id (slice_get_within p.decls.items id d at) in
    let here : step id (below no_word step id) ≡ slice_index_or cells (cell_place p.decls.items id) no_word = rw (at, is) refl in
    own ∙ here

-- a turn's effect on a var: the word that it sets, or the word before
set_word : (p : Program) (s : Step) (id : ℕ) (d : Decl) (kind : Kind) (start : Word) (region : ℕ) → slice_get p.decls.items id ≡ Some d → d.body ≡ body.Var kind start region
    → (effect p s id).word ≡ unwrap_or (put_word s.sets id) (slice_index_or s.words (cell_place p.decls.items id) no_word)
set_word p s id d kind start region at is =
    let own = below-own no_effect (place_effect p s) (length p.decls.items) id (slice_get_within p.decls.items id d at) in
    let here : (place_effect p s id (below no_effect (place_effect p s) id)).word ≡ unwrap_or (put_word s.sets id) (slice_index_or s.words (cell_place p.decls.items id) no_word) = rw (at, is) refl in
    ap (λ e. e.word) own ∙ here

-- ---- the words of entries

-- what `get` shows of a name that is no set
pub shown_value : (p : Program) (s : PlainState) (id : ℕ) (d : Decl) → slice_get p.decls.items id ≡ Some d → is_set_body d.body ≡ false → shown p s id ≡ Value (signal_word p s.words (plain_view p s) id)
shown_value p s id d at h = let e : is_set_at p.decls.items id ≡ false = ap (λ o. option_map_or (λ (x : Decl). is_set_body x.body) o false) at ∙ h in rw e refl

-- what a line says that is a `get` of a device that is up and isn't stopped
pub got_text : (p : Program) (w : World) (device id : ℕ) → w.up device ≡ true → w.stop device ≡ None → line_text p w (Ok (Some (command.Get device id))) Fine ≡ answer_text p (shown p (device_state p w device) id) ++ 10 ∷ []
got_text p w device id up stop = ap (λ r. answer_text p (unwrap_or r (shown p (device_state p w device) id)) ++ 10 ∷ []) (running_get p w device id up stop)

module _ (p : Program) (id : ℕ) (d : Decl) (kind : Kind) (start : Word) (region : ℕ) (at : slice_get p.decls.items id ≡ Some d) (is : d.body ≡ body.Var kind start region) where
  kept : List Word → Word
  kept words = slice_index_or words (cell_place p.decls.items id) no_word

  one_entry : (device : ℕ) (s : PlainState) (e : PlainEntry) → kept (entry_after p device s e).words ≡ unwrap_or (put_word (sets_of e) id) (kept s.words)
  unfolding kept
  one_entry device s e =
      let step = step_to p s e (taken_after device s.taken e) in
      sym (var_word p (words_after p step) step.new_view id d kind start region at is)
      ∙ sym (effect_word p step id) ∙ set_word p step id d kind start region at is

  run_kept : (device : ℕ) (s : PlainState) (entries : List PlainEntry) → kept (run_entries p device s entries).words ≡ last_set entries id (kept s.words)
  run_kept device s [] = refl
  run_kept device s (e ∷ entries) = run_kept device (entry_after p device s e) entries ∙ ap (last_set entries id) (one_entry device s e)

  -- the word after the entries is that of the last that sets the var, and else the one before them
  pub run_word : (device : ℕ) (s : PlainState) (entries : List PlainEntry) (view : View) → signal_word p (run_entries p device s entries).words view id ≡ last_set entries id (slice_index_or s.words (cell_place p.decls.items id) no_word)
  unfolding kept
  run_word device s entries view = var_word p (run_entries p device s entries).words view id d kind start region at is ∙ run_kept device s entries
