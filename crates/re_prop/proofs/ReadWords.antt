-- The words that are read of a device.
use Rattle.std.proofs.Common.{◌≡◌, ◌<◌, ◌≤◌, ◌⊎◌, inl, inr, ℕ, true, Some, List, length, refl, sym, ap, ◌∙◌, arith}
use Rattle.std.specs.Prelude.{slice_get, slice_index, slice_index_or}
use Rattle.std.specs.List.{count_by}
use Rattle.std.proofs.lemmas.Bool.{cases_lt}
use Rattle.std.proofs.lemmas.List.{get_or_past, take_all}
use Rattle.std.proofs.lemmas.List.FromFn.{get_or-map-range_with_len}
use Rattle.std.proofs.lemmas.Option.{slice_get_within}
use Rattle.re_terms.specs.declared.word.Word.{Word}
use Rattle.re_terms.specs.declared.word.Kind.{Kind}
use Rattle.re_terms.specs.declared.expr.Expr.{Expr}
use Rattle.re_terms.specs.declared.program.Body.{Body}
use Rattle.re_terms.specs.declared.program.Body.TheVariants as body
use Rattle.re_terms.specs.declared.program.Decl.{Decl}
use Rattle.re_terms.specs.declared.program.Program.{Program}
use Rattle.re_terms.specs.Dependencies.{below}
use Rattle.re_terms.specs.Programs.{is_replicated}
use Rattle.re_terms.specs.Cells.{is_cell_body, cell_place}
use Rattle.re_terms.specs.SignalWords.{no_word, replicated_place, body_word, place_word, signal_word}
use Rattle.re_terms.specs.Views.{View}
use Rattle.re_prop.proofs.Before.{signal_word-own, kept_word}
use Rattle.re_terms.specs.Placing.{at_each, places_of}
use Rattle.re_terms.specs.declared.places.Places.{Places}
use Rattle.re_terms.proofs.Placed.{at_each-at, length-at_each}

-- the word of a declaration whose word doesn't depend on others
pub own_word : (p : Program) (cells : List Word) (view : View) (id : ℕ) (d : Decl) (w : Word) → slice_get p.decls.items id ≡ Some d → ((words : ℕ → Word) → body_word p.decls.items cells view id d.body words ≡ w) → w ≡ signal_word p cells view id
own_word p cells view id d w at each = sym (signal_word-own p cells view id d at ∙ each (below no_word (place_word p.decls.items cells view) id))

-- neither a var, fold, counter, register nor signal
pub record IsOther (b : Body) : Type 0 where
  pub var : (kind : Kind) (start : Word) (region : ℕ) → b ≡ body.Var kind start region → ⊥
  pub fold : (kind : Kind) (start : Word) (source : ℕ) (expr : Expr) (region : ℕ) → b ≡ body.Fold kind start source expr region → ⊥
  pub counter : b ≡ body.Counter → ⊥
  pub register : (kind : Kind) (start : Word) → b ≡ body.Register kind start → ⊥
  pub signal : (kind : Kind) (expr : Expr) → b ≡ body.Signal kind expr → ⊥

-- such a declaration has no word
pub other_word : (decls : List Decl) (cells : List Word) (view : View) (id : ℕ) (b : Body) (words : ℕ → Word) → IsOther b → body_word decls cells view id b words ≡ no_word
other_word decls cells view id body.Device words is = refl
other_word decls cells view id body.Symbol words is = refl
other_word decls cells view id (body.Var kind start region) words is = absurd (is.var kind start region refl)
other_word decls cells view id (body.Event kind) words is = refl
other_word decls cells view id (body.Signal kind expr) words is = absurd (is.signal kind expr refl)
other_word decls cells view id (body.Changed of) words is = refl
other_word decls cells view id (body.Map source kind expr) words is = refl
other_word decls cells view id (body.Filter source expr) words is = refl
other_word decls cells view id (body.Either left right) words is = refl
other_word decls cells view id (body.Fold kind start source expr region) words is = absurd (is.fold kind start source expr region refl)
other_word decls cells view id body.Counter words is = absurd (is.counter refl)
other_word decls cells view id (body.Set kind) words is = refl
other_word decls cells view id (body.Register kind start) words is = absurd (is.register kind start refl)

-- the word of a var or a fold, by its kept place
pub kept_at : (p : Program) (cells : List Word) (view : View) (places : List ℕ) (id : ℕ) (d : Decl) → slice_get p.decls.items id ≡ Some d → is_cell_body d.body ≡ true → places ≡ at_each cell_place p.decls.items → slice_index_or cells (slice_index places id) no_word ≡ signal_word p cells view id
kept_at p cells view places id d at cell are =
    ap (λ l. slice_index_or cells (slice_index l id) no_word) are
    ∙ ap (λ place. slice_index_or cells place no_word) (at_each-at cell_place p.decls.items id (slice_get_within p.decls.items id d at))
    ∙ sym (kept_word p cells view id d at cell)

place_by : (decls : List Decl) (id : ℕ) → (id < length decls) ⊎ (length decls ≤ id) → slice_index_or (at_each replicated_place decls) id (count_by is_replicated decls) ≡ replicated_place decls id
place_by decls id (inl within) = get_or-map-range_with_len (replicated_place decls) 0 (length decls) id id (count_by is_replicated decls) within (omega arith)
place_by decls id (inr past) =
    get_or_past (at_each replicated_place decls) id (count_by is_replicated decls) (omega (arith, past, length-at_each replicated_place decls))
    ∙ ap (count_by is_replicated) (sym (take_all id decls past))

-- the place of a replicated cell, from what is kept
pub replicated_at : (decls : List Decl) (places : Places) (id place : ℕ) → places ≡ places_of decls → place ≡ slice_index_or places.replicated.items id places.replicated_count → place ≡ replicated_place decls id
replicated_at decls places id place are is =
    is ∙ ap (λ (x : Places). slice_index_or x.replicated.items id x.replicated_count) are ∙ place_by decls id (cases_lt id (length decls))
