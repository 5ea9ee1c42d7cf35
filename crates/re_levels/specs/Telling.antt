-- When two environments tell what the outcome of an entry is computed from.
-- Read against: for a turn that sets x, on `var x: int = 1; counter c; set s: int; signal t = x + c;`, the first tells the words of x, c and t before it, the second the word of c;
-- s isn't among what is reached or an input of it, so nothing is told of it.
use Rattle.std.specs.Prelude.{ℕ, ◌≡◌, Bool, true, false, List, None}
use Rattle.re_terms.specs.declared.entry.Entry.{Entry}
use Rattle.re_terms.specs.declared.program.Program.{Program}
use Rattle.re_terms.specs.declared.word.Word.{Word}
use Rattle.re_terms.specs.Dependencies.{graph_of, reach}
use Rattle.re_terms.specs.Propagation.{Step, fires_of, put_word, sets_of}
use Rattle.re_terms.specs.SignalWords.{replicated_place, signal_word}
use Rattle.re_terms.specs.Views.{View}
use Rattle.re_terms.specs.Worlds.{is_set_at}
use Rattle.re_eval.specs.Told.{Told}
use Rattle.re_graph.specs.Kept.{is_among}
use Rattle.re_prop.specs.Reading.{is_used, is_valued_at}
use Rattle.re_prop.specs.Touched.{is_replicated_at}

-- a replicated cell shows the same in two views
pub record ShowsSame (old new : View) (place : ℕ) : Type 0 where
  pub word : new.word place ≡ old.word place
  pub size : new.size place ≡ old.size place
  pub has : (w : Word) → new.has place w ≡ old.has place w

-- these declarations hold all that an entry touches: no other is set or fired, and every other replicated cell shows after it what it showed before
pub record HoldsTouched (p : Program) (s : Step) (touched : List ℕ) : Type 0 where
  pub sets : (id : ℕ) → is_among touched id ≡ false → put_word s.sets id ≡ None
  pub fires : (id : ℕ) → is_among touched id ≡ false → put_word s.fires id ≡ None
  pub cells : (id : ℕ) → is_replicated_at p.decls.items id ≡ true → is_among touched id ≡ false → ShowsSame s.old_view s.new_view (replicated_place p.decls.items id)

-- what is reached from these, or an input of it
abbrev pub is_needed : Program → List ℕ → ℕ → Bool
is_needed p touched id = is_used (graph_of p.decls.items) (reach (graph_of p.decls.items) touched) id

-- one environment tells the words before an entry of what is reached and of its inputs, and another the replicated cells among these after it
pub record TellsOf (p : Program) (entry : Entry) (touched : List ℕ) (old new : Told) (s : Step) : Type 0 where
  pub sets : s.sets ≡ sets_of entry
  pub fires : s.fires ≡ fires_of entry
  pub holds : HoldsTouched p s touched
  pub words : (id : ℕ) → is_valued_at p.decls.items id ≡ true → is_needed p touched id ≡ true → old.word id ≡ signal_word p s.words s.old_view id
  pub cells : (id : ℕ) → is_replicated_at p.decls.items id ≡ true → is_valued_at p.decls.items id ≡ true → is_needed p touched id ≡ true → new.word id ≡ s.new_view.word (replicated_place p.decls.items id)
  pub sizes : (id : ℕ) → is_set_at p.decls.items id ≡ true → is_needed p touched id ≡ true → new.size id ≡ s.new_view.size (replicated_place p.decls.items id)
  pub members : (id : ℕ) (w : Word) → is_set_at p.decls.items id ≡ true → is_needed p touched id ≡ true → new.has id w ≡ s.new_view.has (replicated_place p.decls.items id) w
