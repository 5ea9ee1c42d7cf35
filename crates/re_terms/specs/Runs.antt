-- Plain states.
-- Read against: `var x: int = 2; signal s = x + 3; counter c;` begins with the one word 2 and no update, and c's view is 0; with the updates of 4 by dot (0, 1) and of 1 by dot (0, 2) taken in, it is 5.
use Rattle.std.specs.Prelude.{◌≡◌, List, []}
use Rattle.re_terms.specs.declared.entry.State.{State}
use Rattle.re_terms.specs.declared.program.Program.{Program}
use Rattle.re_terms.specs.declared.word.Word.{Word}
use Rattle.re_terms.specs.Shapes.{shape_of, start_words}
use Rattle.re_terms.specs.Updates.{Update}
use Rattle.re_terms.specs.UpdateStates.{state_of_updates}
use Rattle.re_terms.specs.Values.{view_of_updates}
use Rattle.re_terms.specs.Views.{View}

-- the words of vars and folds, in order of declaration, and the updates of replicated cells that were taken in, each once
pub record PlainState : Type 0 where
  pub words : List Word
  pub taken : List Update

-- the state before any entry
abbrev pub plain_start : Program → PlainState
plain_start p = record { words = start_words p.decls.items; taken = [] }

-- what the replicated cells show
abbrev pub plain_view : Program → PlainState → View
plain_view p s = view_of_updates (shape_of p) s.taken

-- a state stands for a plain one: its words are equal, and its replicated cells are what the updates make
pub record StandsForPlain (p : Program) (s : State) (plain : PlainState) : Type 0 where
  pub words : s.words.items ≡ plain.words
  pub rep : s.rep ≡ state_of_updates (shape_of p) plain.taken
