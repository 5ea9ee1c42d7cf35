-- States of a program: at the start, before an entry and after it.
use Rattle.std.proofs.Common.{◌≡◌, true, List, refl, subst}
use Rattle.std.specs.List.{list_all}
use Rattle.re_terms.specs.declared.entry.Entry.{Entry}
use Rattle.re_terms.specs.declared.entry.Entry.TheVariants as entry
use Rattle.re_terms.specs.declared.entry.State.{State}
use Rattle.re_terms.specs.declared.program.Program.{Program}
use Rattle.re_terms.specs.declared.replicated.RState.{RState}
use Rattle.re_terms.specs.Admission.{IsEntryOf, is_put_of, source_kind, var_kind}
use Rattle.re_terms.specs.Listed.{plain}
use Rattle.re_terms.specs.Programs.{IsProgram}
use Rattle.re_terms.specs.Propagation.{fires_of, sets_of, step_in, words_after}
use Rattle.re_terms.specs.Shapes.{FitsShape, shape_of, start_state}
use Rattle.re_terms.specs.ShapedUpdates.{IsWithinLimits, is_update_of}
use Rattle.re_terms.specs.Updates.{Update, IsCausalLog, IsIn}
use Rattle.re_terms.specs.UpdateStates.{state_of_updates}
use Rattle.re_terms.specs.Values.{view_of_updates}
use Rattle.re_terms.specs.WordKinds.{IsStateOf, IsStepOf, IsViewOf}
use Rattle.re_terms.proofs.Fitting.{state_fits}
use Rattle.re_terms.proofs.Logs.{numbered_of}
use Rattle.re_terms.proofs.Values.{view_is}
use Rattle.re_terms.proofs.ChangesKept.{after_kept}
use Rattle.re_terms.proofs.StartStates.{start_fits}
use Rattle.re_terms.proofs.ViewsKept.{starts_kept, view_kept}

pub start_is : (p : Program) → IsProgram p → IsStateOf p (start_state p)
start_is p program = record { words = starts_kept p program; rep = start_fits (shape_of p) }

sets_kept : (p : Program) (e : Entry) → IsEntryOf p e → list_all (is_put_of var_kind p.decls.items) (sets_of e) ≡ true
sets_kept p (entry.Turn t) is = is.sets
sets_kept p (entry.Merge r) is = refl

fires_kept : (p : Program) (e : Entry) → IsEntryOf p e → list_all (is_put_of source_kind p.decls.items) (fires_of e) ≡ true
fires_kept p (entry.Turn t) is = is.fires
fires_kept p (entry.Merge r) is = refl

pub step_is : (p : Program) (s : State) (e : Entry) (after : RState) → IsProgram p → IsStateOf p s → IsEntryOf p e → FitsShape (shape_of p) after → IsStepOf p (step_in s e after)
step_is p s e after program state entry fits = record {
  words = state.words;
  old_view = view_kept p s.rep program state.rep;
  new_view = view_kept p after program fits;
  sets = sets_kept p e entry;
  fires = fires_kept p e entry;
}

pub after_is : (p : Program) (s : State) (e : Entry) (after : RState) → IsProgram p → IsStateOf p s → IsEntryOf p e → FitsShape (shape_of p) after → IsStateOf p (record { words = plain (words_after p (step_in s e after)); rep = after })
after_is p s e after program state entry fits = record { words = after_kept p program (step_in s e after) (step_is p s e after program state entry fits); rep = fits }

-- what updates show is of its kinds
pub updates_kept : (p : Program) (log us : List Update) → IsProgram p → IsCausalLog log → ((u : Update) → IsIn u us → IsIn u log) → ((u : Update) → IsIn u us → is_update_of (shape_of p) u ≡ true) → IsWithinLimits (state_of_updates (shape_of p) us) → IsViewOf p (view_of_updates (shape_of p) us)
updates_kept p log us program causal within shaped limits =
    let numbered = numbered_of log causal in
    subst (IsViewOf p) (view_is (shape_of p) us (λ u h. numbered.device u (within u h)))
    (view_kept p (state_of_updates (shape_of p) us) program (state_fits (shape_of p) log us causal within shaped limits))
