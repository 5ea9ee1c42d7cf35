-- What holds at each moment of a plan.
use Rattle.std.proofs.Common.{◌≡◌, inl, inr, ℕ, ◌+◌, List, [], ◌∷◌, ◌++◌, length, refl, sym, ◌∙◌, subst, append_assoc}
use Rattle.re_outside.specs.Listed.{plain}
use Rattle.re_outside.specs.FileAct.{SyncFailed}
use Rattle.re_outside.specs.Image.{IsTorn}
use Rattle.re_outside.specs.declared.step.Step.{Step}
use Rattle.re_outside.specs.declared.step.Step.TheVariants as steps
use Rattle.re_outside.specs.declared.step.Call.TheVariants as calls
use Rattle.re_outside.specs.Trace.{Past, with_steps, content_of, IsCrashImageOf}
use Rattle.re_outside.specs.Moment.{Throughout, Changes, Leaves, OnlyMoves}
use Rattle.re_outside.specs.Plan.{FailsTo, StopsAt, IsSafe}
use Rattle.re_outside.proofs.Moments.{one_step, no_step, join, at_end, goes_nothing}
use Rattle.re_outside.proofs.Images.{sync_failed}
use Rattle.re_outside.proofs.Steps.{write_goes, write_fails, only_trans, is_synced, is_failed, image_synced, image_more, only_moves}

goes_goes : (past : Past) (a b : List Step) → with_steps (with_steps past a) b ≡ with_steps past (a ++ b)
goes_goes past a b = λ i. record { device = past.device; start = past.start; trace = append_assoc past.trace a b i }

safe_start : (P : Past → Type 0) (plan : List Step) (old : Past) → IsSafe P plan old → P old
safe_start P [] old safe = safe
safe_start P (s ∷ plan) old safe = safe.0

-- the plan was carried out
pub ran_safe : (P : Past → Type 0) (plan : List Step) (old new : Past) → IsSafe P plan old → new ≡ with_steps old plan → Throughout old new P
ran_safe P [] old new safe is = no_step old new P (is ∙ sym (goes_nothing old)) safe
ran_safe P (s ∷ plan) old new safe is =
    let mid = with_steps old (s ∷ []) in
    join old mid new P (one_step old mid P s refl safe.0 (safe_start P plan mid safe.2)) (ran_safe P plan mid new safe.2 (is ∙ sym (goes_goes old (s ∷ []) plan)))

failed : (P : Past → Type 0) (s : Step) (old new : Past) → P old → P new → FailsTo s old new → Throughout old new P
failed P s old new before later (inl same) = no_step old new P same before
failed P s old new before later (inr (left, by, is)) = one_step old new P _ is before later

-- a call of it failed
pub stops_safe : (P : Past → Type 0) (plan : List Step) (calls at : ℕ) (old new : Past) → IsSafe P plan old → StopsAt plan calls at old new → Throughout old new P
stops_safe P [] calls at old new safe none = absurd none
stops_safe P (s ∷ plan) calls at old new safe (inl here) = failed P s old new safe.0 (safe.1 new here.1) here.1
stops_safe P (s ∷ plan) calls at old new safe (inr there) =
    let mid = with_steps old (s ∷ []) in
    join old mid new P (one_step old mid P s refl safe.0 (safe_start P plan mid safe.2)) (stops_safe P plan (calls + 1) at mid new safe.2 there)

-- ---- one call

-- a write, done or failed, leaves what has Q, where any torn one does
module _ (f at : ℕ) (bytes : List ℕ) (Q : List ℕ → Type 0) (old now : Past) (same : now.device ≡ old.device) (so_far : OnlyMoves f old now)
    (torn : (was file : List ℕ) → IsCrashImageOf now f was → IsTorn (length (content_of now f)) at (length bytes) was file → Q file) where
  leaves_torn : (new : Past) → Changes f (IsTorn (length (content_of now f)) at (length bytes)) now new → Leaves f Q old new
  leaves_torn new c = record {
    images = λ file image. let was = c.images file image in torn was.0 file was.1 was.2;
    others = only_trans f old now new same so_far c.others;
  }

  pub write_leaves : Leaves f Q old (with_steps now (steps.Write now.device f at (plain bytes) ∷ []))
  write_leaves = leaves_torn _ (at_end now _ _ (write_goes f at bytes now _ refl))

  pub failed_write_leaves : (new : Past) → FailsTo (steps.Write now.device f at (plain bytes)) now new → Leaves f Q old new
  failed_write_leaves new fails = leaves_torn new (at_end now new _ (write_fails f at bytes now new fails))

-- a sync, done or failed, leaves what has Q, where reads and stops before it did
module _ (f : ℕ) (Q : List ℕ → Type 0) (old now : Past) (same : now.device ≡ old.device) (leaves : Leaves f Q old now) where
  pub sync_leaves : Q (content_of now f) → Leaves f Q old (with_steps now (steps.Sync now.device f ∷ []))
  sync_leaves reads =
      let own = is_synced now.device f in
      record {
        images = λ file image. subst Q (sym (image_synced f now _ _ own refl file image)) reads;
        others = only_trans f old now (with_steps now (steps.Sync now.device f ∷ [])) same leaves.others (only_moves f now _ _ own);
      }

  pub failed_sync_leaves : (new : Past) → FailsTo (steps.Sync now.device f) now new → Leaves f Q old new
  failed_sync_leaves new (inl is) = subst (Leaves f Q old) (sym is) leaves
  failed_sync_leaves new (inr (left, honest, is)) =
      let own = is_failed calls.Sync now.device f 0 [] left SyncFailed refl refl in
      let P = Leaves f Q old in
      subst P (sym is) (record {
        images = λ file image.
            let m = image_more f now _ _ own refl file image in
            leaves.images file (subst (IsCrashImageOf now f) (sym (sync_failed (content_of now f) m.0 file m.2)) m.1);
        others = only_trans f old now (with_steps now (steps.Fail calls.Sync now.device f 0 (plain []) (plain left) ∷ [])) same leaves.others (only_moves f now _ _ own);
      })
