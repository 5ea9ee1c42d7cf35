-- What one call changes of what a stop may leave of its file.
use Rattle.std.proofs.Common.{inl, inr, ℕ, List, [], ◌∷◌, length, refl, sym, subst}
use Rattle.re_outside.specs.Listed.{plain}
use Rattle.re_outside.specs.FileAct.{SyncFailed}
use Rattle.re_outside.specs.Image.{IsTorn, IsUnchanged}
use Rattle.re_outside.specs.Moment.{Changes, IsSettled}
use Rattle.re_outside.specs.Plan.{FailsTo}
use Rattle.re_outside.specs.Trace.{Past, with_steps, content_of}
use Rattle.re_outside.specs.declared.step.Step.TheVariants as steps
use Rattle.re_outside.specs.declared.step.Call.TheVariants as calls
use Rattle.re_outside.proofs.Images.{wrote, sync_failed}
use Rattle.re_outside.proofs.Moments.{at_end}
use Rattle.re_outside.proofs.Steps.{changes_by, is_write, is_failed, write_fails, sync_settles}

-- a write
pub write_changes : (f at : ℕ) (bytes : List ℕ) (old : Past) → Changes f (IsTorn (length (content_of old f)) at (length bytes)) old (with_steps old (steps.Write old.device f at (plain bytes) ∷ []))
write_changes f at bytes old = changes_by f old _ _ (is_write old.device f at bytes) _ refl (wrote (content_of old f) at bytes)

-- a write that failed
pub failed_write_changes : (f at : ℕ) (bytes : List ℕ) (old new : Past) → FailsTo (steps.Write old.device f at (plain bytes)) old new → Changes f (IsTorn (length (content_of old f)) at (length bytes)) old new
failed_write_changes f at bytes old new fails = at_end old new _ (write_fails f at bytes old new fails)

-- a sync
pub sync_changes : (f : ℕ) (old : Past) → IsSettled f (content_of old f) (with_steps old (steps.Sync old.device f ∷ []))
sync_changes f old = sync_settles f (content_of old f) old _ refl refl

-- a sync that failed
pub failed_sync_changes : (f : ℕ) (old new : Past) → FailsTo (steps.Sync old.device f) old new → Changes f IsUnchanged old new
failed_sync_changes f old new (inl is) = subst (Changes f IsUnchanged old) (sym is) (record { images = λ file image. (file, image, refl); others = refl })
failed_sync_changes f old new (inr (left, honest, is)) =
    subst (Changes f IsUnchanged old) (sym is) (changes_by f old _ _ (is_failed calls.Sync old.device f 0 [] left SyncFailed refl refl) _ refl (λ was file. sync_failed (content_of old f) was file))
