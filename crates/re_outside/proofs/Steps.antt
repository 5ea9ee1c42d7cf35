-- What each step adds to what a stop may leave.
use Rattle.std.proofs.Common.{◌≡◌, ◌≢◌, ◌⊎◌, inl, inr, ℕ, true, false, ◌&&◌, List, [], ◌∷◌, ◌++◌, length, refl, sym, ◌∙◌, ap, subst, arith, append_assoc}
use Rattle.std.specs.Prelude.{not, Bool, true, false, ◌==◌, if◌then◌else◌}
use Rattle.std.proofs.lemmas.List.{append-nil}
use Rattle.std.proofs.lemmas.List.Elements.{filter-append}
use Rattle.std.proofs.lemmas.Bool.Decides.{nat_tests}
use Rattle.re_outside.specs.Listed.{plain}
use Rattle.re_outside.specs.FileAct.{FileAct, Wrote, CutTo, Synced, SyncFailed}
use Rattle.re_outside.specs.Image.{content, after, is_sync, IsCrashImage, IsChanged, IsTorn, written}
use Rattle.re_outside.specs.Trace.{act_of, acts_of, failed_act, Past, with_steps, IsBefore, content_of, IsCrashImageOf, is_of, is_file_call, elsewhere}
use Rattle.re_outside.specs.Moment.{Throughout, IsKept, OnlyMoves, Changes, IsSettled}
use Rattle.re_outside.specs.Plan.{FailsOf}
use Rattle.re_outside.specs.declared.step.Step.{Step}
use Rattle.re_outside.specs.declared.step.Step.TheVariants as steps
use Rattle.re_outside.specs.declared.step.Call.{Call}
use Rattle.re_outside.specs.declared.step.Call.TheVariants as calls
use Rattle.re_outside.proofs.Images.{content-append, image_act, image_sync, wrote, write_failed, sync_failed}
use Rattle.re_outside.proofs.Moments.{one_step, no_step, join, at_end}

pub acts_of-snoc : (d f : ℕ) (trace : List Step) (s : Step) → acts_of d f (trace ++ s ∷ []) ≡ acts_of d f trace ++ act_of d f s
acts_of-snoc d f [] s = append-nil (act_of d f s)
acts_of-snoc d f (t ∷ trace) s = ap (λ (l : List FileAct). act_of d f t ++ l) (acts_of-snoc d f trace s) ∙ sym (append_assoc (act_of d f t) (acts_of d f trace) (act_of d f s))

same_file : (d f : ℕ) → (d == d && f == f) ≡ true
same_file d f = grind (arith, nat_tests)

other_file : (d f e g device file : ℕ) → (d == device && f == file) ≡ true → (e ≢ d) ⊎ (g ≢ f) → (e == device && g == file) ≡ false
other_file d f e g device file own (inl h) = grind (arith, nat_tests)
other_file d f e g device file own (inr h) = grind (arith, nat_tests)

-- a step of file f of device d
pub record IsStepOf (d f : ℕ) (s : Step) (a : FileAct) : Type 0 where
  pub own : act_of d f s ≡ a ∷ []
  pub mine : is_of d f s ≡ true

step_of : (d f : ℕ) (s : Step) (acts : List FileAct) (a : FileAct) → act_of d f s ≡ (if d == d && f == f then acts else []) → acts ≡ a ∷ [] → is_of d f s ≡ (d == d && f == f) → IsStepOf d f s a
step_of d f s acts a is one mine = record { own = is ∙ (ap (λ b. if b then acts else []) (same_file d f) ∙ one); mine = mine ∙ same_file d f }

-- what stands elsewhere tells of another file
not_mine : (call : Call) (d f e g device file at : ℕ) (bytes left : List ℕ) → (is_file_call call && (d == device && f == file)) ≡ true → (e ≢ d) ⊎ (g ≢ f) → (if e == device && g == file then failed_act call at bytes left else []) ≡ []
not_mine calls.Write d f e g device file at bytes left own h = ap (λ b. if b then failed_act calls.Write at bytes left else []) (other_file d f e g device file own h)
not_mine calls.Cut d f e g device file at bytes left own h = ap (λ b. if b then failed_act calls.Cut at bytes left else []) (other_file d f e g device file own h)
not_mine calls.Sync d f e g device file at bytes left own h = ap (λ b. if b then failed_act calls.Sync at bytes left else []) (other_file d f e g device file own h)
not_mine calls.Size d f e g device file at bytes left own h = ap (λ b. if b then failed_act calls.Size at bytes left else []) (other_file d f e g device file own h)
not_mine calls.Fetch d f e g device file at bytes left own h = ap (λ b. if b then failed_act calls.Fetch at bytes left else []) (other_file d f e g device file own h)
not_mine calls.Take d f e g device file at bytes left own h = absurd (cc)
not_mine calls.Say d f e g device file at bytes left own h = absurd (cc)

pub no_act : (d f e g : ℕ) (s : Step) → is_of d f s ≡ true → (e ≢ d) ⊎ (g ≢ f) → act_of e g s ≡ []
no_act d f e g (steps.Write device file at bytes) own h = ap (λ b. if b then Wrote at bytes.items ∷ [] else []) (other_file d f e g device file own h)
no_act d f e g (steps.Cut device file n) own h = ap (λ b. if b then CutTo n ∷ [] else []) (other_file d f e g device file own h)
no_act d f e g (steps.Sync device file) own h = ap (λ b. if b then Synced ∷ [] else []) (other_file d f e g device file own h)
no_act d f e g (steps.Say bytes) own h = refl
no_act d f e g (steps.Fail call device file at bytes left) own h = not_mine call d f e g device file at bytes.items left.items own h

pub acts_elsewhere : (d f e g : ℕ) → (e ≢ d) ⊎ (g ≢ f) → (trace : List Step) → acts_of e g (elsewhere d f trace) ≡ acts_of e g trace
acts_elsewhere d f e g h [] = refl
acts_elsewhere d f e g h (s ∷ trace) = by_test (acts_elsewhere d f e g h trace) (is_of d f s) refl
  where
    by_test : acts_of e g (elsewhere d f trace) ≡ acts_of e g trace → (b : Bool) → is_of d f s ≡ b → acts_of e g (if not b then s ∷ elsewhere d f trace else elsewhere d f trace) ≡ act_of e g s ++ acts_of e g trace
    by_test rest true own = rest ∙ ap (λ (l : List FileAct). l ++ acts_of e g trace) (sym (no_act d f e g s own h))
    by_test rest false other = ap (λ (l : List FileAct). act_of e g s ++ l) rest

-- another file is as it was
pub kept : (f d g : ℕ) (old now : Past) → IsBefore old now → OnlyMoves f old now → (d ≢ old.device) ⊎ (g ≢ f) → IsKept d g old now
kept f d g old now before only h =
    let same : acts_of d g now.trace ≡ acts_of d g old.trace = sym (acts_elsewhere old.device f d g h now.trace) ∙ (ap (acts_of d g) only ∙ acts_elsewhere old.device f d g h old.trace) in
    let start : now.start ≡ old.start = ap (λ p. p.start) before.1 in
    record {
      content = (λ i. content (start i d g) (same i));
      images = λ file image. subst (λ (l : List FileAct). IsCrashImage (old.start d g) l file) same (subst (λ (st : ℕ → ℕ → List ℕ). IsCrashImage (st d g) (acts_of d g now.trace) file) start image);
    }

pub is_write : (d f at : ℕ) (bytes : List ℕ) → IsStepOf d f (steps.Write d f at (plain bytes)) (Wrote at bytes)
is_write d f at bytes = step_of d f _ (Wrote at bytes ∷ []) _ refl refl refl

pub is_cut : (d f n : ℕ) → IsStepOf d f (steps.Cut d f n) (CutTo n)
is_cut d f n = step_of d f _ (CutTo n ∷ []) _ refl refl refl

pub is_synced : (d f : ℕ) → IsStepOf d f (steps.Sync d f) Synced
is_synced d f = step_of d f _ (Synced ∷ []) _ refl refl refl

pub is_failed : (call : Call) (d f at : ℕ) (bytes left : List ℕ) (a : FileAct) → failed_act call at bytes left ≡ a ∷ [] → is_file_call call ≡ true → IsStepOf d f (steps.Fail call d f at (plain bytes) (plain left)) a
is_failed call d f at bytes left a is file_call = step_of d f _ (failed_act call at bytes left) a refl is (ap (λ b. b && (d == d && f == f)) file_call)

-- ---- one step more

module _ (f : ℕ) (old : Past) (s : Step) (a : FileAct) (is : IsStepOf old.device f s a) where
  abbrev next : Past
  next = with_steps old (s ∷ [])

  acts_more : acts_of old.device f next.trace ≡ acts_of old.device f old.trace ++ a ∷ []
  acts_more = acts_of-snoc old.device f old.trace s ∙ ap (λ (l : List FileAct). acts_of old.device f old.trace ++ l) is.own

  pub reads_more : content_of next f ≡ after (content_of old f) a
  reads_more = ap (content (old.start old.device f)) acts_more ∙ content-append (old.start old.device f) (acts_of old.device f old.trace) (a ∷ [])

  pub only_moves : OnlyMoves f old next
  only_moves = filter-append (λ t. not (is_of old.device f t)) old.trace (s ∷ []) ∙ (ap (λ b. elsewhere old.device f old.trace ++ (if not b then s ∷ [] else [])) is.mine ∙ append-nil _)

  pub image_more : is_sync a ≡ false → (file : List ℕ) → IsCrashImageOf next f file → (was : List ℕ) × IsCrashImageOf old f was × IsChanged (content_of old f) a was file
  image_more other file image = image_act (old.start old.device f) (acts_of old.device f old.trace) a file other (subst (λ (l : List FileAct). IsCrashImage (old.start old.device f) l file) acts_more image)

  pub image_synced : a ≡ Synced → (file : List ℕ) → IsCrashImageOf next f file → file ≡ content_of old f
  image_synced sync file image =
      image_sync (old.start old.device f) (acts_of old.device f old.trace) file (subst (λ (l : List FileAct). IsCrashImage (old.start old.device f) l file) (acts_more ∙ ap (λ b. acts_of old.device f old.trace ++ b ∷ []) sync) image)

  pub changes_by : (R : List ℕ → List ℕ → Type 0) → is_sync a ≡ false → ((was file : List ℕ) → IsChanged (content_of old f) a was file → R was file) → Changes f R old next
  changes_by R other change = record {
    images = λ file image. let m = image_more other file image in (m.0, m.1, change m.0 file m.2);
    others = only_moves;
  }

pub only_trans : (f : ℕ) (a b c : Past) → b.device ≡ a.device → OnlyMoves f a b → OnlyMoves f b c → OnlyMoves f a c
only_trans f a b c same ab bc = subst (λ d. elsewhere d f c.trace ≡ elsewhere d f b.trace) same bc ∙ ab

pub same_device : (a b : Past) → IsBefore a b → b.device ≡ a.device
same_device a b before = ap (λ p. p.device) before.1

pub changes_at : (f : ℕ) (R : List ℕ → List ℕ → Type 0) (old : Past) → ((file : List ℕ) → R file file) → Changes f R old old
changes_at f R old same = record { images = λ file image. (file, image, same file); others = refl }

pub torn_same : (size at n : ℕ) (file : List ℕ) → IsTorn size at n file file
torn_same size at n file = record { no_shorter = omega arith; no_longer = omega arith; kept = λ i h out. refl }

-- ---- a write and its sync

module _ (f at : ℕ) (bytes : List ℕ) (old mid : Past) where
  abbrev Torn : Past → Type 0
  Torn now = Changes f (IsTorn (length (content_of old f)) at (length bytes)) old now

  torn_at : Torn old
  torn_at = changes_at f _ old (torn_same (length (content_of old f)) at (length bytes))

  pub write_goes : mid ≡ with_steps old (steps.Write old.device f at (plain bytes) ∷ []) → Throughout old mid Torn
  write_goes is = one_step old mid Torn _ is torn_at (subst Torn (sym is) (changes_by f old _ _ (is_write old.device f at bytes) _ refl (wrote (content_of old f) at bytes)))

  pub write_reads : mid ≡ with_steps old (steps.Write old.device f at (plain bytes) ∷ []) → content_of mid f ≡ written (content_of old f) at bytes
  write_reads is = ap (λ p. content_of p f) is ∙ reads_more f old _ _ (is_write old.device f at bytes)

  pub write_fails : FailsOf calls.Write f at bytes (IsTorn (length (content_of old f)) at (length bytes)) old mid → Throughout old mid Torn
  write_fails (inl is) = no_step old mid Torn is torn_at
  write_fails (inr (left, honest, is)) =
      one_step old mid Torn _ is torn_at (subst Torn (sym is) (changes_by f old _ _ (is_failed calls.Write old.device f at bytes left _ refl refl) _ refl (λ was file. write_failed (content_of old f) at bytes left was file honest)))

module _ (f : ℕ) (R : List ℕ → List ℕ → Type 0) (old mid new : Past) (so_far : Throughout old mid (Changes f R old)) (reads_left : IsCrashImageOf mid f (content_of mid f)) where
  now_so_far : Changes f R old mid
  now_so_far = at_end old mid (Changes f R old) so_far

  others_more : (next : Past) → OnlyMoves f mid next → OnlyMoves f old next
  others_more next more = only_trans f old mid next (same_device old mid so_far.goes_on) now_so_far.others more

  pub sync_goes : new ≡ with_steps mid (steps.Sync mid.device f ∷ []) → Throughout old new (Changes f R old)
  sync_goes is =
      let own = is_synced mid.device f in
      let P = Changes f R old in
      join old mid new P so_far (one_step mid new P _ is now_so_far (subst P (sym is) (record {
        images = λ file image. subst (λ now. (was : List ℕ) × IsCrashImageOf old f was × R was now) (sym (image_synced f mid _ _ own refl file image)) (now_so_far.images (content_of mid f) reads_left);
        others = others_more (with_steps mid (steps.Sync mid.device f ∷ [])) (only_moves f mid _ _ own);
      })))

  pub sync_fails : FailsOf calls.Sync f 0 [] (λ old new. new ≡ old) mid new → Throughout old new (Changes f R old)
  sync_fails (inl is) = join old mid new (Changes f R old) so_far (no_step mid new (Changes f R old) is now_so_far)
  sync_fails (inr (left, honest, is)) =
      let own = is_failed calls.Sync mid.device f 0 [] left SyncFailed refl refl in
      let P = Changes f R old in
      join old mid new P so_far (one_step mid new P _ is now_so_far (subst P (sym is) (record {
        images = λ file image.
            let m = image_more f mid _ _ own refl file image in
            let same = sync_failed (content_of mid f) m.0 file m.2 in
            now_so_far.images file (subst (IsCrashImageOf mid f) (sym same) m.1);
        others = others_more (with_steps mid (steps.Fail calls.Sync mid.device f 0 (plain []) (plain left) ∷ [])) (only_moves f mid _ _ own);
      })))

pub sync_settles : (f : ℕ) (bytes : List ℕ) (mid new : Past) → content_of mid f ≡ bytes → new ≡ with_steps mid (steps.Sync mid.device f ∷ []) → IsSettled f bytes new
sync_settles f bytes mid new reads is =
    let own = is_synced mid.device f in
    record {
      content = ap (λ p. content_of p f) is ∙ (reads_more f mid _ _ own ∙ reads);
      only = λ file image. image_synced f mid _ _ own refl file (subst (λ t. IsCrashImageOf t f file) is image) ∙ reads;
    }
