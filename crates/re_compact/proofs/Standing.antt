-- Where a journal stands while a snapshot is laid and its gate opened.
use Rattle.std.specs.Prelude.{◌==◌, ◌||◌, not}
use Rattle.std.specs.List.{flat_map}
use Rattle.std.proofs.Common.{◌≡◌, ◌≢◌, inl, inr, ℕ, ◌+◌, ◌<◌, ◌≤◌, true, false, List, [], ◌∷◌, ◌++◌, length, slice_index, Option, Some, None, refl, sym, ◌∙◌, ap, subst, arith, length-append}
use Rattle.std.proofs.lemmas.Bool.Decides.{eqb_tells, leb_tells}
use Rattle.re_outside.specs.Frame.{StoreFrame, Blank, Bad, Store, HasStoreFrame, HasFrame, opened, framed, is_blank}
use Rattle.re_outside.specs.Moment.{Throughout, IsSettled}
use Rattle.re_outside.specs.Plan.{StopsAt}
use Rattle.re_outside.specs.Trace.{Past, with_steps, content_of}
use Rattle.re_outside.specs.declared.step.Step.{Step}
use Rattle.re_outside.proofs.Moments.{at_end, no_step}
use Rattle.re_outside.proofs.Safe.{ran_safe}
use Rattle.re_journal.specs.Commits.{StopsJournal}
use Rattle.re_journal.specs.Journals.{other_file, frame_of, KnowsFiles}
use Rattle.re_journal.specs.declared.journal.Journal.{Journal}
use Rattle.re_compact.specs.Laying.{prepare_steps, publish_steps}
use Rattle.re_compact.specs.Pair.{Holds, Rests, StandsIn, IsPrepared, MayReplace, IsOldOrNew, TurnsOver}
use Rattle.re_compact.proofs.Crash.{own_content, prepare_leaves, prepared_throughout, prepare_stopped_throughout, prepared_settled, prepared_rests, publish_leaves, published_throughout, publish_stopped_throughout, published_settled, published_rests, settled_of, zero_blank}
use Rattle.re_compact.proofs.Stores.{has_frame}

-- ---- what the journal knows

pub knows : (j : Journal) (held : StoreFrame) (now : Past) → StandsIn j held now → KnowsFiles j now
knows j Blank now stands = stands.stands.files
knows j (Bad number place) now stands = absurd stands.here
knows j (Store number snapshot bodies) now stands = stands.stands.files

-- at rest nothing but what is held may be left
pub at_rest : (held : StoreFrame) (P : StoreFrame → Type 0) (now : Past) → Rests held now → P held → Holds P now now
at_rest held P now rests is = record {
  images = λ first second a b.
      (held, subst (λ l. HasStoreFrame l second held) (sym (rests.first.only first a)) (subst (λ l. HasStoreFrame (content_of now 0) l held) (sym (rests.second.only second b)) rests.frame), is);
  others = refl;
}

pub still : (held : StoreFrame) (P : StoreFrame → Type 0) (now : Past) → Rests held now → P held → Throughout now now (Holds P now)
still held P now rests is = no_step now now (Holds P now) refl (at_rest held P now rests is)

apart : (f : ℕ) → f < 2 → f ≢ other_file f
apart f low = λ e. absurd (omega arith)

-- ---- the frame is written

module _ (j : Journal) (held : StoreFrame) (old : Past) (stands : StandsIn j held old) (bytes : List ℕ) where
  abbrev g : ℕ
  g = other_file j.file

  abbrev plan : List Step
  plan = prepare_steps old.device g j.other_blank j.other_length bytes

  abbrev real_plan : List Step
  real_plan = prepare_steps old.device g (is_blank (content_of old g)) (length (content_of old g)) bytes

  plan_is : plan ≡ real_plan
  plan_is = let k = knows j held old stands in λ i. prepare_steps old.device g (k.other_blank i) (k.other_length i) bytes

  pub lay_done : (new : Past) → new ≡ with_steps old plan → Throughout old new (Holds (λ frame. frame ≡ held) old)
  lay_done new is = prepared_throughout held old stands.rests j.file j.file_is stands.here bytes new (is ∙ ap (with_steps old) plan_is)

  pub lay_stopped : (calls : ℕ) (stopped : Option ℕ) (new : Past) → StopsJournal plan calls stopped old new → Throughout old new (Holds (λ frame. frame ≡ held) old)
  lay_stopped calls None new none = absurd none
  lay_stopped calls (Some at) new (number, is, stops) =
      prepare_stopped_throughout held old stands.rests j.file j.file_is stands.here bytes calls number new (subst (λ (l : List Step). StopsAt l calls number old new) plan_is stops)

  pub lay_settled : (new : Past) → new ≡ with_steps old plan → IsSettled g (0 ∷ bytes) new
  lay_settled new is = prepared_settled held old stands.rests j.file j.file_is stands.here bytes new (is ∙ ap (with_steps old) plan_is)

  lay_rests : (new : Past) → new ≡ with_steps old plan → Rests held new
  lay_rests new is = prepared_rests held old new stands.rests j.file j.file_is stands.here bytes (is ∙ ap (with_steps old) plan_is)

  lay_own : (new : Past) → new ≡ with_steps old plan → content_of new j.file ≡ content_of old j.file
  lay_own new is =
      let leaves = at_end old new _ (ran_safe _ real_plan old new (prepare_leaves held old stands.rests j.file j.file_is stands.here bytes) (is ∙ ap (with_steps old) plan_is)) in
      own_content j.file g (apart j.file j.file_is) old new (real_plan, is ∙ ap (with_steps old) plan_is) leaves.others

-- the journal once the frame is written
pub record Prepares (n : ℕ) (old new : Journal) : Type 0 where
  pub file : new.file ≡ old.file
  pub start : new.start ≡ old.start
  pub gate : new.gate ≡ old.gate
  pub length : new.length ≡ old.length
  pub other_length : new.other_length ≡ 1 + n
  pub other_blank : new.other_blank ≡ true

module _ (j : Journal) (old : Past) (bytes : List ℕ) (new : Past) (k : Journal) (moved : Prepares (length bytes) j k) where
  own_settled_now : (held : StoreFrame) → Rests held new → IsSettled k.file (content_of new k.file) new
  own_settled_now held rests = settled_of held new rests k.file k.file_is

  knows_now : (held : StoreFrame) (stands : StandsIn j held old) → new ≡ with_steps old (prepare_steps old.device (other_file j.file) j.other_blank j.other_length bytes) → KnowsFiles k new
  knows_now held stands is =
      let rests = lay_rests j held old stands bytes new is in
      let own : content_of new k.file ≡ content_of old j.file = ap (content_of new) moved.file ∙ lay_own j held old stands bytes new is in
      let other : content_of new (other_file k.file) ≡ 0 ∷ bytes = ap (λ f. content_of new (other_file f)) moved.file ∙ (lay_settled j held old stands bytes new is).content in
      record {
        own = settled_of held new rests k.file k.file_is;
        own_length = moved.length ∙ ((knows j held old stands).own_length ∙ ap length (sym own));
        other = settled_of held new rests (other_file k.file) (omega arith);
        other_length = moved.other_length ∙ sym (ap length other ∙ omega arith);
        other_blank = moved.other_blank ∙ sym (ap is_blank other ∙ zero_blank bytes);
      }

  own_now : (held : StoreFrame) (stands : StandsIn j held old) → new ≡ with_steps old (prepare_steps old.device (other_file j.file) j.other_blank j.other_length bytes) → content_of new k.file ≡ content_of old j.file
  own_now held stands is = ap (content_of new) moved.file ∙ lay_own j held old stands bytes new is

  pub stands_prepared : (held : StoreFrame) → StandsIn j held old → new ≡ with_steps old (prepare_steps old.device (other_file j.file) j.other_blank j.other_length bytes) → StandsIn k held new
  stands_prepared Blank stands is = record {
    rests = lay_rests j Blank old stands bytes new is;
    here = tt;
    stands = record {
      files = knows_now Blank stands is;
      own_blank = ap is_blank (own_now Blank stands is) ∙ stands.stands.own_blank;
      other_blank = moved.other_blank;
      start = moved.start ∙ stands.stands.start;
      gate = moved.gate ∙ stands.stands.gate;
    };
  }
  stands_prepared (Bad number place) stands is = absurd stands.here
  stands_prepared (Store number snapshot bodies) stands is = record {
    rests = lay_rests j (Store number snapshot bodies) old stands bytes new is;
    here = stands.here ∙ sym moved.file;
    stands = record {
      files = knows_now (Store number snapshot bodies) stands is;
      gates = record {
        frame = subst (λ l. HasFrame l snapshot bodies) (sym (own_now (Store number snapshot bodies) stands is)) stands.stands.gates.frame;
        start = moved.start ∙ stands.stands.gates.start;
        gate = moved.gate ∙ stands.stands.gates.gate;
      };
    };
  }

-- ---- the gate is opened

-- a file with a frame isn't blank
frame_full : (file snapshot : List ℕ) (bodies : List (List ℕ)) → HasFrame file snapshot bodies → is_blank file ≡ false
frame_full file snapshot bodies (rest, reads, shut) = ap is_blank reads.whole ∙ long ((framed snapshot ++ flat_map opened bodies) ++ rest) (omega (arith, length-append (framed snapshot ++ flat_map opened bodies) rest, length-append (framed snapshot) (flat_map opened bodies)))
  where
    long : (tail : List ℕ) → 1 ≤ length tail → is_blank (1 ∷ tail) ≡ false
    long tail some = elim (leb_tells (length (1 ∷ tail)) 1) [
      | inl short ↦ absurd (omega (arith, short.1))
      | inr more ↦ ap (λ b. b || not (slice_index (1 ∷ tail) 0 == 1)) more.0
    ]

-- whether its file is blank, the journal tells by where it starts
blank_by_start : (j : Journal) (held : StoreFrame) (now : Past) → StandsIn j held now → (j.start == 0) ≡ is_blank (content_of now j.file)
blank_by_start j Blank now stands = ap (λ n. n == 0) stands.stands.start ∙ sym stands.stands.own_blank
blank_by_start j (Bad number place) now stands = absurd stands.here
blank_by_start j (Store number snapshot bodies) now stands =
    elim (eqb_tells j.start 0) [
      | inl same ↦ absurd (omega (arith, same.1, stands.stands.gates.start))
      | inr other ↦ other.0 ∙ sym (frame_full (content_of now j.file) snapshot bodies stands.stands.gates.frame)
    ]

module _ (j : Journal) (held : StoreFrame) (old : Past) (stands : StandsIn j held old) (snapshot : List ℕ) (prepared : IsPrepared j snapshot old) (may : MayReplace (content_of old j.file) snapshot) where
  abbrev plan_of : List Step
  plan_of = publish_steps old.device (other_file j.file)

  pub open_done : (new : Past) → new ≡ with_steps old plan_of → Throughout old new (Holds (IsOldOrNew held (other_file j.file) snapshot) old)
  open_done new is = published_throughout held old stands.rests snapshot may.generation may.snapshot_fits j.file j.file_is stands.here may.newer prepared new is

  pub open_stopped : (calls : ℕ) (stopped : Option ℕ) (new : Past) → StopsJournal plan_of calls stopped old new → Throughout old new (Holds (IsOldOrNew held (other_file j.file) snapshot) old)
  open_stopped calls None new none = absurd none
  open_stopped calls (Some at) new (number, is, stops) = publish_stopped_throughout held old stands.rests snapshot may.generation may.snapshot_fits j.file j.file_is stands.here may.newer prepared calls number new stops

  module _ (new : Past) (is : new ≡ with_steps old (publish_steps old.device (other_file j.file))) where
    open_settled : IsSettled (other_file j.file) (1 ∷ frame_of snapshot) new
    open_settled = published_settled held old stands.rests snapshot may.generation may.snapshot_fits j.file j.file_is stands.here may.newer prepared new is

    open_rests : Rests (Store (other_file j.file) snapshot []) new
    open_rests = published_rests held old new stands.rests snapshot may.generation may.snapshot_fits j.file j.file_is stands.here may.newer prepared is

    open_own : content_of new j.file ≡ content_of old j.file
    open_own =
        let leaves = at_end old new _ (ran_safe _ (publish_steps old.device (other_file j.file)) old new (publish_leaves held old stands.rests snapshot may.generation may.snapshot_fits j.file j.file_is stands.here may.newer prepared) is) in
        own_content j.file (other_file j.file) (apart j.file j.file_is) old new (publish_steps old.device (other_file j.file), is) leaves.others

    module _ (count : ℕ) (k : Journal) (moved : TurnsOver count j k) where
      content_now : content_of new k.file ≡ 1 ∷ frame_of snapshot
      content_now = ap (content_of new) moved.file ∙ open_settled.content

      back : other_file k.file ≡ j.file
      back = ap other_file moved.file ∙ (let low = j.file_is in omega arith)

      content_other : content_of new (other_file k.file) ≡ content_of old j.file
      content_other = ap (content_of new) back ∙ open_own

      laid_length : j.other_length ≡ 1 + length (frame_of snapshot)
      laid_length = (knows j held old stands).other_length ∙ (ap length prepared.content ∙ omega arith)

      pub stands_published : StandsIn k (Store (other_file j.file) snapshot []) new
      stands_published = record {
        rests = open_rests;
        here = sym moved.file;
        stands = record {
          files = record {
            own = settled_of (Store (other_file j.file) snapshot []) new open_rests k.file k.file_is;
            own_length = moved.length ∙ (laid_length ∙ sym (ap length content_now ∙ omega arith));
            other = settled_of (Store (other_file j.file) snapshot []) new open_rests (other_file k.file) (omega arith);
            other_length = moved.other_length ∙ ((knows j held old stands).own_length ∙ ap length (sym content_other));
            other_blank = moved.other_blank ∙ (blank_by_start j held old stands ∙ ap is_blank (sym content_other));
          };
          gates = record {
            frame = subst (λ l. HasFrame l snapshot []) (sym content_now) (has_frame snapshot may.generation may.snapshot_fits);
            start = moved.start ∙ omega (arith, laid_length, length-append (framed snapshot) (0 ∷ []));
            gate = moved.gate ∙ omega (arith, laid_length, length-append (framed snapshot) (0 ∷ []), length-append (opened snapshot) []);
          };
        };
      }
