-- A commit behind a new snapshot: the snapshot is laid, its gate is opened, and the record is committed there.
use Rattle.std.specs.Prelude.{nat_le, if◌then◌else◌, Result, Ok, Err, OnOk}
use Rattle.std.proofs.Common.{◌≡◌, ◌⊎◌, inl, inr, ℕ, zero, suc, ◌+◌, ◌-◌, ◌^◌, ◌<◌, ◌≤◌, Bool, true, false, List, [], ◌∷◌, ◌++◌, length, Option, Some, None, refl, sym, ◌∙◌, ap, subst, arith, length-append}
use Rattle.std.specs.List.{flat_map}
use Rattle.re_outside.specs.Frame.{StoreFrame, Store, HasStoreFrame, HasFrame, HasGeneration, IsRecordLength, MayOpen, generation, opened}
use Rattle.re_outside.specs.Moment.{Throughout, Leaves, IsSettled, OnlyMoves}
use Rattle.re_outside.specs.Plan.{StopsAt, WriteAt, CutAt, synced_steps}
use Rattle.re_outside.specs.Trace.{Past, with_steps, content_of, elsewhere_on}
use Rattle.re_outside.specs.declared.step.Step.{Step}
use Rattle.re_outside.proofs.Moments.{at_end, goes_nothing, join, weaken}
use Rattle.re_outside.proofs.Stores.{generation_read}
use Rattle.re_journal.proofs.Stopping.{stops_later}
use Rattle.re_journal.specs.Commits.{StopsJournal, IsStopOf, commit_steps}
use Rattle.re_journal.specs.Journals.{calls_after, other_file, frame_of, HasAllOrOneMore, MayFollow, StandsOn}
use Rattle.re_journal.specs.declared.journal.Journal.{Journal}
use Rattle.re_compact.proofs.Commits.{IsAllOrOneMore, commit_throughout, first_with, second_with}
use Rattle.re_compact.proofs.Crash.{as_read, one_zero, own_content, own_settled, zero_one}
use Rattle.re_compact.proofs.Steps.{then_steps}
use Rattle.re_compact.specs.Committing.{IsLeftBy, Succeeds}
use Rattle.re_compact.specs.Laying.{laying_calls, prepare_steps, publish_steps}
use Rattle.re_compact.specs.Pair.{Holds, IsOldOrNew, MayReplace, Rests, StandsIn, TurnsOver}

-- ---- the calls

-- a call of the first part failed
front_stops : (a b : List Step) (calls at : ℕ) (old new : Past) → StopsAt a calls at old new → StopsAt (a ++ b) calls at old new
front_stops [] b calls at old new none = absurd none
front_stops (s ∷ a) b calls at old new (inl here) = inl here
front_stops (s ∷ a) b calls at old new (inr there) = inr (front_stops a b (calls + 1) at (with_steps old (s ∷ [])) new there)

pub stops_in_front : (a b : List Step) (calls : ℕ) (stopped : Option ℕ) (old new : Past) → StopsJournal a calls stopped old new → StopsJournal (a ++ b) calls stopped old new
stops_in_front a b calls None old new none = absurd none
stops_in_front a b calls (Some at) old new (number, is, stops) = (number, is, front_stops a b calls number old new stops)

-- a call behind the first part failed, where some stand in it, or the count of calls fits
pub stops_behind : (a b : List Step) (calls : ℕ) (stopped : Option ℕ) (old new : Past) → (0 < length a) ⊎ (calls < 2 ^ 64) → StopsJournal b (calls_after (length a) calls) stopped (with_steps old a) new → StopsJournal (a ++ b) calls stopped old new
stops_behind [] b calls stopped old new (inl some) stops = absurd (omega (arith, some))
stops_behind [] b calls stopped old new (inr low) stops =
    subst (λ p. StopsJournal b calls stopped p new) (sym (goes_nothing old)) (subst (λ n. StopsJournal b n stopped (with_steps old []) new) (omega (arith, low)) stops)
stops_behind (s ∷ a) b calls stopped old new either stops =
    stops_later s (a ++ b) calls stopped old new (stops_behind a b (calls_after 1 calls) stopped (with_steps old (s ∷ [])) new (inr (omega arith))
    (subst (λ p. StopsJournal b (calls_after (length a) (calls_after 1 calls)) stopped p new) (sym (then_steps old (s ∷ []) a))
    (subst (λ n. StopsJournal b n stopped (with_steps old (s ∷ a)) new) (omega arith) stops)))

-- how many calls a laying takes
pub prepare_count : (d g : ℕ) (blank : Bool) (size : ℕ) (framed : List ℕ) → length (prepare_steps d g blank size framed) ≡ laying_calls blank size
prepare_count d g blank size framed = by_tests blank (nat_le size 1)
  where
    by_tests : (b s : Bool) → length (synced_steps d g ((if b then [] else WriteAt 0 (0 ∷ []) ∷ []) ++ (if s then [] else CutAt 1 ∷ []) ++ (WriteAt 0 (0 ∷ []) ∷ WriteAt 1 framed ∷ []))) ≡ (if b then 0 else 2) + (if s then 0 else 2) + 4
    by_tests true true = refl
    by_tests true false = refl
    by_tests false true = refl
    by_tests false false = refl

-- the number of a call that failed behind others
pub stop_behind : (k n m calls : ℕ) (stopped : Option ℕ) → k + n ≤ m → IsStopOf n (calls_after k calls) stopped → IsStopOf m calls stopped
stop_behind k n m calls None fits none = absurd none
stop_behind k n m calls (Some at) fits (i, low, high, is) = (k + i, omega arith, omega arith, is ∙ omega arith)

-- the same behind a laying, and behind the opening of its gate
pub opening_stop : (laid calls count : ℕ) (stopped : Option ℕ) → count ≡ calls_after laid calls → IsStopOf 2 count stopped → IsStopOf (laid + 6) calls stopped
opening_stop laid calls count stopped counted stop = stop_behind laid 2 (laid + 6) calls stopped (omega arith) (subst (λ n. IsStopOf 2 n stopped) counted stop)

pub record_stop : (laid calls count last : ℕ) (stopped : Option ℕ) → count ≡ calls_after laid calls → last ≡ calls_after 2 count → IsStopOf 4 last stopped → IsStopOf (laid + 6) calls stopped
record_stop laid calls count last stopped counted turned stop =
    stop_behind laid 6 (laid + 6) calls stopped (omega arith) (subst (λ n. IsStopOf 6 n stopped) counted (stop_behind 2 4 6 count stopped (omega arith) (subst (λ n. IsStopOf 4 n stopped) turned stop)))

-- ---- the store on which the journal stands

-- the gate behind its records may be open where the journal has few bytes, or its file the last generation
pub may_open : (j : Journal) (f : ℕ) (s : List ℕ) (bs : List (List ℕ)) (now : Past) → StandsIn j (Store f s bs) now → (j.gate - j.start - 1 ≤ 65536) ⊎ (generation s ≡ 2 ^ 62) → MayOpen (generation s) bs
may_open j f s bs now stands (inr last) = inr last
may_open j f s bs now stands (inl few) =
    let gates = stands.stands.gates in
    inl (omega (arith, few, gates.start, gates.gate, length-append (opened s) (flat_map opened bs)))

-- its file has the generation of its snapshot
own_generation : (j : Journal) (f : ℕ) (s : List ℕ) (bs : List (List ℕ)) (now : Past) → StandsIn j (Store f s bs) now → HasGeneration (content_of now j.file) (generation s)
own_generation j f s bs now stands = by_file stands.rests.frame
  where
    by_file : HasStoreFrame (content_of now 0) (content_of now 1) (Store f s bs) → HasGeneration (content_of now j.file) (generation s)
    by_file (file, inl (zero_is, at, g, has, older), frame) =
        subst (λ n. HasGeneration (content_of now n) (generation s)) (sym zero_is ∙ stands.here)
        (subst (HasGeneration (content_of now 0)) (sym (generation_read (content_of now 0) s bs g has (subst (λ l. HasFrame l s bs) at frame))) has)
    by_file (file, inr (one_is, at, g, has, older), frame) =
        subst (λ n. HasGeneration (content_of now n) (generation s)) (sym one_is ∙ stands.here)
        (subst (HasGeneration (content_of now 1)) (sym (generation_read (content_of now 1) s bs g has (subst (λ l. HasFrame l s bs) at frame))) has)

-- a snapshot that succeeds may take its place
pub may_replace : (j : Journal) (f : ℕ) (s new : List ℕ) (bs : List (List ℕ)) (now : Past) → StandsIn j (Store f s bs) now → Succeeds s new → MayReplace (content_of now j.file) new
may_replace j f s new bs now stands succeeds = record {
  generation = succeeds.number;
  snapshot_fits = succeeds.fits;
  newer = inr (generation s, own_generation j f s bs now stands, succeeds.newer);
}

-- a record may follow a snapshot alone
pub may_begin : (s body framed : List ℕ) → framed ≡ frame_of body → IsRecordLength (length body) → MayFollow s [] body framed
may_begin s body framed whole fits = record { whole = whole; fits = fits; opens = inl (omega arith) }

-- ---- the record is committed

module _ (j : Journal) (f : ℕ) (s body : List ℕ) (bs : List (List ℕ)) (old new : Past) (stands : StandsIn j (Store f s bs) old) (t : Throughout old new (Leaves j.file (HasAllOrOneMore s bs body) old)) where
  file_low : f < 2
  file_low = subst (λ n. n < 2) (sym stands.here) j.file_is

  moved : Throughout old new (Leaves f (HasAllOrOneMore s bs body) old)
  moved = subst (λ n. Throughout old new (Leaves n (HasAllOrOneMore s bs body) old)) (sym stands.here) t

  -- at each moment
  pub committed_throughout : Throughout old new (Holds (IsAllOrOneMore f s bs body) old)
  committed_throughout = commit_throughout f file_low old new s body bs stands.rests moved

  rests_after : (n : ℕ) → n < 2 → (cs : List (List ℕ)) → Rests (Store n s bs) old → OnlyMoves n old new → IsSettled n (content_of new n) new → HasFrame (content_of new n) s cs → Rests (Store n s cs) new
  rests_after zero low cs rests only settled has = record {
    first = settled;
    second = as_read 1 (content_of old 1) new (own_settled 1 0 one_zero old new t.goes_on only (content_of old 1) rests.second);
    frame = subst (λ l. HasStoreFrame (content_of new 0) l (Store 0 s cs)) (sym (own_content 1 0 one_zero old new t.goes_on only)) (first_with old s (content_of new 0) bs cs rests.frame has);
  }
  rests_after (suc zero) low cs rests only settled has = record {
    first = as_read 0 (content_of old 0) new (own_settled 0 1 zero_one old new t.goes_on only (content_of old 0) rests.first);
    second = settled;
    frame = subst (λ l. HasStoreFrame l (content_of new 1) (Store 1 s cs)) (sym (own_content 0 1 zero_one old new t.goes_on only)) (second_with old s (content_of new 1) bs cs rests.frame has);
  }
  rests_after (suc (suc n)) low cs rests only settled has = absurd (omega arith)

  -- at the end
  pub stands_committed : (k : Journal) → k.file ≡ j.file → StandsOn k s (bs ++ body ∷ []) new → StandsIn k (Store f s (bs ++ body ∷ [])) new
  stands_committed k same on =
      let here : k.file ≡ f = same ∙ sym stands.here in
      record {
        rests = rests_after f file_low (bs ++ body ∷ []) stands.rests (at_end old new _ moved).others (subst (λ n. IsSettled n (content_of new n) new) here on.files.own) (subst (λ n. HasFrame (content_of new n) s (bs ++ body ∷ [])) here on.gates.frame);
        here = sym here;
        stands = on;
      }

-- ---- moments

pub holds_more : (P Q : StoreFrame → Type 0) (old now : Past) → ((frame : StoreFrame) → P frame → Q frame) → Holds P old now → Holds Q old now
holds_more P Q old now f h = record {
  images = λ first second one two. let found = h.images first second one two in (found.0, found.1, f found.0 found.2);
  others = h.others;
}

pub throughout_more : (P Q : StoreFrame → Type 0) (old now : Past) → ((frame : StoreFrame) → P frame → Q frame) → Throughout old now (Holds P old) → Throughout old now (Holds Q old)
throughout_more P Q old now f t = weaken old now (Holds P old) (Holds Q old) (λ past. holds_more P Q old past f) t

-- what holds since a moment between holds since the beginning
holds_since : (P : StoreFrame → Type 0) (old mid now : Past) → mid.device ≡ old.device → elsewhere_on old.device mid.trace ≡ elsewhere_on old.device old.trace → Holds P mid now → Holds P old now
holds_since P old mid now same moved h = record {
  images = h.images;
  others = subst (λ d. elsewhere_on d now.trace ≡ elsewhere_on d mid.trace) same h.others ∙ moved;
}

pub join_holds : (P : StoreFrame → Type 0) (old mid now : Past) → mid.device ≡ old.device → Throughout old mid (Holds P old) → Throughout mid now (Holds P mid) → Throughout old now (Holds P old)
join_holds P old mid now same first second =
    let end = at_end old mid (Holds P old) first in
    join old mid now (Holds P old) first (weaken mid now (Holds P mid) (Holds P old) (λ past. holds_since P old mid past same end.others) second)

-- the parts of a commit behind a new snapshot
module _ (f : ℕ) (s new body : List ℕ) (bs : List (List ℕ)) where
  abbrev Left : StoreFrame → Type 0
  Left = IsLeftBy f s bs (Some new) body

  pub left_old : (frame : StoreFrame) → frame ≡ Store f s bs → Left frame
  left_old frame is = inl is

  pub left_laid : (frame : StoreFrame) → IsOldOrNew (Store f s bs) (other_file f) new frame → Left frame
  left_laid frame (inl is) = inl is
  left_laid frame (inr is) = inr (inl is)

  pub left_committed : (frame : StoreFrame) → IsAllOrOneMore (other_file f) new [] body frame → Left frame
  left_committed frame (inl is) = inr (inl is)
  left_committed frame (inr is) = inr (inr is)

-- a commit with no new snapshot
pub left_plain : (f : ℕ) (s body : List ℕ) (bs : List (List ℕ)) (frame : StoreFrame) → IsAllOrOneMore f s bs body frame → IsLeftBy f s bs None body frame
left_plain f s body bs frame (inl is) = inl is
left_plain f s body bs frame (inr is) = inr (inr is)

-- ---- the three parts

-- what holds where a call came through, and what follows from it
pub on_ok : {T : Type 0} {E : Type 0} (r : Result T E) (P Q : Type 0) → (P → Q) → OnOk r P → OnOk r Q
on_ok (Ok x) P Q f p = f p
on_ok (Err e) P Q f p = tt

module _ (j k : Journal) (laid framed : List ℕ) (old mid : Past) (done : mid ≡ with_steps old (prepare_steps old.device (other_file j.file) j.other_blank j.other_length laid))
    (moved : k ≡ record j { calls = calls_after (laying_calls j.other_blank j.other_length) j.calls; other_length = 1 + length laid; other_blank = true }) where
  abbrev laying_plan : List Step
  laying_plan = prepare_steps old.device (other_file j.file) j.other_blank j.other_length laid

  abbrev opening_plan : List Step
  opening_plan = publish_steps old.device (other_file j.file)

  abbrev record_plan : List Step
  record_plan = commit_steps old.device (other_file j.file) (length laid) framed

  counted : k.calls ≡ calls_after (laying_calls j.other_blank j.other_length) j.calls
  counted = ap (λ n. n.calls) moved

  opening_is : publish_steps mid.device (other_file k.file) ≡ opening_plan
  opening_is = λ i. publish_steps ((done i).device) (other_file ((moved i).file))

  -- a call behind the laying failed
  laid_stops : (rest : List Step) (stopped : Option ℕ) (new : Past) → StopsJournal rest k.calls stopped mid new → StopsJournal (laying_plan ++ rest) j.calls stopped old new
  laid_stops rest stopped new stops =
      let count : length laying_plan ≡ laying_calls j.other_blank j.other_length = prepare_count old.device (other_file j.file) j.other_blank j.other_length laid in
      stops_behind laying_plan rest j.calls stopped old new (inl (omega (arith, count)))
      (subst (λ p. StopsJournal rest (calls_after (length laying_plan) j.calls) stopped p new) done
      (subst (λ n. StopsJournal rest n stopped mid new) (counted ∙ ap (λ n. calls_after n j.calls) (sym count)) stops))

  pub opening_stops : (stopped : Option ℕ) (new : Past) → StopsJournal (publish_steps mid.device (other_file k.file)) k.calls stopped mid new → StopsJournal (laying_plan ++ (opening_plan ++ record_plan)) j.calls stopped old new
  opening_stops stopped new stops =
      laid_stops (opening_plan ++ record_plan) stopped new (stops_in_front opening_plan record_plan k.calls stopped mid new (subst (λ (l : List Step). StopsJournal l k.calls stopped mid new) opening_is stops))

  module _ (l : Journal) (late : Past) (published : late ≡ with_steps mid (publish_steps mid.device (other_file k.file))) (turned : TurnsOver (calls_after 2 k.calls) k l) where
    record_is : commit_steps late.device l.file l.gate framed ≡ record_plan
    record_is =
        let device : late.device ≡ old.device = ap (λ p. p.device) published ∙ ap (λ p. p.device) done in
        let file : l.file ≡ other_file j.file = turned.file ∙ ap (λ n. other_file n.file) moved in
        let gate : l.gate ≡ length laid = turned.gate ∙ (ap (λ n. n.other_length - 1) moved ∙ omega arith) in
        λ i. commit_steps (device i) (file i) (gate i) framed

    -- a call of the record failed
    pub record_stops : (stopped : Option ℕ) (new : Past) → StopsJournal (commit_steps late.device l.file l.gate framed) l.calls stopped late new → StopsJournal (laying_plan ++ (opening_plan ++ record_plan)) j.calls stopped old new
    record_stops stopped new stops =
        laid_stops (opening_plan ++ record_plan) stopped new
        (stops_behind opening_plan record_plan k.calls stopped mid new (inl (omega arith))
        (subst (λ p. StopsJournal record_plan (calls_after 2 k.calls) stopped p new) (published ∙ ap (with_steps mid) opening_is)
        (subst (λ n. StopsJournal record_plan n stopped late new) turned.calls
        (subst (λ (x : List Step). StopsJournal x l.calls stopped late new) record_is stops))))

-- the moments of the three parts
module _ (f h : ℕ) (s new body : List ℕ) (bs : List (List ℕ)) (old mid late : Past) (same : h ≡ f) (device : mid.device ≡ old.device) (first : Throughout old mid (Holds (λ frame. frame ≡ Store f s bs) old))
    (second : Throughout mid late (Holds (IsOldOrNew (Store f s bs) (other_file h) new) mid)) where
  pub opening_moments : Throughout old late (Holds (IsLeftBy f s bs (Some new) body) old)
  opening_moments =
      join_holds (IsLeftBy f s bs (Some new) body) old mid late device (throughout_more (λ frame. frame ≡ Store f s bs) (IsLeftBy f s bs (Some new) body) old mid (left_old f s new body bs) first)
      (throughout_more (IsOldOrNew (Store f s bs) (other_file f) new) (IsLeftBy f s bs (Some new) body) mid late (left_laid f s new body bs)
      (subst (λ n. Throughout mid late (Holds (IsOldOrNew (Store f s bs) (other_file n) new) mid)) same second))

  pub record_moments : (end : Past) → late.device ≡ mid.device → Throughout late end (Holds (IsAllOrOneMore (other_file h) new [] body) late) → Throughout old end (Holds (IsLeftBy f s bs (Some new) body) old)
  record_moments end device_too third =
      join_holds (IsLeftBy f s bs (Some new) body) old late end (device_too ∙ device) opening_moments
      (throughout_more (IsAllOrOneMore (other_file f) new [] body) (IsLeftBy f s bs (Some new) body) late end (left_committed f s new body bs)
      (subst (λ n. Throughout late end (Holds (IsAllOrOneMore (other_file n) new [] body) late)) same third))
