-- What the two files read as after a commit, told by the steps that were added and the gate of the record.
use Rattle.std.specs.Prelude.{nat_lt, ◌&&◌, ◌==◌, IfSome, Result, Err}
use Rattle.std.proofs.Common.{◌≡◌, inl, inr, ℕ, suc, ◌+◌, ◌-◌, ◌≤◌, Bool, true, false, List, [], ◌∷◌, ◌++◌, length, slice_index, Option, Some, None, sym, ◌∙◌, ap, subst, arith, append_assoc, length-append}
use Rattle.std.proofs.lemmas.Bool.{eq-eqb, le-leb, lt-leb, and_left, and_right}
use Rattle.std.proofs.lemmas.Bool.Decides.{eqb_tells, leb_tells}
use Rattle.std.proofs.lemmas.List.{nil_from_length}
use Rattle.std.proofs.Math.Seq.{get_or-append_seam}
use Rattle.re_outside.specs.Frame.{StoreFrame, Store, HasStoreFrame, HasFrame, framed, opened, front}
use Rattle.re_outside.specs.Plan.{StopsAt}
use Rattle.re_outside.specs.Moment.{Throughout}
use Rattle.re_outside.specs.Trace.{Past, IsBefore, IsCrashImageOf, with_steps, content_of}
use Rattle.re_outside.specs.declared.step.Step.{Step}
use Rattle.re_outside.proofs.Moments.{at_end, before_trans, goes_nothing}
use Rattle.re_journal.proofs.Records.{front_more}
use Rattle.re_journal.specs.Commits.{StopsJournal, HasCause}
use Rattle.re_journal.specs.Journals.{calls_after, other_file}
use Rattle.re_journal.specs.declared.fault.JournalFault.{JournalFault}
use Rattle.re_journal.specs.declared.fault.JournalFault.TheVariants.{Disk, Stopped}
use Rattle.re_journal.specs.declared.journal.Journal.{Journal}
use Rattle.re_compact.proofs.Commits.{IsAllOrOneMore}
use Rattle.re_compact.proofs.Committing.{prepare_count}
use Rattle.re_compact.specs.Committing.{steps_since, snapshot_calls, reads_open, IsReadBy, ReadAs}
use Rattle.re_compact.specs.Laying.{laying_calls, prepare_steps, publish_steps}
use Rattle.re_compact.specs.Pair.{Holds, StandsIn, IsOldOrNew}

-- ---- the gate behind some records

-- it is closed where no record stands behind them
shut_behind : (file s : List ℕ) (bs : List (List ℕ)) → HasFrame file s bs → (slice_index file (length (front s bs)) == 1) ≡ false
shut_behind file s bs (rest, reads, (gate, behind, shut, is)) =
    let byte : slice_index file (length (front s bs)) ≡ gate =
    ap (λ (l : List ℕ). slice_index l (length (front s bs))) (reads.whole ∙ ap (λ (l : List ℕ). front s bs ++ l) is) ∙ get_or-append_seam (front s bs) gate behind 0
    in
    elim (eqb_tells (slice_index file (length (front s bs))) 1) [
      | inl same ↦ absurd (shut (sym byte ∙ same.1))
      | inr other ↦ other.0
    ]

-- and open where one does
open_behind : (file s body : List ℕ) (bs : List (List ℕ)) → HasFrame file s (bs ++ body ∷ []) → (slice_index file (length (front s bs)) == 1) ≡ true
open_behind file s body bs (rest, reads, closed) =
    let whole : file ≡ front s bs ++ 1 ∷ (framed body ++ rest) = reads.whole ∙ (ap (λ (l : List ℕ). l ++ rest) (front_more s body bs) ∙ append_assoc (front s bs) (opened body) rest) in
    eq-eqb (slice_index file (length (front s bs))) 1 (ap (λ (l : List ℕ). slice_index l (length (front s bs))) whole ∙ get_or-append_seam (front s bs) 1 (framed body ++ rest) 0)

-- the file of a store has its records
own_frame : (now : Past) (f : ℕ) (s : List ℕ) (bs : List (List ℕ)) → HasStoreFrame (content_of now 0) (content_of now 1) (Store f s bs) → HasFrame (content_of now f) s bs
own_frame now f s bs (file, inl (is, at, g, has, older), frame) = subst (λ n. HasFrame (content_of now n) s bs) (sym is) (subst (λ (l : List ℕ). HasFrame l s bs) at frame)
own_frame now f s bs (file, inr (is, at, g, has, older), frame) = subst (λ n. HasFrame (content_of now n) s bs) (sym is) (subst (λ (l : List ℕ). HasFrame l s bs) at frame)

-- ---- how many steps were added

pub steps_of : (old now : Past) (more : List Step) → now ≡ with_steps old more → steps_since old now ≡ length more
steps_of old now more is = omega (arith, ap (λ p. length p.trace) is, length-append old.trace more)

-- where none was, nothing has changed
no_steps : (old now : Past) → IsBefore old now → steps_since old now ≡ 0 → now ≡ old
no_steps old now (more, is) none = is ∙ (ap (with_steps old) (nil_from_length more (sym (steps_of old now more is) ∙ none)) ∙ sym (goes_nothing old))

steps_joined : (old mid now : Past) → IsBefore old mid → IsBefore mid now → steps_since old now ≡ steps_since old mid + steps_since mid now
steps_joined old mid now (a, is) (b, too) = omega (arith, ap (λ p. length p.trace) is, ap (λ p. length p.trace) too, length-append old.trace a, length-append mid.trace b)

-- a plan of which a call failed added at most as many as it has
stops_few : (plan : List Step) (calls at : ℕ) (old new : Past) → StopsAt plan calls at old new → steps_since old new ≤ length plan
stops_few [] calls at old new none = absurd none
stops_few (s ∷ plan) calls at old new (inl (number, inl same)) = omega (arith, ap (λ p. length p.trace) same)
stops_few (s ∷ plan) calls at old new (inl (number, inr (content, left, is))) = omega (arith, steps_of old new _ is)
stops_few (s ∷ plan) calls at old new (inr there) = omega (arith, stops_few plan (calls + 1) at (with_steps old (s ∷ [])) new there, length-append old.trace (s ∷ []))

stopped_few : (plan : List Step) (calls : ℕ) (stopped : Option ℕ) (old new : Past) → StopsJournal plan calls stopped old new → steps_since old new ≤ length plan
stopped_few plan calls None old new none = absurd none
stopped_few plan calls (Some at) old new (number, is, stops) = stops_few plan calls number old new stops

-- so did one that was refused
pub refused_few : {T : Type 0} (plan : List Step) (calls before now : ℕ) (was stopped : Option ℕ) (old new : Past) (r : Result T JournalFault) (e : JournalFault) (Same : Type 0) → r ≡ Err e → (r ≡ Err Disk → StopsJournal plan calls stopped old new)
    → HasCause was before now r → IfSome was (λ at. (r ≡ Err (Stopped at)) × Same × (new ≡ old)) → steps_since old new ≤ length plan
refused_few plan calls before now was stopped old new r Disk Same is failed cause untouched = stopped_few plan calls stopped old new (failed is)
refused_few plan calls before now was stopped old new r (Stopped at) Same is failed cause untouched =
    let here : was ≡ Some at = (subst (HasCause was before now) is cause).0 in
    let still = subst (λ (o : Option ℕ). IfSome o (λ at. (r ≡ Err (Stopped at)) × Same × (new ≡ old))) here untouched in
    omega (arith, ap (λ p. length p.trace) still.2)

-- where none was added behind those that lay the new snapshot, the record's gate counts as closed
pub few_shut : (j : Journal) (next : Option (List ℕ)) (old now : Past) → steps_since old now ≤ snapshot_calls j next → reads_open j next old now ≡ false
few_shut j next old now few = and_left _ _ (lt-leb (suc (snapshot_calls j next)) (steps_since old now) (omega (arith, few)))

-- what reads give is left at the end
pub read_at : (P : StoreFrame → Type 0) (old now : Past) → Throughout old now (Holds P old) → IsCrashImageOf now 0 (content_of now 0) → IsCrashImageOf now 1 (content_of now 1) → ReadAs P now
read_at P old now t first second = (at_end old now (Holds P old) t).images (content_of now 0) (content_of now 1) first second

-- ---- a record behind others

module _ (j : Journal) (f : ℕ) (s body : List ℕ) (bs : List (List ℕ)) (old now : Past) (stands : StandsIn j (Store f s bs) old) (goes : IsBefore old now) where
  abbrev byte : ℕ → Bool
  byte place = slice_index (content_of now j.file) place == 1

  shut_now : HasStoreFrame (content_of now 0) (content_of now 1) (Store f s bs) → reads_open j None old now ≡ false
  shut_now has =
      and_right (nat_lt 0 (steps_since old now)) (byte j.gate)
      (ap byte stands.stands.gates.gate ∙ shut_behind (content_of now j.file) s bs (subst (λ n. HasFrame (content_of now n) s bs) stands.here (own_frame now f s bs has)))

  -- where the record stands there, its gate reads as open
  pub open_now : HasFrame (content_of now j.file) s (bs ++ body ∷ []) → reads_open j None old now ≡ true
  open_now has =
      let opens : byte j.gate ≡ true = ap byte stands.stands.gates.gate ∙ open_behind (content_of now j.file) s body bs has in
      elim (leb_tells 1 (steps_since old now)) [
        | inl some ↦ (λ i. some.0 i && opens i)
        | inr none ↦ absurd (
            let same : now ≡ old = no_steps old now goes (omega (arith, none.1)) in
            let shut : byte j.gate ≡ false = ap byte stands.stands.gates.gate ∙ shut_behind (content_of now j.file) s bs (subst (λ p. HasFrame (content_of p j.file) s bs) (sym same) stands.stands.gates.frame) in
            cc
            )
      ]

  -- the files read as the store with it where the gate reads as open, and else as the one without
  pub read_behind : ReadAs (IsAllOrOneMore f s bs body) now → ReadAs (IsReadBy f s bs None body (reads_open j None old now)) now
  read_behind (frame, has, inl same) =
      (frame, has, subst (λ b. IsReadBy f s bs None body b frame) (sym (shut_now (subst (HasStoreFrame (content_of now 0) (content_of now 1)) same has))) (inl same))
  read_behind (frame, has, inr same) =
      let more = own_frame now f s (bs ++ body ∷ []) (subst (HasStoreFrame (content_of now 0) (content_of now 1)) same has) in
      (frame, has, subst (λ b. IsReadBy f s bs None body b frame) (sym (open_now (subst (λ n. HasFrame (content_of now n) s (bs ++ body ∷ [])) stands.here more))) same)

-- ---- a commit behind a new snapshot

-- where the calls behind the snapshot weren't begun, the files read as before, or as the snapshot alone
pub read_shut : (j : Journal) (f : ℕ) (s new body laid : List ℕ) (bs : List (List ℕ)) (old now : Past) → steps_since old now ≤ snapshot_calls j (Some laid) → ReadAs (IsOldOrNew (Store f s bs) (other_file f) new) now
    → ReadAs (IsReadBy f s bs (Some new) body (reads_open j (Some laid) old now)) now
read_shut j f s new body laid bs old now few (frame, has, either) =
    (frame, has, subst (λ b. IsReadBy f s bs (Some new) body b frame) (sym (few_shut j (Some laid) old now few)) (elim either [ inl is ↦ inl is | inr is ↦ inr is ]))

later_read : (f g : ℕ) (s new body : List ℕ) (bs : List (List ℕ)) (b : Bool) (frame : StoreFrame) → g ≡ other_file f → IsReadBy g new [] None body b frame → IsReadBy f s bs (Some new) body b frame
later_read f g s new body bs true frame same is = is ∙ ap (λ n. Store n new (body ∷ [])) same
later_read f g s new body bs false frame same (inl is) = inr (is ∙ ap (λ n. Store n new []) same)
later_read f g s new body bs false frame same (inr none) = absurd none

-- the calls of the snapshot, and where the journals then stand
module _ (j k : Journal) (laid : List ℕ) (old mid : Past) (done : mid ≡ with_steps old (prepare_steps old.device (other_file j.file) j.other_blank j.other_length laid)) where
  laid_count : steps_since old mid ≡ laying_calls j.other_blank j.other_length
  laid_count = steps_of old mid _ done ∙ prepare_count old.device (other_file j.file) j.other_blank j.other_length laid

  -- where a call that opens its gate was refused
  pub opening_few : (now : Past) → IsBefore mid now → steps_since mid now ≤ 2 → steps_since old now ≤ snapshot_calls j (Some laid)
  opening_few now goes few = omega (arith, steps_joined old mid now (_, done) goes, laid_count, few)

  module _ (late : Past) (published : late ≡ with_steps mid (publish_steps mid.device (other_file k.file))) where
    pub before_record : IsBefore old late
    before_record = before_trans old mid late (_, done) (_, published)

    pub snapshot_count : steps_since old late ≡ snapshot_calls j (Some laid)
    snapshot_count = omega (arith, steps_joined old mid late (_, done) (_, published), laid_count, steps_of mid late _ published)

-- the gate of the journal that took the laid file for its own
pub laid_gate : (j k l : Journal) (laid : List ℕ) → k ≡ record j { calls = calls_after (laying_calls j.other_blank j.other_length) j.calls; other_length = 1 + length laid; other_blank = true } → l.gate ≡ k.other_length - 1 → l.gate ≡ length laid
laid_gate j k l laid moved turned = turned ∙ (ap (λ n. n.other_length - 1) moved ∙ omega arith)

-- behind them the record's gate is the one that its own commit has
module _ (j l : Journal) (laid : List ℕ) (old late now : Past) (file : l.file ≡ other_file j.file) (gate : l.gate ≡ length laid) (before : IsBefore old late) (goes : IsBefore late now) (count : steps_since old late ≡ snapshot_calls j (Some laid)) where
  some_later : nat_lt (snapshot_calls j (Some laid)) (steps_since old now) ≡ nat_lt 0 (steps_since late now)
  some_later =
      let sum : steps_since old now ≡ steps_since old late + steps_since late now = steps_joined old late now before goes in
      elim (leb_tells 1 (steps_since late now)) [
        | inl some ↦ le-leb (suc (snapshot_calls j (Some laid))) (steps_since old now) (omega (arith, sum, count, some.1)) ∙ sym some.0
        | inr none ↦ lt-leb (suc (snapshot_calls j (Some laid))) (steps_since old now) (omega (arith, sum, count, none.1)) ∙ sym none.0
      ]

  pub open_later : reads_open j (Some laid) old now ≡ reads_open l None late now
  open_later = λ i. some_later i && (slice_index (content_of now (sym file i)) (sym gate i) == 1)

  pub read_later : (g : ℕ) (s new body : List ℕ) (bs : List (List ℕ)) → g ≡ other_file j.file → ReadAs (IsReadBy g new [] None body (reads_open l None late now)) now → ReadAs (IsReadBy j.file s bs (Some new) body (reads_open j (Some laid) old now)) now
  read_later g s new body bs same (frame, has, is) =
      (frame, has, subst (λ b. IsReadBy j.file s bs (Some new) body b frame) (sym open_later) (later_read j.file g s new body bs (reads_open l None late now) frame same is))
