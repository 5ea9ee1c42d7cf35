-- The first snapshot of a program: that it is one, and what two files hold while it is laid.
use Rattle.std.proofs.Common.{◌≡◌, inl, ◌≤◌, ◌++◌, ◌∷◌, [], ℕ, zero, suc, List, Result, Ok, Err, length, refl, sym, ap, subst, ◌∙◌, append_assoc, arith}
use Rattle.std.specs.Int.{w64, to_be_bytes}
use Rattle.std.specs.List.{All}
use Rattle.std.specs.Prelude.{OnOk}
use Rattle.re_outside.specs.Frame.{AreRecords, Bad, Blank, IsGeneration, Store, StoreFrame}
use Rattle.re_outside.specs.Listed.{Listed}
use Rattle.re_outside.specs.Moment.{Throughout}
use Rattle.re_outside.specs.Trace.{Past, content_of, elsewhere_on}
use Rattle.re_outside.proofs.Moments.{at_end, join, weaken}
use Rattle.re_journal.specs.Scans.{all_bytes}
use Rattle.re_journal.specs.declared.journal.Journal.{Journal}
use Rattle.re_compact.specs.Laying.{IsSnapshot}
use Rattle.re_compact.specs.Pair.{Holds, IsOldOrNew, MayReplace, StandsIn, StandsOnFrame}
use Rattle.re_print.specs.Canonical.{program_text}
use Rattle.re_record.specs.Logs.{IsSnapshotOf}
use Rattle.re_record.specs.Spellings.{head_bytes, kept_bytes, owner_bytes, snapshot_bytes, text_bytes}
use Rattle.re_record.proofs.LoggedLengths.{generation_is, snapshot_long, snapshot_some}
use Rattle.re_record.specs.Restoring.{unopened}
use Rattle.re_restore.specs.Opening.{start_snapshot}
use Rattle.re_record.specs.Stores.{ComesTo}
use Rattle.re_terms.specs.Programs.{IsProgram}
use Rattle.re_terms.specs.Shapes.{shape_of, start_state}
use Rattle.re_terms.specs.declared.entry.State.{State}
use Rattle.re_terms.specs.declared.program.Program.{Program}
use Rattle.re_terms.proofs.StatesKept.{start_is}

-- what follows from what an Ok leaves, an Ok leaves
pub ok_then : {T E P Q : Type 0} (r : Result T E) → (P → Q) → OnOk r P → OnOk r Q
ok_then (Ok x) f h = f h
ok_then (Err e) f h = h

-- ---- the snapshot

begins_so : (p : Program) (device g number : ℕ) (s : State) → (rest : List ℕ) × (snapshot_bytes p device g number s ≡ to_be_bytes w64 g ++ rest)
unfolding snapshot_bytes head_bytes owner_bytes
begins_so p device g number s =
    let own = 1 ∷ device ∷ to_be_bytes w64 number in
    let last = text_bytes (program_text p) in
    let rest = kept_bytes (shape_of p).devices s in
    let first = to_be_bytes w64 g in
    (own ++ (last ++ rest), append_assoc (first ++ own) last rest ∙ append_assoc first own (last ++ rest))

pub one_fits : IsGeneration 1
one_fits = (omega arith, omega arith)

pub start_long : (p : Program) (device : ℕ) → IsProgram p → length (program_text p) ≤ 65536 → length (start_snapshot p device) ≤ 131072
start_long p device is short = let h = snapshot_long p device 1 0 (start_state p) is short (start_is p is) in omega (arith, h)

pub start_is_snapshot : (p : Program) (device : ℕ) → IsProgram p → length (program_text p) ≤ 65536 → IsSnapshot (start_snapshot p device) 1
start_is_snapshot p device is short =
    let split = begins_so p device 1 0 (start_state p) in
    record {
      rest = split.0;
      whole = split.1;
      size = (snapshot_some p device 1 0 (start_state p), start_long p device is short);
      number = one_fits;
    }

start_of : (p : Program) → IsProgram p → IsSnapshotOf p 0 (start_state p)
start_of p is = record { few = omega arith; state = start_is p is; plain = refl }

-- with no record behind it, it comes to the start
pub start_comes : (p : Program) (device : ℕ) → IsProgram p → ComesTo p device (start_snapshot p device) [] (unopened p)
start_comes p device is = record {
  snapshot = record { number = 0; state = start_state p };
  entries = [];
  reads = (start_of p is, ap (λ g. snapshot_bytes p device g 0 (start_state p)) (sym (generation_is p device 1 0 (start_state p) one_fits)));
  records = refl;
  opened = refl;
}

-- ---- records of allowed lengths

pub records_short : (bodies : List (Listed ℕ)) → AreRecords (all_bytes bodies) → All (λ (body : Listed ℕ). length body.items ≤ 65536) bodies
records_short [] are k d within = absurd (omega (arith, within))
records_short (body ∷ bodies) are zero d within = are.0.1
records_short (body ∷ bodies) are (suc k) d within = records_short bodies are.1 k d (omega (arith, within))

-- ---- moments of a laying

holds_more : (P Q : StoreFrame → Type 0) (old now : Past) → ((frame : StoreFrame) → P frame → Q frame) → Holds P old now → Holds Q old now
holds_more P Q old now f h = record {
  images = λ first second one two. let found = h.images first second one two in (found.0, found.1, f found.0 found.2);
  others = h.others;
}

-- where nothing was held before, that or the new store
pub still_blank : (old now : Past) (file : ℕ) (snapshot : List ℕ) → Throughout old now (Holds (λ frame. frame ≡ Blank) old) → Throughout old now (Holds (IsOldOrNew Blank file snapshot) old)
still_blank old now file snapshot t = weaken old now (Holds (λ frame. frame ≡ Blank) old) (Holds (IsOldOrNew Blank file snapshot) old) (λ past. holds_more (λ frame. frame ≡ Blank) (IsOldOrNew Blank file snapshot) old past (λ frame is. inl is)) t

-- what holds since a moment between holds since the beginning
holds_since : (P : StoreFrame → Type 0) (old mid now : Past) → mid.device ≡ old.device → elsewhere_on old.device mid.trace ≡ elsewhere_on old.device old.trace → Holds P mid now → Holds P old now
holds_since P old mid now same moved h = record {
  images = h.images;
  others = subst (λ d. elsewhere_on d now.trace ≡ elsewhere_on d mid.trace) same h.others ∙ moved;
}

pub then_published : (old mid now : Past) (file : ℕ) (snapshot : List ℕ) → mid.device ≡ old.device → Throughout old mid (Holds (λ frame. frame ≡ Blank) old) → Throughout mid now (Holds (IsOldOrNew Blank file snapshot) mid) → Throughout old now (Holds (IsOldOrNew Blank file snapshot) old)
then_published old mid now file snapshot same first second =
    let end = at_end old mid (Holds (λ frame. frame ≡ Blank) old) first in
    join old mid now (Holds (IsOldOrNew Blank file snapshot) old) (still_blank old mid file snapshot first)
    (weaken mid now (Holds (IsOldOrNew Blank file snapshot) mid) (Holds (IsOldOrNew Blank file snapshot) old) (λ past. holds_since (IsOldOrNew Blank file snapshot) old mid past same end.others) second)

-- a snapshot of generation 1 may take the place of nothing
pub may_replace : (journal : Journal) (now : Past) (snapshot : List ℕ) → StandsIn journal Blank now → IsSnapshot snapshot 1 → MayReplace (content_of now journal.file) snapshot
may_replace journal now snapshot stands is = record { generation = 1; snapshot_fits = is; newer = inl stands.stands.own_blank }

-- ---- the journal

anew : (j : Journal) (calls : ℕ) (held : StoreFrame) (now : Past) → StandsOnFrame j held now → StandsOnFrame (record j { calls = calls }) held now
anew j calls Blank now s = record { files = record { own = s.files.own; own_length = s.files.own_length; other = s.files.other; other_length = s.files.other_length; other_blank = s.files.other_blank }; own_blank = s.own_blank; other_blank = s.other_blank; start = s.start; gate = s.gate }
anew j calls (Bad number place) now s = s
anew j calls (Store number snapshot bodies) now s = record { files = record { own = s.files.own; own_length = s.files.own_length; other = s.files.other; other_length = s.files.other_length; other_blank = s.files.other_blank }; gates = record { frame = s.gates.frame; start = s.gates.start; gate = s.gates.gate } }

-- it stands where it did, however many calls it has counted
pub stands_anew : (j k : Journal) (held : StoreFrame) (now : Past) → k ≡ record j { calls = 0 } → StandsIn j held now → StandsIn k held now
stands_anew j k held now same s = subst (λ l. StandsIn l held now) (sym same) (record { rests = s.rests; here = s.here; stands = anew j 0 held now s.stands })
