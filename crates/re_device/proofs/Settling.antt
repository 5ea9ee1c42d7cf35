-- What the files of a device open to while entries are settled.
use Rattle.std.proofs.Common.{◌≡◌, ◌⊎◌, inl, inr, ◌<◌, ◌≤◌, ◌+◌, ◌-◌, ◌^◌, ◌++◌, ◌∷◌, [], ℕ, suc, Bool, true, false, ◌&&◌, Option, Some, None, List, map, refl, sym, ap, subst, ◌∙◌, arith}
use Rattle.std.specs.Prelude.{nat_lt, if◌then◌else◌, option_map}
use Rattle.std.proofs.lemmas.Bool.{leb-false}
use Rattle.re_compact.proofs.Committing.{may_open}
use Rattle.re_compact.proofs.ReadStores.{few_shut}
use Rattle.re_compact.proofs.Standing.{at_rest}
use Rattle.re_outside.proofs.Moments.{no_step}
use Rattle.re_compact.specs.Committing.{IsLeftBy, IsReadBy, MayCommit, ReadAs, committing_calls, reads_open, store_after}
use Rattle.re_compact.specs.Pair.{Holds, StandsIn}
use Rattle.re_journal.specs.Journals.{frame_of, other_file}
use Rattle.re_journal.specs.declared.journal.Journal.{Journal}
use Rattle.re_outside.specs.Frame.{HasStoreFrame, IsGeneration, Store, StoreFrame, generation}
use Rattle.re_outside.specs.Moment.{Throughout}
use Rattle.re_outside.specs.Trace.{Past, content_of}
use Rattle.re_record.proofs.LoggedLengths.{generation_is}
use Rattle.re_record.proofs.StoreLaws.{after_more, records_more}
use Rattle.re_record.specs.Logs.{IsRecordOf}
use Rattle.re_record.specs.Restoring.{AreAccepted, Opened, after_all}
use Rattle.re_record.specs.Spellings.{record_bytes}
use Rattle.re_record.specs.Stores as stored
use Rattle.re_record.specs.Stores.{AreRecordsOf, ComesTo, OpensTo, laid}
use Rattle.re_terms.specs.Shapes.{shape_of}
use Rattle.re_terms.specs.declared.entry.Logged.{Logged}
use Rattle.re_terms.specs.declared.program.Program.{Program}
use Rattle.re_device.proofs.DueSnapshots.{due_below, due_none, due_some, snapshot_comes, succeeds}
use Rattle.re_device.proofs.Memories.{current_more, number_after}
use Rattle.re_device.proofs.Records.{accepted_same, after_all_same, record_bytes_same, settles_long, settles_of, unreserved}
use Rattle.re_device.specs.Committing.{due_snapshot, framed_record, is_due, next_generation, next_snapshot, record_reads_open, settling_calls}
use Rattle.re_device.specs.Device.{DeviceMemory, DeviceState, all_settled, current, with_entry}
use Rattle.re_device.specs.Keeping.{IsKept, memory_of, seen_of, settled_of}
use Rattle.re_device.specs.Ready.{IsReady, MaySettle}
use Rattle.re_device.specs.declared.store.Ready.{Ready}
use Rattle.re_outside.specs.Listed.{Listed}
use Rattle.re_device.specs.Standing.{LeavesEither, LeavesOnly, OpensToEither, ReadsBy, StandsAt, StandsSettled}
use Rattle.re_device.specs.declared.device.Device.TheInside.{Inside}

-- a store opens to what its snapshot and records come to
opens_store : (p : Program) (device file : ℕ) (a b body : List ℕ) (bodies : List (List ℕ)) (o : Opened) → HasStoreFrame a b (Store file body bodies) → ComesTo p device body bodies o → OpensTo p device a b o
opens_store p device file a b body bodies o has c =
    (stored.Store (generation body) c.snapshot c.entries, (file, body, bodies, has, refl, c.reads, c.records), ap Some (sym c.opened))

-- with one record more it comes to what the entries lead to
comes_with : (p : Program) (device : ℕ) (body : List ℕ) (bodies : List (List ℕ)) (o : Opened) (entries : List Logged) → ComesTo p device body bodies o → IsRecordOf p (map unreserved entries) → AreAccepted p device o entries → ComesTo p device body (bodies ++ record_bytes (shape_of p).devices entries ∷ []) (after_all p device entries o)
comes_with p device body bodies o entries c of are =
    let us = map unreserved entries in
    let accepted = subst (λ (q : Opened). AreAccepted p device q us) c.opened (accepted_same p device entries o are) in
    let more = records_more p device (laid c.snapshot) bodies c.entries us c.records of accepted in
    record {
      snapshot = c.snapshot;
      entries = c.entries ++ us;
      reads = c.reads;
      records = subst (λ (bytes : List ℕ). AreRecordsOf p device (laid c.snapshot) (bodies ++ bytes ∷ []) (c.entries ++ us)) (record_bytes_same (shape_of p).devices entries) more;
      opened =
          sym (after_all_same p device entries o)
          ∙ ap (after_all p device us) c.opened
          ∙ sym (after_more p device c.entries us (laid c.snapshot));
    }

-- ---- what is due

framed_due : (x y : List ℕ) (b : Bool) → Some x ≡ option_map frame_of (if b then Some y else None) → (b ≡ true) × (x ≡ frame_of y)
framed_due x y true is = (refl, let e : Some x ≡ Some (frame_of y) = is in cc)
framed_due x y false is = absurd (let e : Some x ≡ None = is in cc)

pub is_framed : (d : DeviceState) (x : List ℕ) → Some x ≡ option_map frame_of (due_snapshot d) → (is_due d ≡ true) × (x ≡ frame_of (next_snapshot d))
is_framed d x is = framed_due x (next_snapshot d) (is_due d) is

unframed_due : (y : List ℕ) (b : Bool) → ◌≡◌ {A = Option (List ℕ)} None (option_map frame_of (if b then Some y else None)) → b ≡ false
unframed_due y true is = absurd (let e : None ≡ Some (frame_of y) = is in cc)
unframed_due y false is = refl

pub is_unframed : (d : DeviceState) → ◌≡◌ {A = Option (List ℕ)} None (option_map frame_of (due_snapshot d)) → is_due d ≡ false
is_unframed d is = unframed_due (next_snapshot d) (is_due d) is

one_false : (a b : Bool) → (a && b) ≡ false → (a ≡ false) ⊎ (b ≡ false)
one_false true b is = inr is
one_false false b is = inl refl

not_due : (d : DeviceState) → IsGeneration d.generation → is_due d ≡ false → (d.journal.gate - d.journal.start - 1 ≤ 65536) ⊎ (d.generation ≡ 2 ^ 62)
not_due d fits is = elim (one_false (nat_lt 65536 (d.journal.gate - d.journal.start - 1)) (nat_lt d.generation (2 ^ 62)) is) [
  | inl short ↦ inl (omega (arith, leb-false (suc 65536) (d.journal.gate - d.journal.start - 1) short))
  | inr last ↦ inr (omega (arith, fits.1, leb-false (suc d.generation) (2 ^ 62) last))
]

module _ (d : Inside) (inv : IsKept d) (entries : List Logged) (may : MaySettle (memory_of d) entries) (now : Past) (st : StandsSettled (seen_of d) now) where
  comes_more : ComesTo d.program d.device st.snapshot (st.bodies ++ record_bytes (shape_of d.program).devices entries ∷ []) (after_all d.program d.device entries (settled_of d))
  comes_more = comes_with d.program d.device st.snapshot st.bodies (settled_of d) entries st.comes (settles_of (memory_of d) entries inv.is_program may) may.accepted

  settled_few : d.settled.number < 2 ^ 48
  settled_few = omega (arith, number_after d.program d.device (memory_of d).unsettled (settled_of d), inv.current.number_is, inv.number)

  next_fits : is_due (seen_of d) ≡ true → IsGeneration (d.generation + 1)
  next_fits due = (omega arith, omega (arith, due_below (seen_of d) due))

  comes_new : is_due (seen_of d) ≡ true → ComesTo d.program d.device (next_snapshot (seen_of d)) [] (settled_of d)
  comes_new due = snapshot_comes d.program inv.is_program inv.text d.device (d.generation + 1) (settled_of d) inv.settled (next_fits due) settled_few refl

  comes_new_more : is_due (seen_of d) ≡ true → ComesTo d.program d.device (next_snapshot (seen_of d)) (record_bytes (shape_of d.program).devices entries ∷ []) (after_all d.program d.device entries (settled_of d))
  comes_new_more due = comes_with d.program d.device (next_snapshot (seen_of d)) [] (settled_of d) entries (comes_new due) (settles_of (memory_of d) entries inv.is_program may) may.accepted

  -- the record may be committed
  pub may_commit : (framed : List ℕ) → is_due (seen_of d) ≡ false → framed ≡ framed_record (memory_of d) entries → MayCommit st.snapshot st.bodies None (record_bytes (shape_of d.program).devices entries) None framed
  may_commit framed due is = (
    refl,
    record {
      whole = is;
      fits = settles_long (memory_of d) entries inv.is_program may;
      opens = may_open d.journal d.journal.file st.snapshot st.bodies now st.stands (elim (not_due (seen_of d) inv.generation due) [ inl short ↦ inl short | inr last ↦ inr (st.number_is ∙ last) ]);
    },
  )

  pub may_commit_behind : (x framed : List ℕ) → is_due (seen_of d) ≡ true → x ≡ frame_of (next_snapshot (seen_of d)) → framed ≡ framed_record (memory_of d) entries → MayCommit st.snapshot st.bodies (Some (next_snapshot (seen_of d))) (record_bytes (shape_of d.program).devices entries) (Some x) framed
  may_commit_behind x framed due laid_is is =
      (ap Some laid_is, succeeds d.program inv.is_program inv.text d.device (d.generation + 1) (settled_of d) inv.settled (next_fits due) st.snapshot (omega (arith, st.number_is)), is, settles_long (memory_of d) entries inv.is_program may)

  -- ---- what two files open to

  abbrev body : List ℕ
  body = record_bytes (shape_of d.program).devices entries

  abbrev after : Opened
  after = after_all d.program d.device entries (settled_of d)

  opens_old : (a b : List ℕ) (frame : StoreFrame) → HasStoreFrame a b frame → frame ≡ Store d.journal.file st.snapshot st.bodies → OpensTo d.program d.device a b (settled_of d)
  opens_old a b frame has same = opens_store d.program d.device d.journal.file a b st.snapshot st.bodies (settled_of d) (subst (HasStoreFrame a b) same has) st.comes

  opens_more : (a b : List ℕ) (frame : StoreFrame) → HasStoreFrame a b frame → frame ≡ store_after d.journal.file st.snapshot st.bodies None body → OpensTo d.program d.device a b after
  opens_more a b frame has same = opens_store d.program d.device d.journal.file a b st.snapshot (st.bodies ++ body ∷ []) after (subst (HasStoreFrame a b) same has) comes_more

  opens_alone : is_due (seen_of d) ≡ true → (a b : List ℕ) (frame : StoreFrame) → HasStoreFrame a b frame → frame ≡ Store (other_file d.journal.file) (next_snapshot (seen_of d)) [] → OpensTo d.program d.device a b (settled_of d)
  opens_alone due a b frame has same = opens_store d.program d.device (other_file d.journal.file) a b (next_snapshot (seen_of d)) [] (settled_of d) (subst (HasStoreFrame a b) same has) (comes_new due)

  opens_new : is_due (seen_of d) ≡ true → (a b : List ℕ) (frame : StoreFrame) → HasStoreFrame a b frame → frame ≡ store_after d.journal.file st.snapshot st.bodies (Some (next_snapshot (seen_of d))) body → OpensTo d.program d.device a b after
  opens_new due a b frame has same = opens_store d.program d.device (other_file d.journal.file) a b (next_snapshot (seen_of d)) (body ∷ []) after (subst (HasStoreFrame a b) same has) (comes_new_more due)

  pub left_opens : (a b : List ℕ) (frame : StoreFrame) → HasStoreFrame a b frame → IsLeftBy d.journal.file st.snapshot st.bodies None body frame → OpensToEither (memory_of d) (settled_of d) after a b
  left_opens a b frame has (inl same) = inl (opens_old a b frame has same)
  left_opens a b frame has (inr (inl none)) = absurd none
  left_opens a b frame has (inr (inr same)) = inr (opens_more a b frame has same)

  pub left_opens_behind : is_due (seen_of d) ≡ true → (a b : List ℕ) (frame : StoreFrame) → HasStoreFrame a b frame → IsLeftBy d.journal.file st.snapshot st.bodies (Some (next_snapshot (seen_of d))) body frame → OpensToEither (memory_of d) (settled_of d) after a b
  left_opens_behind due a b frame has (inl same) = inl (opens_old a b frame has same)
  left_opens_behind due a b frame has (inr (inl alone)) = inl (opens_alone due a b frame has alone)
  left_opens_behind due a b frame has (inr (inr same)) = inr (opens_new due a b frame has same)

  -- ---- at each moment

  leaves : (P : StoreFrame → Type 0) → ((a b : List ℕ) (frame : StoreFrame) → HasStoreFrame a b frame → P frame → OpensToEither (memory_of d) (settled_of d) (after_all d.program d.device entries (settled_of d)) a b) → (old later : Past) → Holds P old later → LeavesEither (memory_of d) (after_all d.program d.device entries (settled_of d)) old later
  leaves P opens old later h = record { images = λ a b one two. let found = h.images a b one two in opens a b found.0 found.1 found.2; others = h.others }

  all_leave : (P : StoreFrame → Type 0) → ((a b : List ℕ) (frame : StoreFrame) → HasStoreFrame a b frame → P frame → OpensToEither (memory_of d) (settled_of d) (after_all d.program d.device entries (settled_of d)) a b) → (old new : Past) → Throughout old new (Holds P old) → Throughout old new (LeavesEither (memory_of d) (after_all d.program d.device entries (settled_of d)) old)
  all_leave P opens old new t = record { goes_on = t.goes_on; each = λ later on behind. leaves P opens old later (t.each later on behind) }

  pub each_opens : (old new : Past) → Throughout old new (Holds (IsLeftBy d.journal.file st.snapshot st.bodies None (record_bytes (shape_of d.program).devices entries)) old) → Throughout old new (LeavesEither (memory_of d) (after_all d.program d.device entries (settled_of d)) old)
  each_opens old new t = all_leave (IsLeftBy d.journal.file st.snapshot st.bodies None (record_bytes (shape_of d.program).devices entries)) left_opens old new t

  pub each_opens_behind : is_due (seen_of d) ≡ true → (old new : Past) → Throughout old new (Holds (IsLeftBy d.journal.file st.snapshot st.bodies (Some (next_snapshot (seen_of d))) (record_bytes (shape_of d.program).devices entries)) old) → Throughout old new (LeavesEither (memory_of d) (after_all d.program d.device entries (settled_of d)) old)
  each_opens_behind due old new t = all_leave (IsLeftBy d.journal.file st.snapshot st.bodies (Some (next_snapshot (seen_of d))) (record_bytes (shape_of d.program).devices entries)) (left_opens_behind due) old new t

  -- ---- as they read

  pub reads_opens : (gate : Bool) (later : Past) → ReadAs (IsReadBy d.journal.file st.snapshot st.bodies None body gate) later → ReadsBy (memory_of d) after gate later
  reads_opens true later (frame, has, same) = opens_more (content_of later 0) (content_of later 1) frame has same
  reads_opens false later (frame, has, inl same) = opens_old (content_of later 0) (content_of later 1) frame has same
  reads_opens false later (frame, has, inr none) = absurd none

  pub reads_opens_behind : is_due (seen_of d) ≡ true → (gate : Bool) (later : Past) → ReadAs (IsReadBy d.journal.file st.snapshot st.bodies (Some (next_snapshot (seen_of d))) body gate) later → ReadsBy (memory_of d) after gate later
  reads_opens_behind due true later (frame, has, same) = opens_new due (content_of later 0) (content_of later 1) frame has same
  reads_opens_behind due false later (frame, has, inl same) = opens_old (content_of later 0) (content_of later 1) frame has same
  reads_opens_behind due false later (frame, has, inr alone) = opens_alone due (content_of later 0) (content_of later 1) frame has alone

  -- ---- afterwards

  pub stands_more : (journal : Journal) (later : Past) → StandsIn journal (store_after d.journal.file st.snapshot st.bodies None (record_bytes (shape_of d.program).devices entries)) later → StandsAt (memory_of d) (after_all d.program d.device entries (settled_of d)) d.generation journal later
  stands_more journal later s = record {
    snapshot = st.snapshot;
    bodies = st.bodies ++ record_bytes (shape_of d.program).devices entries ∷ [];
    stands = subst (λ (f : ℕ). StandsIn journal (Store f st.snapshot (st.bodies ++ record_bytes (shape_of d.program).devices entries ∷ [])) later) s.here s;
    comes = comes_more;
    number_is = st.number_is;
  }

  pub stands_behind : is_due (seen_of d) ≡ true → (journal : Journal) (later : Past) → StandsIn journal (store_after d.journal.file st.snapshot st.bodies (Some (next_snapshot (seen_of d))) (record_bytes (shape_of d.program).devices entries)) later → StandsAt (memory_of d) (after_all d.program d.device entries (settled_of d)) (d.generation + 1) journal later
  stands_behind due journal later s = record {
    snapshot = next_snapshot (seen_of d);
    bodies = record_bytes (shape_of d.program).devices entries ∷ [];
    stands = subst (λ (f : ℕ). StandsIn journal (Store f (next_snapshot (seen_of d)) (record_bytes (shape_of d.program).devices entries ∷ [])) later) s.here s;
    comes = comes_new_more due;
    number_is = generation_is d.program d.device (d.generation + 1) d.settled.number (settled_of d).state (next_fits due);
  }

-- ---- what is ready

pub some_due : (d : DeviceState) (entries : List Logged) (ready : Ready) (snapshot : Listed ℕ) (x : List ℕ) → IsReady d entries ready → ready.snapshot ≡ Some snapshot → x ≡ snapshot.items → (is_due d ≡ true) × (x ≡ frame_of (next_snapshot d))
some_due d entries ready snapshot x is here same =
    is_framed d x (ap Some same ∙ ap (option_map (λ (bytes : Listed ℕ). bytes.items)) (sym here) ∙ is.snapshot_is)

pub none_due : (d : DeviceState) (entries : List Logged) (ready : Ready) → IsReady d entries ready → ready.snapshot ≡ None → is_due d ≡ false
none_due d entries ready is here = is_unframed d (ap (option_map (λ (bytes : Listed ℕ). bytes.items)) (sym here) ∙ is.snapshot_is)

-- whether its record reads as open, by the frame that was handed in
pub behind_due : (d : DeviceState) (x : List ℕ) (old now : Past) → (is_due d ≡ true) × (x ≡ frame_of (next_snapshot d)) → reads_open d.journal (Some x) old now ≡ record_reads_open d old now
behind_due d x old now due = ap (λ (o : Option (List ℕ)). reads_open d.journal o old now) (ap Some due.1 ∙ sym (ap (option_map frame_of) (due_some d due.0)))

pub behind_none : (d : DeviceState) (old now : Past) → is_due d ≡ false → reads_open d.journal None old now ≡ record_reads_open d old now
behind_none d old now due = ap (λ (o : Option (List ℕ)). reads_open d.journal o old now) (sym (ap (option_map frame_of) (due_none d due)))

-- how many calls are made, by the frame that was handed in
pub calls_due : (d : DeviceState) (x : List ℕ) → (is_due d ≡ true) × (x ≡ frame_of (next_snapshot d)) → committing_calls d.journal (Some x) ≡ settling_calls d
calls_due d x due = ap (committing_calls d.journal) (ap Some due.1 ∙ sym (ap (option_map frame_of) (due_some d due.0)))

pub calls_none : (d : DeviceState) → is_due d ≡ false → committing_calls d.journal None ≡ settling_calls d
calls_none d due = ap (committing_calls d.journal) (sym (ap (option_map frame_of) (due_none d due)))

pub next_due : (d : DeviceState) → is_due d ≡ true → next_generation d ≡ d.generation + 1
next_due d due = ap (λ (b : Bool). if b then d.generation + 1 else d.generation) due

pub next_same : (d : DeviceState) → is_due d ≡ false → next_generation d ≡ d.generation
next_same d due = ap (λ (b : Bool). if b then d.generation + 1 else d.generation) due

-- ---- where nothing is written

module _ (m : DeviceMemory) (after : Opened) (number : ℕ) (journal : Journal) (now : Past) (st : StandsAt m m.settled number journal now) where
  still_leaves : LeavesEither m after now now
  still_leaves =
      let h = at_rest (Store journal.file st.snapshot st.bodies) (λ frame. frame ≡ Store journal.file st.snapshot st.bodies) now st.stands.rests refl in
      record {
        images = λ a b one two. let found = h.images a b one two in inl (opens_store m.program m.device journal.file a b st.snapshot st.bodies m.settled (subst (HasStoreFrame a b) found.2 found.1) st.comes);
        others = h.others;
      }

  -- the files leave what was settled
  pub still_each : Throughout now now (LeavesEither m after now)
  still_each = no_step now now (LeavesEither m after now) refl still_leaves

-- no record reads as open where no call was made
none_open : (d : DeviceState) (now : Past) → record_reads_open d now now ≡ false
none_open d now = few_shut d.journal (option_map frame_of (due_snapshot d)) now now (omega arith)

-- and the files read as before
pub still_reads : (d : DeviceState) (after : Opened) (now : Past) → StandsSettled d now → ReadsBy d.memory after (record_reads_open d now now) now
still_reads d after now st =
    let m = d.memory in
    subst (λ (gate : Bool). ReadsBy m after gate now) (sym (none_open d now))
    (opens_store m.program m.device d.journal.file (content_of now 0) (content_of now 1) st.snapshot st.bodies m.settled st.stands.rests.frame st.comes)

-- the number of the entry that is settled last
pub done_number : (m : DeviceMemory) (l : Logged) → (current (all_settled (with_entry m l))).number ≡ (current m).number + 1
done_number m l = ap (λ (o : Opened). o.number) (current_more m l)

-- room for an entry leaves what is ready
pub ready_room : (d roomed : DeviceState) (room : ℕ) (entries : List Logged) (ready : Ready) → roomed ≡ record { memory = d.memory; room = room; generation = d.generation; journal = d.journal } → IsReady d entries ready → IsReady roomed entries ready
ready_room d roomed room entries ready same is =
    subst (λ (v : DeviceState). IsReady v entries ready) (sym same)
    (let moved : IsReady (record { memory = d.memory; room = room; generation = d.generation; journal = d.journal }) entries ready = record { record_is = is.record_is; snapshot_is = is.snapshot_is } in moved)

-- what the files then come to is what is settled
pub settled_stands : (m n : DeviceMemory) (o : Opened) (number : ℕ) (journal : Journal) (now : Past) → n.program ≡ m.program → n.device ≡ m.device → n.settled ≡ o → StandsAt m o number journal now → StandsAt n n.settled number journal now
settled_stands m n o number journal now program device settled s = record {
  snapshot = s.snapshot;
  bodies = s.bodies;
  stands = s.stands;
  comes = subst (λ (q : Opened). ComesTo n.program n.device s.snapshot s.bodies q) (sym settled)
      (subst (λ (p : Program). ComesTo p n.device s.snapshot s.bodies o) (sym program)
      (subst (λ (d : ℕ). ComesTo m.program d s.snapshot s.bodies o) (sym device) s.comes));
  number_is = s.number_is;
}

-- where it stands a stop leaves what is settled alone
pub stands_only : (d : DeviceState) (now : Past) → StandsSettled d now → LeavesOnly d.memory d.memory.settled now
stands_only d now st a b one two =
    let first = st.stands.rests.first.only a one in
    let second = st.stands.rests.second.only b two in
    let frame = Store d.journal.file st.snapshot st.bodies in
    let has = subst (λ (f : List ℕ). HasStoreFrame f b frame) (sym first) (subst (λ (f : List ℕ). HasStoreFrame (content_of now 0) f frame) (sym second) st.stands.rests.frame) in
    opens_store d.memory.program d.memory.device d.journal.file a b st.snapshot st.bodies d.memory.settled has st.comes
