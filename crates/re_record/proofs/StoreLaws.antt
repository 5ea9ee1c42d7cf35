-- What two files open to, and what leaves it as it is.
use Rattle.std.proofs.Common.{◌≡◌, ◌≢◌, ℕ, zero, suc, ◌+◌, ◌^◌, ◌<◌, ◌≤◌, ◌⊎◌, inl, inr, List, [], ◌∷◌, ◌++◌, length, Option, None, Some, Result, Ok, Err, refl, sym, ap, subst, ◌∙◌, append_assoc, arith, length-append}
use Rattle.std.specs.Int.{w32, w64, to_be_bytes}
use Rattle.std.specs.List.{flat_map}
use Rattle.std.proofs.lemmas.List.{append-nil}
use Rattle.re_outside.proofs.Stores.{one_store}
use Rattle.re_outside.specs.Frame as frame
use Rattle.re_outside.specs.Frame.{AreRecords, Counting, HasFrame, HasGeneration, HasStoreFrame, IsClosed, IsGeneration, IsOlder, MayOpen, ReadsTo, StoreFrame, front, generation}
use Rattle.re_print.specs.Canonical.{program_text}
use Rattle.re_record.specs.Logs.{IsRecordOf, IsSnapshotOf}
use Rattle.re_record.specs.Reading.{record_at}
use Rattle.re_record.specs.Restoring.{Opened, AreAccepted, after_all, opened_after, unopened}
use Rattle.re_record.specs.Snapshots.{snapshot_at}
use Rattle.re_record.specs.Spellings.{head_bytes, kept_bytes, owner_bytes, record_bytes, snapshot_bytes, text_bytes}
use Rattle.re_record.specs.Stores.{AreRecordsOf, Blank, Bad, HasSnapshot, HasStore, MayBeOpened, OpensTo, OtherProgram, Store, Stored, laid, opened}
use Rattle.re_record.specs.declared.snapshots.Snapshot.{Snapshot}
use Rattle.re_record.proofs.LoggedLengths.{generation_is, snapshot_long, snapshot_some}
use Rattle.re_record.proofs.RecordLaws.{record_there}
use Rattle.re_record.proofs.SnapshotLaws.{snapshot_there}
use Rattle.re_terms.specs.Listed.{Listed, plain}
use Rattle.re_terms.specs.Programs.{IsProgram}
use Rattle.re_terms.specs.Shapes.{shape_of}
use Rattle.re_terms.specs.declared.entry.Logged.{Logged}
use Rattle.re_terms.specs.declared.entry.State.{State}
use Rattle.re_terms.specs.declared.program.Program.{Program}

-- ---- what is laid and committed opens

-- a snapshot begins with its generation
begins : (p : Program) (device g number : ℕ) (s : State) → (tail : List ℕ) × (snapshot_bytes p device g number s ≡ to_be_bytes w64 g ++ tail)
unfolding snapshot_bytes head_bytes owner_bytes
begins p device g number s =
    let own = 1 ∷ device ∷ to_be_bytes w64 number in
    let last = text_bytes (program_text p) in
    let rest = kept_bytes (shape_of p).devices s in
    (own ++ (last ++ rest), append_assoc (to_be_bytes w64 g ++ own) last rest ∙ append_assoc (to_be_bytes w64 g) own (last ++ rest))

module _ (p : Program) (device g : ℕ) (s : Snapshot) (bodies : List (List ℕ)) (rest : List ℕ) (is_program : IsProgram p) (short : length (program_text p) ≤ 65536) (is_generation : IsGeneration g) (fits : IsSnapshotOf p s.number s.state) where
  abbrev body : List ℕ
  body = snapshot_bytes p device g s.number s.state

  abbrev file : List ℕ
  file = front body bodies ++ rest

  has_generation : HasGeneration file g
  has_generation =
      let b = begins p device g s.number s.state in
      let n = length body in
      let behind = flat_map frame.opened bodies in
      let is : file ≡ 1 ∷ to_be_bytes w32 n ++ to_be_bytes w64 g ++ ((b.0 ++ behind) ++ rest) = ap (λ (l : List ℕ). ((1 ∷ (to_be_bytes w32 n ++ l)) ++ behind) ++ rest) b.1 in
      (n, (b.0 ++ behind) ++ rest, is, (snapshot_some p device g s.number s.state, (let h = snapshot_long p device g s.number s.state is_program short fits.state in omega (arith, h))), is_generation)

  same_generation : generation body ≡ g
  same_generation = generation_is p device g s.number s.state is_generation

  has_frame : AreRecords bodies → MayBeOpened g bodies → IsClosed rest → HasFrame file body bodies
  has_frame records gates closed = (
    rest,
    record {
      whole = refl;
      snapshot_length = (snapshot_some p device g s.number s.state, (let h = snapshot_long p device g s.number s.state is_program short fits.state in omega (arith, h)));
      generation_fits = subst IsGeneration (sym same_generation) is_generation;
      records = records;
      gates = λ before behind last split. subst (λ (n : ℕ). MayOpen n before) (sym same_generation) (gates before behind last split);
    },
    closed,
  )

  has_snapshot : HasSnapshot p device body s
  has_snapshot = (fits, ap (λ (n : ℕ). snapshot_bytes p device n s.number s.state) (sym same_generation))

  pub first_opens : (second : List ℕ) (entries : List Logged) → AreRecords bodies → MayBeOpened g bodies → IsClosed rest → IsOlder second g → AreRecordsOf p device (laid s) bodies entries → OpensTo p device file second (after_all p device entries (laid s))
  first_opens second entries records gates closed older are =
      (Store g s entries, (0, body, bodies, (file, inl (refl, refl, g, has_generation, older), has_frame records gates closed), same_generation, has_snapshot, are), refl)

  pub second_opens : (first : List ℕ) (entries : List Logged) → AreRecords bodies → MayBeOpened g bodies → IsClosed rest → IsOlder first g → AreRecordsOf p device (laid s) bodies entries → OpensTo p device first file (after_all p device entries (laid s))
  second_opens first entries records gates closed older are =
      (Store g s entries, (1, body, bodies, (file, inr (refl, refl, g, has_generation, older), has_frame records gates closed), same_generation, has_snapshot, are), refl)

-- ---- one record more

pub after_more : (p : Program) (device : ℕ) (entries others : List Logged) (o : Opened) → after_all p device (entries ++ others) o ≡ after_all p device others (after_all p device entries o)
after_more p device [] others o = refl
after_more p device (l ∷ entries) others o = after_more p device entries others (opened_after p device l o)

pub records_more : (p : Program) (device : ℕ) (o : Opened) (bodies : List (List ℕ)) (entries next : List Logged) → AreRecordsOf p device o bodies entries → IsRecordOf p next → AreAccepted p device (after_all p device entries o) next
    → AreRecordsOf p device o (bodies ++ record_bytes (shape_of p).devices next ∷ []) (entries ++ next)
records_more p device o [] entries next none is accepted =
    (next, [], ap (λ (ls : List Logged). ls ++ next) none ∙ sym (append-nil next), is, refl, subst (λ (ls : List Logged). AreAccepted p device (after_all p device ls o) next) none accepted, refl)
records_more p device o (body ∷ bodies) entries next (first, others, split, fits, whole, taken, more) is accepted =
    let same : after_all p device entries o ≡ after_all p device others (after_all p device first o) = ap (λ (ls : List Logged). after_all p device ls o) split ∙ after_more p device first others o in
    let rest = records_more p device (after_all p device first o) bodies others next more is (subst (λ (x : Opened). AreAccepted p device x next) same accepted) in
    (first, others ++ next, ap (λ (ls : List Logged). ls ++ next) split ∙ append_assoc first others next, fits, whole, taken, rest)

-- ---- one opening

pub same_entries : (p : Program) (device : ℕ) (o : Opened) (bodies : List (List ℕ)) (entries others : List Logged) → IsProgram p → AreRecordsOf p device o bodies entries → AreRecordsOf p device o bodies others → entries ≡ others
same_entries p device o [] entries others is_program e f = e ∙ sym f
same_entries p device o (body ∷ bodies) entries others is_program (first, rest, split, is, whole, taken, more) (second, last, parted, fits, all, accepted, further) =
    let a : record_at p (shape_of p) body ≡ Ok (plain first) = record_there p body first is_program is whole in
    let b : record_at p (shape_of p) body ≡ Ok (plain second) = record_there p body second is_program fits all in
    let read : plain first ≡ plain second = (let c : Ok (plain first) ≡ Ok (plain second) = sym a ∙ b in cc) in
    let same : first ≡ second = ap (λ (l : Listed Logged). l.items) read in
    let others_are : AreRecordsOf p device (after_all p device first o) bodies last = subst (λ (ls : List Logged). AreRecordsOf p device (after_all p device ls o) bodies last) (sym same) further in
    let behind = same_entries p device (after_all p device first o) bodies rest last is_program more others_are in
    split ∙ (λ i. same i ++ behind i) ∙ sym parted

pub same_snapshot : (p : Program) (device : ℕ) (body : List ℕ) (s t : Snapshot) → IsProgram p → device < 256 → length body < 2 ^ 32 → HasSnapshot p device body s → HasSnapshot p device body t → s ≡ t
same_snapshot p device body s t is_program small limit a b =
    let c = snapshot_there p device s.number body s.state is_program small limit a.0 a.1 in
    let d = snapshot_there p device t.number body t.state is_program small limit b.0 b.1 in
    let e : ◌≡◌ {A = Result Snapshot _} (Ok s) (Ok t) = sym c ∙ d in
    cc

-- two stores in the same bodies are one
same_store : (p : Program) (device : ℕ) (body : List ℕ) (bodies : List (List ℕ)) (s t : Snapshot) (entries others : List Logged) → IsProgram p → device < 256 → length body < 2 ^ 32 → HasSnapshot p device body s → HasSnapshot p device body t
    → AreRecordsOf p device (laid s) bodies entries → AreRecordsOf p device (laid t) bodies others → after_all p device entries (laid s) ≡ after_all p device others (laid t)
same_store p device body bodies s t entries others is_program small limit a b are be =
    let same = same_snapshot p device body s t is_program small limit a b in
    let moved = subst (λ (x : Snapshot). AreRecordsOf p device (laid x) bodies others) (sym same) be in
    let list = same_entries p device (laid s) bodies entries others is_program are moved in
    λ i. after_all p device (list i) (laid (same i))

pub one_opening : (p : Program) (device : ℕ) (first second : List ℕ) (o q : Opened) → IsProgram p → device < 256 → OpensTo p device first second o → OpensTo p device first second q → o ≡ q
one_opening p device first second o q is_program small (Blank, a, e) (Blank, b, f) = (let h : Some o ≡ Some q = sym e ∙ f in cc)
one_opening p device first second o q is_program small (Blank, a, e) (Store g s entries, b, f) = absurd (let h = one_store first second frame.Blank (frame.Store b.0 b.1 b.2) a b.3 in cc (h))
one_opening p device first second o q is_program small (Store g s entries, a, e) (Blank, b, f) = absurd (let h = one_store first second frame.Blank (frame.Store a.0 a.1 a.2) b a.3 in cc (h))
one_opening p device first second o q is_program small (Store g s entries, (n, body, bodies, has, gen, snap, are), e) (Store h t others, (m, other, more, there, number, held, be), f) =
    let same = one_store first second (frame.Store n body bodies) (frame.Store m other more) has there in
    let bodies_are : bodies ≡ more = cc in
    let body_is : body ≡ other = cc in
    let limit : length body < 2 ^ 32 = (let long = has.2.1.snapshot_length in omega (arith, long)) in
    let held_too : HasSnapshot p device body t = subst (λ (b : List ℕ). HasSnapshot p device b t) (sym body_is) held in
    let be_too : AreRecordsOf p device (laid t) bodies others = subst (λ (bs : List (List ℕ)). AreRecordsOf p device (laid t) bs others) (sym bodies_are) be in
    let done = same_store p device body bodies s t entries others is_program small limit snap held_too are be_too in
    let x : Some (after_all p device entries (laid s)) ≡ Some o = e in
    let y : Some (after_all p device others (laid t)) ≡ Some q = f in
    let ox : after_all p device entries (laid s) ≡ o = cc in
    let oy : after_all p device others (laid t) ≡ q = cc in
    sym ox ∙ done ∙ oy
one_opening p device first second o q is_program small (Bad n place, a, e) there = absurd (cc (e))
one_opening p device first second o q is_program small (OtherProgram, a, e) there = absurd (cc (e))
one_opening p device first second o q is_program small (Blank, a, e) (Bad n place, b, f) = absurd (cc (f))
one_opening p device first second o q is_program small (Blank, a, e) (OtherProgram, b, f) = absurd (cc (f))
one_opening p device first second o q is_program small (Store g s entries, a, e) (Bad n place, b, f) = absurd (cc (f))
one_opening p device first second o q is_program small (Store g s entries, a, e) (OtherProgram, b, f) = absurd (cc (f))
