-- Two files are one thing alone to a program: blank, refused at one place, another program's, or one store.
use Rattle.std.proofs.Common.{◌≡◌, ℕ, ◌+◌, ◌^◌, ◌<◌, ◌⊎◌, inl, inr, List, [], ◌∷◌, ◌++◌, length, false, true, Result, Ok, Err, refl, sym, ap, subst, ◌∙◌, arith}
use Rattle.re_outside.proofs.Stores.{one_store}
use Rattle.re_outside.specs.Frame as frame
use Rattle.re_outside.specs.Frame.{HasStoreFrame, StoreFrame, front}
use Rattle.re_record.specs.Logs.{IsRecordOf}
use Rattle.re_record.specs.Reading.{record_at}
use Rattle.re_record.specs.Restoring.{Opened, AreAccepted, after_all, is_refused, opened_after}
use Rattle.re_record.specs.Snapshots.{HasOtherText, snapshot_at}
use Rattle.re_record.specs.Spellings.{record_bytes}
use Rattle.re_record.specs.Stores.{AreRecordsOf, Bad, Blank, HasBadRecord, HasBadSnapshot, HasSnapshot, HasStore, IsBadRecord, OtherProgram, Store, Stored, laid, tag_place}
use Rattle.re_record.specs.declared.fault.SnapshotFault.{SnapshotFault}
use Rattle.re_record.specs.declared.fault.SnapshotFault.TheVariants as faults
use Rattle.re_record.specs.declared.snapshots.Snapshot.{Snapshot}
use Rattle.re_record.proofs.RecordLaws.{record_there}
use Rattle.re_record.proofs.SnapshotLaws.{other_there, snapshot_there}
use Rattle.re_record.proofs.StoreLaws.{after_more, same_entries, same_snapshot}
use Rattle.re_terms.specs.Listed.{Listed, plain}
use Rattle.re_terms.specs.Programs.{IsProgram}
use Rattle.re_terms.specs.Shapes.{shape_of}
use Rattle.re_terms.specs.declared.entry.Logged.{Logged}
use Rattle.re_terms.specs.declared.program.Program.{Program}

module _ (p : Program) (device : ℕ) (is : IsProgram p) where
  -- ---- one record

  -- an entry that is refused stands behind the same entries
  first_refused : (o : Opened) (before other behind last : List Logged) (l m : Logged) → before ++ l ∷ behind ≡ other ++ m ∷ last → AreAccepted p device o before → AreAccepted p device o other
      → is_refused p device (after_all p device before o) l.entry ≡ true → is_refused p device (after_all p device other o) m.entry ≡ true → before ≡ other
  first_refused o [] [] behind last l m same a b e f = refl
  first_refused o [] (y ∷ other) behind last l m same a b e f =
      let head : l ≡ y = cc in
      absurd (let h : true ≡ false = sym e ∙ ap (λ (z : Logged). is_refused p device o z.entry) head ∙ b.0 in cc (h))
  first_refused o (x ∷ before) [] behind last l m same a b e f =
      let head : x ≡ m = cc in
      absurd (let h : true ≡ false = sym f ∙ ap (λ (z : Logged). is_refused p device o z.entry) (sym head) ∙ a.0 in cc (h))
  first_refused o (x ∷ before) (y ∷ other) behind last l m same a b e f =
      let head : x ≡ y = cc in
      let tail : before ++ l ∷ behind ≡ other ++ m ∷ last = cc in
      let c = subst (λ (z : Logged). AreAccepted p device (opened_after p device z o) other) (sym head) b.1 in
      let g = subst (λ (z : Logged). is_refused p device (after_all p device other (opened_after p device z o)) m.entry ≡ true) (sym head) f in
      let rest = first_refused (opened_after p device x o) before other behind last l m tail a.1 c e g in
      λ i. head i ∷ rest i

  none_refused : (o : Opened) (before behind : List Logged) (l : Logged) → AreAccepted p device o (before ++ l ∷ behind) → is_refused p device (after_all p device before o) l.entry ≡ true → ⊥
  none_refused o [] behind l a e = let h : true ≡ false = sym e ∙ a.0 in cc (h)
  none_refused o (x ∷ before) behind l a e = none_refused (opened_after p device x o) before behind l a.1 e

  same_record : (body : List ℕ) (xs ys : List Logged) → IsRecordOf p xs → body ≡ record_bytes (shape_of p).devices xs → IsRecordOf p ys → body ≡ record_bytes (shape_of p).devices ys → xs ≡ ys
  same_record body xs ys fits whole fit all =
      let a : record_at p (shape_of p) body ≡ Ok (plain xs) = record_there p body xs is fits whole in
      let b : record_at p (shape_of p) body ≡ Ok (plain ys) = record_there p body ys is fit all in
      let read : plain xs ≡ plain ys = (let c : Ok (plain xs) ≡ Ok (plain ys) = sym a ∙ b in cc) in
      ap (λ (l : Listed Logged). l.items) read

  -- a record whose entries are done isn't refused
  not_refused : (o : Opened) (body : List ℕ) (k : ℕ) (entries : List Logged) → IsRecordOf p entries → body ≡ record_bytes (shape_of p).devices entries → AreAccepted p device o entries → IsBadRecord p device o body k → ⊥
  not_refused o body k entries fits whole taken (inl a) = let h : Err k ≡ Ok (plain entries) = sym a ∙ record_there p body entries is fits whole in cc (h)
  not_refused o body k entries fits whole taken (inr a) =
      let same = same_record body entries a.entries fits whole a.fits a.whole ∙ a.first.split in
      none_refused o a.before a.first.behind a.first.refused (subst (AreAccepted p device o) same taken) a.first.fault

  one_place : (o : Opened) (body : List ℕ) (k j : ℕ) → IsBadRecord p device o body k → IsBadRecord p device o body j → k ≡ j
  one_place o body k j (inl a) (inl b) = (let h : ◌≡◌ {A = Result (Listed Logged) ℕ} (Err k) (Err j) = sym a ∙ b in cc)
  one_place o body k j (inl a) (inr b) = absurd (let h : Err k ≡ Ok (plain b.entries) = sym a ∙ record_there p body b.entries is b.fits b.whole in cc (h))
  one_place o body k j (inr a) (inl b) = absurd (let h : Err j ≡ Ok (plain a.entries) = sym b ∙ record_there p body a.entries is a.fits a.whole in cc (h))
  one_place o body k j (inr a) (inr b) =
      let same = same_record body a.entries b.entries a.fits a.whole b.fits b.whole in
      let before = first_refused o a.before b.before a.first.behind b.first.behind a.first.refused b.first.refused (sym a.first.split ∙ same ∙ b.first.split) a.first.accepted b.first.accepted a.first.fault b.first.fault in
      a.place_is ∙ ap (tag_place p) before ∙ sym b.place_is

  -- ---- the records of a store

  -- what one more record comes to
  behind_one : (o : Opened) (first others entries : List Logged) (body : List ℕ) (k : ℕ) → entries ≡ first ++ others → IsBadRecord p device (after_all p device entries o) body k → IsBadRecord p device (after_all p device others (after_all p device first o)) body k
  behind_one o first others entries body k split = subst (λ (x : Opened). IsBadRecord p device x body k) (ap (λ (ls : List Logged). after_all p device ls o) split ∙ after_more p device first others o)

  -- a record that is refused stands behind the same records
  one_record : (o : Opened) (before other behind last : List (List ℕ)) (body next : List ℕ) (entries others : List Logged) (k j : ℕ) → before ++ body ∷ behind ≡ other ++ next ∷ last
      → AreRecordsOf p device o before entries → AreRecordsOf p device o other others → IsBadRecord p device (after_all p device entries o) body k → IsBadRecord p device (after_all p device others o) next j → (before ≡ other) × (k ≡ j)
  one_record o [] [] behind last body next entries others k j same r s a b =
      let head : body ≡ next = cc in
      let here = subst (λ (ls : List Logged). IsBadRecord p device (after_all p device ls o) body k) r a in
      let there = subst (λ (ls : List Logged). IsBadRecord p device (after_all p device ls o) next j) s b in
      (refl, one_place o body k j here (subst (λ (l : List ℕ). IsBadRecord p device o l j) (sym head) there))
  one_record o [] (y ∷ other) behind last body next entries others k j same r (first, rest, split, fits, whole, taken, more) a b =
      let head : body ≡ y = cc in
      absurd (not_refused o body k first fits (head ∙ whole) taken (subst (λ (ls : List Logged). IsBadRecord p device (after_all p device ls o) body k) r a))
  one_record o (x ∷ before) [] behind last body next entries others k j same (first, rest, split, fits, whole, taken, more) s a b =
      let head : next ≡ x = cc in
      absurd (not_refused o next j first fits (head ∙ whole) taken (subst (λ (ls : List Logged). IsBadRecord p device (after_all p device ls o) next j) s b))
  one_record o (x ∷ before) (y ∷ other) behind last body next entries others k j same (first, rest, split, fits, whole, taken, more) (second, late, parted, fit, all, accepted, further) a b =
      let head : x ≡ y = cc in
      let tail : before ++ body ∷ behind ≡ other ++ next ∷ last = cc in
      let one : second ≡ first = same_record x second first fit (head ∙ all) fits whole in
      let next_are = subst (λ (ls : List Logged). AreRecordsOf p device (after_all p device ls o) other late) one further in
      let there = subst (λ (ls : List Logged). IsBadRecord p device (after_all p device late (after_all p device ls o)) next j) one (behind_one o second late others next j parted b) in
      let found = one_record (after_all p device first o) before other behind last body next rest late k j tail more next_are (behind_one o first rest entries body k split a) there in
      (λ i. head i ∷ found.0 i, found.1)

  -- of records that all are done none is refused
  none_bad : (o : Opened) (before behind : List (List ℕ)) (body : List ℕ) (entries all : List Logged) (k : ℕ) → AreRecordsOf p device o before entries → AreRecordsOf p device o (before ++ body ∷ behind) all → IsBadRecord p device (after_all p device entries o) body k → ⊥
  none_bad o [] behind body entries all k r (first, rest, split, fits, whole, taken, more) a =
      not_refused o body k first fits whole taken (subst (λ (ls : List Logged). IsBadRecord p device (after_all p device ls o) body k) r a)
  none_bad o (x ∷ before) behind body entries all k (first, rest, split, fits, whole, taken, more) (second, late, parted, fit, same, accepted, further) a =
      let one : second ≡ first = same_record x second first fit same fits whole in
      let are = subst (λ (ls : List Logged). AreRecordsOf p device (after_all p device ls o) (before ++ body ∷ behind) late) one further in
      none_bad (after_all p device first o) before behind body rest late k more are (behind_one o first rest entries body k split a)

  -- ---- the snapshot and the records

  module _ (small : device < 256) (body : List ℕ) (bodies : List (List ℕ)) (limit : length body < 2 ^ 32) where
    reads_so : (s : Snapshot) → HasSnapshot p device body s → snapshot_at p (shape_of p) device body ≡ Ok s
    reads_so s h = snapshot_there p device s.number body s.state is small limit h.0 h.1

    not_bad : (s : Snapshot) (place : ℕ) → HasSnapshot p device body s → HasBadSnapshot p device body place → ⊥
    not_bad s place h b = let e : Err (faults.At b.0) ≡ Ok s = sym b.1 ∙ reads_so s h in cc (e)

    not_other : (s : Snapshot) → HasSnapshot p device body s → HasOtherText p device body → ⊥
    not_other s h t = let e : Err faults.OtherText ≡ Ok s = sym (other_there p device body small t) ∙ reads_so s h in cc (e)

    abbrev IsRefused : ℕ → Type 0
    IsRefused place = HasBadSnapshot p device body place ⊎ HasBadRecord p device body bodies place

    refused_not_other : (place : ℕ) → IsRefused place → HasOtherText p device body → ⊥
    refused_not_other place (inl b) t = let e : ◌≡◌ {A = Result Snapshot SnapshotFault} (Err (faults.At b.0)) (Err faults.OtherText) = sym b.1 ∙ other_there p device body small t in cc (e)
    refused_not_other place (inr b) t = not_other b.snapshot b.reads t

    refused_not_store : (place : ℕ) (s : Snapshot) (entries : List Logged) → IsRefused place → HasSnapshot p device body s → AreRecordsOf p device (laid s) bodies entries → ⊥
    refused_not_store place s entries (inl b) h are = not_bad s place h b
    refused_not_store place s entries (inr b) h are =
        let same : s ≡ b.snapshot = same_snapshot p device body s b.snapshot is small limit h b.reads in
        let all = subst (λ (x : Snapshot). AreRecordsOf p device (laid x) bodies entries) same are in
        none_bad (laid b.snapshot) b.before b.behind b.refused b.entries entries b.k b.records (subst (λ (bs : List (List ℕ)). AreRecordsOf p device (laid b.snapshot) bs entries) b.split all) b.bad

    one_refused : (place other : ℕ) → IsRefused place → IsRefused other → place ≡ other
    one_refused place other (inl a) (inl b) = (let e : ◌≡◌ {A = Result Snapshot SnapshotFault} (Err (faults.At a.0)) (Err (faults.At b.0)) = sym a.1 ∙ b.1 in let k : a.0 ≡ b.0 = cc in a.2 ∙ ap (λ n. 5 + n) k ∙ sym b.2)
    one_refused place other (inl a) (inr b) = absurd (not_bad b.snapshot place b.reads a)
    one_refused place other (inr a) (inl b) = absurd (not_bad a.snapshot other a.reads b)
    one_refused place other (inr a) (inr b) =
        let same : b.snapshot ≡ a.snapshot = same_snapshot p device body b.snapshot a.snapshot is small limit b.reads a.reads in
        let are = subst (λ (x : Snapshot). AreRecordsOf p device (laid x) b.before b.entries) same b.records in
        let bad = subst (λ (x : Snapshot). IsBadRecord p device (after_all p device b.entries (laid x)) b.refused b.k) same b.bad in
        let found = one_record (laid a.snapshot) a.before b.before a.behind b.behind a.refused b.refused a.entries b.entries a.k b.k (sym a.split ∙ b.split) a.records are a.bad bad in
        a.place_is ∙ (λ i. length (front body (found.0 i)) + 5 + found.1 i) ∙ sym b.place_is

-- ---- two files

module _ (p : Program) (device : ℕ) (is : IsProgram p) (small : device < 256) (first second : List ℕ) where
  -- the bytes of a store fit into a file
  fits : (n : ℕ) (body : List ℕ) (bodies : List (List ℕ)) → HasStoreFrame first second (frame.Store n body bodies) → length body < 2 ^ 32
  fits n body bodies has = let long = has.2.1.snapshot_length in omega (arith, long)

  -- two frames that differ
  apart : (f g : StoreFrame) → HasStoreFrame first second f → HasStoreFrame first second g → (f ≡ g → ⊥) → ⊥
  apart f g a b differ = differ (one_store first second f g a b)

  blank_one : HasStoreFrame first second frame.Blank → (x : Stored) → HasStore p device first second x → Blank ≡ x
  blank_one a Blank b = refl
  blank_one a (Bad n place) (inl b) = absurd (apart frame.Blank (frame.Bad n place) a b (λ e. cc (e)))
  blank_one a (Bad n place) (inr b) = absurd (apart frame.Blank (frame.Store n b.0 b.1) a b.2 (λ e. cc (e)))
  blank_one a OtherProgram b = absurd (apart frame.Blank (frame.Store b.0 b.1 b.2) a b.3 (λ e. cc (e)))
  blank_one a (Store g s entries) b = absurd (apart frame.Blank (frame.Store b.0 b.1 b.2) a b.3 (λ e. cc (e)))

  bad_one : (n place : ℕ) → HasStore p device first second (Bad n place) → (x : Stored) → HasStore p device first second x → Bad n place ≡ x
  bad_one n place a Blank b = sym (blank_one b (Bad n place) a)
  bad_one n place (inl a) (Bad m other) (inl b) = (let h : frame.Bad n place ≡ frame.Bad m other = one_store first second (frame.Bad n place) (frame.Bad m other) a b in let k : n ≡ m = cc in let l : place ≡ other = cc in λ i. Bad (k i) (l i))
  bad_one n place (inl a) (Bad m other) (inr b) = absurd (apart (frame.Bad n place) (frame.Store m b.0 b.1) a b.2 (λ e. cc (e)))
  bad_one n place (inr a) (Bad m other) (inl b) = absurd (apart (frame.Store n a.0 a.1) (frame.Bad m other) a.2 b (λ e. cc (e)))
  bad_one n place (inr (body, bodies, has, refused)) (Bad m other) (inr (body_too, bodies_too, has_too, refused_too)) =
      let h : frame.Store n body bodies ≡ frame.Store m body_too bodies_too = one_store first second (frame.Store n body bodies) (frame.Store m body_too bodies_too) has has_too in
      let k : n ≡ m = cc in
      let l : body_too ≡ body = cc in
      let bs : bodies_too ≡ bodies = cc in
      let there = subst (λ (x : List (List ℕ)). HasBadSnapshot p device body other ⊎ HasBadRecord p device body x other) bs (subst (λ (x : List ℕ). HasBadSnapshot p device x other ⊎ HasBadRecord p device x bodies_too other) l refused_too) in
      let e = one_refused p device is small body bodies (fits n body bodies has) place other refused there in
      λ i. Bad (k i) (e i)
  bad_one n place (inl a) OtherProgram b = absurd (apart (frame.Bad n place) (frame.Store b.0 b.1 b.2) a b.3 (λ e. cc (e)))
  bad_one n place (inr (body, bodies, has, refused)) OtherProgram (m, body_too, bodies_too, has_too, text) =
      let h : frame.Store n body bodies ≡ frame.Store m body_too bodies_too = one_store first second (frame.Store n body bodies) (frame.Store m body_too bodies_too) has has_too in
      let l : body_too ≡ body = cc in
      absurd (refused_not_other p device is small body bodies (fits n body bodies has) place refused (subst (HasOtherText p device) l text))
  bad_one n place (inl a) (Store g s entries) b = absurd (apart (frame.Bad n place) (frame.Store b.0 b.1 b.2) a b.3 (λ e. cc (e)))
  bad_one n place (inr (body, bodies, has, refused)) (Store g s entries) (m, body_too, bodies_too, has_too, number, snap, are) =
      let h : frame.Store n body bodies ≡ frame.Store m body_too bodies_too = one_store first second (frame.Store n body bodies) (frame.Store m body_too bodies_too) has has_too in
      let l : body_too ≡ body = cc in
      let bs : bodies_too ≡ bodies = cc in
      absurd (refused_not_store p device is small body bodies (fits n body bodies has) place s entries refused (subst (λ (x : List ℕ). HasSnapshot p device x s) l snap) (subst (λ (x : List (List ℕ)). AreRecordsOf p device (laid s) x entries) bs are))

  other_one : HasStore p device first second OtherProgram → (x : Stored) → HasStore p device first second x → OtherProgram ≡ x
  other_one a Blank b = sym (blank_one b OtherProgram a)
  other_one a (Bad n place) b = sym (bad_one n place b OtherProgram a)
  other_one a OtherProgram b = refl
  other_one (n, body, bodies, has, text) (Store g s entries) (m, body_too, bodies_too, has_too, number, snap, are) =
      let h : frame.Store n body bodies ≡ frame.Store m body_too bodies_too = one_store first second (frame.Store n body bodies) (frame.Store m body_too bodies_too) has has_too in
      let l : body_too ≡ body = cc in
      absurd (not_other p device is small body bodies (fits n body bodies has) s (subst (λ (x : List ℕ). HasSnapshot p device x s) l snap) text)

  store_one : (g : ℕ) (s : Snapshot) (entries : List Logged) → HasStore p device first second (Store g s entries) → (x : Stored) → HasStore p device first second x → Store g s entries ≡ x
  store_one g s entries a Blank b = sym (blank_one b (Store g s entries) a)
  store_one g s entries a (Bad n place) b = sym (bad_one n place b (Store g s entries) a)
  store_one g s entries a OtherProgram b = sym (other_one b (Store g s entries) a)
  store_one g s entries (n, body, bodies, has, number, snap, are) (Store e t others) (m, body_too, bodies_too, has_too, number_too, snap_too, are_too) =
      let h : frame.Store n body bodies ≡ frame.Store m body_too bodies_too = one_store first second (frame.Store n body bodies) (frame.Store m body_too bodies_too) has has_too in
      let l : body ≡ body_too = cc in
      let bs : bodies_too ≡ bodies = cc in
      let generation : g ≡ e = sym number ∙ ap frame.generation l ∙ number_too in
      let snapshot : t ≡ s = same_snapshot p device body t s is small (fits n body bodies has) (subst (λ (x : List ℕ). HasSnapshot p device x t) (sym l) snap_too) snap in
      let there = subst (λ (x : Snapshot). AreRecordsOf p device (laid x) bodies others) snapshot (subst (λ (x : List (List ℕ)). AreRecordsOf p device (laid t) x others) bs are_too) in
      let list = same_entries p device (laid s) bodies entries others is are there in
      λ i. Store (generation i) (sym snapshot i) (list i)

  pub one_stored : (x y : Stored) → HasStore p device first second x → HasStore p device first second y → x ≡ y
  one_stored Blank y a b = blank_one a y b
  one_stored (Bad n place) y a b = bad_one n place a y b
  one_stored OtherProgram y a b = other_one a y b
  one_stored (Store g s entries) y a b = store_one g s entries a y b
