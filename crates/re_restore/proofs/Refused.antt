-- Why a store is refused: by its snapshot, or by a record behind it.
use Rattle.std.proofs.Common.{◌≡◌, ◌+◌, inl, inr, ℕ, List, length, Result, Ok, Err, refl, sym, subst, ◌∙◌, arith}
use Rattle.std.specs.Result.{IsErrAnd}
use Rattle.std.specs.List.{flat_map}
use Rattle.std.proofs.lemmas.List.{length-append}
use Rattle.re_outside.specs.Frame.{opened}
use Rattle.re_record.specs.Snapshots.{GivesSnapshot, snapshot_at}
use Rattle.re_record.specs.Stores.{HasBadRecord, HasSnapshot, laid}
use Rattle.re_record.specs.declared.fault.SnapshotFault.{SnapshotFault}
use Rattle.re_record.specs.declared.fault.SnapshotFault.TheVariants as snapshot
use Rattle.re_record.specs.declared.snapshots.Snapshot.{Snapshot}
use Rattle.re_terms.specs.Shapes.{shape_of}
use Rattle.re_terms.specs.declared.program.Program.{Program}
use Rattle.re_terms.specs.declared.replicated.Shape.{Shape}
use Rattle.re_restore.specs.Reading.{IsRefusedStore}
use Rattle.re_restore.specs.Refusals.{record_refusal, snapshot_refusal}
use Rattle.re_restore.specs.Replaying.{HasRefusedRecord}
use Rattle.re_restore.specs.declared.records.ReplayFault.{ReplayFault}
use Rattle.re_restore.specs.declared.records.ReplayFault.TheVariants as replay
use Rattle.re_restore.specs.declared.stores.StoreFault.{StoreFault}
use Rattle.re_restore.specs.declared.stores.StoreFault.TheVariants as store

inner : {T : Type 0} (a b : StoreFault) → ◌≡◌ {A = Result T StoreFault} (Err a) (Err b) → a ≡ b
inner a b same = cc

at_inner : (a b : ℕ) → store.At a ≡ store.At b → a ≡ b
at_inner a b same = cc

pub refused_snapshot : {T : Type 0} (p : Program) (shape : Shape) (device : ℕ) (body : List ℕ) (bodies : List (List ℕ)) (f : SnapshotFault) (r : Result T StoreFault) (place : ℕ) → shape ≡ shape_of p → GivesSnapshot (Err f) (snapshot_at p shape device body) → IsErrAnd r (λ e. e ≡ snapshot_refusal f) → r ≡ Err (store.At place) → IsRefusedStore p device body bodies place
refused_snapshot p shape device body bodies f (Ok x) place same gives is err = absurd is
refused_snapshot p shape device body bodies snapshot.Memory (Err e) place same gives is err = absurd (let m : store.Memory ≡ store.At place = sym is ∙ inner e (store.At place) err in cc)
refused_snapshot p shape device body bodies (snapshot.At k) (Err e) place same gives is err =
    inl (k, subst (λ s. snapshot_at p s device body ≡ Err (snapshot.At k)) same gives, sym (at_inner (5 + k) place (sym is ∙ inner e (store.At place) err)))
refused_snapshot p shape device body bodies snapshot.OtherText (Err e) place same gives is err = absurd (let m : store.OtherProgram ≡ store.At place = sym is ∙ inner e (store.At place) err in cc)

behind_snapshot : (p : Program) (device start : ℕ) (body : List ℕ) (bodies : List (List ℕ)) (s : Snapshot) (place : ℕ) → HasSnapshot p device body s → start ≡ 5 + length body → HasRefusedRecord p device (laid s) start bodies place → HasBadRecord p device body bodies place
behind_snapshot p device start body bodies s place reads begins has = record {
  snapshot = s;
  before = has.before;
  refused = has.refused;
  behind = has.behind;
  entries = has.entries;
  k = has.k;
  reads = reads;
  split = has.split;
  records = has.records;
  bad = has.bad;
  place_is = let own = has.place_is in let long : length (opened body) ≡ 5 + length body = omega arith in omega (arith, own, begins, long, length-append (opened body) (flat_map opened has.before));
}

pub refused_record : {T : Type 0} (p : Program) (device start : ℕ) (body : List ℕ) (bodies : List (List ℕ)) (s : Snapshot) (f : ReplayFault) (r : Result T StoreFault) (place : ℕ) → HasSnapshot p device body s → start ≡ 5 + length body → ((q : ℕ) → f ≡ replay.At q → HasRefusedRecord p device (laid s) start bodies q) → IsErrAnd r (λ e. e ≡ record_refusal f) → r ≡ Err (store.At place) → IsRefusedStore p device body bodies place
refused_record p device start body bodies s f (Ok x) place reads begins bad is err = absurd is
refused_record p device start body bodies s replay.Memory (Err e) place reads begins bad is err = absurd (let m : store.Memory ≡ store.At place = sym is ∙ inner e (store.At place) err in cc)
refused_record p device start body bodies s (replay.At q) (Err e) place reads begins bad is err =
    let own : q ≡ place = at_inner q place (sym is ∙ inner e (store.At place) err) in
    inr (subst (HasBadRecord p device body bodies) own (behind_snapshot p device start body bodies s q reads begins (bad q refl)))
