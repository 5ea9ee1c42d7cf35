use Rattle.std.specs.Prelude.{◌==◌, ◌||◌, nat_le}
use Rattle.std.specs.List.{flat_map}
use Rattle.std.proofs.Common.{◌≡◌, ◌++◌, ◌∷◌, ◌+◌, ◌-◌, ◌^◌, [], ℕ, List, Err, true, length, sym, ap, subst, ◌∙◌, rules, arith}
use Rattle.re_outside.specs.Frame.{IsRecordLength, AreRecords, opened, generation as generation_of, is_blank, ReadsTo}
use Rattle.re_outside.specs.Trace.{content_of}
use Rattle.re_journal.specs.Readings.{coming, KnowsSize, Passes, RefusesBehind, IsRefusedRecord}
use Rattle.re_journal.specs.Scans.{all_bytes, IsRefusedAt}
use Rattle.re_journal.specs.declared.fault.ScanFault.TheVariants.{Bad}
use Rattle.re_journal.proofs.Records.{all_records, reads_more}
use Rattle.re_journal.proofs.ScannedFiles.{bytes_more, long_more, may_open, bad_record}
use Rattle.re_journal.proofs.scans.scan.Goals as goal

pub returns-in_err-snapshot-clause-bad : goal.returns-in_err-snapshot-clause-bad
returns-in_err-snapshot-clause-bad g c = λ at told full bad.
    let past = g.D.Disk.past c.args.disk.now in
    let reader = c.in_ok-reader.reader in
    let still : g.D.Disk.past c.open.new.disk ≡ past = c.in_ok-reader.ensures.steps told in
    let whole : coming reader past ≡ content_of past c.args.file = c.in_ok-reader.ensures.coming told in
    let same : c.head.result ≡ Err (Bad at) = search rules in
    let known : KnowsSize reader (g.D.Disk.past c.open.new.disk) = subst (KnowsSize reader) (sym still) (c.in_ok-reader.ensures.size told) in
    let there : coming reader (g.D.Disk.past c.open.new.disk) ≡ content_of past c.args.file = ap (coming reader) still ∙ whole in
    subst (λ (l : List ℕ). IsRefusedAt l at) there (c.head.ensures.bad at told known (ap is_blank there ∙ full) c.in_ok-reader.ensures.file.1 same)

pub returns-in_err-body-clause-bad : goal.returns-in_err-body-clause-bad
returns-in_err-body-clause-bad g c = λ at told full bad.
    let past = g.D.Disk.past c.args.disk.now in
    let reader = c.loop-bodies.reader in
    let snapshot = c.loop-bodies.snapshot.items in
    let bodies = all_bytes c.loop-bodies.bodies.items in
    let held = c.loop-bodies.invariant in
    let start = c.head.new.reader.place in
    let n : ℕ = reader.place - start in
    let still : g.D.Disk.past c.loop-bodies.disk ≡ past = held.past told in
    let same : c.record.result ≡ Err (Bad at) = search rules in
    let known : KnowsSize reader (g.D.Disk.past c.loop-bodies.disk) = subst (KnowsSize reader) (sym still) (held.size told) in
    let may = c.may_be_open-may_open.result in
    let there : RefusesBehind (IsRefusedRecord may (coming reader past)) reader at =
    subst (λ p. RefusesBehind (IsRefusedRecord may (coming reader p)) reader at) still (c.record.ensures.bad at told known same) in
    bad_record (content_of past c.args.file) snapshot (coming reader past) bodies (held.reads told) n start at there.0 may (omega (arith, held.place)) held.start (omega (arith, held.place, there.1))
    (c.may_be_open-may_open.ensures ∙ ap (λ v. nat_le n 65537 || v == 2 ^ 62) held.number) there.2

pub loop-bodies-preserved : goal.loop-bodies-preserved
loop-bodies-preserved g c =
    let past = g.D.Disk.past c.args.disk.now in
    let reader = c.loop-bodies.reader in
    let next = c.record.new.reader in
    let snapshot = c.loop-bodies.snapshot.items in
    let lists = c.loop-bodies.bodies.items in
    let bodies = all_bytes lists in
    let body = c.in-Some.body in
    let held = c.loop-bodies.invariant in
    let n : ℕ = reader.place - c.head.new.reader.place in
    let passes : Passes (5 + length body.items) reader next = search rules in
    let pushed : c.push.new.self.items ≡ lists ++ body ∷ [] = search rules in
    let fits : IsRecordLength (length body.items) = search rules in
    let long : length (flat_map opened (all_bytes c.push.new.self.items)) ≡ length (flat_map opened bodies) + (5 + length body.items) = ap (λ l. length (flat_map opened (all_bytes l))) pushed ∙ long_more lists body in
    record {
      past = search rules;
      device = search rules;
      rest = search rules;
      faults = search rules;
      file = search rules;
      number = held.number;
      snapshot_length = held.snapshot_length;
      generation_fits = held.generation_fits;
      records = subst AreRecords (sym (ap all_bytes pushed ∙ bytes_more lists body)) (all_records bodies body.items held.records fits);
      start = held.start;
      place = omega (arith, passes.place, held.place, long);
      size = search rules;
      reads = λ told.
          let test : c.may_be_open-may_open.result ≡ true = search rules in
          let is : coming reader past ≡ opened body.items ++ coming next past = search rules in
          subst (λ (l : List (List ℕ)). ReadsTo (content_of past c.args.file) snapshot l (coming next past)) (sym (ap all_bytes pushed ∙ bytes_more lists body))
          (reads_more (content_of past c.args.file) snapshot body.items (coming reader past) (coming next past) bodies (held.reads told) fits
          (may_open (generation_of snapshot) n bodies (omega (arith, held.place)) (sym (c.may_be_open-may_open.ensures ∙ ap (λ v. nat_le n 65537 || v == 2 ^ 62) held.number) ∙ test)) is);
    }
