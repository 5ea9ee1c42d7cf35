-- What is restored is what was found, or the start that was laid.
use Rattle.std.proofs.Common.{◌≡◌, ℕ, List, [], Result, Ok, Err, refl, ap, subst, sym, ◌∙◌, arith}
use Rattle.std.specs.Prelude.{IfOk}
use Rattle.std.specs.Result.{IsErrAnd}
use Rattle.re_outside.specs.Frame as frame
use Rattle.re_outside.specs.Frame.{HasStoreFrame}
use Rattle.re_outside.specs.Trace.{Past, content_of}
use Rattle.re_journal.specs.Journals.{frame_of, other_file}
use Rattle.re_journal.specs.Scans.{all_bytes}
use Rattle.re_journal.specs.declared.journal.Journal.{Journal}
use Rattle.re_compact.specs.Finding.{HasItsGeneration, IsFreshlyFound, frame_found, journal_found}
use Rattle.re_compact.specs.Pair.{StandsIn}
use Rattle.re_compact.specs.declared.fault.OpenFault.{OpenFault}
use Rattle.re_compact.specs.declared.fault.OpenFault.TheVariants.{BadStore, OtherProgram}
use Rattle.re_record.specs.Restoring.{unopened}
use Rattle.re_record.specs.Stores.{ComesTo, OpensTo}
use Rattle.re_record.proofs.LoggedLengths.{generation_is}
use Rattle.re_terms.specs.Programs.{IsProgram}
use Rattle.re_terms.specs.Shapes.{start_state}
use Rattle.re_terms.specs.declared.program.Program.{Program}
use Rattle.re_restore.specs.Opening.{StandsOpened, lay_steps, opened_as, start_snapshot}
use Rattle.re_restore.specs.declared.opening.Restored.{Restored}
use Rattle.re_restore.proofs.Decided.{answers, finds_no_program, not_bad, not_other}
use Rattle.re_restore.proofs.RestoreSteps.{blank_steps, not_found, own_plan, store_steps}
use Rattle.re_restore.proofs.Laid.{one_fits, stands_anew, start_comes}
use Rattle.re_restore.proofs.StillOpening.{blank_reads, blank_still, found_reads, found_still}
use Rattle.re_restore.proofs.Opened.{bad_frame, bad_store, opens_blank, opens_store, other_store}
use Rattle.re_restore.proofs.opening.restore.Goals as goal

-- the fault of a call that is handed on
handed_on : {T : Type 0} (r : Result T OpenFault) (e f : OpenFault) → IsErrAnd r (λ x. x ≡ e) → r ≡ Err f → e ≡ f
handed_on (Ok x) e f is same = absurd is
handed_on (Err y) e f is same = sym is ∙ (cc)

is_err : {T : Type 0} (r : Result T OpenFault) (e : OpenFault) → IsErrAnd r (λ x. x ≡ e) → r ≡ Err e
is_err (Ok x) e is = absurd is
is_err (Err y) e is = ap Err is

ok_one : {T E : Type 0} {P Q : T → Type 0} (r : Result T E) → ((x : T) → P x → Q x) → IfOk r P → IfOk r Q
ok_one (Ok x) f h = f x h
ok_one (Err e) f h = h

ok_three : {T E : Type 0} {P Q R S : T → Type 0} (r : Result T E) → ((x : T) → P x → Q x → R x → S x) → IfOk r P → IfOk r Q → IfOk r R → IfOk r S
ok_three (Ok x) f h i j = f x h i j
ok_three (Err e) f h i j = h

-- the store that a journal stands on is in its own file
in_own_file : (j : Journal) (file : ℕ) (body : List ℕ) (bodies : List (List ℕ)) (now : Past) → StandsIn j (frame.Store file body bodies) now → StandsIn j (frame.Store j.file body bodies) now
in_own_file j file body bodies now s = subst (λ f. StandsIn j (frame.Store f body bodies) now) s.here s

stands_at_start : (p : Program) (device file : ℕ) (r : Restored) (now : Past) → IsProgram p → opened_as r ≡ unopened p → r.generation ≡ 1 → StandsIn r.journal (frame.Store file (start_snapshot p device) []) now → StandsOpened p device r now
stands_at_start p device file r now is opened first s = record {
  snapshot = start_snapshot p device;
  bodies = [];
  stands = in_own_file r.journal file (start_snapshot p device) [] now s;
  comes = subst (ComesTo p device (start_snapshot p device) []) (sym opened) (start_comes p device is);
  generation = generation_is p device 1 0 (start_state p) one_fits ∙ sym first;
}

stands_at_store : (p : Program) (device g : ℕ) (j : Journal) (body : List ℕ) (bodies : List (List ℕ)) (r : Restored) (now : Past) → StandsIn j (frame.Store j.file body bodies) now → g ≡ frame.generation body → ComesTo p device body bodies (opened_as r) → r.generation ≡ g → r.journal ≡ record j { calls = 0 } → StandsOpened p device r now
stands_at_store p device g j body bodies r now s own comes told same = record {
  snapshot = body;
  bodies = bodies;
  stands = in_own_file r.journal j.file body bodies now (stands_anew j r.journal (frame.Store j.file body bodies) now same s);
  comes = comes;
  generation = sym own ∙ sym told;
}

pub returns-in_err-journal-clause-bad : goal.returns-in_err-journal-clause-bad
returns-in_err-journal-clause-bad g c file at tells err =
    bad_frame c.args.p.now c.args.device file at (content_of (g.D.Disk.past c.args.disk.now) 0) (content_of (g.D.Disk.past c.args.disk.now) 1)
    (c.in_err-journal.ensures.bad file at tells (ap Err (handed_on c.from_residual.result _ _ c.from_residual.ensures.1 err)))

pub returns-in-Blank-clause-opened : goal.returns-in-Blank-clause-opened
returns-in-Blank-clause-opened g c tells =
    let a : List ℕ = content_of (g.D.Disk.past c.args.disk.now) 0 in
    let b : List ℕ = content_of (g.D.Disk.past c.args.disk.now) 1 in
    let has = subst (λ found. HasStoreFrame a b (frame_found found)) c.in-Blank.is (c.in_ok-journal.ensures.frame tells) in
    ok_one c.open_blank.result (λ r is. subst (OpensTo c.args.p.now c.args.device a b) (sym is) (opens_blank c.args.p.now c.args.device a b has)) c.open_blank.ensures.opened

pub returns-in-Blank-clause-stands : goal.returns-in-Blank-clause-stands
returns-in-Blank-clause-stands g c tells =
    let mid = g.D.Disk.past c.find_store.new.disk in
    let there = subst (λ found. StandsIn (journal_found found) (frame_found found) mid) c.in-Blank.is (c.in_ok-journal.ensures.stands tells) in
    ok_three c.open_blank.result
    (λ r opened first s. stands_at_start c.args.p.now c.args.device (other_file c.in-Blank.journal.file) r (g.D.Disk.past c.open_blank.new.disk) c.requires.program opened first (s there))
    c.open_blank.ensures.opened c.open_blank.ensures.generation (c.open_blank.ensures.stands tells)

pub returns-in-Store-clause-opened : goal.returns-in-Store-clause-opened
returns-in-Store-clause-opened g c tells =
    let a : List ℕ = content_of (g.D.Disk.past c.args.disk.now) 0 in
    let b : List ℕ = content_of (g.D.Disk.past c.args.disk.now) 1 in
    let has = subst (λ found. HasStoreFrame a b (frame_found found)) c.in-Store.is (c.in_ok-journal.ensures.frame tells) in
    ok_one c.open_found.result
    (λ r comes. opens_store c.args.p.now c.args.device c.in-Store.journal.file a b c.in-Store.snapshot.items (all_bytes c.in-Store.bodies.items) (opened_as r) has comes) c.open_found.ensures.opened

pub returns-in-Store-clause-stands : goal.returns-in-Store-clause-stands
returns-in-Store-clause-stands g c tells =
    let now = g.D.Disk.past c.find_store.new.disk in
    let there = subst (λ found. StandsIn (journal_found found) (frame_found found) now) c.in-Store.is (c.in_ok-journal.ensures.stands tells) in
    let own = subst HasItsGeneration c.in-Store.is (c.in_ok-journal.ensures.generation tells) in
    ok_three c.open_found.result
    (λ r comes told same. stands_at_store c.args.p.now c.args.device c.in-Store.generation c.in-Store.journal c.in-Store.snapshot.items (all_bytes c.in-Store.bodies.items) r now there own comes told same)
    c.open_found.ensures.opened c.open_found.ensures.generation c.open_found.ensures.journal

pub returns-in-Store-clause-bad : goal.returns-in-Store-clause-bad
returns-in-Store-clause-bad g c file at tells err =
    let a : List ℕ = content_of (g.D.Disk.past c.args.disk.now) 0 in
    let b : List ℕ = content_of (g.D.Disk.past c.args.disk.now) 1 in
    let has = subst (λ found. HasStoreFrame a b (frame_found found)) c.in-Store.is (c.in_ok-journal.ensures.frame tells) in
    let refused = c.open_found.ensures.bad file at err in
    bad_store c.args.p.now c.args.device file at a b c.in-Store.snapshot.items (all_bytes c.in-Store.bodies.items)
    (subst (λ f. HasStoreFrame a b (frame.Store f c.in-Store.snapshot.items (all_bytes c.in-Store.bodies.items))) (sym refused.0) has) refused.1

pub returns-in_err-journal-clause-each_moment : goal.returns-in_err-journal-clause-each_moment
returns-in_err-journal-clause-each_moment g c tells = found_still c.args.p.now c.args.device (g.D.Disk.past c.args.disk.now) (g.D.Disk.past c.find_store.new.disk) (c.find_store.ensures.each_moment tells)

pub returns-in-Blank-clause-each_moment : goal.returns-in-Blank-clause-each_moment
returns-in-Blank-clause-each_moment g c tells =
    let old = g.D.Disk.past c.args.disk.now in
    let mid = g.D.Disk.past c.find_store.new.disk in
    let there = subst (λ found. StandsIn (journal_found found) (frame_found found) mid) c.in-Blank.is (c.in_ok-journal.ensures.stands tells) in
    let has = subst (λ found. HasStoreFrame (content_of old 0) (content_of old 1) (frame_found found)) c.in-Blank.is (c.in_ok-journal.ensures.frame tells) in
    blank_still c.args.p.now c.args.device old mid (g.D.Disk.past c.open_blank.new.disk) (other_file c.in-Blank.journal.file) c.requires.program has (c.find_store.ensures.each_moment tells) (c.open_blank.ensures.each_moment tells there)

pub returns-in-Store-clause-each_moment : goal.returns-in-Store-clause-each_moment
returns-in-Store-clause-each_moment g c tells = found_still c.args.p.now c.args.device (g.D.Disk.past c.args.disk.now) (g.D.Disk.past c.find_store.new.disk) (c.find_store.ensures.each_moment tells)

pub returns-in_err-journal-clause-steps : goal.returns-in_err-journal-clause-steps
returns-in_err-journal-clause-steps g c tells =
    not_found c.args.p.now c.args.device (g.D.Disk.past c.args.disk.now) (g.D.Disk.past c.find_store.new.disk) c.find_store.result c.from_residual.result c.in_err-journal.field-0.0 c.in_err-journal.was
    (is_err c.from_residual.result c.in_err-journal.field-0.0 c.from_residual.ensures.1) (c.find_store.ensures.steps tells)

pub returns-in-Blank-clause-steps : goal.returns-in-Blank-clause-steps
returns-in-Blank-clause-steps g c tells =
    let j = c.in-Blank.journal in
    let old = g.D.Disk.past c.args.disk.now in
    let mid = g.D.Disk.past c.find_store.new.disk in
    let framed = frame_of (start_snapshot c.args.p.now c.args.device) in
    let there = subst (λ found. StandsIn (journal_found found) (frame_found found) mid) c.in-Blank.is (c.in_ok-journal.ensures.stands tells) in
    let has = subst (λ found. HasStoreFrame (content_of old 0) (content_of old 1) (frame_found found)) c.in-Blank.is (c.in_ok-journal.ensures.frame tells) in
    let fresh = subst IsFreshlyFound c.in-Blank.is c.in_ok-journal.ensures.fresh in
    blank_steps c.args.p.now c.args.device old mid (g.D.Disk.past c.open_blank.new.disk) (c.in_ok-journal.ensures.steps tells) c.open_blank.result
    (lay_steps mid.device (other_file j.file) j.other_blank j.other_length framed) has
    (own_plan j old mid framed c.find_store.ensures.device (c.find_store.ensures.each_moment tells) fresh.2 there.stands) (c.open_blank.ensures.steps tells)

pub returns-in-Store-clause-steps : goal.returns-in-Store-clause-steps
returns-in-Store-clause-steps g c tells =
    let old = g.D.Disk.past c.args.disk.now in
    let mid = g.D.Disk.past c.find_store.new.disk in
    let has = subst (λ found. HasStoreFrame (content_of old 0) (content_of old 1) (frame_found found)) c.in-Store.is (c.in_ok-journal.ensures.frame tells) in
    store_steps c.args.p.now c.args.device old mid mid (c.in_ok-journal.ensures.steps tells) c.open_found.result c.in-Store.snapshot.items (all_bytes c.in-Store.bodies.items) c.in-Store.journal.file has c.open_found.ensures.no_disk refl

pub returns-in_err-journal-clause-decided : goal.returns-in_err-journal-clause-decided
returns-in_err-journal-clause-decided g c stored tells has =
    let a : List ℕ = content_of (g.D.Disk.past c.args.disk.now) 0 in
    let b : List ℕ = content_of (g.D.Disk.past c.args.disk.now) 1 in
    let is = is_err c.from_residual.result c.in_err-journal.field-0.0 c.from_residual.ensures.1 in
    answers c.args.p.now c.args.device a b c.requires.program (omega (arith, c.ranges.device.fits)) stored has c.from_residual.result
    (subst (λ r. IfOk r (λ x. OpensTo c.args.p.now c.args.device a b (opened_as x))) (sym is) tt)
    (λ file at. returns-in_err-journal-clause-bad g c file at tells)
    (λ same. absurd (finds_no_program c.find_store.result (g.D.Disk.faults c.args.disk.now) (g.D.Disk.faults c.find_store.new.disk) c.find_store.ensures.cause (c.in_err-journal.was ∙ ap Err (handed_on c.from_residual.result c.in_err-journal.field-0.0 OtherProgram c.from_residual.ensures.1 same))))

pub returns-in-Blank-clause-decided : goal.returns-in-Blank-clause-decided
returns-in-Blank-clause-decided g c stored tells has =
    answers c.args.p.now c.args.device (content_of (g.D.Disk.past c.args.disk.now) 0) (content_of (g.D.Disk.past c.args.disk.now) 1) c.requires.program (omega (arith, c.ranges.device.fits)) stored has c.open_blank.result
    (returns-in-Blank-clause-opened g c tells)
    (λ file at same. absurd (not_bad file at (c.open_blank.ensures.refused (BadStore file at) same)))
    (λ same. absurd (not_other (c.open_blank.ensures.refused OtherProgram same)))

pub returns-in-Store-clause-decided : goal.returns-in-Store-clause-decided
returns-in-Store-clause-decided g c stored tells has =
    let a : List ℕ = content_of (g.D.Disk.past c.args.disk.now) 0 in
    let b : List ℕ = content_of (g.D.Disk.past c.args.disk.now) 1 in
    let there = subst (λ found. HasStoreFrame a b (frame_found found)) c.in-Store.is (c.in_ok-journal.ensures.frame tells) in
    answers c.args.p.now c.args.device a b c.requires.program (omega (arith, c.ranges.device.fits)) stored has c.open_found.result
    (returns-in-Store-clause-opened g c tells)
    (λ file at. returns-in-Store-clause-bad g c file at tells)
    (λ same. other_store c.args.p.now c.args.device c.in-Store.journal.file a b c.in-Store.snapshot.items (all_bytes c.in-Store.bodies.items) there (c.open_found.ensures.other same))

pub returns-in_err-journal-clause-reads : goal.returns-in_err-journal-clause-reads
returns-in_err-journal-clause-reads g c o tells opens =
    found_reads c.args.p.now c.args.device (g.D.Disk.past c.args.disk.now) (g.D.Disk.past c.find_store.new.disk) o c.find_store.ensures.device (c.find_store.ensures.each_moment tells) opens

pub returns-in-Blank-clause-reads : goal.returns-in-Blank-clause-reads
returns-in-Blank-clause-reads g c o tells opens =
    let old = g.D.Disk.past c.args.disk.now in
    let mid = g.D.Disk.past c.find_store.new.disk in
    let there = subst (λ found. StandsIn (journal_found found) (frame_found found) mid) c.in-Blank.is (c.in_ok-journal.ensures.stands tells) in
    let has = subst (λ found. HasStoreFrame (content_of old 0) (content_of old 1) (frame_found found)) c.in-Blank.is (c.in_ok-journal.ensures.frame tells) in
    blank_reads c.args.p.now c.args.device (other_file c.in-Blank.journal.file) old mid (g.D.Disk.past c.open_blank.new.disk) o c.requires.program (omega (arith, c.ranges.device.fits)) has (c.open_blank.ensures.each_moment tells there)
    (g.met.D.Disk.reads_left c.open_blank.new.disk 0 tells) (g.met.D.Disk.reads_left c.open_blank.new.disk 1 tells) opens

pub returns-in-Store-clause-reads : goal.returns-in-Store-clause-reads
returns-in-Store-clause-reads g c o tells opens =
    found_reads c.args.p.now c.args.device (g.D.Disk.past c.args.disk.now) (g.D.Disk.past c.find_store.new.disk) o c.find_store.ensures.device (c.find_store.ensures.each_moment tells) opens
