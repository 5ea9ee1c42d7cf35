-- What the commit leaves opens to the one or to the other.
use Rattle.std.proofs.Common.{◌≡◌, ◌∙◌, ◌+◌, ℕ, Bool, List, ap, subst, Some, None}
use Rattle.std.specs.Prelude.{OnOk}
use Rattle.re_journal.specs.Journals.{calls_after}
use Rattle.re_outside.specs.Moment.{Throughout}
use Rattle.re_record.specs.Restoring.{after_all}
use Rattle.re_record.specs.Spellings.{record_bytes}
use Rattle.re_terms.specs.Shapes.{shape_of}
use Rattle.re_terms.specs.declared.entry.Logged.{Logged}
use Rattle.re_device.proofs.Results.{at_ok, ok_from}
use Rattle.re_device.proofs.Settling.{behind_due, behind_none, calls_due, calls_none, each_opens, each_opens_behind, may_commit, may_commit_behind, none_due, reads_opens, reads_opens_behind, some_due, stands_behind, stands_more}
use Rattle.re_device.proofs.device.Device.write_store.Goals as goal
use Rattle.re_compact.specs.Committing.{reads_open}
use Rattle.re_device.specs.Committing.{next_snapshot, record_reads_open, settling_calls}
use Rattle.re_device.specs.Device.{DeviceState}
use Rattle.re_device.specs.Keeping.{memory_of, seen_of, settled_of}
use Rattle.re_device.specs.Ready.{IsReady, MaySettle}
use Rattle.re_device.specs.Standing.{LeavesEither, ReadsBy, StandsAt, StandsSettled}

pub returns-in_err-commit_record-in-Some-clause-each_moment : goal.returns-in_err-commit_record-in-Some-clause-each_moment
returns-in_err-commit_record-in-Some-clause-each_moment g c =
    let d = c.self.inside in
    let old = g.D.Disk.past c.args.disk.now in
    let new = g.D.Disk.past c.commit_record.new.disk in
    subst (λ (v : DeviceState). (entries : List Logged) → g.D.Disk.tells → StandsSettled v old → IsReady v entries c.args.ready.now → MaySettle v.memory entries → Throughout old new (LeavesEither v.memory (after_all v.memory.program v.memory.device entries v.memory.settled) old)) c.self.view_is
    (λ entries tells st ready may.
    let due = some_due (seen_of d) entries c.args.ready.now c.in-Some.snapshot c.as_slice.result.now ready c.in-Some.is c.as_slice.ensures in
    each_opens_behind d c.self.invariant entries may old st due.0 old new
    (c.commit_record.ensures.each_moment st.snapshot st.bodies (Some (next_snapshot (seen_of d))) (record_bytes (shape_of d.program).devices entries) tells st.stands
    (may_commit_behind d c.self.invariant entries may old st c.as_slice.result.now c.as_slice-record.result.now due.0 due.1 (c.as_slice-record.ensures ∙ ready.record_is))))

pub returns-in_ok-commit_record-in-Some-clause-each_moment : goal.returns-in_ok-commit_record-in-Some-clause-each_moment
returns-in_ok-commit_record-in-Some-clause-each_moment g c =
    let d = c.self.inside in
    let old = g.D.Disk.past c.args.disk.now in
    let new = g.D.Disk.past c.commit_record.new.disk in
    subst (λ (v : DeviceState). (entries : List Logged) → g.D.Disk.tells → StandsSettled v old → IsReady v entries c.args.ready.now → MaySettle v.memory entries → Throughout old new (LeavesEither v.memory (after_all v.memory.program v.memory.device entries v.memory.settled) old)) c.self.view_is
    (λ entries tells st ready may.
    let due = some_due (seen_of d) entries c.args.ready.now c.in-Some.snapshot c.as_slice.result.now ready c.in-Some.is c.as_slice.ensures in
    each_opens_behind d c.self.invariant entries may old st due.0 old new
    (c.commit_record.ensures.each_moment st.snapshot st.bodies (Some (next_snapshot (seen_of d))) (record_bytes (shape_of d.program).devices entries) tells st.stands
    (may_commit_behind d c.self.invariant entries may old st c.as_slice.result.now c.as_slice-record.result.now due.0 due.1 (c.as_slice-record.ensures ∙ ready.record_is))))

pub returns-in-None-clause-each_moment : goal.returns-in-None-clause-each_moment
returns-in-None-clause-each_moment g c =
    let d = c.self.inside in
    let old = g.D.Disk.past c.args.disk.now in
    let new = g.D.Disk.past c.commit_record-in-None.new.disk in
    subst (λ (v : DeviceState). (entries : List Logged) → g.D.Disk.tells → StandsSettled v old → IsReady v entries c.args.ready.now → MaySettle v.memory entries → Throughout old new (LeavesEither v.memory (after_all v.memory.program v.memory.device entries v.memory.settled) old)) c.self.view_is
    (λ entries tells st ready may.
    let due = none_due (seen_of d) entries c.args.ready.now ready c.in-None.is in
    each_opens d c.self.invariant entries may old st old new
    (c.commit_record-in-None.ensures.each_moment st.snapshot st.bodies None (record_bytes (shape_of d.program).devices entries) tells st.stands
    (may_commit d c.self.invariant entries may old st c.as_slice-record.result.now due (c.as_slice-record.ensures ∙ ready.record_is))))

pub returns-in_err-commit_record-in-Some-clause-reads : goal.returns-in_err-commit_record-in-Some-clause-reads
returns-in_err-commit_record-in-Some-clause-reads g c =
    let d = c.self.inside in
    let old = g.D.Disk.past c.args.disk.now in
    let new = g.D.Disk.past c.commit_record.new.disk in
    subst (λ (v : DeviceState). (entries : List Logged) → g.D.Disk.tells → StandsSettled v old → IsReady v entries c.args.ready.now → MaySettle v.memory entries → ReadsBy v.memory (after_all v.memory.program v.memory.device entries v.memory.settled) (record_reads_open v old new) new) c.self.view_is
    (λ entries tells st ready may.
    let due = some_due (seen_of d) entries c.args.ready.now c.in-Some.snapshot c.as_slice.result.now ready c.in-Some.is c.as_slice.ensures in
    subst (λ (gate : Bool). ReadsBy (memory_of d) (after_all d.program d.device entries (settled_of d)) gate new) (behind_due (seen_of d) c.as_slice.result.now old new due)
    (reads_opens_behind d c.self.invariant entries may old st due.0 (reads_open d.journal (Some c.as_slice.result.now) old new) new
    (c.commit_record.ensures.reads st.snapshot st.bodies (Some (next_snapshot (seen_of d))) (record_bytes (shape_of d.program).devices entries) tells st.stands
    (may_commit_behind d c.self.invariant entries may old st c.as_slice.result.now c.as_slice-record.result.now due.0 due.1 (c.as_slice-record.ensures ∙ ready.record_is)))))

pub returns-in_ok-commit_record-in-Some-clause-reads : goal.returns-in_ok-commit_record-in-Some-clause-reads
returns-in_ok-commit_record-in-Some-clause-reads g c =
    let d = c.self.inside in
    let old = g.D.Disk.past c.args.disk.now in
    let new = g.D.Disk.past c.commit_record.new.disk in
    subst (λ (v : DeviceState). (entries : List Logged) → g.D.Disk.tells → StandsSettled v old → IsReady v entries c.args.ready.now → MaySettle v.memory entries → ReadsBy v.memory (after_all v.memory.program v.memory.device entries v.memory.settled) (record_reads_open v old new) new) c.self.view_is
    (λ entries tells st ready may.
    let due = some_due (seen_of d) entries c.args.ready.now c.in-Some.snapshot c.as_slice.result.now ready c.in-Some.is c.as_slice.ensures in
    subst (λ (gate : Bool). ReadsBy (memory_of d) (after_all d.program d.device entries (settled_of d)) gate new) (behind_due (seen_of d) c.as_slice.result.now old new due)
    (reads_opens_behind d c.self.invariant entries may old st due.0 (reads_open d.journal (Some c.as_slice.result.now) old new) new
    (c.commit_record.ensures.reads st.snapshot st.bodies (Some (next_snapshot (seen_of d))) (record_bytes (shape_of d.program).devices entries) tells st.stands
    (may_commit_behind d c.self.invariant entries may old st c.as_slice.result.now c.as_slice-record.result.now due.0 due.1 (c.as_slice-record.ensures ∙ ready.record_is)))))

pub returns-in-None-clause-reads : goal.returns-in-None-clause-reads
returns-in-None-clause-reads g c =
    let d = c.self.inside in
    let old = g.D.Disk.past c.args.disk.now in
    let new = g.D.Disk.past c.commit_record-in-None.new.disk in
    subst (λ (v : DeviceState). (entries : List Logged) → g.D.Disk.tells → StandsSettled v old → IsReady v entries c.args.ready.now → MaySettle v.memory entries → ReadsBy v.memory (after_all v.memory.program v.memory.device entries v.memory.settled) (record_reads_open v old new) new) c.self.view_is
    (λ entries tells st ready may.
    let due = none_due (seen_of d) entries c.args.ready.now ready c.in-None.is in
    subst (λ (gate : Bool). ReadsBy (memory_of d) (after_all d.program d.device entries (settled_of d)) gate new) (behind_none (seen_of d) old new due)
    (reads_opens d c.self.invariant entries may old st (reads_open d.journal None old new) new
    (c.commit_record-in-None.ensures.reads st.snapshot st.bodies None (record_bytes (shape_of d.program).devices entries) tells st.stands
    (may_commit d c.self.invariant entries may old st c.as_slice-record.result.now due (c.as_slice-record.ensures ∙ ready.record_is)))))

pub returns-in_ok-commit_record-in-Some-clause-stands : goal.returns-in_ok-commit_record-in-Some-clause-stands
returns-in_ok-commit_record-in-Some-clause-stands g c =
    let d = c.self.inside in
    let old = g.D.Disk.past c.args.disk.now in
    let new = g.D.Disk.past c.commit_record.new.disk in
    subst (λ (v : DeviceState). (entries : List Logged) → g.D.Disk.tells → StandsSettled v old → IsReady v entries c.args.ready.now → MaySettle v.memory entries → StandsAt v.memory (after_all v.memory.program v.memory.device entries v.memory.settled) (d.generation + 1) c.commit_record.new.journal new) c.self.view_is
    (λ entries tells st ready may.
    let due = some_due (seen_of d) entries c.args.ready.now c.in-Some.snapshot c.as_slice.result.now ready c.in-Some.is c.as_slice.ensures in
    stands_behind d c.self.invariant entries may old st due.0 c.commit_record.new.journal new
    (c.in_ok-commit_record-in-Some.ensures.stands st.snapshot st.bodies (Some (next_snapshot (seen_of d))) (record_bytes (shape_of d.program).devices entries) tells st.stands
    (may_commit_behind d c.self.invariant entries may old st c.as_slice.result.now c.as_slice-record.result.now due.0 due.1 (c.as_slice-record.ensures ∙ ready.record_is))))

pub returns-in-None-clause-stands : goal.returns-in-None-clause-stands
returns-in-None-clause-stands g c =
    let d = c.self.inside in
    let old = g.D.Disk.past c.args.disk.now in
    let new = g.D.Disk.past c.commit_record-in-None.new.disk in
    subst (λ (v : DeviceState). (entries : List Logged) → g.D.Disk.tells → OnOk c.commit_record-in-None.result (StandsSettled v old → IsReady v entries c.args.ready.now → MaySettle v.memory entries → StandsAt v.memory (after_all v.memory.program v.memory.device entries v.memory.settled) d.generation c.commit_record-in-None.new.journal new)) c.self.view_is
    (λ entries tells. ok_from c.commit_record-in-None.result (StandsSettled (seen_of d) old → IsReady (seen_of d) entries c.args.ready.now → MaySettle (memory_of d) entries → StandsAt (memory_of d) (after_all d.program d.device entries (settled_of d)) d.generation c.commit_record-in-None.new.journal new) (λ x is st ready may.
    let due = none_due (seen_of d) entries c.args.ready.now ready c.in-None.is in
    stands_more d c.self.invariant entries may old st c.commit_record-in-None.new.journal new
    (at_ok _ c.commit_record-in-None.result x is (c.commit_record-in-None.ensures.stands st.snapshot st.bodies None (record_bytes (shape_of d.program).devices entries) tells) st.stands
    (may_commit d c.self.invariant entries may old st c.as_slice-record.result.now due (c.as_slice-record.ensures ∙ ready.record_is)))))

pub returns-in_ok-commit_record-in-Some-clause-calls : goal.returns-in_ok-commit_record-in-Some-clause-calls
returns-in_ok-commit_record-in-Some-clause-calls g c =
    let d = c.self.inside in
    subst (λ (v : DeviceState). (entries : List Logged) × IsReady v entries c.args.ready.now → c.commit_record.new.journal.calls ≡ calls_after (settling_calls v) v.journal.calls) c.self.view_is
    (λ (entries, ready).
    let due = some_due (seen_of d) entries c.args.ready.now c.in-Some.snapshot c.as_slice.result.now ready c.in-Some.is c.as_slice.ensures in
    c.in_ok-commit_record-in-Some.ensures.journal.calls ∙ ap (λ (n : ℕ). calls_after n d.journal.calls) (calls_due (seen_of d) c.as_slice.result.now due))
    c.requires

pub returns-in-None-clause-calls : goal.returns-in-None-clause-calls
returns-in-None-clause-calls g c =
    let d = c.self.inside in
    subst (λ (v : DeviceState). (entries : List Logged) × IsReady v entries c.args.ready.now → OnOk c.commit_record-in-None.result (c.commit_record-in-None.new.journal.calls ≡ calls_after (settling_calls v) v.journal.calls)) c.self.view_is
    (λ (entries, ready). ok_from c.commit_record-in-None.result (c.commit_record-in-None.new.journal.calls ≡ calls_after (settling_calls (seen_of d)) d.journal.calls) (λ x is.
    let due = none_due (seen_of d) entries c.args.ready.now ready c.in-None.is in
    (at_ok _ c.commit_record-in-None.result x is c.commit_record-in-None.ensures.journal).calls ∙ ap (λ (n : ℕ). calls_after n d.journal.calls) (calls_none (seen_of d) due)))
    c.requires
