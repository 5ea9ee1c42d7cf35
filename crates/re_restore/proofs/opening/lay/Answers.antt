-- Laying the first snapshot and opening its gate, one behind the other.
use Rattle.std.proofs.Common.{◌≡◌, [], ap, subst, ◌∙◌}
use Rattle.re_outside.specs.Frame.{Blank, Store}
use Rattle.re_outside.specs.Moment.{Throughout}
use Rattle.re_journal.specs.Commits.{HasCause}
use Rattle.re_journal.specs.Journals.{other_file}
use Rattle.re_compact.specs.Laying.{prepare_steps, publish_steps}
use Rattle.re_compact.proofs.Steps.{on_err}
use Rattle.re_compact.specs.Pair.{Holds, IsOldOrNew, StandsIn}
use Rattle.re_restore.proofs.Laid.{may_replace, ok_then, still_blank, then_published}
use Rattle.re_restore.proofs.RestoreSteps.{for_disk, is_disk, stops_first, stops_then}
use Rattle.re_restore.proofs.opening.lay.Goals as goal

pub returns-in_err-prepare_other-clause-each_moment : goal.returns-in_err-prepare_other-clause-each_moment
returns-in_err-prepare_other-clause-each_moment g c snapshot tells stands framed is =
    still_blank (g.D.Disk.past c.args.disk.now) (g.D.Disk.past c.prepare_other.new.disk) (other_file c.args.journal.now.file) snapshot (c.prepare_other.ensures.each_moment Blank tells stands)

pub returns-clause-each_moment : goal.returns-clause-each_moment
returns-clause-each_moment g c snapshot tells stands framed is =
    let old = g.D.Disk.past c.args.disk.now in
    let mid = g.D.Disk.past c.prepare_other.new.disk in
    let now = g.D.Disk.past c.publish.new.disk in
    let there = c.in_ok-prepare_other.ensures.stands Blank tells stands in
    let prepared = c.in_ok-prepare_other.ensures.prepared Blank snapshot tells stands framed in
    let second = c.publish.ensures.each_moment Blank snapshot tells there prepared (may_replace c.prepare_other.new.journal mid snapshot there is) in
    then_published old mid now (other_file c.args.journal.now.file) snapshot c.prepare_other.ensures.device (c.prepare_other.ensures.each_moment Blank tells stands)
    (subst (λ f. Throughout mid now (Holds (IsOldOrNew Blank (other_file f) snapshot) mid)) c.prepare_other.ensures.file second)

pub returns-clause-stands : goal.returns-clause-stands
returns-clause-stands g c snapshot tells =
    let mid = g.D.Disk.past c.prepare_other.new.disk in
    let now = g.D.Disk.past c.publish.new.disk in
    ok_then c.publish.result
    (λ h stands framed is.
    let there = c.in_ok-prepare_other.ensures.stands Blank tells stands in
    let prepared = c.in_ok-prepare_other.ensures.prepared Blank snapshot tells stands framed in
    subst (λ f. StandsIn c.publish.new.journal (Store (other_file f) snapshot []) now) c.prepare_other.ensures.file (h there prepared (may_replace c.prepare_other.new.journal mid snapshot there is)))
    (c.publish.ensures.stands Blank snapshot tells)

pub returns-in_err-prepare_other-clause-failed : goal.returns-in_err-prepare_other-clause-failed
returns-in_err-prepare_other-clause-failed g c tells =
    let j = c.args.journal.now in
    let old = g.D.Disk.past c.args.disk.now in
    let new = g.D.Disk.past c.prepare_other.new.disk in
    let cause = subst (λ s. HasCause s (g.D.Disk.faults c.args.disk.now) (g.D.Disk.faults c.prepare_other.new.disk) c.prepare_other.result) c.requires c.prepare_other.ensures.cause in
    let disk = is_disk c.prepare_other.result c.in_err-prepare_other.field-0.0 (g.D.Disk.faults c.args.disk.now) (g.D.Disk.faults c.prepare_other.new.disk) c.in_err-prepare_other.was cause in
    on_err c.from_residual.result _
    (stops_first (prepare_steps old.device (other_file j.file) j.other_blank j.other_length c.args.framed.now) (publish_steps old.device (other_file j.file)) j.calls c.prepare_other.new.journal.stopped old new (c.prepare_other.ensures.failed tells disk))

pub returns-clause-failed : goal.returns-clause-failed
returns-clause-failed g c tells =
    let j = c.args.journal.now in
    let k = c.prepare_other.new.journal in
    let old = g.D.Disk.past c.args.disk.now in
    let mid = g.D.Disk.past c.prepare_other.new.disk in
    let new = g.D.Disk.past c.publish.new.disk in
    let same : k.stopped ≡ j.stopped = ap (λ l. l.stopped) c.in_ok-prepare_other.ensures.journal in
    let cause = subst (λ s. HasCause s (g.D.Disk.faults c.prepare_other.new.disk) (g.D.Disk.faults c.publish.new.disk) c.publish.result) (same ∙ c.requires) c.publish.ensures.cause in
    for_disk c.publish.result (g.D.Disk.faults c.prepare_other.new.disk) (g.D.Disk.faults c.publish.new.disk) _ cause
    (λ is. stops_then (prepare_steps old.device (other_file j.file) j.other_blank j.other_length c.args.framed.now) (other_file j.file) (other_file k.file) k.calls c.publish.new.journal.stopped old mid new
    (c.in_ok-prepare_other.ensures.done tells) (ap other_file c.prepare_other.ensures.file) (c.publish.ensures.failed tells is))
