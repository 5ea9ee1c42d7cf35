use Rattle.std.proofs.Common.{inl, refl, rules}
use Rattle.re_journal.specs.Journals.{other_file}
use Rattle.re_journal.proofs.Stopping.{stops_in_turn}
use Rattle.re_compact.specs.Laying.{publish_steps}
use Rattle.re_compact.specs.Pair.{IsOldOrNew}
use Rattle.re_compact.proofs.Standing.{still, open_done, open_stopped, stands_published}
use Rattle.re_compact.proofs.laying.publish.Goals as goal

pub returns-in-Some-clause-each_moment : goal.returns-in-Some-clause-each_moment
returns-in-Some-clause-each_moment g c = λ held snapshot told stands prepared may.
    still held (IsOldOrNew held (other_file c.args.journal.now.file) snapshot) (g.D.Disk.past c.args.disk.now) stands.rests (inl refl)

pub returns-in_err-make_publish_calls-clause-failed : goal.returns-in_err-make_publish_calls-clause-failed
returns-in_err-make_publish_calls-clause-failed g c = λ told is.
    let old = g.D.Disk.past c.args.disk.now in
    stops_in_turn (publish_steps old.device (other_file c.args.journal.now.file)) c.args.journal.now.calls c.make_publish_calls.new.journal.stopped old (g.D.Disk.past c.make_publish_calls.new.disk) (c.in_err-make_publish_calls.ensures.failed told)

pub returns-in_err-make_publish_calls-clause-each_moment : goal.returns-in_err-make_publish_calls-clause-each_moment
returns-in_err-make_publish_calls-clause-each_moment g c = λ held snapshot told stands prepared may.
    let old = g.D.Disk.past c.args.disk.now in
    let new = g.D.Disk.past c.make_publish_calls.new.disk in
    let stopped = c.make_publish_calls.new.journal.stopped in
    open_stopped c.args.journal.now held old stands snapshot prepared may c.args.journal.now.calls stopped new
    (stops_in_turn (publish_steps old.device (other_file c.args.journal.now.file)) c.args.journal.now.calls stopped old new (c.in_err-make_publish_calls.ensures.failed told))

pub returns-clause-each_moment : goal.returns-clause-each_moment
returns-clause-each_moment g c = λ held snapshot told stands prepared may.
    open_done c.args.journal.now held (g.D.Disk.past c.args.disk.now) stands snapshot prepared may (g.D.Disk.past c.make_publish_calls.new.disk) (c.in_ok-make_publish_calls.ensures.done told)

pub returns-clause-stands : goal.returns-clause-stands
returns-clause-stands g c = λ held snapshot told stands prepared may.
    stands_published c.args.journal.now held (g.D.Disk.past c.args.disk.now) stands snapshot prepared may (g.D.Disk.past c.make_publish_calls.new.disk) (c.in_ok-make_publish_calls.ensures.done told) c.turn_over.new.journal.calls c.turn_over.new.journal (search rules)
