use Rattle.std.proofs.Common.{rules}
use Rattle.re_outside.proofs.Moments.{at_end}
use Rattle.re_journal.specs.Commits.{commit_steps}
use Rattle.re_journal.proofs.Stopping.{stops_in_turn, stop_in_turn}
use Rattle.re_journal.proofs.Committed.{still_safe, done_safe, stopped_safe, stands_after}
use Rattle.re_journal.proofs.journal.Journal.append.Goals as goal

pub returns-in-Some-clause-each_moment : goal.returns-in-Some-clause-each_moment
returns-in-Some-clause-each_moment g c = λ snapshot bodies body told stands may. still_safe c.args.self.now snapshot body c.args.framed.now bodies (g.D.Disk.past c.args.disk.now) stands may

pub returns-in_err-make_calls-clause-each_moment : goal.returns-in_err-make_calls-clause-each_moment
returns-in_err-make_calls-clause-each_moment g c = λ snapshot bodies body told stands may.
    let old = g.D.Disk.past c.args.disk.now in
    let new = g.D.Disk.past c.make_calls.new.disk in
    let stopped = c.make_calls.new.self.stopped in
    stopped_safe c.args.self.now snapshot body c.args.framed.now bodies old stands may new c.args.self.now.calls stopped
    (stops_in_turn (commit_steps old.device c.args.self.now.file c.args.self.now.gate c.args.framed.now) c.args.self.now.calls stopped old new (c.in_err-make_calls.ensures.failed told))

pub returns-in_err-make_calls-clause-reads : goal.returns-in_err-make_calls-clause-reads
returns-in_err-make_calls-clause-reads g c = λ snapshot bodies body told stands may.
    (at_end (g.D.Disk.past c.args.disk.now) (g.D.Disk.past c.make_calls.new.disk) _ (returns-in_err-make_calls-clause-each_moment g c snapshot bodies body told stands may)).images _ (g.met.D.Disk.reads_left c.make_calls.new.disk c.args.self.now.file told)

pub returns-in_err-make_calls-clause-failed : goal.returns-in_err-make_calls-clause-failed
returns-in_err-make_calls-clause-failed g c = λ told is.
    let old = g.D.Disk.past c.args.disk.now in
    stops_in_turn (commit_steps old.device c.args.self.now.file c.args.self.now.gate c.args.framed.now) c.args.self.now.calls c.make_calls.new.self.stopped old (g.D.Disk.past c.make_calls.new.disk) (c.in_err-make_calls.ensures.failed told)

pub returns-in_err-make_calls-clause-stopped_at : goal.returns-in_err-make_calls-clause-stopped_at
returns-in_err-make_calls-clause-stopped_at g c = λ is. stop_in_turn 4 c.args.self.now.calls c.make_calls.new.self.stopped c.in_err-make_calls.ensures.stopped_at

pub returns-clause-each_moment : goal.returns-clause-each_moment
returns-clause-each_moment g c = λ snapshot bodies body told stands may.
    done_safe c.args.self.now snapshot body c.args.framed.now bodies (g.D.Disk.past c.args.disk.now) stands may (g.D.Disk.past c.make_calls.new.disk) (c.in_ok-make_calls.ensures.done told)

pub returns-clause-reads : goal.returns-clause-reads
returns-clause-reads g c = λ snapshot bodies body told stands may.
    (at_end (g.D.Disk.past c.args.disk.now) (g.D.Disk.past c.make_calls.new.disk) _ (returns-clause-each_moment g c snapshot bodies body told stands may)).images _ (g.met.D.Disk.reads_left c.make_calls.new.disk c.args.self.now.file told)

pub returns-clause-stands : goal.returns-clause-stands
returns-clause-stands g c = λ snapshot bodies body told stands may.
    stands_after c.args.self.now snapshot body c.args.framed.now bodies (g.D.Disk.past c.args.disk.now) stands may _ (g.D.Disk.past c.make_calls.new.disk) (search rules) (c.in_ok-make_calls.ensures.done told)
