-- Where nothing is written the files leave what was settled; and each answer is that of a step of the world.
use Rattle.std.proofs.Common.{subst}
use Rattle.re_device.proofs.Fared.{entry_committed, entry_full, entry_limited, entry_stopped}
use Rattle.re_device.proofs.Settling.{still_each, still_reads}
use Rattle.re_device.proofs.WorldSteps.{entry_caused, merge_steps}
use Rattle.re_device.proofs.device.Device.merge.Goals as goal
use Rattle.re_device.specs.Committing.{record_reads_open}
use Rattle.re_device.specs.Device.{current, logged, with_entry}
use Rattle.re_device.specs.Standing.{ReadsBy}
use Rattle.re_terms.specs.declared.entry.Entry.TheVariants as entry
use Rattle.re_terms.specs.declared.entry.Logged.{Logged}

pub returns-in_err-check_running-clause-each_moment : goal.returns-in_err-check_running-clause-each_moment
returns-in_err-check_running-clause-each_moment g c = λ tells st. still_each c.args.self.now.memory (current (with_entry c.args.self.now.memory (logged c.args.self.now.memory (entry.Merge c.args.state)))) c.args.self.now.generation c.args.self.now.journal (g.D.Disk.past c.args.disk.now) st

pub returns-in_err-check_running-clause-reads : goal.returns-in_err-check_running-clause-reads
returns-in_err-check_running-clause-reads g c = λ tells st. still_reads c.args.self.now (current (with_entry c.args.self.now.memory (logged c.args.self.now.memory (entry.Merge c.args.state)))) (g.D.Disk.past c.args.disk.now) st

pub returns-in_err-check_room-clause-each_moment : goal.returns-in_err-check_room-clause-each_moment
returns-in_err-check_room-clause-each_moment g c = λ tells st. still_each c.args.self.now.memory (current (with_entry c.args.self.now.memory (logged c.args.self.now.memory (entry.Merge c.args.state)))) c.args.self.now.generation c.args.self.now.journal (g.D.Disk.past c.args.disk.now) st

pub returns-in_err-check_room-clause-reads : goal.returns-in_err-check_room-clause-reads
returns-in_err-check_room-clause-reads g c = λ tells st. still_reads c.args.self.now (current (with_entry c.args.self.now.memory (logged c.args.self.now.memory (entry.Merge c.args.state)))) (g.D.Disk.past c.args.disk.now) st

pub returns-in_err-taken-clause-each_moment : goal.returns-in_err-taken-clause-each_moment
returns-in_err-taken-clause-each_moment g c = λ tells st. still_each c.args.self.now.memory (current (with_entry c.args.self.now.memory (logged c.args.self.now.memory (entry.Merge c.args.state)))) c.args.self.now.generation c.args.self.now.journal (g.D.Disk.past c.args.disk.now) st

pub returns-in_err-taken-clause-reads : goal.returns-in_err-taken-clause-reads
returns-in_err-taken-clause-reads g c = λ tells st. still_reads c.args.self.now (current (with_entry c.args.self.now.memory (logged c.args.self.now.memory (entry.Merge c.args.state)))) (g.D.Disk.past c.args.disk.now) st

pub returns-in_err-check_running-clause-world : goal.returns-in_err-check_running-clause-world
returns-in_err-check_running-clause-world g c =
    λ k. merge_steps c.args.self.now c.args.self.now (record_reads_open c.args.self.now (g.D.Disk.past c.args.disk.now) (g.D.Disk.past c.args.disk.now)) c.from_residual.result k c.args.state
    (entry_stopped c.args.self.now (entry.Merge c.args.state) c.from_residual.result c.in_err-check_running.field-0.0 c.from_residual.ensures.1 (c.check_running.ensures.stopped c.in_err-check_running.field-0.0 c.in_err-check_running.was))

pub returns-in_err-check_running-clause-caused : goal.returns-in_err-check_running-clause-caused
returns-in_err-check_running-clause-caused g c =
    entry_caused c.args.self.now c.args.self.now (entry.Merge c.args.state) c.from_residual.result
    (entry_stopped c.args.self.now (entry.Merge c.args.state) c.from_residual.result c.in_err-check_running.field-0.0 c.from_residual.ensures.1 (c.check_running.ensures.stopped c.in_err-check_running.field-0.0 c.in_err-check_running.was))

pub returns-in_err-check_room-clause-world : goal.returns-in_err-check_room-clause-world
returns-in_err-check_room-clause-world g c =
    λ k. merge_steps c.args.self.now c.args.self.now (record_reads_open c.args.self.now (g.D.Disk.past c.args.disk.now) (g.D.Disk.past c.args.disk.now)) c.from_residual-in_err-check_room.result k c.args.state
    (entry_full c.args.self.now (entry.Merge c.args.state) c.from_residual-in_err-check_room.result c.in_err-check_room.field-0.0 c.from_residual-in_err-check_room.ensures.1 c.in_ok-check_running.ensures.running (c.check_room.ensures.full c.in_err-check_room.field-0.0 c.in_err-check_room.was))

pub returns-in_err-check_room-clause-caused : goal.returns-in_err-check_room-clause-caused
returns-in_err-check_room-clause-caused g c =
    entry_caused c.args.self.now c.args.self.now (entry.Merge c.args.state) c.from_residual-in_err-check_room.result
    (entry_full c.args.self.now (entry.Merge c.args.state) c.from_residual-in_err-check_room.result c.in_err-check_room.field-0.0 c.from_residual-in_err-check_room.ensures.1 c.in_ok-check_running.ensures.running (c.check_room.ensures.full c.in_err-check_room.field-0.0 c.in_err-check_room.was))

pub returns-in_err-taken-clause-world : goal.returns-in_err-taken-clause-world
returns-in_err-taken-clause-world g c =
    λ k. merge_steps c.args.self.now c.args.self.now (record_reads_open c.args.self.now (g.D.Disk.past c.args.disk.now) (g.D.Disk.past c.args.disk.now)) c.from_residual-in_err-taken.result k c.args.state
    (entry_limited c.args.self.now (entry.Merge c.args.state) c.from_residual-in_err-taken.result c.in_err-taken.field-0.0 c.from_residual-in_err-taken.ensures.1 c.in_ok-check_running.ensures.running c.in_ok-check_room.ensures.room (c.take.ensures.refused c.in_err-taken.field-0.0 c.in_err-taken.was))

pub returns-in_err-taken-clause-caused : goal.returns-in_err-taken-clause-caused
returns-in_err-taken-clause-caused g c =
    entry_caused c.args.self.now c.args.self.now (entry.Merge c.args.state) c.from_residual-in_err-taken.result
    (entry_limited c.args.self.now (entry.Merge c.args.state) c.from_residual-in_err-taken.result c.in_err-taken.field-0.0 c.from_residual-in_err-taken.ensures.1 c.in_ok-check_running.ensures.running c.in_ok-check_room.ensures.room (c.take.ensures.refused c.in_err-taken.field-0.0 c.in_err-taken.was))

pub returns-clause-world : goal.returns-clause-world
returns-clause-world g c =
    λ k. merge_steps c.args.self.now c.commit.new.self (record_reads_open c.args.self.now (g.D.Disk.past c.args.disk.now) (g.D.Disk.past c.commit.new.disk)) c.commit.result k c.args.state
    (entry_committed c.args.self.now c.commit.new.self (entry.Merge c.args.state) c.in_ok-taken.taken.logged c.in_ok-taken.taken.evaluated c.commit.result c.in_ok-taken.ensures.taken.logged_is c.in_ok-check_running.ensures.running c.in_ok-check_room.ensures.room c.in_ok-taken.ensures.limits c.commit.ensures.memory c.commit.ensures.done c.commit.ensures.runs c.commit.ensures.only c.commit.ensures.refused c.commit.ensures.unchanged c.commit.ensures.stops)

pub returns-clause-caused : goal.returns-clause-caused
returns-clause-caused g c =
    entry_caused c.args.self.now c.commit.new.self (entry.Merge c.args.state) c.commit.result
    (entry_committed c.args.self.now c.commit.new.self (entry.Merge c.args.state) c.in_ok-taken.taken.logged c.in_ok-taken.taken.evaluated c.commit.result c.in_ok-taken.ensures.taken.logged_is c.in_ok-check_running.ensures.running c.in_ok-check_room.ensures.room c.in_ok-taken.ensures.limits c.commit.ensures.memory c.commit.ensures.done c.commit.ensures.runs c.commit.ensures.only c.commit.ensures.refused c.commit.ensures.unchanged c.commit.ensures.stops)

pub returns-clause-reads : goal.returns-clause-reads
returns-clause-reads g c = λ tells st.
    let v = c.args.self.now in
    let old = g.D.Disk.past c.args.disk.now in
    let new = g.D.Disk.past c.commit.new.disk in
    subst (λ (l : Logged). ReadsBy v.memory (current (with_entry v.memory l)) (record_reads_open v old new) new) c.in_ok-taken.ensures.taken.logged_is (c.commit.ensures.reads tells st)
