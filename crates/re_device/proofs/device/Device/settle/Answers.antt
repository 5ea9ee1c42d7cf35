-- Where nothing is written the files leave what was settled, and else what the commit leaves; and each answer is that of a step of the world.
use Rattle.std.proofs.Common.{◌≢◌, ◌∙◌, [], ℕ, false, None, Ok, Err, Result, ap, refl, subst, sym}
use Rattle.re_device.proofs.Fared.{journal_fares, memory_fares, nothing_refuses, settled_same, stopped_fares}
use Rattle.re_device.proofs.Settling.{settled_stands, still_each, still_reads}
use Rattle.re_device.specs.Causes.{stop_refusal}
use Rattle.re_device.proofs.WorldSteps.{AreSettled, settle_steps, settling_caused}
use Rattle.re_device.proofs.device.Device.settle.Goals as goal
use Rattle.re_device.specs.Committing.{record_reads_open}
use Rattle.re_device.specs.Device.{DeviceMemory, all_settled, current}
use Rattle.re_device.specs.Standing.{StandsAt}
use Rattle.re_journal.specs.Commits.{HasCause}
use Rattle.re_journal.specs.declared.fault.JournalFault.{JournalFault}
use Rattle.re_journal.specs.declared.journal.Journal.{Journal}

pub returns-in_err-check_running-clause-each_moment : goal.returns-in_err-check_running-clause-each_moment
returns-in_err-check_running-clause-each_moment g c = λ tells st. still_each c.args.self.now.memory (current c.args.self.now.memory) c.args.self.now.generation c.args.self.now.journal (g.D.Disk.past c.args.disk.now) st

pub returns-in_err-check_running-clause-reads : goal.returns-in_err-check_running-clause-reads
returns-in_err-check_running-clause-reads g c = λ tells st. still_reads c.args.self.now (current c.args.self.now.memory) (g.D.Disk.past c.args.disk.now) st

pub returns-then-is_settled-clause-each_moment : goal.returns-then-is_settled-clause-each_moment
returns-then-is_settled-clause-each_moment g c = λ tells st. still_each c.args.self.now.memory (current c.args.self.now.memory) c.args.self.now.generation c.args.self.now.journal (g.D.Disk.past c.args.disk.now) st

pub returns-then-is_settled-clause-reads : goal.returns-then-is_settled-clause-reads
returns-then-is_settled-clause-reads g c = λ tells st. still_reads c.args.self.now (current c.args.self.now.memory) (g.D.Disk.past c.args.disk.now) st

pub returns-in_err-ready-clause-each_moment : goal.returns-in_err-ready-clause-each_moment
returns-in_err-ready-clause-each_moment g c = λ tells st. still_each c.args.self.now.memory (current c.args.self.now.memory) c.args.self.now.generation c.args.self.now.journal (g.D.Disk.past c.args.disk.now) st

pub returns-in_err-ready-clause-reads : goal.returns-in_err-ready-clause-reads
returns-in_err-ready-clause-reads g c = λ tells st. still_reads c.args.self.now (current c.args.self.now.memory) (g.D.Disk.past c.args.disk.now) st

pub returns-in_err-write_store-clause-each_moment : goal.returns-in_err-write_store-clause-each_moment
returns-in_err-write_store-clause-each_moment g c = λ tells st. c.write_store.ensures.each_moment c.args.self.now.memory.unsettled tells st c.in_ok-ready.ensures.ready c.in_ok-ready.ensures.settles

pub returns-in_err-write_store-clause-reads : goal.returns-in_err-write_store-clause-reads
returns-in_err-write_store-clause-reads g c = λ tells st. c.write_store.ensures.reads c.args.self.now.memory.unsettled tells st c.in_ok-ready.ensures.ready c.in_ok-ready.ensures.settles

pub returns-clause-each_moment : goal.returns-clause-each_moment
returns-clause-each_moment g c = λ tells st. c.write_store.ensures.each_moment c.args.self.now.memory.unsettled tells st c.in_ok-ready.ensures.ready c.in_ok-ready.ensures.settles

pub returns-clause-stands : goal.returns-clause-stands
returns-clause-stands g c = λ tells st.
    let m = c.args.self.now.memory in
    let now = c.settle_all.new.self in
    let past = g.D.Disk.past c.write_store.new.disk in
    let memory = c.settle_all.ensures.memory ∙ ap all_settled c.write_store.ensures.memory.0 in
    let stands = c.in_ok-write_store.ensures.stands m.unsettled tells st c.in_ok-ready.ensures.ready c.in_ok-ready.ensures.settles in
    subst (λ (number : ℕ). StandsAt now.memory now.memory.settled number now.journal past) (sym c.settle_all.ensures.store.1)
    (subst (λ (journal : Journal). StandsAt now.memory now.memory.settled c.write_store.new.self.generation journal past) (sym c.settle_all.ensures.store.0)
    (settled_stands m now.memory (current m) c.write_store.new.self.generation c.write_store.new.self.journal past (ap (λ (x : DeviceMemory). x.program) memory) (ap (λ (x : DeviceMemory). x.device) memory) (ap (λ (x : DeviceMemory). x.settled) memory) stands))

pub returns-in_err-check_running-clause-world : goal.returns-in_err-check_running-clause-world
returns-in_err-check_running-clause-world g c =
    settle_steps c.args.self.now c.args.self.now (record_reads_open c.args.self.now (g.D.Disk.past c.args.disk.now) (g.D.Disk.past c.args.disk.now)) c.from_residual.result
    (stopped_fares c.args.self.now c.args.self.now (c.args.self.now.memory.unsettled ≢ []) (AreSettled c.args.self.now c.args.self.now) c.from_residual.result c.args.self.now.journal.stopped false false None c.in_err-check_running.field-0.0 c.from_residual.ensures.1 (c.check_running.ensures.stopped c.in_err-check_running.field-0.0 c.in_err-check_running.was) refl)

pub returns-in_err-check_running-clause-caused : goal.returns-in_err-check_running-clause-caused
returns-in_err-check_running-clause-caused g c =
    settling_caused c.args.self.now c.args.self.now c.from_residual.result
    (stopped_fares c.args.self.now c.args.self.now (c.args.self.now.memory.unsettled ≢ []) (AreSettled c.args.self.now c.args.self.now) c.from_residual.result c.args.self.now.journal.stopped false false None c.in_err-check_running.field-0.0 c.from_residual.ensures.1 (c.check_running.ensures.stopped c.in_err-check_running.field-0.0 c.in_err-check_running.was) refl)

pub returns-then-is_settled-clause-world : goal.returns-then-is_settled-clause-world
returns-then-is_settled-clause-world g c =
    settle_steps c.args.self.now c.args.self.now (record_reads_open c.args.self.now (g.D.Disk.past c.args.disk.now) (g.D.Disk.past c.args.disk.now)) (Ok c.number.result)
    (nothing_refuses c.args.self.now c.args.self.now (c.args.self.now.memory.unsettled ≢ []) (AreSettled c.args.self.now c.args.self.now) (Ok c.number.result) c.args.self.now.journal.stopped false false None c.in_ok-check_running.ensures.running refl refl refl, (c.number.ensures, settled_same c.args.self.now.memory (c.is_settled.ensures.settled c.if-is_settled.true), refl))

pub returns-then-is_settled-clause-caused : goal.returns-then-is_settled-clause-caused
returns-then-is_settled-clause-caused g c =
    settling_caused c.args.self.now c.args.self.now (Ok c.number.result)
    (nothing_refuses c.args.self.now c.args.self.now (c.args.self.now.memory.unsettled ≢ []) (AreSettled c.args.self.now c.args.self.now) (Ok c.number.result) c.args.self.now.journal.stopped false false None c.in_ok-check_running.ensures.running refl refl refl, (c.number.ensures, settled_same c.args.self.now.memory (c.is_settled.ensures.settled c.if-is_settled.true), refl))

pub returns-in_err-ready-clause-world : goal.returns-in_err-ready-clause-world
returns-in_err-ready-clause-world g c =
    settle_steps c.args.self.now c.args.self.now (record_reads_open c.args.self.now (g.D.Disk.past c.args.disk.now) (g.D.Disk.past c.args.disk.now)) c.from_residual-in_err-ready.result
    (memory_fares c.args.self.now c.args.self.now (c.args.self.now.memory.unsettled ≢ []) (AreSettled c.args.self.now c.args.self.now) c.from_residual-in_err-ready.result (stop_refusal c.args.self.now) c.from_residual-in_err-ready.ensures.1 refl)

pub returns-in_err-ready-clause-caused : goal.returns-in_err-ready-clause-caused
returns-in_err-ready-clause-caused g c =
    settling_caused c.args.self.now c.args.self.now c.from_residual-in_err-ready.result
    (memory_fares c.args.self.now c.args.self.now (c.args.self.now.memory.unsettled ≢ []) (AreSettled c.args.self.now c.args.self.now) c.from_residual-in_err-ready.result (stop_refusal c.args.self.now) c.from_residual-in_err-ready.ensures.1 refl)

pub returns-in_err-write_store-clause-world : goal.returns-in_err-write_store-clause-world
returns-in_err-write_store-clause-world g c =
    settle_steps c.args.self.now c.write_store.new.self (record_reads_open c.args.self.now (g.D.Disk.past c.args.disk.now) (g.D.Disk.past c.write_store.new.disk)) c.from_residual-in_err-write_store.result
    (journal_fares c.args.self.now c.write_store.new.self (c.args.self.now.memory.unsettled ≢ []) (AreSettled c.args.self.now c.write_store.new.self) c.from_residual-in_err-write_store.result (stop_refusal c.args.self.now) c.in_err-write_store.field-0.0 c.from_residual-in_err-write_store.ensures.1 (nothing_refuses c.args.self.now c.write_store.new.self (c.args.self.now.memory.unsettled ≢ []) (AreSettled c.args.self.now c.write_store.new.self) c.from_residual-in_err-write_store.result c.args.self.now.journal.stopped false false None c.in_ok-check_running.ensures.running refl refl refl) (c.is_settled.ensures.unsettled c.if-is_settled.false) c.in_ok-check_running.ensures.running (λ at e. (subst (λ (r : Result (Unit {0}) JournalFault). HasCause c.args.self.now.journal.stopped (g.D.Disk.faults c.args.disk.now) (g.D.Disk.faults c.write_store.new.disk) r) (c.in_err-write_store.was ∙ ap Err e) c.write_store.ensures.cause).0) c.write_store.ensures.memory.0 (λ e. c.write_store.ensures.stops (c.in_err-write_store.was ∙ ap Err e)))

pub returns-in_err-write_store-clause-caused : goal.returns-in_err-write_store-clause-caused
returns-in_err-write_store-clause-caused g c =
    settling_caused c.args.self.now c.write_store.new.self c.from_residual-in_err-write_store.result
    (journal_fares c.args.self.now c.write_store.new.self (c.args.self.now.memory.unsettled ≢ []) (AreSettled c.args.self.now c.write_store.new.self) c.from_residual-in_err-write_store.result (stop_refusal c.args.self.now) c.in_err-write_store.field-0.0 c.from_residual-in_err-write_store.ensures.1 (nothing_refuses c.args.self.now c.write_store.new.self (c.args.self.now.memory.unsettled ≢ []) (AreSettled c.args.self.now c.write_store.new.self) c.from_residual-in_err-write_store.result c.args.self.now.journal.stopped false false None c.in_ok-check_running.ensures.running refl refl refl) (c.is_settled.ensures.unsettled c.if-is_settled.false) c.in_ok-check_running.ensures.running (λ at e. (subst (λ (r : Result (Unit {0}) JournalFault). HasCause c.args.self.now.journal.stopped (g.D.Disk.faults c.args.disk.now) (g.D.Disk.faults c.write_store.new.disk) r) (c.in_err-write_store.was ∙ ap Err e) c.write_store.ensures.cause).0) c.write_store.ensures.memory.0 (λ e. c.write_store.ensures.stops (c.in_err-write_store.was ∙ ap Err e)))

pub returns-clause-world : goal.returns-clause-world
returns-clause-world g c =
    let memory = c.settle_all.ensures.memory ∙ ap all_settled c.write_store.ensures.memory.0 in
    settle_steps c.args.self.now c.settle_all.new.self (record_reads_open c.args.self.now (g.D.Disk.past c.args.disk.now) (g.D.Disk.past c.write_store.new.disk)) (Ok c.number-2.result)
    (nothing_refuses c.args.self.now c.settle_all.new.self (c.args.self.now.memory.unsettled ≢ []) (AreSettled c.args.self.now c.settle_all.new.self) (Ok c.number-2.result) c.args.self.now.journal.stopped false false None c.in_ok-check_running.ensures.running refl refl refl, (c.number-2.ensures ∙ ap (λ (m : DeviceMemory). (current m).number) memory, memory, ap (λ (j : Journal). j.stopped) c.settle_all.ensures.store.0 ∙ c.in_ok-write_store.ensures.runs))

pub returns-clause-caused : goal.returns-clause-caused
returns-clause-caused g c =
    let memory = c.settle_all.ensures.memory ∙ ap all_settled c.write_store.ensures.memory.0 in
    settling_caused c.args.self.now c.settle_all.new.self (Ok c.number-2.result)
    (nothing_refuses c.args.self.now c.settle_all.new.self (c.args.self.now.memory.unsettled ≢ []) (AreSettled c.args.self.now c.settle_all.new.self) (Ok c.number-2.result) c.args.self.now.journal.stopped false false None c.in_ok-check_running.ensures.running refl refl refl, (c.number-2.ensures ∙ ap (λ (m : DeviceMemory). (current m).number) memory, memory, ap (λ (j : Journal). j.stopped) c.settle_all.ensures.store.0 ∙ c.in_ok-write_store.ensures.runs))
