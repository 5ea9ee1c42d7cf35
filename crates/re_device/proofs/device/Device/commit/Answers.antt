-- Where nothing is written the files leave what was settled, and else what the commit leaves.
use Rattle.std.proofs.Common.{◌≡◌, ◌∙◌, ◌++◌, ◌∷◌, [], ℕ, refl, sym, ap, subst}
use Rattle.re_record.specs.Restoring.{after_all}
use Rattle.re_device.proofs.Settling.{done_number, ready_room, settled_stands, still_each, still_reads}
use Rattle.re_device.proofs.device.Device.commit.Goals as goal
use Rattle.re_device.specs.Committing.{record_reads_open}
use Rattle.re_device.specs.Device.{DeviceMemory, DeviceState, all_settled, current, with_entry}
use Rattle.re_device.specs.Ready.{MaySettle}
use Rattle.re_device.specs.Standing.{LeavesEither, ReadsBy, StandsAt, StandsSettled}
use Rattle.re_outside.specs.Moment.{Throughout}
use Rattle.re_journal.specs.declared.journal.Journal.{Journal}

pub returns-in_err-ready-clause-each_moment : goal.returns-in_err-ready-clause-each_moment
returns-in_err-ready-clause-each_moment g c = λ tells st. still_each c.args.self.now.memory (current (with_entry c.args.self.now.memory c.args.taken.logged)) c.args.self.now.generation c.args.self.now.journal (g.D.Disk.past c.args.disk.now) st

pub returns-in_err-ready-clause-reads : goal.returns-in_err-ready-clause-reads
returns-in_err-ready-clause-reads g c = λ tells st. still_reads c.args.self.now (current (with_entry c.args.self.now.memory c.args.taken.logged)) (g.D.Disk.past c.args.disk.now) st

pub returns-in_err-make_room-clause-each_moment : goal.returns-in_err-make_room-clause-each_moment
returns-in_err-make_room-clause-each_moment g c = λ tells st. still_each c.args.self.now.memory (current (with_entry c.args.self.now.memory c.args.taken.logged)) c.args.self.now.generation c.args.self.now.journal (g.D.Disk.past c.args.disk.now) st

pub returns-in_err-make_room-clause-reads : goal.returns-in_err-make_room-clause-reads
returns-in_err-make_room-clause-reads g c = λ tells st. still_reads c.args.self.now (current (with_entry c.args.self.now.memory c.args.taken.logged)) (g.D.Disk.past c.args.disk.now) st

pub write_store-requires : goal.write_store-requires
write_store-requires g c =
    let v = c.args.self.now in
    let w = c.make_room.new.self in
    let es = v.memory.unsettled ++ c.args.taken.logged ∷ [] in
    (es, ready_room v w w.room es c.in_ok-ready.ready c.in_ok-make_room.ensures.room.0 c.in_ok-ready.ensures.ready)

pub returns-in_err-write_store-clause-each_moment : goal.returns-in_err-write_store-clause-each_moment
returns-in_err-write_store-clause-each_moment g c = λ tells st.
    let v = c.args.self.now in
    let w = c.make_room.new.self in
    let es = v.memory.unsettled ++ c.args.taken.logged ∷ [] in
    let same = c.in_ok-make_room.ensures.room.0 in
    let here : w.memory ≡ v.memory = ap (λ (x : DeviceState). x.memory) same in
    let old = g.D.Disk.past c.args.disk.now in
    let new = g.D.Disk.past c.write_store.new.disk in
    subst (λ (m : DeviceMemory). Throughout old new (LeavesEither m (after_all m.program m.device es m.settled) old)) here
    (c.write_store.ensures.each_moment es tells (subst (λ (x : DeviceState). StandsSettled x old) (sym same) st) (ready_room v w w.room es c.in_ok-ready.ready same c.in_ok-ready.ensures.ready) (subst (λ (m : DeviceMemory). MaySettle m es) (sym here) (c.in_ok-ready.ensures.settles c.requires.more)))

pub returns-in_err-write_store-clause-reads : goal.returns-in_err-write_store-clause-reads
returns-in_err-write_store-clause-reads g c = λ tells st.
    let v = c.args.self.now in
    let w = c.make_room.new.self in
    let es = v.memory.unsettled ++ c.args.taken.logged ∷ [] in
    let same = c.in_ok-make_room.ensures.room.0 in
    let here : w.memory ≡ v.memory = ap (λ (x : DeviceState). x.memory) same in
    let old = g.D.Disk.past c.args.disk.now in
    let new = g.D.Disk.past c.write_store.new.disk in
    subst (λ (x : DeviceState). ReadsBy x.memory (after_all x.memory.program x.memory.device es x.memory.settled) (record_reads_open x old new) new) same
    (c.write_store.ensures.reads es tells (subst (λ (x : DeviceState). StandsSettled x old) (sym same) st) (ready_room v w w.room es c.in_ok-ready.ready same c.in_ok-ready.ensures.ready) (subst (λ (m : DeviceMemory). MaySettle m es) (sym here) (c.in_ok-ready.ensures.settles c.requires.more)))

pub returns-clause-each_moment : goal.returns-clause-each_moment
returns-clause-each_moment g c = λ tells st.
    let v = c.args.self.now in
    let w = c.make_room.new.self in
    let es = v.memory.unsettled ++ c.args.taken.logged ∷ [] in
    let same = c.in_ok-make_room.ensures.room.0 in
    let here : w.memory ≡ v.memory = ap (λ (x : DeviceState). x.memory) same in
    let old = g.D.Disk.past c.args.disk.now in
    let new = g.D.Disk.past c.write_store.new.disk in
    subst (λ (m : DeviceMemory). Throughout old new (LeavesEither m (after_all m.program m.device es m.settled) old)) here
    (c.write_store.ensures.each_moment es tells (subst (λ (x : DeviceState). StandsSettled x old) (sym same) st) (ready_room v w w.room es c.in_ok-ready.ready same c.in_ok-ready.ensures.ready) (subst (λ (m : DeviceMemory). MaySettle m es) (sym here) (c.in_ok-ready.ensures.settles c.requires.more)))

pub returns-clause-reads : goal.returns-clause-reads
returns-clause-reads g c = λ tells st.
    let v = c.args.self.now in
    let w = c.make_room.new.self in
    let es = v.memory.unsettled ++ c.args.taken.logged ∷ [] in
    let same = c.in_ok-make_room.ensures.room.0 in
    let here : w.memory ≡ v.memory = ap (λ (x : DeviceState). x.memory) same in
    let old = g.D.Disk.past c.args.disk.now in
    let new = g.D.Disk.past c.write_store.new.disk in
    subst (λ (x : DeviceState). ReadsBy x.memory (after_all x.memory.program x.memory.device es x.memory.settled) (record_reads_open x old new) new) same
    (c.write_store.ensures.reads es tells (subst (λ (x : DeviceState). StandsSettled x old) (sym same) st) (ready_room v w w.room es c.in_ok-ready.ready same c.in_ok-ready.ensures.ready) (subst (λ (m : DeviceMemory). MaySettle m es) (sym here) (c.in_ok-ready.ensures.settles c.requires.more)))

pub returns-clause-done : goal.returns-clause-done
returns-clause-done g c =
    let l = c.args.taken.logged in
    let here = c.write_store.ensures.memory.0 ∙ ap (λ (x : DeviceState). x.memory) c.in_ok-make_room.ensures.room.0 in
    (c.number.ensures ∙ ap (λ (m : DeviceMemory). (current m).number) (c.enter_settled.ensures.memory ∙ ap (λ (m : DeviceMemory). all_settled (with_entry m l)) here) ∙ done_number c.args.self.now.memory l, refl)

pub returns-clause-stands : goal.returns-clause-stands
returns-clause-stands g c = λ tells st.
    let v = c.args.self.now in
    let w = c.make_room.new.self in
    let es = v.memory.unsettled ++ c.args.taken.logged ∷ [] in
    let same = c.in_ok-make_room.ensures.room.0 in
    let here : w.memory ≡ v.memory = ap (λ (x : DeviceState). x.memory) same in
    let old = g.D.Disk.past c.args.disk.now in
    let new = g.D.Disk.past c.write_store.new.disk in
    let l = c.args.taken.logged in
    let m = v.memory in
    let memory = c.enter_settled.ensures.memory ∙ ap (λ (x : DeviceMemory). all_settled (with_entry x l)) (c.write_store.ensures.memory.0 ∙ here) in
    let stands = subst (λ (x : DeviceMemory). StandsAt x (after_all x.program x.device es x.settled) c.write_store.new.self.generation c.write_store.new.self.journal new) here
    (c.in_ok-write_store.ensures.stands es tells (subst (λ (x : DeviceState). StandsSettled x old) (sym same) st) (ready_room v w w.room es c.in_ok-ready.ready same c.in_ok-ready.ensures.ready) (subst (λ (x : DeviceMemory). MaySettle x es) (sym here) (c.in_ok-ready.ensures.settles c.requires.more))) in
    let now = c.enter_settled.new.self in
    subst (λ (number : ℕ). StandsAt now.memory now.memory.settled number now.journal new) (sym c.enter_settled.ensures.store.1)
    (subst (λ (journal : Journal). StandsAt now.memory now.memory.settled c.write_store.new.self.generation journal new) (sym c.enter_settled.ensures.store.0)
    (settled_stands m now.memory (after_all m.program m.device es m.settled) c.write_store.new.self.generation c.write_store.new.self.journal new (ap (λ (x : DeviceMemory). x.program) memory) (ap (λ (x : DeviceMemory). x.device) memory) (ap (λ (x : DeviceMemory). x.settled) memory) stands))
