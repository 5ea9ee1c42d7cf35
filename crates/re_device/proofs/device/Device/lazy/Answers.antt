-- The entry has the next number, and each answer is that of a step of the world.
use Rattle.std.proofs.Common.{◌∙◌, Ok, false, ap, refl}
use Rattle.std.proofs.lemmas.Bool.{le-leb, lt-leb}
use Rattle.std.specs.Prelude.{length, nat_le}
use Rattle.re_record.specs.Restoring.{Opened}
use Rattle.re_device.proofs.Fared.{full_fares, limit_fares, many_fares, memory_fares, nothing_refuses, stopped_fares}
use Rattle.re_device.proofs.Memories.{current_more}
use Rattle.re_device.proofs.WorldSteps.{IsApplied, lazy_steps, unsettled_caused}
use Rattle.re_device.specs.Causes.{unsettled_refusal}
use Rattle.re_device.proofs.device.Device.lazy.Goals as goal
use Rattle.re_device.specs.Device.{DeviceMemory, DeviceState, current, limit_against, takes_no_more, with_entry}
use Rattle.re_terms.specs.declared.entry.Entry.TheVariants as entry
use Rattle.re_terms.specs.declared.entry.Logged.{Logged}

pub returns-clause-number : goal.returns-clause-number
returns-clause-number g c =
    let l = c.in_ok-taken.taken.logged in
    let here = ap (λ (v : DeviceState). v.memory) c.in_ok-make_room.ensures.room.0 in
    c.number.ensures
    ∙ ap (λ (m : DeviceMemory). (current m).number) (c.enter.ensures.memory ∙ ap (λ (m : DeviceMemory). with_entry m l) here)
    ∙ ap (λ (o : Opened). o.number) (current_more c.args.self.now.memory l)

pub returns-in_err-check_running-clause-world : goal.returns-in_err-check_running-clause-world
returns-in_err-check_running-clause-world g c =
    lazy_steps c.args.self.now c.args.self.now false c.from_residual.result c.args.turn c.requires
    (stopped_fares c.args.self.now c.args.self.now ⊥ (IsApplied c.args.self.now c.args.self.now (entry.Turn c.args.turn.turn)) c.from_residual.result c.args.self.now.journal.stopped (takes_no_more c.args.self.now.memory) (nat_le 8 (length c.args.self.now.memory.unsettled)) (limit_against c.args.self.now.memory (entry.Turn c.args.turn.turn)) c.in_err-check_running.field-0.0 c.from_residual.ensures.1 (c.check_running.ensures.stopped c.in_err-check_running.field-0.0 c.in_err-check_running.was) refl)

pub returns-in_err-check_running-clause-caused : goal.returns-in_err-check_running-clause-caused
returns-in_err-check_running-clause-caused g c =
    unsettled_caused c.args.self.now c.args.self.now (entry.Turn c.args.turn.turn) c.from_residual.result
    (stopped_fares c.args.self.now c.args.self.now ⊥ (IsApplied c.args.self.now c.args.self.now (entry.Turn c.args.turn.turn)) c.from_residual.result c.args.self.now.journal.stopped (takes_no_more c.args.self.now.memory) (nat_le 8 (length c.args.self.now.memory.unsettled)) (limit_against c.args.self.now.memory (entry.Turn c.args.turn.turn)) c.in_err-check_running.field-0.0 c.from_residual.ensures.1 (c.check_running.ensures.stopped c.in_err-check_running.field-0.0 c.in_err-check_running.was) refl)

pub returns-in_err-check_room-clause-world : goal.returns-in_err-check_room-clause-world
returns-in_err-check_room-clause-world g c =
    lazy_steps c.args.self.now c.args.self.now false c.from_residual-in_err-check_room.result c.args.turn c.requires
    (full_fares c.args.self.now c.args.self.now ⊥ (IsApplied c.args.self.now c.args.self.now (entry.Turn c.args.turn.turn)) c.from_residual-in_err-check_room.result c.args.self.now.journal.stopped (takes_no_more c.args.self.now.memory) (nat_le 8 (length c.args.self.now.memory.unsettled)) (limit_against c.args.self.now.memory (entry.Turn c.args.turn.turn)) c.in_err-check_room.field-0.0 c.from_residual-in_err-check_room.ensures.1 c.in_ok-check_running.ensures.running (c.check_room.ensures.full c.in_err-check_room.field-0.0 c.in_err-check_room.was) refl)

pub returns-in_err-check_room-clause-caused : goal.returns-in_err-check_room-clause-caused
returns-in_err-check_room-clause-caused g c =
    unsettled_caused c.args.self.now c.args.self.now (entry.Turn c.args.turn.turn) c.from_residual-in_err-check_room.result
    (full_fares c.args.self.now c.args.self.now ⊥ (IsApplied c.args.self.now c.args.self.now (entry.Turn c.args.turn.turn)) c.from_residual-in_err-check_room.result c.args.self.now.journal.stopped (takes_no_more c.args.self.now.memory) (nat_le 8 (length c.args.self.now.memory.unsettled)) (limit_against c.args.self.now.memory (entry.Turn c.args.turn.turn)) c.in_err-check_room.field-0.0 c.from_residual-in_err-check_room.ensures.1 c.in_ok-check_running.ensures.running (c.check_room.ensures.full c.in_err-check_room.field-0.0 c.in_err-check_room.was) refl)

pub returns-in_err-check_unsettled-clause-world : goal.returns-in_err-check_unsettled-clause-world
returns-in_err-check_unsettled-clause-world g c =
    let many = c.check_unsettled.ensures.loose_full c.in_err-check_unsettled.field-0.0 c.in_err-check_unsettled.was in
    lazy_steps c.args.self.now c.args.self.now false c.from_residual-in_err-check_unsettled.result c.args.turn c.requires
    (many_fares c.args.self.now c.args.self.now ⊥ (IsApplied c.args.self.now c.args.self.now (entry.Turn c.args.turn.turn)) c.from_residual-in_err-check_unsettled.result c.args.self.now.journal.stopped (takes_no_more c.args.self.now.memory) (nat_le 8 (length c.args.self.now.memory.unsettled)) (limit_against c.args.self.now.memory (entry.Turn c.args.turn.turn)) c.in_err-check_unsettled.field-0.0 c.from_residual-in_err-check_unsettled.ensures.1 c.in_ok-check_running.ensures.running c.in_ok-check_room.ensures.room (le-leb 8 (length c.args.self.now.memory.unsettled) many.0, many.1) refl)

pub returns-in_err-check_unsettled-clause-caused : goal.returns-in_err-check_unsettled-clause-caused
returns-in_err-check_unsettled-clause-caused g c =
    let many = c.check_unsettled.ensures.loose_full c.in_err-check_unsettled.field-0.0 c.in_err-check_unsettled.was in
    unsettled_caused c.args.self.now c.args.self.now (entry.Turn c.args.turn.turn) c.from_residual-in_err-check_unsettled.result
    (many_fares c.args.self.now c.args.self.now ⊥ (IsApplied c.args.self.now c.args.self.now (entry.Turn c.args.turn.turn)) c.from_residual-in_err-check_unsettled.result c.args.self.now.journal.stopped (takes_no_more c.args.self.now.memory) (nat_le 8 (length c.args.self.now.memory.unsettled)) (limit_against c.args.self.now.memory (entry.Turn c.args.turn.turn)) c.in_err-check_unsettled.field-0.0 c.from_residual-in_err-check_unsettled.ensures.1 c.in_ok-check_running.ensures.running c.in_ok-check_room.ensures.room (le-leb 8 (length c.args.self.now.memory.unsettled) many.0, many.1) refl)

pub returns-in_err-taken-clause-world : goal.returns-in_err-taken-clause-world
returns-in_err-taken-clause-world g c =
    lazy_steps c.args.self.now c.args.self.now false c.from_residual-in_err-taken.result c.args.turn c.requires
    (limit_fares c.args.self.now c.args.self.now ⊥ (IsApplied c.args.self.now c.args.self.now (entry.Turn c.args.turn.turn)) c.from_residual-in_err-taken.result c.args.self.now.journal.stopped (takes_no_more c.args.self.now.memory) (nat_le 8 (length c.args.self.now.memory.unsettled)) (limit_against c.args.self.now.memory (entry.Turn c.args.turn.turn)) c.in_err-taken.field-0.0 c.from_residual-in_err-taken.ensures.1 c.in_ok-check_running.ensures.running c.in_ok-check_room.ensures.room (lt-leb 8 (length c.args.self.now.memory.unsettled) c.in_ok-check_unsettled.ensures.few) (c.take.ensures.refused c.in_err-taken.field-0.0 c.in_err-taken.was) refl)

pub returns-in_err-taken-clause-caused : goal.returns-in_err-taken-clause-caused
returns-in_err-taken-clause-caused g c =
    unsettled_caused c.args.self.now c.args.self.now (entry.Turn c.args.turn.turn) c.from_residual-in_err-taken.result
    (limit_fares c.args.self.now c.args.self.now ⊥ (IsApplied c.args.self.now c.args.self.now (entry.Turn c.args.turn.turn)) c.from_residual-in_err-taken.result c.args.self.now.journal.stopped (takes_no_more c.args.self.now.memory) (nat_le 8 (length c.args.self.now.memory.unsettled)) (limit_against c.args.self.now.memory (entry.Turn c.args.turn.turn)) c.in_err-taken.field-0.0 c.from_residual-in_err-taken.ensures.1 c.in_ok-check_running.ensures.running c.in_ok-check_room.ensures.room (lt-leb 8 (length c.args.self.now.memory.unsettled) c.in_ok-check_unsettled.ensures.few) (c.take.ensures.refused c.in_err-taken.field-0.0 c.in_err-taken.was) refl)

pub returns-in_err-make_room-clause-world : goal.returns-in_err-make_room-clause-world
returns-in_err-make_room-clause-world g c =
    lazy_steps c.args.self.now c.make_room.new.self false c.from_residual-in_err-make_room.result c.args.turn c.requires
    (memory_fares c.args.self.now c.make_room.new.self ⊥ (IsApplied c.args.self.now c.make_room.new.self (entry.Turn c.args.turn.turn)) c.from_residual-in_err-make_room.result (unsettled_refusal c.args.self.now (entry.Turn c.args.turn.turn)) c.from_residual-in_err-make_room.ensures.1 c.in_err-make_room.ensures.refused)

pub returns-in_err-make_room-clause-caused : goal.returns-in_err-make_room-clause-caused
returns-in_err-make_room-clause-caused g c =
    unsettled_caused c.args.self.now c.make_room.new.self (entry.Turn c.args.turn.turn) c.from_residual-in_err-make_room.result
    (memory_fares c.args.self.now c.make_room.new.self ⊥ (IsApplied c.args.self.now c.make_room.new.self (entry.Turn c.args.turn.turn)) c.from_residual-in_err-make_room.result (unsettled_refusal c.args.self.now (entry.Turn c.args.turn.turn)) c.from_residual-in_err-make_room.ensures.1 c.in_err-make_room.ensures.refused)

pub returns-clause-world : goal.returns-clause-world
returns-clause-world g c =
    let old = c.args.self.now in
    let new = c.enter.new.self in
    let l = c.in_ok-taken.taken.logged in
    let same = c.in_ok-make_room.ensures.room.0 in
    let memory = c.enter.ensures.memory ∙ ap (λ (v : DeviceState). with_entry v.memory l) same ∙ ap (λ (k : Logged). with_entry old.memory k) c.in_ok-taken.ensures.taken.logged_is in
    let journal = c.enter.ensures.store.0 ∙ ap (λ (v : DeviceState). v.journal) same in
    let number = c.number.ensures ∙ ap (λ (m : DeviceMemory). (current m).number) memory ∙ ap (λ (o : Opened). o.number) (current_more old.memory _) in
    lazy_steps old new false (Ok c.number.result) c.args.turn c.requires
    (nothing_refuses old new ⊥ (IsApplied old new (entry.Turn c.args.turn.turn)) (Ok c.number.result) old.journal.stopped (takes_no_more old.memory) (nat_le 8 (length old.memory.unsettled)) (limit_against old.memory (entry.Turn c.args.turn.turn)) c.in_ok-check_running.ensures.running c.in_ok-check_room.ensures.room (lt-leb 8 (length c.args.self.now.memory.unsettled) c.in_ok-check_unsettled.ensures.few) c.in_ok-taken.ensures.limits, (number, memory, journal))

pub returns-clause-caused : goal.returns-clause-caused
returns-clause-caused g c =
    let old = c.args.self.now in
    let new = c.enter.new.self in
    let l = c.in_ok-taken.taken.logged in
    let same = c.in_ok-make_room.ensures.room.0 in
    let memory = c.enter.ensures.memory ∙ ap (λ (v : DeviceState). with_entry v.memory l) same ∙ ap (λ (k : Logged). with_entry old.memory k) c.in_ok-taken.ensures.taken.logged_is in
    let journal = c.enter.ensures.store.0 ∙ ap (λ (v : DeviceState). v.journal) same in
    let number = c.number.ensures ∙ ap (λ (m : DeviceMemory). (current m).number) memory ∙ ap (λ (o : Opened). o.number) (current_more old.memory _) in
    unsettled_caused old new (entry.Turn c.args.turn.turn) (Ok c.number.result)
    (nothing_refuses old new ⊥ (IsApplied old new (entry.Turn c.args.turn.turn)) (Ok c.number.result) old.journal.stopped (takes_no_more old.memory) (nat_le 8 (length old.memory.unsettled)) (limit_against old.memory (entry.Turn c.args.turn.turn)) c.in_ok-check_running.ensures.running c.in_ok-check_room.ensures.room (lt-leb 8 (length c.args.self.now.memory.unsettled) c.in_ok-check_unsettled.ensures.few) c.in_ok-taken.ensures.limits, (number, memory, journal))
