use Rattle.std.proofs.Common.{◌+◌, sym, subst}
use Rattle.re_device.proofs.PlainEntries.{full_is, merge_limit, merge_plain, more_is, state_more, turn_limit, turn_plain}
use Rattle.re_device.proofs.laws.entering_law.Goals as goal
use Rattle.re_device.specs.Device.{current, logged, with_entry}
use Rattle.re_device.specs.Stepping.{IsPlainly}
use Rattle.re_terms.specs.Admission.{IsAdmitted}
use Rattle.re_terms.specs.DeviceWorlds.{last_number}
use Rattle.re_terms.specs.Entries.{Merge, turn_entry}
use Rattle.re_terms.specs.Runs.{PlainState}
use Rattle.re_terms.specs.declared.entry.Entry.TheVariants as entry
use Rattle.re_terms.specs.declared.program.Program.{Program}

pub returns-clause-turn : goal.returns-clause-turn
returns-clause-turn c = λ p w d t is.
    subst (λ (s : PlainState). IsPlainly p (current (with_entry d.memory (logged d.memory (entry.Turn t.turn)))) s (last_number w d.memory.device + 1)) (sym (state_more p w d is (entry.Turn t.turn) (turn_entry t) (turn_plain p w d is t)))
    (more_is p w d is (entry.Turn t.turn) (turn_entry t) (turn_plain p w d is t))

pub returns-clause-merge : goal.returns-clause-merge
returns-clause-merge c = λ p w d k state is of.
    subst (λ (s : PlainState). IsPlainly p (current (with_entry d.memory (logged d.memory (entry.Merge state)))) s (last_number w d.memory.device + 1)) (sym (state_more p w d is (entry.Merge state) (Merge of.packet) (merge_plain p w d is k state of)))
    (more_is p w d is (entry.Merge state) (Merge of.packet) (merge_plain p w d is k state of))

pub returns-clause-full : goal.returns-clause-full
returns-clause-full c = full_is

pub returns-clause-turn_limit : goal.returns-clause-turn_limit
returns-clause-turn_limit c = λ p w d t is admitted. turn_limit p w d is t (subst (λ (q : Program). IsAdmitted q t.turn) (sym is.program) admitted)

pub returns-clause-merge_limit : goal.returns-clause-merge_limit
returns-clause-merge_limit c = λ p w d k state is of. merge_limit p w d is k state of
