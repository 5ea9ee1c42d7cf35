use Rattle.std.specs.Prelude.{nat_le, if◌then◌else◌}
use Rattle.std.proofs.Common.{◌+◌, refl, ◌∙◌, ap, arith}
use Rattle.re_journal.specs.Commits.{IsStopOf}
use Rattle.re_journal.specs.Journals.{other_file}
use Rattle.re_journal.proofs.Stopping.{stop_in_turn}
use Rattle.re_compact.specs.Laying.{laying_calls, two_unless}
use Rattle.re_compact.proofs.Steps.{trim_stops, frame_stops, later_stop, on_err}
use Rattle.re_compact.proofs.laying.make_prepare_calls.Goals as goal

pub returns-in_err-trim_other-clause-failed : goal.returns-in_err-trim_other-clause-failed
returns-in_err-trim_other-clause-failed g c = λ told.
    let j = c.args.journal.now in
    let same = c.in_ok-shut_other.ensures.journal in
    on_err c.from_residual-in_err-trim_other.result _
    (trim_stops (other_file j.file) j.other_blank j.other_length c.args.framed.now j.calls c.trim_other.new.journal.stopped (g.D.Disk.past c.args.disk.now) (g.D.Disk.past c.trim_other.new.disk)
    (g.D.Disk.past c.shut_other.new.disk) (other_file c.shut_other.new.journal.file) c.shut_other.new.journal.other_length c.shut_other.new.journal.calls
    (ap (λ k. other_file k.file) same) (ap (λ k. k.other_length) same) (ap (λ k. k.calls) same) (c.in_ok-shut_other.ensures.done told) (c.in_err-trim_other.ensures.failed told))

pub returns-in_err-trim_other-clause-stopped_at : goal.returns-in_err-trim_other-clause-stopped_at
returns-in_err-trim_other-clause-stopped_at g c =
    let j = c.args.journal.now in
    let same = c.in_ok-shut_other.ensures.journal in
    on_err c.from_residual-in_err-trim_other.result _
    (later_stop j.other_blank 2 (laying_calls j.other_blank j.other_length) j.calls c.shut_other.new.journal.calls c.trim_other.new.journal.stopped
    (ap (λ k. k.calls) same) (omega arith) (stop_in_turn 2 c.shut_other.new.journal.calls c.trim_other.new.journal.stopped c.in_err-trim_other.ensures.stopped_at))

pub returns-in_err-write_frame-clause-failed : goal.returns-in_err-write_frame-clause-failed
returns-in_err-write_frame-clause-failed g c = λ told.
    let j = c.args.journal.now in
    let same = c.in_ok-shut_other.ensures.journal in
    let too = c.in_ok-trim_other.ensures.journal in
    on_err c.from_residual-in_err-write_frame.result _
    (frame_stops (other_file j.file) j.other_blank j.other_length c.args.framed.now j.calls c.write_frame.new.journal.stopped (g.D.Disk.past c.args.disk.now) (g.D.Disk.past c.write_frame.new.disk)
    (g.D.Disk.past c.shut_other.new.disk) (g.D.Disk.past c.trim_other.new.disk) (other_file c.shut_other.new.journal.file) c.shut_other.new.journal.other_length (other_file c.trim_other.new.journal.file) c.trim_other.new.journal.calls
    (ap (λ k. other_file k.file) same) (ap (λ k. k.other_length) same) (ap (λ k. other_file k.file) too ∙ ap (λ k. other_file k.file) same)
    (ap (λ k. k.calls) too ∙ ap (λ k. two_unless (nat_le k.other_length 1) k.calls) same)
    (c.in_ok-shut_other.ensures.done told) (c.in_ok-trim_other.ensures.done told) (c.in_err-write_frame.ensures.failed told))

pub returns-in_err-write_frame-clause-stopped_at : goal.returns-in_err-write_frame-clause-stopped_at
returns-in_err-write_frame-clause-stopped_at g c =
    let j = c.args.journal.now in
    let same = c.in_ok-shut_other.ensures.journal in
    let too = c.in_ok-trim_other.ensures.journal in
    let counted = ap (λ k. k.calls) too ∙ ap (λ k. two_unless (nat_le k.other_length 1) k.calls) same in
    let mine : IsStopOf 4 c.trim_other.new.journal.calls c.write_frame.new.journal.stopped = stop_in_turn 4 c.trim_other.new.journal.calls c.write_frame.new.journal.stopped c.in_err-write_frame.ensures.stopped_at in
    on_err c.from_residual-in_err-write_frame.result _
    (later_stop j.other_blank ((if nat_le j.other_length 1 then 0 else 2) + 4) (laying_calls j.other_blank j.other_length) j.calls (two_unless j.other_blank j.calls) c.write_frame.new.journal.stopped refl (omega arith)
    (later_stop (nat_le j.other_length 1) 4 ((if nat_le j.other_length 1 then 0 else 2) + 4) (two_unless j.other_blank j.calls) c.trim_other.new.journal.calls c.write_frame.new.journal.stopped counted (omega arith) mine))
