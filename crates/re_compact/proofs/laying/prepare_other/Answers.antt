use Rattle.std.proofs.Common.{◌≡◌, ◌∷◌, refl, rules, sym, subst}
use Rattle.re_outside.specs.Moment.{IsSettled}
use Rattle.re_journal.specs.Journals.{other_file, frame_of}
use Rattle.re_journal.proofs.Stopping.{stops_in_turn}
use Rattle.re_compact.specs.Laying.{prepare_steps}
use Rattle.re_compact.proofs.Standing.{still, lay_done, lay_stopped, lay_settled, stands_prepared}
use Rattle.re_compact.proofs.laying.prepare_other.Goals as goal

pub returns-in-Some-clause-each_moment : goal.returns-in-Some-clause-each_moment
returns-in-Some-clause-each_moment g c = λ held told stands. still held (λ frame. frame ≡ held) (g.D.Disk.past c.args.disk.now) stands.rests refl

pub returns-in_err-make_prepare_calls-clause-failed : goal.returns-in_err-make_prepare_calls-clause-failed
returns-in_err-make_prepare_calls-clause-failed g c = λ told is.
    let old = g.D.Disk.past c.args.disk.now in
    let j = c.args.journal.now in
    stops_in_turn (prepare_steps old.device (other_file j.file) j.other_blank j.other_length c.args.framed.now) j.calls c.make_prepare_calls.new.journal.stopped old (g.D.Disk.past c.make_prepare_calls.new.disk) (c.in_err-make_prepare_calls.ensures.failed told)

pub returns-in_err-make_prepare_calls-clause-each_moment : goal.returns-in_err-make_prepare_calls-clause-each_moment
returns-in_err-make_prepare_calls-clause-each_moment g c = λ held told stands.
    let old = g.D.Disk.past c.args.disk.now in
    let new = g.D.Disk.past c.make_prepare_calls.new.disk in
    let j = c.args.journal.now in
    let stopped = c.make_prepare_calls.new.journal.stopped in
    lay_stopped j held old stands c.args.framed.now j.calls stopped new
    (stops_in_turn (prepare_steps old.device (other_file j.file) j.other_blank j.other_length c.args.framed.now) j.calls stopped old new (c.in_err-make_prepare_calls.ensures.failed told))

pub returns-clause-each_moment : goal.returns-clause-each_moment
returns-clause-each_moment g c = λ held told stands.
    lay_done c.args.journal.now held (g.D.Disk.past c.args.disk.now) stands c.args.framed.now (g.D.Disk.past c.make_prepare_calls.new.disk) (c.in_ok-make_prepare_calls.ensures.done told)

pub returns-clause-stands : goal.returns-clause-stands
returns-clause-stands g c = λ held told stands.
    stands_prepared c.args.journal.now (g.D.Disk.past c.args.disk.now) c.args.framed.now (g.D.Disk.past c.make_prepare_calls.new.disk) _ (search rules) held stands (c.in_ok-make_prepare_calls.ensures.done told)

pub returns-clause-prepared : goal.returns-clause-prepared
returns-clause-prepared g c = λ held snapshot told stands whole.
    let new = g.D.Disk.past c.make_prepare_calls.new.disk in
    let laid = lay_settled c.args.journal.now held (g.D.Disk.past c.args.disk.now) stands c.args.framed.now new (c.in_ok-make_prepare_calls.ensures.done told) in
    subst (λ f. IsSettled (other_file f) (0 ∷ frame_of snapshot) new) (sym c.make_prepare_calls.ensures.file) (subst (λ l. IsSettled (other_file c.args.journal.now.file) (0 ∷ l) new) whole laid)
