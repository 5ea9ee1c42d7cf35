-- The start, laid into file 0.
use Rattle.std.proofs.Common.{ℕ, List, [], ap, subst, sym, ◌∙◌, arith}
use Rattle.re_outside.specs.Frame.{Store}
use Rattle.re_outside.specs.Trace.{with_steps}
use Rattle.re_journal.specs.Journals.{other_file}
use Rattle.re_terms.specs.WordKinds.{IsStateOf}
use Rattle.re_terms.proofs.StatesKept.{start_is}
use Rattle.re_restore.specs.Opening.{StopsIn, lay_steps, start_snapshot}
use Rattle.re_restore.proofs.Laid.{stands_anew, start_is_snapshot}
use Rattle.re_restore.proofs.StillOpening.{not_laid}
use Rattle.re_restore.proofs.opening.open_blank.Goals as goal

pub returns-clause-restored : goal.returns-clause-restored
returns-clause-restored g c = record {
  state = subst (IsStateOf c.args.p.now) (sym c.in-Ok.ensures.state) (start_is c.args.p.now c.requires.program);
  number = omega arith;
  generation = (omega arith, omega arith);
}

pub returns-clause-stands : goal.returns-clause-stands
returns-clause-stands g c tells stands =
    let snapshot = start_snapshot c.args.p.now c.args.device in
    stands_anew c.lay.new.journal c.count_anew.new.self (Store (other_file c.args.journal.file) snapshot []) (g.D.Disk.past c.lay.new.disk) c.count_anew.ensures
    (c.in-Ok-lay.ensures.stands snapshot tells stands (c.as_slice.ensures ∙ c.in-Ok.ensures.framed) (start_is_snapshot c.args.p.now c.args.device c.requires.program c.requires.text))

pub returns-in_default-clause-each_moment : goal.returns-in_default-clause-each_moment
returns-in_default-clause-each_moment g c tells stands = not_laid c.args.journal (g.D.Disk.past c.args.disk.now) (other_file c.args.journal.file) (start_snapshot c.args.p.now c.args.device) stands

pub returns-in-Err-clause-each_moment : goal.returns-in-Err-clause-each_moment
returns-in-Err-clause-each_moment g c tells stands =
    c.lay.ensures.each_moment (start_snapshot c.args.p.now c.args.device) tells stands (c.as_slice.ensures ∙ c.in-Ok.ensures.framed) (start_is_snapshot c.args.p.now c.args.device c.requires.program c.requires.text)

pub returns-clause-each_moment : goal.returns-clause-each_moment
returns-clause-each_moment g c tells stands =
    c.lay.ensures.each_moment (start_snapshot c.args.p.now c.args.device) tells stands (c.as_slice.ensures ∙ c.in-Ok.ensures.framed) (start_is_snapshot c.args.p.now c.args.device c.requires.program c.requires.text)

pub returns-in-Err-clause-steps : goal.returns-in-Err-clause-steps
returns-in-Err-clause-steps g c tells =
    let j = c.args.journal in
    let old = g.D.Disk.past c.args.disk.now in
    subst (λ (l : List ℕ). StopsIn (lay_steps old.device (other_file j.file) j.other_blank j.other_length l) old (g.D.Disk.past c.lay.new.disk)) (c.as_slice.ensures ∙ c.in-Ok.ensures.framed) (c.in-Err.ensures.failed tells)

pub returns-clause-steps : goal.returns-clause-steps
returns-clause-steps g c tells =
    let j = c.args.journal in
    let old = g.D.Disk.past c.args.disk.now in
    c.in-Ok-lay.ensures.done tells ∙ ap (λ (l : List ℕ). with_steps old (lay_steps old.device (other_file j.file) j.other_blank j.other_length l)) (c.as_slice.ensures ∙ c.in-Ok.ensures.framed)
