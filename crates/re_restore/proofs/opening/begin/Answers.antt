-- The start is a state of the program, and its snapshot is short.
use Rattle.std.proofs.Common.{length, ap, subst, sym, ◌∙◌, arith}
use Rattle.re_terms.specs.Shapes.{FitsShape, shape_of}
use Rattle.re_terms.specs.WordKinds.{IsStateOf}
use Rattle.re_terms.proofs.StatesKept.{start_is}
use Rattle.re_record.specs.Spellings.{snapshot_bytes}
use Rattle.re_restore.proofs.Laid.{start_long}
use Rattle.re_restore.proofs.opening.begin.Goals as goal

pub put_snapshot-requires-clause-state : goal.put_snapshot-requires-clause-state
put_snapshot-requires-clause-state c = subst (IsStateOf c.args.p.now) (sym c.in_ok-state.ensures) (start_is c.args.p.now c.requires.program)

pub frame-requires : goal.frame-requires
frame-requires c =
    let bytes = c.as_slice.ensures ∙ ap (λ l. l.items) c.in_ok-snapshot.ensures ∙ ap (snapshot_bytes c.args.p.now c.args.device 1 0) c.in_ok-state.ensures in
    let long = start_long c.args.p.now c.args.device c.requires.program c.requires.text in
    omega (arith, ap length bytes, long)

pub fill-requires-clause-rep : goal.fill-requires-clause-rep
fill-requires-clause-rep c = subst (λ s. FitsShape (shape_of c.args.p.now) s.rep) (sym c.in_ok-state.ensures) (start_is c.args.p.now c.requires.program).rep
