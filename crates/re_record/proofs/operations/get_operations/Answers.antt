use Rattle.std.proofs.Common.{◌≡◌, ◌++◌, ◌∷◌, [], Ok, sym, ap, ◌∙◌, arith}
use Rattle.std.proofs.lemmas.Result.{err_from_is_err_and}
use Rattle.re_record.specs.Reading.{operation_at}
use Rattle.re_record.proofs.operations.get_operations.Goals as goal
use Rattle.re_terms.specs.Listed.{plain}
use Rattle.re_wire.specs.Reading.{listed, several_at}
use Rattle.re_wire.proofs.Several.{ends, fails_from_refuses, fails_then, goes_on, is_done}

pub returns-in_err-op-clause-exact : goal.returns-in_err-op-clause-exact
returns-in_err-op-clause-exact c =
    let p = err_from_is_err_and c.from_residual.result c.from_residual.ensures.1 in
    let read = operation_at c.args.shape.now c.args.bytes.now in
    let total = several_at read c.args.count c.args.at in
    rw (p.1, p.2) (fails_then c.in_err-op.field-0.0 total (λ x. Ok (plain x.0, x.1)) (fails_from_refuses c.in_err-op.field-0.0 total (ends read c.in_err-op.field-0.0 c.loop.ops.items c.args.count c.loop.counter c.loop.behind total (omega (arith, c.loop-test.true)) c.in_err-op.ensures.exact c.loop.invariant.so_far)))

pub loop-preserved : goal.loop-preserved
loop-preserved c =
    let pushed = c.in_ok-push.ensures.ok in
    let items : c.push.new.self.items ≡ c.loop.ops.items ++ c.in_ok-op.op ∷ [] = ap (λ m. m.items) pushed in
    record {
      so_far = rw items (goes_on (operation_at c.args.shape.now c.args.bytes.now) c.loop.ops.items c.args.count c.loop.counter c.loop.behind c.in_ok-op.op c.in_ok-op.next _ (omega (arith, c.loop-test.true)) c.in_ok-op.ensures.exact c.loop.invariant.so_far);
      spare = omega (arith, ap (λ m. m.spare) pushed, c.loop.invariant.spare);
      within = omega (arith, c.in_ok-op.ensures.within);
    }

pub returns-clause-exact : goal.returns-clause-exact
returns-clause-exact c =
    let read = is_done (operation_at c.args.shape.now c.args.bytes.now) c.loop.ops.items c.args.count c.loop.counter c.loop.behind _ c.loop-test.false c.loop.invariant.so_far in
    let spare : 0 ≡ c.loop.ops.spare = sym c.loop.invariant.spare in
    ap (λ r. listed r) read ∙ (λ i. Ok (record { items = c.loop.ops.items; spare = spare i }, c.loop.behind))
