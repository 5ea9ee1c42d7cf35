use Rattle.std.proofs.Common.{◌≡◌, ◌++◌, ◌∷◌, [], Ok, None, sym, ap, ◌∙◌, length, length-append, arith}
use Rattle.std.proofs.lemmas.Result.{err_from_is_err_and}
use Rattle.re_terms.specs.Listed.{plain}
use Rattle.re_wire.specs.Reading.{listed, ascending_at}
use Rattle.re_wire.proofs.Several.{fails_then}
use Rattle.re_wire.proofs.Ascending.{goes_on, ends, is_done}
use Rattle.re_wire.proofs.pairs.get_ascending.Goals as goal

pub returns-in_err-pair-clause-exact : goal.returns-in_err-pair-clause-exact
returns-in_err-pair-clause-exact c =
    let p = err_from_is_err_and c.from_residual.result c.from_residual.ensures.1 in
    let inv = c.loop.invariant in
    let total = ascending_at c.args.shape.now c.args.kind c.args.vector.now.counts c.args.count None c.args.bytes.now c.args.at in
    rw (p.1, p.2) (fails_then c.in_err-pair.field-0.0 total (λ x. Ok (plain x.0, x.1)) (ends c.args.shape.now c.args.kind c.args.vector.now.counts c.args.bytes.now c.in_err-pair.field-0.0 c.loop.pairs.items c.args.count c.loop.counter c.loop.before c.loop.behind total (omega (arith, c.loop-test.true)) c.in_err-pair.ensures inv.so_far))

pub loop-preserved : goal.loop-preserved
loop-preserved c =
    let pushed = c.in_ok-push.ensures.ok in
    let items : c.push.new.self.items ≡ c.loop.pairs.items ++ c.in_ok-pair.pair ∷ [] = ap (λ m. m.items) pushed in
    record {
      so_far = rw items (goes_on _ _ _ _ c.loop.pairs.items c.args.count c.loop.counter c.loop.before c.loop.behind c.in_ok-pair.pair c.in_ok-pair.next _ (omega (arith, c.loop-test.true)) c.in_ok-pair.ensures c.loop.invariant.so_far);
      spare = omega (arith, ap (λ m. m.spare) pushed, c.loop.invariant.spare);
      len = omega (arith, ap length items, length-append c.loop.pairs.items (c.in_ok-pair.pair ∷ []), c.loop.invariant.len);
    }

pub returns-clause-exact : goal.returns-clause-exact
returns-clause-exact c =
    let read = is_done _ _ _ _ c.loop.pairs.items c.args.count c.loop.counter c.loop.before c.loop.behind _ c.loop-test.false c.loop.invariant.so_far in
    let spare : 0 ≡ c.loop.pairs.spare = sym c.loop.invariant.spare in
    ap (λ r. listed r) read ∙ (λ i. Ok (record { items = c.loop.pairs.items; spare = spare i }, c.loop.behind))
