use Rattle.std.proofs.Common.{◌≡◌, ◌++◌, ◌∷◌, [], Ok, sym, ap, ◌∙◌, length, length-append, arith}
use Rattle.std.proofs.lemmas.Result.{err_from_is_err_and}
use Rattle.re_record.specs.Reading.{puts_at}
use Rattle.re_record.proofs.PutLists.{goes_on, ends, is_done}
use Rattle.re_record.proofs.puts.get_puts.Goals as goal
use Rattle.re_terms.specs.Listed.{plain}
use Rattle.re_wire.specs.Reading.{listed}
use Rattle.re_wire.proofs.Several.{fails_then}

pub returns-in_err-put-clause-exact : goal.returns-in_err-put-clause-exact
returns-in_err-put-clause-exact c =
    let p = err_from_is_err_and c.from_residual.result c.from_residual.ensures.1 in
    let total = puts_at c.args.decls.now c.args.symbols c.args.role c.args.count 0 c.args.bytes.now c.args.at in
    rw (p.1, p.2) (fails_then c.in_err-put.field-0.0 total (λ x. Ok (plain x.0, x.1)) (ends c.args.decls.now c.args.symbols c.args.role c.args.bytes.now c.in_err-put.field-0.0 c.loop.puts.items c.args.count c.loop.counter c.loop.least c.loop.behind total (omega (arith, c.loop-test.true)) c.in_err-put.ensures.exact c.loop.invariant.so_far))

pub loop-preserved : goal.loop-preserved
loop-preserved c =
    let pushed = c.in_ok-push.ensures.ok in
    let items : c.push.new.self.items ≡ c.loop.puts.items ++ c.in_ok-put.put ∷ [] = ap (λ m. m.items) pushed in
    record {
      so_far = rw (items, c.from-least.ensures) (goes_on _ _ _ _ c.loop.puts.items c.args.count c.loop.counter c.loop.least c.loop.behind c.in_ok-put.put c.in_ok-put.next _ (omega (arith, c.loop-test.true)) c.in_ok-put.ensures.exact c.loop.invariant.so_far);
      spare = omega (arith, ap (λ m. m.spare) pushed, c.loop.invariant.spare);
      len = omega (arith, ap length items, length-append c.loop.puts.items (c.in_ok-put.put ∷ []), c.loop.invariant.len);
      within = omega (arith, c.in_ok-put.ensures.within);
    }

pub returns-clause-exact : goal.returns-clause-exact
returns-clause-exact c =
    let read = is_done _ _ _ _ c.loop.puts.items c.args.count c.loop.counter c.loop.least c.loop.behind _ c.loop-test.false c.loop.invariant.so_far in
    let spare : 0 ≡ c.loop.puts.spare = sym c.loop.invariant.spare in
    ap (λ r. listed r) read ∙ (λ i. Ok (record { items = c.loop.puts.items; spare = spare i }, c.loop.behind))
