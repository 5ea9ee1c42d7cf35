use Rattle.std.proofs.Common.{◌≡◌, ◌++◌, ◌∷◌, [], Ok, sym, ap, ◌∙◌, arith}
use Rattle.std.proofs.lemmas.Result.{err_from_is_err_and}
use Rattle.re_record.specs.Reading.{logged_at}
use Rattle.re_record.proofs.SeveralMore.{fails_at}
use Rattle.re_record.proofs.records.get_several.Goals as goal
use Rattle.re_terms.specs.Listed.{plain}
use Rattle.re_wire.specs.Reading.{listed, several_at}
use Rattle.re_wire.proofs.Several.{fails_then, goes_on, is_done}

pub returns-in_err-logged-clause-exact : goal.returns-in_err-logged-clause-exact
returns-in_err-logged-clause-exact c =
    let p = err_from_is_err_and c.from_residual.result c.from_residual.ensures.1 in
    let read = logged_at c.args.decls.now c.args.shape.now c.args.bytes.now in
    let total = several_at read c.args.count c.args.at in
    rw (p.1, p.2) (fails_then c.in_err-logged.field-0.0 total (λ x. Ok (plain x.0, x.1)) (fails_at read c.in_err-logged.field-0.0 c.loop.entries.items c.args.count c.loop.counter c.loop.behind total (omega (arith, c.loop-test.true)) c.in_err-logged.ensures.exact c.loop.invariant.so_far))

pub loop-preserved : goal.loop-preserved
loop-preserved c =
    let pushed = c.in_ok-push.ensures.ok in
    let items : c.push.new.self.items ≡ c.loop.entries.items ++ c.in_ok-logged.logged ∷ [] = ap (λ m. m.items) pushed in
    record {
      so_far = rw items (goes_on (logged_at c.args.decls.now c.args.shape.now c.args.bytes.now) c.loop.entries.items c.args.count c.loop.counter c.loop.behind c.in_ok-logged.logged c.in_ok-logged.next _ (omega (arith, c.loop-test.true)) c.in_ok-logged.ensures.exact c.loop.invariant.so_far);
      spare = omega (arith, ap (λ m. m.spare) pushed, c.loop.invariant.spare);
      within = omega (arith, c.in_ok-logged.ensures.within);
    }

pub returns-clause-exact : goal.returns-clause-exact
returns-clause-exact c =
    let read = is_done (logged_at c.args.decls.now c.args.shape.now c.args.bytes.now) c.loop.entries.items c.args.count c.loop.counter c.loop.behind _ c.loop-test.false c.loop.invariant.so_far in
    let spare : 0 ≡ c.loop.entries.spare = sym c.loop.invariant.spare in
    ap (λ r. listed r) read ∙ (λ i. Ok (record { items = c.loop.entries.items; spare = spare i }, c.loop.behind))
