use Rattle.std.proofs.Common.{◌≡◌, ◌∷◌, ◌+◌, Err, true, sym, subst, inl, inr, refl, rules, arith}
use Rattle.re_journal.specs.Readings.{coming, KnowsSize, RefusesBehind, IsBetween}
use Rattle.re_outside.specs.Frame.{IsRefusedBody}
use Rattle.re_journal.specs.declared.fault.ScanFault.TheVariants.{Bad}
use Rattle.re_journal.proofs.scans.record.Goals as goal

pub returns-in_err-framed_body-clause-bad : goal.returns-in_err-framed_body-clause-bad
returns-in_err-framed_body-clause-bad g c = λ place told knows bad.
    let past = g.D.Disk.past c.args.disk.now in
    let mid = c.byte.new.self in
    let same : c.framed_body.result ≡ Err (Bad place) = search rules in
    let still : g.D.Disk.past c.byte.new.disk ≡ past = c.in_ok-gate.ensures.steps told in
    let known : KnowsSize mid (g.D.Disk.past c.byte.new.disk) = search rules in
    let there : RefusesBehind (IsRefusedBody (IsBetween 1 65536) (coming mid past)) mid place =
    subst (λ p. RefusesBehind (IsRefusedBody (IsBetween 1 65536) (coming mid p)) mid place) still (c.framed_body.ensures.bad place told known same) in
    let step : mid.place ≡ c.args.reader.now.place + 1 = search rules in
    let first : coming c.args.reader.now past ≡ 1 ∷ coming mid past = search rules in
    (1 + there.0, omega (arith, there.1, step), inr (inr (coming mid past, there.0, first, search rules, there.2, refl)))
