use Rattle.std.proofs.Common.{◌≡◌, ◌++◌, ◌∷◌, ⊎_elim, inl, inr, arith, rules, ap, sym, subst, ◌∙◌}
use Rattle.re_outside.specs.Frame.{framed, IsGeneration, generation as generation_of}
use Rattle.re_journal.specs.Readings.{coming}
use Rattle.re_journal.specs.Scans.{IsRefusedAt}
use Rattle.re_journal.proofs.Heads.{head_reads, head_refused, place_of_bad}
use Rattle.re_journal.proofs.scans.head.Goals as goal

pub returns-clause-found : goal.returns-clause-found
returns-clause-found g c = λ told knows.
    let past = g.D.Disk.past c.args.disk.now in
    let snapshot = c.in_ok-snapshot.snapshot.items in
    let is : coming c.args.reader.now past ≡ 1 ∷ (framed snapshot ++ coming c.framed_body.new.reader past) = search rules in
    let number : c.generation-number.result ≡ generation_of snapshot = c.generation-number.ensures ∙ ap generation_of c.as_slice.ensures in
    head_reads (coming c.args.reader.now past) snapshot (coming c.framed_body.new.reader past) is c.in_ok-snapshot.ensures.fits (subst IsGeneration number (c.if-number-lt1.false, c.if-number-gt-LAST_GENERATION.false))

pub returns-then-number-lt1-clause-bad : goal.returns-then-number-lt1-clause-bad
returns-then-number-lt1-clause-bad g c = λ place told knows full start bad.
    let past = g.D.Disk.past c.args.disk.now in
    let snapshot = c.in_ok-snapshot.snapshot.items in
    let is : coming c.args.reader.now past ≡ 1 ∷ (framed snapshot ++ coming c.framed_body.new.reader past) = search rules in
    let number : c.generation-number.result ≡ generation_of snapshot = c.generation-number.ensures ∙ ap generation_of c.as_slice.ensures in
    subst (IsRefusedAt (coming c.args.reader.now past)) (place_of_bad bad)
    (head_refused (coming c.args.reader.now past) snapshot (coming c.framed_body.new.reader past) full is c.in_ok-snapshot.ensures.fits (λ allowed.
    let low = allowed.0 in
    let high = allowed.1 in
    elim c.then-number-lt1.either [
      | inl less ↦ omega (arith, number)
      | inr more ↦ let over = more.1 in omega (arith, number)
    ]))
