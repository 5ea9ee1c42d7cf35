use Rattle.std.proofs.Common.{◌≡◌, inl, subst}
use Rattle.re_outside.specs.Frame.{HasBadHead}
use Rattle.re_outside.specs.Trace.{content_of}
use Rattle.re_compact.specs.Choices.{IsChoice}
use Rattle.re_compact.proofs.finding.open_measured.Goals as goal

pub returns-in-Bad-clause-bad : goal.returns-in-Bad-clause-bad
returns-in-Bad-clause-bad g c = λ file at told settled measured is.
    let now = g.D.Disk.past c.args.disk.now in
    let bad : HasBadHead (content_of now 0) (content_of now 1) c.in-Bad.file c.in-Bad.at = subst (λ x. IsChoice x (content_of now 0) (content_of now 1)) c.in-Bad.is measured.chosen in
    let same_file : c.in-Bad.file ≡ file = cc in
    let same_place : c.in-Bad.at ≡ at = cc in
    inl (subst (λ f. HasBadHead (content_of now 0) (content_of now 1) f at) same_file (subst (λ p. HasBadHead (content_of now 0) (content_of now 1) c.in-Bad.file p) same_place bad))

pub returns-in-First-clause-bad : goal.returns-in-First-clause-bad
returns-in-First-clause-bad g c = λ file at told settled measured is.
    let now = g.D.Disk.past c.args.disk.now in
    c.read_store.ensures.bad file at told (record { settled = settled; size = measured.second_length; counting = subst (λ x. IsChoice x (content_of now 0) (content_of now 1)) c.in-First.is measured.chosen }) is

pub returns-in-Second-clause-bad : goal.returns-in-Second-clause-bad
returns-in-Second-clause-bad g c = λ file at told settled measured is.
    let now = g.D.Disk.past c.args.disk.now in
    c.read_store-in-Second.ensures.bad file at told (record { settled = settled; size = measured.first_length; counting = subst (λ x. IsChoice x (content_of now 0) (content_of now 1)) c.in-Second.is measured.chosen }) is
