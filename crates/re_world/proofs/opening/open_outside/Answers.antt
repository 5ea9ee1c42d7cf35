-- What is opened over a port is opened over the outside behind it.
use Rattle.std.proofs.Common.{◌≡◌, ◌∙◌, ℕ, List, sym, ap, subst, rules}
use Rattle.std.specs.Prelude.{IfOk}
use Rattle.re_device.specs.Device.{DeviceState}
use Rattle.re_device.specs.Standing.{StandsSettled}
use Rattle.re_outside.specs.Moment.{Throughout}
use Rattle.re_outside.specs.Outside.{Faults, Seen}
use Rattle.re_outside.specs.Port.{Rest, disk_faults, other_faults, past_in}
use Rattle.re_outside.specs.Trace.{Past, content_of}
use Rattle.re_record.specs.Stores as stores
use Rattle.re_record.specs.Stores.{HasStore, OpensTo}
use Rattle.re_restore.specs.Opening.{HasRestoreCause, StillOpens}
use Rattle.re_world.proofs.Opened.{left_kept, on_outside, on_port}
use Rattle.re_world.specs.Opening.{HasOpeningSteps}
use Rattle.re_world.proofs.opening.open_outside.Goals as goal

pub returns-clause-settled : goal.returns-clause-settled
returns-clause-settled g c = λ tells.
    subst (λ (u : Past). IfOk c.open_device.result (λ (d : DeviceState). OpensTo c.args.p.now c.args.number (content_of u 0) (content_of u 1) d.memory.settled))
    (λ i. past_in (c.new-port.ensures.device i) (g.O.Outside.seen (c.new-port.ensures.out i))) (c.open_device.ensures.settled tells)

pub returns-clause-stands : goal.returns-clause-stands
returns-clause-stands g c = λ tells.
    let same_name : c.open_device.new.disk.out.ghost_name ≡ c.new-port.result.out.ghost_name = ap (λ (r : Rest). r.name) c.open_device.ensures.rest in
    on_port g.O.Outside.seen c.args.number c.new-port.result.device c.open_device.new.disk.device c.args.out.now c.new-port.result.out.now c.open_device.new.disk.out.now _
    (λ u v. IfOk c.open_device.result (λ (d : DeviceState). StandsSettled d v)) c.new-port.ensures.device c.new-port.ensures.out c.open_device.ensures.device (search rules) (c.open_device.ensures.stands tells)

pub returns-clause-each_moment : goal.returns-clause-each_moment
returns-clause-each_moment g c = λ tells.
    let same_name : c.open_device.new.disk.out.ghost_name ≡ c.new-port.result.out.ghost_name = ap (λ (r : Rest). r.name) c.open_device.ensures.rest in
    on_port g.O.Outside.seen c.args.number c.new-port.result.device c.open_device.new.disk.device c.args.out.now c.new-port.result.out.now c.open_device.new.disk.out.now _
    (λ u v. Throughout u v (StillOpens c.args.p.now c.args.number u)) c.new-port.ensures.device c.new-port.ensures.out c.open_device.ensures.device (search rules) (c.open_device.ensures.each_moment tells)

pub returns-clause-reads : goal.returns-clause-reads
returns-clause-reads g c o tells =
    let same_name : c.open_device.new.disk.out.ghost_name ≡ c.new-port.result.out.ghost_name = ap (λ (r : Rest). r.name) c.open_device.ensures.rest in
    on_port g.O.Outside.seen c.args.number c.new-port.result.device c.open_device.new.disk.device c.args.out.now c.new-port.result.out.now c.open_device.new.disk.out.now _
    (λ u v. OpensTo c.args.p.now c.args.number (content_of u 0) (content_of u 1) o → OpensTo c.args.p.now c.args.number (content_of v 0) (content_of v 1) o) c.new-port.ensures.device c.new-port.ensures.out c.open_device.ensures.device (search rules) (c.open_device.ensures.reads o tells)

pub returns-clause-bad : goal.returns-clause-bad
returns-clause-bad g c file at tells refused =
    subst (λ (u : Past). HasStore c.args.p.now c.args.number (content_of u 0) (content_of u 1) (stores.Bad file at))
    (λ i. past_in (c.new-port.ensures.device i) (g.O.Outside.seen (c.new-port.ensures.out i))) (c.open_device.ensures.bad file at tells refused)

pub returns-clause-other : goal.returns-clause-other
returns-clause-other g c tells refused =
    subst (λ (u : Past). HasStore c.args.p.now c.args.number (content_of u 0) (content_of u 1) stores.OtherProgram)
    (λ i. past_in (c.new-port.ensures.device i) (g.O.Outside.seen (c.new-port.ensures.out i))) (c.open_device.ensures.other tells refused)

pub returns-clause-decided : goal.returns-clause-decided
returns-clause-decided g c stored tells has =
    c.open_device.ensures.decided stored tells (subst (λ (u : Past). HasStore c.args.p.now c.args.number (content_of u 0) (content_of u 1) stored)
    (λ i. past_in (sym c.new-port.ensures.device i) (g.O.Outside.seen (sym c.new-port.ensures.out i))) has)

pub returns-clause-steps : goal.returns-clause-steps
returns-clause-steps g c tells =
    let same_name : c.open_device.new.disk.out.ghost_name ≡ c.new-port.result.out.ghost_name = ap (λ (r : Rest). r.name) c.open_device.ensures.rest in
    on_port g.O.Outside.seen c.args.number c.new-port.result.device c.open_device.new.disk.device c.args.out.now c.new-port.result.out.now c.open_device.new.disk.out.now _
    (λ u v. HasOpeningSteps c.args.p.now c.args.number u v c.open_device.result) c.new-port.ensures.device c.new-port.ensures.out c.open_device.ensures.device (search rules) (c.open_device.ensures.steps tells)

pub returns-clause-cause : goal.returns-clause-cause
returns-clause-cause g c =
    let same_name : c.open_device.new.disk.out.ghost_name ≡ c.new-port.result.out.ghost_name = ap (λ (r : Rest). r.name) c.open_device.ensures.rest in
    on_outside g.O.Outside.seen disk_faults c.args.number c.new-port.result.device c.open_device.new.disk.device c.args.out.now c.new-port.result.out.now c.open_device.new.disk.out.now _
    (λ (u v : ℕ). HasRestoreCause u v c.open_device.result) c.new-port.ensures.device c.new-port.ensures.out c.open_device.ensures.device (search rules) c.open_device.ensures.cause

pub returns-clause-others : goal.returns-clause-others
returns-clause-others g c =
    let same_name : c.open_device.new.disk.out.ghost_name ≡ c.new-port.result.out.ghost_name = ap (λ (r : Rest). r.name) c.open_device.ensures.rest in
    on_outside g.O.Outside.seen other_faults c.args.number c.new-port.result.device c.open_device.new.disk.device c.args.out.now c.new-port.result.out.now c.open_device.new.disk.out.now _
    (λ (u v : Faults). v ≡ u) c.new-port.ensures.device c.new-port.ensures.out c.open_device.ensures.device (search rules) (ap (λ (r : Rest). r.faults) c.open_device.ensures.rest)

pub returns-clause-left : goal.returns-clause-left
returns-clause-left g c tells =
    let same_name : c.open_device.new.disk.out.ghost_name ≡ c.new-port.result.out.ghost_name = ap (λ (r : Rest). r.name) c.open_device.ensures.rest in
    on_outside g.O.Outside.seen (λ d (s : Seen). s.left) c.args.number c.new-port.result.device c.open_device.new.disk.device c.args.out.now c.new-port.result.out.now c.open_device.new.disk.out.now _
    (λ (u v : List ℕ). v ≡ u) c.new-port.ensures.device c.new-port.ensures.out c.open_device.ensures.device (search rules)
    (left_kept c.new-port.result.out.ghost_name c.open_device.new.disk.out.ghost_name c.new-port.result.device c.open_device.new.disk.device (g.O.Outside.seen c.new-port.result.out.now) (g.O.Outside.seen c.open_device.new.disk.out.now) c.open_device.ensures.rest
    (g.met.O.Outside.tells_always c.new-port.result.out.now ∙ tells) (g.met.O.Outside.tells_always c.open_device.new.disk.out.now ∙ tells))
