-- What the files hold is the state, and nothing is unsettled.
use Rattle.std.proofs.Common.{◌≡◌, ◌∙◌, unwrap_or, sym, ap, subst, refl}
use Rattle.re_device.proofs.Entered.{now_settled}
use Rattle.re_device.proofs.Memories.{plain_after}
use Rattle.re_device.proofs.device.Device.settle_all.Goals as goal
use Rattle.re_device.specs.Device.{DeviceState, all_settled, current}
use Rattle.re_device.specs.Keeping.{memory_of}
use Rattle.re_device.specs.declared.store.Settled.{Settled}

pub returns-clause-memory : goal.returns-clause-memory
returns-clause-memory c =
    let d = c.self.inside in
    let m = memory_of d in
    let rep : unwrap_or c.args.rep d.settled.outbox ≡ d.state.rep =
    subst (λ (v : DeviceState). unwrap_or c.args.rep v.memory.settled.state.rep ≡ (current v.memory).state.rep) (sym c.self.view_is) c.requires ∙ sym c.self.invariant.current.rep in
    now_settled d.program d.device d.entries.items (current m) d.state d.number c.settle.new.self
    (ap (λ (s : Settled). s.words.items) c.settle.ensures ∙ c.as_slice.ensures)
    (ap (λ (s : Settled). s.outbox) c.settle.ensures ∙ rep)
    (ap (λ (s : Settled). s.number) c.settle.ensures)
    (ap (λ (s : Settled). s.count) c.settle.ensures ∙ c.len.ensures)
    c.self.invariant.current (plain_after d.program d.device m.unsettled m.settled refl)
    ∙ ap (λ (v : DeviceState). all_settled v.memory) c.self.view_is
