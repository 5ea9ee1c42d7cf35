use Rattle.std.proofs.Common.{◌+◌, max, ◌∙◌, arith}
use Rattle.re_terms.specs.Spellings.{state_bytes, packet_bytes}
use Rattle.re_wire.proofs.Appending.{only_written}
use Rattle.re_wire.proofs.states.encode.Goals as goal

pub returns : goal.returns
unfolding packet_bytes
returns c =
    let n = 1 + c.state_len.result in
    let reserved = c.in_ok-reserve.ensures.ok ∙ (λ i. record { items = (c.new-out.ensures i).items; spare = max (c.new-out.ensures i).spare n }) in
    only_written (state_bytes c.args.shape.now.devices c.args.s.now) n c.reserve.new.self c.append.new.out c.append_state.new.out reserved (omega (arith, c.state_len.ensures.len)) c.append.ensures c.append_state.ensures
