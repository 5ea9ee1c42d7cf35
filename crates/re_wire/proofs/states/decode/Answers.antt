use Rattle.std.proofs.Common.{◌∙◌, ap, subst, arith}
use Rattle.std.proofs.lemmas.Result.{IfOk-weaker}
use Rattle.re_wire.specs.Reading.{Gives, packet_at}
use Rattle.re_wire.proofs.Found.{packet_stands}
use Rattle.re_wire.proofs.Laws.{packet_again}
use Rattle.re_wire.proofs.states.decode.Goals as goal

pub returns-clause-fits : goal.returns-clause-fits
returns-clause-fits c = IfOk-weaker c.packet.result _ _ (λ s h. h.0) (packet_stands c.args.shape.now c.args.bytes.now c.packet.result c.requires.shape (λ i. omega (arith, c.type_inv.bytes i)) c.packet.ensures)

pub returns-clause-found : goal.returns-clause-found
returns-clause-found c = IfOk-weaker c.packet.result _ _ (λ s h. h.1) (packet_stands c.args.shape.now c.args.bytes.now c.packet.result c.requires.shape (λ i. omega (arith, c.type_inv.bytes i)) c.packet.ensures)

pub returns-clause-only : goal.returns-clause-only
returns-clause-only c = λ s fits e.
    subst (λ read. Gives c.packet.result read) (ap (packet_at c.args.shape.now) e ∙ packet_again c.args.shape.now s c.requires.shape fits) c.packet.ensures
