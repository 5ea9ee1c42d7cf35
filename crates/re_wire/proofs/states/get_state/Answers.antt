use Rattle.std.proofs.Common.{subst, arith}
use Rattle.std.proofs.lemmas.Result.{IfOk-weaker}
use Rattle.re_wire.specs.Reading.{Gives}
use Rattle.re_wire.proofs.Found.{state_stands, state_there}
use Rattle.re_wire.proofs.states.get_state.Goals as goal

pub returns-clause-fits : goal.returns-clause-fits
returns-clause-fits c = IfOk-weaker c.state.result _ _ (λ x h. h.0) (state_stands c.args.shape.now c.args.bytes.now c.args.at c.state.result c.requires.shape (λ i. omega (arith, c.type_inv.bytes i)) c.requires.at c.state.ensures)

pub returns-clause-within : goal.returns-clause-within
returns-clause-within c = IfOk-weaker c.state.result _ _ (λ x h. h.1) (state_stands c.args.shape.now c.args.bytes.now c.args.at c.state.result c.requires.shape (λ i. omega (arith, c.type_inv.bytes i)) c.requires.at c.state.ensures)

pub returns-clause-found : goal.returns-clause-found
returns-clause-found c = IfOk-weaker c.state.result _ _ (λ x h. h.2) (state_stands c.args.shape.now c.args.bytes.now c.args.at c.state.result c.requires.shape (λ i. omega (arith, c.type_inv.bytes i)) c.requires.at c.state.ensures)

pub returns-clause-only : goal.returns-clause-only
returns-clause-only c = λ s rest fits e.
    subst (λ read. Gives c.state.result read) (state_there c.args.shape.now c.args.bytes.now c.args.at s rest c.requires.shape c.requires.at fits e) c.state.ensures
