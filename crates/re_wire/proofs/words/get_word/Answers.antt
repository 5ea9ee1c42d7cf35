use Rattle.std.proofs.Common.{subst, arith}
use Rattle.std.proofs.lemmas.Result.{IfOk-weaker}
use Rattle.re_wire.specs.Reading.{Reads}
use Rattle.re_wire.proofs.Found.{word_stands, word_there}
use Rattle.re_wire.proofs.words.get_word.Goals as goal

pub returns-clause-allowed : goal.returns-clause-allowed
returns-clause-allowed c = IfOk-weaker c.read_word.result _ _ (λ x h. h.0) (word_stands c.args.kind c.args.fold c.args.symbols c.args.bytes.now c.args.at c.read_word.result (λ i. omega (arith, c.type_inv.bytes i)) c.requires.at c.read_word.ensures)

pub returns-clause-within : goal.returns-clause-within
returns-clause-within c = IfOk-weaker c.read_word.result _ _ (λ x h. h.1) (word_stands c.args.kind c.args.fold c.args.symbols c.args.bytes.now c.args.at c.read_word.result (λ i. omega (arith, c.type_inv.bytes i)) c.requires.at c.read_word.ensures)

pub returns-clause-found : goal.returns-clause-found
returns-clause-found c = IfOk-weaker c.read_word.result _ _ (λ x h. h.2) (word_stands c.args.kind c.args.fold c.args.symbols c.args.bytes.now c.args.at c.read_word.result (λ i. omega (arith, c.type_inv.bytes i)) c.requires.at c.read_word.ensures)

pub returns-clause-only : goal.returns-clause-only
returns-clause-only c = λ w rest allowed e.
    subst (λ read. Reads c.read_word.result read) (word_there c.args.kind c.args.fold c.args.symbols c.args.bytes.now c.args.at w rest (omega (arith, c.ranges.symbols)) c.requires.at allowed e) c.read_word.ensures
