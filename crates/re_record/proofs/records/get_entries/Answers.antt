use Rattle.std.proofs.Common.{◌≡◌, Result, sym, subst, arith}
use Rattle.std.specs.Prelude.{IfOk}
use Rattle.std.proofs.lemmas.Result.{IfOk-weaker}
use Rattle.re_record.specs.Reading.{record_at}
use Rattle.re_record.specs.Spellings.{record_bytes}
use Rattle.re_record.proofs.RecordLaws.{RecordStands, record_stands, record_there}
use Rattle.re_record.proofs.records.get_entries.Goals as goal
use Rattle.re_terms.proofs.ProgramShapes.{program_shape}
use Rattle.re_terms.specs.Shapes.{IsShape}
use Rattle.re_terms.specs.declared.replicated.Shape.{Shape}
use Rattle.re_wire.specs.Reading.{Gives}

pub record-requires-clause-shape : goal.record-requires-clause-shape
record-requires-clause-shape c = subst IsShape (sym c.requires.shape) (program_shape c.args.p.now c.requires.program)

pub returns-clause-allowed : goal.returns-clause-allowed
returns-clause-allowed c =
    let given = subst (λ (shape : Shape). Gives c.record.result (record_at c.args.p.now shape c.args.bytes.now)) c.requires.shape c.record.ensures in
    IfOk-weaker c.record.result _ _ (λ x h. h.fits) (record_stands c.args.p.now c.args.bytes.now c.record.result c.requires.program (λ i. omega (arith, c.type_inv.bytes i)) given)

pub returns-clause-found : goal.returns-clause-found
returns-clause-found c =
    let given = subst (λ (shape : Shape). Gives c.record.result (record_at c.args.p.now shape c.args.bytes.now)) c.requires.shape c.record.ensures in
    IfOk-weaker c.record.result _ _ (λ x h. subst (λ (shape : Shape). c.args.bytes.now ≡ record_bytes shape.devices x.items) (sym c.requires.shape) h.text) (record_stands c.args.p.now c.args.bytes.now c.record.result c.requires.program (λ i. omega (arith, c.type_inv.bytes i)) given)

pub returns-clause-plain : goal.returns-clause-plain
returns-clause-plain c =
    let given = subst (λ (shape : Shape). Gives c.record.result (record_at c.args.p.now shape c.args.bytes.now)) c.requires.shape c.record.ensures in
    IfOk-weaker c.record.result _ _ (λ x h. h.plain_is) (record_stands c.args.p.now c.args.bytes.now c.record.result c.requires.program (λ i. omega (arith, c.type_inv.bytes i)) given)

pub returns-clause-only : goal.returns-clause-only
returns-clause-only c = λ entries is e.
    let given = subst (λ (shape : Shape). Gives c.record.result (record_at c.args.p.now shape c.args.bytes.now)) c.requires.shape c.record.ensures in
    subst (λ read. Gives c.record.result read) (record_there c.args.p.now c.args.bytes.now entries c.requires.program is (subst (λ (shape : Shape). c.args.bytes.now ≡ record_bytes shape.devices entries) c.requires.shape e)) given
