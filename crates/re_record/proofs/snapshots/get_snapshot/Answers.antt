use Rattle.std.proofs.Common.{◌≡◌, Result, sym, subst, arith}
use Rattle.std.proofs.lemmas.Result.{IfOk-weaker}
use Rattle.re_record.specs.Snapshots.{GivesSnapshot, snapshot_at}
use Rattle.re_record.proofs.SnapshotLaws.{SnapshotStands, snapshot_stands, snapshot_there, other_found, other_there}
use Rattle.re_record.proofs.snapshots.get_snapshot.Goals as goal
use Rattle.re_terms.proofs.ProgramShapes.{program_shape}
use Rattle.re_terms.specs.Shapes.{IsShape}
use Rattle.re_terms.specs.declared.replicated.Shape.{Shape}

pub get_stored-requires-clause-shape : goal.get_stored-requires-clause-shape
get_stored-requires-clause-shape c = subst IsShape (sym c.requires.shape) (program_shape c.args.p.now c.requires.program)

pub returns-clause-allowed : goal.returns-clause-allowed
returns-clause-allowed c =
    let given = subst (λ (shape : Shape). GivesSnapshot c.get_stored.result (snapshot_at c.args.p.now shape c.args.device c.args.body.now)) c.requires.shape c.get_stored.ensures in
    IfOk-weaker c.get_stored.result _ _ (λ x h. h.fits) (snapshot_stands c.args.p.now c.args.device c.args.body.now c.get_stored.result c.requires.program (omega (arith, c.ranges.device)) (λ i. omega (arith, c.type_inv.body i)) c.requires.long given)

pub returns-clause-found : goal.returns-clause-found
returns-clause-found c =
    let given = subst (λ (shape : Shape). GivesSnapshot c.get_stored.result (snapshot_at c.args.p.now shape c.args.device c.args.body.now)) c.requires.shape c.get_stored.ensures in
    IfOk-weaker c.get_stored.result _ _ (λ x h. h.text) (snapshot_stands c.args.p.now c.args.device c.args.body.now c.get_stored.result c.requires.program (omega (arith, c.ranges.device)) (λ i. omega (arith, c.type_inv.body i)) c.requires.long given)

pub returns-clause-only : goal.returns-clause-only
returns-clause-only c = λ number s is e.
    let given = subst (λ (shape : Shape). GivesSnapshot c.get_stored.result (snapshot_at c.args.p.now shape c.args.device c.args.body.now)) c.requires.shape c.get_stored.ensures in
    subst (λ read. GivesSnapshot c.get_stored.result read) (snapshot_there c.args.p.now c.args.device number c.args.body.now s c.requires.program (omega (arith, c.ranges.device)) c.requires.limit is e) given

pub returns-clause-other : goal.returns-clause-other
returns-clause-other c = λ e.
    let given = subst (λ (shape : Shape). GivesSnapshot c.get_stored.result (snapshot_at c.args.p.now shape c.args.device c.args.body.now)) c.requires.shape c.get_stored.ensures in
    other_found c.args.p.now c.args.device c.args.body.now c.get_stored.result c.requires.program (omega (arith, c.ranges.device)) (λ i. omega (arith, c.type_inv.body i)) c.requires.long given e

pub returns-clause-other_only : goal.returns-clause-other_only
returns-clause-other_only c = λ h.
    let given = subst (λ (shape : Shape). GivesSnapshot c.get_stored.result (snapshot_at c.args.p.now shape c.args.device c.args.body.now)) c.requires.shape c.get_stored.ensures in
    subst (λ read. GivesSnapshot c.get_stored.result read) (other_there c.args.p.now c.args.device c.args.body.now (omega (arith, c.ranges.device)) h) given
