-- The set stands at the place that is kept.
use Rattle.std.proofs.Common.{ap, ◌∙◌}
use Rattle.std.specs.Prelude.{slice_get}
use Rattle.re_terms.specs.Shapes.{shape_of}
use Rattle.re_terms.specs.SignalWords.{replicated_place}
use Rattle.re_terms.specs.declared.replicated.RState.{RState}
use Rattle.re_terms.specs.Views.{View, cell_has, view_of}
use Rattle.re_prop.proofs.Fits.{sets_of_fit}
use Rattle.re_device.specs.Device.{DeviceState, told_of}
use Rattle.re_prop.proofs.ReadWords.{replicated_at}
use Rattle.re_device.proofs.device.Device.contains.Goals as goal

pub has_at-requires : goal.has_at-requires
has_at-requires c = sets_of_fit (shape_of c.self.inside.program) c.self.inside.state.rep c.as_slice.result.now c.as_slice.ensures c.self.invariant.state.rep

pub returns : goal.returns
returns c =
    let d = c.self.inside in
    let view : View = view_of d.state.rep in
    c.has_at.ensures
    ∙ ap (λ l. cell_has (slice_get l c.replicated.result) c.args.word) c.as_slice.ensures
    ∙ ap (λ place. view.has place c.args.word) (replicated_at d.program.decls.items d.places c.args.id c.replicated.result c.self.invariant.places c.replicated.ensures)
    ∙ ap (λ (r : RState). (view_of r).has (replicated_place d.program.decls.items c.args.id) c.args.word) c.self.invariant.current.rep
    ∙ ap (λ (v : DeviceState). (told_of v.memory).has c.args.id c.args.word) c.self.view_is
