-- The set stands at the place that is kept.
use Rattle.std.proofs.Common.{ap, ◌∙◌}
use Rattle.std.specs.Prelude.{slice_get}
use Rattle.re_terms.specs.Shapes.{shape_of}
use Rattle.re_terms.specs.SignalWords.{replicated_place}
use Rattle.re_terms.specs.declared.replicated.RState.{RState}
use Rattle.re_terms.specs.Views.{View, cell_size, view_of}
use Rattle.re_prop.proofs.Fits.{sets_of_fit}
use Rattle.re_device.specs.Device.{DeviceState, told_of}
use Rattle.re_prop.proofs.ReadWords.{replicated_at}
use Rattle.re_device.proofs.device.Device.size_of.Goals as goal

pub size_at-requires : goal.size_at-requires
size_at-requires c = sets_of_fit (shape_of c.self.inside.program) c.self.inside.state.rep c.as_slice.result.now c.as_slice.ensures c.self.invariant.state.rep

pub returns : goal.returns
returns c =
    let d = c.self.inside in
    let view : View = view_of d.state.rep in
    c.size_at.ensures
    ∙ ap (λ l. cell_size (slice_get l c.replicated.result)) c.as_slice.ensures
    ∙ ap view.size (replicated_at d.program.decls.items d.places c.args.id c.replicated.result c.self.invariant.places c.replicated.ensures)
    ∙ ap (λ (r : RState). (view_of r).size (replicated_place d.program.decls.items c.args.id)) c.self.invariant.current.rep
    ∙ ap (λ (v : DeviceState). (told_of v.memory).size c.args.id) c.self.view_is
