-- A device is taken out of its place.
use Rattle.std.proofs.Common.{◌∙◌, ℕ, Option, None, ap}
use Rattle.std.specs.Prelude.{slice_set}
use Rattle.re_device.specs.Device.{DeviceState}
use Rattle.re_terms.specs.Listed.{Listed}
use Rattle.re_world.proofs.Placed.{kept_with}
use Rattle.re_world.proofs.world.World.take_out.Goals as goal

pub invariant_of-self : goal.invariant_of-self
invariant_of-self c = kept_with c.self.inside c.args.self.now c.replace.new.self c.args.number None c.self.view_is c.self.invariant c.requires tt (ap (λ (l : Listed (Option DeviceState)). l.items) c.replace.ensures.rest ∙ ap (λ (i : ℕ). slice_set c.self.inside.devices.items i None) c.from.ensures)
