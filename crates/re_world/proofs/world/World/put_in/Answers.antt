-- A device is put into its place.
use Rattle.std.proofs.Common.{◌∙◌, ℕ, Option, Some, ap}
use Rattle.std.specs.Prelude.{slice_set}
use Rattle.re_device.specs.Device.{DeviceState}
use Rattle.re_terms.specs.Listed.{Listed}
use Rattle.re_world.proofs.Placed.{kept_with}
use Rattle.re_world.proofs.world.World.put_in.Goals as goal

pub invariant_of-self : goal.invariant_of-self
invariant_of-self c = kept_with c.self.inside c.args.self.now c.set.new.self c.args.number (Some c.args.device) c.self.view_is c.self.invariant c.requires.number c.requires.placed (ap (λ (l : Listed (Option DeviceState)). l.items) c.set.ensures ∙ ap (λ (i : ℕ). slice_set c.self.inside.devices.items i (Some c.args.device)) c.from.ensures)
