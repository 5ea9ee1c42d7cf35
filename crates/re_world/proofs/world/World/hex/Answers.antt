-- The bytes of a packet are shown.
use Rattle.std.proofs.Common.{◌∙◌, ℕ, Some, refl, sym, ap}
use Rattle.std.specs.Option.{option_copied}
use Rattle.re_terms.specs.Listed.{Listed}
use Rattle.re_terms.specs.declared.command.Command.TheVariants as command
use Rattle.re_world.proofs.Caused.{any_state}
use Rattle.re_world.proofs.Inside.{memory_does}
use Rattle.re_world.proofs.Told.{hex_does, hex_lacks, nothing_behind, packet_at}
use Rattle.re_world.proofs.world.World.hex.Goals as goal

pub returns-in_default : goal.returns-in_default
returns-in_default c = hex_lacks c.args.self.now c.args.packet (packet_at c.self.inside c.args.self.now c.args.packet _ c.self.view_is (sym c.get.ensures ∙ nothing_behind c.get.result c.in_default.not-Some))

pub returns-in-Ok : goal.returns-in-Ok
returns-in-Ok c =
    let copied = ap (λ (l : Listed ℕ). l.items) c.from_vec.ensures ∙ c.in-Ok.ensures.items_if_clones_equal (λ x y h. h) ∙ c.as_slice.ensures in
    hex_does c.args.self.now c.args.packet c.from_vec.result (packet_at c.self.inside c.args.self.now c.args.packet _ c.self.view_is (sym c.get.ensures ∙ ap option_copied c.in-Some.is) ∙ ap Some (sym copied))

pub returns-in-Err : goal.returns-in-Err
returns-in-Err c = memory_does c.args.self.now (command.Hex c.args.packet) refl (any_state c.args.self.now, tt)
