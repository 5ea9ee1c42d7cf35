-- A word or a set of a device is shown.
use Rattle.std.proofs.Common.{◌∙◌, None, false, refl, sym, ap}
use Rattle.std.specs.Option.{option_copied}
use Rattle.re_terms.specs.declared.command.Command.TheVariants as command
use Rattle.re_device.specs.Causes.{refusal_by}
use Rattle.re_terms.specs.Worlds.{StoppedAt}
use Rattle.re_world.proofs.Caused.{any_state, caused_as, device_is, found_down, found_up}
use Rattle.re_world.proofs.Inside.{down_does, stopped_does}
use Rattle.re_world.proofs.Placed.{no_some}
use Rattle.re_world.proofs.Told.{get_does, nothing_behind}
use Rattle.re_world.proofs.world.World.get.Goals as goal

pub returns-in_default : goal.returns-in_default
returns-in_default c = down_does c.args.self.now (command.Get c.args.number c.args.id) c.args.number c.requires.0 (sym c.device.ensures ∙ nothing_behind c.device.result c.in_default.not-Some) refl (found_down c.args.self.now c.args.number (sym c.device.ensures ∙ nothing_behind c.device.result c.in_default.not-Some)) refl (any_state c.args.self.now, tt) (λ u. refl) (λ p u s is. refl)

pub returns-in-Some-stopped : goal.returns-in-Some-stopped
returns-in-Some-stopped c =
    stopped_does c.args.self.now (command.Get c.args.number c.args.id) c.args.number c.in-Some.device.now c.in-Some-stopped.at c.requires.0 (sym c.device.ensures ∙ ap option_copied c.in-Some.is)
    (sym c.stopped.ensures ∙ c.in-Some-stopped.is) refl (caused_as c.args.self.now (command.Get c.args.number c.args.id) (StoppedAt c.in-Some-stopped.at) (any_state c.args.self.now, tt) (λ state merges. device_is c.args.self.now (command.Get c.args.number c.args.id) refl state c.in-Some.device.now (found_up c.args.self.now c.args.number c.in-Some.device.now (sym c.device.ensures ∙ ap option_copied c.in-Some.is)) refl (sym c.device.ensures ∙ ap option_copied c.in-Some.is) ∙ ap (λ o. refusal_by o false false None) (sym c.stopped.ensures ∙ c.in-Some-stopped.is))) (λ u. refl) (λ u. refl) (λ u. refl) (λ u. refl)

pub returns : goal.returns
returns c =
    get_does c.args.self.now c.args.number c.args.id c.in-Some.device.now c.requires (sym c.device.ensures ∙ ap option_copied c.in-Some.is)
    (sym c.stopped.ensures ∙ no_some c.stopped.result c.in_default-stopped.not-Some)
    c.shown.result c.shown.ensures.word c.shown.ensures.set c.shown.ensures.ascends
