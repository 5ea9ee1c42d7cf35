-- A crash drops what a device has in memory.
use Rattle.std.proofs.Common.{◌∙◌, refl, sym, subst}
use Rattle.re_terms.specs.declared.command.Answer.TheVariants as answer
use Rattle.re_terms.specs.declared.command.Command.TheVariants as command
use Rattle.re_world.proofs.Caused.{any_state, found_down}
use Rattle.re_world.proofs.Inside.{down_does}
use Rattle.re_world.proofs.InsideDone.{crash_does, none_out}
use Rattle.re_world.proofs.Placed.{no_some}
use Rattle.re_world.specs.Stepping.{DoesInside}
use Rattle.re_world.proofs.world.World.crash.Goals as goal

pub returns-in_default : goal.returns-in_default
returns-in_default c =
    let old = c.args.self.now in
    let n = c.args.number in
    let none = sym c.take_out.ensures.device ∙ no_some c.take_out.result c.in_default.not-Some in
    subst (λ v. DoesInside old v (command.Crash n) (answer.No 26)) (sym (none_out old c.take_out.new.self n none c.take_out.ensures.rest)) (down_does old (command.Crash n) n c.requires none refl (found_down old n none) refl (any_state old, tt) (λ u. refl) (λ p u s is. refl))

pub returns : goal.returns
returns c = crash_does c.args.self.now c.args.number c.requires c.take_out.new.self _ (sym c.take_out.ensures.device ∙ c.in-Some.is) c.take_out.ensures.rest
