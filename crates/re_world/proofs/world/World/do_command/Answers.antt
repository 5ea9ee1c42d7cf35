-- Each command does all that a command does.
use Rattle.std.proofs.Common.{◌≡◌, ◌∙◌, ℕ, None, sym, subst}
use Rattle.re_outside.specs.Outside.{content_in}
use Rattle.re_record.specs.Stores as stores
use Rattle.re_record.specs.Stores.{HasStore}
use Rattle.re_terms.specs.declared.command.Command.TheVariants as command
use Rattle.re_terms.specs.Worlds.{plain_answer}
use Rattle.re_world.specs.State.{device_in}
use Rattle.re_world.specs.Stepping.{DoesCommand, IsRestartAnswer}
use Rattle.re_world.proofs.world.World.do_command.Goals as goal

pub returns-in-Lazy-clause-does : goal.returns-in-Lazy-clause-does
returns-in-Lazy-clause-does g c =
    let s = g.O.Outside.seen c.args.out.now in
    subst (λ q. DoesCommand g.O.Outside.tells c.args.self.now c.lazy.new.self q c.lazy.result s s) (sym c.in-Lazy.is) (c.lazy.ensures g.O.Outside.tells s)

pub returns-in-Get-clause-does : goal.returns-in-Get-clause-does
returns-in-Get-clause-does g c =
    let s = g.O.Outside.seen c.args.out.now in
    subst (λ q. DoesCommand g.O.Outside.tells c.args.self.now c.args.self.now q c.get.result s s) (sym c.in-Get.is) (c.get.ensures g.O.Outside.tells s)

pub returns-in-Send-clause-does : goal.returns-in-Send-clause-does
returns-in-Send-clause-does g c =
    let s = g.O.Outside.seen c.args.out.now in
    subst (λ q. DoesCommand g.O.Outside.tells c.args.self.now c.send.new.self q c.send.result s s) (sym c.in-Send.is) (c.send.ensures g.O.Outside.tells s)

pub returns-in-Hex-clause-does : goal.returns-in-Hex-clause-does
returns-in-Hex-clause-does g c =
    let s = g.O.Outside.seen c.args.out.now in
    subst (λ q. DoesCommand g.O.Outside.tells c.args.self.now c.args.self.now q c.hex.result s s) (sym c.in-Hex.is) (c.hex.ensures g.O.Outside.tells s)

pub returns-in-Crash-clause-does : goal.returns-in-Crash-clause-does
returns-in-Crash-clause-does g c =
    let s = g.O.Outside.seen c.args.out.now in
    subst (λ q. DoesCommand g.O.Outside.tells c.args.self.now c.crash.new.self q c.crash.result s s) (sym c.in-Crash.is) (c.crash.ensures g.O.Outside.tells s)

same_device : (d e : ℕ) → command.Restart d ≡ command.Restart e → d ≡ e
same_device d e same = cc

pub returns-clause-decided : goal.returns-clause-decided
returns-clause-decided g c = λ d stored told is down has.
    let s = g.O.Outside.seen c.args.out.now in
    let p = c.args.self.now.program in
    let same = same_device c.in-Restart.device d (sym c.in-Restart.is ∙ is) in
    subst (λ k. IsRestartAnswer p k stored (plain_answer c.restart.result)) same (c.restart.ensures.decided stored told (subst (λ k. device_in c.args.self.now k ≡ None) (sym same) down) (subst (λ k. HasStore p k (content_in s k 0) (content_in s k 1) stored) (sym same) has))

pub returns-clause-bad : goal.returns-clause-bad
returns-clause-bad g c = λ d file at told is answers.
    let s = g.O.Outside.seen c.args.out.now in
    subst (λ k. HasStore c.args.self.now.program k (content_in s k 0) (content_in s k 1) (stores.Bad file at)) (same_device c.in-Restart.device d (sym c.in-Restart.is ∙ is)) (c.restart.ensures.bad file at told answers)

pub returns-clause-other : goal.returns-clause-other
returns-clause-other g c = λ d told is answers.
    let s = g.O.Outside.seen c.args.out.now in
    subst (λ k. HasStore c.args.self.now.program k (content_in s k 0) (content_in s k 1) stores.OtherProgram) (same_device c.in-Restart.device d (sym c.in-Restart.is ∙ is)) (c.restart.ensures.other told answers)
