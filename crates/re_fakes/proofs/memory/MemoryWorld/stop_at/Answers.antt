use Rattle.std.proofs.Common.{◌≡◌, ◌<◌, ap, ◌∙◌, take, ℕ, rules}
use Rattle.re_outside.specs.Trace.{acts_of}
use Rattle.re_fakes.specs.Files.{file_at, place_of}
use Rattle.re_fakes.specs.Stops.{IsChosen}
use Rattle.re_fakes.proofs.Chosen.{chosen_steps, chosen_all, images_all}
use Rattle.re_fakes.proofs.memory.MemoryWorld.stop_at.Goals as goal

pub returns-clause-chosen : goal.returns-clause-chosen
returns-clause-chosen c =
    let disks = c.args.self.now.disks in
    chosen_all c.args.choice disks.start disks.files c.in_ok-left.left disks.trace.items c.args.step disks.past
    (chosen_steps c.args.choice disks.start _ disks.files c.in_ok-left.left disks.trace.items (take c.args.step c.as_slice-trace.result.now) c.args.step disks.past c.start.ensures
    (ap (take c.args.step) (c.as_slice-trace.ensures ∙ ap (λ l. l.items) c.trace.ensures)) (c.in_ok-left.ensures))

pub returns-clause-image : goal.returns-clause-image
returns-clause-image c =
    let disks = c.args.self.now.disks in
    images_all c.args.choice disks.start disks.files c.in_ok-left.left disks.trace.items c.args.step disks.past
    (chosen_steps c.args.choice disks.start _ disks.files c.in_ok-left.left disks.trace.items (take c.args.step c.as_slice-trace.result.now) c.args.step disks.past c.start.ensures
    (ap (take c.args.step) (c.as_slice-trace.ensures ∙ ap (λ l. l.items) c.trace.ensures)) (c.in_ok-left.ensures))
