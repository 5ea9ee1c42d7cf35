use Rattle.re_fakes.proofs.Places.{none_there}
use Rattle.re_fakes.proofs.files.Files.bytes.Goals as goal

pub returns-in-None : goal.returns-in-None
returns-in-None c =
    rw (← c.self.view_is, ← c.place_of.ensures) (none_there c.self.inside.list.items c.place_of.result (c.in-None.ensures))
