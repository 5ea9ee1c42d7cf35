use Rattle.std.proofs.Common.{ap}
use Rattle.re_fakes.proofs.Places.{put_whole}
use Rattle.re_fakes.proofs.files.Files.put.Goals as goal

pub returns-clause-ok : goal.returns-clause-ok
returns-clause-ok c = put_whole _ _ _ _ _ _ c.args.bytes c.place_of-place.ensures c.reach.ensures.same c.self.view_is c.in_ok-reach.ensures.there (ap (λ l. l.items) c.set.ensures)
