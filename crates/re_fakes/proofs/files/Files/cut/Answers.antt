use Rattle.std.proofs.Common.{ap, take, ℕ, List}
use Rattle.re_outside.specs.Listed.{Listed}
use Rattle.re_fakes.proofs.Places.{put_edited}
use Rattle.re_fakes.proofs.files.Files.cut.Goals as goal

pub returns-then-place-len : goal.returns-then-place-len
returns-then-place-len c =
    put_edited _ _ _ _ _ _ _ c.replace-edited.result c.truncate.new.self (take c.args.n) c.place_of-place.ensures c.self.view_is c.replace-edited.ensures.item
    (ap (λ l. l.items) c.replace-edited.ensures.rest) (ap (λ l. l.items) c.set.ensures) (ap (λ (l : Listed ℕ). l.items) c.truncate.ensures)
