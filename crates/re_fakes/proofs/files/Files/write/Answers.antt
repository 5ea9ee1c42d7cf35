use Rattle.std.proofs.Common.{ap, List, ℕ}
use Rattle.re_outside.specs.Image.{written}
use Rattle.re_fakes.proofs.Places.{put_edited, put_back, reached_edited, same_trans}
use Rattle.re_fakes.proofs.files.Files.write.Goals as goal

pub returns-in-Ok-clause-ok : goal.returns-in-Ok-clause-ok
returns-in-Ok-clause-ok c =
    let edit = λ (old : List ℕ). written old c.args.at c.args.bytes.now in
    reached_edited _ _ _ _ edit c.reach.ensures.same
    (put_edited _ _ _ _ _ _ _ c.replace-edited.result c.write_over.new.file edit c.place_of-place.ensures c.self.view_is c.replace-edited.ensures.item
    (ap (λ l. l.items) c.replace-edited.ensures.rest) (ap (λ l. l.items) c.set.ensures) c.in-Ok.ensures.ok)

pub returns-in-Err-clause-err : goal.returns-in-Err-clause-err
returns-in-Err-clause-err c =
    same_trans _ _ _ c.reach.ensures.same
    (put_back _ _ _ _ _ _ c.replace-edited.result c.write_over.new.file c.self.view_is c.replace-edited.ensures.item
    (ap (λ l. l.items) c.replace-edited.ensures.rest) (ap (λ l. l.items) c.set-in-Err.ensures) c.in-Err.ensures.err)
