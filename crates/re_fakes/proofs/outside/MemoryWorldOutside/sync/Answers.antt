use Rattle.std.proofs.Common.{arith, refl, []}
use Rattle.std.proofs.lemmas.Result.{on_err_weaker}
use Rattle.re_outside.specs.Image.{IsUnchanged}
use Rattle.re_outside.specs.declared.step.Call.TheVariants as kind
use Rattle.re_fakes.specs.Told.{world_of}
use Rattle.re_fakes.proofs.Worlds.{file_failed, listed_some, short_failed}
use Rattle.re_fakes.proofs.outside.MemoryWorldOutside.sync.Goals as goal

pub returns-then-is_some-clause-failed : goal.returns-then-is_some-clause-failed
returns-then-is_some-clause-failed c =
    file_failed kind.Sync c.args.device c.args.file 0 IsUnchanged (world_of c.args.self.now) (world_of c.begin.new.self) (world_of c.raise_disk.new.self) (world_of c.note_file.new.self) c.args.self.now.counted (omega arith) refl refl
    (listed_some kind.Sync (world_of c.args.self.now) c.begin.result c.is_some.result c.begin.ensures.entry c.is_some.ensures c.if-is_some.true) c.begin.ensures.call c.raise_disk.ensures c.note_file.ensures

pub returns-clause-failed : goal.returns-clause-failed
returns-clause-failed c = on_err_weaker c.sync_all.result (short_failed kind.Sync c.args.device c.args.file 0 [] IsUnchanged (world_of c.args.self.now) (world_of c.begin.new.self) (world_of c.sync_all.new.self) c.args.self.now.counted (omega arith) c.begin.ensures.call) c.sync_all.ensures.err
