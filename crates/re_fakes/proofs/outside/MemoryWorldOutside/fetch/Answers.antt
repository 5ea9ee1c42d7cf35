use Rattle.std.proofs.Common.{arith, refl}
use Rattle.re_outside.specs.Image.{IsUnchanged}
use Rattle.re_outside.specs.declared.step.Call.TheVariants as kind
use Rattle.re_fakes.specs.Told.{world_of}
use Rattle.re_fakes.proofs.Worlds.{file_failed, listed_some}
use Rattle.re_fakes.proofs.outside.MemoryWorldOutside.fetch.Goals as goal

pub returns-then-is_some-clause-failed : goal.returns-then-is_some-clause-failed
returns-then-is_some-clause-failed c =
    file_failed kind.Fetch c.args.device c.args.file c.args.at IsUnchanged (world_of c.args.self.now) (world_of c.begin.new.self) (world_of c.raise_disk.new.self) (world_of c.note_file.new.self) c.args.self.now.counted (omega arith) refl refl
    (listed_some kind.Fetch (world_of c.args.self.now) c.begin.result c.is_some.result c.begin.ensures.entry c.is_some.ensures c.if-is_some.true) c.begin.ensures.call c.raise_disk.ensures c.note_file.ensures
