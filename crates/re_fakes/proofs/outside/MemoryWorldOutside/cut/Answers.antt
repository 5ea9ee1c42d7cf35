use Rattle.std.proofs.Common.{arith, refl, []}
use Rattle.std.proofs.lemmas.Result.{on_err_weaker}
use Rattle.re_outside.specs.Image.{IsCutShort}
use Rattle.re_outside.specs.declared.step.Call.TheVariants as kind
use Rattle.re_fakes.specs.Told.{world_of}
use Rattle.re_fakes.proofs.Worlds.{file_failed, listed_some, short_failed, cut_nothing}
use Rattle.re_fakes.proofs.outside.MemoryWorldOutside.cut.Goals as goal

pub returns-then-is_some-clause-failed : goal.returns-then-is_some-clause-failed
returns-then-is_some-clause-failed c =
    file_failed kind.Cut c.args.device c.args.file c.args.length (IsCutShort c.args.length) (world_of c.args.self.now) (world_of c.begin.new.self) (world_of c.raise_disk.new.self) (world_of c.note_file.new.self) c.args.self.now.counted (omega arith) refl (cut_nothing c.args.length _)
    (listed_some kind.Cut (world_of c.args.self.now) c.begin.result c.is_some.result c.begin.ensures.entry c.is_some.ensures c.if-is_some.true) c.begin.ensures.call c.raise_disk.ensures c.note_file.ensures

pub returns-clause-failed : goal.returns-clause-failed
returns-clause-failed c = on_err_weaker c.cut_all.result (short_failed kind.Cut c.args.device c.args.file c.args.length [] (IsCutShort c.args.length) (world_of c.args.self.now) (world_of c.begin.new.self) (world_of c.cut_all.new.self) c.args.self.now.counted (omega arith) c.begin.ensures.call) c.cut_all.ensures.err
