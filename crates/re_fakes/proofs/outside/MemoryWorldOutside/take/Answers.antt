use Rattle.re_outside.specs.declared.step.Call.TheVariants as kind
use Rattle.re_fakes.specs.Told.{world_of}
use Rattle.re_fakes.proofs.Worlds.{take_failed, listed_some}
use Rattle.re_fakes.proofs.outside.MemoryWorldOutside.take.Goals as goal

pub returns-then-is_some-clause-failed : goal.returns-then-is_some-clause-failed
returns-then-is_some-clause-failed c = take_failed (world_of c.args.self.now) (world_of c.begin.new.self) (world_of c.raise_input.new.self) (world_of c.note_output.new.self) c.args.self.now.counted (listed_some kind.Take (world_of c.args.self.now) c.begin.result c.is_some.result c.begin.ensures.entry c.is_some.ensures c.if-is_some.true) c.begin.ensures.call c.raise_input.ensures c.note_output.ensures
