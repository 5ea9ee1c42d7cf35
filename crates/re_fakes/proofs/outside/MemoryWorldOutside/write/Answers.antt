use Rattle.std.proofs.Common.{◌∙◌, ap, sym, arith, length, IsSome, is_some}
use Rattle.std.proofs.lemmas.Result.{on_err_weaker}
use Rattle.re_outside.specs.Image.{IsTorn}
use Rattle.re_outside.specs.declared.step.Call.TheVariants as kind
use Rattle.re_fakes.specs.Told.{world_of}
use Rattle.re_fakes.specs.World.{next_entry}
use Rattle.re_fakes.proofs.Worlds.{short_failed, write_failed}
use Rattle.re_fakes.proofs.outside.MemoryWorldOutside.write.Goals as goal

pub returns-then-not-is_within-clause-failed : goal.returns-then-not-is_within-clause-failed
returns-then-not-is_within-clause-failed c =
    short_failed kind.Write c.args.device c.args.file c.args.at c.args.bytes.now (λ old new. IsTorn (length old) c.args.at (length c.args.bytes.now) old new) (world_of c.args.self.now) (world_of c.begin-listed.new.self) (world_of c.refuse.new.self) c.args.self.now.counted (omega arith) c.begin-listed.ensures.call c.refuse.ensures

pub returns-in_default-clause-failed : goal.returns-in_default-clause-failed
returns-in_default-clause-failed c =
    on_err_weaker c.write_all.result
    (short_failed kind.Write c.args.device c.args.file c.args.at c.args.bytes.now (λ old new. IsTorn (length old) c.args.at (length c.args.bytes.now) old new) (world_of c.args.self.now) (world_of c.begin-listed.new.self) (world_of c.write_all.new.self) c.args.self.now.counted (omega arith) c.begin-listed.ensures.call)
    c.write_all.ensures.err

pub returns-clause-failed : goal.returns-clause-failed
returns-clause-failed c =
    let listed : IsSome (next_entry kind.Write (world_of c.args.self.now)) = ap is_some (sym c.begin-listed.ensures.entry ∙ c.in-Some.is) in
    write_failed c.args.device c.args.file c.args.at c.in-Some.fail.done c.args.bytes.now (world_of c.args.self.now) (world_of c.begin-listed.new.self) (world_of c.raise_disk.new.self) (world_of c.note_write.new.self) c.args.self.now.counted (omega arith)
    listed c.begin-listed.ensures.call c.raise_disk.ensures c.note_write.ensures
