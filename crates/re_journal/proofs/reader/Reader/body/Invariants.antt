use Rattle.std.proofs.Common.{◌≡◌, ◌-◌, ◌≤◌, ◌++◌, vec_len}
use Rattle.re_outside.specs.Trace.{content_of}
use Rattle.re_journal.specs.Readings.{coming, KnowsSize, Passes}
use Rattle.re_journal.proofs.reader.Reader.body.Given as goal

abbrev pub invariant-loop-body : goal.invariant-loop-body
invariant-loop-body g l = record {
  past : g.D.Disk.tells → g.D.Disk.past l.disk ≡ g.D.Disk.past l.initial.disk;
  device : (g.D.Disk.past l.disk).device ≡ (g.D.Disk.past l.initial.disk).device;
  rest : g.D.Disk.rest l.disk ≡ g.D.Disk.rest l.initial.disk;
  faults : g.D.Disk.faults l.disk ≡ g.D.Disk.faults l.initial.disk;
  within : vec_len l.body ≤ l.wanted;
  passes : Passes (vec_len l.body) l.initial.self l.self;
  bytes : g.D.Disk.tells → KnowsSize l.initial.self (g.D.Disk.past l.initial.disk) → coming l.initial.self (g.D.Disk.past l.initial.disk) ≡ l.body.items ++ coming l.self (g.D.Disk.past l.initial.disk);
}

abbrev pub decreases-loop-body : goal.decreases-loop-body
decreases-loop-body g l = l.wanted - vec_len l.body
