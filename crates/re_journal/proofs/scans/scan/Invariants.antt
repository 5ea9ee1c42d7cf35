use Rattle.std.specs.List.{flat_map}
use Rattle.std.proofs.Common.{◌≡◌, ◌+◌, ◌-◌, length}
use Rattle.re_outside.specs.Frame.{IsSnapshotLength, IsGeneration, AreRecords, opened, generation, ReadsTo}
use Rattle.re_outside.specs.Trace.{content_of}
use Rattle.re_journal.specs.Readings.{coming, KnowsSize}
use Rattle.re_journal.specs.Scans.{all_bytes}
use Rattle.re_journal.proofs.scans.scan.Given as goal

abbrev pub invariant-loop-bodies : goal.invariant-loop-bodies
invariant-loop-bodies g l = record {
  past : g.D.Disk.tells → g.D.Disk.past l.disk ≡ g.D.Disk.past l.fn.disk;
  device : (g.D.Disk.past l.disk).device ≡ (g.D.Disk.past l.fn.disk).device;
  rest : g.D.Disk.rest l.disk ≡ g.D.Disk.rest l.fn.disk;
  faults : g.D.Disk.faults l.disk ≡ g.D.Disk.faults l.fn.disk;
  file : l.reader.file ≡ l.fn.file;
  number : l.number ≡ generation l.snapshot.items;
  snapshot_length : IsSnapshotLength (length l.snapshot.items);
  generation_fits : IsGeneration (generation l.snapshot.items);
  records : AreRecords (all_bytes l.bodies.items);
  start : l.start ≡ 5 + length l.snapshot.items;
  place : l.reader.place ≡ l.start + length (flat_map opened (all_bytes l.bodies.items));
  size : g.D.Disk.tells → KnowsSize l.reader (g.D.Disk.past l.fn.disk);
  reads : g.D.Disk.tells → ReadsTo (content_of (g.D.Disk.past l.fn.disk) l.fn.file) l.snapshot.items (all_bytes l.bodies.items) (coming l.reader (g.D.Disk.past l.fn.disk));
}

abbrev pub decreases-loop-bodies : goal.decreases-loop-bodies
decreases-loop-bodies g l = l.reader.size - l.reader.place
