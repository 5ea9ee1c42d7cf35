-- What a world in memory shows.
use Rattle.std.specs.Prelude.{drop}
use Rattle.re_fakes.specs.World.{World}
use Rattle.re_fakes.specs.declared.memory.MemoryWorld.{MemoryWorld}

-- what contracts see of a world in memory
abbrev pub world_of : MemoryWorld → World
world_of w = record {
  left = drop w.at w.input.items;
  start = w.disks.start;
  trace = w.disks.trace.items;
  fails = w.fails.items;
  calls = w.calls;
  input_faults = w.input_faults;
  output_faults = w.output_faults;
  disk_faults = w.disk_faults.items;
  shorts = w.shorts;
}
