-- What is left to put gives what all gives.
use Rattle.std.proofs.Common.{◌≡◌, length, drop}
use Rattle.std.specs.Prelude.{slice_index}
use Rattle.re_prop.specs.Caching.{put_at}
use Rattle.re_device.proofs.taking.put_words.Given as goal

abbrev pub invariant-loop-put : goal.invariant-loop-put
invariant-loop-put l = record {
  count : length l.words.items ≡ length l.fn.words.items;
  spare : l.words.spare ≡ l.fn.words.spare;
  rest : put_at (slice_index l.places) l.words.items (drop l.put-index l.puts) ≡ put_at (slice_index l.places) l.fn.words.items l.puts;
}
