-- What is left to put gives what all of it gives.
use Rattle.std.proofs.Common.{◌≡◌, length, drop}
use Rattle.re_prop.specs.Caching.{put_all}
use Rattle.re_prop.proofs.cache.Cache.put.Given as goal

abbrev pub invariant-loop-put : goal.invariant-loop-put
invariant-loop-put l = record {
  count : length l.self-inside.words.items ≡ length l.fn.self;
  rest : put_all l.self-inside.words.items (drop l.put-index l.put-items) ≡ put_all l.fn.self l.put-items;
  same : l.put-items ≡ l.signals.items;
}
