-- What is left to put gives what all gives.
use Rattle.std.proofs.Common.{◌≡◌, length, drop}
use Rattle.re_terms.specs.Changes.{with_changes}
use Rattle.re_restore.proofs.entries.put_changes.Given as goal

abbrev pub invariant-loop-put : goal.invariant-loop-put
invariant-loop-put l = record {
  count : length l.words.items ≡ length l.fn.words.items;
  spare : l.words.spare ≡ l.fn.words.spare;
  rest : with_changes l.p.decls.items l.words.items (drop l.put-index l.changes) ≡ with_changes l.p.decls.items l.fn.words.items l.changes;
}
