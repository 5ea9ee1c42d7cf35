-- The length of a journal, by the records behind its snapshot.
use Rattle.std.proofs.Common.{arith, length-append}
use Rattle.std.specs.List.{flat_map}
use Rattle.re_outside.specs.Frame.{opened}
use Rattle.re_journal.proofs.journal.Journal.bytes.Goals as goal

pub returns-clause-records : goal.returns-clause-records
returns-clause-records c snapshot bodies past stands = omega (arith, stands.gates.gate, stands.gates.start, length-append (opened snapshot) (flat_map opened bodies), c.saturating_sub.ensures, c.saturating_sub-2.ensures)
