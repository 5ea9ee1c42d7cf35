-- What may be read has bytes.
use Rattle.std.proofs.Common.{◌≡◌, ℕ, ◌<◌, ◌≤◌, List, length}
use Rattle.re_record.specs.Logs.{HasBytes, HasEntryBytes, IsLoggedOf, IsRecord, IsRecordOf}
use Rattle.re_terms.specs.Admission.{IsEntryOf}
use Rattle.re_terms.specs.Shapes.{shape_of}
use Rattle.re_terms.specs.declared.entry.Entry.{Entry}
use Rattle.re_terms.specs.declared.entry.Entry.TheVariants as entry
use Rattle.re_terms.specs.declared.entry.Logged.{Logged}
use Rattle.re_terms.specs.declared.program.Program.{Program}

entry_bytes_there : (p : Program) (e : Entry) → IsEntryOf p e → HasEntryBytes (shape_of p) e
entry_bytes_there p (entry.Turn t) is = is.few
entry_bytes_there p (entry.Merge r) is = is

pub record_written : (p : Program) (entries : List Logged) → IsRecordOf p entries → IsRecord (shape_of p) entries
record_written p entries is =
    record {
      some = is.some;
      few = is.few;
      each = λ k d lt. (let l = is.each k d lt in record { entry = entry_bytes_there p _ l.entry; changes = l.few });
    }
