-- The steps by which a device commits and by which its files are opened are changes of its files.
use Rattle.std.proofs.Common.{ℕ, List, [], ◌++◌, Bool, true, false, Option, Some, None, if◌then◌else◌, length, refl}
use Rattle.std.specs.Prelude.{◌&&◌, option_map}
use Rattle.re_compact.specs.Committing.{committing_steps}
use Rattle.re_compact.specs.Finding.{open_steps}
use Rattle.re_compact.specs.Laying.{laying, opening, prepare_steps, publish_steps}
use Rattle.re_device.specs.Committing.{due_snapshot, framed_record, settling_steps}
use Rattle.re_device.specs.Device.{DeviceState}
use Rattle.re_journal.specs.Commits.{commit_steps}
use Rattle.re_journal.specs.Journals.{frame_of, other_file}
use Rattle.re_journal.specs.declared.journal.Journal.{Journal}
use Rattle.re_outside.specs.Frame.{is_blank}
use Rattle.re_outside.specs.Trace.{Past, content_of}
use Rattle.re_restore.specs.Opening.{lay_steps, start_snapshot, start_steps}
use Rattle.re_session.proofs.Quiet.{AreChanges, changes_append, commit_changes, synced_changes}
use Rattle.re_terms.specs.declared.entry.Logged.{Logged}
use Rattle.re_terms.specs.declared.program.Program.{Program}

lay_changes : (d g : ℕ) (blank : Bool) (size : ℕ) (framed : List ℕ) → AreChanges d (lay_steps d g blank size framed)
lay_changes d g blank size framed = changes_append d (prepare_steps d g blank size framed) (publish_steps d g) (synced_changes d g (laying blank size framed)) (synced_changes d g opening)

-- ---- commits

committing_changes : (d : ℕ) (journal : Journal) (next : Option (List ℕ)) (framed : List ℕ) → AreChanges d (committing_steps d journal next framed)
committing_changes d journal None framed = commit_changes d journal.file journal.gate framed
committing_changes d journal (Some next) framed =
    changes_append d (prepare_steps d (other_file journal.file) journal.other_blank journal.other_length next) (publish_steps d (other_file journal.file) ++ commit_steps d (other_file journal.file) (length next) framed)
    (synced_changes d (other_file journal.file) (laying journal.other_blank journal.other_length next))
    (changes_append d (publish_steps d (other_file journal.file)) (commit_steps d (other_file journal.file) (length next) framed)
    (synced_changes d (other_file journal.file) opening)
    (commit_changes d (other_file journal.file) (length next) framed))

pub settling_changes : (d : ℕ) (x : DeviceState) (entries : List Logged) → AreChanges d (settling_steps d x entries)
settling_changes d x entries = committing_changes d x.journal (option_map frame_of (due_snapshot x)) (framed_record x.memory entries)

-- ---- openings

pub open_changes : (d : ℕ) → AreChanges d (open_steps d)
open_changes d = (refl, (refl, tt))

start_changes_by : (b : Bool) (d size : ℕ) (framed : List ℕ) → AreChanges d (if b then lay_steps d 0 true size framed else [])
start_changes_by true d size framed = lay_changes d 0 true size framed
start_changes_by false d size framed = tt

pub start_changes : (p : Program) (number : ℕ) (old : Past) → AreChanges old.device (start_steps p number old)
start_changes p number old = start_changes_by (is_blank (content_of old 0) && is_blank (content_of old 1)) old.device (length (content_of old 0)) (frame_of (start_snapshot p number))
