-- What is ready to be written, and which entries may be settled together.
-- Read against: one unsettled turn and a merge behind it may be settled together, in one record; a merge and a turn behind it may not, for only turns are left unsettled.
use Rattle.std.specs.Prelude.{◌≡◌, ◌≤◌, ◌++◌, ◌∷◌, [], ℕ, List, length, Option, option_map}
use Rattle.std.specs.List.{All}
use Rattle.re_journal.specs.Journals.{frame_of}
use Rattle.re_outside.specs.Listed.{Listed}
use Rattle.re_record.specs.Restoring.{AreAccepted}
use Rattle.re_terms.specs.declared.entry.Logged.{Logged}
use Rattle.re_device.specs.Committing.{due_snapshot, framed_record}
use Rattle.re_device.specs.Device.{DeviceMemory, DeviceState}
use Rattle.re_device.specs.Keeping.{IsTaken, IsUnsettled}
use Rattle.re_device.specs.declared.store.Ready.{Ready}

-- the frame of this snapshot, where there is one
abbrev pub IsFrameOf : Option (Listed ℕ) → Option (List ℕ) → Type 0
IsFrameOf framed snapshot = option_map (λ (bytes : Listed ℕ). bytes.items) framed ≡ option_map frame_of snapshot

-- the frame of the record of these entries, and of the snapshot that is due
pub record IsReady (d : DeviceState) (entries : List Logged) (ready : Ready) : Type 0 where
  pub record_is : ready.record.items ≡ framed_record d.memory entries
  pub snapshot_is : IsFrameOf ready.snapshot (due_snapshot d)

-- up to 8 turns, and one further entry, none of which a limit refuses
pub record MaySettle (m : DeviceMemory) (entries : List Logged) : Type 0 where
  pub turns : List Logged
  pub last : Logged
  pub split : entries ≡ turns ++ last ∷ []
  pub few : length turns ≤ 8
  pub unsettled : All (IsUnsettled m.program) turns
  pub taken : IsTaken m.program last
  pub accepted : AreAccepted m.program m.device m.settled entries
