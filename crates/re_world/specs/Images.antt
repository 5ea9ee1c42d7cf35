-- What the files of all devices open to at one moment, and the update log behind them.
-- Read against: on `device a; device b; counter c;`, with one settled add of a and a second one under way, files of a that hold both open to two entries, and the log behind all files has both updates;
-- files of a that hold the first alone open to one entry, and the log has the first alone. What b's files hold doesn't matter here.
-- Where the first add is unsettled and nothing is under way, files of a open to no entry; while a settle a is under way they may open to one.
use Rattle.std.specs.Prelude.{◌≡◌, ◌≢◌, ◌⊎◌, ℕ, ◌+◌, ◌<◌, Bool, true, false, List, [], ◌++◌, length, map, take, Option, None, Some}
use Rattle.std.specs.List.{range_with_len}
use Rattle.re_record.specs.Represents.{Represents}
use Rattle.re_record.specs.Restoring.{Opened}
use Rattle.re_record.specs.Stores.{OpensTo}
use Rattle.re_terms.specs.Admission.{device_count}
use Rattle.re_terms.specs.DeviceWorlds.{World, device_of, reply, settled_taken}
use Rattle.re_terms.specs.Entries.{PlainEntry, run_entries, run_updates}
use Rattle.re_terms.specs.JointLogs.{Further, all_of}
use Rattle.re_terms.specs.Lines.{Done, further, may_have_entered}
use Rattle.re_terms.specs.Parts.{AreParts}
use Rattle.re_terms.specs.Runs.{StandsForPlain}
use Rattle.re_terms.specs.Updates.{Update}
use Rattle.re_terms.specs.declared.command.Command.{Command}
use Rattle.re_terms.specs.declared.command.Command.TheVariants as command
use Rattle.re_terms.specs.declared.program.Program.{Program}

-- two files of a device open to the state after these of its entries, and to the number of the last
pub record OpensAfter (p : Program) (w : World) (d : ℕ) (first second : List ℕ) (entries : List PlainEntry) : Type 0 where
  pub opened : Opened
  pub opens : OpensTo p d first second opened
  pub state : StandsForPlain p opened.state (run_entries p d (w.base d) entries)
  pub number_is : opened.number ≡ w.base_number d + length entries

-- ---- further entries

-- it commits the unsettled entries of its device
abbrev pub commits : Command → Bool
commits (command.Turn d t) = true
commits (command.Deliver k d) = true
commits (command.Settle d) = true
commits c = false

-- a command that commits on this device, and isn't refused, or only since a file call failed
pub record IsCommitting (p : Program) (w : World) (d : ℕ) (c : Done) : Type 0 where
  pub device_is : device_of c.asked ≡ Some d
  pub is_commit : commits c.asked ≡ true
  pub enters : may_have_entered (reply p w c.asked c.outcome) ≡ true

-- such a one is under way
abbrev pub CommitsNow : Program → World → Option Done → ℕ → Type 0
CommitsNow p w None d = ⊥
CommitsNow p w (Some c) d = IsCommitting p w d c

-- the files of a device may hold further entries: some are in doubt, or a command that is under way commits them
abbrev pub MayHold : Program → World → Option Done → ℕ → Type 0
MayHold p w under_way d = (w.in_doubt d ≢ []) ⊎ CommitsNow p w under_way d

-- ---- what they open to

-- they open to its settled entries, or, where they may hold further ones, to these and all of them
abbrev pub OpensToLine : Program → World → Option Done → ℕ → List ℕ → List ℕ → Type 0
OpensToLine p w under_way d first second = OpensAfter p w d first second (w.settled d) ⊎ (MayHold p w under_way d × OpensAfter p w d first second (w.settled d ++ further p w under_way d))

-- the updates of so many of a device's further entries
abbrev pub updates_held : Program → World → Option Done → (ℕ → ℕ) → ℕ → Further
updates_held p w under_way more d = record { device = d; updates = run_updates d (settled_taken w d) (take (more d) (further p w under_way d)) }

-- the log behind files that hold so many further entries of each device: the world's, and behind it by device the updates of these
abbrev pub log_held : Program → World → Option Done → (ℕ → ℕ) → List Update
log_held p w under_way more = w.log ++ all_of (map (updates_held p w under_way more) (range_with_len 0 (device_count p.decls.items)))

-- What a stop leaves of a world in which a command may be under way: each device's files open to the state after a front of its line that has all settled entries,
-- and all further ones, where they may hold these, or none, and one update log stands behind the files, of which the world's is a front. Each packet of the world is a part of that log.
pub record Restores (p : Program) (w : World) (under_way : Option Done) (files : ℕ → ℕ → List ℕ) : Type 0 where
  -- how many further entries the files of each device hold
  pub more : ℕ → ℕ
  pub whole : (d : ℕ) → d < device_count p.decls.items → (more d ≡ 0) ⊎ ((more d ≡ length (further p w under_way d)) × MayHold p w under_way d)
  pub opens : (d : ℕ) → d < device_count p.decls.items → OpensAfter p w d (files d 0) (files d 1) (w.settled d ++ take (more d) (further p w under_way d))
  pub represents : Represents p files (log_held p w under_way more)
  pub packets : AreParts (log_held p w under_way more) w.packets
