-- Reading snapshots from left to right, behind their generation.
-- Read against: with `device a; var x: int = 0;` and device 0 the snapshot 0000000000000001, 01, 00, 0000000000000000, 0000001f and the text of 31 bytes, 00 0000000000000005 and 0000000000000003 is that of x = 5 after 3 updates;
-- a format of 02 is refused at 8, a device of 01 at 9, the entry number 2^48 at 10, a length of the text past the end of the bytes at 22, a tag of 01 at 53, and a byte behind it all at 70. With another text of 31 bytes it is another program's, whatever stands behind it.
use Rattle.std.specs.Prelude.{◌≡◌, ℕ, ◌+◌, ◌-◌, ◌^◌, ◌<◌, ◌==◌, nat_lt, List, [], ◌∷◌, ◌++◌, length, take, drop, Result, Ok, Err, if◌then◌else◌}
use Rattle.std.specs.Int.{w8, w32, w64}
use Rattle.std.specs.Str.{bytes_eq}
use Rattle.re_outside.specs.Frame.{generation}
use Rattle.re_print.specs.Canonical.{program_text}
use Rattle.re_terms.specs.declared.entry.State.{State}
use Rattle.re_terms.specs.declared.program.Program.{Program}
use Rattle.re_terms.specs.declared.replicated.Shape.{Shape}
use Rattle.re_terms.specs.declared.word.Word.{Word}
use Rattle.re_record.specs.Slots.{kept_slots}
use Rattle.re_record.specs.Spellings.{head_bytes}
use Rattle.re_record.specs.declared.fault.SnapshotFault.{SnapshotFault}
use Rattle.re_record.specs.declared.fault.SnapshotFault.TheVariants as faults
use Rattle.re_record.specs.declared.slots.Slot.{Slot}
use Rattle.re_record.specs.declared.snapshots.Snapshot.{Snapshot}
use Rattle.re_wire.specs.Reading.{◌>>=◌, number_at, below_at, listed, word_at, state_at, format_at}
use Rattle.re_wire.specs.declared.fault.WireFault.{WireFault}
use Rattle.re_wire.specs.declared.fault.WireFault.TheVariants as wire

-- ---- what a function returned is what reading gives

-- a fault of bytes, as one of a snapshot
abbrev pub snapshot_fault : WireFault → SnapshotFault
snapshot_fault wire.Memory = faults.Memory
snapshot_fault (wire.At place) = faults.At place

-- what reading gives, unless memory ran out
abbrev pub GivesSnapshot : Result Snapshot SnapshotFault → Result Snapshot SnapshotFault → Type 0
GivesSnapshot (Err faults.Memory) read = Unit {0}
GivesSnapshot r read = read ≡ r

-- ---- what stands before the text

-- the number of this device
unfoldable pub owner_at : ℕ → List ℕ → ℕ → Result (ℕ × ℕ) ℕ
owner_at device bytes at = do
  owner ← number_at w8 bytes at
  if owner.0 == device then Ok owner else Err at

-- so many bytes, as the place of the first and the place behind the last
unfoldable pub span_at : ℕ → List ℕ → ℕ → Result (ℕ × ℕ) ℕ
span_at count bytes at = if nat_lt (length bytes) (at + count) then Err at else Ok (at, at + count)

-- the text behind its length, as the place of its first byte and the place behind its last
unfoldable pub text_at : List ℕ → ℕ → Result (ℕ × ℕ) ℕ
text_at bytes at = do
  count ← number_at w32 bytes at
  span_at count.0 bytes count.1

-- behind the generation the format and this device, then the entry number and the text
unfoldable pub head_at : ℕ → List ℕ → Result (ℕ × (ℕ × ℕ)) ℕ
head_at device body = do
  format ← format_at body 8
  owner ← owner_at device body format.1
  number ← below_at w64 (2 ^ 48) body owner.1
  text ← text_at body number.1
  Ok (number.0, text)

-- the bytes from one place up to another
abbrev pub span : List ℕ → ℕ × ℕ → List ℕ
span bytes places = take (places.1 - places.0) (drop places.0 bytes)

-- ---- what stands behind it

-- a word for each slot
unfoldable pub words_at : ℕ → List Slot → List ℕ → ℕ → Result (List Word × ℕ) ℕ
words_at symbols [] bytes at = Ok ([], at)
words_at symbols (slot ∷ slots) bytes at = do
  first ← word_at slot.kind slot.fold symbols bytes at
  others ← words_at symbols slots bytes first.1
  Ok (first.0 ∷ others.0, others.1)

-- the words of vars and folds, and a replicated state up to the end of the bytes
unfoldable pub kept_at : Program → Shape → List ℕ → ℕ → Result State ℕ
kept_at p shape bytes at = do
  words ← listed (words_at shape.symbols (kept_slots p.decls.items) bytes at)
  rep ← state_at shape bytes words.1
  if nat_lt rep.1 (length bytes) then Err rep.1 else Ok (record { words = words.0; rep = rep.0 })

-- ---- snapshots

abbrev pub with_number : ℕ → Result State ℕ → Result Snapshot SnapshotFault
with_number number (Ok state) = Ok (record { number = number; state = state })
with_number number (Err place) = Err (faults.At place)

-- where the text is another one, nothing behind it is looked at
abbrev pub behind_head : Program → Shape → List ℕ → Result (ℕ × (ℕ × ℕ)) ℕ → Result Snapshot SnapshotFault
behind_head p shape body (Err place) = Err (faults.At place)
behind_head p shape body (Ok head) = if bytes_eq (span body head.1) (program_text p) then with_number head.0 (kept_at p shape body head.1.1) else Err faults.OtherText

unfoldable pub snapshot_at : Program → Shape → ℕ → List ℕ → Result Snapshot SnapshotFault
snapshot_at p shape device body = behind_head p shape body (head_at device body)

-- ---- another program's text

-- behind the generation, the format, this device and an entry number stands a whole text that isn't the program's
pub record HasOtherText (p : Program) (device : ℕ) (body : List ℕ) : Type 0 where
  pub number : ℕ
  pub text : List ℕ
  pub rest : List ℕ
  pub few : number < 2 ^ 48
  pub short : length text < 2 ^ 32
  pub stands : body ≡ head_bytes device (generation body) number text ++ rest
  pub other : text ≡ program_text p → ⊥
