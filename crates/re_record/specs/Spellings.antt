-- The bytes of records and snapshots. Numbers are unsigned and big-endian.
-- Read against: with `device a; var x: int = 0;` the turn x = 5, which changes x to 5, is the record 01, 00, 01 0001 00 0000000000000005, 00, 00, 0001 0001 00 0000000000000005: one entry; a turn; its one set; no fire; no operation; its one change.
-- The snapshot of that program before any entry, with generation 1, is 0000000000000001, 01, 00, 0000000000000000, 0000001f and the text of 31 bytes, 00 0000000000000000 and 0000000000000000:
-- generation, format, device, entry number, length of the text, the word of x and the vector.
use Rattle.std.specs.Prelude.{ℕ, List, [], ◌∷◌, ◌++◌, length}
use Rattle.std.specs.Int.{w16, w32, w64, to_be_bytes, cast_unsigned}
use Rattle.std.specs.List.{flat_map}
use Rattle.re_print.specs.Canonical.{program_text}
use Rattle.re_terms.specs.Shapes.{shape_of}
use Rattle.re_terms.specs.Spellings.{word_bytes, state_bytes}
use Rattle.re_terms.specs.declared.entry.Entry.{Entry}
use Rattle.re_terms.specs.declared.entry.Entry.TheVariants as entry
use Rattle.re_terms.specs.declared.entry.Logged.{Logged}
use Rattle.re_terms.specs.declared.entry.Put.{Put}
use Rattle.re_terms.specs.declared.entry.State.{State}
use Rattle.re_terms.specs.declared.entry.Turn.{Turn}
use Rattle.re_terms.specs.declared.program.Program.{Program}
use Rattle.re_terms.specs.declared.replicated.Act.{Act}
use Rattle.re_terms.specs.declared.replicated.Act.TheVariants as act
use Rattle.re_terms.specs.declared.replicated.RepOp.{RepOp}

-- ---- records

-- an id, and its word
unfoldable pub put_bytes : Put → List ℕ
put_bytes put = to_be_bytes w16 put.id ++ word_bytes put.word

-- how many there are, in one byte, and each of them
unfoldable pub puts_bytes : List Put → List ℕ
puts_bytes puts = length puts ∷ flat_map put_bytes puts

-- a tag, and an amount of 8 bytes in two's complement or a word
unfoldable pub act_bytes : Act → List ℕ
act_bytes (act.Add amount) = 0 ∷ to_be_bytes w64 (cast_unsigned w64 amount)
act_bytes (act.Insert w) = 1 ∷ word_bytes w
act_bytes (act.Remove w) = 2 ∷ word_bytes w
act_bytes (act.Write w) = 3 ∷ word_bytes w

-- a cell by its place among the replicated ones, and the act
unfoldable pub operation_bytes : RepOp → List ℕ
operation_bytes op = op.cell ∷ act_bytes op.act

-- how many there are, in one byte, and each of them
unfoldable pub operations_bytes : List RepOp → List ℕ
operations_bytes ops = length ops ∷ flat_map operation_bytes ops

-- sets, fires and operations
unfoldable pub turn_bytes : Turn → List ℕ
turn_bytes t = puts_bytes t.sets.items ++ puts_bytes t.fires.items ++ operations_bytes t.ops.items

-- a tag, and a turn, or for a merge the replicated state that is taken in
abbrev pub entry_bytes : ℕ → Entry → List ℕ
entry_bytes devices (entry.Turn t) = 0 ∷ turn_bytes t
entry_bytes devices (entry.Merge r) = 1 ∷ state_bytes devices r

-- how many changes there are, in two bytes, and each of them
unfoldable pub changes_bytes : List Put → List ℕ
changes_bytes puts = to_be_bytes w16 (length puts) ++ flat_map put_bytes puts

-- an entry, and its changes
unfoldable pub logged_bytes : ℕ → Logged → List ℕ
logged_bytes devices l = entry_bytes devices l.entry ++ changes_bytes l.changes.items

-- how many entries there are, in one byte, and each of them
unfoldable pub record_bytes : ℕ → List Logged → List ℕ
record_bytes devices entries = length entries ∷ flat_map (logged_bytes devices) entries

-- ---- snapshots

-- generation, format, device and entry number
unfoldable pub owner_bytes : ℕ → ℕ → ℕ → List ℕ
owner_bytes device generation number = to_be_bytes w64 generation ++ (1 ∷ device ∷ to_be_bytes w64 number)

-- a text behind its length
unfoldable pub text_bytes : List ℕ → List ℕ
text_bytes text = to_be_bytes w32 (length text) ++ text

-- what stands before the words
unfoldable pub head_bytes : ℕ → ℕ → ℕ → List ℕ → List ℕ
head_bytes device generation number text = owner_bytes device generation number ++ text_bytes text

-- the words of vars and folds in order of declaration, and the replicated state
unfoldable pub kept_bytes : ℕ → State → List ℕ
kept_bytes devices s = flat_map word_bytes s.words.items ++ state_bytes devices s.rep

-- a snapshot: the program by its canonical text, and a device's state after so many entries
unfoldable pub snapshot_bytes : Program → ℕ → ℕ → ℕ → State → List ℕ
snapshot_bytes p device generation number s = head_bytes device generation number (program_text p) ++ kept_bytes (shape_of p).devices s
