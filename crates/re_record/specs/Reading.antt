-- Reading records from left to right: a value and the place behind it, or the place of the first field that is cut off or holds a value that isn't allowed.
-- Read against: with `device a; var x: int = 0;` the record 01, 00, 01 0001 00 0000000000000005, 00, 00, 0001 0001 00 0000000000000005 is the turn x = 5 with its change;
-- a count of 00 or 0a entries is refused at 0, a tag of 02 at 1, 41 sets at 2, the set's id 0000 at 3 and its tag at 5, a first fire's id at 15 and an operation's cell at 16, and a byte behind the record at 29.
-- With x set twice the second set is refused at its id. Where no set and no fire is there, a count of no operation is refused.
use Rattle.std.specs.Prelude.{ℕ, ◌+◌, zero, suc, Bool, false, ◌&&◌, ◌||◌, ◌==◌, nat_lt, nat_le, List, [], ◌∷◌, length, Option, Some, None, Result, Ok, Err, slice_get, if◌then◌else◌}
use Rattle.std.specs.Int.{w8, w16, w64, cast_signed}
use Rattle.re_terms.specs.Listed.{Listed}
use Rattle.re_terms.specs.declared.entry.Entry.{Entry}
use Rattle.re_terms.specs.declared.entry.Entry.TheVariants as entry
use Rattle.re_terms.specs.declared.entry.Logged.{Logged}
use Rattle.re_terms.specs.declared.entry.Put.{Put}
use Rattle.re_terms.specs.declared.entry.Turn.{Turn}
use Rattle.re_terms.specs.declared.program.Decl.{Decl}
use Rattle.re_terms.specs.declared.program.Program.{Program}
use Rattle.re_terms.specs.declared.replicated.Act.{Act}
use Rattle.re_terms.specs.declared.replicated.Act.TheVariants as act
use Rattle.re_terms.specs.declared.replicated.RepOp.{RepOp}
use Rattle.re_terms.specs.declared.replicated.RKind.{RKind}
use Rattle.re_terms.specs.declared.replicated.RKind.TheVariants as kind
use Rattle.re_terms.specs.declared.replicated.Shape.{Shape}
use Rattle.re_terms.specs.declared.word.Word.{Word}
use Rattle.re_record.specs.Slots.{slot_from}
use Rattle.re_record.specs.declared.slots.Role.{Role}
use Rattle.re_record.specs.declared.slots.Role.TheVariants as role
use Rattle.re_record.specs.declared.slots.Slot.{Slot}
use Rattle.re_wire.specs.Reading.{◌>>=◌, number_at, below_at, several_at, listed, word_at, state_at}

-- ---- ids with words

-- an id with what its declaration takes, or a refusal of the id
abbrev pub with_slot : Option Slot → ℕ → ℕ × ℕ → Result ((ℕ × Slot) × ℕ) ℕ
with_slot None at id = Err at
with_slot (Some slot) at id = Ok ((id.0, slot), id.1)

-- an id of this role, at least so great
unfoldable pub id_at : List Decl → Role → ℕ → List ℕ → ℕ → Result ((ℕ × Slot) × ℕ) ℕ
id_at decls r least bytes at = do
  id ← number_at w16 bytes at
  with_slot (slot_from decls r least id.0) at id

-- such an id, and a word that its declaration takes
unfoldable pub put_at : List Decl → ℕ → Role → ℕ → List ℕ → ℕ → Result (Put × ℕ) ℕ
put_at decls symbols r least bytes at = do
  id ← id_at decls r least bytes at
  written ← word_at id.0.1.kind id.0.1.fold symbols bytes id.1
  Ok (record { id = id.0.0; word = written.0 }, written.1)

-- so many of them, by strictly ascending ids
unfoldable pub puts_at : List Decl → ℕ → Role → ℕ → ℕ → List ℕ → ℕ → Result (List Put × ℕ) ℕ
puts_at decls symbols r zero least bytes at = Ok ([], at)
puts_at decls symbols r (suc count) least bytes at = do
  first ← put_at decls symbols r least bytes at
  others ← puts_at decls symbols r count (first.0.id + 1) bytes first.1
  Ok (first.0 ∷ others.0, others.1)

-- ---- operations

-- 8 bytes in two's complement
unfoldable pub amount_at : List ℕ → ℕ → Result (Act × ℕ) ℕ
amount_at bytes at = do
  number ← number_at w64 bytes at
  Ok (act.Add (cast_signed w64 number.0), number.1)

-- the tags of the acts that a cell of this kind takes: 0 for an amount, 1 and 2 for an insert and a remove, 3 for a write
abbrev pub is_tag_of : RKind → ℕ → Bool
is_tag_of kind.Counter tag = tag == 0
is_tag_of (kind.Set k) tag = tag == 1 || tag == 2
is_tag_of (kind.Register k start) tag = tag == 3

unfoldable pub tag_at : RKind → List ℕ → ℕ → Result (ℕ × ℕ) ℕ
tag_at k bytes at = do
  tag ← number_at w8 bytes at
  if is_tag_of k tag.0 then Ok tag else Err at

-- an insert or a remove, by its tag
abbrev pub set_act : ℕ → Word → Act
set_act tag w = if tag == 1 then act.Insert w else act.Remove w

-- what stands behind the tag
unfoldable pub operand_at : RKind → ℕ → ℕ → List ℕ → ℕ → Result (Act × ℕ) ℕ
operand_at kind.Counter symbols tag bytes at = amount_at bytes at
operand_at (kind.Set k) symbols tag bytes at = do
  element ← word_at k false symbols bytes at
  Ok (set_act tag element.0, element.1)
operand_at (kind.Register k start) symbols tag bytes at = do
  written ← word_at k false symbols bytes at
  Ok (act.Write written.0, written.1)

-- an act on a cell of this kind
unfoldable pub act_at : RKind → ℕ → List ℕ → ℕ → Result (Act × ℕ) ℕ
act_at k symbols bytes at = do
  tag ← tag_at k bytes at
  operand_at k symbols tag.0 bytes tag.1

-- an act on a cell whose kind is known; else the cell is refused, at its place
abbrev pub act_on_at : Option RKind → ℕ → ℕ → List ℕ → ℕ → Result (Act × ℕ) ℕ
act_on_at None symbols place bytes at = Err place
act_on_at (Some k) symbols place bytes at = act_at k symbols bytes at

-- a cell, and an act that it takes
unfoldable pub operation_at : Shape → List ℕ → ℕ → Result (RepOp × ℕ) ℕ
operation_at shape bytes at = do
  cell ← number_at w8 bytes at
  done ← act_on_at (slice_get shape.cells.items cell.0) shape.symbols at bytes cell.1
  Ok (record { cell = cell.0; act = done.0 }, done.1)

-- ---- turns

-- how many parts of one sort a turn has, behind so many of other sorts: with these at least so many, and at most 64
unfoldable pub count_at : ℕ → ℕ → List ℕ → ℕ → Result (ℕ × ℕ) ℕ
count_at least earlier bytes at = do
  count ← number_at w8 bytes at
  if nat_le least (earlier + count.0) && nat_le (earlier + count.0) 64 then Ok count else Err at

-- the sets or fires of a turn, behind so many other parts
unfoldable pub part_at : List Decl → ℕ → Role → ℕ → List ℕ → ℕ → Result (Listed Put × ℕ) ℕ
part_at decls symbols r earlier bytes at = do
  count ← count_at 0 earlier bytes at
  listed (puts_at decls symbols r count.0 0 bytes count.1)

-- the operations of a turn, behind so many other parts: a turn has at least one part
unfoldable pub operations_at : Shape → ℕ → List ℕ → ℕ → Result (Listed RepOp × ℕ) ℕ
operations_at shape earlier bytes at = do
  count ← count_at 1 earlier bytes at
  listed (several_at (operation_at shape bytes) count.0 count.1)

-- sets, fires and operations
unfoldable pub turn_at : List Decl → Shape → List ℕ → ℕ → Result (Turn × ℕ) ℕ
turn_at decls shape bytes at = do
  sets ← part_at decls shape.symbols role.Set 0 bytes at
  fires ← part_at decls shape.symbols role.Fire (length sets.0.items) bytes sets.1
  ops ← operations_at shape (length sets.0.items + length fires.0.items) bytes fires.1
  Ok (record { sets = sets.0; fires = fires.0; ops = ops.0 }, ops.1)

-- ---- entries

-- what stands behind the tag of a turn
abbrev pub turn_entry_at : List Decl → Shape → List ℕ → ℕ → Result (Entry × ℕ) ℕ
turn_entry_at decls shape bytes at = do
  turn ← turn_at decls shape bytes at
  Ok (entry.Turn turn.0, turn.1)

-- what stands behind the tag of a merge
abbrev pub merge_entry_at : Shape → List ℕ → ℕ → Result (Entry × ℕ) ℕ
merge_entry_at shape bytes at = do
  state ← state_at shape bytes at
  Ok (entry.Merge state.0, state.1)

-- a tag, 0 for a turn and 1 for a merge, and what stands behind it
unfoldable pub entry_at : List Decl → Shape → List ℕ → ℕ → Result (Entry × ℕ) ℕ
entry_at decls shape bytes at = do
  tag ← below_at w8 2 bytes at
  if tag.0 == 0 then turn_entry_at decls shape bytes tag.1 else merge_entry_at shape bytes tag.1

-- how many changes, at most 256, and each of them
unfoldable pub changes_at : List Decl → ℕ → List ℕ → ℕ → Result (Listed Put × ℕ) ℕ
changes_at decls symbols bytes at = do
  count ← below_at w16 257 bytes at
  listed (puts_at decls symbols role.Change count.0 0 bytes count.1)

-- an entry, and its changes
unfoldable pub logged_at : List Decl → Shape → List ℕ → ℕ → Result (Logged × ℕ) ℕ
logged_at decls shape bytes at = do
  done ← entry_at decls shape bytes at
  changes ← changes_at decls shape.symbols bytes done.1
  Ok (record { entry = done.0; changes = changes.0 }, changes.1)

-- ---- records

-- how many entries: 1 to 9
unfoldable pub entry_count_at : List ℕ → ℕ → Result (ℕ × ℕ) ℕ
entry_count_at bytes at = do
  count ← number_at w8 bytes at
  if nat_le 1 count.0 && nat_le count.0 9 then Ok count else Err at

-- the entries of a record, up to the end of the bytes
unfoldable pub record_at : Program → Shape → List ℕ → Result (Listed Logged) ℕ
record_at p shape bytes = do
  count ← entry_count_at bytes 0
  entries ← listed (several_at (logged_at p.decls.items shape bytes) count.0 count.1)
  if nat_lt entries.1 (length bytes) then Err entries.1 else Ok entries.0
