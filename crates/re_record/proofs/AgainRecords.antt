-- Records that are written are read again.
use Rattle.std.proofs.Common.{◌≡◌, ℕ, ℤ, pos, negsuc, zero, suc, ◌+◌, ◌-◌, ◌^◌, ◌<◌, ◌≤◌, Bool, true, false, ltb, leb, eqb, List, [], ◌∷◌, ◌++◌, length, drop, Option, None, Some, Result, Ok, refl, sym, ap, subst, ◌∙◌, arith, inl}
use Rattle.std.specs.Prelude.{◌&&◌, slice_get}
use Rattle.std.specs.Int.{w8, w16, w64, to_be_bytes, cast_signed, cast_unsigned}
use Rattle.std.specs.Int.RustNames.{FitsSigned}
use Rattle.std.specs.List.{flat_map}
use Rattle.std.specs.Option.{option_map_or}
use Rattle.std.proofs.lemmas.Bool.{and_parts, and_from, eq-eqb, lt-ltb, le-ltb, le-leb, leb-true}
use Rattle.std.proofs.lemmas.Int.{to_z-of_z}
use Rattle.std.proofs.lemmas.List.{append-nil, drop_all}
use Rattle.std.proofs.lemmas.List.Concat.{flat_map-cons}
use Rattle.re_record.specs.Reading.{amount_at, is_tag_of, tag_at, set_act, operand_at, act_at, act_on_at, operation_at, count_at, part_at, operations_at, turn_at, turn_entry_at, merge_entry_at, entry_at, changes_at, logged_at, entry_count_at, record_at, puts_at}
use Rattle.re_record.specs.Spellings.{put_bytes, puts_bytes, act_bytes, operation_bytes, operations_bytes, turn_bytes, entry_bytes, changes_bytes, logged_bytes, record_bytes}
use Rattle.re_record.specs.declared.slots.Role.{Role}
use Rattle.re_record.specs.declared.slots.Role.TheVariants as role
use Rattle.re_record.proofs.AgainPuts.{puts_read}
use Rattle.re_record.proofs.Roles.{small_ids}
use Rattle.re_record.proofs.TakesPuts.{ArePuts}
use Rattle.re_record.proofs.TakesRecords.{Each, act_tag, behind_act, act_is, act_tag_below, AreOperations, TurnParts, EntryParts, LoggedParts}
use Rattle.re_terms.specs.Admission.{is_act_of, takes_operation, part_count}
use Rattle.re_terms.specs.Arithmetic.{is_word_number}
use Rattle.re_terms.specs.Listed.{Listed, plain}
use Rattle.re_terms.specs.Shapes.{IsShape}
use Rattle.re_terms.specs.Spellings.{state_bytes, word_bytes}
use Rattle.re_terms.specs.declared.entry.Entry.{Entry}
use Rattle.re_terms.specs.declared.entry.Entry.TheVariants as entry
use Rattle.re_terms.specs.declared.entry.Logged.{Logged}
use Rattle.re_terms.specs.declared.entry.Put.{Put}
use Rattle.re_terms.specs.declared.entry.Turn.{Turn}
use Rattle.re_terms.specs.declared.program.Decl.{Decl}
use Rattle.re_terms.specs.declared.program.Program.{Program}
use Rattle.re_terms.specs.declared.replicated.Act.{Act}
use Rattle.re_terms.specs.declared.replicated.Act.TheVariants as act
use Rattle.re_terms.specs.declared.replicated.RepOp.{RepOp}
use Rattle.re_terms.specs.declared.replicated.RKind.{RKind}
use Rattle.re_terms.specs.declared.replicated.RKind.TheVariants as kind
use Rattle.re_terms.specs.declared.replicated.Shape.{Shape}
use Rattle.re_terms.specs.declared.word.Kind.{Kind}
use Rattle.re_terms.specs.declared.word.Word.{Word}
use Rattle.re_wire.proofs.AgainStates.{state_read}
use Rattle.re_wire.proofs.AgainWords.{word_read}
use Rattle.re_wire.proofs.Takes.{Takes, Takes-first, Takes-second, byte_is, wide8, wide16, wide64, number_again, below_again}
use Rattle.re_wire.specs.Reading.{number_at, below_at, listed, several_at, state_at, word_at}

-- ---- one behind the other

pub several_read : {X : Type 0} (f : X → List ℕ) (P : X → Type 0) (read : ℕ → Result (X × ℕ) ℕ) (bytes : List ℕ) → ((at : ℕ) (x : X) (place : ℕ) → P x → Takes bytes at (f x) place → read at ≡ Ok (x, place))
    → (at : ℕ) (xs : List X) (place : ℕ) → Each P xs → Takes bytes at (flat_map f xs) place → several_at read (length xs) at ≡ Ok (xs, place)
unfolding several_at
several_read f P read bytes one at [] place each t = let place_is : at ≡ place = omega (arith, t.place_is) in ap (λ (n : ℕ). Ok ([], n)) place_is
several_read f P read bytes one at (x ∷ xs) place each t =
    let whole : Takes bytes at (f x ++ flat_map f xs) place = rw flat_map-cons at t in
    let mid = at + length (f x) in
    let first = one at x mid each.0 (Takes-first bytes at (f x) (flat_map f xs) place whole) in
    let others = several_read f P read bytes one mid xs place each.1 (Takes-second bytes at (f x) (flat_map f xs) place whole) in
    rw (first, others) refl

-- the byte that stands first, and what stands behind it
pub byte_first : (bytes : List ℕ) (at n : ℕ) (rest : List ℕ) (place : ℕ) → n < 256 → Takes bytes at (n ∷ rest) place → (number_at w8 bytes at ≡ Ok (n, at + 1)) × Takes bytes (at + 1) rest place
byte_first bytes at n rest place lt t =
    let first : Takes bytes at (to_be_bytes w8 n) (at + 1) = subst (λ (l : List ℕ). Takes bytes at l (at + 1)) (sym (byte_is n lt)) (Takes-first bytes at (n ∷ []) rest place t) in
    (number_again w8 (2 ^ 8) wide8 bytes at n (at + 1) lt first, Takes-second bytes at (n ∷ []) rest place t)

-- ---- acts

amount_fits : (z : ℤ) → is_word_number z ≡ true → FitsSigned w64 z
amount_fits (pos n) h = let small : n ≤ 9223372036854775807 = leb-true _ _ h in record { sfits = omega arith }
amount_fits (negsuc n) h = let both = and_parts (leb n 9223372036854775807) true h in let small : n ≤ 9223372036854775807 = leb-true _ _ both.0 in record { sfits = omega arith }

bits_below : (z : ℤ) → FitsSigned w64 z → cast_unsigned w64 z < 2 ^ 64
bits_below (pos n) h = omega (arith, h.sfits)
bits_below (negsuc n) h = omega arith

amount_read : (bytes : List ℕ) (at : ℕ) (z : ℤ) (place : ℕ) → is_word_number z ≡ true → Takes bytes at (to_be_bytes w64 (cast_unsigned w64 z)) place → amount_at bytes at ≡ Ok (act.Add z, place)
unfolding amount_at
amount_read bytes at z place is t =
    let fits = amount_fits z is in
    rw (number_again w64 (2 ^ 64) wide64 bytes at (cast_unsigned w64 z) place (bits_below z fits) t) (ap (λ (y : ℤ). Ok (act.Add y, place)) (to_z-of_z w64 z fits))

-- an act with its tag is one that the kind takes
tag_fits : (symbols : ℕ) (k : RKind) (a : Act) → is_act_of symbols k a ≡ true → is_tag_of k (act_tag a) ≡ true
tag_fits symbols kind.Counter (act.Add z) is = refl
tag_fits symbols (kind.Set k) (act.Insert w) is = refl
tag_fits symbols (kind.Set k) (act.Remove w) is = refl
tag_fits symbols (kind.Register k start) (act.Write w) is = refl
tag_fits symbols kind.Counter (act.Insert w) is = absurd cc
tag_fits symbols kind.Counter (act.Remove w) is = absurd cc
tag_fits symbols kind.Counter (act.Write w) is = absurd cc
tag_fits symbols (kind.Set k) (act.Add z) is = absurd cc
tag_fits symbols (kind.Set k) (act.Write w) is = absurd cc
tag_fits symbols (kind.Register k start) (act.Add z) is = absurd cc
tag_fits symbols (kind.Register k start) (act.Insert w) is = absurd cc
tag_fits symbols (kind.Register k start) (act.Remove w) is = absurd cc

operand_read : (symbols : ℕ) (k : RKind) (bytes : List ℕ) (at : ℕ) (a : Act) (place : ℕ) → symbols ≤ 2 ^ 16 → is_act_of symbols k a ≡ true → Takes bytes at (behind_act a) place → operand_at k symbols (act_tag a) bytes at ≡ Ok (a, place)
unfolding operand_at
operand_read symbols kind.Counter bytes at (act.Add z) place few is t = amount_read bytes at z place is t
operand_read symbols (kind.Set k) bytes at (act.Insert w) place few is t = rw (word_read k false symbols bytes at w place few (inl is) t) refl
operand_read symbols (kind.Set k) bytes at (act.Remove w) place few is t = rw (word_read k false symbols bytes at w place few (inl is) t) refl
operand_read symbols (kind.Register k start) bytes at (act.Write w) place few is t = rw (word_read k false symbols bytes at w place few (inl is) t) refl
operand_read symbols kind.Counter bytes at (act.Insert w) place few is t = absurd cc
operand_read symbols kind.Counter bytes at (act.Remove w) place few is t = absurd cc
operand_read symbols kind.Counter bytes at (act.Write w) place few is t = absurd cc
operand_read symbols (kind.Set k) bytes at (act.Add z) place few is t = absurd cc
operand_read symbols (kind.Set k) bytes at (act.Write w) place few is t = absurd cc
operand_read symbols (kind.Register k start) bytes at (act.Add z) place few is t = absurd cc
operand_read symbols (kind.Register k start) bytes at (act.Insert w) place few is t = absurd cc
operand_read symbols (kind.Register k start) bytes at (act.Remove w) place few is t = absurd cc

act_read : (symbols : ℕ) (k : RKind) (bytes : List ℕ) (at : ℕ) (a : Act) (place : ℕ) → symbols ≤ 2 ^ 16 → is_act_of symbols k a ≡ true → Takes bytes at (act_bytes a) place → act_at k symbols bytes at ≡ Ok (a, place)
unfolding act_at tag_at
act_read symbols k bytes at a place few is t =
    let b = byte_first bytes at (act_tag a) (behind_act a) place (act_tag_below a) (subst (λ (l : List ℕ). Takes bytes at l place) (act_is a) t) in
    rw (b.0, tag_fits symbols k a is) (operand_read symbols k bytes (at + 1) a place few is b.1)

-- ---- operations

kind_found : (found : Option RKind) (symbols : ℕ) (a : Act) → option_map_or (λ k. is_act_of symbols k a) found false ≡ true → (k : RKind) × (found ≡ Some k) × (is_act_of symbols k a ≡ true)
kind_found None symbols a h = absurd cc
kind_found (Some k) symbols a h = (k, refl, h)

-- a place that is found is below a bound that no list passes
cell_below : (kinds : List RKind) (cell : ℕ) (k : RKind) → slice_get kinds cell ≡ Some k → cell < length kinds
cell_below [] cell k e = absurd cc
cell_below (x ∷ kinds) zero k e = omega arith
cell_below (x ∷ kinds) (suc cell) k e = let h = cell_below kinds cell k e in omega arith

operation_read : (shape : Shape) (bytes : List ℕ) (at : ℕ) (op : RepOp) (place : ℕ) → IsShape shape → takes_operation shape.symbols shape.cells.items op ≡ true → Takes bytes at (operation_bytes op) place → operation_at shape bytes at ≡ Ok (op, place)
unfolding operation_at operation_bytes
operation_read shape bytes at op place is_shape takes t =
    let found = kind_found (slice_get shape.cells.items op.cell) shape.symbols op.act takes in
    let small : op.cell < 256 = omega (arith, cell_below shape.cells.items op.cell found.0 found.1, is_shape.cells) in
    let b = byte_first bytes at op.cell (act_bytes op.act) place small t in
    let done = act_read shape.symbols found.0 bytes (at + 1) op.act place (omega (arith, is_shape.symbols)) found.2 b.1 in
    rw (b.0, found.1, done) refl

-- ---- turns

count_read : (least earlier : ℕ) (bytes : List ℕ) (at n : ℕ) (rest : List ℕ) (place : ℕ) → least ≤ earlier + n → earlier + n ≤ 64 → Takes bytes at (n ∷ rest) place → (count_at least earlier bytes at ≡ Ok (n, at + 1)) × Takes bytes (at + 1) rest place
unfolding count_at
count_read least earlier bytes at n rest place some few t =
    let b = byte_first bytes at n rest place (omega arith) t in
    let test : (leb least (earlier + n) && leb (earlier + n) 64) ≡ true = and_from _ _ (le-leb _ _ some) (le-leb _ _ few) in
    (rw (b.0, test) refl, b.1)

part_read : (decls : List Decl) (symbols : ℕ) (r : Role) (earlier : ℕ) (bytes : List ℕ) (at : ℕ) (puts : Listed Put) (place : ℕ) → length decls ≤ 512 → symbols ≤ 2 ^ 16 → puts.spare ≡ 0 → earlier + length puts.items ≤ 64 → ArePuts decls symbols r 0 puts.items
    → Takes bytes at (puts_bytes puts.items) place → part_at decls symbols r earlier bytes at ≡ Ok (puts, place)
unfolding part_at puts_bytes
part_read decls symbols r earlier bytes at puts place short few plain_is within each t =
    let c = count_read 0 earlier bytes at (length puts.items) (flat_map put_bytes puts.items) place (omega arith) within t in
    let read = puts_read decls symbols r 0 bytes (at + 1) puts.items place few (small_ids decls symbols r 0 puts.items short each) each c.1 in
    let whole : 0 ≡ puts.spare = sym plain_is in
    rw (c.0, read) (λ i. Ok (record { items = puts.items; spare = whole i }, place))

operations_read : (shape : Shape) (earlier : ℕ) (bytes : List ℕ) (at : ℕ) (ops : Listed RepOp) (place : ℕ) → IsShape shape → ops.spare ≡ 0 → 1 ≤ earlier + length ops.items → earlier + length ops.items ≤ 64 → AreOperations shape ops.items
    → Takes bytes at (operations_bytes ops.items) place → operations_at shape earlier bytes at ≡ Ok (ops, place)
unfolding operations_at operations_bytes
operations_read shape earlier bytes at ops place is_shape plain_is some within each t =
    let c = count_read 1 earlier bytes at (length ops.items) (flat_map operation_bytes ops.items) place some within t in
    let read = several_read operation_bytes (λ op. takes_operation shape.symbols shape.cells.items op ≡ true) (operation_at shape bytes) bytes (λ mid op behind takes there. operation_read shape bytes mid op behind is_shape takes there) (at + 1) ops.items place each c.1 in
    let whole : 0 ≡ ops.spare = sym plain_is in
    rw (c.0, read) (λ i. Ok (record { items = ops.items; spare = whole i }, place))

turn_read : (decls : List Decl) (shape : Shape) (bytes : List ℕ) (at : ℕ) (turn : Turn) (place : ℕ) → length decls ≤ 512 → IsShape shape → TurnParts decls shape turn → Takes bytes at (turn_bytes turn) place → turn_at decls shape bytes at ≡ Ok (turn, place)
unfolding turn_at turn_bytes
turn_read decls shape bytes at turn place short is_shape parts t =
    let xs = puts_bytes turn.sets.items in
    let ys = puts_bytes turn.fires.items in
    let zs = operations_bytes turn.ops.items in
    let front = Takes-first bytes at (xs ++ ys) zs place t in
    let last : Takes bytes (at + length (xs ++ ys)) zs place = Takes-second bytes at (xs ++ ys) zs place t in
    let first = Takes-first bytes at xs ys (at + length (xs ++ ys)) front in
    let second = Takes-second bytes at xs ys (at + length (xs ++ ys)) front in
    let few : shape.symbols ≤ 2 ^ 16 = omega (arith, is_shape.symbols) in
    let sets = part_read decls shape.symbols role.Set 0 bytes at turn.sets (at + length xs) short few parts.plain.0 (omega (arith, parts.few)) parts.sets first in
    let fires = part_read decls shape.symbols role.Fire (length turn.sets.items) bytes (at + length xs) turn.fires (at + length (xs ++ ys)) short few parts.plain.1 (omega (arith, parts.few)) parts.fires second in
    let ops = operations_read shape (length turn.sets.items + length turn.fires.items) bytes (at + length (xs ++ ys)) turn.ops place is_shape parts.plain.2 parts.some parts.few parts.ops last in
    rw (sets, fires, ops) refl

-- ---- entries

entry_read : (decls : List Decl) (shape : Shape) (bytes : List ℕ) (at : ℕ) (e : Entry) (place : ℕ) → length decls ≤ 512 → IsShape shape → EntryParts decls shape e → Takes bytes at (entry_bytes shape.devices e) place → entry_at decls shape bytes at ≡ Ok (e, place)
unfolding entry_at below_at
entry_read decls shape bytes at (entry.Turn turn) place short is_shape parts t =
    let b = byte_first bytes at 0 (turn_bytes turn) place (omega arith) t in
    rw (b.0, turn_read decls shape bytes (at + 1) turn place short is_shape parts b.1) refl
entry_read decls shape bytes at (entry.Merge r) place short is_shape parts t =
    let b = byte_first bytes at 1 (state_bytes shape.devices r) place (omega arith) t in
    rw (b.0, state_read shape bytes (at + 1) r place is_shape parts b.1) refl

changes_read : (decls : List Decl) (symbols : ℕ) (bytes : List ℕ) (at : ℕ) (puts : Listed Put) (place : ℕ) → length decls ≤ 512 → symbols ≤ 2 ^ 16 → puts.spare ≡ 0 → length puts.items ≤ 256 → ArePuts decls symbols role.Change 0 puts.items
    → Takes bytes at (changes_bytes puts.items) place → changes_at decls symbols bytes at ≡ Ok (puts, place)
unfolding changes_at changes_bytes
changes_read decls symbols bytes at puts place short few plain_is within each t =
    let n = length puts.items in
    let rest = flat_map put_bytes puts.items in
    let count : below_at w16 257 bytes at ≡ Ok (n, at + 2) = below_again w16 (2 ^ 16) wide16 257 bytes at n (at + 2) (omega arith) (omega arith) (Takes-first bytes at (to_be_bytes w16 n) rest place t) in
    let read = puts_read decls symbols role.Change 0 bytes (at + 2) puts.items place few (small_ids decls symbols role.Change 0 puts.items short each) each (Takes-second bytes at (to_be_bytes w16 n) rest place t) in
    let whole : 0 ≡ puts.spare = sym plain_is in
    rw (count, read) (λ i. Ok (record { items = puts.items; spare = whole i }, place))

logged_read : (decls : List Decl) (shape : Shape) (bytes : List ℕ) (at : ℕ) (l : Logged) (place : ℕ) → length decls ≤ 512 → IsShape shape → LoggedParts decls shape l → Takes bytes at (logged_bytes shape.devices l) place → logged_at decls shape bytes at ≡ Ok (l, place)
unfolding logged_at logged_bytes
logged_read decls shape bytes at l place short is_shape parts t =
    let xs = entry_bytes shape.devices l.entry in
    let ys = changes_bytes l.changes.items in
    let done = entry_read decls shape bytes at l.entry (at + length xs) short is_shape parts.entry (Takes-first bytes at xs ys place t) in
    let changes = changes_read decls shape.symbols bytes (at + length xs) l.changes place short (omega (arith, is_shape.symbols)) parts.plain parts.few parts.changes (Takes-second bytes at xs ys place t) in
    rw (done, changes) refl

-- ---- records

pub record_again : (p : Program) (shape : Shape) (bytes : List ℕ) (entries : List Logged) → length p.decls.items ≤ 512 → IsShape shape → Each (LoggedParts p.decls.items shape) entries → 1 ≤ length entries → length entries ≤ 9
    → bytes ≡ record_bytes shape.devices entries → record_at p shape bytes ≡ Ok (plain entries)
unfolding record_at record_bytes entry_count_at
record_again p shape bytes entries short is_shape each some few e =
    let rest = flat_map (logged_bytes shape.devices) entries in
    let nothing : drop (length bytes) bytes ≡ [] = drop_all (length bytes) bytes (omega arith) in
    let whole : Takes bytes 0 (length entries ∷ rest) (length bytes) = record { parts = e ∙ sym (append-nil (length entries ∷ rest)) ∙ ap (λ (r : List ℕ). (length entries ∷ rest) ++ r) (sym nothing); place_is = omega (arith, ap (λ (l : List ℕ). length l) e); bounded = omega arith } in
    let b = byte_first bytes 0 (length entries) rest (length bytes) (omega arith) whole in
    let test : (leb 1 (length entries) && leb (length entries) 9) ≡ true = and_from _ _ (le-leb _ _ some) (le-leb _ _ few) in
    let read = several_read (logged_bytes shape.devices) (LoggedParts p.decls.items shape) (logged_at p.decls.items shape bytes) bytes (λ mid l behind parts there. logged_read p.decls.items shape bytes mid l behind short is_shape parts there) 1 entries (length bytes) each b.1 in
    let end : ltb (length bytes) (length bytes) ≡ false = le-ltb _ _ (omega arith) in
    rw (b.0, test, read, end) refl
