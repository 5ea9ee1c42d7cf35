-- How many bytes entries, records and snapshots take at most.
use Rattle.std.proofs.Common.{◌≡◌, ℕ, zero, suc, ◌+◌, ◌*◌, ◌^◌, ◌<◌, ◌≤◌, List, [], ◌∷◌, ◌++◌, length, take, get_or, refl, sym, ap, ◌∙◌, append_assoc, arith, length-append}
use Rattle.std.specs.Prelude.{count_by}
use Rattle.std.specs.Int.{w16, w32, w64, to_be_bytes, from_be_bytes, cast_unsigned}
use Rattle.std.specs.List.{All, flat_map}
use Rattle.std.proofs.lemmas.List.{take_at}
use Rattle.std.proofs.lemmas.List.Concat.{flat_map-append}
use Rattle.re_outside.specs.Frame.{IsGeneration, generation}
use Rattle.re_print.specs.Canonical.{program_text}
use Rattle.re_record.specs.Logs.{HasBytes, HasEntryBytes, IsTurn}
use Rattle.re_record.specs.Spellings.{put_bytes, puts_bytes, act_bytes, operation_bytes, operations_bytes, turn_bytes, entry_bytes, changes_bytes, logged_bytes, record_bytes, owner_bytes, text_bytes, head_bytes, kept_bytes, snapshot_bytes}
use Rattle.re_record.specs.declared.limits.TheConstants.{ENTRY_BYTES, TURN_BYTES, RECORD_BYTES, SNAPSHOT_BYTES}
use Rattle.re_terms.proofs.ProgramShapes.{program_shape}
use Rattle.re_terms.proofs.StateLengths.{state_long}
use Rattle.re_terms.specs.Admission.{part_count}
use Rattle.re_terms.specs.Programs.{IsProgram}
use Rattle.re_terms.specs.Shapes.{FitsShape, IsShape, shape_of}
use Rattle.re_terms.specs.Spellings.{word_bytes, state_bytes}
use Rattle.re_terms.specs.WordKinds.{IsStateOf}
use Rattle.re_terms.specs.declared.entry.Entry.{Entry}
use Rattle.re_terms.specs.declared.entry.Entry.TheVariants as entry
use Rattle.re_terms.specs.declared.entry.Logged.{Logged}
use Rattle.re_terms.specs.declared.entry.Put.{Put}
use Rattle.re_terms.specs.declared.entry.State.{State}
use Rattle.re_terms.specs.declared.entry.Turn.{Turn}
use Rattle.re_terms.specs.declared.program.Program.{Program}
use Rattle.re_terms.specs.declared.replicated.Act.{Act}
use Rattle.re_terms.specs.declared.replicated.Act.TheVariants as act
use Rattle.re_terms.specs.declared.replicated.RepOp.{RepOp}
use Rattle.re_terms.specs.declared.replicated.Shape.{Shape}
use Rattle.re_terms.specs.declared.word.Word.{Word}
use Rattle.re_terms.specs.declared.word.Word.TheVariants as word
use Rattle.re_wire.proofs.Takes.{wide64}

word_long : (w : Word) → length (word_bytes w) ≤ 9
unfolding word_bytes
word_long (word.Int z) = omega arith
word_long (word.Bool b) = omega arith
word_long (word.Sym n) = omega arith
word_long (word.Fault code) = omega arith

pieces_long : {X : Type 0} (f : X → List ℕ) (m : ℕ) (xs : List X) → ((x : X) → length (f x) ≤ m) → length (flat_map f xs) ≤ length xs * m
pieces_long f m [] each = omega arith
pieces_long f m (x ∷ xs) each = omega (arith, each x, pieces_long f m xs each, length-append (f x) (flat_map f xs))

put_long : (put : Put) → length (put_bytes put) ≤ 11
unfolding put_bytes
put_long put = omega (arith, word_long put.word, length-append (to_be_bytes w16 put.id) (word_bytes put.word))

puts_long : (puts : List Put) → length (puts_bytes puts) ≤ 1 + length puts * 11
unfolding puts_bytes
puts_long puts = let h = pieces_long put_bytes 11 puts put_long in omega (arith, h)

act_long : (a : Act) → length (act_bytes a) ≤ 10
unfolding act_bytes
act_long (act.Add n) = omega arith
act_long (act.Insert w) = omega (arith, word_long w)
act_long (act.Remove w) = omega (arith, word_long w)
act_long (act.Write w) = omega (arith, word_long w)

operation_long : (op : RepOp) → length (operation_bytes op) ≤ 11
unfolding operation_bytes
operation_long op = omega (arith, act_long op.act)

operations_long : (ops : List RepOp) → length (operations_bytes ops) ≤ 1 + length ops * 11
unfolding operations_bytes
operations_long ops = let h = pieces_long operation_bytes 11 ops operation_long in omega (arith, h)

turn_long : (t : Turn) → part_count t ≤ 64 → length (turn_bytes t) ≤ 707
unfolding turn_bytes
turn_long t few =
    let xs = puts_bytes t.sets.items in
    let ys = puts_bytes t.fires.items in
    let zs = operations_bytes t.ops.items in
    omega (arith, few, puts_long t.sets.items, puts_long t.fires.items, operations_long t.ops.items, length-append (xs ++ ys) zs, length-append xs ys)

changes_long : (puts : List Put) → length puts ≤ 256 → length (changes_bytes puts) ≤ 2818
unfolding changes_bytes
changes_long puts few = let h = pieces_long put_bytes 11 puts put_long in omega (arith, h, length-append (to_be_bytes w16 (length puts)) (flat_map put_bytes puts))

entry_long : (shape : Shape) (e : Entry) → IsShape shape → HasEntryBytes shape e → length (entry_bytes shape.devices e) ≤ 26499
entry_long shape (entry.Turn t) is has = let h = turn_long t has in omega (arith, h)
entry_long shape (entry.Merge r) is has = let h : length (state_bytes shape.devices r) ≤ 26498 = state_long shape r is has in omega (arith, h)

turn_entry_long : (shape : Shape) (e : Entry) → HasEntryBytes shape e → IsTurn e → length (entry_bytes shape.devices e) ≤ 708
turn_entry_long shape (entry.Turn t) has is = let h = turn_long t has in omega (arith, h)
turn_entry_long shape (entry.Merge r) has is = absurd is

pub logged_long : (shape : Shape) (l : Logged) → IsShape shape → HasBytes shape l → length (logged_bytes shape.devices l) ≤ 29317
unfolding logged_bytes
logged_long shape l is has = omega (arith, entry_long shape l.entry is has.entry, changes_long l.changes.items has.changes, length-append (entry_bytes shape.devices l.entry) (changes_bytes l.changes.items))

pub logged_turn_long : (shape : Shape) (l : Logged) → HasBytes shape l → IsTurn l.entry → length (logged_bytes shape.devices l) ≤ 3526
unfolding logged_bytes
logged_turn_long shape l has is = omega (arith, turn_entry_long shape l.entry has.entry is, changes_long l.changes.items has.changes, length-append (entry_bytes shape.devices l.entry) (changes_bytes l.changes.items))

turns_long : (shape : Shape) (turns : List Logged) → All (HasBytes shape) turns → All (λ l. IsTurn l.entry) turns → length (flat_map (logged_bytes shape.devices) turns) ≤ length turns * 3526
turns_long shape [] has are = omega arith
turns_long shape (l ∷ turns) has are =
    let first = logged_turn_long shape l (has 0 l (omega arith)) (are 0 l (omega arith)) in
    let others = turns_long shape turns (λ k d lt. has (suc k) d (omega arith)) (λ k d lt. are (suc k) d (omega arith)) in
    omega (arith, first, others, length-append (logged_bytes shape.devices l) (flat_map (logged_bytes shape.devices) turns))

pub record_long : (shape : Shape) (turns : List Logged) (last : Logged) → IsShape shape → length turns ≤ 8 → All (HasBytes shape) turns → All (λ l. IsTurn l.entry) turns → HasBytes shape last → length (record_bytes shape.devices (turns ++ last ∷ [])) ≤ 57526
unfolding record_bytes
record_long shape turns last is few has are last_has =
    let f = logged_bytes shape.devices in
    let whole = ap (λ (l : List ℕ). length l) (flat_map-append f turns (last ∷ [])) ∙ length-append (flat_map f turns) (flat_map f (last ∷ [])) in
    omega (arith, whole, turns_long shape turns has are, logged_long shape last is last_has, length-append (f last) [], few)

pub record_some : (devices : ℕ) (entries : List Logged) → 1 ≤ length (record_bytes devices entries)
unfolding record_bytes
record_some devices entries = omega arith

pub snapshot_long : (p : Program) (device g number : ℕ) (s : State) → IsProgram p → length (program_text p) ≤ 65536 → IsStateOf p s → length (snapshot_bytes p device g number s) ≤ 94360
unfolding snapshot_bytes head_bytes owner_bytes text_bytes kept_bytes
snapshot_long p device g number s is short state =
    let text = program_text p in
    let own = to_be_bytes w64 g ++ (1 ∷ device ∷ to_be_bytes w64 number) in
    let last = to_be_bytes w32 (length text) ++ text in
    let words = flat_map word_bytes s.words.items in
    let rep = state_bytes (shape_of p).devices s.rep in
    let w = pieces_long word_bytes 9 s.words.items word_long in
    let r : length rep ≤ 26498 = state_long (shape_of p) s.rep (program_shape p is) state.rep in
    omega (arith, short, w, r, state.words.count, is.cells, length-append (own ++ last) (words ++ rep), length-append own last, length-append (to_be_bytes w32 (length text)) text, length-append words rep)

pub snapshot_some : (p : Program) (device g number : ℕ) (s : State) → 8 ≤ length (snapshot_bytes p device g number s)
unfolding snapshot_bytes head_bytes owner_bytes
snapshot_some p device g number s =
    let own = to_be_bytes w64 g ++ (1 ∷ device ∷ to_be_bytes w64 number) in
    let last = text_bytes (program_text p) in
    let rest = kept_bytes (shape_of p).devices s in
    omega (arith, length-append (own ++ last) rest, length-append own last)

pub generation_is : (p : Program) (device g number : ℕ) (s : State) → IsGeneration g → generation (snapshot_bytes p device g number s) ≡ g
unfolding snapshot_bytes head_bytes owner_bytes
generation_is p device g number s is =
    let own = 1 ∷ device ∷ to_be_bytes w64 number in
    let last = text_bytes (program_text p) in
    let rest = kept_bytes (shape_of p).devices s in
    let first = to_be_bytes w64 g in
    let grouped : ((first ++ own) ++ last) ++ rest ≡ first ++ (own ++ (last ++ rest)) = append_assoc (first ++ own) last rest ∙ append_assoc first own (last ++ rest) in
    ap (λ (l : List ℕ). from_be_bytes w64 (take 8 l)) grouped ∙ ap (λ (l : List ℕ). from_be_bytes w64 l) (take_at first (own ++ (last ++ rest)) 8 refl) ∙ wide64.again g (omega (arith, is.0, is.1))
