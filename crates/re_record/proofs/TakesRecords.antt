-- Records that are read are spelled so, and may stand there.
use Rattle.std.proofs.Common.{◌≡◌, ℕ, zero, suc, ◌+◌, ◌^◌, ◌<◌, ◌≤◌, Bool, true, false, cond, ltb, leb, eqb, List, [], ◌∷◌, ◌++◌, length, drop, ◌-◌, Option, None, Some, Result, Ok, Err, refl, sym, ap, subst, ◌∙◌, arith, inl, inr}
use Rattle.std.specs.Prelude.{◌&&◌, ◌||◌, slice_get}
use Rattle.std.specs.Int.{w8, w16, w64, to_be_bytes, cast_signed, cast_unsigned}
use Rattle.std.specs.List.{All, flat_map, list_all}
use Rattle.std.specs.Option.{option_map_or}
use Rattle.std.proofs.lemmas.Int.{of_z-to_z}
use Rattle.std.proofs.lemmas.Bool.{cases_lt, lt-ltb, le-ltb, le-leb, and_parts, eqb-true, eqb-false, ltb-false, ltb-true, leb-true}
use Rattle.std.proofs.lemmas.List.{append-nil, drop_all}
use Rattle.std.proofs.lemmas.List.Concat.{flat_map-cons}
use Rattle.std.proofs.lemmas.List.Elements.{All-cons}
use Rattle.re_record.specs.Logs.{IsPlain, IsLoggedOf, IsRecordOf}
use Rattle.re_record.specs.Reading.{amount_at, is_tag_of, tag_at, set_act, operand_at, act_at, act_on_at, operation_at, count_at, part_at, operations_at, turn_at, turn_entry_at, merge_entry_at, entry_at, changes_at, logged_at, entry_count_at, record_at, puts_at}
use Rattle.re_record.specs.Spellings.{put_bytes, puts_bytes, act_bytes, operation_bytes, operations_bytes, turn_bytes, entry_bytes, changes_bytes, logged_bytes, record_bytes}
use Rattle.re_record.specs.declared.slots.Role.{Role}
use Rattle.re_record.specs.declared.slots.Role.TheVariants as role
use Rattle.re_record.proofs.TakesPuts.{ArePuts, PutsTaken, puts_take}
use Rattle.re_terms.specs.Admission.{is_act_of, takes_operation, part_count}
use Rattle.re_terms.specs.Arithmetic.{is_word_number}
use Rattle.re_terms.specs.Listed.{Listed, plain}
use Rattle.re_terms.specs.Shapes.{FitsShape, IsShape, is_word_of}
use Rattle.re_terms.specs.Spellings.{state_bytes, word_bytes}
use Rattle.re_terms.specs.declared.entry.Entry.{Entry}
use Rattle.re_terms.specs.declared.entry.Entry.TheVariants as entry
use Rattle.re_terms.specs.declared.entry.Logged.{Logged}
use Rattle.re_terms.specs.declared.entry.Put.{Put}
use Rattle.re_terms.specs.declared.entry.Turn.{Turn}
use Rattle.re_terms.specs.declared.program.Decl.{Decl}
use Rattle.re_terms.specs.declared.program.Program.{Program}
use Rattle.re_terms.specs.declared.replicated.Act.{Act}
use Rattle.re_terms.specs.declared.replicated.Act.TheVariants as act
use Rattle.re_terms.specs.declared.replicated.RepOp.{RepOp}
use Rattle.re_terms.specs.declared.replicated.RKind.{RKind}
use Rattle.re_terms.specs.declared.replicated.RKind.TheVariants as kind
use Rattle.re_terms.specs.declared.replicated.RState.{RState}
use Rattle.re_terms.specs.declared.replicated.Shape.{Shape}
use Rattle.re_terms.specs.declared.word.Kind.{Kind}
use Rattle.re_terms.specs.declared.word.Word.{Word}
use Rattle.re_wire.proofs.Bytes.{IsBytes}
use Rattle.re_wire.proofs.Takes.{bind_ok, unless_ok, when_ok, ok_is, Takes, Takes-none, Takes-then, byte_is, wide8, wide16, wide64, number_takes, below_takes}
use Rattle.re_wire.proofs.TakesPairs.{of_kind}
use Rattle.re_wire.proofs.TakesStates.{state_taken}
use Rattle.re_wire.proofs.TakesWords.{word_taken}
use Rattle.re_wire.specs.Reading.{◌>>=◌, number_at, below_at, listed, several_at, state_at, word_at}

-- ---- one behind the other

abbrev pub Each : {X : Type 0} → (X → Type 0) → List X → Type 0
Each P [] = Unit {0}
Each P (x ∷ xs) = P x × Each P xs

pub record SeveralTaken {X : Type 0} (f : X → List ℕ) (P : X → Type 0) (bytes : List ℕ) (count at : ℕ) (xs : List X) (place : ℕ) : Type 0 where
  pub text : Takes bytes at (flat_map f xs) place
  pub each : Each P xs
  pub len : length xs ≡ count

pub several_take : {X : Type 0} (f : X → List ℕ) (P : X → Type 0) (read : ℕ → Result (X × ℕ) ℕ) (bytes : List ℕ) → ((at : ℕ) (x : X × ℕ) → at ≤ length bytes → read at ≡ Ok x → Takes bytes at (f x.0) x.1 × P x.0)
    → (count at : ℕ) (x : List X × ℕ) → at ≤ length bytes → several_at read count at ≡ Ok x → SeveralTaken f P bytes count at x.0 x.1
unfolding several_at
several_take f P read bytes one zero at x start e =
    subst (λ (y : List _ × ℕ). SeveralTaken f P bytes 0 at y.0 y.1) {x = ([], at)} (ok_is ([], at) x e) (record { text = Takes-none bytes at start; each = tt; len = refl })
several_take f P read bytes one (suc count) at x start e =
    let a = bind_ok (read at) (λ first. several_at read count first.1 >>= λ others. Ok (first.0 ∷ others.0, others.1)) x e in
    let b = bind_ok (several_at read count a.0.1) (λ others. Ok (a.0.0 ∷ others.0, others.1)) x a.2 in
    let t = one at a.0 start a.1 in
    let u = several_take f P read bytes one count a.0.1 b.0 t.0.bounded b.1 in
    let both = Takes-then bytes at (f a.0.0) a.0.1 (flat_map f b.0.0) b.0.1 t.0 u.text in
    subst (λ (y : List _ × ℕ). SeveralTaken f P bytes (suc count) at y.0 y.1) {x = (a.0.0 ∷ b.0.0, b.0.1)} (ok_is (a.0.0 ∷ b.0.0, b.0.1) x b.2)
    (record { text = rw flat_map-cons both; each = (t.1, u.each); len = ap suc u.len })

-- ---- acts

record ActTaken (symbols : ℕ) (k : RKind) (bytes : List ℕ) (at : ℕ) (a : Act) (place : ℕ) : Type 0 where
  text : Takes bytes at (act_bytes a) place
  fits : is_act_of symbols k a ≡ true

-- a tag that is one byte stands before what is behind it
pub tag_then : (bytes : List ℕ) (at : ℕ) (tag : ℕ × ℕ) (n : ℕ) (rest : List ℕ) (place : ℕ) → n < 256 → Takes bytes at (to_be_bytes w8 tag.0) tag.1 → tag.0 ≡ n → Takes bytes tag.1 rest place → Takes bytes at (n ∷ rest) place
tag_then bytes at tag n rest place lt first is second =
    let byte : to_be_bytes w8 tag.0 ≡ n ∷ [] = ap (λ (m : ℕ). to_be_bytes w8 m) is ∙ byte_is n lt in
    Takes-then bytes at (n ∷ []) tag.1 rest place (subst (λ (l : List ℕ). Takes bytes at l tag.1) byte first) second

-- the tag of an act, and what is behind it
abbrev pub act_tag : Act → ℕ
act_tag (act.Add n) = 0
act_tag (act.Insert w) = 1
act_tag (act.Remove w) = 2
act_tag (act.Write w) = 3

abbrev pub behind_act : Act → List ℕ
behind_act (act.Add n) = to_be_bytes w64 (cast_unsigned w64 n)
behind_act (act.Insert w) = word_bytes w
behind_act (act.Remove w) = word_bytes w
behind_act (act.Write w) = word_bytes w

pub act_is : (a : Act) → act_bytes a ≡ act_tag a ∷ behind_act a
unfolding act_bytes
act_is (act.Add n) = refl
act_is (act.Insert w) = refl
act_is (act.Remove w) = refl
act_is (act.Write w) = refl

pub act_tag_below : (a : Act) → act_tag a < 256
act_tag_below (act.Add n) = omega arith
act_tag_below (act.Insert w) = omega arith
act_tag_below (act.Remove w) = omega arith
act_tag_below (act.Write w) = omega arith

record OperandTaken (symbols : ℕ) (k : RKind) (tag : ℕ) (bytes : List ℕ) (at : ℕ) (a : Act) (place : ℕ) : Type 0 where
  text : Takes bytes at (behind_act a) place
  fits : is_act_of symbols k a ≡ true
  same : tag ≡ act_tag a

-- 64 bits in two's complement are an amount
is_amount : (n : ℕ) → n < 2 ^ 64 → is_word_number (cast_signed w64 n) ≡ true
is_amount n lt = elim (cases_lt n (2 ^ 63)) [
  | inl small ↦ rw (lt-ltb n (2 ^ 63) small) (let e : n ≤ 9223372036854775807 = omega arith in le-leb n 9223372036854775807 e)
  | inr large ↦ rw (le-ltb n (2 ^ 63) large) (let e : 2 ^ 64 - suc n ≤ 9223372036854775807 = omega arith in rw (le-leb _ _ e) refl)
]

amount_takes : (symbols tag : ℕ) (bytes : List ℕ) (at : ℕ) (x : Act × ℕ) → IsBytes bytes → eqb tag 0 ≡ true → amount_at bytes at ≡ Ok x → OperandTaken symbols kind.Counter tag bytes at x.0 x.1
unfolding amount_at
amount_takes symbols tag bytes at x fits test e =
    let b = bind_ok (number_at w64 bytes at) (λ number. Ok (act.Add (cast_signed w64 number.0), number.1)) x e in
    let t = number_takes w64 (2 ^ 64) wide64 bytes at b.0 fits b.1 in
    let same : cast_unsigned w64 (cast_signed w64 b.0.0) ≡ b.0.0 = of_z-to_z w64 b.0.0 t.1 in
    let text : Takes bytes at (to_be_bytes w64 (cast_unsigned w64 (cast_signed w64 b.0.0))) b.0.1 = subst (λ (n : ℕ). Takes bytes at (to_be_bytes w64 n) b.0.1) (sym same) t.0 in
    subst (λ (y : Act × ℕ). OperandTaken symbols kind.Counter tag bytes at y.0 y.1) {x = (act.Add (cast_signed w64 b.0.0), b.0.1)} (ok_is (act.Add (cast_signed w64 b.0.0), b.0.1) x b.2) (record { text = text; fits = is_amount b.0.0 t.1; same = eqb-true _ _ test })

set_takes : (symbols : ℕ) (k : Kind) (tag : ℕ) (bytes : List ℕ) (at : ℕ) (w : Word) (place : ℕ) (one : Bool) → Takes bytes at (word_bytes w) place → is_word_of symbols k w ≡ true → eqb tag 1 ≡ one → (one || eqb tag 2) ≡ true
    → OperandTaken symbols (kind.Set k) tag bytes at (cond one (act.Insert w) (act.Remove w)) place
set_takes symbols k tag bytes at w place true t is e either = record { text = t; fits = is; same = eqb-true _ _ e }
set_takes symbols k tag bytes at w place false t is e either = record { text = t; fits = is; same = eqb-true _ _ either }

operand_takes : (symbols : ℕ) (k : RKind) (tag : ℕ) (bytes : List ℕ) (at : ℕ) (x : Act × ℕ) → IsBytes bytes → is_tag_of k tag ≡ true → operand_at k symbols tag bytes at ≡ Ok x → OperandTaken symbols k tag bytes at x.0 x.1
unfolding operand_at
operand_takes symbols kind.Counter tag bytes at x fits test e = amount_takes symbols tag bytes at x fits test e
operand_takes symbols (kind.Set k) tag bytes at x fits test e =
    let a = bind_ok (word_at k false symbols bytes at) (λ element. Ok (set_act tag element.0, element.1)) x e in
    let t = word_taken k false symbols bytes at a.0 fits a.1 in
    subst (λ (y : Act × ℕ). OperandTaken symbols (kind.Set k) tag bytes at y.0 y.1) {x = (set_act tag a.0.0, a.0.1)} (ok_is (set_act tag a.0.0, a.0.1) x a.2)
    (set_takes symbols k tag bytes at a.0.0 a.0.1 (eqb tag 1) t.0 (of_kind symbols k a.0.0 t.1) refl test)
operand_takes symbols (kind.Register k start) tag bytes at x fits test e =
    let a = bind_ok (word_at k false symbols bytes at) (λ written. Ok (act.Write written.0, written.1)) x e in
    let t = word_taken k false symbols bytes at a.0 fits a.1 in
    subst (λ (y : Act × ℕ). OperandTaken symbols (kind.Register k start) tag bytes at y.0 y.1) {x = (act.Write a.0.0, a.0.1)} (ok_is (act.Write a.0.0, a.0.1) x a.2)
    (record { text = t.0; fits = of_kind symbols k a.0.0 t.1; same = eqb-true _ _ test })

tag_takes : (k : RKind) (bytes : List ℕ) (at : ℕ) (x : ℕ × ℕ) → IsBytes bytes → tag_at k bytes at ≡ Ok x → Takes bytes at (to_be_bytes w8 x.0) x.1 × (is_tag_of k x.0 ≡ true)
unfolding tag_at
tag_takes k bytes at x fits e =
    let b = bind_ok (number_at w8 bytes at) (λ tag. cond (is_tag_of k tag.0) (Ok tag) (Err at)) x e in
    let g = when_ok (is_tag_of k b.0.0) at (Ok b.0) x b.2 in
    let t = number_takes w8 (2 ^ 8) wide8 bytes at b.0 fits b.1 in
    subst (λ (y : ℕ × ℕ). Takes bytes at (to_be_bytes w8 y.0) y.1 × (is_tag_of k y.0 ≡ true)) (ok_is b.0 x g.1) (t.0, g.0)

act_takes : (symbols : ℕ) (k : RKind) (bytes : List ℕ) (at : ℕ) (x : Act × ℕ) → IsBytes bytes → act_at k symbols bytes at ≡ Ok x → ActTaken symbols k bytes at x.0 x.1
unfolding act_at
act_takes symbols k bytes at x fits e =
    let a = bind_ok (tag_at k bytes at) (λ tag. operand_at k symbols tag.0 bytes tag.1) x e in
    let t = tag_takes k bytes at a.0 fits a.1 in
    let u = operand_takes symbols k a.0.0 bytes a.0.1 x fits t.1 a.2 in
    record {
      text = subst (λ (l : List ℕ). Takes bytes at l x.1) (sym (act_is x.0)) (tag_then bytes at a.0 (act_tag x.0) (behind_act x.0) x.1 (act_tag_below x.0) t.0 u.same u.text);
      fits = u.fits;
    }

-- ---- operations

act_on_takes : (found : Option RKind) (symbols cell : ℕ) (bytes : List ℕ) (at : ℕ) (x : Act × ℕ) → IsBytes bytes → act_on_at found symbols cell bytes at ≡ Ok x → (k : RKind) × (found ≡ Some k) × ActTaken symbols k bytes at x.0 x.1
act_on_takes None symbols cell bytes at x fits e = absurd cc
act_on_takes (Some k) symbols cell bytes at x fits e = (k, refl, act_takes symbols k bytes at x fits e)

taken_by : (found : Option RKind) (k : RKind) (symbols : ℕ) (a : Act) → found ≡ Some k → is_act_of symbols k a ≡ true → option_map_or (λ j. is_act_of symbols j a) found false ≡ true
taken_by found k symbols a is fits = rw is fits

operation_takes : (shape : Shape) (bytes : List ℕ) (at : ℕ) (x : RepOp × ℕ) → IsBytes bytes → operation_at shape bytes at ≡ Ok x → Takes bytes at (operation_bytes x.0) x.1 × (takes_operation shape.symbols shape.cells.items x.0 ≡ true)
unfolding operation_at operation_bytes
operation_takes shape bytes at x fits e =
    let a = bind_ok (number_at w8 bytes at) (λ cell. act_on_at (slice_get shape.cells.items cell.0) shape.symbols at bytes cell.1 >>= λ done. Ok (record { cell = cell.0; act = done.0 }, done.1)) x e in
    let b = bind_ok (act_on_at (slice_get shape.cells.items a.0.0) shape.symbols at bytes a.0.1) (λ done. Ok (record { cell = a.0.0; act = done.0 }, done.1)) x a.2 in
    let t = number_takes w8 (2 ^ 8) wide8 bytes at a.0 fits a.1 in
    let u = act_on_takes (slice_get shape.cells.items a.0.0) shape.symbols at bytes a.0.1 b.0 fits b.1 in
    let text = tag_then bytes at a.0 a.0.0 (act_bytes b.0.0) b.0.1 (omega (arith, t.1)) t.0 refl u.2.text in
    let taken : option_map_or (λ k. is_act_of shape.symbols k b.0.0) (slice_get shape.cells.items a.0.0) false ≡ true = taken_by (slice_get shape.cells.items a.0.0) u.0 shape.symbols b.0.0 u.1 u.2.fits in
    subst (λ (y : RepOp × ℕ). Takes bytes at (y.0.cell ∷ act_bytes y.0.act) y.1 × (takes_operation shape.symbols shape.cells.items y.0 ≡ true)) {x = (record { cell = a.0.0; act = b.0.0 }, b.0.1)} (ok_is (record { cell = a.0.0; act = b.0.0 }, b.0.1) x b.2) (text, taken)

-- ---- turns

count_takes : (least earlier : ℕ) (bytes : List ℕ) (at : ℕ) (x : ℕ × ℕ) → IsBytes bytes → count_at least earlier bytes at ≡ Ok x → Takes bytes at (x.0 ∷ []) x.1 × (least ≤ earlier + x.0) × (earlier + x.0 ≤ 64)
unfolding count_at
count_takes least earlier bytes at x fits e =
    let b = bind_ok (number_at w8 bytes at) (λ count. cond (leb least (earlier + count.0) && leb (earlier + count.0) 64) (Ok count) (Err at)) x e in
    let g = when_ok (leb least (earlier + b.0.0) && leb (earlier + b.0.0) 64) at (Ok b.0) x b.2 in
    let both = and_parts (leb least (earlier + b.0.0)) (leb (earlier + b.0.0) 64) g.0 in
    let t = number_takes w8 (2 ^ 8) wide8 bytes at b.0 fits b.1 in
    let text : Takes bytes at (b.0.0 ∷ []) b.0.1 = subst (λ (l : List ℕ). Takes bytes at l b.0.1) (byte_is b.0.0 (omega (arith, t.1))) t.0 in
    subst (λ (y : ℕ × ℕ). Takes bytes at (y.0 ∷ []) y.1 × (least ≤ earlier + y.0) × (earlier + y.0 ≤ 64)) (ok_is b.0 x g.1) (text, leb-true _ _ both.0, leb-true _ _ both.1)

record PartTaken (decls : List Decl) (symbols : ℕ) (r : Role) (earlier : ℕ) (bytes : List ℕ) (at : ℕ) (puts : Listed Put) (place : ℕ) : Type 0 where
  text : Takes bytes at (puts_bytes puts.items) place
  each : ArePuts decls symbols r 0 puts.items
  few : earlier + length puts.items ≤ 64
  plain : puts.spare ≡ 0

part_takes : (decls : List Decl) (symbols : ℕ) (r : Role) (earlier : ℕ) (bytes : List ℕ) (at : ℕ) (x : Listed Put × ℕ) → IsBytes bytes → part_at decls symbols r earlier bytes at ≡ Ok x → PartTaken decls symbols r earlier bytes at x.0 x.1
unfolding part_at puts_bytes
part_takes decls symbols r earlier bytes at x fits e =
    let a = bind_ok (count_at 0 earlier bytes at) (λ count. listed (puts_at decls symbols r count.0 0 bytes count.1)) x e in
    let b = bind_ok (puts_at decls symbols r a.0.0 0 bytes a.0.1) (λ items. Ok (plain items.0, items.1)) x a.2 in
    let t = count_takes 0 earlier bytes at a.0 fits a.1 in
    let u = puts_take decls symbols r a.0.0 0 bytes a.0.1 b.0 fits t.0.bounded b.1 in
    let first : Takes bytes at (length b.0.0 ∷ []) a.0.1 = subst (λ (n : ℕ). Takes bytes at (n ∷ []) a.0.1) (sym u.len) t.0 in
    subst (λ (y : Listed Put × ℕ). PartTaken decls symbols r earlier bytes at y.0 y.1) {x = (plain b.0.0, b.0.1)} (ok_is (plain b.0.0, b.0.1) x b.2)
    (record { text = Takes-then bytes at (length b.0.0 ∷ []) a.0.1 (flat_map put_bytes b.0.0) b.0.1 first u.text; each = u.each; few = omega (arith, u.len, t.2); plain = refl })

-- operations on cells that take them
abbrev pub AreOperations : Shape → List RepOp → Type 0
AreOperations shape ops = Each (λ op. takes_operation shape.symbols shape.cells.items op ≡ true) ops

record OperationsTaken (shape : Shape) (earlier : ℕ) (bytes : List ℕ) (at : ℕ) (ops : Listed RepOp) (place : ℕ) : Type 0 where
  text : Takes bytes at (operations_bytes ops.items) place
  each : AreOperations shape ops.items
  some : 1 ≤ earlier + length ops.items
  few : earlier + length ops.items ≤ 64
  plain : ops.spare ≡ 0

operations_take : (shape : Shape) (earlier : ℕ) (bytes : List ℕ) (at : ℕ) (x : Listed RepOp × ℕ) → IsBytes bytes → operations_at shape earlier bytes at ≡ Ok x → OperationsTaken shape earlier bytes at x.0 x.1
unfolding operations_at operations_bytes
operations_take shape earlier bytes at x fits e =
    let a = bind_ok (count_at 1 earlier bytes at) (λ count. listed (several_at (operation_at shape bytes) count.0 count.1)) x e in
    let b = bind_ok (several_at (operation_at shape bytes) a.0.0 a.0.1) (λ items. Ok (plain items.0, items.1)) x a.2 in
    let t = count_takes 1 earlier bytes at a.0 fits a.1 in
    let u = several_take operation_bytes (λ op. takes_operation shape.symbols shape.cells.items op ≡ true) (operation_at shape bytes) bytes (λ place y within read. operation_takes shape bytes place y fits read) a.0.0 a.0.1 b.0 t.0.bounded b.1 in
    let first : Takes bytes at (length b.0.0 ∷ []) a.0.1 = subst (λ (n : ℕ). Takes bytes at (n ∷ []) a.0.1) (sym u.len) t.0 in
    subst (λ (y : Listed RepOp × ℕ). OperationsTaken shape earlier bytes at y.0 y.1) {x = (plain b.0.0, b.0.1)} (ok_is (plain b.0.0, b.0.1) x b.2)
    (record { text = Takes-then bytes at (length b.0.0 ∷ []) a.0.1 (flat_map operation_bytes b.0.0) b.0.1 first u.text; each = u.each; some = omega (arith, u.len, t.1); few = omega (arith, u.len, t.2); plain = refl })

-- what a turn consists of
pub record TurnParts (decls : List Decl) (shape : Shape) (t : Turn) : Type 0 where
  pub sets : ArePuts decls shape.symbols role.Set 0 t.sets.items
  pub fires : ArePuts decls shape.symbols role.Fire 0 t.fires.items
  pub ops : AreOperations shape t.ops.items
  pub some : 1 ≤ part_count t
  pub few : part_count t ≤ 64
  pub plain : (t.sets.spare ≡ 0) × (t.fires.spare ≡ 0) × (t.ops.spare ≡ 0)

turn_takes : (decls : List Decl) (shape : Shape) (bytes : List ℕ) (at : ℕ) (x : Turn × ℕ) → IsBytes bytes → turn_at decls shape bytes at ≡ Ok x → Takes bytes at (turn_bytes x.0) x.1 × TurnParts decls shape x.0
unfolding turn_at turn_bytes
turn_takes decls shape bytes at x fits e =
    let a = bind_ok (part_at decls shape.symbols role.Set 0 bytes at) (λ sets. part_at decls shape.symbols role.Fire (length sets.0.items) bytes sets.1 >>= λ fires. operations_at shape (length sets.0.items + length fires.0.items) bytes fires.1 >>= λ ops. Ok (record { sets = sets.0; fires = fires.0; ops = ops.0 }, ops.1)) x e in
    let b = bind_ok (part_at decls shape.symbols role.Fire (length a.0.0.items) bytes a.0.1) (λ fires. operations_at shape (length a.0.0.items + length fires.0.items) bytes fires.1 >>= λ ops. Ok (record { sets = a.0.0; fires = fires.0; ops = ops.0 }, ops.1)) x a.2 in
    let c = bind_ok (operations_at shape (length a.0.0.items + length b.0.0.items) bytes b.0.1) (λ ops. Ok (record { sets = a.0.0; fires = b.0.0; ops = ops.0 }, ops.1)) x b.2 in
    let t = part_takes decls shape.symbols role.Set 0 bytes at a.0 fits a.1 in
    let u = part_takes decls shape.symbols role.Fire (length a.0.0.items) bytes a.0.1 b.0 fits b.1 in
    let v = operations_take shape (length a.0.0.items + length b.0.0.items) bytes b.0.1 c.0 fits c.1 in
    let front = Takes-then bytes at (puts_bytes a.0.0.items) a.0.1 (puts_bytes b.0.0.items) b.0.1 t.text u.text in
    let text = Takes-then bytes at (puts_bytes a.0.0.items ++ puts_bytes b.0.0.items) b.0.1 (operations_bytes c.0.0.items) c.0.1 front v.text in
    subst (λ (y : Turn × ℕ). Takes bytes at (puts_bytes y.0.sets.items ++ puts_bytes y.0.fires.items ++ operations_bytes y.0.ops.items) y.1 × TurnParts decls shape y.0) {x = (record { sets = a.0.0; fires = b.0.0; ops = c.0.0 }, c.0.1)} (ok_is (record { sets = a.0.0; fires = b.0.0; ops = c.0.0 }, c.0.1) x c.2)
    (text, record { sets = t.each; fires = u.each; ops = v.each; some = v.some; few = v.few; plain = (t.plain, u.plain, v.plain) })

-- ---- entries

-- what an entry consists of
abbrev pub EntryParts : List Decl → Shape → Entry → Type 0
EntryParts decls shape (entry.Turn t) = TurnParts decls shape t
EntryParts decls shape (entry.Merge r) = FitsShape shape r

-- an entry with its changes
pub record LoggedParts (decls : List Decl) (shape : Shape) (l : Logged) : Type 0 where
  pub entry : EntryParts decls shape l.entry
  pub changes : ArePuts decls shape.symbols role.Change 0 l.changes.items
  pub few : length l.changes.items ≤ 256
  pub plain : l.changes.spare ≡ 0

behind_tag : (decls : List Decl) (shape : Shape) (bytes : List ℕ) (at : ℕ) (tag : ℕ × ℕ) (turn : Bool) (x : Entry × ℕ) → IsShape shape → IsBytes bytes → Takes bytes at (to_be_bytes w8 tag.0) tag.1 → tag.0 < 2 → eqb tag.0 0 ≡ turn
    → cond turn (turn_entry_at decls shape bytes tag.1) (merge_entry_at shape bytes tag.1) ≡ Ok x → Takes bytes at (entry_bytes shape.devices x.0) x.1 × EntryParts decls shape x.0
behind_tag decls shape bytes at tag true x is fits first small test e =
    let a = bind_ok (turn_at decls shape bytes tag.1) (λ turn. Ok (entry.Turn turn.0, turn.1)) x e in
    let t = turn_takes decls shape bytes tag.1 a.0 fits a.1 in
    subst (λ (y : Entry × ℕ). Takes bytes at (entry_bytes shape.devices y.0) y.1 × EntryParts decls shape y.0) {x = (entry.Turn a.0.0, a.0.1)} (ok_is (entry.Turn a.0.0, a.0.1) x a.2)
    (tag_then bytes at tag 0 (turn_bytes a.0.0) a.0.1 (omega arith) first (eqb-true _ _ test) t.0, t.1)
behind_tag decls shape bytes at tag false x is fits first small test e =
    let a = bind_ok (state_at shape bytes tag.1) (λ state. Ok (entry.Merge state.0, state.1)) x e in
    let t = state_taken shape bytes tag.1 a.0 is fits first.bounded a.1 in
    let one : tag.0 ≡ 1 = (let differs = eqb-false _ _ test in omega arith) in
    subst (λ (y : Entry × ℕ). Takes bytes at (entry_bytes shape.devices y.0) y.1 × EntryParts decls shape y.0) {x = (entry.Merge a.0.0, a.0.1)} (ok_is (entry.Merge a.0.0, a.0.1) x a.2)
    (tag_then bytes at tag 1 (state_bytes shape.devices a.0.0) a.0.1 (omega arith) first one t.text, t.fits)

entry_takes : (decls : List Decl) (shape : Shape) (bytes : List ℕ) (at : ℕ) (x : Entry × ℕ) → IsShape shape → IsBytes bytes → entry_at decls shape bytes at ≡ Ok x → Takes bytes at (entry_bytes shape.devices x.0) x.1 × EntryParts decls shape x.0
unfolding entry_at
entry_takes decls shape bytes at x is fits e =
    let a = bind_ok (below_at w8 2 bytes at) (λ tag. cond (eqb tag.0 0) (turn_entry_at decls shape bytes tag.1) (merge_entry_at shape bytes tag.1)) x e in
    let t = below_takes w8 (2 ^ 8) wide8 2 bytes at a.0 fits a.1 in
    behind_tag decls shape bytes at a.0 (eqb a.0.0 0) x is fits t.0 t.1 refl a.2

changes_take : (decls : List Decl) (symbols : ℕ) (bytes : List ℕ) (at : ℕ) (x : Listed Put × ℕ) → IsBytes bytes → changes_at decls symbols bytes at ≡ Ok x → Takes bytes at (changes_bytes x.0.items) x.1 × ArePuts decls symbols role.Change 0 x.0.items × (length x.0.items ≤ 256) × (x.0.spare ≡ 0)
unfolding changes_at changes_bytes
changes_take decls symbols bytes at x fits e =
    let a = bind_ok (below_at w16 257 bytes at) (λ count. listed (puts_at decls symbols role.Change count.0 0 bytes count.1)) x e in
    let b = bind_ok (puts_at decls symbols role.Change a.0.0 0 bytes a.0.1) (λ items. Ok (plain items.0, items.1)) x a.2 in
    let t = below_takes w16 (2 ^ 16) wide16 257 bytes at a.0 fits a.1 in
    let u = puts_take decls symbols role.Change a.0.0 0 bytes a.0.1 b.0 fits t.0.bounded b.1 in
    let first : Takes bytes at (to_be_bytes w16 (length b.0.0)) a.0.1 = subst (λ (n : ℕ). Takes bytes at (to_be_bytes w16 n) a.0.1) (sym u.len) t.0 in
    subst (λ (y : Listed Put × ℕ). Takes bytes at (to_be_bytes w16 (length y.0.items) ++ flat_map put_bytes y.0.items) y.1 × ArePuts decls symbols role.Change 0 y.0.items × (length y.0.items ≤ 256) × (y.0.spare ≡ 0)) {x = (plain b.0.0, b.0.1)} (ok_is (plain b.0.0, b.0.1) x b.2)
    (Takes-then bytes at (to_be_bytes w16 (length b.0.0)) a.0.1 (flat_map put_bytes b.0.0) b.0.1 first u.text, u.each, omega (arith, u.len, t.1), refl)

logged_takes : (decls : List Decl) (shape : Shape) (bytes : List ℕ) (at : ℕ) (x : Logged × ℕ) → IsShape shape → IsBytes bytes → logged_at decls shape bytes at ≡ Ok x → Takes bytes at (logged_bytes shape.devices x.0) x.1 × LoggedParts decls shape x.0
unfolding logged_at logged_bytes
logged_takes decls shape bytes at x is fits e =
    let a = bind_ok (entry_at decls shape bytes at) (λ done. changes_at decls shape.symbols bytes done.1 >>= λ changes. Ok (record { entry = done.0; changes = changes.0 }, changes.1)) x e in
    let b = bind_ok (changes_at decls shape.symbols bytes a.0.1) (λ changes. Ok (record { entry = a.0.0; changes = changes.0 }, changes.1)) x a.2 in
    let t = entry_takes decls shape bytes at a.0 is fits a.1 in
    let u = changes_take decls shape.symbols bytes a.0.1 b.0 fits b.1 in
    let text = Takes-then bytes at (entry_bytes shape.devices a.0.0) a.0.1 (changes_bytes b.0.0.items) b.0.1 t.0 u.0 in
    subst (λ (y : Logged × ℕ). Takes bytes at (entry_bytes shape.devices y.0.entry ++ changes_bytes y.0.changes.items) y.1 × LoggedParts decls shape y.0) {x = (record { entry = a.0.0; changes = b.0.0 }, b.0.1)} (ok_is (record { entry = a.0.0; changes = b.0.0 }, b.0.1) x b.2)
    (text, record { entry = t.1; changes = u.1; few = u.2; plain = u.3 })

-- ---- records

entry_count_takes : (bytes : List ℕ) (at : ℕ) (x : ℕ × ℕ) → IsBytes bytes → entry_count_at bytes at ≡ Ok x → Takes bytes at (x.0 ∷ []) x.1 × (1 ≤ x.0) × (x.0 ≤ 9)
unfolding entry_count_at
entry_count_takes bytes at x fits e =
    let b = bind_ok (number_at w8 bytes at) (λ count. cond (leb 1 count.0 && leb count.0 9) (Ok count) (Err at)) x e in
    let g = when_ok (leb 1 b.0.0 && leb b.0.0 9) at (Ok b.0) x b.2 in
    let both = and_parts (leb 1 b.0.0) (leb b.0.0 9) g.0 in
    let t = number_takes w8 (2 ^ 8) wide8 bytes at b.0 fits b.1 in
    let text : Takes bytes at (b.0.0 ∷ []) b.0.1 = subst (λ (l : List ℕ). Takes bytes at l b.0.1) (byte_is b.0.0 (omega (arith, t.1))) t.0 in
    subst (λ (y : ℕ × ℕ). Takes bytes at (y.0 ∷ []) y.1 × (1 ≤ y.0) × (y.0 ≤ 9)) (ok_is b.0 x g.1) (text, leb-true _ _ both.0, leb-true _ _ both.1)

pub record RecordTaken (p : Program) (shape : Shape) (bytes : List ℕ) (entries : Listed Logged) : Type 0 where
  pub text : bytes ≡ record_bytes shape.devices entries.items
  pub each : Each (LoggedParts p.decls.items shape) entries.items
  pub some : 1 ≤ length entries.items
  pub few : length entries.items ≤ 9
  pub plain : entries.spare ≡ 0

pub record_takes : (p : Program) (shape : Shape) (bytes : List ℕ) (x : Listed Logged) → IsShape shape → IsBytes bytes → record_at p shape bytes ≡ Ok x → RecordTaken p shape bytes x
unfolding record_at record_bytes
record_takes p shape bytes x is fits e =
    let a = bind_ok (entry_count_at bytes 0) (λ count. listed (several_at (logged_at p.decls.items shape bytes) count.0 count.1) >>= λ entries. cond (ltb entries.1 (length bytes)) (Err entries.1) (Ok entries.0)) x e in
    let b = bind_ok (listed (several_at (logged_at p.decls.items shape bytes) a.0.0 a.0.1)) (λ entries. cond (ltb entries.1 (length bytes)) (Err entries.1) (Ok entries.0)) x a.2 in
    let d = bind_ok (several_at (logged_at p.decls.items shape bytes) a.0.0 a.0.1) (λ items. Ok (plain items.0, items.1)) b.0 b.1 in
    let g = unless_ok (ltb b.0.1 (length bytes)) b.0.1 (Ok b.0.0) x b.2 in
    let t = entry_count_takes bytes 0 a.0 fits a.1 in
    let u = several_take (logged_bytes shape.devices) (LoggedParts p.decls.items shape) (logged_at p.decls.items shape bytes) bytes (λ place y within read. logged_takes p.decls.items shape bytes place y is fits read) a.0.0 a.0.1 d.0 t.0.bounded d.1 in
    let listed_is : (plain d.0.0, d.0.1) ≡ b.0 = ok_is (plain d.0.0, d.0.1) b.0 d.2 in
    let first : Takes bytes 0 (length d.0.0 ∷ []) a.0.1 = subst (λ (n : ℕ). Takes bytes 0 (n ∷ []) a.0.1) (sym u.len) t.0 in
    let whole = Takes-then bytes 0 (length d.0.0 ∷ []) a.0.1 (flat_map (logged_bytes shape.devices) d.0.0) d.0.1 first u.text in
    let end : length bytes ≤ d.0.1 = omega (arith, ltb-false _ _ g.0, ap (λ (y : Listed Logged × ℕ). y.1) listed_is) in
    let nothing : drop d.0.1 bytes ≡ [] = drop_all d.0.1 bytes end in
    let text : bytes ≡ length d.0.0 ∷ flat_map (logged_bytes shape.devices) d.0.0 = whole.parts ∙ ap (λ (l : List ℕ). (length d.0.0 ∷ flat_map (logged_bytes shape.devices) d.0.0) ++ l) nothing ∙ append-nil (length d.0.0 ∷ flat_map (logged_bytes shape.devices) d.0.0) in
    let same : plain d.0.0 ≡ x = ap (λ (y : Listed Logged × ℕ). y.0) listed_is ∙ ok_is b.0.0 x g.1 in
    subst (λ (y : Listed Logged). RecordTaken p shape bytes y) same
    (record { text = text; each = u.each; some = omega (arith, u.len, t.1); few = omega (arith, u.len, t.2); plain = refl })
