-- Ids with words that are read are spelled so, and may stand there.
use Rattle.std.proofs.Common.{◌≡◌, ℕ, zero, suc, ◌+◌, ◌^◌, ◌<◌, ◌≤◌, Bool, true, false, List, [], ◌∷◌, ◌++◌, length, drop, Option, None, Some, Ok, Err, refl, ap, subst, arith}
use Rattle.std.specs.Int.{w16, to_be_bytes}
use Rattle.std.specs.List.{flat_map}
use Rattle.std.proofs.lemmas.List.Concat.{flat_map-cons}
use Rattle.re_record.specs.Reading.{with_slot, id_at, put_at, puts_at}
use Rattle.re_record.specs.Slots.{slot_from}
use Rattle.re_record.specs.Spellings.{put_bytes}
use Rattle.re_record.specs.declared.slots.Role.{Role}
use Rattle.re_record.specs.declared.slots.Slot.{Slot}
use Rattle.re_terms.specs.Spellings.{word_bytes}
use Rattle.re_terms.specs.declared.entry.Put.{Put}
use Rattle.re_terms.specs.declared.program.Decl.{Decl}
use Rattle.re_wire.proofs.Bytes.{IsBytes}
use Rattle.re_wire.proofs.Takes.{bind_ok, ok_is, Takes, Takes-none, Takes-then, wide16, number_takes}
use Rattle.re_wire.proofs.TakesWords.{word_taken, allowed}
use Rattle.re_wire.specs.Reading.{◌>>=◌, number_at, is_allowed_word, word_at}

-- an id of this role, at least so great, with a word that its declaration takes
pub record IsPut (decls : List Decl) (symbols : ℕ) (r : Role) (least : ℕ) (put : Put) : Type 0 where
  pub slot : Slot
  pub is : slot_from decls r least put.id ≡ Some slot
  pub word : is_allowed_word slot.kind slot.fold symbols put.word ≡ true

-- such ids, strictly ascending
abbrev pub ArePuts : List Decl → ℕ → Role → ℕ → List Put → Type 0
ArePuts decls symbols r least [] = Unit {0}
ArePuts decls symbols r least (x ∷ puts) = IsPut decls symbols r least x × ArePuts decls symbols r (x.id + 1) puts

slotted : (found : Option Slot) (at : ℕ) (id : ℕ × ℕ) (x : (ℕ × Slot) × ℕ) → with_slot found at id ≡ Ok x → (found ≡ Some x.0.1) × (id.0 ≡ x.0.0) × (id.1 ≡ x.1)
slotted None at id x e = absurd cc
slotted (Some slot) at id x e =
    let is : ((id.0, slot), id.1) ≡ x = ok_is ((id.0, slot), id.1) x e in
    (ap (λ (y : (ℕ × Slot) × ℕ). Some y.0.1) is, ap (λ (y : (ℕ × Slot) × ℕ). y.0.0) is, ap (λ (y : (ℕ × Slot) × ℕ). y.1) is)

id_takes : (decls : List Decl) (r : Role) (least : ℕ) (bytes : List ℕ) (at : ℕ) (x : (ℕ × Slot) × ℕ) → IsBytes bytes → id_at decls r least bytes at ≡ Ok x → Takes bytes at (to_be_bytes w16 x.0.0) x.1 × (slot_from decls r least x.0.0 ≡ Some x.0.1)
unfolding id_at
id_takes decls r least bytes at x fits e =
    let b = bind_ok (number_at w16 bytes at) (λ id. with_slot (slot_from decls r least id.0) at id) x e in
    let t = number_takes w16 (2 ^ 16) wide16 bytes at b.0 fits b.1 in
    let s = slotted (slot_from decls r least b.0.0) at b.0 x b.2 in
    let first : slot_from decls r least x.0.0 ≡ Some x.0.1 = subst (λ (n : ℕ). slot_from decls r least n ≡ Some x.0.1) s.1 s.0 in
    let text : Takes bytes at (to_be_bytes w16 x.0.0) b.0.1 = subst (λ (n : ℕ). Takes bytes at (to_be_bytes w16 n) b.0.1) s.1 t.0 in
    (subst (λ (place : ℕ). Takes bytes at (to_be_bytes w16 x.0.0) place) s.2 text, first)

record PutTaken (decls : List Decl) (symbols : ℕ) (r : Role) (least : ℕ) (bytes : List ℕ) (at : ℕ) (put : Put) (place : ℕ) : Type 0 where
  text : Takes bytes at (put_bytes put) place
  is : IsPut decls symbols r least put

put_takes : (decls : List Decl) (symbols : ℕ) (r : Role) (least : ℕ) (bytes : List ℕ) (at : ℕ) (x : Put × ℕ) → IsBytes bytes → put_at decls symbols r least bytes at ≡ Ok x → PutTaken decls symbols r least bytes at x.0 x.1
unfolding put_at put_bytes
put_takes decls symbols r least bytes at x fits e =
    let a = bind_ok (id_at decls r least bytes at) (λ id. word_at id.0.1.kind id.0.1.fold symbols bytes id.1 >>= λ written. Ok (record { id = id.0.0; word = written.0 }, written.1)) x e in
    let b = bind_ok (word_at a.0.0.1.kind a.0.0.1.fold symbols bytes a.0.1) (λ written. Ok (record { id = a.0.0.0; word = written.0 }, written.1)) x a.2 in
    let t = id_takes decls r least bytes at a.0 fits a.1 in
    let u = word_taken a.0.0.1.kind a.0.0.1.fold symbols bytes a.0.1 b.0 fits b.1 in
    let both = Takes-then bytes at (to_be_bytes w16 a.0.0.0) a.0.1 (word_bytes b.0.0) b.0.1 t.0 u.0 in
    subst (λ (y : Put × ℕ). PutTaken decls symbols r least bytes at y.0 y.1) {x = (record { id = a.0.0.0; word = b.0.0 }, b.0.1)} (ok_is (record { id = a.0.0.0; word = b.0.0 }, b.0.1) x b.2)
    (record { text = both; is = record { slot = a.0.0.1; is = t.1; word = allowed symbols a.0.0.1.kind a.0.0.1.fold b.0.0 u.1 } })

pub record PutsTaken (decls : List Decl) (symbols : ℕ) (r : Role) (count least : ℕ) (bytes : List ℕ) (at : ℕ) (puts : List Put) (place : ℕ) : Type 0 where
  pub text : Takes bytes at (flat_map put_bytes puts) place
  pub each : ArePuts decls symbols r least puts
  pub len : length puts ≡ count

pub puts_take : (decls : List Decl) (symbols : ℕ) (r : Role) (count least : ℕ) (bytes : List ℕ) (at : ℕ) (x : List Put × ℕ) → IsBytes bytes → at ≤ length bytes → puts_at decls symbols r count least bytes at ≡ Ok x → PutsTaken decls symbols r count least bytes at x.0 x.1
unfolding puts_at
puts_take decls symbols r zero least bytes at x fits start e =
    subst (λ (y : List Put × ℕ). PutsTaken decls symbols r 0 least bytes at y.0 y.1) {x = ([], at)} (ok_is ([], at) x e) (record { text = Takes-none bytes at start; each = tt; len = refl })
puts_take decls symbols r (suc count) least bytes at x fits start e =
    let a = bind_ok (put_at decls symbols r least bytes at) (λ first. puts_at decls symbols r count (first.0.id + 1) bytes first.1 >>= λ others. Ok (first.0 ∷ others.0, others.1)) x e in
    let b = bind_ok (puts_at decls symbols r count (a.0.0.id + 1) bytes a.0.1) (λ others. Ok (a.0.0 ∷ others.0, others.1)) x a.2 in
    let t = put_takes decls symbols r least bytes at a.0 fits a.1 in
    let u = puts_take decls symbols r count (a.0.0.id + 1) bytes a.0.1 b.0 fits t.text.bounded b.1 in
    let both = Takes-then bytes at (put_bytes a.0.0) a.0.1 (flat_map put_bytes b.0.0) b.0.1 t.text u.text in
    subst (λ (y : List Put × ℕ). PutsTaken decls symbols r (suc count) least bytes at y.0 y.1) {x = (a.0.0 ∷ b.0.0, b.0.1)} (ok_is (a.0.0 ∷ b.0.0, b.0.1) x b.2)
    (record { text = rw flat_map-cons both; each = (t.is, u.each); len = ap suc u.len })
