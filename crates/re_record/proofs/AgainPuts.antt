-- Ids with words that are written are read again.
use Rattle.std.proofs.Common.{◌≡◌, ℕ, suc, ◌+◌, ◌^◌, ◌<◌, ◌≤◌, true, List, [], ◌∷◌, ◌++◌, length, Some, Ok, refl, sym, ap, subst, ◌∙◌, arith}
use Rattle.std.specs.Int.{w16, to_be_bytes}
use Rattle.std.specs.List.{flat_map}
use Rattle.std.proofs.lemmas.List.Concat.{flat_map-cons}
use Rattle.re_record.specs.Reading.{id_at, put_at, puts_at}
use Rattle.re_record.specs.Slots.{slot_from}
use Rattle.re_record.specs.Spellings.{put_bytes}
use Rattle.re_record.specs.declared.slots.Role.{Role}
use Rattle.re_record.proofs.TakesPuts.{IsPut, ArePuts}
use Rattle.re_terms.specs.Spellings.{word_bytes}
use Rattle.re_terms.specs.declared.entry.Put.{Put}
use Rattle.re_terms.specs.declared.program.Decl.{Decl}
use Rattle.re_wire.proofs.AgainWords.{word_read, is_allowed}
use Rattle.re_wire.proofs.Takes.{Takes, Takes-first, Takes-second, wide16, number_again}
use Rattle.re_wire.specs.Reading.{number_at, word_at}

put_read : (decls : List Decl) (symbols : ℕ) (r : Role) (least : ℕ) (bytes : List ℕ) (at : ℕ) (put : Put) (place : ℕ) → symbols ≤ 2 ^ 16 → put.id < 2 ^ 16 → IsPut decls symbols r least put → Takes bytes at (put_bytes put) place → put_at decls symbols r least bytes at ≡ Ok (put, place)
unfolding put_at put_bytes id_at
put_read decls symbols r least bytes at put place few small is t =
    let first = Takes-first bytes at (to_be_bytes w16 put.id) (word_bytes put.word) place t in
    let second = Takes-second bytes at (to_be_bytes w16 put.id) (word_bytes put.word) place t in
    let id : number_at w16 bytes at ≡ Ok (put.id, at + 2) = number_again w16 (2 ^ 16) wide16 bytes at put.id (at + 2) small first in
    let written : word_at is.slot.kind is.slot.fold symbols bytes (at + 2) ≡ Ok (put.word, place) = word_read is.slot.kind is.slot.fold symbols bytes (at + 2) put.word place few (is_allowed symbols is.slot.kind is.slot.fold put.word is.word) second in
    rw (id, is.is, written) refl

-- each id has two bytes
abbrev pub AreSmall : List Put → Type 0
AreSmall [] = Unit {0}
AreSmall (x ∷ puts) = (x.id < 2 ^ 16) × AreSmall puts

pub puts_read : (decls : List Decl) (symbols : ℕ) (r : Role) (least : ℕ) (bytes : List ℕ) (at : ℕ) (puts : List Put) (place : ℕ) → symbols ≤ 2 ^ 16 → AreSmall puts → ArePuts decls symbols r least puts → Takes bytes at (flat_map put_bytes puts) place
    → puts_at decls symbols r (length puts) least bytes at ≡ Ok (puts, place)
unfolding puts_at
puts_read decls symbols r least bytes at [] place few small each t =
    let place_is : at ≡ place = omega (arith, t.place_is) in
    ap (λ (n : ℕ). Ok ([], n)) place_is
puts_read decls symbols r least bytes at (x ∷ puts) place few small each t =
    let whole : Takes bytes at (put_bytes x ++ flat_map put_bytes puts) place = rw flat_map-cons at t in
    let mid = at + length (put_bytes x) in
    let first = put_read decls symbols r least bytes at x mid few small.0 each.0 (Takes-first bytes at (put_bytes x) (flat_map put_bytes puts) place whole) in
    let others = puts_read decls symbols r (x.id + 1) bytes mid puts place few small.1 each.1 (Takes-second bytes at (put_bytes x) (flat_map put_bytes puts) place whole) in
    rw (first, others) refl
