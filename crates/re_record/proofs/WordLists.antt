-- Reading the words of vars and folds one behind the other, as a loop does.
use Rattle.std.proofs.Common.{◌≡◌, ℕ, ◌+◌, ◌≤◌, ◌<◌, List, [], ◌∷◌, ◌++◌, length, drop, get_or, Option, None, Some, Result, Ok, Err, refl, sym, ap, ◌∙◌}
use Rattle.std.proofs.lemmas.List.{append-nil, drop_all, drop_more}
use Rattle.re_record.specs.Slots.{kept_slots, slot_of}
use Rattle.re_record.specs.Snapshots.{words_at}
use Rattle.re_record.specs.declared.slots.Role.TheVariants.{Change}
use Rattle.re_record.specs.declared.slots.Slot.{Slot}
use Rattle.re_terms.specs.declared.program.Decl.{Decl}
use Rattle.re_terms.specs.declared.word.Word.{Word}
use Rattle.re_wire.specs.declared.fault.WireFault.{WireFault}
use Rattle.re_wire.specs.declared.fault.WireFault.TheVariants as faults
use Rattle.re_wire.specs.Reading.{Fails, Refuses, word_at}
use Rattle.re_wire.proofs.Several.{with_front, regroup}

next_decl : (decls : List Decl) (i : ℕ) (d : Decl) → i < length decls → d ≡ get_or decls i d → drop i decls ≡ d ∷ drop (i + 1) decls
next_decl decls i d lt is = drop_more decls i d lt ∙ ap (λ (first : Decl). first ∷ drop (i + 1) decls) (sym is)

pub goes_on : (symbols : ℕ) (bytes : List ℕ) (front : List Word) (decls : List Decl) (i at : ℕ) (d : Decl) (slot : Slot) (w : Word) (after : ℕ) (total : Result (List Word × ℕ) ℕ) → i < length decls → d ≡ get_or decls i d
    → slot_of Change d.body ≡ Some slot → word_at slot.kind slot.fold symbols bytes at ≡ Ok (w, after) → with_front front (words_at symbols (kept_slots (drop i decls)) bytes at) ≡ total
    → with_front (front ++ w ∷ []) (words_at symbols (kept_slots (drop (i + 1) decls)) bytes after) ≡ total
unfolding words_at
goes_on symbols bytes front decls i at d slot w after total lt is some h so_far =
    let one : with_front front (words_at symbols (kept_slots (drop i decls)) bytes at) ≡ with_front (front ++ w ∷ []) (words_at symbols (kept_slots (drop (i + 1) decls)) bytes after) = rw (next_decl decls i d lt is, some, h) (regroup front w (words_at symbols (kept_slots (drop (i + 1) decls)) bytes after)) in
    sym one ∙ so_far

pub skips : (symbols : ℕ) (bytes : List ℕ) (front : List Word) (decls : List Decl) (i at : ℕ) (d : Decl) (total : Result (List Word × ℕ) ℕ) → i < length decls → d ≡ get_or decls i d
    → slot_of Change d.body ≡ None → with_front front (words_at symbols (kept_slots (drop i decls)) bytes at) ≡ total
    → with_front front (words_at symbols (kept_slots (drop (i + 1) decls)) bytes at) ≡ total
skips symbols bytes front decls i at d total lt is none so_far =
    let one : kept_slots (drop i decls) ≡ kept_slots (drop (i + 1) decls) = rw (next_decl decls i d lt is, none) refl in
    ap (λ (slots : List Slot). with_front front (words_at symbols slots bytes at)) (sym one) ∙ so_far

pub ends : (symbols : ℕ) (bytes : List ℕ) (e : WireFault) (front : List Word) (decls : List Decl) (i at : ℕ) (d : Decl) (slot : Slot) (total : Result (List Word × ℕ) ℕ) → i < length decls → d ≡ get_or decls i d
    → slot_of Change d.body ≡ Some slot → Refuses e (word_at slot.kind slot.fold symbols bytes at) → with_front front (words_at symbols (kept_slots (drop i decls)) bytes at) ≡ total → Fails e total
unfolding words_at
ends symbols bytes faults.Memory front decls i at d slot total lt is some h so_far = tt
ends symbols bytes (faults.At place) front decls i at d slot total lt is some h so_far =
    let one : with_front front (words_at symbols (kept_slots (drop i decls)) bytes at) ≡ Err place = rw (next_decl decls i d lt is, some, h) refl in
    sym so_far ∙ one

pub is_done : (symbols : ℕ) (bytes : List ℕ) (front : List Word) (decls : List Decl) (i at : ℕ) (total : Result (List Word × ℕ) ℕ) → length decls ≤ i
    → with_front front (words_at symbols (kept_slots (drop i decls)) bytes at) ≡ total → total ≡ Ok (front, at)
unfolding words_at
is_done symbols bytes front decls i at total le so_far =
    let one : with_front front (words_at symbols (kept_slots (drop i decls)) bytes at) ≡ Ok (front, at) = rw (drop_all i decls le) (ap (λ (ws : List Word). Ok (ws, at)) (append-nil front)) in
    sym so_far ∙ one
