-- What is read of a snapshot is spelled so, and what is spelled so is read.
use Rattle.std.proofs.Common.{◌≡◌, ℕ, suc, ◌+◌, ◌-◌, ◌^◌, ◌<◌, ◌≤◌, Bool, true, false, cond, ltb, eqb, List, [], ◌∷◌, ◌++◌, length, take, drop, Result, Ok, Err, refl, sym, ap, subst, ◌∙◌, append_assoc, arith, length-append, length-take, length-drop}
use Rattle.std.specs.Int.{w8, w32, w64, to_be_bytes, from_be_bytes}
use Rattle.std.specs.List.{flat_map}
use Rattle.std.specs.Str.{bytes_eq}
use Rattle.std.proofs.lemmas.Bool.{eqb-true, eq-eqb, ltb-false, le-ltb}
use Rattle.std.proofs.lemmas.List.{append-nil, drop_all, take_at, take-append-drop}
use Rattle.std.proofs.lemmas.List.Concat.{flat_map-cons}
use Rattle.re_record.specs.Snapshots.{owner_at, span_at, text_at, head_at, span, words_at, kept_at}
use Rattle.re_record.specs.Spellings.{owner_bytes, text_bytes, head_bytes, kept_bytes}
use Rattle.re_record.specs.declared.slots.Slot.{Slot}
use Rattle.re_record.proofs.KeptWords.{AreWordsIn}
use Rattle.re_terms.specs.Listed.{Listed, plain}
use Rattle.re_terms.specs.Shapes.{FitsShape, IsShape}
use Rattle.re_terms.specs.Spellings.{state_bytes, word_bytes}
use Rattle.re_terms.specs.declared.entry.State.{State}
use Rattle.re_terms.specs.declared.program.Program.{Program}
use Rattle.re_terms.specs.declared.replicated.Shape.{Shape}
use Rattle.re_terms.specs.declared.word.Word.{Word}
use Rattle.re_record.specs.Slots.{kept_slots}
use Rattle.re_wire.proofs.AgainStates.{state_read}
use Rattle.re_wire.proofs.AgainWords.{word_read, is_allowed}
use Rattle.re_wire.proofs.Bytes.{IsBytes}
use Rattle.re_wire.proofs.Takes.{bind_ok, unless_ok, when_ok, ok_is, Takes, Takes-none, Takes-then, Takes-first, Takes-second, byte_is, wide8, wide32, wide64, number_takes, number_again, below_takes, below_again}
use Rattle.re_wire.proofs.TakesStates.{state_taken}
use Rattle.re_wire.proofs.TakesWords.{word_taken, allowed}
use Rattle.re_wire.specs.Reading.{◌>>=◌, number_at, below_at, format_at, listed, word_at, state_at}

-- ---- words

record WordsTaken (symbols : ℕ) (slots : List Slot) (bytes : List ℕ) (at : ℕ) (ws : List Word) (place : ℕ) : Type 0 where
  text : Takes bytes at (flat_map word_bytes ws) place
  each : AreWordsIn symbols slots ws

words_take : (symbols : ℕ) (slots : List Slot) (bytes : List ℕ) (at : ℕ) (x : List Word × ℕ) → IsBytes bytes → at ≤ length bytes → words_at symbols slots bytes at ≡ Ok x → WordsTaken symbols slots bytes at x.0 x.1
unfolding words_at
words_take symbols [] bytes at x fits start e =
    subst (λ (y : List Word × ℕ). WordsTaken symbols [] bytes at y.0 y.1) {x = ([], at)} (ok_is ([], at) x e) (record { text = Takes-none bytes at start; each = tt })
words_take symbols (slot ∷ slots) bytes at x fits start e =
    let a = bind_ok (word_at slot.kind slot.fold symbols bytes at) (λ first. words_at symbols slots bytes first.1 >>= λ others. Ok (first.0 ∷ others.0, others.1)) x e in
    let b = bind_ok (words_at symbols slots bytes a.0.1) (λ others. Ok (a.0.0 ∷ others.0, others.1)) x a.2 in
    let t = word_taken slot.kind slot.fold symbols bytes at a.0 fits a.1 in
    let u = words_take symbols slots bytes a.0.1 b.0 fits t.0.bounded b.1 in
    let both = Takes-then bytes at (word_bytes a.0.0) a.0.1 (flat_map word_bytes b.0.0) b.0.1 t.0 u.text in
    subst (λ (y : List Word × ℕ). WordsTaken symbols (slot ∷ slots) bytes at y.0 y.1) {x = (a.0.0 ∷ b.0.0, b.0.1)} (ok_is (a.0.0 ∷ b.0.0, b.0.1) x b.2)
    (record { text = rw flat_map-cons both; each = (allowed symbols slot.kind slot.fold a.0.0 t.1, u.each) })

words_read : (symbols : ℕ) (slots : List Slot) (bytes : List ℕ) (at : ℕ) (ws : List Word) (place : ℕ) → symbols ≤ 2 ^ 16 → AreWordsIn symbols slots ws → Takes bytes at (flat_map word_bytes ws) place → words_at symbols slots bytes at ≡ Ok (ws, place)
unfolding words_at
words_read symbols [] bytes at [] place few each t = let place_is : at ≡ place = omega (arith, t.place_is) in ap (λ (n : ℕ). Ok ([], n)) place_is
words_read symbols [] bytes at (w ∷ ws) place few each t = absurd each
words_read symbols (slot ∷ slots) bytes at [] place few each t = absurd each
words_read symbols (slot ∷ slots) bytes at (w ∷ ws) place few each t =
    let whole : Takes bytes at (word_bytes w ++ flat_map word_bytes ws) place = rw flat_map-cons at t in
    let mid = at + length (word_bytes w) in
    let first = word_read slot.kind slot.fold symbols bytes at w mid few (is_allowed symbols slot.kind slot.fold w each.0) (Takes-first bytes at (word_bytes w) (flat_map word_bytes ws) place whole) in
    let others = words_read symbols slots bytes mid ws place few each.1 (Takes-second bytes at (word_bytes w) (flat_map word_bytes ws) place whole) in
    rw (first, others) refl

-- ---- what stands behind the text

pub record KeptTaken (p : Program) (shape : Shape) (bytes : List ℕ) (at : ℕ) (s : State) : Type 0 where
  pub text : drop at bytes ≡ kept_bytes shape.devices s
  pub words : AreWordsIn shape.symbols (kept_slots p.decls.items) s.words.items
  pub rep : FitsShape shape s.rep
  pub plain : s.words.spare ≡ 0

pub kept_takes : (p : Program) (shape : Shape) (bytes : List ℕ) (at : ℕ) (x : State) → IsShape shape → IsBytes bytes → at ≤ length bytes → kept_at p shape bytes at ≡ Ok x → KeptTaken p shape bytes at x
unfolding kept_at kept_bytes
kept_takes p shape bytes at x is fits start e =
    let slots = kept_slots p.decls.items in
    let a = bind_ok (listed (words_at shape.symbols slots bytes at)) (λ words. state_at shape bytes words.1 >>= λ rep. cond (ltb rep.1 (length bytes)) (Err rep.1) (Ok (record { words = words.0; rep = rep.0 }))) x e in
    let b = bind_ok (words_at shape.symbols slots bytes at) (λ items. Ok (plain items.0, items.1)) a.0 a.1 in
    let c = bind_ok (state_at shape bytes a.0.1) (λ rep. cond (ltb rep.1 (length bytes)) (Err rep.1) (Ok (record { words = a.0.0; rep = rep.0 }))) x a.2 in
    let g = unless_ok (ltb c.0.1 (length bytes)) c.0.1 (Ok (record { words = a.0.0; rep = c.0.0 })) x c.2 in
    let t = words_take shape.symbols slots bytes at b.0 fits start b.1 in
    let listed_is : (plain b.0.0, b.0.1) ≡ a.0 = ok_is (plain b.0.0, b.0.1) a.0 b.2 in
    let mid : b.0.1 ≡ a.0.1 = ap (λ (y : Listed Word × ℕ). y.1) listed_is in
    let u = state_taken shape bytes a.0.1 c.0 is fits (omega (arith, mid, t.text.bounded)) c.1 in
    let words : Takes bytes at (flat_map word_bytes b.0.0) a.0.1 = subst (λ (n : ℕ). Takes bytes at (flat_map word_bytes b.0.0) n) mid t.text in
    let whole = Takes-then bytes at (flat_map word_bytes b.0.0) a.0.1 (state_bytes shape.devices c.0.0) c.0.1 words u.text in
    let nothing : drop c.0.1 bytes ≡ [] = drop_all c.0.1 bytes (ltb-false _ _ g.0) in
    let all = flat_map word_bytes b.0.0 ++ state_bytes shape.devices c.0.0 in
    let text : drop at bytes ≡ all = whole.parts ∙ ap (λ (l : List ℕ). all ++ l) nothing ∙ append-nil all in
    let items : plain b.0.0 ≡ a.0.0 = ap (λ (y : Listed Word × ℕ). y.0) listed_is in
    let same : record { words = plain b.0.0; rep = c.0.0 } ≡ x = ap (λ (l : Listed Word). record { words = l; rep = c.0.0 }) items ∙ ok_is (record { words = a.0.0; rep = c.0.0 }) x g.1 in
    subst (λ (y : State). KeptTaken p shape bytes at y) {x = record { words = plain b.0.0; rep = c.0.0 }} same (record { text = text; words = t.each; rep = u.fits; plain = refl })

pub kept_again : (p : Program) (shape : Shape) (bytes : List ℕ) (at : ℕ) (s : State) → IsShape shape → at ≤ length bytes → AreWordsIn shape.symbols (kept_slots p.decls.items) s.words.items → FitsShape shape s.rep → s.words.spare ≡ 0
    → drop at bytes ≡ kept_bytes shape.devices s → kept_at p shape bytes at ≡ Ok s
unfolding kept_at kept_bytes
kept_again p shape bytes at s is start words rep plain_is e =
    let xs = flat_map word_bytes s.words.items in
    let ys = state_bytes shape.devices s.rep in
    let nothing : drop (length bytes) bytes ≡ [] = drop_all (length bytes) bytes (omega arith) in
    let whole : Takes bytes at (xs ++ ys) (length bytes) = record { parts = e ∙ sym (append-nil (xs ++ ys)) ∙ ap (λ (l : List ℕ). (xs ++ ys) ++ l) (sym nothing); place_is = omega (arith, length-drop at bytes, ap (λ (l : List ℕ). length l) e); bounded = omega arith } in
    let read = words_read shape.symbols (kept_slots p.decls.items) bytes at s.words.items (at + length xs) (omega (arith, is.symbols)) words (Takes-first bytes at xs ys (length bytes) whole) in
    let state = state_read shape bytes (at + length xs) s.rep (length bytes) is rep (Takes-second bytes at xs ys (length bytes) whole) in
    let end : ltb (length bytes) (length bytes) ≡ false = le-ltb _ _ (omega arith) in
    let spare : 0 ≡ s.words.spare = sym plain_is in
    rw (read, state, end) (λ i. Ok (record { words = record { items = s.words.items; spare = spare i }; rep = s.rep }))
