-- The snapshot that is due.
use Rattle.std.proofs.Common.{◌≡◌, ◌<◌, ◌≤◌, ◌-◌, ◌^◌, ◌++◌, ◌∷◌, [], ℕ, suc, Bool, true, false, ◌&&◌, Some, None, List, length, refl, sym, ap, subst, ◌∙◌, append_assoc, arith}
use Rattle.std.specs.Prelude.{nat_lt, if◌then◌else◌}
use Rattle.std.specs.Int.{w64, to_be_bytes}
use Rattle.std.proofs.lemmas.Bool.{leb-true}
use Rattle.re_compact.specs.Committing.{Succeeds}
use Rattle.re_outside.specs.Frame.{IsGeneration, generation}
use Rattle.re_print.specs.Canonical.{program_text}
use Rattle.re_record.proofs.LoggedLengths.{generation_is, snapshot_long, snapshot_some}
use Rattle.re_record.specs.Restoring.{Opened}
use Rattle.re_record.specs.Spellings.{head_bytes, kept_bytes, owner_bytes, snapshot_bytes, text_bytes}
use Rattle.re_record.specs.Stores.{ComesTo}
use Rattle.re_terms.specs.Listed.{Listed, plain}
use Rattle.re_terms.specs.Programs.{IsProgram}
use Rattle.re_terms.specs.Shapes.{FitsShape, shape_of}
use Rattle.re_terms.specs.WordKinds.{AreWordsOf, IsStateOf}
use Rattle.re_terms.specs.declared.entry.State.{State}
use Rattle.re_terms.specs.declared.program.Program.{Program}
use Rattle.re_terms.specs.declared.replicated.RState.{RState}
use Rattle.re_terms.specs.declared.word.Word.{Word}
use Rattle.re_device.specs.Committing.{due_snapshot, is_due, next_snapshot}
use Rattle.re_device.specs.Device.{DeviceState}

begins_with : (p : Program) (device g number : ℕ) (s : State) → (rest : List ℕ) × (snapshot_bytes p device g number s ≡ to_be_bytes w64 g ++ rest)
unfolding snapshot_bytes head_bytes owner_bytes
begins_with p device g number s =
    let own = 1 ∷ device ∷ to_be_bytes w64 number in
    let last = text_bytes (program_text p) in
    let rest = kept_bytes (shape_of p).devices s in
    let first = to_be_bytes w64 g in
    (own ++ (last ++ rest), append_assoc (first ++ own) last rest ∙ append_assoc first own (last ++ rest))

-- what is reserved in the list of words isn't in it
pub same_snapshot : (p : Program) (device g number : ℕ) (words : Listed Word) (rep : RState) → snapshot_bytes p device g number (record { words = words; rep = rep }) ≡ snapshot_bytes p device g number (record { words = plain words.items; rep = rep })
unfolding snapshot_bytes kept_bytes
same_snapshot p device g number words rep = refl

-- a state that was copied is one of the program too
pub copied_state : (p : Program) (s : State) (words : Listed Word) (rep : RState) → IsStateOf p s → words.items ≡ s.words.items → rep ≡ s.rep → IsStateOf p (record { words = words; rep = rep })
copied_state p s words rep is words_are rep_is = record { words = subst (AreWordsOf p) (sym words_are) is.words; rep = subst (FitsShape (shape_of p)) (sym rep_is) is.rep }

pub due_some : (d : DeviceState) → is_due d ≡ true → due_snapshot d ≡ Some (next_snapshot d)
due_some d is = ap (λ (b : Bool). if b then Some (next_snapshot d) else None) is

pub due_none : (d : DeviceState) → is_due d ≡ false → due_snapshot d ≡ None
due_none d is = ap (λ (b : Bool). if b then Some (next_snapshot d) else None) is

both_true : (a b : Bool) → (a && b) ≡ true → (a ≡ true) × (b ≡ true)
both_true true b is = (refl, is)
both_true false b is = absurd (let e : false ≡ true = is in cc)

-- where it is due there is a generation more
pub due_below : (d : DeviceState) → is_due d ≡ true → d.generation < 2 ^ 62
due_below d is = leb-true (suc d.generation) (2 ^ 62) (both_true (nat_lt 65536 (d.journal.gate - d.journal.start - 1)) (nat_lt d.generation (2 ^ 62)) is).1

module _ (p : Program) (is : IsProgram p) (short : length (program_text p) ≤ 65536) (device g : ℕ) (o : Opened) (state : IsStateOf p o.state) (next : IsGeneration g) where
  -- it may follow a snapshot of a lesser generation
  pub succeeds : (snapshot : List ℕ) → generation snapshot < g → Succeeds snapshot (snapshot_bytes p device g o.number o.state)
  succeeds snapshot newer =
      let split = begins_with p device g o.number o.state in
      let long = snapshot_long p device g o.number o.state is short state in
      record {
        number = g;
        fits = record { rest = split.0; whole = split.1; size = (snapshot_some p device g o.number o.state, omega (arith, long)); number = next };
        newer = newer;
      }

  -- it comes to what it was made of
  pub snapshot_comes : o.number < 2 ^ 48 → o.state.words.spare ≡ 0 → ComesTo p device (snapshot_bytes p device g o.number o.state) [] o
  snapshot_comes few none = record {
    snapshot = record { number = o.number; state = o.state };
    entries = [];
    reads = (record { few = few; state = state; plain = none }, ap (λ (n : ℕ). snapshot_bytes p device n o.number o.state) (sym (generation_is p device g o.number o.state next)));
    records = refl;
    opened = refl;
  }
