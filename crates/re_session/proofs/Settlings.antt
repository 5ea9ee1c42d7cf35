-- What lines settle, and the numbers that they tell.
use Rattle.std.proofs.Common.{◌≡◌, ◌==◌, ℕ, Bool, true, false, arith, List, [], ◌∷◌, ◌++◌, Option, Some, None, Ok, Err, refl, sym, ap, subst, ◌∙◌, inl, inr}
use Rattle.std.proofs.lemmas.Bool.Decides.{nat_tests}
use Rattle.std.proofs.lemmas.Option.{slice_get_cases}
use Rattle.std.specs.Prelude.{option_map, slice_get, unwrap_or}
use Rattle.std.specs.Option.{option_map_or}
use Rattle.re_session.specs.Histories.{settler_of}
use Rattle.re_session.specs.LineAnswers.{Reading, line_after, line_answer}
use Rattle.re_terms.specs.DeviceWorlds.{World, Outcome, Fine, Memory, Failed, BadStore, OtherProgram, device_of, done_world, entries_of, failed_world, fared_answer, fared_world, is_for, lacks_packet, outcome_of, record_of, recovered, refusal, reply, settled_number, world_after}
use Rattle.re_terms.specs.Entries.{Merge, turn_entry}
use Rattle.re_terms.specs.Lines.{number_told}
use Rattle.re_terms.specs.Untouched.{HasSettled}
use Rattle.re_terms.specs.Updates.{Update}
use Rattle.re_terms.specs.Worlds.{PlainAnswer, Entered, Applied, Settled, Value, Members, Packet, Hex, Down, Up, Refused, StoppedAt, BadFile}
use Rattle.re_terms.specs.declared.command.Command.{Command}
use Rattle.re_terms.specs.declared.command.Command.TheVariants as command
use Rattle.re_terms.specs.declared.entry.Admitted.{Admitted}
use Rattle.re_terms.specs.declared.program.Program.{Program}
use Rattle.re_terms.proofs.WorldEffects.{committed_here, entered_number, settle_here, settled_is, up_here, up_is}
use Rattle.re_terms.proofs.WorldSteps.{accepted, answered, has_packet, same_device, with_at-other}

one_answer : (a b : PlainAnswer) → Some a ≡ Some b → a ≡ b
one_answer a b h = cc

one_number : (a b : ℕ) → Some a ≡ Some b → a ≡ b
one_number a b h = cc

-- ---- what a command settles that is answered so

module _ (p : Program) (w : World) (o : Outcome) (d n : ℕ) where
  turned : (t : Admitted) → reply p w (command.Turn d t) o ≡ Entered n → HasSettled d (w.unsettled d ++ turn_entry t ∷ []) w (world_after p w (command.Turn d t) o)
  turned t e = subst (HasSettled d (w.unsettled d ++ turn_entry t ∷ []) w) (sym (answered p w (command.Turn d t) o (Entered n) refl e).0) (committed_here w d (w.unsettled d ++ turn_entry t ∷ []))

  merged : (k : ℕ) → reply p w (command.Deliver k d) o ≡ Entered n → (packet : List Update) × (slice_get w.packets k ≡ Some packet) × HasSettled d (w.unsettled d ++ Merge packet ∷ []) w (world_after p w (command.Deliver k d) o)
  merged k e = elim ((slice_get_cases w.packets k).1) [
    | inl found ↦ (
      found.0,
      found.2,
      subst (λ x. HasSettled d (w.unsettled d ++ entries_of (option_map Merge x)) w (world_after p w (command.Deliver k d) o)) found.2
          (subst (HasSettled d (record_of w (command.Deliver k d)) w) (sym (answered p w (command.Deliver k d) o (Entered n) refl e).0) (committed_here w d (record_of w (command.Deliver k d)))),
    )
    | inr none ↦ absurd (let there : lacks_packet w (command.Deliver k d) ≡ false = has_packet p w (command.Deliver k d) (accepted p w (command.Deliver k d) o (Entered n) refl e) in let past = none.0 in grind (arith, nat_tests))
  ]

  settled : reply p w (command.Settle d) o ≡ Settled n → HasSettled d (w.unsettled d) w (world_after p w (command.Settle d) o)
  settled e = subst (HasSettled d (w.unsettled d) w) (sym (answered p w (command.Settle d) o (Settled n) refl e).0) (settle_here w d (w.unsettled d))

  raised : reply p w (command.Restart d) o ≡ Up n → HasSettled d (recovered w d) w (world_after p w (command.Restart d) o)
  raised e = subst (HasSettled d (recovered w d) w) (sym (answered p w (command.Restart d) o (Up n) refl e).0) (up_here w d)

-- the number that an answer tells
told_number : (p : Program) (w : World) (c : Command) (o : Outcome) (d n : ℕ) (a : PlainAnswer) → is_for d c ≡ true → reply p w c o ≡ a → number_told a ≡ Some n → settled_number (world_after p w c o) d ≡ n
told_number p w c o d n (Entered m) mine is told = (entered_number p w d c o m mine is).2 ∙ one_number m n told
told_number p w c o d n (Settled m) mine is told = (settled_is p w d c o m mine is).1 ∙ one_number m n told
told_number p w c o d n (Up m) mine is told = (up_is p w d c o m mine is).0 ∙ one_number m n told
told_number p w c o d n (Applied m) mine is told = absurd (cc)
told_number p w c o d n (Value x) mine is told = absurd (cc)
told_number p w c o d n (Members ws) mine is told = absurd (cc)
told_number p w c o d n (Packet m) mine is told = absurd (cc)
told_number p w c o d n (Hex bytes) mine is told = absurd (cc)
told_number p w c o d n Down mine is told = absurd (cc)
told_number p w c o d n (Refused code) mine is told = absurd (cc)
told_number p w c o d n (StoppedAt call) mine is told = absurd (cc)
told_number p w c o d n (BadFile file place) mine is told = absurd (cc)

-- ---- what no line settles

module _ (p : Program) (w : World) (d : ℕ) where
  apart : (e : ℕ) → (Some e ≡ Some d → ⊥) → (d == e) ≡ false
  apart e other = let no : e ≡ d → ⊥ = λ same. other (ap Some same) in grind (arith, nat_tests)

  done_keeps : (c : Command) → (settler_of (Ok (Some c)) (Some (fared_answer p w c Fine)) ≡ Some d → ⊥) → (done_world w c).settled d ≡ w.settled d
  done_keeps (command.Turn e t) other = with_at-other e _ w.settled d (apart e other)
  done_keeps (command.Deliver k e) other = with_at-other e _ w.settled d (apart e other)
  done_keeps (command.Settle e) other = with_at-other e _ w.settled d (apart e other)
  done_keeps (command.Restart e) other = with_at-other e _ w.settled d (apart e other)
  done_keeps (command.Lazy e t) other = refl
  done_keeps (command.Get e id) other = refl
  done_keeps (command.Send e) other = refl
  done_keeps (command.Hex k) other = refl
  done_keeps (command.Crash e) other = refl

  failed_keeps : (c : Command) (at : ℕ) (gate_open : Bool) → (failed_world w c at gate_open).settled d ≡ w.settled d
  failed_keeps (command.Turn e t) at gate_open = refl
  failed_keeps (command.Deliver k e) at gate_open = refl
  failed_keeps (command.Settle e) at gate_open = refl
  failed_keeps (command.Restart e) at gate_open = refl
  failed_keeps (command.Lazy e t) at gate_open = refl
  failed_keeps (command.Get e id) at gate_open = refl
  failed_keeps (command.Send e) at gate_open = refl
  failed_keeps (command.Hex k) at gate_open = refl
  failed_keeps (command.Crash e) at gate_open = refl

  fared_keeps : (c : Command) (r : Option PlainAnswer) (x : Outcome) → (settler_of (Ok (Some c)) (Some (unwrap_or r (fared_answer p w c x))) ≡ Some d → ⊥) → (option_map_or (λ refused. w) r (fared_world w c x)).settled d ≡ w.settled d
  fared_keeps c (Some a) x other = refl
  fared_keeps c None Fine other = done_keeps c other
  fared_keeps c None Memory other = refl
  fared_keeps c None (Failed at gate_open) other = failed_keeps c at gate_open
  fared_keeps c None (BadStore file place) other = refl
  fared_keeps c None OtherProgram other = refl

  memory_keeps : (c : Command) (r : Option PlainAnswer) → (option_map_or (λ refused. w) r (fared_world w c Memory)).settled d ≡ w.settled d
  memory_keeps c (Some a) = refl
  memory_keeps c None = refl

  -- a line that isn't answered so settles nothing
  pub line_keeps : (l : Reading) (o : Outcome) → (settler_of l (line_answer p w l o) ≡ Some d → ⊥) → (line_after p w l o).settled d ≡ w.settled d
  line_keeps (Ok None) o other = refl
  line_keeps (Ok (Some c)) Memory other = memory_keeps c (refusal p w c)
  line_keeps (Ok (Some c)) Fine other = fared_keeps c (refusal p w c) Fine other
  line_keeps (Ok (Some c)) (Failed at gate_open) other = fared_keeps c (refusal p w c) (outcome_of w c (Failed at gate_open)) other
  line_keeps (Ok (Some c)) (BadStore file place) other = fared_keeps c (refusal p w c) (outcome_of w c (BadStore file place)) other
  line_keeps (Ok (Some c)) OtherProgram other = fared_keeps c (refusal p w c) (outcome_of w c OtherProgram) other
  line_keeps (Err f) o other = refl

-- ---- lines

module _ (p : Program) (w : World) (l : Reading) (o : Outcome) (c : Command) (is : l ≡ Ok (Some c)) where
  replied : (a : PlainAnswer) → line_answer p w l o ≡ Some a → reply p w c o ≡ a
  replied a h = one_answer _ _ (sym (ap (λ x. line_answer p w x o) is) ∙ h)

  after_is : line_after p w l o ≡ world_after p w c o
  after_is = ap (λ x. line_after p w x o) is

pub turn_line : (p : Program) (w : World) (l : Reading) (o : Outcome) (d : ℕ) (t : Admitted) (n : ℕ) → l ≡ Ok (Some (command.Turn d t)) → line_answer p w l o ≡ Some (Entered n) → HasSettled d (w.unsettled d ++ turn_entry t ∷ []) w (line_after p w l o)
turn_line p w l o d t n is h = subst (HasSettled d (w.unsettled d ++ turn_entry t ∷ []) w) (sym (after_is p w l o (command.Turn d t) is)) (turned p w o d n t (replied p w l o (command.Turn d t) is (Entered n) h))

pub deliver_line : (p : Program) (w : World) (l : Reading) (o : Outcome) (d k n : ℕ) → l ≡ Ok (Some (command.Deliver k d)) → line_answer p w l o ≡ Some (Entered n) → (packet : List Update) × (slice_get w.packets k ≡ Some packet) × HasSettled d (w.unsettled d ++ Merge packet ∷ []) w (line_after p w l o)
deliver_line p w l o d k n is h =
    let m = merged p w o d n k (replied p w l o (command.Deliver k d) is (Entered n) h) in
    (m.0, m.1, subst (HasSettled d (w.unsettled d ++ Merge m.0 ∷ []) w) (sym (after_is p w l o (command.Deliver k d) is)) m.2)

pub settle_line : (p : Program) (w : World) (l : Reading) (o : Outcome) (d n : ℕ) → l ≡ Ok (Some (command.Settle d)) → line_answer p w l o ≡ Some (Settled n) → HasSettled d (w.unsettled d) w (line_after p w l o)
settle_line p w l o d n is h = subst (HasSettled d (w.unsettled d) w) (sym (after_is p w l o (command.Settle d) is)) (settled p w o d n (replied p w l o (command.Settle d) is (Settled n) h))

pub restart_line : (p : Program) (w : World) (l : Reading) (o : Outcome) (d n : ℕ) → l ≡ Ok (Some (command.Restart d)) → line_answer p w l o ≡ Some (Up n) → HasSettled d (recovered w d) w (line_after p w l o)
restart_line p w l o d n is h = subst (HasSettled d (recovered w d) w) (sym (after_is p w l o (command.Restart d) is)) (raised p w o d n (replied p w l o (command.Restart d) is (Up n) h))

pub number_line : (p : Program) (w : World) (l : Reading) (o : Outcome) (c : Command) (d : ℕ) (a : PlainAnswer) (n : ℕ) → l ≡ Ok (Some c) → device_of c ≡ Some d → line_answer p w l o ≡ Some a → number_told a ≡ Some n → settled_number (line_after p w l o) d ≡ n
number_line p w l o c d a n is mine h told =
    let for_it : is_for d c ≡ true = ap (λ x. option_map_or (λ e. d == e) x false) mine ∙ same_device d in
    ap (λ v. settled_number v d) (after_is p w l o c is) ∙ told_number p w c o d n a for_it (replied p w l o c is a h) told
