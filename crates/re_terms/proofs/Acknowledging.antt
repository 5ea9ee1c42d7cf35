-- Settled entries stay, and what is acknowledged is settled.
use Rattle.std.proofs.Common.{◌≡◌, ℕ, ◌≤◌, Bool, true, false, List, [], ◌∷◌, ◌++◌, Option, Some, None, refl, sym, ap, ◌∙◌, subst, arith, length, length-append}
use Rattle.std.proofs.lemmas.Bool.Decides.{nat_tests}
use Rattle.std.proofs.lemmas.List.{append-nil}
use Rattle.std.specs.Option.{option_map_or}
use Rattle.std.specs.Prelude.{◌==◌, if◌then◌else◌, take}
use Rattle.re_terms.specs.declared.command.Command.{Command}
use Rattle.re_terms.specs.declared.command.Command.TheVariants as command
use Rattle.re_terms.specs.declared.program.Program.{Program}
use Rattle.re_terms.specs.DeviceWorlds.{World, Outcome, Fine, Memory, Failed, BadStore, OtherProgram, done_world, failed_world, fared_world, is_for, outcome_of, record_of, recovered, refusal, reply, settled_number, with_at, world_after}
use Rattle.re_terms.specs.Entries.{PlainEntry}
use Rattle.re_terms.specs.Lines.{Done, acknowledged, greater_of, number_told, told, worlds_after}
use Rattle.re_terms.specs.Worlds.{PlainAnswer, Entered, Applied, Settled, Value, Members, Packet, Hex, Down, Up, Refused, StoppedAt, BadFile}
use Rattle.re_terms.proofs.WorldEffects.{entered_number, settled_is, up_is}
use Rattle.re_terms.proofs.WorldSteps.{with_at-other, with_at-same}

-- a device has its settled entries as before, and more behind them
abbrev pub Grows : ℕ → World → World → Type 0
Grows d old new = (more : List PlainEntry) × (new.settled d ≡ old.settled d ++ more)

stays : (w : World) (d : ℕ) → Grows d w w
stays w d = ([], sym (append-nil (w.settled d)))

settle_grows : (w : World) (d e : ℕ) (entries : List PlainEntry) → (more : List PlainEntry) × (with_at e (w.settled e ++ entries) w.settled d ≡ w.settled d ++ more)
settle_grows w d e entries = elim (d == e) as (λ b. (d == e) ≡ b → (more : List PlainEntry) × (with_at e (w.settled e ++ entries) w.settled d ≡ w.settled d ++ more)) [
  | true ↦ λ h. subst (λ x. (more : List PlainEntry) × (with_at e (w.settled e ++ entries) w.settled x ≡ w.settled x ++ more)) (same h) (entries, with_at-same e (w.settled e ++ entries) w.settled)
  | false ↦ λ h. ([], with_at-other e (w.settled e ++ entries) w.settled d h ∙ sym (append-nil (w.settled d)))
] refl
  where
    same : (d == e) ≡ true → e ≡ d
    same h = grind (arith, nat_tests)

module _ (w : World) (d : ℕ) where
  done_grows : (c : Command) → Grows d w (done_world w c)
  done_grows (command.Turn e t) = settle_grows w d e (record_of w (command.Turn e t))
  done_grows (command.Lazy e t) = stays w d
  done_grows (command.Settle e) = settle_grows w d e (w.unsettled e)
  done_grows (command.Get e id) = stays w d
  done_grows (command.Send e) = stays w d
  done_grows (command.Deliver k e) = settle_grows w d e (record_of w (command.Deliver k e))
  done_grows (command.Hex k) = stays w d
  done_grows (command.Crash e) = stays w d
  done_grows (command.Restart e) = settle_grows w d e (recovered w e)

  failed_grows : (c : Command) (at : ℕ) (gate_open : Bool) → Grows d w (failed_world w c at gate_open)
  failed_grows (command.Turn e t) at gate_open = stays w d
  failed_grows (command.Lazy e t) at gate_open = stays w d
  failed_grows (command.Settle e) at gate_open = stays w d
  failed_grows (command.Get e id) at gate_open = stays w d
  failed_grows (command.Send e) at gate_open = stays w d
  failed_grows (command.Deliver k e) at gate_open = stays w d
  failed_grows (command.Hex k) at gate_open = stays w d
  failed_grows (command.Crash e) at gate_open = stays w d
  failed_grows (command.Restart e) at gate_open = stays w d

  fared_grows : (c : Command) (o : Outcome) → Grows d w (fared_world w c o)
  fared_grows c Fine = done_grows c
  fared_grows c Memory = stays w d
  fared_grows c (Failed at gate_open) = failed_grows c at gate_open
  fared_grows c (BadStore file place) = stays w d
  fared_grows c OtherProgram = stays w d

  done_base : (c : Command) → (done_world w c).base_number ≡ w.base_number
  done_base (command.Turn e t) = refl
  done_base (command.Lazy e t) = refl
  done_base (command.Settle e) = refl
  done_base (command.Get e id) = refl
  done_base (command.Send e) = refl
  done_base (command.Deliver k e) = refl
  done_base (command.Hex k) = refl
  done_base (command.Crash e) = refl
  done_base (command.Restart e) = refl

  failed_base : (c : Command) (at : ℕ) (gate_open : Bool) → (failed_world w c at gate_open).base_number ≡ w.base_number
  failed_base (command.Turn e t) at gate_open = refl
  failed_base (command.Lazy e t) at gate_open = refl
  failed_base (command.Settle e) at gate_open = refl
  failed_base (command.Get e id) at gate_open = refl
  failed_base (command.Send e) at gate_open = refl
  failed_base (command.Deliver k e) at gate_open = refl
  failed_base (command.Hex k) at gate_open = refl
  failed_base (command.Crash e) at gate_open = refl
  failed_base (command.Restart e) at gate_open = refl

  fared_base : (c : Command) (o : Outcome) → (fared_world w c o).base_number ≡ w.base_number
  fared_base c Fine = done_base c
  fared_base c Memory = refl
  fared_base c (Failed at gate_open) = failed_base c at gate_open
  fared_base c (BadStore file place) = refl
  fared_base c OtherProgram = refl

module _ (p : Program) (w : World) (c : Command) (o : Outcome) (d : ℕ) where
  pub grows : Grows d w (world_after p w c o)
  grows = by_refusal (refusal p w c)
    where
      by_refusal : (r : Option PlainAnswer) → Grows d w (option_map_or (λ refused. w) r (fared_world w c (outcome_of w c o)))
      by_refusal None = fared_grows w d c (outcome_of w c o)
      by_refusal (Some a) = stays w d

  base_stays : (world_after p w c o).base_number ≡ w.base_number
  base_stays = by_refusal (refusal p w c)
    where
      by_refusal : (r : Option PlainAnswer) → (option_map_or (λ refused. w) r (fared_world w c (outcome_of w c o))).base_number ≡ w.base_number
      by_refusal None = fared_base w d c (outcome_of w c o)
      by_refusal (Some a) = refl

  no_less : settled_number w d ≤ settled_number (world_after p w c o) d
  no_less =
      let g = grows in
      let b = ap (λ f. f d) base_stays in
      let s = ap length g.1 in
      let l = length-append (w.settled d) g.0 in
      omega arith

  module _ (n : ℕ) (h : n ≤ settled_number w d) where
    told_mine : is_for d c ≡ true → (a : PlainAnswer) → reply p w c o ≡ a → greater_of n (number_told a) ≤ settled_number (world_after p w c o) d
    told_mine mine (Entered m) e = let k = (entered_number p w d c o m mine e).2 in let s = no_less in omega arith
    told_mine mine (Settled m) e = let k = (settled_is p w d c o m mine e).1 in let s = no_less in omega arith
    told_mine mine (Up m) e = let k = (up_is p w d c o m mine e).0 in let s = no_less in omega arith
    told_mine mine (Applied m) e = let s = no_less in omega arith
    told_mine mine (Value x) e = let s = no_less in omega arith
    told_mine mine (Members ws) e = let s = no_less in omega arith
    told_mine mine (Packet m) e = let s = no_less in omega arith
    told_mine mine (Hex bytes) e = let s = no_less in omega arith
    told_mine mine Down e = let s = no_less in omega arith
    told_mine mine (Refused code) e = let s = no_less in omega arith
    told_mine mine (StoppedAt call) e = let s = no_less in omega arith
    told_mine mine (BadFile file place) e = let s = no_less in omega arith

    told_one : (if is_for d c then greater_of n (number_told (reply p w c o)) else n) ≤ settled_number (world_after p w c o) d
    told_one = by_device (is_for d c) refl
      where
        by_device : (b : Bool) → is_for d c ≡ b → (if b then greater_of n (number_told (reply p w c o)) else n) ≤ settled_number (world_after p w c o) d
        by_device true e = told_mine e (reply p w c o) refl
        by_device false e = let s = no_less in omega arith

pub told_within : (p : Program) (w : World) (done : List Done) (d n : ℕ) → n ≤ settled_number w d → told p w done d n ≤ settled_number (worlds_after p w done) d
told_within p w [] d n h = h
told_within p w (c ∷ done) d n h = told_within p (world_after p w c.asked c.outcome) done d (if is_for d c.asked then greater_of n (number_told (reply p w c.asked c.outcome)) else n) (told_one p w c.asked c.outcome d n h)

pub acknowledged_within : (p : Program) (w : World) (done : List Done) (answered d : ℕ) → acknowledged p w done answered d ≤ settled_number (worlds_after p w (take answered done)) d
acknowledged_within p w done answered d = told_within p w (take answered done) d (w.base_number d) (omega arith)
