-- One step of a world of several devices.
use Rattle.std.proofs.Common.{◌≡◌, ◌≢◌, ℕ, Bool, true, false, List, Option, Some, None, refl, sym, ap, ◌∙◌, arith, inl, inr}
use Rattle.std.proofs.lemmas.Bool.Decides.{nat_tests}
use Rattle.std.specs.Option.{option_map_or, option_or}
use Rattle.std.specs.Prelude.{◌==◌, ◌⊎◌, ◌↔◌, not, if◌then◌else◌, option_map, unwrap_or}
use mathlib.Core.Bool.{true≢false}
use Rattle.re_terms.specs.declared.command.Command.{Command}
use Rattle.re_terms.specs.declared.command.Command.TheVariants as command
use Rattle.re_terms.specs.declared.program.Program.{Program}
use Rattle.re_terms.specs.declared.word.Word.{Word}
use Rattle.re_terms.specs.DeviceWorlds.{World, Outcome, Fine, Memory, Failed, BadStore, OtherProgram, with_at, is_for, is_down, is_up, is_refusal, calls_files, counted, doubt, done_answer, done_world, failed_world, fared_answer, fared_world, has_all_entries, has_all_packets, has_all_unsettled, lacks_packet, limit_fault, outcome_of, reads_store, refusal, refused_where, reply, settle, stopped_at, world_after}
use Rattle.re_terms.specs.Entries.{PlainEntry}
use Rattle.re_terms.specs.Limits.{OperationFault, SetFull, CounterFull, DotsSpent}
use Rattle.re_terms.specs.Untouched.{IsUntouched}
use Rattle.re_terms.specs.Worlds.{PlainAnswer, Entered, Applied, Settled, Value, Members, Packet, Hex, Down, Up, Refused, StoppedAt, BadFile, is_set_at, limit_code}

pub some_none : {A : Type 0} (a : A) → Some a ≡ None → ⊥
some_none a e = cc

-- ---- functions of devices

pub same_device : (d : ℕ) → (d == d) ≡ true
same_device d = grind (arith, nat_tests)

pub with_at-same : {T : Type 0} (d : ℕ) (x : T) (f : ℕ → T) → with_at d x f d ≡ x
with_at-same d x f = ap (λ b. if b then x else f d) (same_device d)

pub with_at-other : {T : Type 0} (d : ℕ) (x : T) (f : ℕ → T) (e : ℕ) → (e == d) ≡ false → with_at d x f e ≡ f e
with_at-other d x f e h = ap (λ b. if b then x else f e) h

-- ---- a device that a command isn't for

-- a device stands in a world as in itself
pub untouched_same : (d : ℕ) (w : World) → IsUntouched d w w
untouched_same d w = record { base = refl; base_number = refl; settled = refl; unsettled = refl; in_doubt = refl; reads = refl; count = refl; stop = refl; up = refl }

module _ (w : World) (d : ℕ) where
  settle_other : (e : ℕ) (entries : List PlainEntry) → (d == e) ≡ false → IsUntouched d w (settle w e entries)
  settle_other e entries h = record {
    base = refl;
    base_number = refl;
    settled = with_at-other e _ w.settled d h;
    unsettled = with_at-other e _ w.unsettled d h;
    in_doubt = refl;
    reads = refl;
    count = refl;
    stop = refl;
    up = refl;
  }

  committed_other : (e : ℕ) (entries : List PlainEntry) → (d == e) ≡ false → IsUntouched d w (counted (settle w e entries) e)
  committed_other e entries h = record {
    base = refl;
    base_number = refl;
    settled = with_at-other e _ w.settled d h;
    unsettled = with_at-other e _ w.unsettled d h;
    in_doubt = refl;
    reads = refl;
    count = with_at-other e _ w.count d h;
    stop = refl;
    up = refl;
  }

  doubt_other : (e : ℕ) (entries : List PlainEntry) (at : ℕ) (gate_open : Bool) → (d == e) ≡ false → IsUntouched d w (doubt w e entries at gate_open)
  doubt_other e entries at gate_open h = record {
    base = refl;
    base_number = refl;
    settled = refl;
    unsettled = refl;
    in_doubt = with_at-other e _ w.in_doubt d h;
    reads = with_at-other e _ w.reads d h;
    count = refl;
    stop = with_at-other e _ w.stop d h;
    up = refl;
  }

  done_other : (c : Command) → is_for d c ≡ false → IsUntouched d w (done_world w c)
  done_other (command.Turn e t) h = committed_other e _ h
  done_other (command.Lazy e t) h = record {
    base = refl;
    base_number = refl;
    settled = refl;
    unsettled = with_at-other e _ w.unsettled d h;
    in_doubt = refl;
    reads = refl;
    count = with_at-other e _ w.count d h;
    stop = refl;
    up = refl;
  }
  done_other (command.Settle e) h = settle_other e _ h
  done_other (command.Get e id) h = untouched_same d w
  done_other (command.Send e) h = record { base = refl; base_number = refl; settled = refl; unsettled = refl; in_doubt = refl; reads = refl; count = refl; stop = refl; up = refl }
  done_other (command.Deliver k e) h = committed_other e _ h
  done_other (command.Hex k) h = untouched_same d w
  done_other (command.Crash e) h = record {
    base = refl;
    base_number = refl;
    settled = refl;
    unsettled = with_at-other e _ w.unsettled d h;
    in_doubt = refl;
    reads = refl;
    count = refl;
    stop = with_at-other e _ w.stop d h;
    up = with_at-other e _ w.up d h;
  }
  done_other (command.Restart e) h = record {
    base = refl;
    base_number = refl;
    settled = with_at-other e _ w.settled d h;
    unsettled = with_at-other e _ w.unsettled d h;
    in_doubt = with_at-other e _ w.in_doubt d h;
    reads = refl;
    count = with_at-other e _ w.count d h;
    stop = refl;
    up = with_at-other e _ w.up d h;
  }

  failed_other : (c : Command) (at : ℕ) (gate_open : Bool) → is_for d c ≡ false → IsUntouched d w (failed_world w c at gate_open)
  failed_other (command.Turn e t) at gate_open h = doubt_other e _ at gate_open h
  failed_other (command.Deliver k e) at gate_open h = doubt_other e _ at gate_open h
  failed_other (command.Settle e) at gate_open h = doubt_other e _ at gate_open h
  failed_other (command.Lazy e t) at gate_open h = untouched_same d w
  failed_other (command.Get e id) at gate_open h = untouched_same d w
  failed_other (command.Send e) at gate_open h = untouched_same d w
  failed_other (command.Hex k) at gate_open h = untouched_same d w
  failed_other (command.Crash e) at gate_open h = untouched_same d w
  failed_other (command.Restart e) at gate_open h = untouched_same d w

  fared_other : (c : Command) (o : Outcome) → is_for d c ≡ false → IsUntouched d w (fared_world w c o)
  fared_other c Fine h = done_other c h
  fared_other c Memory h = untouched_same d w
  fared_other c (Failed at gate_open) h = failed_other c at gate_open h
  fared_other c (BadStore file place) h = untouched_same d w
  fared_other c OtherProgram h = untouched_same d w

pub others_kept : (p : Program) (w : World) (c : Command) (o : Outcome) (d : ℕ) → is_for d c ≡ false → IsUntouched d w (world_after p w c o)
others_kept p w c o d h = by_refusal (refusal p w c)
  where
    by_refusal : (r : Option PlainAnswer) → IsUntouched d w (option_map_or (λ refused. w) r (fared_world w c (outcome_of w c o)))
    by_refusal None = fared_other w d c (outcome_of w c o) h
    by_refusal (Some a) = untouched_same d w

-- ---- refusals

-- an answer that the world alone can give as a refusal
abbrev early : PlainAnswer → Bool
early (Refused code) = if code == 33 then false else if code == 36 then false else not (code == 39)
early (StoppedAt call) = true
early a = false

early_all : Option PlainAnswer → Bool
early_all r = option_map_or early r true

early_or : (a b : Option PlainAnswer) → early_all a ≡ true → early_all b ≡ true → early_all (option_or a b) ≡ true
unfolding early_all
early_or None b h k = k
early_or (Some a) b h k = h

early_where : (b : Bool) (code : ℕ) → early (Refused code) ≡ true → early_all (refused_where b code) ≡ true
unfolding early_all
early_where true code h = h
early_where false code h = refl

early_stop : (s : Option ℕ) → early_all (option_map StoppedAt s) ≡ true
unfolding early_all
early_stop None = refl
early_stop (Some n) = refl

early_limit : (f : Option OperationFault) → early_all (option_map (λ x. Refused (limit_code x)) f) ≡ true
unfolding early_all
early_limit None = refl
early_limit (Some SetFull) = refl
early_limit (Some CounterFull) = refl
early_limit (Some DotsSpent) = refl

refusal_early : (p : Program) (w : World) (c : Command) → early_all (refusal p w c) ≡ true
refusal_early p w c =
    early_or _ _ (early_where (lacks_packet w c) 28 refl)
    (early_or _ _ (early_where (is_down w c) 26 refl)
    (early_or _ _ (early_where (is_up w c) 27 refl)
    (early_or _ _ (early_stop (stopped_at w c))
    (early_or _ _ (early_where (has_all_packets w c) 35 refl)
    (early_or _ _ (early_where (has_all_entries w c) 29 refl)
    (early_or _ _ (early_where (has_all_unsettled w c) 38 refl)
    (early_limit (limit_fault p w c))))))))

done_answers : (p : Program) (w : World) (c : Command) → is_refusal (done_answer p w c) ≡ false
done_answers p w (command.Turn d t) = refl
done_answers p w (command.Lazy d t) = refl
done_answers p w (command.Settle d) = refl
done_answers p w (command.Get d id) = by_set (is_set_at p.decls.items id) _ _
  where
    by_set : (b : Bool) (ws : List Word) (x : Word) → is_refusal (if b then Members ws else Value x) ≡ false
    by_set true ws x = refl
    by_set false ws x = refl
done_answers p w (command.Send d) = refl
done_answers p w (command.Deliver k d) = refl
done_answers p w (command.Hex k) = refl
done_answers p w (command.Crash d) = refl
done_answers p w (command.Restart d) = refl

early_refuses : (a : PlainAnswer) → early a ≡ true → is_refusal a ≡ true
early_refuses (Entered n) h = absurd (true≢false (sym h))
early_refuses (Applied n) h = absurd (true≢false (sym h))
early_refuses (Settled n) h = absurd (true≢false (sym h))
early_refuses (Value x) h = absurd (true≢false (sym h))
early_refuses (Members ws) h = absurd (true≢false (sym h))
early_refuses (Packet n) h = absurd (true≢false (sym h))
early_refuses (Hex bytes) h = absurd (true≢false (sym h))
early_refuses Down h = absurd (true≢false (sym h))
early_refuses (Up n) h = absurd (true≢false (sym h))
early_refuses (Refused code) h = refl
early_refuses (StoppedAt call) h = refl
early_refuses (BadFile file place) h = absurd (true≢false (sym h))

answer_early : (a : PlainAnswer) → is_refusal a ≡ false → early a ≡ false
answer_early a h = elim (early a) as (λ b. early a ≡ b → b ≡ false) [ true ↦ λ e. absurd (true≢false (sym (early_refuses a e) ∙ h)) | false ↦ λ e. refl ] refl

abbrev is_code : PlainAnswer → Bool
is_code (Refused code) = true
is_code a = false

abbrev code_of : PlainAnswer → ℕ
code_of (Refused code) = code
code_of a = 0

abbrev file_of : PlainAnswer → ℕ
file_of (BadFile file place) = file
file_of a = 0

abbrev place_of : PlainAnswer → ℕ
place_of (BadFile file place) = place
place_of a = 0

module _ (p : Program) (w : World) (c : Command) where
  -- an answer that the world alone can't give as a refusal is that of how the command fared
  none_early : (r : Option PlainAnswer) (o : Outcome) (a : PlainAnswer) → early_all r ≡ true → early a ≡ false → unwrap_or r (fared_answer p w c o) ≡ a → (r ≡ None) × (fared_answer p w c o ≡ a)
  unfolding early_all
  none_early None o a k h e = (refl, e)
  none_early (Some x) o a k h e = absurd (true≢false (sym k ∙ ap early e ∙ h))

  -- the code that an outcome gives
  abbrev Gives : Outcome → ℕ → Type 0
  Gives Fine n = ⊥
  Gives Memory n = 36 ≡ n
  Gives (Failed at gate_open) n = 33 ≡ n
  Gives (BadStore file place) n = ⊥
  Gives OtherProgram n = 39 ≡ n

  gives : (o : Outcome) (n : ℕ) → fared_answer p w c o ≡ Refused n → Gives o n
  gives Fine n e = absurd (true≢false (sym (ap is_refusal e) ∙ done_answers p w c))
  gives Memory n e = ap code_of e
  gives (Failed at gate_open) n e = ap code_of e
  gives (BadStore file place) n e = absurd (true≢false (sym (ap is_code e)))
  gives OtherProgram n e = ap code_of e

  -- the answer, by how the command fared
  fared : (o : Outcome) (a : PlainAnswer) → early a ≡ false → reply p w c o ≡ a → (o ≡ Memory) ⊎ ((refusal p w c ≡ None) × (fared_answer p w c (outcome_of w c o) ≡ a))
  fared Memory a h e = inl refl
  fared Fine a h e = inr (none_early (refusal p w c) Fine a (refusal_early p w c) h e)
  fared (Failed at gate_open) a h e = inr (none_early (refusal p w c) (outcome_of w c (Failed at gate_open)) a (refusal_early p w c) h e)
  fared (BadStore file place) a h e = inr (none_early (refusal p w c) (outcome_of w c (BadStore file place)) a (refusal_early p w c) h e)
  fared OtherProgram a h e = inr (none_early (refusal p w c) (outcome_of w c OtherProgram) a (refusal_early p w c) h e)

  -- ---- the causes of each answer that rests on the outcome

  abbrev pub HasFailed : Outcome → Type 0
  HasFailed o = (refusal p w c ≡ None) × (calls_files w c ≡ true) × (at : ℕ) × (gate_open : Bool) × (o ≡ Failed at gate_open)

  when_failed : (o : Outcome) → (refusal p w c ≡ None) × (fared_answer p w c (outcome_of w c o) ≡ Refused 33) → HasFailed o
  when_failed Fine h = absurd (gives Fine 33 h.1)
  when_failed Memory h = absurd (let k : 36 ≡ 33 = gives Memory 33 h.1 in omega arith)
  when_failed (Failed at gate_open) h = by_files (calls_files w c) refl (gives (outcome_of w c (Failed at gate_open)) 33 h.1)
    where
      by_files : (b : Bool) → calls_files w c ≡ b → Gives (if b then Failed at gate_open else Fine) 33 → HasFailed (Failed at gate_open)
      by_files true files k = (h.0, files, at, gate_open, refl)
      by_files false files k = absurd k
  when_failed (BadStore file place) h = absurd (by_store (reads_store c) (gives (outcome_of w c (BadStore file place)) 33 h.1))
    where
      by_store : (b : Bool) → Gives (if b then BadStore file place else Fine) 33 → ⊥
      by_store true k = k
      by_store false k = k
  when_failed OtherProgram h = absurd (by_store (reads_store c) (gives (outcome_of w c OtherProgram) 33 h.1))
    where
      by_store : (b : Bool) → Gives (if b then OtherProgram else Fine) 33 → ⊥
      by_store true k = absurd (let e : 39 ≡ 33 = k in omega arith)
      by_store false k = k

  pub caused_33 : (o : Outcome) → (reply p w c o ≡ Refused 33) ↔ HasFailed o
  caused_33 o = (to, from)
    where
      to : reply p w c o ≡ Refused 33 → HasFailed o
      to e = elim (fared o (Refused 33) refl e) [
        | inl m ↦ absurd (let k : 36 ≡ 33 = ap code_of (ap (reply p w c) (sym m) ∙ e) in omega arith)
        | inr k ↦ when_failed o k
      ]

      from : HasFailed o → reply p w c o ≡ Refused 33
      from h = ap (reply p w c) h.4 ∙ (λ i. unwrap_or (h.0 i) (fared_answer p w c (if h.1 i then Failed h.2 h.3 else Fine)))

  when_memory : (o : Outcome) → Gives (outcome_of w c o) 36 → o ≡ Memory
  when_memory Fine h = absurd h
  when_memory Memory h = refl
  when_memory (Failed at gate_open) h = absurd (by_files (calls_files w c) h)
    where
      by_files : (b : Bool) → Gives (if b then Failed at gate_open else Fine) 36 → ⊥
      by_files true k = absurd (let e : 33 ≡ 36 = k in omega arith)
      by_files false k = k
  when_memory (BadStore file place) h = absurd (by_store (reads_store c) h)
    where
      by_store : (b : Bool) → Gives (if b then BadStore file place else Fine) 36 → ⊥
      by_store true k = k
      by_store false k = k
  when_memory OtherProgram h = absurd (by_store (reads_store c) h)
    where
      by_store : (b : Bool) → Gives (if b then OtherProgram else Fine) 36 → ⊥
      by_store true k = absurd (let e : 39 ≡ 36 = k in omega arith)
      by_store false k = k

  pub caused_36 : (o : Outcome) → (reply p w c o ≡ Refused 36) ↔ (o ≡ Memory)
  caused_36 o = (to, λ e. ap (reply p w c) e)
    where
      to : reply p w c o ≡ Refused 36 → o ≡ Memory
      to e = elim (fared o (Refused 36) refl e) [ inl m ↦ m | inr k ↦ when_memory o (gives (outcome_of w c o) 36 k.1) ]

  abbrev pub HasOther : Outcome → Type 0
  HasOther o = (refusal p w c ≡ None) × (reads_store c ≡ true) × (o ≡ OtherProgram)

  when_other : (o : Outcome) → (refusal p w c ≡ None) × (fared_answer p w c (outcome_of w c o) ≡ Refused 39) → HasOther o
  when_other Fine h = absurd (gives Fine 39 h.1)
  when_other Memory h = absurd (let k : 36 ≡ 39 = gives Memory 39 h.1 in omega arith)
  when_other (Failed at gate_open) h = absurd (by_files (calls_files w c) (gives (outcome_of w c (Failed at gate_open)) 39 h.1))
    where
      by_files : (b : Bool) → Gives (if b then Failed at gate_open else Fine) 39 → ⊥
      by_files true k = absurd (let e : 33 ≡ 39 = k in omega arith)
      by_files false k = k
  when_other (BadStore file place) h = absurd (by_store (reads_store c) (gives (outcome_of w c (BadStore file place)) 39 h.1))
    where
      by_store : (b : Bool) → Gives (if b then BadStore file place else Fine) 39 → ⊥
      by_store true k = k
      by_store false k = k
  when_other OtherProgram h = by_store (reads_store c) refl (gives (outcome_of w c OtherProgram) 39 h.1)
    where
      by_store : (b : Bool) → reads_store c ≡ b → Gives (if b then OtherProgram else Fine) 39 → HasOther OtherProgram
      by_store true e k = (h.0, e, refl)
      by_store false e k = absurd k

  pub caused_39 : (o : Outcome) → (reply p w c o ≡ Refused 39) ↔ HasOther o
  caused_39 o = (to, from)
    where
      to : reply p w c o ≡ Refused 39 → HasOther o
      to e = elim (fared o (Refused 39) refl e) [
        | inl m ↦ absurd (let k : 36 ≡ 39 = ap code_of (ap (reply p w c) (sym m) ∙ e) in omega arith)
        | inr k ↦ when_other o k
      ]

      from : HasOther o → reply p w c o ≡ Refused 39
      from h = ap (reply p w c) h.2 ∙ (λ i. unwrap_or (h.0 i) (fared_answer p w c (if h.1 i then OtherProgram else Fine)))

  abbrev pub HasBad : ℕ → ℕ → Outcome → Type 0
  HasBad file place o = (refusal p w c ≡ None) × (reads_store c ≡ true) × (o ≡ BadStore file place)

  abbrev is_file : PlainAnswer → Bool
  is_file (BadFile file place) = true
  is_file a = false

  done_file : (file place : ℕ) → done_answer p w c ≡ BadFile file place → ⊥
  done_file file place e = true≢false (sym (ap is_refusal e) ∙ done_answers p w c)

  when_bad : (file place : ℕ) (o : Outcome) → (refusal p w c ≡ None) × (fared_answer p w c (outcome_of w c o) ≡ BadFile file place) → HasBad file place o
  when_bad file place Fine h = absurd (done_file file place h.1)
  when_bad file place Memory h = absurd (true≢false (sym (ap is_file h.1)))
  when_bad file place (Failed at gate_open) h = absurd (by_files (calls_files w c) h.1)
    where
      by_files : (b : Bool) → fared_answer p w c (if b then Failed at gate_open else Fine) ≡ BadFile file place → ⊥
      by_files true k = true≢false (sym (ap is_file k))
      by_files false k = done_file file place k
  when_bad file place (BadStore f q) h = by_store (reads_store c) refl h.1
    where
      by_store : (b : Bool) → reads_store c ≡ b → fared_answer p w c (if b then BadStore f q else Fine) ≡ BadFile file place → HasBad file place (BadStore f q)
      by_store true e k = (h.0, e, λ i. BadStore (ap file_of k i) (ap place_of k i))
      by_store false e k = absurd (done_file file place k)
  when_bad file place OtherProgram h = absurd (by_store (reads_store c) h.1)
    where
      by_store : (b : Bool) → fared_answer p w c (if b then OtherProgram else Fine) ≡ BadFile file place → ⊥
      by_store true k = true≢false (sym (ap is_file k))
      by_store false k = done_file file place k

  pub caused_37 : (file place : ℕ) (o : Outcome) → (reply p w c o ≡ BadFile file place) ↔ HasBad file place o
  caused_37 file place o = (to, from)
    where
      to : reply p w c o ≡ BadFile file place → HasBad file place o
      to e = elim (fared o (BadFile file place) refl e) [
        | inl m ↦ absurd (true≢false (sym (ap is_file (ap (reply p w c) (sym m) ∙ e))))
        | inr k ↦ when_bad file place o k
      ]

      from : HasBad file place o → reply p w c o ≡ BadFile file place
      from h = ap (reply p w c) h.2 ∙ (λ i. unwrap_or (h.0 i) (fared_answer p w c (if h.1 i then BadStore file place else Fine)))

  -- ---- what a refusal leaves

  unchanged_by : (r : Option PlainAnswer) (o : Outcome) → is_refusal (unwrap_or r (fared_answer p w c o)) ≡ true → unwrap_or r (fared_answer p w c o) ≢ Refused 33 → option_map_or (λ refused. w) r (fared_world w c o) ≡ w
  unchanged_by (Some a) o h ne = refl
  unchanged_by None Fine h ne = absurd (true≢false (sym h ∙ done_answers p w c))
  unchanged_by None Memory h ne = refl
  unchanged_by None (Failed at gate_open) h ne = absurd (ne refl)
  unchanged_by None (BadStore file place) h ne = refl
  unchanged_by None OtherProgram h ne = refl

  pub unchanged : (o : Outcome) → is_refusal (reply p w c o) ≡ true → reply p w c o ≢ Refused 33 → world_after p w c o ≡ w
  unchanged Fine h ne = unchanged_by (refusal p w c) Fine h ne
  unchanged Memory h ne = by_refusal (refusal p w c)
    where
      by_refusal : (r : Option PlainAnswer) → option_map_or (λ refused. w) r w ≡ w
      by_refusal None = refl
      by_refusal (Some a) = refl
  unchanged (Failed at gate_open) h ne = unchanged_by (refusal p w c) (outcome_of w c (Failed at gate_open)) h ne
  unchanged (BadStore file place) h ne = unchanged_by (refusal p w c) (outcome_of w c (BadStore file place)) h ne
  unchanged OtherProgram h ne = unchanged_by (refusal p w c) (outcome_of w c OtherProgram) h ne

  -- ---- a device that is down

  pub down_refused : is_down w c ≡ true → refusal p w c ≡ Some (Refused (if lacks_packet w c then 28 else 26))
  down_refused down = by_packet (lacks_packet w c) (is_down w c) down
    where
      rest : Option PlainAnswer
      rest =
          option_or (refused_where (is_up w c) 27)
          (option_or (option_map StoppedAt (stopped_at w c))
          (option_or (refused_where (has_all_packets w c) 35)
          (option_or (refused_where (has_all_entries w c) 29)
          (option_or (refused_where (has_all_unsettled w c) 38)
          (option_map (λ f. Refused (limit_code f)) (limit_fault p w c))))))

      by_packet : (a b : Bool) → b ≡ true → option_or (refused_where a 28) (option_or (refused_where b 26) rest) ≡ Some (Refused (if a then 28 else 26))
      by_packet true b h = refl
      by_packet false true h = refl
      by_packet false false h = absurd (true≢false (sym h))

  pub down_unchanged : (o : Outcome) → is_down w c ≡ true → world_after p w c o ≡ w
  down_unchanged o down = ap (λ r. option_map_or (λ refused. w) r (fared_world w c (outcome_of w c o))) (down_refused down)

  -- ---- a command that is done

  -- what the answer tells, where it is no refusal
  pub answered : (o : Outcome) (a : PlainAnswer) → is_refusal a ≡ false → reply p w c o ≡ a → (world_after p w c o ≡ done_world w c) × (done_answer p w c ≡ a)
  answered o a h e = elim (fared o a (answer_early a h) e) [
    | inl m ↦ absurd (true≢false (ap is_refusal (sym (ap (reply p w c) m) ∙ e) ∙ h))
    | inr k ↦ by_outcome (outcome_of w c o) k.0 k.1
  ]
    where
      by_outcome : (x : Outcome) → refusal p w c ≡ None → fared_answer p w c x ≡ a → (option_map_or (λ refused. w) (refusal p w c) (fared_world w c x) ≡ done_world w c) × (done_answer p w c ≡ a)
      by_outcome Fine none k = (ap (λ r. option_map_or (λ refused. w) r (done_world w c)) none, k)
      by_outcome Memory none k = absurd (true≢false (ap is_refusal k ∙ h))
      by_outcome (Failed at gate_open) none k = absurd (true≢false (ap is_refusal k ∙ h))
      by_outcome (BadStore file place) none k = absurd (true≢false (ap is_refusal k ∙ h))
      by_outcome OtherProgram none k = absurd (true≢false (ap is_refusal k ∙ h))

  pub done_after : refusal p w c ≡ None → world_after p w c Fine ≡ done_world w c
  done_after none = ap (λ r. option_map_or (λ refused. w) r (done_world w c)) none

  pub failed_after : (at : ℕ) (gate_open : Bool) → refusal p w c ≡ None → calls_files w c ≡ true → world_after p w c (Failed at gate_open) ≡ failed_world w c at gate_open
  failed_after at gate_open none files = λ i. option_map_or (λ refused. w) (none i) (fared_world w c (if files i then Failed at gate_open else Fine))

  pub accepted : (o : Outcome) (a : PlainAnswer) → is_refusal a ≡ false → reply p w c o ≡ a → refusal p w c ≡ None
  accepted o a h e = elim (fared o a (answer_early a h) e) [
    | inl m ↦ absurd (true≢false (ap is_refusal (sym (ap (reply p w c) m) ∙ e) ∙ h))
    | inr k ↦ k.0
  ]

  -- a command that isn't refused has its packet
  pub has_packet : refusal p w c ≡ None → lacks_packet w c ≡ false
  has_packet none = by_packet (lacks_packet w c) refl none
    where
      rest : Option PlainAnswer
      rest =
          option_or (refused_where (is_down w c) 26)
          (option_or (refused_where (is_up w c) 27)
          (option_or (option_map StoppedAt (stopped_at w c))
          (option_or (refused_where (has_all_packets w c) 35)
          (option_or (refused_where (has_all_entries w c) 29)
          (option_or (refused_where (has_all_unsettled w c) 38)
          (option_map (λ f. Refused (limit_code f)) (limit_fault p w c)))))))

      by_packet : (b : Bool) → lacks_packet w c ≡ b → option_or (refused_where b 28) rest ≡ None → lacks_packet w c ≡ false
      by_packet true e h = absurd (some_none _ h)
      by_packet false e h = e

  -- and its device is up, where it has to be
  pub has_device : refusal p w c ≡ None → is_down w c ≡ false
  has_device none = elim (is_down w c) as (λ b. is_down w c ≡ b → b ≡ false) [
    | true ↦ λ e. absurd (some_none _ (sym (down_refused e) ∙ none))
    | false ↦ λ e. refl
  ] refl
