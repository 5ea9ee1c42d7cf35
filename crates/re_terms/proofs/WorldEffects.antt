-- What a step of the world does to its device: what is settled, and how its entries are numbered.
use Rattle.std.proofs.Common.{Option, ◌+◌, Bool, true, false, inl, inr, arith, length, length-append, ◌≡◌, ℕ, List, [], ◌∷◌, ◌++◌, Some, None, refl, sym, ap, ◌∙◌, subst}
use Rattle.std.proofs.lemmas.Bool.Decides.{nat_tests}
use Rattle.std.proofs.lemmas.Option.{slice_get_cases}
use Rattle.std.specs.Option.{option_map_or}
use Rattle.std.specs.Prelude.{nat_le, ◌==◌, if◌then◌else◌, option_map, slice_get}
use mathlib.Core.Bool.{true≢false}
use Rattle.re_terms.specs.declared.command.Command.{Command}
use Rattle.re_terms.specs.declared.command.Command.TheVariants as command
use Rattle.re_terms.specs.declared.entry.Admitted.{Admitted}
use Rattle.re_terms.specs.declared.program.Program.{Program}
use Rattle.re_terms.specs.declared.word.Word.{Word}
use Rattle.re_terms.specs.DeviceWorlds.{Failed, calls_files, doubt, lacks_packet, is_for, last_number, settled_number, reply, Outcome, done_answer, done_world, with_at, World, Fine, counted, device_state, entries_of, put_up, record_of, recovered, refusal, settle, settled_state, settled_taken, taken, world_after}
use Rattle.re_terms.specs.Entries.{PlainEntry, Merge, entry_after, run_entries, run_taken, turn_entry}
use Rattle.re_terms.specs.Runs.{PlainState}
use Rattle.re_terms.specs.Untouched.{HasSettled}
use Rattle.re_terms.specs.Updates.{Update}
use Rattle.re_terms.specs.Worlds.{PlainAnswer, Entered, Applied, Settled, Value, Members, Up, is_set_at, shown}
use Rattle.re_terms.proofs.WorldSteps.{failed_after, accepted, has_packet, answered, done_after, with_at-same}

-- ---- what is taken in

pub run-taken : (p : Program) (d : ℕ) (s : PlainState) (entries : List PlainEntry) → (run_entries p d s entries).taken ≡ run_taken d s.taken entries
run-taken p d s [] = refl
run-taken p d s (e ∷ entries) = run-taken p d (entry_after p d s e) entries

pub run_entries-append : (p : Program) (d : ℕ) (s : PlainState) (xs ys : List PlainEntry) → run_entries p d s (xs ++ ys) ≡ run_entries p d (run_entries p d s xs) ys
run_entries-append p d s [] ys = refl
run_entries-append p d s (x ∷ xs) ys = run_entries-append p d (entry_after p d s x) xs ys

pub settled-taken : (p : Program) (w : World) (d : ℕ) → (settled_state p w d).taken ≡ settled_taken w d
settled-taken p w d = run-taken p d (w.base d) (w.settled d)

pub device-taken : (p : Program) (w : World) (d : ℕ) → (device_state p w d).taken ≡ taken w d
device-taken p w d = run-taken p d (w.base d) (w.settled d ++ w.unsettled d)

-- ---- what is settled

pub settle_here : (w : World) (d : ℕ) (entries : List PlainEntry) → HasSettled d entries w (settle w d entries)
settle_here w d entries = record { settled = with_at-same d _ w.settled; unsettled = with_at-same d _ w.unsettled; log = refl }

pub committed_here : (w : World) (d : ℕ) (entries : List PlainEntry) → HasSettled d entries w (counted (settle w d entries) d)
committed_here w d entries = record { settled = with_at-same d _ w.settled; unsettled = with_at-same d _ w.unsettled; log = refl }

pub up_here : (w : World) (d : ℕ) → HasSettled d (recovered w d) w (put_up w d)
up_here w d = record { settled = with_at-same d _ w.settled; unsettled = with_at-same d _ w.unsettled; log = refl }

module _ (p : Program) (w : World) (d : ℕ) where
  pub turn_settles : (t : Admitted) → refusal p w (command.Turn d t) ≡ None → HasSettled d (w.unsettled d ++ turn_entry t ∷ []) w (world_after p w (command.Turn d t) Fine)
  turn_settles t none = subst (HasSettled d (w.unsettled d ++ turn_entry t ∷ []) w) (sym (done_after p w (command.Turn d t) none)) (committed_here w d (w.unsettled d ++ turn_entry t ∷ []))

  pub merge_settles : (k : ℕ) (packet : List Update) → slice_get w.packets k ≡ Some packet → refusal p w (command.Deliver k d) ≡ None → HasSettled d (w.unsettled d ++ Merge packet ∷ []) w (world_after p w (command.Deliver k d) Fine)
  merge_settles k packet found none =
      subst (λ x. HasSettled d (w.unsettled d ++ entries_of (option_map Merge x)) w (world_after p w (command.Deliver k d) Fine)) found
      (subst (HasSettled d (record_of w (command.Deliver k d)) w) (sym (done_after p w (command.Deliver k d) none)) (committed_here w d (record_of w (command.Deliver k d))))

  pub settling_settles : refusal p w (command.Settle d) ≡ None → HasSettled d (w.unsettled d) w (world_after p w (command.Settle d) Fine)
  settling_settles none = subst (HasSettled d (w.unsettled d) w) (sym (done_after p w (command.Settle d) none)) (settle_here w d (w.unsettled d))

  pub restart_settles : refusal p w (command.Restart d) ≡ None → HasSettled d (recovered w d) w (world_after p w (command.Restart d) Fine)
  restart_settles none = subst (HasSettled d (recovered w d) w) (sym (done_after p w (command.Restart d) none)) (up_here w d)

  pub lazy_keeps : (t : Admitted) → refusal p w (command.Lazy d t) ≡ None → (world_after p w (command.Lazy d t) Fine).settled ≡ w.settled
  lazy_keeps t none = ap (λ v. v.settled) (done_after p w (command.Lazy d t) none)

  pub lazy_adds : (t : Admitted) → refusal p w (command.Lazy d t) ≡ None → (world_after p w (command.Lazy d t) Fine).unsettled d ≡ w.unsettled d ++ turn_entry t ∷ []
  lazy_adds t none = ap (λ v. v.unsettled d) (done_after p w (command.Lazy d t) none) ∙ with_at-same d _ w.unsettled

-- ---- numbers

abbrev number_in : PlainAnswer → ℕ
number_in (Entered n) = n
number_in (Applied n) = n
number_in (Settled n) = n
number_in (Up n) = n
number_in a = 0

abbrev is_entered : PlainAnswer → Bool
is_entered (Entered n) = true
is_entered a = false

abbrev is_applied : PlainAnswer → Bool
is_applied (Applied n) = true
is_applied a = false

abbrev is_settled : PlainAnswer → Bool
is_settled (Settled n) = true
is_settled a = false

abbrev is_raised : PlainAnswer → Bool
is_raised (Up n) = true
is_raised a = false

same_number : (d e : ℕ) → (d == e) ≡ true → e ≡ d
same_number d e h = grind (arith, nat_tests)

-- no answer of `get` is of these forms
shown_no : (f : PlainAnswer → Bool) → ((ws : List Word) → f (Members ws) ≡ false) → ((x : Word) → f (Value x) ≡ false) → (p : Program) (s : PlainState) (id : ℕ) → f (shown p s id) ≡ false
shown_no f members value p s id = by_set (is_set_at p.decls.items id) _ _
  where
    by_set : (b : Bool) (ws : List Word) (x : Word) → f (if b then Members ws else Value x) ≡ false
    by_set true ws x = members ws
    by_set false ws x = value x

-- the device's numbers where these entries more are settled, and none is unsettled
record Numbered (d more : ℕ) (old new : World) : Type 0 where
  last : last_number new d ≡ settled_number old d + more
  settled : settled_number new d ≡ settled_number old d + more

numbered_by : (w new : World) (d : ℕ) (entries : List PlainEntry) → new.base_number d ≡ w.base_number d → HasSettled d entries w new → Numbered d (length entries) w new
numbered_by w new d entries base h =
    let b = length-append (w.settled d) entries in
    let s : length (new.settled d) ≡ length (w.settled d ++ entries) = ap length h.settled in
    let u : length (new.unsettled d) ≡ 0 = ap length h.unsettled in
    let l = length-append (new.settled d) (new.unsettled d) in
    record { last = omega arith; settled = omega arith }

last_split : (w : World) (d : ℕ) → last_number w d ≡ settled_number w d + length (w.unsettled d)
last_split w d = let a = length-append (w.settled d) (w.unsettled d) in omega arith

one_more : (w : World) (d : ℕ) (e : PlainEntry) → length (w.unsettled d ++ e ∷ []) ≡ length (w.unsettled d) + 1
one_more w d e = length-append (w.unsettled d) (e ∷ [])

-- the record of a merge of a packet that is there has one entry of its own
merged_length : (w : World) (d k : ℕ) → nat_le (length w.packets) k ≡ false → length (record_of w (command.Deliver k d)) ≡ length (w.unsettled d) + 1
merged_length w d k h = elim ((slice_get_cases w.packets k).1) [
  | inl found ↦ ap (λ x. length (w.unsettled d ++ entries_of (option_map Merge x))) found.2 ∙ one_more w d (Merge found.0)
  | inr none ↦ absurd (let e = none.0 in grind (arith, nat_tests))
]

module _ (p : Program) (w : World) (d : ℕ) where
  done_entered : (c : Command) (n : ℕ) → is_for d c ≡ true → lacks_packet w c ≡ false → done_answer p w c ≡ Entered n → (n ≡ last_number w d + 1) × (last_number (done_world w c) d ≡ n) × (settled_number (done_world w c) d ≡ n)
  done_entered (command.Turn e t) n h there is =
      let same = same_number d e h in
      let k : last_number w e + 1 ≡ n = ap number_in is in
      let r = numbered_by w (done_world w (command.Turn e t)) e (w.unsettled e ++ turn_entry t ∷ []) refl (committed_here w e (w.unsettled e ++ turn_entry t ∷ [])) in
      let m = one_more w e (turn_entry t) in
      let l = last_split w e in
      let a = r.last in
      let b = r.settled in
      subst (λ x. (n ≡ last_number w x + 1) × (last_number (done_world w (command.Turn e t)) x ≡ n) × (settled_number (done_world w (command.Turn e t)) x ≡ n)) same (sym k, omega arith, omega arith)
  done_entered (command.Deliver j e) n h there is =
      let same = same_number d e h in
      let k : last_number w e + 1 ≡ n = ap number_in is in
      let r = numbered_by w (done_world w (command.Deliver j e)) e (record_of w (command.Deliver j e)) refl (committed_here w e (record_of w (command.Deliver j e))) in
      let m = merged_length w e j there in
      let l = last_split w e in
      let a = r.last in
      let b = r.settled in
      subst (λ x. (n ≡ last_number w x + 1) × (last_number (done_world w (command.Deliver j e)) x ≡ n) × (settled_number (done_world w (command.Deliver j e)) x ≡ n)) same (sym k, omega arith, omega arith)
  done_entered (command.Lazy e t) n h there is = absurd (true≢false (sym (ap is_entered is)))
  done_entered (command.Settle e) n h there is = absurd (true≢false (sym (ap is_entered is)))
  done_entered (command.Get e id) n h there is = absurd (true≢false (sym (ap is_entered is) ∙ shown_no is_entered (λ ws. refl) (λ x. refl) p (device_state p w e) id))
  done_entered (command.Send e) n h there is = absurd (true≢false (sym (ap is_entered is)))
  done_entered (command.Hex k) n h there is = absurd (true≢false (sym (ap is_entered is)))
  done_entered (command.Crash e) n h there is = absurd (true≢false (sym (ap is_entered is)))
  done_entered (command.Restart e) n h there is = absurd (true≢false (sym (ap is_entered is)))

  done_applied : (c : Command) (n : ℕ) → is_for d c ≡ true → done_answer p w c ≡ Applied n → (n ≡ last_number w d + 1) × (last_number (done_world w c) d ≡ n)
  done_applied (command.Lazy e t) n h is =
      let same = same_number d e h in
      let k : last_number w e + 1 ≡ n = ap number_in is in
      let u : length (with_at e (w.unsettled e ++ turn_entry t ∷ []) w.unsettled e) ≡ length (w.unsettled e ++ turn_entry t ∷ []) = ap length (with_at-same e _ w.unsettled) in
      let m = one_more w e (turn_entry t) in
      let l = length-append (w.settled e) (w.unsettled e) in
      let a = length-append (w.settled e) (with_at e (w.unsettled e ++ turn_entry t ∷ []) w.unsettled e) in
      subst (λ x. (n ≡ last_number w x + 1) × (last_number (done_world w (command.Lazy e t)) x ≡ n)) same (sym k, omega arith)
  done_applied (command.Turn e t) n h is = absurd (true≢false (sym (ap is_applied is)))
  done_applied (command.Deliver j e) n h is = absurd (true≢false (sym (ap is_applied is)))
  done_applied (command.Settle e) n h is = absurd (true≢false (sym (ap is_applied is)))
  done_applied (command.Get e id) n h is = absurd (true≢false (sym (ap is_applied is) ∙ shown_no is_applied (λ ws. refl) (λ x. refl) p (device_state p w e) id))
  done_applied (command.Send e) n h is = absurd (true≢false (sym (ap is_applied is)))
  done_applied (command.Hex k) n h is = absurd (true≢false (sym (ap is_applied is)))
  done_applied (command.Crash e) n h is = absurd (true≢false (sym (ap is_applied is)))
  done_applied (command.Restart e) n h is = absurd (true≢false (sym (ap is_applied is)))

  done_settled : (c : Command) (n : ℕ) → is_for d c ≡ true → done_answer p w c ≡ Settled n → (n ≡ last_number w d) × (settled_number (done_world w c) d ≡ n)
  done_settled (command.Settle e) n h is =
      let same = same_number d e h in
      let k : last_number w e ≡ n = ap number_in is in
      let r = (numbered_by w (done_world w (command.Settle e)) e (w.unsettled e) refl (settle_here w e (w.unsettled e))).settled in
      let l = last_split w e in
      subst (λ x. (n ≡ last_number w x) × (settled_number (done_world w (command.Settle e)) x ≡ n)) same (sym k, omega arith)
  done_settled (command.Turn e t) n h is = absurd (true≢false (sym (ap is_settled is)))
  done_settled (command.Lazy e t) n h is = absurd (true≢false (sym (ap is_settled is)))
  done_settled (command.Deliver j e) n h is = absurd (true≢false (sym (ap is_settled is)))
  done_settled (command.Get e id) n h is = absurd (true≢false (sym (ap is_settled is) ∙ shown_no is_settled (λ ws. refl) (λ x. refl) p (device_state p w e) id))
  done_settled (command.Send e) n h is = absurd (true≢false (sym (ap is_settled is)))
  done_settled (command.Hex k) n h is = absurd (true≢false (sym (ap is_settled is)))
  done_settled (command.Crash e) n h is = absurd (true≢false (sym (ap is_settled is)))
  done_settled (command.Restart e) n h is = absurd (true≢false (sym (ap is_settled is)))

  done_up : (c : Command) (n : ℕ) → is_for d c ≡ true → done_answer p w c ≡ Up n → (settled_number (done_world w c) d ≡ n) × (last_number (done_world w c) d ≡ n)
  done_up (command.Restart e) n h is =
      let same = same_number d e h in
      let k : settled_number w e + length (recovered w e) ≡ n = ap number_in is in
      let r = numbered_by w (done_world w (command.Restart e)) e (recovered w e) refl (up_here w e) in
      let a = r.last in
      let b = r.settled in
      subst (λ x. (settled_number (done_world w (command.Restart e)) x ≡ n) × (last_number (done_world w (command.Restart e)) x ≡ n)) same (omega arith, omega arith)
  done_up (command.Turn e t) n h is = absurd (true≢false (sym (ap is_raised is)))
  done_up (command.Lazy e t) n h is = absurd (true≢false (sym (ap is_raised is)))
  done_up (command.Settle e) n h is = absurd (true≢false (sym (ap is_raised is)))
  done_up (command.Deliver j e) n h is = absurd (true≢false (sym (ap is_raised is)))
  done_up (command.Get e id) n h is = absurd (true≢false (sym (ap is_raised is) ∙ shown_no is_raised (λ ws. refl) (λ x. refl) p (device_state p w e) id))
  done_up (command.Send e) n h is = absurd (true≢false (sym (ap is_raised is)))
  done_up (command.Hex k) n h is = absurd (true≢false (sym (ap is_raised is)))
  done_up (command.Crash e) n h is = absurd (true≢false (sym (ap is_raised is)))

  module _ (c : Command) (o : Outcome) (n : ℕ) (mine : is_for d c ≡ true) where
    pub entered_number : reply p w c o ≡ Entered n → (n ≡ last_number w d + 1) × (last_number (world_after p w c o) d ≡ n) × (settled_number (world_after p w c o) d ≡ n)
    entered_number e =
        let a = answered p w c o (Entered n) refl e in
        let there = has_packet p w c (accepted p w c o (Entered n) refl e) in
        subst (λ v. (n ≡ last_number w d + 1) × (last_number v d ≡ n) × (settled_number v d ≡ n)) (sym a.0) (done_entered c n mine there a.1)

    pub applied_number : reply p w c o ≡ Applied n → (n ≡ last_number w d + 1) × (last_number (world_after p w c o) d ≡ n)
    applied_number e = let a = answered p w c o (Applied n) refl e in subst (λ v. (n ≡ last_number w d + 1) × (last_number v d ≡ n)) (sym a.0) (done_applied c n mine a.1)

    pub settled_is : reply p w c o ≡ Settled n → (n ≡ last_number w d) × (settled_number (world_after p w c o) d ≡ n)
    settled_is e = let a = answered p w c o (Settled n) refl e in subst (λ v. (n ≡ last_number w d) × (settled_number v d ≡ n)) (sym a.0) (done_settled c n mine a.1)

    pub up_is : reply p w c o ≡ Up n → (settled_number (world_after p w c o) d ≡ n) × (last_number (world_after p w c o) d ≡ n)
    up_is e = let a = answered p w c o (Up n) refl e in subst (λ v. (settled_number v d ≡ n) × (last_number v d ≡ n)) (sym a.0) (done_up c n mine a.1)

-- ---- what a failed call leaves

module _ (p : Program) (w : World) (d : ℕ) where
  pub turn_fails : (t : Admitted) (at : ℕ) (gate_open : Bool) → refusal p w (command.Turn d t) ≡ None → world_after p w (command.Turn d t) (Failed at gate_open) ≡ doubt w d (w.unsettled d ++ turn_entry t ∷ []) at gate_open
  turn_fails t at gate_open none = failed_after p w (command.Turn d t) at gate_open none refl

  pub merge_fails : (k : ℕ) (packet : List Update) (at : ℕ) (gate_open : Bool) → slice_get w.packets k ≡ Some packet → refusal p w (command.Deliver k d) ≡ None → world_after p w (command.Deliver k d) (Failed at gate_open) ≡ doubt w d (w.unsettled d ++ Merge packet ∷ []) at gate_open
  merge_fails k packet at gate_open found none =
      failed_after p w (command.Deliver k d) at gate_open none refl
      ∙ ap (λ x. doubt w d (w.unsettled d ++ entries_of (option_map Merge x)) at gate_open) found

  pub settling_fails : (at : ℕ) (gate_open : Bool) → refusal p w (command.Settle d) ≡ None → calls_files w (command.Settle d) ≡ true → world_after p w (command.Settle d) (Failed at gate_open) ≡ doubt w d (w.unsettled d) at gate_open
  settling_fails at gate_open none files = failed_after p w (command.Settle d) at gate_open none files

  pub restart_fails : (at : ℕ) (gate_open : Bool) → world_after p w (command.Restart d) (Failed at gate_open) ≡ w
  restart_fails at gate_open = by_refusal (refusal p w (command.Restart d))
    where
      by_refusal : (r : Option PlainAnswer) → option_map_or (λ refused. w) r w ≡ w
      by_refusal None = refl
      by_refusal (Some a) = refl
