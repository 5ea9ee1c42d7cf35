-- Lines one behind the other, and the world that they lead to.
use Rattle.std.proofs.Common.{arith, ℕ, ◌≡◌, ◌≢◌, ◌+◌, ◌==◌, zero, suc, List, [], ◌∷◌, ◌++◌, map, length, Bool, true, false, Option, Some, None, Result, Ok, Err, if◌then◌else◌, refl, sym, ap, subst, ◌∙◌, inl, inr, append_assoc, true≢false}
use Rattle.std.specs.Option.{option_map_or}
use Rattle.std.proofs.lemmas.List.{append-nil}
use Rattle.std.proofs.lemmas.Bool.Decides.{nat_tests}
use Rattle.re_commands.specs.Commanding.{commanded}
use Rattle.re_commands.specs.declared.fault.CommandFault.{CommandFault}
use Rattle.re_compact.specs.Finding.{StopsOpening, open_steps}
use Rattle.re_compact.specs.declared.fault.OpenFault.{OpenFault}
use Rattle.re_compact.specs.declared.fault.OpenFault.TheVariants as unopened
use Rattle.re_device.specs.Device.{DeviceState}
use Rattle.re_outside.proofs.Does.{does_with-nil, does_with-trans, does_with_as}
use Rattle.re_outside.proofs.Elsewhere.{kept_by_outputs}
use Rattle.re_outside.specs.Moment.{IsKept}
use Rattle.re_outside.specs.Outside.{AreOutputs, Counts, Disk, Does, FaultKind, Faults, Input, Output, Rose, Seen, disk_fault, none}
use Rattle.re_outside.specs.Port.{disk_faults, other_faults, past_in}
use Rattle.re_outside.specs.Trace.{Past, as_device, with_steps}
use Rattle.re_outside.specs.declared.step.Step.{Step}
use Rattle.re_restore.specs.Opening.{start_steps}
use Rattle.re_session.proofs.Plans.{open_changes, settling_changes, start_changes}
use Rattle.re_session.proofs.Quiet.{Adds, AddsTo, AreChanges, AreQuiet, adds_behind, adds_none, adds_steps, changes_append, changes_quiet, journal_adds, quiet_append, quiet_nil, reading_adds, stops_adds}
use Rattle.re_session.specs.Acts.{Act, Acts, DoneLine, said_by}
use Rattle.re_session.specs.LineAnswers.{fault_code, line_after, line_text, lines_after, others, said_answer, texts}
use Rattle.re_session.specs.Serving.{DoesAsked, DoesLine, Goes, asks, finds_no_memory, holds_none, is_faulty, said_of}
use Rattle.re_terms.specs.Admission.{device_count}
use Rattle.re_terms.specs.DeviceWorlds.{Fine, Memory, Outcome, World, device_of, is_refusal, refusal, reply, world_after}
use Rattle.re_terms.specs.Worlds.{PlainAnswer, plain_answer}
use Rattle.re_terms.specs.declared.command.Answer.{Answer}
use Rattle.re_terms.specs.declared.command.Answer.TheVariants as answer
use Rattle.re_terms.specs.declared.command.Command.{Command}
use Rattle.re_terms.specs.declared.command.Command.TheVariants as command
use Rattle.re_terms.specs.declared.entry.Logged.{Logged}
use Rattle.re_terms.specs.declared.program.Program.{Program}
use Rattle.re_world.proofs.Stepped.{world_kept}
use Rattle.re_world.specs.FileSteps.{CommitsBy, HasFileSteps, RestartsFrom, is_disk_refusal, restarted_as, steps_of}
use Rattle.re_world.specs.Opening.{HasAllOpeningSteps, HasNextSteps, HasOpeningSteps, after_opening, opening_steps, steps_before}
use Rattle.re_world.specs.Standing.{IsWorldOf}
use Rattle.re_world.specs.State.{WorldState, device_in}
use Rattle.re_world.specs.Stepping.{CountsIf, DoesCommand}

-- ---- parts of a session

abbrev Any : List Step → Type 0
Any steps = Unit {0}

pub goes_nil : (s : Seen) → Goes s s [] []
goes_nil s = record { faults = none; input = refl; output = refl; does = does_with-nil Any s tt }

pub does_goes : (a b : Seen) (read text : List ℕ) → Does a b read text none → Goes a b read text
does_goes a b read text d = record {
  faults = none;
  input = refl;
  output = refl;
  does = does_with_as AreOutputs Any a b read text text none none (λ steps o. tt) d refl (λ k. refl);
}

pub goes_on : (a b c : Seen) (r r' t t' : List ℕ) → Goes a b r t → Goes b c r' t' → Goes a c (r ++ r') (t ++ t')
goes_on a b c r r' t t' p q = record {
  faults = λ k. p.faults k + q.faults k;
  input = let e = p.input in let f = q.input in omega arith;
  output = let e = p.output in let f = q.output in omega arith;
  does = does_with-trans Any Any Any a b c r r' t t' p.faults q.faults (λ xs ys x y. tt) p.does q.does;
}

-- ---- counts

-- no call failed, or one on a file of this device
abbrev FaultsOf : Bool → ℕ → Faults
FaultsOf true d = disk_fault d
FaultsOf false d = none

abbrev HasCounts : Faults → Seen → Seen → Type 0
HasCounts f old new = (k : FaultKind) → Counts (f k) (old.faults k) (new.faults k)

counts_same : (n m : ℕ) → m ≡ n → Counts 0 n m
counts_same n m e = (λ h. e, omega arith)

counts_rose : (n m : ℕ) → Rose n m → Counts 1 n m
counts_rose n m r = (λ h. absurd (omega arith), r)

counts_none : (old new : Seen) → ((k : FaultKind) → new.faults k ≡ old.faults k) → HasCounts none old new
counts_none old new same = λ k. counts_same (old.faults k) (new.faults k) (same k)

-- the count of this device has risen, and no other has changed
counts_own : (d : ℕ) (old new : Seen) → Rose (disk_faults d old) (disk_faults d new) → other_faults d new ≡ other_faults d old → HasCounts (disk_fault d) old new
counts_own d old new rose others = by_kind
  where
    by_device : (e : ℕ) (b : Bool) → (d == e) ≡ b → (if b then 0 else new.faults (Disk e)) ≡ (if b then 0 else old.faults (Disk e)) → Counts (if b then 1 else 0) (old.faults (Disk e)) (new.faults (Disk e))
    by_device e true is same = let own : d ≡ e = grind (arith, nat_tests) in subst (λ x. Counts 1 (old.faults (Disk x)) (new.faults (Disk x))) own (counts_rose (old.faults (Disk d)) (new.faults (Disk d)) rose)
    by_device e false is same = counts_same (old.faults (Disk e)) (new.faults (Disk e)) same

    by_kind : HasCounts (disk_fault d) old new
    by_kind Input = counts_same (old.faults Input) (new.faults Input) (ap (λ (f : Faults). f Input) others)
    by_kind Output = counts_same (old.faults Output) (new.faults Output) (ap (λ (f : Faults). f Output) others)
    by_kind (Disk e) = by_device e (d == e) refl (ap (λ (f : Faults). f (Disk e)) others)

-- ---- steps on files

-- quiet steps were added where the outside tells its steps, and each count rose by their failures
adds_goes : (f : Faults) (old new : Seen) → f Input ≡ 0 → f Output ≡ 0 → new.told ≡ old.told → (old.told ≡ true → new.left ≡ old.left) → HasCounts f old new → (old.told ≡ true → Adds f old.start new.start old.trace new.trace) → Goes old new [] []
adds_goes f old new input output told left counts adds = by_told old.told refl
  where
    by_told : (b : Bool) → old.told ≡ b → Goes old new [] []
    by_told true is = record {
      faults = f;
      input = input;
      output = output;
      does = record {
        steps = (adds is).more;
        says = (adds is).quiet.says;
        holds = tt;
        moves = record {
          told = told;
          left = λ t. sym (left t);
          start = λ t. (adds is).start_is;
          trace = λ t. (adds is).trace_is;
          counted = (adds is).quiet.counted;
          counts = counts;
        };
      };
    }
    by_told false is = record {
      faults = f;
      input = input;
      output = output;
      does = record {
        steps = [];
        says = refl;
        holds = tt;
        moves = record {
          told = told;
          left = λ t. sym (left t);
          start = λ t. absurd (true≢false (sym t ∙ is));
          trace = λ t. absurd (true≢false (sym t ∙ is));
          counted = (quiet_nil f).counted;
          counts = counts;
        };
      };
    }

of_input : (b : Bool) (d : ℕ) → FaultsOf b d Input ≡ 0
of_input true d = refl
of_input false d = refl

of_output : (b : Bool) (d : ℕ) → FaultsOf b d Output ≡ 0
of_output true d = refl
of_output false d = refl

-- ---- openings

abbrev disk_refused : OpenFault → Bool
disk_refused unopened.Memory = false
disk_refused unopened.Disk = true
disk_refused (unopened.BadStore file at) = false
disk_refused unopened.OtherProgram = false

abbrev failed_disk : {T : Type 0} → Result T OpenFault → Bool
failed_disk (Ok x) = false
failed_disk (Err f) = disk_refused f

opening_changes : (p : Program) (number : ℕ) (old : Past) → AreChanges old.device (opening_steps p number old)
opening_changes p number old = changes_append old.device (open_steps old.device) (start_steps p number old) (open_changes old.device) (start_changes p number old)

opened_whole : (p : Program) (number : ℕ) (old new : Past) → new ≡ with_steps old (opening_steps p number old) → AddsTo none old new
opened_whole p number old new e = adds_steps none old new (opening_steps p number old) (changes_quiet old.device (opening_steps p number old) (opening_changes p number old)) e

found_only : (old new : Past) → new ≡ with_steps old (open_steps old.device) → AddsTo none old new
found_only old new e = adds_steps none old new (open_steps old.device) (changes_quiet old.device (open_steps old.device) (open_changes old.device)) e

behind_found : (f : Faults) (old new : Past) → AddsTo f (with_steps old (open_steps old.device)) new → AddsTo f old new
behind_found f old new a = adds_behind f old.start new.start old.trace new.trace (open_steps old.device) (changes_quiet old.device (open_steps old.device) (open_changes old.device)) a

stops_opening : (old new : Past) → StopsOpening old new → AddsTo (disk_fault old.device) old new
stops_opening old new (inl w) = stops_adds old.device (open_steps old.device) 0 w.0 old new (open_changes old.device) w.1
stops_opening old new (inr w) = behind_found (disk_fault old.device) old new (reading_adds w.0 (with_steps old (open_steps old.device)) new w.1)

opening_adds : {T : Type 0} (p : Program) (number : ℕ) (old new : Past) (r : Result T OpenFault) → HasOpeningSteps p number old new r → AddsTo (FaultsOf (failed_disk r) old.device) old new
opening_adds p number old new (Ok x) e = opened_whole p number old new e
opening_adds p number old new (Err unopened.Memory) (inl e) = found_only old new e
opening_adds p number old new (Err unopened.Memory) (inr e) = opened_whole p number old new e
opening_adds p number old new (Err unopened.Disk) (inl stops) = stops_opening old new stops
opening_adds p number old new (Err unopened.Disk) (inr stops) = behind_found (disk_fault old.device) old new (stops_adds old.device (start_steps p number old) 0 stops.0 (with_steps old (open_steps old.device)) new (start_changes p number old) stops.1)
opening_adds p number old new (Err (unopened.BadStore file at)) e = found_only old new e
opening_adds p number old new (Err unopened.OtherProgram) e = found_only old new e

-- ---- commands

steps_quiet : (d : ℕ) (x : DeviceState) (entries : List Logged) → AreChanges d (steps_of d x entries)
steps_quiet d x [] = tt
steps_quiet d x (e ∷ entries) = settling_changes d x (e ∷ entries)

commit_adds : (stops refused : Bool) (old new : WorldState) (c : Command) (d : ℕ) (before now : Past) → CommitsBy stops refused old new c d before now → AddsTo (FaultsOf stops d) before now
commit_adds true refused old new c d before now w =
    journal_adds d (steps_of d w.commit.device w.commit.entries) w.commit.device.journal.calls w.commit.device_after.journal.stopped before now (steps_quiet d w.commit.device w.commit.entries) w.made
commit_adds false true old new c d before now w = adds_none none before now w
commit_adds false false old new c d before now w =
    adds_steps none before now (steps_of d w.commit.device w.commit.entries) (changes_quiet d (steps_of d w.commit.device w.commit.entries) (steps_quiet d w.commit.device w.commit.entries)) w.made

restarted_disk : (r : Result ℕ OpenFault) → is_disk_refusal (restarted_as r) ≡ failed_disk r
restarted_disk (Ok number) = refl
restarted_disk (Err unopened.Memory) = refl
restarted_disk (Err unopened.Disk) = refl
restarted_disk (Err (unopened.BadStore file at)) = refl
restarted_disk (Err unopened.OtherProgram) = refl

restart_adds : (o : Option DeviceState) (p : Program) (new : WorldState) (d : ℕ) (a : PlainAnswer) (before now : Seen) → RestartsFrom o p new d a (past_in d before) (past_in d now) → AddsTo (FaultsOf (is_disk_refusal a) d) (past_in d before) (past_in d now)
restart_adds None p new d a before now w =
    subst (λ b. AddsTo (FaultsOf b d) (past_in d before) (past_in d now)) (sym (ap is_disk_refusal w.0.answer ∙ restarted_disk w.0.result))
    (opening_adds p d (past_in d before) (past_in d now) w.0.result w.0.steps)
restart_adds (Some x) p new d a before now e = adds_none (FaultsOf (is_disk_refusal a) d) (past_in d before) (past_in d now) e

-- the number of a command's device, 0 where it has none
abbrev own_device : Command → ℕ
own_device c = option_map_or (λ d. d) (device_of c) 0

files_add : (old new : WorldState) (c : Command) (a : PlainAnswer) (before now : Seen) → HasFileSteps old new c a before now → Adds (FaultsOf (is_disk_refusal a) (own_device c)) before.start now.start before.trace now.trace
files_add old new (command.Turn d t) a before now w = commit_adds (is_disk_refusal a) (is_refusal a) old new (command.Turn d t) d (past_in d before) (past_in d now) w
files_add old new (command.Deliver k d) a before now w = commit_adds (is_disk_refusal a) (is_refusal a) old new (command.Deliver k d) d (past_in d before) (past_in d now) w
files_add old new (command.Settle d) a before now w = commit_adds (is_disk_refusal a) (is_refusal a) old new (command.Settle d) d (past_in d before) (past_in d now) w
files_add old new (command.Restart d) a before now w = restart_adds (device_in old d) old.program new d a before now w
files_add old new (command.Lazy d t) a before now w = adds_none (FaultsOf (is_disk_refusal a) d) (past_in 0 before) (past_in 0 now) w
files_add old new (command.Get d id) a before now w = adds_none (FaultsOf (is_disk_refusal a) d) (past_in 0 before) (past_in 0 now) w
files_add old new (command.Send d) a before now w = adds_none (FaultsOf (is_disk_refusal a) d) (past_in 0 before) (past_in 0 now) w
files_add old new (command.Hex k) a before now w = adds_none (FaultsOf (is_disk_refusal a) 0) (past_in 0 before) (past_in 0 now) w
files_add old new (command.Crash d) a before now w = adds_none (FaultsOf (is_disk_refusal a) d) (past_in 0 before) (past_in 0 now) w

counts_if : (c : Command) (b : Bool) (old new : Seen) → CountsIf b c old new → HasCounts (FaultsOf b (own_device c)) old new
counts_if c true old new w = subst (λ d. HasCounts (disk_fault d) old new) (sym (ap (λ o. option_map_or (λ d. d) o 0) w.device_is)) (counts_own w.device old new w.rose w.others)
counts_if c false old new w = counts_none old new w

pub asked_goes : (c : Command) (before after : WorldState) (a : Answer) (old new : Seen) → new.told ≡ old.told → DoesCommand old.told before after c a old new → Goes old new [] []
asked_goes c before after a old new told does =
    adds_goes (FaultsOf (is_disk_refusal (plain_answer a)) (own_device c)) old new (of_input (is_disk_refusal (plain_answer a)) (own_device c)) (of_output (is_disk_refusal (plain_answer a)) (own_device c)) told does.left
    (counts_if c (is_disk_refusal (plain_answer a)) old new does.counts)
    (λ t. files_add before after c (plain_answer a) old new (does.files t))

-- ---- the opening of all devices

before_quiet : (p : Program) (number : ℕ) (old : Past) → AreQuiet none (steps_before p number old)
before_quiet p zero old = quiet_nil none
before_quiet p (suc number) old =
    quiet_append none (steps_before p number old) (opening_steps p number (as_device number old)) (before_quiet p number old)
    (changes_quiet number (opening_steps p number (as_device number old)) (opening_changes p number (as_device number old)))

next_adds : (T : Type 0) (p : Program) (d : ℕ) (old new : Past) (f : OpenFault) → HasNextSteps {T = T} p d old new (Err f) → AddsTo (FaultsOf (disk_refused f) old.device) old new
next_adds T p d old new f (inr w) = opening_adds {T = T} p d old new (Err f) w
next_adds T p d old new unopened.Memory (inl w) = adds_none none old new w
next_adds T p d old new unopened.Disk (inl w) = absurd w
next_adds T p d old new (unopened.BadStore file at) (inl w) = absurd w
next_adds T p d old new unopened.OtherProgram (inl w) = absurd w

-- what the opening of all devices came to: whether a call of a device failed, and of which
abbrev failed_opening : {T : Type 0} → Result T (ℕ × OpenFault) → Bool
failed_opening (Ok x) = false
failed_opening (Err (d, f)) = disk_refused f

abbrev refused_device : {T : Type 0} → Result T (ℕ × OpenFault) → ℕ
refused_device (Ok x) = 0
refused_device (Err (d, f)) = d

all_add : {T : Type 0} (p : Program) (old new : Seen) (r : Result T (ℕ × OpenFault)) → HasAllOpeningSteps p (past_in 0 old) (past_in 0 new) r → Adds (FaultsOf (failed_opening r) (refused_device r)) old.start new.start old.trace new.trace
all_add p old new (Ok x) e = adds_steps none (past_in 0 old) (past_in 0 new) (steps_before p (device_count p.decls.items) (past_in 0 old)) (before_quiet p (device_count p.decls.items) (past_in 0 old)) e
all_add {T} p old new (Err (d, f)) w =
    adds_behind (FaultsOf (disk_refused f) d) old.start new.start old.trace new.trace (steps_before p d (past_in 0 old)) (before_quiet p d (past_in 0 old))
    (next_adds T p d (as_device d (after_opening p d (past_in 0 old))) (as_device d (past_in 0 new)) f w)

opening_counts : {T : Type 0} (old new : Seen) (r : Result T (ℕ × OpenFault))
    → ((d : ℕ) → r ≡ Err (d, unopened.Disk) → Rose (disk_faults d old) (disk_faults d new)) → ((d : ℕ) → r ≡ Err (d, unopened.Disk) → other_faults d new ≡ other_faults d old) → (((d : ℕ) → r ≢ Err (d, unopened.Disk)) → new.faults ≡ old.faults)
    → HasCounts (FaultsOf (failed_opening r) (refused_device r)) old new
opening_counts old new (Ok x) disk rest calm = counts_none old new (λ k. ap (λ (f : Faults). f k) (calm (λ d e. absurd (cc))))
opening_counts {T} old new (Err (d, unopened.Disk)) disk rest calm = counts_own d old new (disk d refl) (rest d refl)
opening_counts {T} old new (Err (d, unopened.Memory)) disk rest calm = counts_none old new (λ k. ap (λ (f : Faults). f k) (calm (λ e is. absurd (true≢false (sym (ap (failed_opening {T = T}) is))))))
opening_counts {T} old new (Err (d, unopened.BadStore file at)) disk rest calm = counts_none old new (λ k. ap (λ (f : Faults). f k) (calm (λ e is. absurd (true≢false (sym (ap (failed_opening {T = T}) is))))))
opening_counts {T} old new (Err (d, unopened.OtherProgram)) disk rest calm = counts_none old new (λ k. ap (λ (f : Faults). f k) (calm (λ e is. absurd (true≢false (sym (ap (failed_opening {T = T}) is))))))

-- the opening of all devices, whatever it came to
pub opening_goes : {T : Type 0} (p : Program) (old new : Seen) (r : Result T (ℕ × OpenFault)) → new.told ≡ old.told
    → (old.told ≡ true → HasAllOpeningSteps p (past_in 0 old) (past_in 0 new) r) → (old.told ≡ true → new.left ≡ old.left)
    → ((d : ℕ) → r ≡ Err (d, unopened.Disk) → Rose (disk_faults d old) (disk_faults d new)) → ((d : ℕ) → r ≡ Err (d, unopened.Disk) → other_faults d new ≡ other_faults d old) → (((d : ℕ) → r ≢ Err (d, unopened.Disk)) → new.faults ≡ old.faults)
    → Goes old new [] []
opening_goes p old new r told steps left disk rest calm =
    adds_goes (FaultsOf (failed_opening r) (refused_device r)) old new (of_input (failed_opening r) (refused_device r)) (of_output (failed_opening r) (refused_device r)) told left
    (opening_counts old new r disk rest calm)
    (λ t. all_add p old new r (steps t))

-- ---- a line

pub line_goes : (p : Program) (line : List ℕ) (before after : WorldState) (a : Option Answer) (o : Outcome) (old new : Seen) → DoesLine p line before after a o old new → Goes old new [] []
line_goes p line before after a o old new (holds_none meant is fared devices same) = subst (λ s. Goes old s [] []) (sym same) (goes_nil old)
line_goes p line before after a o old new (is_faulty meant is fared devices same) = subst (λ s. Goes old s [] []) (sym same) (goes_nil old)
line_goes p line before after a o old new (finds_no_memory meant is fared devices same) = subst (λ s. Goes old s [] []) (sym same) (goes_nil old)
line_goes p line before after a o old new (asks meant is asked) = asked.goes

-- what is taken or said leaves the world that the devices and their files are
pub resting : (p : Program) (w : World) (v : WorldState) (a b : Seen) (read text : List ℕ) → a.told ≡ true → Does a b read text none → IsWorldOf p w v a → IsWorldOf p w v b
resting p w v a b read text told d is =
    world_kept p w v a b is (λ e f. subst (IsKept e f (past_in 0 a)) (sym moved) (kept_by_outputs e f (past_in 0 a) d.steps d.holds))
  where
    moved : past_in 0 b ≡ with_steps (past_in 0 a) d.steps
    moved = λ i. record { device = 0; start = d.moves.start told i; trace = d.moves.trace told i }

abbrev Leads : Program → World → Result (Option Command) CommandFault → WorldState → Option Answer → Outcome → Seen → Type 0
Leads p w meant after a o new = (said_of p a ≡ line_text p w meant o) × IsWorldOf p (line_after p w meant o) after new

-- want of memory leaves the world
memory_leaves : (p : Program) (w : World) (c : Command) → world_after p w c Memory ≡ w
memory_leaves p w c = by (refusal p w c)
  where
    by : (r : Option PlainAnswer) → option_map_or (λ refused. w) r w ≡ w
    by None = refl
    by (Some x) = refl

memory_leads : (p : Program) (w : World) (meant : Result (Option Command) CommandFault) (v : WorldState) (s : Seen) → meant ≢ Ok None → IsWorldOf p w v s → Leads p w meant v (Some (answer.No 36)) Memory s
memory_leads p w (Ok None) v s some is = absurd (some refl)
memory_leads p w (Ok (Some c)) v s some is = (refl, subst (λ x. IsWorldOf p x v s) (sym (memory_leaves p w c)) is)
memory_leads p w (Err f) v s some is = (refl, is)

asked_leads : (p : Program) (w : World) (c : Command) (before after : WorldState) (x : Answer) (o : Outcome) (old new : Seen) → old.told ≡ true → DoesAsked p c before after x o old new → IsWorldOf p w before old → Leads p w (Ok (Some c)) after (Some x) o new
asked_leads p w c before after x o old new told asked is =
    let stepped = asked.does.stepped told in
    (subst (λ y. said_of p (Some x) ≡ said_answer p (Some (reply p w c y))) (asked.fared told) (ap (λ y. said_answer p (Some y)) (stepped.answers p w is)), subst (λ y. IsWorldOf p (world_after p w c y) after new) (asked.fared told) (stepped.world p w is))

leads_as : (p : Program) (w : World) (m m' : Result (Option Command) CommandFault) (v v' : WorldState) (a a' : Option Answer) (o o' : Outcome) (s s' : Seen) → m' ≡ m → a' ≡ a → o' ≡ o → v' ≡ v → s' ≡ s → Leads p w m v a o s → Leads p w m' v' a' o' s'
leads_as p w m m' v v' a a' o o' s s' meant is fared devices same leads =
    subst (λ x. Leads p w x v' a' o' s') (sym meant)
    (subst (λ x. Leads p w m v' x o' s') (sym is)
    (subst (λ x. Leads p w m v' a x s') (sym fared)
    (subst (λ x. Leads p w m x a o s') (sym devices)
    (subst (λ x. Leads p w m v a o x) (sym same) leads))))

-- what a line says and leaves is what the definitions have of it
pub line_world : (p : Program) (line : List ℕ) (before after : WorldState) (a : Option Answer) (o : Outcome) (old new : Seen) (w : World) → old.told ≡ true → DoesLine p line before after a o old new → IsWorldOf p w before old → (said_of p a ≡ line_text p w (commanded p line) o) × IsWorldOf p (line_after p w (commanded p line) o) after new
line_world p line before after a o old new w told (holds_none meant is fared devices same) world =
    leads_as p w (Ok None) (commanded p line) before after None a Fine o old new meant is fared devices same (refl, world)
line_world p line before after a o old new w told (is_faulty {f = f} meant is fared devices same) world =
    leads_as p w (Err f) (commanded p line) before after (Some (answer.No (fault_code f))) a Fine o old new meant is fared devices same (refl, world)
line_world p line before after a o old new w told (finds_no_memory meant is fared devices same) world =
    leads_as p w (commanded p line) (commanded p line) before after (Some (answer.No 36)) a Memory o old new refl is fared devices same (memory_leads p w (commanded p line) before old meant world)
line_world p line before after a o old new w told (asks {c = c} {x = x} meant is asked) world =
    leads_as p w (Ok (Some c)) (commanded p line) after after (Some x) a o o new new meant is refl refl refl (asked_leads p w c before after x o old new told asked world)

-- ---- lines one behind the other

-- the same of a line that is read, done and answered
act_world : (p : Program) (l : DoneLine) (v v' : WorldState) (a b : Seen) (w : World) → a.told ≡ true → Act p l v v' a b → IsWorldOf p w v a
    → (b.told ≡ true) × (said_of p l.answer ≡ line_text p w (commanded p l.line) l.outcome) × IsWorldOf p (line_after p w (commanded p l.line) l.outcome) v' b
act_world p l v v' a b w told act is = (said_told, led.0, resting p w' v' act.done b [] (said_of p l.answer) done_told act.says led.1)
  where
    w' : World
    w' = line_after p w (commanded p l.line) l.outcome

    begun_told : act.begun.told ≡ true
    begun_told = act.reads.moves.told ∙ told

    done_told : act.done.told ≡ true
    done_told = (line_goes p l.line v v' l.answer l.outcome act.begun act.done act.own).does.moves.told ∙ begun_told

    said_told : b.told ≡ true
    said_told = act.says.moves.told ∙ done_told

    led : (said_of p l.answer ≡ line_text p w (commanded p l.line) l.outcome) × IsWorldOf p w' v' act.done
    led = line_world p l.line v v' l.answer l.outcome act.begun act.done w begun_told act.own (resting p w v a act.begun act.read [] told act.reads is)

pub acts_more : (p : Program) (lines : List DoneLine) (l : DoneLine) (v v1 v2 : WorldState) (a b c : Seen) → Acts p lines v v1 a b → Act p l v1 v2 b c → Acts p (lines ++ l ∷ []) v v2 a c
acts_more p [] l v v1 v2 a b c acts act = record {
  devices = v2;
  mid = c;
  here = subst (λ x. Act p l x v2 a c) acts.0 (subst (λ x. Act p l v1 v2 x c) acts.1 act);
  there = (refl, refl);
}
acts_more p (x ∷ lines) l v v1 v2 a b c acts act = record {
  devices = acts.devices;
  mid = acts.mid;
  here = acts.here;
  there = acts_more p lines l acts.devices v1 v2 acts.mid b c acts.there act;
}

-- what lines say and leave is what the definitions have of them
pub acts_world : (p : Program) (lines : List DoneLine) (v v' : WorldState) (a b : Seen) (w : World) → a.told ≡ true → Acts p lines v v' a b → IsWorldOf p w v a
    → (said_by p lines ≡ texts p w (map (λ (l : DoneLine). l.line) lines) (map (λ (l : DoneLine). l.outcome) lines)) × IsWorldOf p (lines_after p w (map (λ (l : DoneLine). l.line) lines) (map (λ (l : DoneLine). l.outcome) lines)) v' b
acts_world p [] v v' a b w told acts is = (refl, subst (λ x. IsWorldOf p w x b) (sym acts.0) (subst (λ x. IsWorldOf p w v x) (sym acts.1) is))
acts_world p (l ∷ lines) v v' a b w told acts is =
    let led = act_world p l v acts.devices a acts.mid w told acts.here is in
    let next = acts_world p lines acts.devices v' acts.mid b (line_after p w (commanded p l.line) l.outcome) led.0 acts.there led.2 in
    (ap (λ t. t ++ said_by p lines) led.1 ∙ ap (λ t. line_text p w (commanded p l.line) l.outcome ++ t) next.0, next.1)

-- ---- texts of lines one behind the other

pub texts-append : (p : Program) (w : World) (xs ys : List (List ℕ)) (os qs : List Outcome) → length os ≡ length xs → texts p w (xs ++ ys) (os ++ qs) ≡ texts p w xs os ++ texts p (lines_after p w xs os) ys qs
texts-append p w [] ys [] qs h = refl
texts-append p w [] ys (o ∷ os) qs h = absurd (cc)
texts-append p w (x ∷ xs) ys [] qs h = absurd (cc)
texts-append p w (x ∷ xs) ys (o ∷ os) qs h =
    ap (λ t. line_text p w (commanded p x) o ++ t) (texts-append p (line_after p w (commanded p x) o) xs ys os qs (cc))
    ∙ sym (append_assoc (line_text p w (commanded p x) o) (texts p (line_after p w (commanded p x) o) xs os) (texts p (lines_after p (line_after p w (commanded p x) o) xs os) ys qs))

pub after-append : (p : Program) (w : World) (xs ys : List (List ℕ)) (os qs : List Outcome) → length os ≡ length xs → lines_after p w (xs ++ ys) (os ++ qs) ≡ lines_after p (lines_after p w xs os) ys qs
after-append p w [] ys [] qs h = refl
after-append p w [] ys (o ∷ os) qs h = absurd (cc)
after-append p w (x ∷ xs) ys [] qs h = absurd (cc)
after-append p w (x ∷ xs) ys (o ∷ os) qs h = after-append p (line_after p w (commanded p x) o) xs ys os qs (cc)

-- one line more
pub texts_more : (p : Program) (w : World) (lines : List (List ℕ)) (line : List ℕ) (os : List Outcome) (o : Outcome) → length os ≡ length lines
    → texts p w (lines ++ line ∷ []) (os ++ o ∷ []) ≡ texts p w lines os ++ line_text p (lines_after p w lines os) (commanded p line) o
texts_more p w lines line os o h = texts-append p w lines (line ∷ []) os (o ∷ []) h ∙ ap (λ t. texts p w lines os ++ t) (append-nil (line_text p (lines_after p w lines os) (commanded p line) o))
