-- What a stop leaves of a run begins the next one.
use Rattle.std.proofs.Common.{◌≡◌, ◌<◌, ◌≤◌, ◌+◌, ◌++◌, ◌∷◌, ◌⊎◌, [], ℕ, Bool, false, true, List, None, Ok, Err, Option, Some, ap, append_assoc, arith, inl, inr, length, length-append, refl, subst, suc, sym, take, ◌∙◌}
use Rattle.std.specs.List.{All, range_with_len}
use Rattle.std.specs.Option.{option_map_or}
use Rattle.std.specs.Prelude.{IfSome, drop, map, slice_index_or}
use Rattle.std.proofs.lemmas.Bool.{cases_lt}
use Rattle.std.proofs.lemmas.List.{append-nil, drop_more, take-append-drop, take_more}
use Rattle.std.proofs.lemmas.List.Elements.{All-cons, All-nil}
use Rattle.re_commands.specs.Commanding.{commanded}
use Rattle.re_fakes.specs.Files.{file_in}
use Rattle.re_fakes.specs.Stops.{IsChosen}
use Rattle.re_fakes.specs.World as memory
use Rattle.re_fakes.specs.declared.files.Files.{Files}
use Rattle.re_outside.proofs.Images.{image_start}
use Rattle.re_outside.proofs.Moments.{join, weaken}
use Rattle.re_outside.specs.Moment.{Throughout}
use Rattle.re_outside.specs.Outside.{Breaks, Counts, Does, FaultKind, Input, IsAtEnd, Output, Rose, Seen, none, said}
use Rattle.re_outside.specs.Port.{past_in}
use Rattle.re_outside.specs.Trace.{IsJointImage, Past, acts_of}
use Rattle.re_outside.specs.declared.step.Step.{Step}
use Rattle.re_session.proofs.Acknowledged.{holds_told}
use Rattle.re_session.proofs.Acting.{does_goes, goes_nil, line_goes}
use Rattle.re_session.proofs.GoingOn as going
use Rattle.re_session.specs.Acts.{Act, Acts, DoneLine}
use Rattle.re_session.specs.Begins.{Begins}
use Rattle.re_session.specs.Fares.{IsCalm}
use Rattle.re_session.specs.LineAnswers.{Reading, first, line_after, lines_after, others}
use Rattle.re_session.specs.Serving.{Goes}
use Rattle.re_session.specs.Stops.{GoesOn, HoldsAcknowledged, IsAcknowledged, Stops, world_of}
use Rattle.re_terms.specs.Admission.{device_count}
use Rattle.re_terms.specs.DeviceWorlds.{Outcome, World, done_world, failed_world, fared_world, outcome_of, refusal, world_after}
use Rattle.re_terms.specs.DeviceWorlds as outcome
use Rattle.re_terms.specs.JointLogs.{all_of}
use Rattle.re_terms.specs.Lines.{Done}
use Rattle.re_terms.specs.Programs.{IsProgram}
use Rattle.re_terms.specs.Updates.{Update}
use Rattle.re_terms.specs.Worlds.{PlainAnswer}
use Rattle.re_terms.specs.declared.command.Command.{Command}
use Rattle.re_terms.specs.declared.command.Command.TheVariants as command
use Rattle.re_terms.specs.declared.program.Program.{Program}
use Rattle.re_tool.specs.Acts.{Course, DoesLast, Ordered, ReadsPart, opens_none, reads, serves}
use Rattle.re_tool.specs.Answers.{Session, done}
use Rattle.re_tool.specs.Part.{HasSeparator}
use Rattle.re_tool.specs.Relay.{Gives, GoesOnAcknowledged, IsPast, KeepsLog, Passes, Ran, Relays, SaysAnswers, StopsAt, StopsPast, before_run, next, nothing, resting}
use Rattle.re_tool.specs.Session.{Closes, Halts, MayBegin, Runs, Tells, is_output, one_if}
use Rattle.re_tool.specs.Stops.{LeavesAll, Survives, SurvivesLines}
use Rattle.re_tool.specs.Verdict.{Accepted}
use Rattle.re_tool.specs.declared.relays.Leg.{Leg}
use Rattle.re_tool.specs.declared.status.Status.{Status}
use Rattle.re_tool.specs.declared.status.Status.TheVariants as status
use Rattle.re_tool.specs.declared.words.Job.TheVariants as job
use Rattle.re_tool.proofs.WholeParts.{given_program}
use Rattle.re_world.specs.Images.{Restores, log_held, updates_held}
use Rattle.re_world.specs.State.{WorldState}

-- ---- the log goes on

abbrev Grows : World → World → Type 0
Grows a b = (more : List Update) × (b.log ≡ a.log ++ more)

stays : (w : World) → Grows w w
stays w = ([], sym (append-nil w.log))

grows_on : (a b c : World) → Grows a b → Grows b c → Grows a c
grows_on a b c (xs, e) (ys, f) = (xs ++ ys, f ∙ ap (λ l. l ++ ys) e ∙ append_assoc a.log xs ys)

done_grows : (w : World) (c : Command) → Grows w (done_world w c)
done_grows w (command.Turn d t) = (_, refl)
done_grows w (command.Lazy d t) = stays w
done_grows w (command.Settle d) = (_, refl)
done_grows w (command.Get d id) = stays w
done_grows w (command.Send d) = stays w
done_grows w (command.Deliver k d) = (_, refl)
done_grows w (command.Hex k) = stays w
done_grows w (command.Crash d) = stays w
done_grows w (command.Restart d) = (_, refl)

failed_grows : (w : World) (c : Command) (at : ℕ) (gate_open : Bool) → Grows w (failed_world w c at gate_open)
failed_grows w (command.Turn d t) at gate_open = stays w
failed_grows w (command.Lazy d t) at gate_open = stays w
failed_grows w (command.Settle d) at gate_open = stays w
failed_grows w (command.Get d id) at gate_open = stays w
failed_grows w (command.Send d) at gate_open = stays w
failed_grows w (command.Deliver k d) at gate_open = stays w
failed_grows w (command.Hex k) at gate_open = stays w
failed_grows w (command.Crash d) at gate_open = stays w
failed_grows w (command.Restart d) at gate_open = stays w

fared_grows : (w : World) (c : Command) (o : Outcome) → Grows w (fared_world w c o)
fared_grows w c outcome.Fine = done_grows w c
fared_grows w c outcome.Memory = stays w
fared_grows w c (outcome.Failed at gate_open) = failed_grows w c at gate_open
fared_grows w c (outcome.BadStore file place) = stays w
fared_grows w c outcome.OtherProgram = stays w

unless_refused : (w x : World) (r : Option PlainAnswer) → Grows w x → Grows w (option_map_or (λ refused. w) r x)
unless_refused w x None h = h
unless_refused w x (Some a) h = stays w

line_grows : (p : Program) (w : World) (l : Reading) (o : Outcome) → Grows w (line_after p w l o)
line_grows p w (Ok None) o = stays w
line_grows p w (Ok (Some c)) o = unless_refused w (fared_world w c (outcome_of w c o)) (refusal p w c) (fared_grows w c (outcome_of w c o))
line_grows p w (Err f) o = stays w

lines_grow : (p : Program) (w : World) (lines : List (List ℕ)) (os : List Outcome) → Grows w (lines_after p w lines os)
lines_grow p w [] os = stays w
lines_grow p w (l ∷ lines) os =
    let mid = line_after p w (commanded p l) (first os) in
    grows_on w mid (lines_after p mid lines (others os)) (line_grows p w (commanded p l) (first os)) (lines_grow p mid lines (others os))

-- ---- what is left of a run

-- These files restore to a world behind one whose log goes on, and hold what was acknowledged in what was said until then.
record Left (p : Program) (w : World) (lines : List DoneLine) (now : Past) (files : ℕ → ℕ → List ℕ) : Type 0 where
  pub world : World
  pub grows : Grows w world
  pub under_way : Option Done
  pub restores : Restores p world under_way files
  pub holds : HoldsAcknowledged p w lines (said now.trace) world under_way files restores

abbrev LeavesLeft : Program → World → List DoneLine → Past → Type 0
LeavesLeft p w lines now = (files : ℕ → ℕ → List ℕ) → IsJointImage now files → Left p w lines now files

left_during : (p : Program) (w : World) (lines : List DoneLine) (base now : Past) → base.trace ≡ [] → Stops p w lines base now → LeavesLeft p w lines now
left_during p w lines base now fresh s files image =
    let none : said base.trace ≡ [] = ap said fresh in
    let text : s.text ≡ said now.trace = ap (λ l. l ++ s.text) (sym none) ∙ sym s.says in
    record {
      world = world_of p w (take s.answered lines);
      grows = lines_grow p w (map (λ (l : DoneLine). l.line) (take s.answered lines)) (map (λ (l : DoneLine). l.outcome) (take s.answered lines));
      under_way = s.under_way;
      restores = s.restores files image;
      holds = subst (λ t. HoldsAcknowledged p w lines t (world_of p w (take s.answered lines)) s.under_way files (s.restores files image)) text (s.holds files image);
    }

left_behind : (p : Program) (w : World) (lines : List DoneLine) (now : Past) → LeavesAll p w lines now → LeavesLeft p w lines now
left_behind p w lines now s files image = record {
  world = world_of p w lines;
  grows = lines_grow p w (map (λ (l : DoneLine). l.line) lines) (map (λ (l : DoneLine). l.outcome) lines);
  under_way = None;
  restores = s.restores files image;
  holds = holds_told p w lines (said now.trace) None files (s.restores files image);
}

left_lines : (p : Program) (w : World) (lines : List DoneLine) (old calm new : Past) → old.trace ≡ [] → SurvivesLines p w lines old calm new → Throughout old new (LeavesLeft p w lines)
left_lines p w lines old calm new fresh s =
    join old calm new (LeavesLeft p w lines)
    (weaken old calm (Stops p w lines old) (LeavesLeft p w lines) (λ now h. left_during p w lines old now fresh h) s.during)
    (weaken calm new (LeavesAll p w lines) (LeavesLeft p w lines) (λ now h. left_behind p w lines now h) s.behind)

-- no line was acknowledged where none was done
nothing_told : (p : Program) (w : World) (text : List ℕ) (d n : ℕ) → IsAcknowledged p w [] text d n → ⊥
nothing_told p w text d n a = let no : ◌≡◌ {A = Option DoneLine} None (Some a.line) = a.at in absurd (cc)

-- what is left begins the next run
begins_next : (p : Program) (w : World) (lines : List DoneLine) (now : Past) (after : Files) → IsProgram p → Left p w lines now (file_in after) → GoesOnAcknowledged p w lines (said now.trace) after
begins_next p w lines now after is l =
    let g : GoesOn p l.world l.under_way (file_in after) l.restores (resting after) = going.goes_on p is l.world l.under_way (file_in after) l.restores (resting after) refl refl refl in
    let held = grown g.next.log g.log in
    record {
      goes_on = record { next = g.next; begins = g.begins; more = held.0; log = held.1 };
      acknowledged = λ d number below a.
          let opens = l.restores.opens d below in
          let there = l.holds d number below a in
          let is_number = g.number d below in
          let opens_at = opens.number_is in
          omega (arith, there, is_number, opens_at);
    }
  where
    grown : (log : List Update) → log ≡ log_held p l.world l.under_way l.restores.more → (more : List Update) × (log ≡ w.log ++ more)
    grown log e =
        let held = all_of (map (updates_held p l.world l.under_way l.restores.more) (range_with_len 0 (device_count p.decls.items))) in
        (l.grows.0 ++ held, e ∙ ap (λ x. x ++ held) l.grows.1 ∙ append_assoc w.log l.grows.0 held)

-- files that are as they were begin as they did
same_files : (before after : Files) → IsJointImage (past_in 0 (resting before)) (file_in after) → file_in after ≡ file_in before
same_files before after images = λ i d f. image_start (file_in before d f) (file_in after d f) (images d f) i

begins_same : (p : Program) (w : World) (before after : Files) → file_in after ≡ file_in before → Begins p w (resting before) → Begins p w (resting after)
begins_same p w before after e b = subst (λ x. Begins p w (record { told = true; left = []; start = x; trace = []; faults = (resting before).faults })) (sym e) b

-- ---- how much of the input is left

-- less is left of the input, or as much
record Shrinks (a b : Seen) : Type 0 where
  pub told : b.told ≡ a.told
  pub left : a.told ≡ true → length b.left ≤ length a.left

shrinks_goes : (a b : Seen) (read text : List ℕ) → Goes a b read text → Shrinks a b
shrinks_goes a b read text g = record { told = g.does.moves.told; left = λ t. omega (arith, ap length (g.does.moves.left t) ∙ length-append read b.left) }

shrinks_same : (a b : Seen) → b ≡ a → Shrinks a b
shrinks_same a b e = shrinks_goes a b [] [] (subst (λ x. Goes a x [] []) (sym e) (goes_nil a))

shrinks_on : (a b c : Seen) → Shrinks a b → Shrinks b c → Shrinks a c
shrinks_on a b c s t = record { told = t.told ∙ s.told; left = λ q. let first = s.left q in let second = t.left (s.told ∙ q) in omega (arith, first, second) }

shrinks_does : (a b : Seen) (read text : List ℕ) → Does a b read text none → Shrinks a b
shrinks_does a b read text d = shrinks_goes a b read text (does_goes a b read text d)

shrinks_line : (p : Program) (l : DoneLine) (v v' : WorldState) (a b : Seen) → Act p l v v' a b → Shrinks a b
shrinks_line p l v v' a b act =
    shrinks_on a act.begun b (shrinks_does a act.begun _ [] act.reads)
    (shrinks_on act.begun act.done b (shrinks_goes act.begun act.done _ _ (line_goes p l.line v v' l.answer l.outcome act.begun act.done act.own)) (shrinks_does act.done b [] _ act.says))

shrinks_acts : (p : Program) (lines : List DoneLine) (v v' : WorldState) (a b : Seen) → Acts p lines v v' a b → Shrinks a b
shrinks_acts p [] v v' a b e = shrinks_same a b e.1
shrinks_acts p (l ∷ lines) v v' a b e = shrinks_on a e.mid b (shrinks_line p l v e.devices a e.mid e.here) (shrinks_acts p lines e.devices v' e.mid b e.there)

shrinks_last : (p : Program) (lines : List DoneLine) (v v' : WorldState) (a b : Seen) → DoesLast p lines v v' a b → Shrinks a b
shrinks_last p [] v v' a b d = shrinks_same a b d.1
shrinks_last p (l ∷ []) v v' a b d = shrinks_goes a b _ _ (line_goes p l.line v v' l.answer l.outcome a b d)
shrinks_last p (l ∷ m ∷ lines) v v' a b d = absurd d

shrinks_ordered : (a b : Seen) (p : Program) (lines unanswered : List DoneLine) (last : WorldState) (o : Ordered a b p lines unanswered last) → Shrinks o.part_read b
shrinks_ordered a b p lines unanswered last o =
    shrinks_on o.part_read o.opened b (shrinks_goes o.part_read o.opened _ _ o.opens.opening.goes)
    (shrinks_on o.opened o.mid b (shrinks_acts p o.answered o.devices o.before o.opened o.mid o.acts)
    (shrinks_on o.mid o.begun b (shrinks_does o.mid o.begun _ [] o.reads) (shrinks_last p unanswered o.before last o.begun b o.own)))

shrinks_moves : (a b : Seen) (text : List ℕ) → b.told ≡ a.told → (a.told ≡ true → a.left ≡ [] ++ b.left) → Shrinks a b
shrinks_moves a b text told left = record { told = told; left = λ q. omega (arith, ap length (left q)) }

shrinks_halts : (failed : Bool) (calm halted : Seen) → Halts failed calm halted → Shrinks calm halted
shrinks_halts false calm halted h = shrinks_same calm halted h
shrinks_halts true calm halted f = shrinks_moves calm halted [] f.moves.told f.moves.left

shrinks_breaks : (a b : Seen) (text : List ℕ) → Breaks a b text none → Shrinks a b
shrinks_breaks a b text k = shrinks_on a k.before b (shrinks_does a k.before [] k.front k.does) (shrinks_moves k.before b [] k.failed.moves.told k.failed.moves.left)

shrinks_closes : (s : Status) (halted new : Seen) (last : List ℕ) → Closes halted new last s → Shrinks halted new
shrinks_closes status.Output halted new last k = shrinks_breaks halted new last k
shrinks_closes status.Done halted new last k = shrinks_does halted new [] last k
shrinks_closes status.Words halted new last k = shrinks_does halted new [] last k
shrinks_closes status.Program halted new last k = shrinks_does halted new [] last k
shrinks_closes status.Store halted new last k = shrinks_does halted new [] last k
shrinks_closes status.OtherProgram halted new last k = shrinks_does halted new [] last k
shrinks_closes status.Disk halted new last k = shrinks_does halted new [] last k
shrinks_closes status.Input halted new last k = shrinks_does halted new [] last k
shrinks_closes status.Memory halted new last k = shrinks_does halted new [] last k
shrinks_closes status.TooLong halted new last k = shrinks_does halted new [] last k
shrinks_closes status.Line halted new last k = shrinks_does halted new [] last k

-- ---- a run in which no call failed

none_failed : (n before now : ℕ) → before ≡ 0 → now ≡ 0 → Counts n before now → n ≡ 0
none_failed n before now b e c = omega (arith, b, e, c.1)

flag_off : (b : Bool) (n : ℕ) → n ≡ one_if b → n ≡ 0 → b ≡ false
flag_off false n e z = refl
flag_off true n e z = absurd (omega (arith, e, z))

tells_all : (s : Status) (a t : List ℕ) → is_output s ≡ false → Tells a t s → a ≡ t
tells_all status.Output a t e h = absurd (cc)
tells_all status.Done a t e h = h
tells_all status.Words a t e h = h
tells_all status.Program a t e h = h
tells_all status.Store a t e h = h
tells_all status.OtherProgram a t e h = h
tells_all status.Disk a t e h = h
tells_all status.Input a t e h = h
tells_all status.Memory a t e h = h
tells_all status.TooLong a t e h = h
tells_all status.Line a t e h = h

calm_outcomes : (lines : List DoneLine) → All (λ (l : DoneLine). IsCalm l.outcome) lines → All IsCalm (map (λ (l : DoneLine). l.outcome) lines)
calm_outcomes [] h = All-nil IsCalm
calm_outcomes (l ∷ lines) h = All-cons IsCalm l.outcome (map (λ (x : DoneLine). x.outcome) lines) (h 0 l (omega arith)) (calm_outcomes lines (λ k d below. h (suc k) d (omega (arith, below))))

no_lines : (lines : List DoneLine) → lines ≡ [] → All (λ (l : DoneLine). IsCalm l.outcome) lines
no_lines lines e = subst (All (λ (l : DoneLine). IsCalm l.outcome)) (sym e) (All-nil (λ (l : DoneLine). IsCalm l.outcome))

begins_for : (p : Program) (w : World) (input : List ℕ) (before : Files) → Begins p w (resting before) → Begins p w (before_run input before)
begins_for p w input before b = record { told = refl; base = b.base; base_number = b.base_number; log = b.log; starts = b.starts; is = b.is }

module _ (leg : Leg) (before : Files) (new : Seen) (s : Status) (v : Survives job.Run (before_run leg.input.items before) new s) (calm : (kind : FaultKind) → new.faults kind ≡ 0) (p : Program) (w : World) (gives : Gives leg.input.items p) (begins : Begins p w (resting before)) where
  abbrev old : Seen
  old = before_run leg.input.items before

  abbrev r : Runs job.Run old new s
  r = v.runs

  abbrev session : Option Session
  session = done job.Run r.verdict r.read r.outcomes

  all : leg.input.items ≡ r.read ++ new.left
  all = r.does.moves.left refl

  shrinks_end : Shrinks r.calm new
  shrinks_end = shrinks_on r.calm r.halted new (shrinks_halts r.outcomes.input_failed r.calm r.halted r.halts) (shrinks_closes s r.halted new r.last r.closes)

  -- the program of the run is the input's
  same_program : (q : Program) (read : List ℕ) (m : Seen) → r.verdict ≡ Accepted q → Does old m read [] none → ReadsPart read m → Shrinks m r.calm → q ≡ p
  same_program q read m verdict does whole shrinks =
      let told : m.told ≡ true = does.moves.told in
      given_program job.Run old new s r leg.input.items all p q verdict gives read m.left (does.moves.left refl) whole.0 (far whole.1 told) ((shrinks_on m r.calm new shrinks shrinks_end).left told)
    where
      far : HasSeparator read ⊎ IsAtEnd m → m.told ≡ true → HasSeparator read ⊎ (m.left ≡ [])
      far (inl h) told = inl h
      far (inr h) told = inr (h told)

  -- ---- what is said

  no_fault : (kind : FaultKind) → Rose (old.faults kind) (new.faults kind) → ⊥
  no_fault kind rose = let none = calm kind in absurd (omega (arith, none, rose))

  read_on : r.outcomes.input_failed ≡ false
  read_on = flag_off r.outcomes.input_failed _ r.input (none_failed _ _ _ refl (calm Input) (r.does.moves.counts Input))

  said_all : is_output s ≡ false
  said_all = flag_off (is_output s) _ r.output (none_failed _ _ _ refl (calm Output) (r.does.moves.counts Output))

  begins_old : Begins p w old
  begins_old = begins_for p w leg.input.items before begins

  may_begin : Course job.Run r.verdict r.outcomes.unopened session r.lines r.unanswered old r.calm → MayBegin (λ q. w) session old
  may_begin (reads lacks opens did un does) = subst (λ x. MayBegin (λ q. w) x old) (sym lacks) tt
  may_begin (opens_none run accepted fault lacks did un does whole opening) = subst (λ x. MayBegin (λ q. w) x old) (sym lacks) tt
  may_begin (serves {s = y} {last = last} run accepted opens own spelled o) =
      let same : y.program ≡ p = same_program y.program o.part o.part_read accepted o.reads_part o.is_whole (shrinks_ordered old r.calm y.program r.lines r.unanswered last o) in
      subst (λ x. MayBegin (λ q. w) x old) (sym own) (subst (λ q. Begins q w old) (sym same) begins_old)

  lines_calm : Course job.Run r.verdict r.outcomes.unopened session r.lines r.unanswered old r.calm → All (λ (l : DoneLine). IsCalm l.outcome) r.lines
  lines_calm (reads lacks opens did un does) = no_lines r.lines did
  lines_calm (opens_none run accepted fault lacks did un does whole opening) = no_lines r.lines did
  lines_calm (serves {s = y} {last = last} run accepted opens own spelled o) =
      let same : y.program ≡ p = same_program y.program o.part o.part_read accepted o.reads_part o.is_whole (shrinks_ordered old r.calm y.program r.lines r.unanswered last o) in
      (v.fares y w own (subst (λ q. Begins q w old) (sym same) begins_old)).calm no_fault

  pub says_answers : SaysAnswers leg.input.items w (said new.trace)
  says_answers =
      let said_text : said new.trace ≡ r.text = ap said (r.does.moves.trace refl) ∙ r.does.says in
      record {
        read = r.read;
        rest = new.left;
        of_input = all;
        outcomes = r.outcomes;
        calm = subst (All IsCalm) (sym r.fared) (calm_outcomes r.lines (lines_calm r.course));
        reads = read_on;
        verdict = r.verdict;
        judged = r.judged;
        says = said_text ∙ sym (tells_all s _ r.text said_all (r.tells (λ q. w) (may_begin r.course)));
      }

  -- ---- what is left

  module _ (after : Files) (stops : StopsAt leg before new.trace after) where
    abbrev now : Past
    now = record { device = 0; start = file_in before; trace = take leg.stop new.trace }

    on : (m : List Step) × (now ≡ record { device = 0; start = file_in before; trace = [] ++ m })
    on = (take leg.stop new.trace, refl)

    rest : (m : List Step) × (past_in 0 new ≡ record { device = 0; start = file_in before; trace = take leg.stop new.trace ++ m })
    rest = (drop leg.stop new.trace, λ i. record { device = 0; start = r.does.moves.start refl i; trace = sym (take-append-drop leg.stop new.trace) i })

    nothing_in : (lines : List DoneLine) → lines ≡ [] → (q : Program) (text : List ℕ) (d n : ℕ) → IsAcknowledged q w lines text d n → ⊥
    nothing_in lines e q text d n a = nothing_told q w text d n (subst (λ l. IsAcknowledged q w l text d n) e a)

    -- the run's files were left as they were
    left_same : IsJointImage (past_in 0 old) (file_in after) → r.lines ≡ [] → GoesOnAcknowledged p w r.lines (said now.trace) after
    left_same images did = record {
      goes_on = record { next = w; begins = begins_same p w before after (same_files before after images) begins; more = []; log = sym (append-nil w.log) };
      acknowledged = λ d number below a. absurd (nothing_in r.lines did p _ d number a);
    }

    by_course : Course job.Run r.verdict r.outcomes.unopened session r.lines r.unanswered old r.calm → GoesOnAcknowledged p w r.lines (said now.trace) after
    by_course (reads lacks opens did un does) = left_same ((v.still lacks opens refl).each now on rest (file_in after) stops.image) did
    by_course (opens_none {p = q} {u = u} {read = read} {part_read = m} run accepted fault lacks did un does whole opening) =
        let same : q ≡ p = same_program q read m accepted does whole (shrinks_goes m r.calm [] [] opening.goes) in
        let restores : Restores q w None (file_in after) = (v.unopened q w u accepted fault (subst (λ x. Begins x w old) (sym same) begins_old)).each now on rest (file_in after) stops.image in
        let left : Left q w r.lines now (file_in after) = record { world = w; grows = stays w; under_way = None; restores = restores; holds = λ d number below a. absurd (nothing_in r.lines did q _ d number a) } in
        subst (λ x. GoesOnAcknowledged x w r.lines (said now.trace) after) same (begins_next q w r.lines now after opening.is_program left)
    by_course (serves {s = y} {last = last} run accepted opens own spelled o) =
        let same : y.program ≡ p = same_program y.program o.part o.part_read accepted o.reads_part o.is_whole (shrinks_ordered old r.calm y.program r.lines r.unanswered last o) in
        let lines = left_lines y.program w r.lines (past_in 0 old) (past_in 0 r.calm) (past_in 0 new) refl (v.session y w own (subst (λ q. Begins q w old) (sym same) begins_old)) in
        let left : Left y.program w r.lines now (file_in after) = lines.each now on rest (file_in after) stops.image in
        subst (λ x. GoesOnAcknowledged x w r.lines (said now.trace) after) same (begins_next y.program w r.lines now after o.opens.opening.is_program left)

    pub goes_on_from : GoesOnAcknowledged p w r.lines (said (take leg.stop new.trace)) after
    goes_on_from = by_course r.course

-- ---- runs one behind the other

pub has_run : (leg : Leg) (before : Files) (new : Seen) (s : Status) → Survives job.Run (before_run leg.input.items before) new s → ((kind : FaultKind) → new.faults kind ≡ 0) → Ran leg before new.trace
has_run leg before new s v calm = record {
  after = new;
  steps = refl;
  calm = calm;
  status = s;
  survives = v;
  says = λ p w gives begins. says_answers leg before new s v calm p w gives begins;
}

pub passes : (leg : Leg) (before after : Files) (new : Seen) (s : Status) → Survives job.Run (before_run leg.input.items before) new s → ((kind : FaultKind) → new.faults kind ≡ 0) → StopsAt leg before new.trace after → Passes leg before new.trace after
unfolding has_run
passes leg before after new s v calm stops = record {
  ran = has_run leg before new s v calm;
  stops = stops;
  goes_on = λ p w gives begins. goes_on_from leg before new s v calm p w gives begins after stops;
}

-- one run more
pub relays_more : {legs : List Leg} {files before after : Files} {traces : List (List Step)} {leg : Leg} {trace : List Step} → Relays legs files traces before → Passes leg before trace after → Relays (legs ++ leg ∷ []) files (traces ++ trace ∷ []) after
relays_more nothing pass = next pass nothing
relays_more (next first rest) pass = next first (relays_more rest pass)

pub keeps_log : {legs : List Leg} {files last : Files} {traces : List (List Step)} → Relays legs files traces last → KeepsLog legs files last
keeps_log nothing p w all begins = record { next = w; begins = begins; more = []; log = sym (append-nil w.log) }
keeps_log (next {leg = leg} first rest) p w all begins =
    let here = (first.goes_on p w (all 0 leg (omega arith)) begins).goes_on in
    let there = keeps_log rest p here.next (λ k d below. all (suc k) d (omega (arith, below))) here.begins in
    record { next = there.next; begins = there.begins; more = here.more ++ there.more; log = there.log ∙ ap (λ l. l ++ there.more) here.log ∙ append_assoc w.log here.more there.more }

-- ---- a run over a world in memory

module _ (leg : Leg) (before : Files) (w0 w1 : memory.World) (s : Status) (fresh : w0 ≡ memory.new_world leg.input.items before []) (v : Survives job.Run (memory.seen_of w0) (memory.seen_of w1) s) (calm : (kind : FaultKind) → memory.faults_of w1 kind ≡ 0) where
  survived : Survives job.Run (before_run leg.input.items before) (memory.seen_of w1) s
  survived = subst (λ x. Survives job.Run (memory.seen_of x) (memory.seen_of w1) s) fresh v

  pub run_past : length w1.trace < leg.stop → IsPast leg before
  run_past h = record { trace = w1.trace; ran = has_run leg before (memory.seen_of w1) s survived calm; past = h }

  start_is : ◌≡◌ {A = ℕ → ℕ → List ℕ} (file_in w1.start) (file_in before)
  start_is = survived.runs.does.moves.start refl

  pub run_stops : (after : Files) (copied : List Step) → copied ≡ w1.trace → (length w1.trace < leg.stop → ⊥)
      → ((d f : ℕ) → IsChosen leg.choice (file_in w1.start d f) (acts_of d f (take leg.stop w1.trace)) (file_in after d f))
      → IsJointImage (memory.moment_at w1 leg.stop) (file_in after) → Passes leg before copied after
  run_stops after copied same within chosen image =
      let stops : StopsAt leg before w1.trace after = record {
        within = not_less w1.trace within;
        chosen = λ d f. subst (λ x. IsChosen leg.choice (x d f) (acts_of d f (take leg.stop w1.trace)) (file_in after d f)) start_is (chosen d f);
        image = subst (λ x. IsJointImage (record { device = 0; start = x; trace = take leg.stop w1.trace }) (file_in after)) start_is image;
      } in
      subst (λ t. Passes leg before t after) (sym same) (passes leg before after (memory.seen_of w1) s survived calm stops)
    where
      not_less : (trace : List Step) → (length trace < leg.stop → ⊥) → leg.stop ≤ length trace
      not_less trace h = elim (cases_lt (length trace) leg.stop) [ inl less ↦ absurd (h less) | inr more ↦ more ]

-- behind the runs so far the next one has fewer steps than its stop
pub stops_past : (legs : List Leg) (n : ℕ) (leg : Leg) {files before : Files} {traces : List (List Step)} → n < length legs → leg ≡ slice_index_or legs n leg → Relays (take n legs) files traces before → IsPast leg before → StopsPast legs files
stops_past legs n leg {before = before} {traces = traces} below is relays past = record {
  front = take n legs;
  leg = leg;
  back = drop (n + 1) legs;
  these = sym (take-append-drop n legs) ∙ ap (λ l. take n legs ++ l) (drop_more legs n leg below ∙ ap (λ x. x ∷ drop (n + 1) legs) (sym is));
  traces = traces;
  before = before;
  relays = relays;
  is_past = past;
}

-- and one that passes is one more of them
pub relays_on : (legs : List Leg) (n : ℕ) (leg : Leg) {files before after : Files} {traces : List (List Step)} {trace : List Step} → n < length legs → leg ≡ slice_index_or legs n leg → Relays (take n legs) files traces before → Passes leg before trace after
    → Relays (take (n + 1) legs) files (traces ++ trace ∷ []) after
relays_on legs n leg {files} {before} {after} {traces} {trace} below is relays pass =
    subst (λ l. Relays l files (traces ++ trace ∷ []) after) (ap (λ x. take n legs ++ x ∷ []) is ∙ sym (take_more legs n leg below)) (relays_more relays pass)

-- what a `Some` is known to hold
pub held_in : {A : Type 0} (P : A → Type 0) (o : Option A) (x : A) → o ≡ Some x → IfSome o P → P x
held_in P None x e h = absurd (cc)
held_in P (Some y) x e h = let same : y ≡ x = cc in subst P same h
