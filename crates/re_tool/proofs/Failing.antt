-- What stands behind the step of a call that failed.
use Rattle.std.proofs.Common.{arith, ◌≡◌, ◌++◌, ◌∷◌, [], ℕ, List, sym, ◌∙◌, ap, subst, refl, append_assoc, Bool, true, false, Option, ◌⊎◌, inl, inr}
use Rattle.std.proofs.lemmas.List.{append-nil, append_cancel_left}
use Rattle.re_compact.specs.declared.fault.OpenFault.{OpenFault}
use Rattle.re_outside.specs.declared.step.Call.TheVariants as call
use Rattle.re_outside.specs.declared.step.Step.{Step}
use Rattle.re_outside.specs.declared.step.Step.TheVariants as step
use Rattle.re_outside.specs.Outside.{AreSays, Breaks, Does, Input, IsFailure, Output, Seen, failures, none, said}
use Rattle.re_outside.proofs.Does.{failure-said, said-append, says_alone}
use Rattle.re_session.specs.Acts.{Act, Acts, DoneLine}
use Rattle.re_session.specs.Serving.{Goes}
use Rattle.re_session.proofs.Acting.{does_goes, goes_nil, goes_on, line_goes}
use Rattle.re_terms.specs.declared.program.Program.{Program}
use Rattle.re_tool.specs.Acts.{Course, DoesLast, Ordered, opens_none, reads, serves}
use Rattle.re_tool.specs.Answers.{Session}
use Rattle.re_tool.specs.Endings.{InputFault, last_line}
use Rattle.re_tool.specs.Failures.{failed_take, failed_say, SaysLastLine, StopsAtFailures}
use Rattle.re_tool.specs.Session.{Runs, Halts, Closes, OnlyLastLine, Finishes, Refuses}
use Rattle.re_tool.specs.Verdict.{Verdict}
use Rattle.re_tool.specs.declared.status.Status.{Status}
use Rattle.re_tool.specs.declared.status.Status.TheVariants as status
use Rattle.re_tool.specs.declared.words.Job.{Job}
use Rattle.re_world.specs.State.{WorldState}

-- ---- lists of steps

says_of : (a b : Seen) (read text : List ℕ) (d : Does a b read text none) → AreSays d.steps
says_of a b read text d = says_alone d.steps none d.holds d.moves.counted (λ k. refl)

-- a step of a failed call isn't among steps that say something
pub record Behind (rest before : List Step) (f : Step) (behind : List Step) : Type 0 where
  pub more : List Step
  pub is : rest ≡ more ++ f ∷ behind

abbrev is_fail : Step → Bool
is_fail (step.Fail kind device file at bytes content) = true
is_fail s = false

pass_says : (says rest before behind : List Step) (f : Step) → is_fail f ≡ true → AreSays says → says ++ rest ≡ before ++ f ∷ behind → Behind rest before f behind
pass_says [] rest before behind f is a e = record { more = before; is = e }
pass_says (step.Say bytes ∷ says) rest [] behind f is a e = let same : step.Say bytes ≡ f = cc in let no : is_fail (step.Say bytes) ≡ true = subst (λ s. is_fail s ≡ true) (sym same) is in absurd (cc)
pass_says (step.Say bytes ∷ says) rest (x ∷ before) behind f is a e =
    let t : says ++ rest ≡ before ++ f ∷ behind = cc in
    let q = pass_says says rest before behind f is a t in
    record { more = q.more; is = q.is }
pass_says (step.Write device file at bytes ∷ says) rest before behind f is a e = absurd a
pass_says (step.Cut device file length ∷ says) rest before behind f is a e = absurd a
pass_says (step.Sync device file ∷ says) rest before behind f is a e = absurd a
pass_says (step.Fail kind device file at bytes content ∷ says) rest before behind f is a e = absurd a

-- of steps that say something and one more the failed call is that one, and the last
last_is : (x : Step) (before behind : List Step) (f : Step) → x ∷ [] ≡ before ++ f ∷ behind → (x ≡ f) × (behind ≡ [])
last_is x [] behind f e = let same : x ≡ f = cc in let none : behind ≡ [] = cc in (same, none)
last_is x (y ∷ []) behind f e = let no : [] ≡ f ∷ behind = cc in absurd (cc)
last_is x (y ∷ z ∷ before) behind f e = let no : [] ≡ z ∷ (before ++ f ∷ behind) = cc in absurd (cc)

nowhere : (before behind : List Step) (f : Step) → [] ≡ before ++ f ∷ behind → ⊥
nowhere [] behind f e = cc
nowhere (x ∷ before) behind f e = cc

take_isnt_say : failed_take ≡ failed_say → ⊥
take_isnt_say e = let k : call.Take ≡ call.Say = cc in cc

-- what a failed `say` behind others leaves
pub say_last : (says fail before behind : List Step) → AreSays says → IsFailure call.Say fail → says ++ fail ≡ before ++ failed_say ∷ behind → behind ≡ []
say_last says fail before behind a (inl none) e =
    let q = pass_says says fail before behind failed_say refl a e in
    absurd (nowhere q.more behind failed_say (sym none ∙ q.is))
say_last says fail before behind a (inr one) e =
    let q = pass_says says fail before behind failed_say refl a e in
    (last_is failed_say q.more behind failed_say (sym one ∙ q.is)).1

pub no_take : (says fail before behind : List Step) → AreSays says → IsFailure call.Say fail → says ++ fail ≡ before ++ failed_take ∷ behind → ⊥
no_take says fail before behind a (inl none) e =
    let q = pass_says says fail before behind failed_take refl a e in
    nowhere q.more behind failed_take (sym none ∙ q.is)
no_take says fail before behind a (inr one) e =
    let q = pass_says says fail before behind failed_take refl a e in
    take_isnt_say (sym (last_is failed_say q.more behind failed_take (sym one ∙ q.is)).0)

-- no call that takes or says failed among these steps
pub record AreCalm (steps : List Step) : Type 0 where
  pub input : failures steps Input ≡ 0
  pub output : failures steps Output ≡ 0

-- a call that takes or says failed
abbrev IsFault : Step → Type 0
IsFault f = (f ≡ failed_take) ⊎ (f ≡ failed_say)

calm_behind : (x : Step) (steps : List Step) → AreCalm (x ∷ steps) → AreCalm steps
calm_behind (step.Say bytes) steps c = record { input = c.input; output = c.output }
calm_behind (step.Write device file at bytes) steps c = record { input = c.input; output = c.output }
calm_behind (step.Cut device file length) steps c = record { input = c.input; output = c.output }
calm_behind (step.Sync device file) steps c = record { input = c.input; output = c.output }
calm_behind (step.Fail kind device file at bytes content) steps c = record { input = omega (arith, c.input); output = omega (arith, c.output) }

no_fault : (x : Step) (steps : List Step) → IsFault x → AreCalm (x ∷ steps) → ⊥
no_fault x steps (inl e) c = let n : failures (failed_take ∷ steps) Input ≡ 0 = subst (λ y. failures (y ∷ steps) Input ≡ 0) e c.input in absurd (omega (arith, n))
no_fault x steps (inr e) c = let n : failures (failed_say ∷ steps) Output ≡ 0 = subst (λ y. failures (y ∷ steps) Output ≡ 0) e c.output in absurd (omega (arith, n))

pass_calm : (steps rest before behind : List Step) (f : Step) → IsFault f → AreCalm steps → steps ++ rest ≡ before ++ f ∷ behind → Behind rest before f behind
pass_calm [] rest before behind f is c e = record { more = before; is = e }
pass_calm (x ∷ steps) rest [] behind f is c e = let same : f ≡ x = cc in absurd (no_fault x steps (subst IsFault same is) c)
pass_calm (x ∷ steps) rest (y ∷ before) behind f is c e =
    let t : steps ++ rest ≡ before ++ f ∷ behind = cc in
    let q = pass_calm steps rest before behind f is (calm_behind x steps c) t in
    record { more = q.more; is = q.is }

-- ---- a run, in parts

-- no call that takes or says failed between two moments
pub record Calm (old new : Seen) : Type 0 where
  pub read : List ℕ
  pub text : List ℕ
  pub goes : Goes old new read text

calm_on : (a b c : Seen) → Calm a b → (read text : List ℕ) → Goes b c read text → Calm a c
calm_on a b c p read text g = record { read = p.read ++ read; text = p.text ++ text; goes = goes_on a b c p.read read p.text text p.goes g }

calm_nil : (a b : Seen) → b ≡ a → Calm a b
calm_nil a b e = subst (Calm a) (sym e) (record { read = []; text = []; goes = goes_nil a })

calm_act : (a b c : Seen) (p : Program) (l : DoneLine) (v v' : WorldState) → Calm a b → Act p l v v' b c → Calm a c
calm_act a b c p l v v' calm act = calm_on a act.done c (calm_on a act.begun act.done (calm_on a b act.begun calm _ _ (does_goes b act.begun _ [] act.reads)) _ _ (line_goes p l.line v v' l.answer l.outcome act.begun act.done act.own)) _ _ (does_goes act.done c [] _ act.says)

calm_acts : (p : Program) (lines : List DoneLine) (v v' : WorldState) (a b c : Seen) → Calm a b → Acts p lines v v' b c → Calm a c
calm_acts p [] v v' a b c calm e = subst (Calm a) (sym e.1) calm
calm_acts p (l ∷ lines) v v' a b c calm e = calm_acts p lines e.devices v' a e.mid c (calm_act a b e.mid p l v e.devices calm e.here) e.there

calm_last : (p : Program) (lines : List DoneLine) (v v' : WorldState) (a b c : Seen) → Calm a b → DoesLast p lines v v' b c → Calm a c
calm_last p [] v v' a b c calm d = subst (Calm a) (sym d.1) calm
calm_last p (l ∷ []) v v' a b c calm d = calm_on a b c calm _ _ (line_goes p l.line v v' l.answer l.outcome b c d)
calm_last p (l ∷ m ∷ lines) v v' a b c calm d = absurd d

calm_ordered : (a b : Seen) (p : Program) (lines unanswered : List DoneLine) (last : WorldState) → Ordered a b p lines unanswered last → Calm a b
calm_ordered a b p lines unanswered last o =
    let part = calm_on a a o.part_read (calm_nil a a refl) _ _ (does_goes a o.part_read _ [] o.reads_part) in
    let opened = calm_on a o.part_read o.opened part _ _ o.opens.opening.goes in
    let acted = calm_acts p o.answered o.devices o.before a o.opened o.mid opened o.acts in
    calm_last p unanswered o.before last a o.begun b (calm_on a o.mid o.begun acted _ _ (does_goes o.mid o.begun _ [] o.reads)) o.own

calm_course : (a b : Seen) (j : Job) (v : Verdict) (u : Option (ℕ × OpenFault)) (session : Option Session) (lines unanswered : List DoneLine) → Course j v u session lines unanswered a b → Calm a b
calm_course a b j v u session lines unanswered (reads lacks opens did un does) = calm_on a a b (calm_nil a a refl) _ _ (does_goes a b _ [] does)
calm_course a b j v u session lines unanswered (opens_none {p} {u = f} {read} {part_read = m} run accepted is lacks did un does whole opening) = calm_on a m b (calm_on a a m (calm_nil a a refl) _ _ (does_goes a m read [] does)) _ _ opening.goes
calm_course a b j v u session lines unanswered (serves {s} {last} run accepted opens is spelled ordered) = calm_ordered a b s.program lines unanswered last ordered

calm_steps : (old new : Seen) (c : Calm old new) → AreCalm c.goes.does.steps
calm_steps old new c = record { input = omega (arith, c.goes.does.moves.counted Input, c.goes.input); output = omega (arith, c.goes.does.moves.counted Output, c.goes.output) }

-- the steps of the call that reads and fails, where there is one
abbrev HaltSteps : Bool → List Step → Type 0
HaltSteps false steps = steps ≡ []
HaltSteps true steps = IsFailure call.Take steps

-- the steps behind what was said last: none, or those of a failed `say`
abbrev CloseSteps : List ℕ → List Step → List Step → Status → Type 0
CloseSteps last says fail s = ((fail ≡ []) × (said says ≡ last)) ⊎ ((s ≡ status.Output) × IsFailure call.Say fail × ((rest : List ℕ) × (last ≡ said says ++ rest)))

-- The steps of a run: those before a failed `take`, its own, those behind it, and those of a failed `say`.
pub record Parts (old new : Seen) (s : Status) : Type 0 where
  pub before : List Step
  pub calm : AreCalm before
  pub input_failed : Bool
  pub take : List Step
  pub halts : HaltSteps input_failed take
  pub after : List Step
  pub says : AreSays after
  pub fail : List Step
  pub last : List ℕ
  pub closes : CloseSteps last after fail s
  pub only : OnlyLastLine input_failed last s
  pub trace : old.told ≡ true → new.trace ≡ old.trace ++ (before ++ (take ++ (after ++ fail)))

module _ (old new : Seen) (s : Status) (c : Parts old new s) where
  -- behind a failed `say` no step stands
  last_say : (before behind : List Step) → c.after ++ c.fail ≡ before ++ failed_say ∷ behind → CloseSteps c.last c.after c.fail s → (behind ≡ []) × (s ≡ status.Output)
  last_say before behind e (inl none) =
      let q = pass_says c.after c.fail before behind failed_say refl c.says e in
      absurd (nowhere q.more behind failed_say (sym none.0 ∙ q.is))
  last_say before behind e (inr one) = (say_last c.after c.fail before behind c.says one.1 e, one.0)

  no_more_takes : (before behind : List Step) → c.after ++ c.fail ≡ before ++ failed_take ∷ behind → CloseSteps c.last c.after c.fail s → ⊥
  no_more_takes before behind e (inl none) =
      let q = pass_says c.after c.fail before behind failed_take refl c.says e in
      nowhere q.more behind failed_take (sym none.0 ∙ q.is)
  no_more_takes before behind e (inr one) = no_take c.after c.fail before behind c.says one.1 e

  -- what stands behind a failed `take`, at its own steps
  say_behind : (take before behind : List Step) → (take ≡ []) ⊎ (take ≡ failed_take ∷ []) → take ++ (c.after ++ c.fail) ≡ before ++ failed_say ∷ behind → (behind ≡ []) × (s ≡ status.Output)
  say_behind take before behind (inl none) e = last_say before behind (sym (ap (λ l. l ++ (c.after ++ c.fail)) none) ∙ e) c.closes
  say_behind take [] behind (inr one) e =
      let k : failed_take ∷ (c.after ++ c.fail) ≡ failed_say ∷ behind = sym (ap (λ l. l ++ (c.after ++ c.fail)) one) ∙ e in
      let same : failed_take ≡ failed_say = cc in
      absurd (take_isnt_say same)
  say_behind take (x ∷ before) behind (inr one) e =
      let k : failed_take ∷ (c.after ++ c.fail) ≡ x ∷ (before ++ failed_say ∷ behind) = sym (ap (λ l. l ++ (c.after ++ c.fail)) one) ∙ e in
      let rest : c.after ++ c.fail ≡ before ++ failed_say ∷ behind = cc in
      last_say before behind rest c.closes

  take_behind : (take before behind : List Step) → (take ≡ []) ⊎ (take ≡ failed_take ∷ []) → take ++ (c.after ++ c.fail) ≡ before ++ failed_take ∷ behind → (take ≡ failed_take ∷ []) × (behind ≡ c.after ++ c.fail)
  take_behind take before behind (inl none) e = absurd (no_more_takes before behind (sym (ap (λ l. l ++ (c.after ++ c.fail)) none) ∙ e) c.closes)
  take_behind take [] behind (inr one) e =
      let k : failed_take ∷ (c.after ++ c.fail) ≡ failed_take ∷ behind = sym (ap (λ l. l ++ (c.after ++ c.fail)) one) ∙ e in
      let rest : behind ≡ c.after ++ c.fail = cc in
      (one, rest)
  take_behind take (x ∷ before) behind (inr one) e =
      let k : failed_take ∷ (c.after ++ c.fail) ≡ x ∷ (before ++ failed_take ∷ behind) = sym (ap (λ l. l ++ (c.after ++ c.fail)) one) ∙ e in
      let rest : c.after ++ c.fail ≡ before ++ failed_take ∷ behind = cc in
      absurd (no_more_takes before behind rest c.closes)

  halt_steps : (input : Bool) → HaltSteps input c.take → (c.take ≡ []) ⊎ (c.take ≡ failed_take ∷ [])
  halt_steps false h = inl h
  halt_steps true h = h

  -- what is said last behind a failed `take`
  said_last : (input : Bool) → HaltSteps input c.take → OnlyLastLine input c.last s → c.take ≡ failed_take ∷ [] → CloseSteps c.last c.after c.fail s → SaysLastLine (c.after ++ c.fail) s
  said_last false h o e closes = let no : [] ≡ failed_take ∷ [] = sym h ∙ e in absurd (cc)
  said_last true h o e (inl none) = by o.1
    where
      says : said (c.after ++ c.fail) ≡ last_line InputFault
      says = ap (λ l. said (c.after ++ l)) none.0 ∙ ap said (append-nil c.after) ∙ none.1 ∙ o.0

      by : (s ≡ status.Input) ⊎ (s ≡ status.Output) → SaysLastLine (c.after ++ c.fail) s
      by (inl is) = inl (is, says)
      by (inr is) = inr (is, ([], sym says ∙ sym (append-nil _)))
  said_last true h o e (inr one) = inr (
    one.0,
    (one.2.0, sym o.0 ∙ one.2.1 ∙ ap (λ l. l ++ one.2.0) (sym (said-append c.after c.fail ∙ ap (λ l. said c.after ++ l) (failure-said call.Say c.fail one.1) ∙ append-nil (said c.after)))),
  )

  rest_of : (before behind : List Step) (f : Step) → IsFault f → old.told ≡ true → new.trace ≡ old.trace ++ (before ++ f ∷ behind) → Behind (c.take ++ (c.after ++ c.fail)) before f behind
  rest_of before behind f is t e =
      pass_calm c.before (c.take ++ (c.after ++ c.fail)) before behind f is c.calm (append_cancel_left old.trace _ _ (sym (c.trace t) ∙ e))

  pub course_stops : StopsAtFailures old new s
  course_stops = record {
    take = λ t before behind e.
        let q = rest_of before behind failed_take (inl refl) t e in
        let r = take_behind c.take q.more behind (halt_steps c.input_failed c.halts) q.is in
        subst (λ l. SaysLastLine l s) (sym r.1) (said_last c.input_failed c.halts c.only r.0 c.closes);
    say = λ t before behind e.
        let q = rest_of before behind failed_say (inr refl) t e in
        say_behind c.take q.more behind (halt_steps c.input_failed c.halts) q.is;
  }

-- ---- from a run to its parts

pub record HaltParts (input : Bool) (calm halted : Seen) : Type 0 where
  pub steps : List Step
  pub is : HaltSteps input steps
  pub told : halted.told ≡ calm.told
  pub trace : calm.told ≡ true → halted.trace ≡ calm.trace ++ steps

halt_parts : (input : Bool) (calm halted : Seen) → Halts input calm halted → HaltParts input calm halted
halt_parts false calm halted h = record { steps = []; is = refl; told = ap (λ (s : Seen). s.told) h; trace = λ t. ap (λ (s : Seen). s.trace) h ∙ sym (append-nil calm.trace) }
halt_parts true calm halted f = record { steps = f.steps; is = f.failure; told = f.moves.told; trace = f.moves.trace }

pub record CloseParts (halted new : Seen) (last : List ℕ) (s : Status) : Type 0 where
  pub after : List Step
  pub says : AreSays after
  pub fail : List Step
  pub closes : CloseSteps last after fail s
  pub trace : halted.told ≡ true → new.trace ≡ halted.trace ++ (after ++ fail)

close_well : (halted new : Seen) (last : List ℕ) (s : Status) → Does halted new [] last none → CloseParts halted new last s
close_well halted new last s d = record {
  after = d.steps;
  says = says_of halted new [] last d;
  fail = [];
  closes = inl (refl, d.says);
  trace = λ t. d.moves.trace t ∙ ap (λ l. halted.trace ++ l) (sym (append-nil d.steps));
}

close_broken : (halted new : Seen) (last : List ℕ) → Breaks halted new last none → CloseParts halted new last status.Output
close_broken halted new last d = record {
  after = d.does.steps;
  says = says_of halted d.before [] d.front d.does;
  fail = d.failed.steps;
  closes = inr (refl, d.failed.failure, (d.rest, d.whole ∙ ap (λ l. l ++ d.rest) (sym d.does.says)));
  trace = λ t. d.failed.moves.trace (d.does.moves.told ∙ t) ∙ ap (λ l. l ++ d.failed.steps) (d.does.moves.trace t) ∙ append_assoc halted.trace d.does.steps d.failed.steps;
}

close_parts : (halted new : Seen) (last : List ℕ) (s : Status) → Closes halted new last s → CloseParts halted new last s
close_parts halted new last status.Output d = close_broken halted new last d
close_parts halted new last status.Done d = close_well halted new last _ d
close_parts halted new last status.Words d = close_well halted new last _ d
close_parts halted new last status.Program d = close_well halted new last _ d
close_parts halted new last status.Store d = close_well halted new last _ d
close_parts halted new last status.OtherProgram d = close_well halted new last _ d
close_parts halted new last status.Disk d = close_well halted new last _ d
close_parts halted new last status.Input d = close_well halted new last _ d
close_parts halted new last status.Memory d = close_well halted new last _ d
close_parts halted new last status.TooLong d = close_well halted new last _ d
close_parts halted new last status.Line d = close_well halted new last _ d

parts : (old calm halted new : Seen) (input : Bool) (last : List ℕ) (s : Status) → Calm old calm → HaltParts input calm halted → CloseParts halted new last s → OnlyLastLine input last s → Parts old new s
parts old calm halted new input last s c h p only = record {
  before = c.goes.does.steps;
  calm = calm_steps old calm c;
  input_failed = input;
  take = h.steps;
  halts = h.is;
  after = p.after;
  says = p.says;
  fail = p.fail;
  last = last;
  closes = p.closes;
  only = only;
  trace = λ t.
      let k = c.goes.does.moves.told ∙ t in
      p.trace (h.told ∙ k) ∙ ap (λ l. l ++ (p.after ++ p.fail)) (h.trace k ∙ ap (λ l. l ++ h.steps) (c.goes.does.moves.trace t)) ∙ simp append_assoc;
}

-- a run does nothing behind a failed `say`, and says its last line alone behind a failed `take`
pub run_stops : (j : Job) (a b : Seen) (s : Status) → Runs j a b s → StopsAtFailures a b s
run_stops j a b s r =
    course_stops a b s (parts a r.calm r.halted b r.outcomes.input_failed r.last s (calm_course a r.calm j _ _ _ r.lines r.unanswered r.course) (halt_parts r.outcomes.input_failed r.calm r.halted r.halts) (close_parts r.halted b r.last s r.closes) r.only)

finish_parts : (a b : Seen) (line : List ℕ) (wanted s : Status) → Finishes a b line wanted s → CloseParts a b line s
finish_parts a b line wanted status.Output d = close_broken a b line d
finish_parts a b line wanted status.Done d = close_well a b line _ d.1
finish_parts a b line wanted status.Words d = close_well a b line _ d.1
finish_parts a b line wanted status.Program d = close_well a b line _ d.1
finish_parts a b line wanted status.Store d = close_well a b line _ d.1
finish_parts a b line wanted status.OtherProgram d = close_well a b line _ d.1
finish_parts a b line wanted status.Disk d = close_well a b line _ d.1
finish_parts a b line wanted status.Input d = close_well a b line _ d.1
finish_parts a b line wanted status.Memory d = close_well a b line _ d.1
finish_parts a b line wanted status.TooLong d = close_well a b line _ d.1
finish_parts a b line wanted status.Line d = close_well a b line _ d.1

finish_stops : (a b : Seen) (line : List ℕ) (wanted s : Status) → Finishes a b line wanted s → StopsAtFailures a b s
finish_stops a b line wanted s d = course_stops a b s (parts a a a b false line s (calm_nil a a refl) (halt_parts false a a refl) (finish_parts a b line wanted s d) tt)

-- refused words do the same
pub refused_stops : (a b : Seen) (s : Status) → Refuses a b s → StopsAtFailures a b s
refused_stops a b s (inl d) = finish_stops a b _ status.Words s d
refused_stops a b s (inr d) = finish_stops a b _ status.Memory s d
