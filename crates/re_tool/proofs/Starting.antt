-- How a run begins, and how it ends before its session.
use Rattle.std.proofs.Common.{arith, ◌≡◌, ◌≤◌, ◌<◌, ◌++◌, ◌∷◌, [], ℕ, List, length, take, sym, ◌∙◌, ap, subst, refl, Bool, true, false, Option, Some, None, ◌⊎◌, inl, inr, IsSome}
use Rattle.std.specs.Prelude.{map}
use Rattle.std.specs.List.{flat_map}
use Rattle.std.proofs.lemmas.List.{length-append, append-nil}
use Rattle.re_compact.specs.declared.fault.OpenFault.{OpenFault}
use Rattle.re_compact.specs.declared.fault.OpenFault.TheVariants as unopened
use Rattle.re_outside.specs.Outside.{Seen, Does, Breaks, IsAtEnd, none}
use Rattle.re_outside.proofs.Does.{breaks_does, does-nil}
use Rattle.re_print.specs.Canonical.{program_text}
use Rattle.re_session.specs.Serving.{Goes}
use Rattle.re_session.proofs.Acting.{does_goes, goes_on}
use Rattle.re_terms.specs.DeviceWorlds.{Outcome, World}
use Rattle.re_terms.specs.declared.program.Program.{Program}
use Rattle.re_tool.specs.Acts.{IsOpening, OpensAs, opens_none, reads}
use Rattle.re_tool.specs.Answers.{Outcomes, Session, answers_text, checked_text, done, ending, ending_in, first_lines, reading_end, session_in, session_of, session_text, unopened_end}
use Rattle.re_tool.specs.Clipped.{Clipped}
use Rattle.re_tool.specs.Endings.{Done, RefusedProgram, InputFault, NoMemory, InputTooLong, status_at, last_line}
use Rattle.re_tool.specs.Lines.{split, ended, without_return}
use Rattle.re_tool.specs.Part.{HasSeparator, Part, divided, part_of, part_in}
use Rattle.re_tool.specs.PartReading.{Divides, ReadsAll, PartFails, PartTooLong, PartStops, PartIs}
use Rattle.re_tool.specs.Reads.{limit}
use Rattle.re_tool.specs.Serving.{Starts}
use Rattle.re_tool.specs.Session.{FilesOpen, Finishes, ReadFar, Runs, Unanswered, lines_of}
use Rattle.re_tool.specs.Verdict.{Verdict, Unknown, Rejected, Accepted, Decides, IsJudged}
use Rattle.re_tool.specs.declared.faults.Refusal.{Refusal}
use Rattle.re_tool.specs.declared.reader.Reader.{Reader}
use Rattle.re_tool.specs.declared.status.Status.{Status}
use Rattle.re_tool.specs.declared.status.Status.TheVariants as status
use Rattle.re_tool.specs.declared.words.Job.{Job}
use Rattle.re_tool.specs.declared.words.Job.TheVariants as job
use Rattle.re_tool.proofs.Endings.{course_all, end_on, ends_done, ends_input, ends_long, files_all, near_finish, runs_on, separated_on, text_all}
use Rattle.re_tool.proofs.Ends.{Ran, ran_breaks, ran_goes, ran_input, ran_says}
use Rattle.re_tool.proofs.Orders.{Reached}
use Rattle.re_tool.proofs.Programs.{verdict-kept}
use Rattle.re_tool.proofs.Sessions.{Near, judged_at, session_at, with_lines}
use Rattle.re_tool.proofs.Splits.{split_lines, part_short}
use Rattle.re_world.specs.State.{WorldState}

-- ---- runs without a session

none_open : (start : Program → World) (session : Option Session) (os : List Outcome) (s : Seen) → session ≡ None → FilesOpen start session os s
none_open start session os s e = subst (λ x. FilesOpen start x os s) (sym e) tt

none_said : (start : Program → World) (session : Option Session) (os : List Outcome) → session ≡ None → session_text start session os ≡ []
none_said start session os e = ap (λ x. session_text start x os) e

none_first : (n : ℕ) (session : Option Session) → session ≡ None → first_lines n session ≡ None
none_first n session e = ap (first_lines n) e

no_lines_of : (s : Option Session) (n : ℕ) → s ≡ None → length (lines_of s) ≤ n
no_lines_of s n e = omega (arith, ap (λ x. length (lines_of x)) e)

-- what isn't accepted has no session
unknown_session : (j : Job) (read : List ℕ) (failed : Bool) → session_of j Unknown None read failed ≡ None
unknown_session job.Run read failed = refl
unknown_session job.Check read failed = refl

rejected_session : (j : Job) (why : Refusal) (read : List ℕ) (failed : Bool) → session_of j (Rejected why) None read failed ≡ None
rejected_session job.Run why read failed = refl
rejected_session job.Check why read failed = refl

unopened_session : (p : Program) (u : ℕ × OpenFault) (part : Option Part) → session_in (Accepted p) (Some u) part ≡ None
unopened_session p u None = refl
unopened_session p u (Some part) = refl

unknown : (part : Option Part) → IsJudged Unknown part (Some (0, true))
unknown None = refl
unknown (Some part) = inr (refl, refl)

none_judged : (part : Option Part) (stopped : Option (ℕ × Bool)) → part ≡ None → IsJudged Unknown part stopped
none_judged part stopped e = subst (λ x. IsJudged Unknown x stopped) (sym e) refl

ran_read : (a b : Seen) (read : List ℕ) → Does a b read [] none → Ran a b read [] false false
ran_read a b read d = ran_goes a b read [] (does_goes a b read [] d)

-- memory ran out before the first line
pub near_stops : (j : Job) (a b : Seen) (read : List ℕ) → length read ≤ limit → Does a b read [] none → Near j a b NoMemory
near_stops j a b read few d =
    let is : first_lines 0 (session_of j Unknown None read false) ≡ None = none_first 0 _ (unknown_session j read false) in
    record {
      read = read;
      few = omega arith;
      outcomes = record { commands = []; unopened = None; input_failed = false; stopped = Some (0, true) };
      verdict = Unknown;
      judged = unknown (part_of read false);
      text = [];
      ran = ran_read a b read d;
      lines = [];
      fared = refl;
      unanswered = [];
      unsaid = omega arith;
      calm = b;
      course = reads is refl refl refl d;
      halts = refl;
      at_input = λ h. absurd (cc);
      ending_is = refl;
      answer = λ start h. none_said start _ [] is;
      files = λ start h. none_open start _ [] b is;
      complete = inl (no_lines_of _ _ is);
      far = inl (no_lines_of _ _ is);
    }

pub near_part_stops : (j : Job) (a b : Seen) → PartStops a b → Near j a b NoMemory
near_part_stops j a b s = near_stops j a b s.read s.few s.does

pub near_part_is : (j : Job) (a b : Seen) (r : Reader) (text : Clipped) (d : Bool) → PartIs r text d a b → Near j a b NoMemory
near_part_is j a b r text true s = near_stops j a b s.read (omega (arith, s.taken, s.few)) s.does
near_part_is j a b r text false s = near_stops j a b s.read s.few s.does

-- what is said where no job goes on
unknown_text : (j : Job) (read : List ℕ) (start : Program → World) (failed : Bool) → answers_text j Unknown start read record { commands = []; unopened = None; input_failed = failed; stopped = None } ≡ []
unknown_text job.Run read start failed = refl
unknown_text job.Check read start failed = refl

rejected_text : (j : Job) (why : Refusal) (read : List ℕ) (start : Program → World) → answers_text j (Rejected why) start read record { commands = []; unopened = None; input_failed = false; stopped = None } ≡ []
rejected_text job.Run why read start = refl
rejected_text job.Check why read start = refl

-- the input failed before the program part ended
pub near_part_failed : (j : Job) (a b : Seen) → PartFails a b → Near j a b InputFault
near_part_failed j a b f =
    let is = unknown_session j f.read true in
    record {
      read = f.read;
      few = omega (arith, f.few);
      outcomes = record { commands = []; unopened = None; input_failed = true; stopped = None };
      verdict = Unknown;
      judged = none_judged _ _ f.is_none;
      text = [];
      ran = ran_input a f.mid b f.read [] (ran_read a f.mid f.read f.does) f.fails;
      lines = [];
      fared = refl;
      unanswered = [];
      unsaid = refl;
      calm = f.mid;
      course = reads is refl refl refl f.does;
      halts = f.fails;
      at_input = λ h. refl;
      ending_is = ap (λ x. ending_in j Unknown None x (reading_end f.read true)) f.is_none ∙ ends_input f.read f.few;
      answer = λ start h. unknown_text j f.read start true;
      files = λ start h. none_open start _ [] b is;
      complete = inl (no_lines_of _ _ is);
      far = tt;
    }

-- too much input came before the program part ended
pub near_part_too_long : (j : Job) (a b : Seen) → PartTooLong a b → Near j a b InputTooLong
near_part_too_long j a b f =
    let over : limit < length f.read = omega (arith, f.long) in
    let is = unknown_session j f.read false in
    record {
      read = f.read;
      few = omega (arith, f.long);
      outcomes = record { commands = []; unopened = None; input_failed = false; stopped = None };
      verdict = Unknown;
      judged = none_judged _ _ f.is_none;
      text = [];
      ran = ran_read a b f.read f.does;
      lines = [];
      fared = refl;
      unanswered = [];
      unsaid = refl;
      calm = b;
      course = reads is refl refl refl f.does;
      halts = refl;
      at_input = λ h. absurd (cc);
      ending_is = ap (λ x. ending_in j Unknown None x (reading_end f.read false)) f.is_none ∙ ends_long f.read false over;
      answer = λ start h. unknown_text j f.read start false;
      files = λ start h. none_open start _ [] b is;
      complete = inl (no_lines_of _ _ is);
      far = tt;
    }

-- ---- program parts that were read whole

-- a program part was read whole, and has this verdict
pub record IsWhole (a b : Seen) (v : Verdict) : Type 0 where
  pub read : List ℕ
  pub few : length read ≤ limit
  pub part : Part
  pub is_part : part_of read false ≡ Some part
  pub verdict : Decides part.text v
  pub does : Does a b read [] none
  pub far : HasSeparator read ⊎ IsAtEnd b

kept_verdict : (v : Verdict) (text : Clipped) (part : List ℕ) → text ≡ record { items = take 65537 part; most = 65537 } → Decides text.items v → Decides part v
kept_verdict v text part e h = verdict-kept part v (subst (λ (t : Clipped). Decides t.items v) e h)

module _ (a b : Seen) (r : Reader) (text : Clipped) (d : Divides r text a b) where
  divided_short : length d.read ≤ limit
  divided_short = omega (arith, d.taken, d.few)

  divided_split : split d.read ≡ (d.head ++ (split r.chunk).0, (split r.chunk).1)
  divided_split = ap split d.whole ∙ split_lines d.head r.chunk d.plain

  is_divided_part : part_of d.read false ≡ Some (record { text = flat_map ended d.front; lines = map without_return (split r.chunk).0 ++ (split r.chunk).1 ∷ [] })
  is_divided_part =
      let e : part_in (d.head ++ (split r.chunk).0, (split r.chunk).1) false ≡ Some (record { text = flat_map ended d.front; lines = map without_return (split r.chunk).0 ++ (split r.chunk).1 ∷ [] }) = rw (d.divides (split r.chunk).0) refl in
      part_short d.read false divided_short ∙ ap (λ q. part_in q false) divided_split ∙ e

  has_separator : HasSeparator d.read
  has_separator =
      let e : divided (split d.read).0 ≡ Some (d.front, (split r.chunk).0) = ap (λ (q : List (List ℕ) × List ℕ). divided q.0) divided_split ∙ d.divides (split r.chunk).0 in
      subst IsSome (sym e) refl

  divided_whole : (v : Verdict) → Decides text.items v → IsWhole a b v
  divided_whole v h = record {
    read = d.read;
    few = divided_short;
    part = _;
    is_part = is_divided_part;
    verdict = kept_verdict v text (flat_map ended d.front) d.keeps h;
    does = d.does;
    far = inl has_separator;
  }

  -- behind it the devices are opened
  pub divided_starts : (c : Seen) (p : Program) (devices : WorldState) → Decides text.items (Accepted p) → OpensAs p devices b c → Starts a c p r devices
  divided_starts c p devices is opens = record {
    read = d.read;
    front = d.front;
    head = d.head;
    plain = d.plain;
    divides = d.divides;
    program = kept_verdict (Accepted p) text (flat_map ended d.front) d.keeps is;
    whole = d.whole;
    taken = d.taken;
    few = d.few;
    part_read = b;
    does = d.does;
    is_whole = (divided_short, inl has_separator);
    opens = opens;
  }

all_whole : (a b : Seen) (r : Reader) (text : Clipped) (d : ReadsAll r text a b) (v : Verdict) → Decides text.items v → IsWhole a b v
all_whole a b r text d v h = record {
  read = d.read;
  few = d.few;
  part = _;
  is_part = d.is_part;
  verdict = kept_verdict v text d.part d.keeps h;
  does = d.does;
  far = inr d.end;
}

pub part_whole : (a b : Seen) (r : Reader) (text : Clipped) (d : Bool) (v : Verdict) → PartIs r text d a b → Decides text.items v → IsWhole a b v
part_whole a b r text true v s h = divided_whole a b r text s v h
part_whole a b r text false v s h = all_whole a b r text s v h

-- a program part that is refused ends the run
pub near_refused : (j : Job) (a b : Seen) (why : Refusal) → IsWhole a b (Rejected why) → Near j a b (RefusedProgram why)
near_refused j a b why w =
    let is = rejected_session j why w.read false in
    record {
      read = w.read;
      few = omega (arith, w.few);
      outcomes = record { commands = []; unopened = None; input_failed = false; stopped = None };
      verdict = Rejected why;
      judged = subst (λ x. IsJudged (Rejected why) x None) (sym w.is_part) (inl w.verdict);
      text = [];
      ran = ran_read a b w.read w.does;
      lines = [];
      fared = refl;
      unanswered = [];
      unsaid = refl;
      calm = b;
      course = reads is refl refl refl w.does;
      halts = refl;
      at_input = λ h. absurd (cc);
      ending_is = ap (λ x. ending_in j (Rejected why) None x (reading_end w.read false)) w.is_part;
      answer = λ start h. rejected_text j why w.read start;
      files = λ start h. none_open start _ [] b is;
      complete = inl (no_lines_of _ _ is);
      far = (w.few, w.far);
    }

-- ---- devices that don't open

accepted_part : (p : Program) (a b : Seen) (w : IsWhole a b (Accepted p)) (stopped : Option (ℕ × Bool)) → IsJudged (Accepted p) (part_of w.read false) stopped
accepted_part p a b w stopped = subst (λ x. IsJudged (Accepted p) x stopped) (sym w.is_part) (inl w.verdict)

-- the end, or the separator, was read before
far_behind : (read : List ℕ) (b c : Seen) → Goes b c [] [] → HasSeparator read ⊎ IsAtEnd b → HasSeparator read ⊎ IsAtEnd c
far_behind read b c g (inl h) = inl h
far_behind read b c g (inr h) = inr (end_on b c [] g h)

opening_goes : (a b c : Seen) (read : List ℕ) → Does a b read [] none → Goes b c [] [] → Goes a c read []
opening_goes a b c read d g = subst (λ x. Goes a c x []) (append-nil read) (goes_on a b c read [] [] [] (does_goes a b read [] d) g)

-- how far the input was read where a device doesn't open
unopened_far : (p : Program) (u : ℕ × OpenFault) (read : List ℕ) (o : Outcomes) (c : Seen) → length (lines_of (done job.Run (Accepted p) read o)) ≤ 0 → length read ≤ limit → HasSeparator read ⊎ IsAtEnd c → ReadFar job.Run (status_at (unopened_end p u)) (Accepted p) read o c
unopened_far p (d, unopened.Memory) read o c none few far = inl (omega arith)
unopened_far p (d, unopened.Disk) read o c none few far = (few, far)
unopened_far p (d, unopened.BadStore file at) read o c none few far = (few, far)
unopened_far p (d, unopened.OtherProgram) read o c none few far = (few, far)

unopened_unsaid : (p : Program) (u : ℕ × OpenFault) → Unanswered (status_at (unopened_end p u)) []
unopened_unsaid p (d, unopened.Memory) = omega arith
unopened_unsaid p (d, unopened.Disk) = refl
unopened_unsaid p (d, unopened.BadStore file at) = refl
unopened_unsaid p (d, unopened.OtherProgram) = refl

module _ (a b c : Seen) (p : Program) (u : ℕ × OpenFault) (w : IsWhole a b (Accepted p)) (o : IsOpening p (Some u) b c) where
  pub near_unopened : Near job.Run a c (unopened_end p u)
  near_unopened =
      let is : session_of job.Run (Accepted p) (Some u) w.read false ≡ None = unopened_session p u (part_of w.read false) in
      record {
        read = w.read;
        few = omega (arith, w.few);
        outcomes = record { commands = []; unopened = Some u; input_failed = false; stopped = None };
        verdict = Accepted p;
        judged = accepted_part p a b w None;
        text = [];
        ran = ran_goes a c w.read [] (opening_goes a b c w.read w.does o.goes);
        lines = [];
        fared = refl;
        unanswered = [];
        unsaid = unopened_unsaid p u;
        calm = c;
        course = opens_none refl refl refl is refl refl w.does (w.few, w.far) o;
        halts = refl;
        at_input = λ h. absurd (cc);
        ending_is = ap (λ x. ending_in job.Run (Accepted p) (Some u) x (reading_end w.read false)) w.is_part;
        answer = λ start h. none_said start _ [] is;
        files = λ start h. none_open start _ [] c is;
        complete = inl (no_lines_of _ _ is);
        far = unopened_far p u w.read _ c (no_lines_of _ 0 is) w.few (far_behind w.read b c o.goes w.far);
      }

  -- and memory runs out for saying so
  pub near_unopened_memory : Near job.Run a c NoMemory
  near_unopened_memory =
      let is : first_lines 0 (session_of job.Run (Accepted p) (Some u) w.read false) ≡ None = none_first 0 _ (unopened_session p u (part_of w.read false)) in
      record {
        read = w.read;
        few = omega (arith, w.few);
        outcomes = record { commands = []; unopened = Some u; input_failed = false; stopped = Some (0, true) };
        verdict = Accepted p;
        judged = accepted_part p a b w (Some (0, true));
        text = [];
        ran = ran_goes a c w.read [] (opening_goes a b c w.read w.does o.goes);
        lines = [];
        fared = refl;
        unanswered = [];
        unsaid = omega arith;
        calm = c;
        course = opens_none refl refl refl is refl refl w.does (w.few, w.far) o;
        halts = refl;
        at_input = λ h. absurd (cc);
        ending_is = refl;
        answer = λ start h. none_said start _ [] is;
        files = λ start h. none_open start _ [] c is;
        complete = inl (no_lines_of _ _ is);
        far = inl (no_lines_of _ _ is);
      }

-- the line of a device that doesn't open is said, or memory runs out for it
pub unopened_finish : (a b c e : Seen) (p : Program) (u : ℕ × OpenFault) (x : Status) → IsWhole a b (Accepted p) → IsOpening p (Some u) b c → (status_at (unopened_end p u) ≡ status.Output → ⊥) → Finishes c e (last_line (unopened_end p u)) (status_at (unopened_end p u)) x ⊎ Finishes c e (last_line NoMemory) status.Memory x → Runs job.Run a e x
unopened_finish a b c e p u x w o other (inl f) = near_finish job.Run a c e (unopened_end p u) (near_unopened a b c p u w o) x other f
unopened_finish a b c e p u x w o other (inr f) = near_finish job.Run a c e NoMemory (near_unopened_memory a b c p u w o) x (λ q. absurd (cc)) f

-- ---- sessions without lines

-- the whole input is the program part, and the devices are opened behind it
pub all_done : (a b c : Seen) (r : Reader) (text : Clipped) (p : Program) (devices : WorldState) → ReadsAll r text a b → Decides text.items (Accepted p) → OpensAs p devices b c → Runs job.Run a c status.Done
all_done a b c r text p devices d is opens =
    let program = kept_verdict (Accepted p) text d.part d.keeps is in
    let session : session_of job.Run (Accepted p) None d.read false ≡ with_lines p [] = session_at p _ _ _ d.is_part in
    let reached : Reached a c p [] devices = record { part = d.read; part_read = b; reads_part = d.does; is_whole = (d.few, inr d.end); devices = devices; opened = c; opens = opens; mid = c; acts = (refl, refl); ahead = []; reads = does-nil c } in
    let ran = ran_goes a c d.read [] (opening_goes a b c d.read d.does opens.opening.goes) in
    let end = runs_on p (part_of d.read false) (reading_end d.read false) ∙ ends_done d.read d.few in
    record {
      read = d.read;
      few = omega (arith, d.few);
      outcomes = record { commands = []; unopened = None; input_failed = false; stopped = None };
      verdict = Accepted p;
      judged = judged_at p _ _ _ None d.is_part program;
      text = [];
      faults = ran.faults;
      input = ran.input;
      output = ran.output;
      does = ran.does;
      ends = ap status_at end;
      tells = λ start h. ap (λ x. session_text start (session_of job.Run (Accepted p) None d.read false) [] ++ last_line x) end ∙ append-nil _ ∙ text_all a c p [] devices reached _ session start h;
      files = files_all a c p [] devices reached _ session;
      lines = [];
      fared = refl;
      unanswered = [];
      whole = refl;
      answered = λ h. refl;
      calm = c;
      course = course_all a c p [] devices _ session reached;
      halted = c;
      halts = refl;
      last = [];
      closes = does-nil c;
      only = tt;
      far = end_on b c [] opens.opening.goes d.end;
    }

-- ---- `check`

-- what `check` says of an accepted program part
check_text : (start : Program → World) (read : List ℕ) (part : Part) (p : Program) → part_of read false ≡ Some part → answers_text job.Check (Accepted p) start read record { commands = []; unopened = None; input_failed = false; stopped = None } ≡ program_text p
check_text start read part p is = ap (checked_text (Accepted p)) is

check_end : (read : List ℕ) (part : Part) (p : Program) → part_of read false ≡ Some part → ending job.Check (Accepted p) read record { commands = []; unopened = None; input_failed = false; stopped = None } ≡ Done
check_end read part p is = ap (λ x. ending_in job.Check (Accepted p) None x (reading_end read false)) is

module _ (a b c : Seen) (p : Program) (w : IsWhole a b (Accepted p)) where
  said_all : Does b c [] (program_text p) none → Runs job.Check a c status.Done
  said_all says =
      let ran = ran_says a b c w.read [] (program_text p) false (ran_read a b w.read w.does) says in
      record {
        read = w.read;
        few = omega (arith, w.few);
        outcomes = record { commands = []; unopened = None; input_failed = false; stopped = None };
        verdict = Accepted p;
        judged = accepted_part p a b w None;
        text = program_text p;
        faults = ran.faults;
        input = ran.input;
        output = ran.output;
        does = ran.does;
        ends = ap status_at (check_end w.read w.part p w.is_part);
        tells = λ start h. ap (λ x. checked_text (Accepted p) (part_of w.read false) ++ last_line x) (check_end w.read w.part p w.is_part) ∙ append-nil _ ∙ check_text start w.read w.part p w.is_part;
        files = λ start h. tt;
        lines = [];
        fared = refl;
        unanswered = [];
        whole = refl;
        answered = λ h. refl;
        calm = b;
        course = reads refl refl refl refl w.does;
        halted = b;
        halts = refl;
        last = program_text p;
        closes = says;
        only = tt;
        far = (w.few, separated_on w.read b c says w.far);
      }

  said_front : Breaks b c (program_text p) none → Runs job.Check a c status.Output
  said_front breaks =
      let ran = ran_breaks a b c w.read [] breaks.front false (ran_read a b w.read w.does) (breaks_does b c (program_text p) none breaks) in
      record {
        read = w.read;
        few = omega (arith, w.few);
        outcomes = record { commands = []; unopened = None; input_failed = false; stopped = None };
        verdict = Accepted p;
        judged = accepted_part p a b w None;
        text = breaks.front;
        faults = ran.faults;
        input = ran.input;
        output = ran.output;
        does = ran.does;
        ends = tt;
        tells = λ start h. (breaks.rest, ap (λ x. checked_text (Accepted p) (part_of w.read false) ++ last_line x) (check_end w.read w.part p w.is_part) ∙ append-nil _ ∙ check_text start w.read w.part p w.is_part ∙ breaks.whole);
        files = λ start h. tt;
        lines = [];
        fared = refl;
        unanswered = [];
        whole = omega arith;
        answered = λ h. refl;
        calm = b;
        course = reads refl refl refl refl w.does;
        halted = b;
        halts = refl;
        last = program_text p;
        closes = breaks;
        only = tt;
        far = inl (omega arith);
      }

-- the canonical text of a program part is said, or breaks off
pub checked : (a b c : Seen) (p : Program) → IsWhole a b (Accepted p) → Does b c [] (program_text p) none → Runs job.Check a c status.Done
checked a b c p w says = said_all a b c p w says

pub check_broke : (a b c : Seen) (p : Program) → IsWhole a b (Accepted p) → Breaks b c (program_text p) none → Runs job.Check a c status.Output
check_broke a b c p w breaks = said_front a b c p w breaks

-- a program part is refused, or memory runs out for saying so
pub refused_finish : (j : Job) (a b c : Seen) (r : Reader) (text : Clipped) (d : Bool) (x : Status) → PartIs r text d a b → (why : Refusal) → Decides text.items (Rejected why) → Finishes b c (last_line (RefusedProgram why)) status.Program x ⊎ Finishes b c (last_line NoMemory) status.Memory x → Runs j a c x
refused_finish j a b c r text d x p why h (inl f) = near_finish j a b c (RefusedProgram why) (near_refused j a b why (part_whole a b r text d (Rejected why) p h)) x (λ q. absurd (cc)) f
refused_finish j a b c r text d x p why h (inr f) = near_finish j a b c NoMemory (near_part_is j a b r text d p) x (λ q. absurd (cc)) f

-- what is ahead was taken
pub part_ahead : (a b : Seen) (r : Reader) (text : Clipped) (d : Bool) → PartIs r text d a b → (r.taken ≤ limit) × (length r.chunk ≤ r.taken)
part_ahead a b r text true s = (s.few, omega (arith, s.taken, ap length s.whole, length-append (flat_map ended s.head) r.chunk))
part_ahead a b r text false s = (s.taken, omega (arith, ap length s.empty))

pub part_is_divided : (a b : Seen) (r : Reader) (text : Clipped) (d : Bool) → d ≡ true → PartIs r text d a b → Divides r text a b
part_is_divided a b r text d e h = subst (λ x. PartIs r text x a b) e h

pub part_is_all : (a b : Seen) (r : Reader) (text : Clipped) (d : Bool) → d ≡ false → PartIs r text d a b → ReadsAll r text a b
part_is_all a b r text d e h = subst (λ x. PartIs r text x a b) e h

-- the devices of the program that was read are opened, and its session begins
pub starts_with : (a b c : Seen) (r : Reader) (text : Clipped) (p q : Program) (devices : WorldState) → Divides r text a b → Decides text.items (Accepted p) → q ≡ p → OpensAs q devices b c → Starts a c devices.program r devices
starts_with a b c r text p q devices d is same opens =
    subst (λ x. Starts a c x r devices) (sym opens.program) (divided_starts a b r text d c q devices (subst (λ x. Decides text.items (Accepted x)) (sym same) is) opens)

pub unopened_output : (p : Program) (u : ℕ × OpenFault) → status_at (unopened_end p u) ≡ status.Output → ⊥
unopened_output p (d, unopened.Memory) h = cc
unopened_output p (d, unopened.Disk) h = cc
unopened_output p (d, unopened.BadStore file at) h = cc
unopened_output p (d, unopened.OtherProgram) h = cc
