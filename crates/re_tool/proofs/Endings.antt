-- How a session ends.
use Rattle.std.proofs.Common.{arith, ◌≡◌, ◌≤◌, ◌<◌, ◌+◌, ◌-◌, ◌++◌, ◌∷◌, [], ℕ, List, length, take, sym, ◌∙◌, ap, subst, refl, Bool, true, false, Option, Some, None, append_assoc, length-append, ◌⊎◌, inl, inr}
use Rattle.std.specs.Prelude.{map}
use Rattle.std.specs.List.{flat_map}
use Rattle.std.proofs.lemmas.Bool.{lt-ltb, le-ltb}
use Rattle.std.proofs.lemmas.List.{append-nil, length-map, length_push, map-append, take_at}
use Rattle.re_outside.specs.Image.{content}
use Rattle.re_outside.specs.Outside.{Seen, Does, Breaks, IsAtEnd, Faults, content_in, input_fault, none}
use Rattle.re_outside.specs.Port.{past_in}
use Rattle.re_outside.specs.Trace.{acts_of}
use Rattle.re_outside.proofs.Elsewhere.{kept_by_outputs}
use Rattle.re_outside.proofs.Does.{at_end, breaks_does, does-nil, fails_take}
use Rattle.re_session.specs.Acts.{DoneLine, said_by}
use Rattle.re_session.specs.Begins.{Begins}
use Rattle.re_session.specs.LineAnswers.{line_after, line_text, lines_after, texts}
use Rattle.re_session.specs.Serving.{Broken, DoesLine, Goes, Serves, Unsaid, Whole, said_of}
use Rattle.re_session.proofs.Acting.{after-append, does_goes, goes_on, line_goes, line_world, texts_more}
use Rattle.re_session.proofs.Lasting.{texts_front, world_on}
use Rattle.re_commands.specs.Commanding.{commanded}
use Rattle.re_terms.specs.Entries.{PlainEntry}
use Rattle.re_terms.specs.DeviceWorlds.{Outcome, World}
use Rattle.re_terms.specs.declared.program.Program.{Program}
use Rattle.re_tool.specs.Acts.{Course, serves}
use Rattle.re_tool.specs.Answers.{Outcomes, Session, answers_text, done, ending, ending_in, first_lines, reading_end, session_in, session_of, session_text}
use Rattle.re_tool.specs.Clipped.{Clipped}
use Rattle.re_tool.specs.Endings.{Ending, Done, InputFault, NoMemory, InputTooLong, status_at, last_line}
use Rattle.re_tool.specs.Lines.{split, ended, without_return}
use Rattle.re_tool.specs.Part.{HasSeparator, Part, part_of, last_lines}
use Rattle.re_tool.specs.Reads.{Reads, ReadFails, Takes, limit}
use Rattle.re_tool.specs.Session.{Closes, EndsAs, FilesOpen, Finishes, MayBegin, OnlyLastLine, ReadFar, Runs, Tells, Unanswered, is_output, lines_of, one_if, part_lines}
use Rattle.re_tool.specs.Verdict.{Verdict, Accepted}
use Rattle.re_tool.specs.declared.reader.Reader.{Reader}
use Rattle.re_tool.specs.declared.status.Status.{Status}
use Rattle.re_tool.specs.declared.status.Status.TheVariants as status
use Rattle.re_tool.specs.declared.words.Job.{Job}
use Rattle.re_tool.specs.declared.words.Job.TheVariants as job
use Rattle.re_tool.proofs.Ends.{ran_breaks, ran_goes, ran_input, ran_says}
use Rattle.re_tool.proofs.Orders.{Reached, line_done, ordered_all, ordered_but_one}
use Rattle.re_tool.proofs.Parts.{read_more, taken_more}
use Rattle.re_tool.proofs.Sessions.{IsTold, Near, Ready, SoFar, goes_more, goes_read, judged_at, lines_in, outcomes_in, part_at, part_cut, part_last, reached_more, reached_read, reached_told, session_at, size_more, with_lines}
use Rattle.re_tool.proofs.Splits.{split_lines, split_last}
use Rattle.re_world.specs.Images.{OpensAfter}
use Rattle.re_world.specs.Standing.{IsWorldOf}
use Rattle.re_world.specs.State.{WorldState}

-- an accepted program whose devices open doesn't end the run
pub runs_on : (p : Program) (part : Option Part) (e : Ending) → ending_in job.Run (Accepted p) None part e ≡ e
runs_on p None s = refl
runs_on p (Some part) s = refl

pub ends_input : (read : List ℕ) → length read ≤ limit → reading_end read true ≡ InputFault
ends_input read h = rw (le-ltb limit (length read) h) refl

pub ends_done : (read : List ℕ) → length read ≤ limit → reading_end read false ≡ Done
ends_done read h = rw (le-ltb limit (length read) h) refl

pub ends_long : (read : List ℕ) (failed : Bool) → limit < length read → reading_end read failed ≡ InputTooLong
ends_long read failed h = rw (lt-ltb limit (length read) h) refl

at_least : (xs ys : List (List ℕ)) → length xs ≤ length (xs ++ ys)
at_least xs ys = omega (arith, length-append xs ys)

-- the end stays the end
pub end_on : (a b : Seen) (text : List ℕ) → Goes a b [] text → IsAtEnd a → IsAtEnd b
end_on a b text g e = λ q. sym (g.does.moves.left (sym g.does.moves.told ∙ q)) ∙ e (sym g.does.moves.told ∙ q)

-- nothing more is read
pub goes_well : (a b c : Seen) (read text more : List ℕ) → Goes a b read text → Goes b c [] more → Goes a c read (text ++ more)
goes_well a b c read text more g d = subst (λ x. Goes a c x (text ++ more)) (append-nil read) (goes_on a b c read [] text more g d)

-- the same of one of two
pub or_on : {A B C : Type 0} → A ⊎ B → (B → C) → A ⊎ C
or_on (inl a) f = inl a
or_on (inr b) f = inr (f b)

-- what is said changes no file
pub content_on : (b c : Seen) (read text : List ℕ) (f : Faults) → b.told ≡ true → Does b c read text f → (d g : ℕ) → content_in c d g ≡ content_in b d g
content_on b c read text f told does d g =
    let same : content_in c d g ≡ content (b.start d g) (acts_of d g (b.trace ++ does.steps)) = λ i. content (does.moves.start told i d g) (acts_of d g (does.moves.trace told i)) in
    same ∙ (kept_by_outputs d g (past_in 0 b) does.steps does.holds).content

pub opens_on : (p : Program) (w : World) (d : ℕ) (b c : Seen) (text : List ℕ) (f : Faults) → b.told ≡ true → Does b c [] text f → (entries : List PlainEntry) → OpensAfter p w d (content_in b d 0) (content_in b d 1) entries → OpensAfter p w d (content_in c d 0) (content_in c d 1) entries
opens_on p w d b c text f told does entries h =
    subst (λ x. OpensAfter p w d (content_in c d 0) x entries) (sym (content_on b c [] text f told does d 1)) (subst (λ x. OpensAfter p w d x (content_in b d 1) entries) (sym (content_on b c [] text f told does d 0)) h)

-- the files of a session are left as they are by what is said behind it
pub files_on : (start : Program → World) (session : Option Session) (os : List Outcome) (b c : Seen) (text : List ℕ) (f : Faults) → b.told ≡ true → Does b c [] text f → FilesOpen start session os b → FilesOpen start session os c
files_on start None os b c text f told d h = tt
files_on start (Some s) os b c text f told d h = λ i below. opens_on s.program _ i b c text f told d _ (h i below)

-- ---- sessions in their worlds

pub fared_lines : (did : List DoneLine) → length (outcomes_in did) ≡ length (lines_in did)
fared_lines did = length-map did (λ (l : DoneLine). l.outcome) ∙ sym (length-map did (λ (l : DoneLine). l.line))

lines_more : (did : List DoneLine) (l : DoneLine) → lines_in (did ++ l ∷ []) ≡ lines_in did ++ l.line ∷ []
lines_more did l = map-append (λ (x : DoneLine). x.line) did (l ∷ [])

outcomes_more : (did : List DoneLine) (l : DoneLine) → outcomes_in (did ++ l ∷ []) ≡ outcomes_in did ++ l.outcome ∷ []
outcomes_more did l = map-append (λ (x : DoneLine). x.outcome) did (l ∷ [])

-- where a session begins in a world, the run does
begins_in : (p : Program) (start : Program → World) (lines : List (List ℕ)) (session : Option Session) (a : Seen) → session ≡ with_lines p lines → MayBegin start session a → Begins p (start p) a
begins_in p start lines session a is h = subst (λ x. MayBegin start x a) is h

-- what the files of a world open to
files_open : (p : Program) (w : World) (v : WorldState) (s : Seen) (start : Program → World) (lines : List (List ℕ)) (os : List Outcome) (session : Option Session) → session ≡ with_lines p lines → w ≡ lines_after p (start p) lines os → IsWorldOf p w v s → FilesOpen start session os s
files_open p w v s start lines os session is world h =
    let opens : FilesOpen start (with_lines p lines) os s = λ d below. ((subst (λ x. IsWorldOf p x v s) world h).files d below).reads in
    subst (λ x. FilesOpen start x os s) (sym is) opens

module _ (a b : Seen) (p : Program) (did : List DoneLine) (now : WorldState) (r : Reached a b p did now) (session : Option Session) (is : session ≡ with_lines p (lines_in did)) (start : Program → World) (h : MayBegin start session a) where
  pub told_all : IsTold p did now (start p) b
  told_all = reached_told a b p did now (start p) r (begins_in p start (lines_in did) session a is h)

  -- all lines are answered
  pub text_all : session_text start session (outcomes_in did) ≡ said_by p did
  text_all = ap (λ x. session_text start x (outcomes_in did)) is ∙ sym told_all.says

  pub files_all : FilesOpen start session (outcomes_in did) b
  files_all = files_open p _ now b start (lines_in did) (outcomes_in did) session is refl told_all.stands

-- the same behind what is said then
pub files_rest : (a b c : Seen) (p : Program) (did : List DoneLine) (now : WorldState) (text : List ℕ) (f : Faults) → (r : Reached a b p did now) → Does b c [] text f → (session : Option Session) → session ≡ with_lines p (lines_in did) → (start : Program → World) → MayBegin start session a → FilesOpen start session (outcomes_in did) c
files_rest a b c p did now text f r d session is start h = files_on start session _ b c text f (told_all a b p did now r session is start h).told d (files_all a b p did now r session is start h)

-- the steps of a session whose lines are all answered
pub course_all : (a b : Seen) (p : Program) (did : List DoneLine) (now : WorldState) (session : Option Session) → session ≡ with_lines p (lines_in did) → Reached a b p did now → Course job.Run (Accepted p) None session did [] a b
course_all a b p did now session is r = serves refl refl refl is refl (ordered_all a b p did now r)

module _ (a b c : Seen) (p : Program) (did : List DoneLine) (l : DoneLine) (now after : WorldState) (r : Reached a b p did now) (d : DoesLine p l.line now after l.answer l.outcome b c) where
  -- all lines are answered but the last, which is done
  pub course_but_one : (session : Option Session) → session ≡ with_lines p (lines_in did ++ l.line ∷ []) → Course job.Run (Accepted p) None session (did ++ l ∷ []) (l ∷ []) a c
  course_but_one session is = serves refl refl refl is (sym (lines_more did l)) (ordered_but_one a b c p did l now after r d)

  module _ (start : Program → World) (begins : Begins p (start p) a) where
    abbrev world_before : World
    world_before = lines_after p (start p) (lines_in did) (outcomes_in did)

    told_before : IsTold p did now (start p) b
    told_before = reached_told a b p did now (start p) r begins

    done_last : (said_of p l.answer ≡ line_text p world_before (commanded p l.line) l.outcome) × IsWorldOf p (line_after p world_before (commanded p l.line) l.outcome) after c
    done_last = line_world p l.line now after l.answer l.outcome b c world_before told_before.told d told_before.stands

    -- what the lines say, the last one's answer behind the others
    pub text_last : texts p (start p) (lines_in did ++ l.line ∷ []) (outcomes_in (did ++ l ∷ [])) ≡ said_by p did ++ said_of p l.answer
    text_last =
        ap (texts p (start p) (lines_in did ++ l.line ∷ [])) (outcomes_more did l)
        ∙ texts_more p (start p) (lines_in did) l.line (outcomes_in did) l.outcome (fared_lines did)
        ∙ ap (λ x. x ++ line_text p world_before (commanded p l.line) l.outcome) (sym told_before.says)
        ∙ ap (λ x. said_by p did ++ x) (sym done_last.0)

    -- what they say without it
    pub text_front : texts p (start p) (lines_in did) (outcomes_in (did ++ l ∷ [])) ≡ said_by p did
    text_front = ap (texts p (start p) (lines_in did)) (outcomes_more did l) ∙ texts_front p (start p) (lines_in did) (outcomes_in did) l.outcome (fared_lines did) ∙ sym told_before.says

    pub files_last : (e : Seen) (text : List ℕ) (f : Faults) (session : Option Session) → Does c e [] text f → session ≡ with_lines p (lines_in did ++ l.line ∷ []) → FilesOpen start session (outcomes_in (did ++ l ∷ [])) e
    files_last e text f session says is =
        let told : c.told ≡ true = (line_goes p l.line now after l.answer l.outcome b c d).does.moves.told ∙ told_before.told in
        let world : line_after p world_before (commanded p l.line) l.outcome ≡ lines_after p (start p) (lines_in did ++ l.line ∷ []) (outcomes_in (did ++ l ∷ [])) =
        sym (ap (lines_after p (start p) (lines_in did ++ l.line ∷ [])) (outcomes_more did l) ∙ after-append p (start p) (lines_in did) (l.line ∷ []) (outcomes_in did) (l.outcome ∷ []) (fared_lines did)) in
        files_open p _ after e start (lines_in did ++ l.line ∷ []) (outcomes_in (did ++ l ∷ [])) session is world (world_on p _ after c e [] text f told says done_last.1)

module _ (a b c : Seen) (p : Program) (r r' : Reader) (now : WorldState) (line' : Clipped) (most : ℕ) (s : SoFar a b p r now) where
  did_is : (lines : List (List ℕ)) → with_lines p (map without_return s.raws ++ lines) ≡ with_lines p (lines_in s.did ++ lines)
  did_is lines = ap (λ l. with_lines p (l ++ lines)) (sym s.spelled)

  did_all : with_lines p (map without_return s.raws) ≡ with_lines p (lines_in s.did)
  did_all = ap (with_lines p) (sym s.spelled)

  did_length : length (lines_in s.did) ≡ length (map without_return s.raws)
  did_length = ap length s.spelled

  -- too much input came
  pub near_too_long : Reads r r' line' most b c [] → r'.taken ≡ limit + 1 → length r'.chunk ≡ 1 → Near job.Run a c InputTooLong
  near_too_long d long one =
      let lines = map without_return s.raws in
      let read = s.read ++ d.bytes in
      let F = flat_map ended (s.head ++ s.raws) in
      let whole : read ≡ (F ++ d.line) ++ r'.chunk = read_more F s.read r.chunk d.bytes d.line r'.chunk s.whole d.whole ∙ sym (append_assoc F d.line r'.chunk) in
      let taken : r'.taken ≡ length read = size_more a b c p r r' now line' most s d in
      let size : length (F ++ d.line) ≡ limit = omega (arith, ap length whole, length-append (F ++ d.line) r'.chunk) in
      let over : limit < length read = omega arith in
      let parts : split (take limit read) ≡ (s.head ++ s.raws, d.line) = ap split (ap (take limit) whole ∙ take_at (F ++ d.line) r'.chunk limit size) ∙ split_last (s.head ++ s.raws) d.line s.plain d.plain in
      let cut : (failed : Bool) → part_of read failed ≡ Some (record { text = flat_map ended s.front; lines = lines ++ [] }) = λ failed. part_cut read failed s.front s.head s.raws d.line over parts s.divides in
      let is : session_of job.Run (Accepted p) None read false ≡ with_lines p (lines_in s.did) = session_at p _ _ _ (cut false) ∙ ap (with_lines p) (append-nil lines) ∙ did_all in
      let reached = reached_read a b c p s.did now d.bytes s.reached d.does in
      record {
        read = read;
        few = omega arith;
        outcomes = record { commands = outcomes_in s.did; unopened = None; input_failed = false; stopped = None };
        verdict = Accepted p;
        judged = judged_at p _ _ _ None (cut false) s.program;
        text = said_by p s.did;
        ran = ran_goes a c read _ (goes_read a b c s.read d.bytes _ s.goes d.does);
        lines = s.did;
        fared = refl;
        unanswered = [];
        unsaid = refl;
        calm = c;
        halts = refl;
        at_input = λ h. absurd (cc);
        course = course_all a c p s.did now _ is reached;
        ending_is = runs_on p (part_of read false) (reading_end read false) ∙ ends_long read false over;
        answer = text_all a c p s.did now reached _ is;
        files = files_all a c p s.did now reached _ is;
        complete = inl (omega (arith, ap (λ x. length (lines_of (session_in (Accepted p) None x))) (cut false), ap (λ x. length (part_lines x)) (cut true)));
        far = tt;
      }

  -- memory ran out while a line was read
  pub near_halted : Takes r r' b c → r'.taken ≤ limit → Near job.Run a c NoMemory
  near_halted d few =
      let lines = map without_return s.raws in
      let n = length lines in
      let read = s.read ++ d.bytes in
      let rest = r.chunk ++ d.bytes in
      let short : length read ≤ limit = omega (arith, taken_more r.taken r'.taken s.read d.bytes s.taken d.taken) in
      let whole : read ≡ flat_map ended (s.head ++ s.raws) ++ rest = ap (λ l. l ++ d.bytes) s.whole ∙ append_assoc (flat_map ended (s.head ++ s.raws)) r.chunk d.bytes in
      let parts : split read ≡ (s.head ++ (s.raws ++ (split rest).0), (split rest).1) = ap split whole ∙ split_lines (s.head ++ s.raws) rest s.plain ∙ ap (λ l. (l, (split rest).1)) (append_assoc s.head s.raws (split rest).0) in
      let part : (failed : Bool) → part_of read failed ≡ Some (record { text = flat_map ended s.front; lines = lines ++ (map without_return (split rest).0 ++ last_lines failed (split rest).1) }) =
      λ failed. part_at read failed s.front s.head (s.raws ++ (split rest).0) (split rest).1 short parts s.divides
      ∙ ap (λ l. let x : Part = record { text = flat_map ended s.front; lines = l } in Some x) (ap (λ l. l ++ last_lines failed (split rest).1) (map-append without_return s.raws (split rest).0) ∙ append_assoc lines (map without_return (split rest).0) (last_lines failed (split rest).1)) in
      let cut : first_lines n (session_of job.Run (Accepted p) None read false) ≡ with_lines p lines = ap (first_lines n) (session_at p _ _ _ (part false)) ∙ ap (with_lines p) (take_at lines (map without_return (split rest).0 ++ (split rest).1 ∷ []) n refl) in
      let is : first_lines n (session_of job.Run (Accepted p) None read false) ≡ with_lines p (lines_in s.did) = cut ∙ did_all in
      let reached = reached_read a b c p s.did now d.bytes s.reached d.does in
      record {
        read = read;
        few = omega arith;
        outcomes = record { commands = outcomes_in s.did; unopened = None; input_failed = false; stopped = Some (n, true) };
        verdict = Accepted p;
        judged = judged_at p _ _ _ (Some (n, true)) (part false) s.program;
        text = said_by p s.did;
        ran = ran_goes a c read _ (goes_read a b c s.read d.bytes _ s.goes d.does);
        lines = s.did;
        fared = refl;
        unanswered = [];
        unsaid = omega arith;
        calm = c;
        halts = refl;
        at_input = λ h. absurd (cc);
        course = course_all a c p s.did now _ is reached;
        ending_is = refl;
        answer = text_all a c p s.did now reached _ is;
        files = files_all a c p s.did now reached _ is;
        complete = inl (omega (arith, ap (λ x. length (lines_of x)) cut, ap (λ x. length (part_lines x)) (part true), at_least lines (map without_return (split rest).0 ++ [])));
        far = inl (omega (arith, ap (λ x. length (lines_of x)) cut, ap (λ x. length (part_lines x)) (part true), at_least lines (map without_return (split rest).0 ++ [])));
      }

-- the input failed
pub near_failed : (a b c : Seen) (p : Program) (r r' : Reader) (now : WorldState) (line' : Clipped) (most : ℕ) (s : SoFar a b p r now) → ReadFails r r' line' most b c → r'.taken ≤ limit → r'.chunk ≡ [] → Near job.Run a c InputFault
near_failed a b c p r r' now line' most s f few empty =
    let d = f.reads in
    let lines = map without_return s.raws in
    let read = s.read ++ d.bytes in
    let short : length read ≤ limit = omega (arith, size_more a b f.mid p r r' now line' most s d) in
    let part = part_last a b f.mid p r r' now line' most s d few empty true in
    let is : session_of job.Run (Accepted p) None read true ≡ with_lines p (lines_in s.did) = session_at p _ _ _ part ∙ ap (with_lines p) (append-nil lines) ∙ ap (with_lines p) (sym s.spelled) in
    let reached = reached_read a b f.mid p s.did now d.bytes s.reached d.does in
    let ran = ran_goes a f.mid read (said_by p s.did) (goes_read a b f.mid s.read d.bytes _ s.goes d.does) in
    record {
      read = read;
      few = omega arith;
      outcomes = record { commands = outcomes_in s.did; unopened = None; input_failed = true; stopped = None };
      verdict = Accepted p;
      judged = judged_at p _ _ _ None part s.program;
      text = said_by p s.did;
      ran = ran_input a f.mid c read (said_by p s.did) ran f.fails;
      lines = s.did;
      fared = refl;
      unanswered = [];
      unsaid = refl;
      calm = f.mid;
      course = course_all a f.mid p s.did now _ is reached;
      halts = f.fails;
      at_input = λ h. refl;
      ending_is = runs_on p (part_of read true) (reading_end read true) ∙ ends_input read short;
      answer = text_all a f.mid p s.did now reached _ is;
      files = λ start h. files_rest a f.mid c p s.did now [] input_fault reached (fails_take f.mid c f.fails) _ is start h;
      complete = inl (omega (arith, ap (λ x. length (lines_of (session_in (Accepted p) None x))) part, ap (λ x. length (part_lines x)) part));
      far = tt;
    }

at_front : (xs : List (List ℕ)) (x : List ℕ) (ys : List (List ℕ)) → take (length xs + 1) (xs ++ x ∷ ys) ≡ xs ++ x ∷ []
at_front xs x ys = ap (take (length xs + 1)) (sym (append_assoc xs (x ∷ []) ys)) ∙ take_at (xs ++ x ∷ []) ys (length xs + 1) (length_push xs x)

module _ (a c e : Seen) (p : Program) (now after : WorldState) (line : List ℕ) (q : Ready a c p now line) where
  lines_did : List (List ℕ)
  lines_did = lines_in q.did

  count : ℕ
  count = length (lines_in q.did) + 1

  -- the session of the lines with this one
  with_this : first_lines (length (lines_in q.did) + 1) (session_of job.Run (Accepted p) None q.read false) ≡ with_lines p (lines_in q.did ++ line ∷ [])
  with_this = ap (first_lines (length (lines_in q.did) + 1)) q.session ∙ ap (with_lines p) (at_front (lines_in q.did) line q.more)

  -- the session of the lines without this one
  without_this : first_lines (length (lines_in q.did) + 1 - 1) (session_of job.Run (Accepted p) None q.read false) ≡ with_lines p (lines_in q.did)
  without_this = ap (first_lines (length (lines_in q.did) + 1 - 1)) q.session ∙ ap (with_lines p) (take_at (lines_in q.did) (line ∷ q.more) (length (lines_in q.did) + 1 - 1) (omega arith))

  complete_with : (x : Seen) {text : List ℕ} (n : ℕ) → n ≡ length (lines_in q.did) + 1 → Goes c x [] text → (length (lines_of (first_lines n (session_of job.Run (Accepted p) None q.read false))) ≤ length (part_lines (part_of q.read true))) ⊎ IsAtEnd x
  complete_with x {text} n h d = cases q.complete
    where
      counted : length (lines_of (first_lines n (session_of job.Run (Accepted p) None q.read false))) ≡ length (lines_in q.did) + 1
      counted = ap (λ k. length (lines_of (first_lines k (session_of job.Run (Accepted p) None q.read false)))) h ∙ ap (λ x. length (lines_of x)) with_this ∙ length_push (lines_in q.did) line

      cases : (length q.did + 1 ≤ length (part_lines (part_of q.read true))) ⊎ IsAtEnd c → (length (lines_of (first_lines n (session_of job.Run (Accepted p) None q.read false))) ≤ length (part_lines (part_of q.read true))) ⊎ IsAtEnd x
      cases (inl k) = inl (omega (arith, counted, length-map q.did (λ (l : DoneLine). l.line)))
      cases (inr end) = inr (end_on c x text d end)

  -- memory ran out for the answer
  pub near_memory : Serves p line now after c e Unsaid → Near job.Run a e NoMemory
  near_memory t =
      let l = line_done t in
      let does = subst (λ (s : Seen). DoesLine p line now after t.answer t.outcome c s) (sym t.told) t.does in
      let goes = line_goes p line now after t.answer t.outcome c e does in
      record {
        read = q.read;
        few = omega (arith, q.few);
        outcomes = record { commands = outcomes_in (q.did ++ l ∷ []); unopened = None; input_failed = false; stopped = Some (length (lines_in q.did) + 1, false) };
        verdict = Accepted p;
        judged = q.judged (Some (length (lines_in q.did) + 1, false));
        text = said_by p q.did;
        ran = ran_goes a e q.read _ (subst (Goes a e q.read) (append-nil (said_by p q.did)) (goes_well a c e q.read (said_by p q.did) [] q.goes goes));
        lines = q.did ++ l ∷ [];
        fared = refl;
        unanswered = l ∷ [];
        unsaid = omega arith;
        calm = e;
        course = course_but_one a c e p q.did l now after q.reached does _ with_this;
        halts = refl;
        at_input = λ h. absurd (cc);
        ending_is = refl;
        answer = λ start h. ap (λ x. session_text start x (outcomes_in (q.did ++ l ∷ []))) without_this ∙ text_front a c e p q.did l now after q.reached does start (begins_in p start _ _ a with_this h);
        files = λ start h. files_last a c e p q.did l now after q.reached does start (begins_in p start _ _ a with_this h) e [] none _ (does-nil e) with_this;
        complete = complete_with e (length (lines_in q.did) + 1) refl goes;
        far = complete_with e (length (lines_in q.did) + 1) refl goes;
      }

  -- an answer broke off
  pub runs_output : Serves p line now after c e Broken → Runs job.Run a e status.Output
  runs_output t =
      let l = line_done t in
      let os = outcomes_in (q.did ++ l ∷ []) in
      let d = t.told in
      let broken = breaks_does t.done e (said_of p t.answer) none d in
      let goes = line_goes p line now after t.answer t.outcome c t.done t.does in
      let ran = ran_breaks a t.done e q.read (said_by p q.did) d.front false (ran_goes a t.done q.read _ (subst (Goes a t.done q.read) (append-nil (said_by p q.did)) (goes_well a c t.done q.read (said_by p q.did) [] q.goes goes))) broken in
      record {
        read = q.read;
        few = omega (arith, q.few);
        outcomes = record { commands = os; unopened = None; input_failed = false; stopped = Some (length (lines_in q.did) + 1, true) };
        verdict = Accepted p;
        judged = q.judged (Some (length (lines_in q.did) + 1, true));
        text = said_by p q.did ++ d.front;
        faults = ran.faults;
        input = ran.input;
        output = ran.output;
        does = ran.does;
        ends = tt;
        tells = λ start h. (
          d.rest ++ last_line NoMemory,
          ap (λ x. session_text start x os ++ last_line NoMemory) with_this
              ∙ ap (λ x. x ++ last_line NoMemory) (text_last a c t.done p q.did l now after q.reached t.does start (begins_in p start _ _ a with_this h) ∙ ap (λ x. said_by p q.did ++ x) d.whole)
              ∙ simp append_assoc,
        );
        files = λ start h. files_last a c t.done p q.did l now after q.reached t.does start (begins_in p start _ _ a with_this h) e d.front _ _ broken with_this;
        lines = q.did ++ l ∷ [];
        fared = refl;
        unanswered = l ∷ [];
        whole = omega arith;
        answered = λ h. absurd (cc);
        calm = t.done;
        course = course_but_one a c t.done p q.did l now after q.reached t.does _ with_this;
        halted = t.done;
        halts = refl;
        last = said_of p t.answer;
        closes = d;
        only = tt;
        far = or_on (complete_with t.done (length (lines_in q.did) + 1) refl goes) (at_end t.done e d.front _ broken);
      }

  -- the last line is done
  pub runs_done : q.more ≡ [] → IsAtEnd c → Serves p line now after c e Whole → Runs job.Run a e status.Done
  runs_done last end t =
      let l = line_done t in
      let did = q.did ++ l ∷ [] in
      let is : session_of job.Run (Accepted p) None q.read false ≡ with_lines p (lines_in did) = q.session ∙ ap (λ x. with_lines p (lines_in q.did ++ line ∷ x)) last ∙ ap (with_lines p) (sym (lines_more q.did l)) in
      let reached = reached_more a c e p q.did now after line q.reached t in
      let ran = ran_goes a e q.read (said_by p did) (goes_more a c e p q.read q.did now after line q.goes t) in
      record {
        read = q.read;
        few = omega (arith, q.few);
        outcomes = record { commands = outcomes_in did; unopened = None; input_failed = false; stopped = None };
        verdict = Accepted p;
        judged = q.judged None;
        text = said_by p did;
        faults = ran.faults;
        input = ran.input;
        output = ran.output;
        does = ran.does;
        ends = ap status_at (runs_on p (part_of q.read false) (reading_end q.read false) ∙ ends_done q.read q.few);
        tells = λ start h. ap (λ x. session_text start (session_of job.Run (Accepted p) None q.read false) (outcomes_in did) ++ last_line x) (runs_on p (part_of q.read false) (reading_end q.read false) ∙ ends_done q.read q.few) ∙ append-nil _ ∙ text_all a e p did after reached _ is start h;
        files = files_all a e p did after reached _ is;
        lines = did;
        fared = refl;
        unanswered = [];
        whole = refl;
        answered = λ h. refl;
        calm = e;
        course = course_all a e p did after _ is reached;
        halted = e;
        halts = refl;
        last = [];
        closes = does-nil e;
        only = tt;
        far = end_on c e _ (goes_on c t.done e [] [] [] (said_of p t.answer) (line_goes p line now after t.answer t.outcome c t.done t.does) (does_goes t.done e [] _ t.told)) end;
      }

none_is_few : (lines : List DoneLine) → lines ≡ [] → length lines ≤ 1
none_is_few lines e = omega (arith, ap length e)

at_most : (s : Status) (lines : List DoneLine) → Unanswered s lines → length lines ≤ 1
at_most status.Output lines h = h
at_most status.Memory lines h = h
at_most status.Done lines h = none_is_few lines h
at_most status.Words lines h = none_is_few lines h
at_most status.Program lines h = none_is_few lines h
at_most status.Store lines h = none_is_few lines h
at_most status.OtherProgram lines h = none_is_few lines h
at_most status.Disk lines h = none_is_few lines h
at_most status.Input lines h = none_is_few lines h
at_most status.TooLong lines h = none_is_few lines h
at_most status.Line lines h = none_is_few lines h

pub separated_on : (read : List ℕ) (b c : Seen) {text : List ℕ} {f : Faults} → Does b c [] text f → HasSeparator read ⊎ IsAtEnd b → HasSeparator read ⊎ IsAtEnd c
separated_on read b c d (inl h) = inl h
separated_on read b c d (inr h) = inr (at_end b c _ _ d h)

far_on : (j : Job) (s : Status) (v : Verdict) (read : List ℕ) (o : Outcomes) (b c : Seen) {text : List ℕ} {f : Faults} → Does b c [] text f → ReadFar j s v read o b → ReadFar j s v read o c
far_on job.Run status.Done v read o b c d h = at_end b c _ _ d h
far_on job.Check status.Done v read o b c d h = (h.0, separated_on read b c d h.1)
far_on j status.Program v read o b c d h = (h.0, separated_on read b c d h.1)
far_on j status.Memory v read o b c d (inl h) = inl h
far_on j status.Memory v read o b c d (inr h) = inr (at_end b c _ _ d h)
far_on j status.Output v read o b c d (inl h) = inl h
far_on j status.Output v read o b c d (inr h) = inr (at_end b c _ _ d h)
far_on j status.Store v read o b c d h = (h.0, separated_on read b c d h.1)
far_on j status.OtherProgram v read o b c d h = (h.0, separated_on read b c d h.1)
far_on j status.Disk v read o b c d h = (h.0, separated_on read b c d h.1)
far_on j status.Words v read o b c d h = h
far_on j status.Input v read o b c d h = h
far_on j status.TooLong v read o b c d h = h
far_on j status.Line v read o b c d h = h

-- a status that isn't 8 is told with all of the answers
tells_all : (s : Status) (answers text : List ℕ) → (s ≡ status.Output → ⊥) → answers ≡ text → Tells answers text s
tells_all status.Output answers text h p = absurd (h refl)
tells_all status.Done answers text h p = p
tells_all status.Words answers text h p = p
tells_all status.Program answers text h p = p
tells_all status.Store answers text h p = p
tells_all status.OtherProgram answers text h p = p
tells_all status.Disk answers text h p = p
tells_all status.Input answers text h p = p
tells_all status.Memory answers text h p = p
tells_all status.TooLong answers text h p = p
tells_all status.Line answers text h p = p

-- it is the ending's
ends_all : (e : Ending) (s : Status) → status_at e ≡ s → EndsAs e s
ends_all e status.Output h = tt
ends_all e status.Done h = h
ends_all e status.Words h = h
ends_all e status.Program h = h
ends_all e status.Store h = h
ends_all e status.OtherProgram h = h
ends_all e status.Disk h = h
ends_all e status.Input h = h
ends_all e status.Memory h = h
ends_all e status.TooLong h = h
ends_all e status.Line h = h

not_output : (s : Status) → (s ≡ status.Output → ⊥) → is_output s ≡ false
not_output status.Output h = absurd (h refl)
not_output status.Done h = refl
not_output status.Words h = refl
not_output status.Program h = refl
not_output status.Store h = refl
not_output status.OtherProgram h = refl
not_output status.Disk h = refl
not_output status.Input h = refl
not_output status.Memory h = refl
not_output status.TooLong h = refl
not_output status.Line h = refl

closes_well : (s : Status) (b c : Seen) (last : List ℕ) → (s ≡ status.Output → ⊥) → Does b c [] last none → Closes b c last s
closes_well status.Output b c last h d = absurd (h refl)
closes_well status.Done b c last h d = d
closes_well status.Words b c last h d = d
closes_well status.Program b c last h d = d
closes_well status.Store b c last h d = d
closes_well status.OtherProgram b c last h d = d
closes_well status.Disk b c last h d = d
closes_well status.Input b c last h d = d
closes_well status.Memory b c last h d = d
closes_well status.TooLong b c last h d = d
closes_well status.Line b c last h d = d

only_last : (failed : Bool) (e : Ending) (r : Status) → (failed ≡ true → e ≡ InputFault) → (r ≡ status_at e) ⊎ (r ≡ status.Output) → OnlyLastLine failed (last_line e) r
only_last false e r h k = tt
only_last true e r h (inl k) = (ap last_line (h refl), inl (k ∙ ap status_at (h refl)))
only_last true e r h (inr k) = (ap last_line (h refl), inr k)

told_at : (start : Program → World) (session : Option Session) (a b : Seen) → b.told ≡ a.told → MayBegin start session a → (b.told ≡ true) ⊎ (session ≡ None)
told_at start None a b same h = inr refl
told_at start (Some s) a b same h = inl (same ∙ h.told)

-- the same where there may be no session
files_behind : (start : Program → World) (session : Option Session) (os : List Outcome) (a b c : Seen) (text : List ℕ) (f : Faults) → b.told ≡ a.told → Does b c [] text f → MayBegin start session a → FilesOpen start session os b → FilesOpen start session os c
files_behind start session os a b c text f same d may h = by (told_at start session a b same may)
  where
    by : (b.told ≡ true) ⊎ (session ≡ None) → FilesOpen start session os c
    by (inl told) = files_on start session os b c text f told d h
    by (inr none) = subst (λ x. FilesOpen start x os c) (sym none) tt

module _ (j : Job) (a b c : Seen) (e : Ending) (n : Near j a b e) where
  answers_are : (start : Program → World) → MayBegin start (done j n.verdict n.read n.outcomes) a → answers_text j n.verdict start n.read n.outcomes ++ last_line (ending j n.verdict n.read n.outcomes) ≡ n.text ++ last_line e
  answers_are start h = ap (λ x. x ++ last_line (ending j n.verdict n.read n.outcomes)) (n.answer start h) ∙ ap (λ x. n.text ++ last_line x) n.ending_is

  -- the last line is said whole
  near_said : (status_at e ≡ status.Output → ⊥) → Does b c [] (last_line e) none → Runs j a c (status_at e)
  near_said h d =
      let ran = ran_says a b c n.read n.text (last_line e) n.outcomes.input_failed n.ran d in
      record {
        read = n.read;
        few = n.few;
        outcomes = n.outcomes;
        verdict = n.verdict;
        judged = n.judged;
        text = n.text ++ last_line e;
        faults = ran.faults;
        input = ran.input;
        output = ran.output ∙ ap one_if (sym (not_output (status_at e) h));
        does = ran.does;
        ends = ends_all _ (status_at e) (ap status_at n.ending_is);
        tells = λ start may. tells_all (status_at e) _ (n.text ++ last_line e) h (answers_are start may);
        files = λ start may. files_behind start _ _ a b c (last_line e) none n.ran.does.moves.told d may (n.files start may);
        lines = n.lines;
        fared = n.fared;
        unanswered = n.unanswered;
        whole = n.unsaid;
        answered = λ h. subst (λ s. Unanswered s n.unanswered) (ap status_at (n.at_input h)) n.unsaid;
        calm = n.calm;
        course = n.course;
        halted = b;
        halts = n.halts;
        last = last_line e;
        closes = closes_well (status_at e) b c _ h d;
        only = only_last n.outcomes.input_failed e (status_at e) n.at_input (inl refl);
        far = far_on j (status_at e) n.verdict n.read n.outcomes b c d n.far;
      }

  -- the last line breaks off
  near_broke : Breaks b c (last_line e) none → Runs j a c status.Output
  near_broke d =
      let broken = breaks_does b c (last_line e) none d in
      let ran = ran_breaks a b c n.read n.text d.front n.outcomes.input_failed n.ran broken in
      record {
        read = n.read;
        few = n.few;
        outcomes = n.outcomes;
        verdict = n.verdict;
        judged = n.judged;
        text = n.text ++ d.front;
        faults = ran.faults;
        input = ran.input;
        output = ran.output;
        does = ran.does;
        ends = tt;
        tells = λ start may. (d.rest, answers_are start may ∙ ap (λ t. n.text ++ t) d.whole ∙ sym (append_assoc n.text d.front d.rest));
        files = λ start may. files_behind start _ _ a b c d.front _ n.ran.does.moves.told broken may (n.files start may);
        lines = n.lines;
        fared = n.fared;
        unanswered = n.unanswered;
        whole = at_most (status_at e) n.unanswered n.unsaid;
        answered = λ h. subst (λ s. Unanswered s n.unanswered) (ap status_at (n.at_input h)) n.unsaid;
        calm = n.calm;
        course = n.course;
        halted = b;
        halts = n.halts;
        last = last_line e;
        closes = d;
        only = only_last n.outcomes.input_failed e status.Output n.at_input (inr refl);
        far = far_on j status.Output n.verdict n.read n.outcomes b c broken n.complete;
      }

  -- the last line is said, or breaks off
  pub near_finish : (x : Status) → (status_at e ≡ status.Output → ⊥) → Finishes b c (last_line e) (status_at e) x → Runs j a c x
  near_finish status.Output h d = near_broke d
  near_finish status.Done h d = subst (Runs j a c) (sym d.0) (near_said h d.1)
  near_finish status.Words h d = subst (Runs j a c) (sym d.0) (near_said h d.1)
  near_finish status.Program h d = subst (Runs j a c) (sym d.0) (near_said h d.1)
  near_finish status.Store h d = subst (Runs j a c) (sym d.0) (near_said h d.1)
  near_finish status.OtherProgram h d = subst (Runs j a c) (sym d.0) (near_said h d.1)
  near_finish status.Disk h d = subst (Runs j a c) (sym d.0) (near_said h d.1)
  near_finish status.Input h d = subst (Runs j a c) (sym d.0) (near_said h d.1)
  near_finish status.Memory h d = subst (Runs j a c) (sym d.0) (near_said h d.1)
  near_finish status.TooLong h d = subst (Runs j a c) (sym d.0) (near_said h d.1)
  near_finish status.Line h d = subst (Runs j a c) (sym d.0) (near_said h d.1)
