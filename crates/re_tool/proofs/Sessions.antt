-- A session, line by line.
use Rattle.std.proofs.Common.{arith, ◌≡◌, ◌≤◌, ◌<◌, ◌+◌, ◌++◌, ◌∷◌, [], ℕ, List, length, take, sym, ◌∙◌, ap, subst, refl, Bool, true, false, Option, Some, None, append_assoc, length-append, ◌⊎◌, inl, inr}
use Rattle.std.specs.Prelude.{map}
use Rattle.std.specs.List.{flat_map}
use Rattle.std.proofs.lemmas.Grind.{flat_map-append}
use Rattle.std.proofs.lemmas.List.{append-nil, length-map, map-append}
use Rattle.re_outside.specs.Outside.{Seen, Does, IsAtEnd, none}
use Rattle.re_outside.proofs.Does.{does-nil}
use Rattle.re_session.specs.Acts.{DoneLine, said_by}
use Rattle.re_session.specs.LineAnswers.{lines_after, texts}
use Rattle.re_session.specs.Begins.{Begins}
use Rattle.re_session.specs.Serving.{Goes, Serves, Whole, said_of}
use Rattle.re_session.proofs.Acting.{acts_more, acts_world, does_goes, goes_on, line_goes}
use Rattle.re_session.proofs.Lasting.{acts_told, begins_on, world_on}
use Rattle.re_terms.specs.DeviceWorlds.{Outcome, World}
use Rattle.re_terms.specs.declared.program.Program.{Program}
use Rattle.re_tool.specs.Answers.{Outcomes, Session, answers_text, done, ending, session_in, session_of}
use Rattle.re_tool.specs.Acts.{Course}
use Rattle.re_tool.specs.Clipped.{Clipped}
use Rattle.re_tool.specs.Endings.{Ending, InputFault, status_at}
use Rattle.re_tool.specs.Lines.{split, ended, IsPlain, ArePlain, without_return}
use Rattle.re_tool.specs.Part.{Part, divided, part_of, part_in, last_lines}
use Rattle.re_tool.specs.Reads.{Reads, limit}
use Rattle.re_tool.specs.Serving.{Starts}
use Rattle.re_tool.specs.Session.{AreComplete, FilesOpen, Halts, MayBegin, ReadFar, Unanswered, part_lines}
use Rattle.re_tool.specs.Verdict.{Verdict, Accepted, Decides, IsJudged}
use Rattle.re_tool.specs.declared.reader.Reader.{Reader}
use Rattle.re_tool.specs.declared.words.Job.{Job}
use Rattle.re_tool.specs.declared.words.Job.TheVariants as job
use Rattle.re_tool.proofs.Ends.{Ran}
use Rattle.re_tool.proofs.Orders.{Reached, act_said, line_done}
use Rattle.re_tool.proofs.Parts.{read_more, taken_more}
use Rattle.re_tool.proofs.PassedLines.{does_more}
use Rattle.re_tool.proofs.Splits.{plain_more, split_lines, split_last, flat_more, part_short, part_long}
use Rattle.re_world.specs.Standing.{IsWorldOf}
use Rattle.re_world.specs.State.{WorldState}

-- the session of a program and of lines
abbrev pub with_lines : Program → List (List ℕ) → Option Session
with_lines p lines = Some (record { program = p; lines = lines })

-- the lines that were done, and how they fared
abbrev pub lines_in : List DoneLine → List (List ℕ)
lines_in did = map (λ (l : DoneLine). l.line) did

abbrev pub outcomes_in : List DoneLine → List Outcome
outcomes_in did = map (λ (l : DoneLine). l.outcome) did

-- What was done so far, between two lines.
pub record SoFar (a b : Seen) (p : Program) (r : Reader) (now : WorldState) : Type 0 where
  pub front : List (List ℕ)
  pub head : List (List ℕ)
  pub raws : List (List ℕ)
  pub did : List DoneLine
  pub spelled : lines_in did ≡ map without_return raws
  pub read : List ℕ
  pub plain : ArePlain (head ++ raws)
  pub divides : (lines : List (List ℕ)) → divided (head ++ lines) ≡ Some (front, lines)
  pub program : Decides (flat_map ended front) (Accepted p)
  pub whole : read ≡ flat_map ended (head ++ raws) ++ r.chunk
  pub taken : r.taken ≡ length read
  pub few : r.taken ≤ limit
  pub goes : Goes a b read (said_by p did)
  pub reached : Reached a b p did now

-- The same with a line in hand.
pub record Ready (a b : Seen) (p : Program) (now : WorldState) (line : List ℕ) : Type 0 where
  pub did : List DoneLine
  pub read : List ℕ
  pub more : List (List ℕ)
  pub session : session_of job.Run (Accepted p) None read false ≡ with_lines p (lines_in did ++ line ∷ more)
  pub judged : (stopped : Option (ℕ × Bool)) → IsJudged (Accepted p) (part_of read false) stopped
  pub few : length read ≤ limit
  -- the line is a whole one, or the input is at its end
  pub complete : (length did + 1 ≤ length (part_lines (part_of read true))) ⊎ IsAtEnd b
  pub goes : Goes a b read (said_by p did)
  pub reached : Reached a b p did now

-- All is said but the last line.
pub record Near (j : Job) (a b : Seen) (e : Ending) : Type 0 where
  pub read : List ℕ
  pub few : length read ≤ limit + 1
  pub outcomes : Outcomes
  pub verdict : Verdict
  pub judged : IsJudged verdict (part_of read outcomes.input_failed) outcomes.stopped
  pub text : List ℕ
  pub ran : Ran a b read text outcomes.input_failed false
  pub lines : List DoneLine
  pub fared : outcomes.commands ≡ outcomes_in lines
  pub unanswered : List DoneLine
  pub unsaid : Unanswered (status_at e) unanswered
  -- no call failed up to this moment, and perhaps a `take` behind it
  pub calm : Seen
  pub course : Course j verdict outcomes.unopened (done j verdict read outcomes) lines unanswered a calm
  pub halts : Halts outcomes.input_failed calm b
  pub at_input : outcomes.input_failed ≡ true → e ≡ InputFault
  pub ending_is : ending j verdict read outcomes ≡ e
  pub answer : (start : Program → World) → MayBegin start (done j verdict read outcomes) a → answers_text j verdict start read outcomes ≡ text
  pub files : (start : Program → World) → MayBegin start (done j verdict read outcomes) a → FilesOpen start (done j verdict read outcomes) outcomes.commands b
  pub complete : AreComplete j verdict read outcomes ⊎ IsAtEnd b
  pub far : ReadFar j (status_at e) verdict read outcomes b

-- where the devices are opened nothing is read or said
pub start_reached : (a b : Seen) (p : Program) (r : Reader) (devices : WorldState) → Starts a b p r devices → Reached a b p [] devices
start_reached a b p r devices s = record {
  part = s.read;
  part_read = s.part_read;
  reads_part = s.does;
  is_whole = s.is_whole;
  devices = devices;
  opened = b;
  opens = s.opens;
  mid = b;
  acts = (refl, refl);
  ahead = [];
  reads = does-nil b;
}

pub starts_so_far : (a b : Seen) (p : Program) (r : Reader) (devices : WorldState) → Starts a b p r devices → SoFar a b p r devices
starts_so_far a b p r devices s = record {
  front = s.front;
  head = s.head;
  raws = [];
  did = [];
  spelled = refl;
  read = s.read;
  plain = subst ArePlain (sym (append-nil s.head)) s.plain;
  divides = s.divides;
  program = s.program;
  whole = s.whole ∙ ap (λ l. flat_map ended l ++ r.chunk) (sym (append-nil s.head));
  taken = s.taken;
  few = s.few;
  goes = subst (λ x. Goes a b x []) (append-nil s.read) (goes_on a s.part_read b s.read [] [] [] (does_goes a s.part_read s.read [] s.does) s.opens.opening.goes);
  reached = start_reached a b p r devices s;
}

-- the program part and the lines behind a separator
pub part_at : (read : List ℕ) (failed : Bool) (front head raws : List (List ℕ)) (rest : List ℕ) → length read ≤ limit → split read ≡ (head ++ raws, rest) → ((lines : List (List ℕ)) → divided (head ++ lines) ≡ Some (front, lines))
    → part_of read failed ≡ Some (record { text = flat_map ended front; lines = map without_return raws ++ last_lines failed rest })
part_at read failed front head raws rest few parts divides =
    let part : Part = record { text = flat_map ended front; lines = map without_return raws ++ last_lines failed rest } in
    let is : part_in (head ++ raws, rest) failed ≡ Some part = rw (divides raws) refl in
    part_short read failed few ∙ ap (λ q. part_in q failed) parts ∙ is

-- the same of bytes that are cut at the limit
pub part_cut : (read : List ℕ) (failed : Bool) (front head raws : List (List ℕ)) (rest : List ℕ) → limit < length read → split (take limit read) ≡ (head ++ raws, rest) → ((lines : List (List ℕ)) → divided (head ++ lines) ≡ Some (front, lines))
    → part_of read failed ≡ Some (record { text = flat_map ended front; lines = map without_return raws ++ [] })
part_cut read failed front head raws rest over parts divides =
    let part : Part = record { text = flat_map ended front; lines = map without_return raws ++ [] } in
    let is : part_in (head ++ raws, rest) true ≡ Some part = rw (divides raws) refl in
    part_long read failed over ∙ ap (λ q. part_in q true) parts ∙ is

-- the program that a part is
pub judged_at : (p : Program) (part : Option Part) (text : List ℕ) (lines : List (List ℕ)) (stopped : Option (ℕ × Bool)) → part ≡ Some (record { text = text; lines = lines }) → Decides text (Accepted p) → IsJudged (Accepted p) part stopped
judged_at p part text lines stopped is h = subst (λ x. IsJudged (Accepted p) x stopped) (sym is) (inl h)

-- the session of a part whose program is accepted
pub session_at : (p : Program) (part : Option Part) (text : List ℕ) (lines : List (List ℕ)) → part ≡ Some (record { text = text; lines = lines }) → session_in (Accepted p) None part ≡ with_lines p lines
session_at p part text lines is = ap (session_in (Accepted p) None) is

raws_more : (raws : List (List ℕ)) (line : List ℕ) (more : List (List ℕ)) → map without_return (raws ++ line ∷ more) ≡ map without_return raws ++ without_return line ∷ map without_return more
raws_more raws line more = map-append without_return raws (line ∷ more)

-- more is read
pub goes_read : (a b c : Seen) (read bytes text : List ℕ) → Goes a b read text → Does b c bytes [] none → Goes a c (read ++ bytes) text
goes_read a b c read bytes text g d = subst (λ x. Goes a c (read ++ bytes) x) (append-nil text) (goes_on a b c read bytes text [] g (does_goes b c bytes [] d))

pub reached_read : (a b c : Seen) (p : Program) (did : List DoneLine) (now : WorldState) (bytes : List ℕ) → Reached a b p did now → Does b c bytes [] none → Reached a c p did now
reached_read a b c p did now bytes r d = record {
  part = r.part;
  part_read = r.part_read;
  reads_part = r.reads_part;
  is_whole = r.is_whole;
  devices = r.devices;
  opened = r.opened;
  opens = r.opens;
  mid = r.mid;
  acts = r.acts;
  ahead = r.ahead ++ bytes;
  reads = does_more r.mid b c r.ahead bytes [] r.reads d;
}

-- a line is done, and its answer said whole
pub reached_more : (a b c : Seen) (p : Program) (did : List DoneLine) (now after : WorldState) (line : List ℕ) → Reached a b p did now → (s : Serves p line now after b c Whole) → Reached a c p (did ++ line_done s ∷ []) after
reached_more a b c p did now after line r s = record {
  part = r.part;
  part_read = r.part_read;
  reads_part = r.reads_part;
  is_whole = r.is_whole;
  devices = r.devices;
  opened = r.opened;
  opens = r.opens;
  mid = c;
  acts = acts_more p did (line_done s) r.devices now after r.opened r.mid c r.acts (act_said r.mid b c p line now after r.ahead s r.reads);
  ahead = [];
  reads = does-nil c;
}

said_more : (p : Program) (did : List DoneLine) (l : DoneLine) → said_by p (did ++ l ∷ []) ≡ said_by p did ++ said_of p l.answer
said_more p did l = flat_map-append (λ (x : DoneLine). said_of p x.answer) did (l ∷ []) ∙ ap (λ x. said_by p did ++ x) (append-nil (said_of p l.answer))

pub goes_more : (a b c : Seen) (p : Program) (read : List ℕ) (did : List DoneLine) (now after : WorldState) (line : List ℕ) → Goes a b read (said_by p did) → (s : Serves p line now after b c Whole) → Goes a c read (said_by p (did ++ line_done s ∷ []))
goes_more a b c p read did now after line g s =
    let own : Goes b c [] (said_of p s.answer) = goes_on b s.done c [] [] [] (said_of p s.answer) (line_goes p line now after s.answer s.outcome b s.done s.does) (does_goes s.done c [] (said_of p s.answer) s.told) in
    subst (λ x. Goes a c x (said_by p (did ++ line_done s ∷ []))) (append-nil read) (subst (λ x. Goes a c (read ++ []) x) (sym (said_more p did (line_done s))) (goes_on a b c read [] (said_by p did) (said_of p s.answer) g own))

-- a line behind those that were done
parts_line : (read : List ℕ) (head raws : List (List ℕ)) (line chunk : List ℕ) → ArePlain (head ++ raws) → IsPlain line → read ≡ flat_map ended (head ++ raws) ++ (line ++ 10 ∷ chunk) → split read ≡ (head ++ (raws ++ line ∷ (split chunk).0), (split chunk).1)
parts_line read head raws line chunk plain here whole =
    let e : ((head ++ raws) ++ line ∷ []) ++ (split chunk).0 ≡ head ++ (raws ++ line ∷ (split chunk).0) = simp append_assoc in
    ap split (whole ∙ flat_more (head ++ raws) line chunk) ∙ split_lines ((head ++ raws) ++ line ∷ []) chunk (plain_more (head ++ raws) line plain here) ∙ ap (λ l. (l, (split chunk).1)) e

lines_at : (raws : List (List ℕ)) (line : List ℕ) (more : List (List ℕ)) (rest : List (List ℕ)) → map without_return (raws ++ line ∷ more) ++ rest ≡ map without_return raws ++ without_return line ∷ (map without_return more ++ rest)
lines_at raws line more rest = ap (λ l. l ++ rest) (raws_more raws line more) ∙ append_assoc (map without_return raws) (without_return line ∷ map without_return more) rest

longer : (xs : List (List ℕ)) (x : List ℕ) (ys : List (List ℕ)) → length xs + 1 ≤ length (xs ++ x ∷ ys)
longer xs x ys = omega (arith, length-append xs (x ∷ ys))

module _ (a b c : Seen) (p : Program) (r r' : Reader) (now : WorldState) (line' : Clipped) (most : ℕ) (s : SoFar a b p r now) where
  lines_so_far : List (List ℕ)
  lines_so_far = map without_return s.raws

  pub size_more : {end : List ℕ} → (d : Reads r r' line' most b c end) → r'.taken ≡ length (s.read ++ d.bytes)
  size_more d = taken_more r.taken r'.taken s.read d.bytes s.taken d.taken

  whole_line : (d : Reads r r' line' most b c (10 ∷ [])) → s.read ++ d.bytes ≡ flat_map ended (s.head ++ s.raws) ++ (d.line ++ 10 ∷ r'.chunk)
  whole_line d = read_more (flat_map ended (s.head ++ s.raws)) s.read r.chunk d.bytes d.line (10 ∷ r'.chunk) s.whole d.whole

  pub part_line : (d : Reads r r' line' most b c (10 ∷ [])) → r'.taken ≤ limit → (failed : Bool)
      → part_of (s.read ++ d.bytes) failed ≡ Some (record { text = flat_map ended s.front; lines = map without_return s.raws ++ without_return d.line ∷ (map without_return (split r'.chunk).0 ++ last_lines failed (split r'.chunk).1) })
  part_line d few failed =
      part_at (s.read ++ d.bytes) failed s.front s.head (s.raws ++ d.line ∷ (split r'.chunk).0) (split r'.chunk).1 (omega (arith, size_more d)) (parts_line (s.read ++ d.bytes) s.head s.raws d.line r'.chunk s.plain d.plain (whole_line d)) s.divides
      ∙ ap (λ l. let x : Part = record { text = flat_map ended s.front; lines = l } in Some x) (lines_at s.raws d.line (split r'.chunk).0 (last_lines failed (split r'.chunk).1))

  -- a whole line is in hand
  pub ready_line : (d : Reads r r' line' most b c (10 ∷ [])) → r'.taken ≤ limit → Ready a c p now (without_return d.line)
  ready_line d few =
      let rest = map without_return (split r'.chunk).0 in
      let size : length s.did ≡ length (map without_return s.raws) = sym (length-map s.did (λ (l : DoneLine). l.line)) ∙ ap length s.spelled in
      record {
        did = s.did;
        read = s.read ++ d.bytes;
        more = rest ++ (split r'.chunk).1 ∷ [];
        session = session_at p _ _ _ (part_line d few false) ∙ ap (λ l. with_lines p (l ++ without_return d.line ∷ (rest ++ (split r'.chunk).1 ∷ []))) (sym s.spelled);
        judged = λ stopped. judged_at p _ _ _ stopped (part_line d few false) s.program;
        few = omega (arith, size_more d);
        complete = inl (rw (part_line d few true) (rw size (longer (map without_return s.raws) (without_return d.line) (rest ++ []))));
        goes = goes_read a b c s.read d.bytes _ s.goes d.does;
        reached = reached_read a b c p s.did now d.bytes s.reached d.does;
      }

  whole_last : (d : Reads r r' line' most b c []) → r'.chunk ≡ [] → s.read ++ d.bytes ≡ flat_map ended (s.head ++ s.raws) ++ d.line
  whole_last d empty =
      read_more (flat_map ended (s.head ++ s.raws)) s.read r.chunk d.bytes d.line r'.chunk s.whole d.whole ∙ ap (λ l. flat_map ended (s.head ++ s.raws) ++ (d.line ++ l)) empty ∙ ap (λ l. flat_map ended (s.head ++ s.raws) ++ l) (append-nil d.line)

  pub part_last : (d : Reads r r' line' most b c []) → r'.taken ≤ limit → r'.chunk ≡ [] → (failed : Bool) → part_of (s.read ++ d.bytes) failed ≡ Some (record { text = flat_map ended s.front; lines = map without_return s.raws ++ last_lines failed d.line })
  part_last d few empty failed =
      part_at (s.read ++ d.bytes) failed s.front s.head s.raws d.line (omega (arith, size_more d)) (ap split (whole_last d empty) ∙ split_last (s.head ++ s.raws) d.line s.plain d.plain) s.divides

  -- the last line is in hand
  pub ready_end : (d : Reads r r' line' most b c []) → r'.taken ≤ limit → r'.chunk ≡ [] → IsAtEnd c → (q : Ready a c p now d.line) × (q.more ≡ [])
  ready_end d few empty end = (
    record {
      did = s.did;
      read = s.read ++ d.bytes;
      more = [];
      session = session_at p _ _ _ (part_last d few empty false) ∙ ap (λ l. with_lines p (l ++ d.line ∷ [])) (sym s.spelled);
      judged = λ stopped. judged_at p _ _ _ stopped (part_last d few empty false) s.program;
      few = omega (arith, size_more d);
      complete = inr end;
      goes = goes_read a b c s.read d.bytes _ s.goes d.does;
      reached = reached_read a b c p s.did now d.bytes s.reached d.does;
    },
    refl,
  )

  -- a whole line is done
  pub so_far_more : (e : Seen) (after : WorldState) → (d : Reads r r' line' most b c (10 ∷ [])) → r'.taken ≤ limit → Serves p (without_return d.line) now after c e Whole → SoFar a e p r' after
  so_far_more e after d few t =
      let line = without_return d.line in
      record {
        front = s.front;
        head = s.head;
        raws = s.raws ++ d.line ∷ [];
        did = s.did ++ line_done t ∷ [];
        spelled = map-append (λ (l : DoneLine). l.line) s.did (line_done t ∷ []) ∙ ap (λ l. l ++ line ∷ []) s.spelled ∙ sym (raws_more s.raws d.line []);
        read = s.read ++ d.bytes;
        plain = subst ArePlain (append_assoc s.head s.raws (d.line ∷ [])) (plain_more (s.head ++ s.raws) d.line s.plain d.plain);
        divides = s.divides;
        program = s.program;
        whole = whole_line d ∙ flat_more (s.head ++ s.raws) d.line r'.chunk ∙ ap (λ l. flat_map ended l ++ r'.chunk) (append_assoc s.head s.raws (d.line ∷ []));
        taken = size_more d;
        few = few;
        goes = goes_more a c e p (s.read ++ d.bytes) s.did now after line (goes_read a b c s.read d.bytes _ s.goes d.does) t;
        reached = reached_more a c e p s.did now after line (reached_read a b c p s.did now d.bytes s.reached d.does) t;
      }

-- ---- worlds

-- a world in which a run may begin is there when the devices are opened
pub begun_in : (a b : Seen) (p : Program) (w : World) (read text : List ℕ) → Does a b read text none → Begins p w a → Begins p w b
begun_in a b p w read text d h = begins_on p w a b read text none d h

-- what was said so far, and the world that the devices are, for each world in which the run may begin
pub record IsTold (p : Program) (did : List DoneLine) (now : WorldState) (w : World) (b : Seen) : Type 0 where
  pub says : said_by p did ≡ texts p w (lines_in did) (outcomes_in did)
  pub stands : IsWorldOf p (lines_after p w (lines_in did) (outcomes_in did)) now b
  pub told : b.told ≡ true

pub reached_told : (a b : Seen) (p : Program) (did : List DoneLine) (now : WorldState) (w : World) → Reached a b p did now → Begins p w a → IsTold p did now w b
reached_told a b p did now w r h =
    let begins : Begins p w r.part_read = begun_in a r.part_read p w r.part [] r.reads_part h in
    let opened_told : r.opened.told ≡ true = r.opens.opening.goes.does.moves.told ∙ begins.told in
    let acted = acts_world p did r.devices now r.opened r.mid w opened_told r.acts (r.opens.stands w begins) in
    let mid_told : r.mid.told ≡ true = acts_told p did r.devices now r.opened r.mid r.acts ∙ opened_told in
    record {
      says = acted.0;
      stands = world_on p _ now r.mid b r.ahead [] none mid_told r.reads acted.1;
      told = r.reads.moves.told ∙ mid_told;
    }
