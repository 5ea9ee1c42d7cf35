-- What a stop leaves at each moment of a run.
use Rattle.std.proofs.Common.{◌≡◌, ◌++◌, ◌∷◌, [], ℕ, Bool, false, true, List, None, Option, Some, ap, inl, refl, subst, sym, ◌∙◌}
use Rattle.std.specs.Prelude.{map}
use Rattle.std.proofs.lemmas.List.{append-nil, map-append}
use Rattle.re_compact.specs.declared.fault.OpenFault.{OpenFault}
use Rattle.re_outside.proofs.Does.{breaks_does, fails_take, said-append}
use Rattle.re_outside.proofs.Moments.{at_end, join, no_step, weaken}
use Rattle.re_outside.specs.Moment.{IsKept, Throughout}
use Rattle.re_outside.specs.Outside.{Does, Faults, Seen, none, said}
use Rattle.re_outside.specs.Port.{past_in}
use Rattle.re_outside.specs.Trace.{IsJointImage, Past}
use Rattle.re_session.proofs.Acting.{acts_world, after-append, line_goes, line_world}
use Rattle.re_session.proofs.Faring.{AllLast, acts_fare, does_last, fares_none, fares_one, fares_within, last_on, lasts, line_fares, stays}
use Rattle.re_session.proofs.Lasting.{acts_told, begins_on, world_on}
use Rattle.re_session.specs.Fares.{Fares}
use Rattle.re_session.proofs.Stopping.{While, images_were, moved, none_front, parts, rest_restores, said_on, said_parts, stop_here, stops_acts, stops_line, stops_reading, throughout_outputs}
use Rattle.re_session.specs.Acts.{DoneLine}
use Rattle.re_session.specs.Begins.{Begins}
use Rattle.re_session.specs.LineAnswers.{lines_after}
use Rattle.re_session.specs.Serving.{Goes}
use Rattle.re_session.proofs.Acknowledged.{holds_told}
use Rattle.re_session.specs.Stops.{Stops, texts_of, world_of}
use Rattle.re_terms.specs.DeviceWorlds.{World}
use Rattle.re_terms.specs.Programs.{IsProgram}
use Rattle.re_terms.specs.declared.program.Program.{Program}
use Rattle.re_tool.specs.Acts.{Course, DoesLast, IsOpening, Ordered, opens_none, reads, serves}
use Rattle.re_tool.specs.Answers.{Session, done}
use Rattle.re_tool.specs.Session.{Closes, Halts, Runs}
use Rattle.re_tool.specs.Stops.{LeavesAll, LeavesStart, Survives, SurvivesLines}
use Rattle.re_tool.specs.Verdict.{Accepted}
use Rattle.re_tool.specs.declared.status.Status.{Status}
use Rattle.re_tool.specs.declared.status.Status.TheVariants as status
use Rattle.re_tool.specs.declared.words.Job.{Job}
use Rattle.re_tool.proofs.Endings.{fared_lines}
use Rattle.re_world.proofs.Started.{start_restores}
use Rattle.re_world.specs.Images.{Restores}
use Rattle.re_world.specs.Opening.{KeepsOpening}
use Rattle.re_world.specs.Standing.{IsWorldOf}
use Rattle.re_world.specs.State.{WorldState}

-- ---- the start

-- what a stop leaves while nothing is done restores to the start
start_left : (p : Program) (w : World) (a : Seen) (text : List ℕ) (now : Past) → IsProgram p → Begins p w a → While a text now → LeavesStart p w now
start_left p w a text now is b here files images =
    let keeps : KeepsOpening p (past_in 0 a) now = λ d first second x y. inl ((here.kept d 0).images first x, (here.kept d 1).images second y) in
    subst (λ x. Restores p x None files) (sym b.is) (start_restores p b.base b.base_number b.log (past_in 0 a) is b.starts now keeps files images)

-- the same while the program part is read
pub start_reading : (p : Program) (w : World) (a b : Seen) (read : List ℕ) → IsProgram p → Begins p w a → Does a b read [] none → Throughout (past_in 0 a) (past_in 0 b) (LeavesStart p w)
start_reading p w a b read is begins d = weaken (past_in 0 a) (past_in 0 b) (While a []) (LeavesStart p w) (λ now here. start_left p w a [] now is begins here) (throughout_outputs a b read [] none begins.told d)

-- nothing is said up to the opening's end
said_same : (a b : Seen) (read : List ℕ) → a.told ≡ true → Goes a b read [] → said b.trace ≡ said a.trace
said_same a b read told g = ap said (g.does.moves.trace told) ∙ said-append a.trace g.does.steps ∙ ap (λ t. said a.trace ++ t) g.does.says ∙ append-nil (said a.trace)

-- A moment at which this holds, and up to which nothing was said.
pub record Quiet (x : Seen) (P : Past → Type 0) (now : Past) : Type 0 where
  pub holds : P now
  pub says : said now.trace ≡ said x.trace

quiet_moments : (x y : Seen) (P : Past → Type 0) → x.told ≡ true → Goes x y [] [] → Throughout (past_in 0 x) (past_in 0 y) P → Throughout (past_in 0 x) (past_in 0 y) (Quiet x P)
quiet_moments x y P told g t = record {
  goes_on = t.goes_on;
  each = λ now on nn.
      let e = parts (past_in 0 x) now (past_in 0 y) g.does.steps (moved x y [] [] g.faults told g.does) on nn in
      let quiet : said on.0 ≡ [] = none_front (said on.0) (said nn.0) (sym g.does.says ∙ said_parts on.0 nn.0 g.does.steps e) in
      record { holds = t.each now on nn; says = said_on (past_in 0 x) now on ∙ ap (λ l. said x.trace ++ l) quiet ∙ append-nil (said x.trace) };
}

-- ---- behind the lines

-- what is said last leaves what a stop could have left before
pub last_outputs : (calm halted new : Seen) (failed : Bool) (last : List ℕ) (s : Status) (Q : Past → Type 0) → calm.told ≡ true → Halts failed calm halted → Closes halted new last s
    → ((now : Past) → ((d g : ℕ) → IsKept d g (past_in 0 calm) now) → Q now) → Throughout (past_in 0 calm) (past_in 0 new) Q
last_outputs calm halted new failed last s Q told halts closes q = join (past_in 0 calm) (past_in 0 halted) (past_in 0 new) Q (first failed halts) (behind s closes)
  where
    same_halted : (failed : Bool) → Halts failed calm halted → halted.told ≡ calm.told
    same_halted false h = ap (λ (x : Seen). x.told) h
    same_halted true f = f.moves.told

    nothing : (d g : ℕ) → IsKept d g (past_in 0 calm) (past_in 0 calm)
    nothing d g = record { content = refl; images = λ file image. image }

    first : (failed : Bool) → Halts failed calm halted → Throughout (past_in 0 calm) (past_in 0 halted) Q
    first false h = no_step (past_in 0 calm) (past_in 0 halted) Q (ap (past_in 0) h) (q (past_in 0 calm) nothing)
    first true f = weaken (past_in 0 calm) (past_in 0 halted) (While calm []) Q (λ now here. q now here.kept) (throughout_outputs calm halted [] [] _ told (fails_take calm halted f))

    kept_halted : (failed : Bool) → Halts failed calm halted → (d g : ℕ) → IsKept d g (past_in 0 calm) (past_in 0 halted)
    kept_halted false h d g = subst (λ (x : Seen). IsKept d g (past_in 0 calm) (past_in 0 x)) (sym h) (nothing d g)
    kept_halted true f d g = (at_end (past_in 0 calm) (past_in 0 halted) (While calm []) (throughout_outputs calm halted [] [] _ told (fails_take calm halted f))).kept d g

    on : (d g : ℕ) (now : Past) → IsKept d g (past_in 0 halted) now → IsKept d g (past_in 0 calm) now
    on d g now k = record { content = k.content ∙ (kept_halted failed halts d g).content; images = λ file image. (kept_halted failed halts d g).images file (k.images file image) }

    said_last : (text : List ℕ) (f : Faults) → Does halted new [] text f → Throughout (past_in 0 halted) (past_in 0 new) Q
    said_last text f d = weaken (past_in 0 halted) (past_in 0 new) (While halted text) Q (λ now here. q now (λ i g. on i g now (here.kept i g))) (throughout_outputs halted new [] text f (same_halted failed halts ∙ told) d)

    behind : (s : Status) → Closes halted new last s → Throughout (past_in 0 halted) (past_in 0 new) Q
    behind status.Output k = said_last k.front _ (breaks_does halted new last none k)
    behind status.Done k = said_last last none k
    behind status.Words k = said_last last none k
    behind status.Program k = said_last last none k
    behind status.Store k = said_last last none k
    behind status.OtherProgram k = said_last last none k
    behind status.Disk k = said_last last none k
    behind status.Input k = said_last last none k
    behind status.Memory k = said_last last none k
    behind status.TooLong k = said_last last none k
    behind status.Line k = said_last last none k

-- ---- the lines

-- behind a list of lines and one more
world_more : (p : Program) (w : World) (lines more : List DoneLine) → world_of p w (lines ++ more) ≡ world_of p (world_of p w lines) more
world_more p w lines more =
    ap (λ l. lines_after p w l (map (λ (x : DoneLine). x.outcome) (lines ++ more))) (map-append (λ (x : DoneLine). x.line) lines more)
    ∙ ap (lines_after p w (map (λ (x : DoneLine). x.line) lines ++ map (λ (x : DoneLine). x.line) more)) (map-append (λ (x : DoneLine). x.outcome) lines more)
    ∙ after-append p w (map (λ (x : DoneLine). x.line) lines) (map (λ (x : DoneLine). x.line) more) (map (λ (x : DoneLine). x.outcome) lines) (map (λ (x : DoneLine). x.outcome) more) (fared_lines lines)

-- the line that has no whole answer
last_stops : (p : Program) (u : World) (lines : List DoneLine) (v v' : WorldState) (a b : Seen) (base : Past) → a.told ≡ true → said a.trace ≡ said base.trace → IsWorldOf p u v a → DoesLast p lines v v' a b → Throughout (past_in 0 a) (past_in 0 b) (Stops p u lines base)
last_stops p u [] v v' a b base told says is d = no_step (past_in 0 a) (past_in 0 b) (Stops p u [] base) (ap (past_in 0) d.1) (stop_here p u [] base (past_in 0 a) None says tt is.causal (λ files images. rest_restores p u v a files is images))
last_stops p u (l ∷ []) v v' a b base told says is d = stops_line p u l [] v v' a b base told says is d
last_stops p u (l ∷ m ∷ lines) v v' a b base told says is d = absurd d

last_world : (p : Program) (u : World) (lines : List DoneLine) (v v' : WorldState) (a b : Seen) → a.told ≡ true → IsWorldOf p u v a → DoesLast p lines v v' a b → (b.told ≡ true) × IsWorldOf p (world_of p u lines) v' b
last_world p u [] v v' a b told is d = (subst (λ (s : Seen). s.told ≡ true) (sym d.1) told, subst (λ s. IsWorldOf p u v' s) (sym d.1) (subst (λ x. IsWorldOf p u x a) (sym d.0) is))
last_world p u (l ∷ []) v v' a b told is d = ((line_goes p l.line v v' l.answer l.outcome a b d).does.moves.told ∙ told, (line_world p l.line v v' l.answer l.outcome a b u told d is).1)
last_world p u (l ∷ m ∷ lines) v v' a b told is d = absurd d

-- the same since an earlier moment, from which nothing was said
rebased : (p : Program) (w : World) (lines : List DoneLine) (base earlier now : Past) → said base.trace ≡ said earlier.trace → Stops p w lines base now → Stops p w lines earlier now
rebased p w lines base earlier now same s = record {
  answered = s.answered;
  within = s.within;
  under_way = s.under_way;
  is_next = s.is_next;
  text = s.text;
  says = s.says ∙ ap (λ t. t ++ s.text) same;
  rest = s.rest;
  front = s.front;
  all_but_last = s.all_but_last;
  begins = s.begins;
  causal = s.causal;
  restores = s.restores;
  holds = s.holds;
}

-- a world at rest behind all lines
leaves_all : (p : Program) (w : World) (lines : List DoneLine) (v : WorldState) (s : Seen) (now : Past) → IsWorldOf p (world_of p w lines) v s → ((files : ℕ → ℕ → List ℕ) → IsJointImage now files → IsJointImage (past_in 0 s) files) → LeavesAll p w lines now
leaves_all p w lines v s now is were = record {
  causal = is.causal;
  restores = λ files images. rest_restores p (world_of p w lines) v s files is (were files images);
  holds = λ files images. holds_told p w lines (texts_of p w lines) None files (rest_restores p (world_of p w lines) v s files is (were files images));
}

module _ (old calm : Seen) (p : Program) (w : World) (lines unanswered : List DoneLine) (last : WorldState) (o : Ordered old calm p lines unanswered last) (begins : Begins p w old) where
  begins_part : Begins p w o.part_read
  begins_part = begins_on p w old o.part_read o.part [] none o.reads_part begins

  opened_told : o.opened.told ≡ true
  opened_told = o.opens.opening.goes.does.moves.told ∙ begins_part.told

  opened_is : IsWorldOf p w o.devices o.opened
  opened_is = o.opens.stands w begins_part

  acted : IsWorldOf p (world_of p w o.answered) o.before o.mid
  acted = (acts_world p o.answered o.devices o.before o.opened o.mid w opened_told o.acts opened_is).1

  mid_told : o.mid.told ≡ true
  mid_told = acts_told p o.answered o.devices o.before o.opened o.mid o.acts ∙ opened_told

  begun_told : o.begun.told ≡ true
  begun_told = o.reads.moves.told ∙ mid_told

  begun_is : IsWorldOf p (world_of p w o.answered) o.before o.begun
  begun_is = world_on p _ o.before o.mid o.begun o.ahead [] none mid_told o.reads acted

  said_part : said o.part_read.trace ≡ said old.trace
  said_part = ap said (o.reads_part.moves.trace begins.told) ∙ said-append old.trace o.reads_part.steps ∙ ap (λ t. said old.trace ++ t) o.reads_part.says ∙ append-nil (said old.trace)

  said_opened : said o.opened.trace ≡ said old.trace
  said_opened = said_same o.part_read o.opened [] begins_part.told o.opens.opening.goes ∙ said_part

  said_begun : said o.begun.trace ≡ said o.mid.trace
  said_begun = ap said (o.reads.moves.trace mid_told) ∙ said-append o.mid.trace o.reads.steps ∙ ap (λ t. said o.mid.trace ++ t) o.reads.says ∙ append-nil (said o.mid.trace)

  -- the world behind all lines
  pub all_world : (calm.told ≡ true) × IsWorldOf p (world_of p w lines) last calm
  all_world =
      let e = last_world p (world_of p w o.answered) unanswered o.before last o.begun calm begun_told begun_is o.own in
      (e.0, subst (λ x. IsWorldOf p x last calm) (sym (ap (world_of p w) o.these ∙ world_more p w o.answered unanswered)) e.1)

  behind_lines : (u : World) → u ≡ world_of p w o.answered → Throughout (past_in 0 o.mid) (past_in 0 calm) (Stops p u unanswered (past_in 0 o.mid))
  behind_lines u same =
      join (past_in 0 o.mid) (past_in 0 o.begun) (past_in 0 calm) (Stops p u unanswered (past_in 0 o.mid))
      (stops_reading p u unanswered o.before o.mid o.begun (past_in 0 o.mid) o.ahead none mid_told refl (subst (λ x. IsWorldOf p x o.before o.mid) (sym same) acted) o.reads)
      (last_stops p u unanswered o.before last o.begun calm (past_in 0 o.mid) begun_told said_begun (subst (λ x. IsWorldOf p x o.before o.begun) (sym same) begun_is) o.own)

  in_lines : Throughout (past_in 0 o.opened) (past_in 0 calm) (Stops p w (o.answered ++ unanswered) (past_in 0 o.opened))
  in_lines = stops_acts p w o.answered unanswered o.devices o.before o.opened o.mid calm opened_told opened_is o.acts behind_lines

  -- before the opening's end nothing is said, and what a stop leaves restores to the start
  before_lines : Throughout (past_in 0 old) (past_in 0 o.opened) (Stops p w lines (past_in 0 old))
  before_lines =
      join (past_in 0 old) (past_in 0 o.part_read) (past_in 0 o.opened) (Stops p w lines (past_in 0 old))
      (weaken (past_in 0 old) (past_in 0 o.part_read) (While old []) (Stops p w lines (past_in 0 old))
      (λ now here.
      let quiet : here.front ≡ [] = none_front here.front here.tail here.whole in
      let says : said now.trace ≡ said old.trace = here.says ∙ ap (λ t. said old.trace ++ t) quiet ∙ append-nil (said old.trace) in
      stop_here p w lines (past_in 0 old) now None says tt opened_is.causal (start_left p w old [] now o.opens.opening.is_program begins here))
      (throughout_outputs old o.part_read o.part [] none begins.told o.reads_part))
      (weaken (past_in 0 o.part_read) (past_in 0 o.opened) (Quiet o.part_read (LeavesStart p w)) (Stops p w lines (past_in 0 old))
      (λ now here. stop_here p w lines (past_in 0 old) now None (here.says ∙ said_part) tt opened_is.causal here.holds)
      (quiet_moments o.part_read o.opened (LeavesStart p w) begins_part.told o.opens.opening.goes (o.opens.opening.restores w begins_part)))

  -- at each moment up to the last line's end
  pub all_lines : Throughout (past_in 0 old) (past_in 0 calm) (Stops p w lines (past_in 0 old))
  all_lines =
      join (past_in 0 old) (past_in 0 o.opened) (past_in 0 calm) (Stops p w lines (past_in 0 old)) before_lines
      (weaken (past_in 0 o.opened) (past_in 0 calm) (Stops p w (o.answered ++ unanswered) (past_in 0 o.opened)) (Stops p w lines (past_in 0 old))
      (λ now here. subst (λ l. Stops p w l (past_in 0 old) now) (sym o.these) (rebased p w (o.answered ++ unanswered) (past_in 0 o.opened) (past_in 0 old) now said_opened here))
      in_lines)

  -- how the lines fared
  last_fares : (lines : List DoneLine) (v v' : WorldState) (a b : Seen) (u : World) → a.told ≡ true → IsWorldOf p u v a → DoesLast p lines v v' a b → AllLast a b × Fares lines a b
  last_fares [] v v' a b u told is d = (subst (λ s. AllLast a s) (sym d.1) (stays a), fares_none a b)
  last_fares (l ∷ []) v v' a b u told is d =
      let f = line_fares p o.opens.opening.is_program u v v' a b told is l.line l.answer l.outcome d in
      let g = line_goes p l.line v v' l.answer l.outcome a b d in
      (does_last a b [] [] g.faults _ g.does, fares_one l a b f.0 f.1)
  last_fares (l ∷ m ∷ lines) v v' a b u told is d = absurd d

  pub lines_fare : (new : Seen) → AllLast calm new → Fares (o.answered ++ unanswered) old new
  lines_fare new after =
      let own = last_fares unanswered o.before last o.begun calm (world_of p w o.answered) begun_told begun_is o.own in
      let acted_all = acts_fare p o.opens.opening.is_program o.answered unanswered o.devices o.before o.opened o.mid calm w opened_told opened_is o.acts (last_on o.mid o.begun calm (does_last o.mid o.begun o.ahead [] none _ o.reads) own.0) (fares_within unanswered o.mid o.begun calm calm (does_last o.mid o.begun o.ahead [] none _ o.reads) (stays calm) own.1) in
      let g = o.opens.opening.goes in
      fares_within (o.answered ++ unanswered) old o.opened calm new (last_on old o.part_read o.opened (does_last old o.part_read o.part [] none _ o.reads_part) (does_last o.part_read o.opened [] [] g.faults _ g.does)) after acted_all

  -- and to the end of what is said behind them
  pub whole_run : (halted new : Seen) (failed : Bool) (text : List ℕ) (s : Status) → Halts failed calm halted → Closes halted new text s → SurvivesLines p w lines (past_in 0 old) (past_in 0 calm) (past_in 0 new)
  whole_run halted new failed text s halts closes = record {
    during = all_lines;
    behind =
        last_outputs calm halted new failed text s (LeavesAll p w lines) all_world.0 halts closes
        (λ now kept. leaves_all p w lines last calm now all_world.1 (λ files images d g. (kept d g).images (files d g) (images d g)));
  }

-- ---- a whole run

-- no count is less at the end
closes_last : (halted new : Seen) (last : List ℕ) (s : Status) → Closes halted new last s → AllLast halted new
closes_last halted new last status.Output k = last_on halted k.before new (does_last halted k.before [] k.front none _ k.does) (λ kind. lasts _ _ _ (k.failed.moves.counts kind))
closes_last halted new last status.Done k = does_last halted new [] last none _ k
closes_last halted new last status.Words k = does_last halted new [] last none _ k
closes_last halted new last status.Program k = does_last halted new [] last none _ k
closes_last halted new last status.Store k = does_last halted new [] last none _ k
closes_last halted new last status.OtherProgram k = does_last halted new [] last none _ k
closes_last halted new last status.Disk k = does_last halted new [] last none _ k
closes_last halted new last status.Input k = does_last halted new [] last none _ k
closes_last halted new last status.Memory k = does_last halted new [] last none _ k
closes_last halted new last status.TooLong k = does_last halted new [] last none _ k
closes_last halted new last status.Line k = does_last halted new [] last none _ k

halts_last : (failed : Bool) (calm halted : Seen) → Halts failed calm halted → AllLast calm halted
halts_last false calm halted h = subst (λ s. AllLast calm s) (sym h) (stays calm)
halts_last true calm halted h = λ kind. lasts _ _ _ (h.moves.counts kind)

-- a device doesn't open
module _ (old calm halted new : Seen) (p : Program) (w : World) (u : ℕ × OpenFault) (read : List ℕ) (part_read : Seen) (d : Does old part_read read [] none) (opening : IsOpening p (Some u) part_read calm) (begins : Begins p w old) where
  begins_there : Begins p w part_read
  begins_there = begins_on p w old part_read read [] none d begins

  in_opening : Throughout (past_in 0 old) (past_in 0 calm) (LeavesStart p w)
  in_opening = join (past_in 0 old) (past_in 0 part_read) (past_in 0 calm) (LeavesStart p w) (start_reading p w old part_read read opening.is_program begins d) (opening.restores w begins_there)

  pub unopened_run : (failed : Bool) (text : List ℕ) (s : Status) → Halts failed calm halted → Closes halted new text s → Throughout (past_in 0 old) (past_in 0 new) (LeavesStart p w)
  unopened_run failed text s halts closes =
      join (past_in 0 old) (past_in 0 calm) (past_in 0 new) (LeavesStart p w) in_opening
      (last_outputs calm halted new failed text s (LeavesStart p w) (opening.goes.does.moves.told ∙ begins_there.told) halts closes
      (λ now kept files images. at_end (past_in 0 old) (past_in 0 calm) (LeavesStart p w) in_opening files (λ i g. (kept i g).images (files i g) (images i g))))

-- no device is opened
still_run : (old calm halted new : Seen) (read : List ℕ) (failed : Bool) (text : List ℕ) (s : Status) → old.told ≡ true → Does old calm read [] none → Halts failed calm halted → Closes halted new text s
    → Throughout (past_in 0 old) (past_in 0 new) (λ now. (files : ℕ → ℕ → List ℕ) → IsJointImage now files → IsJointImage (past_in 0 old) files)
still_run old calm halted new read failed text s told d halts closes =
    let Q : Past → Type 0 = λ now. (files : ℕ → ℕ → List ℕ) → IsJointImage now files → IsJointImage (past_in 0 old) files in
    let first = weaken (past_in 0 old) (past_in 0 calm) (While old []) Q (λ now here files images. images_were old [] now here files images) (throughout_outputs old calm read [] none told d) in
    join (past_in 0 old) (past_in 0 calm) (past_in 0 new) Q first
    (last_outputs calm halted new failed text s Q (d.moves.told ∙ told) halts closes (λ now kept files images. at_end (past_in 0 old) (past_in 0 calm) Q first files (λ i g. (kept i g).images (files i g) (images i g))))

one_session : (x y : Session) → ◌≡◌ {A = Option Session} (Some x) (Some y) → y ≡ x
one_session x y e = cc

one_unopened : (u v : ℕ × OpenFault) → ◌≡◌ {A = Option (ℕ × OpenFault)} (Some u) (Some v) → u ≡ v
one_unopened u v e = cc

one_program : (p q : Program) → Accepted p ≡ Accepted q → p ≡ q
one_program p q e = cc

module _ (j : Job) (old new : Seen) (s : Status) (r : Runs j old new s) where
  abbrev has : Option Session
  has = done j r.verdict r.read r.outcomes

  by_session : (x : Session) (w : World) → has ≡ Some x → Begins x.program w old → Course j r.verdict r.outcomes.unopened has r.lines r.unanswered old r.calm → SurvivesLines x.program w r.lines (past_in 0 old) (past_in 0 r.calm) (past_in 0 new)
  by_session x w is begins (reads lacks opens did un does) = let no : ◌≡◌ {A = Option Session} (Some x) None = sym is ∙ lacks in absurd (cc)
  by_session x w is begins (opens_none run accepted fault lacks did un does whole opening) = let no : ◌≡◌ {A = Option Session} (Some x) None = sym is ∙ lacks in absurd (cc)
  by_session x w is begins (serves {s = y} {last = last} run accepted opens own spelled ordered) =
      let same : y ≡ x = one_session x y (sym is ∙ own) in
      let o : Ordered old r.calm x.program r.lines r.unanswered last = subst (λ (z : Session). Ordered old r.calm z.program r.lines r.unanswered last) same ordered in
      whole_run old r.calm x.program w r.lines r.unanswered last o begins r.halted new r.outcomes.input_failed r.last s r.halts r.closes

  run_last : AllLast r.calm new
  run_last = last_on r.calm r.halted new (halts_last r.outcomes.input_failed r.calm r.halted r.halts) (closes_last r.halted new r.last s r.closes)

  fares_by : (x : Session) (w : World) → has ≡ Some x → Begins x.program w old → Course j r.verdict r.outcomes.unopened has r.lines r.unanswered old r.calm → Fares r.lines old new
  fares_by x w is begins (reads lacks opens did un does) = let no : ◌≡◌ {A = Option Session} (Some x) None = sym is ∙ lacks in absurd (cc)
  fares_by x w is begins (opens_none run accepted fault lacks did un does whole opening) = let no : ◌≡◌ {A = Option Session} (Some x) None = sym is ∙ lacks in absurd (cc)
  fares_by x w is begins (serves {s = y} {last = last} run accepted opens own spelled ordered) =
      let same : y ≡ x = one_session x y (sym is ∙ own) in
      let o : Ordered old r.calm x.program r.lines r.unanswered last = subst (λ (z : Session). Ordered old r.calm z.program r.lines r.unanswered last) same ordered in
      subst (λ l. Fares l old new) (sym o.these) (lines_fare old r.calm x.program w r.lines r.unanswered last o begins new run_last)

  by_opening : (p : Program) (w : World) (u : ℕ × OpenFault) → r.verdict ≡ Accepted p → r.outcomes.unopened ≡ Some u → Begins p w old → Course j r.verdict r.outcomes.unopened has r.lines r.unanswered old r.calm → Throughout (past_in 0 old) (past_in 0 new) (LeavesStart p w)
  by_opening p w u accepted is begins (reads lacks opens did un does) = let no : ◌≡◌ {A = Option (ℕ × OpenFault)} (Some u) None = sym is ∙ opens in absurd (cc)
  by_opening p w u accepted is begins (serves run verdict opens own spelled ordered) = let no : ◌≡◌ {A = Option (ℕ × OpenFault)} (Some u) None = sym is ∙ opens in absurd (cc)
  by_opening p w u accepted is begins (opens_none {p = q} {u = v} {read = read} {part_read = m} run verdict fault lacks did un does whole opening) =
      let same : q ≡ p = one_program q p (sym verdict ∙ accepted) in
      unopened_run old r.calm r.halted new p w v read m does (subst (λ x. IsOpening x (Some v) m r.calm) same opening) begins r.outcomes.input_failed r.last s r.halts r.closes

  by_reading : has ≡ None → r.outcomes.unopened ≡ None → old.told ≡ true → Course j r.verdict r.outcomes.unopened has r.lines r.unanswered old r.calm → Throughout (past_in 0 old) (past_in 0 new) (λ now. (files : ℕ → ℕ → List ℕ) → IsJointImage now files → IsJointImage (past_in 0 old) files)
  by_reading none opened told (reads {read = read} lacks opens did un does) = still_run old r.calm r.halted new read r.outcomes.input_failed r.last s told does r.halts r.closes
  by_reading none opened told (opens_none {u = v} run verdict fault lacks did un does whole opening) = let no : ◌≡◌ {A = Option (ℕ × OpenFault)} (Some v) None = sym fault ∙ opened in absurd (cc)
  by_reading none opened told (serves {s = y} run verdict opens own spelled ordered) = let no : ◌≡◌ {A = Option Session} (Some y) None = sym own ∙ none in absurd (cc)

  -- a run survives a stop at any of its moments
  pub survives : Survives j old new s
  survives = record {
    runs = r;
    fares = λ x w is begins. fares_by x w is begins r.course;
    session = λ x w is begins. by_session x w is begins r.course;
    unopened = λ p w u accepted is begins. by_opening p w u accepted is begins r.course;
    still = λ none opened told. by_reading none opened told r.course;
  }
