-- What a stop leaves at each moment of a session.
use Rattle.std.proofs.Common.{◌≡◌, ◌++◌, ◌∷◌, ◌<◌, ◌≤◌, [], ℕ, zero, suc, List, None, Ok, Option, Some, ap, append_assoc, arith, length, refl, subst, sym, take, true, ◌∙◌}
use Rattle.std.specs.Prelude.{slice_get}
use Rattle.std.proofs.lemmas.List.{append-nil, append_cancel_left, length-append}
use Rattle.re_commands.specs.Commanding.{commanded}
use Rattle.re_outside.proofs.Does.{said-append}
use Rattle.re_outside.proofs.Elsewhere.{kept_by_outputs}
use Rattle.re_outside.proofs.Moments.{join, no_step, weaken}
use Rattle.re_outside.specs.Moment.{IsKept, Throughout}
use Rattle.re_outside.specs.Outside.{AreOutputs, Does, DoesWith, Faults, Seen, none, said}
use Rattle.re_outside.specs.Port.{past_in}
use Rattle.re_outside.specs.Trace.{IsBefore, IsJointImage, Past, with_steps}
use Rattle.re_outside.specs.declared.step.Step.{Step}
use Rattle.re_outside.specs.declared.step.Step.TheVariants as step
use Rattle.re_session.proofs.Acting.{line_goes, line_world}
use Rattle.re_session.proofs.Lasting.{world_on}
use Rattle.re_session.specs.Acts.{Act, Acts, DoneLine}
use Rattle.re_session.specs.LineAnswers.{line_after, line_text}
use Rattle.re_session.specs.Serving.{DoesAsked, DoesLine, asks, finds_no_memory, holds_none, is_faulty, said_of}
use Rattle.re_session.proofs.Acknowledged.{holds_acknowledged}
use Rattle.re_session.specs.Stops.{BeginsBehind, IsUnderWay, Stops, texts_of, world_of}
use Rattle.re_terms.specs.declared.command.Answer.{Answer}
use Rattle.re_terms.specs.declared.command.Command.{Command}
use Rattle.re_terms.specs.Admission.{device_count}
use Rattle.re_terms.specs.CausalWorlds.{IsCausalWorld}
use Rattle.re_terms.specs.DeviceWorlds.{World}
use Rattle.re_terms.specs.Lines.{Done}
use Rattle.re_terms.specs.declared.program.Program.{Program}
use Rattle.re_world.proofs.Held.{restores}
use Rattle.re_world.proofs.Within.{rests_line}
use Rattle.re_world.specs.Images.{Restores}
use Rattle.re_world.specs.Standing.{IsWorldOf}
use Rattle.re_world.specs.State.{WorldState}

-- a world at rest is what a stop leaves of it
pub rest_restores : (p : Program) (w : World) (v : WorldState) (s : Seen) (files : ℕ → ℕ → List ℕ) → IsWorldOf p w v s → IsJointImage (past_in 0 s) files → Restores p w None files
rest_restores p w v s files is images = restores p w None files is.causal (λ d. tt) (λ d below. rests_line p w None d (past_in d s) (files d 0) (files d 1) (is.files d below) (images d 0) (images d 1))

-- ---- parts of what is done

outputs_front : (xs ys : List Step) → AreOutputs (xs ++ ys) → AreOutputs xs
outputs_front [] ys o = tt
outputs_front (step.Say bytes ∷ xs) ys o = outputs_front xs ys o
outputs_front (step.Write device file at bytes ∷ xs) ys o = absurd o
outputs_front (step.Cut device file length ∷ xs) ys o = absurd o
outputs_front (step.Sync device file ∷ xs) ys o = absurd o
outputs_front (step.Fail call device file at bytes content ∷ xs) ys o = (o.0, outputs_front xs ys o.1)

-- the steps up to a moment and those behind it
pub parts : (x now y : Past) (steps : List Step) → y ≡ with_steps x steps → (on : IsBefore x now) (nn : IsBefore now y) → on.0 ++ nn.0 ≡ steps
parts x now y steps is on nn =
    append_cancel_left x.trace _ _ (sym (append_assoc x.trace on.0 nn.0) ∙ (ap (λ (l : List Step). l ++ nn.0) (sym (ap (λ (q : Past). q.trace) on.1)) ∙ (sym (ap (λ (q : Past). q.trace) nn.1) ∙ ap (λ (q : Past). q.trace) is)))

pub said_on : (x now : Past) (on : IsBefore x now) → said now.trace ≡ said x.trace ++ said on.0
said_on x now on = ap (λ (q : Past). said q.trace) on.1 ∙ said-append x.trace on.0

pub said_parts : (front back steps : List Step) → front ++ back ≡ steps → said steps ≡ said front ++ said back
said_parts front back steps e = sym (ap said e) ∙ said-append front back

pub none_front : (xs ys : List ℕ) → [] ≡ xs ++ ys → xs ≡ []
none_front [] ys e = refl
none_front (x ∷ xs) ys e = absurd (cc)

pub moved : {P : List Step → Type 0} (x y : Seen) (read text : List ℕ) (f : Faults) → x.told ≡ true → (d : DoesWith P x y read text f) → past_in 0 y ≡ with_steps (past_in 0 x) d.steps
moved x y read text f told d = λ i. record { device = 0; start = d.moves.start told i; trace = d.moves.trace told i }

-- A moment while bytes are read and a text is said: no file has changed, and a front of the text is said.
pub record While (x : Seen) (text : List ℕ) (now : Past) : Type 0 where
  pub kept : (d g : ℕ) → IsKept d g (past_in 0 x) now
  pub front : List ℕ
  pub tail : List ℕ
  pub whole : text ≡ front ++ tail
  pub says : said now.trace ≡ said x.trace ++ front

-- what a stop leaves then could have been left before
pub images_were : (x : Seen) (text : List ℕ) (now : Past) → While x text now → (files : ℕ → ℕ → List ℕ) → IsJointImage now files → IsJointImage (past_in 0 x) files
images_were x text now here files images = λ d g. (here.kept d g).images (files d g) (images d g)

pub throughout_outputs : (x y : Seen) (read text : List ℕ) (f : Faults) → x.told ≡ true → Does x y read text f → Throughout (past_in 0 x) (past_in 0 y) (While x text)
throughout_outputs x y read text f told d = record {
  goes_on = (d.steps, moved x y read text f told d);
  each = λ now on nn.
      let e = parts (past_in 0 x) now (past_in 0 y) d.steps (moved x y read text f told d) on nn in
      let o : AreOutputs on.0 = outputs_front on.0 nn.0 (subst AreOutputs (sym e) d.holds) in
      record {
        kept = λ i g. subst (IsKept i g (past_in 0 x)) (sym on.1) (kept_by_outputs i g (past_in 0 x) on.0 o);
        front = said on.0;
        tail = said nn.0;
        whole = sym d.says ∙ said_parts on.0 nn.0 d.steps e;
        says = said_on (past_in 0 x) now on;
      };
}

-- ---- what a stop leaves

-- what a stop leaves where all else is known holds what was acknowledged
stops_with : (p : Program) (w : World) (lines : List DoneLine) (base now : Past) (answered : ℕ) → answered ≤ length lines → (under_way : Option Done) → IsUnderWay p (slice_get lines answered) under_way
    → (text rest : List ℕ) → said now.trace ≡ said base.trace ++ text → texts_of p w (take answered lines) ≡ text ++ rest → ((first : ℕ) → first < answered → length (texts_of p w (take first lines)) ≤ length text) → BeginsBehind under_way rest
    → IsCausalWorld (device_count p.decls.items) (world_of p w (take answered lines)) → ((files : ℕ → ℕ → List ℕ) → IsJointImage now files → Restores p (world_of p w (take answered lines)) under_way files) → Stops p w lines base now
stops_with p w lines base now answered within under_way next text rest says front last begins causal restores = record {
  answered = answered;
  within = within;
  under_way = under_way;
  is_next = next;
  text = text;
  says = says;
  rest = rest;
  front = front;
  all_but_last = last;
  begins = begins;
  causal = causal;
  restores = restores;
  holds = λ files image. holds_acknowledged p w lines answered under_way text rest files (restores files image) front;
}

begins_behind : (under_way : Option Done) → BeginsBehind under_way []
begins_behind None = tt
begins_behind (Some c) = refl

-- before the first line is done
pub stop_here : (p : Program) (w : World) (lines : List DoneLine) (base now : Past) (under_way : Option Done) → said now.trace ≡ said base.trace → IsUnderWay p (slice_get lines 0) under_way → IsCausalWorld (device_count p.decls.items) w → ((files : ℕ → ℕ → List ℕ) → IsJointImage now files → Restores p w under_way files) → Stops p w lines base now
stop_here p w lines base now under_way says next causal restores = stops_with p w lines base now 0 (omega arith) under_way next [] [] (says ∙ sym (append-nil (said base.trace))) refl (λ first less. absurd (omega (arith, less))) (begins_behind under_way) causal restores

only_first : (p : Program) (w : World) (l : DoneLine) (lines : List DoneLine) (text : List ℕ) (first : ℕ) → first < 1 → length (texts_of p w (take first (l ∷ lines))) ≤ length text
only_first p w l lines text zero less = omega arith
only_first p w l lines text (suc n) less = absurd (omega (arith, less))

-- behind the first line, within the saying of its answer
stop_behind : (p : Program) (w : World) (l : DoneLine) (lines : List DoneLine) (base now : Past) (front tail : List ℕ) → said now.trace ≡ said base.trace ++ front → line_text p w (commanded p l.line) l.outcome ≡ front ++ tail → IsCausalWorld (device_count p.decls.items) (line_after p w (commanded p l.line) l.outcome) → ((files : ℕ → ℕ → List ℕ) → IsJointImage now files → Restores p (line_after p w (commanded p l.line) l.outcome) None files) → Stops p w (l ∷ lines) base now
stop_behind p w l lines base now front tail says whole causal restores = stops_with p w (l ∷ lines) base now 1 (omega arith) None tt front tail says (append-nil _ ∙ whole) (only_first p w l lines front) tt causal restores

-- all but the last answer, behind one more
one_more : (p : Program) (w : World) (l : DoneLine) (lines : List DoneLine) (answered : ℕ) (answer text : List ℕ) → line_text p w (commanded p l.line) l.outcome ≡ answer
    → ((first : ℕ) → first < answered → length (texts_of p (line_after p w (commanded p l.line) l.outcome) (take first lines)) ≤ length text)
    → (first : ℕ) → first < suc answered → length (texts_of p w (take first (l ∷ lines))) ≤ length (answer ++ text)
one_more p w l lines answered answer text is last zero less = omega arith
one_more p w l lines answered answer text is last (suc n) less =
    let w' = line_after p w (commanded p l.line) l.outcome in
    let a = length-append (line_text p w (commanded p l.line) l.outcome) (texts_of p w' (take n lines)) in
    let b = length-append answer text in
    let c = ap length is in
    let k = last n (omega (arith, less)) in
    omega (arith, a, b, c, k)

-- further on, behind the first line
stop_further : (p : Program) (w : World) (l : DoneLine) (lines : List DoneLine) (base mid now : Past) (answer : List ℕ) → said mid.trace ≡ said base.trace ++ answer → line_text p w (commanded p l.line) l.outcome ≡ answer → Stops p (line_after p w (commanded p l.line) l.outcome) lines mid now → Stops p w (l ∷ lines) base now
stop_further p w l lines base mid now answer says is s =
    stops_with p w (l ∷ lines) base now (suc s.answered) (let k = s.within in omega (arith, k)) s.under_way s.is_next (answer ++ s.text) s.rest
    (s.says ∙ ap (λ x. x ++ s.text) says ∙ append_assoc (said base.trace) answer s.text)
    (ap (λ x. x ++ texts_of p (line_after p w (commanded p l.line) l.outcome) (take s.answered lines)) is ∙ ap (λ x. answer ++ x) s.front ∙ sym (append_assoc answer s.text s.rest))
    (one_more p w l lines s.answered answer s.text is s.all_but_last)
    s.begins s.causal s.restores

-- ---- one line

module _ (p : Program) (w : World) (l : DoneLine) (lines : List DoneLine) (v v' : WorldState) (a b : Seen) (base : Past) (told : a.told ≡ true) (before : said a.trace ≡ said base.trace) (is : IsWorldOf p w v a) (d : DoesLine p l.line v v' l.answer l.outcome a b) where
  stops_still : b ≡ a → Throughout (past_in 0 a) (past_in 0 b) (Stops p w (l ∷ lines) base)
  stops_still same = no_step (past_in 0 a) (past_in 0 b) (Stops p w (l ∷ lines) base) (ap (past_in 0) same) (stop_here p w (l ∷ lines) base (past_in 0 a) None before tt is.causal (λ files images. rest_restores p w v a files is images))

  stops_asked : (c : Command) (x : Answer) → commanded p l.line ≡ Ok (Some c) → DoesAsked p c v v' x l.outcome a b → Throughout (past_in 0 a) (past_in 0 b) (Stops p w (l ∷ lines) base)
  stops_asked c x meant asked =
      let stepped = asked.does.stepped told in
      let within = stepped.restores p w is in
      let does = asked.goes.does in
      record {
        goes_on = within.goes_on;
        each = λ now on nn.
            let e = parts (past_in 0 a) now (past_in 0 b) does.steps (moved a b [] [] asked.goes.faults told does) on nn in
            let quiet : said on.0 ≡ [] = none_front (said on.0) (said nn.0) (sym does.says ∙ said_parts on.0 nn.0 does.steps e) in
            let says : said now.trace ≡ said base.trace = said_on (past_in 0 a) now on ∙ ap (λ t. said a.trace ++ t) quiet ∙ append-nil (said a.trace) ∙ before in
            stop_here p w (l ∷ lines) base now (Some (record { asked = c; outcome = stepped.outcome })) says (meant, asked.fared told) is.causal (within.each now on nn);
      }

  -- a stop within a line leaves the world before it, with its command under way or none
  pub stops_line : Throughout (past_in 0 a) (past_in 0 b) (Stops p w (l ∷ lines) base)
  stops_line = by d
    where
      by : DoesLine p l.line v v' l.answer l.outcome a b → Throughout (past_in 0 a) (past_in 0 b) (Stops p w (l ∷ lines) base)
      by (holds_none meant answer fared devices same) = stops_still same
      by (is_faulty meant answer fared devices same) = stops_still same
      by (finds_no_memory meant answer fared devices same) = stops_still same
      by (asks {c = c} {x = x} meant answer asked) = stops_asked c x meant asked

-- while bytes are read before a line, or behind the last, nothing has changed
pub stops_reading : (p : Program) (w : World) (lines : List DoneLine) (v : WorldState) (a b : Seen) (base : Past) (read : List ℕ) (f : Faults) → a.told ≡ true → said a.trace ≡ said base.trace → IsWorldOf p w v a → Does a b read [] f → Throughout (past_in 0 a) (past_in 0 b) (Stops p w lines base)
stops_reading p w lines v a b base read f told before is d =
    weaken (past_in 0 a) (past_in 0 b) (While a []) (Stops p w lines base)
    (λ now here.
    let quiet : here.front ≡ [] = none_front here.front here.tail here.whole in
    stop_here p w lines base now None (here.says ∙ ap (λ t. said a.trace ++ t) quiet ∙ append-nil (said a.trace) ∙ before) tt is.causal (λ files images. rest_restores p w v a files is (images_were a [] now here files images)))
    (throughout_outputs a b read [] f told d)

-- ---- many lines

-- A line is read, done and answered, and a stop leaves the world before it or behind it.
module _ (p : Program) (w : World) (l : DoneLine) (lines : List DoneLine) (v v' : WorldState) (a b : Seen) (told : a.told ≡ true) (is : IsWorldOf p w v a) (act : Act p l v v' a b) where
  abbrev after : World
  after = line_after p w (commanded p l.line) l.outcome

  begun_told : act.begun.told ≡ true
  begun_told = act.reads.moves.told ∙ told

  pub act_done_told : act.done.told ≡ true
  act_done_told = (line_goes p l.line v v' l.answer l.outcome act.begun act.done act.own).does.moves.told ∙ begun_told

  begun_is : IsWorldOf p w v act.begun
  begun_is = world_on p w v a act.begun act.read [] none told act.reads is

  led : (said_of p l.answer ≡ line_text p w (commanded p l.line) l.outcome) × IsWorldOf p after v' act.done
  led = line_world p l.line v v' l.answer l.outcome act.begun act.done w begun_told act.own begun_is

  said_begun : said act.begun.trace ≡ said a.trace
  said_begun = ap said (act.reads.moves.trace told) ∙ said-append a.trace act.reads.steps ∙ ap (λ t. said a.trace ++ t) act.reads.says ∙ append-nil (said a.trace)

  own_does : DoesWith (λ steps. Unit {0}) act.begun act.done [] [] (line_goes p l.line v v' l.answer l.outcome act.begun act.done act.own).faults
  own_does = (line_goes p l.line v v' l.answer l.outcome act.begun act.done act.own).does

  said_done : said act.done.trace ≡ said a.trace
  said_done = ap said (own_does.moves.trace begun_told) ∙ said-append act.begun.trace own_does.steps ∙ ap (λ t. said act.begun.trace ++ t) own_does.says ∙ append-nil (said act.begun.trace) ∙ said_begun

  pub act_said : said b.trace ≡ said a.trace ++ said_of p l.answer
  act_said = ap said (act.says.moves.trace act_done_told) ∙ said-append act.done.trace act.says.steps ∙ ap (λ t. said act.done.trace ++ t) act.says.says ∙ ap (λ t. t ++ said_of p l.answer) said_done

  pub act_told : b.told ≡ true
  act_told = act.says.moves.told ∙ act_done_told

  pub act_leads : IsWorldOf p after v' b
  act_leads = world_on p after v' act.done b [] (said_of p l.answer) none act_done_told act.says led.1

  pub act_text : line_text p w (commanded p l.line) l.outcome ≡ said_of p l.answer
  act_text = sym led.0

  saying : Throughout (past_in 0 act.done) (past_in 0 b) (Stops p w (l ∷ lines) (past_in 0 a))
  saying =
      weaken (past_in 0 act.done) (past_in 0 b) (While act.done (said_of p l.answer)) (Stops p w (l ∷ lines) (past_in 0 a))
      (λ now here. stop_behind p w l lines (past_in 0 a) now here.front here.tail (here.says ∙ ap (λ t. t ++ here.front) said_done) (act_text ∙ here.whole) led.1.causal (λ files images. rest_restores p after v' act.done files led.1 (images_were act.done (said_of p l.answer) now here files images)))
      (throughout_outputs act.done b [] (said_of p l.answer) none act_done_told act.says)

  pub stops_act : Throughout (past_in 0 a) (past_in 0 b) (Stops p w (l ∷ lines) (past_in 0 a))
  stops_act =
      join (past_in 0 a) (past_in 0 act.begun) (past_in 0 b) (Stops p w (l ∷ lines) (past_in 0 a))
      (stops_reading p w (l ∷ lines) v a act.begun (past_in 0 a) act.read none told refl is act.reads)
      (join (past_in 0 act.begun) (past_in 0 act.done) (past_in 0 b) (Stops p w (l ∷ lines) (past_in 0 a))
      (stops_line p w l lines v v' act.begun act.done (past_in 0 a) begun_told said_begun begun_is act.own)
      saying)

-- at each moment of lines that are done one behind the other
pub stops_acts : (p : Program) (w : World) (lines more : List DoneLine) (v v' : WorldState) (a b c : Seen) → a.told ≡ true → IsWorldOf p w v a → Acts p lines v v' a b
    → ((u : World) → u ≡ world_of p w lines → Throughout (past_in 0 b) (past_in 0 c) (Stops p u more (past_in 0 b))) → Throughout (past_in 0 a) (past_in 0 c) (Stops p w (lines ++ more) (past_in 0 a))
stops_acts p w [] more v v' a b c told is acts behind = subst (λ (s : Seen). Throughout (past_in 0 s) (past_in 0 c) (Stops p w more (past_in 0 s))) acts.1 (behind w refl)
stops_acts p w (l ∷ lines) more v v' a b c told is acts behind =
    let mid = acts.mid in
    let w' = line_after p w (commanded p l.line) l.outcome in
    let next = stops_acts p w' lines more acts.devices v' mid b c (act_told p w l (lines ++ more) v acts.devices a mid told is acts.here) (act_leads p w l (lines ++ more) v acts.devices a mid told is acts.here) acts.there behind in
    join (past_in 0 a) (past_in 0 mid) (past_in 0 c) (Stops p w (l ∷ (lines ++ more)) (past_in 0 a))
    (stops_act p w l (lines ++ more) v acts.devices a mid told is acts.here)
    (weaken (past_in 0 mid) (past_in 0 c) (Stops p w' (lines ++ more) (past_in 0 mid)) (Stops p w (l ∷ (lines ++ more)) (past_in 0 a))
    (λ now here. stop_further p w l (lines ++ more) (past_in 0 a) (past_in 0 mid) now (said_of p l.answer) (act_said p w l (lines ++ more) v acts.devices a mid told is acts.here) (act_text p w l (lines ++ more) v acts.devices a mid told is acts.here) here)
    next)
