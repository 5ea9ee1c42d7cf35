-- What was acknowledged is held by the files.
use Rattle.std.proofs.Common.{Err, ◌≡◌, ◌+◌, ◌++◌, ◌∷◌, ◌<◌, ◌≤◌, [], ℕ, zero, suc, Bool, true, false, List, None, Ok, Option, Some, ap, arith, inl, inr, length, refl, subst, sym, take, ◌∙◌}
use Rattle.std.specs.Prelude.{if◌then◌else◌, slice_get}
use Rattle.std.proofs.lemmas.Bool.{cases_lt}
use Rattle.std.proofs.lemmas.List.{length-append}
use Rattle.std.proofs.lemmas.Option.{slice_get_within}
use Rattle.std.proofs.Math.Seq.{take-length}
use Rattle.re_commands.specs.Commanding.{commanded}
use Rattle.re_print.specs.AnswerTexts.{answer_text}
use Rattle.re_session.specs.Acts.{DoneLine}
use Rattle.re_session.specs.LineAnswers.{Reading, line_after, line_text}
use Rattle.re_session.specs.Stops.{HoldsAcknowledged, texts_of, world_of}
use Rattle.re_terms.proofs.Acknowledging.{told_within}
use Rattle.re_terms.specs.DeviceWorlds.{Outcome, World, is_for, reply, settled_number, world_after}
use Rattle.re_terms.specs.Lines.{Done, further, greater_of, number_told}
use Rattle.re_terms.specs.declared.command.Command.{Command}
use Rattle.re_terms.specs.declared.program.Program.{Program}
use Rattle.re_world.specs.Images.{Restores}

-- ---- settled numbers only grow

no_less_greater : (n : ℕ) (m : Option ℕ) → n ≤ greater_of n m
no_less_greater n None = omega arith
no_less_greater n (Some m) = omega arith

one_told : (p : Program) (w : World) (c : Command) (o : Outcome) (d n : ℕ) → n ≤ settled_number w d → (if is_for d c then greater_of n (number_told (reply p w c o)) else n) ≤ settled_number (world_after p w c o) d
one_told p w c o d n h = told_within p w (record { asked = c; outcome = o } ∷ []) d n h

one_grows : (p : Program) (w : World) (c : Command) (o : Outcome) (d : ℕ) → settled_number w d ≤ settled_number (world_after p w c o) d
one_grows p w c o d = by_device (is_for d c) refl
  where
    by_device : (b : Bool) → is_for d c ≡ b → settled_number w d ≤ settled_number (world_after p w c o) d
    by_device true e =
        let k : greater_of (settled_number w d) (number_told (reply p w c o)) ≤ settled_number (world_after p w c o) d = subst (λ b. (if b then greater_of (settled_number w d) (number_told (reply p w c o)) else settled_number w d) ≤ settled_number (world_after p w c o) d) e (one_told p w c o d (settled_number w d) (omega arith)) in
        let l = no_less_greater (settled_number w d) (number_told (reply p w c o)) in
        omega (arith, k, l)
    by_device false e = subst (λ b. (if b then greater_of (settled_number w d) (number_told (reply p w c o)) else settled_number w d) ≤ settled_number (world_after p w c o) d) e (one_told p w c o d (settled_number w d) (omega arith))

line_grows : (p : Program) (w : World) (l : Reading) (o : Outcome) (d : ℕ) → settled_number w d ≤ settled_number (line_after p w l o) d
line_grows p w (Ok None) o d = omega arith
line_grows p w (Ok (Some c)) o d = one_grows p w c o d
line_grows p w (Err f) o d = omega arith

lines_grow : (p : Program) (w : World) (lines : List DoneLine) (d : ℕ) → settled_number w d ≤ settled_number (world_of p w lines) d
lines_grow p w [] d = omega arith
lines_grow p w (l ∷ lines) d =
    let k = line_grows p w (commanded p l.line) l.outcome d in
    let n = lines_grow p (line_after p w (commanded p l.line) l.outcome) lines d in
    omega (arith, k, n)

settled_grow : (p : Program) (w : World) (lines : List DoneLine) (d i j : ℕ) → i ≤ j → settled_number (world_of p w (take i lines)) d ≤ settled_number (world_of p w (take j lines)) d
settled_grow p w lines d zero j h = lines_grow p w (take j lines) d
settled_grow p w [] d (suc i) j h = lines_grow p w (take j []) d
settled_grow p w (l ∷ lines) d (suc i) zero h = absurd (omega (arith, h))
settled_grow p w (l ∷ lines) d (suc i) (suc j) h = settled_grow p (line_after p w (commanded p l.line) l.outcome) lines d i j (omega (arith, h))

-- ---- one line behind others

-- a number that a line tells is settled behind it
told_is_settled : (p : Program) (w : World) (c : Command) (o : Outcome) (d n : ℕ) → is_for d c ≡ true → number_told (reply p w c o) ≡ Some n → n ≤ settled_number (world_after p w c o) d
told_is_settled p w c o d n mine tells =
    let k : (if is_for d c then greater_of 0 (number_told (reply p w c o)) else 0) ≤ settled_number (world_after p w c o) d = one_told p w c o d 0 (omega arith) in
    let l : greater_of 0 (Some n) ≤ settled_number (world_after p w c o) d = subst (λ m. greater_of 0 m ≤ settled_number (world_after p w c o) d) tells (subst (λ b. (if b then greater_of 0 (number_told (reply p w c o)) else 0) ≤ settled_number (world_after p w c o) d) mine k) in
    omega (arith, l)

told_behind : (p : Program) (w : World) (lines : List DoneLine) (before d n : ℕ) (l : DoneLine) (c : Command) → slice_get lines before ≡ Some l → commanded p l.line ≡ Ok (Some c) → is_for d c ≡ true
    → number_told (reply p (world_of p w (take before lines)) c l.outcome) ≡ Some n → n ≤ settled_number (world_of p w (take (suc before) lines)) d
told_behind p w [] before d n l c at meant mine tells = absurd (cc)
told_behind p w (x ∷ lines) zero d n l c at meant mine tells =
    let same : l ≡ x = cc in
    let means : commanded p x.line ≡ Ok (Some c) = ap (λ (y : DoneLine). commanded p y.line) (sym same) ∙ meant in
    subst (λ r. n ≤ settled_number (line_after p w r x.outcome) d) (sym means) (told_is_settled p w c x.outcome d n mine (subst (λ (y : DoneLine). number_told (reply p w c y.outcome) ≡ Some n) same tells))
told_behind p w (x ∷ lines) (suc before) d n l c at meant mine tells = told_behind p (line_after p w (commanded p x.line) x.outcome) lines before d n l c at meant mine tells

-- ---- lengths of what lines say

pub texts_grow : (p : Program) (w : World) (lines : List DoneLine) (i j : ℕ) → i ≤ j → length (texts_of p w (take i lines)) ≤ length (texts_of p w (take j lines))
texts_grow p w lines zero j h = omega arith
texts_grow p w [] (suc i) j h = omega arith
texts_grow p w (l ∷ lines) (suc i) zero h = absurd (omega (arith, h))
texts_grow p w (l ∷ lines) (suc i) (suc j) h =
    let w' = line_after p w (commanded p l.line) l.outcome in
    let a = length-append (line_text p w (commanded p l.line) l.outcome) (texts_of p w' (take i lines)) in
    let b = length-append (line_text p w (commanded p l.line) l.outcome) (texts_of p w' (take j lines)) in
    let k = texts_grow p w' lines i j (omega (arith, h)) in
    omega (arith, a, b, k)

-- a command has an answer
command_says : (p : Program) (w : World) (lines : List DoneLine) (before : ℕ) (l : DoneLine) (c : Command) → slice_get lines before ≡ Some l → commanded p l.line ≡ Ok (Some c)
    → length (texts_of p w (take before lines)) < length (texts_of p w (take (suc before) lines))
command_says p w [] before l c at meant = absurd (cc)
command_says p w (x ∷ lines) zero l c at meant =
    let same : l ≡ x = cc in
    let means : commanded p x.line ≡ Ok (Some c) = ap (λ (y : DoneLine). commanded p y.line) (sym same) ∙ meant in
    let text = answer_text p (reply p w c x.outcome) in
    let k : length (line_text p w (Ok (Some c)) x.outcome ++ []) ≡ length (line_text p w (Ok (Some c)) x.outcome) + 0 = length-append (line_text p w (Ok (Some c)) x.outcome) [] in
    let n : length (text ++ 10 ∷ []) ≡ length text + 1 = length-append text (10 ∷ []) in
    subst (λ r. 0 < length (line_text p w r x.outcome ++ [])) (sym means) (omega (arith, k, n))
command_says p w (x ∷ lines) (suc before) l c at meant =
    let w' = line_after p w (commanded p x.line) x.outcome in
    let a = length-append (line_text p w (commanded p x.line) x.outcome) (texts_of p w' (take before lines)) in
    let b = length-append (line_text p w (commanded p x.line) x.outcome) (texts_of p w' (take (suc before) lines)) in
    let k = command_says p w' lines before l c at meant in
    omega (arith, a, b, k)

-- ---- what is held

-- where what was said is a front of the answers to the first lines, what was acknowledged is settled behind them, and so it is held
pub holds_acknowledged : (p : Program) (w : World) (lines : List DoneLine) (answered : ℕ) (under_way : Option Done) (text rest : List ℕ) (files : ℕ → ℕ → List ℕ) (restored : Restores p (world_of p w (take answered lines)) under_way files)
    → texts_of p w (take answered lines) ≡ text ++ rest → HoldsAcknowledged p w lines text (world_of p w (take answered lines)) under_way files restored
holds_acknowledged p w lines answered under_way text rest files restored front d number below a =
    let v = world_of p w (take answered lines) in
    let opens = restored.opens d below in
    let among : a.before < answered = before_these in
    let settled = settled_grow p w lines d (suc a.before) answered (omega (arith, among)) in
    let told = told_behind p w lines a.before d number a.line a.asked a.at a.commands a.is_for_it a.tells in
    let holds = opens.number_is in
    let more = length-append (v.settled d) (take (restored.more d) (further p v under_way d)) in
    omega (arith, settled, told, holds, more)
  where
    before_these : a.before < answered
    before_these = elim (cases_lt a.before answered) [
      | inl less ↦ less
      | inr past ↦
          let grows = texts_grow p w lines answered a.before past in
          let says = command_says p w lines a.before a.line a.asked a.at a.commands in
          let whole = a.whole in
          let lengths = ap length front in
          let parts = length-append text rest in
          absurd (omega (arith, grows, says, whole, lengths, parts))
    ]

-- behind all lines the files hold what any of them told
pub holds_told : (p : Program) (w : World) (lines : List DoneLine) (text : List ℕ) (under_way : Option Done) (files : ℕ → ℕ → List ℕ) (restored : Restores p (world_of p w lines) under_way files) → HoldsAcknowledged p w lines text (world_of p w lines) under_way files restored
holds_told p w lines text under_way files restored d number below a =
    let v = world_of p w lines in
    let opens = restored.opens d below in
    let among = slice_get_within lines a.before a.line a.at in
    let settled : settled_number (world_of p w (take (suc a.before) lines)) d ≤ settled_number v d = subst (λ l. settled_number (world_of p w (take (suc a.before) lines)) d ≤ settled_number (world_of p w l) d) (take-length lines) (settled_grow p w lines d (suc a.before) (length lines) (omega (arith, among))) in
    let told = told_behind p w lines a.before d number a.line a.asked a.at a.commands a.is_for_it a.tells in
    let holds = opens.number_is in
    let more = length-append (v.settled d) (take (restored.more d) (further p v under_way d)) in
    omega (arith, settled, told, holds, more)
