-- How the lines of a session fare over files that stand for a world.
use Rattle.std.proofs.Common.{◌≡◌, ◌-◌, ◌++◌, ◌<◌, ◌≤◌, ◌^◌, [], ◌∷◌, ℕ, List, None, Ok, Option, Some, ap, arith, min, refl, subst, sym, true, ◌∙◌}
use Rattle.std.proofs.lemmas.List.Elements.{All-cons, All-nil}
use Rattle.re_commands.specs.Commanding.{commanded}
use Rattle.re_outside.specs.Outside.{Counts, Disk, DoesWith, FaultKind, Faults, Rose, Seen, content_in, none}
use Rattle.re_record.proofs.OneStore.{one_stored}
use Rattle.re_record.specs.Restoring.{Opened}
use Rattle.re_record.specs.Stores as stores
use Rattle.re_record.specs.Stores.{HasStore, Stored, opened}
use Rattle.re_session.proofs.Acting.{line_goes}
use Rattle.re_session.proofs.Lasting.{world_on}
use Rattle.re_session.proofs.Restarts.{restarts_below}
use Rattle.re_session.proofs.Stopping.{act_leads, act_told}
use Rattle.re_outside.specs.declared.step.Step.{Step}
use Rattle.re_session.specs.Acts.{Act, Acts, DoneLine}
use Rattle.re_session.specs.Fares.{Fares, FindsStore, IsCalm}
use Rattle.re_session.specs.LineAnswers.{line_after}
use Rattle.re_session.specs.Serving.{DoesLine, asks, finds_no_memory, holds_none, is_faulty, said_of}
use Rattle.re_terms.specs.Admission.{device_count}
use Rattle.re_terms.specs.DeviceWorlds.{BadStore, Failed, Fine, Memory, OtherProgram, Outcome, World}
use Rattle.re_terms.specs.Programs.{IsProgram}
use Rattle.re_terms.specs.declared.command.Answer.{Answer}
use Rattle.re_terms.specs.declared.command.Command.{Command}
use Rattle.re_terms.specs.declared.command.Command.TheVariants as command
use Rattle.re_terms.specs.declared.program.Program.{Program}
use Rattle.re_world.specs.Standing.{IsWorldOf}
use Rattle.re_world.specs.State.{WorldState}
use Rattle.re_world.specs.Stepping.{Shows}

-- ---- counts

-- a count is no less, or both stand at the type's end
abbrev pub Lasts : ℕ → ℕ → Type 0
Lasts before now = min before (2 ^ 64 - 1) ≤ now

abbrev pub AllLast : Seen → Seen → Type 0
AllLast a b = (kind : FaultKind) → Lasts (a.faults kind) (b.faults kind)

pub lasts : (n before now : ℕ) → Counts n before now → Lasts before now
lasts n before now c = let k = c.1 in omega (arith, k)

-- what rose in a part has risen in all
rose_in : (a b c d : ℕ) → Lasts a b → Rose b c → Lasts c d → Rose a d
rose_in a b c d first rose last = omega (arith, first, rose, last)

abbrev pub Quiet : Seen → Seen → Type 0
Quiet a b = (kind : FaultKind) → Rose (a.faults kind) (b.faults kind) → ⊥

quiet_in : (a b c d : Seen) → AllLast a b → AllLast c d → Quiet a d → Quiet b c
quiet_in a b c d first last quiet kind rose = quiet kind (rose_in (a.faults kind) (b.faults kind) (c.faults kind) (d.faults kind) (first kind) rose (last kind))

pub last_on : (a b c : Seen) → AllLast a b → AllLast b c → AllLast a c
last_on a b c f g kind = let x = f kind in let y = g kind in omega (arith, x, y)

pub stays : (a : Seen) → AllLast a a
stays a kind = omega arith

-- ---- one line

module _ (p : Program) (is_program : IsProgram p) (w : World) (v v' : WorldState) (a b : Seen) (told : a.told ≡ true) (is : IsWorldOf p w v a) where
  -- a store that stands for a world opens
  opens_where : (d : ℕ) → d < device_count p.decls.items → (stored : Stored) → HasStore v.program d (content_in a d 0) (content_in a d 1) stored → opened p d stored ≡ None → ⊥
  opens_where d below stored has closed =
      let there = (is.files d below).reads in
      let n = is_program.devices in
      let same : there.opens.0 ≡ stored = one_stored p d is_program (omega (arith, below, n)) (content_in a d 0) (content_in a d 1) there.opens.0 stored there.opens.1 (subst (λ q. HasStore q d (content_in a d 0) (content_in a d 1) stored) is.program has) in
      let no : ◌≡◌ {A = Option Opened} None (Some there.opened) = sym closed ∙ sym (ap (opened p d) same) ∙ there.opens.2 in
      absurd (cc)

  shown : (c : Command) (x : Outcome) → ((d : ℕ) → c ≡ command.Restart d → d < device_count p.decls.items) → Shows v v' c x a b → FindsStore x × (Quiet a b → IsCalm x)
  shown c Fine of h = (tt, λ q. tt)
  shown c Memory of h = (tt, λ q. tt)
  shown c (Failed at gate_open) of h = (tt, λ q. absurd (q (Disk h.0.device) h.0.rose))
  shown c (BadStore file place) of h = absurd (opens_where h.1.device (of h.1.device h.1.command_is) (stores.Bad file place) h.1.store refl)
  shown c OtherProgram of h = absurd (opens_where h.1.device (of h.1.device h.1.command_is) stores.OtherProgram h.1.store refl)

  fares_as : (x o : Outcome) → o ≡ x → FindsStore x × (Quiet a b → IsCalm x) → FindsStore o × (Quiet a b → IsCalm o)
  fares_as x o e h = subst (λ y. FindsStore y × (Quiet a b → IsCalm y)) (sym e) h

  pub line_fares : (line : List ℕ) (answer : Option Answer) (o : Outcome) → DoesLine p line v v' answer o a b → FindsStore o × (Quiet a b → IsCalm o)
  line_fares line answer o (holds_none meant a fared devices same) = fares_as Fine o fared (tt, λ q. tt)
  line_fares line answer o (is_faulty meant a fared devices same) = fares_as Fine o fared (tt, λ q. tt)
  line_fares line answer o (finds_no_memory meant a fared devices same) = fares_as Memory o fared (tt, λ q. tt)
  line_fares line answer o (asks {c = c} {x = x} meant a asked) = let stepped = asked.does.stepped told in fares_as stepped.outcome o (sym (asked.fared told)) (shown c stepped.outcome (λ d same. restarts_below p line d (meant ∙ ap (λ k. Ok (Some k)) same)) stepped.shows)

-- ---- many lines

-- the same over a longer part
pub fares_within : (lines : List DoneLine) (a b c d : Seen) → AllLast a b → AllLast c d → Fares lines b c → Fares lines a d
fares_within lines a b c d first last f = record { stores = f.stores; calm = λ q. f.calm (quiet_in a b c d first last q) }

pub fares_one : (l : DoneLine) (a b : Seen) → FindsStore l.outcome → (Quiet a b → IsCalm l.outcome) → Fares (l ∷ []) a b
fares_one l a b finds calm = record {
  stores = All-cons (λ (x : DoneLine). FindsStore x.outcome) l [] finds (All-nil (λ (x : DoneLine). FindsStore x.outcome));
  calm = λ q. All-cons (λ (x : DoneLine). IsCalm x.outcome) l [] (calm q) (All-nil (λ (x : DoneLine). IsCalm x.outcome));
}

pub fares_none : (a b : Seen) → Fares [] a b
fares_none a b = record { stores = All-nil (λ (x : DoneLine). FindsStore x.outcome); calm = λ q. All-nil (λ (x : DoneLine). IsCalm x.outcome) }

pub does_last : (a b : Seen) (read text : List ℕ) (f : Faults) (P : List Step → Type 0) → DoesWith P a b read text f → AllLast a b
does_last a b read text f P d kind = lasts (f kind) (a.faults kind) (b.faults kind) (d.moves.counts kind)

module _ (p : Program) (is_program : IsProgram p) where
  module _ (w : World) (l : DoneLine) (v v' : WorldState) (a b : Seen) (told : a.told ≡ true) (is : IsWorldOf p w v a) (act : Act p l v v' a b) where
    begun_last : AllLast a act.begun
    begun_last = does_last a act.begun act.read [] none _ act.reads

    own_last : AllLast act.begun act.done
    own_last = let g = line_goes p l.line v v' l.answer l.outcome act.begun act.done act.own in does_last act.begun act.done [] [] g.faults _ g.does

    says_last : AllLast act.done b
    says_last = does_last act.done b [] (said_of p l.answer) none _ act.says

    act_last : AllLast a b
    act_last = last_on a act.done b (last_on a act.begun act.done begun_last own_last) says_last

    act_fares : FindsStore l.outcome × (Quiet a b → IsCalm l.outcome)
    act_fares =
        let f = line_fares p is_program w v v' act.begun act.done (act.reads.moves.told ∙ told) (world_on p w v a act.begun act.read [] none told act.reads is) l.line l.answer l.outcome act.own in
        (f.0, λ q. f.1 (quiet_in a act.begun act.done b begun_last says_last q))

  acts_last : (lines : List DoneLine) (v v' : WorldState) (a b : Seen) → (w : World) → a.told ≡ true → IsWorldOf p w v a → Acts p lines v v' a b → AllLast a b
  acts_last [] v v' a b w told is acts = subst (λ s. AllLast a s) (sym acts.1) (stays a)
  acts_last (l ∷ lines) v v' a b w told is acts =
      last_on a acts.mid b (act_last w l v acts.devices a acts.mid told is acts.here)
      (acts_last lines acts.devices v' acts.mid b (line_after p w (commanded p l.line) l.outcome) (act_told p w l lines v acts.devices a acts.mid told is acts.here) (act_leads p w l lines v acts.devices a acts.mid told is acts.here) acts.there)

  -- lines that are done one behind the other, and more behind them
  pub acts_fare : (lines more : List DoneLine) (v v' : WorldState) (a b c : Seen) (w : World) → a.told ≡ true → IsWorldOf p w v a → Acts p lines v v' a b → AllLast b c → Fares more b c → Fares (lines ++ more) a c
  acts_fare [] more v v' a b c w told is acts last behind = subst (λ s. Fares more s c) acts.1 behind
  acts_fare (l ∷ lines) more v v' a b c w told is acts last behind =
      let w' = line_after p w (commanded p l.line) l.outcome in
      let there = act_told p w l lines v acts.devices a acts.mid told is acts.here in
      let leads = act_leads p w l lines v acts.devices a acts.mid told is acts.here in
      let rest = acts_fare lines more acts.devices v' acts.mid b c w' there leads acts.there last behind in
      let first = act_last w l v acts.devices a acts.mid told is acts.here in
      let others = last_on acts.mid b c (acts_last lines acts.devices v' acts.mid b w' there leads acts.there) last in
      let own = act_fares w l v acts.devices a acts.mid told is acts.here in
      record {
        stores = All-cons (λ (x : DoneLine). FindsStore x.outcome) l (lines ++ more) own.0 rest.stores;
        calm = λ q. All-cons (λ (x : DoneLine). IsCalm x.outcome) l (lines ++ more) (own.1 (quiet_in a a acts.mid c (stays a) others q)) (rest.calm (quiet_in a acts.mid c c first (stays c) q));
      }
