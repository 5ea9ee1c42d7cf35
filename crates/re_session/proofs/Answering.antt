-- A line that was done is done as the definitions say.
use Rattle.std.proofs.Common.{ℕ, ◌≡◌, ◌≢◌, List, Bool, true, false, Option, Some, None, Result, Ok, Err, refl, sym, ap, subst, ◌∙◌, true≢false}
use mathlib.Core.Bool.{Bool-set}
use Rattle.re_commands.specs.Commanding.{commanded}
use Rattle.re_commands.specs.declared.fault.CommandFault.{CommandFault}
use Rattle.re_commands.specs.declared.fault.CommandFault.TheVariants as fault
use Rattle.re_outside.specs.Outside.{Seen, content_in}
use Rattle.re_record.specs.Stores.{HasStore, Stored}
use Rattle.re_session.proofs.Acting.{asked_goes}
use Rattle.re_session.specs.LineAnswers.{fault_code}
use Rattle.re_session.specs.Serving.{LineAnswers, Serves, asks, finds_no_memory, is_faulty, said_of}
use Rattle.re_terms.specs.DeviceWorlds.{Fine, Memory}
use Rattle.re_terms.specs.Worlds.{plain_answer}
use Rattle.re_terms.specs.declared.command.Answer.{Answer}
use Rattle.re_terms.specs.declared.command.Answer.TheVariants as answer
use Rattle.re_terms.specs.declared.command.Command.{Command}
use Rattle.re_terms.specs.declared.command.Command.TheVariants as command
use Rattle.re_terms.specs.declared.program.Program.{Program}
use Rattle.re_world.specs.State.{WorldState, device_in}
use Rattle.re_world.specs.Stepping.{DoesCommand, IsRestartAnswer}

-- a line that the reader refused: with the line's fault, or for want of memory
pub fault_answered : (p : Program) (line : List ℕ) (v : WorldState) (s : Seen) (r : Result (Option Command) CommandFault) (f : CommandFault) (code : ℕ) → r ≡ Err f → code ≡ fault_code f
    → (r ≢ Err fault.Memory → r ≡ commanded p line) → (commanded p line ≡ Ok None → r ≡ Ok None) → LineAnswers p line v v (Some (answer.No code)) s s
fault_answered p line v s r f code is code_is reads quiet = subst (λ n. LineAnswers p line v v (Some (answer.No n)) s s) (sym code_is) (by f is)
  where
    other : (f : CommandFault) → f ≢ fault.Memory → r ≡ Err f → LineAnswers p line v v (Some (answer.No (fault_code f))) s s
    other f n e = record { outcome = Fine; does = is_faulty (sym (reads (λ h. n (same f (sym e ∙ h)))) ∙ e) refl refl refl refl }
      where
        same : (f : CommandFault) → ◌≡◌ {A = Result (Option Command) CommandFault} (Err f) (Err fault.Memory) → f ≡ fault.Memory
        same f h = cc

    by : (f : CommandFault) → r ≡ Err f → LineAnswers p line v v (Some (answer.No (fault_code f))) s s
    by fault.Memory e = record { outcome = Memory; does = finds_no_memory (λ none. let h : ◌≡◌ {A = Result (Option Command) CommandFault} (Err fault.Memory) (Ok None) = sym e ∙ quiet none in absurd (cc)) refl refl refl refl }
    by fault.Syntax e = other fault.Syntax (λ h. absurd (cc)) e
    by fault.Unknown e = other fault.Unknown (λ h. absurd (cc)) e
    by fault.Kind e = other fault.Kind (λ h. absurd (cc)) e
    by fault.Twice e = other fault.Twice (λ h. absurd (cc)) e
    by fault.Empty e = other fault.Empty (λ h. absurd (cc)) e
    by fault.TooMany e = other fault.TooMany (λ h. absurd (cc)) e

-- what the files of a device that is down are decides the answer to its restart
abbrev pub Decides : Program → Command → WorldState → Answer → Seen → Type 0
Decides p c before a old =
    (d : ℕ) (stored : Stored) → old.told ≡ true → c ≡ command.Restart d → device_in before d ≡ None → HasStore p d (content_in old d 0) (content_in old d 1) stored → IsRestartAnswer p d stored (plain_answer a)

-- a line that holds a command, which was done
pub command_answered : (p : Program) (line : List ℕ) (c : Command) (before after : WorldState) (a : Answer) (old new : Seen) → commanded p line ≡ Ok (Some c) → new.told ≡ old.told
    → DoesCommand old.told before after c a old new → Decides p c before a old → LineAnswers p line before after (Some a) old new
command_answered p line c before after a old new meant told does decided = by old.told refl
  where
    by : (b : Bool) → old.told ≡ b → LineAnswers p line before after (Some a) old new
    by true is = record {
      outcome = (does.stepped is).outcome;
      does = asks meant refl (record {
        does = does;
        fared = λ t. ap (λ (e : old.told ≡ true). (does.stepped e).outcome) (Bool-set old.told true t is);
        decided = decided;
        goes = asked_goes c before after a old new told does;
      });
    }
    by false is = record {
      outcome = Fine;
      does = asks meant refl (record {
        does = does;
        fared = λ t. absurd (true≢false (sym t ∙ is));
        decided = decided;
        goes = asked_goes c before after a old new told does;
      });
    }

-- the command that the reader found is the line's
pub meant_command : (p : Program) (line : List ℕ) (r : Result (Option Command) CommandFault) (c : Command) → r ≡ Ok (Some c) → (r ≢ Err fault.Memory → r ≡ commanded p line) → commanded p line ≡ Ok (Some c)
meant_command p line r c is reads = sym (reads (λ h. other (sym is ∙ h))) ∙ is
  where
    other : ◌≡◌ {A = Result (Option Command) CommandFault} (Ok (Some c)) (Err fault.Memory) → ⊥
    other h = absurd (cc)

-- a line that has this answer, and what becomes of it
pub served : (p : Program) (line : List ℕ) (before after : WorldState) (a : Answer) (old done new : Seen) (Told : Seen → Seen → List ℕ → Type 0) → LineAnswers p line before after (Some a) old done → Told done new (said_of p (Some a)) → Serves p line before after old new Told
served p line before after a old done new Told answers told = record { answer = Some a; outcome = answers.outcome; done = done; does = answers.does; told = told }
