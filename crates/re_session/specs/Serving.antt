-- What one line of a session does to the devices, their packets and their files, and what is said of it.
-- Read against: on `device a; var x: int = 0;` the line turn a x = 5 makes the calls of its commit and then says ok 1 whole; a blank line does and says nothing; turn a y = 1 makes no call and says no 21.
use Rattle.std.specs.Prelude.{◌≡◌, ◌≢◌, ℕ, List, [], true, Option, Some, None, Result, Ok, Err, ⊤}
use Rattle.re_commands.specs.Commanding.{commanded}
use Rattle.re_commands.specs.declared.fault.CommandFault.{CommandFault}
use Rattle.re_outside.specs.Outside.{Breaks, DoesWith, Does, Faults, Input, Output, Seen, content_in, none}
use Rattle.re_outside.specs.declared.step.Step.{Step}
use Rattle.re_record.specs.Stores.{HasStore, Stored}
use Rattle.re_session.specs.LineAnswers.{fault_code, said_answer}
use Rattle.re_session.specs.declared.line.SayFault.{SayFault}
use Rattle.re_session.specs.declared.line.SayFault.TheVariants as say_fault
use Rattle.re_terms.specs.DeviceWorlds.{Fine, Memory, Outcome}
use Rattle.re_terms.specs.Worlds.{plain_answer}
use Rattle.re_terms.specs.declared.command.Answer.{Answer}
use Rattle.re_terms.specs.declared.command.Answer.TheVariants as answer
use Rattle.re_terms.specs.declared.command.Command.{Command}
use Rattle.re_terms.specs.declared.command.Command.TheVariants as command
use Rattle.re_terms.specs.declared.program.Program.{Program}
use Rattle.re_world.specs.State.{WorldState, device_in}
use Rattle.re_world.specs.Stepping.{DoesCommand, IsRestartAnswer}

-- ---- a part of a session

-- These bytes are read and this text is said, files may be touched, and no call fails but on files.
pub record Goes (old new : Seen) (read text : List ℕ) : Type 0 where
  pub faults : Faults
  pub input : faults Input ≡ 0
  pub output : faults Output ≡ 0
  pub does : DoesWith (λ (steps : List Step). Unit {0}) old new read text faults

-- ---- a command

-- A command is one step of the world, which fared so where the outside tells what is seen; what the files are decides the answer to the restart of a device that is down.
pub record DoesAsked (p : Program) (c : Command) (before after : WorldState) (a : Answer) (outcome : Outcome) (old new : Seen) : Type 0 where
  pub does : DoesCommand old.told before after c a old new
  pub fared : (told : old.told ≡ true) → (does.stepped told).outcome ≡ outcome
  pub decided : (d : ℕ) (stored : Stored) → old.told ≡ true → c ≡ command.Restart d → device_in before d ≡ None → HasStore p d (content_in old d 0) (content_in old d 1) stored → IsRestartAnswer p d stored (plain_answer a)
  -- it says nothing
  pub goes : Goes old new [] []

-- ---- a line

-- A line is done, all but its answer: it holds no command, or is refused for a fault of its own or for want of memory, and then nothing is done, or its command is.
pub data DoesLine (p : Program) (line : List ℕ) (before after : WorldState) (a : Option Answer) (outcome : Outcome) (old new : Seen) : Type 0 where
  holds_none : commanded p line ≡ Ok None → a ≡ None → outcome ≡ Fine → after ≡ before → new ≡ old → DoesLine p line before after a outcome old new
  is_faulty : {f : CommandFault} → commanded p line ≡ Err f → a ≡ Some (answer.No (fault_code f)) → outcome ≡ Fine → after ≡ before → new ≡ old → DoesLine p line before after a outcome old new
  finds_no_memory : commanded p line ≢ Ok None → a ≡ Some (answer.No 36) → outcome ≡ Memory → after ≡ before → new ≡ old → DoesLine p line before after a outcome old new
  asks : {c : Command} {x : Answer} → commanded p line ≡ Ok (Some c) → a ≡ Some x → DoesAsked p c before after x outcome old new → DoesLine p line before after a outcome old new

-- what is said of an answer: its line, and nothing where there is none
abbrev pub said_of : Program → Option Answer → List ℕ
said_of p None = []
said_of p (Some a) = said_answer p (Some (plain_answer a))

-- a line has this answer, and is done but for saying it
pub record LineAnswers (p : Program) (line : List ℕ) (before after : WorldState) (a : Option Answer) (old new : Seen) : Type 0 where
  pub outcome : Outcome
  pub does : DoesLine p line before after a outcome old new

-- a line is done, and behind it this becomes of its answer
pub record Serves (p : Program) (line : List ℕ) (before after : WorldState) (old new : Seen) (Told : Seen → Seen → List ℕ → Type 0) : Type 0 where
  pub answer : Option Answer
  pub outcome : Outcome
  pub done : Seen
  pub does : DoesLine p line before after answer outcome old done
  pub told : Told done new (said_of p answer)

-- the answer is said whole
abbrev pub Whole : Seen → Seen → List ℕ → Type 0
Whole done new text = Does done new [] text none

-- memory ran out for it, and nothing is said
abbrev pub Unsaid : Seen → Seen → List ℕ → Type 0
Unsaid done new text = new ≡ done

-- a front of it is said, and then the output failed
abbrev pub Broken : Seen → Seen → List ℕ → Type 0
Broken done new text = Breaks done new text none

abbrev pub LineGives : Program → List ℕ → WorldState → WorldState → Seen → Seen → Result ⊤ SayFault → Type 0
LineGives p line before after old new (Ok x) = Serves p line before after old new Whole
LineGives p line before after old new (Err say_fault.Memory) = Serves p line before after old new Unsaid
LineGives p line before after old new (Err say_fault.Output) = Serves p line before after old new Broken
