-- The answers to commands, and what they are made of.
-- Read against: a device that took 4,096 entries takes no more; on `set s: int;` what is shown of s after insert s 4 is {4}, and of a var its word.
use Rattle.std.specs.Prelude.{ℕ, ◌-◌, ◌^◌, ◌||◌, Bool, true, false, if◌then◌else◌, List, nat_le, slice_get}
use Rattle.std.specs.Option.{option_map_or}
use Rattle.re_terms.specs.declared.word.Word.{Word}
use Rattle.re_terms.specs.declared.program.Program.{Program}
use Rattle.re_terms.specs.declared.command.Answer.{Answer}
use Rattle.re_terms.specs.declared.command.Answer.TheVariants as answer
use Rattle.re_terms.specs.declared.program.Body.{Body}
use Rattle.re_terms.specs.declared.program.Body.TheVariants as body
use Rattle.re_terms.specs.declared.program.Decl.{Decl}
use Rattle.re_terms.specs.Limits.{OperationFault, DotsSpent, SetFull, CounterFull}
use Rattle.re_terms.specs.Runs.{PlainState, plain_view}
use Rattle.re_terms.specs.Shapes.{shape_of}
use Rattle.re_terms.specs.SignalWords.{replicated_place, signal_word}
use Rattle.re_terms.specs.Values.{value_at, value_elements}
use Rattle.re_terms.specs.WordOrder.{elements_of}

pub data PlainAnswer : Type 0 where
  -- the entry has this number and is settled
  Entered : (number : ℕ) → PlainAnswer
  -- the entry has this number and is unsettled
  Applied : (number : ℕ) → PlainAnswer
  -- all entries up to this number are settled
  Settled : (number : ℕ) → PlainAnswer
  Value : (word : Word) → PlainAnswer
  -- a set's elements, each once, ascending
  Members : (elements : List Word) → PlainAnswer
  -- the packet with this number was made
  Packet : (number : ℕ) → PlainAnswer
  -- a packet's bytes
  Hex : (bytes : List ℕ) → PlainAnswer
  Down : PlainAnswer
  -- the device is up with so many entries
  Up : (number : ℕ) → PlainAnswer
  Refused : (code : ℕ) → PlainAnswer
  -- the device is stopped since this call
  StoppedAt : (call : ℕ) → PlainAnswer
  -- the store is bad in this file, at this place
  BadFile : (file : ℕ) (place : ℕ) → PlainAnswer

-- the answer of the code, as a plain one
abbrev pub plain_answer : Answer → PlainAnswer
plain_answer (answer.Entered n) = Entered n
plain_answer (answer.Applied n) = Applied n
plain_answer (answer.Settled n) = Settled n
plain_answer (answer.Value w) = Value w
plain_answer (answer.Members pairs) = Members (elements_of pairs.items)
plain_answer (answer.Packet n) = Packet n
plain_answer (answer.Hex bytes) = Hex bytes.items
plain_answer answer.Down = Down
plain_answer (answer.Up n) = Up n
plain_answer (answer.No code) = Refused code
plain_answer (answer.StoppedAt call) = StoppedAt call
plain_answer (answer.BadFile file place) = BadFile file place

-- a device that took so many entries since it was opened, the last of which has this number, takes no more
abbrev pub is_full : ℕ → ℕ → Bool
is_full count number = nat_le 4096 count || nat_le (2 ^ 48 - 1) number

-- the code of the limit that an operation would pass
abbrev pub limit_code : OperationFault → ℕ
limit_code SetFull = 30
limit_code CounterFull = 31
limit_code DotsSpent = 32

-- the declaration with this id is a set
abbrev pub is_set_body : Body → Bool
is_set_body (body.Set kind) = true
is_set_body b = false

abbrev pub is_set_at : List Decl → ℕ → Bool
is_set_at decls id = option_map_or (λ d. is_set_body d.body) (slice_get decls id) false

-- what `get` shows: the elements of a set, and the word of any other name
abbrev pub shown : Program → PlainState → ℕ → PlainAnswer
shown p s id = if is_set_at p.decls.items id then Members (value_elements (value_at (shape_of p) s.taken (replicated_place p.decls.items id))) else Value (signal_word p s.words (plain_view p s) id)
