-- What one call of the reader does.
use Rattle.std.specs.Prelude.{ℕ, ◌≡◌, ◌≤◌, ◌+◌, ◌<◌, Bool, true, false, List, [], ◌∷◌, ◌++◌, Result, Ok, Err, length, take}
use Rattle.std.specs.declared.alloc.AllocError.{AllocError}
use Rattle.re_outside.specs.declared.step.Failed.{Failed}
use Rattle.re_outside.specs.Outside.{Seen, Does, Fails, IsAtEnd, none, input_fault}
use Rattle.re_outside.specs.declared.step.Call.TheVariants as call
use Rattle.re_tool.specs.declared.reader.Reader.{Reader}
use Rattle.re_tool.specs.declared.reader.Next.{Next}
use Rattle.re_tool.specs.declared.reader.Next.TheVariants as next
use Rattle.re_tool.specs.declared.reader.Halt.{Halt}
use Rattle.re_tool.specs.declared.reader.Halt.TheVariants as halt
use Rattle.re_tool.specs.declared.reader.Refill.{Refill}
use Rattle.re_tool.specs.declared.reader.Refill.TheVariants as refill
use Rattle.re_tool.specs.Lines.{IsPlain}
use Rattle.re_tool.specs.Clipped.{Clipped, clipped}

-- how many bytes of input may be taken
abbrev pub limit : ℕ
limit = 16777216

-- Bytes without an LF are passed over and come behind the line, and the LF where one was found; else no byte is ahead.
pub record Passes (old new : Reader) (line line' : Clipped) (end : List ℕ) : Type 0 where
  pub passed : List ℕ
  pub plain : IsPlain passed
  pub most : line'.most ≡ line.most
  pub kept : (before : List ℕ) → line.items ≡ take line.most before → line'.items ≡ take line.most (before ++ passed)
  pub whole : old.chunk ≡ passed ++ (end ++ new.chunk)
  pub taken : new.taken ≡ old.taken

abbrev pub ScanGives : Reader → Reader → Clipped → Clipped → Result Bool AllocError → Type 0
ScanGives old new line line' (Ok true) = Passes old new line line' (10 ∷ [])
ScanGives old new line line' (Ok false) = Passes old new line line' [] × (new.chunk ≡ [])
ScanGives old new line line' (Err e) = new.taken ≡ old.taken

-- What is ahead was taken from the input.
pub record Fills (old new : Reader) (a b : Seen) : Type 0 where
  pub does : Does a b new.chunk [] none
  pub taken : new.taken ≡ old.taken + length new.chunk

abbrev pub RefillGives : Reader → Reader → Seen → Seen → Result Refill Failed → Type 0
RefillGives old new a b (Ok refill.Some) = Fills old new a b × (new.taken ≤ limit) × (0 < length new.chunk)
RefillGives old new a b (Ok refill.End) = Fills old new a b × (new.taken ≤ limit) × (new.chunk ≡ []) × IsAtEnd b
RefillGives old new a b (Ok refill.TooLong) = Fills old new a b × (new.taken ≡ limit + 1) × (length new.chunk ≡ 1)
RefillGives old new a b (Err e) = Fails a b call.Take input_fault × (new.taken ≡ old.taken) × (new.chunk ≡ [])

-- One line is passed over, with what ends it, and kept as far as there is room. The bytes that this took are taken from the input.
pub record Reads (old new : Reader) (line' : Clipped) (most : ℕ) (a b : Seen) (end : List ℕ) : Type 0 where
  pub bytes : List ℕ
  pub line : List ℕ
  pub plain : IsPlain line
  pub keeps : line' ≡ clipped most line
  pub does : Does a b bytes [] none
  pub taken : new.taken ≡ old.taken + length bytes
  pub whole : old.chunk ++ bytes ≡ line ++ (end ++ new.chunk)

-- As much of a line is passed over as was ahead and could be taken, and then the input failed.
pub record ReadFails (old new : Reader) (line' : Clipped) (most : ℕ) (a b : Seen) : Type 0 where
  pub mid : Seen
  pub reads : Reads old new line' most a mid []
  pub fails : Fails mid b call.Take input_fault

-- Some bytes are taken from the input.
pub record Takes (old new : Reader) (a b : Seen) : Type 0 where
  pub bytes : List ℕ
  pub does : Does a b bytes [] none
  pub taken : new.taken ≡ old.taken + length bytes

abbrev pub NextGives : Reader → Reader → Clipped → ℕ → Seen → Seen → Result Next Halt → Type 0
NextGives old new line' most a b (Ok next.Line) = Reads old new line' most a b (10 ∷ []) × (new.taken ≤ limit)
NextGives old new line' most a b (Ok next.End) = Reads old new line' most a b [] × (new.taken ≤ limit) × (new.chunk ≡ []) × IsAtEnd b
NextGives old new line' most a b (Ok next.TooLong) = Reads old new line' most a b [] × (new.taken ≡ limit + 1) × (length new.chunk ≡ 1)
NextGives old new line' most a b (Err halt.Input) = ReadFails old new line' most a b × (new.taken ≤ limit) × (new.chunk ≡ [])
NextGives old new line' most a b (Err halt.Memory) = Takes old new a b × (new.taken ≤ limit)
