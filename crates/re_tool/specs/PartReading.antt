-- What reading the program part does.
use Rattle.std.specs.Prelude.{ℕ, ◌≡◌, ◌≤◌, ◌+◌, List, [], ◌++◌, Bool, true, false, Some, None, Result, Ok, Err, length}
use Rattle.std.specs.List.{flat_map}
use Rattle.re_outside.specs.Outside.{Seen, Does, Fails, IsAtEnd, none, input_fault}
use Rattle.re_outside.specs.declared.step.Call.TheVariants as call
use Rattle.re_tool.specs.declared.reader.Reader.{Reader}
use Rattle.re_tool.specs.declared.part.PartText.{PartText}
use Rattle.re_tool.specs.declared.part.Stop.{Stop}
use Rattle.re_tool.specs.declared.part.Stop.TheVariants as stop
use Rattle.re_tool.specs.Clipped.{Clipped, clipped}
use Rattle.re_tool.specs.Lines.{ended, ArePlain}
use Rattle.re_tool.specs.Part.{divided, part_of}
use Rattle.re_tool.specs.Reads.{limit}

-- how much of a program part is kept: one byte more than it may have
abbrev pub kept_text : List ℕ → Clipped
kept_text text = clipped 65537 text

-- The lines up to a separator were read.
pub record Divides (r : Reader) (text : Clipped) (a b : Seen) : Type 0 where
  pub read : List ℕ
  -- the lines of the program part, and those with the separator
  pub front : List (List ℕ)
  pub head : List (List ℕ)
  pub plain : ArePlain head
  pub divides : (lines : List (List ℕ)) → divided (head ++ lines) ≡ Some (front, lines)
  pub whole : read ≡ flat_map ended head ++ r.chunk
  pub taken : r.taken ≡ length read
  pub few : r.taken ≤ limit
  pub does : Does a b read [] none
  pub keeps : text ≡ kept_text (flat_map ended front)

-- The whole input was read, and is the program part, without a separator behind it that ends with an LF.
pub record ReadsAll (r : Reader) (text : Clipped) (a b : Seen) : Type 0 where
  pub read : List ℕ
  pub few : length read ≤ limit
  pub taken : r.taken ≤ limit
  pub empty : r.chunk ≡ []
  pub part : List ℕ
  pub is_part : part_of read false ≡ Some (record { text = part; lines = [] })
  pub does : Does a b read [] none
  pub keeps : text ≡ kept_text part
  pub end : IsAtEnd b

-- The input failed before the program part ended.
pub record PartFails (a b : Seen) : Type 0 where
  pub read : List ℕ
  pub few : length read ≤ limit
  pub is_none : part_of read true ≡ None
  pub mid : Seen
  pub does : Does a mid read [] none
  pub fails : Fails mid b call.Take input_fault

-- Too much came before the program part ended.
pub record PartTooLong (a b : Seen) : Type 0 where
  pub read : List ℕ
  pub long : length read ≡ limit + 1
  pub is_none : part_of read false ≡ None
  pub does : Does a b read [] none

-- Memory ran out behind these bytes.
pub record PartStops (a b : Seen) : Type 0 where
  pub read : List ℕ
  pub few : length read ≤ limit
  pub does : Does a b read [] none

abbrev pub PartIs : Reader → Clipped → Bool → Seen → Seen → Type 0
PartIs r text true a b = Divides r text a b
PartIs r text false a b = ReadsAll r text a b

abbrev pub PartGives : Reader → Seen → Seen → Result PartText Stop → Type 0
PartGives r a b (Ok p) = PartIs r p.text p.is_divided a b
PartGives r a b (Err stop.Memory) = PartStops a b
PartGives r a b (Err stop.Input) = PartFails a b
PartGives r a b (Err stop.TooLong) = PartTooLong a b
