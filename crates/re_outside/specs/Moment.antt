-- What holds from one moment of a run to another.
use Rattle.std.specs.Prelude.{◌≡◌, ℕ, List}
use Rattle.re_outside.specs.Trace.{Past, IsBefore, elsewhere, elsewhere_on, content_at, IsCrashImageAt, content_of, IsCrashImageOf}

-- P holds at each moment from old to new
pub record Throughout (old new : Past) (P : Past → Type 0) : Type 0 where
  pub goes_on : IsBefore old new
  pub each : (now : Past) → IsBefore old now → IsBefore now new → P now

-- reads give of file f of device d what they gave, and a stop leaves nothing of it that it couldn't have left
pub record IsKept (d f : ℕ) (old now : Past) : Type 0 where
  pub content : content_at now d f ≡ content_at old d f
  pub images : (file : List ℕ) → IsCrashImageAt now d f file → IsCrashImageAt old d f file

-- all steps between are of file f of the device
abbrev pub OnlyMoves : ℕ → Past → Past → Type 0
OnlyMoves f old now = elsewhere old.device f now.trace ≡ elsewhere old.device f old.trace

-- all steps between are of files of the device
abbrev pub OnlyDeviceMoves : Past → Past → Type 0
OnlyDeviceMoves old now = elsewhere_on old.device now.trace ≡ elsewhere_on old.device old.trace

-- what a stop may leave of file f now is what one might have left of it then, changed so, and nothing else moves
pub record Changes (f : ℕ) (change : List ℕ → List ℕ → Type 0) (old now : Past) : Type 0 where
  pub images : (file : List ℕ) → IsCrashImageOf now f file → (was : List ℕ) × IsCrashImageOf old f was × change was file
  pub others : OnlyMoves f old now

-- all that a stop may leave of file f has P, and nothing else has moved
pub record Leaves (f : ℕ) (P : List ℕ → Type 0) (old now : Past) : Type 0 where
  pub images : (file : List ℕ) → IsCrashImageOf now f file → P file
  pub others : OnlyMoves f old now

-- reads of file f give these bytes, and a stop leaves nothing else of it
pub record IsSettled (f : ℕ) (bytes : List ℕ) (now : Past) : Type 0 where
  pub content : content_of now f ≡ bytes
  pub only : (file : List ℕ) → IsCrashImageOf now f file → file ≡ bytes
