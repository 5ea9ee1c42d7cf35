-- What one call was to the file that it names.
use Rattle.std.specs.Prelude.{ℕ, List}

-- a write, cut or sync that came through, or one that failed with what reads give of the file afterwards
pub data FileAct : Type 0 where
  Wrote : (at : ℕ) (bytes : List ℕ) → FileAct
  CutTo : (n : ℕ) → FileAct
  Synced : FileAct
  WriteFailed : (at : ℕ) (bytes left : List ℕ) → FileAct
  CutFailed : (n : ℕ) (left : List ℕ) → FileAct
  SyncFailed : FileAct
