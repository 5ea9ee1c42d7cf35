-- Lists of further updates that follow one log, each of one device.
-- Read against: behind a log with two updates of device 0, the further updates (0, 3), (0, 4) of device 0 and (1, 1) of device 1, where neither device has seen the other's, follow it both.
use Rattle.std.specs.Prelude.{◌≡◌, ℕ, ◌≢◌, ◌⊎◌, List, [], ◌∷◌, ◌++◌}
use Rattle.re_terms.specs.Updates.{Update, IsIn, IsCausalLog}

-- a device, and further updates of it
pub record Further : Type 0 where
  pub device : ℕ
  pub updates : List Update

-- one list behind the other
abbrev pub all_of : List Further → List Update
all_of [] = []
all_of (x ∷ xs) = x.updates ++ all_of xs

abbrev pub IsOneOf : Further → List Further → Type 0
IsOneOf x [] = ⊥
IsOneOf x (y ∷ ys) = (y ≡ x) ⊎ IsOneOf x ys

-- none of these lists is of this device
abbrev pub NoneOf : ℕ → List Further → Type 0
NoneOf device [] = Unit {0}
NoneOf device (x ∷ xs) = (x.device ≢ device) × NoneOf device xs

-- the updates are of the device alone, and the log with them behind it is causal
pub record Follows (log : List Update) (x : Further) : Type 0 where
  pub own : (u : Update) → IsIn u x.updates → u.dot.device ≡ x.device
  pub causal : IsCausalLog (log ++ x.updates)

-- each follows the log, and no device has two
abbrev pub AllFollow : List Update → List Further → Type 0
AllFollow log [] = Unit {0}
AllFollow log (x ∷ xs) = Follows log x × NoneOf x.device xs × AllFollow log xs
