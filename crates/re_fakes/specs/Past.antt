-- Files in memory, and the steps that made them what they are.
use Rattle.std.specs.Prelude.{ℕ, ◌≡◌, ◌<◌, true, nat_lt, List, [], ◌∷◌, length, take}
use Rattle.std.specs.List.{list_all}
use Rattle.std.proofs.Common.{subst}
use Rattle.std.proofs.Math.Seq.{take-length}
use Rattle.re_outside.specs.FileAct.{FileAct}
use Rattle.re_outside.specs.Image.{after, content, IsHonest, IsCrashImage}
use Rattle.re_outside.specs.Trace.{act_of, acts_of}
use Rattle.re_outside.specs.declared.step.Step.{Step}
use Rattle.re_fakes.specs.Files.{file_in}
use Rattle.re_fakes.specs.Replay.{file_of}

-- the files are what the steps made of those at the start, what reads gave could be left by a stop at each moment, and each
-- step names file 0 or 1
pub record IsPast (start files : List (List ℕ)) (trace : List Step) : Type 0 where
  pub reads : (d f : ℕ) → file_in files d f ≡ content (file_in start d f) (acts_of d f trace)
  pub possible : (n d f : ℕ) → IsCrashImage (file_in start d f) (acts_of d f (take n trace)) (content (file_in start d f) (acts_of d f (take n trace)))
  pub named : list_all (λ step. nat_lt (file_of step) 2) trace ≡ true

-- what reads give at the end can be left by a stop
pub possible_now : (start files : List (List ℕ)) (trace : List Step) → IsPast start files trace → (d f : ℕ) → IsCrashImage (file_in start d f) (acts_of d f trace) (content (file_in start d f) (acts_of d f trace))
possible_now start files trace past d f = subst (λ (l : List Step). IsCrashImage (file_in start d f) (acts_of d f l) (content (file_in start d f) (acts_of d f l))) (take-length trace) (past.possible (length trace) d f)

-- an act makes new of a file that was old
abbrev pub MakesFile : List ℕ → List FileAct → List ℕ → Type 0
MakesFile old [] new = new ≡ old
MakesFile old (a ∷ acts) new = (new ≡ after old a) × IsHonest old a

-- a step makes new of files that were old
pub record Makes (old : List (List ℕ)) (step : Step) (new : List (List ℕ)) : Type 0 where
  pub named : file_of step < 2
  pub each : (d f : ℕ) → MakesFile (file_in old d f) (act_of d f step) (file_in new d f)
