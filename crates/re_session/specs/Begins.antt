-- The worlds in which a session may begin.
use Rattle.std.specs.Prelude.{◌≡◌, ℕ, true, List}
use Rattle.re_outside.specs.Outside.{Seen}
use Rattle.re_outside.specs.Port.{past_in}
use Rattle.re_terms.specs.DeviceWorlds.{World, start_world}
use Rattle.re_terms.specs.Runs.{PlainState}
use Rattle.re_terms.specs.Updates.{Update}
use Rattle.re_terms.specs.declared.program.Program.{Program}
use Rattle.re_world.specs.Starting.{StartsAt}

-- The outside tells what is seen, all files are settled and stand for a log, and this is the world at its start.
pub record Begins (p : Program) (w : World) (s : Seen) : Type 0 where
  pub told : s.told ≡ true
  pub base : ℕ → PlainState
  pub base_number : ℕ → ℕ
  pub log : List Update
  pub starts : StartsAt p base base_number log (past_in 0 s)
  pub is : w ≡ start_world p base base_number log
