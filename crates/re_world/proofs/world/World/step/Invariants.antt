-- The ledger that counts the evaluations of one command.
use Rattle.re_world.proofs.world.World.step.Given as goal

-- the ledger that was just made
abbrev pub ghosts-do_command : goal.ghosts-do_command
ghosts-do_command g a = record { name = a.blank.name; parts = a.blank.parts }
