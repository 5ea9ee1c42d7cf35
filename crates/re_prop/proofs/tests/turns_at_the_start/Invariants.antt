use Rattle.re_prop.proofs.tests.turns_at_the_start.Given as goal

-- the ledger that was just made
abbrev pub ghosts-outcome : goal.ghosts-outcome
ghosts-outcome l a = record { name = a.blank.name; parts = a.blank.parts }
