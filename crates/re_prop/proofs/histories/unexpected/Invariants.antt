use Rattle.re_prop.proofs.histories.unexpected.Given as goal

-- the ledger that was just made
abbrev pub ghosts-first_other : goal.ghosts-first_other
ghosts-first_other a = record { name = a.blank.name; parts = a.blank.parts }
