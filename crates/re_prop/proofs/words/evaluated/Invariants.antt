use Rattle.re_prop.proofs.words.evaluated.Given as goal

-- the ledger that was just made
abbrev pub ghosts-all : goal.ghosts-all
ghosts-all a = record { name = a.blank.name; parts = a.blank.parts }
