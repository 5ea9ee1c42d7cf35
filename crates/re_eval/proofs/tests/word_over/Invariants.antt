use Rattle.re_eval.proofs.tests.word_over.Given as goal

-- the ledger that was just made
abbrev pub ghosts-counted : goal.ghosts-counted
ghosts-counted a = record { name = a.blank.name; parts = a.blank.parts }
