-- What an environment tells an expression of.
-- Read against: where the cell 0 has the word 200, `if c > 300 then 2 else 1` over the cell 0 is 1, and `arg + self` with arg 2 and self 3 is 5.
use Rattle.std.specs.Prelude.{ℕ, Bool, Option}
use Rattle.re_terms.specs.declared.word.Word.{Word}
use Rattle.re_terms.specs.Meaning.{Environment}

-- the word of each named cell, and the size and the members of each set; of any other id it doesn't matter what
pub record Told : Type 0 where
  pub word : ℕ → Word
  pub size : ℕ → ℕ
  pub has : ℕ → Word → Bool

-- what an expression is read in: what is told, the value of the occurrence, and the fold's word before the entry
abbrev pub environment : Told → Option Word → Option Word → Environment
environment told arg own = record { word = told.word; size = told.size; has = told.has; arg = arg; own = own }
