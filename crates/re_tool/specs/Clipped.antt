-- A line as far as it is kept.
use Rattle.std.specs.Prelude.{ℕ, List, take}

pub record Clipped : Type 0 where
  pub items : List ℕ
  -- how many bytes are kept at the most
  pub most : ℕ

abbrev pub clipped : ℕ → List ℕ → Clipped
clipped most bytes = record { items = take most bytes; most = most }
