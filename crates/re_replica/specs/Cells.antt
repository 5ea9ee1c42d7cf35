-- What the cells of a state must be to be changed and merged, and what an act does to a cell that takes it.
-- Read against: with the dot (1, 7) the act `insert 4` on a set with the pair of 4 by (0, 2) leaves the pair of 4 by (1, 7) alone, and does nothing to a counter; a counter and a set can't be merged.
use Rattle.std.specs.Prelude.{◌≡◌, ◌<◌, ℕ, zero, suc, List, [], ◌∷◌}
use Rattle.std.specs.List.{All}
use Rattle.std.specs.List.Sorted.{IsStrictlySortedBy}
use Rattle.re_terms.specs.Listed.{plain}
use Rattle.re_terms.specs.UpdateStates.{pairs_after, rows_after, without, written_after}
use Rattle.re_terms.specs.WordOrder.{pair_cmp}
use Rattle.re_terms.specs.declared.replicated.Act.{Act}
use Rattle.re_terms.specs.declared.replicated.Act.TheVariants.{Add, Insert, Remove, Write}
use Rattle.re_terms.specs.declared.replicated.Dot.{Dot}
use Rattle.re_terms.specs.declared.replicated.RCell.{RCell}
use Rattle.re_terms.specs.declared.replicated.RCell.TheVariants.{Counter, Set, Register}

-- a set's pairs ascend, by dots of devices 0 to 15, and nothing is reserved in its list
abbrev pub IsOrdered : RCell → Type 0
IsOrdered (Counter rows) = Unit {0}
IsOrdered (Set pairs) = IsStrictlySortedBy pair_cmp pairs.items × All (λ p. p.dot.device < 16) pairs.items × (pairs.spare ≡ 0)
IsOrdered (Register r) = Unit {0}

-- two cells of one kind
abbrev pub AreAlike : RCell → RCell → Type 0
AreAlike (Counter a) (Counter b) = Unit {0}
AreAlike (Set a) (Set b) = Unit {0}
AreAlike (Register a) (Register b) = Unit {0}
AreAlike a b = ⊥

-- two cells that can be merged
pub record CanMerge (a b : RCell) : Type 0 where
  pub alike : AreAlike a b
  pub own : IsOrdered a
  pub other : IsOrdered b

-- what an act with this dot does to a cell; nothing where the cell doesn't take it
abbrev pub acted : Dot → Act → RCell → RCell
acted dot (Add n) (Counter rows) = Counter (rows_after dot.device n rows)
acted dot (Insert e) (Set pairs) = Set (plain (pairs_after dot e pairs.items))
acted dot (Remove e) (Set pairs) = Set (plain (without e pairs.items))
acted dot (Write w) (Register r) = Register (written_after dot.device w r)
acted dot act c = c

-- a change of the cell at this place
abbrev pub at_place : ℕ → (RCell → RCell) → List RCell → List RCell
at_place place f [] = []
at_place zero f (c ∷ cs) = f c ∷ cs
at_place (suc place) f (c ∷ cs) = c ∷ at_place place f cs
