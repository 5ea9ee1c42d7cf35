-- Items of a board's list.
-- Read against: of the list (seat 0, place 1, 10), (seat 2, place 1, 20), (seat 0, place 2, 30) the items of seat 0 are the first and the last, and its next item has place 3.
use Rattle.std.specs.Prelude.{ℕ, ◌+◌, ◌==◌, ◌≡◌, List, length, filter, Option, Some}
use Rattle.re_history.specs.declared.item.Item.{Item}

module _ {T : Type 0} where
  -- the items of one seat, in order
  abbrev pub items_of : ℕ → List (Item T) → List (Item T)
  items_of seat items = filter (λ item. item.seat == seat) items

  -- the next item of a seat that has these
  abbrev pub next_item : ℕ → List (Item T) → T → Item T
  next_item seat own value = record { seat = seat; place = length own + 1; value = value }

-- a stop that was told is the stop
abbrev pub IsTold : Option ℕ → Option ℕ → Type 0
IsTold told stop = (at : ℕ) → told ≡ Some at → stop ≡ Some at
