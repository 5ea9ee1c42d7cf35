-- The items and seats of the board that the tests play with.
-- Read against: seat 0 adds 10, seat 2 adds 20, seat 0 adds 30.
use Rattle.std.specs.Prelude.{ℕ, List, Option}
use Rattle.re_history.specs.declared.item.Item.{Item}
use Rattle.re_history.specs.Boards.{BoardName, Written, Seated}

-- the first item of seat 0
abbrev pub ten : Item ℕ
ten = record { seat = 0; place = 1; value = 10 }

-- the first item of seat 2
abbrev pub twenty : Item ℕ
twenty = record { seat = 2; place = 1; value = 20 }

-- the second item of seat 0
abbrev pub thirty : Item ℕ
thirty = record { seat = 0; place = 2; value = 30 }

-- a writer that shows this
abbrev pub writer_with : {T : Type 0} → BoardName → List (Item T) → Option ℕ → Written T
writer_with board items stop = record { board = board; items = items; stop = stop }

-- a seat that shows this
abbrev pub seat_with : {T : Type 0} → BoardName → ℕ → List (Item T) → List (Item T) → Option ℕ → Seated T
seat_with board number front own told = record { board = board; number = number; front = front; own = own; told = told }
