-- What contracts see of a board, of its writer and of a seat.
use Rattle.std.specs.Prelude.{ℕ, ◌≡◌, ◌<◌, ◌++◌, List, [], ◌∷◌, length, slice_get, Option, Some, None, refl}
use Rattle.std.specs.Coded.{Coded, code_by, coded×, coded_ℕ, coded_list, coded_option}
use mathlib.Core.List.{IsPrefix}
use Rattle.atomic_table.specs.Seated.{TableId, table_id_coded}
use Rattle.re_history.specs.Items.{items_of, next_item, IsTold}
use Rattle.re_history.specs.declared.item.Item.{Item}

-- which board it is: its table, and how many seats it has
pub record BoardName : Type 0 where
  pub table : TableId
  pub seats : ℕ

abbrev pub board_name_code : Coded BoardName
board_name_code = code_by (TableId × ℕ) (coded× table_id_coded coded_ℕ) (λ b. (b.table, b.seats)) (λ p. record { table = p.0; seats = p.1 }) (λ _. refl)

-- the name of no board
abbrev pub no_board : BoardName
no_board = record { table = record { words = 0; slots = 0; views_name = 0; atom = 0; block = 0; offset = 0; slot_names = [] }; seats = 0 }

-- the writer: its board, its list, and the stop, if there is one
pub record Written (T : Type 0) : Type 0 where
  pub board : BoardName
  pub items : List (Item T)
  pub stop : Option ℕ

-- a seat: its board and number, the beginning of the list that it has seen, its own items, and the stop that it was told, if any
pub record Seated (T : Type 0) : Type 0 where
  pub board : BoardName
  pub number : ℕ
  pub front : List (Item T)
  pub own : List (Item T)
  pub told : Option ℕ

module _ {T : Type 0} where
  -- the writer of a new board
  abbrev pub new_writer : BoardName → Written T
  new_writer board = record { board = board; items = []; stop = None }

  -- a seat of a new board
  abbrev pub new_seat : BoardName → ℕ → Seated T
  new_seat board number = record { board = board; number = number; front = []; own = []; told = None }

  -- the writer, with one more item of the seat
  abbrev pub appended : Written T → Seated T → T → Written T
  appended w s value = record { board = w.board; items = w.items ++ next_item s.number s.own value ∷ []; stop = w.stop }

  -- the seat, with one more item of its own, and the writer's list as its front
  abbrev pub appended_seat : Written T → Seated T → T → Seated T
  appended_seat w s value = record { board = s.board; number = s.number; front = (appended w s value).items; own = s.own ++ next_item s.number s.own value ∷ []; told = s.told }

  -- the seat, with the writer's list and stop
  abbrev pub caught_up_seat : Written T → Seated T → Seated T
  caught_up_seat w s = record { board = s.board; number = s.number; front = w.items; own = s.own; told = w.stop }

  -- what a seat knows is so of its writer: its front begins the list, its own items are those of its number there, and the stop that it was told is the stop
  pub record Agrees (w : Written T) (s : Seated T) : Type 0 where
    pub front : IsPrefix s.front w.items
    pub own : items_of s.number w.items ≡ s.own
    pub told : IsTold s.told w.stop

  abbrev pub item_code : Coded T → Coded (Item T)
  item_code c = code_by (ℕ × (ℕ × T)) (coded× coded_ℕ (coded× coded_ℕ c)) (λ i. (i.seat, (i.place, i.value))) (λ p. record { seat = p.0; place = p.1.0; value = p.1.1 }) (λ _. refl)

  abbrev pub written_code : Coded T → Coded (Written T)
  written_code c = code_by (BoardName × (List (Item T) × Option ℕ)) (coded× board_name_code (coded× (coded_list (item_code c)) (coded_option coded_ℕ)))
      (λ w. (w.board, (w.items, w.stop))) (λ p. record { board = p.0; items = p.1.0; stop = p.1.1 }) (λ _. refl)

  abbrev pub seated_code : Coded T → Coded (Seated T)
  seated_code c = code_by (BoardName × (ℕ × (List (Item T) × (List (Item T) × Option ℕ)))) (coded× board_name_code (coded× coded_ℕ (coded× (coded_list (item_code c)) (coded× (coded_list (item_code c)) (coded_option coded_ℕ)))))
      (λ s. (s.board, (s.number, (s.front, (s.own, s.told))))) (λ p. record { board = p.0; number = p.1.0; front = p.1.1.0; own = p.1.1.1.0; told = p.1.1.1.1 }) (λ _. refl)

-- all seats of a new board, in the order of their numbers
abbrev pub AreNewSeats : {T : Type 0} → BoardName → List (Seated T) → Type 0
AreNewSeats board seats = (length seats ≡ board.seats) × ((k : ℕ) → k < board.seats → slice_get seats k ≡ Some (new_seat board k))
