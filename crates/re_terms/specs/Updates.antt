-- Updates of replicated cells, and the logs in which each knows what it has seen.
-- Read against: device 0 adds 2 to the counter 0, with dot (0, 1), stamp 0 and nothing seen; then device 1, which has seen it, writes the register 1, with dot (1, 1), stamp 1 and 1 seen of device 0.
-- The two in this order are a causal log, in the other order none. With 1 for device 1 alone a vector is not closed over the log, with 1 for both it is, and with 1 for device 0 alone it covers the first.
use Rattle.std.specs.Prelude.{ℕ, ◌+◌, ◌<◌, ◌≡◌, ◌⊎◌, true, cond, max, List, [], ◌∷◌, ◌++◌, length, nat_eq, slice_index}
use Rattle.std.specs.List.{filter, count_by}
use Rattle.re_terms.specs.Vectors.{AtMost, by_device, covers}
use Rattle.re_terms.specs.declared.replicated.Act.{Act}
use Rattle.re_terms.specs.declared.replicated.Act.TheVariants.{Add, Insert, Remove, Write}
use Rattle.re_terms.specs.declared.replicated.Dot.{Dot}
use Rattle.re_terms.specs.declared.replicated.RepOp.{RepOp}

-- what a device did to the cell at a place among the replicated ones, with a register's stamp, and what the device had seen before
pub record Update : Type 0 where
  pub dot : Dot
  pub cell : ℕ
  pub act : Act
  pub stamp : ℕ
  pub seen : List ℕ

-- u is one of these updates
abbrev pub IsIn : Update → List Update → Type 0
IsIn u [] = ⊥
IsIn u (x ∷ us) = (x ≡ u) ⊎ IsIn u us

-- the greatest number of this device, or 0
unfoldable pub greatest_number : ℕ → List Update → ℕ
greatest_number device [] = 0
greatest_number device (u ∷ us) = max (cond (nat_eq u.dot.device device) u.dot.number 0) (greatest_number device us)

-- the vector of updates: each device's greatest number
unfoldable pub vector_of : List Update → List ℕ
vector_of us = by_device (λ device. greatest_number device us)

-- the updates that a vector covers
abbrev pub covered : List Update → List ℕ → List Update
covered us v = filter (λ u. covers v u.dot) us

-- each dot that the vector covers is that of an update of the log, and the vector covers what that one has seen
abbrev pub IsCausallyClosed : List Update → List ℕ → Type 0
IsCausallyClosed us v = (dot : Dot) → covers v dot ≡ true → (u : Update) × IsIn u us × (u.dot ≡ dot) × AtMost u.seen v

-- how many updates are of this device
unfoldable pub count_of : ℕ → List Update → ℕ
count_of device us = count_by (λ u. nat_eq u.dot.device device) us

-- a write has its stamp, and any other act has 0
abbrev pub write_stamp : Act → ℕ → ℕ
write_stamp (Write w) stamp = stamp
write_stamp (Add n) stamp = 0
write_stamp (Insert e) stamp = 0
write_stamp (Remove e) stamp = 0

-- the stamp of a write of this cell, and 0 of any other update
unfoldable pub stamp_in : ℕ → Update → ℕ
stamp_in cell u = cond (nat_eq u.cell cell) (write_stamp u.act u.stamp) 0

-- the greatest stamp of a write of this cell, and 0 where there is none
unfoldable pub greatest_stamp : ℕ → List Update → ℕ
greatest_stamp cell [] = 0
greatest_stamp cell (u ∷ us) = max (stamp_in cell u) (greatest_stamp cell us)

-- an update may come next after these: it has its device's next number, has seen all of its device, and is stamped above what it has seen
pub record IsNext (us : List Update) (u : Update) : Type 0 where
  pub device : u.dot.device < 16
  pub places : length u.seen ≡ 16
  pub number : u.dot.number ≡ count_of u.dot.device us + 1
  pub own : slice_index u.seen u.dot.device ≡ count_of u.dot.device us
  -- what it has seen is there, with all that those updates had seen
  pub past : IsCausallyClosed us u.seen
  pub stamp : u.stamp ≡ write_stamp u.act (greatest_stamp u.cell (covered us u.seen) + 1)

-- each of the later updates may come next after those before it
abbrev pub IsContinuation : List Update → List Update → Type 0
IsContinuation us [] = Unit {0}
IsContinuation us (v ∷ vs) = IsNext us v × IsContinuation (us ++ v ∷ []) vs

-- an update log in which each update may come next after those before it
abbrev pub IsCausalLog : List Update → Type 0
IsCausalLog us = IsContinuation [] us

-- what an update does, without its dot and its past
abbrev pub operation_of : Update → RepOp
operation_of u = record { cell = u.cell; act = u.act }

-- the update that a device makes by an operation, where it has seen what the vector covers
abbrev pub next_update : List Update → List ℕ → ℕ → RepOp → Update
next_update us v device op =
    record {
      dot = record { device = device; number = slice_index v device + 1 };
      cell = op.cell;
      act = op.act;
      stamp = write_stamp op.act (greatest_stamp op.cell (covered us v) + 1);
      seen = v;
    }
