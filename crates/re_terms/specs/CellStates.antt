-- What updates make of a replicated cell: a counter's rows, a set's pairs, a register's write.
-- Read against: of `add 2` and `add -3` by device 0 and `add 4` by device 1 the increments are 2 and 4, the decrements 3 and 0.
-- An insert of 4 by device 0 and a remove of 4 by device 1, which hasn't seen it, leave the pair of 4; had it seen the insert, there were none.
-- Of writes 1 by device 0 and 2 by device 1, both with stamp 1, the register has that of device 1.
use Rattle.std.specs.Prelude.{ℕ, suc, pos, negsuc, Bool, true, false, ◌&&◌, ◌||◌, not, cond, List, [], ◌∷◌, ◌++◌, nat_lt, nat_eq, Option, None, Some}
use Rattle.std.specs.List.{filter, filter_map, list_any, sum_by}
use Rattle.std.specs.Ordering.{eq_by_cmp}
use Rattle.re_terms.specs.Updates.{Update}
use Rattle.re_terms.specs.Vectors.{by_device, covers, greater_each}
use Rattle.re_terms.specs.WordOrder.{same_word, pair_cmp, ascending}
use Rattle.re_terms.specs.declared.word.Word.{Word}
use Rattle.re_terms.specs.declared.replicated.Act.{Act}
use Rattle.re_terms.specs.declared.replicated.Act.TheVariants.{Add, Insert, Remove, Write}
use Rattle.re_terms.specs.declared.replicated.Dot.{Dot}
use Rattle.re_terms.specs.declared.replicated.Pair.{Pair}
use Rattle.re_terms.specs.declared.replicated.Rows.{Rows}
use Rattle.re_terms.specs.declared.replicated.Written.{Written}

-- ---- counters

-- what an amount adds to the increments
abbrev pub increment : Act → ℕ
increment (Add (pos n)) = n
increment (Add (negsuc n)) = 0
increment (Insert e) = 0
increment (Remove e) = 0
increment (Write w) = 0

-- what it adds to the decrements
abbrev pub decrement : Act → ℕ
decrement (Add (pos n)) = 0
decrement (Add (negsuc n)) = suc n
decrement (Insert e) = 0
decrement (Remove e) = 0
decrement (Write w) = 0

-- what an update adds to a device's number in this cell
abbrev pub part_of : (Act → ℕ) → ℕ → ℕ → Update → ℕ
part_of f cell device u = cond (nat_eq u.cell cell && nat_eq u.dot.device device) (f u.act) 0

-- each device's sum
unfoldable pub row_of : (Act → ℕ) → ℕ → List Update → List ℕ
row_of f cell us = by_device (λ device. sum_by (part_of f cell device) us)

-- a counter's rows
abbrev pub rows_of : ℕ → List Update → Rows
rows_of cell us = record { plus = row_of increment cell us; minus = row_of decrement cell us }

-- the merge of two counters: the greater number in each place
abbrev pub join_rows : Rows → Rows → Rows
join_rows a b = record { plus = greater_each a.plus b.plus; minus = greater_each a.minus b.minus }

-- ---- pairs

-- what a cell's pairs are: the inserts of a set that no later insert or remove of the element has seen; or the latest writes, those that no other write has seen
pub data Pairing : Type 0 where
  AddWins : Pairing
  Latest : Pairing

abbrev pub inserted_by : Pairing → Act → Dot → Option Pair
inserted_by AddWins (Insert e) dot = Some (record { element = e; dot = dot })
inserted_by AddWins (Add n) dot = None
inserted_by AddWins (Remove e) dot = None
inserted_by AddWins (Write w) dot = None
inserted_by Latest (Write w) dot = Some (record { element = w; dot = dot })
inserted_by Latest (Add n) dot = None
inserted_by Latest (Remove e) dot = None
inserted_by Latest (Insert e) dot = None

-- the pair that an update inserts into this cell
unfoldable pub inserted : Pairing → ℕ → Update → Option Pair
inserted m cell u = cond (nat_eq u.cell cell) (inserted_by m u.act u.dot) None

-- an act takes away pairs of this element
abbrev pub takes_element : Pairing → Word → Act → Bool
takes_element AddWins e (Insert f) = same_word f e
takes_element AddWins e (Remove f) = same_word f e
takes_element AddWins e (Add n) = false
takes_element AddWins e (Write w) = false
takes_element Latest e (Write w) = true
takes_element Latest e (Add n) = false
takes_element Latest e (Insert f) = false
takes_element Latest e (Remove f) = false

-- an update of this cell takes the pair's element away, and has seen the pair's dot
unfoldable pub takes : Pairing → ℕ → Pair → Update → Bool
takes m cell p u = nat_eq u.cell cell && (takes_element m p.element u.act && covers u.seen p.dot)

-- the pairs of the live inserts: those that no update takes
unfoldable pub live : Pairing → ℕ → List Update → List Pair
live m cell us = filter (λ p. not (list_any (takes m cell p) us)) (filter_map (inserted m cell) us)

-- a cell's pairs, in their order
unfoldable pub pairs_of : Pairing → ℕ → List Update → List Pair
pairs_of m cell us = ascending (live m cell us)

unfoldable pub has_pair : List Pair → Pair → Bool
has_pair ps p = list_any (eq_by_cmp pair_cmp p) ps

-- the merge of two sets with their vectors: the pairs that are in both, and the pairs of one whose dot the other's vector doesn't cover
unfoldable pub join_pairs : List ℕ → List ℕ → List Pair → List Pair → List Pair
join_pairs av bv a b = ascending (filter (λ p. has_pair b p || not (covers bv p.dot)) a ++ filter (λ p. not (covers av p.dot)) b)

-- ---- registers

-- a register's start: no write, and the initial word
abbrev pub unwritten : Word → Written
unwritten start = record { stamp = 0; device = 0; word = start }

-- b has the greater (stamp, device)
abbrev pub is_after : Written → Written → Bool
is_after a b = nat_lt a.stamp b.stamp || (nat_eq a.stamp b.stamp && nat_lt a.device b.device)

-- the merge of two registers: the greater, and the first where both are equal
unfoldable pub join_written : Written → Written → Written
join_written a b = cond (is_after a b) b a

abbrev pub written_by : Act → ℕ → ℕ → Option Written
written_by (Write w) stamp device = Some (record { stamp = stamp; device = device; word = w })
written_by (Add n) stamp device = None
written_by (Insert e) stamp device = None
written_by (Remove e) stamp device = None

-- what an update writes into this cell
unfoldable pub written : ℕ → Update → Option Written
written cell u = cond (nat_eq u.cell cell) (written_by u.act u.stamp u.dot.device) None

abbrev pub or_later : Written → Option Written → Written
or_later r None = r
or_later r (Some s) = join_written r s

-- the greatest of a write and the writes of this cell
unfoldable pub greatest_write : ℕ → Written → List Update → Written
greatest_write cell r [] = r
greatest_write cell r (u ∷ us) = greatest_write cell (or_later r (written cell u)) us

-- a register's greatest write, or its start
abbrev pub written_of : Word → ℕ → List Update → Written
written_of start cell us = greatest_write cell (unwritten start) us
