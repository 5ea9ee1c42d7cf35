-- Replicated states: those that updates make, their join, and what one operation does to them.
-- Read against: the state of no updates is the start state; device 1's `insert s 4` on a state whose vector has 6 for it gives the pair of 4 by dot (1, 7) in place of all pairs of 4, and 7 in the vector;
-- at `register m: int = 0`, device 1's `write m 5` on a register with stamp 3 gives stamp 4, device 1 and the word 5.
use Rattle.std.specs.Prelude.{ℕ, ℤ, zero, suc, ◌+◌, not, List, [], ◌∷◌, slice_index, slice_set}
use Rattle.std.specs.List.{filter}
use Rattle.re_terms.specs.CellStates.{Pairing.AddWins, rows_of, join_rows, increment, decrement, pairs_of, join_pairs, written_of, join_written}
use Rattle.re_terms.specs.Listed.{plain}
use Rattle.re_terms.specs.Updates.{Update, vector_of}
use Rattle.re_terms.specs.Vectors.{join_vectors}
use Rattle.re_terms.specs.WordOrder.{same_word, ascending}
use Rattle.re_terms.specs.declared.word.Word.{Word}
use Rattle.re_terms.specs.declared.replicated.Act.{Act}
use Rattle.re_terms.specs.declared.replicated.Act.TheVariants.{Add, Insert, Remove, Write}
use Rattle.re_terms.specs.declared.replicated.Dot.{Dot}
use Rattle.re_terms.specs.declared.replicated.Pair.{Pair}
use Rattle.re_terms.specs.declared.replicated.RCell.{RCell}
use Rattle.re_terms.specs.declared.replicated.RCell.TheVariants as content
use Rattle.re_terms.specs.declared.replicated.RepOp.{RepOp}
use Rattle.re_terms.specs.declared.replicated.RKind.{RKind}
use Rattle.re_terms.specs.declared.replicated.RKind.TheVariants as kind
use Rattle.re_terms.specs.declared.replicated.RState.{RState}
use Rattle.re_terms.specs.declared.replicated.Rows.{Rows}
use Rattle.re_terms.specs.declared.replicated.Shape.{Shape}
use Rattle.re_terms.specs.declared.replicated.Written.{Written}

-- the content of the cell of this kind at this place
abbrev pub content_of : RKind → ℕ → List Update → RCell
content_of kind.Counter cell us = content.Counter (rows_of cell us)
content_of (kind.Set k) cell us = content.Set (plain (pairs_of AddWins cell us))
content_of (kind.Register k start) cell us = content.Register (written_of start cell us)

-- the contents of the cells of these kinds, whose places begin at this one
abbrev pub contents_from : ℕ → List RKind → List Update → List RCell
contents_from place [] us = []
contents_from place (k ∷ ks) us = content_of k place us ∷ contents_from (place + 1) ks us

-- the state that the updates make
abbrev pub state_of_updates : Shape → List Update → RState
state_of_updates shape us = record { vector = record { counts = vector_of us }; cells = plain (contents_from 0 shape.cells.items us) }

-- ---- the join of two states, cell by cell

abbrev pub join_cell : List ℕ → List ℕ → RCell → RCell → RCell
join_cell av bv (content.Counter a) (content.Counter b) = content.Counter (join_rows a b)
join_cell av bv (content.Set a) (content.Set b) = content.Set (plain (join_pairs av bv a.items b.items))
join_cell av bv (content.Register a) (content.Register b) = content.Register (join_written a b)
join_cell av bv a b = a

abbrev pub join_cells : List ℕ → List ℕ → List RCell → List RCell → List RCell
join_cells av bv [] ys = []
join_cells av bv (x ∷ xs) [] = x ∷ xs
join_cells av bv (x ∷ xs) (y ∷ ys) = join_cell av bv x y ∷ join_cells av bv xs ys

abbrev pub join_states : RState → RState → RState
join_states a b =
    record {
      vector = record { counts = join_vectors a.vector.counts b.vector.counts };
      cells = plain (join_cells a.vector.counts b.vector.counts a.cells.items b.cells.items);
    }

-- ---- one operation

-- a device's number in a row, raised
unfoldable pub raise : ℕ → ℕ → List ℕ → List ℕ
raise device n row = slice_set row device (slice_index row device + n)

-- no pair of this element
unfoldable pub without : Word → List Pair → List Pair
without e ps = filter (λ p. not (same_word p.element e)) ps

-- a set's pairs after an insert: those of the element give way to the one with the new dot
abbrev pub pairs_after : Dot → Word → List Pair → List Pair
pairs_after dot e ps = ascending (record { element = e; dot = dot } ∷ without e ps)

-- a counter's rows after a device's amount: the increments are raised by an amount of 0 or more, else the decrements by its magnitude
abbrev pub rows_after : ℕ → ℤ → Rows → Rows
rows_after device amount rows = record { plus = raise device (increment (Add amount)) rows.plus; minus = raise device (decrement (Add amount)) rows.minus }

-- a register after a device's write, whose stamp is above all that it has seen
abbrev pub written_after : ℕ → Word → Written → Written
written_after device w r = record { stamp = r.stamp + 1; device = device; word = w }

-- what an act with this dot does to a cell of this kind; an act that the kind doesn't allow does nothing
abbrev pub act_on : RKind → Dot → Act → RCell → RCell
act_on kind.Counter dot (Add n) (content.Counter a) = content.Counter (rows_after dot.device n a)
act_on (kind.Set k) dot (Insert e) (content.Set ps) = content.Set (plain (pairs_after dot e ps.items))
act_on (kind.Set k) dot (Remove e) (content.Set ps) = content.Set (plain (without e ps.items))
act_on (kind.Register k start) dot (Write w) (content.Register r) = content.Register (written_after dot.device w r)
act_on k dot act c = c

-- what is done to the cell at a place
abbrev pub change_at : ℕ → (RKind → RCell → RCell) → List RKind → List RCell → List RCell
change_at place f [] cs = cs
change_at place f (k ∷ ks) [] = []
change_at zero f (k ∷ ks) (c ∷ cs) = f k c ∷ cs
change_at (suc place) f (k ∷ ks) (c ∷ cs) = c ∷ change_at place f ks cs

-- the state after a device's operation, whose dot has the device's next number
abbrev pub after_operation : Shape → ℕ → RepOp → RState → RState
after_operation shape device op s =
    let n = slice_index s.vector.counts device + 1 in
    record {
      vector = record { counts = slice_set s.vector.counts device n };
      cells = plain (change_at op.cell (λ k. act_on k (record { device = device; number = n }) op.act) shape.cells.items s.cells.items);
    }
