-- The law of joins over all cells.
use Rattle.std.proofs.Common.{◌≡◌, ℕ, ◌+◌, List, [], ◌∷◌, refl, ap, ◌∙◌, arith}
use Rattle.std.specs.Prelude.{max}
use Rattle.re_terms.specs.Replication.{JoinLaw}
use Rattle.re_terms.specs.CellStates.{Pairing, rows_of, join_rows, pairs_of, join_pairs, Pairing.AddWins}
use Rattle.re_terms.specs.UpdateStates.{content_of, contents_from, state_of_updates, join_cell, join_cells, join_states}
use Rattle.re_terms.specs.Updates.{Update, covered, IsCausallyClosed, IsCausalLog, vector_of, greatest_number}
use Rattle.re_terms.specs.Vectors.{by_device, greater_each, join_vectors}
use Rattle.re_terms.specs.Listed.{plain}
use Rattle.re_terms.specs.declared.replicated.RCell.TheVariants as content
use Rattle.re_terms.specs.declared.replicated.RKind.{RKind}
use Rattle.re_terms.specs.declared.replicated.RKind.TheVariants as kind
use Rattle.re_terms.specs.declared.replicated.Shape.{Shape}
use Rattle.re_terms.proofs.Logs.{closed_join, greatest-covered, at-greater_each}
use Rattle.re_terms.proofs.Counters.{rows_join, greater_each-by_device}
use Rattle.re_terms.proofs.Sets.{set_join}
use Rattle.re_terms.proofs.Registers.{written_join}

vector_join : (b : List Update) (v w : List ℕ) → IsCausallyClosed b v → IsCausallyClosed b w → greater_each (vector_of (covered b v)) (vector_of (covered b w)) ≡ vector_of (covered b (join_vectors v w))
unfolding vector_of
vector_join b v w cv cw = greater_each-by_device _ _ ∙ ap by_device (λ i d. each d i)
  where
    each : (d : ℕ) → max (greatest_number d (covered b v)) (greatest_number d (covered b w)) ≡ greatest_number d (covered b (greater_each v w))
    each d = omega (arith, greatest-covered b v cv d, greatest-covered b w cw d, greatest-covered b (greater_each v w) (closed_join b v w cv cw) d, at-greater_each v w d)

cell_join : (b : List Update) (v w : List ℕ) → IsCausalLog b → IsCausallyClosed b v → IsCausallyClosed b w → (k : RKind) (i : ℕ)
    → join_cell (vector_of (covered b v)) (vector_of (covered b w)) (content_of k i (covered b v)) (content_of k i (covered b w)) ≡ content_of k i (covered b (join_vectors v w))
cell_join b v w causal cv cw kind.Counter i = ap content.Counter (rows_join i b v w)
cell_join b v w causal cv cw (kind.Set k) i = ap (λ ps. content.Set (plain ps)) (set_join b v w AddWins i causal cv cw)
cell_join b v w causal cv cw (kind.Register k start) i = ap content.Register (written_join b v w start i causal)

cells_join : (b : List Update) (v w : List ℕ) → IsCausalLog b → IsCausallyClosed b v → IsCausallyClosed b w → (ks : List RKind) (i : ℕ)
    → join_cells (vector_of (covered b v)) (vector_of (covered b w)) (contents_from i ks (covered b v)) (contents_from i ks (covered b w)) ≡ contents_from i ks (covered b (join_vectors v w))
cells_join b v w causal cv cw [] i = refl
cells_join b v w causal cv cw (k ∷ ks) i = λ j. cell_join b v w causal cv cw k i j ∷ cells_join b v w causal cv cw ks (i + 1) j

pub state_join : (shape : Shape) (b : List Update) (v w : List ℕ) → IsCausalLog b → IsCausallyClosed b v → IsCausallyClosed b w → join_states (state_of_updates shape (covered b v)) (state_of_updates shape (covered b w)) ≡ state_of_updates shape (covered b (join_vectors v w))
state_join shape b v w causal cv cw = λ j. record { vector = record { counts = vector_join b v w cv cw j }; cells = plain (cells_join b v w causal cv cw shape.cells.items 0 j) }

-- ---- the law of each kind

pub counter_law : (cell : ℕ) → JoinLaw (λ av bv a b. join_rows a b) (rows_of cell)
counter_law cell b v w causal cv cw = rows_join cell b v w

pub pairs_law : (m : Pairing) (cell : ℕ) → JoinLaw join_pairs (pairs_of m cell)
pairs_law m cell b v w causal cv cw = set_join b v w m cell causal cv cw
