-- The cells of a state that fits its shape.
use Rattle.std.proofs.Common.{◌≡◌, ℕ, zero, suc, ◌<◌, ◌≤◌, Bool, true, false, List, [], ◌∷◌, Some, length, get_or, refl, sym, ap, arith}
use Rattle.std.specs.Prelude.{◌&&◌, nat_le, nat_lt, slice_get, slice_index}
use Rattle.std.specs.List.{All, list_all}
use Rattle.std.proofs.lemmas.Bool.Decides.{nat_tests}
use Rattle.std.proofs.lemmas.List.Elements.{All-cons, All-nil}
use Rattle.std.proofs.lemmas.Option.{slice_get_within, slice_get-get_or}
use mathlib.Core.Bool.{true≢false}
use Rattle.re_terms.specs.Shapes.{FitsKind, FitsShape, is_pair_of, is_word_of}
use Rattle.re_terms.specs.UpdateStates.{act_on, change_at}
use Rattle.re_terms.specs.declared.replicated.Act.{Act}
use Rattle.re_terms.specs.declared.replicated.Act.TheVariants.{Add, Insert, Remove, Write}
use Rattle.re_terms.specs.declared.replicated.Dot.{Dot}
use Rattle.re_terms.specs.declared.replicated.Pair.{Pair}
use Rattle.re_terms.specs.declared.replicated.RCell.{RCell}
use Rattle.re_terms.specs.declared.replicated.RCell.TheVariants as cell
use Rattle.re_terms.specs.declared.replicated.RKind.{RKind}
use Rattle.re_terms.specs.declared.replicated.RKind.TheVariants as kind
use Rattle.re_terms.specs.declared.replicated.RState.{RState}
use Rattle.re_terms.specs.declared.replicated.Shape.{Shape}
use Rattle.re_terms.specs.declared.word.Kind.{Kind}
use Rattle.re_replica.specs.Cells.{AreAlike, CanMerge, IsOrdered, acted, at_place}

-- a cell of a state has a kind, which it fits
pub kind_at : (shape : Shape) (r : RState) → FitsShape shape r → (place : ℕ) (c : RCell) → slice_get r.cells.items place ≡ Some c → (k : RKind) × (slice_get shape.cells.items place ≡ Some k) × FitsKind shape r.vector.counts k c
kind_at shape r fits place c at =
    let within : place < length shape.cells.items = omega (arith, slice_get_within r.cells.items place c at, fits.count) in
    let k : RKind = get_or shape.cells.items place kind.Counter in
    let found = slice_get-get_or shape.cells.items place kind.Counter within in
    (k, found, fits.cells place k c found at)

device_within : (word : Bool) (device devices number most : ℕ) → devices ≤ 16 → (word && nat_lt device devices && nat_lt 0 number && nat_le number most) ≡ true → device < 16
device_within word device devices number most few h = grind (arith, nat_tests)

front : (a b : Bool) → (a && b) ≡ true → a ≡ true
front true b e = refl
front false b e = e

rest : (a b : Bool) → (a && b) ≡ true → b ≡ true
rest true b e = e
rest false b e = absurd (true≢false (sym e))

pairs_devices : (shape : Shape) (k : Kind) (counts : List ℕ) → shape.devices ≤ 16 → (ps : List Pair) → list_all (is_pair_of shape k counts) ps ≡ true → All (λ p. p.dot.device < 16) ps
pairs_devices shape k counts few [] e = All-nil (λ (p : Pair). p.dot.device < 16)
pairs_devices shape k counts few (p ∷ ps) e =
    All-cons (λ (q : Pair). q.dot.device < 16) p ps
    (device_within (is_word_of shape.symbols k p.element) p.dot.device shape.devices p.dot.number (slice_index counts p.dot.device) few (front (is_pair_of shape k counts p) (list_all (is_pair_of shape k counts) ps) e))
    (pairs_devices shape k counts few ps (rest (is_pair_of shape k counts p) (list_all (is_pair_of shape k counts) ps) e))

kind_ordered : (shape : Shape) (counts : List ℕ) → shape.devices ≤ 16 → (k : RKind) (c : RCell) → FitsKind shape counts k c → IsOrdered c
kind_ordered shape counts few kind.Counter (cell.Counter rows) f = tt
kind_ordered shape counts few kind.Counter (cell.Set ps) f = absurd f
kind_ordered shape counts few kind.Counter (cell.Register w) f = tt
kind_ordered shape counts few (kind.Set k) (cell.Counter rows) f = tt
kind_ordered shape counts few (kind.Set k) (cell.Set ps) f = (f.0, pairs_devices shape k counts few ps.items f.1, f.2)
kind_ordered shape counts few (kind.Set k) (cell.Register w) f = tt
kind_ordered shape counts few (kind.Register k start) (cell.Counter rows) f = tt
kind_ordered shape counts few (kind.Register k start) (cell.Set ps) f = absurd f
kind_ordered shape counts few (kind.Register k start) (cell.Register w) f = tt

pub ordered_at : (shape : Shape) (r : RState) → shape.devices ≤ 16 → FitsShape shape r → (place : ℕ) (c : RCell) → slice_get r.cells.items place ≡ Some c → IsOrdered c
ordered_at shape r few fits place c at = let k = kind_at shape r fits place c at in kind_ordered shape r.vector.counts few k.0 c k.2

kind_alike : (shape : Shape) (v w : List ℕ) (k : RKind) (a b : RCell) → FitsKind shape v k a → FitsKind shape w k b → AreAlike a b
kind_alike shape v w kind.Counter (cell.Counter a) (cell.Counter b) f g = tt
kind_alike shape v w (kind.Set k) (cell.Set a) (cell.Set b) f g = tt
kind_alike shape v w (kind.Register k start) (cell.Register a) (cell.Register b) f g = tt
kind_alike shape v w kind.Counter (cell.Counter a) (cell.Set b) f g = absurd g
kind_alike shape v w kind.Counter (cell.Counter a) (cell.Register b) f g = absurd g
kind_alike shape v w kind.Counter (cell.Set a) b f g = absurd f
kind_alike shape v w kind.Counter (cell.Register a) b f g = absurd f
kind_alike shape v w (kind.Set k) (cell.Set a) (cell.Counter b) f g = absurd g
kind_alike shape v w (kind.Set k) (cell.Set a) (cell.Register b) f g = absurd g
kind_alike shape v w (kind.Set k) (cell.Counter a) b f g = absurd f
kind_alike shape v w (kind.Set k) (cell.Register a) b f g = absurd f
kind_alike shape v w (kind.Register k start) (cell.Register a) (cell.Counter b) f g = absurd g
kind_alike shape v w (kind.Register k start) (cell.Register a) (cell.Set b) f g = absurd g
kind_alike shape v w (kind.Register k start) (cell.Counter a) b f g = absurd f
kind_alike shape v w (kind.Register k start) (cell.Set a) b f g = absurd f

pub can_merge_at : (shape : Shape) (r s : RState) → shape.devices ≤ 16 → FitsShape shape r → FitsShape shape s → (place : ℕ) (x y : RCell) → slice_get r.cells.items place ≡ Some x → slice_get s.cells.items place ≡ Some y → CanMerge x y
can_merge_at shape r s few fits_r fits_s place x y at_r at_s =
    let k = kind_at shape r fits_r place x at_r in
    record {
      alike = kind_alike shape r.vector.counts s.vector.counts k.0 x y k.2 (fits_s.cells place k.0 y k.1 at_s);
      own = ordered_at shape r few fits_r place x at_r;
      other = ordered_at shape s few fits_s place y at_s;
    }

-- ---- acts

pub acted_is : (shape : Shape) (counts : List ℕ) (k : RKind) (c : RCell) (dot : Dot) (act : Act) → FitsKind shape counts k c → act_on k dot act c ≡ acted dot act c
acted_is shape counts kind.Counter (cell.Counter rows) dot (Add n) f = refl
acted_is shape counts kind.Counter (cell.Counter rows) dot (Insert e) f = refl
acted_is shape counts kind.Counter (cell.Counter rows) dot (Remove e) f = refl
acted_is shape counts kind.Counter (cell.Counter rows) dot (Write w) f = refl
acted_is shape counts (kind.Set k) (cell.Set ps) dot (Add n) f = refl
acted_is shape counts (kind.Set k) (cell.Set ps) dot (Insert e) f = refl
acted_is shape counts (kind.Set k) (cell.Set ps) dot (Remove e) f = refl
acted_is shape counts (kind.Set k) (cell.Set ps) dot (Write w) f = refl
acted_is shape counts (kind.Register k start) (cell.Register r) dot (Add n) f = refl
acted_is shape counts (kind.Register k start) (cell.Register r) dot (Insert e) f = refl
acted_is shape counts (kind.Register k start) (cell.Register r) dot (Remove e) f = refl
acted_is shape counts (kind.Register k start) (cell.Register r) dot (Write w) f = refl
acted_is shape counts kind.Counter (cell.Set ps) dot act f = absurd f
acted_is shape counts kind.Counter (cell.Register r) dot act f = absurd f
acted_is shape counts (kind.Set k) (cell.Counter rows) dot act f = absurd f
acted_is shape counts (kind.Set k) (cell.Register r) dot act f = absurd f
acted_is shape counts (kind.Register k start) (cell.Counter rows) dot act f = absurd f
acted_is shape counts (kind.Register k start) (cell.Set ps) dot act f = absurd f

pub change_is : (f : RKind → RCell → RCell) (g : RCell → RCell) (place : ℕ) (ks : List RKind) (cs : List RCell) → length cs ≡ length ks → ((k : RKind) (c : RCell) → slice_get ks place ≡ Some k → slice_get cs place ≡ Some c → f k c ≡ g c) → change_at place f ks cs ≡ at_place place g cs
change_is f g place [] [] e h = refl
change_is f g place [] (c ∷ cs) e h = absurd (omega arith)
change_is f g place (k ∷ ks) [] e h = refl
change_is f g zero (k ∷ ks) (c ∷ cs) e h = ap (λ x. x ∷ cs) (h k c refl refl)
change_is f g (suc place) (k ∷ ks) (c ∷ cs) e h = ap (λ l. c ∷ l) (change_is f g place ks cs (omega arith) h)
