-- Where a declared set stands among the replicated cells.
use Rattle.std.proofs.Common.{◌≡◌, ◌<◌, ℕ, inl, inr, true, false, Option, None, Some, List, length, refl, sym, ap, subst, ◌∙◌, arith}
use Rattle.std.specs.Prelude.{slice_get, slice_index_or}
use Rattle.std.specs.List.Sorted.{IsStrictlySortedBy}
use Rattle.std.specs.Option.{option_map_or}
use Rattle.std.proofs.lemmas.Option.{get_or_from_slice_get, slice_get-get_or, slice_get_cases, slice_get_within}
use Rattle.re_terms.specs.Listed.{Listed}
use Rattle.re_terms.specs.Shapes.{FitsKind, FitsShape, replicated_kind, replicated_kinds, shape_of}
use Rattle.re_terms.specs.SignalWords.{replicated_place}
use Rattle.re_terms.specs.WordOrder.{pair_cmp}
use Rattle.re_terms.specs.Worlds.{is_set_at, is_set_body}
use Rattle.re_terms.specs.declared.program.Body.{Body}
use Rattle.re_terms.specs.declared.program.Body.TheVariants as body
use Rattle.re_terms.specs.declared.program.Decl.{Decl}
use Rattle.re_terms.specs.declared.program.Program.{Program}
use Rattle.re_terms.specs.declared.replicated.Pair.{Pair}
use Rattle.re_terms.specs.declared.replicated.RCell.{RCell}
use Rattle.re_terms.specs.declared.replicated.RCell.TheVariants as cell
use Rattle.re_terms.specs.declared.replicated.RKind.TheVariants as replicated
use Rattle.re_terms.specs.declared.replicated.RState.{RState}
use Rattle.re_terms.specs.declared.replicated.Shape.{Shape}
use Rattle.re_terms.specs.declared.word.Kind.{Kind}
use Rattle.re_terms.proofs.ReplicatedPlaces.{kind_at}

set_kind : (b : Body) → is_set_body b ≡ true → (k : Kind) × (replicated_kind b ≡ Some (replicated.Set k))
set_kind body.Device is = absurd (cc)
set_kind body.Symbol is = absurd (cc)
set_kind (body.Var kind start region) is = absurd (cc)
set_kind (body.Event kind) is = absurd (cc)
set_kind (body.Signal kind expr) is = absurd (cc)
set_kind (body.Changed of) is = absurd (cc)
set_kind (body.Map source kind expr) is = absurd (cc)
set_kind (body.Filter source expr) is = absurd (cc)
set_kind (body.Either left right) is = absurd (cc)
set_kind (body.Fold kind start source expr region) is = absurd (cc)
set_kind body.Counter is = absurd (cc)
set_kind (body.Set kind) is = (kind, refl)
set_kind (body.Register kind start) is = absurd (cc)

-- a set at a place of these cells, with pairs that ascend
pub record HasSetAt (cells : List RCell) (place : ℕ) : Type 0 where
  pub pairs : Listed Pair
  pub there : slice_get cells place ≡ Some (cell.Set pairs)
  pub ascend : IsStrictlySortedBy pair_cmp pairs.items

set_found : (shape : Shape) (counts : List ℕ) (k : Kind) (cells : List RCell) (place : ℕ) (c : RCell) → slice_get cells place ≡ Some c → FitsKind shape counts (replicated.Set k) c → HasSetAt cells place
set_found shape counts k cells place (cell.Counter rows) at fits = absurd fits
set_found shape counts k cells place (cell.Set pairs) at fits = record { pairs = pairs; there = at; ascend = fits.0 }
set_found shape counts k cells place (cell.Register w) at fits = absurd fits

set_by : (p : Program) (r : RState) (id : ℕ) (found : Option Decl) → slice_get p.decls.items id ≡ found → FitsShape (shape_of p) r → option_map_or (λ d. is_set_body d.body) found false ≡ true → HasSetAt r.cells.items (replicated_place p.decls.items id)
set_by p r id None at fits is = absurd (let e : false ≡ true = is in cc)
set_by p r id (Some d) at fits is =
    let place : ℕ = replicated_place p.decls.items id in
    let set = set_kind d.body is in
    let kind = kind_at p.decls.items id d (replicated.Set set.0) at set.1 in
    let within = slice_get_within (replicated_kinds p.decls.items) place (replicated.Set set.0) kind in
    let count = fits.count in
    elim (slice_get_cases r.cells.items place).1 [
      | inl c ↦ set_found (shape_of p) r.vector.counts set.0 r.cells.items place c.0 c.2 (fits.cells place (replicated.Set set.0) c.0 kind c.2)
      | inr past ↦ absurd (omega (arith, within, count, past.0))
    ]

-- a state that fits has the set at its place
pub set_there : (p : Program) (r : RState) (id : ℕ) → FitsShape (shape_of p) r → is_set_at p.decls.items id ≡ true → HasSetAt r.cells.items (replicated_place p.decls.items id)
set_there p r id fits is = set_by p r id (slice_get p.decls.items id) refl fits is

-- what is read at the place is that set
pub set_read : (cells : List RCell) (place : ℕ) (d : RCell) (set : HasSetAt cells place) → slice_index_or cells place d ≡ cell.Set set.pairs
set_read cells place d set = get_or_from_slice_get cells place (cell.Set set.pairs) d set.there

pub ascends : (cells : List RCell) (place : ℕ) (pairs : Listed Pair) → HasSetAt cells place → slice_get cells place ≡ Some (cell.Set pairs) → IsStrictlySortedBy pair_cmp pairs.items
ascends cells place pairs set at =
    let both : Some (cell.Set set.pairs) ≡ Some (cell.Set pairs) = sym set.there ∙ at in
    let same : set.pairs ≡ pairs = cc in
    subst (λ (l : Listed Pair). IsStrictlySortedBy pair_cmp l.items) same set.ascend

pub within : (cells : List RCell) (place : ℕ) → HasSetAt cells place → place < length cells
within cells place set = slice_get_within cells place (cell.Set set.pairs) set.there

-- what is read within a list stands there
pub read_at : (cells : List RCell) (place : ℕ) (c : RCell) → place < length cells → c ≡ slice_index_or cells place c → slice_get cells place ≡ Some c
read_at cells place c inside is = slice_get-get_or cells place c inside ∙ ap Some (sym is)
