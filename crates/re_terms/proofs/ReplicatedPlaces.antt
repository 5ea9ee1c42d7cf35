-- Where the kinds of replicated cells stand, and whose they are.
use Rattle.std.proofs.Common.{◌≡◌, ◌+◌, ℕ, zero, suc, cond, Option, None, Some, List, [], ◌∷◌, take, refl, ap, ◌∙◌, arith}
use Rattle.std.specs.Prelude.{slice_get}
use Rattle.std.specs.List.{cons_option}
use Rattle.std.proofs.lemmas.List.Sums.{sum_by-cons}
use Rattle.re_terms.specs.Programs.{is_replicated, is_replicated_body}
use Rattle.re_terms.specs.Shapes.{replicated_kind, replicated_kinds}
use Rattle.re_terms.specs.SignalWords.{replicated_place}
use Rattle.re_terms.specs.declared.program.Body.{Body}
use Rattle.re_terms.specs.declared.program.Body.TheVariants as body
use Rattle.re_terms.specs.declared.program.Decl.{Decl}
use Rattle.re_terms.specs.declared.replicated.RKind.{RKind}
use Rattle.re_terms.specs.declared.replicated.RKind.TheVariants as replicated

one_after : (kind : RKind) (kinds : List RKind) (place : ℕ) → slice_get (kind ∷ kinds) (1 + place) ≡ slice_get kinds place
one_after kind kinds place = let e : 1 + place ≡ suc place = omega arith in ap (slice_get (kind ∷ kinds)) e

none_before : (kinds : List RKind) (place : ℕ) → slice_get kinds (0 + place) ≡ slice_get kinds place
none_before kinds place = let e : 0 + place ≡ place = omega arith in ap (slice_get kinds) e

-- the cells after a declaration stand one place further where it is a replicated cell
moved : (b : Body) (kinds : List RKind) (place : ℕ) → slice_get (cons_option (replicated_kind b) kinds) (cond (is_replicated_body b) 1 0 + place) ≡ slice_get kinds place
moved body.Counter kinds place = one_after replicated.Counter kinds place
moved (body.Set kind) kinds place = one_after (replicated.Set kind) kinds place
moved (body.Register kind start) kinds place = one_after (replicated.Register kind start) kinds place
moved b kinds place = none_before kinds place

-- a replicated cell's kind stands at its place
pub kind_at : (decls : List Decl) (id : ℕ) (d : Decl) (k : RKind) → slice_get decls id ≡ Some d → replicated_kind d.body ≡ Some k → slice_get (replicated_kinds decls) (replicated_place decls id) ≡ Some k
kind_at [] id d k at is = absurd (let e : None ≡ Some d = at in cc)
kind_at (x ∷ decls) zero d k at is =
    let own : Some x ≡ Some d = at in
    let e : x ≡ d = cc in
    ap (λ (o : Option RKind). slice_get (cons_option o (replicated_kinds decls)) 0) (ap (λ (y : Decl). replicated_kind y.body) e ∙ is)
kind_at (x ∷ decls) (suc id) d k at is =
    ap (slice_get (replicated_kinds (x ∷ decls))) (sum_by-cons (λ (y : Decl). cond (is_replicated y) 1 0) x (take id decls))
    ∙ moved x.body (replicated_kinds decls) (replicated_place decls id)
    ∙ kind_at decls id d k at is

-- whose kind it is
pub record KindFrom (decls : List Decl) (k : RKind) : Type 0 where
  pub id : ℕ
  pub declaration : Decl
  pub at : slice_get decls id ≡ Some declaration
  pub is : replicated_kind declaration.body ≡ Some k

further : (x : Decl) (decls : List Decl) (k : RKind) → KindFrom decls k → KindFrom (x ∷ decls) k
further x decls k f = record { id = suc f.id; declaration = f.declaration; at = f.at; is = f.is }

from_by : (x : Decl) (decls : List Decl) (place : ℕ) (k : RKind) (o : Option RKind) → replicated_kind x.body ≡ o → ((place : ℕ) → slice_get (replicated_kinds decls) place ≡ Some k → KindFrom decls k) → slice_get (cons_option o (replicated_kinds decls)) place ≡ Some k → KindFrom (x ∷ decls) k
from_by x decls place k None own rest at = further x decls k (rest place at)
from_by x decls zero k (Some j) own rest at = let same : Some j ≡ Some k = at in record { id = 0; declaration = x; at = refl; is = own ∙ same }
from_by x decls (suc place) k (Some j) own rest at = further x decls k (rest place at)

pub kind_from : (decls : List Decl) (place : ℕ) (k : RKind) → slice_get (replicated_kinds decls) place ≡ Some k → KindFrom decls k
kind_from [] place k at = absurd (let e : None ≡ Some k = at in cc)
kind_from (x ∷ decls) place k at = from_by x decls place k (replicated_kind x.body) refl (λ place. kind_from decls place k) at
