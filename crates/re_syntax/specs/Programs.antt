-- What the reader of declarations answers.
-- Read against: `device a;` and the end are one declaration; `device` and the end are refused at number 1.
use Rattle.std.specs.Prelude.{ℕ, ◌<◌, ◌≤◌, ◌≡◌, true, List, length}
use Rattle.std.specs.List.{list_all}
use Rattle.re_terms.specs.Listed.{Listed}
use Rattle.re_terms.specs.Trees.{is_declaration, raw_depth}
use Rattle.re_terms.specs.declared.token.Token.{Token}
use Rattle.re_terms.specs.declared.raw.RawBody.{RawBody}
use Rattle.re_terms.specs.declared.raw.RawBody.TheVariants as body
use Rattle.re_terms.specs.declared.raw.RawDecl.{RawDecl}
use Rattle.re_syntax.specs.declared.stop.Stop.{Stop}
use Rattle.re_syntax.specs.declared.stop.Stop.TheVariants as stop
use Rattle.re_syntax.specs.Grammar.{marks_of, Derives}
use Rattle.re_syntax.specs.Places.{open_limit, StandsAt, IsUnexpected, OpensTooMany, EndsTooDeep}

-- the expression of a body isn't too deep
abbrev pub IsShallow : RawBody → Type 0
IsShallow (body.Signal e) = raw_depth e ≤ 64
IsShallow (body.Map t e) = raw_depth e ≤ 64
IsShallow (body.Filter t e) = raw_depth e ≤ 64
IsShallow (body.Fold k v t e r) = raw_depth e ≤ 64
IsShallow b = Unit {0}

-- the tokens are these declarations and no others
pub record IsProgram (tokens : List Token) (decls : Listed RawDecl) : Type 0 where
  pub plain : decls.spare ≡ 0
  pub derived : Derives open_limit (marks_of tokens) decls.items
  pub declarations : list_all is_declaration decls.items ≡ true
  pub only : (limit : ℕ → ℕ) (other : List RawDecl) → Derives limit (marks_of tokens) other → other ≡ decls.items
  pub shallow : (byte : ℕ) → EndsTooDeep tokens byte → ⊥

-- why the tokens are no program
abbrev pub ProgramStop : List Token → Stop → Type 0
ProgramStop tokens stop.Memory = Unit {0}
ProgramStop tokens (stop.Unexpected j) = (j < length tokens) × ((byte : ℕ) → StandsAt tokens j byte → IsUnexpected tokens byte)
ProgramStop tokens (stop.TooMany j) = (j < length tokens) × ((byte : ℕ) → StandsAt tokens j byte → OpensTooMany tokens byte)
ProgramStop tokens (stop.TooDeep j) = (j < length tokens) × ((byte : ℕ) → StandsAt tokens j byte → EndsTooDeep tokens byte)

pub record StopsProgram (tokens : List Token) (s : Stop) : Type 0 where
  pub told : ProgramStop tokens s
