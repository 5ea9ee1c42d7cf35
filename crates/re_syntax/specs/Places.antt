-- Where a list of tokens is refused, and why.
-- Read against: in `device a` LF `var` no program begins `device a var`, so the refusal is at 9; in `device a;` LF `signal s = ` and 128 times `(` the last `(`, at 148, opens the 129th expression; 65 operands joined by `+` have depth 65 and are refused at the first of them.
use Rattle.std.specs.Prelude.{ℕ, ◌+◌, ◌<◌, ◌≤◌, ◌≡◌, true, List, ◌++◌, take, Some, slice_get, ◌⊎◌}
use Rattle.std.specs.List.{list_all}
use Rattle.re_terms.specs.Trees.{is_declaration, raw_depth}
use Rattle.re_terms.specs.Listed.{Listed}
use Rattle.re_terms.specs.declared.reserved.TheConstants.{EVENT, SIGNAL, FOLD, MAP, FILTER, ON, DO}
use Rattle.re_terms.specs.declared.signs.TheConstants.{COLON, EQUALS, COMMA, OPEN}
use Rattle.re_terms.specs.declared.token.Mark.{Mark}
use Rattle.re_terms.specs.declared.token.Mark.TheVariants as mark
use Rattle.re_terms.specs.declared.token.Token.{Token}
use Rattle.re_terms.specs.declared.word.Kind.{Kind}
use Rattle.re_terms.specs.declared.raw_expr.RawLit.{RawLit}
use Rattle.re_terms.specs.declared.raw_expr.RawExpr.{RawExpr}
use Rattle.re_terms.specs.declared.raw.RawDecl.{RawDecl}
use Rattle.re_syntax.specs.Grammar.{marks_of, mark_at, kind_of, Literal, ReadsWhole, Declarations, Derives}

-- how many expressions may be open at one place
abbrev pub open_limit : ℕ → ℕ
open_limit place = 128

-- the limit is kept by all expressions that begin at this place or before it
abbrev pub IsKeptUpTo : ℕ → (ℕ → ℕ) → Type 0
IsKeptUpTo place limit = (k : ℕ) → k ≤ place → limit k ≤ 128

-- some program begins with the first `count` marks
pub record Begins (limit : ℕ → ℕ) (marks : List Mark) (count : ℕ) : Type 0 where
  pub more : List Mark
  pub program : List RawDecl
  pub derived : Derives limit (take count marks ++ more) program

-- the token with this number, counted from 0, begins at this byte
abbrev pub StandsAt : List Token → ℕ → ℕ → Type 0
StandsAt tokens number byte = (token : Token) × (slice_get tokens number ≡ Some token) × (token.at ≡ byte)

-- an event's source up to its expression
pub data SourceHead (at : ℕ → Mark) : ℕ → ℕ → Type 0 where
  mapped : {i : ℕ} {t : Listed ℕ} → at i ≡ mark.Reserved MAP → at (i + 1) ≡ mark.Sign OPEN → at (i + 2) ≡ mark.Name t → at (i + 3) ≡ mark.Sign COMMA
      → SourceHead at i (i + 4)
  filtered : {i : ℕ} {t : Listed ℕ} → at i ≡ mark.Reserved FILTER → at (i + 1) ≡ mark.Sign OPEN → at (i + 2) ≡ mark.Name t → at (i + 3) ≡ mark.Sign COMMA
      → SourceHead at i (i + 4)

-- what stands between a declaration's name and its expression, by the word that the declaration begins with
pub data ContentHead (at : ℕ → Mark) (word : ℕ) : ℕ → ℕ → Type 0 where
  derived : {i s : ℕ} → word ≡ EVENT → at i ≡ mark.Sign EQUALS → SourceHead at (i + 1) s → ContentHead at word i s
  signal : {i : ℕ} → word ≡ SIGNAL → at i ≡ mark.Sign EQUALS → ContentHead at word i (i + 1)
  fold : {i j : ℕ} {t : Listed ℕ} {k : Kind} {v : RawLit} → word ≡ FOLD → at i ≡ mark.Sign COLON → kind_of (at (i + 1)) ≡ Some k
      → at (i + 2) ≡ mark.Sign EQUALS → Literal at v (i + 3) j → at j ≡ mark.Reserved ON → at (j + 1) ≡ mark.Name t → at (j + 2) ≡ mark.Reserved DO
      → ContentHead at word i (j + 3)

-- a declaration up to its expression
pub record Head (at : ℕ → Mark) (i s : ℕ) : Type 0 where
  pub word : ℕ
  pub name : Listed ℕ
  pub begins : at i ≡ mark.Reserved word
  pub named : at (i + 1) ≡ mark.Name name
  pub content : ContentHead at word (i + 2) s

-- the other text has the same marks before this place
abbrev pub Agrees : ℕ → (ℕ → Mark) → (ℕ → Mark) → Type 0
Agrees count at other = (k : ℕ) → k < count → other k ≡ at k

-- an expression from this place on has a depth over 64, and none goes on with the mark behind it
pub record IsDeep (at : ℕ → Mark) (i : ℕ) : Type 0 where
  pub expression : RawExpr
  pub behind : ℕ
  pub read : ReadsWhole at open_limit expression i behind
  pub deep : 64 < raw_depth expression
  pub whole : (limit : ℕ → ℕ) (other : ℕ → Mark) (e : RawExpr) (n : ℕ) → Agrees (behind + 1) at other → ReadsWhole other limit e i n → n ≤ behind

-- a declaration whose expression ends with a depth over 64 has its expression's first token at this byte, and none before it is so
pub record EndsTooDeep (tokens : List Token) (byte : ℕ) : Type 0 where
  pub number : ℕ
  pub stands : StandsAt tokens number byte
  pub before : List RawDecl
  pub start : ℕ
  pub declared : Declarations (mark_at (marks_of tokens)) open_limit before 0 start
  pub shallow : list_all is_declaration before ≡ true
  pub head : Head (mark_at (marks_of tokens)) start number
  pub deep : IsDeep (mark_at (marks_of tokens)) number

-- the first token such that the tokens up to it, with it, begin no program begins at this byte;
-- none before it opens a 129th expression, and no declaration's expression ended too deep
pub record IsUnexpected (tokens : List Token) (byte : ℕ) : Type 0 where
  pub number : ℕ
  pub stands : StandsAt tokens number byte
  pub limit : ℕ → ℕ
  pub kept : IsKeptUpTo number limit
  pub begun : Begins limit (marks_of tokens) number
  pub ended : (limit : ℕ → ℕ) → Begins limit (marks_of tokens) (number + 1) → ⊥
  pub first : (deep : ℕ) → EndsTooDeep tokens deep → ⊥

-- the first token that opens a 129th expression begins at this byte: the tokens up to it, with it, begin a program, but none in which
-- the expression behind it is open beside no more than 127 others;
-- no declaration's expression ended too deep
pub record OpensTooMany (tokens : List Token) (byte : ℕ) : Type 0 where
  pub number : ℕ
  pub stands : StandsAt tokens number byte
  pub limit : ℕ → ℕ
  pub kept : IsKeptUpTo number limit
  pub begun : Begins limit (marks_of tokens) (number + 1)
  pub ended : (limit : ℕ → ℕ) → IsKeptUpTo (number + 1) limit → Begins limit (marks_of tokens) (number + 1) → ⊥
  pub first : (deep : ℕ) → EndsTooDeep tokens deep → ⊥

-- why a list of tokens is refused at a byte as too deep
abbrev pub IsTooDeep : List Token → ℕ → Type 0
IsTooDeep tokens byte = OpensTooMany tokens byte ⊎ EndsTooDeep tokens byte
