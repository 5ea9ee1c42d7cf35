-- A list of tokens has one answer: one tree, or one refusal at one place.
-- Read against: `device a;` is one tree and isn't refused; `device a` LF `var` is refused at 9, nowhere else, and not as too deep; it is no tree.
use Rattle.std.specs.Prelude.{ℕ, ◌≡◌, true, List}
use Rattle.std.specs.List.{list_all}
use Rattle.re_terms.specs.Trees.{is_declaration}
use Rattle.re_terms.specs.declared.token.Token.{Token}
use Rattle.re_terms.specs.declared.raw.RawDecl.{RawDecl}
use Rattle.re_syntax.specs.declared.fault.SyntaxFault.{SyntaxFault}
use Rattle.re_syntax.specs.declared.fault.SyntaxFault.TheVariants as fault
use Rattle.re_syntax.specs.Grammar.{marks_of, Derives}
use Rattle.re_syntax.specs.Places.{open_limit, IsUnexpected, IsTooDeep}

-- the tokens are refused so; want of memory says nothing of them
abbrev pub IsRefused : List Token → SyntaxFault → Type 0
IsRefused tokens fault.Memory = ⊥
IsRefused tokens (fault.At byte) = IsUnexpected tokens byte
IsRefused tokens (fault.Deep byte) = IsTooDeep tokens byte

-- the tokens derive this tree, within the limits on open expressions, depths and numbers
pub record HasTree (tokens : List Token) (tree : List RawDecl) : Type 0 where
  pub derived : Derives open_limit (marks_of tokens) tree
  pub declarations : list_all is_declaration tree ≡ true

-- tokens that derive a tree within the limit on open expressions derive no other, within whatever limit
abbrev pub HasNoOtherTree : List Token → Type 0
HasNoOtherTree tokens = (limit : ℕ → ℕ) (tree other : List RawDecl) → Derives open_limit (marks_of tokens) tree → Derives limit (marks_of tokens) other → other ≡ tree

-- tokens that are refused are refused for this cause and at this place alone
abbrev pub HasNoOtherRefusal : List Token → Type 0
HasNoOtherRefusal tokens = (one other : SyntaxFault) → IsRefused tokens one → IsRefused tokens other → other ≡ one

-- no tokens have both a tree and a refusal
abbrev pub HasNotBoth : List Token → Type 0
HasNotBoth tokens = (tree : List RawDecl) (one : SyntaxFault) → HasTree tokens tree → IsRefused tokens one → ⊥
