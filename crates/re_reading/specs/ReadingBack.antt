-- What reading the canonical text of a program gives.
-- Read against: `device a;` and `var x: int = -3 in 1;` are the canonical text of the program that `device a; var x:int=-3;` means; read again, they mean the same.
use Rattle.std.specs.Prelude.{◌≡◌, List, Ok}
use Rattle.re_terms.specs.Listed.{plain}
use Rattle.re_terms.specs.Trees.{IsTree}
use Rattle.re_terms.specs.declared.token.Token.{Token}
use Rattle.re_terms.specs.declared.raw.RawDecl.{RawDecl}
use Rattle.re_terms.specs.declared.raw.Tree.{Tree}
use Rattle.re_terms.specs.declared.program.Program.{Program}
use Rattle.re_tokens.specs.TokenGrammar.{IsTokens}
use Rattle.re_syntax.specs.Grammar.{marks_of, Derives}
use Rattle.re_syntax.specs.Places.{open_limit}
use Rattle.re_types.specs.Resolving.{resolved}
use Rattle.re_print.specs.Canonical.{program_text}

-- a tree with these declarations, with nothing reserved
abbrev pub tree_of : List RawDecl → Tree
tree_of decls = record { decls = plain decls }

-- the canonical text has these tokens, they are these declarations, of which none is too deep, and these mean the program
pub record ReadsBack (p : Program) : Type 0 where
  pub tokens : List Token
  pub decls : List RawDecl
  pub scanned : IsTokens (program_text p) tokens
  pub derived : Derives open_limit (marks_of tokens) decls
  pub ranged : IsTree (tree_of decls)
  pub means : resolved (tree_of decls) ≡ Ok p
