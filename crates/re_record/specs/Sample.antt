-- Small programs for tests and examples.
-- Read against: `small` is `device a; var x: int = 0;`, and `mixed` is `device a; device b; symbol c; var d: int = 0; event e: bool; fold f: int = 0 on e do self; counter g; set h: sym; register i: int = 0;`
use Rattle.std.specs.Prelude.{ℕ, ◌+◌, ◌≤◌, pos, List, [], ◌∷◌, length}
use Rattle.re_print.specs.Canonical.{program_text}
use Rattle.re_terms.specs.Listed.{plain}
use Rattle.re_terms.specs.Programs.{IsProgram}
use Rattle.re_terms.specs.declared.expr.Expr.{Expr, roll-Expr}
use Rattle.re_terms.specs.declared.expr.Expr.TheOpen.{Own}
use Rattle.re_terms.specs.declared.program.Body.{Body}
use Rattle.re_terms.specs.declared.program.Body.TheVariants as body
use Rattle.re_terms.specs.declared.program.Decl.{Decl}
use Rattle.re_terms.specs.declared.program.Program.{Program}
use Rattle.re_terms.specs.declared.word.Kind.TheVariants as kind
use Rattle.re_terms.specs.declared.word.Word.{Word}
use Rattle.re_terms.specs.declared.word.Word.TheVariants as word

-- a declaration whose name is one letter
abbrev pub named : ℕ → Body → Decl
named letter b = record { name = plain (letter ∷ []); body = b }

-- declarations named by one letter after the other
abbrev pub lettered : ℕ → List Body → List Decl
lettered letter [] = []
lettered letter (b ∷ bodies) = named letter b ∷ lettered (letter + 1) bodies

abbrev pub zero_word : Word
zero_word = word.Int (pos 0)

abbrev pub small_decls : List Decl
small_decls = named 97 body.Device ∷ named 120 (body.Var kind.Int zero_word 1) ∷ []

abbrev pub small : Program
small = record { decls = plain small_decls }

abbrev pub mixed_bodies : List Body
mixed_bodies =
    body.Device ∷ body.Device ∷ body.Symbol
    ∷ body.Var kind.Int zero_word 1
    ∷ body.Event kind.Bool
    ∷ body.Fold kind.Int zero_word 4 (roll-Expr Own) 1
    ∷ body.Counter ∷ body.Set kind.Sym ∷ body.Register kind.Int zero_word
    ∷ []

abbrev pub mixed : Program
mixed = record { decls = plain (lettered 97 mixed_bodies) }
