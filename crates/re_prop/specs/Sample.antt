-- Small programs for tests, whose declarations are named by the letters a, b, c and so on.
-- Read against: `diamond` is `device a; var b: int = 1; signal c = b + 1; signal d = b * 2; signal e = c + d; event f = changed(e); fold g: int = 0 on f do self + 1; event h = changed(g); fold i: int = 0 on h do e + g;`
-- `faulty` is `device a; event b: int; fold c: int = 0 on b do self + 10 / arg; event d = filter(b, 10 / arg > 2); fold e: int = 0 on d do recover(arg, 100); event f = changed(c); event g = either(f, b); fold h: int = 0 on g do self + arg;`,
-- `dividing` is `device a; event b: int; fold c: int = 0 on b do self + 10 / arg; fold d: int = 0 on b do recover(self + 10 / arg, 100);`,
-- `counting` is `device a; var b: int = 1; event c = changed(b); fold d: int = 0 on c do self + 1;`
-- and `clearing` is `device a; event b: int; event c = filter(b, 10 / arg > 2); fold d: int = 0 on c do arg; fold e: int = 0 on b do if arg == 7 then recover(self, 50) else self + 10 / arg; signal f = d + e;`
use Rattle.std.specs.Prelude.{ℕ, ◌+◌, pos, List, [], ◌∷◌}
use Rattle.re_terms.specs.Listed.{plain}
use Rattle.re_terms.specs.declared.word.Word.TheVariants as word
use Rattle.re_terms.specs.declared.word.Kind.TheVariants as kind
use Rattle.re_terms.specs.declared.expr.Op.{Op}
use Rattle.re_terms.specs.declared.expr.Op.TheVariants as op
use Rattle.re_terms.specs.declared.expr.Expr.{Expr, roll-Expr}
use Rattle.re_terms.specs.declared.expr.Expr.TheOpen.{Lit, Name, Arg, Own, Bin, If, Recover}
use Rattle.re_terms.specs.declared.program.Body.{Body}
use Rattle.re_terms.specs.declared.program.Body.TheVariants as body
use Rattle.re_terms.specs.declared.program.Decl.{Decl}
use Rattle.re_terms.specs.declared.program.Program.{Program}

-- a declaration whose name is one letter
abbrev pub named : ℕ → Body → Decl
named letter b = record { name = plain (letter ∷ []); body = b }

-- declarations named by one letter after the other
abbrev pub lettered : ℕ → List Body → List Decl
lettered letter [] = []
lettered letter (b ∷ bodies) = named letter b ∷ lettered (letter + 1) bodies

abbrev pub program_of : List Body → Program
program_of bodies = record { decls = plain (lettered 97 bodies) }

abbrev pub number : ℕ → Expr
number n = roll-Expr (Lit (word.Int (pos n)))

abbrev pub binary : Op → Expr → Expr → Expr
binary o left right = roll-Expr (Bin o left right)

-- an expression's word, and this number where it is a fault
abbrev pub recover : Expr → ℕ → Expr
recover tried n = roll-Expr (Recover tried (number n))

-- a var of ints that is 1 at the start
abbrev pub var : Body
var = body.Var kind.Int (word.Int (pos 1)) 1

-- a fold of ints that begins at 0
abbrev pub fold_on : ℕ → Expr → Body
fold_on source e = body.Fold kind.Int (word.Int (pos 0)) source e 1

abbrev pub signal : Expr → Body
signal e = body.Signal kind.Int e

-- 10 by the event's value
abbrev pub quotient : Expr
quotient = binary op.Div (number 10) (roll-Expr Arg)

-- the fold's word and the quotient
abbrev pub quotient_sum : Expr
quotient_sum = binary op.Add (roll-Expr Own) quotient

abbrev pub diamond : List Body
diamond =
    body.Device ∷ var
    ∷ signal (binary op.Add (roll-Expr (Name 1)) (number 1))
    ∷ signal (binary op.Mul (roll-Expr (Name 1)) (number 2))
    ∷ signal (binary op.Add (roll-Expr (Name 2)) (roll-Expr (Name 3)))
    ∷ body.Changed 4
    ∷ fold_on 5 (binary op.Add (roll-Expr Own) (number 1))
    ∷ body.Changed 6
    ∷ fold_on 7 (binary op.Add (roll-Expr (Name 4)) (roll-Expr (Name 6)))
    ∷ []

abbrev pub faulty : List Body
faulty =
    body.Device ∷ body.Event kind.Int
    ∷ fold_on 1 quotient_sum
    ∷ body.Filter 1 (binary op.Gt quotient (number 2))
    ∷ fold_on 3 (recover (roll-Expr Arg) 100)
    ∷ body.Changed 2
    ∷ body.Either 5 1
    ∷ fold_on 6 (binary op.Add (roll-Expr Own) (roll-Expr Arg))
    ∷ []

abbrev pub dividing : List Body
dividing =
    body.Device ∷ body.Event kind.Int
    ∷ fold_on 1 quotient_sum
    ∷ fold_on 1 (recover quotient_sum 100)
    ∷ []

abbrev pub counting : List Body
counting =
    body.Device ∷ var
    ∷ body.Changed 1
    ∷ fold_on 2 (binary op.Add (roll-Expr Own) (number 1))
    ∷ []

-- where the event's value is 7 the fold's word or 50, else the sum
abbrev pub recovering : Expr
recovering = roll-Expr (If (binary op.Eq (roll-Expr Arg) (number 7)) (recover (roll-Expr Own) 50) quotient_sum)

abbrev pub clearing : List Body
clearing =
    body.Device ∷ body.Event kind.Int
    ∷ body.Filter 1 (binary op.Gt quotient (number 2))
    ∷ fold_on 2 (roll-Expr Arg)
    ∷ fold_on 1 recovering
    ∷ signal (binary op.Add (roll-Expr (Name 3)) (roll-Expr (Name 4)))
    ∷ []
