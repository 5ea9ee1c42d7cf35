-- The canonical text of a program, and the texts of words.
-- Read against: `device a; var x:int=-3; signal s=if x<0 then 0-x else x;` has the lines `device a;`, `var x: int = -3 in 1;` and `signal s = (if (x < 0) then (0 - x) else x);`.
use Rattle.std.specs.Prelude.{ℕ, Bool, true, false, List, [], ◌++◌, Option, None, Some, codes, filter, slice_get}
use Rattle.std.specs.List.{flat_map}
use Rattle.std.specs.Fmt.{decimal, signed_decimal}
use Rattle.re_terms.specs.declared.word.Word.{Word}
use Rattle.re_terms.specs.declared.word.Word.TheVariants as word
use Rattle.re_terms.specs.declared.word.Kind.{Kind}
use Rattle.re_terms.specs.declared.word.Kind.TheVariants as kind
use Rattle.re_terms.specs.declared.expr.Op.{Op}
use Rattle.re_terms.specs.declared.expr.Op.TheVariants as op
use Rattle.re_terms.specs.declared.expr.Expr.{Expr, fold-Expr}
use Rattle.re_terms.specs.declared.expr.Expr.TheOpen.{Expr-F, Lit, Name, Arg, Own, Not, Bin, If, Recover, Size, Has}
use Rattle.re_terms.specs.declared.program.Body.{Body}
use Rattle.re_terms.specs.declared.program.Body.TheVariants as body
use Rattle.re_terms.specs.declared.program.Decl.{Decl}
use Rattle.re_terms.specs.declared.program.Program.{Program}
use Rattle.re_terms.specs.Programs.{is_symbol}

-- a declaration's name; nothing where there is no declaration
abbrev pub declared_name : Option Decl → List ℕ
declared_name None = []
declared_name (Some d) = d.name.items

-- the name of the declaration with this id
abbrev pub name_text : Program → ℕ → List ℕ
name_text p id = declared_name (slice_get p.decls.items id)

-- the name of the symbol with this number, counted from 0 among the symbols
abbrev pub symbol_text : Program → ℕ → List ℕ
symbol_text p number = declared_name (slice_get (filter is_symbol p.decls.items) number)

abbrev pub truth_text : Bool → List ℕ
truth_text true = codes "true"
truth_text false = codes "false"

abbrev pub kind_text : Kind → List ℕ
kind_text kind.Int = codes "int"
kind_text kind.Bool = codes "bool"
kind_text kind.Sym = codes "sym"

abbrev pub op_text : Op → List ℕ
op_text op.Add = codes "+"
op_text op.Sub = codes "-"
op_text op.Mul = codes "*"
op_text op.Div = codes "/"
op_text op.Rem = codes "%"
op_text op.Lt = codes "<"
op_text op.Le = codes "<="
op_text op.Gt = codes ">"
op_text op.Ge = codes ">="
op_text op.Eq = codes "=="
op_text op.Ne = codes "!="
op_text op.And = codes "and"
op_text op.Or = codes "or"

-- a word as an answer has it
abbrev pub word_text : Program → Word → List ℕ
word_text p (word.Int z) = signed_decimal z
word_text p (word.Bool b) = truth_text b
word_text p (word.Sym number) = symbol_text p number
word_text p (word.Fault code) = codes "fault " ++ decimal code

-- a word as a program has it
abbrev pub literal_text : Program → Word → List ℕ
literal_text p (word.Fault code) = codes "fault(" ++ decimal code ++ codes ")"
literal_text p w = word_text p w

-- one case for each form of expression
abbrev pub expr_step : Program → Expr-F (List ℕ) → List ℕ
expr_step p (Lit w) = literal_text p w
expr_step p (Name id) = name_text p id
expr_step p Arg = codes "arg"
expr_step p Own = codes "self"
expr_step p (Not operand) = codes "not(" ++ operand ++ codes ")"
expr_step p (Bin o left right) = codes "(" ++ left ++ codes " " ++ op_text o ++ codes " " ++ right ++ codes ")"
expr_step p (If condition a b) = codes "(if " ++ condition ++ codes " then " ++ a ++ codes " else " ++ b ++ codes ")"
expr_step p (Recover tried other) = codes "recover(" ++ tried ++ codes ", " ++ other ++ codes ")"
expr_step p (Size set) = codes "size(" ++ name_text p set ++ codes ")"
expr_step p (Has set element) = codes "has(" ++ name_text p set ++ codes ", " ++ element ++ codes ")"

abbrev pub expr_text : Program → Expr → List ℕ
expr_text p = fold-Expr (List ℕ) (expr_step p)

-- the word that a declaration begins with
abbrev pub keyword_text : Body → List ℕ
keyword_text body.Device = codes "device"
keyword_text body.Symbol = codes "symbol"
keyword_text (body.Var kind start region) = codes "var"
keyword_text (body.Event kind) = codes "event"
keyword_text (body.Signal kind expr) = codes "signal"
keyword_text (body.Changed of) = codes "event"
keyword_text (body.Map source kind expr) = codes "event"
keyword_text (body.Filter source expr) = codes "event"
keyword_text (body.Either left right) = codes "event"
keyword_text (body.Fold kind start source expr region) = codes "fold"
keyword_text body.Counter = codes "counter"
keyword_text (body.Set kind) = codes "set"
keyword_text (body.Register kind start) = codes "register"

-- a kind, and the word at the start
abbrev pub start_text : Program → Kind → Word → List ℕ
start_text p k start = codes ": " ++ kind_text k ++ codes " = " ++ literal_text p start

-- what stands behind a declaration's name
abbrev pub body_text : Program → Body → List ℕ
body_text p body.Device = []
body_text p body.Symbol = []
body_text p (body.Var k start region) = start_text p k start ++ codes " in " ++ decimal region
body_text p (body.Event k) = codes ": " ++ kind_text k
body_text p (body.Signal k expr) = codes " = " ++ expr_text p expr
body_text p (body.Changed of) = codes " = changed(" ++ name_text p of ++ codes ")"
body_text p (body.Map source k expr) = codes " = map(" ++ name_text p source ++ codes ", " ++ expr_text p expr ++ codes ")"
body_text p (body.Filter source expr) = codes " = filter(" ++ name_text p source ++ codes ", " ++ expr_text p expr ++ codes ")"
body_text p (body.Either left right) = codes " = either(" ++ name_text p left ++ codes ", " ++ name_text p right ++ codes ")"
body_text p (body.Fold k start source expr region) = start_text p k start ++ codes " on " ++ name_text p source ++ codes " do " ++ expr_text p expr ++ codes " in " ++ decimal region
body_text p body.Counter = []
body_text p (body.Set k) = codes ": " ++ kind_text k
body_text p (body.Register k start) = start_text p k start

-- a declaration's line
abbrev pub line_text : Program → Decl → List ℕ
line_text p d = keyword_text d.body ++ codes " " ++ d.name.items ++ body_text p d.body ++ codes ";\n"

-- the canonical text: one line for each declaration, in order
abbrev pub program_text : Program → List ℕ
program_text p = flat_map (line_text p) p.decls.items
