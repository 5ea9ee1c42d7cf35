-- The tree that the canonical text of a program is, and its marks.
use Rattle.std.proofs.Common.{ℕ, suc, ◌&&◌, Bool, true, false, List, [], ◌∷◌, ◌++◌, map}
use Rattle.std.specs.Prelude.{ℤ, pos, negsuc, nat_le}
use Rattle.std.specs.List.{flat_map}
use Rattle.re_terms.specs.Listed.{Listed, plain}
use Rattle.re_terms.specs.Arithmetic.{is_word_number}
use Rattle.re_terms.specs.Tokens.{is_name}
use Rattle.re_terms.specs.Programs.{expr_depth}
use Rattle.re_terms.specs.Trees.{is_name_text, is_fault_code, is_region}
use Rattle.re_terms.specs.declared.token.Mark.{Mark}
use Rattle.re_terms.specs.declared.token.Mark.TheVariants as mark
use Rattle.re_terms.specs.declared.word.Word.{Word}
use Rattle.re_terms.specs.declared.word.Word.TheVariants as word
use Rattle.re_terms.specs.declared.word.Kind.{Kind}
use Rattle.re_terms.specs.declared.word.Kind.TheVariants as kind
use Rattle.re_terms.specs.declared.expr.Op.{Op}
use Rattle.re_terms.specs.declared.expr.Op.TheVariants as op
use Rattle.re_terms.specs.declared.expr.Expr.{Expr, fold-Expr}
use Rattle.re_terms.specs.declared.expr.Expr.TheOpen.{Expr-F, Lit, Name, Arg, Own, Not, Bin, If, Recover, Size, Has}
use Rattle.re_terms.specs.declared.program.Body.{Body}
use Rattle.re_terms.specs.declared.program.Body.TheVariants as body
use Rattle.re_terms.specs.declared.program.Decl.{Decl}
use Rattle.re_terms.specs.declared.program.Program.{Program}
use Rattle.re_terms.specs.declared.raw_expr.RawLit.{RawLit}
use Rattle.re_terms.specs.declared.raw_expr.RawLit.TheVariants as literal
use Rattle.re_terms.specs.declared.raw_expr.RawExpr.{RawExpr}
use Rattle.re_terms.specs.declared.raw_expr.RawExpr.TheVariants as expr
use Rattle.re_terms.specs.declared.raw.RawBody.{RawBody}
use Rattle.re_terms.specs.declared.raw.RawBody.TheVariants as raw
use Rattle.re_terms.specs.declared.raw.RawDecl.{RawDecl}
use Rattle.re_print.specs.Canonical.{name_text, symbol_text}
use Rattle.re_terms.specs.declared.reserved.TheConstants.{DEVICE, SYMBOL, VAR, EVENT, SIGNAL, FOLD, COUNTER, SET, REGISTER, CHANGED, MAP, FILTER, EITHER, ON, DO, IN, ARG, SELF, IF, THEN, ELSE, AND, OR, NOT, RECOVER, FAULT, SIZE, HAS, TRUE, FALSE, INT, BOOL, SYM}
use Rattle.re_terms.specs.declared.signs.TheConstants.{SEMICOLON, COLON, EQUALS, COMMA, OPEN, CLOSE, PLUS, MINUS, TIMES, DIVIDE, REMAINDER, LESS, GREATER, EQUAL, NOT_EQUAL, AT_MOST, AT_LEAST}

-- the name of a declaration, as a tree has it
abbrev pub name_of : Program → ℕ → Listed ℕ
name_of p id = plain (name_text p id)

-- a start word; no start word is a fault
abbrev pub raw_literal : Program → Word → RawLit
raw_literal p (word.Int z) = literal.Int z
raw_literal p (word.Bool b) = literal.Bool b
raw_literal p (word.Sym number) = literal.Name (plain (symbol_text p number))
raw_literal p (word.Fault code) = literal.Bool false

abbrev pub raw_word : Program → Word → RawExpr
raw_word p (word.Fault code) = expr.Fault code
raw_word p w = expr.Lit (raw_literal p w)

abbrev pub raw_step : Program → Expr-F RawExpr → RawExpr
raw_step p (Lit w) = raw_word p w
raw_step p (Name id) = expr.Lit (literal.Name (name_of p id))
raw_step p Arg = expr.Arg
raw_step p Own = expr.Own
raw_step p (Not operand) = expr.Not operand
raw_step p (Bin o left right) = expr.Bin o left right
raw_step p (If condition a b) = expr.If condition a b
raw_step p (Recover tried other) = expr.Recover tried other
raw_step p (Size set) = expr.Size (name_of p set)
raw_step p (Has set element) = expr.Has (name_of p set) element

-- an expression over names
abbrev pub raw_expr : Program → Expr → RawExpr
raw_expr p = fold-Expr RawExpr (raw_step p)

abbrev pub raw_body : Program → Body → RawBody
raw_body p body.Device = raw.Device
raw_body p body.Symbol = raw.Symbol
raw_body p (body.Var k start region) = raw.Var k (raw_literal p start) region
raw_body p (body.Event k) = raw.Event k
raw_body p (body.Signal k e) = raw.Signal (raw_expr p e)
raw_body p (body.Changed of) = raw.Changed (name_of p of)
raw_body p (body.Map source k e) = raw.Map (name_of p source) (raw_expr p e)
raw_body p (body.Filter source e) = raw.Filter (name_of p source) (raw_expr p e)
raw_body p (body.Either left right) = raw.Either (name_of p left) (name_of p right)
raw_body p (body.Fold k start source e region) = raw.Fold k (raw_literal p start) (name_of p source) (raw_expr p e) region
raw_body p body.Counter = raw.Counter
raw_body p (body.Set k) = raw.Set k
raw_body p (body.Register k start) = raw.Register k (raw_literal p start)

abbrev pub raw_declaration : Program → Decl → RawDecl
raw_declaration p d = record { name = d.name; body = raw_body p d.body }

abbrev pub raw_declarations : Program → List Decl → List RawDecl
raw_declarations p decls = map (raw_declaration p) decls

-- marks: the signs and reserved words by their places
abbrev pub semicolon : Mark
semicolon = mark.Sign SEMICOLON

abbrev pub colon : Mark
colon = mark.Sign COLON

abbrev pub equals : Mark
equals = mark.Sign EQUALS

abbrev pub comma : Mark
comma = mark.Sign COMMA

abbrev pub opening : Mark
opening = mark.Sign OPEN

abbrev pub closing : Mark
closing = mark.Sign CLOSE

abbrev pub minus : Mark
minus = mark.Sign MINUS

abbrev pub reserved : ℕ → Mark
reserved place = mark.Reserved place

abbrev pub operator_mark : Op → Mark
operator_mark op.Add = mark.Sign PLUS
operator_mark op.Sub = mark.Sign MINUS
operator_mark op.Mul = mark.Sign TIMES
operator_mark op.Div = mark.Sign DIVIDE
operator_mark op.Rem = mark.Sign REMAINDER
operator_mark op.Lt = mark.Sign LESS
operator_mark op.Gt = mark.Sign GREATER
operator_mark op.Eq = mark.Sign EQUAL
operator_mark op.Ne = mark.Sign NOT_EQUAL
operator_mark op.Le = mark.Sign AT_MOST
operator_mark op.Ge = mark.Sign AT_LEAST
operator_mark op.And = mark.Reserved AND
operator_mark op.Or = mark.Reserved OR

abbrev pub kind_mark : Kind → Mark
kind_mark kind.Int = mark.Reserved INT
kind_mark kind.Bool = mark.Reserved BOOL
kind_mark kind.Sym = mark.Reserved SYM

abbrev pub truth_mark : Bool → Mark
truth_mark true = mark.Reserved TRUE
truth_mark false = mark.Reserved FALSE

abbrev pub int_marks : ℤ → List Mark
int_marks (pos n) = mark.Number n ∷ []
int_marks (negsuc n) = minus ∷ mark.Number (suc n) ∷ []

abbrev pub word_marks : Program → Word → List Mark
word_marks p (word.Int z) = int_marks z
word_marks p (word.Bool b) = truth_mark b ∷ []
word_marks p (word.Sym number) = mark.Name (plain (symbol_text p number)) ∷ []
word_marks p (word.Fault code) = reserved FAULT ∷ opening ∷ mark.Number code ∷ closing ∷ []

abbrev pub name_mark : Program → ℕ → Mark
name_mark p id = mark.Name (name_of p id)

abbrev pub marks_step : Program → Expr-F (List Mark) → List Mark
marks_step p (Lit w) = word_marks p w
marks_step p (Name id) = name_mark p id ∷ []
marks_step p Arg = reserved ARG ∷ []
marks_step p Own = reserved SELF ∷ []
marks_step p (Not operand) = reserved NOT ∷ opening ∷ (operand ++ (closing ∷ []))
marks_step p (Bin o left right) = opening ∷ (left ++ (operator_mark o ∷ (right ++ (closing ∷ []))))
marks_step p (If condition a b) = opening ∷ reserved IF ∷ (condition ++ (reserved THEN ∷ (a ++ (reserved ELSE ∷ (b ++ (closing ∷ []))))))
marks_step p (Recover tried other) = reserved RECOVER ∷ opening ∷ (tried ++ (comma ∷ (other ++ (closing ∷ []))))
marks_step p (Size set) = reserved SIZE ∷ opening ∷ name_mark p set ∷ closing ∷ []
marks_step p (Has set element) = reserved HAS ∷ opening ∷ name_mark p set ∷ comma ∷ (element ++ (closing ∷ []))

-- the marks of an expression's text
abbrev pub expr_marks : Program → Expr → List Mark
expr_marks p = fold-Expr (List Mark) (marks_step p)

-- the place of the word that a declaration begins with
abbrev pub keyword_place : Body → ℕ
keyword_place body.Device = DEVICE
keyword_place body.Symbol = SYMBOL
keyword_place (body.Var kind start region) = VAR
keyword_place (body.Event kind) = EVENT
keyword_place (body.Signal kind e) = SIGNAL
keyword_place (body.Changed of) = EVENT
keyword_place (body.Map source kind e) = EVENT
keyword_place (body.Filter source e) = EVENT
keyword_place (body.Either left right) = EVENT
keyword_place (body.Fold kind start source e region) = FOLD
keyword_place body.Counter = COUNTER
keyword_place (body.Set kind) = SET
keyword_place (body.Register kind start) = REGISTER

-- the marks behind a declaration's name
abbrev pub body_marks : Program → Body → List Mark
body_marks p body.Device = []
body_marks p body.Symbol = []
body_marks p (body.Var k start region) = colon ∷ kind_mark k ∷ equals ∷ (word_marks p start ++ (reserved IN ∷ mark.Number region ∷ []))
body_marks p (body.Event k) = colon ∷ kind_mark k ∷ []
body_marks p (body.Signal k e) = equals ∷ expr_marks p e
body_marks p (body.Changed of) = equals ∷ reserved CHANGED ∷ opening ∷ name_mark p of ∷ closing ∷ []
body_marks p (body.Map source k e) = equals ∷ reserved MAP ∷ opening ∷ name_mark p source ∷ comma ∷ (expr_marks p e ++ (closing ∷ []))
body_marks p (body.Filter source e) = equals ∷ reserved FILTER ∷ opening ∷ name_mark p source ∷ comma ∷ (expr_marks p e ++ (closing ∷ []))
body_marks p (body.Either left right) = equals ∷ reserved EITHER ∷ opening ∷ name_mark p left ∷ comma ∷ name_mark p right ∷ closing ∷ []
body_marks p (body.Fold k start source e region) =
    colon ∷ kind_mark k ∷ equals ∷ (word_marks p start ++ (reserved ON ∷ name_mark p source ∷ reserved DO ∷ (expr_marks p e ++ (reserved IN ∷ mark.Number region ∷ []))))
body_marks p body.Counter = []
body_marks p (body.Set k) = colon ∷ kind_mark k ∷ []
body_marks p (body.Register k start) = colon ∷ kind_mark k ∷ equals ∷ word_marks p start

abbrev pub line_marks : Program → Decl → List Mark
line_marks p d = reserved (keyword_place d.body) ∷ mark.Name d.name ∷ (body_marks p d.body ++ (semicolon ∷ []))

abbrev pub program_marks : Program → List Decl → List Mark
program_marks p decls = flat_map (line_marks p) decls

-- what a text can say: names are names, and numbers and codes are in their ranges
abbrev pub is_sayable : Program → Word → Bool
is_sayable p (word.Int z) = is_word_number z
is_sayable p (word.Bool b) = true
is_sayable p (word.Sym number) = is_name (symbol_text p number)
is_sayable p (word.Fault code) = is_fault_code code

abbrev pub is_named : Program → ℕ → Bool
is_named p id = is_name (name_text p id)

abbrev pub sayable_step : Program → Expr-F Bool → Bool
sayable_step p (Lit w) = is_sayable p w
sayable_step p (Name id) = is_named p id
sayable_step p Arg = true
sayable_step p Own = true
sayable_step p (Not operand) = operand
sayable_step p (Bin o left right) = left && right
sayable_step p (If condition a b) = condition && (a && b)
sayable_step p (Recover tried other) = tried && other
sayable_step p (Size set) = is_named p set
sayable_step p (Has set element) = is_named p set && element

abbrev pub is_sayable_expr : Program → Expr → Bool
is_sayable_expr p = fold-Expr Bool (sayable_step p)

-- and of a declaration
abbrev pub is_sayable_body : Program → Body → Bool
is_sayable_body p (body.Var k start region) = is_sayable p start && is_region region
is_sayable_body p (body.Signal k e) = is_sayable_expr p e
is_sayable_body p (body.Changed of) = is_named p of
is_sayable_body p (body.Map source k e) = is_named p source && is_sayable_expr p e
is_sayable_body p (body.Filter source e) = is_named p source && is_sayable_expr p e
is_sayable_body p (body.Either left right) = is_named p left && is_named p right
is_sayable_body p (body.Fold k start source e region) = is_sayable p start && (is_named p source && (is_sayable_expr p e && is_region region))
is_sayable_body p (body.Register k start) = is_sayable p start
is_sayable_body p b = true

abbrev pub is_sayable_declaration : Program → Decl → Bool
is_sayable_declaration p d = is_name_text d.name && is_sayable_body p d.body

-- a start word is no fault
abbrev pub is_plain_word : Word → Bool
is_plain_word (word.Fault code) = false
is_plain_word w = true

-- start words are no faults, and expressions are not too deep
abbrev pub is_readable_body : Body → Bool
is_readable_body (body.Var k start region) = is_plain_word start
is_readable_body (body.Signal k e) = nat_le (expr_depth e) 64
is_readable_body (body.Map source k e) = nat_le (expr_depth e) 64
is_readable_body (body.Filter source e) = nat_le (expr_depth e) 64
is_readable_body (body.Fold k start source e region) = is_plain_word start && nat_le (expr_depth e) 64
is_readable_body (body.Register k start) = is_plain_word start
is_readable_body b = true

-- a declaration that can be said and read
abbrev pub is_written : Program → Decl → Bool
is_written p d = is_sayable_declaration p d && is_readable_body d.body
