-- Why a program part is refused, from what refused it.
use Rattle.std.proofs.Common.{◌≡◌, ◌≤◌, ◌∙◌, ℕ, List, length, sym, ap, subst, refl, Ok, Err, true, false}
use Rattle.std.specs.Prelude.{Result, nat_lt}
use Rattle.re_terms.specs.declared.token.Token.{Token}
use Rattle.re_terms.specs.declared.raw.Tree.{Tree}
use Rattle.re_terms.specs.declared.program.Program.{Program}
use Rattle.re_tokens.specs.TokenGrammar.{NoTokenAt}
use Rattle.re_tokens.specs.declared.fault.LexFault.{LexFault}
use Rattle.re_tokens.specs.declared.fault.LexFault.TheVariants as lex
use Rattle.re_syntax.specs.Places.{IsUnexpected, IsTooDeep}
use Rattle.re_syntax.specs.declared.fault.SyntaxFault.{SyntaxFault}
use Rattle.re_syntax.specs.declared.fault.SyntaxFault.TheVariants as syntax
use Rattle.re_types.specs.declared.fault.TypeFault.{TypeFault}
use Rattle.re_types.specs.declared.fault.TypeFault.TheVariants as fault
use Rattle.re_types.specs.Resolving.{resolved}
use Rattle.re_print.specs.Canonical.{program_text}
use Rattle.re_tool.specs.declared.faults.Refusal.{Refusal}
use Rattle.re_tool.specs.declared.faults.Refusal.TheVariants as refusal
use Rattle.re_tool.specs.declared.faults.ProgramFault.{ProgramFault}
use Rattle.re_tool.specs.declared.faults.ProgramFault.TheVariants as program
use Rattle.re_tool.specs.Faults.{lex_fault, syntax_fault, type_fault}
use Rattle.re_tool.specs.Verdict.{Rejected, Accepted, HasTokens, HasTree, Judges, no_token, unexpected, too_deep, whole, Decides, verdict_of}
use Rattle.re_tool.proofs.Settling.{decided}

same_refusal : (a b : Refusal) → program.Refused a ≡ program.Refused b → a ≡ b
same_refusal a b e = cc

-- a refusal's verdict in other words
judged_as : (text : List ℕ) (a b : Refusal) → program.Refused a ≡ program.Refused b → Judges text (Rejected a) → Judges text (Rejected b)
judged_as text a b e s = subst (λ x. Judges text (Rejected x)) (same_refusal a b e) s

pub lex_judged : (text : List ℕ) (f : LexFault) (why : Refusal) → length text ≤ 65536 → lex_fault f ≡ program.Refused why → ((place : ℕ) → f ≡ lex.At place → NoTokenAt text place) → Judges text (Rejected why)
lex_judged text lex.Memory why few e h = absurd (cc)
lex_judged text (lex.At place) why few e h = judged_as text (refusal.NoToken place) why e (no_token few (h place refl) refl)

pub syntax_judged : (text : List ℕ) (tokens : List Token) (f : SyntaxFault) (why : Refusal) → HasTokens text tokens → syntax_fault f ≡ program.Refused why
    → ((place : ℕ) → f ≡ syntax.At place → IsUnexpected tokens place) → ((place : ℕ) → f ≡ syntax.Deep place → IsTooDeep tokens place) → Judges text (Rejected why)
syntax_judged text tokens syntax.Memory why has e at deep = absurd (cc)
syntax_judged text tokens (syntax.At place) why has e at deep = judged_as text (refusal.Unexpected place) why e (unexpected has (at place refl) refl)
syntax_judged text tokens (syntax.Deep place) why has e at deep = judged_as text (refusal.TooDeep place) why e (too_deep has (deep place refl) refl)

rejected : (a b : Refusal) → program.Refused a ≡ program.Refused b → Rejected b ≡ Rejected a
rejected a b e = ap Rejected (sym (same_refusal a b e))

-- what a fault of declarations is judged as
fault_verdict : (f : TypeFault) (why : Refusal) → type_fault f ≡ program.Refused why → Rejected why ≡ verdict_of (Err f)
fault_verdict fault.Memory why e = absurd (cc)
fault_verdict (fault.TooMany place) why e = rejected (refusal.TooMany place) why e
fault_verdict (fault.Twice place) why e = rejected (refusal.Twice place) why e
fault_verdict (fault.Unknown place) why e = rejected (refusal.Unknown place) why e
fault_verdict (fault.Kind place) why e = rejected (refusal.Kind place) why e
fault_verdict fault.NoDevice why e = rejected refusal.NoDevice why e

not_memory : (f : TypeFault) (why : Refusal) → type_fault f ≡ program.Refused why → f ≡ fault.Memory → ⊥
not_memory f why e h = let k : program.Memory ≡ program.Refused why = sym (ap type_fault h) ∙ e in absurd (cc)

err_not : (f g : TypeFault) → ◌≡◌ {A = Result Program TypeFault} (Err f) (Err g) → f ≡ g
err_not f g e = cc

pub type_judged : (text : List ℕ) (tree : Tree) (f : TypeFault) (why : Refusal) (result : Result Program TypeFault) → HasTree text tree → type_fault f ≡ program.Refused why → result ≡ Err f → ((result ≡ Err fault.Memory → ⊥) → result ≡ resolved tree) → Judges text (Rejected why)
type_judged text tree f why result has e is answer =
    let same = answer (λ h. not_memory f why e (err_not f fault.Memory (sym is ∙ h))) in
    whole has (fault_verdict f why e ∙ ap verdict_of (sym is ∙ same))

ok_not : (p : Program) (g : TypeFault) → ◌≡◌ {A = Result Program TypeFault} (Ok p) (Err g) → ⊥
ok_not p g e = cc

resolves : (tree : Tree) (p : Program) (result : Result Program TypeFault) → result ≡ Ok p → ((result ≡ Err fault.Memory → ⊥) → result ≡ resolved tree) → Ok p ≡ resolved tree
resolves tree p result is answer = sym is ∙ answer (λ h. ok_not p fault.Memory (sym is ∙ h))

pub long_judged : (text : List ℕ) (tree : Tree) (p : Program) (result : Result Program TypeFault) → HasTree text tree → result ≡ Ok p → ((result ≡ Err fault.Memory → ⊥) → result ≡ resolved tree) → nat_lt 65536 (length (program_text p)) ≡ true → Judges text (Rejected refusal.TooLong)
long_judged text tree p result has is answer long =
    let e : verdict_of (Ok p) ≡ Rejected refusal.TooLong = rw long refl in
    whole has (sym e ∙ ap verdict_of (resolves tree p result is answer))

pub accepted_judged : (text : List ℕ) (tree : Tree) (p : Program) (result : Result Program TypeFault) → HasTree text tree → result ≡ Ok p → ((result ≡ Err fault.Memory → ⊥) → result ≡ resolved tree) → nat_lt 65536 (length (program_text p)) ≡ false → Judges text (Accepted p)
accepted_judged text tree p result has is answer short =
    let e : verdict_of (Ok p) ≡ Accepted p = rw short refl in
    whole has (sym e ∙ ap verdict_of (resolves tree p result is answer))

-- a refusal in other words
pub refused_as : (text : List ℕ) (a b : Refusal) → ◌≡◌ {A = Result Program ProgramFault} (Err (program.Refused a)) (Err (program.Refused b)) → Judges text (Rejected a) → Judges text (Rejected b)
refused_as text a b e h = let same : a ≡ b = cc in subst (λ why. Judges text (Rejected why)) same h

-- ---- verdicts

pub rejected_for : (text : List ℕ) (why : Refusal) → Judges text (Rejected why) → Decides text (Rejected why)
rejected_for text why h = decided text (Rejected why) h

pub accepted_for : (text : List ℕ) (p : Program) → Judges text (Accepted p) → Decides text (Accepted p)
accepted_for text p h = decided text (Accepted p) h

-- the fault that a call handed on
pub handed : (r : Result Program ProgramFault) (x y : ProgramFault) → r ≡ Err x → r ≡ Err y → x ≡ y
handed r x y e h = let k : ◌≡◌ {A = Result Program ProgramFault} (Err x) (Err y) = sym e ∙ h in cc
