-- What the tokens of a line make of it.
use Rattle.std.proofs.Common.{ℕ, ◌≡◌, ◌≢◌, ◌<◌, ◌≤◌, ◌↔◌, ◌⊎◌, inl, inr, nat_lt, List, [], ◌∷◌, length, Option, Some, None, Result, Ok, Err, refl, sym, ap, ◌∙◌}
use Rattle.std.specs.Result.{IsErrAnd}
use Rattle.std.proofs.lemmas.Bool.{cond-true, cond-false, cases_lt, lt-ltb, le-ltb}
use Rattle.re_terms.specs.declared.token.Mark.{Mark}
use Rattle.re_terms.specs.declared.token.Token.{Token}
use Rattle.re_terms.specs.declared.program.Program.{Program}
use Rattle.re_terms.specs.declared.command.Command.{Command}
use Rattle.re_tokens.specs.declared.fault.LexFault.{LexFault}
use Rattle.re_tokens.specs.declared.fault.LexFault.TheVariants as lex
use Rattle.re_tokens.specs.TokenGrammar.{IsTokens, NoTokenAt}
use Rattle.re_tokens.specs.WholeLists.{tokens_of, marks_before_end}
use Rattle.re_tokens.proofs.WholeLists.{list, no_list}
use Rattle.re_commands.specs.declared.fault.CommandFault.{CommandFault}
use Rattle.re_commands.specs.declared.fault.CommandFault.TheVariants as fault
use Rattle.re_commands.specs.Faults.{of_tokens}
use Rattle.re_commands.specs.LineGrammar.{read_line}
use Rattle.re_commands.specs.Commanding.{made, line_meant, marks_meant, commanded}

-- a short line is what its marks are
short_meant : (p : Program) (line : List ℕ) (o : Option (List Mark)) → length line ≤ 1024 → tokens_of line ≡ o → commanded p line ≡ marks_meant p o
short_meant p line o short e = cond-false (nat_lt 1024 (length line)) (Err fault.Syntax) (marks_meant p (tokens_of line)) (le-ltb 1024 (length line) short) ∙ ap (marks_meant p) e

some_meant : (p : Program) (marks : List Mark) → (◌≡◌ {A = Option (List Mark)} (Some marks) (Some []) → ⊥) → marks_meant p (Some marks) ≡ made Some (line_meant p (read_line marks))
some_meant p [] some = absurd (some refl)
some_meant p (m ∷ marks) some = refl

-- a short line that isn't blank, and its tokens
pub record HasTokens (line : List ℕ) (tokens : List Token) : Type 0 where
  pub short : length line ≤ 1024
  pub some : tokens_of line ≡ Some [] → ⊥
  pub found : List Token
  pub are : IsTokens line found
  pub same : tokens ≡ found

tokens_meant : (p : Program) (line : List ℕ) (tokens : List Token) → HasTokens line tokens → commanded p line ≡ made Some (line_meant p (read_line (marks_before_end tokens)))
tokens_meant p line tokens h =
    let e : tokens_of line ≡ Some (marks_before_end tokens) = list line h.found h.are ∙ ap (λ t. Some (marks_before_end t)) (sym h.same) in
    short_meant p line (Some (marks_before_end tokens)) h.short e ∙ some_meant p (marks_before_end tokens) (λ k. h.some (e ∙ k))

-- a command of its tokens is that of the line
pub ok_meant : (p : Program) (line : List ℕ) (tokens : List Token) (c : Command) → HasTokens line tokens
    → (◌≢◌ {A = Result Command CommandFault} (Ok c) (Err fault.Memory) → Ok c ≡ line_meant p (read_line (marks_before_end tokens))) → Ok (Some c) ≡ commanded p line
ok_meant p line tokens c h is = ap (made Some) (is (λ e. absurd (cc))) ∙ sym (tokens_meant p line tokens h)

-- a fault of its tokens is that of the line
pub err_meant : (p : Program) (line : List ℕ) (tokens : List Token) (e : CommandFault) (r : Result (Option Command) CommandFault) → HasTokens line tokens
    → (◌≢◌ {A = Result Command CommandFault} (Err e) (Err fault.Memory) → Err e ≡ line_meant p (read_line (marks_before_end tokens))) → IsErrAnd r (λ f. f ≡ e) → r ≢ Err fault.Memory → r ≡ commanded p line
err_meant p line tokens e (Ok c) h is k other = absurd k
err_meant p line tokens e (Err f) h is k other =
    ap Err k ∙ ap (made Some) (is (λ m. other (ap Err k ∙ ap (λ r. made Some r) m))) ∙ sym (tokens_meant p line tokens h)

-- a short line with a place where no token begins
place_meant : (p : Program) (line : List ℕ) (place : ℕ) → length line ≤ 1024 → NoTokenAt line place → commanded p line ≡ Err fault.Syntax
place_meant p line place short n = short_meant p line None short (no_list line place n)

pub place_fault : {S : Type 0} (p : Program) (line : List ℕ) (e : LexFault) (r : Result (Option Command) CommandFault) → length line ≤ 1024 → ((place : ℕ) → ◌≡◌ {A = Result S LexFault} (Err e) (Err (lex.At place)) → NoTokenAt line place)
    → IsErrAnd r (λ f. f ≡ of_tokens e) → r ≢ Err fault.Memory → r ≡ commanded p line
place_fault p line e (Ok c) short none k other = absurd k
place_fault p line lex.Memory (Err f) short none k other = absurd (other (ap Err k))
place_fault p line (lex.At place) (Err f) short none k other = ap Err k ∙ sym (place_meant p line place short (none place refl))

-- what has the fault of syntax, or a command, is not nothing
made_some : (r : Result Command CommandFault) → made Some r ≡ Ok None → ⊥
made_some (Ok c) e = absurd (cc)
made_some (Err f) e = absurd (cc)

none_marks : (p : Program) (o : Option (List Mark)) → marks_meant p o ≡ Ok None → o ≡ Some []
none_marks p None e = absurd (cc)
none_marks p (Some []) e = refl
none_marks p (Some (m ∷ marks)) e = absurd (made_some (line_meant p (read_line (m ∷ marks))) e)

pub long : (p : Program) (line : List ℕ) → 1024 < length line → commanded p line ≡ Err fault.Syntax
long p line h = cond-true (nat_lt 1024 (length line)) (Err fault.Syntax) (marks_meant p (tokens_of line)) (lt-ltb 1024 (length line) h)

pub no_token : (p : Program) (line : List ℕ) (place : ℕ) → NoTokenAt line place → commanded p line ≡ Err fault.Syntax
no_token p line place n = by (cases_lt 1024 (length line))
  where
    by : (1024 < length line) ⊎ (length line ≤ 1024) → commanded p line ≡ Err fault.Syntax
    by (inl h) = long p line h
    by (inr h) = place_meant p line place h n

pub nothing : (p : Program) (line : List ℕ) → (commanded p line ≡ Ok None) ↔ ((length line ≤ 1024) × (tokens_of line ≡ Some []))
nothing p line = (λ e. by e (cases_lt 1024 (length line)), λ h. short_meant p line (Some []) h.0 h.1)
  where
    by : commanded p line ≡ Ok None → (1024 < length line) ⊎ (length line ≤ 1024) → (length line ≤ 1024) × (tokens_of line ≡ Some [])
    by e (inl h) = let k = long p line h in absurd (cc)
    by e (inr h) = (h, none_marks p (tokens_of line) (sym (short_meant p line (tokens_of line) h refl) ∙ e))
