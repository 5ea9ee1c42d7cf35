-- The names of tokens.
use Rattle.std.proofs.Common.{ℕ, suc, ◌≡◌, Bool, true, List, [], ◌∷◌, nat_le, Some, unwrap_or, refl, sym, ap, subst, ◌∙◌}
use Rattle.std.proofs.lemmas.Bool.{and_parts}
use Rattle.re_terms.specs.Listed.{Listed}
use Rattle.re_terms.specs.Tokens.{ends_well, ends_from, IsTokenList}
use Rattle.re_terms.specs.Trees.{is_name_text}
use Rattle.re_terms.specs.declared.token.Mark.{Mark}
use Rattle.re_terms.specs.declared.token.Mark.TheVariants as mark
use Rattle.re_terms.specs.declared.token.Token.{Token}
use Rattle.re_commands.specs.LineGrammar.{name_first}
use Rattle.re_commands.specs.RawLines.{marks_of}

name_by : (m : Mark) (t : Listed ℕ) (tokens : List Token) (rest : Bool) → m ≡ mark.Name t → ends_well m tokens rest ≡ true → is_name_text t ≡ true
name_by m t tokens rest e h = (and_parts (is_name_text t) rest (ap (λ m. ends_well m tokens rest) (sym e) ∙ h)).0

first_by : (x : Token) (tokens : List Token) (m : Mark) (p : Listed ℕ × List Mark) → x.mark ≡ m → Some p ≡ name_first (m ∷ marks_of tokens) → IsTokenList (x ∷ tokens) → is_name_text p.0 ≡ true
first_by x tokens (mark.Name t) p e k h =
    ap (λ o. is_name_text (unwrap_or o p).0) k ∙ name_by x.mark t tokens (ends_from (suc x.at) tokens) e (and_parts (nat_le 0 x.at) _ h).1
first_by x tokens (mark.Number n) p e k h = absurd (cc)
first_by x tokens (mark.Reserved place) p e k h = absurd (cc)
first_by x tokens (mark.Sign place) p e k h = absurd (cc)
first_by x tokens mark.End p e k h = absurd (cc)

name_of : (tokens : List Token) (p : Listed ℕ × List Mark) → Some p ≡ name_first (marks_of tokens) → IsTokenList tokens → is_name_text p.0 ≡ true
name_of [] p k h = absurd (cc)
name_of (x ∷ tokens) p k h = first_by x tokens x.mark p refl k h

-- the name that a list of tokens begins with is one
pub first_name : (found tokens : List Token) (p : Listed ℕ × List Mark) (t : Listed ℕ) → tokens ≡ found → IsTokenList found → Some p ≡ name_first (marks_of tokens) → t ≡ p.0 → is_name_text t ≡ true
first_name found tokens p t e h k f =
    let P : List Token → Type 0 = IsTokenList in
    ap is_name_text f ∙ name_of tokens p k (subst P (sym e) h)
