-- What each list of tokens is.
use Rattle.std.proofs.Common.{ℕ, suc, ◌≡◌, ◌≤◌, ◌<◌, ◌+◌, ◌^◌, Bool, true, false, List, [], ◌∷◌, ◌++◌, length, refl, ap, ◌∙◌, arith, length-append}
use Rattle.std.proofs.lemmas.Bool.{and_from, le-leb, lt-ltb}
use Rattle.re_terms.specs.Tokens.{reserved_words, signs, is_mark, ends_well, ends_from, IsTokenList}
use Rattle.re_terms.specs.declared.token.Mark.{Mark}
use Rattle.re_terms.specs.declared.token.Mark.TheVariants as mark
use Rattle.re_terms.specs.declared.token.Token.{Token}
use Rattle.re_tokens.specs.TokenGrammar.{Spells, gap_bytes, IsTokenAt, Begins, end_of, IsTokens}
use Rattle.re_tokens.proofs.Marks.{place_below, spelled_some}

-- what is spelled is a mark
spelled_mark : (m : Mark) (word : List ℕ) → Spells m word → is_mark m ≡ true
spelled_mark (mark.Number n) word s = le-leb n (2 ^ 63) s.2
spelled_mark (mark.Name name) word s = ap (λ t. is_mark (mark.Name t)) s.1 ∙ and_from _ _ s.0 refl
spelled_mark (mark.Reserved place) word s = lt-ltb place 33 (place_below reserved_words word place s)
spelled_mark (mark.Sign place) word s = lt-ltb place 17 (place_below signs word place s)
spelled_mark mark.End word s = absurd s

mark_then : (m : Mark) (tokens : List Token) (rest : Bool) → is_mark m ≡ true → rest ≡ true → ends_well m tokens rest ≡ true
mark_then (mark.Number n) tokens rest h k = and_from _ _ h k
mark_then (mark.Name name) tokens rest h k = and_from _ _ h k
mark_then (mark.Reserved place) tokens rest h k = and_from _ _ h k
mark_then (mark.Sign place) tokens rest h k = and_from _ _ h k
mark_then mark.End tokens rest h k = absurd (cc)

-- a token stands within its text
record Within (at : ℕ) (text : List ℕ) (t : Token) (word behind : List ℕ) : Type 0 where
  low : at ≤ t.at
  all : t.at + length word + length behind ≡ at + length text
  some : 0 < length word

within : (at : ℕ) (text : List ℕ) (t : Token) (word behind : List ℕ) → IsTokenAt at text t word behind → Within at text t word behind
within at text t word behind i =
    let whole : length text ≡ length (gap_bytes i.gap) + length i.here = ap length i.whole ∙ length-append (gap_bytes i.gap) i.here in
    let here : length i.here ≡ length word + length behind = ap length i.begins.whole ∙ length-append word behind in
    let place = i.place in
    record { low = omega arith; all = omega arith; some = spelled_some t.mark word i.begins.spelled }

ends : (tokens : List Token) (least at : ℕ) (text : List ℕ) (after : ℕ) (rest : List ℕ) (end : Token) → least ≤ at → end.mark ≡ mark.End → end.at ≡ at + length text → Begins at text tokens after rest → ends_from least (tokens ++ end ∷ []) ≡ true
ends [] least at text after rest end low e place b = and_from _ _ (le-leb least end.at (omega arith)) (ap (λ m. ends_well m [] false) e)
ends (t ∷ tokens) least at text after rest end low e place b =
    let w = within at text t b.0 b.1 b.2 in
    let low_here = w.low in
    let all = w.all in
    let some = w.some in
    and_from _ _ (le-leb least t.at (omega arith))
    (mark_then t.mark (tokens ++ end ∷ []) _ (spelled_mark t.mark b.0 b.2.begins.spelled) (ends tokens (suc t.at) (t.at + length b.0) b.1 after rest end (omega arith) e (omega arith) b.3))

pub is_token_list : (text : List ℕ) (tokens : List Token) → IsTokens text tokens → IsTokenList tokens
is_token_list text tokens i = ap (ends_from 0) i.ended ∙ ends i.found 0 0 text i.after i.rest (end_of text) (omega arith) refl (omega arith) i.begins
