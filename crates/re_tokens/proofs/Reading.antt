-- Tokens read one behind the other.
use Rattle.std.proofs.Common.{ℕ, ◌≡◌, ◌≤◌, ◌<◌, ◌+◌, ◌-◌, true, false, List, [], ◌∷◌, ◌++◌, length, Some, None, refl, sym, ap, subst, ◌∙◌, arith, length-append}
use Rattle.std.specs.List.{list_all}
use Rattle.re_terms.specs.Listed.{Listed}
use Rattle.re_terms.specs.declared.token.Mark.{Mark}
use Rattle.re_terms.specs.declared.token.Token.{Token}
use Rattle.re_tokens.specs.TokenGrammar.{Separator, gap_bytes, is_separator, is_in_token, IsMarkAt, IsTokenAt, Begins, end_of, IsTokens, NoTokenAt}
use Rattle.re_tokens.specs.Scanning.{behind_gap, first_mark}
use Rattle.re_tokens.proofs.Gaps.{behind_gap-le, split_some, split_none}
use Rattle.re_tokens.proofs.Marks.{first_complete, spelled_some}
use Rattle.re_tokens.proofs.Found.{Found, first_sound}

-- one token more
pub begins_more : (at : ℕ) (text : List ℕ) (tokens : List Token) (after : ℕ) (rest : List ℕ) (t : Token) (word behind : List ℕ) → Begins at text tokens after rest → IsTokenAt after rest t word behind → Begins at text (tokens ++ t ∷ []) (t.at + length word) behind
begins_more at text [] after rest t word behind b i = (word, behind, subst (λ n. IsTokenAt n text t word behind) (sym b.0) (subst (λ s. IsTokenAt after s t word behind) (sym b.1) i), (refl, refl))
begins_more at text (token ∷ tokens) after rest t word behind b i = (b.0, b.1, b.2, begins_more (token.at + length b.0) b.1 tokens after rest t word behind b.3 i)

-- what is found so far, and the text that is left behind the gap
pub record Reads (text : List ℕ) (found : Listed Token) (rest : List ℕ) : Type 0 where
  pub after : ℕ
  pub behind : List ℕ
  pub begins : Begins 0 text found.items after behind
  pub place : after + length behind ≡ length text
  pub skipped : rest ≡ behind_gap false behind
  pub unreserved : found.spare ≡ 0

-- what the next token's place is, and how it stands there
record Next (text : List ℕ) (found : Listed Token) (rest : List ℕ) : Type 0 where
  after : ℕ
  behind : List ℕ
  gap : List Separator
  begins : Begins 0 text found.items after behind
  whole : behind ≡ gap_bytes gap ++ rest
  separators : list_all is_separator gap ≡ true
  in_token : is_in_token rest ≡ true
  place : length text - length rest ≡ after + length (gap_bytes gap)
  within : length rest ≤ length text

next_of : (text : List ℕ) (found : Listed Token) (b : ℕ) (more : List ℕ) → Reads text found (b ∷ more) → Next text found (b ∷ more)
next_of text found b more r =
    let s = split_some r.behind b more (sym r.skipped) in
    let n : length r.behind ≡ length (gap_bytes s.gap) + length (b ∷ more) = ap length s.whole ∙ length-append (gap_bytes s.gap) (b ∷ more) in
    let place = r.place in
    record {
      after = r.after;
      behind = r.behind;
      gap = s.gap;
      begins = r.begins;
      whole = s.whole;
      separators = s.separators;
      in_token = s.in_token;
      place = omega arith;
      within = omega arith;
    }

-- the place of what is left, and that it stands within the text
pub rest_within : (text : List ℕ) (found : Listed Token) (rest : List ℕ) → Reads text found rest → length rest ≤ length text
rest_within text found [] r = omega arith
rest_within text found (b ∷ more) r = (next_of text found b more r).within

token_here : (text : List ℕ) (found : Listed Token) (rest : List ℕ) (n : Next text found rest) (at : ℕ) (m : Mark) (word behind : List ℕ) → at ≡ length text - length rest → IsMarkAt rest m word behind → IsTokenAt n.after n.behind (record { at = at; mark = m }) word behind
token_here text found rest n at m word behind e i = record { gap = n.gap; here = rest; whole = n.whole; separators = n.separators; place = e ∙ n.place; begins = i }

more_by : (text : List ℕ) (found pushed : Listed Token) (b : ℕ) (left : List ℕ) (at : ℕ) (p : Mark × List ℕ) (next : List ℕ) → Reads text found (b ∷ left) → at ≡ length text - length (b ∷ left) → Found (b ∷ left) p → next ≡ behind_gap false p.1
    → pushed ≡ record { items = found.items ++ record { at = at; mark = p.0 } ∷ []; spare = found.spare - 1 } → Reads text pushed next
more_by text found pushed b left at p next r e f k q =
    let n = next_of text found b left r in
    let here = token_here text found (b ∷ left) n at p.0 f.word p.1 e f.is in
    let begins = begins_more 0 text found.items n.after n.behind (record { at = at; mark = p.0 }) f.word p.1 n.begins here in
    let whole : length (b ∷ left) ≡ length f.word + length p.1 = ap length f.is.whole ∙ length-append f.word p.1 in
    let within = n.within in
    let unreserved = r.unreserved in
    let none : found.spare - 1 ≡ 0 = omega arith in
    record {
      after = at + length f.word;
      behind = p.1;
      begins = subst (λ l. Begins 0 text l.items (at + length f.word) p.1) (sym q) begins;
      place = omega arith;
      skipped = k;
      unreserved = ap (λ l. l.spare) q ∙ none;
    }

pub reads_more : (text : List ℕ) (found pushed : Listed Token) (rest : List ℕ) (at : ℕ) (p : Mark × List ℕ) (next : List ℕ) → Reads text found rest → 0 < length rest → at ≡ length text - length rest → first_mark rest ≡ Some p → next ≡ behind_gap false p.1
    → pushed ≡ record { items = found.items ++ record { at = at; mark = p.0 } ∷ []; spare = found.spare - 1 } → Reads text pushed next
reads_more text found pushed [] at p next r some e f k q = absurd (omega arith)
reads_more text found pushed (b ∷ left) at p next r some e f k q = more_by text found pushed b left at p next r e (first_sound b left p f) k q

shorter_by : (rest : List ℕ) (p : Mark × List ℕ) (next : List ℕ) → Found rest p → next ≡ behind_gap false p.1 → length next < length rest
shorter_by rest p next f k =
    let whole : length rest ≡ length f.word + length p.1 = ap length f.is.whole ∙ length-append f.word p.1 in
    let some = spelled_some p.0 f.word f.is.spelled in
    let less = behind_gap-le p.1 in
    let n = ap length k in
    omega arith

-- each step leaves less
pub left_shorter : (rest : List ℕ) (p : Mark × List ℕ) (next : List ℕ) → 0 < length rest → first_mark rest ≡ Some p → next ≡ behind_gap false p.1 → length next < length rest
left_shorter [] p next some f k = absurd (omega arith)
left_shorter (b ∷ left) p next some f k = shorter_by (b ∷ left) p next (first_sound b left p f) k

-- all is read
pub reads_all : (text : List ℕ) (found pushed : Listed Token) (rest : List ℕ) → Reads text found rest → length rest ≡ 0 → pushed ≡ record { items = found.items ++ end_of text ∷ []; spare = found.spare - 1 } → IsTokens text pushed.items
reads_all text found pushed [] r h q = record { found = found.items; after = r.after; rest = r.behind; begins = r.begins; blank = split_none r.behind (sym r.skipped); ended = ap (λ l. l.items) q }
reads_all text found pushed (b ∷ rest) r h q = absurd (omega arith)

-- no token begins at what is left
none_by : (text : List ℕ) (m : Mark) (word behind : List ℕ) → first_mark text ≡ None → IsMarkAt text m word behind → ⊥
none_by text m word behind e i = let k = sym e ∙ first_complete text m word behind i in absurd (cc)

pub reads_none : (text : List ℕ) (found : Listed Token) (rest : List ℕ) (at : ℕ) → Reads text found rest → 0 < length rest → at ≡ length text - length rest → first_mark rest ≡ None → NoTokenAt text at
reads_none text found [] at r some e f = absurd (omega arith)
reads_none text found (b ∷ left) at r some e f =
    let n = next_of text found b left r in
    record {
      found = found.items;
      after = n.after;
      rest = n.behind;
      begins = n.begins;
      gap = n.gap;
      here = b ∷ left;
      whole = n.whole;
      separators = n.separators;
      place = e ∙ n.place;
      in_token = n.in_token;
      none = λ m word behind i. none_by (b ∷ left) m word behind f i;
    }
