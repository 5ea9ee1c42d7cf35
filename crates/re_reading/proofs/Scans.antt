-- Texts and their marks, put together from the end.
use Rattle.std.proofs.Common.{ℕ, ◌≡◌, ◌+◌, true, false, List, [], ◌∷◌, ◌++◌, length, Some, refl, sym, ap, subst, ◌∙◌, arith}
use Rattle.std.specs.List.{position, list_any}
use Rattle.std.specs.Str.{bytes_eq}
use Rattle.std.proofs.lemmas.Bool.{and_from}
use Rattle.std.proofs.lemmas.List.{map-append}
use Rattle.re_terms.specs.Listed.{plain}
use Rattle.re_terms.specs.Tokens.{reserved_words, signs, is_name}
use Rattle.re_terms.specs.declared.token.Mark.{Mark}
use Rattle.re_terms.specs.declared.token.Mark.TheVariants as mark
use Rattle.re_terms.specs.declared.token.Token.{Token}
use Rattle.re_tokens.specs.TokenGrammar.{Blank, is_blank, IsLastGap, Spells, goes_on, IsMarkAt, IsTokenAt, Begins, IsTokens, end_of}
use Rattle.re_tokens.proofs.Marks.{begins_word}
use Rattle.re_syntax.specs.Grammar.{marks_of}
use Rattle.re_terms.specs.declared.signs.TheConstants.{SEMICOLON, OPEN, CLOSE, MINUS}

-- from this place on a text has tokens with these marks, and nothing else but separators
pub record ScansAt (at : ℕ) (text : List ℕ) (marks : List Mark) : Type 0 where
  pub found : List Token
  pub after : ℕ
  pub rest : List ℕ
  pub begins : Begins at text found after rest
  pub blank : IsLastGap rest
  pub same : marks_of found ≡ marks

-- and so from every place on
pub record Scans (text : List ℕ) (marks : List Mark) : Type 0 where
  pub from : (at : ℕ) → ScansAt at text marks

empty_gap : IsLastGap []
empty_gap = record { gap = []; comment = []; whole = refl; separators = refl; last = refl }

pub scans_end : Scans [] []
scans_end = record { from = λ at. record { found = []; after = at; rest = []; begins = (refl, refl); blank = empty_gap; same = refl } }

-- a mark in front
pub scans_mark : (m : Mark) (word text : List ℕ) (marks : List Mark) → Spells m word → goes_on m word text ≡ false → Scans text marks → Scans (word ++ text) (m ∷ marks)
scans_mark m word text marks spelled longest s = record {
  from = λ at.
      let t = s.from (at + length word) in
      let here : IsMarkAt (word ++ text) m word text = record { whole = refl; spelled = spelled; longest = longest } in
      let place : at ≡ at + 0 = omega arith in
      let first : IsTokenAt at (word ++ text) (record { at = at; mark = m }) word text = record { gap = []; here = word ++ text; whole = refl; separators = refl; place = place; begins = here } in
      record { found = record { at = at; mark = m } ∷ t.found; after = t.after; rest = t.rest; begins = (word, text, first, t.begins); blank = t.blank; same = ap (λ ms. m ∷ ms) t.same };
}

blank_gap : (b : ℕ) (rest : List ℕ) → is_blank b ≡ true → IsLastGap rest → IsLastGap (b ∷ rest)
blank_gap b rest h g = record { gap = Blank b ∷ g.gap; comment = g.comment; whole = ap (λ t. b ∷ t) g.whole; separators = and_from _ _ h g.separators; last = g.last }

blank_token : (b at : ℕ) (text : List ℕ) (t : Token) (word behind : List ℕ) → is_blank b ≡ true → IsTokenAt (at + 1) text t word behind → IsTokenAt at (b ∷ text) t word behind
blank_token b at text t word behind h i =
    let place = i.place in
    record { gap = Blank b ∷ i.gap; here = i.here; whole = ap (λ s. b ∷ s) i.whole; separators = and_from _ _ h i.separators; place = omega arith; begins = i.begins }

blank_at : (b at : ℕ) (text : List ℕ) (found : List Token) (after : ℕ) (rest : List ℕ) (marks : List Mark) → is_blank b ≡ true → Begins (at + 1) text found after rest → IsLastGap rest → marks_of found ≡ marks → ScansAt at (b ∷ text) marks
blank_at b at text [] after rest marks h begins g e = record { found = []; after = at; rest = b ∷ text; begins = (refl, refl); blank = blank_gap b text h (subst IsLastGap (sym begins.1) g); same = e }
blank_at b at text (t ∷ found) after rest marks h begins g e = record { found = t ∷ found; after = after; rest = rest; begins = (begins.0, begins.1, blank_token b at text t begins.0 begins.1 h begins.2, begins.3); blank = g; same = e }

-- a blank in front
pub scans_blank : (b : ℕ) (text : List ℕ) (marks : List Mark) → is_blank b ≡ true → Scans text marks → Scans (b ∷ text) marks
scans_blank b text marks h s = record { from = λ at. let t = s.from (at + 1) in blank_at b at text t.found t.after t.rest marks h t.begins t.blank t.same }

-- a whole text
pub record ScansWhole (text : List ℕ) (marks : List Mark) : Type 0 where
  pub tokens : List Token
  pub scanned : IsTokens text tokens
  pub same : marks_of tokens ≡ marks ++ mark.End ∷ []

pub scans_whole : (text : List ℕ) (marks : List Mark) → Scans text marks → ScansWhole text marks
scans_whole text marks s =
    let t = s.from 0 in
    record {
      tokens = t.found ++ end_of text ∷ [];
      scanned = record { found = t.found; after = t.after; rest = t.rest; begins = t.begins; blank = t.blank; ended = refl };
      same = map-append (λ token. token.mark) t.found (end_of text ∷ []) ∙ ap (λ ms. ms ++ mark.End ∷ []) t.same;
    }

pub scans_reserved : (place : ℕ) (word text : List ℕ) (marks : List Mark) → position (bytes_eq word) reserved_words ≡ Some place → begins_word text ≡ false → Scans text marks → Scans (word ++ text) (mark.Reserved place ∷ marks)
scans_reserved place word [] marks e h s = scans_mark (mark.Reserved place) word [] marks e refl s
scans_reserved place word (b ∷ text) marks e h s = scans_mark (mark.Reserved place) word (b ∷ text) marks e h s

pub scans_name : (word text : List ℕ) (marks : List Mark) → is_name word ≡ true → begins_word text ≡ false → Scans text marks → Scans (word ++ text) (mark.Name (plain word) ∷ marks)
scans_name word [] marks e h s = scans_mark (mark.Name (plain word)) word [] marks (e, refl) refl s
scans_name word (b ∷ text) marks e h s = scans_mark (mark.Name (plain word)) word (b ∷ text) marks (e, refl) h s

-- signs that no byte makes longer
pub scans_open : (text : List ℕ) (marks : List Mark) → Scans text marks → Scans (40 ∷ text) (mark.Sign OPEN ∷ marks)
scans_open [] marks s = scans_mark (mark.Sign OPEN) (40 ∷ []) [] marks refl refl s
scans_open (b ∷ text) marks s = scans_mark (mark.Sign OPEN) (40 ∷ []) (b ∷ text) marks refl refl s

pub scans_close : (text : List ℕ) (marks : List Mark) → Scans text marks → Scans (41 ∷ text) (mark.Sign CLOSE ∷ marks)
scans_close [] marks s = scans_mark (mark.Sign CLOSE) (41 ∷ []) [] marks refl refl s
scans_close (b ∷ text) marks s = scans_mark (mark.Sign CLOSE) (41 ∷ []) (b ∷ text) marks refl refl s

pub scans_semicolon : (text : List ℕ) (marks : List Mark) → Scans text marks → Scans (59 ∷ text) (mark.Sign SEMICOLON ∷ marks)
scans_semicolon [] marks s = scans_mark (mark.Sign SEMICOLON) (59 ∷ []) [] marks refl refl s
scans_semicolon (b ∷ text) marks s = scans_mark (mark.Sign SEMICOLON) (59 ∷ []) (b ∷ text) marks refl refl s

pub scans_minus : (text : List ℕ) (marks : List Mark) → Scans text marks → Scans (45 ∷ text) (mark.Sign MINUS ∷ marks)
scans_minus [] marks s = scans_mark (mark.Sign MINUS) (45 ∷ []) [] marks refl refl s
scans_minus (b ∷ text) marks s = scans_mark (mark.Sign MINUS) (45 ∷ []) (b ∷ text) marks refl refl s

-- a sign and a blank behind it
pub scans_sign : (place : ℕ) (word text : List ℕ) (marks : List Mark) → position (bytes_eq word) signs ≡ Some place → list_any (bytes_eq (word ++ 32 ∷ [])) signs ≡ false → Scans text marks → Scans (word ++ 32 ∷ text) (mark.Sign place ∷ marks)
scans_sign place word text marks e h s = scans_mark (mark.Sign place) word (32 ∷ text) marks e h (scans_blank 32 text marks refl s)

-- the same text and marks
pub scans_as : (text other : List ℕ) (marks others : List Mark) → text ≡ other → marks ≡ others → Scans other others → Scans text marks
scans_as text other marks others e f s = subst (λ t. Scans t marks) (sym e) (subst (Scans other) (sym f) s)
