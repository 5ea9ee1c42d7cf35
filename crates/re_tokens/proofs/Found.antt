-- The mark that the scanner finds is the one that the text begins with.
use Rattle.std.proofs.Common.{ℕ, suc, ◌≡◌, ◌<◌, ◌+◌, ◌⊎◌, inl, inr, ◌&&◌, Bool, true, false, cond, nat_le, List, [], ◌∷◌, length, get_or, take, drop, Option, Some, None, option_map, refl, sym, ap, subst, ◌∙◌, arith}
use Rattle.std.specs.List.{list_all, list_any, prefix_len, position}
use Rattle.std.specs.Str.{bytes_eq}
use Rattle.std.proofs.lemmas.Bool.{and_parts, and_from, not_from_false, cond-true, cases_Bool, and_right, both_ways}
use Rattle.std.proofs.lemmas.List.{take-append-drop}
use Rattle.re_terms.specs.Listed.{plain}
use Rattle.re_terms.specs.Tokens.{reserved_words, signs, is_digit, is_letter, is_word_byte}
use Rattle.re_terms.specs.declared.token.Mark.{Mark}
use Rattle.re_terms.specs.declared.token.Mark.TheVariants as mark
use Rattle.re_tokens.specs.TokenGrammar.{Spells, goes_on, IsMarkAt}
use Rattle.re_tokens.specs.Scanning.{number_of, reserved_or_name, word_mark, sign_then, sign_or_short, first_mark}
use Rattle.re_tokens.proofs.Marks.{and_four_from, some_same, none_placed, number_sound, begins_word, other_mark, first_of_word, first_of_sign, sign_like}

pub record Found (text : List ℕ) (p : Mark × List ℕ) : Type 0 where
  pub word : List ℕ
  pub is : IsMarkAt text p.0 word p.1

-- a word spells a mark, and only a byte of a word would go on with it
record Spelled (word : List ℕ) (m : Mark) : Type 0 where
  spelled : Spells m word
  ends : (behind : List ℕ) → begins_word behind ≡ false → goes_on m word behind ≡ false

number_ends : (n : ℕ) (word behind : List ℕ) → begins_word behind ≡ false → goes_on (mark.Number n) word behind ≡ false
number_ends n word [] h = refl
number_ends n word (b ∷ behind) h = h

name_ends : (word behind : List ℕ) → begins_word behind ≡ false → goes_on (mark.Name (plain word)) word behind ≡ false
name_ends word [] h = refl
name_ends word (b ∷ behind) h = h

reserved_ends : (place : ℕ) (word behind : List ℕ) → begins_word behind ≡ false → goes_on (mark.Reserved place) word behind ≡ false
reserved_ends place word [] h = refl
reserved_ends place word (b ∷ behind) h = h

spelled_number : (word : List ℕ) (m : Mark) (o : Option ℕ) → 0 < length word → number_of word ≡ o → option_map mark.Number o ≡ Some m → Spelled word m
spelled_number word m None some t e = absurd (cc)
spelled_number word m (Some n) some t e = subst (Spelled word) (some_same _ _ e) (record { spelled = number_sound n word some t; ends = number_ends n word })

spelled_letters : (word : List ℕ) (o : Option ℕ) → is_letter (get_or word 0 0) ≡ true → nat_le (length word) 32 ≡ true → list_all is_word_byte word ≡ true → position (bytes_eq word) reserved_words ≡ o → Spelled word (reserved_or_name word o)
spelled_letters word (Some place) letter short all t = record { spelled = t; ends = reserved_ends place word }
spelled_letters word None letter short all t = record {
  spelled = (and_four_from _ _ _ _ letter short all (not_from_false _ (none_placed reserved_words word t)), refl);
  ends = name_ends word;
}

spelled_other : (c : Bool) (word : List ℕ) (m : Mark) → (is_letter (get_or word 0 0) && nat_le (length word) 32) ≡ c → list_all is_word_byte word ≡ true → cond c (Some (reserved_or_name word (position (bytes_eq word) reserved_words))) None ≡ Some m → Spelled word m
spelled_other false word m t all e = absurd (cc)
spelled_other true word m t all e =
    let p = and_parts _ _ t in
    subst (Spelled word) (some_same _ _ e) (spelled_letters word _ p.0 p.1 all refl)

spelled_by : (c : Bool) (word : List ℕ) (m : Mark) → 0 < length word → list_all is_word_byte word ≡ true → cond c (option_map mark.Number (number_of word)) (other_mark word) ≡ Some m → Spelled word m
spelled_by true word m some all e = spelled_number word m _ some refl e
spelled_by false word m some all e = spelled_other _ word m refl all e

word_mark_sound : (word : List ℕ) (m : Mark) → 0 < length word → list_all is_word_byte word ≡ true → word_mark word ≡ Some m → Spelled word m
word_mark_sound word m some all e = spelled_by (is_digit (get_or word 0 0)) word m some all e

-- the word that a text begins with
stops_by : (c : Bool) (b n : ℕ) (text : List ℕ) → is_word_byte b ≡ c → begins_word (drop n text) ≡ false → begins_word (drop (cond c (1 + n) 0) (b ∷ text)) ≡ false
stops_by true b n text h k = let e : 1 + n ≡ suc n = omega arith in ap (λ i. begins_word (drop i (b ∷ text))) e ∙ k
stops_by false b n text h k = h

rest_stops : (text : List ℕ) → begins_word (drop (prefix_len is_word_byte text) text) ≡ false
rest_stops [] = refl
rest_stops (b ∷ text) = stops_by (is_word_byte b) b (prefix_len is_word_byte text) text refl (rest_stops text)

taken_by : (c : Bool) (b n : ℕ) (text : List ℕ) → is_word_byte b ≡ c → list_all is_word_byte (take n text) ≡ true → list_all is_word_byte (take (cond c (1 + n) 0) (b ∷ text)) ≡ true
taken_by true b n text h k = let e : 1 + n ≡ suc n = omega arith in ap (λ i. list_all is_word_byte (take i (b ∷ text))) e ∙ and_from _ _ h k
taken_by false b n text h k = refl

word_taken : (text : List ℕ) → list_all is_word_byte (take (prefix_len is_word_byte text) text) ≡ true
word_taken [] = refl
word_taken (b ∷ text) = taken_by (is_word_byte b) b (prefix_len is_word_byte text) text refl (word_taken text)

some_taken : (b n : ℕ) (text : List ℕ) → n ≡ suc (prefix_len is_word_byte text) → 0 < length (take n (b ∷ text))
some_taken b n text e = subst (λ i. 0 < length (take i (b ∷ text))) (sym e) (omega arith)

found_word : (n : ℕ) (text : List ℕ) (p : Mark × List ℕ) (o : Option Mark) → word_mark (take n text) ≡ o → 0 < length (take n text) → list_all is_word_byte (take n text) ≡ true → begins_word (drop n text) ≡ false
    → option_map (λ m. (m, drop n text)) o ≡ Some p → Found text p
found_word n text p None t some all stops e = absurd (cc)
found_word n text p (Some m) t some all stops e =
    let s = word_mark_sound (take n text) m some all t in
    subst (Found text) (some_same _ _ e) (record { word = take n text; is = record { whole = sym (take-append-drop n text); spelled = s.spelled; longest = s.ends (drop n text) stops } })

-- signs
no_three_by : (a b c : ℕ) (o : Option ℕ) → position (bytes_eq (a ∷ b ∷ c ∷ [])) signs ≡ o → list_any (bytes_eq (a ∷ b ∷ c ∷ [])) signs ≡ false
no_three_by a b c None t = none_placed signs (a ∷ b ∷ c ∷ []) t
no_three_by a b c (Some place) t = absurd (both_ways _ (and_right _ _ refl) (sign_like (a ∷ b ∷ c ∷ []) place t))

found_long : (a : ℕ) (text : List ℕ) (place : ℕ) → position (bytes_eq (take 2 (a ∷ text))) signs ≡ Some place → Found (a ∷ text) (sign_then 2 (a ∷ text) place)
found_long a [] place t = record { word = a ∷ []; is = record { whole = refl; spelled = t; longest = refl } }
found_long a (b ∷ []) place t = record { word = a ∷ b ∷ []; is = record { whole = refl; spelled = t; longest = refl } }
found_long a (b ∷ c ∷ text) place t = record { word = a ∷ b ∷ []; is = record { whole = refl; spelled = t; longest = no_three_by a b c _ refl } }

short_ends : (a : ℕ) (text : List ℕ) (place : ℕ) → position (bytes_eq (take 2 (a ∷ text))) signs ≡ None → goes_on (mark.Sign place) (a ∷ []) text ≡ false
short_ends a [] place t = refl
short_ends a (b ∷ text) place t = none_placed signs (a ∷ b ∷ []) t

found_short : (a : ℕ) (text : List ℕ) (p : Mark × List ℕ) (o : Option ℕ) → position (bytes_eq (take 2 (a ∷ text))) signs ≡ None → position (bytes_eq (a ∷ [])) signs ≡ o → option_map (sign_then 1 (a ∷ text)) o ≡ Some p → Found (a ∷ text) p
found_short a text p None none t e = absurd (cc)
found_short a text p (Some place) none t e =
    subst (Found (a ∷ text)) (some_same _ _ e) (record { word = a ∷ []; is = record { whole = refl; spelled = t; longest = short_ends a text place none } })

found_sign : (a : ℕ) (text : List ℕ) (p : Mark × List ℕ) (o : Option ℕ) → position (bytes_eq (take 2 (a ∷ text))) signs ≡ o → sign_or_short (a ∷ text) o ≡ Some p → Found (a ∷ text) p
found_sign a text p (Some place) t e = subst (Found (a ∷ text)) (some_same _ _ e) (found_long a text place t)
found_sign a text p None t e = found_short a text p _ t refl e

first_by : (a : ℕ) (text : List ℕ) (p : Mark × List ℕ) → first_mark (a ∷ text) ≡ Some p → (is_word_byte a ≡ true) ⊎ (is_word_byte a ≡ false) → Found (a ∷ text) p
first_by a text p e (inl h) =
    let n = prefix_len is_word_byte (a ∷ text) in
    let more : 1 + prefix_len is_word_byte text ≡ suc (prefix_len is_word_byte text) = omega arith in
    found_word n (a ∷ text) p _ refl (some_taken a n text (cond-true (is_word_byte a) (1 + prefix_len is_word_byte text) 0 h ∙ more)) (word_taken (a ∷ text)) (rest_stops (a ∷ text)) (sym (first_of_word a text h) ∙ e)
first_by a text p e (inr h) = found_sign a text p _ refl (sym (first_of_sign a text h) ∙ e)

pub first_sound : (a : ℕ) (text : List ℕ) (p : Mark × List ℕ) → first_mark (a ∷ text) ≡ Some p → Found (a ∷ text) p
first_sound a text p e = first_by a text p e (cases_Bool (is_word_byte a))
