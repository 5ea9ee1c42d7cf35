-- The mark that a text begins with.
use Rattle.std.proofs.Common.{ℕ, suc, ◌≡◌, ◌≤◌, ◌<◌, ◌+◌, ◌*◌, ◌-◌, ◌^◌, ◌==◌, ◌⊎◌, inl, inr, ◌&&◌, ◌||◌, Bool, true, false, cond, not, nat_lt, nat_le, List, [], ◌∷◌, ◌++◌, length, get_or, take, drop, Option, Some, None, option_map, refl, sym, ap, subst, ◌∙◌, arith}
use Rattle.std.specs.List.{list_all, list_any, prefix_len, position, position_or_len}
use Rattle.std.specs.Str.{bytes_eq}
use Rattle.std.specs.Str.Parse.{digits_value_after}
use Rattle.std.specs.Char.{digit_value}
use Rattle.std.proofs.Math.Seq.{take-append_seam, drop-append_seam}
use Rattle.std.proofs.lemmas.Bool.{and_parts, and_from, and_right, or_cases, not-true, not_from_false, cond-true, cond-false, eqb-true, eq-eqb, leb-true, lt-leb, le-leb, le-ltb, ltb-true, ltb-false, lt-ltb, true_from_ne_false, false_from_ne_true, both_ways}
use Rattle.std.proofs.lemmas.Bool.Decides.{nat_tests}
use Rattle.std.proofs.lemmas.List.Folds.{list_any_at, list_all_at}
use Rattle.std.proofs.lemmas.List.Quantifiers.{position-Some}
use Rattle.std.proofs.lemmas.Slice.Eq.{bytes_eq-Decides}
use Rattle.std.proofs.lemmas.Str.{digit_value_digit}
use Rattle.re_terms.specs.Listed.{Listed}
use Rattle.re_terms.specs.Tokens.{reserved_words, signs, is_digit, is_letter, is_word_byte}
use Rattle.re_terms.specs.declared.token.Mark.{Mark}
use Rattle.re_terms.specs.declared.token.Mark.TheVariants as mark
use Rattle.re_tokens.specs.TokenGrammar.{Spells, goes_on, IsMarkAt, is_in_token, is_blank}
use Rattle.re_tokens.specs.Scanning.{number_from, number_of, reserved_or_name, word_mark, sign_then, sign_or_short, word_then, first_mark}

-- tests of three and of four parts
pub and_three : (x y z : Bool) → (x && y && z) ≡ true → (x ≡ true) × (y ≡ true) × (z ≡ true)
and_three true true true h = (refl, refl, refl)
and_three true true false h = absurd (cc)
and_three true false z h = absurd (cc)
and_three false y z h = absurd (cc)

pub and_three_from : (x y z : Bool) → x ≡ true → y ≡ true → z ≡ true → (x && y && z) ≡ true
and_three_from true true true h k l = refl
and_three_from true true false h k l = l
and_three_from true false z h k l = absurd (cc)
and_three_from false y z h k l = absurd (cc)

pub and_four : (w x y z : Bool) → (w && x && y && z) ≡ true → (w ≡ true) × (x ≡ true) × (y ≡ true) × (z ≡ true)
and_four true true true true h = (refl, refl, refl, refl)
and_four true true true false h = absurd (cc)
and_four true true false z h = absurd (cc)
and_four true false y z h = absurd (cc)
and_four false x y z h = absurd (cc)

pub and_four_from : (w x y z : Bool) → w ≡ true → x ≡ true → y ≡ true → z ≡ true → (w && x && y && z) ≡ true
and_four_from true true true true h k l m = refl
and_four_from true true true false h k l m = m
and_four_from true true false z h k l m = absurd (cc)
and_four_from true false y z h k l m = absurd (cc)
and_four_from false x y z h k l m = absurd (cc)

or_second : (x y z : Bool) → y ≡ true → (x || y || z) ≡ true
or_second true y z h = refl
or_second false true z h = refl
or_second false false z h = absurd (cc)

pub some_same : {A : Type 0} (x y : A) → Some x ≡ Some y → x ≡ y
some_same x y e = cc

-- places in a table
all_at : (q : List ℕ → Bool) (table : List (List ℕ)) (i : ℕ) → list_all q table ≡ true → i < length table → q (get_or table i []) ≡ true
all_at q table i h k = true_from_ne_false _ (λ e. both_ways _ (list_all_at q table i [] k e) h)

-- what each entry of a table passes, a word at a place passes
at_place : (q : List ℕ → Bool) (table : List (List ℕ)) (word : List ℕ) (place : ℕ) → list_all q table ≡ true → position (bytes_eq word) table ≡ Some place → q word ≡ true
at_place q table word place h e =
    let p = position-Some (bytes_eq word) table place [] e in
    ap q ((bytes_eq-Decides word (get_or table place [])).0 p.1) ∙ all_at q table place h p.0

pub place_below : (table : List (List ℕ)) (word : List ℕ) (place : ℕ) → position (bytes_eq word) table ≡ Some place → place < length table
place_below table word place e = (position-Some (bytes_eq word) table place [] e).0

placed : (table : List (List ℕ)) (word : List ℕ) (place : ℕ) → position (bytes_eq word) table ≡ Some place → list_any (bytes_eq word) table ≡ true
placed table word place e =
    let p = position-Some (bytes_eq word) table place [] e in
    list_any_at (bytes_eq word) table place [] p.0 p.1

place_none_by : (table : List (List ℕ)) (word : List ℕ) (o : Option ℕ) → position (bytes_eq word) table ≡ o → list_any (bytes_eq word) table ≡ false → o ≡ None
place_none_by table word None e h = refl
place_none_by table word (Some place) e h = absurd (both_ways _ h (placed table word place e))

pub place_none : (table : List (List ℕ)) (word : List ℕ) → list_any (bytes_eq word) table ≡ false → position (bytes_eq word) table ≡ None
place_none table word h = place_none_by table word _ refl h

any_step : (c : Bool) (a n : ℕ) (r : Bool) → r ≡ nat_lt a n → (c || r) ≡ nat_lt (cond (not c) (1 + a) 0) (suc n)
any_step true a n r h = sym (lt-ltb 0 (suc n) (omega arith))
any_step false a n r h = h ∙ grind (arith, nat_tests)

any_by_place : (p : List ℕ → Bool) (table : List (List ℕ)) → list_any p table ≡ nat_lt (position_or_len p table) (length table)
any_by_place p [] = refl
any_by_place p (x ∷ table) = any_step (p x) (position_or_len p table) (length table) (list_any p table) (any_by_place p table)

none_step : (c : Bool) (n : ℕ) → cond c (Some n) None ≡ None → c ≡ false
none_step true n h = absurd (cc)
none_step false n h = refl

pub none_placed : (table : List (List ℕ)) (word : List ℕ) → position (bytes_eq word) table ≡ None → list_any (bytes_eq word) table ≡ false
none_placed table word h = any_by_place (bytes_eq word) table ∙ none_step _ _ h

-- kinds of bytes
letter_no_digit : (b : ℕ) → is_letter b ≡ true → is_digit b ≡ false
letter_no_digit b h = by (or_cases _ _ h)
  where
    by : (((nat_le 65 b && nat_le b 90) ≡ true) ⊎ ((nat_le 97 b && nat_le b 122) ≡ true)) → is_digit b ≡ false
    by (inl p) = let k = leb-true 65 b (and_parts _ _ p).0 in and_right _ _ (lt-leb b 57 (omega arith))
    by (inr p) = let k = leb-true 97 b (and_parts _ _ p).0 in and_right _ _ (lt-leb b 57 (omega arith))

letter_word : (b : ℕ) → is_letter b ≡ true → is_word_byte b ≡ true
letter_word b h = or_first (is_letter b) (is_digit b) (b == 95) h
  where
    or_first : (x y z : Bool) → x ≡ true → (x || y || z) ≡ true
    or_first true y z h = refl
    or_first false y z h = absurd (cc)

digit_word : (b : ℕ) → is_digit b ≡ true → is_word_byte b ≡ true
digit_word b h = or_second (is_letter b) (is_digit b) (b == 95) h

digits_word : (word : List ℕ) → list_all is_digit word ≡ true → list_all is_word_byte word ≡ true
digits_word [] h = refl
digits_word (b ∷ word) h = let p = and_parts _ _ h in and_from _ _ (digit_word b p.0) (digits_word word p.1)

-- numbers
digit_is : (b : ℕ) → is_digit b ≡ true → digit_value b ≡ b - 48
digit_is b h =
    let p = and_parts _ _ h in
    let low = leb-true 48 b p.0 in
    let high = leb-true b 57 p.1 in
    let d = digit_value_digit b (low, high) in
    omega arith

grows : (n : ℕ) (word : List ℕ) → n ≤ digits_value_after 10 n word
grows n [] = omega arith
grows n (b ∷ word) = let k = grows (n * 10 + digit_value b) word in omega arith

number_from_all : (n : ℕ) (word : List ℕ) → list_all is_digit word ≡ true → digits_value_after 10 n word ≤ 2 ^ 63 → number_from n word ≡ Some (digits_value_after 10 n word)
number_from_all n [] h k = refl
number_from_all n (b ∷ word) h k =
    let p = and_parts _ _ h in
    let d = ap (λ v. n * 10 + v) (digit_is b p.0) in
    let e = ap (λ v. digits_value_after 10 v word) d in
    let g = grows (n * 10 + (b - 48)) word in
    let small : digits_value_after 10 (n * 10 + (b - 48)) word ≤ 2 ^ 63 = subst (λ v. v ≤ 2 ^ 63) e k in
    cond-true _ _ _ (and_from _ _ p.0 (le-leb _ _ (omega arith)))
    ∙ number_from_all (n * 10 + (b - 48)) word p.1 small
    ∙ ap Some (sym e)

record Numbered (n : ℕ) (word : List ℕ) (v : ℕ) : Type 0 where
  digits : list_all is_digit word ≡ true
  value : digits_value_after 10 n word ≡ v
  small : v ≤ 2 ^ 63

numbered_by : (c : Bool) (n b : ℕ) (word : List ℕ) (v : ℕ) (o : Option ℕ) → (is_digit b && nat_le (n * 10 + (b - 48)) (2 ^ 63)) ≡ c → (o ≡ Some v → n * 10 + (b - 48) ≤ 2 ^ 63 → Numbered (n * 10 + (b - 48)) word v) → cond c o None ≡ Some v → Numbered n (b ∷ word) v
numbered_by false n b word v o t more e = absurd (cc)
numbered_by true n b word v o t more e =
    let p = and_parts _ _ t in
    let s = more e (leb-true _ _ p.1) in
    record {
      digits = and_from _ _ p.0 s.digits;
      value = ap (λ d. digits_value_after 10 (n * 10 + d) word) (digit_is b p.0) ∙ s.value;
      small = s.small;
    }

number_from_some : (n : ℕ) (word : List ℕ) (v : ℕ) → number_from n word ≡ Some v → n ≤ 2 ^ 63 → Numbered n word v
number_from_some n [] v e h = let k = some_same n v e in record { digits = refl; value = k; small = subst (λ v. v ≤ 2 ^ 63) k h }
number_from_some n (b ∷ word) v e h = numbered_by _ n b word v _ refl (λ f g. number_from_some (n * 10 + (b - 48)) word v f g) e

no_zero : (x : Bool) (n : ℕ) → (not x || (n == 1)) ≡ true → (x && nat_lt 1 n) ≡ false
no_zero false n h = refl
no_zero true n h = let k = eqb-true n 1 h in le-ltb 1 n (omega arith)

zero_alone : (x : Bool) (n : ℕ) → (x && nat_lt 1 n) ≡ false → 0 < n → (not x || (n == 1)) ≡ true
zero_alone false n h k = refl
zero_alone true n h k = let l = ltb-false 1 n h in eq-eqb n 1 (omega arith)

number_complete : (n : ℕ) (word : List ℕ) → Spells (mark.Number n) word → number_of word ≡ Some n
number_complete n word s =
    let p = and_three _ _ _ s.0 in
    cond-false ((get_or word 0 0 == 48) && nat_lt 1 (length word)) None (number_from 0 word) (no_zero (get_or word 0 0 == 48) (length word) p.2)
    ∙ number_from_all 0 word p.0 (subst (λ v. v ≤ 2 ^ 63) (sym s.1) s.2)
    ∙ ap Some s.1

number_sound_by : (c : Bool) (n : ℕ) (word : List ℕ) → ((get_or word 0 0 == 48) && nat_lt 1 (length word)) ≡ c → 0 < length word → cond c None (number_from 0 word) ≡ Some n → Spells (mark.Number n) word
number_sound_by true n word t some e = absurd (cc)
number_sound_by false n word t some e =
    let s = number_from_some 0 word n e (omega arith) in
    let some_bytes : not (length word == 0) ≡ true = grind (arith, nat_tests) in
    (and_three_from _ _ _ s.digits some_bytes (zero_alone _ _ t some), s.value, s.small)

pub number_sound : (n : ℕ) (word : List ℕ) → 0 < length word → number_of word ≡ Some n → Spells (mark.Number n) word
number_sound n word some e = number_sound_by _ n word refl some e

-- words
abbrev pub begins_word : List ℕ → Bool
begins_word [] = false
begins_word (b ∷ text) = is_word_byte b

word_prefix : (word behind : List ℕ) → list_all is_word_byte word ≡ true → begins_word behind ≡ false → prefix_len is_word_byte (word ++ behind) ≡ length word
word_prefix [] [] h k = refl
word_prefix [] (b ∷ behind) h k = cond-false _ _ _ k
word_prefix (b ∷ word) behind h k =
    let p = and_parts (is_word_byte b) (list_all is_word_byte word) h in
    let e = word_prefix word behind p.1 k in
    let more : 1 + prefix_len is_word_byte (word ++ behind) ≡ suc (length word) = omega arith in
    cond-true _ _ _ p.0 ∙ more

word_then_is : (m : Mark) (word behind : List ℕ) → word_mark word ≡ Some m → word_then (length word) (word ++ behind) ≡ Some (m, behind)
word_then_is m word behind e =
    ap (λ t. option_map (λ k. (k, drop (length word) (word ++ behind))) (word_mark t)) (take-append_seam word behind)
    ∙ ap (option_map (λ k. (k, drop (length word) (word ++ behind)))) e
    ∙ ap (λ t. Some (m, t)) (drop-append_seam word behind)

pub first_of_word : (b : ℕ) (text : List ℕ) → is_word_byte b ≡ true → first_mark (b ∷ text) ≡ word_then (prefix_len is_word_byte (b ∷ text)) (b ∷ text)
first_of_word b text h = cond-true (is_word_byte b) (word_then (prefix_len is_word_byte (b ∷ text)) (b ∷ text)) (sign_or_short (b ∷ text) (position (bytes_eq (take 2 (b ∷ text))) signs)) h

pub first_of_sign : (b : ℕ) (text : List ℕ) → is_word_byte b ≡ false → first_mark (b ∷ text) ≡ sign_or_short (b ∷ text) (position (bytes_eq (take 2 (b ∷ text))) signs)
first_of_sign b text h = cond-false (is_word_byte b) (word_then (prefix_len is_word_byte (b ∷ text)) (b ∷ text)) (sign_or_short (b ∷ text) (position (bytes_eq (take 2 (b ∷ text))) signs)) h

word_first : (m : Mark) (b : ℕ) (word behind : List ℕ) → list_all is_word_byte (b ∷ word) ≡ true → begins_word behind ≡ false → word_mark (b ∷ word) ≡ Some m → first_mark ((b ∷ word) ++ behind) ≡ Some (m, behind)
word_first m b word behind h k e =
    first_of_word b (word ++ behind) (and_parts (is_word_byte b) (list_all is_word_byte word) h).0
    ∙ ap (λ n. word_then n ((b ∷ word) ++ behind)) (word_prefix (b ∷ word) behind h k)
    ∙ word_then_is m (b ∷ word) behind e

-- the rest of what a word may be
abbrev pub other_mark : List ℕ → Option Mark
other_mark word = cond (is_letter (get_or word 0 0) && nat_le (length word) 32) (Some (reserved_or_name word (position (bytes_eq word) reserved_words))) None

pub mark_of_digits : (b : ℕ) (word : List ℕ) → is_digit b ≡ true → word_mark (b ∷ word) ≡ option_map mark.Number (number_of (b ∷ word))
mark_of_digits b word h = cond-true (is_digit b) (option_map mark.Number (number_of (b ∷ word))) (other_mark (b ∷ word)) h

number_first : (n : ℕ) (word behind : List ℕ) → Spells (mark.Number n) word → begins_word behind ≡ false → first_mark (word ++ behind) ≡ Some (mark.Number n, behind)
number_first n [] behind s k = let p = s.0 in absurd (cc)
number_first n (b ∷ word) behind s k =
    let p = and_three _ _ _ s.0 in
    let q = and_parts (is_digit b) (list_all is_digit word) p.0 in
    word_first (mark.Number n) b word behind (digits_word (b ∷ word) p.0) k (mark_of_digits b word q.0 ∙ ap (option_map mark.Number) (number_complete n (b ∷ word) s))

-- a word of letters, digits and `_` that begins with a letter, of at most 32 bytes
abbrev is_lettered : List ℕ → Bool
is_lettered word = is_letter (get_or word 0 0) && nat_le (length word) 32 && list_all is_word_byte word

lettered_mark : (b : ℕ) (word : List ℕ) → is_lettered (b ∷ word) ≡ true → word_mark (b ∷ word) ≡ Some (reserved_or_name (b ∷ word) (position (bytes_eq (b ∷ word)) reserved_words))
lettered_mark b word h =
    let p = and_three _ _ _ h in
    cond-false _ _ _ (letter_no_digit b p.0) ∙ cond-true _ _ _ (and_from _ _ p.0 p.1)

lettered_first : (m : Mark) (word behind : List ℕ) → is_lettered word ≡ true → begins_word behind ≡ false → reserved_or_name word (position (bytes_eq word) reserved_words) ≡ m → first_mark (word ++ behind) ≡ Some (m, behind)
lettered_first m [] behind h k e = absurd (cc)
lettered_first m (b ∷ word) behind h k e = word_first m b word behind (and_three (is_letter b) (nat_le (length (b ∷ word)) 32) (list_all is_word_byte (b ∷ word)) h).2 k (lettered_mark b word h ∙ ap Some e)

name_first : (name : Listed ℕ) (word behind : List ℕ) → Spells (mark.Name name) word → begins_word behind ≡ false → first_mark (word ++ behind) ≡ Some (mark.Name name, behind)
name_first name word behind s k =
    let p = and_four (is_letter (get_or word 0 0)) (nat_le (length word) 32) (list_all is_word_byte word) (not (list_any (bytes_eq word) reserved_words)) s.0 in
    lettered_first (mark.Name name) word behind (and_three_from (is_letter (get_or word 0 0)) (nat_le (length word) 32) (list_all is_word_byte word) p.0 p.1 p.2) k
    (ap (reserved_or_name word) (place_none reserved_words word (not-true _ p.3)) ∙ ap mark.Name (sym s.1))

reserved_first : (place : ℕ) (word behind : List ℕ) → Spells (mark.Reserved place) word → begins_word behind ≡ false → first_mark (word ++ behind) ≡ Some (mark.Reserved place, behind)
reserved_first place word behind s k =
    lettered_first (mark.Reserved place) word behind (at_place is_lettered reserved_words word place refl s) k (ap (reserved_or_name word) s)

-- signs have one or two bytes, none of them of a word
abbrev pub is_sign_like : List ℕ → Bool
is_sign_like word = not (is_word_byte (get_or word 0 0)) && nat_lt 0 (length word) && nat_lt (length word) 3

pub sign_like : (word : List ℕ) (place : ℕ) → position (bytes_eq word) signs ≡ Some place → is_sign_like word ≡ true
sign_like word place e = at_place is_sign_like signs word place refl e

short_sign : (a : ℕ) (behind : List ℕ) (place : ℕ) → is_word_byte a ≡ false → position (bytes_eq (a ∷ [])) signs ≡ Some place → goes_on (mark.Sign place) (a ∷ []) behind ≡ false → first_mark (a ∷ behind) ≡ Some (mark.Sign place, behind)
short_sign a [] place h e k = first_of_sign a [] h ∙ ap (sign_or_short (a ∷ [])) e
short_sign a (b ∷ behind) place h e k =
    first_of_sign a (b ∷ behind) h
    ∙ ap (sign_or_short (a ∷ b ∷ behind)) (place_none signs (a ∷ b ∷ []) k)
    ∙ ap (option_map (sign_then 1 (a ∷ b ∷ behind))) e

sign_first_by : (place : ℕ) (word behind : List ℕ) → is_sign_like word ≡ true → position (bytes_eq word) signs ≡ Some place → goes_on (mark.Sign place) word behind ≡ false → first_mark (word ++ behind) ≡ Some (mark.Sign place, behind)
sign_first_by place [] behind h e k = absurd (cc)
sign_first_by place (a ∷ []) behind h e k = let p = and_three (not (is_word_byte a)) true true h in short_sign a behind place (not-true _ p.0) e k
sign_first_by place (a ∷ b ∷ []) behind h e k =
    let p = and_three (not (is_word_byte a)) true true h in
    first_of_sign a (b ∷ behind) (not-true _ p.0) ∙ ap (sign_or_short (a ∷ b ∷ behind)) e
sign_first_by place (a ∷ b ∷ c ∷ word) behind h e k =
    let p = and_three (not (is_word_byte a)) (nat_lt 0 (length (a ∷ b ∷ c ∷ word))) (nat_lt (length (a ∷ b ∷ c ∷ word)) 3) h in
    let q = ltb-true (length (a ∷ b ∷ c ∷ word)) 3 p.2 in
    absurd (omega arith)

-- the mark that a text begins with is the one that the scanner finds
first_is : (m : Mark) (word behind : List ℕ) → Spells m word → goes_on m word behind ≡ false → first_mark (word ++ behind) ≡ Some (m, behind)
first_is (mark.Number n) word [] s k = number_first n word [] s refl
first_is (mark.Number n) word (b ∷ behind) s k = number_first n word (b ∷ behind) s k
first_is (mark.Name name) word [] s k = name_first name word [] s refl
first_is (mark.Name name) word (b ∷ behind) s k = name_first name word (b ∷ behind) s k
first_is (mark.Reserved place) word [] s k = reserved_first place word [] s refl
first_is (mark.Reserved place) word (b ∷ behind) s k = reserved_first place word (b ∷ behind) s k
first_is (mark.Sign place) word behind s k = sign_first_by place word behind (sign_like word place s) s k
first_is mark.End word behind s k = absurd s

pub first_complete : (text : List ℕ) (m : Mark) (word behind : List ℕ) → IsMarkAt text m word behind → first_mark text ≡ Some (m, behind)
first_complete text m word behind i = ap first_mark i.whole ∙ first_is m word behind i.spelled i.longest

-- a text that a mark begins belongs to a token
word_in_token : (b : ℕ) (text : List ℕ) → is_word_byte b ≡ true → is_in_token (b ∷ text) ≡ true
word_in_token b text h = not_from_false _ (false_from_ne_true _ (λ e. by (or_cases (is_blank b) (b == 35) e)))
  where
    by : (is_blank b ≡ true) ⊎ ((b == 35) ≡ true) → ⊥
    by (inl k) = grind (arith, nat_tests)
    by (inr k) = let q = ap is_word_byte (eqb-true b 35 k) in absurd (cc)

in_token_more : (word behind : List ℕ) → is_in_token word ≡ true → is_in_token (word ++ behind) ≡ true
in_token_more [] behind h = absurd (cc)
in_token_more (b ∷ word) behind h = h

spelled_in_token : (m : Mark) (word : List ℕ) → Spells m word → is_in_token word ≡ true
spelled_in_token (mark.Number n) [] s = let p = s.0 in absurd (cc)
spelled_in_token (mark.Number n) (b ∷ word) s = word_in_token b word (digit_word b (and_parts (is_digit b) (list_all is_digit word) (and_three _ _ _ s.0).0).0)
spelled_in_token (mark.Name name) [] s = let p = s.0 in absurd (cc)
spelled_in_token (mark.Name name) (b ∷ word) s = word_in_token b word (letter_word b (and_four _ _ _ _ s.0).0)
spelled_in_token (mark.Reserved place) word s = at_place is_in_token reserved_words word place refl s
spelled_in_token (mark.Sign place) word s = at_place is_in_token signs word place refl s
spelled_in_token mark.End word s = absurd s

pub mark_in_token : (text : List ℕ) (m : Mark) (word behind : List ℕ) → IsMarkAt text m word behind → is_in_token text ≡ true
mark_in_token text m word behind i = ap is_in_token i.whole ∙ in_token_more word behind (spelled_in_token m word i.spelled)

-- what is spelled has bytes
some_bytes : (word : List ℕ) → is_in_token word ≡ true → 0 < length word
some_bytes [] h = absurd (cc)
some_bytes (b ∷ word) h = omega arith

pub spelled_some : (m : Mark) (word : List ℕ) → Spells m word → 0 < length word
spelled_some m word s = some_bytes word (spelled_in_token m word s)
