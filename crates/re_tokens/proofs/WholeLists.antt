-- The whole list of a text's marks.
use Rattle.std.proofs.Common.{ℕ, zero, suc, ◌≡◌, ◌≤◌, ◌<◌, ◌+◌, ◌-◌, ◌==◌, ◌↔◌, IsTrue, ◌⊎◌, inl, inr, true, false, Bool, List, [], ◌∷◌, ◌++◌, length, take, Option, Some, None, option_map, IfSome, map, refl, sym, ap, subst, ◌∙◌, arith, length-append}
use Rattle.std.proofs.Math.Seq.{take-append_seam}
use Rattle.std.proofs.lemmas.Bool.{eqb-true}
use Rattle.std.proofs.lemmas.List.{append-nil}
use Rattle.re_terms.specs.Listed.{Listed, plain}
use Rattle.re_terms.specs.declared.token.Mark.{Mark}
use Rattle.re_terms.specs.declared.token.Token.{Token}
use Rattle.re_tokens.specs.TokenGrammar.{is_in_token, IsMarkAt, IsTokenAt, Begins, end_of, IsTokens, NoTokenAt}
use Rattle.re_tokens.specs.Scanning.{behind_gap, first_mark}
use Rattle.re_tokens.specs.WholeLists.{mark_then, marks_step, marks_within, tokens_of, marks_before_end}
use Rattle.re_tokens.proofs.Gaps.{behind_some, behind_last, behind_gap-le}
use Rattle.re_tokens.proofs.Marks.{some_same, first_complete, mark_in_token, spelled_some}
use Rattle.re_tokens.proofs.Found.{Found, first_sound}
use Rattle.re_tokens.proofs.Reading.{Reads, reads_more, reads_all, reads_none, left_shorter}

-- a mark leaves less
IsShorter : ℕ → Option (Mark × List ℕ) → Type 0
IsShorter n o = IfSome o (λ p. length p.1 < n)

found_shorter : (text : List ℕ) (p : Mark × List ℕ) → Found text p → length p.1 < length text
found_shorter text p f =
    let whole : length text ≡ length f.word + length p.1 = ap length f.is.whole ∙ length-append f.word p.1 in
    let some = spelled_some p.0 f.word f.is.spelled in
    omega arith

shorter_by : (b : ℕ) (text : List ℕ) (o : Option (Mark × List ℕ)) → first_mark (b ∷ text) ≡ o → IsShorter (length (b ∷ text)) o
unfolding IsShorter
shorter_by b text None e = tt
shorter_by b text (Some p) e = found_shorter (b ∷ text) p (first_sound b text p e)

first_shorter : (b : ℕ) (text : List ℕ) → IsShorter (length (b ∷ text)) (first_mark (b ∷ text))
first_shorter b text = shorter_by b text _ refl

same_behind : (o : Option (Mark × List ℕ)) (n : ℕ) (f g : List ℕ → Option (List Mark)) → IsShorter (suc n) o → ((t : List ℕ) → length t ≤ n → f t ≡ g t) → mark_then o f ≡ mark_then o g
unfolding IsShorter
same_behind None n f g h same = refl
same_behind (Some p) n f g h same = ap (option_map (λ marks. p.0 ∷ marks)) (same p.1 (omega arith))

same_step : (text : List ℕ) (n : ℕ) (f g : List ℕ → Option (List Mark)) → length text ≤ suc n → ((t : List ℕ) → length t ≤ n → f t ≡ g t) → marks_step text f ≡ marks_step text g
same_step [] n f g h same = refl
same_step (b ∷ text) n f g h same = same_behind _ (length text) f g (first_shorter b text) (λ t k. same t (omega arith))

-- any number of steps that is large enough gives the same marks
marks_enough : (n m : ℕ) (text : List ℕ) → length text ≤ n → length text ≤ m → marks_within n text ≡ marks_within m text
marks_enough zero zero text h k = refl
marks_enough zero (suc m) [] h k = refl
marks_enough zero (suc m) (b ∷ text) h k = absurd (omega arith)
marks_enough (suc n) zero [] h k = refl
marks_enough (suc n) zero (b ∷ text) h k = absurd (omega arith)
marks_enough (suc n) (suc m) [] h k = refl
marks_enough (suc n) (suc m) (b ∷ text) h k = let s = behind_gap-le (b ∷ text) in
    same_step (behind_gap false (b ∷ text)) (length text) _ _ (omega arith) (λ t q. marks_enough n m t (omega arith) (omega arith))

-- the marks of a text by those of shorter texts
pub tokens_of-gap : (text : List ℕ) → tokens_of text ≡ marks_step (behind_gap false text) tokens_of
tokens_of-gap [] = refl
tokens_of-gap (b ∷ text) = let s = behind_gap-le (b ∷ text) in
    same_step (behind_gap false (b ∷ text)) (length text) _ _ (omega arith) (λ t q. marks_enough (length text) (length t) t (omega arith) (omega arith))

-- the marks of a text that is its gap and then this
tokens_behind : (text here : List ℕ) → behind_gap false text ≡ here → tokens_of text ≡ marks_step here tokens_of
tokens_behind text here e = tokens_of-gap text ∙ ap (λ t. marks_step t tokens_of) e

-- tokens read before those of what is left
read_before : List Token → Option (List Mark) → Option (List Mark)
read_before front o = option_map (λ marks. map (λ t. t.mark) front ++ marks) o

read_before-nil : (o : Option (List Mark)) → read_before [] o ≡ o
unfolding read_before
read_before-nil None = refl
read_before-nil (Some marks) = refl

read_before-cons : (t : Token) (front : List Token) (o : Option (List Mark)) → read_before (t ∷ front) o ≡ option_map (λ marks. t.mark ∷ marks) (read_before front o)
unfolding read_before
read_before-cons t front None = refl
read_before-cons t front (Some marks) = refl

step_some : (here : List ℕ) (p : Mark × List ℕ) → is_in_token here ≡ true → first_mark here ≡ Some p → marks_step here tokens_of ≡ option_map (λ marks. p.0 ∷ marks) (tokens_of p.1)
step_some [] p h e = absurd (cc)
step_some (b ∷ here) p h e = ap (λ o. mark_then o tokens_of) e

token_step : (at : ℕ) (text : List ℕ) (t : Token) (word behind : List ℕ) → IsTokenAt at text t word behind → tokens_of text ≡ option_map (λ marks. t.mark ∷ marks) (tokens_of behind)
token_step at text t word behind i =
    let k = mark_in_token i.here t.mark word behind i.begins in
    tokens_behind text i.here (behind_some i.gap text i.here i.whole i.separators k)
    ∙ step_some i.here (t.mark, behind) k (first_complete i.here t.mark word behind i.begins)

begun : (at : ℕ) (text : List ℕ) (tokens : List Token) (after : ℕ) (rest : List ℕ) → Begins at text tokens after rest → tokens_of text ≡ read_before tokens (tokens_of rest)
begun at text [] after rest b = ap tokens_of b.1 ∙ sym (read_before-nil (tokens_of rest))
begun at text (t ∷ tokens) after rest b =
    token_step at text t b.0 b.1 b.2
    ∙ ap (option_map (λ marks. t.mark ∷ marks)) (begun (t.at + length b.0) b.1 tokens after rest b.3)
    ∙ sym (read_before-cons t tokens (tokens_of rest))

front_of : (found : List Token) (end : Token) → take (length (found ++ end ∷ []) - 1) (found ++ end ∷ []) ≡ found
front_of found end =
    let e : length (found ++ end ∷ []) - 1 ≡ length found = omega (arith, length-append found (end ∷ [])) in
    ap (λ n. take n (found ++ end ∷ [])) e ∙ take-append_seam found (end ∷ [])

pub list : (text : List ℕ) (tokens : List Token) → IsTokens text tokens → tokens_of text ≡ Some (marks_before_end tokens)
unfolding read_before
list text tokens i =
    let marks = λ (found : List Token). map (λ (t : Token). t.mark) found in
    begun 0 text i.found i.after i.rest i.begins
    ∙ ap (read_before i.found) (tokens_behind i.rest [] (behind_last i.rest i.blank))
    ∙ ap Some (append-nil (marks i.found))
    ∙ ap (λ found. Some (marks found)) (sym (front_of i.found (end_of text)))
    ∙ ap (λ found. Some (marks_before_end found)) (sym i.ended)

step_none : (here : List ℕ) (o : Option (Mark × List ℕ)) → is_in_token here ≡ true → ((m : Mark) (word behind : List ℕ) → IsMarkAt here m word behind → ⊥) → first_mark here ≡ o → marks_step here tokens_of ≡ None
step_none [] o h none e = absurd (cc)
step_none (b ∷ here) None h none e = ap (λ o. mark_then o tokens_of) e
step_none (b ∷ here) (Some p) h none e = let f = first_sound b here p e in absurd (none p.0 f.word p.1 f.is)

pub no_list : (text : List ℕ) (place : ℕ) → NoTokenAt text place → tokens_of text ≡ None
unfolding read_before
no_list text place n =
    begun 0 text n.found n.after n.rest n.begins
    ∙ ap (read_before n.found) (tokens_behind n.rest n.here (behind_some n.gap n.rest n.here n.whole n.separators n.in_token) ∙ step_none n.here _ n.in_token n.none refl)

-- a text has a list of tokens, or a first place where none begins
Answered : List ℕ → Type 0
Answered text = ((tokens : List Token) × IsTokens text tokens) ⊎ ((place : ℕ) × NoTokenAt text place)

answered_by : (n : ℕ) (text : List ℕ) (found : Listed Token) (rest : List ℕ) (o : Option (Mark × List ℕ)) → first_mark rest ≡ o → 0 < length rest → length rest ≤ n → Reads text found rest
    → ((found : Listed Token) (rest : List ℕ) → length rest < n → Reads text found rest → Answered text) → Answered text
unfolding Answered
answered_by n text found rest None e some h r next = inr (length text - length rest, reads_none text found rest (length text - length rest) r some refl e)
answered_by n text found rest (Some p) e some h r next =
    let less = left_shorter rest p (behind_gap false p.1) some e refl in
    next (record { items = found.items ++ (record { at = length text - length rest; mark = p.0 }) ∷ []; spare = found.spare - 1 }) (behind_gap false p.1) (omega arith)
    (reads_more text found _ rest (length text - length rest) p (behind_gap false p.1) r some refl e refl refl)

answered_within : (n : ℕ) (text : List ℕ) (found : Listed Token) (rest : List ℕ) → length rest ≤ n → Reads text found rest → Answered text
unfolding Answered
answered_within n text found [] h r = inl (found.items ++ end_of text ∷ [], reads_all text found (record { items = found.items ++ end_of text ∷ []; spare = found.spare - 1 }) [] r refl refl)
answered_within zero text found (b ∷ rest) h r = absurd (omega arith)
answered_within (suc n) text found (b ∷ rest) h r = answered_by (suc n) text found (b ∷ rest) _ refl (omega arith) h r (λ more left k s. answered_within n text more left (omega arith) s)

answered : (text : List ℕ) → Answered text
answered text = answered_within (length (behind_gap false text)) text (plain []) (behind_gap false text) (omega arith)
    (record { after = 0; behind = text; begins = (refl, refl); place = omega arith; skipped = refl; unreserved = refl })

tokens_by : (text : List ℕ) (marks : List Mark) → Answered text → tokens_of text ≡ Some marks → (tokens : List Token) × IsTokens text tokens × (marks_before_end tokens ≡ marks)
unfolding Answered
tokens_by text marks (inl a) e = (a.0, a.1, some_same _ _ (sym (list text a.0 a.1) ∙ e))
tokens_by text marks (inr a) e = let k = no_list text a.0 a.1 in absurd (cc)

pub tokens : (text : List ℕ) (marks : List Mark) → tokens_of text ≡ Some marks → (tokens : List Token) × IsTokens text tokens × (marks_before_end tokens ≡ marks)
tokens text marks e = tokens_by text marks (answered text) e

place_by : (text : List ℕ) → Answered text → tokens_of text ≡ None → (place : ℕ) × NoTokenAt text place
unfolding Answered
place_by text (inl a) e = let k = list text a.0 a.1 in absurd (cc)
place_by text (inr a) e = a

pub place : (text : List ℕ) → tokens_of text ≡ None → (place : ℕ) × NoTokenAt text place
place text e = place_by text (answered text) e

-- a text has no marks exactly where it is all separators
none_of : (m : Mark) (o : Option (List Mark)) → option_map (λ marks. m ∷ marks) o ≡ Some [] → ⊥
none_of m None e = absurd (cc)
none_of m (Some marks) e = absurd (cc)

none_by : (o : Option (Mark × List ℕ)) (f : List ℕ → Option (List Mark)) → mark_then o f ≡ Some [] → ⊥
none_by None f e = absurd (cc)
none_by (Some p) f e = none_of p.0 (f p.1) e

blank_by : (b : Bool) (here : List ℕ) → b ≡ (length here == 0) → IsTrue b ↔ (marks_step here tokens_of ≡ Some [])
blank_by b [] e = (λ _. refl, λ _. e)
blank_by b (x ∷ here) e = (λ t. let q = eqb-true (length (x ∷ here)) 0 (sym e ∙ t) in absurd (omega arith), λ k. absurd (none_by (first_mark (x ∷ here)) tokens_of k))

pub blank_is : (text rest : List ℕ) (b : Bool) → rest ≡ behind_gap false text → b ≡ (length rest == 0) → IsTrue b ↔ (tokens_of text ≡ Some [])
blank_is text rest b e k =
    let P : Option (List Mark) → Type 0 = λ o. IsTrue b ↔ (o ≡ Some []) in
    subst P (sym (tokens_behind text rest (sym e))) (blank_by b rest k)
