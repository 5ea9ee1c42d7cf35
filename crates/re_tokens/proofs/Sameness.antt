-- A text is read in one way.
use Rattle.std.proofs.Common.{ℕ, ◌≡◌, ◌+◌, true, false, List, [], ◌∷◌, ◌++◌, length, refl, sym, ap, subst, ◌∙◌, arith, length-append}
use Rattle.std.proofs.lemmas.Bool.{true≢false}
use Rattle.re_terms.specs.declared.token.Mark.{Mark}
use Rattle.re_terms.specs.declared.token.Token.{Token}
use Rattle.re_tokens.specs.TokenGrammar.{gap_bytes, is_in_token, IsMarkAt, IsTokenAt, Begins, end_of, IsTokens, NoTokenAt, IsLastGap}
use Rattle.re_tokens.specs.Scanning.{behind_gap}
use Rattle.re_tokens.proofs.Gaps.{behind_some, behind_last}
use Rattle.re_tokens.proofs.Marks.{some_same, first_complete, mark_in_token}

-- the text behind the gap before a token
here_is : (at : ℕ) (text : List ℕ) (t : Token) (word behind : List ℕ) (i : IsTokenAt at text t word behind) → behind_gap false text ≡ i.here
here_is at text t word behind i = behind_some i.gap text i.here i.whole i.separators (mark_in_token i.here t.mark word behind i.begins)

-- the same marks, and the same text behind them
record Same (at : ℕ) (t : Token) (word behind : List ℕ) (u : Token) (other past : List ℕ) : Type 0 where
  same_token : t ≡ u
  same_length : length word ≡ length other
  same_behind : behind ≡ past

place_is : (at : ℕ) (text : List ℕ) (t : Token) (word behind : List ℕ) (i : IsTokenAt at text t word behind) → t.at + length i.here ≡ at + length text
place_is at text t word behind i =
    let whole : length text ≡ length (gap_bytes i.gap) + length i.here = ap length i.whole ∙ length-append (gap_bytes i.gap) i.here in
    let place = i.place in
    omega arith

same_mark : (here : List ℕ) (m : Mark) (word behind : List ℕ) (n : Mark) (other past : List ℕ) → IsMarkAt here m word behind → IsMarkAt here n other past → ◌≡◌ {A = Mark × List ℕ} (m, behind) (n, past)
same_mark here m word behind n other past i j = some_same _ _ (sym (first_complete here m word behind i) ∙ first_complete here n other past j)

token_is : (t u : Token) → t.at ≡ u.at → t.mark ≡ u.mark → t ≡ u
token_is t u a m = ap (λ k. record { at = k; mark = t.mark }) a ∙ ap (λ k. record { at = u.at; mark = k }) m

same_token : (at : ℕ) (text : List ℕ) (t : Token) (word behind : List ℕ) (u : Token) (other past : List ℕ) → IsTokenAt at text t word behind → IsTokenAt at text u other past → Same at t word behind u other past
same_token at text t word behind u other past i j =
    let here : i.here ≡ j.here = sym (here_is at text t word behind i) ∙ here_is at text u other past j in
    let k = same_mark j.here t.mark word behind u.mark other past (subst (λ h. IsMarkAt h t.mark word behind) here i.begins) j.begins in
    let e : t.mark ≡ u.mark = ap (λ p. p.0) k in
    let b : behind ≡ past = ap (λ p. p.1) k in
    let p = place_is at text t word behind i in
    let q = place_is at text u other past j in
    let n = ap length here in
    let a : t.at ≡ u.at = omega arith in
    let first : length i.here ≡ length word + length behind = ap length i.begins.whole ∙ length-append word behind in
    let second : length j.here ≡ length other + length past = ap length j.begins.whole ∙ length-append other past in
    let c = ap length b in
    record {
      same_token = token_is t u a e;
      same_length = omega arith;
      same_behind = b;
    }

-- no token stands in front of this text, from this place on
Stops : (ℕ → List ℕ → Type 0) → Type 0
Stops P = (at : ℕ) (text : List ℕ) (t : Token) (word behind : List ℕ) → P at text → IsTokenAt at text t word behind → ⊥

-- two readings that go on until they stop have the same tokens, and leave the same text
record SameReading (tokens others : List Token) (after beyond : ℕ) (rest left : List ℕ) : Type 0 where
  same_tokens : tokens ≡ others
  same_place : after ≡ beyond
  same_rest : rest ≡ left

here_stopped : (P : ℕ → List ℕ → Type 0) (at : ℕ) (text : List ℕ) (after : ℕ) (rest : List ℕ) → at ≡ after → text ≡ rest → P after rest → P at text
here_stopped P at text after rest e f p = subst (λ n. P n text) (sym e) (subst (λ s. P after s) (sym f) p)

same_reading : (P Q : ℕ → List ℕ → Type 0) (stop : Stops P) (halt : Stops Q) (tokens others : List Token) (at : ℕ) (text : List ℕ) (after beyond : ℕ) (rest left : List ℕ)
    → Begins at text tokens after rest → P after rest → Begins at text others beyond left → Q beyond left → SameReading tokens others after beyond rest left
unfolding Stops
same_reading P Q stop halt [] [] at text after beyond rest left b p c q = record { same_tokens = refl; same_place = sym b.0 ∙ c.0; same_rest = sym b.1 ∙ c.1 }
same_reading P Q stop halt [] (u ∷ others) at text after beyond rest left b p c q = absurd (stop at text u c.0 c.1 (here_stopped P at text after rest b.0 b.1 p) c.2)
same_reading P Q stop halt (t ∷ tokens) [] at text after beyond rest left b p c q = absurd (halt at text t b.0 b.1 (here_stopped Q at text beyond left c.0 c.1 q) b.2)
same_reading P Q stop halt (t ∷ tokens) (u ∷ others) at text after beyond rest left b p c q =
    let s = same_token at text t b.0 b.1 u c.0 c.1 b.2 c.2 in
    let words = s.same_length in
    let place = ap (λ k. k.at) s.same_token in
    let n : u.at + length c.0 ≡ t.at + length b.0 = omega arith in
    let c' = subst (λ k. Begins k b.1 others beyond left) n (subst (λ k. Begins (u.at + length c.0) k others beyond left) (sym s.same_behind) c.3) in
    let r = same_reading P Q stop halt tokens others (t.at + length b.0) b.1 after beyond rest left b.3 p c' q in
    record { same_tokens = ap (λ k. k ∷ tokens) s.same_token ∙ ap (λ k. u ∷ k) r.same_tokens; same_place = r.same_place; same_rest = r.same_rest }

-- a blank rest
Blank : ℕ → List ℕ → Type 0
Blank at rest = IsLastGap rest

blank_stops : Stops Blank
unfolding Stops Blank
blank_stops at text t word behind g i =
    let e : i.here ≡ [] = sym (here_is at text t word behind i) ∙ behind_last text g in
    let k = mark_in_token i.here t.mark word behind i.begins in
    absurd (true≢false (sym k ∙ ap is_in_token e))

-- a rest where no token begins behind the gap
record Stuck (place at : ℕ) (rest : List ℕ) : Type 0 where
  here : List ℕ
  is_here : behind_gap false rest ≡ here
  is_place : place + length here ≡ at + length rest
  in_token : is_in_token here ≡ true
  none : (m : Mark) (word behind : List ℕ) → IsMarkAt here m word behind → ⊥

stuck_stops : (place : ℕ) → Stops (Stuck place)
unfolding Stops
stuck_stops place at text t word behind s i =
    let e : i.here ≡ s.here = sym (here_is at text t word behind i) ∙ s.is_here in
    s.none t.mark word behind (subst (λ h. IsMarkAt h t.mark word behind) e i.begins)

stuck_of : (text : List ℕ) (place : ℕ) (n : NoTokenAt text place) → Stuck place n.after n.rest
stuck_of text place n =
    let whole : length n.rest ≡ length (gap_bytes n.gap) + length n.here = ap length n.whole ∙ length-append (gap_bytes n.gap) n.here in
    let at = n.place in
    record { here = n.here; is_here = behind_some n.gap n.rest n.here n.whole n.separators n.in_token; is_place = omega arith; in_token = n.in_token; none = n.none }

pub one_list : (text : List ℕ) (tokens others : List Token) → IsTokens text tokens → IsTokens text others → tokens ≡ others
unfolding Blank
one_list text tokens others i j =
    let r = same_reading Blank Blank blank_stops blank_stops i.found j.found 0 text i.after j.after i.rest j.rest i.begins i.blank j.begins j.blank in
    i.ended ∙ ap (λ k. k ++ end_of text ∷ []) r.same_tokens ∙ sym j.ended

pub one_place : (text : List ℕ) (place other : ℕ) → NoTokenAt text place → NoTokenAt text other → place ≡ other
one_place text place other i j =
    let s = stuck_of text place i in
    let t = stuck_of text other j in
    let r = same_reading (Stuck place) (Stuck other) (stuck_stops place) (stuck_stops other) i.found j.found 0 text i.after j.after i.rest j.rest i.begins s j.begins t in
    let here : s.here ≡ t.here = sym s.is_here ∙ ap (behind_gap false) r.same_rest ∙ t.is_here in
    let n = ap length here in
    let p = s.is_place in
    let q = t.is_place in
    let a = r.same_place in
    let l = ap length r.same_rest in
    omega arith

pub never_both : (text : List ℕ) (tokens : List Token) (place : ℕ) → IsTokens text tokens → NoTokenAt text place → ⊥
unfolding Blank
never_both text tokens place i j =
    let s = stuck_of text place j in
    let r = same_reading Blank (Stuck place) blank_stops (stuck_stops place) i.found j.found 0 text i.after j.after i.rest j.rest i.begins i.blank j.begins s in
    let e : s.here ≡ [] = sym s.is_here ∙ ap (behind_gap false) (sym r.same_rest) ∙ behind_last i.rest i.blank in
    absurd (true≢false (sym s.in_token ∙ ap is_in_token e))
