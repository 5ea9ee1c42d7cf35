-- Separators, and the text behind them.
use Rattle.std.proofs.Common.{ℕ, ◌≡◌, ◌==◌, ◌⊎◌, inl, inr, ◌&&◌, Bool, true, false, cond, not, List, [], ◌∷◌, ◌++◌, refl, sym, ap, ◌∙◌, append_assoc, ◌≤◌, ◌+◌, length, length-append, arith}
use Rattle.std.specs.List.{list_all, list_any}
use Rattle.std.proofs.lemmas.Bool.{and_parts, and_from, or_parts, or_from, not-true, not_from_false, cond-true, cond-false, eqb-true, ne_eqb, true≢false}
use Rattle.re_tokens.specs.TokenGrammar.{Separator, Blank, Comment, is_blank, is_one_line, is_separator, gap_bytes, is_last_comment, IsLastGap, is_in_token}
use Rattle.re_tokens.specs.Scanning.{behind_gap}

-- a blank begins no comment
blank_no_comment : (b : ℕ) → is_blank b ≡ true → (b == 35) ≡ false
blank_no_comment b h = ne_eqb b 35 (λ e. let k = ap is_blank e in absurd (cc))

-- behind a comment
behind_comment : (bytes rest : List ℕ) → is_one_line bytes ≡ true → behind_gap true (bytes ++ 10 ∷ rest) ≡ behind_gap false rest
behind_comment [] rest h = refl
behind_comment (b ∷ bytes) rest h =
    let p = or_parts (b == 10) (list_any (λ k. k == 10) bytes) (not-true _ h) in
    ap (λ c. behind_gap (not c) (bytes ++ 10 ∷ rest)) p.0 ∙ behind_comment bytes rest (not_from_false _ p.1)

-- a comment that the text ends has nothing behind it
behind_line : (bytes : List ℕ) → is_one_line bytes ≡ true → behind_gap true bytes ≡ []
behind_line [] h = refl
behind_line (b ∷ bytes) h =
    let p = or_parts (b == 10) (list_any (λ k. k == 10) bytes) (not-true _ h) in
    ap (λ c. behind_gap (not c) bytes) p.0 ∙ behind_line bytes (not_from_false _ p.1)

comment_first : (bytes gap rest : List ℕ) → ((bytes ++ 10 ∷ []) ++ gap) ++ rest ≡ bytes ++ 10 ∷ (gap ++ rest)
comment_first bytes gap rest = append_assoc (bytes ++ 10 ∷ []) gap rest ∙ append_assoc bytes (10 ∷ []) (gap ++ rest)

-- behind separators
pub behind_separators : (gap : List Separator) (rest : List ℕ) → list_all is_separator gap ≡ true → behind_gap false (gap_bytes gap ++ rest) ≡ behind_gap false rest
behind_separators [] rest h = refl
behind_separators (Blank b ∷ gap) rest h =
    let p = and_parts (is_blank b) (list_all is_separator gap) h in
    cond-false _ _ _ (blank_no_comment b p.0) ∙ cond-true _ _ _ p.0 ∙ behind_separators gap rest p.1
behind_separators (Comment bytes ∷ gap) rest h =
    let p = and_parts (is_one_line bytes) (list_all is_separator gap) h in
    ap (behind_gap true) (comment_first bytes (gap_bytes gap) rest) ∙ behind_comment bytes (gap_bytes gap ++ rest) p.0 ∙ behind_separators gap rest p.1

-- a token's text is behind no separator
pub behind_none : (text : List ℕ) → is_in_token text ≡ true → behind_gap false text ≡ text
behind_none [] h = refl
behind_none (b ∷ text) h =
    let p = or_parts (is_blank b) (b == 35) (not-true _ h) in
    cond-false _ _ _ p.1 ∙ cond-false _ _ _ p.0

pub behind_some : (gap : List Separator) (text here : List ℕ) → text ≡ gap_bytes gap ++ here → list_all is_separator gap ≡ true → is_in_token here ≡ true → behind_gap false text ≡ here
behind_some gap text here whole separators in_token = ap (behind_gap false) whole ∙ behind_separators gap here separators ∙ behind_none here in_token

behind_last_comment : (comment : List ℕ) → is_last_comment comment ≡ true → behind_gap false comment ≡ []
behind_last_comment [] h = refl
behind_last_comment (b ∷ bytes) h = let p = and_parts (b == 35) (is_one_line bytes) h in cond-true _ _ _ p.0 ∙ behind_line bytes p.1

-- behind the last gap stands nothing
pub behind_last : (text : List ℕ) → IsLastGap text → behind_gap false text ≡ []
behind_last text g = ap (behind_gap false) g.whole ∙ behind_separators g.gap g.comment g.separators ∙ behind_last_comment g.comment g.last

-- what stands behind separators is this text, or a comment that the text ends
Left : List ℕ → List ℕ → Type 0
Left here rest = ((here ≡ rest) × (is_in_token here ≡ true)) ⊎ ((rest ≡ []) × (is_last_comment here ≡ true))

record Split (text rest : List ℕ) : Type 0 where
  gap : List Separator
  here : List ℕ
  whole : text ≡ gap_bytes gap ++ here
  separators : list_all is_separator gap ≡ true
  left : Left here rest

-- from inside a comment: its end, and what is split behind it
record Ended (text rest : List ℕ) : Type 0 where
  line : List ℕ
  behind : List ℕ
  whole : text ≡ line ++ 10 ∷ behind
  one_line : is_one_line line ≡ true
  split : Split behind rest

SplitBy : Bool → List ℕ → List ℕ → Type 0
SplitBy false text rest = Split text rest
SplitBy true text rest = ((is_one_line text ≡ true) × (rest ≡ [])) ⊎ Ended text rest

-- one byte before a split text
after_line_end : (b : ℕ) (text rest : List ℕ) → b ≡ 10 → Split text rest → SplitBy true (b ∷ text) rest
unfolding SplitBy
after_line_end b text rest e s = inr (record { line = []; behind = text; whole = ap (λ k. k ∷ text) e; one_line = refl; split = s })

in_line : (b : ℕ) (text rest : List ℕ) → (b == 10) ≡ false → SplitBy true text rest → SplitBy true (b ∷ text) rest
unfolding SplitBy
in_line b text rest e (inl p) = inl (not_from_false _ (or_from (b == 10) (list_any (λ k. k == 10) text) e (not-true _ p.0)), p.1)
in_line b text rest e (inr s) = inr (record { line = b ∷ s.line; behind = s.behind; whole = ap (λ t. b ∷ t) s.whole; one_line = not_from_false _ (or_from (b == 10) (list_any (λ k. k == 10) s.line) e (not-true _ s.one_line)); split = s.split })

in_comment : (c : Bool) (b : ℕ) (text rest : List ℕ) → (b == 10) ≡ c → SplitBy (not c) text rest → SplitBy true (b ∷ text) rest
unfolding SplitBy
in_comment true b text rest e s = after_line_end b text rest (eqb-true b 10 e) s
in_comment false b text rest e s = in_line b text rest e s

comment_then : (bytes behind : List ℕ) (gap here : List ℕ) → behind ≡ gap ++ here → 35 ∷ bytes ++ 10 ∷ behind ≡ ((35 ∷ bytes ++ 10 ∷ []) ++ gap) ++ here
comment_then bytes behind gap here e = ap (λ t. 35 ∷ bytes ++ 10 ∷ t) e ∙ sym (ap (λ t. 35 ∷ t) (comment_first bytes gap here))

opens : (b : ℕ) (text rest : List ℕ) → b ≡ 35 → SplitBy true text rest → Split (b ∷ text) rest
unfolding SplitBy Left
opens b text rest e (inl p) = record { gap = []; here = b ∷ text; whole = refl; separators = refl; left = inr (p.1, ap (λ k. (k == 35) && is_one_line text) e ∙ p.0) }
opens b text rest e (inr s) = record {
  gap = Comment s.line ∷ s.split.gap;
  here = s.split.here;
  whole = ap (λ k. k ∷ text) e ∙ ap (λ t. 35 ∷ t) s.whole ∙ comment_then s.line s.behind (gap_bytes s.split.gap) s.split.here s.split.whole;
  separators = and_from _ _ s.one_line s.split.separators;
  left = s.split.left;
}

blank_first : (b : ℕ) (text rest : List ℕ) → is_blank b ≡ true → Split text rest → Split (b ∷ text) rest
blank_first b text rest e s = record { gap = Blank b ∷ s.gap; here = s.here; whole = ap (λ t. b ∷ t) s.whole; separators = and_from _ _ e s.separators; left = s.left }

by_byte : (c d : Bool) (b : ℕ) (text x y : List ℕ) → (b == 35) ≡ c → is_blank b ≡ d → SplitBy true text x → Split text y → Split (b ∷ text) (cond c x (cond d y (b ∷ text)))
unfolding Left
by_byte true d b text x y e f s t = opens b text x (eqb-true b 35 e) s
by_byte false true b text x y e f s t = blank_first b text y f t
by_byte false false b text x y e f s t = record { gap = []; here = b ∷ text; whole = refl; separators = refl; left = inl (refl, not_from_false _ (or_from (is_blank b) (b == 35) f e)) }

splits : (c : Bool) (text : List ℕ) → SplitBy c text (behind_gap c text)
unfolding SplitBy Left
splits false [] = record { gap = []; here = []; whole = refl; separators = refl; left = inr (refl, refl) }
splits true [] = inl (refl, refl)
splits true (b ∷ text) = in_comment (b == 10) b text _ refl (splits (not (b == 10)) text)
splits false (b ∷ text) = by_byte (b == 35) (is_blank b) b text _ _ refl refl (splits true text) (splits false text)

-- separators, and what begins a token behind them
pub record Behind (text rest : List ℕ) : Type 0 where
  pub gap : List Separator
  pub whole : text ≡ gap_bytes gap ++ rest
  pub separators : list_all is_separator gap ≡ true
  pub in_token : is_in_token rest ≡ true

some_left : (text : List ℕ) (b : ℕ) (more rest : List ℕ) (gap : List Separator) (here : List ℕ) → text ≡ gap_bytes gap ++ here → list_all is_separator gap ≡ true → Left here rest → rest ≡ b ∷ more → Behind text (b ∷ more)
unfolding Left
some_left text b more rest gap here whole separators (inl p) e = let q = p.0 ∙ e in record { gap = gap; whole = whole ∙ ap (λ t. gap_bytes gap ++ t) q; separators = separators; in_token = sym (ap is_in_token q) ∙ p.1 }
some_left text b more rest gap here whole separators (inr p) e = let q = sym p.0 ∙ e in absurd (cc)

none_left : (text rest : List ℕ) (gap : List Separator) (here : List ℕ) → text ≡ gap_bytes gap ++ here → list_all is_separator gap ≡ true → Left here rest → rest ≡ [] → IsLastGap text
unfolding Left
none_left text rest gap here whole separators (inl p) e = let q = ap is_in_token (p.0 ∙ e) in absurd (true≢false (sym p.1 ∙ q))
none_left text rest gap here whole separators (inr p) e = record { gap = gap; comment = here; whole = whole; separators = separators; last = p.1 }

pub split_some : (text : List ℕ) (b : ℕ) (more : List ℕ) → behind_gap false text ≡ b ∷ more → Behind text (b ∷ more)
unfolding SplitBy
split_some text b more e = let s = splits false text in some_left text b more _ s.gap s.here s.whole s.separators s.left e

pub split_none : (text : List ℕ) → behind_gap false text ≡ [] → IsLastGap text
unfolding SplitBy
split_none text e = let s = splits false text in none_left text _ s.gap s.here s.whole s.separators s.left e

le_by : (text : List ℕ) (gap : List Separator) (here rest : List ℕ) → text ≡ gap_bytes gap ++ here → Left here rest → length rest ≤ length text
unfolding Left
le_by text gap here rest whole (inl p) =
    let n : length text ≡ length (gap_bytes gap) + length here = ap length whole ∙ length-append (gap_bytes gap) here in
    let e = ap length p.0 in
    omega arith
le_by text gap here rest whole (inr p) = let e = ap length p.0 in omega arith

pub behind_gap-le : (text : List ℕ) → length (behind_gap false text) ≤ length text
unfolding SplitBy
behind_gap-le text = let s = splits false text in le_by text s.gap s.here _ s.whole s.left
