-- Marks that stand one behind the other.
use Rattle.std.proofs.Common.{ℕ, ◌≡◌, ◌+◌, List, [], ◌∷◌, ◌++◌, length, refl, ap, subst, append_assoc, length-append}
use Rattle.std.proofs.lemmas.List.{get_or_at, append-nil}
use Rattle.re_terms.specs.declared.token.Mark.{Mark}
use Rattle.re_terms.specs.declared.token.Mark.TheVariants as mark
use Rattle.re_syntax.specs.Grammar.{mark_at}

-- these marks stand from place i to n
abbrev pub Stand : (ℕ → Mark) → ℕ → List Mark → ℕ → Type 0
Stand at i [] n = n ≡ i
Stand at i (m ∷ ms) n = (at i ≡ m) × Stand at (i + 1) ms n

-- some of them, and then others
pub record Apart (at : ℕ → Mark) (i : ℕ) (ms others : List Mark) (n : ℕ) : Type 0 where
  pub middle : ℕ
  pub first : Stand at i ms middle
  pub second : Stand at middle others n

pub apart : (at : ℕ → Mark) (i : ℕ) (ms others : List Mark) (n : ℕ) → Stand at i (ms ++ others) n → Apart at i ms others n
apart at i [] others n s = record { middle = i; first = refl; second = s }
apart at i (m ∷ ms) others n s = let t = apart at (i + 1) ms others n s.1 in record { middle = t.middle; first = (s.0, t.first); second = t.second }

-- a mark at a place that is the same
pub at_as : (at : ℕ → Mark) (i j : ℕ) (m : Mark) → at i ≡ m → i ≡ j → at j ≡ m
at_as at i j m h e = subst (λ k. at k ≡ m) e h

stand_behind : (front marks : List Mark) → Stand (mark_at (front ++ marks)) (length front) marks (length (front ++ marks))
stand_behind front [] = ap length (append-nil front)
stand_behind front (m ∷ marks) =
    let same : (front ++ m ∷ []) ++ marks ≡ front ++ m ∷ marks = append_assoc front (m ∷ []) marks in
    let more : length (front ++ m ∷ []) ≡ length front + 1 = length-append front (m ∷ []) in
    let rest = stand_behind (front ++ m ∷ []) marks in (
      get_or_at front m marks mark.End (length front) refl,
      subst (λ k. Stand (mark_at (front ++ m ∷ marks)) k marks (length (front ++ m ∷ marks))) more
          (subst (λ ms. Stand (mark_at ms) (length (front ++ m ∷ [])) marks (length ms)) same rest),
    )

pub stand_all : (marks : List Mark) → Stand (mark_at marks) 0 marks (length marks)
stand_all marks = stand_behind [] marks
