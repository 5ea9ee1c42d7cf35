-- The marks of a text as one whole list.
-- Read against: `a<=1 # x` has the marks a, `<=` and 1; ` # x` and the empty text have none; `a ! b` has no list.
use Rattle.std.specs.Prelude.{ℕ, zero, suc, ◌-◌, false, List, [], ◌∷◌, length, map, take, Option, None, Some, option_map}
use Rattle.re_terms.specs.declared.token.Mark.{Mark}
use Rattle.re_terms.specs.declared.token.Token.{Token}
use Rattle.re_tokens.specs.Scanning.{behind_gap, first_mark}

-- a text's first mark before those of the text behind it
abbrev pub mark_then : Option (Mark × List ℕ) → (List ℕ → Option (List Mark)) → Option (List Mark)
mark_then None next = None
mark_then (Some p) next = option_map (λ marks. p.0 ∷ marks) (next p.1)

-- the marks of a text that begins with no separator, by what gives those of a shorter text
abbrev pub marks_step : List ℕ → (List ℕ → Option (List Mark)) → Option (List Mark)
marks_step [] next = Some []
marks_step (b ∷ text) next = mark_then (first_mark (b ∷ text)) next

-- the marks of a text of at most n bytes
abbrev pub marks_within : ℕ → List ℕ → Option (List Mark)
marks_within zero text = Some []
marks_within (suc n) text = marks_step (behind_gap false text) (marks_within n)

-- the marks of a text without its end, or None where at some place no token begins
abbrev pub tokens_of : List ℕ → Option (List Mark)
tokens_of text = marks_within (length text) text

-- the marks of a list of tokens without its end
abbrev pub marks_before_end : List Token → List Mark
marks_before_end tokens = map (λ t. t.mark) (take (length tokens - 1) tokens)
