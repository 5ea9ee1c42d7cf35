-- One draw, and one line more.
use Rattle.std.proofs.Common.{◌≡◌, ℕ, List, ◌+◌, ◌*◌, ◌%◌, ◌++◌, [], ◌∷◌, refl, sym, ap, subst, ◌∙◌, add-one, append_assoc, codes, arith, cond}
use Rattle.std.specs.List.{flat_map, count_by, sum_by}
use Rattle.std.proofs.lemmas.List.{flat_map_more}
use Rattle.std.proofs.lemmas.List.Sums.{sum_by_push}
use Rattle.re_gen.specs.declared.line.Action.{Action}
use Rattle.re_gen.specs.declared.line.Line.{Line}
use Rattle.re_gen.specs.Draws.{draw, state_at}
use Rattle.re_gen.specs.SampleLines.{action_of, draws_of, drawn_by, line_after, line_at, line_text, sample_lines, sends}
use Rattle.re_gen.specs.SampleTexts.{ended, sample_session}

pub state_at-more : (number taken state : ℕ) → state ≡ state_at number taken → state_at number (taken + 1) ≡ (state * 1103515245 + 12345) % 2147483648
unfolding state_at
state_at-more number taken state is = rw add-one (ap (λ x. (x * 1103515245 + 12345) % 2147483648) (sym is))

-- a line is its letter and its action, each by its draws
pub line_at-parts : (number taken sending letter : ℕ) (action : Action) → letter ≡ draw number (taken + 1) 3 → action ≡ action_of (draw number (taken + 1 + 1) 10) (draw number (taken + 1 + 2)) sending → let line : Line = record { letter = 97 + letter; action = action } in line ≡ line_at number taken sending
line_at-parts number taken sending letter action first others =
    let two : taken + 1 + 1 ≡ taken + 2 = omega arith in
    let three : taken + 1 + 2 ≡ taken + 3 = omega arith in
    let second = subst (λ i. action ≡ action_of (draw number i 10) (draw number (taken + 1 + 2)) sending) two others in
    let third = subst (λ i. action ≡ action_of (draw number (taken + 2) 10) (draw number i) sending) three second in
    cc

pub state_at-line : (number taken : ℕ) (action : Action) → state_at number (taken + 1 + draws_of action) ≡ state_at number (taken + (1 + draws_of action))
state_at-line number taken action = let same : taken + 1 + draws_of action ≡ taken + (1 + draws_of action) = omega arith in ap (state_at number) same

pub sample_lines-more : (number size : ℕ) → sample_lines number (size + 1) ≡ sample_lines number size ++ line_after number (sample_lines number size) ∷ []
unfolding sample_lines
sample_lines-more number size = rw add-one refl

pub sample_session-more : (number size : ℕ) → sample_session number (size + 1) ≡ sample_session number size ++ ended (line_text (line_after number (sample_lines number size)))
sample_session-more number size =
    let f : Line → _ = λ line. ended (line_text line) in
    ap (flat_map f) (sample_lines-more number size) ∙ sym (flat_map_more f [] (sample_lines number size) (line_after number (sample_lines number size)))

pub drawn_by-more : (number size : ℕ) → sum_by drawn_by (sample_lines number (size + 1)) ≡ sum_by drawn_by (sample_lines number size) + drawn_by (line_after number (sample_lines number size))
drawn_by-more number size = ap (sum_by drawn_by) (sample_lines-more number size) ∙ sum_by_push drawn_by (sample_lines number size) (line_after number (sample_lines number size))

pub sends-more : (number size : ℕ) → count_by sends (sample_lines number (size + 1)) ≡ count_by sends (sample_lines number size) + cond (sends (line_after number (sample_lines number size))) 1 0
sends-more number size = ap (count_by sends) (sample_lines-more number size) ∙ sum_by_push (λ line. cond (sends line) 1 0) (sample_lines number size) (line_after number (sample_lines number size))

-- a line more is written, behind those before it
pub session_step : (number size : ℕ) (old new : List ℕ) (line : Line) → old ≡ sample_session number size → line ≡ line_after number (sample_lines number size) → new ≡ (old ++ line_text line) ++ codes "\n" → new ≡ sample_session number (size + 1)
session_step number size old new line old-is line-is new-is =
    let whole : (old ++ line_text line) ++ codes "\n" ≡ old ++ ended (line_text line) = append_assoc old (line_text line) (codes "\n") in
    let parts : old ++ ended (line_text line) ≡ sample_session number size ++ ended (line_text (line_after number (sample_lines number size))) = cc in
    new-is ∙ whole ∙ parts ∙ sym (sample_session-more number size)

-- the line that is drawn, where so many were counted
pub drawn_line : (number size sending : ℕ) (line : Line) → sending ≡ count_by sends (sample_lines number size) → line ≡ line_at number (sum_by drawn_by (sample_lines number size)) sending → line ≡ line_after number (sample_lines number size)
drawn_line number size sending line counted is = subst (λ k. line ≡ line_at number (sum_by drawn_by (sample_lines number size)) k) counted is

pub state_step : (number size state : ℕ) (line : Line) → line ≡ line_after number (sample_lines number size) → state ≡ state_at number (sum_by drawn_by (sample_lines number size) + drawn_by line) → state ≡ state_at number (sum_by drawn_by (sample_lines number (size + 1)))
state_step number size state line line-is is =
    let more : sum_by drawn_by (sample_lines number size) + drawn_by line ≡ sum_by drawn_by (sample_lines number (size + 1)) = ap (λ l. sum_by drawn_by (sample_lines number size) + drawn_by l) line-is ∙ sym (drawn_by-more number size) in
    is ∙ ap (state_at number) more

pub sends_step : (number size old new : ℕ) (line : Line) → old ≡ count_by sends (sample_lines number size) → line ≡ line_after number (sample_lines number size) → new ≡ old + cond (sends line) 1 0 → new ≡ count_by sends (sample_lines number (size + 1))
sends_step number size old new line counted line-is is =
    let more : old + cond (sends line) 1 0 ≡ count_by sends (sample_lines number size) + cond (sends (line_after number (sample_lines number size))) 1 0 = ap (λ l. old + cond (sends l) 1 0) line-is ∙ ap (λ k. k + cond (sends (line_after number (sample_lines number size))) 1 0) counted in
    is ∙ more ∙ sym (sends-more number size)
