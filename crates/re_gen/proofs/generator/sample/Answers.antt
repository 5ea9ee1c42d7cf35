use Rattle.std.proofs.Common.{◌≡◌, true, false, ◌+◌, ◌++◌, [], ◌∷◌, refl, arith, ap, ◌∙◌, cond, add-zero}
use Rattle.std.specs.List.{sum_by}
use Rattle.re_gen.specs.declared.line.Line.{Line}
use Rattle.re_gen.specs.SampleLines.{drawn_by, line_after, line_text, sample_lines, sends}
use Rattle.re_gen.proofs.Drawing.{drawn_line, session_step, state_step, sends_step}
use Rattle.re_gen.proofs.generator.sample.Goals as goal
use Rattle.re_gen.proofs.generator.sample.Goals.{then-sends, else-sends}

pub loop-done-init : goal.loop-done-init
unfolding sample_lines
loop-done-init c = record { text = c.new-session.ensures.items; state = c.new-draws.ensures; sending = refl; few = omega arith }

pub loop-done-preserved : goal.loop-done-preserved
loop-done-preserved c =
    let number = c.args.number in
    let size = c.loop-done._done in
    let line : Line = c.draw_line-line.result in
    let drawn : line ≡ line_after number (sample_lines number size) =
    drawn_line number size c.loop-done.sends line c.loop-done.invariant.sending
    (c.draw_line-line.ensures.drawn number (sum_by drawn_by (sample_lines number size)) c.loop-done.invariant.state) in
    let counted : c.if-sends.sends ≡ c.loop-done.sends + cond (sends line) 1 0 =
    elim c.if-sends.branch [
      | then-sends w ↦ let does : sends line ≡ true = cc in rw does w.sends-is
      | else-sends w ↦ let does : sends line ≡ false = cc in rw (does, add-zero) w.sends-is
    ] in
    let written : c.push.new.self.items ≡ (c.loop-done.session.items ++ line_text line) ++ 10 ∷ [] =
    c.in_ok-push.ensures.items ∙ ap (λ text. text ++ 10 ∷ []) c.in_ok-write_line.ensures in
    record {
      text = session_step number size _ _ line c.loop-done.invariant.text drawn written;
      state = state_step number size _ line drawn
          (c.draw_line-line.ensures.state number (sum_by drawn_by (sample_lines number size)) c.loop-done.invariant.state);
      sending = sends_step number size _ _ line c.loop-done.invariant.sending drawn counted;
      few = elim c.if-sends.branch [ then-sends w ↦ omega arith | else-sends w ↦ omega arith ];
    }
