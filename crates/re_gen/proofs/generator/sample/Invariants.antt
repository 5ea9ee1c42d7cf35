-- The lines drawn so far are written, the draws stand behind theirs, and those that send are counted.
use Rattle.std.proofs.Common.{◌≡◌, ◌≤◌}
use Rattle.std.specs.List.{count_by, sum_by}
use Rattle.re_gen.specs.Draws.{state_at}
use Rattle.re_gen.specs.SampleLines.{drawn_by, sample_lines, sends}
use Rattle.re_gen.specs.SampleTexts.{sample_session}
use Rattle.re_gen.proofs.generator.sample.Given as goal

abbrev pub invariant-loop-done : goal.invariant-loop-done
invariant-loop-done l = record {
  text : l.session.items ≡ sample_session l.number l._done;
  state : l.draws.state ≡ state_at l.number (sum_by drawn_by (sample_lines l.number l._done));
  sending : l.sends ≡ count_by sends (sample_lines l.number l._done);
  few : l.sends ≤ l._done;
}
