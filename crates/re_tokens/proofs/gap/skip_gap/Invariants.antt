use Rattle.std.proofs.Common.{◌≡◌, false, drop}
use Rattle.re_tokens.specs.Scanning.{behind_gap}
use Rattle.re_tokens.proofs.gap.skip_gap.Given as goal

abbrev pub invariant-loop-place : goal.invariant-loop-place
invariant-loop-place l = behind_gap l.in_comment (drop l.place l.text) ≡ behind_gap false l.text
