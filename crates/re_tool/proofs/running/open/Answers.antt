use Rattle.std.proofs.Common.{◌∙◌, ◌≡◌, ap, subst, Err}
use Rattle.std.specs.Prelude.{Result}
use Rattle.re_outside.specs.Outside.{Seen}
use Rattle.re_tool.specs.declared.status.Status.{Status}
use Rattle.re_tool.specs.declared.words.Job.{Job}
use Rattle.re_tool.specs.Session.{Runs}
use Rattle.re_tool.specs.Verdict.{Decides, Rejected, Accepted}
use Rattle.re_tool.proofs.Endings.{near_finish}
use Rattle.re_tool.proofs.Starting.{near_part_stops, near_part_failed, near_part_too_long, near_part_is, refused_finish}
use Rattle.re_tool.proofs.running.open.Goals as goal

-- the status that the run ended with
ended : {A : Type 0} (j : Job) (a b : Seen) (r s : Status) → ◌≡◌ {A = Result A Status} (Err r) (Err s) → Runs j a b r → Runs j a b s
ended j a b r s e h = let same : r ≡ s = cc in subst (Runs j a b) same h

pub returns-in-Err-Memory-clause-ended : goal.returns-in-Err-Memory-clause-ended
returns-in-Err-Memory-clause-ended g c = λ j s e. ended j _ _ _ s e (near_finish _ _ _ _ _ (near_part_stops _ _ _ (rw c.in-Err-Memory.field-0-is at c.in-Err-Memory.ensures)) _ (λ q. absurd (cc)) c.finish.ensures)

pub returns-in-Err-Input-clause-ended : goal.returns-in-Err-Input-clause-ended
returns-in-Err-Input-clause-ended g c = λ j s e. ended j _ _ _ s e (near_finish _ _ _ _ _ (near_part_failed _ _ _ (rw c.in-Err-Input.field-0-is at c.in-Err-Input.ensures)) _ (λ q. absurd (cc)) c.finish-in-Err-Input.ensures)

pub returns-in-Err-TooLong-clause-ended : goal.returns-in-Err-TooLong-clause-ended
returns-in-Err-TooLong-clause-ended g c = λ j s e. ended j _ _ _ s e (near_finish _ _ _ _ _ (near_part_too_long _ _ _ (rw c.in-Err-TooLong.field-0-is at c.in-Err-TooLong.ensures)) _ (λ q. absurd (cc)) c.finish-in-Err-TooLong.ensures)

pub returns-in-Ok-read_program-clause-opened : goal.returns-in-Ok-read_program-clause-opened
returns-in-Ok-read_program-clause-opened g c = record {
  text = _;
  part = c.in-Ok.ensures;
  verdict = subst (λ t. Decides t (Accepted c.in-Ok-read_program.program)) c.bytes.ensures c.in-Ok-read_program.ensures.accepted;
}

pub returns-in-Err-Memory-read_program-clause-ended : goal.returns-in-Err-Memory-read_program-clause-ended
returns-in-Err-Memory-read_program-clause-ended g c = λ j s e. ended j _ _ _ s e (near_finish _ _ _ _ _ (near_part_is _ _ _ _ _ _ c.in-Ok.ensures) _ (λ q. absurd (cc)) c.finish-in-Err-Memory-read_program.ensures)

pub returns-clause-ended : goal.returns-clause-ended
returns-clause-ended g c = λ j s e. ended j _ _ _ s e
    (refused_finish _ _ _ _ _ _ _ _ c.in-Ok.ensures c.in-Err-Refused.why (subst (λ t. Decides t (Rejected c.in-Err-Refused.why)) c.bytes.ensures (c.read_program.ensures.refused c.in-Err-Refused.why (c.in-Err-Refused.is ∙ ap (λ x. Err x) c.in-Err-Refused.field-0-is))) c.refuse.ensures)
