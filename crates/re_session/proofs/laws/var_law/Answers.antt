use Rattle.std.proofs.Common.{◌++◌, ◌∷◌, [], ap, ◌∙◌}
use Rattle.re_print.specs.AnswerTexts.{answer_text}
use Rattle.re_print.specs.Canonical.{word_text}
use Rattle.re_session.proofs.VarWords.{got_text, run_word, shown_value}
use Rattle.re_session.proofs.laws.var_law.Goals as goal
use Rattle.re_session.specs.LineAnswers.{line_text}
use Rattle.re_terms.specs.DeviceWorlds.{Fine, device_state}
use Rattle.re_terms.specs.Runs.{plain_view}
use Rattle.re_terms.specs.Worlds.{is_set_body}

pub returns : goal.returns
returns c = λ p w line device id d kind start region get up stop at is.
    ap (λ l. line_text p w l Fine) get
    ∙ got_text p w device id up stop
    ∙ ap (λ a. answer_text p a ++ 10 ∷ []) (shown_value p (device_state p w device) id d at (ap is_set_body is))
    ∙ ap (λ word. word_text p word ++ 10 ∷ []) (run_word p id d kind start region at is device (w.base device) (w.settled device ++ w.unsettled device) (plain_view p (device_state p w device)))
