use Rattle.std.proofs.Common.{◌++◌, ◌∷◌, [], ap, ◌∙◌}
use Rattle.re_terms.specs.Runs.{plain_view}
use Rattle.re_terms.specs.Worlds.{is_set_body}
use Rattle.re_terms.specs.DeviceWorlds.{device_state, Fine}
use Rattle.re_print.specs.AnswerTexts.{answer_text}
use Rattle.re_print.specs.Canonical.{word_text}
use Rattle.re_session.specs.LineAnswers.{line_text}
use Rattle.re_session.proofs.Meanings.{signal_word-meaning}
use Rattle.re_session.proofs.VarWords.{got_text, shown_value}
use Rattle.re_session.proofs.laws.signal_law.Goals as goal

pub returns : goal.returns
returns c = λ p w line device id d kind expr h get up stop at is.
    ap (λ l. line_text p w l Fine) get
    ∙ got_text p w device id up stop
    ∙ ap (λ a. answer_text p a ++ 10 ∷ []) (shown_value p (device_state p w device) id d at (ap is_set_body is))
    ∙ ap (λ word. word_text p word ++ 10 ∷ []) (signal_word-meaning p (device_state p w device).words (plain_view p (device_state p w device)) id d kind expr h at is)
