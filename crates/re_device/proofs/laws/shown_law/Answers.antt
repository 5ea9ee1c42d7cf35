use Rattle.re_device.proofs.Opening.{shown_packet_is, shown_set_is, shown_word_is}
use Rattle.re_device.proofs.laws.shown_law.Goals as goal

pub returns-clause-word : goal.returns-clause-word
returns-clause-word c = λ p w d id is other. shown_word_is p w d is id other

pub returns-clause-set : goal.returns-clause-set
returns-clause-set c = λ p w d id pairs is set at. shown_set_is p w d is id pairs set at

pub returns-clause-number : goal.returns-clause-number
returns-clause-number c = λ p w d is. is.now.number_is

pub returns-clause-settled_number : goal.returns-clause-settled_number
returns-clause-settled_number c = λ p w d is. is.settled.number_is

pub returns-clause-packet : goal.returns-clause-packet
returns-clause-packet c = λ p w d is. shown_packet_is p w d is

pub returns-clause-stop : goal.returns-clause-stop
returns-clause-stop c = λ p w d is. is.stop
