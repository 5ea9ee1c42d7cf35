use Rattle.std.proofs.Common.{sym, ap, ◌∙◌}
use Rattle.re_types.specs.Parts.{word_kind}
use Rattle.re_types.proofs.Acts.{with_word, literal_word, without_word, without_kind}
use Rattle.re_types.proofs.parts.takes.Goals as goal

pub returns-in-Some-Some : goal.returns-in-Some-Some
returns-in-Some-Some c = λ symbols literal.
    let w = sym c.word_of.ensures ∙ c.in-Some-Some.is-1 in
    let k = ap word_kind (sym c.layout.ensures) ∙ sym c.word_kind.ensures ∙ c.in-Some-Some.is-0 in
    c.is_of_kind.ensures symbols (literal_word symbols c.args.act.now c.in-Some-Some.word literal w)
    ∙ sym (with_word symbols c.args.kind c.args.act.now c.in-Some-Some.kind c.in-Some-Some.word (sym c.allows.ensures ∙ c.if-not-allows.false) k w)

pub returns-in_default : goal.returns-in_default
returns-in_default c = λ symbols literal.
    sym (without_word symbols c.args.kind c.args.act.now literal (sym c.allows.ensures ∙ c.if-not-allows.false) (sym c.word_of.ensures ∙ c.in_default.is-1))

pub returns-in_default-2 : goal.returns-in_default-2
returns-in_default-2 c = λ symbols literal.
    let k = ap word_kind (sym c.layout.ensures) ∙ sym c.word_kind.ensures ∙ c.in_default.is-0 in
    sym (without_kind symbols c.args.kind c.args.act.now literal (sym c.allows.ensures ∙ c.if-not-allows.false) k)
