use Rattle.std.proofs.Common.{Global, map, ◌∙◌, sym}
use Rattle.std.specs.String.{string_bytes}
use Rattle.re_tool.proofs.CommandLines.{option_refused, tested_as}
use Rattle.re_tool.proofs.words.read_words.Goals as goal

pub returns-then-has_option-clause-refused : goal.returns-then-has_option-clause-refused
returns-then-has_option-clause-refused c = λ e. option_refused (map (string_bytes {Z = Global}) c.args.words.now) (sym (tested_as (string_bytes {Z = Global}) c.args.words.now) ∙ sym c.has_option.ensures ∙ c.if-has_option.true)

pub read_plain-requires : goal.read_plain-requires
read_plain-requires c = record { plain = sym (tested_as (string_bytes {Z = Global}) c.args.words.now) ∙ sym c.has_option.ensures ∙ c.if-has_option.false }
