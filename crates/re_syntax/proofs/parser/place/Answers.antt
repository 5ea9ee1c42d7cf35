use Rattle.std.proofs.Common.{ap}
use Rattle.re_syntax.proofs.Programs.{token_stands}
use Rattle.re_terms.specs.declared.token.Token.{Token}
use Rattle.re_syntax.proofs.parser.place.Goals as goal

pub returns : goal.returns
returns c = (c.index-tokens-i.result, token_stands c.args.tokens.now c.args.i c.index-tokens-i.result c.requires c.index-tokens-i.is, ap (λ (t : Token). t.at) c.index-tokens-i.is)
