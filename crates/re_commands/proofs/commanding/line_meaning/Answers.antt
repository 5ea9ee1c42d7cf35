use Rattle.std.proofs.Common.{rules, ◌≡◌, [], Some, arith}
use Rattle.re_tokens.specs.WholeLists.{tokens_of}
use Rattle.re_commands.proofs.Commanded.{HasTokens, ok_meant, err_meant, place_fault}
use Rattle.re_commands.proofs.commanding.line_meaning.Goals as goal

pub returns-in_err-found-clause-answer : goal.returns-in_err-found-clause-answer
returns-in_err-found-clause-answer c = place_fault c.args.p.now c.args.line.now _ _ (omega arith) c.in_err-found.ensures.no_token c.from_residual.ensures.1

pub returns-in_err-command-clause-answer : goal.returns-in_err-command-clause-answer
returns-in_err-command-clause-answer c =
    let blank : tokens_of c.args.line.now ≡ Some [] → ⊥ = search rules in
    let has : HasTokens c.args.line.now c.as_slice-tokens.result.now = record {
      short = omega arith;
      some = blank;
      found = c.in_ok-found.found.items;
      are = c.in_ok-found.ensures.read;
      same = c.as_slice-tokens.ensures;
    } in
    err_meant c.args.p.now c.args.line.now c.as_slice-tokens.result.now _ _ has c.in_err-command.ensures.answer c.from_residual-in_err-command.ensures.1

pub returns-clause-answer : goal.returns-clause-answer
returns-clause-answer c =
    let blank : tokens_of c.args.line.now ≡ Some [] → ⊥ = search rules in
    let has : HasTokens c.args.line.now c.as_slice-tokens.result.now = record {
      short = omega arith;
      some = blank;
      found = c.in_ok-found.found.items;
      are = c.in_ok-found.ensures.read;
      same = c.as_slice-tokens.ensures;
    } in
    λ _. ok_meant c.args.p.now c.args.line.now c.as_slice-tokens.result.now _ has c.in_ok-command.ensures.answer
