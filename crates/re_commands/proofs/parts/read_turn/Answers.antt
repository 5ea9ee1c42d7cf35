use Rattle.std.proofs.Common.{◌≡◌, Some, sym, ◌∙◌, ◌<◌, length, rules, tests, arith}
use Rattle.std.proofs.lemmas.Iterator.Splits.{YieldsList-from_slice_split}
use Rattle.std.proofs.lemmas.Iterator.Consumers.{YieldsList-turn, YieldsList-end}
use Rattle.re_commands.specs.LineGrammar.{is_comma, part_of}
use Rattle.re_commands.specs.RawLines.{marks_of}
use Rattle.re_commands.proofs.Separated.{reads_more, reads_all, reads_none}
use Rattle.re_commands.proofs.parts.read_turn.Goals as goal

pub loop-between-preserved : goal.loop-between-preserved
loop-between-preserved c =
    let part : part_of (marks_of c.in-Some.between.now) ≡ Some c.in-Some-2.part = cc (c.in_ok-part.ensures, c.in-Some-2.is) in
    reads_more _ _ _ _ _ c.loop-between.invariant part c.in_ok-push.ensures.ok

pub returns : goal.returns
returns c =
    let e = YieldsList-end (YieldsList-from_slice_split _ (λ t. is_comma t.mark) c.args.tokens.now (cc) (cc) (cc) (λ x b q k. search (rules, tests))) c.loop-between.yielded _ c.loop-between.yielded_by _ _ c.in-None.is c.next.ensures.steps in
    let some : 0 < length c.args.tokens.now = grind arith in
    reads_all c.args.tokens.now _ _ some c.loop-between.invariant e.0

pub returns-in_default : goal.returns-in_default
returns-in_default c =
    let t = YieldsList-turn (YieldsList-from_slice_split _ (λ t. is_comma t.mark) c.args.tokens.now (cc) (cc) (cc) (λ x b q k. search (rules, tests))) c.loop-between.yielded _ c.loop-between.yielded_by _ _ c.in-Some.between c.in-Some.is c.next.ensures.steps in
    let some : 0 < length c.args.tokens.now = grind arith in
    reads_none c.args.tokens.now c.in-Some.between.now _ some t (sym (c.in_ok-part.ensures) ∙ c.in_default.is)
