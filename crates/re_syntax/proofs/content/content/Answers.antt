use Rattle.std.proofs.Common.{◌≡◌, lit≤, arith}
use Rattle.re_syntax.proofs.Steps.{no_more}
use Rattle.re_syntax.proofs.Tokens.{finish, farther}
use Rattle.re_syntax.proofs.Rules.{device_stage, symbol_stage, counter_stage}
use Rattle.re_syntax.proofs.Heads.{plain_not_deep}
use Rattle.re_syntax.proofs.content.content.Goals as goal

pub returns-then-word-eq-DEVICE-clause-ok : goal.returns-then-word-eq-DEVICE-clause-ok
returns-then-word-eq-DEVICE-clause-ok c = rw c.if-word-eq-DEVICE.true (farther (finish (device_stage c.args.tokens.now c.args.i) c.requires.inside) (lit≤ tt) no_more)

pub returns-then-word-eq-DEVICE-clause-shallow : goal.returns-then-word-eq-DEVICE-clause-shallow
returns-then-word-eq-DEVICE-clause-shallow c = rw c.if-word-eq-DEVICE.true (plain_not_deep c.args.tokens.now _ c.args.i (λ e. omega (arith, e)) (λ e. omega (arith, e)) (λ e. omega (arith, e)))

pub returns-then-word-eq-SYMBOL-clause-ok : goal.returns-then-word-eq-SYMBOL-clause-ok
returns-then-word-eq-SYMBOL-clause-ok c = rw c.if-word-eq-SYMBOL.true (farther (finish (symbol_stage c.args.tokens.now c.args.i) c.requires.inside) (lit≤ tt) no_more)

pub returns-then-word-eq-SYMBOL-clause-shallow : goal.returns-then-word-eq-SYMBOL-clause-shallow
returns-then-word-eq-SYMBOL-clause-shallow c = rw c.if-word-eq-SYMBOL.true (plain_not_deep c.args.tokens.now _ c.args.i (λ e. omega (arith, e)) (λ e. omega (arith, e)) (λ e. omega (arith, e)))

pub returns-then-word-eq-VAR-clause-ok : goal.returns-then-word-eq-VAR-clause-ok
returns-then-word-eq-VAR-clause-ok c = rw c.if-word-eq-VAR.true c.var.ensures.ok

pub returns-then-word-eq-VAR-clause-shallow : goal.returns-then-word-eq-VAR-clause-shallow
returns-then-word-eq-VAR-clause-shallow c = rw c.if-word-eq-VAR.true c.var.ensures.shallow

pub returns-then-word-eq-VAR-clause-stop : goal.returns-then-word-eq-VAR-clause-stop
returns-then-word-eq-VAR-clause-stop c = rw c.if-word-eq-VAR.true c.var.ensures.stop

pub returns-then-word-eq-EVENT-clause-ok : goal.returns-then-word-eq-EVENT-clause-ok
returns-then-word-eq-EVENT-clause-ok c = rw c.if-word-eq-EVENT.true c.event.ensures.ok

pub returns-then-word-eq-EVENT-clause-shallow : goal.returns-then-word-eq-EVENT-clause-shallow
returns-then-word-eq-EVENT-clause-shallow c = rw c.if-word-eq-EVENT.true c.event.ensures.shallow

pub returns-then-word-eq-EVENT-clause-stop : goal.returns-then-word-eq-EVENT-clause-stop
returns-then-word-eq-EVENT-clause-stop c = rw c.if-word-eq-EVENT.true c.event.ensures.stop

pub returns-then-word-eq-SIGNAL-clause-ok : goal.returns-then-word-eq-SIGNAL-clause-ok
returns-then-word-eq-SIGNAL-clause-ok c = rw c.if-word-eq-SIGNAL.true c.signal.ensures.ok

pub returns-then-word-eq-SIGNAL-clause-shallow : goal.returns-then-word-eq-SIGNAL-clause-shallow
returns-then-word-eq-SIGNAL-clause-shallow c = rw c.if-word-eq-SIGNAL.true c.signal.ensures.shallow

pub returns-then-word-eq-SIGNAL-clause-stop : goal.returns-then-word-eq-SIGNAL-clause-stop
returns-then-word-eq-SIGNAL-clause-stop c = rw c.if-word-eq-SIGNAL.true c.signal.ensures.stop

pub returns-then-word-eq-FOLD-clause-ok : goal.returns-then-word-eq-FOLD-clause-ok
returns-then-word-eq-FOLD-clause-ok c = rw c.if-word-eq-FOLD.true c.fold.ensures.ok

pub returns-then-word-eq-FOLD-clause-shallow : goal.returns-then-word-eq-FOLD-clause-shallow
returns-then-word-eq-FOLD-clause-shallow c = rw c.if-word-eq-FOLD.true c.fold.ensures.shallow

pub returns-then-word-eq-FOLD-clause-stop : goal.returns-then-word-eq-FOLD-clause-stop
returns-then-word-eq-FOLD-clause-stop c = rw c.if-word-eq-FOLD.true c.fold.ensures.stop

pub returns-then-word-eq-COUNTER-clause-ok : goal.returns-then-word-eq-COUNTER-clause-ok
returns-then-word-eq-COUNTER-clause-ok c = rw c.if-word-eq-COUNTER.true (farther (finish (counter_stage c.args.tokens.now c.args.i) c.requires.inside) (lit≤ tt) no_more)

pub returns-then-word-eq-COUNTER-clause-shallow : goal.returns-then-word-eq-COUNTER-clause-shallow
returns-then-word-eq-COUNTER-clause-shallow c = rw c.if-word-eq-COUNTER.true (plain_not_deep c.args.tokens.now _ c.args.i (λ e. omega (arith, e)) (λ e. omega (arith, e)) (λ e. omega (arith, e)))

pub returns-then-word-eq-SET-clause-ok : goal.returns-then-word-eq-SET-clause-ok
returns-then-word-eq-SET-clause-ok c = rw c.if-word-eq-SET.true c.set.ensures.ok

pub returns-then-word-eq-SET-clause-shallow : goal.returns-then-word-eq-SET-clause-shallow
returns-then-word-eq-SET-clause-shallow c = rw c.if-word-eq-SET.true c.set.ensures.shallow

pub returns-then-word-eq-SET-clause-stop : goal.returns-then-word-eq-SET-clause-stop
returns-then-word-eq-SET-clause-stop c = rw c.if-word-eq-SET.true c.set.ensures.stop

pub returns-clause-ok : goal.returns-clause-ok
returns-clause-ok c = rw (let e : c.args.word ≡ 8 = omega (arith, c.requires.declares, c.if-word-eq-DEVICE.false, c.if-word-eq-SYMBOL.false, c.if-word-eq-VAR.false, c.if-word-eq-EVENT.false, c.if-word-eq-SIGNAL.false, c.if-word-eq-FOLD.false, c.if-word-eq-COUNTER.false, c.if-word-eq-SET.false) in e) c.register.ensures.ok

pub returns-clause-shallow : goal.returns-clause-shallow
returns-clause-shallow c = rw (let e : c.args.word ≡ 8 = omega (arith, c.requires.declares, c.if-word-eq-DEVICE.false, c.if-word-eq-SYMBOL.false, c.if-word-eq-VAR.false, c.if-word-eq-EVENT.false, c.if-word-eq-SIGNAL.false, c.if-word-eq-FOLD.false, c.if-word-eq-COUNTER.false, c.if-word-eq-SET.false) in e) c.register.ensures.shallow

pub returns-clause-stop : goal.returns-clause-stop
returns-clause-stop c = rw (let e : c.args.word ≡ 8 = omega (arith, c.requires.declares, c.if-word-eq-DEVICE.false, c.if-word-eq-SYMBOL.false, c.if-word-eq-VAR.false, c.if-word-eq-EVENT.false, c.if-word-eq-SIGNAL.false, c.if-word-eq-FOLD.false, c.if-word-eq-COUNTER.false, c.if-word-eq-SET.false) in e) c.register.ensures.stop
