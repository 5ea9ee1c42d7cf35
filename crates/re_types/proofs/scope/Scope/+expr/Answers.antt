use Rattle.std.proofs.Common.{arith}
use Rattle.re_types.proofs.Operands.{of_bin, of_if, of_has}
use Rattle.re_types.proofs.scope.Scope.+expr.Goals as goal

pub expr-boxed-requires-in-Bin-2 : goal.expr-boxed-requires-in-Bin-2
expr-boxed-requires-in-Bin-2 t c =
    let s = (of_bin c.args.self.now.names c.args.raw.now c.in-Bin.op c.in-Bin.left c.in-Bin.right c.in-Bin.is c.requires.known c.requires.raw).1 in
    (omega (arith, s.smaller, c.decreases), (c.requires.scope, (s.known, s.ranged)))

pub expr-boxed-requires-in-If-2 : goal.expr-boxed-requires-in-If-2
expr-boxed-requires-in-If-2 t c =
    let s = (of_if c.args.self.now.names c.args.raw.now c.in-If.cond c.in-If.yes c.in-If.no c.in-If.is c.requires.known c.requires.raw).1 in
    (omega (arith, s.smaller, c.decreases), (c.requires.scope, (s.known, s.ranged)))

pub expr-boxed-requires-in-If-3 : goal.expr-boxed-requires-in-If-3
expr-boxed-requires-in-If-3 t c =
    let s = (of_if c.args.self.now.names c.args.raw.now c.in-If.cond c.in-If.yes c.in-If.no c.in-If.is c.requires.known c.requires.raw).2 in
    (omega (arith, s.smaller, c.decreases), (c.requires.scope, (s.known, s.ranged)))

pub expr-id-requires-in-Has-clause-known : goal.expr-id-requires-in-Has-clause-known
expr-id-requires-in-Has-clause-known t c = (of_has c.args.self.now.names c.args.raw.now c.in-Has.set c.in-Has.element c.in-Has.is c.requires.known c.requires.raw).0

pub expr-boxed-requires-in-Has : goal.expr-boxed-requires-in-Has
expr-boxed-requires-in-Has t c =
    let s = (of_has c.args.self.now.names c.args.raw.now c.in-Has.set c.in-Has.element c.in-Has.is c.requires.known c.requires.raw).1 in
    (omega (arith, s.smaller, c.decreases), (c.requires.scope, (s.known, s.ranged)))
