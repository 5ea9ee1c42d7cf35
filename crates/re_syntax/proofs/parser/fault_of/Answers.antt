use Rattle.std.proofs.Common.{ℕ, ◌≡◌}
use Rattle.re_syntax.proofs.Programs.{as_unexpected, as_many, as_deep, inside_unexpected, inside_many, inside_deep}
use Rattle.re_syntax.specs.declared.fault.SyntaxFault.TheVariants as faults
use Rattle.re_syntax.proofs.parser.fault_of.Goals as goal

same_at : {a b : ℕ} → faults.At a ≡ faults.At b → a ≡ b
same_at e = cc

same_deep : {a b : ℕ} → faults.Deep a ≡ faults.Deep b → a ≡ b
same_deep e = cc

pub place-requires : goal.place-requires
place-requires c = inside_unexpected c.args.tokens.now c.args.stop _ c.requires c.in-Unexpected.is

pub returns-in-Unexpected-clause-at : goal.returns-in-Unexpected-clause-at
returns-in-Unexpected-clause-at c = λ byte e. as_unexpected c.args.tokens.now c.args.stop _ _ byte c.requires c.in-Unexpected.is c.place.ensures (same_at e)

pub place-requires-in-TooMany : goal.place-requires-in-TooMany
place-requires-in-TooMany c = inside_many c.args.tokens.now c.args.stop _ c.requires c.in-TooMany.is

pub returns-in-TooMany-clause-deep : goal.returns-in-TooMany-clause-deep
returns-in-TooMany-clause-deep c = λ byte e. as_many c.args.tokens.now c.args.stop _ _ byte c.requires c.in-TooMany.is c.place-in-TooMany.ensures (same_deep e)

pub place-requires-in-TooDeep : goal.place-requires-in-TooDeep
place-requires-in-TooDeep c = inside_deep c.args.tokens.now c.args.stop _ c.requires c.in-TooDeep.is

pub returns-in-TooDeep-clause-deep : goal.returns-in-TooDeep-clause-deep
returns-in-TooDeep-clause-deep c = λ byte e. as_deep c.args.tokens.now c.args.stop _ _ byte c.requires c.in-TooDeep.is c.place-in-TooDeep.ensures (same_deep e)
