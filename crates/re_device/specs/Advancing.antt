-- What an entry asks of a replicated state, and why it may be refused.
-- Read against: with `counter c;` an insert into place 0 isn't taken; where a state answers that its sets are full, an operation would pass the room for pairs.
use Rattle.std.specs.Prelude.{◌≡◌, ◌⊎◌, true, Option}
use Rattle.std.specs.List.{list_all}
use Rattle.re_replica.specs.declared.fault.ReplicaFault.{ReplicaFault}
use Rattle.re_replica.specs.declared.fault.ReplicaFault.TheVariants as replica
use Rattle.re_terms.specs.Limits.{OperationFault}
use Rattle.re_terms.specs.ShapedUpdates.{is_operation_in}
use Rattle.re_terms.specs.Shapes.{FitsShape}
use Rattle.re_terms.specs.declared.entry.Entry.{Entry}
use Rattle.re_terms.specs.declared.entry.Entry.TheVariants as entry
use Rattle.re_terms.specs.declared.replicated.Shape.{Shape}
use Rattle.re_device.specs.Refusals.{limit_of}

-- a replicated state of this shape may do the entry: the operations of a turn are of its cells, and a merged state is of its shape
abbrev pub TakesEntry : Shape → Entry → Type 0
TakesEntry shape (entry.Turn t) = list_all (is_operation_in shape) t.ops.items ≡ true
TakesEntry shape (entry.Merge r) = FitsShape shape r

-- memory ran out, or the refusal names the limit that stands against the entry
abbrev pub IsLimit : ReplicaFault → Option OperationFault → Type 0
IsLimit f limit = (f ≡ replica.Memory) ⊎ (limit ≡ limit_of f)
