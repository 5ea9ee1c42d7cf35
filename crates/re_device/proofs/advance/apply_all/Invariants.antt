-- The operations that are left do from here what all did from the start.
use Rattle.std.proofs.Common.{◌≡◌, drop}
use Rattle.re_terms.specs.Limits.{after_operations, operations_fault}
use Rattle.re_device.proofs.advance.apply_all.Given as goal

abbrev pub invariant-loop-op : goal.invariant-loop-op
invariant-loop-op l = record {
  shape : l.replica.shape ≡ l.fn.replica.shape;
  device : l.replica.device ≡ l.fn.replica.device;
  state : after_operations l.fn.replica.shape l.fn.replica.device (drop l.op-index l.ops) l.replica.state ≡ after_operations l.fn.replica.shape l.fn.replica.device l.ops l.fn.replica.state;
  fault : operations_fault l.fn.replica.shape l.fn.replica.device (drop l.op-index l.ops) l.replica.state ≡ operations_fault l.fn.replica.shape l.fn.replica.device l.ops l.fn.replica.state;
}
