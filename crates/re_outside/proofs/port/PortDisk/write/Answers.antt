use Rattle.std.proofs.Common.{length}
use Rattle.re_outside.specs.Listed.{plain}
use Rattle.re_outside.specs.Image.{IsTorn}
use Rattle.re_outside.specs.declared.step.Call.TheVariants as calls
use Rattle.re_outside.proofs.Ports.{rest_done, rest_failed, write_of, either_way}
use Rattle.re_outside.proofs.port.PortDisk.write.Goals as goal

pub returns-clause-rest : goal.returns-clause-rest
returns-clause-rest g c =
    let d = c.args.self.now.device in
    either_way c.write.result _ _ _ c.write.ensures.written c.write.ensures.failed (rest_done _ d _ _ _ (write_of d c.args.file c.args.at (plain c.args.bytes.now))) (rest_failed _ d c.args.file c.args.at calls.Write c.args.bytes.now (λ old new. IsTorn (length old) c.args.at (length c.args.bytes.now) old new) _ _)
