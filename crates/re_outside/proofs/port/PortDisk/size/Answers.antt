use Rattle.std.proofs.Common.{[]}
use Rattle.re_outside.specs.Image.{IsUnchanged}
use Rattle.re_outside.specs.declared.step.Call.TheVariants as calls
use Rattle.re_outside.proofs.Ports.{rest_done, rest_failed, none_of, either_way}
use Rattle.re_outside.proofs.port.PortDisk.size.Goals as goal

pub returns-clause-rest : goal.returns-clause-rest
returns-clause-rest g c =
    let d = c.args.self.now.device in
    either_way c.size.result _ _ _ c.size.ensures.same c.size.ensures.failed (rest_done _ d _ _ _ (none_of d)) (rest_failed _ d c.args.file 0 calls.Size [] IsUnchanged _ _)
