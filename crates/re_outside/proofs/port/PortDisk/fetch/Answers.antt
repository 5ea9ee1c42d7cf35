use Rattle.std.proofs.Common.{[]}
use Rattle.re_outside.specs.Image.{IsUnchanged}
use Rattle.re_outside.specs.declared.step.Call.TheVariants as calls
use Rattle.re_outside.proofs.Ports.{rest_done, rest_failed, none_of, either_way}
use Rattle.re_outside.proofs.port.PortDisk.fetch.Goals as goal

pub returns-clause-rest : goal.returns-clause-rest
returns-clause-rest g c =
    let d = c.args.self.now.device in
    either_way c.fetch.result _ _ _ c.fetch.ensures.same c.fetch.ensures.failed (rest_done _ d _ _ _ (none_of d)) (rest_failed _ d c.args.file c.args.at calls.Fetch [] IsUnchanged _ _)
