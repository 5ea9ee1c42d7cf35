use Rattle.std.proofs.Common.{[]}
use Rattle.re_outside.specs.Image.{IsCutShort}
use Rattle.re_outside.specs.declared.step.Call.TheVariants as calls
use Rattle.re_outside.proofs.Ports.{rest_done, rest_failed, cut_of, either_way}
use Rattle.re_outside.proofs.port.PortDisk.cut.Goals as goal

pub returns-clause-rest : goal.returns-clause-rest
returns-clause-rest g c =
    let d = c.args.self.now.device in
    either_way c.cut.result _ _ _ c.cut.ensures.cut c.cut.ensures.failed (rest_done _ d _ _ _ (cut_of d c.args.file c.args.length)) (rest_failed _ d c.args.file c.args.length calls.Cut [] (IsCutShort c.args.length) _ _)
