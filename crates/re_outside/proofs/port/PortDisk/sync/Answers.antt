use Rattle.std.proofs.Common.{[]}
use Rattle.re_outside.specs.Image.{IsUnchanged}
use Rattle.re_outside.specs.declared.step.Call.TheVariants as calls
use Rattle.re_outside.proofs.Ports.{rest_done, rest_failed, sync_of, either_way}
use Rattle.re_outside.proofs.port.PortDisk.sync.Goals as goal

pub returns-clause-rest : goal.returns-clause-rest
returns-clause-rest g c =
    let d = c.args.self.now.device in
    either_way c.sync.result _ _ _ c.sync.ensures.synced c.sync.ensures.failed (rest_done _ d _ _ _ (sync_of d c.args.file)) (rest_failed _ d c.args.file 0 calls.Sync [] IsUnchanged _ _)
