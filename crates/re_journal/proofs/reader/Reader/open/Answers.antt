use Rattle.std.proofs.Common.{◌≡◌, Err, sym, subst, inl, rules}
use Rattle.re_journal.specs.Scans.{HasScanSteps}
use Rattle.re_journal.specs.declared.fault.ScanFault.TheVariants.{Disk}
use Rattle.re_journal.proofs.reader.Reader.open.Goals as goal

pub returns-in_err-size-clause-steps : goal.returns-in_err-size-clause-steps
returns-in_err-size-clause-steps g c = λ told.
    let is : c.from_residual-in_err-size.result ≡ Err Disk = search rules in
    subst (HasScanSteps c.args.file (g.D.Disk.past c.args.disk.now) (g.D.Disk.past c.size.new.self)) (sym is) (inl (c.in_err-size.ensures.failed told))
