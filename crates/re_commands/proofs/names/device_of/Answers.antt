use Rattle.std.proofs.Common.{sym, ap, ◌∙◌, arith}
use Rattle.re_terms.specs.Admission.{device_count}
use Rattle.re_terms.specs.Programs.{is_device}
use Rattle.re_commands.proofs.Devices.{number_below}
use Rattle.re_commands.proofs.names.device_of.Goals as goal

pub returns-clause-within : goal.returns-clause-within
returns-clause-within c =
    let below = number_below c.as_slice-decls.result.now c.in-Some.id _ c.in-Some.ensures.within c.index-decls-id.is (ap is_device c.index-decls-id.is ∙ sym c.is_device.ensures ∙ c.if-not-is_device.false) in
    let all = ap device_count c.as_slice-decls.ensures in
    let number = c.count_devices.ensures in
    omega arith
