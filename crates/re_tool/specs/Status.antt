-- The exit codes.
use Rattle.std.specs.Prelude.{ℕ}
use Rattle.re_tool.specs.declared.status.Status.{Status}
use Rattle.re_tool.specs.declared.status.Status.TheVariants as status

abbrev pub code_of : Status → ℕ
code_of status.Done = 0
code_of status.Words = 2
code_of status.Program = 3
code_of status.Store = 4
code_of status.OtherProgram = 5
code_of status.Disk = 6
code_of status.Input = 7
code_of status.Output = 8
code_of status.Memory = 9
code_of status.TooLong = 10
code_of status.Line = 11
