-- The faults of lines: those that come of tokens and of parts, and their order.
-- Read against: where no token begins the fault is that of syntax; of an unknown name and a wrong kind the unknown name is first.
use Rattle.std.specs.Prelude.{ℕ, if◌then◌else◌, nat_le}
use Rattle.re_tokens.specs.declared.fault.LexFault.{LexFault}
use Rattle.re_tokens.specs.declared.fault.LexFault.TheVariants as tokens
use Rattle.re_types.specs.declared.fault.AdmitFault.{AdmitFault}
use Rattle.re_types.specs.declared.fault.AdmitFault.TheVariants as parts
use Rattle.re_commands.specs.declared.fault.CommandFault.{CommandFault}
use Rattle.re_commands.specs.declared.fault.CommandFault.TheVariants as fault

-- a line with a place where no token begins has the fault of syntax
abbrev pub of_tokens : LexFault → CommandFault
of_tokens tokens.Memory = fault.Memory
of_tokens (tokens.At place) = fault.Syntax

-- the faults of parts are those of lines
abbrev pub of_parts : AdmitFault → CommandFault
of_parts parts.Memory = fault.Memory
of_parts parts.Unknown = fault.Unknown
of_parts parts.Kind = fault.Kind
of_parts parts.Twice = fault.Twice
of_parts parts.Empty = fault.Empty
of_parts parts.TooMany = fault.TooMany

-- the place of a fault in the order of the faults
abbrev pub fault_rank : CommandFault → ℕ
fault_rank fault.Memory = 0
fault_rank fault.Syntax = 1
fault_rank fault.Unknown = 2
fault_rank fault.Kind = 3
fault_rank fault.Twice = 4
fault_rank fault.Empty = 5
fault_rank fault.TooMany = 6

-- the first of two faults in their order
abbrev pub first_fault : CommandFault → CommandFault → CommandFault
first_fault e f = if nat_le (fault_rank e) (fault_rank f) then e else f
