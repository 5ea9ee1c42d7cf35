-- Why no program was read, by what refused it.
use Rattle.re_tokens.specs.declared.fault.LexFault.{LexFault}
use Rattle.re_tokens.specs.declared.fault.LexFault.TheVariants as lex
use Rattle.re_syntax.specs.declared.fault.SyntaxFault.{SyntaxFault}
use Rattle.re_syntax.specs.declared.fault.SyntaxFault.TheVariants as syntax
use Rattle.re_types.specs.declared.fault.TypeFault.{TypeFault}
use Rattle.re_types.specs.declared.fault.TypeFault.TheVariants as type
use Rattle.re_tool.specs.declared.faults.Refusal.TheVariants as refusal
use Rattle.re_tool.specs.declared.faults.ProgramFault.{ProgramFault}
use Rattle.re_tool.specs.declared.faults.ProgramFault.TheVariants as program

abbrev pub lex_fault : LexFault → ProgramFault
lex_fault lex.Memory = program.Memory
lex_fault (lex.At place) = program.Refused (refusal.NoToken place)

abbrev pub syntax_fault : SyntaxFault → ProgramFault
syntax_fault syntax.Memory = program.Memory
syntax_fault (syntax.At place) = program.Refused (refusal.Unexpected place)
syntax_fault (syntax.Deep place) = program.Refused (refusal.TooDeep place)

abbrev pub type_fault : TypeFault → ProgramFault
type_fault type.Memory = program.Memory
type_fault (type.TooMany place) = program.Refused (refusal.TooMany place)
type_fault (type.Twice place) = program.Refused (refusal.Twice place)
type_fault (type.Unknown place) = program.Refused (refusal.Unknown place)
type_fault (type.Kind place) = program.Refused (refusal.Kind place)
type_fault type.NoDevice = program.Refused refusal.NoDevice
