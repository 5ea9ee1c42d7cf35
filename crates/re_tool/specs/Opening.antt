-- What reading a program part does.
use Rattle.std.specs.Prelude.{Bool}
use Rattle.re_terms.specs.declared.program.Program.{Program}
use Rattle.re_outside.specs.Outside.{Seen}
use Rattle.re_tool.specs.declared.reader.Reader.{Reader}
use Rattle.re_tool.specs.Clipped.{Clipped}
use Rattle.re_tool.specs.PartReading.{PartIs}
use Rattle.re_tool.specs.Verdict.{Decides, Accepted}

-- The program part was read, and is accepted.
pub record Opens (r : Reader) (is_divided : Bool) (p : Program) (a b : Seen) : Type 0 where
  pub text : Clipped
  pub part : PartIs r text is_divided a b
  pub verdict : Decides text.items (Accepted p)
