-- From where a session begins.
use Rattle.std.specs.Prelude.{ℕ, ◌≡◌, ◌≤◌, List, [], ◌++◌, Some, length}
use Rattle.std.specs.List.{flat_map}
use Rattle.re_outside.specs.Outside.{Does, Seen, none}
use Rattle.re_terms.specs.declared.program.Program.{Program}
use Rattle.re_tool.specs.Acts.{OpensAs, ReadsPart}
use Rattle.re_tool.specs.Lines.{ArePlain, ended}
use Rattle.re_tool.specs.Part.{divided}
use Rattle.re_tool.specs.Reads.{limit}
use Rattle.re_tool.specs.Verdict.{Accepted, Decides}
use Rattle.re_tool.specs.declared.reader.Reader.{Reader}
use Rattle.re_world.specs.State.{WorldState}

-- The program part of this program and its separator were read, the devices are opened, and nothing else was done.
pub record Starts (a b : Seen) (p : Program) (r : Reader) (devices : WorldState) : Type 0 where
  pub read : List ℕ
  pub front : List (List ℕ)
  pub head : List (List ℕ)
  pub plain : ArePlain head
  pub divides : (lines : List (List ℕ)) → divided (head ++ lines) ≡ Some (front, lines)
  pub program : Decides (flat_map ended front) (Accepted p)
  pub whole : read ≡ flat_map ended head ++ r.chunk
  pub taken : r.taken ≡ length read
  pub few : r.taken ≤ limit
  pub part_read : Seen
  pub does : Does a part_read read [] none
  pub is_whole : ReadsPart read part_read
  pub opens : OpensAs p devices part_read b
