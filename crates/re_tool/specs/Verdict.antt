-- What a program part is: a program that is accepted, or a text that is refused.
-- Read against: `device a; var x: int = 1 $` is refused with `no token at 25`, `device a var` with `unexpected token at 9`, `device a; signal s = t;` with
-- `declaration 2: unknown name`, and the empty text with `no device`; `device a; event e: int;` is accepted.
use Rattle.std.specs.Prelude.{ℕ, ◌<◌, ◌≤◌, ◌≡◌, ◌⊎◌, List, length, nat_lt, Bool, true, Option, Some, None, Result, Ok, Err, if◌then◌else◌}
use Rattle.re_terms.specs.declared.token.Token.{Token}
use Rattle.re_terms.specs.declared.raw.Tree.{Tree}
use Rattle.re_terms.specs.declared.program.Program.{Program}
use Rattle.re_terms.specs.Trees.{IsTree}
use Rattle.re_tokens.specs.TokenGrammar.{IsTokens, NoTokenAt}
use Rattle.re_syntax.specs.Grammar.{marks_of, Derives}
use Rattle.re_syntax.specs.Places.{open_limit, IsUnexpected, IsTooDeep}
use Rattle.re_types.specs.declared.fault.TypeFault.{TypeFault}
use Rattle.re_types.specs.declared.fault.TypeFault.TheVariants as fault
use Rattle.re_types.specs.Resolving.{resolved}
use Rattle.re_print.specs.Canonical.{program_text}
use Rattle.re_tool.specs.declared.faults.Refusal.{Refusal}
use Rattle.re_tool.specs.declared.faults.Refusal.TheVariants as refusal
use Rattle.re_tool.specs.Part.{Part}

pub data Verdict : Type 0 where
  -- memory ran out before it was known, or the program part didn't end
  Unknown : Verdict
  Rejected : (why : Refusal) → Verdict
  Accepted : (program : Program) → Verdict

-- a program part and its canonical text have at most so many bytes
abbrev pub text_limit : ℕ
text_limit = 65536

-- the program that a tree means, or its first fault
abbrev pub verdict_of : Result Program TypeFault → Verdict
verdict_of (Ok p) = if nat_lt text_limit (length (program_text p)) then Rejected refusal.TooLong else Accepted p
verdict_of (Err (fault.TooMany place)) = Rejected (refusal.TooMany place)
verdict_of (Err (fault.Twice place)) = Rejected (refusal.Twice place)
verdict_of (Err (fault.Unknown place)) = Rejected (refusal.Unknown place)
verdict_of (Err (fault.Kind place)) = Rejected (refusal.Kind place)
verdict_of (Err fault.NoDevice) = Rejected refusal.NoDevice
verdict_of (Err fault.Memory) = Unknown

-- a text that isn't too long has these tokens
pub record HasTokens (text : List ℕ) (tokens : List Token) : Type 0 where
  pub few : length text ≤ text_limit
  pub spelled : IsTokens text tokens

-- its tokens are those of this tree
pub record HasTree (text : List ℕ) (tree : Tree) : Type 0 where
  pub tokens : List Token
  pub has : HasTokens text tokens
  pub derives : Derives open_limit (marks_of tokens) tree.decls.items
  pub limits : IsTree tree

-- what a program part is: its length is looked at first, then its tokens, its syntax,
-- its names and kinds, and the length of its canonical text
pub data Judges (text : List ℕ) (v : Verdict) : Type 0 where
  too_long : text_limit < length text → v ≡ Rejected refusal.TooLong → Judges text v
  no_token : {place : ℕ} → length text ≤ text_limit → NoTokenAt text place → v ≡ Rejected (refusal.NoToken place) → Judges text v
  unexpected : {tokens : List Token} {place : ℕ} → HasTokens text tokens → IsUnexpected tokens place → v ≡ Rejected (refusal.Unexpected place) → Judges text v
  too_deep : {tokens : List Token} {place : ℕ} → HasTokens text tokens → IsTooDeep tokens place → v ≡ Rejected (refusal.TooDeep place) → Judges text v
  whole : {tree : Tree} → HasTree text tree → v ≡ verdict_of (resolved tree) → Judges text v

-- a program part has this verdict
abbrev pub HasVerdict : List ℕ → Verdict → Type 0
HasVerdict text Unknown = ⊥
HasVerdict text (Rejected why) = Judges text (Rejected why)
HasVerdict text (Accepted p) = Judges text (Accepted p)

-- a program part has this verdict, and no other
pub record Decides (text : List ℕ) (v : Verdict) : Type 0 where
  pub has : HasVerdict text v
  pub only : (w : Verdict) → HasVerdict text w → w ≡ v

-- the verdict is that of the program part, where there is one, unless memory ran out before the first line
abbrev pub IsJudged : Verdict → Option Part → Option (ℕ × Bool) → Type 0
IsJudged v None stopped = v ≡ Unknown
IsJudged v (Some part) stopped = Decides part.text v ⊎ ((v ≡ Unknown) × (stopped ≡ Some (0, true)))
