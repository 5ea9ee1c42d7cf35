-- The texts of answers, without the line's end.
-- Read against: the fourth entry has the text `ok 4`, the fault 2 `fault 2`, the set of 9 and 4 `{4, 9}`, the bytes 7 and 255 `07ff`, a bad file 1 at place 40 `no 37 file 1 at 40`.
use Rattle.std.specs.Prelude.{ℕ, List, ◌++◌, codes}
use Rattle.std.specs.List.{join_by}
use Rattle.std.specs.List.Sorted.{IsStrictlySortedBy}
use Rattle.std.specs.Fmt.{decimal}
use Rattle.hex.specs.Hex.{encode_lower}
use Rattle.re_terms.specs.declared.word.Word.{Word}
use Rattle.re_terms.specs.declared.program.Program.{Program}
use Rattle.re_terms.specs.declared.command.Answer.{Answer}
use Rattle.re_terms.specs.declared.command.Answer.TheVariants as answer
use Rattle.re_terms.specs.Worlds.{PlainAnswer, Entered, Applied, Settled, Value, Members, Packet, Hex, Down, Up, Refused, StoppedAt, BadFile}
use Rattle.re_terms.specs.WordOrder.{pair_cmp}
use Rattle.re_print.specs.Canonical.{word_text}

-- a set's elements between braces, a comma and a blank between each two
abbrev pub set_text : Program → List Word → List ℕ
set_text p elements = codes "{" ++ join_by (word_text p) (codes ", ") elements ++ codes "}"

-- an answer as a session says it; a packet's bytes in lower-case hexadecimal, two digits a byte
abbrev pub answer_text : Program → PlainAnswer → List ℕ
answer_text p (Entered n) = codes "ok " ++ decimal n
answer_text p (Applied n) = codes "applied " ++ decimal n
answer_text p (Settled n) = codes "settled " ++ decimal n
answer_text p (Value w) = word_text p w
answer_text p (Members elements) = set_text p elements
answer_text p (Packet n) = codes "packet " ++ decimal n
answer_text p (Hex bytes) = encode_lower bytes
answer_text p Down = codes "down"
answer_text p (Up n) = codes "up " ++ decimal n
answer_text p (Refused code) = codes "no " ++ decimal code
answer_text p (StoppedAt call) = codes "no 34 at " ++ decimal call
answer_text p (BadFile file place) = codes "no 37 file " ++ decimal file ++ codes " at " ++ decimal place

-- the pairs ascend where the answer is a set
abbrev pub AscendsWhereSet : Answer → Type 0
AscendsWhereSet (answer.Members pairs) = IsStrictlySortedBy pair_cmp pairs.items
AscendsWhereSet a = Unit
