-- The texts of refused program parts.
-- Read against: a second declaration whose name isn't declared has `declaration 2: unknown name`, and a text without a device `no device`.
use Rattle.std.specs.Prelude.{ℕ, ◌+◌, ◌++◌, List, codes}
use Rattle.std.specs.Fmt.{decimal}
use Rattle.re_tool.specs.declared.faults.Refusal.{Refusal}
use Rattle.re_tool.specs.declared.faults.Refusal.TheVariants as refusal

-- the fault of a declaration, counted from 1
abbrev pub declaration_text : ℕ → List ℕ → List ℕ
declaration_text place text = codes "declaration " ++ (decimal (place + 1) ++ text)

-- the text of a refusal
abbrev pub refusal_words : Refusal → List ℕ
refusal_words refusal.TooLong = codes "too long"
refusal_words (refusal.NoToken place) = codes "no token at " ++ decimal place
refusal_words (refusal.Unexpected place) = codes "unexpected token at " ++ decimal place
refusal_words (refusal.TooDeep place) = codes "too deep at " ++ decimal place
refusal_words (refusal.TooMany place) = declaration_text place (codes ": too many")
refusal_words (refusal.Twice place) = declaration_text place (codes ": declared twice")
refusal_words (refusal.Unknown place) = declaration_text place (codes ": unknown name")
refusal_words (refusal.Kind place) = declaration_text place (codes ": wrong kind")
refusal_words refusal.NoDevice = codes "no device"
