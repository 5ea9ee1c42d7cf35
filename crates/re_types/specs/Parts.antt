-- Parts of a turn over ids.
-- Read against: `add c 1` is an operation that sets no var and fires no event.
use Rattle.std.specs.Prelude.{ℕ, ◌-◌, ◌++◌, ◌∷◌, [], List, Bool, Option, None, Some}
use Rattle.std.specs.List.{filter_map}
use Rattle.re_terms.specs.Listed.{Listed, plain}
use Rattle.re_terms.specs.Arithmetic.{is_word_number}
use Rattle.re_terms.specs.Programs.{is_literal_word}
use Rattle.re_terms.specs.declared.word.Word.{Word}
use Rattle.re_terms.specs.declared.word.Kind.{Kind}
use Rattle.re_terms.specs.declared.entry.Put.{Put}
use Rattle.re_terms.specs.declared.replicated.Act.{Act}
use Rattle.re_terms.specs.declared.replicated.Act.TheVariants as act
use Rattle.re_terms.specs.declared.replicated.Layout.{Layout}
use Rattle.re_terms.specs.declared.replicated.Layout.TheVariants as layout
use Rattle.re_terms.specs.declared.replicated.RepOp.{RepOp}
use Rattle.re_terms.specs.declared.entry.Turn.{Turn}
use Rattle.re_terms.specs.declared.program.Decl.{Decl}
use Rattle.re_terms.specs.declared.raw.RawPart.{RawPart}
use Rattle.re_types.specs.Admitting.{sets_of, fires_of, act_of}
use Rattle.re_types.specs.declared.parts.Part.{Part}
use Rattle.re_types.specs.declared.parts.Part.TheVariants as part

-- an act whose amount or word may stand as a literal
abbrev pub is_literal_act : ℕ → Act → Bool
is_literal_act symbols (act.Add amount) = is_word_number amount
is_literal_act symbols (act.Insert w) = is_literal_word symbols w
is_literal_act symbols (act.Remove w) = is_literal_word symbols w
is_literal_act symbols (act.Write w) = is_literal_word symbols w

-- the word of an act, if any
abbrev pub word_of : Act → Option Word
word_of (act.Add amount) = None
word_of (act.Insert w) = Some w
word_of (act.Remove w) = Some w
word_of (act.Write w) = Some w

-- the kind of the words that the acts on a cell have, if any
abbrev pub word_kind : Layout → Option Kind
word_kind layout.Rows = None
word_kind (layout.Pairs k) = Some k
word_kind (layout.Written k start) = Some k

-- the var that it sets
abbrev pub set_in : Option Part → Option Put
set_in (Some (part.Set put)) = Some put
set_in p = None

-- the source event that it fires
abbrev pub fire_in : Option Part → Option Put
fire_in (Some (part.Fire put)) = Some put
fire_in p = None

-- its operation on a replicated cell
abbrev pub operation_in : Option Part → Option RepOp
operation_in (Some (part.Operation op)) = Some op
operation_in p = None

-- one more at the end of a list
abbrev pub pushed : {T : Type 0} → Listed T → T → Listed T
pushed xs x = record { items = xs.items ++ x ∷ []; spare = xs.spare - 1 }

-- a turn with one part more
abbrev pub with_part : Turn → Part → Turn
with_part t (part.Set put) = record t { sets = pushed t.sets put }
with_part t (part.Fire put) = record t { fires = pushed t.fires put }
with_part t (part.Operation op) = record t { ops = pushed t.ops op }

-- what these parts mean, in their order
abbrev pub turn_in_order : List Decl → List RawPart → Turn
turn_in_order decls parts = record {
  sets = plain (sets_of decls parts);
  fires = plain (fires_of decls parts);
  ops = plain (filter_map (act_of decls) parts);
}
