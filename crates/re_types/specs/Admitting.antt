-- What the parts of a turn mean: a turn, or the first fault in the order of the faults that holds of the parts anywhere.
-- Read against: on `device a; symbol red; var x: int = 0; event e: int; signal s = x; counter c;` the parts `add c 1, fire e 3, x = 2` set 2 to 2, fire 3 with 3 and add 1 to cell 0;
-- `s = 1, y = 2` hold an unknown name, `x = 1, x = 2, s = 1` and `x = red` break a kind rule, `x = 1, x = 2` set x twice, no part is no turn, and 65 times `add c 1` are too many.
use Rattle.std.specs.Prelude.{ℕ, ◌==◌, ◌&&◌, ◌||◌, not, Bool, false, if◌then◌else◌, List, [], ◌∷◌, length, nat_lt, Option, None, Some, is_some, option_map, Result, Ok, Err, slice_get}
use Rattle.std.specs.List.{filter_map, list_all, list_any, range_with_len}
use Rattle.std.specs.Option.{option_map_or}
use Rattle.re_terms.specs.Listed.{Listed, plain}
use Rattle.re_terms.specs.Kinds.{◌>>=◌, only_if}
use Rattle.re_terms.specs.Programs.{names_of}
use Rattle.re_terms.specs.Shapes.{replicated_kind}
use Rattle.re_terms.specs.SignalWords.{replicated_place}
use Rattle.re_terms.specs.Propagation.{put_word}
use Rattle.re_terms.specs.Admission.{symbol_count, var_kind, source_kind, is_put_of, is_act_of}
use Rattle.re_terms.specs.declared.word.Word.{Word}
use Rattle.re_terms.specs.declared.word.Kind.{Kind}
use Rattle.re_terms.specs.declared.entry.Put.{Put}
use Rattle.re_terms.specs.declared.entry.Turn.{Turn}
use Rattle.re_terms.specs.declared.entry.Admitted.{Admitted}
use Rattle.re_terms.specs.declared.replicated.Act.{Act}
use Rattle.re_terms.specs.declared.replicated.Act.TheVariants as act
use Rattle.re_terms.specs.declared.replicated.RepOp.{RepOp}
use Rattle.re_terms.specs.declared.program.Body.{Body}
use Rattle.re_terms.specs.declared.program.Decl.{Decl}
use Rattle.re_terms.specs.declared.program.Program.{Program}
use Rattle.re_terms.specs.declared.raw_expr.RawLit.{RawLit}
use Rattle.re_terms.specs.declared.raw.RawPart.{RawPart}
use Rattle.re_terms.specs.declared.raw.RawPart.TheVariants as part
use Rattle.re_terms.specs.declared.raw.RawTurn.{RawTurn}
use Rattle.re_types.specs.Resolving.{place_of, is_known, knows_literal, scope_of, start_word}
use Rattle.re_types.specs.declared.fault.AdmitFault.{AdmitFault}
use Rattle.re_types.specs.declared.fault.AdmitFault.TheVariants as fault

-- the part's name is declared, and so is a name that stands as its literal
abbrev pub knows_part : List (List ℕ) → RawPart → Bool
knows_part names (part.Put name lit) = is_known names name && knows_literal names lit
knows_part names (part.Fire name lit) = is_known names name && knows_literal names lit
knows_part names (part.Add name amount) = is_known names name
knows_part names (part.Insert name lit) = is_known names name && knows_literal names lit
knows_part names (part.Remove name lit) = is_known names name && knows_literal names lit
knows_part names (part.Write name lit) = is_known names name && knows_literal names lit

-- a word for a declaration
abbrev pub put_on : ℕ → Word → Put
put_on id w = record { id = id; word = w }

-- a word for the declaration with this name, where it is of the wanted sort and the word of its kind
abbrev pub put_of : (Body → Option Kind) → List Decl → Listed ℕ → RawLit → Option Put
put_of kind_of decls name lit = do
  id ← place_of (names_of decls) name.items
  w ← start_word (scope_of decls) lit
  only_if (is_put_of kind_of decls (put_on id w)) (put_on id w)

-- an act on the replicated cell with this name, where there is one that takes it
abbrev pub operation_of : List Decl → Listed ℕ → Option Act → Option RepOp
operation_of decls name act = do
  id ← place_of (names_of decls) name.items
  d ← slice_get decls id
  k ← replicated_kind d.body
  a ← act
  only_if (is_act_of (symbol_count decls) k a) (record { cell = replicated_place decls id; act = a })

-- the var that a part sets
abbrev pub set_of : List Decl → RawPart → Option Put
set_of decls (part.Put name lit) = put_of var_kind decls name lit
set_of decls x = None

-- the source event that a part fires
abbrev pub fire_of : List Decl → RawPart → Option Put
fire_of decls (part.Fire name lit) = put_of source_kind decls name lit
fire_of decls x = None

-- what a part does to a replicated cell
abbrev pub act_of : List Decl → RawPart → Option RepOp
act_of decls (part.Add name amount) = operation_of decls name (Some (act.Add amount))
act_of decls (part.Insert name lit) = operation_of decls name (option_map act.Insert (start_word (scope_of decls) lit))
act_of decls (part.Remove name lit) = operation_of decls name (option_map act.Remove (start_word (scope_of decls) lit))
act_of decls (part.Write name lit) = operation_of decls name (option_map act.Write (start_word (scope_of decls) lit))
act_of decls x = None

-- the part's name is of the sort that it takes, and its literal of the kind
abbrev pub keeps_kind : List Decl → RawPart → Bool
keeps_kind decls x = is_some (set_of decls x) || is_some (fire_of decls x) || is_some (act_of decls x)

-- all vars that the parts set, in the order of the parts
abbrev pub sets_of : List Decl → List RawPart → List Put
sets_of decls parts = filter_map (set_of decls) parts

-- all source events that they fire
abbrev pub fires_of : List Decl → List RawPart → List Put
fires_of decls parts = filter_map (fire_of decls) parts

-- a part sets a var by a put that passes the test
abbrev pub some_set : List Decl → (Put → Bool) → List RawPart → Bool
some_set decls test parts = list_any (λ x. option_map_or test (set_of decls x) false) parts

-- a part fires a source event by one that does
abbrev pub some_fire : List Decl → (Put → Bool) → List RawPart → Bool
some_fire decls test parts = list_any (λ x. option_map_or test (fire_of decls x) false) parts

-- an id stands twice
abbrev pub is_twice : List Put → Bool
is_twice [] = false
is_twice (x ∷ puts) = is_some (put_word puts x.id) || is_twice puts

-- the word for this id, where there is one
abbrev pub put_at : List Put → ℕ → Option Put
put_at puts id = option_map (put_on id) (put_word puts id)

-- the puts of the ids below n, ascending
abbrev pub by_id : ℕ → List Put → List Put
by_id n puts = filter_map (put_at puts) (range_with_len 0 n)

-- the turn of these parts
abbrev pub turn_of : List Decl → List RawPart → Turn
turn_of decls parts = record {
  sets = plain (by_id (length decls) (sets_of decls parts));
  fires = plain (by_id (length decls) (fires_of decls parts));
  ops = plain (filter_map (act_of decls) parts);
}

-- the same, where no fault holds
abbrev pub turn_or_fault : List Decl → List RawPart → Result Admitted AdmitFault
turn_or_fault decls parts =
    if not (list_all (knows_part (names_of decls)) parts) then Err fault.Unknown
    else if not (list_all (keeps_kind decls) parts) then Err fault.Kind
    else if is_twice (sets_of decls parts) || is_twice (fires_of decls parts) then Err fault.Twice
    else if length parts == 0 then Err fault.Empty
    else if nat_lt 64 (length parts) then Err fault.TooMany
    else Ok (record { turn = turn_of decls parts })

-- the turn of a program that was read, or why it is none
abbrev pub admitted : Program → RawTurn → Result Admitted AdmitFault
admitted p raw = turn_or_fault p.decls.items raw.parts.items
