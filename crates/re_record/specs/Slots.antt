-- Which words the declarations of a program take, where a turn sets or fires them and where an entry changes them.
-- Read against: with `var x: int = 2; event e: bool; fold n: int = 0 on e do self + 1;` a set of x takes an int, a fire of e takes a truth value, a change of n takes an int or a fault, and nothing sets n or changes e.
use Rattle.std.specs.Prelude.{ℕ, true, false, Bool, List, nat_lt, Option, None, Some, slice_get, if◌then◌else◌}
use Rattle.std.specs.List.{filter_map}
use Rattle.std.specs.Option.{option_and_then, option_map_or}
use Rattle.re_terms.specs.Admission.{symbol_count}
use Rattle.re_terms.specs.declared.entry.Put.{Put}
use Rattle.re_terms.specs.declared.program.Body.{Body}
use Rattle.re_terms.specs.declared.program.Body.TheVariants as body
use Rattle.re_terms.specs.declared.program.Decl.{Decl}
use Rattle.re_record.specs.declared.slots.Role.{Role}
use Rattle.re_record.specs.declared.slots.Role.TheVariants as role
use Rattle.re_record.specs.declared.slots.Slot.{Slot}
use Rattle.re_wire.specs.Reading.{is_allowed_word}

-- a var is set, a source event fired, and a var or a fold changed; only a fold's word may be a fault
abbrev pub slot_of : Role → Body → Option Slot
slot_of role.Set (body.Var k start region) = Some (record { kind = k; fold = false })
slot_of role.Fire (body.Event k) = Some (record { kind = k; fold = false })
slot_of role.Change (body.Var k start region) = Some (record { kind = k; fold = false })
slot_of role.Change (body.Fold k start source expr region) = Some (record { kind = k; fold = true })
slot_of r b = None

-- the same of the declaration with this id, which is at least the other number
abbrev pub slot_from : List Decl → Role → ℕ → ℕ → Option Slot
slot_from decls r least id = if nat_lt id least then None else option_and_then (λ d. slot_of r d.body) (slice_get decls id)

-- what the vars and folds keep, in order of declaration
abbrev pub kept_slots : List Decl → List Slot
kept_slots decls = filter_map (λ d. slot_of role.Change d.body) decls
