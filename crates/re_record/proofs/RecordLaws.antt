-- What the readers of records read is what a record of the program may hold.
use Rattle.std.proofs.Common.{◌≡◌, ℕ, zero, suc, ◌+◌, ◌<◌, ◌≤◌, Bool, true, List, [], ◌∷◌, length, get_or, Result, Ok, Err, refl, sym, ap, ◌∙◌, arith}
use Rattle.std.specs.Prelude.{◌&&◌, IfOk}
use Rattle.std.specs.List.{All, list_all}
use Rattle.std.proofs.lemmas.Bool.{and_parts, and_from}
use Rattle.std.proofs.lemmas.List.Elements.{All-cons}
use Rattle.re_record.specs.Logs.{IsPlain, IsLoggedOf, IsRecordOf}
use Rattle.re_record.specs.Reading.{record_at}
use Rattle.re_record.specs.Spellings.{record_bytes}
use Rattle.re_record.specs.declared.slots.Role.TheVariants as role
use Rattle.re_record.proofs.AgainRecords.{record_again}
use Rattle.re_record.proofs.Roles.{is_put_in, is_set, is_fire, is_change, all_in, ascends, puts_from}
use Rattle.re_record.proofs.TakesPuts.{ArePuts}
use Rattle.re_record.proofs.TakesRecords.{Each, AreOperations, TurnParts, EntryParts, LoggedParts, RecordTaken, record_takes}
use Rattle.re_terms.proofs.ProgramShapes.{program_shape}
use Rattle.re_terms.specs.Admission.{IsAdmitted, IsEntryOf, is_operation_of, symbol_count, takes_operation}
use Rattle.re_terms.specs.Listed.{Listed, plain}
use Rattle.re_terms.specs.Programs.{IsProgram}
use Rattle.re_terms.specs.Shapes.{IsShape, shape_of}
use Rattle.re_terms.specs.WordKinds.{AreChangesOf}
use Rattle.re_terms.specs.declared.entry.Entry.{Entry}
use Rattle.re_terms.specs.declared.entry.Entry.TheVariants as entry
use Rattle.re_terms.specs.declared.entry.Logged.{Logged}
use Rattle.re_terms.specs.declared.entry.Put.{Put}
use Rattle.re_terms.specs.declared.entry.Turn.{Turn}
use Rattle.re_terms.specs.declared.program.Program.{Program}
use Rattle.re_terms.specs.declared.replicated.RepOp.{RepOp}
use Rattle.re_wire.proofs.Bytes.{IsBytes}
use Rattle.re_wire.specs.declared.fault.WireFault.{WireFault}
use Rattle.re_wire.specs.Reading.{Gives}

-- ---- lists

same_all : {X : Type 0} (f g : X → Bool) → ((x : X) → f x ≡ g x) → (xs : List X) → list_all f xs ≡ list_all g xs
same_all f g h [] = refl
same_all f g h (x ∷ xs) = λ i. h x i && same_all f g h xs i

each_all : {X : Type 0} (P : X → Type 0) (xs : List X) → Each P xs → All P xs
each_all P [] each = λ k d lt. absurd (omega arith)
each_all P (x ∷ xs) each = All-cons P x xs each.0 (each_all P xs each.1)

all_each : {X : Type 0} (P : X → Type 0) (xs : List X) → All P xs → Each P xs
all_each P [] all = tt
all_each P (x ∷ xs) all = (all 0 x (omega arith), all_each P xs (λ k d lt. all (suc k) d (omega arith)))

each_weaker : {X : Type 0} (P Q : X → Type 0) → ((x : X) → P x → Q x) → (xs : List X) → Each P xs → Each Q xs
each_weaker P Q h [] each = tt
each_weaker P Q h (x ∷ xs) each = (h x each.0, each_weaker P Q h xs each.1)

passes : {X : Type 0} (f : X → Bool) (xs : List X) → Each (λ x. f x ≡ true) xs → list_all f xs ≡ true
passes f [] each = refl
passes f (x ∷ xs) each = and_from _ _ each.0 (passes f xs each.1)

passed : {X : Type 0} (f : X → Bool) (xs : List X) → list_all f xs ≡ true → Each (λ x. f x ≡ true) xs
passed f [] all = tt
passed f (x ∷ xs) all = let both = and_parts (f x) (list_all f xs) all in (both.0, passed f xs both.1)

from_zero : (puts : List Put) → All (λ put. 0 ≤ put.id) puts
from_zero puts k d lt = omega arith

-- ---- entries

admitted : (p : Program) (t : Turn) → TurnParts p.decls.items (shape_of p) t → IsAdmitted p t
admitted p t parts =
    let decls = p.decls.items in
    record {
      sets = sym (same_all (is_put_in decls (symbol_count decls) role.Set) _ (is_set decls) t.sets.items) ∙ all_in decls (symbol_count decls) role.Set 0 t.sets.items parts.sets;
      set_order = ascends decls (symbol_count decls) role.Set 0 t.sets.items parts.sets;
      fires = sym (same_all (is_put_in decls (symbol_count decls) role.Fire) _ (is_fire decls) t.fires.items) ∙ all_in decls (symbol_count decls) role.Fire 0 t.fires.items parts.fires;
      fire_order = ascends decls (symbol_count decls) role.Fire 0 t.fires.items parts.fires;
      operations = passes (is_operation_of decls) t.ops.items parts.ops;
      some = parts.some;
      few = parts.few;
    }

turn_parts : (p : Program) (t : Turn) → IsAdmitted p t → IsPlain (entry.Turn t) → TurnParts p.decls.items (shape_of p) t
turn_parts p t is plain_is =
    let decls = p.decls.items in
    record {
      sets = puts_from decls (symbol_count decls) role.Set 0 t.sets.items (same_all (is_put_in decls (symbol_count decls) role.Set) _ (is_set decls) t.sets.items ∙ is.sets) is.set_order (from_zero t.sets.items);
      fires = puts_from decls (symbol_count decls) role.Fire 0 t.fires.items (same_all (is_put_in decls (symbol_count decls) role.Fire) _ (is_fire decls) t.fires.items ∙ is.fires) is.fire_order (from_zero t.fires.items);
      ops = passed (is_operation_of decls) t.ops.items is.operations;
      some = is.some;
      few = is.few;
      plain = plain_is;
    }

entry_of : (p : Program) (e : Entry) → EntryParts p.decls.items (shape_of p) e → IsEntryOf p e × IsPlain e
entry_of p (entry.Turn t) parts = (admitted p t parts, parts.plain)
entry_of p (entry.Merge r) fits = (fits, fits.plain)

entry_parts : (p : Program) (e : Entry) → IsEntryOf p e → IsPlain e → EntryParts p.decls.items (shape_of p) e
entry_parts p (entry.Turn t) is plain_is = turn_parts p t is plain_is
entry_parts p (entry.Merge r) fits plain_is = fits

logged_of : (p : Program) (l : Logged) → LoggedParts p.decls.items (shape_of p) l → IsLoggedOf p l
logged_of p l parts =
    let decls = p.decls.items in
    let e = entry_of p l.entry parts.entry in
    record {
      entry = e.0;
      changes = record {
        order = ascends decls (symbol_count decls) role.Change 0 l.changes.items parts.changes;
        kinds = sym (same_all (is_put_in decls (symbol_count decls) role.Change) _ (is_change decls) l.changes.items) ∙ all_in decls (symbol_count decls) role.Change 0 l.changes.items parts.changes;
      };
      few = parts.few;
      entry_plain = e.1;
      changes_plain = parts.plain;
    }

logged_parts : (p : Program) (l : Logged) → IsLoggedOf p l → LoggedParts p.decls.items (shape_of p) l
logged_parts p l is =
    let decls = p.decls.items in
    record {
      entry = entry_parts p l.entry is.entry is.entry_plain;
      changes = puts_from decls (symbol_count decls) role.Change 0 l.changes.items (same_all (is_put_in decls (symbol_count decls) role.Change) _ (is_change decls) l.changes.items ∙ is.changes.kinds) is.changes.order (from_zero l.changes.items);
      few = is.few;
      plain = is.changes_plain;
    }

-- ---- records

pub record RecordStands (p : Program) (bytes : List ℕ) (entries : Listed Logged) : Type 0 where
  pub fits : IsRecordOf p entries.items
  pub text : bytes ≡ record_bytes (shape_of p).devices entries.items
  pub plain_is : entries.spare ≡ 0

pub record_stands : (p : Program) (bytes : List ℕ) (r : Result (Listed Logged) WireFault) → IsProgram p → IsBytes bytes → Gives r (record_at p (shape_of p) bytes) → IfOk r (RecordStands p bytes)
record_stands p bytes (Ok x) is_program fits given =
    let t = record_takes p (shape_of p) bytes x (program_shape p is_program) fits given in
    record {
      fits = record { some = t.some; few = t.few; each = each_all (IsLoggedOf p) x.items (each_weaker (LoggedParts p.decls.items (shape_of p)) (IsLoggedOf p) (logged_of p) x.items t.each) };
      text = t.text;
      plain_is = t.plain;
    }
record_stands p bytes (Err e) is_program fits given = tt

pub record_there : (p : Program) (bytes : List ℕ) (entries : List Logged) → IsProgram p → IsRecordOf p entries → bytes ≡ record_bytes (shape_of p).devices entries → record_at p (shape_of p) bytes ≡ Ok (plain entries)
record_there p bytes entries is_program is e =
    record_again p (shape_of p) bytes entries is_program.few (program_shape p is_program) (each_weaker (IsLoggedOf p) (LoggedParts p.decls.items (shape_of p)) (logged_parts p) entries (all_each (IsLoggedOf p) entries is.each)) is.some is.few e
