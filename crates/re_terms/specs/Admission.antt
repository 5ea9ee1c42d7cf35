-- Which turns and entries a program allows.
-- Read against: on `device a; var x: int = 1; event e: int; counter c;` the turn `x = 2, fire e 3, add c 1` is allowed, with the ids 1 and 2 and the cell 0;
-- a turn without parts, one that sets e, one that sets x to true, and one of 65 parts are not.
use Rattle.std.specs.Prelude.{ℕ, ⊤, ◌+◌, ◌<◌, ◌≤◌, ◌≡◌, Bool, true, false, List, length, Option, None, Some, slice_get, count_by}
use Rattle.std.specs.Option.{option_map_or}
use Rattle.std.specs.List.{AllPairs, list_all}
use Rattle.re_terms.specs.Arithmetic.{is_word_number}
use Rattle.re_terms.specs.Programs.{is_symbol, is_device}
use Rattle.re_terms.specs.Shapes.{is_word_of, replicated_kinds, shape_of, FitsShape}
use Rattle.re_terms.specs.declared.word.Kind.{Kind}
use Rattle.re_terms.specs.declared.program.Body.{Body}
use Rattle.re_terms.specs.declared.program.Body.TheVariants as body
use Rattle.re_terms.specs.declared.program.Decl.{Decl}
use Rattle.re_terms.specs.declared.program.Program.{Program}
use Rattle.re_terms.specs.declared.entry.Put.{Put}
use Rattle.re_terms.specs.declared.entry.Turn.{Turn}
use Rattle.re_terms.specs.declared.entry.Entry.{Entry}
use Rattle.re_terms.specs.declared.entry.Entry.TheVariants as entry
use Rattle.re_terms.specs.declared.replicated.Act.{Act}
use Rattle.re_terms.specs.declared.replicated.Act.TheVariants as act
use Rattle.re_terms.specs.declared.replicated.RepOp.{RepOp}
use Rattle.re_terms.specs.declared.replicated.RKind.{RKind}
use Rattle.re_terms.specs.declared.replicated.RKind.TheVariants as replicated
use Rattle.re_terms.specs.declared.command.Command.{Command}
use Rattle.re_terms.specs.declared.command.Command.TheVariants as command

-- how many symbols are declared
abbrev pub symbol_count : List Decl → ℕ
symbol_count decls = count_by is_symbol decls

-- the kind of a var
abbrev pub var_kind : Body → Option Kind
var_kind (body.Var k start region) = Some k
var_kind b = None

-- the kind of a source event
abbrev pub source_kind : Body → Option Kind
source_kind (body.Event k) = Some k
source_kind b = None

-- the id is that of a declaration of one sort, and the word is of its kind
abbrev pub is_put_of : (Body → Option Kind) → List Decl → Put → Bool
is_put_of kind_of decls put = option_map_or (λ d. option_map_or (λ k. is_word_of (symbol_count decls) k put.word) (kind_of d.body) false) (slice_get decls put.id) false

-- a cell of this kind takes the act: an amount of 64 bits, or a word of its kind
abbrev pub is_act_of : ℕ → RKind → Act → Bool
is_act_of symbols replicated.Counter (act.Add amount) = is_word_number amount
is_act_of symbols (replicated.Set k) (act.Insert w) = is_word_of symbols k w
is_act_of symbols (replicated.Set k) (act.Remove w) = is_word_of symbols k w
is_act_of symbols (replicated.Register k start) (act.Write w) = is_word_of symbols k w
is_act_of symbols k a = false

-- among cells of these kinds one takes the operation
abbrev pub takes_operation : ℕ → List RKind → RepOp → Bool
takes_operation symbols kinds op = option_map_or (λ k. is_act_of symbols k op.act) (slice_get kinds op.cell) false

-- an operation on a replicated cell that takes it
abbrev pub is_operation_of : List Decl → RepOp → Bool
is_operation_of decls op = takes_operation (symbol_count decls) (replicated_kinds decls) op

-- how many parts a turn has
abbrev pub part_count : Turn → ℕ
part_count t = length t.sets.items + length t.fires.items + length t.ops.items

-- the ids ascend, each once
abbrev pub AreAscending : List Put → Type 0
AreAscending puts = AllPairs (λ a b. a.id < b.id) puts

-- a turn that the program allows
pub record IsAdmitted (p : Program) (t : Turn) : Type 0 where
  -- it sets vars and fires source events, each once, to words of their kinds
  pub sets : list_all (is_put_of var_kind p.decls.items) t.sets.items ≡ true
  pub set_order : AreAscending t.sets.items
  pub fires : list_all (is_put_of source_kind p.decls.items) t.fires.items ≡ true
  pub fire_order : AreAscending t.fires.items
  pub operations : list_all (is_operation_of p.decls.items) t.ops.items ≡ true
  -- it has 1 to 64 parts
  pub some : 1 ≤ part_count t
  pub few : part_count t ≤ 64

-- an entry of the program: a turn that it allows, or a replicated state of its shape
abbrev pub IsEntryOf : Program → Entry → Type 0
IsEntryOf p (entry.Turn t) = IsAdmitted p t
IsEntryOf p (entry.Merge r) = FitsShape (shape_of p) r

-- how many devices are declared
abbrev pub device_count : List Decl → ℕ
device_count decls = count_by is_device decls

-- what `get` may ask for: a var, fold, signal, counter, register or set
abbrev pub is_shown_body : Body → Bool
is_shown_body body.Device = false
is_shown_body body.Symbol = false
is_shown_body (body.Event k) = false
is_shown_body (body.Changed of) = false
is_shown_body (body.Map source k expr) = false
is_shown_body (body.Filter source expr) = false
is_shown_body (body.Either left right) = false
is_shown_body b = true

-- the declaration with this id is such a one
abbrev pub is_shown_at : List Decl → ℕ → Bool
is_shown_at decls id = option_map_or (λ d. is_shown_body d.body) (slice_get decls id) false

-- a command of the program: its device is declared, the program allows its turn, and what it asks for can be shown
abbrev pub IsCommandOf : Program → Command → Type 0
IsCommandOf p (command.Turn device t) = (device < device_count p.decls.items) × IsAdmitted p t.turn
IsCommandOf p (command.Lazy device t) = (device < device_count p.decls.items) × IsAdmitted p t.turn
IsCommandOf p (command.Settle device) = device < device_count p.decls.items
IsCommandOf p (command.Get device id) = (device < device_count p.decls.items) × (is_shown_at p.decls.items id ≡ true)
IsCommandOf p (command.Send device) = device < device_count p.decls.items
IsCommandOf p (command.Deliver packet device) = device < device_count p.decls.items
IsCommandOf p (command.Hex packet) = ⊤
IsCommandOf p (command.Crash device) = device < device_count p.decls.items
IsCommandOf p (command.Restart device) = device < device_count p.decls.items
