-- The declarations that are resolved so far, and what is kept beside them.
-- Read against: behind `device a; symbol red; var x: int = 0;` one device, one var and one symbol are counted, and x stands for a value of kind int.
use Rattle.std.specs.Prelude.{ℕ, ◌≡◌, ◌≢◌, ◌≤◌, true, List, length, take, AllPairs, Some, slice_get, count_by}
use Rattle.std.specs.List.{list_all}
use Rattle.re_terms.specs.Trees.{is_name_text}
use Rattle.re_terms.specs.Cells.{is_cell}
use Rattle.re_terms.specs.Kinds.{is_symbol_sort, sorts_of, keeps_kinds}
use Rattle.re_terms.specs.Programs.{is_device, is_symbol, is_replicated, names_of, is_ranged}
use Rattle.re_terms.specs.declared.program.Decl.{Decl}
use Rattle.re_types.specs.Resolving.{scope_of}
use Rattle.re_types.specs.Scopes.{IsScope}
use Rattle.re_types.specs.declared.resolving.Table.{Table}

-- what the declarations of a program have, but for a device among them
pub record AreDeclarations (decls : List Decl) : Type 0 where
  pub few : length decls ≤ 512
  pub cells : count_by is_cell decls ≤ 256
  pub replicated : count_by is_replicated decls ≤ 32
  pub devices : count_by is_device decls ≤ 16
  pub names : list_all (λ d. is_name_text d.name) decls ≡ true
  pub distinct : AllPairs (λ a b. a ≢ b) (names_of decls)
  pub kinds : (id : ℕ) (d : Decl) → slice_get decls id ≡ Some d → keeps_kinds (take id decls) d.body ≡ true
  pub ranges : (id : ℕ) (d : Decl) → slice_get decls id ≡ Some d → is_ranged (count_by is_symbol (take id decls)) d.body ≡ true
  -- as many symbols are declared as their sorts say, and these are numbered below that
  pub symbols : count_by is_symbol_sort (sorts_of decls) ≡ count_by is_symbol decls
  pub scope : IsScope (scope_of decls)

-- the scope and the counts are those of the declarations
pub record IsTable (t : Table) : Type 0 where
  pub plain : t.decls.spare ≡ 0
  pub scope : t.scope ≡ scope_of t.decls.items
  pub devices : t.counts.devices ≡ count_by is_device t.decls.items
  pub cells : t.counts.cells ≡ count_by is_cell t.decls.items
  pub replicated : t.counts.replicated ≡ count_by is_replicated t.decls.items
  pub sound : AreDeclarations t.decls.items
