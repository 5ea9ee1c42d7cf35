-- What an entry of a program does to a replay of it.
use Rattle.std.proofs.Common.{◌≡◌, List, subst, sym, true}
use Rattle.std.specs.List.{list_all}
use Rattle.re_terms.specs.Admission.{IsEntryOf}
use Rattle.re_terms.specs.Changes.{with_changes}
use Rattle.re_terms.specs.Listed.{Listed}
use Rattle.re_terms.specs.Shapes.{shape_of}
use Rattle.re_terms.specs.WordKinds.{AreWordsOf, is_change_of}
use Rattle.re_terms.specs.declared.entry.Entry.{Entry}
use Rattle.re_terms.specs.declared.entry.Entry.TheVariants as entry
use Rattle.re_terms.specs.declared.entry.Put.{Put}
use Rattle.re_terms.specs.declared.program.Program.{Program}
use Rattle.re_terms.specs.declared.replicated.Shape.{Shape}
use Rattle.re_terms.specs.declared.word.Word.{Word}
use Rattle.re_terms.proofs.ChangesKept.{puts_kept}
use Rattle.re_restore.specs.Replaying.{TakesEntry}

-- a replicated state of the program's shape takes it
takes_entry : (p : Program) (e : Entry) → IsEntryOf p e → TakesEntry (shape_of p) e
takes_entry p (entry.Turn t) is = is.operations
takes_entry p (entry.Merge r) is = is

pub takes_in : (p : Program) (shape : Shape) (e : Entry) → shape ≡ shape_of p → IsEntryOf p e → TakesEntry shape e
takes_in p shape e same is = subst (λ s. TakesEntry s e) (sym same) (takes_entry p e is)

-- words of their kinds with its changes put are of their kinds
pub words_kept : (p : Program) (words after : Listed Word) (puts : List Put) → AreWordsOf p words.items → list_all (is_change_of p.decls.items) puts ≡ true → after ≡ record { items = with_changes p.decls.items words.items puts; spare = words.spare } → AreWordsOf p after.items
words_kept p words after puts are changes is = subst (λ (l : Listed Word). AreWordsOf p l.items) (sym is) (puts_kept p words.items puts are changes)
