-- The entries before it, as a record of their own, end where its tag stands.
use Rattle.std.proofs.Common.{List, subst, sym, ap, ◌∙◌, arith}
use Rattle.re_outside.specs.Listed.{plain}
use Rattle.re_record.specs.Logs.{IsRecord}
use Rattle.re_record.specs.Spellings.{record_bytes}
use Rattle.re_terms.specs.Shapes.{IsShape}
use Rattle.re_terms.specs.declared.entry.Logged.{Logged}
use Rattle.re_terms.proofs.ProgramShapes.{program_shape}
use Rattle.re_restore.proofs.Replayed.{front_record, place_behind}
use Rattle.re_restore.proofs.records.tag_place.Goals as goal

pub put_entries-requires-clause-shape : goal.put_entries-requires-clause-shape
put_entries-requires-clause-shape c = subst IsShape (sym c.requires.shape) (program_shape c.args.p.now c.requires.program)

pub put_entries-requires-clause-bytes : goal.put_entries-requires-clause-bytes
put_entries-requires-clause-bytes c =
    let some = c.if-i-eq0.false in
    subst (λ (l : List Logged). IsRecord c.args.shape.now l) (sym (ap (λ l. l.items) c.truncate.ensures))
    (front_record c.args.p.now c.args.shape.now c.args.entries.items c.args.i c.requires.shape c.requires.record (omega (arith, some)) c.requires.within)

pub returns-clause-place : goal.returns-clause-place
returns-clause-place c =
    c.len-2.ensures
    ∙ place_behind c.args.p.now c.args.shape.now _ c.in_ok-put_entries.field-0 c.requires.shape
    (c.in_ok-put_entries.ensures ∙ ap (λ l. plain (record_bytes c.args.shape.now.devices l.items)) c.truncate.ensures)
