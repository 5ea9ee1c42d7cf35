use Rattle.std.proofs.Common.{◌∙◌, sym, ap}
use Rattle.re_tool.specs.Lines.{without_return}
use Rattle.re_tool.specs.Part.{is_separator}
use Rattle.re_tool.proofs.Parts.{part_start, part_more, part_divides, part_ends, part_ends_within, part_fails, part_too_long, part_stops, part_stops_behind, line_smaller}
use Rattle.re_tool.proofs.part.read_part.Goals as goal

pub lines-init : goal.lines-init
lines-init g c = part_start _ _ _ _ c.requires.start c.new-text.ensures c.new-line.ensures

pub returns-in-Err-Memory : goal.returns-in-Err-Memory
returns-in-Err-Memory g c =
    let e = rw c.in-Err-Memory.field-0-is at c.in-Err-Memory.ensures in
    part_stops _ _ _ _ _ _ _ c.next.new.line c.lines.invariant e.0 e.1

pub returns-in-Err-Input : goal.returns-in-Err-Input
returns-in-Err-Input g c =
    let e = rw c.in-Err-Input.field-0-is at c.in-Err-Input.ensures in
    part_fails _ _ _ _ _ _ _ _ c.lines.invariant e.0 e.1 e.2

pub returns-in-Ok-TooLong : goal.returns-in-Ok-TooLong
returns-in-Ok-TooLong g c =
    let e = rw c.in-Ok-TooLong.field-0-is at c.in-Ok-TooLong.ensures in
    part_too_long _ _ _ _ _ _ _ _ c.lines.invariant e.0 e.1 e.2

pub returns-then-ends_part : goal.returns-then-ends_part
returns-then-ends_part g c =
    let e = rw c.in-Ok-End.field-0-is at c.in-Ok-End.ensures in
    part_ends _ _ _ _ _ _ _ _ c.lines.invariant e.0 e.1 e.2 e.3 (ap is_separator (sym c.bytes.ensures) ∙ sym c.ends_part.ensures ∙ c.if-ends_part.true)

pub returns-in_default : goal.returns-in_default
returns-in_default g c =
    let e = rw c.in-Ok-End.field-0-is at c.in-Ok-End.ensures in
    part_stops_behind _ _ _ _ _ _ _ _ c.lines.invariant e.0 e.1

pub returns-in-Ok-End : goal.returns-in-Ok-End
returns-in-Ok-End g c =
    let e = rw c.in-Ok-End.field-0-is at c.in-Ok-End.ensures in
    part_ends_within _ _ _ _ _ _ _ _ c.lines.invariant _ e.0 e.1 e.2 e.3 (ap is_separator (sym c.bytes.ensures) ∙ sym c.ends_part.ensures ∙ c.if-ends_part.false) (rw c.bytes-in-Ok-End.ensures at c.in-Ok.ensures)

pub returns-then-ends_part-2 : goal.returns-then-ends_part-2
returns-then-ends_part-2 g c =
    let e = rw c.in-Ok-Line.field-0-is at c.in-Ok-Line.ensures in
    part_divides _ _ _ _ _ _ _ _ c.lines.invariant e.0 e.1
    (ap (λ l. is_separator (without_return l)) (sym c.bytes-in-Ok-Line.ensures) ∙ ap is_separator (sym c.trim_return.ensures) ∙ sym c.ends_part-in-Ok-Line.ensures ∙ c.if-ends_part-2.true)

pub lines-smaller : goal.lines-smaller
lines-smaller g c =
    let e = rw c.in-Ok-Line.field-0-is at c.in-Ok-Line.ensures in
    line_smaller _ _ _ _ _ _ e.0 e.1

pub lines-preserved : goal.lines-preserved
lines-preserved g c =
    let e = rw c.in-Ok-Line.field-0-is at c.in-Ok-Line.ensures in
    part_more _ _ _ _ _ _ _ _ c.lines.invariant _ e.0 e.1
    (ap (λ l. is_separator (without_return l)) (sym c.bytes-in-Ok-Line.ensures) ∙ ap is_separator (sym c.trim_return.ensures) ∙ sym c.ends_part-in-Ok-Line.ensures ∙ c.if-ends_part-2.false)
    (rw c.bytes-in-Ok-Line-2.ensures at c.in-Ok-append_line.ensures)

pub returns-in_default-append_line : goal.returns-in_default-append_line
returns-in_default-append_line g c =
    let e = rw c.in-Ok-Line.field-0-is at c.in-Ok-Line.ensures in
    part_stops_behind _ _ _ _ _ _ _ _ c.lines.invariant e.0 e.1
