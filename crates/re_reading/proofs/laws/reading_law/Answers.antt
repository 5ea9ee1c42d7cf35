use Rattle.std.proofs.Common.{◌≡◌, true, List, [], ◌∷◌, refl, sym, ap, ◌∙◌, arith}
use Rattle.std.specs.Prelude.{count_by, nat_lt, Ok, Err}
use Rattle.std.specs.List.{list_all}
use Rattle.std.proofs.lemmas.Bool.{and_parts, and_from, lt-ltb, cond-true}
use Rattle.re_terms.specs.Listed.{plain}
use Rattle.re_terms.specs.Programs.{IsProgram, is_device}
use Rattle.re_terms.specs.declared.program.Decl.{Decl}
use Rattle.re_terms.specs.declared.program.Program.{Program}
use Rattle.re_types.specs.declared.fault.TypeFault.TheVariants as fault
use Rattle.re_types.specs.Resolving.{program_with}
use Rattle.re_print.specs.Canonical.{program_text}
use Rattle.re_reading.specs.ReadingBack.{ReadsBack}
use Rattle.re_reading.proofs.LineMeans.{lines_mean}
use Rattle.re_reading.proofs.LineReads.{derives, declarations_are}
use Rattle.re_reading.proofs.LineScans.{scans_lines}
use Rattle.re_reading.proofs.Scans.{scans_whole}
use Rattle.re_reading.proofs.Unresolved.{raw_declarations, program_marks, is_sayable_declaration, is_readable_body, is_written}
use Rattle.re_reading.proofs.laws.reading_law.Goals as goal

-- what is written can be said
said : (p : Program) (decls : List Decl) → list_all (is_written p) decls ≡ true → list_all (is_sayable_declaration p) decls ≡ true
said p [] h = refl
said p (d ∷ decls) h =
    let q = and_parts (is_written p d) (list_all (is_written p) decls) h in
    and_from _ _ (and_parts (is_sayable_declaration p d) (is_readable_body d.body) q.0).0 (said p decls q.1)

-- a list with nothing reserved
plain_is : (p : Program) → IsProgram p → record { decls = plain p.decls.items } ≡ p
plain_is p i = ap (λ n. record { decls = record { items = p.decls.items; spare = n } }) (sym i.plain)

means : (p : Program) → IsProgram p → program_with (Ok p.decls.items) ≡ Ok p
means p i =
    let some = i.device in
    cond-true (nat_lt 0 (count_by is_device p.decls.items)) (Ok (record { decls = plain p.decls.items })) (Err fault.NoDevice) (lt-ltb 0 (count_by is_device p.decls.items) (omega arith))
    ∙ ap Ok (plain_is p i)

reads_back : (p : Program) → IsProgram p → ReadsBack p
reads_back p i =
    let m = lines_mean p [] p.decls.items i refl in
    let s = scans_whole (program_text p) (program_marks p p.decls.items) (scans_lines p p.decls.items (said p p.decls.items m.written)) in
    record {
      tokens = s.tokens;
      decls = raw_declarations p p.decls.items;
      scanned = s.scanned;
      derived = derives p p.decls.items _ m.written s.same;
      ranged = record { plain = refl; declarations = declarations_are p p.decls.items m.written };
      means = ap program_with m.declared_are ∙ means p i;
    }

pub returns : goal.returns
returns c = reads_back
