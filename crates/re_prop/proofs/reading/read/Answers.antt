use Rattle.std.proofs.Common.{◌≡◌, ◌<◌, ◌&&◌, ℕ, false, length, sym, ap, subst, ◌∙◌}
use Rattle.std.specs.Prelude.{IfOk, slice_index_or}
use Rattle.std.specs.List.{All}
use Rattle.re_terms.specs.Dependencies.{reach}
use Rattle.re_terms.specs.Listed.{plain}
use Rattle.re_prop.specs.Reading.{is_used, is_valued_at}
use Rattle.re_prop.specs.Touched.{touched}
use Rattle.re_graph.proofs.Supports.{All-reach}
use Rattle.re_prop.proofs.Uses.{marks_few, read_is, touched_below}
use Rattle.re_prop.proofs.reading.read.Goals as goal

pub reach-requires : goal.reach-requires
reach-requires c = touched_below c.args.p.now c.args.s.now c.args.entry.now c.args.after.now c.args.g.now c.in_ok-touched.touched.items c.requires.graph (ap (λ l. l.items) c.in_ok-touched.ensures)

pub used-requires : goal.used-requires
used-requires c =
    let touched = c.in_ok-touched.touched.items in
    subst (λ xs. All (λ id. id < length c.args.g.now) xs) (sym (c.as_slice.ensures ∙ ap (λ l. l.items) c.in_ok-reached.ensures)) (All-reach c.args.g.now touched)

pub chosen-requires : goal.chosen-requires
chosen-requires c = marks_few (λ id. is_valued_at c.as_slice-decls.result.now id && slice_index_or c.deref.result.now id false) c.args.p.now.decls.items c.as_slice-decls.result.now c.in_ok-marks.marks.items c.deref-2.result.now c.requires.few c.as_slice-decls.ensures c.in_ok-marks.ensures c.deref-2.ensures.value

pub returns : goal.returns
returns c =
    let p = c.args.p.now in
    let s = c.args.s.now in
    let e = c.args.entry.now in
    let behind = c.args.after.now in
    let graph = c.args.g.now in
    let reached : c.as_slice.result.now ≡ reach graph (touched p s e behind) = c.as_slice.ensures ∙ ap (λ l. l.items) c.in_ok-reached.ensures ∙ ap (λ l. reach graph l.items) c.in_ok-touched.ensures in
    let used : (id : ℕ) → id < length c.as_slice-decls.result.now → slice_index_or c.deref.result.now id false ≡ is_used graph c.as_slice.result.now id = λ id under. ap (λ l. slice_index_or l id false) c.deref.ensures.value ∙ c.in_ok-used.ensures.marks id under in
    subst (λ puts_are. IfOk c.chosen.result (λ puts. puts ≡ plain puts_are))
    (read_is p s e behind c.as_slice-decls.result.now graph c.as_slice.result.now c.deref.result.now c.args.before.now c.in_ok-marks.marks.items c.deref-2.result.now c.as_slice-decls.ensures c.requires.graph reached used c.requires.before c.in_ok-marks.ensures c.deref-2.ensures.value)
    c.chosen.ensures
