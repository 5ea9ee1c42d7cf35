use Rattle.std.proofs.Common.{ap, map, refl, subst, sym, ◌∙◌}
use Rattle.std.specs.Prelude.{Some}
use Rattle.re_terms.specs.Cells.{is_cell}
use Rattle.re_terms.specs.Changes.{with_changes}
use Rattle.re_terms.specs.Listed.{plain}
use Rattle.re_terms.specs.Propagation.{Step, is_cell_at, is_signal_at, is_signal_body, signal_changes, step_in}
use Rattle.re_terms.specs.Shapes.{shape_of}
use Rattle.re_terms.specs.Views.{cell_size}
use Rattle.re_terms.specs.WordKinds.{AreChangesOf}
use Rattle.re_terms.proofs.ChangesKept.{changes_kept}
use Rattle.re_terms.proofs.PutWords.{words_put}
use Rattle.re_terms.proofs.StatesKept.{step_is}
use Rattle.re_prop.specs.Caching.{put_all}
use Rattle.re_prop.proofs.Choosing.{differs_at}
use Rattle.re_prop.proofs.Fits.{sets_of_fit}
use Rattle.re_prop.proofs.Putting.{put_signals}
use Rattle.re_prop.proofs.Uses.{differing_is, marks_few}
use Rattle.re_prop.proofs.propagation.propagate.Goals as goal

pub sizes-requires : goal.sizes-requires
sizes-requires g c = sets_of_fit (shape_of c.args.p.now) c.args.after.now c.as_slice.result.now c.as_slice.ensures c.requires.after

pub invariant_of-walk-clause-sets : goal.invariant_of-walk-clause-sets
invariant_of-walk-clause-sets g c = sets_of_fit (shape_of c.args.p.now) c.args.after.now c.args.after.now.cells.items refl c.requires.after

pub invariant_of-walk-clause-sized : goal.invariant_of-walk-clause-sized
invariant_of-walk-clause-sized g c = c.deref.ensures.value ∙ c.in_ok-sizes.ensures ∙ ap (map (λ r. cell_size (Some r))) c.as_slice.ensures

pub chosen-requires : goal.chosen-requires
chosen-requires g c = marks_few (differs_at (is_cell_at c.as_slice-decls.result.now) c.deref-3.result.now c.deref-4.result.now) c.args.p.now.decls.items c.as_slice-decls.result.now c.in_ok-changed.changed.items c.deref-7.result.now c.requires.program.few c.as_slice-decls.ensures c.in_ok-changed.ensures c.deref-7.ensures.value

pub chosen-requires-2 : goal.chosen-requires-2
chosen-requires-2 g c = marks_few (differs_at (is_signal_at c.as_slice-decls.result.now) c.deref-5.result.now c.deref-6.result.now) c.args.p.now.decls.items c.as_slice-decls.result.now c.in_ok-signals.signals.items c.deref-9.result.now c.requires.program.few c.as_slice-decls.ensures c.in_ok-signals.ensures c.deref-9.ensures.value

pub returns-clause-changes : goal.returns-clause-changes
returns-clause-changes g c =
    c.in_ok-chosen.ensures
    ∙ ap plain (differing_is is_cell c.args.p.now c.args.s.now c.args.entry.now c.args.after.now c.as_slice-decls.result.now c.deref-3.result.now c.deref-4.result.now c.in_ok-effects.effects.words.items c.deref-8.result.now c.in_ok-effects.effects.values.items c.in_ok-changed.changed.items c.deref-7.result.now c.as_slice-decls.ensures (c.deref-3.ensures.value ∙ c.in_ok-before.ensures) c.deref-4.ensures.value c.deref-8.ensures.value c.in_ok-effects.ensures.effects c.in_ok-changed.ensures c.deref-7.ensures.value)

pub returns-clause-signals : goal.returns-clause-signals
returns-clause-signals g c =
    c.in_ok-chosen-2.ensures
    ∙ ap plain (differing_is (λ d. is_signal_body d.body) c.args.p.now c.args.s.now c.args.entry.now c.args.after.now c.as_slice-decls.result.now c.deref-5.result.now c.deref-6.result.now c.in_ok-effects.effects.words.items c.deref-10.result.now c.in_ok-effects.effects.values.items c.in_ok-signals.signals.items c.deref-9.result.now c.as_slice-decls.ensures (c.deref-5.ensures.value ∙ c.in_ok-before.ensures) c.deref-6.ensures.value c.deref-10.ensures.value c.in_ok-effects.ensures.effects c.in_ok-signals.ensures c.deref-9.ensures.value)

pub returns-clause-kinds : goal.returns-clause-kinds
returns-clause-kinds g c =
    let p = c.args.p.now in
    let step : Step = step_in c.args.s.now c.args.entry.now c.args.after.now in
    let kept = step_is p c.args.s.now c.args.entry.now c.args.after.now c.requires.program c.requires.state c.requires.admitted c.requires.after in
    subst (AreChangesOf p) (sym (ap (λ l. l.items) (returns-clause-changes g c))) (changes_kept p c.requires.program step kept)

pub returns-clause-words : goal.returns-clause-words
returns-clause-words g c =
    let p = c.args.p.now in
    let step : Step = step_in c.args.s.now c.args.entry.now c.args.after.now in
    ap (λ l. with_changes p.decls.items c.args.s.now.words.items l.items) (returns-clause-changes g c) ∙ words_put p step c.requires.state.words.count

pub returns-clause-signal_words : goal.returns-clause-signal_words
returns-clause-signal_words g c =
    let p = c.args.p.now in
    let s = c.args.s.now in
    let step : Step = step_in s c.args.entry.now c.args.after.now in
    ap (put_all c.args.c.now) (ap (λ l. l.items) (returns-clause-signals g c))
    ∙ ap (λ l. put_all l (signal_changes p step)) c.requires.cache
    ∙ put_signals p step
