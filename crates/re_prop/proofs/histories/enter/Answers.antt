-- What an entry changes is put, so the state and the words of signals are those after it.
use Rattle.std.proofs.Common.{◌≡◌, ap, sym, subst, ◌∙◌}
use Rattle.re_terms.specs.Changes.{with_changes}
use Rattle.re_terms.specs.Propagation.{Step, changes, step_in, words_after}
use Rattle.re_terms.specs.Views.{view_of}
use Rattle.re_terms.specs.WordKinds.{AreWordsOf}
use Rattle.re_terms.proofs.StatesKept.{after_is}
use Rattle.re_prop.specs.Caching.{signal_words}
use Rattle.re_prop.proofs.Entering.{listed-declared, listed-placed, listed_signals-declared}
use Rattle.re_prop.proofs.histories.enter.Goals as goal

pub put_words-requires-clause-declared : goal.put_words-requires-clause-declared
put_words-requires-clause-declared g c =
    let step : Step = step_in c.args.s.now c.args.entry.now c.args.s.now.rep in
    let puts : c.as_slice.result.now ≡ changes c.args.p.now step = c.as_slice.ensures ∙ ap (λ l. l.items) c.in_ok-prepared.ensures.changes in
    listed-declared c.args.p.now step c.as_slice.result.now puts

pub put_words-requires-clause-placed : goal.put_words-requires-clause-placed
put_words-requires-clause-placed g c =
    let step : Step = step_in c.args.s.now c.args.entry.now c.args.s.now.rep in
    let puts : c.as_slice.result.now ≡ changes c.args.p.now step = c.as_slice.ensures ∙ ap (λ l. l.items) c.in_ok-prepared.ensures.changes in
    listed-placed c.args.p.now step c.as_slice.result.now c.requires.state.words.count puts

pub put-requires : goal.put-requires
put-requires g c =
    let step : Step = step_in c.args.s.now c.args.entry.now c.args.s.now.rep in
    listed_signals-declared c.args.p.now step c.args.c.now c.in_ok-prepared.prepared.signals.items c.requires.cache (ap (λ l. l.items) c.in_ok-prepared.ensures.signals)

pub returns-clause-state : goal.returns-clause-state
returns-clause-state g c =
    let s = c.args.s.now in
    let words = c.put_words.ensures ∙ ap (with_changes c.args.p.now.decls.items s.words.items) c.as_slice.ensures ∙ c.in_ok-prepared.ensures.words in
    let after = after_is c.args.p.now s c.args.entry.now s.rep c.requires.program c.requires.state c.requires.admitted c.requires.state.rep in
    record { words = subst (AreWordsOf c.args.p.now) (sym words) after.words; rep = after.rep }

pub returns-clause-cache : goal.returns-clause-cache
returns-clause-cache g c =
    let s = c.args.s.now in
    let words = c.put_words.ensures ∙ ap (with_changes c.args.p.now.decls.items s.words.items) c.as_slice.ensures ∙ c.in_ok-prepared.ensures.words in
    c.put.ensures ∙ c.in_ok-prepared.ensures.signal_words ∙ ap (λ l. signal_words c.args.p.now l (view_of s.rep)) (sym words)
