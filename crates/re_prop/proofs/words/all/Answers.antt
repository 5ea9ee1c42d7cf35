use Rattle.std.proofs.Common.{ap, ◌∙◌}
use Rattle.re_terms.specs.SignalWords.{signal_word, body_word, no_word}
use Rattle.re_terms.specs.Views.{view_of}
use Rattle.std.specs.Prelude.{slice_index_or}
use Rattle.re_prop.proofs.Before.{next_word}
use Rattle.re_prop.proofs.Choosing.{item_at, range_push}
use Rattle.re_prop.proofs.Givens.{given_of}
use Rattle.re_prop.proofs.words.all.Goals as goal

pub computed-word-requires-clause-given : goal.computed-word-requires-clause-given
computed-word-requires-clause-given g c = given_of c.args.p.now c.computing.id c.decl-item.result c.requires.program (item_at c.args.p.now.decls.items c.as_slice-decl-items.result.now c.computing.id c.decl-item.result c.as_slice-decl-items.ensures c.computing-test.true c.decl-item.is)

pub computing-preserved : goal.computing-preserved
computing-preserved g c =
    let p = c.args.p.now in
    let cells = c.args.s.now.words.items in
    let view = view_of c.args.s.now.rep in
    let id = c.computing.id in
    let decl = c.decl-item.result in
    let at = item_at p.decls.items c.as_slice-decl-items.result.now id decl c.as_slice-decl-items.ensures c.computing-test.true c.decl-item.is in
    let found = c.computed-word.ensures ∙ ap (λ ws. body_word p.decls.items cells view id decl.body (λ name. slice_index_or ws name no_word)) c.deref.ensures.value in
    c.in_ok-push.ensures.items ∙ range_push (signal_word p cells view) c.computing.words.items id c.computed-word.result c.computing.invariant (next_word p cells view id decl c.computing.words.items c.computed-word.result at c.computing.invariant found)
