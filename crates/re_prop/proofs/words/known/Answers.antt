use Rattle.std.proofs.Common.{ap, sym, ◌∙◌, arith, length}
use Rattle.re_terms.specs.Dependencies.{below}
use Rattle.re_terms.specs.Propagation.{is_signal_body}
use Rattle.re_terms.specs.SignalWords.{no_word, place_word}
use Rattle.re_terms.specs.Views.{view_of}
use Rattle.std.proofs.lemmas.Option.{slice_get_within}
use Rattle.re_prop.proofs.Before.{cached_at, length-signal_words, not_signal, signal_word-own}
use Rattle.re_prop.proofs.words.known.Goals as goal

pub word-requires : goal.word-requires
word-requires c = omega (arith, slice_get_within c.args.p.now.decls.items c.args.id c.args.decl.now c.requires.at, ap length c.requires.cache, length-signal_words c.args.p.now c.args.s.now.words.items (view_of c.args.s.now.rep))

pub returns-in-Signal : goal.returns-in-Signal
returns-in-Signal c =
    c.word.ensures
    ∙ cached_at c.args.p.now c.args.s.now.words.items (view_of c.args.s.now.rep) c.args.id c.args.decl.now c.args.c.now c.requires.cache c.requires.at (ap is_signal_body c.in-Signal.is)

pub returns-in_default : goal.returns-in_default
returns-in_default c =
    let p = c.args.p.now in
    let cells = c.args.s.now.words.items in
    let view = view_of c.args.s.now.rep in
    let words = below no_word (place_word p.decls.items cells view) c.args.id in
    c.stored.ensures (not_signal c.args.decl.now.body c.in_default.not-Signal) words ∙ sym (signal_word-own p cells view c.args.id c.args.decl.now c.requires.at)
