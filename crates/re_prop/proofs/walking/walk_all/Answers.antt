use Rattle.std.proofs.Common.{◌≡◌, ◌+◌, [], ◌∷◌, ◌++◌, length, ap, ◌∙◌, arith}
use Rattle.std.proofs.lemmas.List.{length_push}
use Rattle.re_terms.specs.Dependencies.{below}
use Rattle.re_terms.specs.Propagation.{no_effect, place_effect, step_in}
use Rattle.re_prop.specs.Effects.{effects_at}
use Rattle.re_prop.proofs.Along.{effects_push}
use Rattle.re_prop.proofs.Choosing.{item_at}
use Rattle.re_prop.proofs.Givens.{given_of}
use Rattle.re_prop.proofs.walking.walk_all.Goals as goal

pub word-word-requires-clause-given : goal.word-word-requires-clause-given
word-word-requires-clause-given g c = given_of c.args.walk.now.program.now c.walking.id c.decl-item.result c.requires.program (item_at c.args.walk.now.program.now.decls.items c.as_slice-decl-items.result.now c.walking.id c.decl-item.result c.as_slice-decl-items.ensures c.walking-test.true c.decl-item.is)

pub occurrence-value-requires-clause-given : goal.occurrence-value-requires-clause-given
occurrence-value-requires-clause-given g c = given_of c.args.walk.now.program.now c.walking.id c.decl-item.result c.requires.program (item_at c.args.walk.now.program.now.decls.items c.as_slice-decl-items.result.now c.walking.id c.decl-item.result c.as_slice-decl-items.ensures c.walking-test.true c.decl-item.is)

pub walking-preserved : goal.walking-preserved
walking-preserved g c =
    let walk = c.args.walk.now in
    let p = walk.program.now in
    let s = step_in walk.state.now walk.entry.now walk.after.now in
    let id = c.walking.id in
    let words = c.walking.effects.words.items in
    let values = c.walking.effects.values.items in
    let at = item_at p.decls.items c.as_slice-decl-items.result.now id c.decl-item.result c.as_slice-decl-items.ensures c.walking-test.true c.decl-item.is in
    let pushed = effects_push p s id c.decl-item.result words values c.word-word.result c.occurrence-value.result c.walking.invariant.words c.walking.invariant.values at c.walking.invariant.effects c.word-word.ensures.word c.occurrence-value.ensures.word in
    record {
      words = ap length c.in_ok-push.ensures.words ∙ length_push words c.word-word.result ∙ ap (λ n. n + 1) c.walking.invariant.words;
      values = ap length c.in_ok-push.ensures.values ∙ length_push values c.occurrence-value.result ∙ ap (λ n. n + 1) c.walking.invariant.values;
      effects = ap (λ ws. effects_at ws c.push.new.self.values.items) c.in_ok-push.ensures.words ∙ ap (effects_at (words ++ c.word-word.result ∷ [])) c.in_ok-push.ensures.values ∙ pushed;
      steps = omega (arith, c.word-word.ensures.steps, c.occurrence-value.ensures.steps, c.walking.invariant.steps);
      few = omega (arith, c.word-word.ensures.most, c.occurrence-value.ensures.most, c.walking.invariant.few);
    }

pub returns-clause-effects : goal.returns-clause-effects
returns-clause-effects g c =
    let walk = c.args.walk.now in
    let p = walk.program.now in
    let s = step_in walk.state.now walk.entry.now walk.after.now in
    let end : c.walking.id ≡ length p.decls.items = omega (arith, c.walking-test.false, c.walking.auto.id-end, ap length c.as_slice-decl-items.ensures) in
    c.walking.invariant.effects ∙ ap (below no_effect (place_effect p s)) end
