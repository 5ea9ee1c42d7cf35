use Rattle.std.proofs.Common.{◌≡◌, ◌<◌, ◌++◌, ◌∷◌, [], length, get_or, ap, ◌∙◌, arith}
use Rattle.std.proofs.lemmas.List.{get_or_default, length-set}
use Rattle.re_terms.specs.Listed.{plain}
use Rattle.re_graph.specs.Kept.{is_among, list_at}
use Rattle.re_graph.proofs.Steps.{link_step}
use Rattle.re_levels.proofs.places.link.Goals as goal

pub loop-input-preserved : goal.loop-input-preserved
loop-input-preserved c =
    let lists = c.loop-input.readers.items in
    let at = get_or c.args.inputs.now c.loop-input.input-index 0 in
    let declared : at < length lists = omega (arith, c.requires.declared c.loop-input.input-index 0 c.loop-input-test.true, c.loop-input.invariant.0) in
    let old : c.index_mut-found.result.now ≡ get_or lists at (plain []) = c.index_mut-found.ensures.value ∙ get_or_default lists at c.index_mut-found.result.now (plain []) declared in
    let pushed : c.push.new.self.items ≡ list_at lists at ++ c.args.id ∷ [] = ap (λ l. l.items) c.in_ok-push.ensures.ok ∙ ap (λ l. l.items ++ c.args.id ∷ []) old in (
      length-set lists at c.push.new.self ∙ c.loop-input.invariant.0,
      λ input other. link_step lists c.push.new.self c.args.inputs.now c.loop-input.input-index c.args.id input other (is_among (list_at c.args.readers.now.items input) other) c.loop-input-test.true declared pushed (c.loop-input.invariant.1 input other),
    )
