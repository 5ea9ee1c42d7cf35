use Rattle.std.proofs.Common.{◌||◌, get_or, sym, ap, ◌∙◌}
use Rattle.std.specs.List.{list_any}
use Rattle.re_graph.specs.Footprint.{is_region}
use Rattle.re_graph.specs.Kept.{has_bit}
use Rattle.re_graph.proofs.Bits.{has_bit-joined}
use Rattle.re_graph.proofs.regions.behind.Goals as goal

pub returns-in-Some : goal.returns-in-Some
returns-in-Some c = λ region.
    let inputs = list_any (λ id. has_bit (get_or c.args.regions.now id 0) region) c.args.node.now.inputs.items in
    has_bit-joined c.joined-inputs.result c.in-Some.region region inputs (c.requires.few c.in-Some.region c.in-Some.is)
    (c.joined-inputs.ensures region ∙ ap (list_any (λ id. has_bit (get_or c.args.regions.now id 0) region)) c.as_slice.ensures)
    ∙ ap (λ own. is_region own region || inputs) (sym c.in-Some.is)
