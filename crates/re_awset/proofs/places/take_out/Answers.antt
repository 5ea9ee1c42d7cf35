use Rattle.std.proofs.Common.{◌∙◌, ap, arith}
use Rattle.std.specs.List.{remove}
use Rattle.re_awset.proofs.Cuts.{remove-between}
use Rattle.re_awset.proofs.places.take_out.Goals as goal

pub loop-left-preserved : goal.loop-left-preserved
loop-left-preserved c =
    record {
      items =
          ap (λ l. l.items) c.remove.ensures.rest
          ∙ ap (λ l. remove l c.args.from) c.loop-left.invariant.items
          ∙ remove-between c.args.s.now.items c.args.from c.args.to c.loop-left.left c.loop-left-test.true c.loop-left.invariant.within c.requires.within;
      spare = ap (λ l. l.spare) c.remove.ensures.rest ∙ c.loop-left.invariant.spare;
      within = omega arith;
    }
