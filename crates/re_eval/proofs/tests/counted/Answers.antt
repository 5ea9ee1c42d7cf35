use Rattle.re_eval.proofs.Givens.{is_given-both}
use Rattle.re_eval.proofs.tests.counted.Goals as goal

pub eval-requires : goal.eval-requires
eval-requires g c = is_given-both c.args.e.now
