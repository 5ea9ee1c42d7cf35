use Rattle.re_prop.specs.Sample.{program_of, diamond, faulty, dividing, counting, clearing}
use Rattle.re_prop.proofs.Samples.{diamond-sample, faulty-sample, dividing-sample, counting-sample, clearing-sample, of_sample}
use Rattle.re_prop.proofs.tests.sample.Goals as goal

pub returns-in-0 : goal.returns-in-0
returns-in-0 c = of_sample c.diamond.result (program_of diamond) diamond-sample c.diamond.ensures

pub returns-in-1 : goal.returns-in-1
returns-in-1 c = of_sample c.faulty.result (program_of faulty) faulty-sample c.faulty.ensures

pub returns-in-2 : goal.returns-in-2
returns-in-2 c = of_sample c.dividing.result (program_of dividing) dividing-sample c.dividing.ensures

pub returns-in-3 : goal.returns-in-3
returns-in-3 c = of_sample c.counting.result (program_of counting) counting-sample c.counting.ensures

pub returns-in_default : goal.returns-in_default
returns-in_default c = of_sample c.clearing.result (program_of clearing) clearing-sample c.clearing.ensures
