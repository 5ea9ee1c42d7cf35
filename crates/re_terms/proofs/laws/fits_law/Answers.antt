use Rattle.re_terms.proofs.Fitting.{state_fits}
use Rattle.re_terms.proofs.laws.fits_law.Goals as goal

pub returns : goal.returns
returns c = λ shape log us causal within shaped limits. state_fits shape log us causal within shaped limits
