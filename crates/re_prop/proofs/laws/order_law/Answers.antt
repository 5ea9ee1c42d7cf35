use Rattle.re_terms.specs.Propagation.{is_cell_at, is_signal_at}
use Rattle.re_prop.proofs.Consequences.{differing_rises, differing_wanted}
use Rattle.re_prop.proofs.laws.order_law.Goals as goal

pub returns-clause-changes : goal.returns-clause-changes
returns-clause-changes c p step = differing_rises (is_cell_at p.decls.items) p step

pub returns-clause-cells : goal.returns-clause-cells
returns-clause-cells c p step = differing_wanted (is_cell_at p.decls.items) p step

pub returns-clause-signal_changes : goal.returns-clause-signal_changes
returns-clause-signal_changes c p step = differing_rises (is_signal_at p.decls.items) p step

pub returns-clause-signals : goal.returns-clause-signals
returns-clause-signals c p step = differing_wanted (is_signal_at p.decls.items) p step
