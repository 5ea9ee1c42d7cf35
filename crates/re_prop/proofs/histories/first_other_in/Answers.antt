use Rattle.re_prop.proofs.histories.first_other_in.Goals as goal

pub loop-row-init : goal.loop-row-init
loop-row-init g c = record { state = c.requires.state; cache = c.requires.cache }

pub does_as-requires-clause-state : goal.does_as-requires-clause-state
does_as-requires-clause-state g c = c.loop-row.invariant.state

pub does_as-requires-clause-cache : goal.does_as-requires-clause-cache
does_as-requires-clause-cache g c = c.loop-row.invariant.cache

pub loop-row-preserved : goal.loop-row-preserved
loop-row-preserved g c = record { state = c.in_ok-is_same.ensures.state; cache = c.in_ok-is_same.ensures.cache }
