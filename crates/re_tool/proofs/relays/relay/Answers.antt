use Rattle.std.proofs.Common.{◌+◌, ◌<◌, ◌≤◌, ◌∷◌, ap, length, refl, subst, sym, take, [], ◌∙◌, ◌≡◌}
use Rattle.std.specs.Prelude.{IsNone, slice_index_or}
use Rattle.std.proofs.lemmas.List.{map-append, take_all}
use Rattle.re_outside.specs.declared.step.Step.{Step}
use Rattle.re_terms.specs.Listed.{Listed}
use Rattle.re_tool.specs.Relay.{KeepsLog, Passes, Relays, nothing, steps_of}
use Rattle.re_tool.proofs.Relaying.{held_in, keeps_log, relays_on, stops_past}
use Rattle.re_tool.proofs.relays.relay.Goals as goal

pub loop-leg-init : goal.loop-leg-init
loop-leg-init c = subst (λ t. Relays [] c.args.files (steps_of t) c.args.files) (sym (ap (λ t. t.items) c.new-traces.ensures)) nothing

pub returns-in_default-clause-past : goal.returns-in_default-clause-past
returns-in_default-clause-past c = λ none.
    stops_past c.args.legs.now.items c.loop-leg.leg-index c.leg-item.result
    (subst (λ l. c.loop-leg.leg-index < length l) c.as_slice-leg-items.ensures c.loop-leg-test.true)
    (subst (λ l. c.leg-item.result ≡ slice_index_or l c.loop-leg.leg-index c.leg-item.result) c.as_slice-leg-items.ensures c.leg-item.is)
    c.loop-leg.invariant
    (c.in_ok-stopped.ensures.past (subst IsNone (sym c.in_default.is) refl))

pub loop-leg-preserved : goal.loop-leg-preserved
loop-leg-preserved c =
    let pushed = relays_on c.args.legs.now.items c.loop-leg.leg-index c.leg-item.result
    (subst (λ l. c.loop-leg.leg-index < length l) c.as_slice-leg-items.ensures c.loop-leg-test.true)
    (subst (λ l. c.leg-item.result ≡ slice_index_or l c.loop-leg.leg-index c.leg-item.result) c.as_slice-leg-items.ensures c.leg-item.is)
    c.loop-leg.invariant
    (held_in (λ s. Passes c.leg-item.result c.loop-leg.files s.trace.items s.files) c.in_ok-stopped.field-0 c.in-Some.stopped c.in-Some.is c.in_ok-stopped.ensures.passes) in
    subst (λ t. Relays (take (c.loop-leg.leg-index + 1) c.args.legs.now.items) c.args.files t c.in-Some.stopped.files) (sym (ap (λ t. steps_of t.items) c.in_ok-push.ensures.ok ∙ map-append (λ (t : Listed Step). t.items) c.loop-leg.traces.items (c.in-Some.stopped.trace ∷ []))) pushed

pub returns-clause-log : goal.returns-clause-log
returns-clause-log c = subst (λ l. KeepsLog l c.args.files c.loop-leg.files) (take_all c.loop-leg.leg-index c.args.legs.now.items (subst (λ l. length l ≤ c.loop-leg.leg-index) c.as_slice-leg-items.ensures c.loop-leg-test.false)) (keeps_log c.loop-leg.invariant)
