use Rattle.std.proofs.Common.{false, refl, subst, sym, true, ◌∙◌, ◌≡◌}
use Rattle.std.specs.Prelude.{IsNone}
use Rattle.re_fakes.specs.Told.{world_of}
use Rattle.re_fakes.specs.World.{new_world, seen_of}
use Rattle.re_tool.specs.Stops.{Survives}
use Rattle.re_tool.proofs.Relaying.{held_in, run_past, run_stops}
use Rattle.re_tool.proofs.relays.run_leg.Goals as goal

pub returns-in_default-clause-past : goal.returns-in_default-clause-past
returns-in_default-clause-past c = λ none.
    run_past c.args.leg.now c.args.files (world_of c.in_ok-world.world) (world_of c.session.new.out) c.session.result
    (c.in_ok-world.ensures ∙ (λ i. new_world (c.as_slice.ensures i) c.args.files ((c.new.ensures i).items)))
    (subst (λ j. Survives j (seen_of (world_of c.in_ok-world.world)) (seen_of (world_of c.session.new.out)) c.session.result) c.requires.run c.session.ensures.survives)
    (c.is_faultless.ensures.0 c.if-not-is_faultless.false)
    (c.in_ok-files.ensures.passed.0 (subst IsNone (sym c.in_default.is) refl))

pub returns-clause-passes : goal.returns-clause-passes
returns-clause-passes c =
    run_stops c.args.leg.now c.args.files (world_of c.in_ok-world.world) (world_of c.session.new.out) c.session.result
    (c.in_ok-world.ensures ∙ (λ i. new_world (c.as_slice.ensures i) c.args.files ((c.new.ensures i).items)))
    (subst (λ j. Survives j (seen_of (world_of c.in_ok-world.world)) (seen_of (world_of c.session.new.out)) c.session.result) c.requires.run c.session.ensures.survives)
    (c.is_faultless.ensures.0 c.if-not-is_faultless.false)
    c.in-Some.files c.in_ok-trace.trace.items
    (c.in_ok-trace.ensures ∙ c.trace.ensures)
    (λ less. let no : true ≡ false = subst IsNone c.in-Some.is (c.in_ok-files.ensures.passed.1 less) in absurd (cc))
    (held_in _ c.in_ok-files.field-0 c.in-Some.files c.in-Some.is c.in_ok-files.ensures.chosen)
    (held_in _ c.in_ok-files.field-0 c.in-Some.files c.in-Some.is c.in_ok-files.ensures.image)
