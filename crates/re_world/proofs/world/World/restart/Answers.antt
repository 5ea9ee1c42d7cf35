-- A restart is a step of the world.
use Rattle.std.proofs.Common.{◌≡◌, ◌∙◌, ◌<◌, ℕ, true, false, Option, None, Some, Err, refl, sym, ap, subst, length, arith}
use Rattle.std.specs.Prelude.{slice_set}
use Rattle.std.specs.Option.{is_some, option_copied}
use mathlib.Core.Bool.{true≢false}
use Rattle.re_compact.specs.declared.fault.OpenFault.{OpenFault}
use Rattle.re_compact.specs.declared.fault.OpenFault.TheVariants as unopened
use Rattle.re_outside.specs.Outside.{content_in}
use Rattle.re_record.specs.Stores as stores
use Rattle.re_record.specs.Stores.{HasStore}
use Rattle.re_terms.specs.Worlds.{BadFile, PlainAnswer, Refused, Up, plain_answer}
use Rattle.re_terms.specs.Admission.{device_count}
use Rattle.re_terms.specs.declared.command.Answer.TheVariants as answer
use Rattle.re_terms.specs.declared.command.Command.TheVariants as command
use Rattle.re_world.proofs.Placed.{place_elsewhere, place_here}
use Rattle.re_world.proofs.Restarting.{OpeningFacts, opened_does, opened_number, refused_by, unopened_does, up_does}
use Rattle.re_world.specs.State.{WorldState, device_in, state_of}
use Rattle.re_world.specs.FileSteps.{unopened_as}
use Rattle.re_world.specs.Stepping.{DoesCommand, IsRestartAnswer}
use Rattle.re_world.proofs.world.World.restart.Goals as goal

-- a device that is there
some_there : {T : Type 0} (o : Option T) → true ≡ is_some o → (x : T) × (o ≡ Some x)
some_there None is = absurd (true≢false is)
some_there (Some x) is = (x, refl)

-- none is there
none_there : {T : Type 0} (o : Option T) → false ≡ is_some o → o ≡ None
none_there None is = refl
none_there (Some x) is = absurd (true≢false (sym is))

-- the refusal behind an answer
bad_is : (f : OpenFault) (file at : ℕ) → unopened_as f ≡ BadFile file at → f ≡ unopened.BadStore file at
bad_is unopened.Memory file at e = absurd (cc)
bad_is unopened.Disk file at e = absurd (cc)
bad_is (unopened.BadStore file' at') file at e = (λ i. unopened.BadStore (file_of (e i)) (place_of (e i)))
  where
    file_of : PlainAnswer → ℕ
    file_of (BadFile x y) = x
    file_of a = 0

    place_of : PlainAnswer → ℕ
    place_of (BadFile x y) = y
    place_of a = 0
bad_is unopened.OtherProgram file at e = absurd (cc)

abbrev code_of : PlainAnswer → ℕ
code_of (Refused code) = code
code_of a = 39

-- two codes are one only where they are
not_other : (code : ℕ) → code < 39 → Refused code ≡ Refused 39 → ⊥
not_other code less e = let same : code ≡ 39 = ap code_of e in omega (arith, less, same)

other_is : (f : OpenFault) → unopened_as f ≡ Refused 39 → f ≡ unopened.OtherProgram
other_is unopened.Memory e = absurd (not_other 36 (omega arith) e)
other_is unopened.Disk e = absurd (not_other 33 (omega arith) e)
other_is (unopened.BadStore file at) e = absurd (cc)
other_is unopened.OtherProgram e = refl

pub returns-then-is_some-clause-does : goal.returns-then-is_some-clause-does
returns-then-is_some-clause-does g c =
    let found = some_there c.device.result (sym c.if-is_some.true ∙ c.is_some.ensures) in
    up_does c.args.self.now c.args.number found.0.now c.requires (sym c.device.ensures ∙ ap option_copied found.1) g.O.Outside.tells (g.O.Outside.seen c.args.out.now)

pub returns-in-Ok-clause-does : goal.returns-in-Ok-clause-does
returns-in-Ok-clause-does g c =
    let w = c.self.inside in
    let v = state_of w in
    let n = c.args.number in
    let x = c.in-Ok.device in
    let before = g.O.Outside.seen c.args.out.now in
    let now = g.O.Outside.seen c.open_outside.new.out in
    let new = c.put_in.new.self in
    let below : n < device_count w.program.decls.items = subst (λ (u : WorldState). n < device_count u.program.decls.items) (sym c.self.view_is) c.requires in
    let place : device_in v n ≡ None = subst (λ (u : WorldState). device_in u n ≡ None) (sym c.self.view_is) (sym c.device.ensures ∙ ap option_copied (none_there c.device.result (sym c.if-is_some.false ∙ c.is_some.ensures))) in
    let back : new ≡ record v { devices = slice_set v.devices n (Some x) } = subst (λ (u : WorldState). new ≡ record u { devices = slice_set u.devices n (Some x) }) (sym c.self.view_is) c.put_in.ensures in
    let there : n < length v.devices = subst (λ k. n < k) (sym c.self.invariant.count) below in
    let facts : OpeningFacts g.O.Outside.tells v n before now = record {
      is_program = c.self.invariant.is_program;
      below = below;
      place = place;
      others = c.in-Ok.ensures.others;
      left = c.in-Ok.ensures.left;
      moments = c.in-Ok.ensures.each_moment;
      reads = λ told o. c.in-Ok.ensures.reads o told;
    } in
    subst (λ u. DoesCommand g.O.Outside.tells u new (command.Restart n) (answer.Up c.number-entries.result) before now) c.self.view_is
    (opened_does g.O.Outside.tells v n before now facts x new c.number-entries.result c.number-entries.ensures c.in-Ok.ensures.opened c.in-Ok.ensures.cause
    (ap (λ (u : WorldState). u.program) back) (ap (λ (u : WorldState). u.packets) back) (ap (λ (u : WorldState). device_in u n) back ∙ place_here v.devices n (Some x) there) (λ e other. ap (λ (u : WorldState). device_in u e) back ∙ place_elsewhere v.devices n e (Some x) other)
    c.in-Ok.ensures.settled c.in-Ok.ensures.stands (λ told f. g.met.O.Outside.reads_left c.open_outside.new.out n f (g.met.O.Outside.tells_always c.open_outside.new.out ∙ told)) c.in-Ok.ensures.steps)

pub returns-in-Err-clause-does : goal.returns-in-Err-clause-does
returns-in-Err-clause-does g c =
    let w = c.self.inside in
    let v = state_of w in
    let n = c.args.number in
    let before = g.O.Outside.seen c.args.out.now in
    let now = g.O.Outside.seen c.open_outside.new.out in
    let facts : OpeningFacts g.O.Outside.tells v n before now = record {
      is_program = c.self.invariant.is_program;
      below = subst (λ (u : WorldState). n < device_count u.program.decls.items) (sym c.self.view_is) c.requires;
      place = subst (λ (u : WorldState). device_in u n ≡ None) (sym c.self.view_is) (sym c.device.ensures ∙ ap option_copied (none_there c.device.result (sym c.if-is_some.false ∙ c.is_some.ensures)));
      others = c.in-Err.ensures.others;
      left = c.in-Err.ensures.left;
      moments = c.in-Err.ensures.each_moment;
      reads = λ told o. c.in-Err.ensures.reads o told;
    } in
    subst (λ u. DoesCommand g.O.Outside.tells u u (command.Restart n) c.unopened.result before now) c.self.view_is
    (unopened_does g.O.Outside.tells v n before now facts c.in-Err.fault c.unopened.result c.unopened.ensures.answer c.unopened.ensures.ascends c.in-Err.ensures.cause
    (λ told file at same. c.in-Err.ensures.bad file at told (ap Err same)) (λ told same. c.in-Err.ensures.other told (ap Err same)) c.in-Err.ensures.steps)

pub returns-in-Err-clause-bad : goal.returns-in-Err-clause-bad
returns-in-Err-clause-bad g c = λ file at told e.
    subst (λ (u : WorldState). HasStore u.program c.args.number (content_in (g.O.Outside.seen c.args.out.now) c.args.number 0) (content_in (g.O.Outside.seen c.args.out.now) c.args.number 1) (stores.Bad file at)) c.self.view_is
    (c.in-Err.ensures.bad file at told (ap Err (bad_is c.in-Err.fault file at (sym c.unopened.ensures.answer ∙ e))))

pub returns-in-Err-clause-other : goal.returns-in-Err-clause-other
returns-in-Err-clause-other g c = λ told e.
    subst (λ (u : WorldState). HasStore u.program c.args.number (content_in (g.O.Outside.seen c.args.out.now) c.args.number 0) (content_in (g.O.Outside.seen c.args.out.now) c.args.number 1) stores.OtherProgram) c.self.view_is
    (c.in-Err.ensures.other told (ap Err (other_is c.in-Err.fault (sym c.unopened.ensures.answer ∙ e))))

pub returns-then-is_some-clause-decided : goal.returns-then-is_some-clause-decided
returns-then-is_some-clause-decided g c stored told place has =
    let found = some_there c.device.result (sym c.if-is_some.true ∙ c.is_some.ensures) in
    let both = sym place ∙ sym c.device.ensures ∙ ap option_copied found.1 in
    absurd (cc)

pub returns-in-Ok-clause-decided : goal.returns-in-Ok-clause-decided
returns-in-Ok-clause-decided g c stored told place has =
    let n = c.args.number in
    let s = g.O.Outside.seen c.args.out.now in
    subst (λ (u : WorldState). IsRestartAnswer u.program n stored (Up c.number-entries.result)) c.self.view_is (
      c.in-Ok.device.memory.settled,
      c.in-Ok.ensures.decided stored told (subst (λ (u : WorldState). HasStore u.program n (content_in s n 0) (content_in s n 1) stored) (sym c.self.view_is) has),
      opened_number c.self.inside.program n c.in-Ok.device c.number-entries.result c.in-Ok.ensures.opened c.number-entries.ensures,
    )

pub returns-in-Err-clause-decided : goal.returns-in-Err-clause-decided
returns-in-Err-clause-decided g c stored told place has =
    let n = c.args.number in
    let s = g.O.Outside.seen c.args.out.now in
    subst (λ (u : WorldState). IsRestartAnswer u.program n stored (plain_answer c.unopened.result)) c.self.view_is
    (subst (IsRestartAnswer c.self.inside.program n stored) (sym c.unopened.ensures.answer)
    (refused_by c.self.inside.program n stored c.in-Err.fault (c.in-Err.ensures.decided stored told (subst (λ (u : WorldState). HasStore u.program n (content_in s n 0) (content_in s n 1) stored) (sym c.self.view_is) has))))
