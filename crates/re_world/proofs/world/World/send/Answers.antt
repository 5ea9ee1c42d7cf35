-- A packet is made of what a device has settled.
use Rattle.std.proofs.Common.{◌∙◌, None, false, ℕ, refl, sym, ap, subst, arith}
use Rattle.std.specs.Option.{option_copied}
use Rattle.re_outside.specs.Listed.{Listed as Bytes}
use Rattle.re_terms.specs.Listed.{Listed}
use Rattle.re_terms.specs.declared.command.Answer.TheVariants as answer
use Rattle.re_terms.specs.declared.command.Command.TheVariants as command
use Rattle.re_device.specs.Causes.{refusal_by}
use Rattle.re_terms.specs.DeviceWorlds.{refused_where}
use Rattle.re_terms.specs.Worlds.{StoppedAt}
use Rattle.std.specs.Option.{option_or}
use Rattle.std.specs.Prelude.{length, nat_le}
use Rattle.re_world.proofs.Caused.{any_state, caused_as, device_is, found_down, found_up}
use Rattle.re_world.proofs.Inside.{down_does, memory_does, stopped_does}
use Rattle.re_world.proofs.Placed.{no_some}
use Rattle.re_world.proofs.Sent.{kept_more, kept_same, seen_count, seen_more, seen_same, send_does, send_none, settled_packet}
use Rattle.re_world.proofs.Told.{nothing_behind}
use Rattle.re_world.specs.Stepping.{DoesInside}
use Rattle.re_world.proofs.world.World.send.Goals as goal

pub returns-in_default : goal.returns-in_default
returns-in_default c = down_does c.args.self.now (command.Send c.args.number) c.args.number c.requires (sym c.device.ensures ∙ nothing_behind c.device.result c.in_default.not-Some) refl (found_down c.args.self.now c.args.number (sym c.device.ensures ∙ nothing_behind c.device.result c.in_default.not-Some)) refl (any_state c.args.self.now, tt) (λ u. refl) (λ p u s is. refl)

pub returns-in-Some-stopped : goal.returns-in-Some-stopped
returns-in-Some-stopped c =
    stopped_does c.args.self.now (command.Send c.args.number) c.args.number c.in-Some.device.now c.in-Some-stopped.at c.requires (sym c.device.ensures ∙ ap option_copied c.in-Some.is)
    (sym c.stopped.ensures ∙ c.in-Some-stopped.is) refl (caused_as c.args.self.now (command.Send c.args.number) (StoppedAt c.in-Some-stopped.at) (any_state c.args.self.now, tt) (λ state merges. device_is c.args.self.now (command.Send c.args.number) refl state c.in-Some.device.now (found_up c.args.self.now c.args.number c.in-Some.device.now (sym c.device.ensures ∙ ap option_copied c.in-Some.is)) refl (sym c.device.ensures ∙ ap option_copied c.in-Some.is) ∙ ap (λ o. option_or (refusal_by o false false None) (refused_where (nat_le 10000 (length c.args.self.now.packets)) 35)) (sym c.stopped.ensures ∙ c.in-Some-stopped.is))) (λ u. refl) (λ u. refl) (λ u. refl) (λ u. refl)

pub returns-then-packet-ge-MOST_PACKETS : goal.returns-then-packet-ge-MOST_PACKETS
returns-then-packet-ge-MOST_PACKETS c =
    send_none c.args.self.now c.args.number c.in-Some.device.now c.requires (sym c.device.ensures ∙ ap option_copied c.in-Some.is)
    (sym c.stopped.ensures ∙ no_some c.stopped.result c.in_default-stopped.not-Some)
    (omega (arith, c.if-packet-ge-MOST_PACKETS.true, c.len-packet.ensures, seen_count c.self.inside c.args.self.now c.self.view_is))

pub returns-in_default-packet : goal.returns-in_default-packet
returns-in_default-packet c = memory_does c.args.self.now (command.Send c.args.number) refl (any_state c.args.self.now, tt)

pub invariant_of-self : goal.invariant_of-self
invariant_of-self c = kept_same c.self.inside c.push.new.self c.self.invariant c.in_default-push.ensures.err

pub returns-in_default-push : goal.returns-in_default-push
returns-in_default-push c =
    subst (λ v. DoesInside c.args.self.now v (command.Send c.args.number) (answer.No 36)) (sym (seen_same c.self.inside c.args.self.now c.push.new.self c.self.view_is c.in_default-push.ensures.err))
    (memory_does c.args.self.now (command.Send c.args.number) refl (any_state c.args.self.now, tt))

pub invariant_of-self-2 : goal.invariant_of-self-2
invariant_of-self-2 c =
    kept_more c.self.inside c.push.new.self c.in-Ok.bytes c.self.invariant (ap (λ (l : Listed (Bytes ℕ)). l.items) c.in-Ok-push.ensures.ok)
    (settled_packet c.self.inside c.args.self.now c.args.number c.in-Some.device.now c.in-Ok.bytes.items c.self.view_is c.self.invariant (sym c.device.ensures ∙ ap option_copied c.in-Some.is) c.packet.ensures.fits (ap (λ (l : Bytes ℕ). l.items) c.in-Ok.ensures.bytes))
    (omega (arith, c.if-packet-ge-MOST_PACKETS.false, c.len-packet.ensures))

pub returns : goal.returns
returns c =
    send_does c.args.self.now c.args.number c.in-Some.device.now c.requires (sym c.device.ensures ∙ ap option_copied c.in-Some.is)
    (sym c.stopped.ensures ∙ no_some c.stopped.result c.in_default-stopped.not-Some)
    _ c.in-Ok.bytes.items c.len-packet.result
    (omega (arith, c.if-packet-ge-MOST_PACKETS.false, c.len-packet.ensures, seen_count c.self.inside c.args.self.now c.self.view_is))
    c.packet.ensures.fits (ap (λ (l : Bytes ℕ). l.items) c.in-Ok.ensures.bytes)
    (seen_more c.self.inside c.args.self.now c.push.new.self c.in-Ok.bytes c.self.view_is (ap (λ (l : Listed (Bytes ℕ)). l.items) c.in-Ok-push.ensures.ok))
    (c.len-packet.ensures ∙ sym (seen_count c.self.inside c.args.self.now c.self.view_is))
