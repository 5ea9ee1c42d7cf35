use Rattle.std.proofs.Common.{◌≡◌, ◌<◌, List, [], arith, subst, sym}
use Rattle.std.specs.List.{All}
use Rattle.std.specs.List.Sorted.{IsStrictlySortedBy}
use Rattle.std.proofs.lemmas.List.Elements.{All-nil}
use Rattle.re_terms.specs.Listed.{Listed, plain}
use Rattle.re_terms.specs.WordOrder.{pair_cmp}
use Rattle.re_terms.specs.declared.word.Word.{Word}
use Rattle.re_terms.specs.declared.replicated.Dot.{Dot}
use Rattle.re_terms.specs.declared.replicated.Pair.{Pair}
use Rattle.re_terms.specs.UpdateStates.{pairs_after}
use Rattle.re_awset.proofs.Kept.{insert-ascends, insert-devices, join-ascends, join-devices, none-ascends}
use Rattle.re_awset.proofs.tests.set_of.Goals as goal

abbrev HasDevices : List Pair → Type 0
HasDevices ps = All (λ p. p.dot.device < 16) ps

empty-devices : (s : Listed Pair) → s ≡ plain [] → HasDevices s.items
empty-devices s e = subst (λ l. HasDevices l.items) (sym e) (All-nil (λ (p : Pair). p.dot.device < 16))

empty-ascends : (s : Listed Pair) → s ≡ plain [] → IsStrictlySortedBy pair_cmp s.items
empty-ascends s e = subst (λ l. IsStrictlySortedBy pair_cmp l.items) (sym e) none-ascends

one-devices : (ps : List Pair) (s : Listed Pair) (e : Word) (d : Dot) → s ≡ plain [] → d.device < 16 → ps ≡ pairs_after d e s.items → HasDevices ps
one-devices ps s e d h l k = subst HasDevices (sym k) (insert-devices e d s.items l (empty-devices s h))

pub loop-pair-init : goal.loop-pair-init
loop-pair-init c = record { ascends = empty-ascends _ c.new-set.ensures; devices = empty-devices _ c.new-set.ensures }

pub insert-requires : goal.insert-requires
insert-requires c = empty-ascends _ c.new-one.ensures

pub merge_pairs-requires-clause-b_ascends : goal.merge_pairs-requires-clause-b_ascends
merge_pairs-requires-clause-b_ascends c = subst (IsStrictlySortedBy pair_cmp) (sym c.in_ok-insert.ensures.ok) (insert-ascends _ _ _)

pub merge_pairs-requires-clause-b_devices : goal.merge_pairs-requires-clause-b_devices
merge_pairs-requires-clause-b_devices c = one-devices _ _ _ _ c.new-one.ensures (omega arith) c.in_ok-insert.ensures.ok

pub loop-pair-preserved : goal.loop-pair-preserved
loop-pair-preserved c =
    record {
      ascends = subst (λ l. IsStrictlySortedBy pair_cmp l.items) (sym c.in_ok-set.ensures.ok) (join-ascends _ _ _ _);
      devices = subst (λ l. HasDevices l.items) (sym c.in_ok-set.ensures.ok) (join-devices _ _ _ _ c.loop-pair.invariant.devices (one-devices _ _ _ _ c.new-one.ensures (omega arith) c.in_ok-insert.ensures.ok));
    }
