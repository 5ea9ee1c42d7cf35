use Rattle.std.proofs.Common.{◌≡◌, ℕ, ◌++◌, ◌∷◌, ◌≤◌, ◌<◌, ◌∙◌, List, [], ap, append_assoc, arith, cond, length, subst, sym}
use Rattle.std.specs.List.{All}
use Rattle.std.specs.List.Sorted.{IsStrictlySortedBy}
use Rattle.std.proofs.lemmas.List.{append-nil}
use Rattle.std.proofs.lemmas.List.Elements.{All-drop}
use Rattle.re_terms.specs.CellStates.{join_pairs}
use Rattle.re_terms.specs.WordOrder.{pair_cmp}
use Rattle.re_terms.specs.declared.replicated.Pair.{Pair}
use Rattle.re_awset.proofs.Merges.{join-none}
use Rattle.re_awset.proofs.Ordered.{sorted_drop}
use Rattle.re_awset.proofs.merging.merge_pairs.Goals as goal

-- a step moves the pair that it keeps behind those that are merged
moved : (av bv : List ℕ) (merged now kept own other own_left other_left : List Pair) → now ≡ merged ++ kept → join_pairs av bv own other ≡ kept ++ join_pairs av bv own_left other_left → now ++ join_pairs av bv own_left other_left ≡ merged ++ join_pairs av bv own other
moved av bv merged now kept own other own_left other_left e f = ap (λ l. l ++ join_pairs av bv own_left other_left) e ∙ append_assoc merged kept _ ∙ ap (λ l. merged ++ l) (sym f)

-- nothing is left
whole : (av bv : List ℕ) (merged own other all : List Pair) → own ≡ [] → other ≡ [] → merged ++ join_pairs av bv own other ≡ all → merged ≡ all
whole av bv merged own other all e f h = sym (append-nil merged) ∙ ap (λ l. merged ++ l) (sym (join-none av bv)) ∙ (λ i. merged ++ join_pairs av bv (sym e i) (sym f i)) ∙ h

pub loop-step-preserved : goal.loop-step-preserved
loop-step-preserved c =
    let step = c.in-Some.step in
    let kept = cond step.kept (step.pair ∷ []) [] in
    let own = sym c.behind-own.ensures in
    let other = sym c.behind-other.ensures in
    let av = c.args.av.now.counts in
    let bv = c.args.bv.now.counts in
    let split = c.in-Some.ensures.merged ∙ (λ i. kept ++ join_pairs av bv (own i) (other i)) in
    let devices = λ (l : List Pair). All (λ (p : Pair). p.dot.device < 16) l in
    record {
      merged = moved av bv _ _ kept _ _ _ _ c.in_ok-take_in.ensures.ok split ∙ c.loop-step.invariant.merged;
      spare = let a = c.loop-step.invariant.spare in let b = c.take_in.ensures.spare in omega arith;
      within = c.in_ok-take_in.ensures.room;
      own_ascends = subst (IsStrictlySortedBy pair_cmp) own (sorted_drop pair_cmp step.own _ c.loop-step.invariant.own_ascends);
      other_ascends = subst (IsStrictlySortedBy pair_cmp) other (sorted_drop pair_cmp step.other _ c.loop-step.invariant.other_ascends);
      own_devices = subst devices own (All-drop (λ (p : Pair). p.dot.device < 16) step.own _ c.loop-step.invariant.own_devices);
      other_devices = subst devices other (All-drop (λ (p : Pair). p.dot.device < 16) step.other _ c.loop-step.invariant.other_devices);
    }

pub returns-clause-ok : goal.returns-clause-ok
returns-clause-ok c =
    let all = whole c.args.av.now.counts c.args.bv.now.counts _ _ _ _ c.in_default.ensures.none.0 c.in_default.ensures.none.1 c.loop-step.invariant.merged in
    λ i. record { items = all i; spare = c.loop-step.invariant.spare i }

pub returns-clause-room : goal.returns-clause-room
returns-clause-room c =
    let all = whole c.args.av.now.counts c.args.bv.now.counts _ _ _ _ c.in_default.ensures.none.0 c.in_default.ensures.none.1 c.loop-step.invariant.merged in
    subst (λ l. length l ≤ c.args.room) all c.loop-step.invariant.within
