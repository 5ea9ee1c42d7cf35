use Rattle.std.proofs.Common.{rules, ◌≡◌, true, false, length, Err, sym, ap, subst, ◌∙◌}
use Rattle.std.specs.List.{list_all}
use Rattle.std.proofs.lemmas.Bool.{lt-ltb, le-ltb}
use Rattle.re_terms.specs.Programs.{names_of}
use Rattle.re_terms.specs.declared.entry.Turn.{Turn}
use Rattle.re_types.specs.Admitting.{knows_part, keeps_kind, is_twice, sets_of, fires_of}
use Rattle.re_types.specs.declared.fault.AdmitFault.TheVariants as fault
use Rattle.re_types.proofs.Turns.{are_ordered, not_empty, refused, kind-fault, twice-set, twice-fired, many-fault, turn-answer, turn_admitted, turn_sets, turn_fires}
use Rattle.re_types.proofs.admitting.admit_parts.Goals as goal

pub returns-in_err-sets-clause-answer : goal.returns-in_err-sets-clause-answer
returns-in_err-sets-clause-answer c =
    let decls = c.args.p.now.decls.items in
    let parts = c.args.parts.now in
    let known : list_all (knows_part (names_of decls)) parts ≡ true = search rules in
    let given : c.from_residual.result ≡ Err c.in_err-sets.field-0.0 = search rules in
    refused decls parts c.from_residual.result c.in_err-sets.field-0.0 fault.Kind (list_all (keeps_kind c.as_slice-decls.result.now) parts ≡ false) given c.in_err-sets.ensures.fault
    (λ wrong. kind-fault decls parts known (subst (λ d. list_all (keeps_kind d) parts ≡ false) c.as_slice-decls.ensures wrong))

pub returns-in_err-sets-2-clause-answer : goal.returns-in_err-sets-2-clause-answer
returns-in_err-sets-2-clause-answer c =
    let decls = c.args.p.now.decls.items in
    let parts = c.args.parts.now in
    let known : list_all (knows_part (names_of decls)) parts ≡ true = search rules in
    let kinds = subst (λ d. list_all (keeps_kind d) parts ≡ true) c.as_slice-decls.ensures c.in_ok-sets.ensures.kinds in
    let given : c.from_residual-in_err-sets-2.result ≡ Err c.in_err-sets-2.field-0.0 = search rules in
    let sets = c.as_slice.ensures ∙ ap (λ (t : Turn). t.sets.items) c.in_ok-sets.ensures.turn ∙ ap (λ d. sets_of d parts) c.as_slice-decls.ensures in
    refused decls parts c.from_residual-in_err-sets-2.result c.in_err-sets-2.field-0.0 fault.Twice (is_twice c.as_slice.result.now ≡ true) given c.in_err-sets-2.ensures.twice
    (λ twice. twice-set decls parts known kinds (ap is_twice (sym sets) ∙ twice))

pub returns-in_err-fires-clause-answer : goal.returns-in_err-fires-clause-answer
returns-in_err-fires-clause-answer c =
    let decls = c.args.p.now.decls.items in
    let parts = c.args.parts.now in
    let known : list_all (knows_part (names_of decls)) parts ≡ true = search rules in
    let kinds = subst (λ d. list_all (keeps_kind d) parts ≡ true) c.as_slice-decls.ensures c.in_ok-sets.ensures.kinds in
    let given : c.from_residual-in_err-fires.result ≡ Err c.in_err-fires.field-0.0 = search rules in
    let sets = c.as_slice.ensures ∙ ap (λ (t : Turn). t.sets.items) c.in_ok-sets.ensures.turn ∙ ap (λ d. sets_of d parts) c.as_slice-decls.ensures in
    let fires = c.as_slice-2.ensures ∙ ap (λ (t : Turn). t.fires.items) c.in_ok-sets.ensures.turn ∙ ap (λ d. fires_of d parts) c.as_slice-decls.ensures in
    refused decls parts c.from_residual-in_err-fires.result c.in_err-fires.field-0.0 fault.Twice (is_twice c.as_slice-2.result.now ≡ true) given c.in_err-fires.ensures.twice
    (λ twice. twice-fired decls parts known kinds (ap is_twice (sym sets) ∙ c.in_ok-sets-2.ensures.order.once) (ap is_twice (sym fires) ∙ twice))

pub returns-then-parts-gt-MAX_PARTS-clause-answer : goal.returns-then-parts-gt-MAX_PARTS-clause-answer
returns-then-parts-gt-MAX_PARTS-clause-answer c =
    let decls = c.args.p.now.decls.items in
    let parts = c.args.parts.now in
    let known : list_all (knows_part (names_of decls)) parts ≡ true = search rules in
    let ordered = are_ordered decls c.as_slice-decls.result.now parts c.in_ok-sets.field-0 c.as_slice.result.now c.as_slice-2.result.now c.in_ok-sets-2.sets c.in_ok-fires.fires
    c.as_slice-decls.ensures known c.in_ok-sets.ensures.kinds c.in_ok-sets.ensures.turn c.as_slice.ensures c.as_slice-2.ensures c.in_ok-sets-2.ensures.order c.in_ok-fires.ensures.order in
    λ _. sym (many-fault decls parts _ ordered (sym c.is_empty.ensures ∙ c.if-is_empty.false) (lt-ltb 64 (length parts) c.if-parts-gt-MAX_PARTS.true))

pub returns-clause-answer : goal.returns-clause-answer
returns-clause-answer c =
    let decls = c.args.p.now.decls.items in
    let parts = c.args.parts.now in
    let known : list_all (knows_part (names_of decls)) parts ≡ true = search rules in
    let ordered = are_ordered decls c.as_slice-decls.result.now parts c.in_ok-sets.field-0 c.as_slice.result.now c.as_slice-2.result.now c.in_ok-sets-2.sets c.in_ok-fires.fires
    c.as_slice-decls.ensures known c.in_ok-sets.ensures.kinds c.in_ok-sets.ensures.turn c.as_slice.ensures c.as_slice-2.ensures c.in_ok-sets-2.ensures.order c.in_ok-fires.ensures.order in
    λ _. sym (turn-answer decls parts _ ordered (sym c.is_empty.ensures ∙ c.if-is_empty.false) (le-ltb 64 (length parts) c.if-parts-gt-MAX_PARTS.false))

pub returns-clause-admitted : goal.returns-clause-admitted
returns-clause-admitted c =
    let decls = c.args.p.now.decls.items in
    let parts = c.args.parts.now in
    let known : list_all (knows_part (names_of decls)) parts ≡ true = search rules in
    let ordered = are_ordered decls c.as_slice-decls.result.now parts c.in_ok-sets.field-0 c.as_slice.result.now c.as_slice-2.result.now c.in_ok-sets-2.sets c.in_ok-fires.fires
    c.as_slice-decls.ensures known c.in_ok-sets.ensures.kinds c.in_ok-sets.ensures.turn c.as_slice.ensures c.as_slice-2.ensures c.in_ok-sets-2.ensures.order c.in_ok-fires.ensures.order in
    turn_admitted c.args.p.now parts _ ordered (not_empty (length parts) (sym c.is_empty.ensures ∙ c.if-is_empty.false)) c.if-parts-gt-MAX_PARTS.false

pub returns-clause-sets : goal.returns-clause-sets
returns-clause-sets c =
    let decls = c.args.p.now.decls.items in
    let parts = c.args.parts.now in
    let known : list_all (knows_part (names_of decls)) parts ≡ true = search rules in
    let ordered = are_ordered decls c.as_slice-decls.result.now parts c.in_ok-sets.field-0 c.as_slice.result.now c.as_slice-2.result.now c.in_ok-sets-2.sets c.in_ok-fires.fires
    c.as_slice-decls.ensures known c.in_ok-sets.ensures.kinds c.in_ok-sets.ensures.turn c.as_slice.ensures c.as_slice-2.ensures c.in_ok-sets-2.ensures.order c.in_ok-fires.ensures.order in
    turn_sets decls parts _ ordered

pub returns-clause-fires : goal.returns-clause-fires
returns-clause-fires c =
    let decls = c.args.p.now.decls.items in
    let parts = c.args.parts.now in
    let known : list_all (knows_part (names_of decls)) parts ≡ true = search rules in
    let ordered = are_ordered decls c.as_slice-decls.result.now parts c.in_ok-sets.field-0 c.as_slice.result.now c.as_slice-2.result.now c.in_ok-sets-2.sets c.in_ok-fires.fires
    c.as_slice-decls.ensures known c.in_ok-sets.ensures.kinds c.in_ok-sets.ensures.turn c.as_slice.ensures c.as_slice-2.ensures c.in_ok-sets-2.ensures.order c.in_ok-fires.ensures.order in
    turn_fires decls parts _ ordered
