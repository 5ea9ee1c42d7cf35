use Rattle.std.proofs.Common.{◌≡◌, ◌∙◌, ap, arith}
use Rattle.std.specs.Prelude.{slice_set}
use Rattle.std.specs.List.{sum_by}
use Rattle.std.proofs.lemmas.Result.{on_err_weaker, on_ok_weaker}
use Rattle.re_terms.specs.Shapes.{pair_count}
use Rattle.re_replica.specs.Cells.{acted}
use Rattle.re_replica.proofs.Acts.{pairs_within, put_back, set_back, set_is, sum_at}
use Rattle.re_replica.proofs.acting.act_at.Goals as goal

pub overflow_sub-room : goal.overflow_sub-room
overflow_sub-room c =
    let all : c.count_pairs-pairs.result ≡ sum_by pair_count c.args.cells.now.items = c.count_pairs-pairs.ensures ∙ ap (sum_by pair_count) c.as_slice.ensures in
    let one = pairs_within c.args.place c.args.cells.now.items c.replace-cell.result c.replace-cell.ensures.item in
    let own = c.pair_count.ensures in
    omega arith

pub act_on-done-requires-clause-within : goal.act_on-done-requires-clause-within
act_on-done-requires-clause-within c =
    let all : c.count_pairs-pairs.result ≡ sum_by pair_count c.args.cells.now.items = c.count_pairs-pairs.ensures ∙ ap (sum_by pair_count) c.as_slice.ensures in
    let one = pairs_within c.args.place c.args.cells.now.items c.replace-cell.result c.replace-cell.ensures.item in
    let own = c.pair_count.ensures in
    omega arith

pub returns-clause-ok : goal.returns-clause-ok
returns-clause-ok c =
    let f = acted c.args.dot c.args.act in
    let cells = c.args.cells.now in
    let cell = c.replace-cell.result in
    let back = put_back cells c.replace-cell.new.self c.set.new.self c.args.place _ c.act_on-done.new.cell c.replace-cell.ensures.rest c.set.ensures in
    on_ok_weaker c.act_on-done.result
    (λ (e : c.act_on-done.new.cell ≡ f cell). back ∙ ap (λ l. record { items = l; spare = cells.spare }) (ap (slice_set cells.items c.args.place) e ∙ set_is c.args.place f cells.items cell c.replace-cell.ensures.item))
    c.act_on-done.ensures.ok

pub returns-clause-set_full : goal.returns-clause-set_full
returns-clause-set_full c =
    let f = acted c.args.dot c.args.act in
    let cell = c.replace-cell.result in
    let all : c.count_pairs-pairs.result ≡ sum_by pair_count c.args.cells.now.items = c.count_pairs-pairs.ensures ∙ ap (sum_by pair_count) c.as_slice.ensures in
    let one = pairs_within c.args.place c.args.cells.now.items cell c.replace-cell.ensures.item in
    let own = c.pair_count.ensures in
    let sum = sum_at c.args.place f c.args.cells.now.items cell c.replace-cell.ensures.item in
    let full = c.act_on-done.ensures.set_full in
    (λ e. let over = full.0 e in omega arith, λ over. full.1 (omega arith))

pub returns-clause-refused : goal.returns-clause-refused
returns-clause-refused c =
    let cells = c.args.cells.now in
    let cell = c.replace-cell.result in
    let back = put_back cells c.replace-cell.new.self c.set.new.self c.args.place _ c.act_on-done.new.cell c.replace-cell.ensures.rest c.set.ensures in
    on_err_weaker c.act_on-done.result
    (λ (e : c.act_on-done.new.cell ≡ cell). back ∙ ap (λ l. record { items = l; spare = cells.spare }) (ap (slice_set cells.items c.args.place) e ∙ set_back c.args.place cells.items cell c.replace-cell.ensures.item))
    c.act_on-done.ensures.refused
