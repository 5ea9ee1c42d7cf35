use Rattle.std.proofs.Common.{◌≡◌, ◌∙◌, ap, ℕ, List, length, min, max}
use Rattle.re_fakes.proofs.Marked.{marks_none, marks_some}
use Rattle.re_fakes.proofs.replay.Replay.mark.Goals as goal

pub returns-else-from-end-clause-ok : goal.returns-else-from-end-clause-ok
returns-else-from-end-clause-ok c =
    let is_from = c.min-from.ensures ∙ ap (λ (bytes : List ℕ). min c.args.at (length bytes)) c.bytes-size.ensures in
    let is_top = c.max-2.ensures ∙ ap (λ n. max n c.args.reached) (c.max.ensures ∙ ap (λ (bytes : List ℕ). max (length bytes) c.end_of-end.result) c.bytes-size.ensures) in
    marks_none c.args.self.now.fill c.in-Some.byte _ c.args.at c.args.count c.args.reached _ c.end_of-end.result c.min-from.result c.max-2.result _ _ c.in-Some.is c.end_of-end.ensures is_from c.if-from-end.false is_top (c.in_ok-grow.ensures.ok)

pub returns-in_ok-write-clause-ok : goal.returns-in_ok-write-clause-ok
returns-in_ok-write-clause-ok c =
    let is_from = c.min-from.ensures ∙ ap (λ (bytes : List ℕ). min c.args.at (length bytes)) c.bytes-size.ensures in
    let is_top = c.max-2.ensures ∙ ap (λ n. max n c.args.reached) (c.max.ensures ∙ ap (λ (bytes : List ℕ). max (length bytes) c.end_of-end.result) c.bytes-size.ensures) in
    marks_some c.args.self.now.fill c.in-Some.byte _ c.args.at c.args.count c.args.reached _ c.end_of-end.result c.min-from.result c.max-2.result _ _ _ _ c.in-Some.is c.end_of-end.ensures is_from c.if-from-end.true is_top (c.in_ok-grow.ensures.ok) (c.deref.ensures.value ∙ c.in_ok-marks.ensures.items_if_clones_equal (λ y h. h)) (c.in_ok-write.ensures.ok)
