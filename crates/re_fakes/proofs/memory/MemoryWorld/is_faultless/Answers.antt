use Rattle.std.proofs.Common.{ap, arith, sym, ◌==◌, ◌∙◌}
use Rattle.std.specs.List.{list_all}
use Rattle.re_outside.specs.Outside.{Disk, Input, Output}
use Rattle.re_fakes.specs.Told.{world_of}
use Rattle.re_fakes.proofs.Faultless.{all_none, each_none}
use Rattle.re_fakes.proofs.memory.MemoryWorld.is_faultless.Goals as goal
use Rattle.re_fakes.proofs.memory.MemoryWorld.is_faultless.Goals.{then-self-eq0, else-self-eq0}

pub returns-then-self-eq0-2 : goal.returns-then-self-eq0-2
returns-then-self-eq0-2 c =
    let is = c.are_zero.ensures ∙ ap (list_all (λ n. n == 0)) c.as_slice.ensures in (
      λ zero. elim c.if-self-eq0.branch [
        | then-self-eq0 w ↦ each_none (world_of c.args.self.now) w.if-self-eq0.true (grind (arith, w.value-is, c.if-self-eq0-2.true)) (sym is ∙ zero)
        | else-self-eq0 w ↦ grind (arith, w.value-is, c.if-self-eq0-2.true)
      ],
      λ none. is ∙ all_none _ (λ i. none (Disk i)),
    )

pub returns-else-self-eq0-2 : goal.returns-else-self-eq0-2
returns-else-self-eq0-2 c = (
  λ zero. grind (arith, zero, c.if-self-eq0-2.false),
  λ none. let first = none Input in let second = none Output in elim c.if-self-eq0.branch [
    | then-self-eq0 w ↦ grind (arith, second, w.value-is, c.if-self-eq0-2.false)
    | else-self-eq0 w ↦ grind (arith, first, w.if-self-eq0.false)
  ],
)
