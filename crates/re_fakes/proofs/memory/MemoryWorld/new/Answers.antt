use Rattle.std.proofs.Common.{ap, ◌∙◌}
use Rattle.re_fakes.proofs.Worlds.{new_is}
use Rattle.re_fakes.proofs.memory.MemoryWorld.new.Goals as goal

pub returns : goal.returns
returns c = new_is _ _ _ _ _ c.args.fails.items _ _ (c.in_ok-to_vec.ensures.items_if_clones_equal (λ x y h. h)) (c.in_ok-new.ensures.start) (c.in_ok-new.ensures.trace) c.new-2.ensures
    (ap (λ l. l.items) c.from_vec.ensures ∙ c.in_ok-disk_faults.ensures.items_if_clones_equal (λ y h. h))
