-- The inputs that a loop has passed have the declaration among their readers.
use Rattle.std.proofs.Common.{◌≡◌, ℕ, ◌==◌, ◌&&◌, ◌||◌, length, take}
use Rattle.re_graph.specs.Kept.{is_among, list_at}
use Rattle.re_levels.proofs.places.link.Given as goal

abbrev pub invariant-loop-input : goal.invariant-loop-input
invariant-loop-input l = (length l.readers.items ≡ length l.fn.readers.items)
    × ((input other : ℕ) → is_among (list_at l.readers.items input) other ≡ (is_among (list_at l.fn.readers.items input) other || ((l.id == other) && is_among (take l.input-index l.inputs) input)))
