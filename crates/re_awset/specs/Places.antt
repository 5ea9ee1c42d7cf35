-- Elements below another one in the order of words.
-- Read against: 3 is below 4 and 4 isn't; 3 and 4 are up to 4 and 5 isn't.
use Rattle.std.specs.Prelude.{Bool, not}
use Rattle.std.specs.Ordering.{is_lt, is_gt}
use Rattle.re_terms.specs.WordOrder.{word_cmp}
use Rattle.re_terms.specs.declared.word.Word.{Word}
use Rattle.re_terms.specs.declared.replicated.Pair.{Pair}

-- the pair's element is below this one
abbrev pub is_below : Word → Pair → Bool
is_below element pair = is_lt (word_cmp pair.element element)

-- the pair's element is this one or below it
abbrev pub is_up_to : Word → Pair → Bool
is_up_to element pair = not (is_gt (word_cmp pair.element element))
