-- The marks of the declarations that were passed.
use Rattle.std.proofs.Common.{◌≡◌, ◌&&◌, false, map, get_or}
use Rattle.std.specs.List.{range_with_len}
use Rattle.re_prop.specs.Reading.{is_valued_at}
use Rattle.re_prop.proofs.reading.with_words.Given as goal

abbrev pub invariant-choosing : goal.invariant-choosing
invariant-choosing l = l.marks.items ≡ map (λ id. is_valued_at l.decls id && get_or l.used id false) (range_with_len 0 l.id)
