use Rattle.std.proofs.Common.{◌≡◌, ◌+◌, drop, map}
use Rattle.std.specs.List.{position_or_len}
use Rattle.std.specs.Str.{bytes_eq}
use Rattle.re_tokens.proofs.table.place_in.Given as goal

abbrev pub invariant-loop-place : goal.invariant-loop-place
invariant-loop-place l =
    l.place + position_or_len (bytes_eq l.bytes) (map (λ entry. entry.now) (drop l.place l.table)) ≡ position_or_len (bytes_eq l.bytes) (map (λ entry. entry.now) l.table)
