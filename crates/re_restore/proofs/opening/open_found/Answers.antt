-- Each record that was found is short.
use Rattle.std.proofs.Common.{◌≤◌, ℕ, List, length, subst, sym}
use Rattle.std.specs.List.{All}
use Rattle.re_outside.specs.Listed.{Listed}
use Rattle.re_restore.proofs.Laid.{records_short}
use Rattle.re_restore.proofs.opening.open_found.Goals as goal

pub read_store-found-requires-clause-bodies : goal.read_store-found-requires-clause-bodies
read_store-found-requires-clause-bodies c =
    subst (λ (l : List (Listed ℕ)). All (λ (body : Listed ℕ). length body.items ≤ 65536) l) (sym c.as_slice-2.ensures) (records_short c.args.bodies.now.items c.requires.framed.records)
