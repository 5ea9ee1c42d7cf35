-- The kinds of replicated cells.
use Rattle.std.specs.Prelude.{Bool, true, false}
use Rattle.re_terms.specs.declared.replicated.RKind.{RKind}
use Rattle.re_terms.specs.declared.replicated.RKind.TheVariants as kind
use Rattle.re_terms.specs.declared.replicated.Layout.{Layout}
use Rattle.re_terms.specs.declared.replicated.Layout.TheVariants as layout
use Rattle.re_terms.specs.declared.replicated.Act.{Act}
use Rattle.re_terms.specs.declared.replicated.Act.TheVariants as act

-- what the state of a cell of this kind consists of
abbrev pub layout_of : RKind → Layout
layout_of kind.Counter = layout.Rows
layout_of (kind.Set k) = layout.Pairs k
layout_of (kind.Register k w) = layout.Written k w

-- a counter takes amounts, a set inserts and removes, a register writes
abbrev pub is_allowed : RKind → Act → Bool
is_allowed kind.Counter (act.Add amount) = true
is_allowed (kind.Set k) (act.Insert w) = true
is_allowed (kind.Set k) (act.Remove w) = true
is_allowed (kind.Register k start) (act.Write w) = true
is_allowed k a = false
