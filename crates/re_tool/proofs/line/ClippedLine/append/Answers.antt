use Rattle.std.proofs.Common.{arith, ◌∙◌, ap, List, ℕ, ◌-◌, min, length}
use Rattle.re_tool.specs.Clipped.{Clipped}
use Rattle.re_tool.proofs.Clipping.{append-room}
use Rattle.re_tool.proofs.line.ClippedLine.append.Goals as goal

pub returns : goal.returns
returns c =
    let most = c.self.inside.most in
    rw (← c.self.view_is) (ap (λ (l : List ℕ). let x : Clipped = record { items = l; most = most } in x)
    (c.in_ok-extend_from_slice.ensures.items ∙ append-room most c.min-fits.result c.self.inside.bytes.items c.args.bytes.now (omega (arith, c.self.invariant, c.self.inside.bytes.ok.0)) (c.min-fits.ensures ∙ ap (λ k. min (most - k) (length c.args.bytes.now)) (c.len.ensures ∙ c.self.inside.bytes.ok.0))))
