use Rattle.std.proofs.Common.{◌≡◌, sym, ◌∙◌, refl, ap, append_assoc, ◌++◌, ◌+◌, ◌-◌, ◌≤◌, take, drop, List, ℕ, rules, arith}
use Rattle.std.proofs.lemmas.List.{drop-take}
use Rattle.re_outside.specs.Trace.{content_of}
use Rattle.re_journal.specs.Readings.{coming}
use Rattle.re_journal.proofs.Windows.{first_bytes, front_of_piece}
use Rattle.re_journal.proofs.reader.Reader.take.Goals as goal

pub returns-clause-bytes : goal.returns-clause-bytes
returns-clause-bytes g c = λ told knows.
    let mid = c.refill.new.self in
    let n = c.min-n.result in
    let body = c.args.body.now.items in
    let content = content_of (g.D.Disk.past c.args.disk.now) mid.file in
    let room : mid.used + n ≤ mid.filled = omega (arith, c.min-n.ensures, mid.used_is) in
    let more : c.extend_from_slice.new.self.items ≡ body ++ take ((mid.used + n) - mid.used) (drop mid.used mid.piece.items) = search rules in
    ap (λ (l : List ℕ). body ++ l)
    (sym (c.in_ok-refill.ensures.same told knows)
    ∙ (first_bytes mid.piece.items content mid.place mid.used mid.filled n room ∙ ap (λ (l : List ℕ). l ++ (drop (mid.used + n) (take mid.filled mid.piece.items) ++ drop (mid.place + n + (mid.filled - (mid.used + n))) content)) (front_of_piece mid.piece.items mid.used mid.filled n room)))
    ∙ (sym (append_assoc body _ _) ∙ ap (λ (l : List ℕ). l ++ (drop (mid.used + n) (take mid.filled mid.piece.items) ++ drop (mid.place + n + (mid.filled - (mid.used + n))) content)) (sym more))
