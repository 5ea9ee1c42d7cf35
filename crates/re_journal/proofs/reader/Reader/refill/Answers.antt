use Rattle.std.proofs.Common.{◌≡◌, ◌∙◌, ap, arith, take, drop, ◌++◌, ◌+◌, ◌-◌, min, length, List, ℕ}
use Rattle.std.proofs.lemmas.List.{with_items_is}
use Rattle.re_outside.specs.Trace.{content_of}
use Rattle.re_journal.proofs.Windows.{refilled}
use Rattle.re_journal.proofs.reader.Reader.refill.Goals as goal

pub returns-clause-same : goal.returns-clause-same
returns-clause-same g c = λ told knows.
    let self = c.args.self.now in
    let content = content_of (g.D.Disk.past c.args.disk.now) self.file in
    let m = c.min-self.result in
    let n = c.in_ok-n.n in
    let long : length c.fetch.new.buf ≡ self.piece.len = omega (arith, c.fetch.auto.buf, c.deref_mut.ensures.len) in
    let got : n ≡ min (length self.piece.items) (length content - self.place) = c.in_ok-n.ensures.all told ∙ ap (λ (l : List ℕ). min (length l) (length content - self.place)) c.deref_mut.ensures.value in
    ap (λ (l : List ℕ). take m l ++ drop (self.place + (m - 0)) content) (with_items_is self.piece c.fetch.new.buf long)
    ∙ refilled self.piece.items c.fetch.new.buf content self.place self.used self.filled n m self.size c.if-self.false got (c.in_ok-n.ensures.bytes told) knows c.min-self.ensures
