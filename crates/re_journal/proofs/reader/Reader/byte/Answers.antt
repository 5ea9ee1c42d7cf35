use Rattle.std.proofs.Common.{sym, ◌∙◌, ◌<◌, arith, length}
use Rattle.std.proofs.lemmas.List.{get_or_read}
use Rattle.re_outside.specs.Trace.{content_of}
use Rattle.re_journal.proofs.Windows.{first_byte}
use Rattle.re_journal.proofs.reader.Reader.byte.Goals as goal

pub returns-clause-found : goal.returns-clause-found
returns-clause-found g c = λ told knows.
    let mid = c.refill.new.self in
    let content = content_of (g.D.Disk.past c.args.disk.now) mid.file in
    let within : mid.used < length mid.piece.items = omega (arith, mid.used_is, mid.filled_is, mid.piece_is, mid.piece.ok.0, c.if-self.false) in
    sym (c.in_ok-refill.ensures.same told knows)
    ∙ first_byte mid.piece.items content mid.place mid.used mid.filled c.index-byte.result.now (omega (arith, mid.used_is, c.if-self.false)) (omega (arith, mid.filled_is, mid.piece_is, mid.piece.ok.0))
    (get_or_read mid.piece.items mid.used c.index-byte.result.now within c.index-byte.ensures 0)
