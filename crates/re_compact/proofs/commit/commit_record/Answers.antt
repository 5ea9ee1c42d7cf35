use Rattle.std.specs.Prelude.{OnOk}
use Rattle.std.proofs.Common.{◌≡◌, ◌++◌, ◌∷◌, [], None, Some, true, ap, subst, sym, ◌∙◌}
use Rattle.std.specs.Option.{option_copied}
use Rattle.re_outside.specs.Frame.{HasFrame}
use Rattle.re_outside.specs.Trace.{content_of}
use Rattle.re_compact.proofs.Commits.{IsAllOrOneMore}
use Rattle.re_compact.proofs.Committing.{committed_throughout, left_plain, on_ok, stands_committed, throughout_more}
use Rattle.re_compact.proofs.ReadStores.{open_now, read_at, read_behind}
use Rattle.re_compact.specs.Committing.{IsLeftBy, IsReadBy, MayCommit, ReadAs, reads_open}
use Rattle.re_compact.proofs.commit.commit_record.Goals as goal

-- ---- with a new snapshot

pub returns-in-Some-clause-each_moment : goal.returns-in-Some-clause-each_moment
returns-in-Some-clause-each_moment g c s bs None body told stands may = absurd (let none = sym (ap option_copied c.in-Some.is) ∙ may.0 in cc)
returns-in-Some-clause-each_moment g c s bs (Some new) body told stands may =
    c.commit_behind.ensures.each_moment s bs new body told stands (subst (λ o. MayCommit s bs (Some new) body o c.args.framed.now) (ap option_copied c.in-Some.is) may)

pub returns-in-Some-clause-reads : goal.returns-in-Some-clause-reads
returns-in-Some-clause-reads g c s bs None body told stands may = absurd (let none = sym (ap option_copied c.in-Some.is) ∙ may.0 in cc)
returns-in-Some-clause-reads g c s bs (Some new) body told stands may =
    let j = c.args.journal.now in
    let old = g.D.Disk.past c.args.disk.now in
    let now = g.D.Disk.past c.commit_behind.new.disk in
    let next = ap option_copied c.in-Some.is in
    subst (λ o. ReadAs (IsReadBy j.file s bs (Some new) body (reads_open j o old now)) now) (sym next)
    (c.commit_behind.ensures.reads s bs new body told stands (subst (λ o. MayCommit s bs (Some new) body o c.args.framed.now) next may))

pub returns-in-Some-clause-opened : goal.returns-in-Some-clause-opened
returns-in-Some-clause-opened g c s bs None body told stands may = absurd (let none = sym (ap option_copied c.in-Some.is) ∙ may.0 in cc)
returns-in-Some-clause-opened g c s bs (Some new) body told stands may =
    let j = c.args.journal.now in
    let old = g.D.Disk.past c.args.disk.now in
    let now = g.D.Disk.past c.commit_behind.new.disk in
    let next = ap option_copied c.in-Some.is in
    subst (λ o. OnOk c.commit_behind.result (reads_open j o old now ≡ true)) (sym next)
    (c.commit_behind.ensures.opened s bs new body told stands (subst (λ o. MayCommit s bs (Some new) body o c.args.framed.now) next may))

pub returns-in-Some-clause-stands : goal.returns-in-Some-clause-stands
returns-in-Some-clause-stands g c s bs None body told =
    on_ok c.commit_behind.result _ _ (λ on stands may. absurd (let none = sym (ap option_copied c.in-Some.is) ∙ may.0 in cc)) (c.commit_behind.ensures.stands s bs c.in-Some.laid.now body told)
returns-in-Some-clause-stands g c s bs (Some new) body told =
    on_ok c.commit_behind.result _ _ (λ on stands may. on stands (subst (λ o. MayCommit s bs (Some new) body o c.args.framed.now) (ap option_copied c.in-Some.is) may)) (c.commit_behind.ensures.stands s bs new body told)

-- ---- with none

pub returns-in-None-clause-each_moment : goal.returns-in-None-clause-each_moment
returns-in-None-clause-each_moment g c s bs None body told stands may =
    let j = c.args.journal.now in
    let old = g.D.Disk.past c.args.disk.now in
    let now = g.D.Disk.past c.append.new.disk in
    throughout_more (IsAllOrOneMore j.file s bs body) (IsLeftBy j.file s bs None body) old now (left_plain j.file s body bs) (committed_throughout j j.file s body bs old now stands (c.append.ensures.each_moment s bs body told stands.stands may.1))
returns-in-None-clause-each_moment g c s bs (Some new) body told stands may = absurd (let some = sym (ap option_copied c.in-None.is) ∙ may.0 in cc)

pub returns-in-None-clause-reads : goal.returns-in-None-clause-reads
returns-in-None-clause-reads g c s bs None body told stands may =
    let j = c.args.journal.now in
    let old = g.D.Disk.past c.args.disk.now in
    let disk = c.append.new.disk in
    let now = g.D.Disk.past disk in
    let t = committed_throughout j j.file s body bs old now stands (c.append.ensures.each_moment s bs body told stands.stands may.1) in
    subst (λ o. ReadAs (IsReadBy j.file s bs None body (reads_open j o old now)) now) (sym (ap option_copied c.in-None.is))
    (read_behind j j.file s body bs old now stands t.goes_on (read_at _ old now t (g.met.D.Disk.reads_left disk 0 told) (g.met.D.Disk.reads_left disk 1 told)))
returns-in-None-clause-reads g c s bs (Some new) body told stands may = absurd (let some = sym (ap option_copied c.in-None.is) ∙ may.0 in cc)

pub returns-in-None-clause-opened : goal.returns-in-None-clause-opened
returns-in-None-clause-opened g c s bs None body told stands may =
    let j = c.args.journal.now in
    let old = g.D.Disk.past c.args.disk.now in
    let now = g.D.Disk.past c.append.new.disk in
    let t = c.append.ensures.each_moment s bs body told stands.stands may.1 in
    subst (λ o. OnOk c.append.result (reads_open j o old now ≡ true)) (sym (ap option_copied c.in-None.is))
    (on_ok c.append.result _ _
    (λ on. open_now j j.file s body bs old now stands t.goes_on (subst (λ n. HasFrame (content_of now n) s (bs ++ body ∷ [])) c.append.ensures.file (on stands.stands may.1).gates.frame))
    (c.append.ensures.stands s bs body told))
returns-in-None-clause-opened g c s bs (Some new) body told stands may = absurd (let some = sym (ap option_copied c.in-None.is) ∙ may.0 in cc)

pub returns-in-None-clause-stands : goal.returns-in-None-clause-stands
returns-in-None-clause-stands g c s bs None body told =
    let j = c.args.journal.now in
    on_ok c.append.result _ _
    (λ on stands may.
    stands_committed j j.file s body bs (g.D.Disk.past c.args.disk.now) (g.D.Disk.past c.append.new.disk) stands (c.append.ensures.each_moment s bs body told stands.stands may.1) c.append.new.self c.append.ensures.file (on stands.stands may.1))
    (c.append.ensures.stands s bs body told)
returns-in-None-clause-stands g c s bs (Some new) body told =
    on_ok c.append.result _ _ (λ on stands may. absurd (let some = sym (ap option_copied c.in-None.is) ∙ may.0 in cc)) (c.append.ensures.stands s bs body told)
