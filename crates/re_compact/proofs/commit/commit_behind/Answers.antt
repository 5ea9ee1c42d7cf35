-- The three calls, one behind the other.
use Rattle.std.proofs.Common.{◌≡◌, inl, [], ◌∷◌, ◌++◌, ◌∙◌, length, Some, Err, ap, subst, arith, rules}
use Rattle.re_outside.specs.Frame.{Store, HasFrame}
use Rattle.re_outside.specs.Trace.{content_of}
use Rattle.re_journal.specs.Commits.{commit_steps}
use Rattle.re_journal.specs.Journals.{frame_of, other_file}
use Rattle.re_journal.specs.declared.fault.JournalFault.TheVariants.{Disk as DiskFault}
use Rattle.re_compact.specs.Laying.{laying_calls, prepare_steps, publish_steps}
use Rattle.re_compact.specs.Pair.{IsOldOrNew, StandsIn}
use Rattle.re_compact.specs.Committing.{IsLeftBy, ReadAs}
use Rattle.re_compact.proofs.Committing.{committed_throughout, left_old, may_begin, may_replace, on_ok, opening_moments, opening_stop, opening_stops, prepare_count, record_moments, record_stop, record_stops, stands_committed, stops_in_front, throughout_more}
use Rattle.re_compact.proofs.ReadStores.{before_record, laid_gate, open_later, open_now, opening_few, read_at, read_behind, read_later, read_shut, refused_few, snapshot_count}
use Rattle.re_compact.proofs.commit.commit_behind.Goals as goal

pub returns-in_err-prepare_other-clause-failed : goal.returns-in_err-prepare_other-clause-failed
returns-in_err-prepare_other-clause-failed g c told is =
    let old = g.D.Disk.past c.args.disk.now in
    let j = c.args.journal.now in
    let fault : c.prepare_other.result ≡ Err DiskFault = search rules in
    let other = other_file j.file in
    stops_in_front (prepare_steps old.device other j.other_blank j.other_length c.args.laid.now) (publish_steps old.device other ++ commit_steps old.device other (length c.args.laid.now) c.args.framed.now)
    j.calls c.prepare_other.new.journal.stopped old (g.D.Disk.past c.prepare_other.new.disk) (c.prepare_other.ensures.failed told fault)

pub returns-in_err-prepare_other-clause-each_moment : goal.returns-in_err-prepare_other-clause-each_moment
returns-in_err-prepare_other-clause-each_moment g c s bs new body told stands may =
    let f = c.args.journal.now.file in
    throughout_more (λ frame. frame ≡ Store f s bs) (IsLeftBy f s bs (Some new) body) (g.D.Disk.past c.args.disk.now) (g.D.Disk.past c.prepare_other.new.disk) (left_old f s new body bs)
    (c.prepare_other.ensures.each_moment (Store f s bs) told stands)

pub returns-in_err-publish-clause-failed : goal.returns-in_err-publish-clause-failed
returns-in_err-publish-clause-failed g c told is =
    let fault : c.publish.result ≡ Err DiskFault = search rules in
    opening_stops c.args.journal.now c.prepare_other.new.journal c.args.laid.now c.args.framed.now (g.D.Disk.past c.args.disk.now) (g.D.Disk.past c.prepare_other.new.disk) (c.in_ok-prepare_other.ensures.done told) c.in_ok-prepare_other.ensures.journal
    c.publish.new.journal.stopped (g.D.Disk.past c.publish.new.disk) (c.publish.ensures.failed told fault)

pub returns-in_err-publish-clause-each_moment : goal.returns-in_err-publish-clause-each_moment
returns-in_err-publish-clause-each_moment g c s bs new body told stands may =
    let j = c.args.journal.now in
    let k = c.prepare_other.new.journal in
    let old = g.D.Disk.past c.args.disk.now in
    let mid = g.D.Disk.past c.prepare_other.new.disk in
    let held = Store j.file s bs in
    let whole : c.args.laid.now ≡ frame_of new = cc in
    let there = c.in_ok-prepare_other.ensures.stands held told stands in
    let prepared = c.in_ok-prepare_other.ensures.prepared held new told stands whole in
    opening_moments j.file k.file s new body bs old mid (g.D.Disk.past c.publish.new.disk) c.prepare_other.ensures.file c.prepare_other.ensures.device (c.prepare_other.ensures.each_moment held told stands)
    (c.publish.ensures.each_moment held new told there prepared (may_replace k j.file s new bs mid there may.1))

pub returns-in_err-publish-clause-stopped_at : goal.returns-in_err-publish-clause-stopped_at
returns-in_err-publish-clause-stopped_at g c is =
    let j = c.args.journal.now in
    let k = c.prepare_other.new.journal in
    let fault : c.publish.result ≡ Err DiskFault = search rules in
    opening_stop (laying_calls j.other_blank j.other_length) j.calls k.calls c.publish.new.journal.stopped (ap (λ n. n.calls) c.in_ok-prepare_other.ensures.journal) (c.publish.ensures.stopped_at fault)

pub returns-clause-failed : goal.returns-clause-failed
returns-clause-failed g c told is =
    record_stops c.args.journal.now c.prepare_other.new.journal c.args.laid.now c.args.framed.now (g.D.Disk.past c.args.disk.now) (g.D.Disk.past c.prepare_other.new.disk) (c.in_ok-prepare_other.ensures.done told) c.in_ok-prepare_other.ensures.journal
    c.publish.new.journal (g.D.Disk.past c.publish.new.disk) (c.in_ok-publish.ensures.done told) c.in_ok-publish.ensures.journal c.append.new.self.stopped (g.D.Disk.past c.append.new.disk) (c.append.ensures.failed told is)

pub returns-clause-each_moment : goal.returns-clause-each_moment
returns-clause-each_moment g c s bs new body told stands may =
    let j = c.args.journal.now in
    let k = c.prepare_other.new.journal in
    let l = c.publish.new.journal in
    let old = g.D.Disk.past c.args.disk.now in
    let mid = g.D.Disk.past c.prepare_other.new.disk in
    let late = g.D.Disk.past c.publish.new.disk in
    let end = g.D.Disk.past c.append.new.disk in
    let held = Store j.file s bs in
    let whole : c.args.laid.now ≡ frame_of new = cc in
    let there = c.in_ok-prepare_other.ensures.stands held told stands in
    let prepared = c.in_ok-prepare_other.ensures.prepared held new told stands whole in
    let replace = may_replace k j.file s new bs mid there may.1 in
    let turned = c.in_ok-publish.ensures.stands held new told there prepared replace in
    let third = c.append.ensures.each_moment new [] body told turned.stands (may_begin new body c.args.framed.now may.2 may.3) in
    record_moments j.file k.file s new body bs old mid late c.prepare_other.ensures.file c.prepare_other.ensures.device (c.prepare_other.ensures.each_moment held told stands)
    (c.publish.ensures.each_moment held new told there prepared replace) end c.publish.ensures.device (committed_throughout l (other_file k.file) new body [] late end turned third)

pub returns-clause-stands : goal.returns-clause-stands
returns-clause-stands g c s bs new body told =
    let j = c.args.journal.now in
    let k = c.prepare_other.new.journal in
    let l = c.publish.new.journal in
    let mid = g.D.Disk.past c.prepare_other.new.disk in
    let late = g.D.Disk.past c.publish.new.disk in
    let end = g.D.Disk.past c.append.new.disk in
    let held = Store j.file s bs in
    on_ok c.append.result _ _
    (λ on stands may.
    let whole : c.args.laid.now ≡ frame_of new = cc in
    let there = c.in_ok-prepare_other.ensures.stands held told stands in
    let prepared = c.in_ok-prepare_other.ensures.prepared held new told stands whole in
    let turned = c.in_ok-publish.ensures.stands held new told there prepared (may_replace k j.file s new bs mid there may.1) in
    let follows = may_begin new body c.args.framed.now may.2 may.3 in
    let third = c.append.ensures.each_moment new [] body told turned.stands follows in
    subst (λ n. StandsIn c.append.new.self (Store (other_file n) new (body ∷ [])) end) c.prepare_other.ensures.file
    (stands_committed l (other_file k.file) new body [] late end turned third c.append.new.self c.append.ensures.file (on turned.stands follows)))
    (c.append.ensures.stands new [] body told)

pub returns-clause-stopped_at : goal.returns-clause-stopped_at
returns-clause-stopped_at g c is =
    let j = c.args.journal.now in
    let k = c.prepare_other.new.journal in
    record_stop (laying_calls j.other_blank j.other_length) j.calls k.calls c.publish.new.journal.calls c.append.new.self.stopped (ap (λ n. n.calls) c.in_ok-prepare_other.ensures.journal) c.in_ok-publish.ensures.journal.calls
    (c.append.ensures.stopped_at is)

-- ---- what reads give

pub returns-in_err-prepare_other-clause-reads : goal.returns-in_err-prepare_other-clause-reads
returns-in_err-prepare_other-clause-reads g c s bs new body told stands may =
    let j = c.args.journal.now in
    let laid = c.args.laid.now in
    let old = g.D.Disk.past c.args.disk.now in
    let disk = c.prepare_other.new.disk in
    let now = g.D.Disk.past disk in
    let held = Store j.file s bs in
    let few = refused_few (prepare_steps old.device (other_file j.file) j.other_blank j.other_length laid) j.calls (g.D.Disk.faults c.args.disk.now) (g.D.Disk.faults disk) j.stopped c.prepare_other.new.journal.stopped
    old now c.prepare_other.result _ _ c.in_err-prepare_other.was (c.prepare_other.ensures.failed told) c.prepare_other.ensures.cause c.prepare_other.ensures.untouched
    in
    let read = read_at (λ frame. frame ≡ held) old now (c.prepare_other.ensures.each_moment held told stands) (g.met.D.Disk.reads_left disk 0 told) (g.met.D.Disk.reads_left disk 1 told) in
    read_shut j j.file s new body laid bs old now (omega (arith, few, prepare_count old.device (other_file j.file) j.other_blank j.other_length laid)) (read.0, read.1, inl read.2)

pub returns-in_err-publish-clause-reads : goal.returns-in_err-publish-clause-reads
returns-in_err-publish-clause-reads g c s bs new body told stands may =
    let j = c.args.journal.now in
    let k = c.prepare_other.new.journal in
    let laid = c.args.laid.now in
    let old = g.D.Disk.past c.args.disk.now in
    let mid = g.D.Disk.past c.prepare_other.new.disk in
    let disk = c.publish.new.disk in
    let now = g.D.Disk.past disk in
    let held = Store j.file s bs in
    let whole : laid ≡ frame_of new = cc in
    let there = c.in_ok-prepare_other.ensures.stands held told stands in
    let prepared = c.in_ok-prepare_other.ensures.prepared held new told stands whole in
    let t = c.publish.ensures.each_moment held new told there prepared (may_replace k j.file s new bs mid there may.1) in
    let few = refused_few (publish_steps mid.device (other_file k.file)) k.calls (g.D.Disk.faults c.prepare_other.new.disk) (g.D.Disk.faults disk) k.stopped c.publish.new.journal.stopped
    mid now c.publish.result _ _ c.in_err-publish.was (c.publish.ensures.failed told) c.publish.ensures.cause c.publish.ensures.untouched
    in
    let read = read_at (IsOldOrNew held (other_file k.file) new) mid now t (g.met.D.Disk.reads_left disk 0 told) (g.met.D.Disk.reads_left disk 1 told) in
    read_shut j j.file s new body laid bs old now (opening_few j k laid old mid (c.in_ok-prepare_other.ensures.done told) now t.goes_on few)
    (subst (λ n. ReadAs (IsOldOrNew held (other_file n) new) now) c.prepare_other.ensures.file read)

pub returns-clause-reads : goal.returns-clause-reads
returns-clause-reads g c s bs new body told stands may =
    let j = c.args.journal.now in
    let k = c.prepare_other.new.journal in
    let l = c.publish.new.journal in
    let laid = c.args.laid.now in
    let old = g.D.Disk.past c.args.disk.now in
    let mid = g.D.Disk.past c.prepare_other.new.disk in
    let late = g.D.Disk.past c.publish.new.disk in
    let disk = c.append.new.disk in
    let now = g.D.Disk.past disk in
    let held = Store j.file s bs in
    let whole : laid ≡ frame_of new = cc in
    let there = c.in_ok-prepare_other.ensures.stands held told stands in
    let prepared = c.in_ok-prepare_other.ensures.prepared held new told stands whole in
    let turned = c.in_ok-publish.ensures.stands held new told there prepared (may_replace k j.file s new bs mid there may.1) in
    let third = c.append.ensures.each_moment new [] body told turned.stands (may_begin new body c.args.framed.now may.2 may.3) in
    let t = committed_throughout l (other_file k.file) new body [] late now turned third in
    let done = c.in_ok-prepare_other.ensures.done told in
    let published = c.in_ok-publish.ensures.done told in
    let moves = c.in_ok-publish.ensures.journal in
    let same : other_file k.file ≡ other_file j.file = ap other_file c.prepare_other.ensures.file in
    read_later j l laid old late now (moves.file ∙ same) (laid_gate j k l laid c.in_ok-prepare_other.ensures.journal moves.gate) (before_record j k laid old mid done late published) t.goes_on (snapshot_count j k laid old mid done late published)
    (other_file k.file) s new body bs same
    (read_behind l (other_file k.file) new body [] late now turned t.goes_on (read_at _ late now t (g.met.D.Disk.reads_left disk 0 told) (g.met.D.Disk.reads_left disk 1 told)))

pub returns-clause-opened : goal.returns-clause-opened
returns-clause-opened g c s bs new body told stands may =
    let j = c.args.journal.now in
    let k = c.prepare_other.new.journal in
    let l = c.publish.new.journal in
    let laid = c.args.laid.now in
    let old = g.D.Disk.past c.args.disk.now in
    let mid = g.D.Disk.past c.prepare_other.new.disk in
    let late = g.D.Disk.past c.publish.new.disk in
    let now = g.D.Disk.past c.append.new.disk in
    let held = Store j.file s bs in
    let whole : laid ≡ frame_of new = cc in
    let there = c.in_ok-prepare_other.ensures.stands held told stands in
    let prepared = c.in_ok-prepare_other.ensures.prepared held new told stands whole in
    let turned = c.in_ok-publish.ensures.stands held new told there prepared (may_replace k j.file s new bs mid there may.1) in
    let follows = may_begin new body c.args.framed.now may.2 may.3 in
    let third = c.append.ensures.each_moment new [] body told turned.stands follows in
    let done = c.in_ok-prepare_other.ensures.done told in
    let published = c.in_ok-publish.ensures.done told in
    let moves = c.in_ok-publish.ensures.journal in
    on_ok c.append.result _ _
    (λ on.
    open_later j l laid old late now (moves.file ∙ ap other_file c.prepare_other.ensures.file) (laid_gate j k l laid c.in_ok-prepare_other.ensures.journal moves.gate) (before_record j k laid old mid done late published) third.goes_on
    (snapshot_count j k laid old mid done late published)
    ∙ open_now l (other_file k.file) new body [] late now turned third.goes_on (subst (λ n. HasFrame (content_of now n) new (body ∷ [])) c.append.ensures.file (on turned.stands follows).gates.frame))
    (c.append.ensures.stands new [] body told)
