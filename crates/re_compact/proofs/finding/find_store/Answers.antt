use Rattle.std.specs.Prelude.{Err}
use Rattle.std.proofs.Common.{◌≡◌, inl, inr, ℕ, sym, ◌∙◌, subst, rules}
use Rattle.re_outside.specs.Frame.{Bad, HasStoreFrame}
use Rattle.re_outside.specs.Trace.{content_of}
use Rattle.re_journal.specs.Scans.{FailsReading}
use Rattle.re_compact.specs.Finding.{frame_found, journal_found, HasItsGeneration, HasOpenSteps, IsMeasured}
use Rattle.re_compact.specs.Pair.{StandsIn}
use Rattle.re_compact.specs.declared.fault.OpenFault.TheVariants.{Disk}
use Rattle.re_compact.proofs.Opening.{each_moment, stopped_throughout, settled_opened, first_read, second_read, if_ok, then_read, moved_on}
use Rattle.re_compact.proofs.finding.find_store.Goals as goal

pub returns-in_err-settle-clause-each_moment : goal.returns-in_err-settle-clause-each_moment
returns-in_err-settle-clause-each_moment g c = λ told.
    let old = g.D.Disk.past c.args.disk.now in
    let reads = λ (f : ℕ). g.met.D.Disk.reads_left c.args.disk.now f told in
    stopped_throughout old (reads 0) (reads 1) (g.D.Disk.past c.settle.new.disk) (inl (c.in_err-settle.ensures.failed told))

pub returns-in_err-measured-clause-each_moment : goal.returns-in_err-measured-clause-each_moment
returns-in_err-measured-clause-each_moment g c = λ told.
    let old = g.D.Disk.past c.args.disk.now in
    let new = g.D.Disk.past c.measure.new.disk in
    let reads = λ (f : ℕ). g.met.D.Disk.reads_left c.args.disk.now f told in
    let fails = c.in_err-measured.ensures.failed told in
    stopped_throughout old (reads 0) (reads 1) new (inr (fails.0, subst (λ p. FailsReading fails.0 p new) (c.in_ok-settle.ensures.done told) fails.1))

pub returns-in_err-measured-clause-steps : goal.returns-in_err-measured-clause-steps
returns-in_err-measured-clause-steps g c = λ told.
    let old = g.D.Disk.past c.args.disk.now in
    let new = g.D.Disk.past c.measure.new.disk in
    let fails = c.in_err-measured.ensures.failed told in
    let is : c.from_residual-in_err-measured.result ≡ Err Disk = search rules in
    subst (HasOpenSteps old new) (sym is) (inr (fails.0, subst (λ p. FailsReading fails.0 p new) (c.in_ok-settle.ensures.done told) fails.1))

pub returns-clause-steps : goal.returns-clause-steps
returns-clause-steps g c = λ told.
    then_read (g.D.Disk.past c.args.disk.now) (g.D.Disk.past c.measure.new.disk) (g.D.Disk.past c.open_measured.new.disk) (c.in_ok-measured.ensures.same told ∙ c.in_ok-settle.ensures.done told) c.open_measured.result (c.open_measured.ensures.steps told)

pub returns-clause-each_moment : goal.returns-clause-each_moment
returns-clause-each_moment g c = λ told.
    let reads = λ (f : ℕ). g.met.D.Disk.reads_left c.args.disk.now f told in
    each_moment (g.D.Disk.past c.args.disk.now) (reads 0) (reads 1) c.open_measured.result (g.D.Disk.past c.open_measured.new.disk) (returns-clause-steps g c told)

pub returns-clause-stands : goal.returns-clause-stands
returns-clause-stands g c = λ told.
    let old = g.D.Disk.past c.args.disk.now in
    let mid = g.D.Disk.past c.measure.new.disk in
    let reads = λ (f : ℕ). g.met.D.Disk.reads_left c.args.disk.now f told in
    let is = c.in_ok-measured.ensures.same told ∙ c.in_ok-settle.ensures.done told in
    let m = c.in_ok-measured.measured in
    let measured = subst (IsMeasured m.choice m.first m.second) (sym (c.in_ok-measured.ensures.same told)) (c.in_ok-measured.ensures.measured told) in
    let found = c.open_measured.ensures.stands told (settled_opened old (reads 0) (reads 1) mid is) measured in
    moved_on mid (g.D.Disk.past c.open_measured.new.disk) (λ x p. StandsIn (journal_found x) (frame_found x) p) c.open_measured.result (c.open_measured.ensures.steps told)
    (if_ok c.open_measured.result _ (λ x. StandsIn (journal_found x) (frame_found x) mid) (λ x both. both.0) found)

pub returns-clause-generation : goal.returns-clause-generation
returns-clause-generation g c = λ told.
    let old = g.D.Disk.past c.args.disk.now in
    let mid = g.D.Disk.past c.measure.new.disk in
    let reads = λ (f : ℕ). g.met.D.Disk.reads_left c.args.disk.now f told in
    let is = c.in_ok-measured.ensures.same told ∙ c.in_ok-settle.ensures.done told in
    let m = c.in_ok-measured.measured in
    let measured = subst (IsMeasured m.choice m.first m.second) (sym (c.in_ok-measured.ensures.same told)) (c.in_ok-measured.ensures.measured told) in
    if_ok c.open_measured.result _ HasItsGeneration (λ x both. both.1) (c.open_measured.ensures.stands told (settled_opened old (reads 0) (reads 1) mid is) measured)

pub returns-clause-frame : goal.returns-clause-frame
returns-clause-frame g c = λ told.
    let old = g.D.Disk.past c.args.disk.now in
    let mid = g.D.Disk.past c.measure.new.disk in
    let reads = λ (f : ℕ). g.met.D.Disk.reads_left c.args.disk.now f told in
    let is = c.in_ok-measured.ensures.same told ∙ c.in_ok-settle.ensures.done told in
    let m = c.in_ok-measured.measured in
    let measured = subst (IsMeasured m.choice m.first m.second) (sym (c.in_ok-measured.ensures.same told)) (c.in_ok-measured.ensures.measured told) in
    if_ok c.open_measured.result _ (λ x. HasStoreFrame (content_of old 0) (content_of old 1) (frame_found x))
    (λ x both. subst (λ l. HasStoreFrame (content_of old 0) l (frame_found x)) (second_read old (reads 0) (reads 1) mid is) (subst (λ l. HasStoreFrame l (content_of mid 1) (frame_found x)) (first_read old (reads 0) (reads 1) mid is) both.0.rests.frame))
    (c.open_measured.ensures.stands told (settled_opened old (reads 0) (reads 1) mid is) measured)

pub returns-clause-bad : goal.returns-clause-bad
returns-clause-bad g c = λ file at told is_bad.
    let old = g.D.Disk.past c.args.disk.now in
    let mid = g.D.Disk.past c.measure.new.disk in
    let reads = λ (f : ℕ). g.met.D.Disk.reads_left c.args.disk.now f told in
    let is = c.in_ok-measured.ensures.same told ∙ c.in_ok-settle.ensures.done told in
    let m = c.in_ok-measured.measured in
    let measured = subst (IsMeasured m.choice m.first m.second) (sym (c.in_ok-measured.ensures.same told)) (c.in_ok-measured.ensures.measured told) in
    let bad : HasStoreFrame (content_of mid 0) (content_of mid 1) (Bad file at) = c.open_measured.ensures.bad file at told (settled_opened old (reads 0) (reads 1) mid is) measured is_bad in
    subst (λ l. HasStoreFrame (content_of old 0) l (Bad file at)) (second_read old (reads 0) (reads 1) mid is) (subst (λ l. HasStoreFrame l (content_of mid 1) (Bad file at)) (first_read old (reads 0) (reads 1) mid is) bad)
