use Rattle.std.specs.Prelude.{Err}
use Rattle.std.proofs.Common.{◌≡◌, length, refl, sym, ◌∙◌, ap, subst}
use Rattle.re_outside.specs.Frame.{Bad, HasStoreFrame}
use Rattle.re_outside.specs.Trace.{content_of}
use Rattle.re_journal.specs.Journals.{HasGates}
use Rattle.re_journal.specs.Scans.{all_bytes}
use Rattle.re_compact.specs.Finding.{CountsIn}
use Rattle.re_compact.proofs.Counted.{generation_full, bad_either, counts_stand, its_generation}
use Rattle.re_compact.proofs.finding.read_store.Goals as goal

pub returns-in-Ok-clause-stands : goal.returns-in-Ok-clause-stands
returns-in-Ok-clause-stands g c = λ told counts.
    let now = g.D.Disk.past c.args.disk.now in
    let fresh = c.in-Ok.ensures.fresh in
    let s = c.in-Ok.scanned.snapshot.items in
    let bs = all_bytes c.in-Ok.scanned.bodies.items in
    let own = generation_full (content_of now c.args.file) c.args.generation counts.counting.0 in
    let gates : HasGates c.in-Ok.scanned.journal (content_of now c.args.file) s bs = c.in-Ok.ensures.frame told own in
    let here : CountsIn c.in-Ok.scanned.journal.file c.args.generation c.args.other_length c.args.other_blank now = subst (λ f. CountsIn f c.args.generation c.args.other_length c.args.other_blank now) (sym fresh.file) counts in
    let there : HasGates c.in-Ok.scanned.journal (content_of now c.in-Ok.scanned.journal.file) s bs = subst (λ f. HasGates c.in-Ok.scanned.journal (content_of now f) s bs) (sym fresh.file) gates in (
      counts_stand now _ c.args.generation c.args.other_length c.args.other_blank s bs here (record { frame = there.frame; start = there.start; gate = there.gate }) (c.in-Ok.ensures.size told ∙ ap (λ f. length (content_of now f)) (sym fresh.file)) refl refl,
      its_generation now c.args.file c.args.generation c.args.other_length c.args.other_blank s bs counts gates.frame,
    )

pub returns-in-Err-Bad-clause-bad : goal.returns-in-Err-Bad-clause-bad
returns-in-Err-Bad-clause-bad g c = λ number at told counts is.
    let now = g.D.Disk.past c.args.disk.now in
    let own = generation_full (content_of now c.args.file) c.args.generation counts.counting.0 in
    let bad : HasStoreFrame (content_of now 0) (content_of now 1) (Bad c.args.file c.in-Err-Bad.at) =
    bad_either c.args.file c.requires.file now c.args.generation c.args.other_blank c.in-Err-Bad.at counts.counting (c.in-Err-Bad.ensures.bad c.in-Err-Bad.at told own (ap Err c.in-Err-Bad.field-0-is)) in
    let same_file : c.args.file ≡ number = cc in
    let same_place : c.in-Err-Bad.at ≡ at = cc in
    subst (λ f. HasStoreFrame (content_of now 0) (content_of now 1) (Bad f at)) same_file (subst (λ p. HasStoreFrame (content_of now 0) (content_of now 1) (Bad c.args.file p)) same_place bad)
