-- A journal stands where it stood while no file of its device moves.
use Rattle.std.proofs.Common.{ℕ, List, length, refl, sym, ap, subst, ◌∙◌}
use Rattle.re_compact.specs.Pair.{Rests}
use Rattle.re_device.specs.Device.{DeviceMemory}
use Rattle.re_device.specs.Standing.{StandsAt}
use Rattle.re_journal.specs.Journals.{HasGates, KnowsFiles, StandsOn, other_file}
use Rattle.re_journal.specs.declared.journal.Journal.{Journal}
use Rattle.re_outside.specs.Frame.{HasStoreFrame, Store, StoreFrame, is_blank}
use Rattle.re_outside.specs.Moment.{IsKept, IsSettled}
use Rattle.re_outside.specs.Trace.{Past, as_device, content_of}
use Rattle.re_record.specs.Restoring.{Opened}

-- what is kept from one moment to the next, and to one more, is kept from the first to the last
pub kept_on : (d f : ℕ) (old mid now : Past) → IsKept d f old mid → IsKept d f mid now → IsKept d f old now
kept_on d f old mid now a b = record { content = b.content ∙ a.content; images = λ file is. a.images file (b.images file is) }

module _ (d : ℕ) (old now : Past) (kept : (f : ℕ) → IsKept d f old now) where
  settled_kept : (f : ℕ) → IsSettled f (content_of (as_device d old) f) (as_device d old) → IsSettled f (content_of (as_device d now) f) (as_device d now)
  settled_kept f s = record { content = refl; only = λ file is. s.only file ((kept f).images file is) ∙ sym (kept f).content }

  knows_kept : (journal : Journal) → KnowsFiles journal (as_device d old) → KnowsFiles journal (as_device d now)
  knows_kept journal k = record {
    own = settled_kept journal.file k.own;
    own_length = k.own_length ∙ ap length (sym (kept journal.file).content);
    other = settled_kept (other_file journal.file) k.other;
    other_length = k.other_length ∙ ap length (sym (kept (other_file journal.file)).content);
    other_blank = k.other_blank ∙ ap is_blank (sym (kept (other_file journal.file)).content);
  }

  rests_kept : (held : StoreFrame) → Rests held (as_device d old) → Rests held (as_device d now)
  rests_kept held r = record {
    first = settled_kept 0 r.first;
    second = settled_kept 1 r.second;
    frame =
        subst (λ b. HasStoreFrame (content_of (as_device d now) 0) b held) (sym (kept 1).content)
        (subst (λ b. HasStoreFrame b (content_of (as_device d old) 1) held) (sym (kept 0).content) r.frame);
  }

  on_kept : (journal : Journal) (snapshot : List ℕ) (bodies : List (List ℕ)) → StandsOn journal snapshot bodies (as_device d old) → StandsOn journal snapshot bodies (as_device d now)
  on_kept journal snapshot bodies s = record {
    files = knows_kept journal s.files;
    gates = subst (λ b. HasGates journal b snapshot bodies) (sym (kept journal.file).content) s.gates;
  }

  -- a device's journal stands where it stood
  pub stands_kept : (m : DeviceMemory) (o : Opened) (number : ℕ) (journal : Journal) → StandsAt m o number journal (as_device d old) → StandsAt m o number journal (as_device d now)
  stands_kept m o number journal s = record {
    snapshot = s.snapshot;
    bodies = s.bodies;
    stands = record {
      rests = rests_kept (Store journal.file s.snapshot s.bodies) s.stands.rests;
      here = s.stands.here;
      stands = on_kept journal s.snapshot s.bodies s.stands.stands;
    };
    comes = s.comes;
    number_is = s.number_is;
  }
