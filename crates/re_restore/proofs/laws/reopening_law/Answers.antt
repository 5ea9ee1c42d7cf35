-- What a stop leaves while files are opened opens to what they opened to.
use Rattle.std.proofs.Common.{inl, inr, refl, subst}
use Rattle.re_outside.specs.Trace.{content_of}
use Rattle.re_record.proofs.StoreLaws.{one_opening}
use Rattle.re_record.specs.Restoring.{unopened}
use Rattle.re_record.specs.Stores.{Blank, OpensTo}
use Rattle.re_restore.proofs.laws.reopening_law.Goals as goal

pub returns : goal.returns
returns c = λ p device old now o is small reads images still first second a b.
    elim (still.images first second a b) [
      | inl left ↦ images first second left.0 left.1
      | inr blank ↦
          let start : OpensTo p device (content_of old 0) (content_of old 1) (unopened p) = (Blank, blank.0, refl) in
          subst (OpensTo p device first second) (one_opening p device (content_of old 0) (content_of old 1) (unopened p) o is small start reads) blank.1
    ]
