-- What the files hold decides the answer of an opening.
use Rattle.std.proofs.Common.{◌≡◌, ◌⊎◌, inl, inr, ◌<◌, ℕ, List, Result, Ok, Err, refl, ap, ◌∙◌}
use Rattle.std.specs.Prelude.{IfOk}
use Rattle.re_compact.specs.Finding.{HasOpenCause}
use Rattle.re_compact.specs.declared.fault.OpenFault.{OpenFault}
use Rattle.re_compact.specs.declared.fault.OpenFault.TheVariants as fault
use Rattle.re_record.specs.Stores.{Bad, HasStore, OpensTo, OtherProgram, Stored, opened}
use Rattle.re_record.proofs.OneStore.{one_stored}
use Rattle.re_terms.specs.Programs.{IsProgram}
use Rattle.re_terms.specs.declared.program.Program.{Program}
use Rattle.re_restore.specs.Opening.{IsAnswerTo, opened_as}
use Rattle.re_restore.specs.declared.opening.Restored.{Restored}

module _ (p : Program) (device : ℕ) (a b : List ℕ) (is : IsProgram p) (small : device < 256) (stored : Stored) (has : HasStore p device a b stored) where
  opens : (r : Restored) → OpensTo p device a b (opened_as r) → IsAnswerTo p device stored (Ok r)
  opens r (other, there, gives) = ap (opened p device) (one_stored p device is small a b stored other has there) ∙ gives

  -- each answer has its cause in what the files hold
  pub answers : (r : Result Restored OpenFault) → IfOk r (λ x. OpensTo p device a b (opened_as x)) → ((file at : ℕ) → r ≡ Err (fault.BadStore file at) → HasStore p device a b (Bad file at)) → (r ≡ Err fault.OtherProgram → HasStore p device a b OtherProgram)
      → IsAnswerTo p device stored r
  answers (Ok r) found bad other = opens r found
  answers (Err fault.Memory) found bad other = tt
  answers (Err fault.Disk) found bad other = tt
  answers (Err (fault.BadStore file at)) found bad other = one_stored p device is small a b stored (Bad file at) has (bad file at refl)
  answers (Err fault.OtherProgram) found bad other = one_stored p device is small a b stored OtherProgram has (other refl)

-- the disk and the memory alone
pub not_bad : (file at : ℕ) → (fault.BadStore file at ≡ fault.Memory) ⊎ (fault.BadStore file at ≡ fault.Disk) → ⊥
not_bad file at (inl e) = cc (e)
not_bad file at (inr e) = cc (e)

pub not_other : (fault.OtherProgram ≡ fault.Memory) ⊎ (fault.OtherProgram ≡ fault.Disk) → ⊥
not_other (inl e) = cc (e)
not_other (inr e) = cc (e)

-- finding a store says nothing of the program
pub finds_no_program : {T : Type 0} (r : Result T OpenFault) (before now : ℕ) → HasOpenCause before now r → r ≡ Err fault.OtherProgram → ⊥
finds_no_program (Ok x) before now cause e = cc (e)
finds_no_program (Err fault.Memory) before now cause e = let h : fault.Memory ≡ fault.OtherProgram = cc in cc (h)
finds_no_program (Err fault.Disk) before now cause e = let h : fault.Disk ≡ fault.OtherProgram = cc in cc (h)
finds_no_program (Err (fault.BadStore file at)) before now cause e = let h : fault.BadStore file at ≡ fault.OtherProgram = cc in cc (h)
finds_no_program (Err fault.OtherProgram) before now cause e = cause
