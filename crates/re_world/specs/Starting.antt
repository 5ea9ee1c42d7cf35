-- The files of all devices at the start of a session, and the world that they stand for.
-- Read against: blank files start the world of no entry over the log of no update; the files that a session left start a world whose base has all entries that they hold, over the log that stands behind them, so that a device's next update has its next number.
use Rattle.std.specs.Prelude.{◌≡◌, ℕ, ◌<◌, List}
use Rattle.re_outside.specs.Trace.{Past, IsCrashImageAt, content_at}
use Rattle.re_record.specs.Represents.{Represents, counts_of}
use Rattle.re_record.specs.Restoring.{Opened}
use Rattle.re_record.specs.Stores.{OpensTo}
use Rattle.re_terms.specs.Admission.{device_count}
use Rattle.re_terms.specs.Runs.{PlainState}
use Rattle.re_terms.specs.Updates.{Update, covered}
use Rattle.re_terms.specs.declared.program.Program.{Program}

-- the two files of a device open to the words of this plain state and this number, and what it has taken in is what of the log its vector covers
pub record IsBaseOf (p : Program) (d : ℕ) (first second : List ℕ) (log : List Update) (base : PlainState) (number : ℕ) : Type 0 where
  pub opened : Opened
  pub opens : OpensTo p d first second opened
  pub words : opened.state.words.items ≡ base.words
  pub taken : base.taken ≡ covered log (counts_of opened)
  pub number_is : opened.number ≡ number

-- all files are settled and represent this log, and these are the plain states and the numbers of the devices
pub record StartsAt (p : Program) (base : ℕ → PlainState) (base_number : ℕ → ℕ) (log : List Update) (now : Past) : Type 0 where
  pub settled : (d f : ℕ) (file : List ℕ) → IsCrashImageAt now d f file → file ≡ content_at now d f
  pub represents : Represents p (content_at now) log
  pub bases : (d : ℕ) → d < device_count p.decls.items → IsBaseOf p d (content_at now d 0) (content_at now d 1) log (base d) (base_number d)
