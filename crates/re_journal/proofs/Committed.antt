-- A journal that commits a record, at each moment and afterwards.
use Rattle.std.proofs.Common.{◌≡◌, ◌≢◌, ◌⊎◌, inl, inr, ℕ, ◌+◌, ◌-◌, max, List, [], ◌∷◌, ◌++◌, length, Option, Some, None, Result, Ok, Err, refl, sym, ◌∙◌, ap, subst, arith}
use Rattle.re_outside.specs.Listed.{plain}
use Rattle.re_outside.specs.Frame.{front, HasFrame, is_blank}
use Rattle.re_outside.specs.Image.{written}
use Rattle.re_outside.specs.Moment.{Throughout, Leaves, IsSettled, OnlyMoves}
use Rattle.re_outside.specs.Plan.{FileChange, WriteAt, KeepSafe, IsSafe, StopsAt}
use Rattle.re_outside.specs.Trace.{Past, with_steps, content_of, IsCrashImageOf}
use Rattle.re_outside.proofs.Moments.{no_step, at_end}
use Rattle.re_outside.proofs.Safe.{ran_safe, stops_safe}
use Rattle.re_outside.proofs.Steps.{kept}
use Rattle.re_outside.proofs.SyncedChanges.{changes_safe, changes_settle}
use Rattle.re_journal.specs.declared.journal.Journal.{Journal}
use Rattle.re_journal.specs.Commits.{commit_steps, StopsJournal}
use Rattle.re_journal.specs.Journals.{other_file, KnowsFiles, HasGates, StandsOn, MayFollow, HasAllOrOneMore, Commits}
use Rattle.re_journal.proofs.Gates.{commit_keeps, committed_has, committed_length, committed_gate, still_closed}

module _ (journal : Journal) (snapshot body frame : List ℕ) (bodies : List (List ℕ)) (old : Past) (stands : StandsOn journal snapshot bodies old) (may : MayFollow snapshot bodies body frame) where
  abbrev Safe : Past → Type 0
  Safe = Leaves journal.file (HasAllOrOneMore snapshot bodies body) old

  abbrev changes : List FileChange
  changes = WriteAt (journal.gate + 1) frame ∷ WriteAt journal.gate (1 ∷ []) ∷ []

  abbrev file : List ℕ
  file = content_of old journal.file

  abbrev after : List ℕ
  after = written (written file (journal.gate + 1) frame) journal.gate (1 ∷ [])

  keeps : KeepSafe (HasAllOrOneMore snapshot bodies body) file changes
  keeps =
      subst (λ e. KeepSafe (HasAllOrOneMore snapshot bodies body) file (WriteAt (e + 1) frame ∷ WriteAt e (1 ∷ []) ∷ [])) (sym stands.gates.gate)
      (commit_keeps file snapshot body frame bodies stands.gates.frame may)

  pub commit_safe : IsSafe Safe (commit_steps old.device journal.file journal.gate frame) old
  commit_safe = changes_safe journal.file (HasAllOrOneMore snapshot bodies body) old changes file old refl refl stands.files.own keeps

  -- a stop of a journal that makes no call
  pub still_safe : Throughout old old Safe
  still_safe = no_step old old Safe refl (record { images = λ c image. inl (subst (λ (l : List ℕ). HasFrame l snapshot bodies) (sym (stands.files.own.only c image)) stands.gates.frame); others = refl })

  pub done_safe : (new : Past) → new ≡ with_steps old (commit_steps old.device journal.file journal.gate frame) → Throughout old new Safe
  done_safe new is = ran_safe Safe (commit_steps old.device journal.file journal.gate frame) old new commit_safe is

  pub stopped_safe : (new : Past) (calls : ℕ) (stopped : Option ℕ) → StopsJournal (commit_steps old.device journal.file journal.gate frame) calls stopped old new → Throughout old new Safe
  stopped_safe new calls None none = absurd none
  stopped_safe new calls (Some at) stops = stops_safe Safe (commit_steps old.device journal.file journal.gate frame) calls stops.0 old new commit_safe stops.2

  abbrev now : Past
  now = with_steps old (commit_steps old.device journal.file journal.gate frame)

  settled : IsSettled journal.file after now
  settled = changes_settle journal.file changes file old stands.files.own

  moves : OnlyMoves journal.file old now
  moves = (at_end old now Safe (done_safe now refl)).others

  -- the other file is as it was
  other_kept : IsSettled (other_file journal.file) (content_of old (other_file journal.file)) now
  other_kept =
      let other = other_file journal.file in
      let apart : other ≢ journal.file = λ e. omega (arith, e) in
      let same = kept journal.file old.device other old now (commit_steps old.device journal.file journal.gate frame, refl) moves (inr apart) in
      record { content = same.content; only = λ c image. stands.files.other.only c (same.images c image) }

  has_frame : HasFrame after snapshot (bodies ++ body ∷ [])
  has_frame =
      subst (λ e. HasFrame (written (written file (e + 1) frame) e (1 ∷ [])) snapshot (bodies ++ body ∷ [])) (sym stands.gates.gate)
      (committed_has file snapshot body frame bodies stands.gates.frame may)

  after_length : length after ≡ max journal.length (journal.gate + 1 + length frame)
  after_length =
      let e = front snapshot bodies in
      subst (λ n. length (written (written file (n + 1) frame) n (1 ∷ [])) ≡ max journal.length (n + 1 + length frame)) (sym stands.gates.gate)
      (committed_length file snapshot body frame bodies stands.gates.frame may ∙ ap (λ n. max n (length e + 1 + length frame)) (sym stands.files.own_length))

  pub stands_after : (next : Journal) (new : Past) → Commits (length frame) journal next → new ≡ now → StandsOn next snapshot (bodies ++ body ∷ []) new
  stands_after next new commits is =
      subst (λ past. StandsOn next snapshot (bodies ++ body ∷ []) past) (sym is) (record {
        files = record {
          own = subst (λ f. IsSettled f (content_of now f) now) (sym commits.file) (record { content = refl; only = λ c image. settled.only c image ∙ sym settled.content });
          own_length = commits.length ∙ (sym after_length ∙ (ap length (sym settled.content) ∙ ap (λ f. length (content_of now f)) (sym commits.file)));
          other = subst (λ f. IsSettled (other_file f) (content_of now (other_file f)) now) (sym commits.file) (record { content = refl; only = λ c image. other_kept.only c image ∙ sym other_kept.content });
          other_length = commits.other_length ∙ (stands.files.other_length ∙ (ap length (sym other_kept.content) ∙ ap (λ f. length (content_of now (other_file f))) (sym commits.file)));
          other_blank = commits.other_blank ∙ (stands.files.other_blank ∙ (ap is_blank (sym other_kept.content) ∙ ap (λ f. is_blank (content_of now (other_file f))) (sym commits.file)));
        };
        gates = record {
          frame = subst (λ f. HasFrame (content_of now f) snapshot (bodies ++ body ∷ [])) (sym commits.file) (subst (λ (l : List ℕ). HasFrame l snapshot (bodies ++ body ∷ [])) (sym settled.content) has_frame);
          start = commits.start ∙ stands.gates.start;
          gate = commits.gate ∙ (ap (λ n. n + length frame) stands.gates.gate ∙ committed_gate file snapshot body frame bodies stands.gates.frame may);
        };
      })
