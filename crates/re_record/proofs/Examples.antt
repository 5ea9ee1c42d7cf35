-- A store of one turn, as it is worked out by hand: its bytes, and what it opens to.
use Rattle.std.proofs.Common.{◌≡◌, ℕ, zero, suc, ◌+◌, ◌<◌, ◌≤◌, ◌⊎◌, inl, inr, pos, true, false, List, [], ◌∷◌, ◌++◌, length, refl, sym, ap, subst, ◌∙◌, arith}
use Rattle.std.specs.List.{All}
use Rattle.std.specs.Fmt.{digits}
use Rattle.re_outside.specs.Frame.{AreRecords, IsClosed, front}
use Rattle.re_print.specs.Canonical.{program_text}
use Rattle.re_record.specs.Logs.{IsLoggedOf, IsRecordOf, IsSnapshotOf}
use Rattle.re_record.specs.Restoring.{Opened, after_all}
use Rattle.re_record.specs.Sample.{small, zero_word}
use Rattle.re_record.specs.Spellings.{put_bytes, puts_bytes, operations_bytes, turn_bytes, changes_bytes, logged_bytes, record_bytes, owner_bytes, text_bytes, head_bytes, kept_bytes, snapshot_bytes}
use Rattle.re_record.specs.Stores.{AreRecordsOf, MayBeOpened, OpensTo, laid}
use Rattle.re_record.specs.declared.snapshots.Snapshot.{Snapshot}
use Rattle.re_record.proofs.Samples.{small_is}
use Rattle.re_record.proofs.StoreLaws.{first_opens}
use Rattle.re_terms.proofs.StatesKept.{start_is}
use Rattle.re_terms.specs.Listed.{plain}
use Rattle.re_terms.specs.Shapes.{shape_of, start_replicated, start_state}
use Rattle.re_terms.specs.Spellings.{state_bytes, vector_bytes, word_bytes}
use Rattle.re_terms.specs.declared.entry.Entry.TheVariants as entry
use Rattle.re_terms.specs.declared.entry.Logged.{Logged}
use Rattle.re_terms.specs.declared.entry.Put.{Put}
use Rattle.re_terms.specs.declared.entry.State.{State}
use Rattle.re_terms.specs.declared.word.Word.TheVariants as word

-- x is 5
put : Put
put = record { id = 1; word = word.Int (pos 5) }

-- the turn x = 5, with its change
turn : Logged
turn = record { entry = entry.Turn (record { sets = plain (put ∷ []); fires = plain []; ops = plain [] }); changes = plain (put ∷ []) }

turn_text : List ℕ
turn_text = 1 ∷ 0 ∷ 1 ∷ 0 ∷ 1 ∷ 0 ∷ 0 ∷ 0 ∷ 0 ∷ 0 ∷ 0 ∷ 0 ∷ 0 ∷ 5 ∷ 0 ∷ 0 ∷ 0 ∷ 1 ∷ 0 ∷ 1 ∷ 0 ∷ 0 ∷ 0 ∷ 0 ∷ 0 ∷ 0 ∷ 0 ∷ 0 ∷ 5 ∷ []

start_text : List ℕ
start_text = 0 ∷ 0 ∷ 0 ∷ 0 ∷ 0 ∷ 0 ∷ 0 ∷ 1 ∷ 1 ∷ 0 ∷ 0 ∷ 0 ∷ 0 ∷ 0 ∷ 0 ∷ 0 ∷ 0 ∷ 0 ∷ 0 ∷ 0 ∷ 0 ∷ 31 ∷ 100 ∷ 101 ∷ 118 ∷ 105 ∷ 99 ∷ 101 ∷ 32 ∷ 97 ∷ 59 ∷ 10 ∷ 118 ∷ 97 ∷ 114 ∷ 32 ∷ 120 ∷ 58 ∷ 32 ∷ 105 ∷ 110 ∷ 116 ∷ 32 ∷ 61 ∷ 32 ∷ 48 ∷ 32 ∷ 105 ∷ 110 ∷ 32 ∷ 49 ∷ 59 ∷ 10 ∷ 0 ∷ 0 ∷ 0 ∷ 0 ∷ 0 ∷ 0 ∷ 0 ∷ 0 ∷ 0 ∷ 0 ∷ 0 ∷ 0 ∷ 0 ∷ 0 ∷ 0 ∷ 0 ∷ 0 ∷ []

file : List ℕ
file = 1 ∷ 0 ∷ 0 ∷ 0 ∷ 70 ∷ 0 ∷ 0 ∷ 0 ∷ 0 ∷ 0 ∷ 0 ∷ 0 ∷ 1 ∷ 1 ∷ 0 ∷ 0 ∷ 0 ∷ 0 ∷ 0 ∷ 0 ∷ 0 ∷ 0 ∷ 0 ∷ 0 ∷ 0 ∷ 0 ∷ 31 ∷ 100 ∷ 101 ∷ 118 ∷ 105 ∷ 99 ∷ 101 ∷ 32 ∷ 97 ∷ 59 ∷ 10 ∷ 118 ∷ 97 ∷ 114 ∷ 32 ∷ 120 ∷ 58 ∷ 32 ∷ 105 ∷ 110 ∷ 116 ∷ 32 ∷ 61 ∷ 32 ∷ 48 ∷ 32 ∷ 105 ∷ 110 ∷ 32 ∷ 49 ∷ 59 ∷ 10 ∷ 0 ∷ 0 ∷ 0 ∷ 0 ∷ 0 ∷ 0 ∷ 0 ∷ 0 ∷ 0 ∷ 0 ∷ 0 ∷ 0 ∷ 0 ∷ 0 ∷ 0 ∷ 0 ∷ 0 ∷ 1 ∷ 0 ∷ 0 ∷ 0 ∷ 29 ∷ 1 ∷ 0 ∷ 1 ∷ 0 ∷ 1 ∷ 0 ∷ 0 ∷ 0 ∷ 0 ∷ 0 ∷ 0 ∷ 0 ∷ 0 ∷ 5 ∷ 0 ∷ 0 ∷ 0 ∷ 1 ∷ 0 ∷ 1 ∷ 0 ∷ 0 ∷ 0 ∷ 0 ∷ 0 ∷ 0 ∷ 0 ∷ 0 ∷ 5 ∷ 0 ∷ []

turn_is : record_bytes 1 (turn ∷ []) ≡ turn_text
unfolding record_bytes logged_bytes turn_bytes puts_bytes put_bytes operations_bytes changes_bytes word_bytes turn put turn_text
turn_is = refl

start_is_text : snapshot_bytes small 0 1 0 (start_state small) ≡ start_text
unfolding snapshot_bytes head_bytes owner_bytes text_bytes kept_bytes word_bytes state_bytes vector_bytes start_text digits
start_is_text = refl

file_is : front start_text (turn_text ∷ []) ++ 0 ∷ [] ≡ file
unfolding file start_text turn_text
file_is = refl
