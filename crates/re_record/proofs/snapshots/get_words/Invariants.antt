use Rattle.std.proofs.Common.{◌≡◌, ◌≤◌, drop, length}
use Rattle.re_record.specs.Slots.{kept_slots}
use Rattle.re_record.specs.Snapshots.{words_at}
use Rattle.re_wire.proofs.Several.{with_front}
use Rattle.re_record.proofs.snapshots.get_words.Given as goal

abbrev pub invariant-loop-decl : goal.invariant-loop-decl
invariant-loop-decl l =
    record {
      so_far : with_front l.words.items (words_at l.symbols (kept_slots (drop l.decl-index l.decls)) l.bytes l.behind) ≡ words_at l.symbols (kept_slots l.decls) l.bytes l.at;
      spare : l.words.spare ≡ 0;
      within : l.behind ≤ length l.bytes;
    }
