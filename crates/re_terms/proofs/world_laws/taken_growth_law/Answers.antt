use Rattle.re_terms.proofs.Growing.{part_grown, part_of, taken_grown, merged_taken, merged_state, entries_taken, entries_follow}
use Rattle.re_terms.proofs.world_laws.taken_growth_law.Goals as goal

pub returns : goal.returns
returns c =
    record {
      part = part_grown;
      device = part_of;
      others = taken_grown;
      merged = merged_taken;
      merged_state = λ shape log us packet d taken part. merged_state log us packet d taken part shape;
      entries = entries_taken;
      follow = entries_follow;
    }
