use Rattle.re_outside.proofs.Frames.{one_frame, frame_not_bad, one_place}
use Rattle.re_outside.proofs.Stores.{one_generation, generation_read, one_store}
use Rattle.re_outside.proofs.Readings.{some_store}
use Rattle.re_outside.proofs.laws.frame_law.Goals as goal

pub returns-clause-frame : goal.returns-clause-frame
returns-clause-frame c = λ file snapshot other bodies others. one_frame file snapshot other bodies others

pub returns-clause-refusal : goal.returns-clause-refusal
returns-clause-refusal c = frame_not_bad

pub returns-clause-place : goal.returns-clause-place
returns-clause-place c = one_place

pub returns-clause-generation : goal.returns-clause-generation
returns-clause-generation c = one_generation

pub returns-clause-store : goal.returns-clause-store
returns-clause-store c = one_store

pub returns-clause-snapshot : goal.returns-clause-snapshot
returns-clause-snapshot c = λ file snapshot bodies g. generation_read file snapshot bodies g

pub returns-clause-some : goal.returns-clause-some
returns-clause-some c = some_store
