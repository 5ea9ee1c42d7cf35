use Rattle.std.proofs.Common.{arith}
use Rattle.re_record.proofs.LoggedLengths.{logged_long, logged_turn_long, record_long, record_some, snapshot_long, snapshot_some, generation_is}
use Rattle.re_record.proofs.laws.length_law.Goals as goal
use Rattle.re_record.specs.Spellings.{record_bytes}

pub returns : goal.returns
returns c =
    record {
      entry = logged_long;
      turn = logged_turn_long;
      committed = record_long;
      fits = λ shape turns last is few has are last_has. (record_some shape.devices _, (let h = record_long shape turns last is few has are last_has in omega (arith, h)));
      snapshot = snapshot_long;
      laid = λ p device g number s is short state. (snapshot_some p device g number s, (let h = snapshot_long p device g number s is short state in omega (arith, h)));
      generation = generation_is;
    }
