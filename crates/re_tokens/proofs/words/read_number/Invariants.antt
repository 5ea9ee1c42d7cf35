use Rattle.std.proofs.Common.{◌≡◌, ◌≤◌, ◌^◌, drop}
use Rattle.re_tokens.specs.Scanning.{number_from}
use Rattle.re_tokens.proofs.words.read_number.Given as goal

abbrev pub invariant-loop-byte : goal.invariant-loop-byte
invariant-loop-byte l = record {
  small : l.number ≤ 2 ^ 63;
  rest : number_from l.number (drop l.byte-index l.word) ≡ number_from 0 l.word;
}
