-- The steps of a session, one line more.
use Rattle.std.proofs.Common.{◌++◌, ◌∷◌, [], ℕ, List, sym, refl}
use Rattle.std.proofs.lemmas.List.{append-nil}
use Rattle.re_outside.specs.Outside.{Seen, Does, none}
use Rattle.re_session.specs.Acts.{Act, Acts, DoneLine}
use Rattle.re_session.specs.Serving.{DoesLine, Serves, Whole}
use Rattle.re_terms.specs.declared.program.Program.{Program}
use Rattle.re_tool.specs.Acts.{OpensAs, Ordered, ReadsPart}
use Rattle.re_world.specs.State.{WorldState}

-- what was done of a line
abbrev pub line_done : {p : Program} {line : List ℕ} {v v' : WorldState} {a b : Seen} {Told : Seen → Seen → List ℕ → Type 0} → Serves p line v v' a b Told → DoneLine
line_done {p} {line} s = record { line = line; answer = s.answer; outcome = s.outcome }

-- a line was read, and is done with its whole answer
pub act_said : (a b c : Seen) (p : Program) (line : List ℕ) (v v' : WorldState) (read : List ℕ) (s : Serves p line v v' b c Whole) → Does a b read [] none → Act p (line_done s) v v' a c
act_said a b c p line v v' read s d = record { read = read; begun = b; reads = d; done = s.done; own = s.does; says = s.told }

-- Where the session stands behind some lines.
pub record Reached (a b : Seen) (p : Program) (lines : List DoneLine) (now : WorldState) : Type 0 where
  pub part : List ℕ
  pub part_read : Seen
  pub reads_part : Does a part_read part [] none
  pub is_whole : ReadsPart part part_read
  pub devices : WorldState
  pub opened : Seen
  pub opens : OpensAs p devices part_read opened
  pub mid : Seen
  pub acts : Acts p lines devices now opened mid
  pub ahead : List ℕ
  pub reads : Does mid b ahead [] none

-- all of the lines are answered
pub ordered_all : (a b : Seen) (p : Program) (lines : List DoneLine) (now : WorldState) → Reached a b p lines now → Ordered a b p lines [] now
ordered_all a b p lines now r = record {
  answered = lines;
  these = sym (append-nil lines);
  part = r.part;
  part_read = r.part_read;
  reads_part = r.reads_part;
  is_whole = r.is_whole;
  devices = r.devices;
  opened = r.opened;
  opens = r.opens;
  before = now;
  mid = r.mid;
  acts = r.acts;
  ahead = r.ahead;
  begun = b;
  reads = r.reads;
  own = (refl, refl);
}

-- all but one are, which was done
pub ordered_but_one : (a b c : Seen) (p : Program) (lines : List DoneLine) (l : DoneLine) (now last : WorldState) → Reached a b p lines now → DoesLine p l.line now last l.answer l.outcome b c → Ordered a c p (lines ++ l ∷ []) (l ∷ []) last
ordered_but_one a b c p lines l now last r d = record {
  answered = lines;
  these = refl;
  part = r.part;
  part_read = r.part_read;
  reads_part = r.reads_part;
  is_whole = r.is_whole;
  devices = r.devices;
  opened = r.opened;
  opens = r.opens;
  before = now;
  mid = r.mid;
  acts = r.acts;
  ahead = r.ahead;
  begun = b;
  reads = r.reads;
  own = d;
}
