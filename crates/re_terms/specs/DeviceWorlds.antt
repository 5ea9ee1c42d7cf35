-- A session's world over several devices, and one step of it.
-- Read against: on `device a; counter c;` the commands lazy a add c 5, send a, crash a, restart a, turn a add c 7, send a, get a c are answered applied 1, packet 0, down, up 0, ok 1, packet 1, 7; the packet 0 has no update.
-- On `device a; var x: int = 0;` where the third call of a turn's commit fails and the record's byte doesn't read as open, turn a x = 5, turn a x = 6, crash a, restart a are answered no 33, no 34 at 3, down, up 0; where it does read so, up 1.
use Rattle.std.specs.Prelude.{ℕ, ◌+◌, ◌==◌, Bool, true, false, not, if◌then◌else◌, List, [], ◌∷◌, ◌++◌, length, nat_le, nat_lt, Option, None, Some, option_map, option_and_then, unwrap_or, slice_get}
use Rattle.std.specs.Option.{option_map_or, option_or}
use Rattle.re_terms.specs.declared.program.Program.{Program}
use Rattle.re_terms.specs.declared.command.Command.{Command}
use Rattle.re_terms.specs.declared.command.Command.TheVariants as command
use Rattle.re_terms.specs.Admission.{device_count}
use Rattle.re_terms.specs.Entries.{PlainEntry, Merge, turn_entry, run_entries, run_taken, run_updates}
use Rattle.re_terms.specs.Limits.{OperationFault, SetFull, live_counts, updates_fault}
use Rattle.re_terms.specs.Runs.{PlainState, plain_start}
use Rattle.re_terms.specs.Shapes.{shape_of}
use Rattle.re_terms.specs.Spellings.{packet_bytes}
use Rattle.re_terms.specs.Updates.{Update}
use Rattle.re_terms.specs.UpdateSets.{union}
use Rattle.re_terms.specs.UpdateStates.{state_of_updates}
use Rattle.re_terms.specs.Worlds.{PlainAnswer, Entered, Applied, Settled, Packet, Hex, Down, Up, Refused, StoppedAt, BadFile, is_full, limit_code, shown}

-- what a session keeps between its commands, of each device by its number, and of all
pub record World : Type 0 where
  -- the device's state at the start, and the number of its last entry there
  pub base : ℕ → PlainState
  pub base_number : ℕ → ℕ
  -- its entries since: those that its files hold, and behind them those in memory alone
  pub settled : ℕ → List PlainEntry
  pub unsettled : ℕ → List PlainEntry
  -- the entries of a commit that failed, and whether the files as they read hold them
  pub in_doubt : ℕ → List PlainEntry
  pub reads : ℕ → Bool
  -- how many entries it took since it was opened
  pub count : ℕ → ℕ
  -- the number of the call that failed, among its writes, cuts and syncs since its opening ended
  pub stop : ℕ → Option ℕ
  pub up : ℕ → Bool
  -- the packets, each by its updates
  pub packets : List (List Update)
  -- the update log at the start, and behind it the updates of settled entries, in the order in which they became settled
  pub log : List Update

-- How a command fared. What a restart finds in its files stands here and not beside it: so `Fine` alone says that nothing outside hindered a command,
-- and each of the answers 33, 36, 37 and 39 comes of an outcome of its own.
pub data Outcome : Type 0 where
  Fine : Outcome
  -- memory ran out in it
  Memory : Outcome
  -- this file call of the device failed, and whether the files as they read hold the record in hand
  -- of a restart that fails neither changes anything: there both are free
  Failed : (at : ℕ) (gate_open : Bool) → Outcome
  -- no call of the restart failed, and the store is bad in this file, at this place
  BadStore : (file : ℕ) (place : ℕ) → Outcome
  -- no call of the restart failed, and the store is another program's
  OtherProgram : Outcome

-- f, but x at this device
abbrev pub with_at : {T : Type 0} → ℕ → T → (ℕ → T) → ℕ → T
with_at device x f d = if d == device then x else f d

-- the world before any command, where the devices begin with these states and numbers and the files represent this log
abbrev pub start_world : Program → (ℕ → PlainState) → (ℕ → ℕ) → List Update → World
start_world p base base_number log =
    record {
      base = base;
      base_number = base_number;
      settled = λ d. [];
      unsettled = λ d. [];
      in_doubt = λ d. [];
      reads = λ d. false;
      count = λ d. 0;
      stop = λ d. None;
      up = λ d. nat_lt d (device_count p.decls.items);
      packets = [];
      log = log;
    }

-- the same where all files are blank
abbrev pub blank_world : Program → World
blank_world p = start_world p (λ d. plain_start p) (λ d. 0) []

-- ---- a device

-- its state by its settled entries
abbrev pub settled_state : Program → World → ℕ → PlainState
settled_state p w d = run_entries p d (w.base d) (w.settled d)

-- its state
abbrev pub device_state : Program → World → ℕ → PlainState
device_state p w d = run_entries p d (w.base d) (w.settled d ++ w.unsettled d)

-- the updates that it has taken in by its settled entries
abbrev pub settled_taken : World → ℕ → List Update
settled_taken w d = run_taken d (w.base d).taken (w.settled d)

-- the updates that it has taken in
abbrev pub taken : World → ℕ → List Update
taken w d = run_taken d (w.base d).taken (w.settled d ++ w.unsettled d)

-- the number of its last settled entry
abbrev pub settled_number : World → ℕ → ℕ
settled_number w d = w.base_number d + length (w.settled d)

-- the number of its last entry
abbrev pub last_number : World → ℕ → ℕ
last_number w d = w.base_number d + length (w.settled d ++ w.unsettled d)

-- the entries in doubt that the files as they read hold
abbrev pub recovered : World → ℕ → List PlainEntry
recovered w d = if w.reads d then w.in_doubt d else []

-- ---- a command

-- the device that it is for
abbrev pub device_of : Command → Option ℕ
device_of (command.Turn d t) = Some d
device_of (command.Lazy d t) = Some d
device_of (command.Settle d) = Some d
device_of (command.Get d id) = Some d
device_of (command.Send d) = Some d
device_of (command.Deliver k d) = Some d
device_of (command.Hex k) = None
device_of (command.Crash d) = Some d
device_of (command.Restart d) = Some d

-- it is for this device
abbrev pub is_for : ℕ → Command → Bool
is_for d c = option_map_or (λ e. d == e) (device_of c) false

-- the entry that it makes
abbrev pub entry_of : World → Command → Option PlainEntry
entry_of w (command.Turn d t) = Some (turn_entry t)
entry_of w (command.Lazy d t) = Some (turn_entry t)
entry_of w (command.Deliver k d) = option_map Merge (slice_get w.packets k)
entry_of w c = None

-- an entry as a list, empty where there is none
abbrev pub entries_of : Option PlainEntry → List PlainEntry
entries_of None = []
entries_of (Some e) = e ∷ []

-- there are entries
abbrev pub has_entries : List PlainEntry → Bool
has_entries [] = false
has_entries (e ∷ entries) = true

-- it makes file calls: a turn, a merge and a settling of entries do by a commit, and a restart by an opening
abbrev pub calls_files : World → Command → Bool
calls_files w (command.Turn d t) = true
calls_files w (command.Deliver k d) = true
calls_files w (command.Settle d) = has_entries (w.unsettled d)
calls_files w (command.Restart d) = true
calls_files w c = false

-- it reads a store
abbrev pub reads_store : Command → Bool
reads_store (command.Restart d) = true
reads_store c = false

-- an outcome, as far as the command can have it
abbrev pub outcome_of : World → Command → Outcome → Outcome
outcome_of w c Fine = Fine
outcome_of w c Memory = Memory
outcome_of w c (Failed at gate_open) = if calls_files w c then Failed at gate_open else Fine
outcome_of w c (BadStore file place) = if reads_store c then BadStore file place else Fine
outcome_of w c OtherProgram = if reads_store c then OtherProgram else Fine

-- ---- refusals

-- the packet isn't there
abbrev pub lacks_packet : World → Command → Bool
lacks_packet w (command.Deliver k d) = nat_le (length w.packets) k
lacks_packet w (command.Hex k) = nat_le (length w.packets) k
lacks_packet w c = false

-- the device is down, and has to be up
abbrev pub is_down : World → Command → Bool
is_down w (command.Restart d) = false
is_down w c = option_map_or (λ d. not (w.up d)) (device_of c) false

-- the device is up, and has to be down
abbrev pub is_up : World → Command → Bool
is_up w (command.Restart d) = w.up d
is_up w c = false

-- the call since which the device is stopped, where the command has to find it running
abbrev pub stopped_at : World → Command → Option ℕ
stopped_at w (command.Crash d) = None
stopped_at w (command.Restart d) = None
stopped_at w c = option_and_then w.stop (device_of c)

-- no packet more is made
abbrev pub has_all_packets : World → Command → Bool
has_all_packets w (command.Send d) = nat_le 10000 (length w.packets)
has_all_packets w c = false

-- the device takes no entry more
abbrev pub takes_no_more : World → ℕ → Bool
takes_no_more w d = is_full (w.count d) (last_number w d)

-- the command makes an entry, and the device takes none more
abbrev pub has_all_entries : World → Command → Bool
has_all_entries w (command.Turn d t) = takes_no_more w d
has_all_entries w (command.Lazy d t) = takes_no_more w d
has_all_entries w (command.Deliver k d) = takes_no_more w d
has_all_entries w c = false

-- the device has as many unsettled entries as it may have
abbrev pub has_all_unsettled : World → Command → Bool
has_all_unsettled w (command.Lazy d t) = nat_le 8 (length (w.unsettled d))
has_all_unsettled w c = false

-- the limit that a merge would pass: the sets of the joined states would have more than 1,024 pairs together
abbrev pub merge_fault : Program → List Update → List Update → Option OperationFault
merge_fault p us packet = if nat_lt 1024 (live_counts 0 (shape_of p).cells.items (union us packet)) then Some SetFull else None

-- the limit that the command's entry would pass
abbrev pub limit_fault : Program → World → Command → Option OperationFault
limit_fault p w (command.Turn d t) = updates_fault (shape_of p) d t.turn.ops.items (taken w d)
limit_fault p w (command.Lazy d t) = updates_fault (shape_of p) d t.turn.ops.items (taken w d)
limit_fault p w (command.Deliver k d) = option_and_then (merge_fault p (taken w d)) (slice_get w.packets k)
limit_fault p w c = None

-- the refusal with this code, where it comes
abbrev pub refused_where : Bool → ℕ → Option PlainAnswer
refused_where b code = if b then Some (Refused code) else None

-- the refusal of a command, if any, however it fares: the first of these that comes
abbrev pub refusal : Program → World → Command → Option PlainAnswer
refusal p w c =
    option_or (refused_where (lacks_packet w c) 28)
    (option_or (refused_where (is_down w c) 26)
    (option_or (refused_where (is_up w c) 27)
    (option_or (option_map StoppedAt (stopped_at w c))
    (option_or (refused_where (has_all_packets w c) 35)
    (option_or (refused_where (has_all_entries w c) 29)
    (option_or (refused_where (has_all_unsettled w c) 38)
    (option_map (λ f. Refused (limit_code f)) (limit_fault p w c))))))))

-- ---- answers

-- a packet's bytes, by its updates
abbrev pub spelled : Program → List Update → List ℕ
spelled p us = packet_bytes (shape_of p).devices (state_of_updates (shape_of p) us)

-- the answer to a command that is done
abbrev pub done_answer : Program → World → Command → PlainAnswer
done_answer p w (command.Turn d t) = Entered (last_number w d + 1)
done_answer p w (command.Lazy d t) = Applied (last_number w d + 1)
done_answer p w (command.Settle d) = Settled (last_number w d)
done_answer p w (command.Get d id) = shown p (device_state p w d) id
done_answer p w (command.Send d) = Packet (length w.packets)
done_answer p w (command.Deliver k d) = Entered (last_number w d + 1)
done_answer p w (command.Hex k) = Hex (option_map_or (spelled p) (slice_get w.packets k) [])
done_answer p w (command.Crash d) = Down
done_answer p w (command.Restart d) = Up (settled_number w d + length (recovered w d))

-- the answer to a command that isn't refused before, by how it fared
abbrev pub fared_answer : Program → World → Command → Outcome → PlainAnswer
fared_answer p w c Fine = done_answer p w c
fared_answer p w c Memory = Refused 36
fared_answer p w c (Failed at gate_open) = Refused 33
fared_answer p w c (BadStore file place) = BadFile file place
fared_answer p w c OtherProgram = Refused 39

-- the answer to a command; want of memory may take the place of any other
abbrev pub reply : Program → World → Command → Outcome → PlainAnswer
reply p w c Memory = Refused 36
reply p w c o = unwrap_or (refusal p w c) (fared_answer p w c (outcome_of w c o))

-- an answer that refuses a command
abbrev pub is_refusal : PlainAnswer → Bool
is_refusal (Refused code) = true
is_refusal (StoppedAt call) = true
is_refusal (BadFile file place) = true
is_refusal a = false

-- ---- changes

-- the entries are settled, behind those before, and none is unsettled
abbrev pub settle : World → ℕ → List PlainEntry → World
settle w d entries =
    record w {
      settled = with_at d (w.settled d ++ entries) w.settled;
      unsettled = with_at d [] w.unsettled;
      log = w.log ++ run_updates d (settled_taken w d) entries;
    }

-- the device took one entry more
abbrev pub counted : World → ℕ → World
counted w d = record w { count = with_at d (w.count d + 1) w.count }

-- the entry is unsettled
abbrev pub apply : World → ℕ → PlainEntry → World
apply w d e = counted (record w { unsettled = with_at d (w.unsettled d ++ e ∷ []) w.unsettled }) d

-- the device is stopped since this call, and the entries are in doubt
abbrev pub doubt : World → ℕ → List PlainEntry → ℕ → Bool → World
doubt w d entries at gate_open =
    record w {
      in_doubt = with_at d entries w.in_doubt;
      reads = with_at d gate_open w.reads;
      stop = with_at d (Some at) w.stop;
    }

-- the device's memory is dropped
abbrev pub put_down : World → ℕ → World
put_down w d =
    record w {
      unsettled = with_at d [] w.unsettled;
      stop = with_at d None w.stop;
      up = with_at d false w.up;
    }

-- the device is opened: what is in doubt is settled or dropped
abbrev pub put_up : World → ℕ → World
put_up w d =
    record (settle w d (recovered w d)) {
      in_doubt = with_at d [] w.in_doubt;
      count = with_at d 0 w.count;
      up = with_at d true w.up;
    }

-- the entries of the record that a command commits: all unsettled ones, and its own behind them
abbrev pub record_of : World → Command → List PlainEntry
record_of w (command.Turn d t) = w.unsettled d ++ turn_entry t ∷ []
record_of w (command.Deliver k d) = w.unsettled d ++ entries_of (entry_of w (command.Deliver k d))
record_of w (command.Settle d) = w.unsettled d
record_of w c = []

-- the world after a command that is done
abbrev pub done_world : World → Command → World
done_world w (command.Turn d t) = counted (settle w d (record_of w (command.Turn d t))) d
done_world w (command.Lazy d t) = apply w d (turn_entry t)
done_world w (command.Settle d) = settle w d (record_of w (command.Settle d))
done_world w (command.Get d id) = w
done_world w (command.Send d) = record w { packets = w.packets ++ settled_taken w d ∷ [] }
done_world w (command.Deliver k d) = counted (settle w d (record_of w (command.Deliver k d))) d
done_world w (command.Hex k) = w
done_world w (command.Crash d) = put_down w d
done_world w (command.Restart d) = put_up w d

-- the world after a command in which this call failed: a commit stops the device, and a restart leaves it down
abbrev pub failed_world : World → Command → ℕ → Bool → World
failed_world w (command.Turn d t) at gate_open = doubt w d (record_of w (command.Turn d t)) at gate_open
failed_world w (command.Deliver k d) at gate_open = doubt w d (record_of w (command.Deliver k d)) at gate_open
failed_world w (command.Settle d) at gate_open = doubt w d (record_of w (command.Settle d)) at gate_open
failed_world w c at gate_open = w

-- the world after a command that isn't refused before, by how it fared
abbrev pub fared_world : World → Command → Outcome → World
fared_world w c Fine = done_world w c
fared_world w c (Failed at gate_open) = failed_world w c at gate_open
fared_world w c o = w

-- the world after a command
abbrev pub world_after : Program → World → Command → Outcome → World
world_after p w c o = option_map_or (λ refused. w) (refusal p w c) (fared_world w c (outcome_of w c o))

-- one step
abbrev pub world_step : Program → World → Command → Outcome → World × PlainAnswer
world_step p w c o = (world_after p w c o, reply p w c o)
