-- Why a device refuses a call, by what it has in memory.
-- Read against: a device that stopped at call 3 refuses a turn with 34 at 3, whatever else stands against it; one with 4,096 entries since its opening and 8 unsettled ones refuses an unsettled turn with 29, and not with 38; one whose counter has no room for it refuses it with 31. Want of memory, 36, may come in the place of each of these.
use Rattle.std.specs.Prelude.{◌≡◌, ◌⊎◌, ◌==◌, ℕ, Bool, true, false, not, if◌then◌else◌, length, nat_le, Option, None, Some, option_map}
use Rattle.std.specs.Option.{option_or}
use Rattle.re_device.specs.Device.{DeviceState, limit_against, takes_no_more}
use Rattle.re_terms.specs.DeviceWorlds.{refused_where}
use Rattle.re_terms.specs.Limits.{OperationFault}
use Rattle.re_terms.specs.Worlds.{PlainAnswer, Refused, StoppedAt, limit_code}
use Rattle.re_terms.specs.declared.entry.Entry.{Entry}

-- why a device refuses: where it is stopped, where it takes no more, where as many entries are unsettled as may be, and the limit that stands against the entry
abbrev pub refusal_by : Option ℕ → Bool → Bool → Option OperationFault → Option PlainAnswer
refusal_by stop full many limit =
    option_or (option_map StoppedAt stop)
    (option_or (refused_where full 29)
    (option_or (refused_where many 38)
    (option_map (λ f. Refused (limit_code f)) limit)))

-- why an entry that is to be settled is refused
abbrev pub entry_refusal : DeviceState → Entry → Option PlainAnswer
entry_refusal d e = refusal_by d.journal.stopped (takes_no_more d.memory) false (limit_against d.memory e)

-- why one that is to be unsettled is
abbrev pub unsettled_refusal : DeviceState → Entry → Option PlainAnswer
unsettled_refusal d e = refusal_by d.journal.stopped (takes_no_more d.memory) (nat_le 8 (length d.memory.unsettled)) (limit_against d.memory e)

-- why a call is that takes no entry
abbrev pub stop_refusal : DeviceState → Option PlainAnswer
stop_refusal d = refusal_by d.journal.stopped false false None

-- an answer that refuses for what is in memory: not one for a failed call, for want of memory, or for a store
abbrev pub is_caused : PlainAnswer → Bool
is_caused (Refused code) = if code == 33 then false else if code == 36 then false else not (code == 39)
is_caused (StoppedAt call) = true
is_caused a = false

-- the answer is this refusal, or want of memory in its place; where there is none it is no such refusal
abbrev pub IsCausedBy : Option PlainAnswer → PlainAnswer → Type 0
IsCausedBy (Some refusal) a = (a ≡ refusal) ⊎ (a ≡ Refused 36)
IsCausedBy None a = is_caused a ≡ false
