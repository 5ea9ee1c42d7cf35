-- What a command leaves that makes no file call.
use Rattle.std.proofs.Common.{◌≡◌, ℕ, Some, refl, sym, ap, ◌∙◌}
use Rattle.std.specs.Prelude.{Bool, false, true, ◌==◌, ◌≢◌}
use mathlib.Core.Bool.{true≢false}
use Rattle.re_device.specs.Stepping.{refused_as}
use Rattle.re_device.specs.declared.fault.DeviceFault.{DeviceFault}
use Rattle.re_device.specs.declared.fault.DeviceFault.TheVariants as fault
use Rattle.re_outside.specs.Outside.{Seen}
use Rattle.re_outside.specs.Port.{past_in}
use Rattle.re_outside.specs.Trace.{Past}
use Rattle.re_terms.specs.DeviceWorlds.{device_of, is_refusal, reads_store}
use Rattle.re_terms.specs.Worlds.{Applied, BadFile, Down, Entered, Hex, Members, Packet, PlainAnswer, Refused, Settled, StoppedAt, Up, Value}
use Rattle.re_terms.specs.declared.command.Command.{Command}
use Rattle.re_terms.specs.declared.command.Command.TheVariants as command
use Rattle.re_world.specs.FileSteps.{CommitsBy, HasFileSteps, is_disk_refusal}
use Rattle.re_world.specs.State.{WorldState, device_in}
use Rattle.re_world.specs.Stepping.{CountsBy, CountsIf, IsStoreRefusal, Keeps}

-- no count rises where nothing is called
pub counts_still : (c : Command) (a : PlainAnswer) (s : Seen) → is_disk_refusal a ≡ false → CountsBy c a s s
counts_still c a s calm = by_test (is_disk_refusal a) calm
  where
    by_test : (b : Bool) → b ≡ false → CountsIf b c s s
    by_test true is = absurd (true≢false is)
    by_test false is = λ kind. refl

-- the answer tells of a store
abbrev pub tells_of_store : PlainAnswer → Bool
tells_of_store (Refused code) = code == 39
tells_of_store (BadFile file at) = true
tells_of_store a = false

-- where it doesn't, it is no refusal for one
pub no_store : (a : PlainAnswer) → tells_of_store a ≡ false → IsStoreRefusal a → ⊥
no_store (Refused code) other is = true≢false (sym (ap (λ k. k == 39) is) ∙ other)
no_store (BadFile file at) other is = true≢false other
no_store (Entered n) other is = is
no_store (Applied n) other is = is
no_store (Settled n) other is = is
no_store (Value w) other is = is
no_store (Members elements) other is = is
no_store (Packet n) other is = is
no_store (Hex bytes) other is = is
no_store Down other is = is
no_store (Up n) other is = is
no_store (StoppedAt call) other is = is

-- what refuses nothing doesn't
pub no_store_told : (a : PlainAnswer) → is_refusal a ≡ false → tells_of_store a ≡ false
no_store_told (Refused code) calm = absurd (true≢false calm)
no_store_told (BadFile file at) calm = calm
no_store_told (Entered n) calm = refl
no_store_told (Applied n) calm = refl
no_store_told (Settled n) calm = refl
no_store_told (Value w) calm = refl
no_store_told (Members elements) calm = refl
no_store_told (Packet n) calm = refl
no_store_told (Hex bytes) calm = refl
no_store_told Down calm = refl
no_store_told (Up n) calm = refl
no_store_told (StoppedAt call) calm = refl

-- nor does a device's refusal
pub no_store_by : (f : DeviceFault) → tells_of_store (refused_as f) ≡ false
no_store_by fault.Memory = refl
no_store_by fault.Disk = refl
no_store_by (fault.Stopped at) = refl
no_store_by fault.Full = refl
no_store_by fault.LooseFull = refl
no_store_by fault.SetFull = refl
no_store_by fault.CounterFull = refl
no_store_by fault.DotsSpent = refl

-- a command that is refused before its commit makes no file call
pub refused_files : (v : WorldState) (c : Command) (a : PlainAnswer) (s : Seen) → reads_store c ≡ false → is_refusal a ≡ true → is_disk_refusal a ≡ false → HasFileSteps v v c a s s
refused_files v c a s opens refused calm = by_command c opens
  where
    by_tests : (b r : Bool) (x : Command) (d : ℕ) (m : Past) → b ≡ false → r ≡ true → CommitsBy b r v v x d m m
    by_tests true r x d m calm is = absurd (true≢false calm)
    by_tests false false x d m calm is = absurd (true≢false (sym is))
    by_tests false true x d m calm is = refl

    by_command : (x : Command) → reads_store x ≡ false → HasFileSteps v v x a s s
    by_command (command.Turn d t) own = by_tests (is_disk_refusal a) (is_refusal a) (command.Turn d t) d (past_in d s) calm refused
    by_command (command.Lazy d t) own = refl
    by_command (command.Settle d) own = by_tests (is_disk_refusal a) (is_refusal a) (command.Settle d) d (past_in d s) calm refused
    by_command (command.Get d id) own = refl
    by_command (command.Send d) own = refl
    by_command (command.Deliver k d) own = by_tests (is_disk_refusal a) (is_refusal a) (command.Deliver k d) d (past_in d s) calm refused
    by_command (command.Hex k) own = refl
    by_command (command.Crash d) own = refl
    by_command (command.Restart d) own = absurd (true≢false own)

-- a command that isn't refused, or leaves all as it was
pub keeps_done : (old new : WorldState) (c : Command) (a : PlainAnswer) → is_disk_refusal a ≡ false → new.program ≡ old.program → ((d : ℕ) → device_of c ≢ Some d → device_in new d ≡ device_in old d) → (is_refusal a ≡ true → new ≡ old) → Keeps old new c a
keeps_done old new c a calm program others refused = record {
  program = program;
  others = others;
  refused = λ is other. refused is;
  stops = λ is d own. absurd (true≢false (sym is ∙ calm));
  packets = λ is. absurd (true≢false (sym is ∙ calm));
}

-- all is as it was
pub keeps_still : (v : WorldState) (c : Command) (a : PlainAnswer) → is_disk_refusal a ≡ false → Keeps v v c a
keeps_still v c a calm = keeps_done v v c a calm refl (λ d other. refl) (λ is. refl)
