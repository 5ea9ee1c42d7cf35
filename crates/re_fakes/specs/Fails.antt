-- The list of calls that fail.
use Rattle.std.specs.Prelude.{ℕ, ◌==◌, ◌&&◌, Bool, true, false, List, Option, None, Some, find}
use Rattle.re_outside.specs.declared.step.Call.{Call}
use Rattle.re_outside.specs.declared.step.Call.TheVariants.{Take, Say, Size, Fetch, Write, Cut, Sync}
use Rattle.re_fakes.specs.declared.fails.Fail.{Fail}

-- two calls are of one kind
abbrev pub same_call : Call → Call → Bool
same_call Take Take = true
same_call Say Say = true
same_call Size Size = true
same_call Fetch Fetch = true
same_call Write Write = true
same_call Cut Cut = true
same_call Sync Sync = true
same_call _ _ = false

-- an entry speaks of this call of its kind
abbrev pub fits : Call → ℕ → Fail → Bool
fits call number fail = same_call fail.call call && (fail.nth == number)

-- the entry that speaks of this call, the first where there are several
abbrev pub entry : Call → ℕ → List Fail → Option Fail
entry call number fails = find (fits call number) fails

-- how many bytes of a write are made where an entry speaks of it
abbrev pub done_of : Option Fail → ℕ
done_of None = 0
done_of (Some fail) = fail.done
