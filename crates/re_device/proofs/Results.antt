-- What an Ok gives.
use Rattle.std.proofs.Common.{◌≡◌, Result, Ok, Err, refl, subst}
use Rattle.std.specs.Prelude.{OnOk}

-- it is enough to look at an Ok
pub ok_from : {T : Type 0} {E : Type 0} (r : Result T E) (Q : Type 0) → ((x : T) → r ≡ Ok x → Q) → OnOk r Q
ok_from (Ok x) Q f = f x refl
ok_from (Err e) Q f = tt

pub at_ok : {T : Type 0} {E : Type 0} (P : Type 0) (r : Result T E) (x : T) → r ≡ Ok x → OnOk r P → P
at_ok P r x is holds = subst (λ q. OnOk q P) is holds
