-- What holds together holds one by one.
use Rattle.std.proofs.Common.{◌≡◌, Bool, true, false, ◌&&◌, refl}

pub both : {a b : Bool} → (a && b) ≡ true → (a ≡ true) × (b ≡ true)
both {a = true} {b = b} h = (refl, h)
both {a = false} {b = b} h = absurd (cc)

pub all_three : (a b c : Bool) → (a && b && c) ≡ true → (a ≡ true) × (b ≡ true) × (c ≡ true)
all_three a b c h =
    let last = both {a = a && b} {b = c} h in
    let first = both {a = a} {b = b} last.0 in
    (first.0, first.1, last.1)

pub all_four : (a b c d : Bool) → (a && b && c && d) ≡ true → (a ≡ true) × (b ≡ true) × (c ≡ true) × (d ≡ true)
all_four a b c d h =
    let last = both {a = a && b && c} {b = d} h in
    let first = all_three a b c last.0 in
    (first.0, first.1, first.2, last.1)
