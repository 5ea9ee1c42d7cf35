-- Reading values one behind the other, as a loop does.
use Rattle.std.proofs.Common.{◌≡◌, ℕ, suc, ◌-◌, ◌+◌, ◌≤◌, ◌<◌, List, [], ◌∷◌, ◌++◌, length, set, replicate, Result, Ok, Err, refl, sym, ap, ◌∙◌, append_assoc, arith}
use Rattle.std.proofs.lemmas.List.{append-nil}
use Rattle.re_wire.specs.declared.fault.WireFault.{WireFault}
use Rattle.re_wire.specs.declared.fault.WireFault.TheVariants as faults
use Rattle.re_wire.specs.Reading.{◌>>=◌, Fails, Refuses, several_at}

-- what was read before, and what is still read
abbrev pub with_front : {X : Type 0} → List X → Result (List X × ℕ) ℕ → Result (List X × ℕ) ℕ
with_front front read = read >>= λ x. Ok (front ++ x.0, x.1)

pub with_nothing : {X : Type 0} (read : Result (List X × ℕ) ℕ) → with_front [] read ≡ read
with_nothing (Ok x) = refl
with_nothing (Err place) = refl

pub regroup : {X : Type 0} (front : List X) (x : X) (read : Result (List X × ℕ) ℕ) → with_front front (read >>= λ y. Ok (x ∷ y.0, y.1)) ≡ with_front (front ++ x ∷ []) read
regroup front x (Ok y) = ap (λ (xs : List _). Ok (xs, y.1)) (simp append_assoc)
regroup front x (Err place) = refl

-- a refusal of a step is one of the whole
pub refuses_then : {X Y : Type 0} (e : WireFault) (read : Result X ℕ) (f : X → Result Y ℕ) → Refuses e read → Refuses e (read >>= f)
refuses_then faults.Memory read f h = absurd h
refuses_then (faults.At place) read f h = rw h refl

pub fails_then : {X Y : Type 0} (e : WireFault) (read : Result X ℕ) (f : X → Result Y ℕ) → Fails e read → Fails e (read >>= f)
fails_then faults.Memory read f h = tt
fails_then (faults.At place) read f h = rw h refl

pub fails_from_refuses : {X : Type 0} (e : WireFault) (read : Result X ℕ) → Refuses e read → Fails e read
fails_from_refuses faults.Memory read h = tt
fails_from_refuses (faults.At place) read h = h

pub goes_on : {X : Type 0} (read : ℕ → Result (X × ℕ) ℕ) (front : List X) (count i at : ℕ) (x : X) (after : ℕ) (total : Result (List X × ℕ) ℕ) → i < count → read at ≡ Ok (x, after)
    → with_front front (several_at read (count - i) at) ≡ total → with_front (front ++ x ∷ []) (several_at read (count - (i + 1)) after) ≡ total
unfolding several_at
goes_on read front count i at x after total lt h so_far =
    let k : count - i ≡ suc (count - (i + 1)) = omega arith in
    let one : with_front front (several_at read (count - i) at) ≡ with_front (front ++ x ∷ []) (several_at read (count - (i + 1)) after) = rw (k, h) (regroup front x (several_at read (count - (i + 1)) after)) in
    sym one ∙ so_far

pub ends : {X : Type 0} (read : ℕ → Result (X × ℕ) ℕ) (e : WireFault) (front : List X) (count i at : ℕ) (total : Result (List X × ℕ) ℕ) → i < count → Refuses e (read at)
    → with_front front (several_at read (count - i) at) ≡ total → Refuses e total
unfolding several_at
ends read faults.Memory front count i at total lt h so_far = absurd h
ends read (faults.At place) front count i at total lt h so_far =
    let k : count - i ≡ suc (count - (i + 1)) = omega arith in
    let one : with_front front (several_at read (count - i) at) ≡ Err place = rw (k, h) refl in
    sym so_far ∙ one

pub is_done : {X : Type 0} (read : ℕ → Result (X × ℕ) ℕ) (front : List X) (count i at : ℕ) (total : Result (List X × ℕ) ℕ) → count ≤ i → with_front front (several_at read (count - i) at) ≡ total → total ≡ Ok (front, at)
unfolding several_at
is_done read front count i at total le so_far =
    let k : count - i ≡ 0 = omega arith in
    let one : with_front front (several_at read (count - i) at) ≡ Ok (front, at) = rw k (ap (λ (xs : List _). Ok (xs, at)) (append-nil front)) in
    sym so_far ∙ one

-- ---- in 16 places

set_next : (front : List ℕ) (n x : ℕ) → set (front ++ replicate (suc n) 0) (length front) x ≡ front ++ x ∷ replicate n 0
set_next [] n x = refl
set_next (y ∷ front) n x = ap (λ (ys : List ℕ). y ∷ ys) (set_next front n x)

-- the next of 16 places is set
pub set_padded : (front : List ℕ) (i x : ℕ) → length front ≡ i → i < 16 → set (front ++ replicate (16 - i) 0) i x ≡ (front ++ x ∷ []) ++ replicate (16 - (i + 1)) 0
set_padded front i x len lt =
    let k : 16 - i ≡ suc (16 - (i + 1)) = omega arith in
    let one : set (front ++ replicate (16 - i) 0) i x ≡ set (front ++ replicate (suc (16 - (i + 1))) 0) (length front) x = ap (λ (n : ℕ). set (front ++ replicate n 0) i x) k ∙ ap (λ (j : ℕ). set (front ++ replicate (suc (16 - (i + 1))) 0) j x) (sym len) in
    one ∙ set_next front (16 - (i + 1)) x ∙ sym (append_assoc front (x ∷ []) (replicate (16 - (i + 1)) 0))
