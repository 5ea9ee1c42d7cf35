-- Reading ids with words one behind the other, as a loop does.
use Rattle.std.proofs.Common.{◌≡◌, ℕ, suc, ◌-◌, ◌+◌, ◌≤◌, ◌<◌, List, [], ◌∷◌, ◌++◌, Result, Ok, Err, refl, sym, ap, ◌∙◌, arith}
use Rattle.std.proofs.lemmas.List.{append-nil}
use Rattle.re_record.specs.Reading.{put_at, puts_at}
use Rattle.re_record.specs.declared.slots.Role.{Role}
use Rattle.re_terms.specs.declared.entry.Put.{Put}
use Rattle.re_terms.specs.declared.program.Decl.{Decl}
use Rattle.re_wire.specs.declared.fault.WireFault.{WireFault}
use Rattle.re_wire.specs.declared.fault.WireFault.TheVariants as faults
use Rattle.re_wire.specs.Reading.{Fails, Refuses}
use Rattle.re_wire.proofs.Several.{with_front, regroup}

pub goes_on : (decls : List Decl) (symbols : ℕ) (r : Role) (bytes : List ℕ) (front : List Put) (count i least at : ℕ) (put : Put) (after : ℕ) (total : Result (List Put × ℕ) ℕ) → i < count
    → put_at decls symbols r least bytes at ≡ Ok (put, after) → with_front front (puts_at decls symbols r (count - i) least bytes at) ≡ total
    → with_front (front ++ put ∷ []) (puts_at decls symbols r (count - (i + 1)) (put.id + 1) bytes after) ≡ total
unfolding puts_at
goes_on decls symbols r bytes front count i least at put after total lt h so_far =
    let left : count - i ≡ suc (count - (i + 1)) = omega arith in
    let one : with_front front (puts_at decls symbols r (count - i) least bytes at) ≡ with_front (front ++ put ∷ []) (puts_at decls symbols r (count - (i + 1)) (put.id + 1) bytes after) = rw (left, h) (regroup front put (puts_at decls symbols r (count - (i + 1)) (put.id + 1) bytes after)) in
    sym one ∙ so_far

pub ends : (decls : List Decl) (symbols : ℕ) (r : Role) (bytes : List ℕ) (e : WireFault) (front : List Put) (count i least at : ℕ) (total : Result (List Put × ℕ) ℕ) → i < count
    → Refuses e (put_at decls symbols r least bytes at) → with_front front (puts_at decls symbols r (count - i) least bytes at) ≡ total → Fails e total
unfolding puts_at
ends decls symbols r bytes faults.Memory front count i least at total lt h so_far = tt
ends decls symbols r bytes (faults.At place) front count i least at total lt h so_far =
    let left : count - i ≡ suc (count - (i + 1)) = omega arith in
    let one : with_front front (puts_at decls symbols r (count - i) least bytes at) ≡ Err place = rw (left, h) refl in
    sym so_far ∙ one

pub is_done : (decls : List Decl) (symbols : ℕ) (r : Role) (bytes : List ℕ) (front : List Put) (count i least at : ℕ) (total : Result (List Put × ℕ) ℕ) → count ≤ i
    → with_front front (puts_at decls symbols r (count - i) least bytes at) ≡ total → total ≡ Ok (front, at)
unfolding puts_at
is_done decls symbols r bytes front count i least at total le so_far =
    let left : count - i ≡ 0 = omega arith in
    let one : with_front front (puts_at decls symbols r (count - i) least bytes at) ≡ Ok (front, at) = rw left (ap (λ (puts : List Put). Ok (puts, at)) (append-nil front)) in
    sym so_far ∙ one
