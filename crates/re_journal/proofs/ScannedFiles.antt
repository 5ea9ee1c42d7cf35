-- What a scan gives: one record after another up to the first closed gate, or the place of the first wrong field.
use Rattle.std.specs.Prelude.{◌==◌, ◌||◌, nat_le}
use Rattle.std.specs.List.{flat_map}
use Rattle.std.proofs.Common.{◌≡◌, ◌⊎◌, inl, inr, ℕ, ◌+◌, ◌-◌, ◌^◌, ◌<◌, ◌≤◌, Bool, true, false, List, [], ◌∷◌, ◌++◌, length, map, sym, refl, ◌∙◌, ap, subst, arith, append_assoc, length-append}
use Rattle.std.proofs.lemmas.List.{map-append, append-nil}
use Rattle.std.proofs.lemmas.List.Concat.{flat_map-append}
use Rattle.std.proofs.lemmas.Bool.Decides.{nat_tests, leb_tells, eqb_tells}
use Rattle.re_outside.specs.Listed.{Listed}
use Rattle.re_outside.specs.Frame.{IsRecordLength, opened, generation, front, MayOpen, ReadsTo, IsClosed, IsRefusedGate, HasFrame, HasBadFrame}
use Rattle.re_journal.specs.Readings.{IsRefusedRecord}
use Rattle.re_journal.specs.Scans.{all_bytes, IsRefusedAt}
use Rattle.re_journal.proofs.Records.{reads_more}

-- one record more
pub bytes_more : (bodies : List (Listed ℕ)) (body : Listed ℕ) → all_bytes (bodies ++ body ∷ []) ≡ all_bytes bodies ++ body.items ∷ []
bytes_more bodies body = map-append (λ (b : Listed ℕ). b.items) bodies (body ∷ [])

pub long_more : (bodies : List (Listed ℕ)) (body : Listed ℕ) → length (flat_map opened (all_bytes (bodies ++ body ∷ []))) ≡ length (flat_map opened (all_bytes bodies)) + (5 + length body.items)
long_more bodies body =
    let parts : flat_map opened (all_bytes bodies ++ body.items ∷ []) ≡ flat_map opened (all_bytes bodies) ++ opened body.items =
    flat_map-append opened (all_bytes bodies) (body.items ∷ []) ∙ ap (λ (l : List ℕ). flat_map opened (all_bytes bodies) ++ l) (append-nil (opened body.items)) in
    ap (λ (l : List (List ℕ)). length (flat_map opened l)) (bytes_more bodies body)
    ∙ omega (arith, ap length parts, length-append (flat_map opened (all_bytes bodies)) (opened body.items))

-- the test of an open gate
pub may_open : (g n : ℕ) (bodies : List (List ℕ)) → n ≡ length (flat_map opened bodies) → (nat_le n 65537 || g == 2 ^ 62) ≡ true → MayOpen g bodies
may_open g n bodies is holds = elim (leb_tells n 65537) [
  | inl low ↦ let few = low.1 in inl (omega arith)
  | inr high ↦ elim (eqb_tells g (2 ^ 62)) [
    | inl last ↦ inr last.1
    | inr other ↦ absurd (let no : nat_le n 65537 ≡ false = high.0 in let none : (g == 2 ^ 62) ≡ false = other.0 in cc)
  ]
]

pub may_not_open : (g n : ℕ) (bodies : List (List ℕ)) → n ≡ length (flat_map opened bodies) → (nat_le n 65537 || g == 2 ^ 62) ≡ false → MayOpen g bodies → ⊥
may_not_open g n bodies is fails (inl few) = grind (arith, nat_tests)
may_not_open g n bodies is fails (inr last) = grind (arith, nat_tests)

module _ (file snapshot rest : List ℕ) (bodies : List (List ℕ)) (reads : ReadsTo file snapshot bodies rest) where
  -- the records end at a closed gate
  pub closed_frame : IsClosed rest → HasFrame file snapshot bodies
  closed_frame shut = (rest, reads, shut)

  -- or what stands there is refused
  pub bad_record : (n start at k : ℕ) (may : Bool) → n ≡ length (flat_map opened bodies) → start ≡ 5 + length snapshot → at ≡ start + n + k → may ≡ (nat_le n 65537 || generation snapshot == 2 ^ 62) → IsRefusedRecord may rest k → IsRefusedAt file at
  bad_record n start at k may long begin place test refused =
      let where_it_is : at ≡ length (front snapshot bodies) + k = omega (arith, length-append (opened snapshot) (flat_map opened bodies)) in
      inr (inr (snapshot, bodies, rest, k, reads, by_case refused, where_it_is))
    where
      by_case : IsRefusedRecord may rest k → IsRefusedGate (generation snapshot) bodies rest k
      by_case (inl none) = inl none
      by_case (inr (inl (behind, is, shut, here))) = inr (inl (behind, is, may_not_open (generation snapshot) n bodies long (sym test ∙ shut), here))
      by_case (inr (inr (behind, i, is, open_gate, bad, here))) = inr (inr (behind, i, is, may_open (generation snapshot) n bodies long (sym test ∙ open_gate), bad, here))
