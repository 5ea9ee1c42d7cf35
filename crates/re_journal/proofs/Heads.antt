-- The snapshot of a file, read behind its first gate.
use Rattle.std.specs.Int.{w32, w64, to_be_bytes}
use Rattle.std.proofs.Common.{◌≡◌, ◌⊎◌, inl, inr, ℕ, ◌+◌, ◌^◌, ◌<◌, ◌≤◌, false, List, [], ◌∷◌, ◌++◌, length, Result, Err, sym, refl, ◌∙◌, ap, subst, arith, append_assoc}
use Rattle.std.proofs.lemmas.List.{append-nil}
use Rattle.re_outside.specs.Frame.{IsSnapshotLength, framed, opened, generation, IsGeneration, is_blank, HasGeneration, HasNoGeneration, ReadsTo}
use Rattle.re_outside.proofs.Stores.{generation_of}
use Rattle.re_journal.specs.declared.fault.ScanFault.{ScanFault}
use Rattle.re_journal.specs.declared.fault.ScanFault.TheVariants.{Bad}
use Rattle.re_journal.specs.Scans.{IsRefusedAt}
use Rattle.re_journal.proofs.Records.{no_more}

-- a snapshot of an allowed length and generation
pub head_reads : (file snapshot rest : List ℕ) → file ≡ 1 ∷ (framed snapshot ++ rest) → IsSnapshotLength (length snapshot) → IsGeneration (generation snapshot) → ReadsTo file snapshot [] rest
head_reads file snapshot rest is fits number = record {
  whole = is ∙ ap (λ (l : List ℕ). l ++ rest) (sym (append-nil (opened snapshot)));
  snapshot_length = fits;
  generation_fits = number;
  records = tt;
  gates = λ before behind body e. absurd (no_more before behind body (sym e));
}

-- a snapshot of a generation that isn't allowed
pub head_refused : (file snapshot rest : List ℕ) → is_blank file ≡ false → file ≡ 1 ∷ (framed snapshot ++ rest) → IsSnapshotLength (length snapshot) → (IsGeneration (generation snapshot) → ⊥) → IsRefusedAt file 5
head_refused file snapshot rest full is fits none =
    let behind : framed snapshot ++ rest ≡ to_be_bytes w32 (length snapshot) ++ (snapshot ++ rest) = append_assoc (to_be_bytes w32 (length snapshot)) snapshot rest in
    let no_number : HasNoGeneration (snapshot ++ rest) = λ g more at allowed.
    let has : HasGeneration file g = (length snapshot, more, is ∙ ap (λ (l : List ℕ). 1 ∷ l) (behind ∙ ap (λ (l : List ℕ). to_be_bytes w32 (length snapshot) ++ l) at), fits, allowed) in
    none (subst IsGeneration (sym (generation_of file snapshot rest g has is fits)) allowed) in
    inl (full, framed snapshot ++ rest, is, inr (length snapshot, snapshot ++ rest, behind, fits, no_number, refl))

-- two refusals at places that are one have one place
pub place_of_bad : {T : Type 0} {p q : ℕ} → ◌≡◌ {A = Result T ScanFault} (Err (Bad p)) (Err (Bad q)) → p ≡ q
place_of_bad e = cc
