-- What stands behind the first closed gate of a file that counts doesn't matter.
use Rattle.std.proofs.Common.{◌≡◌, ℕ, ◌+◌, ◌^◌, ◌<◌, ◌≤◌, ◌⊎◌, inl, inr, List, [], ◌∷◌, ◌++◌, length, take, drop, refl, sym, ap, subst, ◌∙◌, append_assoc, arith}
use Rattle.std.specs.Int.{w32, w64, to_be_bytes}
use Rattle.std.specs.List.{flat_map}
use Rattle.std.proofs.lemmas.List.{take_at, take-append-drop, take-append-le}
use Rattle.re_outside.proofs.Frames.{split_length}
use Rattle.re_outside.proofs.Stores.{one_store}
use Rattle.re_outside.specs.Frame as frame
use Rattle.re_outside.specs.Frame.{Counting, HasFrame, HasGeneration, HasStoreFrame, IsClosed, ReadsTo, StoreFrame, front}
use Rattle.re_record.specs.Stores.{Blank, Bad, HasStore, OtherProgram, Store, Stored}
use Rattle.re_terms.specs.declared.program.Program.{Program}

-- a body that begins with these 8 bytes, as it does with more behind it
body_begins : (body behind : List ℕ) (g : ℕ) (tail : List ℕ) → 8 ≤ length body → body ++ behind ≡ to_be_bytes w64 g ++ tail → body ≡ to_be_bytes w64 g ++ drop 8 body
body_begins body behind g tail long e =
    let first : take 8 body ≡ to_be_bytes w64 g = sym (take-append-le 8 body behind long) ∙ ap (λ (l : List ℕ). take 8 l) e ∙ take_at (to_be_bytes w64 g) tail 8 refl in
    sym (take-append-drop 8 body) ∙ ap (λ (l : List ℕ). l ++ drop 8 body) first

module _ (body : List ℕ) (bodies : List (List ℕ)) (rest other : List ℕ) (closed : IsClosed other) where
  abbrev old : List ℕ
  old = front body bodies ++ rest

  abbrev new : List ℕ
  new = front body bodies ++ other

  -- the file has its generation as before
  generation_kept : (g : ℕ) → frame.IsSnapshotLength (length body) → HasGeneration old g → HasGeneration new g
  generation_kept g long (n, tail, is, fits, number) =
      let m = length body in
      let behind = flat_map frame.opened bodies in
      let same : 1 ∷ (to_be_bytes w32 m ++ ((body ++ behind) ++ rest)) ≡ 1 ∷ (to_be_bytes w32 n ++ (to_be_bytes w64 g ++ tail)) = is in
      let lengths : to_be_bytes w32 m ++ ((body ++ behind) ++ rest) ≡ to_be_bytes w32 n ++ (to_be_bytes w64 g ++ tail) = cc in
      let parts = split_length m n ((body ++ behind) ++ rest) (to_be_bytes w64 g ++ tail) (omega (arith, long.1)) (omega (arith, fits.1)) lengths in
      let begins = body_begins body (behind ++ rest) g tail long.0 (sym (append_assoc body behind rest) ∙ parts.1) in
      (m, (drop 8 body ++ behind) ++ other, ap (λ (l : List ℕ). ((1 ∷ (to_be_bytes w32 m ++ l)) ++ behind) ++ other) begins, long, number)

  frame_kept : HasFrame old body bodies → HasFrame new body bodies
  frame_kept (tail, reads, shut) =
      (other, record { whole = refl; snapshot_length = reads.snapshot_length; generation_fits = reads.generation_fits; records = reads.records; gates = reads.gates }, closed)

  in_first : (second : List ℕ) → HasStoreFrame old second (frame.Store 0 body bodies) → HasStoreFrame new second (frame.Store 0 body bodies)
  in_first second (file, inl (z, is, g, has, older), framed) =
      let there = subst (λ (f : List ℕ). HasFrame f body bodies) is framed in
      (new, inl (refl, refl, g, generation_kept g there.1.snapshot_length has, older), frame_kept there)
  in_first second (file, inr (o, is, g, has, older), framed) = absurd (omega (arith, o))

  in_second : (first : List ℕ) → HasStoreFrame first old (frame.Store 1 body bodies) → HasStoreFrame first new (frame.Store 1 body bodies)
  in_second first (file, inr (o, is, g, has, older), framed) =
      let there = subst (λ (f : List ℕ). HasFrame f body bodies) is framed in
      (new, inr (refl, refl, g, generation_kept g there.1.snapshot_length has, older), frame_kept there)
  in_second first (file, inl (z, is, g, has, older), framed) = absurd (omega (arith, z))

-- two files are to a program what two others are, where their frames are the same
store_kept : (p : Program) (device : ℕ) (a b c d : List ℕ) → ((v : StoreFrame) → HasStoreFrame a b v → HasStoreFrame c d v) → (x : Stored) → HasStore p device a b x → HasStore p device c d x
store_kept p device a b c d moved Blank has = moved frame.Blank has
store_kept p device a b c d moved (Bad file place) (inl has) = inl (moved (frame.Bad file place) has)
store_kept p device a b c d moved (Bad file place) (inr (body, bodies, has, bad)) = inr (body, bodies, moved (frame.Store file body bodies) has, bad)
store_kept p device a b c d moved OtherProgram (n, body, bodies, has, other) = (n, body, bodies, moved (frame.Store n body bodies) has, other)
store_kept p device a b c d moved (Store g s entries) (n, body, bodies, has, number, snapshot, records) = (n, body, bodies, moved (frame.Store n body bodies) has, number, snapshot, records)

pub behind_first : (p : Program) (device : ℕ) (body : List ℕ) (bodies : List (List ℕ)) (rest other second : List ℕ) (x : Stored) → HasStoreFrame (front body bodies ++ rest) second (frame.Store 0 body bodies) → IsClosed other
    → HasStore p device (front body bodies ++ rest) second x → HasStore p device (front body bodies ++ other) second x
behind_first p device body bodies rest other second x framed closed has =
    let there = in_first body bodies rest other closed second framed in
    store_kept p device (front body bodies ++ rest) second (front body bodies ++ other) second
    (λ v frames. subst (λ (w : StoreFrame). HasStoreFrame (front body bodies ++ other) second w) (one_store (front body bodies ++ rest) second (frame.Store 0 body bodies) v framed frames) there) x has

pub behind_second : (p : Program) (device : ℕ) (body : List ℕ) (bodies : List (List ℕ)) (rest other first : List ℕ) (x : Stored) → HasStoreFrame first (front body bodies ++ rest) (frame.Store 1 body bodies) → IsClosed other
    → HasStore p device first (front body bodies ++ rest) x → HasStore p device first (front body bodies ++ other) x
behind_second p device body bodies rest other first x framed closed has =
    let there = in_second body bodies rest other closed first framed in
    store_kept p device first (front body bodies ++ rest) first (front body bodies ++ other)
    (λ v frames. subst (λ (w : StoreFrame). HasStoreFrame first (front body bodies ++ other) w) (one_store first (front body bodies ++ rest) (frame.Store 1 body bodies) v framed frames) there) x has
