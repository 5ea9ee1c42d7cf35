-- What a commit leaves of a file: a body written behind a closed gate, and then the gate opened.
use Rattle.std.specs.List.{flat_map}
use Rattle.std.proofs.Common.{◌≡◌, ◌≢◌, ◌⊎◌, inl, inr, ℕ, suc, ◌+◌, ◌-◌, ◌<◌, ◌≤◌, max, false, List, [], ◌∷◌, ◌++◌, length, slice_index, get_or, take, drop, refl, sym, ◌∙◌, ap, subst, arith, append_assoc, length-append, length-take, length-drop, take-append-drop, get_or-take, get_or-drop}
use Rattle.std.proofs.lemmas.Bool.{cases_eq}
use Rattle.std.proofs.lemmas.Bool.Decides.{nat_tests}
use Rattle.std.proofs.lemmas.List.{ext_get_or, take_at, drop_at, drop-drop, drop_more, get_or_append_left, get_or-append-add, append-nil}
use Rattle.std.proofs.lemmas.List.Concat.{flat_map-append}
use Rattle.re_outside.specs.Frame.{IsRecordLength, AreRecords, framed, opened, generation, front, MayOpen, ReadsTo, IsClosed, HasFrame}
use Rattle.re_outside.specs.Image.{written, is_in_write, IsTorn}
use Rattle.re_outside.specs.Plan.{WriteAt, KeepSafe}
use Rattle.re_outside.proofs.Images.{written_inside}
use Rattle.re_journal.proofs.Records.{front_more, reads_more}
use Rattle.re_journal.specs.Journals.{frame_of, MayFollow, HasAllOrOneMore}

-- ---- places in a write

before_range : (size at n i : ℕ) → i < at → i < size → is_in_write size at n i ≡ false
before_range size at n i low within = grind (arith, nat_tests)

behind_byte : (size at i : ℕ) → at < i → is_in_write size at 1 i ≡ false
behind_byte size at i high = grind (arith, nat_tests)

-- what stands before the range and before the end stays
pub torn_front : (size at n : ℕ) (start rest new : List ℕ) → IsTorn size at n (start ++ rest) new → length start ≤ at → length start ≤ size → new ≡ start ++ drop (length start) new
torn_front size at n start rest new torn low within =
    let long : length start ≤ length new = omega (arith, torn.no_shorter, length-append start rest) in
    let same : take (length start) new ≡ start = ext_get_or 0 _ start (simp length-take (omega arith)) (λ i h.
    let inside : i < length start = omega (arith, length-take (length start) new) in
    get_or-take (length start) new i 0 inside ∙ (torn.kept i (omega (arith, length-append start rest)) (before_range size at n i (omega arith) (omega arith)) ∙ get_or_append_left start rest 0 i inside)) in
    sym (take-append-drop (length start) new) ∙ ap (λ (l : List ℕ). l ++ drop (length start) new) same

-- ---- a gate behind some bytes

pub behind_gate : (before rest : List ℕ) (gate : ℕ) → drop (length before + 1) (before ++ gate ∷ rest) ≡ rest
behind_gate before rest gate =
    ap (drop (length before + 1)) (sym (append_assoc before (gate ∷ []) rest)) ∙ drop_at (before ++ gate ∷ []) rest (length before + 1) (length-append before (gate ∷ []))

up_to_gate : (before rest : List ℕ) (gate : ℕ) → take (length before + 1) (before ++ gate ∷ rest) ≡ before ++ gate ∷ []
up_to_gate before rest gate =
    ap (take (length before + 1)) (sym (append_assoc before (gate ∷ []) rest)) ∙ take_at (before ++ gate ∷ []) rest (length before + 1) (length-append before (gate ∷ []))

-- bytes written behind a gate
pub written_behind : (before rest bytes : List ℕ) (gate : ℕ) → written (before ++ gate ∷ rest) (length before + 1) bytes ≡ before ++ gate ∷ (bytes ++ drop (length bytes) rest)
written_behind before rest bytes gate =
    let file = before ++ gate ∷ rest in
    let behind : drop (length before + 1 + length bytes) file ≡ drop (length bytes) rest = sym (drop-drop (length bytes) (length before + 1) file) ∙ ap (drop (length bytes)) (behind_gate before rest gate) in
    written_inside file (length before + 1) bytes (omega (arith, length-append before (gate ∷ rest)))
    ∙ ((λ i. up_to_gate before rest gate i ++ (bytes ++ behind i))
    ∙ append_assoc before (gate ∷ []) (bytes ++ drop (length bytes) rest))

-- a write behind a gate leaves the gate, and what stands before it, whatever of it was made
pub torn_behind : (before rest new : List ℕ) (gate n : ℕ) → IsTorn (length (before ++ gate ∷ rest)) (length before + 1) n (before ++ gate ∷ rest) new → new ≡ before ++ gate ∷ drop (length before + 1) new
torn_behind before rest new gate n torn =
    let start = before ++ gate ∷ [] in
    let long : length start ≡ length before + 1 = length-append before (gate ∷ []) in
    let size = length (before ++ gate ∷ rest) in
    let from : IsTorn size (length before + 1) n (start ++ rest) new = subst (λ w. IsTorn size (length before + 1) n w new) (sym (append_assoc before (gate ∷ []) rest)) torn in
    torn_front size (length before + 1) n start rest new from (omega arith) (omega (arith, length-append before (gate ∷ rest)))
    ∙ (append_assoc before (gate ∷ []) (drop (length start) new) ∙ ap (λ k. before ++ gate ∷ drop k new) long)

-- a write of a gate leaves all but the gate
pub torn_gate : (before rest new : List ℕ) (gate : ℕ) → IsTorn (length (before ++ gate ∷ rest)) (length before) 1 (before ++ gate ∷ rest) new → new ≡ before ++ slice_index new (length before) ∷ rest
torn_gate before rest new gate torn =
    let whole = before ++ gate ∷ rest in
    let size = length before in
    let total : length whole ≡ size + (length rest + 1) = omega (arith, length-append before (gate ∷ rest)) in
    let long : length new ≡ length whole = omega (arith, torn.no_shorter, torn.no_longer) in
    let behind : drop (size + 1) new ≡ rest = ext_get_or 0 _ rest (simp length-drop (omega arith)) (λ i h.
    let inside : i < length rest = omega (arith, length-drop (size + 1) new) in
    get_or-drop (size + 1) new i 0
    ∙ (torn.kept (size + 1 + i) (omega arith) (behind_byte (length whole) size (size + 1 + i) (omega arith))
    ∙ (ap (λ k. get_or whole k 0) (omega arith) ∙ get_or-append-add before (gate ∷ rest) (suc i) 0))) in
    torn_front (length whole) size 1 before (gate ∷ rest) new torn (omega arith) (omega arith)
    ∙ ap (λ (l : List ℕ). before ++ l) (drop_more new size 0 (omega arith) ∙ ap (λ (l : List ℕ). slice_index new size ∷ l) behind)

-- a gate that is written over another
pub written_gate : (before rest : List ℕ) (gate byte : ℕ) → written (before ++ gate ∷ rest) (length before) (byte ∷ []) ≡ before ++ byte ∷ rest
written_gate before rest gate byte =
    let file = before ++ gate ∷ rest in
    written_inside file (length before) (byte ∷ []) (omega (arith, length-append before (gate ∷ rest)))
    ∙ (λ i. take_at before (gate ∷ rest) (length before) refl i ++ (byte ∷ behind_gate before rest gate i))

module _ (file snapshot body frame : List ℕ) (bodies : List (List ℕ)) (has : HasFrame file snapshot bodies) (may : MayFollow snapshot bodies body frame) where
  before : List ℕ
  before = front snapshot bodies

  -- a file that begins so and goes on with a closed gate
  pub still_closed : (gate : ℕ) (behind new : List ℕ) → gate ≢ 1 → new ≡ front snapshot bodies ++ gate ∷ behind → HasFrame new snapshot bodies
  still_closed gate behind new shut is =
      let reads = has.1 in (
        gate ∷ behind,
        record { whole = is; snapshot_length = reads.snapshot_length; generation_fits = reads.generation_fits; records = reads.records; gates = reads.gates },
        (gate, behind, shut, refl),
      )

  -- a file that begins so and goes on with an open gate and the frame
  pub one_more : (behind new : List ℕ) → new ≡ front snapshot bodies ++ 1 ∷ (frame ++ behind) → HasFrame new snapshot (bodies ++ body ∷ [])
  one_more behind new is =
      let reads = has.1 in
      let here : ReadsTo new snapshot bodies (1 ∷ (frame ++ behind)) =
      record { whole = is; snapshot_length = reads.snapshot_length; generation_fits = reads.generation_fits; records = reads.records; gates = reads.gates } in
      let record_there : 1 ∷ (frame ++ behind) ≡ opened body ++ (0 ∷ behind) =
      ap (λ (l : List ℕ). 1 ∷ (l ++ behind)) may.whole ∙ ap (λ (l : List ℕ). 1 ∷ l) (append_assoc (framed body) (0 ∷ []) behind) in
      (0 ∷ behind, reads_more new snapshot body (1 ∷ (frame ++ behind)) (0 ∷ behind) bodies here may.fits may.opens record_there, (0, behind, (λ (e : ◌≡◌ {A = ℕ} 0 1). omega arith), refl))

  -- a file that begins so and goes on with some gate and the frame
  pub either_gate : (gate : ℕ) (behind new : List ℕ) → new ≡ front snapshot bodies ++ gate ∷ (frame ++ behind) → HasAllOrOneMore snapshot bodies body new
  either_gate gate behind new is = elim (cases_eq gate 1) [
    | inl open_gate ↦ inr (one_more behind new (is ∙ ap (λ (g : ℕ). front snapshot bodies ++ g ∷ (frame ++ behind)) open_gate))
    | inr shut ↦ inl (still_closed gate (frame ++ behind) new shut is)
  ]

  -- ---- the two writes of a commit

  -- what is synced before the gate is opened, and what is synced behind that
  pub staged : written file (length (front snapshot bodies) + 1) frame ≡ front snapshot bodies ++ has.2.0 ∷ (frame ++ drop (length frame) has.2.1)
  staged =
      let start = front snapshot bodies in
      ap (λ (l : List ℕ). written l (length start + 1) frame) (has.1.whole ∙ ap (λ (l : List ℕ). start ++ l) has.2.3) ∙ written_behind start has.2.1 frame has.2.0

  pub committed : written (written file (length (front snapshot bodies) + 1) frame) (length (front snapshot bodies)) (1 ∷ []) ≡ front snapshot bodies ++ 1 ∷ (frame ++ drop (length frame) has.2.1)
  committed =
      let start = front snapshot bodies in
      ap (λ (l : List ℕ). written l (length start) (1 ∷ [])) staged ∙ written_gate start (frame ++ drop (length frame) has.2.1) has.2.0 1

  -- each file that a stop may leave in between has the records that were there, or one more
  pub commit_keeps : KeepSafe (HasAllOrOneMore snapshot bodies body) file (WriteAt (length (front snapshot bodies) + 1) frame ∷ WriteAt (length (front snapshot bodies)) (1 ∷ []) ∷ [])
  commit_keeps =
      let start = front snapshot bodies in
      let gate = has.2.0 in
      let rest = has.2.1 in
      let tail = frame ++ drop (length frame) rest in
      let whole : file ≡ start ++ gate ∷ rest = has.1.whole ∙ ap (λ (l : List ℕ). start ++ l) has.2.3 in (
        (λ new torn. inl (still_closed gate (drop (length start + 1) new) new has.2.2 (torn_behind start rest new gate (length frame) (subst (λ (l : List ℕ). IsTorn (length l) (length start + 1) (length frame) l new) whole torn)))),
        (
          (λ new torn. either_gate (slice_index new (length start)) (drop (length frame) rest) new
              (torn_gate start tail new gate (subst (λ (l : List ℕ). IsTorn (length l) (length start) 1 l new) staged torn))),
          inr (one_more (drop (length frame) rest) _ committed),
        ),
      )

  pub committed_has : HasFrame (written (written file (length (front snapshot bodies) + 1) frame) (length (front snapshot bodies)) (1 ∷ [])) snapshot (bodies ++ body ∷ [])
  committed_has = one_more (drop (length frame) has.2.1) _ committed

  pub committed_length : length (written (written file (length (front snapshot bodies) + 1) frame) (length (front snapshot bodies)) (1 ∷ [])) ≡ max (length file) (length (front snapshot bodies) + 1 + length frame)
  committed_length =
      let start = front snapshot bodies in
      let rest = has.2.1 in
      let tail : length (frame ++ drop (length frame) rest) ≡ length frame + (length rest - length frame) = length-append frame (drop (length frame) rest) ∙ ap (λ n. length frame + n) (length-drop (length frame) rest) in
      let old : length file ≡ length start + (length rest + 1) = omega (arith, ap length (has.1.whole ∙ ap (λ (l : List ℕ). start ++ l) has.2.3), length-append start (has.2.0 ∷ rest)) in
      omega (arith, ap length committed, length-append start (1 ∷ (frame ++ drop (length frame) rest)), tail, old)

  pub committed_gate : length (front snapshot bodies) + length frame ≡ length (front snapshot (bodies ++ body ∷ []))
  committed_gate =
      let long : length frame ≡ length (framed body) + 1 = ap length may.whole ∙ length-append (framed body) (0 ∷ []) in
      sym (ap length (front_more snapshot body bodies) ∙ (length-append (front snapshot bodies) (opened body) ∙ omega (arith, long)))
