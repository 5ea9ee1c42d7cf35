-- What a stop leaves of the file into which a snapshot is laid.
use Rattle.std.specs.Prelude.{nat_le, ◌||◌, ◌==◌, not, if◌then◌else◌}
use Rattle.std.proofs.Common.{◌≡◌, ◌≢◌, ◌⊎◌, inl, inr, ℕ, suc, ◌+◌, ◌<◌, ◌≤◌, Bool, true, false, List, [], ◌∷◌, ◌++◌, length, slice_index, take, drop, get_or-take, length-take, refl, sym, ◌∙◌, ap, subst, arith}
use Rattle.std.proofs.lemmas.Bool.{cases_eq}
use Rattle.std.proofs.lemmas.Bool.Decides.{leb_tells, eqb_tells, nat_tests}
use Rattle.std.proofs.lemmas.List.{ext_get_or, append-nil, drop_all}
use Rattle.re_outside.specs.Frame.{is_blank}
use Rattle.re_outside.specs.Image.{IsTorn, written, is_in_write}
use Rattle.re_outside.specs.Plan.{WriteAt, CutAt, KeepSafe, all_changed}
use Rattle.re_outside.proofs.Images.{written_inside}
use Rattle.re_outside.proofs.Honest.{written_torn}
use Rattle.re_compact.specs.Laying.{laying, opening}

-- ---- blank files

-- a short file is blank
pub short_blank : (file : List ℕ) → length file ≤ 1 → is_blank file ≡ true
short_blank file short = grind (arith, nat_tests)

-- a file whose first byte isn't 1 is blank
pub shut_blank : (file : List ℕ) → slice_index file 0 ≢ 1 → is_blank file ≡ true
shut_blank file shut = elim (eqb_tells (slice_index file 0) 1) [
  | inl same ↦ absurd (shut same.1)
  | inr other ↦ ap (λ b. nat_le (length file) 1 || not b) other.0 ∙ or_right (nat_le (length file) 1)
]
  where
    or_right : (b : Bool) → (b || not false) ≡ true
    or_right true = refl
    or_right false = refl

-- what isn't blank has more than one byte, and begins with 1
pub full_head : (file : List ℕ) → is_blank file ≡ false → (1 < length file) × (slice_index file 0 ≡ 1)
full_head file full = elim (leb_tells (length file) 1) [
  | inl short ↦ absurd (let blank = short_blank file short.1 in cc)
  | inr long ↦ (
    long.1,
    (elim (cases_eq (slice_index file 0) 1) [
      | inl same ↦ same
      | inr shut ↦ absurd (let blank = shut_blank file shut in cc)
    ]),
  )
]

-- what is blank has at most one byte, or doesn't begin with 1
pub blank_cases : (file : List ℕ) → is_blank file ≡ true → (length file ≤ 1) ⊎ (slice_index file 0 ≢ 1)
blank_cases file blank = elim (leb_tells (length file) 1) [
  | inl short ↦ inl short.1
  | inr long ↦ inr (λ is_open. absurd (full long.0 is_open))
]
  where
    full : nat_le (length file) 1 ≡ false → slice_index file 0 ≡ 1 → ⊥
    full long is_open = let e : is_blank file ≡ false = ap (λ b. b || not (slice_index file 0 == 1)) long ∙ ap (λ x. not (x == 1)) is_open in cc

-- ---- the first byte

behind_head : (size i : ℕ) → 1 ≤ i → is_in_write size 0 1 i ≡ false
behind_head size i high = grind (arith, nat_tests)

-- a torn write of the first byte changes at most that
pub torn_head : (x : ℕ) (tail new : List ℕ) → IsTorn (length (x ∷ tail)) 0 1 (x ∷ tail) new → new ≡ slice_index new 0 ∷ tail
torn_head x tail [] torn = absurd (omega (arith, torn.no_shorter))
torn_head x tail (y ∷ rest) torn =
    ap (λ (l : List ℕ). y ∷ l) (ext_get_or 0 rest tail (omega (arith, torn.no_shorter, torn.no_longer)) (λ i here. torn.kept (suc i) (omega (arith, torn.no_longer)) (behind_head (length (x ∷ tail)) (suc i) (omega arith))))

-- the first byte written anew
pub written_head : (x y : ℕ) (tail : List ℕ) → written (x ∷ tail) 0 (y ∷ []) ≡ y ∷ tail
written_head x y tail = written_inside (x ∷ tail) 0 (y ∷ []) (omega arith)

-- a byte written into a short file is all that is left
pub emptied : (file : List ℕ) → length file ≤ 1 → written file 0 (0 ∷ []) ≡ 0 ∷ []
emptied [] short = refl
emptied (x ∷ []) short = refl
emptied (x ∷ y ∷ file) short = absurd (omega arith)

-- ---- laying

-- the file as it was, or blank
abbrev pub IsSameOrBlank : List ℕ → List ℕ → Type 0
IsSameOrBlank old file = (file ≡ old) ⊎ (is_blank file ≡ true)

module _ (Q : List ℕ → Type 0) (blank_is : (file : List ℕ) → is_blank file ≡ true → Q file) (framed : List ℕ) where
  zero_shut : (file : List ℕ) → slice_index file 0 ≡ 0 → is_blank file ≡ true
  zero_shut file e = shut_blank file (λ (is : ◌≡◌ {A = ℕ} (slice_index file 0) 1). omega arith)

  body : (new : List ℕ) → IsTorn 1 1 (length framed) (0 ∷ []) new → Q new
  body new torn = blank_is new (zero_shut new (torn.kept 0 (omega arith) refl))

  last : (file : List ℕ) → length file ≤ 1 → KeepSafe Q file (WriteAt 0 (0 ∷ []) ∷ WriteAt 1 framed ∷ [])
  last file short = (
    (λ new torn. blank_is new (short_blank new (omega (arith, torn.no_longer)))),
    subst (λ (l : List ℕ). KeepSafe Q l (WriteAt 1 framed ∷ [])) (sym (emptied file short)) (body, body _ (written_torn (0 ∷ []) 1 framed (length framed) (omega arith))),
  )

  trimmed : (file : List ℕ) → slice_index file 0 ≢ 1 → KeepSafe Q file (CutAt 1 ∷ WriteAt 0 (0 ∷ []) ∷ WriteAt 1 framed ∷ [])
  trimmed file shut = (
    (λ new cut. blank_is new (elim (leb_tells (length new) 1) [
      | inl short ↦ short_blank new short.1
      | inr longer ↦ shut_blank new (λ e. shut (sym (ap (λ (l : List ℕ). slice_index l 0) cut.front ∙ get_or-take (length new) file 0 0 (omega (arith, longer.1))) ∙ e))
    ])),
    last (take 1 file) (simp length-take (omega arith)),
  )

emptying : (framed tail : List ℕ) (x : ℕ) → x ≡ 1 → KeepSafe (IsSameOrBlank (x ∷ tail)) (x ∷ tail) (WriteAt 0 (0 ∷ []) ∷ CutAt 1 ∷ WriteAt 0 (0 ∷ []) ∷ WriteAt 1 framed ∷ [])
emptying framed tail x is_open = (
  (λ new torn. by_gate new (torn_head x tail new torn) (cases_eq (slice_index new 0) 1)),
  subst (λ (l : List ℕ). KeepSafe (IsSameOrBlank (x ∷ tail)) l (CutAt 1 ∷ WriteAt 0 (0 ∷ []) ∷ WriteAt 1 framed ∷ [])) (sym (written_head x 0 tail))
      (trimmed (IsSameOrBlank (x ∷ tail)) (λ file b. inr b) framed (0 ∷ tail) (λ (e : ◌≡◌ {A = ℕ} 0 1). omega arith)),
)
  where
    by_gate : (new : List ℕ) → new ≡ slice_index new 0 ∷ tail → (slice_index new 0 ≡ 1) ⊎ (slice_index new 0 ≢ 1) → IsSameOrBlank (x ∷ tail) new
    by_gate new is (inl e) = inl (is ∙ ap (λ (g : ℕ). g ∷ tail) (e ∙ sym is_open))
    by_gate new is (inr shut) = inr (shut_blank new shut)

is_short : (file : List ℕ) → nat_le (length file) 1 ≡ true → length file ≤ 1
is_short file e = elim (leb_tells (length file) 1) [ inl short ↦ short.1 | inr long ↦ absurd (let other = long.0 in cc) ]

is_long : (file : List ℕ) → nat_le (length file) 1 ≡ false → 1 < length file
is_long file e = elim (leb_tells (length file) 1) [ inl short ↦ absurd (let other = short.0 in cc) | inr long ↦ long.1 ]

lay_cases : (old framed : List ℕ) (blank short : Bool) → is_blank old ≡ blank → nat_le (length old) 1 ≡ short
    → KeepSafe (IsSameOrBlank old) old ((if blank then [] else WriteAt 0 (0 ∷ []) ∷ []) ++ (if short then [] else CutAt 1 ∷ []) ++ (WriteAt 0 (0 ∷ []) ∷ WriteAt 1 framed ∷ []))
lay_cases old framed true true is size = last (IsSameOrBlank old) (λ file b. inr b) framed old (is_short old size)
lay_cases old framed true false is size = elim (blank_cases old is) [
  | inl short ↦ absurd (let h = is_long old size in omega arith)
  | inr shut ↦ trimmed (IsSameOrBlank old) (λ file b. inr b) framed old shut
]
lay_cases old framed false true is size = absurd (let short = is_short old size in let h = full_head old is in omega (arith, h.0))
lay_cases [] framed false false is size = absurd (cc)
lay_cases (x ∷ tail) framed false false is size = emptying framed tail x (full_head (x ∷ tail) is).1

-- a stop within leaves the file as it was, or blank
pub lay_keeps : (old framed : List ℕ) → KeepSafe (IsSameOrBlank old) old (laying (is_blank old) (length old) framed)
lay_keeps old framed = lay_cases old framed (is_blank old) (nat_le (length old) 1) refl refl

-- ---- what is laid

-- a frame written behind the one byte of a file
behind_gate : (framed : List ℕ) → written (0 ∷ []) 1 framed ≡ 0 ∷ framed
behind_gate framed =
    let none : ◌≡◌ {A = List ℕ} (drop (1 + length framed) (0 ∷ [])) [] = drop_all (1 + length framed) (0 ∷ []) (omega arith) in
    written_inside (0 ∷ []) 1 framed (omega arith) ∙ (ap (λ (l : List ℕ). 0 ∷ (framed ++ l)) none ∙ ap (λ (l : List ℕ). 0 ∷ l) (append-nil framed))

laid_short : (file framed : List ℕ) → length file ≤ 1 → all_changed file (WriteAt 0 (0 ∷ []) ∷ WriteAt 1 framed ∷ []) ≡ 0 ∷ framed
laid_short file framed short = ap (λ l. written l 1 framed) (emptied file short) ∙ behind_gate framed

laid_cut : (file framed : List ℕ) → all_changed file (CutAt 1 ∷ WriteAt 0 (0 ∷ []) ∷ WriteAt 1 framed ∷ []) ≡ 0 ∷ framed
laid_cut file framed = laid_short (take 1 file) framed (simp length-take (omega arith))

laid_cases : (old framed : List ℕ) (blank short : Bool) → is_blank old ≡ blank → nat_le (length old) 1 ≡ short
    → all_changed old ((if blank then [] else WriteAt 0 (0 ∷ []) ∷ []) ++ (if short then [] else CutAt 1 ∷ []) ++ (WriteAt 0 (0 ∷ []) ∷ WriteAt 1 framed ∷ [])) ≡ 0 ∷ framed
laid_cases old framed true true is size = laid_short old framed (is_short old size)
laid_cases old framed true false is size = laid_cut old framed
laid_cases old framed false true is size = absurd (let short = is_short old size in let h = full_head old is in omega (arith, h.0))
laid_cases old framed false false is size = laid_cut (written old 0 (0 ∷ [])) framed

-- the file after all the changes
pub laid : (old framed : List ℕ) → all_changed old (laying (is_blank old) (length old) framed) ≡ 0 ∷ framed
laid old framed = laid_cases old framed (is_blank old) (nat_le (length old) 1) refl refl

-- ---- opening the gate

-- the file is blank, or its gate is open before the same bytes
abbrev pub IsShutOrOpen : List ℕ → List ℕ → Type 0
IsShutOrOpen framed file = (is_blank file ≡ true) ⊎ (file ≡ 1 ∷ framed)

pub open_keeps : (framed : List ℕ) → KeepSafe (IsShutOrOpen framed) (0 ∷ framed) opening
open_keeps framed = ((λ new torn. by_gate new (torn_head 0 framed new torn) (cases_eq (slice_index new 0) 1)), inr (written_head 0 1 framed))
  where
    by_gate : (new : List ℕ) → new ≡ slice_index new 0 ∷ framed → (slice_index new 0 ≡ 1) ⊎ (slice_index new 0 ≢ 1) → IsShutOrOpen framed new
    by_gate new is (inl e) = inr (is ∙ ap (λ (g : ℕ). g ∷ framed) e)
    by_gate new is (inr shut) = inl (shut_blank new shut)

-- the file after it
pub opened : (framed : List ℕ) → all_changed (0 ∷ framed) opening ≡ 1 ∷ framed
opened framed = written_head 0 1 framed
