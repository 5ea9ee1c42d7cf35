-- Causal logs: what a vector covers of them, and that each dot is there once.
use Rattle.std.proofs.Common.{◌≡◌, ℕ, zero, suc, zero-add, ◌+◌, ◌<◌, ◌≤◌, Bool, true, false, cond, List, [], ◌∷◌, ◌++◌, refl, sym, ap, ◌∙◌, subst, arith, inl, inr, append_assoc, length}
use Rattle.std.specs.Prelude.{◌&&◌, ◌||◌, ◌⊎◌, max, nat_eq, nat_lt, nat_le, slice_index}
use Rattle.std.specs.List.{list_any, filter}
use Rattle.std.proofs.lemmas.List.FromFn.{get_or-map-range_with_len, length-map-range_with_len}
use Rattle.std.proofs.lemmas.Bool.Decides.{nat_tests}
use Rattle.std.proofs.lemmas.Bool.{cases_lt}
use Rattle.std.proofs.lemmas.List.{append-nil, get_or_past}
use Rattle.std.proofs.lemmas.List.Sums.{sum_by-append}
use mathlib.Core.Bool.{true≢false}
use Rattle.re_terms.specs.declared.replicated.Dot.{Dot}
use Rattle.re_terms.specs.Updates.{Update, IsIn, covered, IsCausallyClosed, count_of, IsNext, IsContinuation, IsCausalLog, greatest_number, vector_of}
use Rattle.re_terms.specs.Vectors.{covers, AtMost, by_device, greater_each, join_vectors}

-- ---- vectors

pub covers-from : (v : List ℕ) (d : Dot) → 0 < d.number → d.number ≤ slice_index v d.device → covers v d ≡ true
unfolding covers
covers-from v d a b = grind (arith, nat_tests)

pub covers-gives : (v : List ℕ) (d : Dot) → covers v d ≡ true → (0 < d.number) × (d.number ≤ slice_index v d.device)
unfolding covers
covers-gives v d e = (grind (arith, nat_tests), grind (arith, nat_tests))

pub at-by_device : (f : ℕ → ℕ) (d : ℕ) → d < 16 → slice_index (by_device f) d ≡ f d
unfolding by_device
at-by_device f d h = get_or-map-range_with_len f 0 16 d d 0 h (omega arith)

pub length-by_device : (f : ℕ → ℕ) → length (by_device f) ≡ 16
unfolding by_device
length-by_device f = length-map-range_with_len f 0 16

pub at-greater_each : (v w : List ℕ) (d : ℕ) → slice_index (greater_each v w) d ≡ max (slice_index v d) (slice_index w d)
unfolding greater_each
at-greater_each [] w d = omega arith
at-greater_each (x ∷ v) [] d = omega arith
at-greater_each (x ∷ v) (y ∷ w) zero = refl
at-greater_each (x ∷ v) (y ∷ w) (suc d) = at-greater_each v w d

pub covers-greater_each : (v w : List ℕ) (d : Dot) → covers (greater_each v w) d ≡ (covers v d || covers w d)
unfolding covers
covers-greater_each v w d = ap (λ n. nat_lt 0 d.number && nat_le d.number n) (at-greater_each v w d.device) ∙ each d.number (slice_index v d.device) (slice_index w d.device)
  where
    each : (n a b : ℕ) → (nat_lt 0 n && nat_le n (max a b)) ≡ ((nat_lt 0 n && nat_le n a) || (nat_lt 0 n && nat_le n b))
    each n a b = grind (arith, nat_tests)

pub AtMost-greater_left : (x v w : List ℕ) → AtMost x v → AtMost x (greater_each v w)
AtMost-greater_left x v w h d = let a = h d in omega (arith, at-greater_each v w d)

pub AtMost-greater_right : (x v w : List ℕ) → AtMost x w → AtMost x (greater_each v w)
AtMost-greater_right x v w h d = let a = h d in omega (arith, at-greater_each v w d)

-- what a lower vector covers, a higher one does
pub covers-up : (v w : List ℕ) (d : Dot) → AtMost v w → covers v d ≡ true → covers w d ≡ true
covers-up v w d h e = let g = covers-gives v d e in let k = h d.device in covers-from w d g.0 (omega arith)

-- ---- members

pub IsIn-left : (u : Update) (xs ys : List Update) → IsIn u xs → IsIn u (xs ++ ys)
IsIn-left u [] ys h = absurd h
IsIn-left u (x ∷ xs) ys (inl e) = inl e
IsIn-left u (x ∷ xs) ys (inr h) = inr (IsIn-left u xs ys h)

pub IsIn-right : (u : Update) (xs ys : List Update) → IsIn u ys → IsIn u (xs ++ ys)
IsIn-right u [] ys h = h
IsIn-right u (x ∷ xs) ys h = inr (IsIn-right u xs ys h)

pub IsIn-cases : (u : Update) (xs ys : List Update) → IsIn u (xs ++ ys) → IsIn u xs ⊎ IsIn u ys
IsIn-cases u [] ys h = inr h
IsIn-cases u (x ∷ xs) ys (inl e) = inl (inl e)
IsIn-cases u (x ∷ xs) ys (inr h) = elim (IsIn-cases u xs ys h) [ inl a ↦ inl (inr a) | inr b ↦ inr b ]

-- who is among those that pass a test
pub IsIn-filter : (p : Update → Bool) (u : Update) (xs : List Update) → IsIn u xs → p u ≡ true → IsIn u (filter p xs)
IsIn-filter p u [] h e = absurd h
IsIn-filter p u (x ∷ xs) (inl a) e = rw (ap p a ∙ e) (inl a)
IsIn-filter p u (x ∷ xs) (inr h) e = elim (p x) as (λ b. IsIn u (cond b (x ∷ filter p xs) (filter p xs))) [ true ↦ inr (IsIn-filter p u xs h e) | false ↦ IsIn-filter p u xs h e ]

pub IsIn-from_filter : (p : Update → Bool) (u : Update) (xs : List Update) → IsIn u (filter p xs) → IsIn u xs × (p u ≡ true)
IsIn-from_filter p u [] h = absurd h
IsIn-from_filter p u (x ∷ xs) h =
    elim (p x) as (λ b. p x ≡ b → IsIn u (cond b (x ∷ filter p xs) (filter p xs)) → IsIn u (x ∷ xs) × (p u ≡ true)) [
      | true ↦ λ e m. elim m [ inl a ↦ (inl a, sym (ap p a) ∙ e) | inr k ↦ let r = IsIn-from_filter p u xs k in (inr r.0, r.1) ]
      | false ↦ λ e m. let r = IsIn-from_filter p u xs m in (inr r.0, r.1)
    ] refl h

pub any_from_IsIn : (f : Update → Bool) (u : Update) (xs : List Update) → IsIn u xs → f u ≡ true → list_any f xs ≡ true
any_from_IsIn f u [] h e = absurd h
any_from_IsIn f u (x ∷ xs) (inl a) e = ap (λ b. b || list_any f xs) (ap f a ∙ e)
any_from_IsIn f u (x ∷ xs) (inr h) e = ap (λ b. f x || b) (any_from_IsIn f u xs h e) ∙ elim (f x) as (λ b. (b || true) ≡ true) [ true ↦ refl | false ↦ refl ]

pub IsIn-from_any : (f : Update → Bool) (xs : List Update) → list_any f xs ≡ true → (u : Update) × IsIn u xs × (f u ≡ true)
IsIn-from_any f [] e = absurd (true≢false (sym e))
IsIn-from_any f (x ∷ xs) e =
    elim (f x) as (λ b. f x ≡ b → (b || list_any f xs) ≡ true → (u : Update) × IsIn u (x ∷ xs) × (f u ≡ true)) [
      | true ↦ λ a _. (x, inl refl, a)
      | false ↦ λ _ b. let r = IsIn-from_any f xs b in (r.0, inr r.1, r.2)
    ] refl e

-- ---- causal logs

-- what holds of no updates, and with each update that may come next, holds of each causal log
pub by_logs : (P : List Update → Type 0) → P [] → ((us : List Update) (u : Update) → P us → IsNext us u → P (us ++ u ∷ [])) → (b : List Update) → IsCausalLog b → P b
by_logs P none more b causal = go [] b none causal
  where
    go : (us vs : List Update) → P us → IsContinuation us vs → P (us ++ vs)
    go us [] p h = subst P (sym (append-nil us)) p
    go us (v ∷ vs) p h = subst P (append_assoc us (v ∷ []) vs) (go (us ++ v ∷ []) vs (more us v p h.0) h.1)

pub count-push : (d : ℕ) (us : List Update) (u : Update) → count_of d (us ++ u ∷ []) ≡ count_of d us + cond (nat_eq u.dot.device d) 1 0
unfolding count_of
count-push d us u = sum_by-append _ us (u ∷ []) ∙ ap (λ n. count_of d us + n) (zero-add _)

-- the devices and numbers of a causal log
pub record Numbered (us : List Update) : Type 0 where
  pub device : (u : Update) → IsIn u us → u.dot.device < 16
  pub low : (u : Update) → IsIn u us → 0 < u.dot.number
  pub high : (u : Update) → IsIn u us → u.dot.number ≤ count_of u.dot.device us
  pub once : (u w : Update) → IsIn u us → IsIn w us → u.dot ≡ w.dot → u ≡ w

numbered_none : Numbered []
numbered_none = record { device = λ u h. absurd h; low = λ u h. absurd h; high = λ u h. absurd h; once = λ u w h. absurd h }

-- u has a dot of its own
pub fresh : (us : List Update) (u : Update) → Numbered us → IsNext us u → (w : Update) → IsIn w us → w.dot ≡ u.dot → ⊥
fresh us u numbered is_next w h e =
    let a = numbered.high w h in
    let b : count_of w.dot.device us ≡ count_of u.dot.device us = ap (λ d. count_of d.device us) e in
    let c : w.dot.number ≡ u.dot.number = ap (λ d. d.number) e in
    let f = is_next.number in
    omega arith

own_high : (us : List Update) (u : Update) → u.dot.number ≡ count_of u.dot.device us + 1 → u.dot.number ≤ count_of u.dot.device (us ++ u ∷ [])
own_high us u e = let p = count-push u.dot.device us u in grind (arith, nat_tests)

pub numbered_more : (us : List Update) (u : Update) → Numbered us → IsNext us u → Numbered (us ++ u ∷ [])
numbered_more us u numbered is_next =
    record {
      device = λ w h. elim (IsIn-cases w us _ h) [ inl a ↦ numbered.device w a | inr b ↦ elim b [ inl e ↦ subst (λ x. x.dot.device < 16) e is_next.device | inr n ↦ absurd n ] ];
      low = λ w h. elim (IsIn-cases w us _ h) [ inl a ↦ numbered.low w a | inr b ↦ elim b [ inl e ↦ subst (λ x. 0 < x.dot.number) e (let f = is_next.number in omega arith) | inr n ↦ absurd n ] ];
      high = λ w h. elim (IsIn-cases w us _ h) [
        | inl a ↦ let k = numbered.high w a in omega (arith, count-push w.dot.device us u)
        | inr b ↦ elim b [ inl e ↦ subst (λ x. x.dot.number ≤ count_of x.dot.device (us ++ u ∷ [])) e (own_high us u is_next.number) | inr n ↦ absurd n ]
      ];
      once = λ w x h k e. elim (IsIn-cases w us _ h) [
        | inl a ↦ elim (IsIn-cases x us _ k) [ inl b ↦ numbered.once w x a b e | inr b ↦ elim b [ inl p ↦ absurd (fresh us u numbered is_next w a (e ∙ sym (ap (λ y. y.dot) p))) | inr n ↦ absurd n ] ]
        | inr a ↦ elim a [
          | inl q ↦ elim (IsIn-cases x us _ k) [ inl b ↦ absurd (fresh us u numbered is_next x b (sym e ∙ sym (ap (λ y. y.dot) q))) | inr b ↦ elim b [ inl p ↦ sym q ∙ p | inr n ↦ absurd n ] ]
          | inr n ↦ absurd n
        ]
      ];
    }

pub numbered_of : (b : List Update) → IsCausalLog b → Numbered b
numbered_of b causal = by_logs Numbered numbered_none numbered_more b causal

-- ---- what a closed vector covers

pub seen_covered : (b : List Update) (v : List ℕ) → Numbered b → IsCausallyClosed b v → (u : Update) → IsIn u b → covers v u.dot ≡ true → AtMost u.seen v
seen_covered b v numbered closed u h e =
    let c = closed u.dot e in
    subst (λ x. AtMost x.seen v) (numbered.once c.0 u c.1 h c.2) c.3

pub greatest_number-le : (d m : ℕ) (us : List Update) → ((u : Update) → IsIn u us → u.dot.device ≡ d → u.dot.number ≤ m) → greatest_number d us ≤ m
unfolding greatest_number
greatest_number-le d m [] h = omega arith
greatest_number-le d m (u ∷ us) h =
    let a = greatest_number-le d m us (λ x k. h x (inr k)) in
    let b = h u (inl refl) in
    grind (arith, nat_tests)

pub greatest_number-has : (d : ℕ) (us : List Update) (u : Update) → IsIn u us → u.dot.device ≡ d → u.dot.number ≤ greatest_number d us
unfolding greatest_number
greatest_number-has d [] u h e = absurd h
greatest_number-has d (x ∷ us) u (inl a) e = subst (λ y. y.dot.number ≤ max (cond (nat_eq x.dot.device d) x.dot.number 0) (greatest_number d us)) a (here x.dot.device x.dot.number d _ (ap (λ y. y.dot.device) a ∙ e))
  where
    here : (p n q m : ℕ) → p ≡ q → n ≤ max (cond (nat_eq p q) n 0) m
    here p n q m e = grind (arith, nat_tests)
greatest_number-has d (x ∷ us) u (inr h) e = let k = greatest_number-has d us u h e in omega arith

-- the vector of what a closed vector covers is that vector
pub greatest-covered : (b : List Update) (v : List ℕ) → IsCausallyClosed b v → (d : ℕ) → greatest_number d (covered b v) ≡ slice_index v d
greatest-covered b v closed d =
    let upper : greatest_number d (covered b v) ≤ slice_index v d =
    greatest_number-le d (slice_index v d) (covered b v) (λ u h e. subst (λ x. u.dot.number ≤ slice_index v x) e (covers-gives v u.dot (IsIn-from_filter (λ x. covers v x.dot) u b h).1).1)
    in
    let lower : slice_index v d ≤ greatest_number d (covered b v) =
    elim (cases_lt 0 (slice_index v d)) [
      | inl pos ↦
          let q : Dot = record { device = d; number = slice_index v d } in
          let e = covers-from v q pos (omega arith) in
          let c = closed q e in
          let m = IsIn-filter (λ x. covers v x.dot) c.0 b c.1 (ap (covers v) c.2 ∙ e) in
          let k = greatest_number-has d (covered b v) c.0 m (ap (λ x. x.device) c.2) in
          subst (λ n. n ≤ greatest_number d (covered b v)) (ap (λ x. x.number) c.2) k
      | inr none ↦ omega arith
    ]
    in
    omega arith

-- no device past the sixteenth is covered
pub none_past : (b : List Update) (v : List ℕ) → Numbered b → IsCausallyClosed b v → (d : ℕ) → 16 ≤ d → slice_index v d ≡ 0
none_past b v numbered closed d h =
    elim (cases_lt 0 (slice_index v d)) [
      | inl pos ↦
          let q : Dot = record { device = d; number = slice_index v d } in
          let c = closed q (covers-from v q pos (omega arith)) in
          let k = numbered.device c.0 c.1 in
          let e : c.0.dot.device ≡ d = ap (λ x. x.device) c.2 in
          absurd (omega arith)
      | inr none ↦ omega arith
    ]

pub at-vector_of : (b : List Update) (v : List ℕ) → Numbered b → IsCausallyClosed b v → (d : ℕ) → slice_index (vector_of (covered b v)) d ≡ slice_index v d
unfolding vector_of
at-vector_of b v numbered closed d =
    elim (cases_lt d 16) [
      | inl small ↦ at-by_device _ d small ∙ greatest-covered b v closed d
      | inr large ↦ get_or_past (by_device (λ d. greatest_number d (covered b v))) d 0 (let l = length-by_device (λ d. greatest_number d (covered b v)) in omega arith) ∙ sym (none_past b v numbered closed d large)
    ]

pub covers-vector_of : (b : List Update) (v : List ℕ) → Numbered b → IsCausallyClosed b v → (q : Dot) → covers (vector_of (covered b v)) q ≡ covers v q
unfolding covers
covers-vector_of b v numbered closed q = ap (λ n. nat_lt 0 q.number && nat_le q.number n) (at-vector_of b v numbered closed q.device)

-- the join of closed vectors is closed
pub closed_join : (b : List Update) (v w : List ℕ) → IsCausallyClosed b v → IsCausallyClosed b w → IsCausallyClosed b (join_vectors v w)
closed_join b v w cv cw d e =
    elim (covers v d) as (λ x. covers v d ≡ x → (x || covers w d) ≡ true → (u : Update) × IsIn u b × (u.dot ≡ d) × AtMost u.seen (greater_each v w)) [
      | true ↦ λ h _. let c = cv d h in (c.0, c.1, c.2, AtMost-greater_left _ v w c.3)
      | false ↦ λ _ h. let c = cw d h in (c.0, c.1, c.2, AtMost-greater_right _ v w c.3)
    ] refl (sym (covers-greater_each v w d) ∙ e)
