-- The law of registers.
use Rattle.std.proofs.Common.{◌≡◌, ℕ, ◌+◌, ◌<◌, ◌≤◌, Bool, true, false, cond, List, [], ◌∷◌, ◌++◌, Option, None, Some, refl, sym, ap, ◌∙◌, subst, arith, inl, inr}
use Rattle.std.specs.Prelude.{◌||◌, ◌⊎◌, nat_eq, slice_index}
use Rattle.std.proofs.lemmas.Bool.Decides.{nat_tests}
use Rattle.re_terms.specs.declared.word.Word.{Word}
use Rattle.re_terms.specs.declared.replicated.Act.{Act}
use Rattle.re_terms.specs.declared.replicated.Act.TheVariants.{Add, Insert, Remove, Write}
use Rattle.re_terms.specs.declared.replicated.Written.{Written}
use Rattle.re_terms.specs.CellStates.{unwritten, is_after, join_written, written_by, written, or_later, greatest_write, written_of}
use Rattle.re_terms.specs.Updates.{Update, IsIn, covered, IsNext, IsCausalLog, stamp_in, greatest_stamp, write_stamp, count_of}
use Rattle.re_terms.specs.Vectors.{covers, greater_each, join_vectors}
use Rattle.re_terms.proofs.Logs.{Numbered, numbered_of, numbered_more, IsIn-filter, IsIn-from_filter, IsIn-cases, covers-greater_each, covers-from, by_logs}

pub or_true : (a : Bool) → (a || true) ≡ true
or_true true = refl
or_true false = refl

pub one_of : (a b : Bool) → (a || b) ≡ true → (a ≡ true) ⊎ (b ≡ true)
one_of true b e = inl refl
one_of false b e = inr e

-- s is not after r
abbrev pub UpTo : Written → Written → Type 0
UpTo s r = (s.stamp < r.stamp) ⊎ ((s.stamp ≡ r.stamp) × (s.device ≤ r.device))

-- r is the start or a write of these, and no write of these is after it
pub record Best (cell : ℕ) (r0 : Written) (us : List Update) (r : Written) : Type 0 where
  pub from : (r ≡ r0) ⊎ ((u : Update) × IsIn u us × (written cell u ≡ Some r))
  pub start : UpTo r0 r
  pub top : (u : Update) (s : Written) → IsIn u us → written cell u ≡ Some s → UpTo s r

UpTo-refl : (r : Written) → UpTo r r
UpTo-refl r = inr (refl, omega arith)

UpTo-trans : (a b c : Written) → UpTo a b → UpTo b c → UpTo a c
UpTo-trans a b c h k = grind arith

join_states-left : (a b : Written) → UpTo a (join_written a b)
unfolding join_written
join_states-left a b = elim (is_after a b) as (λ x. is_after a b ≡ x → UpTo a (cond x b a)) [ true ↦ λ e. grind (arith, nat_tests) | false ↦ λ _. UpTo-refl a ] refl

join_states-right : (a b : Written) → UpTo b (join_written a b)
unfolding join_written
join_states-right a b = elim (is_after a b) as (λ x. is_after a b ≡ x → UpTo b (cond x b a)) [ true ↦ λ e. UpTo-refl b | false ↦ λ e. grind (arith, nat_tests) ] refl

join_states-cases : (a b : Written) → (join_written a b ≡ a) ⊎ (join_written a b ≡ b)
unfolding join_written
join_states-cases a b = elim (is_after a b) as (λ x. (cond x b a ≡ a) ⊎ (cond x b a ≡ b)) [ true ↦ inr refl | false ↦ inl refl ]

some_same : {A : Type 0} (a b : A) → Some a ≡ Some b → a ≡ b
some_same a b e = cc

some_none : {A : Type 0} (a : A) → None ≡ Some a → ⊥
some_none a e = cc

best_step : (cell : ℕ) (r : Written) (u : Update) (us : List Update) → ((r : Written) → Best cell r us (greatest_write cell r us)) → (o : Option Written) → written cell u ≡ o → Best cell r (u ∷ us) (greatest_write cell (or_later r o) us)
best_step cell r u us ih None e =
    let k = ih r in
    record {
      from = elim k.from [ inl a ↦ inl a | inr b ↦ inr (b.0, inr b.1, b.2) ];
      start = k.start;
      top = λ x s h w. elim h [ inl a ↦ absurd (some_none s (sym e ∙ ap (written cell) a ∙ w)) | inr m ↦ k.top x s m w ];
    }
best_step cell r u us ih (Some t) e =
    let k = ih (join_written r t) in
    let out = greatest_write cell (join_written r t) us in
    record {
      from = elim k.from [
        | inl a ↦ elim (join_states-cases r t) [ inl b ↦ inl (a ∙ b) | inr b ↦ inr (u, inl refl, e ∙ ap Some (sym (a ∙ b))) ]
        | inr b ↦ inr (b.0, inr b.1, b.2)
      ];
      start = UpTo-trans r (join_written r t) out (join_states-left r t) k.start;
      top = λ x s h w. elim h [
        | inl a ↦ subst (λ y. UpTo y out) (some_same t s (sym e ∙ ap (written cell) a ∙ w)) (UpTo-trans t (join_written r t) out (join_states-right r t) k.start)
        | inr m ↦ k.top x s m w
      ];
    }

pub best : (cell : ℕ) (r : Written) (us : List Update) → Best cell r us (greatest_write cell r us)
unfolding greatest_write
best cell r [] = record { from = inl refl; start = UpTo-refl r; top = λ u s h. absurd h }
best cell r (u ∷ us) = best_step cell r u us (λ q. best cell q us) (written cell u) refl

-- what a write is
pub record Writes (cell : ℕ) (u : Update) (s : Written) : Type 0 where
  pub in_cell : u.cell ≡ cell
  pub stamp : s.stamp ≡ u.stamp
  pub device : s.device ≡ u.dot.device
  pub stamped : (n : ℕ) → write_stamp u.act n ≡ n

pub writes : (cell : ℕ) (u : Update) (s : Written) → written cell u ≡ Some s → Writes cell u s
unfolding written
writes cell u s e =
    elim (nat_eq u.cell cell) as (λ b. nat_eq u.cell cell ≡ b → cond b (written_by u.act u.stamp u.dot.device) None ≡ Some s → Writes cell u s) [
      | true ↦ λ same h.
          let r = by_act u.act h in
          record { in_cell = grind (arith, nat_tests); stamp = r.0; device = r.1; stamped = r.2 }
      | false ↦ λ _ h. absurd (some_none s h)
    ] refl e
  where
    by_act : (a : Act) → written_by a u.stamp u.dot.device ≡ Some s → (s.stamp ≡ u.stamp) × (s.device ≡ u.dot.device) × ((n : ℕ) → write_stamp a n ≡ n)
    by_act (Write w) h = let k = sym (some_same _ s h) in (ap (λ x. x.stamp) k, ap (λ x. x.device) k, λ n. refl)
    by_act (Add n) h = absurd (some_none s h)
    by_act (Insert w) h = absurd (some_none s h)
    by_act (Remove w) h = absurd (some_none s h)

-- the greatest stamp is no less than that of any write
pub stamp_in-write : (cell : ℕ) (u : Update) (s : Written) → written cell u ≡ Some s → stamp_in cell u ≡ s.stamp
unfolding stamp_in
stamp_in-write cell u s e = let w = writes cell u s e in let a = w.stamped u.stamp in let b = w.in_cell in let c = w.stamp in grind (arith, nat_tests)

pub greatest_stamp-has : (cell : ℕ) (us : List Update) (u : Update) (s : Written) → IsIn u us → written cell u ≡ Some s → s.stamp ≤ greatest_stamp cell us
unfolding greatest_stamp
greatest_stamp-has cell [] u s h e = absurd h
greatest_stamp-has cell (x ∷ us) u s (inl a) e = let k = stamp_in-write cell x s (ap (written cell) a ∙ e) in omega arith
greatest_stamp-has cell (x ∷ us) u s (inr h) e = let k = greatest_stamp-has cell us u s h e in omega arith

-- the stamps of a causal log
pub record Stamped (us : List Update) : Type 0 where
  pub numbered : Numbered us
  pub low : (cell : ℕ) (u : Update) (s : Written) → IsIn u us → written cell u ≡ Some s → 0 < s.stamp
  pub once : (cell : ℕ) (u w : Update) (s t : Written) → IsIn u us → IsIn w us → written cell u ≡ Some s → written cell w ≡ Some t → s.stamp ≡ t.stamp → s.device ≡ t.device → u ≡ w

-- the stamp of a write that may come next
next_stamp : (us : List Update) (u : Update) → IsNext us u → (cell : ℕ) (s : Written) → written cell u ≡ Some s → s.stamp ≡ greatest_stamp cell (covered us u.seen) + 1
next_stamp us u is_next cell s e =
    let w = writes cell u s e in
    w.stamp ∙ is_next.stamp ∙ w.stamped _ ∙ ap (λ c. greatest_stamp c (covered us u.seen) + 1) w.in_cell

-- it is above that of each write of its device
above : (us : List Update) (u : Update) → Numbered us → IsNext us u → (cell : ℕ) (w : Update) (s t : Written) → IsIn w us → written cell w ≡ Some t → written cell u ≡ Some s → s.device ≡ t.device → t.stamp < s.stamp
above us u numbered is_next cell w s t h ew eu same =
    let a = writes cell w t ew in
    let b = writes cell u s eu in
    let d : u.dot.device ≡ w.dot.device = sym b.device ∙ same ∙ a.device in
    let n = numbered.high w h in
    let own : slice_index u.seen w.dot.device ≡ count_of w.dot.device us = subst (λ x. slice_index u.seen x ≡ count_of x us) d is_next.own in
    let m = IsIn-filter (λ x. covers u.seen x.dot) w us h (covers-from u.seen w.dot (numbered.low w h) (omega arith)) in
    let k = greatest_stamp-has cell (covered us u.seen) w t m ew in
    let e = next_stamp us u is_next cell s eu in
    omega arith

stamped_more : (us : List Update) (u : Update) → Stamped us → IsNext us u → Numbered (us ++ u ∷ []) → Stamped (us ++ u ∷ [])
stamped_more us u st is_next numbered =
    record {
      numbered = numbered;
      low = λ cell w s h e. elim (IsIn-cases w us _ h) [
        | inl a ↦ st.low cell w s a e
        | inr a ↦ elim a [ inl q ↦ let k = next_stamp us u is_next cell s (ap (written cell) q ∙ e) in omega arith | inr n ↦ absurd n ]
      ];
      once = λ cell w x s t h k ew ex st_same dv_same. elim (IsIn-cases w us _ h) [
        | inl a ↦ elim (IsIn-cases x us _ k) [
          | inl b ↦ st.once cell w x s t a b ew ex st_same dv_same
          | inr b ↦ elim b [ inl p ↦ let z = above us u st.numbered is_next cell w t s a ew (ap (written cell) p ∙ ex) (sym dv_same) in absurd (omega arith) | inr n ↦ absurd n ]
        ]
        | inr a ↦ elim a [
          | inl q ↦ elim (IsIn-cases x us _ k) [
            | inl b ↦ let z = above us u st.numbered is_next cell x s t b ex (ap (written cell) q ∙ ew) dv_same in absurd (omega arith)
            | inr b ↦ elim b [ inl p ↦ sym q ∙ p | inr n ↦ absurd n ]
          ]
          | inr n ↦ absurd n
        ]
      ];
    }

pub stamped_of : (b : List Update) → IsCausalLog b → Stamped b
stamped_of b causal = by_logs Stamped (record { numbered = numbered_of [] tt; low = λ cell u s h. absurd h; once = λ cell u w s t h. absurd h }) (λ us u st is_next. stamped_more us u st is_next (numbered_more us u st.numbered is_next)) b causal

-- two that are the greatest of the same updates are equal
pub same_best : (b us : List Update) → Stamped b → ((u : Update) → IsIn u us → IsIn u b) → (cell : ℕ) (start : Word) (r q : Written) → Best cell (unwritten start) us r → Best cell (unwritten start) us q → r ≡ q
same_best b us st within cell start r q x y =
    elim x.from [
      | inl a ↦ elim y.from [
        | inl c ↦ a ∙ sym c
        | inr c ↦ let up = x.top c.0 q c.1 c.2 in let k = st.low cell c.0 q (within c.0 c.1) c.2 in let z : r.stamp ≡ 0 = ap (λ w. w.stamp) a in absurd (omega arith)
      ]
      | inr a ↦ elim y.from [
        | inl c ↦ let up = y.top a.0 r a.1 a.2 in let k = st.low cell a.0 r (within a.0 a.1) a.2 in let z : q.stamp ≡ 0 = ap (λ w. w.stamp) c in absurd (omega arith)
        | inr c ↦
            let up = y.top a.0 r a.1 a.2 in
            let down = x.top c.0 q c.1 c.2 in
            let e = st.once cell a.0 c.0 r q (within a.0 a.1) (within c.0 c.1) a.2 c.2 (omega arith) (omega arith) in
            some_same r q (sym a.2 ∙ ap (written cell) e ∙ c.2)
      ]
    ]

pub written_join : (b : List Update) (v w : List ℕ) (start : Word) (cell : ℕ) → IsCausalLog b → join_written (written_of start cell (covered b v)) (written_of start cell (covered b w)) ≡ written_of start cell (covered b (join_vectors v w))
written_join b v w start cell causal =
    let bj = covered b (greater_each v w) in
    let x = best cell (unwritten start) (covered b v) in
    let y = best cell (unwritten start) (covered b w) in
    let lift_left = λ (u : Update) (h : IsIn u (covered b v)). let m = IsIn-from_filter (λ u. covers v u.dot) u b h in IsIn-filter (λ u. covers (greater_each v w) u.dot) u b m.0 (covers-greater_each v w u.dot ∙ ap (λ c. c || covers w u.dot) m.1) in
    let lift_right = λ (u : Update) (h : IsIn u (covered b w)). let m = IsIn-from_filter (λ u. covers w u.dot) u b h in IsIn-filter (λ u. covers (greater_each v w) u.dot) u b m.0 (covers-greater_each v w u.dot ∙ ap (λ c. covers v u.dot || c) m.1 ∙ or_true (covers v u.dot)) in
    let rv = written_of start cell (covered b v) in
    let rw = written_of start cell (covered b w) in
    let joined : Best cell (unwritten start) bj (join_written rv rw) = record {
      from = elim (join_states-cases rv rw) [
        | inl e ↦ elim x.from [ inl a ↦ inl (e ∙ a) | inr a ↦ inr (a.0, lift_left a.0 a.1, a.2 ∙ ap Some (sym e)) ]
        | inr e ↦ elim y.from [ inl a ↦ inl (e ∙ a) | inr a ↦ inr (a.0, lift_right a.0 a.1, a.2 ∙ ap Some (sym e)) ]
      ];
      start = UpTo-trans (unwritten start) rv (join_written rv rw) x.start (join_states-left rv rw);
      top = λ u s h e. let m = IsIn-from_filter (λ u. covers (greater_each v w) u.dot) u b h in
          elim (one_of (covers v u.dot) (covers w u.dot) (sym (covers-greater_each v w u.dot) ∙ m.1)) [
            | inl a ↦ UpTo-trans s rv (join_written rv rw) (x.top u s (IsIn-filter (λ u. covers v u.dot) u b m.0 a) e) (join_states-left rv rw)
            | inr a ↦ UpTo-trans s rw (join_written rv rw) (y.top u s (IsIn-filter (λ u. covers w u.dot) u b m.0 a) e) (join_states-right rv rw)
          ];
    } in
    same_best b bj (stamped_of b causal) (λ u h. (IsIn-from_filter (λ u. covers (greater_each v w) u.dot) u b h).0) cell start _ _ joined (best cell (unwritten start) bj)
