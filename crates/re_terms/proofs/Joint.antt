-- The law of joint logs: further updates of several devices behind one log.
use Rattle.std.proofs.Common.{◌≡◌, ◌≢◌, ℕ, ◌+◌, ◌<◌, Bool, true, false, cond, List, [], ◌∷◌, ◌++◌, refl, sym, ap, ◌∙◌, subst, arith, inl, inr, append_assoc}
use Rattle.std.specs.List.{filter}
use Rattle.std.proofs.lemmas.List.{append-nil}
use Rattle.std.proofs.lemmas.List.Elements.{filter-append}
use Rattle.std.proofs.lemmas.List.Sums.{sum_by-append}
use Rattle.std.proofs.lemmas.Bool.Decides.{nat_tests}
use Rattle.re_terms.specs.JointLogs.{Further, all_of, IsOneOf, NoneOf, Follows, AllFollow}
use Rattle.re_terms.specs.Updates.{Update, IsIn, covered, IsCausallyClosed, count_of, IsNext, IsContinuation, IsCausalLog, greatest_stamp, write_stamp}
use Rattle.re_terms.specs.Vectors.{covers}
use Rattle.re_terms.proofs.Logs.{Numbered, numbered_of, IsIn-left, IsIn-right, IsIn-cases}

-- ---- one list behind another

pub IsContinuation-append : (us xs ys : List Update) → IsContinuation us xs → IsContinuation (us ++ xs) ys → IsContinuation us (xs ++ ys)
IsContinuation-append us [] ys h k = subst (λ l. IsContinuation l ys) (append-nil us) k
IsContinuation-append us (x ∷ xs) ys h k = (h.0, IsContinuation-append (us ++ x ∷ []) xs ys h.1 (subst (λ l. IsContinuation l ys) (sym (append_assoc us (x ∷ []) xs)) k))

pub IsContinuation-parts : (us xs ys : List Update) → IsContinuation us (xs ++ ys) → IsContinuation us xs × IsContinuation (us ++ xs) ys
IsContinuation-parts us [] ys h = (tt, subst (λ l. IsContinuation l ys) (sym (append-nil us)) h)
IsContinuation-parts us (x ∷ xs) ys h =
    let r = IsContinuation-parts (us ++ x ∷ []) xs ys h.1 in
    ((h.0, r.0), subst (λ l. IsContinuation l ys) (append_assoc us (x ∷ []) xs) r.1)

pub count-append : (d : ℕ) (xs ys : List Update) → count_of d (xs ++ ys) ≡ count_of d xs + count_of d ys
unfolding count_of
count-append d xs ys = sum_by-append _ xs ys

pub count-none : (d : ℕ) (xs : List Update) → ((u : Update) → IsIn u xs → u.dot.device ≢ d) → count_of d xs ≡ 0
unfolding count_of
count-none d [] h = refl
count-none d (x ∷ xs) h = count-append d (x ∷ []) xs ∙ let a = h x (inl refl) in let e = count-none d xs (λ u k. h u (inr k)) in grind (arith, nat_tests)

-- the numbers of what follows are above those of the log
above_log : (us xs : List Update) → IsContinuation us xs → (u : Update) → IsIn u xs → count_of u.dot.device us < u.dot.number
above_log us [] h u k = absurd k
above_log us (x ∷ xs) h u (inl e) = subst (λ y. count_of y.dot.device us < y.dot.number) e (let n = h.0.number in omega arith)
above_log us (x ∷ xs) h u (inr k) = let a = above_log (us ++ x ∷ []) xs h.1 u k in let c = count-append u.dot.device us (x ∷ []) in omega arith

closed_more : (us vs : List Update) (v : List ℕ) → ((u : Update) → IsIn u us → IsIn u vs) → IsCausallyClosed us v → IsCausallyClosed vs v
closed_more us vs v h closed d e = let c = closed d e in (c.0, h c.0 c.1, c.2, c.3)

filter_none : (p : Update → Bool) (xs : List Update) → ((u : Update) → IsIn u xs → p u ≡ true → ⊥) → filter p xs ≡ []
filter_none p [] h = refl
filter_none p (x ∷ xs) h =
    elim (p x) as (λ b. p x ≡ b → cond b (x ∷ filter p xs) (filter p xs) ≡ []) [ true ↦ λ e. absurd (h x (inl refl) e) | false ↦ λ _. filter_none p xs (λ u k. h u (inr k)) ] refl

-- what is closed without a device's further updates covers none of them
none_covered : (b ys p : List Update) (d : ℕ) (v : List ℕ) → Numbered b → IsContinuation b ys → ((u : Update) → IsIn u ys → u.dot.device ≡ d) → ((u : Update) → IsIn u p → u.dot.device ≢ d) → IsCausallyClosed (b ++ p) v → covered ys v ≡ []
none_covered b ys p d v numbered follow own other closed =
    filter_none (λ u. covers v u.dot) ys (λ u h e.
    let c = closed u.dot e in
    elim (IsIn-cases c.0 b p c.1) [
      | inl k ↦
          let hi = numbered.high c.0 k in
          let lo = above_log b ys follow u h in
          let n : c.0.dot.number ≡ u.dot.number = ap (λ q. q.number) c.2 in
          let m : count_of c.0.dot.device b ≡ count_of u.dot.device b = ap (λ q. count_of q.device b) c.2 in
          absurd (omega arith)
      | inr k ↦ absurd (other c.0 k (ap (λ q. q.device) c.2 ∙ own u h))
    ])

module _ (b xs : List Update) (d : ℕ) (numbered : Numbered b) (follow : IsContinuation b xs) (own : (u : Update) → IsIn u xs → u.dot.device ≡ d) where
  among : (p : List Update) (u : Update) → IsIn u (b ++ p) → IsIn u ((b ++ xs) ++ p)
  among p u h = elim (IsIn-cases u b p h) [ inl a ↦ IsIn-left u (b ++ xs) p (IsIn-left u b xs a) | inr a ↦ IsIn-right u (b ++ xs) p a ]

  covered_beside : (p : List Update) (v : List ℕ) → ((u : Update) → IsIn u p → u.dot.device ≢ d) → IsCausallyClosed (b ++ p) v → covered ((b ++ xs) ++ p) v ≡ covered (b ++ p) v
  covered_beside p v other closed =
      let t = λ (u : Update). covers v u.dot in
      filter-append t (b ++ xs) p ∙ ap (λ l. l ++ covered p v) (filter-append t b xs ∙ ap (λ l. covered b v ++ l) (none_covered b xs p d v numbered follow own other closed) ∙ append-nil (covered b v)) ∙ sym (filter-append t b p)

  next_beside : (p : List Update) (u : Update) → ((w : Update) → IsIn w p → w.dot.device ≢ d) → u.dot.device ≢ d → IsNext (b ++ p) u → IsNext ((b ++ xs) ++ p) u
  next_beside p u other u_other is_next =
      let c : count_of u.dot.device ((b ++ xs) ++ p) ≡ count_of u.dot.device (b ++ p) =
      count-append u.dot.device (b ++ xs) p
      ∙ ap (λ n. n + count_of u.dot.device p) (count-append u.dot.device b xs)
      ∙ (let z = count-none u.dot.device xs (λ w h e. u_other (sym e ∙ own w h)) in let s = count-append u.dot.device b p in omega arith)
      in
      record {
        device = is_next.device;
        places = is_next.places;
        number = is_next.number ∙ ap (λ n. n + 1) (sym c);
        own = is_next.own ∙ sym c;
        past = closed_more (b ++ p) ((b ++ xs) ++ p) u.seen (among p) is_next.past;
        stamp = is_next.stamp ∙ ap (λ l. write_stamp u.act (greatest_stamp u.cell l + 1)) (sym (covered_beside p u.seen other is_next.past));
      }

  follow_beside : (p ys : List Update) → ((w : Update) → IsIn w p → w.dot.device ≢ d) → ((w : Update) → IsIn w ys → w.dot.device ≢ d) → IsContinuation (b ++ p) ys → IsContinuation ((b ++ xs) ++ p) ys
  follow_beside p [] other ys_other h = tt
  follow_beside p (y ∷ ys) other ys_other h = (
    next_beside p y other (ys_other y (inl refl)) h.0,
    subst (λ l. IsContinuation l ys) (sym (append_assoc (b ++ xs) p (y ∷ [])))
        (follow_beside (p ++ y ∷ []) ys
        (λ w k. elim (IsIn-cases w p (y ∷ []) k) [ inl a ↦ other w a | inr a ↦ ys_other w (elim a [ inl e ↦ inl e | inr n ↦ absurd n ]) ])
        (λ w k. ys_other w (inr k))
        (subst (λ l. IsContinuation l ys) (append_assoc b p (y ∷ [])) h.1)),
  )

-- two lists of two devices
causal_beside : (b : List Update) (x y : Further) → IsCausalLog b → Follows b x → Follows b y → y.device ≢ x.device → Follows (b ++ x.updates) y
causal_beside b x y causal fx fy other =
    let px = IsContinuation-parts [] b x.updates fx.causal in
    let py = IsContinuation-parts [] b y.updates fy.causal in
    let k = follow_beside b x.updates x.device (numbered_of b causal) px.1 fx.own [] y.updates (λ w n. absurd n) (λ w h e. other (sym (fy.own w h) ∙ e)) (subst (λ l. IsContinuation l y.updates) (sym (append-nil b)) py.1) in
    record {
      own = fy.own;
      causal = IsContinuation-append [] (b ++ x.updates) y.updates fx.causal (subst (λ l. IsContinuation l y.updates) (append-nil (b ++ x.updates)) k);
    }

all_beside : (b : List Update) (x : Further) (ys : List Further) → IsCausalLog b → Follows b x → NoneOf x.device ys → AllFollow b ys → AllFollow (b ++ x.updates) ys
all_beside b x [] causal fx none h = tt
all_beside b x (y ∷ ys) causal fx none h = (causal_beside b x y causal fx h.0 none.0, h.1, all_beside b x ys causal fx none.1 h.2)

pub joint_causal : (b : List Update) (xs : List Further) → IsCausalLog b → AllFollow b xs → IsCausalLog (b ++ all_of xs)
joint_causal b [] causal h = subst IsCausalLog (sym (append-nil b)) causal
joint_causal b (x ∷ xs) causal h = subst IsCausalLog (append_assoc b x.updates (all_of xs)) (joint_causal (b ++ x.updates) xs h.0.causal (all_beside b x xs causal h.0 h.1 h.2))

in_all : (x : Further) (xs : List Further) → IsOneOf x xs → (u : Update) → IsIn u x.updates → IsIn u (all_of xs)
in_all x [] h u k = absurd h
in_all x (y ∷ xs) (inl e) u k = IsIn-left u y.updates (all_of xs) (subst (λ z. IsIn u z.updates) (sym e) k)
in_all x (y ∷ xs) (inr h) u k = IsIn-right u y.updates (all_of xs) (in_all x xs h u k)

pub joint_closed : (b : List Update) (xs : List Further) (x : Further) (v : List ℕ) → IsOneOf x xs → IsCausallyClosed (b ++ x.updates) v → IsCausallyClosed (b ++ all_of xs) v
joint_closed b xs x v one closed = closed_more _ _ v (λ u h. elim (IsIn-cases u b x.updates h) [ inl a ↦ IsIn-left u b (all_of xs) a | inr a ↦ IsIn-right u b (all_of xs) (in_all x xs one u a) ]) closed

module _ (b : List Update) (numbered : Numbered b) (x : Further) (fx : Follows b x) (v : List ℕ) (closed : IsCausallyClosed (b ++ x.updates) v) where
  covered_other : (y : Further) → Follows b y → y.device ≢ x.device → covered y.updates v ≡ []
  covered_other y fy other = none_covered b y.updates x.updates y.device v numbered (IsContinuation-parts [] b y.updates fy.causal).1 fy.own (λ u h e. other (sym e ∙ fx.own u h)) closed

  covered_none : (ys : List Further) → NoneOf x.device ys → AllFollow b ys → covered (all_of ys) v ≡ []
  covered_none [] none h = refl
  covered_none (y ∷ ys) none h = filter-append (λ u. covers v u.dot) y.updates (all_of ys) ∙ (λ i. covered_other y h.0 none.0 i ++ covered_none ys none.1 h.2 i)

  covered_all : (ys : List Further) → AllFollow b ys → IsOneOf x ys → covered (all_of ys) v ≡ covered x.updates v
  covered_all [] h one = absurd one
  covered_all (y ∷ ys) h (inl e) =
      filter-append (λ u. covers v u.dot) y.updates (all_of ys)
      ∙ ap (λ l. covered y.updates v ++ l) (covered_none ys (subst (λ z. NoneOf z.device ys) e h.1) h.2)
      ∙ append-nil (covered y.updates v)
      ∙ ap (λ z. covered z.updates v) e
  covered_all (y ∷ ys) h (inr one) =
      filter-append (λ u. covers v u.dot) y.updates (all_of ys)
      ∙ ap (λ l. l ++ covered (all_of ys) v) (covered_other y h.0 (none_is x.device ys h.1 one))
      ∙ covered_all ys h.2 one
    where
      none_is : (d : ℕ) (zs : List Further) → NoneOf y.device zs → IsOneOf x zs → y.device ≢ x.device
      none_is d [] n o = absurd o
      none_is d (z ∷ zs) n (inl e) = λ k. n.0 (ap (λ q. q.device) e ∙ sym k)
      none_is d (z ∷ zs) n (inr o) = none_is d zs n.1 o

follows_of : (b : List Update) (x : Further) (ys : List Further) → AllFollow b ys → IsOneOf x ys → Follows b x
follows_of b x [] h one = absurd one
follows_of b x (y ∷ ys) h (inl e) = subst (Follows b) e h.0
follows_of b x (y ∷ ys) h (inr one) = follows_of b x ys h.2 one

pub joint_covered : (b : List Update) (xs : List Further) (x : Further) (v : List ℕ) → IsCausalLog b → AllFollow b xs → IsOneOf x xs → IsCausallyClosed (b ++ x.updates) v → covered (b ++ all_of xs) v ≡ covered (b ++ x.updates) v
joint_covered b xs x v causal h one closed =
    filter-append (λ u. covers v u.dot) b (all_of xs)
    ∙ ap (λ l. covered b v ++ l) (covered_all b (numbered_of b causal) x (follows_of b x xs h one) v closed xs h one)
    ∙ sym (filter-append (λ u. covers v u.dot) b x.updates)

-- ---- the log grows

pub closed_grown : (b ys : List Update) (v : List ℕ) → IsCausallyClosed b v → IsCausallyClosed (b ++ ys) v
closed_grown b ys v closed = closed_more b (b ++ ys) v (λ u h. IsIn-left u b ys h) closed

pub covered_grown : (b ys : List Update) (v : List ℕ) → IsCausalLog (b ++ ys) → IsCausallyClosed b v → covered (b ++ ys) v ≡ covered b v
covered_grown b ys v causal closed =
    let parts = IsContinuation-parts [] b ys causal in
    let numbered = numbered_of b parts.0 in
    let none : covered ys v ≡ [] = filter_none (λ u. covers v u.dot) ys (λ u h e.
    let c = closed u.dot e in
    let hi = numbered.high c.0 c.1 in
    let lo = above_log b ys parts.1 u h in
    let n : c.0.dot.number ≡ u.dot.number = ap (λ q. q.number) c.2 in
    let m : count_of c.0.dot.device b ≡ count_of u.dot.device b = ap (λ q. count_of q.device b) c.2 in
    absurd (omega arith)) in
    filter-append (λ u. covers v u.dot) b ys ∙ ap (λ l. covered b v ++ l) none ∙ append-nil (covered b v)
