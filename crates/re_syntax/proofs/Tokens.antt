use Rattle.std.proofs.Common.{ℕ, ◌+◌, ◌<◌, ◌≤◌, ◌≡◌, Bool, true, List, length, Option, Some, None, Result, Ok, Err, IfOk, IfErr, MatchOption, refl, subst, arith, add-zero, lit≤}
use Rattle.re_terms.specs.declared.token.Token.{Token}
use Rattle.re_terms.specs.declared.token.Mark.{Mark}
use Rattle.re_terms.specs.declared.token.Mark.TheVariants as mark
use Rattle.re_syntax.specs.declared.stop.Stop.{Stop}
use Rattle.re_syntax.specs.declared.stop.Stop.TheVariants as stop
use Rattle.re_syntax.specs.Grammar.{operator_of}
use Rattle.re_syntax.specs.Steps.{Language, text, nothing, joins, EndsLast, Accepts, Stops, StopsBehind, Misses, Then, One, Done, Single, Unfit, Beyond}
use Rattle.re_syntax.proofs.Steps.{no_more, SoFar, so_start, so_ends, so_stops, so_next, so_fails, one_exact, one_refused, done_exact, never_more, no_true, after_one, Completes, Follows, Includes}

pub one_accepts : {V : Type 0} (P : Mark → V → Type 0) (tokens : List Token) (i : ℕ) (v : V) → i < length tokens → EndsLast tokens → (P mark.End v → ⊥)
    → P (text tokens i) v → ((w : V) → P (text tokens i) w → w ≡ v) → Accepts (One P) nothing 0 tokens v i (i + 1)
one_accepts {V} P tokens i v inside ends no_end h same = record {
  exact = one_exact P (text tokens) (i + 1 + 0) i v h same (omega arith);
  inside = ends i inside (λ e. no_end (subst (λ (m : Mark). P m v) e h));
}

pub one_misses : {V : Type 0} (P : Mark → V → Type 0) (tokens : List Token) (i : ℕ) (v : V) (m : Mark) → i < length tokens → P m v → ((w : V) → P (text tokens i) w → ⊥)
    → Misses (One P) nothing tokens i (stop.Unexpected i)
one_misses P tokens i v m inside h none = record { told = (one_refused P (text tokens) i v m h none, inside) }

-- what was read of these tokens from i to k, and what is left; it looked `ahead` marks ahead
pub record Stage {V : Type 0} (X : Language V) (goes_on : Mark → Bool) (tokens : List Token) (ahead i k : ℕ) (R : Language V) : Type 0 where
  pub so_far : SoFar X goes_on (text tokens) (k + ahead) i k R

pub begin : {V : Type 0} {X : Language V} {goes_on : Mark → Bool} {tokens : List Token} (i : ℕ) → Stage X goes_on tokens 0 i i X
begin {V} {X} {goes_on} {tokens} i = record { so_far = rw add-zero (so_start X goes_on (text tokens) i) }

pub one_longer : {V : Type 0} {P : Mark → V → Type 0} {ends : Mark → Bool} {ahead : ℕ} {tokens : List Token} {a : V} {k k' : ℕ} → Accepts (One P) ends ahead tokens a k k' → k' ≡ k + 1
one_longer {V} {P} {ends} {ahead} {tokens} {a} {k} {k'} e = let r = e.exact.read (λ _. 128) (λ _. lit≤ tt) (text tokens) (λ _ _. refl) in r.next

-- one phrase more
pub next : {A V : Type 0} {X : Language V} {goes_on ends : Mark → Bool} {tokens : List Token} {ahead ahead' i k k' : ℕ} {Y : Language A} {Z : A → Language V} {a : A}
    → Stage X goes_on tokens ahead i k (Then Y Z) → Accepts Y ends ahead' tokens a k k' → ahead ≤ ahead' → Follows ends Z goes_on → Stage X goes_on tokens ahead' i k' (Z a)
next {A} {V} {X} {goes_on} {ends} {tokens} {ahead} {ahead'} {i} {k} {k'} {Y} {Z} {a} s e h f =
    let forward : k ≤ k' = e.exact.forward in
    record { so_far = so_next X goes_on (text tokens) (k + ahead) (k' + ahead') i k k' Y Z ends a s.so_far e.exact (omega arith) f }

-- one mark more
pub next_one : {A V : Type 0} {X : Language V} {goes_on ends : Mark → Bool} {tokens : List Token} {ahead i k k' : ℕ} {P : Mark → A → Type 0} {Z : A → Language V} {a : A}
    → Stage X goes_on tokens ahead i k (Then (One P) Z) → Accepts (One P) ends 0 tokens a k k' → ahead ≤ 1 → Follows ends Z goes_on → Stage X goes_on tokens 0 i k' (Z a)
next_one {A} {V} {X} {goes_on} {ends} {tokens} {ahead} {i} {k} {k'} {P} {Z} {a} s e h f =
    let longer : k' ≡ k + 1 = one_longer e in
    record { so_far = so_next X goes_on (text tokens) (k + ahead) (k' + 0) i k k' (One P) Z ends a s.so_far e.exact (omega arith) f }

-- the end of a whole
pub finish : {V : Type 0} {X : Language V} {goes_on : Mark → Bool} {tokens : List Token} {ahead i k : ℕ} {v : V} → Stage X goes_on tokens ahead i k (Done v) → k < length tokens → Accepts X goes_on ahead tokens v i k
finish {V} {X} {goes_on} {tokens} {ahead} {i} {k} {v} s inside = record {
  exact = so_ends X goes_on (text tokens) (k + ahead) (k + ahead) i k k v (Done v) nothing s.so_far (done_exact v (text tokens) (k + ahead) k) (omega arith) never_more;
  inside = inside;
}

-- the last phrase of a whole
pub last_of : {V : Type 0} {X : Language V} {goes_on ends : Mark → Bool} {tokens : List Token} {ahead ahead' i k n : ℕ} {R : Language V} {v : V}
    → Stage X goes_on tokens ahead i k R → Accepts R ends ahead' tokens v k n → ahead ≤ ahead' → Includes ends goes_on → Accepts X goes_on ahead' tokens v i n
last_of {V} {X} {goes_on} {ends} {tokens} {ahead} {ahead'} {i} {k} {n} {R} {v} s e h wider =
    let forward : k ≤ n = e.exact.forward in
    record { exact = so_ends X goes_on (text tokens) (k + ahead) (n + ahead') i k n v R ends s.so_far e.exact (omega arith) wider; inside = e.inside }

-- a step may be told to look further ahead, and more may be said to go on with it
pub farther : {V : Type 0} {X : Language V} {goes_on ends : Mark → Bool} {tokens : List Token} {ahead i n : ℕ} {v : V}
    → Accepts X ends ahead tokens v i n → ahead ≤ 1 → Includes ends goes_on → Accepts X goes_on 1 tokens v i n
farther {V} {X} {goes_on} {ends} {tokens} {ahead} {i} {n} {v} e h wider = last_of {ahead = 0} {ahead' = 1} (begin i) (raised e) (lit≤ tt) wider
  where
    raised : Accepts X ends ahead tokens v i n → Accepts X ends 1 tokens v i n
    raised e = record {
      exact = record { forward = e.exact.forward; read = e.exact.read; only = λ limit other w m agrees x. e.exact.only limit other w m (λ k below. agrees k (omega arith)) x };
      inside = e.inside;
    }

-- the next phrase, which has no expression in it, is refused
pub misses_in : {A V : Type 0} {X : Language V} {goes_on ends : Mark → Bool} {tokens : List Token} {ahead i k : ℕ} {Y : Language A} {Z : A → Language V} (s : Stop)
    → Stage X goes_on tokens ahead i k (Then Y Z) → Misses Y ends tokens k s → ahead ≤ 1 → Follows ends Z goes_on → ((a : A) → Completes (Z a)) → Misses X goes_on tokens i s
misses_in stop.Memory g r h f c = record { told = tt }
misses_in {A} {V} {X} {goes_on} {ends} {tokens} {ahead} {i} {k} {Y} {Z} (stop.Unexpected j) g r h f c =
    let reached : k ≤ j = r.told.0.reached in
    record { told = (so_fails X goes_on (text tokens) (k + ahead) i k j Unfit Y Z ends g.so_far r.told.0 (omega arith) f c, r.told.1) }
misses_in (stop.TooMany j) g r h f c = absurd r.told
misses_in (stop.TooDeep j) g r h f c = absurd r.told

-- the last phrase, which has no expression in it, is refused
pub misses_last : {V : Type 0} {X : Language V} {goes_on ends : Mark → Bool} {tokens : List Token} {ahead i k : ℕ} {R : Language V} (s : Stop)
    → Stage X goes_on tokens ahead i k R → Misses R ends tokens k s → ahead ≤ 1 → Includes ends goes_on → Misses X goes_on tokens i s
misses_last stop.Memory g r h f = record { told = tt }
misses_last {V} {X} {goes_on} {ends} {tokens} {ahead} {i} {k} {R} (stop.Unexpected j) g r h f =
    let reached : k ≤ j = r.told.0.reached in
    record { told = (so_stops X goes_on (text tokens) (k + ahead) i k j Unfit R ends g.so_far r.told.0 (omega arith) f, r.told.1) }
misses_last (stop.TooMany j) g r h f = absurd r.told
misses_last (stop.TooDeep j) g r h f = absurd r.told

pub stops_of_misses : {V : Type 0} {X : Language V} {goes_on : Mark → Bool} {Deep : ℕ → Type 0} {tokens : List Token} {i : ℕ} (s : Stop)
    → Misses X goes_on tokens i s → ((j : ℕ) → Deep j → ⊥) → Stops X goes_on Deep tokens i s
stops_of_misses stop.Memory r none = record { told = tt; within = tt }
stops_of_misses (stop.Unexpected j) r none = record { told = (r.told.0, r.told.1, none); within = tt }
stops_of_misses (stop.TooMany j) r none = absurd r.told
stops_of_misses (stop.TooDeep j) r none = absurd r.told

-- the next phrase is refused
pub stops_in : {A V : Type 0} {X : Language V} {goes_on ends : Mark → Bool} {Inner Outer : ℕ → Type 0} {tokens : List Token} {ahead i k : ℕ} {Y : Language A} {Z : A → Language V} (s : Stop)
    → Stage X goes_on tokens ahead i k (Then Y Z) → Stops Y ends Inner tokens k s → ahead ≤ 1 → Follows ends Z goes_on → ((a : A) → Completes (Z a))
    → ((j : ℕ) → Inner j → Outer j) → ((j : ℕ) → Outer j → Inner j) → Stops X goes_on Outer tokens i s
stops_in stop.Memory g r h f c up down = record { told = tt; within = tt }
stops_in {A} {V} {X} {goes_on} {ends} {Inner} {Outer} {tokens} {ahead} {i} {k} {Y} {Z} (stop.Unexpected j) g r h f c up down =
    let reached : k ≤ j = r.told.0.reached in
    record { told = (so_fails X goes_on (text tokens) (k + ahead) i k j Unfit Y Z ends g.so_far r.told.0 (omega arith) f c, r.told.1, λ n deep. r.told.2 n (down n deep)); within = tt }
stops_in {A} {V} {X} {goes_on} {ends} {Inner} {Outer} {tokens} {ahead} {i} {k} {Y} {Z} (stop.TooMany j) g r h f c up down =
    let reached : k ≤ j = r.within in
    let forward : i ≤ k = g.so_far.forward in
    record { told = (so_fails X goes_on (text tokens) (k + ahead) i k j Beyond Y Z ends g.so_far r.told.0 (omega arith) f c, r.told.1, λ n deep. r.told.2 n (down n deep)); within = omega arith }
stops_in (stop.TooDeep j) g r h f c up down = record { told = (up j r.told.0, r.told.1); within = tt }

-- the next phrase, which a mark behind the start opens, is refused
pub stops_behind : {A V : Type 0} {X : Language V} {goes_on ends : Mark → Bool} {Inner Outer : ℕ → Type 0} {tokens : List Token} {i k : ℕ} {Y : Language A} {Z : A → Language V} (s : Stop)
    → Stage X goes_on tokens 0 i k (Then Y Z) → StopsBehind Y ends Inner tokens k s → i < k → Follows ends Z goes_on → ((a : A) → Completes (Z a))
    → ((j : ℕ) → Inner j → Outer j) → ((j : ℕ) → Outer j → Inner j) → Stops X goes_on Outer tokens i s
stops_behind stop.Memory g r h f c up down = record { told = tt; within = tt }
stops_behind {A} {V} {X} {goes_on} {ends} {Inner} {Outer} {tokens} {i} {k} {Y} {Z} (stop.Unexpected j) g r h f c up down =
    let reached : k ≤ j = r.told.0.reached in
    record { told = (so_fails X goes_on (text tokens) (k + 0) i k j Unfit Y Z ends g.so_far r.told.0 (omega arith) f c, r.told.1, λ n deep. r.told.2 n (down n deep)); within = tt }
stops_behind {A} {V} {X} {goes_on} {ends} {Inner} {Outer} {tokens} {i} {k} {Y} {Z} (stop.TooMany j) g r h f c up down =
    let reached : k ≤ j + 1 = r.told.0.reached in
    record { told = (so_fails X goes_on (text tokens) (k + 0) i k j Beyond Y Z ends g.so_far r.told.0 (omega arith) f c, r.told.1, λ n deep. r.told.2 n (down n deep)); within = omega arith }
stops_behind (stop.TooDeep j) g r h f c up down = record { told = (up j r.told.0, r.told.1); within = tt }

-- the last phrase is refused
pub stops_last : {V : Type 0} {X : Language V} {goes_on ends : Mark → Bool} {Inner Outer : ℕ → Type 0} {tokens : List Token} {ahead i k : ℕ} {R : Language V} (s : Stop)
    → Stage X goes_on tokens ahead i k R → Stops R ends Inner tokens k s → ahead ≤ 1 → Includes ends goes_on
    → ((j : ℕ) → Inner j → Outer j) → ((j : ℕ) → Outer j → Inner j) → Stops X goes_on Outer tokens i s
stops_last stop.Memory g r h f up down = record { told = tt; within = tt }
stops_last {V} {X} {goes_on} {ends} {Inner} {Outer} {tokens} {ahead} {i} {k} {R} (stop.Unexpected j) g r h f up down =
    let reached : k ≤ j = r.told.0.reached in
    record { told = (so_stops X goes_on (text tokens) (k + ahead) i k j Unfit R ends g.so_far r.told.0 (omega arith) f, r.told.1, λ n deep. r.told.2 n (down n deep)); within = tt }
stops_last {V} {X} {goes_on} {ends} {Inner} {Outer} {tokens} {ahead} {i} {k} {R} (stop.TooMany j) g r h f up down =
    let reached : k ≤ j = r.within in
    let forward : i ≤ k = g.so_far.forward in
    record { told = (so_stops X goes_on (text tokens) (k + ahead) i k j Beyond R ends g.so_far r.told.0 (omega arith) f, r.told.1, λ n deep. r.told.2 n (down n deep)); within = omega arith }
stops_last (stop.TooDeep j) g r h f up down = record { told = (up j r.told.0, r.told.1); within = tt }

pub not_joined : (level : ℕ) (m : Mark) → operator_of m ≡ None → joins level m ≡ true → ⊥
not_joined level m none joined = let e = rw none at joined in no_true e

-- no operator is this mark
pub after_mark : {A V : Type 0} (level : ℕ) {goes_on : Mark → Bool} {m : Mark} {Z : A → Unit {0} → Language V} → operator_of m ≡ None → Follows (joins level) (λ (a : A). Then (Single m) (Z a)) goes_on
after_mark level {m = m} none = after_one {first = joins level} (λ f b joined is. not_joined level m none (subst (λ (g : Mark). joins level g ≡ true) is joined))

pub ok_map : {A E : Type 0} {P Q : A → Type 0} (r : Result A E) → IfOk r P → ((a : A) → P a → Q a) → IfOk r Q
ok_map (Ok a) h f = f a h
ok_map (Err e) h f = tt

pub err_map : {A E : Type 0} {P Q : E → Type 0} (r : Result A E) → IfErr r P → ((e : E) → P e → Q e) → IfErr r Q
err_map (Ok a) h f = tt
err_map (Err e) h f = f e h

pub none_of : {A : Type 0} (P : Type 0) (Q : A → Type 0) (r : Option A) → MatchOption r P Q → ((x : A) → r ≡ Some x → ⊥) → P
none_of P Q None h f = h
none_of P Q (Some x) h f = absurd (f x refl)

-- a phrase stands for a whole
pub accepts_from : {V : Type 0} {X R : Language V} {goes_on : Mark → Bool} {tokens : List Token} {i n : ℕ} {v : V}
    → SoFar X goes_on (text tokens) (i + 1) i i R → Accepts R goes_on 1 tokens v i n → Accepts X goes_on 1 tokens v i n
accepts_from {V} {X} {R} {goes_on} {tokens} {i} {n} {v} s e =
    let forward : i ≤ n = e.exact.forward in
    record { exact = so_ends X goes_on (text tokens) (i + 1) (n + 1) i i n v R goes_on s e.exact (omega arith) no_more; inside = e.inside }

pub stops_from : {V : Type 0} {X R : Language V} {goes_on : Mark → Bool} {Deep : ℕ → Type 0} {tokens : List Token} {i : ℕ} (s : Stop)
    → SoFar X goes_on (text tokens) (i + 1) i i R → Stops R goes_on Deep tokens i s → Stops X goes_on Deep tokens i s
stops_from s g r = stops_last {ahead = 1} s (record { so_far = g }) r (lit≤ tt) no_more (λ j d. d) (λ j d. d)
