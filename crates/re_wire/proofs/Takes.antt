-- What a reader took: the bytes from one place up to another. A number that is read is the number that was written, and what was written is read again.
use Rattle.std.proofs.Common.{◌≡◌, ℕ, ◌+◌, ◌%◌, ◌^◌, ◌<◌, ◌≤◌, Bool, true, false, cond, ltb, List, [], ◌∷◌, ◌++◌, length, take, drop, Result, Ok, Err, refl, sym, ap, subst, ◌∙◌, append_assoc, arith, inl, inr}
use Rattle.std.specs.Int.{Width, w8, w16, w32, w64, byte_len, from_be_bytes, to_be_bytes}
use Rattle.std.proofs.lemmas.Bool.{cases_lt, ltb-true, ltb-false, lt-ltb, le-ltb}
use Rattle.std.proofs.lemmas.List.{take_at, drop_at, drop-drop, take-append-drop, length-append, length-drop, length-take, get_or-drop, get_or-take, get_or_past}
use Rattle.std.proofs.lemmas.Nat.{be_bytes_2, be_bytes_4, be_bytes_8, from_be_bytes-to_be_bytes_2, from_be_bytes-to_be_bytes_4, from_be_bytes-to_be_bytes_8}
use Rattle.re_wire.proofs.Bytes.{IsBytes}
use Rattle.re_wire.specs.Reading.{◌>>=◌, number_at, below_at}

IsBytes-drop : (n : ℕ) (bytes : List ℕ) → IsBytes bytes → IsBytes (drop n bytes)
IsBytes-drop n bytes h i = rw get_or-drop (h (n + i))

IsBytes-take : (n : ℕ) (bytes : List ℕ) → IsBytes bytes → IsBytes (take n bytes)
IsBytes-take n bytes h i =
    elim (cases_lt i n) [
      | inl lt ↦ rw (get_or-take n bytes i 0 lt) (h i)
      | inr le ↦ rw (get_or_past (take n bytes) i 0 (omega (arith, length-take n bytes))) (omega arith)
    ]

-- the value of a step that did not fail
pub bind_ok : {A B : Type 0} (r : Result A ℕ) (f : A → Result B ℕ) (y : B) → (r >>= f) ≡ Ok y → (x : A) × (r ≡ Ok x) × (f x ≡ Ok y)
bind_ok (Ok x) f y e = (x, refl, e)
bind_ok (Err at) f y e = absurd cc

-- a test for a refusal that did not refuse
pub unless_ok : {A : Type 0} (b : Bool) (place : ℕ) (r : Result A ℕ) (y : A) → cond b (Err place) r ≡ Ok y → (b ≡ false) × (r ≡ Ok y)
unless_ok true place r y e = absurd cc
unless_ok false place r y e = (refl, e)

-- a test that had to hold
pub when_ok : {A : Type 0} (b : Bool) (place : ℕ) (r : Result A ℕ) (y : A) → cond b r (Err place) ≡ Ok y → (b ≡ true) × (r ≡ Ok y)
when_ok true place r y e = (refl, e)
when_ok false place r y e = absurd cc

abbrev pub done : {A : Type 0} → A → Result A ℕ
done x = Ok x

pub ok_is : {A : Type 0} (x y : A) → done x ≡ done y → x ≡ y
ok_is x y e = cc

-- ---- what stands from a place up to another

pub record Takes (bytes : List ℕ) (at : ℕ) (text : List ℕ) (place : ℕ) : Type 0 where
  pub parts : drop at bytes ≡ text ++ drop place bytes
  pub place_is : place ≡ at + length text
  pub bounded : place ≤ length bytes

pub Takes-none : (bytes : List ℕ) (at : ℕ) → at ≤ length bytes → Takes bytes at [] at
Takes-none bytes at le = record { parts = refl; place_is = omega arith; bounded = le }

pub Takes-then : (bytes : List ℕ) (at : ℕ) (x : List ℕ) (mid : ℕ) (y : List ℕ) (place : ℕ) → Takes bytes at x mid → Takes bytes mid y place → Takes bytes at (x ++ y) place
Takes-then bytes at x mid y place p q =
    record {
      parts = p.parts ∙ ap (λ (t : List ℕ). x ++ t) q.parts ∙ sym (append_assoc x y (drop place bytes));
      place_is = omega (arith, p.place_is, q.place_is, length-append x y);
      bounded = q.bounded;
    }

pub Takes-second : (bytes : List ℕ) (at : ℕ) (x y : List ℕ) (place : ℕ) → Takes bytes at (x ++ y) place → Takes bytes (at + length x) y place
Takes-second bytes at x y place t =
    record {
      parts = sym (drop-drop (length x) at bytes) ∙ ap (λ (l : List ℕ). drop (length x) l) (t.parts ∙ append_assoc x y (drop place bytes)) ∙ drop_at x (y ++ drop place bytes) (length x) refl;
      place_is = omega (arith, t.place_is, length-append x y);
      bounded = t.bounded;
    }

pub Takes-first : (bytes : List ℕ) (at : ℕ) (x y : List ℕ) (place : ℕ) → Takes bytes at (x ++ y) place → Takes bytes at x (at + length x)
Takes-first bytes at x y place t =
    record {
      parts = t.parts ∙ append_assoc x y (drop place bytes) ∙ ap (λ (l : List ℕ). x ++ l) (sym (Takes-second bytes at x y place t).parts);
      place_is = refl;
      bounded = omega (arith, t.place_is, t.bounded, length-append x y);
    }

-- what stands before others
pub Takes-from : (bytes : List ℕ) (at : ℕ) (text rest : List ℕ) → at ≤ length bytes → drop at bytes ≡ text ++ rest → Takes bytes at text (at + length text)
Takes-from bytes at text rest le e =
    let behind : drop (at + length text) bytes ≡ rest = sym (drop-drop (length text) at bytes) ∙ ap (λ (l : List ℕ). drop (length text) l) e ∙ drop_at text rest (length text) refl in
    record {
      parts = e ∙ ap (λ (l : List ℕ). text ++ l) (sym behind);
      place_is = refl;
      bounded = omega (arith, length-drop at bytes, length-append text rest, ap (λ (l : List ℕ). length l) e);
    }

-- what stands between others
pub Takes-between : (front text rest : List ℕ) → Takes ((front ++ text) ++ rest) (length front) text (length front + length text)
Takes-between front text rest =
    Takes-from ((front ++ text) ++ rest) (length front) text rest
    (omega (arith, length-append (front ++ text) rest, length-append front text))
    (ap (λ (l : List ℕ). drop (length front) l) (append_assoc front text rest) ∙ drop_at front (text ++ rest) (length front) refl)

-- ---- numbers

pub record IsWide (w : Width) (limit : ℕ) : Type 0 where
  pub len : (n : ℕ) → length (to_be_bytes w n) ≡ byte_len w
  pub back : (bytes : List ℕ) → length bytes ≡ byte_len w → IsBytes bytes → to_be_bytes w (from_be_bytes w bytes) ≡ bytes
  pub again : (n : ℕ) → n < limit → from_be_bytes w (to_be_bytes w n) ≡ n
  pub below : (bytes : List ℕ) → IsBytes bytes → from_be_bytes w bytes < limit

-- a byte is a number of its own
pub byte_is : (n : ℕ) → n < 256 → to_be_bytes w8 n ≡ n ∷ []
byte_is n lt = let e : n % 256 ≡ n = omega arith in ap (λ (m : ℕ). m ∷ []) e

one_byte : (bytes : List ℕ) → length bytes ≡ 1 → IsBytes bytes → to_be_bytes w8 (from_be_bytes w8 bytes) ≡ bytes
one_byte [] len fits = absurd (omega arith)
one_byte (b ∷ []) len fits = let lt : b < 256 = fits 0 in byte_is b lt
one_byte (b ∷ c ∷ rest) len fits = absurd (omega arith)

pub wide8 : IsWide w8 (2 ^ 8)
wide8 = record {
  len = λ n. refl;
  back = one_byte;
  again = λ n lt. omega arith;
  below = λ bytes fits. omega (arith, fits 0);
}

pub wide16 : IsWide w16 (2 ^ 16)
wide16 = record {
  len = λ n. refl;
  back = λ bytes len fits. be_bytes_2 bytes _ len fits refl;
  again = λ n lt. from_be_bytes-to_be_bytes_2 n lt;
  below = λ bytes fits. omega (arith, fits 0, fits 1);
}

pub wide32 : IsWide w32 (2 ^ 32)
wide32 = record {
  len = λ n. refl;
  back = λ bytes len fits. be_bytes_4 bytes _ len fits refl;
  again = λ n lt. from_be_bytes-to_be_bytes_4 n lt;
  below = λ bytes fits. omega (arith, fits 0, fits 1, fits 2, fits 3);
}

pub wide64 : IsWide w64 (2 ^ 64)
wide64 = record {
  len = λ n. refl;
  back = λ bytes len fits. be_bytes_8 bytes _ len fits refl;
  again = λ n lt. from_be_bytes-to_be_bytes_8 n lt;
  below = λ bytes fits. omega (arith, fits 0, fits 1, fits 2, fits 3, fits 4, fits 5, fits 6, fits 7);
}

pub number_takes : (w : Width) (limit : ℕ) (wide : IsWide w limit) (bytes : List ℕ) (at : ℕ) (x : ℕ × ℕ) → IsBytes bytes → number_at w bytes at ≡ Ok x → Takes bytes at (to_be_bytes w x.0) x.1 × (x.0 < limit)
number_takes w limit wide bytes at x fits e =
    let part = take (byte_len w) (drop at bytes) in
    let g = unless_ok (ltb (length bytes) (at + byte_len w)) at (Ok (from_be_bytes w part, at + byte_len w)) x e in
    let long : at + byte_len w ≤ length bytes = ltb-false _ _ g.0 in
    let len : length part ≡ byte_len w = omega (arith, length-take (byte_len w) (drop at bytes), length-drop at bytes) in
    let bytewise : IsBytes part = IsBytes-take (byte_len w) (drop at bytes) (IsBytes-drop at bytes fits) in
    let front : to_be_bytes w (from_be_bytes w part) ≡ part = wide.back part len bytewise in
    let taken : Takes bytes at (to_be_bytes w (from_be_bytes w part)) (at + byte_len w) = record {
      parts = sym (take-append-drop (byte_len w) (drop at bytes)) ∙ (λ i. sym front i ++ drop-drop (byte_len w) at bytes i);
      place_is = omega (arith, wide.len (from_be_bytes w part));
      bounded = long;
    } in
    subst (λ (y : ℕ × ℕ). Takes bytes at (to_be_bytes w y.0) y.1 × (y.0 < limit)) (ok_is (from_be_bytes w part, at + byte_len w) x g.1) (taken, wide.below part bytewise)

pub number_again : (w : Width) (limit : ℕ) (wide : IsWide w limit) (bytes : List ℕ) (at n place : ℕ) → n < limit → Takes bytes at (to_be_bytes w n) place → number_at w bytes at ≡ Ok (n, place)
number_again w limit wide bytes at n place lt t =
    let end : place ≡ at + byte_len w = omega (arith, t.place_is, wide.len n) in
    let long : ltb (length bytes) (at + byte_len w) ≡ false = le-ltb _ _ (omega (arith, t.bounded)) in
    let part : take (byte_len w) (drop at bytes) ≡ to_be_bytes w n = ap (λ (l : List ℕ). take (byte_len w) l) t.parts ∙ take_at (to_be_bytes w n) (drop place bytes) (byte_len w) (wide.len n) in
    rw (long, part, wide.again n lt, ← end) refl

pub below_takes : (w : Width) (limit : ℕ) (wide : IsWide w limit) (bound : ℕ) (bytes : List ℕ) (at : ℕ) (x : ℕ × ℕ) → IsBytes bytes → below_at w bound bytes at ≡ Ok x → Takes bytes at (to_be_bytes w x.0) x.1 × (x.0 < bound)
unfolding below_at
below_takes w limit wide bound bytes at x fits e =
    let b = bind_ok (number_at w bytes at) (λ number. cond (ltb number.0 bound) (Ok number) (Err at)) x e in
    let g = when_ok (ltb b.0.0 bound) at (Ok b.0) x b.2 in
    let t = number_takes w limit wide bytes at b.0 fits b.1 in
    subst (λ (y : ℕ × ℕ). Takes bytes at (to_be_bytes w y.0) y.1 × (y.0 < bound)) (ok_is b.0 x g.1) (t.0, ltb-true _ _ g.0)

pub below_again : (w : Width) (limit : ℕ) (wide : IsWide w limit) (bound : ℕ) (bytes : List ℕ) (at n place : ℕ) → n < limit → n < bound → Takes bytes at (to_be_bytes w n) place → below_at w bound bytes at ≡ Ok (n, place)
unfolding below_at
below_again w limit wide bound bytes at n place lt small t =
    let test : ltb n bound ≡ true = lt-ltb _ _ small in
    rw (number_again w limit wide bytes at n place lt t, test) refl
