-- What is kept of a line, byte by byte.
use Rattle.std.proofs.Common.{arith, ◌≡◌, ◌≤◌, ◌<◌, ◌-◌, ◌+◌, ◌++◌, ◌∷◌, [], ℕ, List, length, take, min, sym, ◌∙◌, ap, refl, zero, suc, Bool, true, false, ◌⊎◌, inl, inr, length-take}
use Rattle.std.specs.Prelude.{◌==◌, slice_index_or, if◌then◌else◌, codes}
use Rattle.std.proofs.lemmas.Bool.{cases_lt}
use Rattle.std.proofs.lemmas.List.{take_all}
use Rattle.std.proofs.Math.Seq.{take-append-add}
use Rattle.std.proofs.lemmas.Slice.Eq.{bytes_eq-Decides}
use Rattle.re_tool.specs.Part.{is_separator}
use Rattle.re_tool.specs.Lines.{without_return}

-- what is cut off of the front changes nothing of what is kept
pub take-take-append : (n : ℕ) (xs ys : List ℕ) → take n (take n xs ++ ys) ≡ take n (xs ++ ys)
take-take-append zero xs ys = refl
take-take-append (suc n) [] ys = refl
take-take-append (suc n) (x ∷ xs) ys = ap (λ l. x ∷ l) (take-take-append n xs ys)

take-cut : (n m : ℕ) (ys zs : List ℕ) → n ≤ m → take n (take m ys ++ zs) ≡ take n (ys ++ zs)
take-cut zero m ys zs h = refl
take-cut (suc n) zero ys zs h = absurd (omega arith)
take-cut (suc n) (suc m) [] zs h = refl
take-cut (suc n) (suc m) (y ∷ ys) zs h = ap (λ l. y ∷ l) (take-cut n m ys zs (omega arith))

-- what is cut off within changes nothing of what is kept, where as much is kept within
pub take-cut_within : (n m : ℕ) (xs ys zs : List ℕ) → n ≤ m → take n (xs ++ (take m ys ++ zs)) ≡ take n (xs ++ (ys ++ zs))
take-cut_within n m [] ys zs h = take-cut n m ys zs h
take-cut_within zero m (x ∷ xs) ys zs h = refl
take-cut_within (suc n) m (x ∷ xs) ys zs h = ap (λ l. x ∷ l) (take-cut_within n m xs ys zs (omega arith))

-- the room behind what is kept is filled
pub take-room : (n : ℕ) (xs ys : List ℕ) → length xs ≤ n → take n (xs ++ ys) ≡ xs ++ take (n - length xs) ys
take-room n xs ys h = ap (λ k. take k (xs ++ ys)) (omega arith) ∙ take-append-add xs ys (n - length xs)

take_cases : (a : ℕ) (ys : List ℕ) → (a < length ys) ⊎ (length ys ≤ a) → take (min a (length ys)) ys ≡ take a ys
take_cases a ys (inl h) = ap (λ k. take k ys) (omega arith)
take_cases a ys (inr h) = take_all (min a (length ys)) ys (omega arith) ∙ sym (take_all a ys h)

-- as many bytes as there is room for
pub append-room : (n fits : ℕ) (xs ys : List ℕ) → length xs ≤ n → fits ≡ min (n - length xs) (length ys) → xs ++ take fits ys ≡ take n (xs ++ ys)
append-room n fits xs ys h e = ap (λ l. xs ++ l) (ap (λ k. take k ys) e ∙ take_cases (n - length xs) ys (cases_lt (n - length xs) (length ys))) ∙ sym (take-room n xs ys h)

-- without the CR at most one byte is gone
pub length-without_return : (line : List ℕ) → length line ≤ length (without_return line) + 1
length-without_return line =
    elim (slice_index_or line (length line - 1) 0 == 13) as (λ v. length line ≤ length (if v then take (length line - 1) line else line) + 1)
    [ true ↦ simp length-take (omega arith) | false ↦ omega arith ]

false_unless : (b : Bool) → (b ≡ true → ⊥) → b ≡ false
false_unless true h = absurd (h refl)
false_unless false h = refl

-- a line of over 3 bytes is no separator
separator-long : (line : List ℕ) → 3 < length line → is_separator line ≡ false
separator-long line h = false_unless (is_separator line) (λ e. absurd (omega (arith, ap length ((bytes_eq-Decides line (codes "---")).0 e))))

separator_cases : (n : ℕ) (line : List ℕ) → 4 < n → (n < length line) ⊎ (length line ≤ n) → is_separator (without_return (take n line)) ≡ is_separator (without_return line)
separator_cases n line h (inr k) = ap (λ l. is_separator (without_return l)) (take_all n line k)
separator_cases n line h (inl k) =
    separator-long (without_return (take n line)) (omega (arith, length-without_return (take n line), length-take n line))
    ∙ sym (separator-long (without_return line) (omega (arith, length-without_return line)))

-- what is kept of a line is a separator where the line is one
pub separator-kept : (n : ℕ) (line : List ℕ) → 4 < n → is_separator (without_return (take n line)) ≡ is_separator (without_return line)
separator-kept n line h = separator_cases n line h (cases_lt n (length line))

last_cases : (n : ℕ) (line : List ℕ) → 4 < n → (n < length line) ⊎ (length line ≤ n) → is_separator (take n line) ≡ is_separator line
last_cases n line h (inr k) = ap is_separator (take_all n line k)
last_cases n line h (inl k) = separator-long (take n line) (omega (arith, length-take n line)) ∙ sym (separator-long line (omega arith))

-- the same of a last line, which keeps its CR
pub separator-kept_last : (n : ℕ) (line : List ℕ) → 4 < n → is_separator (take n line) ≡ is_separator line
separator-kept_last n line h = last_cases n line h (cases_lt n (length line))
