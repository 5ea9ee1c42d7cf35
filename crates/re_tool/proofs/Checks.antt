-- A text that is said line by line.
use Rattle.std.proofs.Common.{arith, ◌≡◌, ◌≤◌, ◌+◌, ◌++◌, [], ℕ, List, take, drop, sym, ◌∙◌, ap, subst, append_assoc}
use Rattle.std.proofs.lemmas.List.{take-append-drop, take-take, drop-take}
use Rattle.re_outside.specs.Outside.{Seen, Does, Breaks, none}
use Rattle.re_outside.proofs.Does.{does_well}

take_two : (n m : ℕ) (text : List ℕ) → take n text ++ take m (drop n text) ≡ take (n + m) text
take_two n m text =
    let e : n ≤ n + m = omega arith in
    ap (λ l. l ++ take m (drop n text)) (sym (take-take n (n + m) text e))
    ∙ ap (λ l. take n (take (n + m) text) ++ l) (sym (drop-take n m text))
    ∙ take-append-drop n (take (n + m) text)

-- a line more is said
pub line_said : (a b c : Seen) (n m k : ℕ) (text : List ℕ) → k ≡ m → Does a b [] (take n text) none → Does b c [] (take k (drop n text)) none → Does a c [] (take (n + m) text) none
line_said a b c n m k text e p q = subst (λ t. Does a c [] t none) (ap (λ i. take n text ++ take i (drop n text)) e ∙ take_two n m text) (does_well a b c [] (take n text) (take k (drop n text)) none p q)

-- a line breaks off
pub line_broke : (a b c : Seen) (n k : ℕ) (text : List ℕ) → Does a b [] (take n text) none → Breaks b c (take k (drop n text)) none → Breaks a c text none
line_broke a b c n k text p q = record {
  front = take n text ++ q.front;
  rest = q.rest ++ drop k (drop n text);
  whole = whole_text;
  before = q.before;
  does = does_well a b q.before [] (take n text) q.front none p q.does;
  failed = q.failed;
}
  where
    whole_text : text ≡ (take n text ++ q.front) ++ (q.rest ++ drop k (drop n text))
    whole_text =
        sym (take-append-drop n text)
        ∙ ap (λ l. take n text ++ l) (sym (take-append-drop k (drop n text)) ∙ ap (λ l. l ++ drop k (drop n text)) q.whole)
        ∙ simp append_assoc
