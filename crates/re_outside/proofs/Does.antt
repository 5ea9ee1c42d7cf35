-- Steps one behind the other.
use Rattle.std.specs.Prelude.{if◌then◌else◌}
use Rattle.std.proofs.lemmas.Bool.Decides.{nat_tests}
use Rattle.std.proofs.Common.{arith, ℕ, ◌≡◌, ◌+◌, ◌≤◌, List, [], ◌∷◌, ◌++◌, take, drop, sym, ◌∙◌, ap, subst, refl, inl, inr, append_assoc, true, Bool}
use Rattle.std.proofs.lemmas.List.{append-nil, take-append-drop, take-take, drop-take}
use Rattle.re_outside.specs.Listed.{plain}
use Rattle.re_outside.specs.Outside.{said, FaultKind, Input, Output, Disk, is_kind, AreSays, Faults, none, one_fault, input_fault, output_fault, fault_kind, plus, failures, Seen, Counts, Moves, IsOutput, AreOutputs, IsFailure, Fails, DoesWith, Does, Breaks, IsAtEnd}
use Rattle.re_outside.specs.declared.step.Call.{Call}
use Rattle.re_outside.specs.declared.step.Call.TheVariants as kind
use Rattle.re_outside.specs.declared.step.Step.{Step}
use Rattle.re_outside.specs.declared.step.Step.TheVariants.{Write, Cut, Sync, Say, Fail}

-- what is said by two parts
pub said-append : (xs ys : List Step) → said (xs ++ ys) ≡ said xs ++ said ys
said-append [] ys = refl
said-append (Say bytes ∷ xs) ys = ap (λ t. bytes.items ++ t) (said-append xs ys) ∙ sym (append_assoc bytes.items (said xs) (said ys))
said-append (Write device file at bytes ∷ xs) ys = said-append xs ys
said-append (Cut device file length ∷ xs) ys = said-append xs ys
said-append (Sync device file ∷ xs) ys = said-append xs ys
said-append (Fail call device file at bytes content ∷ xs) ys = said-append xs ys

-- steps that touch no file, one part behind the other
pub outputs-append : (xs ys : List Step) → AreOutputs xs → AreOutputs ys → AreOutputs (xs ++ ys)
outputs-append [] ys p q = q
outputs-append (Say bytes ∷ xs) ys p q = outputs-append xs ys p q
outputs-append (Write device file at bytes ∷ xs) ys p q = absurd p
outputs-append (Cut device file length ∷ xs) ys p q = absurd p
outputs-append (Sync device file ∷ xs) ys p q = absurd p
outputs-append (Fail call device file at bytes content ∷ xs) ys p q = (p.0, outputs-append xs ys p.1 q)

-- the failed calls of two parts
pub failures-append : (xs ys : List Step) (k : FaultKind) → failures (xs ++ ys) k ≡ failures xs k + failures ys k
failures-append [] ys k = omega arith
failures-append (Say bytes ∷ xs) ys k = failures-append xs ys k
failures-append (Write device file at bytes ∷ xs) ys k = failures-append xs ys k
failures-append (Cut device file length ∷ xs) ys k = failures-append xs ys k
failures-append (Sync device file ∷ xs) ys k = failures-append xs ys k
failures-append (Fail call device file at bytes content ∷ xs) ys k = omega (arith, failures-append xs ys k)

-- a count over two parts
pub counts-trans : (f g a b c : ℕ) → Counts f a b → Counts g b c → Counts (f + g) a c
counts-trans f g a b c p q = (λ h. omega (arith, p.0, q.0), omega (arith, p.1, q.1))

-- one move behind the other is a move
pub moves-trans : (a b c : Seen) (r r' : List ℕ) (s s' : List Step) (f g : Faults) → Moves a b r s f → Moves b c r' s' g → Moves a c (r ++ r') (s ++ s') (plus f g)
moves-trans a b c r r' s s' f g p q = record {
  told = q.told ∙ p.told;
  left = λ t. p.left t ∙ ap (λ l. r ++ l) (q.left (p.told ∙ t)) ∙ sym (append_assoc r r' c.left);
  start = λ t. q.start (p.told ∙ t) ∙ p.start t;
  trace = λ t. q.trace (p.told ∙ t) ∙ ap (λ l. l ++ s') (p.trace t) ∙ append_assoc a.trace s s';
  counted = λ k. omega (arith, failures-append s s' k, p.counted k, q.counted k);
  counts = λ k. counts-trans (f k) (g k) _ _ _ (p.counts k) (q.counts k);
}

-- a count that nothing raises
pub stays : (n : ℕ) → Counts 0 n n
stays n = (λ h. refl, omega arith)

-- nothing moves
pub moves-nil : (a : Seen) → Moves a a [] [] none
moves-nil a = record {
  told = refl;
  left = λ t. refl;
  start = λ t. refl;
  trace = λ t. sym (append-nil a.trace);
  counted = λ k. omega arith;
  counts = λ k. stays _;
}

-- the same by faults that are as many of each kind
pub moves_as : (a b : Seen) (r : List ℕ) (s : List Step) (f g : Faults) → ((k : FaultKind) → f k ≡ g k) → Moves a b r s f → Moves a b r s g
moves_as a b r s f g e p = record {
  told = p.told;
  left = p.left;
  start = p.start;
  trace = p.trace;
  counted = λ k. subst (λ n. failures s k ≤ n) (e k) (p.counted k);
  counts = λ k. subst (λ n. Counts n (a.faults k) (b.faults k)) (e k) (p.counts k);
}

-- no fault more
pub plus-none : (f : Faults) → plus f none ≡ f
plus-none f = let e : (k : FaultKind) → f k + 0 ≡ f k = λ k. omega arith in λ i k. e k i

-- no fault before
pub none-plus : (f : Faults) → plus none f ≡ f
none-plus f = let e : (k : FaultKind) → 0 + f k ≡ f k = λ k. omega arith in λ i k. e k i

-- faults of three parts
pub plus-assoc : (f g h : Faults) → plus (plus f g) h ≡ plus f (plus g h)
plus-assoc f g h = let e : (k : FaultKind) → f k + g k + h k ≡ f k + (g k + h k) = λ k. omega arith in λ i k. e k i

-- nothing is done
pub does_with-nil : (P : List Step → Type 0) (a : Seen) → P [] → DoesWith P a a [] [] none
does_with-nil P a p = record { steps = []; says = refl; holds = p; moves = moves-nil a }

-- one part behind the other
pub does_with-trans : (P Q R : List Step → Type 0) (a b c : Seen) (r r' t t' : List ℕ) (f g : Faults) → ((xs ys : List Step) → P xs → Q ys → R (xs ++ ys)) → DoesWith P a b r t f → DoesWith Q b c r' t' g → DoesWith R a c (r ++ r') (t ++ t') (plus f g)
does_with-trans P Q R a b c r r' t t' f g joined p q = record {
  steps = p.steps ++ q.steps;
  holds = joined p.steps q.steps p.holds q.holds;
  says = said-append p.steps q.steps ∙ ap (λ l. l ++ said q.steps) p.says ∙ ap (λ l. t ++ l) q.says;
  moves = moves-trans a b c r r' p.steps q.steps f g p.moves q.moves;
}

-- the same in other words
pub does_with_as : (P Q : List Step → Type 0) (a b : Seen) (r t t' : List ℕ) (f f' : Faults) → ((steps : List Step) → P steps → Q steps) → DoesWith P a b r t f → t ≡ t' → ((k : FaultKind) → f k ≡ f' k) → DoesWith Q a b r t' f'
does_with_as P Q a b r t t' f f' weaker p e q = record {
  steps = p.steps;
  says = p.says ∙ e;
  holds = weaker p.steps p.holds;
  moves = moves_as a b r p.steps f f' q p.moves;
}

-- nothing is done
pub does-nil : (a : Seen) → Does a a [] [] none
does-nil a = does_with-nil AreOutputs a tt

-- one part behind the other
pub does-trans : (a b c : Seen) (r r' t t' : List ℕ) (f g : Faults) → Does a b r t f → Does b c r' t' g → Does a c (r ++ r') (t ++ t') (plus f g)
does-trans a b c r r' t t' f g p q = does_with-trans AreOutputs AreOutputs AreOutputs a b c r r' t t' f g outputs-append p q

-- a call took these bytes
pub does_take : (a b : Seen) (r : List ℕ) → Moves a b r [] none → Does a b r [] none
does_take a b r p = record { steps = []; says = refl; holds = tt; moves = p }

-- a call said these bytes
pub does_say : (a b : Seen) (t : List ℕ) → Moves a b [] (Say (plain t) ∷ []) none → Does a b [] t none
does_say a b t p = record { steps = Say (plain t) ∷ []; says = append-nil t; holds = tt; moves = p }

-- the first bytes and those behind them are the first of both together
take_two : (n m : ℕ) (bytes : List ℕ) → take n bytes ++ take m (drop n bytes) ≡ take (n + m) bytes
take_two n m bytes =
    let e : n ≤ n + m = omega arith in
    ap (λ l. l ++ take m (drop n bytes)) (sym (take-take n (n + m) bytes e))
    ∙ ap (λ l. take n (take (n + m) bytes) ++ l) (sym (drop-take n m bytes))
    ∙ take-append-drop n (take (n + m) bytes)

-- text is said behind what was done
pub does_behind : (a b c : Seen) (r t t' : List ℕ) (f g : Faults) → Does a b r t f → Does b c [] t' g → Does a c r (t ++ t') (plus f g)
does_behind a b c r t t' f g p q = subst (λ x. Does a c x (t ++ t') (plus f g)) (append-nil r) (does-trans a b c r [] t t' f g p q)

-- the same without a fault
pub does_well : (a b c : Seen) (r t t' : List ℕ) (f : Faults) → Does a b r t f → Does b c [] t' none → Does a c r (t ++ t') f
does_well a b c r t t' f p q = subst (Does a c r (t ++ t')) (plus-none f) (does_behind a b c r t t' f none p q)

-- bytes are read behind what was done
pub does_read : (a b c : Seen) (r r' t : List ℕ) (f g : Faults) → Does a b r t f → Does b c r' [] g → Does a c (r ++ r') t (plus f g)
does_read a b c r r' t f g p q = subst (λ x. Does a c (r ++ r') x (plus f g)) (append-nil t) (does-trans a b c r r' t [] f g p q)

-- n bytes were said, and m more
pub said_more : (a b c : Seen) (n m : ℕ) (bytes : List ℕ) → Does a b [] (take n bytes) none → Moves b c [] (Say (plain (take m (drop n bytes))) ∷ []) none → Does a c [] (take (n + m) bytes) none
said_more a b c n m bytes p q = subst (λ t. Does a c [] t none) (take_two n m bytes) (does_well a b c [] (take n bytes) (take m (drop n bytes)) none p (does_say b c _ q))

-- bytes were taken, and more behind them
pub moves_read : (a b c : Seen) (r r' : List ℕ) → Moves a b r [] none → Moves b c r' [] none → Moves a c (r ++ r') [] none
moves_read a b c r r' p q = subst (Moves a c (r ++ r') []) (plus-none none) (moves-trans a b c r r' [] [] none none p q)

-- what a failed call adds says nothing
pub failure-said : (call : Call) (steps : List Step) → IsFailure call steps → said steps ≡ []
failure-said call steps p = elim p [ inl e ↦ ap said e | inr e ↦ ap said e ]

-- what a failed call adds touches no file
failure-outputs : (call : Call) (steps : List Step) → IsOutput call → IsFailure call steps → AreOutputs steps
failure-outputs call steps o p = elim p [ inl e ↦ subst AreOutputs (sym e) tt | inr e ↦ subst AreOutputs (sym e) (o, tt) ]

-- a call that takes or says failed, and so nothing was read or said
pub fails_does : (a b : Seen) (call : Call) (f : Faults) → IsOutput call → Fails a b call f → Does a b [] [] f
fails_does a b call f o p = record {
  steps = p.steps;
  says = failure-said call p.steps p.failure;
  holds = failure-outputs call p.steps o p.failure;
  moves = p.moves;
}

-- a failed take reads and says nothing
pub fails_take : (a b : Seen) → Fails a b kind.Take input_fault → Does a b [] [] input_fault
fails_take a b p = fails_does a b kind.Take input_fault tt p

-- a failed say reads and says nothing
pub fails_say : (a b : Seen) → Fails a b kind.Say output_fault → Does a b [] [] output_fault
fails_say a b p = fails_does a b kind.Say output_fault tt p

-- n bytes were said, and then a call failed
pub broke : (a b c : Seen) (n : ℕ) (bytes : List ℕ) → Does a b [] (take n bytes) none → Fails b c kind.Say output_fault → Breaks a c bytes none
broke a b c n bytes p q = record {
  front = take n bytes;
  rest = drop n bytes;
  whole = sym (take-append-drop n bytes);
  before = b;
  does = p;
  failed = q;
}

-- what broke said its front, with one fault more
pub breaks_does : (a b : Seen) (t : List ℕ) (f : Faults) (p : Breaks a b t f) → Does a b [] p.front (plus f output_fault)
breaks_does a b t f p = subst (λ x. Does a b [] x (plus f output_fault)) (append-nil p.front) (does_behind a p.before b [] p.front [] f output_fault p.does (fails_say p.before b p.failed))

-- text is said behind what was done, and breaks off
pub breaks_behind : (a b c : Seen) (t t' : List ℕ) (f g : Faults) → Does a b [] t f → Breaks b c t' g → Breaks a c (t ++ t') (plus f g)
breaks_behind a b c t t' f g p q = record {
  front = t ++ q.front;
  rest = q.rest;
  whole = ap (λ l. t ++ l) q.whole ∙ sym (append_assoc t q.front q.rest);
  before = q.before;
  does = does_behind a b q.before [] t q.front f g p q.does;
  failed = q.failed;
}

-- the end stays the end
pub at_end : (a b : Seen) (t : List ℕ) (f : Faults) → Does a b [] t f → IsAtEnd a → IsAtEnd b
at_end a b t f p e = λ q. sym (p.moves.left (sym p.moves.told ∙ q)) ∙ e (sym p.moves.told ∙ q)

-- the same in other words
pub does_as : (a b : Seen) (r t t' : List ℕ) (f f' : Faults) → Does a b r t f → t ≡ t' → f ≡ f' → Does a b r t' f'
does_as a b r t t' f f' p e q = record {
  steps = p.steps;
  says = p.says ∙ e;
  holds = p.holds;
  moves = subst (Moves a b r p.steps) q p.moves;
}

same_kind : (k : FaultKind) → is_kind k k ≡ true
same_kind Input = refl
same_kind Output = refl
same_kind (Disk d) = grind (arith, nat_tests)

-- steps that touch no file and hold no failure say something each
pub says_alone : (steps : List Step) (f : Faults) → AreOutputs steps → ((k : FaultKind) → failures steps k ≤ f k) → ((k : FaultKind) → f k ≡ 0) → AreSays steps
says_alone [] f o counted zero = tt
says_alone (Say bytes ∷ steps) f o counted zero = says_alone steps f o counted zero
says_alone (Write device file at bytes ∷ steps) f o counted zero = absurd o
says_alone (Cut device file length ∷ steps) f o counted zero = absurd o
says_alone (Sync device file ∷ steps) f o counted zero = absurd o
says_alone (Fail call device file at bytes content ∷ steps) f o counted zero =
    let k = fault_kind call device in
    let one : one_fault k k ≡ 1 = ap (λ (b : Bool). if b then 1 else 0) (same_kind k) in
    absurd (omega (arith, one, counted k, zero k))
