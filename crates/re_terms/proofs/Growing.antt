-- What a device has taken in, and the parts of a log, where the log grows and where a packet is merged.
use Rattle.std.proofs.Common.{◌≡◌, ◌≢◌, ℕ, ◌+◌, ◌≤◌, List, [], ◌∷◌, ◌++◌, refl, sym, ap, ◌∙◌, subst, arith, inl, inr, length, append_assoc}
use Rattle.std.proofs.lemmas.Bool.{cases_lt}
use Rattle.std.proofs.lemmas.List.{append-nil}
use Rattle.std.specs.Prelude.{slice_index}
use Rattle.re_terms.specs.declared.replicated.Dot.{Dot}
use Rattle.re_terms.specs.declared.replicated.Shape.{Shape}
use Rattle.re_terms.specs.Entries.{PlainEntry, Turn, Merge, taken_after, updates_of, run_taken, run_updates}
use Rattle.re_terms.specs.JointLogs.{Further, all_of, IsOneOf, NoneOf, Follows, AllFollow}
use Rattle.re_terms.specs.Parts.{IsPart, AreParts, Fits, AllFit}
use Rattle.re_terms.specs.TakenIn.{IsTakenIn}
use Rattle.re_terms.specs.UpdateSets.{SameUpdates, union}
use Rattle.re_terms.specs.UpdateStates.{join_states, state_of_updates}
use Rattle.re_terms.specs.Updates.{Update, IsCausalLog, IsCausallyClosed, IsIn, count_of, covered, greatest_number, vector_of}
use Rattle.re_terms.specs.Vectors.{join_vectors}
use Rattle.re_terms.proofs.Arrays.{length-greater_each}
use Rattle.re_terms.proofs.Dots.{vector_back}
use Rattle.re_terms.proofs.Joint.{closed_grown, count-append, count-none, covered_grown}
use Rattle.re_terms.proofs.Logs.{IsIn-cases, at-greater_each, closed_join, covers-from, length-by_device, numbered_of}
use Rattle.re_terms.proofs.Members.{vector_alike}
use Rattle.re_terms.proofs.TakenIns.{taken_made, own_device}
use Rattle.re_terms.proofs.Unions.{union_join, union_same}

places : (us : List Update) → length (vector_of us) ≡ 16
unfolding vector_of
places us = length-by_device (λ d. greatest_number d us)

-- ---- parts

pub part_of : (log us : List Update) (device : ℕ) → IsTakenIn log device us → IsPart log us
part_of log us device taken = record { closed = taken.closed; same = taken.same }

pub part_grown : (log more us : List Update) → IsCausalLog (log ++ more) → IsPart log us → IsPart (log ++ more) us
part_grown log more us causal part = record {
  closed = closed_grown log more (vector_of us) part.closed;
  same = subst (SameUpdates us) (sym (covered_grown log more (vector_of us) causal part.closed)) part.same;
}

pub parts_grown : (log more : List Update) (packets : List (List Update)) → IsCausalLog (log ++ more) → AreParts log packets → AreParts (log ++ more) packets
parts_grown log more [] causal h = tt
parts_grown log more (us ∷ packets) causal h = (part_grown log more us causal h.0, parts_grown log more packets causal h.1)

pub parts_more : (log : List Update) (packets : List (List Update)) (us : List Update) → AreParts log packets → IsPart log us → AreParts log (packets ++ us ∷ [])
parts_more log [] us parts part = (part, tt)
parts_more log (p ∷ packets) us parts part = (parts.0, parts_more log packets us parts.1 part)

-- ---- a merge

-- a causally closed vector has no number of a device above its count
at_most_count : (log : List Update) (v : List ℕ) (d : ℕ) → IsCausalLog log → IsCausallyClosed log v → slice_index v d ≤ count_of d log
at_most_count log v d causal closed = elim (cases_lt 0 (slice_index v d)) [
  | inl some ↦
      let q : Dot = record { device = d; number = slice_index v d } in
      let c = closed q (covers-from v q some (omega arith)) in
      let hi = (numbered_of log causal).high c.0 c.1 in
      let n : c.0.dot.number ≡ slice_index v d = ap (λ x. x.number) c.2 in
      let m : count_of c.0.dot.device log ≡ count_of d log = ap (λ x. count_of x.device log) c.2 in
      omega arith
  | inr none ↦ omega arith
]

module _ (log us vs : List Update) (device : ℕ) (taken : IsTakenIn log device us) (part : IsPart log vs) where
  abbrev v : List ℕ
  v = vector_of us

  abbrev w : List ℕ
  w = vector_of vs

  both : SameUpdates (union us vs) (covered log (join_vectors v w))
  both = union_same log us vs v w taken.causal taken.closed taken.same part.same

  closed_both : IsCausallyClosed log (join_vectors v w)
  closed_both = closed_join log v w taken.closed part.closed

  merged_vector : vector_of (union us vs) ≡ join_vectors v w
  merged_vector = vector_alike (union us vs) (covered log (join_vectors v w)) both.to both.back ∙ vector_back log (join_vectors v w) taken.causal closed_both (length-greater_each v w (places us ∙ sym (places vs)) ∙ places us)

  pub merged_taken : IsTakenIn log device (union us vs)
  merged_taken =
      let vector = sym merged_vector in
      record {
        numbered = taken.numbered;
        causal = taken.causal;
        closed = subst (IsCausallyClosed log) vector closed_both;
        same = subst (λ l. SameUpdates (union us vs) (covered log l)) vector both;
        own = subst (λ l. slice_index l device ≡ count_of device log) vector (let a = at_most_count log w device taken.causal part.closed in let o = taken.own in omega (arith, at-greater_each v w device));
      }

  pub merged_state : (shape : Shape) → state_of_updates shape (union us vs) ≡ join_states (state_of_updates shape us) (state_of_updates shape vs)
  merged_state shape = sym (union_join shape log us vs v w taken.causal taken.closed part.closed taken.same part.same)

-- ---- the log grows by updates of other devices

pub taken_grown : (log more us : List Update) (device : ℕ) → IsCausalLog (log ++ more) → ((u : Update) → IsIn u more → u.dot.device ≢ device) → IsTakenIn log device us → IsTakenIn (log ++ more) device us
taken_grown log more us device causal others taken =
    let part = part_grown log more us causal (part_of log us device taken) in
    record {
      numbered = taken.numbered;
      causal = causal;
      closed = part.closed;
      same = part.same;
      own = let c = count-append device log more in let z = count-none device more others in let o = taken.own in omega arith;
    }

-- ---- entries

pub fits_grown : (log more : List Update) → IsCausalLog (log ++ more) → (e : PlainEntry) → Fits log e → Fits (log ++ more) e
fits_grown log more causal (Turn sets fires operations) h = tt
fits_grown log more causal (Merge packet) h = part_grown log more packet causal h

pub all_grown : (log more : List Update) → IsCausalLog (log ++ more) → (entries : List PlainEntry) → AllFit log entries → AllFit (log ++ more) entries
all_grown log more causal [] h = tt
all_grown log more causal (e ∷ entries) h = (fits_grown log more causal e h.0, all_grown log more causal entries h.1)

pub all_append : (log : List Update) (xs ys : List PlainEntry) → AllFit log xs → AllFit log ys → AllFit log (xs ++ ys)
all_append log [] ys a b = b
all_append log (x ∷ xs) ys a b = (a.0, all_append log xs ys a.1 b)

pub run_taken-append : (d : ℕ) (us : List Update) (xs ys : List PlainEntry) → run_taken d us (xs ++ ys) ≡ run_taken d (run_taken d us xs) ys
run_taken-append d us [] ys = refl
run_taken-append d us (x ∷ xs) ys = run_taken-append d (taken_after d us x) xs ys

entry_taken : (log us : List Update) (d : ℕ) (e : PlainEntry) → IsTakenIn log d us → Fits log e → IsTakenIn (log ++ updates_of d us e) d (taken_after d us e)
entry_taken log us d (Turn sets fires operations) taken fits = taken_made log us d operations taken
entry_taken log us d (Merge packet) taken fits = subst (λ l. IsTakenIn l d (taken_after d us (Merge packet))) (sym (append-nil log)) (merged_taken log us packet d taken fits)

pub entries_taken : (log us : List Update) (d : ℕ) (entries : List PlainEntry) → IsTakenIn log d us → AllFit log entries → IsTakenIn (log ++ run_updates d us entries) d (run_taken d us entries)
entries_taken log us d [] taken fits = subst (λ l. IsTakenIn l d us) (sym (append-nil log)) taken
entries_taken log us d (e ∷ entries) taken fits =
    let one = entry_taken log us d e taken fits.0 in
    subst (λ l. IsTakenIn l d (run_taken d (taken_after d us e) entries)) (append_assoc log (updates_of d us e) (run_updates d (taken_after d us e) entries))
    (entries_taken (log ++ updates_of d us e) (taken_after d us e) d entries one (all_grown log (updates_of d us e) one.causal entries fits.1))

entry_own : (us : List Update) (d : ℕ) (e : PlainEntry) (u : Update) → IsIn u (updates_of d us e) → u.dot.device ≡ d
entry_own us d (Turn sets fires operations) u h = own_device us d operations u h
entry_own us d (Merge packet) u h = absurd h

pub entries_own : (us : List Update) (d : ℕ) (entries : List PlainEntry) (u : Update) → IsIn u (run_updates d us entries) → u.dot.device ≡ d
entries_own us d [] u h = absurd h
entries_own us d (e ∷ entries) u h = elim (IsIn-cases u (updates_of d us e) (run_updates d (taken_after d us e) entries) h) [
  | inl a ↦ entry_own us d e u a
  | inr b ↦ entries_own (taken_after d us e) d entries u b
]

pub entries_follow : (log us : List Update) (d : ℕ) (entries : List PlainEntry) → IsTakenIn log d us → AllFit log entries → Follows log (record { device = d; updates = run_updates d us entries })
entries_follow log us d entries taken fits = record { own = entries_own us d entries; causal = (entries_taken log us d entries taken fits).causal }

-- ---- how many updates of a device a joint log has

count_all-none : (log : List Update) (d : ℕ) (xs : List Further) → AllFollow log xs → NoneOf d xs → count_of d (all_of xs) ≡ 0
count_all-none log d [] follow none = count-none d [] (λ u h. absurd h)
count_all-none log d (x ∷ xs) follow none =
    let a = count-append d x.updates (all_of xs) in
    let b = count-none d x.updates (λ u h e. none.0 (sym (follow.0.own u h) ∙ e)) in
    let c = count_all-none log d xs follow.2 none.1 in
    omega arith

count_all : (log : List Update) (xs : List Further) (x : Further) → AllFollow log xs → IsOneOf x xs → count_of x.device (all_of xs) ≡ count_of x.device x.updates
count_all log [] x follow one = absurd one
count_all log (y ∷ xs) x follow (inl e) =
    subst (λ z. count_of z.device (y.updates ++ all_of xs) ≡ count_of z.device z.updates) e
    (let a = count-append y.device y.updates (all_of xs) in let b = count_all-none log y.device xs follow.2 follow.1 in omega arith)
count_all log (y ∷ xs) x follow (inr one) =
    let a = count-append x.device y.updates (all_of xs) in
    let b = count-none x.device y.updates (λ u h e. other xs follow.1 one (sym (follow.0.own u h) ∙ e)) in
    let c = count_all log xs x follow.2 one in
    omega arith
  where
    other : (zs : List Further) → NoneOf y.device zs → IsOneOf x zs → y.device ≢ x.device
    other [] n o = absurd o
    other (z ∷ zs) n (inl e) = λ k. n.0 (ap (λ q. q.device) e ∙ sym k)
    other (z ∷ zs) n (inr o) = other zs n.1 o

pub joint_count : (log : List Update) (xs : List Further) (x : Further) → AllFollow log xs → IsOneOf x xs → count_of x.device (log ++ all_of xs) ≡ count_of x.device log + count_of x.device x.updates
joint_count log xs x follow one = let a = count-append x.device log (all_of xs) in let b = count_all log xs x follow one in omega arith

pub joint_count_none : (log : List Update) (xs : List Further) (d : ℕ) → AllFollow log xs → NoneOf d xs → count_of d (log ++ all_of xs) ≡ count_of d log
joint_count_none log xs d follow none = let a = count-append d log (all_of xs) in let b = count_all-none log d xs follow none in omega arith
