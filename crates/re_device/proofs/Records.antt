-- The entries that a device settles may stand in a record.
use Rattle.std.proofs.Common.{◌≡◌, ◌≤◌, ◌+◌, ◌++◌, ◌∷◌, [], ℕ, List, length, map, refl, sym, ap, subst, ◌∙◌, arith, length-append}
use Rattle.std.specs.List.{All, flat_map}
use Rattle.std.proofs.lemmas.List.{length-map}
use Rattle.std.proofs.lemmas.List.Elements.{All-append, All-cons, All-nil, All-head, All-tail}
use Rattle.re_outside.specs.Frame.{IsRecordLength}
use Rattle.re_record.proofs.LoggedLengths.{record_long, record_some}
use Rattle.re_record.specs.Logs.{HasBytes, HasEntryBytes, IsLoggedOf, IsPlain, IsRecord, IsRecordOf, IsTurn}
use Rattle.re_record.specs.Restoring.{AreAccepted, Opened, after_all, is_refused, opened_after}
use Rattle.re_record.specs.Spellings.{changes_bytes, entry_bytes, logged_bytes, record_bytes, turn_bytes}
use Rattle.re_terms.specs.Admission.{IsEntryOf}
use Rattle.re_terms.specs.Listed.{Listed, plain}
use Rattle.re_terms.specs.Programs.{IsProgram}
use Rattle.re_terms.specs.Shapes.{shape_of}
use Rattle.re_terms.specs.declared.entry.Entry.{Entry}
use Rattle.re_terms.specs.declared.entry.Entry.TheVariants as entry
use Rattle.re_terms.specs.declared.entry.Logged.{Logged}
use Rattle.re_terms.specs.declared.entry.Put.{Put}
use Rattle.re_terms.specs.declared.program.Program.{Program}
use Rattle.re_terms.proofs.ProgramShapes.{program_shape}
use Rattle.re_device.specs.Device.{DeviceMemory}
use Rattle.re_device.specs.Keeping.{IsTaken, IsUnsettled}
use Rattle.re_device.specs.Ready.{MaySettle}

-- ---- an entry without what is reserved in its lists

abbrev pub unreserved_entry : Entry → Entry
unreserved_entry (entry.Turn t) = entry.Turn (record { sets = plain t.sets.items; fires = plain t.fires.items; ops = plain t.ops.items })
unreserved_entry (entry.Merge r) = entry.Merge r

abbrev pub unreserved : Logged → Logged
unreserved l = record { entry = unreserved_entry l.entry; changes = plain l.changes.items }

entry_of_program : (p : Program) (e : Entry) → IsEntryOf p e → IsEntryOf p (unreserved_entry e)
entry_of_program p (entry.Turn t) is = record { sets = is.sets; set_order = is.set_order; fires = is.fires; fire_order = is.fire_order; operations = is.operations; some = is.some; few = is.few }
entry_of_program p (entry.Merge r) is = is

entry_plain : (p : Program) (e : Entry) → IsEntryOf p e → IsPlain (unreserved_entry e)
entry_plain p (entry.Turn t) is = (refl, refl, refl)
entry_plain p (entry.Merge r) is = is.plain

pub logged_of_program : (p : Program) (l : Logged) → IsTaken p l → IsLoggedOf p (unreserved l)
logged_of_program p l is = record {
  entry = entry_of_program p l.entry is.entry;
  changes = record { order = is.changes.order; kinds = is.changes.kinds };
  few = is.few;
  entry_plain = entry_plain p l.entry is.entry;
  changes_plain = refl;
}

-- it does the same, and has the same bytes
entry_after_same : (p : Program) (device : ℕ) (e : Entry) (puts : Listed Put) (o : Opened) → opened_after p device (record { entry = unreserved_entry e; changes = plain puts.items }) o ≡ opened_after p device (record { entry = e; changes = puts }) o
entry_after_same p device (entry.Turn t) puts o = refl
entry_after_same p device (entry.Merge r) puts o = refl

entry_refused_same : (p : Program) (device : ℕ) (e : Entry) (o : Opened) → is_refused p device o (unreserved_entry e) ≡ is_refused p device o e
entry_refused_same p device (entry.Turn t) o = refl
entry_refused_same p device (entry.Merge r) o = refl

entry_bytes_same : (devices : ℕ) (e : Entry) → entry_bytes devices (unreserved_entry e) ≡ entry_bytes devices e
unfolding turn_bytes
entry_bytes_same devices (entry.Turn t) = refl
entry_bytes_same devices (entry.Merge r) = refl

logged_bytes_same : (devices : ℕ) (l : Logged) → logged_bytes devices (unreserved l) ≡ logged_bytes devices l
unfolding logged_bytes
logged_bytes_same devices l = ap (λ (bytes : List ℕ). bytes ++ changes_bytes l.changes.items) (entry_bytes_same devices l.entry)

all_bytes_same : (devices : ℕ) (entries : List Logged) → flat_map (logged_bytes devices) (map unreserved entries) ≡ flat_map (logged_bytes devices) entries
all_bytes_same devices [] = refl
all_bytes_same devices (l ∷ entries) =
    ap (λ (bytes : List ℕ). bytes ++ flat_map (logged_bytes devices) (map unreserved entries)) (logged_bytes_same devices l)
    ∙ ap (λ (bytes : List ℕ). logged_bytes devices l ++ bytes) (all_bytes_same devices entries)

pub record_bytes_same : (devices : ℕ) (entries : List Logged) → record_bytes devices (map unreserved entries) ≡ record_bytes devices entries
unfolding record_bytes
record_bytes_same devices entries =
    ap (λ (n : ℕ). n ∷ flat_map (logged_bytes devices) (map unreserved entries)) (length-map entries unreserved)
    ∙ ap (λ (bytes : List ℕ). length entries ∷ bytes) (all_bytes_same devices entries)

pub after_all_same : (p : Program) (device : ℕ) (entries : List Logged) (o : Opened) → after_all p device (map unreserved entries) o ≡ after_all p device entries o
after_all_same p device [] o = refl
after_all_same p device (l ∷ entries) o =
    ap (after_all p device (map unreserved entries)) (entry_after_same p device l.entry l.changes o)
    ∙ after_all_same p device entries (opened_after p device l o)

pub accepted_same : (p : Program) (device : ℕ) (entries : List Logged) (o : Opened) → AreAccepted p device o entries → AreAccepted p device o (map unreserved entries)
accepted_same p device [] o is = record {}
accepted_same p device (l ∷ entries) o is =
    (entry_refused_same p device l.entry o ∙ is.0, subst (λ (q : Opened). AreAccepted p device q (map unreserved entries)) (sym (entry_after_same p device l.entry l.changes o)) (accepted_same p device entries (opened_after p device l o) is.1))

-- ---- records

entry_has_bytes : (p : Program) (e : Entry) → IsEntryOf p e → HasEntryBytes (shape_of p) e
entry_has_bytes p (entry.Turn t) is = is.few
entry_has_bytes p (entry.Merge r) is = is

has_bytes : (p : Program) (l : Logged) → IsTaken p l → HasBytes (shape_of p) l
has_bytes p l is = record { entry = entry_has_bytes p l.entry is.entry; changes = is.few }

-- what holds of each of these holds of all where one implies the other
pub All-weaker : {T : Type 0} (P Q : T → Type 0) (xs : List T) → ((x : T) → P x → Q x) → All P xs → All Q xs
All-weaker P Q xs f all = λ k d lt. f _ (all k d lt)

All-mapped : (P : Logged → Type 0) (Q : Logged → Type 0) (xs : List Logged) → ((x : Logged) → P x → Q (unreserved x)) → All P xs → All Q (map unreserved xs)
All-mapped P Q [] f all = All-nil Q
All-mapped P Q (x ∷ xs) f all = All-cons Q (unreserved x) (map unreserved xs) (f x (All-head P x xs all)) (All-mapped P Q xs f (All-tail P x xs all))

module _ (p : Program) (is : IsProgram p) (turns : List Logged) (last : Logged) (few : length turns ≤ 8) (unsettled : All (IsUnsettled p) turns) (taken : IsTaken p last) where
  all_taken : All (IsTaken p) (turns ++ last ∷ [])
  all_taken = All-append (IsTaken p) turns (last ∷ []) (All-weaker (IsUnsettled p) (IsTaken p) turns (λ x u. u.taken) unsettled) (All-cons (IsTaken p) last [] taken (All-nil (IsTaken p)))

  count_is : length (turns ++ last ∷ []) ≡ length turns + 1
  count_is = length-append turns (last ∷ [])

  -- they have bytes
  pub settling_record : IsRecord (shape_of p) (turns ++ last ∷ [])
  settling_record = record { some = omega (arith, count_is); few = omega (arith, count_is, few); each = All-weaker (IsTaken p) (HasBytes (shape_of p)) (turns ++ last ∷ []) (has_bytes p) all_taken }

  -- few of them
  pub settling_long : IsRecordLength (length (record_bytes (shape_of p).devices (turns ++ last ∷ [])))
  settling_long =
      let long = record_long (shape_of p) turns last (program_shape p is) few
      (All-weaker (IsUnsettled p) (HasBytes (shape_of p)) turns (λ x u. has_bytes p x u.taken) unsettled)
      (All-weaker (IsUnsettled p) (λ l. IsTurn l.entry) turns (λ x u. u.turn) unsettled)
      (has_bytes p last taken) in
      (record_some (shape_of p).devices (turns ++ last ∷ []), omega (arith, long))

  -- and are a record of the program
  pub settling_of : IsRecordOf p (map unreserved (turns ++ last ∷ []))
  settling_of = record {
    some = omega (arith, count_is, length-map (turns ++ last ∷ []) unreserved);
    few = omega (arith, count_is, few, length-map (turns ++ last ∷ []) unreserved);
    each = All-mapped (IsTaken p) (IsLoggedOf p) (turns ++ last ∷ []) (logged_of_program p) all_taken;
  }

-- ---- the last of several

pub last_of : {T : Type 0} (x : T) (xs : List T) → (front : List T) × (last : T) × (x ∷ xs ≡ front ++ last ∷ [])
last_of x [] = ([], x, refl)
last_of x (y ∷ xs) = let (front, last, is) = last_of y xs in (x ∷ front, last, ap (λ l. x ∷ l) is)

-- unsettled entries may be settled
pub settle_unsettled : (m : DeviceMemory) (x : Logged) (xs : List Logged) → m.unsettled ≡ x ∷ xs → length m.unsettled ≤ 8 → All (IsUnsettled m.program) m.unsettled → AreAccepted m.program m.device m.settled m.unsettled → MaySettle m m.unsettled
settle_unsettled m x xs is few each accepted =
    let (front, last, split) = last_of x xs in
    let whole = is ∙ split in
    let all = subst (All (IsUnsettled m.program)) whole each in
    let long = ap length whole ∙ length-append front (last ∷ []) in
    record {
      turns = front;
      last = last;
      split = whole;
      few = omega (arith, few, long);
      unsettled = All-front (IsUnsettled m.program) front (last ∷ []) all;
      taken = (All-behind (IsUnsettled m.program) front last all).taken;
      accepted = accepted;
    }
  where
    All-front : (P : Logged → Type 0) (xs ys : List Logged) → All P (xs ++ ys) → All P xs
    All-front P [] ys all = All-nil P
    All-front P (x ∷ xs) ys all = All-cons P x xs (All-head P x (xs ++ ys) all) (All-front P xs ys (All-tail P x (xs ++ ys) all))

    All-behind : (P : Logged → Type 0) (xs : List Logged) (y : Logged) → All P (xs ++ y ∷ []) → P y
    All-behind P [] y all = All-head P y [] all
    All-behind P (x ∷ xs) y all = All-behind P xs y (All-tail P x (xs ++ y ∷ []) all)

pub some_of : {T : Type 0} (xs : List T) → (xs ≡ [] → ⊥) → (x : T) × (ys : List T) × (xs ≡ x ∷ ys)
some_of [] some = absurd (some refl)
some_of (x ∷ xs) some = (x, xs, refl)

-- ---- what may be settled

module _ (m : DeviceMemory) (entries : List Logged) (is : IsProgram m.program) (may : MaySettle m entries) where
  pub settles_record : IsRecord (shape_of m.program) entries
  settles_record = subst (IsRecord (shape_of m.program)) (sym may.split) (settling_record m.program is may.turns may.last may.few may.unsettled may.taken)

  pub settles_long : IsRecordLength (length (record_bytes (shape_of m.program).devices entries))
  settles_long = subst (λ (es : List Logged). IsRecordLength (length (record_bytes (shape_of m.program).devices es))) (sym may.split) (settling_long m.program is may.turns may.last may.few may.unsettled may.taken)

  pub settles_of : IsRecordOf m.program (map unreserved entries)
  settles_of = subst (λ (es : List Logged). IsRecordOf m.program (map unreserved es)) (sym may.split) (settling_of m.program is may.turns may.last may.few may.unsettled may.taken)
