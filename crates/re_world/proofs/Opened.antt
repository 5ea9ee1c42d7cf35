-- One device more is opened behind others.
use Rattle.std.proofs.Common.{◌≡◌, ◌⊎◌, inl, inr, ◌<◌, ◌≤◌, ◌+◌, ◌-◌, ◌++◌, ◌∷◌, [], ℕ, zero, suc, Bool, true, false, List, Option, Some, Result, Ok, Err, length, refl, sym, ap, subst, ◌∙◌, arith}
use Rattle.std.specs.Prelude.{◌≢◌, ◌==◌, if◌then◌else◌, OnOk, option_and_then, slice_get}
use Rattle.std.specs.Result.{IsErrAnd}
use Rattle.std.proofs.lemmas.Bool.{cases_lt}
use Rattle.std.proofs.lemmas.List.{length-append}
use Rattle.std.proofs.lemmas.Option.{slice_get_past}
use Rattle.std.proofs.lemmas.Bool.Decides.{eqb_tells}
use Rattle.re_compact.specs.declared.fault.OpenFault.{OpenFault}
use Rattle.re_compact.specs.declared.fault.OpenFault.TheVariants.{BadStore, Disk, Memory, OtherProgram}
use Rattle.re_outside.proofs.Elsewhere as elsewhere
use Rattle.re_outside.proofs.Moments.{at_end, join, no_step, of_outside}
use Rattle.re_outside.specs.Frame.{is_blank}
use Rattle.re_outside.specs.Moment.{IsKept, Throughout}
use Rattle.re_outside.specs.Outside as counts
use Rattle.re_outside.specs.Outside.{FaultKind, Faults, Rose, Seen, content_in, is_kind}
use Rattle.re_outside.specs.Port.{Rest, disk_faults, other_faults, past_in, rest_in}
use Rattle.re_outside.specs.Trace.{Past, IsBefore, IsCrashImageAt, as_device, content_of}
use Rattle.re_record.specs.Restoring.{unopened}
use Rattle.re_record.specs.Stores.{HasStore, OpensTo, Stored}
use Rattle.re_restore.specs.Opening.{AreBlank, HasRestoreCause, StillOpens}
use Rattle.re_terms.specs.Listed.{Listed}
use Rattle.re_terms.specs.declared.program.Program.{Program}
use Rattle.re_device.specs.Device.{DeviceMemory, DeviceState}
use Rattle.re_device.specs.Standing.{StandsSettled}
use Rattle.re_world.proofs.Kept.{kept_on, stands_kept}
use Rattle.re_world.specs.State.{AllPlaced, IsPlaced}
use Rattle.re_world.specs.Opening.{AreOpened, EachOpened, HasOpened, HasOpeningCause, IsOpened, KeepsOpening, OpenBefore}

-- while the files of one device move as in an opening, those of all devices may be what they might have been at the start, or open to it
module _ (p : Program) (n : ℕ) (start old now : Past) (same : (f : ℕ) → IsKept n f start old) (before : KeepsOpening p start old) (goes : IsBefore (as_device n old) (as_device n now)) (still : StillOpens p n (as_device n old) (as_device n now)) where
  kept_by : (d f : ℕ) → d ≢ n → IsKept d f old now
  kept_by d f other = let k = elsewhere.kept_on d f (as_device n old) (as_device n now) goes still.others other in record { content = k.content; images = k.images }

  keeps_own : (first second : List ℕ) → IsCrashImageAt now n 0 first → IsCrashImageAt now n 1 second → (IsCrashImageAt start n 0 first × IsCrashImageAt start n 1 second) ⊎ (AreBlank (as_device n start) × OpensTo p n first second (unopened p))
  keeps_own first second a b = elim (still.images first second a b) [
    | inl left ↦ inl ((same 0).images first left.0, (same 1).images second left.1)
    | inr blank ↦ inr ((ap is_blank (sym (same 0).content) ∙ blank.0.0, ap is_blank (sym (same 1).content) ∙ blank.0.1), blank.1)
  ]

  by_device : (d : ℕ) → (d ≡ n) ⊎ (d ≢ n) → (first second : List ℕ) → IsCrashImageAt now d 0 first → IsCrashImageAt now d 1 second → (IsCrashImageAt start d 0 first × IsCrashImageAt start d 1 second) ⊎ (AreBlank (as_device d start) × OpensTo p d first second (unopened p))
  by_device d (inl is) first second a b =
      subst (λ x. (IsCrashImageAt start x 0 first × IsCrashImageAt start x 1 second) ⊎ (AreBlank (as_device x start) × OpensTo p x first second (unopened p))) (sym is)
      (keeps_own first second (subst (λ x. IsCrashImageAt now x 0 first) is a) (subst (λ x. IsCrashImageAt now x 1 second) is b))
  by_device d (inr other) first second a b = before d first second ((kept_by d 0 other).images first a) ((kept_by d 1 other).images second b)

  pub keeps_more : KeepsOpening p start now
  keeps_more d first second a b = by_device d (elim (eqb_tells d n) [ inl is ↦ inl is.1 | inr other ↦ inr other.1 ]) first second a b

-- ---- the devices that are opened

slice_get-left : {T : Type 0} (xs : List T) (x : T) (i : ℕ) → i < length xs → slice_get (xs ++ x ∷ []) i ≡ slice_get xs i
slice_get-left [] x i below = absurd (omega (arith, below))
slice_get-left (y ∷ ys) x zero below = refl
slice_get-left (y ∷ ys) x (suc i) below = slice_get-left ys x i (omega (arith, below))

slice_get-last : {T : Type 0} (xs : List T) (x : T) (i : ℕ) → i ≡ length xs → slice_get (xs ++ x ∷ []) i ≡ Some x
slice_get-last [] x i is = ap (slice_get (x ∷ [])) is
slice_get-last (y ∷ ys) x zero is = absurd (omega (arith, is))
slice_get-last (y ∷ ys) x (suc i) is = slice_get-last ys x i (omega (arith, is))

module _ (p : Program) (devices : List (Option DeviceState)) (start old now : Seen) (before : AreOpened p devices start old) (each : Throughout (past_in (length devices) old) (past_in (length devices) now) (StillOpens p (length devices) (past_in (length devices) old))) where
  abbrev n : ℕ
  n = length devices

  moves : (d f : ℕ) → d ≢ n → IsKept d f (past_in 0 old) (past_in 0 now)
  moves d f other = let k = elsewhere.kept_on d f (past_in n old) (past_in n now) each.goes_on (at_end (past_in n old) (past_in n now) (StillOpens p n (past_in n old)) each).others other in record { content = k.content; images = k.images }

  rebuilt : Throughout (past_in 0 old) (past_in 0 now) (KeepsOpening p (past_in 0 start))
  rebuilt =
      let t = of_outside n (past_in 0 old) (past_in 0 now) (StillOpens p n (past_in n old)) refl each in
      record {
        goes_on = t.goes_on;
        each = λ m first last.
            keeps_more p n (past_in 0 start) (past_in 0 old) m (λ f. before.others n f (omega arith)) (at_end (past_in 0 start) (past_in 0 old) (KeepsOpening p (past_in 0 start)) before.moments)
            (first.0, ap (as_device n) first.1) (t.each m first last);
      }

  pub moments_more : Throughout (past_in 0 start) (past_in 0 now) (KeepsOpening p (past_in 0 start))
  moments_more = join (past_in 0 start) (past_in 0 old) (past_in 0 now) (KeepsOpening p (past_in 0 start)) before.moments rebuilt

  module _ (device : DeviceState) (is : IsOpened p n device) (opens : OpensTo p n (content_in old n 0) (content_in old n 1) device.memory.settled) (stands : StandsSettled device (past_in n now)) where
    opened_before : (d : ℕ) → d < n → (x : DeviceState) × (slice_get devices d ≡ Some (Some x)) × HasOpened p d start old x → (x : DeviceState) × (slice_get (devices ++ Some device ∷ []) d ≡ Some (Some x)) × HasOpened p d start now x
    opened_before d below found =
        let x = found.0 in (
          x,
          slice_get-left devices (Some device) d below ∙ found.1,
          record {
            is_opened = found.2.is_opened;
            opens = found.2.opens;
            stands = stands_kept d (past_in 0 old) (past_in 0 now) (λ f. moves d f (λ e. absurd (omega (arith, e, below)))) x.memory x.memory.settled x.generation x.journal found.2.stands;
          },
        )

    opened_last : (d : ℕ) → d ≡ n → (x : DeviceState) × (slice_get (devices ++ Some device ∷ []) d ≡ Some (Some x)) × HasOpened p d start now x
    opened_last d same = (
      device,
      slice_get-last devices (Some device) d same,
      subst (λ k. HasOpened p k start now device) (sym same) (record {
        is_opened = is;
        opens =
            subst (λ b. OpensTo p n (content_in start n 0) b device.memory.settled) (before.others n 1 (omega arith)).content
            (subst (λ b. OpensTo p n b (content_in old n 1) device.memory.settled) (before.others n 0 (omega arith)).content opens);
        stands = stands;
      }),
    )

    count_is : length (devices ++ Some device ∷ []) ≡ n + 1
    count_is = length-append devices (Some device ∷ [])

    higher_by : (d : ℕ) → length (devices ++ Some device ∷ []) ≤ d → n + 1 ≤ d
    higher_by d behind = subst (λ k. k ≤ d) count_is behind

    lower : (d : ℕ) → d < length (devices ++ Some device ∷ []) → d ≢ n → d < n
    lower d below other = elim (cases_lt d n) [
      | inl is ↦ is
      | inr not_below ↦ let bound = subst (λ k. d < k) count_is below in absurd (other (omega (arith, bound, not_below)))
    ]

    -- one device more is opened
    pub one_more : AreOpened p (devices ++ Some device ∷ []) start now
    one_more = record {
      opened = λ d below. elim (eqb_tells d n) [
        | inl same ↦ opened_last d same.1
        | inr other ↦ let behind = lower d below other.1 in opened_before d behind (before.opened d behind)
      ];
      others = λ d f behind. let far = higher_by d behind in kept_on d f (past_in 0 start) (past_in 0 old) (past_in 0 now) (before.others d f (omega (arith, far))) (moves d f (λ e. absurd (omega (arith, far, e))));
      moments = moments_more;
    }

-- the same, where the number of the device and the moments before and after are known by equations
module _ (p : Program) (devices : List (Option DeviceState)) (start old now : Seen) (before : AreOpened p devices start old) (k : ℕ) (k_is : k ≡ length devices) (first last : Past) (first_is : first ≡ past_in k old) (last_is : last ≡ past_in k now) (each : Throughout first last (StillOpens p k first)) where
  each_is : Throughout (past_in (length devices) old) (past_in (length devices) now) (StillOpens p (length devices) (past_in (length devices) old))
  each_is =
      subst (λ x. Throughout (past_in x old) (past_in x now) (StillOpens p x (past_in x old))) k_is
      (subst (λ q. Throughout (past_in k old) q (StillOpens p k (past_in k old))) last_is (subst (λ q. Throughout q last (StillOpens p k q)) first_is each))

  pub moments_by : Throughout (past_in 0 start) (past_in 0 now) (KeepsOpening p (past_in 0 start))
  moments_by = moments_more p devices start old now before each_is

  pub opened_by : (device : DeviceState) → IsOpened p k device → OpensTo p k (content_of first 0) (content_of first 1) device.memory.settled → StandsSettled device last → AreOpened p (devices ++ Some device ∷ []) start now
  opened_by device is opens stands =
      one_more p devices start old now before each_is device (subst (λ x. IsOpened p x device) k_is is)
      (subst (λ x. OpensTo p x (content_in old x 0) (content_in old x 1) device.memory.settled) k_is (subst (λ q. OpensTo p k (content_of q 0) (content_of q 1) device.memory.settled) first_is opens))
      (subst (λ x. StandsSettled device (past_in x now)) k_is (subst (StandsSettled device) last_is stands))

-- what is known of what is seen of a port's device is known of it at the outside behind the port
pub on_outside : {T A : Type 0} (seen : T → Seen) (see : ℕ → Seen → A) (number device device' : ℕ) (old a b last : T) (P : A → A → Type 0) → device ≡ number → a ≡ old → device' ≡ device → last ≡ b → P (see device (seen a)) (see device' (seen b)) → P (see number (seen old)) (see number (seen last))
on_outside {T} {A} seen see number device device' old a b last P same_device same_old same_after same_last holds =
    subst (λ (u : A). P u (see number (seen last))) (λ i. see (same_device i) (seen (same_old i)))
    (subst (P (see device (seen a))) (λ i. see ((same_after ∙ same_device) i) (seen (sym same_last i))) holds)

-- what is known of a port's moments is known of those of the outside behind it, spoken of the port's device
pub on_port : {T : Type 0} (seen : T → Seen) (number device device' : ℕ) (old a b last : T) (P : Past → Past → Type 0) → device ≡ number → a ≡ old → device' ≡ device → last ≡ b → P (past_in device (seen a)) (past_in device' (seen b)) → P (past_in number (seen old)) (past_in number (seen last))
on_port seen number device device' old a b last P same_device same_old same_after same_last holds = on_outside seen past_in number device device' old a b last P same_device same_old same_after same_last holds

-- no call of a disk takes input
pub left_kept : (name name' device device' : ℕ) (old now : Seen) → rest_in name' device' now ≡ rest_in name device old → old.told ≡ true → now.told ≡ true → now.left ≡ old.left
left_kept name name' device device' old now same told told' =
    let e : (if now.told then now.left else []) ≡ (if old.told then old.left else []) = ap (λ (r : Rest). r.left) same in
    sym (ap (λ (t : Bool). if t then now.left else []) told') ∙ e ∙ ap (λ (t : Bool). if t then old.left else []) told

-- ---- the list of devices

-- one more stands in the list
pub pushed_items : {E : Type 0} (old mid new : Listed (Option DeviceState)) (x : Option DeviceState) (r : Result (Unit {0}) E) (u : Unit {0}) → r ≡ Ok u → OnOk r (new ≡ record { items = mid.items ++ x ∷ []; spare = mid.spare - 1 }) → mid.items ≡ old.items → new.items ≡ old.items ++ x ∷ []
pushed_items old mid new x (Ok v) u is pushed same = ap (λ (l : Listed (Option DeviceState)). l.items) pushed ∙ ap (λ (l : List (Option DeviceState)). l ++ x ∷ []) same
pushed_items old mid new x (Err e) u is pushed same = absurd (cc)

-- a device is placed behind others
pub placed_more : (p : Program) (devices : List (Option DeviceState)) (device : DeviceState) → AllPlaced p devices → IsOpened p (length devices) device → AllPlaced p (devices ++ Some device ∷ [])
placed_more p devices device all is d = elim (eqb_tells d (length devices)) [
  | inl same ↦ subst (λ (o : Option (Option DeviceState)). IsPlaced p d (option_and_then (λ (x : Option DeviceState). x) o)) (sym (slice_get-last devices (Some device) d same.1)) (record {
    program = ap (λ (m : DeviceMemory). m.program) is.memory;
    number_is = ap (λ (m : DeviceMemory). m.device) is.memory ∙ sym same.1;
  })
  | inr other ↦ elim (cases_lt d (length devices)) [
    | inl below ↦ subst (λ (o : Option (Option DeviceState)). IsPlaced p d (option_and_then (λ (x : Option DeviceState). x) o)) (sym (slice_get-left devices (Some device) d below)) (all d)
    | inr above ↦
        let far = other.1 in
        subst (λ (o : Option (Option DeviceState)). IsPlaced p d (option_and_then (λ (x : Option DeviceState). x) o)) (sym (slice_get_past (devices ++ Some device ∷ []) d (subst (λ n. n ≤ d) (sym (length-append devices (Some device ∷ []))) (beyond d (length devices) above far)))) tt
  ]
]
  where
    beyond : (d n : ℕ) → n ≤ d → d ≢ n → n + 1 ≤ d
    beyond d n above other = elim (cases_lt n d) [
      | inl is ↦ omega (arith, is)
      | inr not_above ↦ absurd (other (omega (arith, above, not_above)))
    ]

-- a device is opened behind others
pub each_more : (p : Program) (devices : List (Option DeviceState)) (device : DeviceState) → EachOpened p devices → IsOpened p (length devices) device → EachOpened p (devices ++ Some device ∷ [])
each_more p devices device each is d below = elim (eqb_tells d (length devices)) [
  | inl same ↦ (device, slice_get-last devices (Some device) d same.1, subst (λ k. IsOpened p k device) (sym same.1) is)
  | inr other ↦ elim (cases_lt d (length devices)) [
    | inl less ↦ let found = each d less in (found.0, slice_get-left devices (Some device) d less ∙ found.1, found.2)
    | inr above ↦
        let far = other.1 in
        let bound = subst (λ k. d < k) (length-append devices (Some device ∷ [])) below in
        absurd (far (omega (arith, bound, above)))
  ]
]

-- at the start no device is opened
pub none_opened : (p : Program) (s : Seen) → AreOpened p [] s s
none_opened p s = record {
  opened = λ d below. absurd (omega (arith, below));
  others = λ d f behind. record { content = refl; images = λ file is. is };
  moments = no_step (past_in 0 s) (past_in 0 s) (KeepsOpening p (past_in 0 s)) refl (λ d first second a b. inl (a, b));
}

-- ---- why one is refused

-- where no count of a device has changed, nor any other, none has
pub all_faults : (n : ℕ) (old now : Seen) → disk_faults n now ≡ disk_faults n old → other_faults n now ≡ other_faults n old → now.faults ≡ old.faults
all_faults n old now own others = λ i kind. by_kind kind i
  where
    by_test : (d : ℕ) → (n == d) ≡ false → now.faults (counts.Disk d) ≡ old.faults (counts.Disk d)
    by_test d e =
        let h : (if n == d then 0 else now.faults (counts.Disk d)) ≡ (if n == d then 0 else old.faults (counts.Disk d)) = ap (λ (f : Faults). f (counts.Disk d)) others in
        sym (ap (λ (t : Bool). if t then 0 else now.faults (counts.Disk d)) e) ∙ h ∙ ap (λ (t : Bool). if t then 0 else old.faults (counts.Disk d)) e

    by_kind : (kind : FaultKind) → now.faults kind ≡ old.faults kind
    by_kind counts.Input = ap (λ (f : Faults). f counts.Input) others
    by_kind counts.Output = ap (λ (f : Faults). f counts.Output) others
    by_kind (counts.Disk d) = elim (eqb_tells n d) [
      | inl same ↦ subst (λ (k : ℕ). now.faults (counts.Disk k) ≡ old.faults (counts.Disk k)) same.1 own
      | inr other ↦ by_test d other.0
    ]

-- the refusal of one device is that of the opening, where no call failed before
pub caused : (T U : Type 0) (number : ℕ) (start old now : Seen) (fault : OpenFault) → old.faults ≡ start.faults → HasRestoreCause {T = T} (disk_faults number old) (disk_faults number now) (Err fault) → other_faults number now ≡ other_faults number old → HasOpeningCause {T = U} start now (Err (number, fault))
caused T U number start old now Memory same cause others = all_faults number old now cause others ∙ same
caused T U number start old now Disk same cause others =
    (subst (λ (f : Faults). Rose (f (counts.Disk number)) (disk_faults number now)) same cause, others ∙ ap {B = Faults} (λ (f : Faults) (kind : FaultKind). if is_kind (counts.Disk number) kind then 0 else f kind) same)
caused T U number start old now (BadStore file at) same cause others = all_faults number old now cause others ∙ same
caused T U number start old now OtherProgram same cause others = all_faults number old now cause others ∙ same

module _ (p : Program) (devices : List (Option DeviceState)) (start old : Seen) (are : AreOpened p devices start old) where
  -- each of those that are opened opens, as its files read at the start
  pub open_before : (n : ℕ) → length devices ≡ n → OpenBefore p n start
  open_before n is d below = let found = are.opened d (subst (λ (k : ℕ). d < k) (sym is) below) in (found.0.memory.settled, found.2.opens)

  -- what the files of the next device are, they were at the start
  pub held_before : (d : ℕ) (stored : Stored) → length devices ≡ d → HasStore p (length devices) (content_in old (length devices) 0) (content_in old (length devices) 1) stored → HasStore p d (content_in start d 0) (content_in start d 1) stored
  held_before d stored is has =
      let n = length devices in
      subst (λ (k : ℕ). HasStore p k (content_in start k 0) (content_in start k 1) stored) is
      (subst (λ (a : List ℕ). HasStore p n a (content_in start n 1) stored) (are.others n 0 (omega arith)).content
      (subst (λ (b : List ℕ). HasStore p n (content_in old n 0) b stored) (are.others n 1 (omega arith)).content has))

-- the device and the fault of a refusal
pub same_refusal : {T : Type 0} (n d : ℕ) (fault other : OpenFault) → ◌≡◌ {A = Result T (ℕ × OpenFault)} (Err (n, fault)) (Err (d, other)) → (n ≡ d) × (fault ≡ other)
same_refusal {T} n d fault other is =
    let pair : ◌≡◌ {A = ℕ × OpenFault} (n, fault) (d, other) = cc in
    (ap (λ (x : ℕ × OpenFault). x.0) pair, ap (λ (x : ℕ × OpenFault). x.1) pair)

-- the fault of a call that is handed on
pub handed_on : {T E : Type 0} (r : Result T E) (e f : E) → IsErrAnd r (λ x. x ≡ e) → r ≡ Err f → e ≡ f
handed_on (Ok x) e f is same = absurd is
handed_on (Err y) e f is same = sym is ∙ (cc)

-- its cause is handed on with it
pub cause_handed : (T : Type 0) {U : Type 0} (r : Result U OpenFault) (e : OpenFault) (before now : ℕ) → IsErrAnd r (λ x. x ≡ e) → HasRestoreCause {T = T} before now (Err e) → HasRestoreCause {T = U} before now r
cause_handed T {U} (Ok x) e before now is h = absurd is
cause_handed T {U} (Err f) e before now is h = by_fault f (subst (λ (x : OpenFault). HasRestoreCause {T = T} before now (Err x)) (sym is) h)
  where
    by_fault : (f : OpenFault) → HasRestoreCause {T = T} before now (Err f) → HasRestoreCause {T = U} before now (Err f)
    by_fault Memory h = h
    by_fault Disk h = h
    by_fault (BadStore file at) h = h
    by_fault OtherProgram h = h

-- the refusal of a result that hands one on
pub is_refused : {T E : Type 0} (r : Result T E) (e : E) → IsErrAnd r (λ x. x ≡ e) → r ≡ Err e
is_refused (Ok x) e is = absurd is
is_refused (Err y) e is = ap Err is

-- a refusal for a disk has the disk's cause
pub for_disk : {T : Type 0} (r : Result T (ℕ × OpenFault)) (d : ℕ) (old now : Seen) → HasOpeningCause old now r → r ≡ Err (d, Disk) → Rose (disk_faults d old) (disk_faults d now) × (other_faults d now ≡ other_faults d old)
for_disk r d old now cause is = subst (HasOpeningCause old now) is cause

-- unless a disk is refused no count has changed
pub calm_unless : {T : Type 0} (r : Result T (ℕ × OpenFault)) (old now : Seen) → HasOpeningCause old now r → ((d : ℕ) → r ≡ Err (d, Disk) → ⊥) → now.faults ≡ old.faults
calm_unless (Ok x) old now cause other = cause
calm_unless (Err (d, Memory)) old now cause other = cause
calm_unless (Err (d, Disk)) old now cause other = absurd (other d refl)
calm_unless (Err (d, BadStore file at)) old now cause other = cause
calm_unless (Err (d, OtherProgram)) old now cause other = cause
