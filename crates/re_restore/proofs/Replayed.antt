-- Entries and records that are replayed one behind the other.
use Rattle.std.proofs.Common.{◌≡◌, ◌<◌, ◌≤◌, ◌+◌, ◌++◌, ◌∷◌, [], ℕ, true, false, List, length, take, drop, get_or, refl, sym, ap, subst, ◌∙◌, arith}
use Rattle.std.specs.List.{flat_map}
use Rattle.std.proofs.lemmas.List.{append_assoc, length-append, length-take, map-append, take_more, take-append-drop}
use Rattle.std.proofs.lemmas.List.Concat.{flat_map-append}
use Rattle.std.proofs.lemmas.List.Elements.{All-take}
use Rattle.re_record.specs.Logs.{HasBytes, HasEntryBytes, IsLoggedOf, IsRecord, IsRecordOf}
use Rattle.re_record.specs.Restoring.{AreAccepted, IsFirstRefused, Opened, after_all, is_refused, opened_after}
use Rattle.re_outside.specs.Frame.{opened}
use Rattle.re_outside.specs.Listed.{Listed, plain}
use Rattle.re_record.specs.Spellings.{logged_bytes, record_bytes}
use Rattle.re_record.specs.Stores.{AreRecordsOf, tag_place}
use Rattle.re_restore.specs.Replaying.{HasReplayed, HasReplayedRecord, items_of}
use Rattle.re_terms.specs.Admission.{IsEntryOf}
use Rattle.re_terms.specs.Shapes.{shape_of}
use Rattle.re_terms.specs.declared.entry.Entry.{Entry}
use Rattle.re_terms.specs.declared.entry.Entry.TheVariants as entry
use Rattle.re_terms.specs.declared.entry.Logged.{Logged}
use Rattle.re_terms.specs.declared.program.Program.{Program}
use Rattle.re_terms.specs.declared.replicated.Shape.{Shape}

-- a list and nothing behind it
nil_behind : (xs : List Logged) → xs ++ [] ≡ xs
nil_behind [] = refl
nil_behind (x ∷ xs) = ap (λ l. x ∷ l) (nil_behind xs)

module _ (p : Program) (device : ℕ) where
  -- entries behind others
  pub after_all-append : (o : Opened) (xs ys : List Logged) → after_all p device (xs ++ ys) o ≡ after_all p device ys (after_all p device xs o)
  after_all-append o [] ys = refl
  after_all-append o (x ∷ xs) ys = after_all-append (opened_after p device x o) xs ys

  pub accepted-append : (o : Opened) (xs ys : List Logged) → AreAccepted p device o xs → AreAccepted p device (after_all p device xs o) ys → AreAccepted p device o (xs ++ ys)
  accepted-append o [] ys are behind = behind
  accepted-append o (x ∷ xs) ys are behind = (are.0, accepted-append (opened_after p device x o) xs ys are.1 behind)

  -- one entry more
  pub one_more : (o now after : Opened) (entries : List Logged) (i : ℕ) (l : Logged) → i < length entries → l ≡ get_or entries i l → now ≡ after_all p device (take i entries) o → after ≡ opened_after p device l now → after ≡ after_all p device (take (i + 1) entries) o
  one_more o now after entries i l within here before is =
      is ∙ ap (opened_after p device l) before
      ∙ sym (after_all-append o (take i entries) (l ∷ []))
      ∙ ap (λ xs. after_all p device xs o) (ap (λ x. take i entries ++ x ∷ []) here ∙ sym (take_more entries i l within))

  pub one_more_accepted : (o now : Opened) (entries : List Logged) (i : ℕ) (l : Logged) → i < length entries → l ≡ get_or entries i l → now ≡ after_all p device (take i entries) o → AreAccepted p device o (take i entries) → is_refused p device now l.entry ≡ false → AreAccepted p device o (take (i + 1) entries)
  one_more_accepted o now entries i l within here before are is =
      subst (AreAccepted p device o) (ap (λ x. take i entries ++ x ∷ []) here ∙ sym (take_more entries i l within))
      (accepted-append o (take i entries) (l ∷ []) are (subst (λ q. is_refused p device q l.entry ≡ false) before is, record {}))

  -- the first one that is refused
  pub first_refused : (o now : Opened) (entries : List Logged) (i : ℕ) (l : Logged) → i < length entries → l ≡ get_or entries i l → now ≡ after_all p device (take i entries) o → AreAccepted p device o (take i entries) → is_refused p device now l.entry ≡ true → IsFirstRefused p device o entries (take i entries)
  first_refused o now entries i l within here before are is = record {
    refused = l;
    behind = drop (i + 1) entries;
    split =
        sym (take-append-drop (i + 1) entries)
        ∙ ap (λ xs. xs ++ drop (i + 1) entries) (take_more entries i l within ∙ ap (λ x. take i entries ++ x ∷ []) (sym here))
        ∙ append_assoc (take i entries) (l ∷ []) (drop (i + 1) entries);
    accepted = are;
    fault = subst (λ q. is_refused p device q l.entry ≡ true) before is;
  }

  -- one record more
  pub one_record_more : (o : Opened) (bodies : List (List ℕ)) (body : List ℕ) (entries first : List Logged) → AreRecordsOf p device o bodies entries → IsRecordOf p first → body ≡ record_bytes (shape_of p).devices first → AreAccepted p device (after_all p device entries o) first → AreRecordsOf p device o (bodies ++ body ∷ []) (entries ++ first)
  one_record_more o [] body entries first are is bytes accepted = (
    first,
    [],
    ap (λ l. l ++ first) are ∙ sym (nil_behind first),
    is,
    bytes,
    subst (λ l. AreAccepted p device (after_all p device l o) first) are accepted,
    refl,
  )
  one_record_more o (b ∷ bodies) body entries first are is bytes accepted =
      let own : List Logged = are.0 in
      let others : List Logged = are.1 in (
        own,
        others ++ first,
        ap (λ l. l ++ first) are.2 ∙ append_assoc own others first,
        are.3,
        are.4,
        are.5,
        one_record_more (after_all p device own o) bodies body others first are.6 is bytes
            (subst (λ q. AreAccepted p device q first) (ap (λ l. after_all p device l o) are.2 ∙ after_all-append o own others) accepted),
      )

-- so that it goes on to where the record leads
pub one_more_done : (p : Program) (device : ℕ) (o now after : Opened) (bodies : List (List ℕ)) (body : List ℕ) → HasReplayed p device o bodies now → HasReplayedRecord p device now body after → HasReplayed p device o (bodies ++ body ∷ []) after
one_more_done p device o now after bodies body done own = (
  done.0 ++ own.0,
  one_record_more p device o bodies body done.0 own.0 done.1 own.1 own.2 (subst (λ q. AreAccepted p device q own.0) done.2 own.3),
  own.4 ∙ ap (after_all p device own.0) done.2 ∙ sym (after_all-append p device o done.0 own.0),
)

-- what may stand in a record has bytes
entry_bytes_of : (p : Program) (e : Entry) → IsEntryOf p e → HasEntryBytes (shape_of p) e
entry_bytes_of p (entry.Turn t) is = is.few
entry_bytes_of p (entry.Merge r) is = is

bytes_of : (p : Program) (l : Logged) → IsLoggedOf p l → HasBytes (shape_of p) l
bytes_of p l is = record { entry = entry_bytes_of p l.entry is.entry; changes = is.few }

-- the first entries of a record are a record
pub front_record : (p : Program) (shape : Shape) (entries : List Logged) (i : ℕ) → shape ≡ shape_of p → IsRecordOf p entries → 1 ≤ i → i < length entries → IsRecord shape (take i entries)
front_record p shape entries i same is some within =
    subst (λ s. IsRecord s (take i entries)) (sym same)
    (record {
      some = omega (arith, some, within, length-take i entries);
      few = let f = is.few in omega (arith, f, within, length-take i entries);
      each = All-take (HasBytes (shape_of p)) i entries (λ k d below. bytes_of p (get_or entries k d) (is.each k d below));
    })

-- a record is its count and its entries
record_long : (devices : ℕ) (entries : List Logged) → length (record_bytes devices entries) ≡ 1 + length (flat_map (logged_bytes devices) entries)
unfolding record_bytes
record_long devices entries = omega arith

-- the record of the first entries ends where the tag of the next one stands
pub place_behind : (p : Program) (shape : Shape) (entries : List Logged) (out : Listed ℕ) → shape ≡ shape_of p → out ≡ plain (record_bytes shape.devices entries) → length out.items ≡ tag_place p entries
place_behind p shape entries out same is = ap (λ l. length l.items) is ∙ record_long shape.devices entries ∙ ap (λ s. 1 + length (flat_map (logged_bytes s.devices) entries)) same

-- ---- bodies

-- the bodies up to one, that one, and those behind it
pub bodies_split : (bodies : List (Listed ℕ)) (i : ℕ) (body : Listed ℕ) → i < length bodies → body ≡ get_or bodies i body → items_of bodies ≡ items_of (take i bodies) ++ body.items ∷ items_of (drop (i + 1) bodies)
bodies_split bodies i body within here =
    ap items_of
    (sym (take-append-drop (i + 1) bodies)
    ∙ ap (λ xs. xs ++ drop (i + 1) bodies) (take_more bodies i body within ∙ ap (λ x. take i bodies ++ x ∷ []) (sym here))
    ∙ append_assoc (take i bodies) (body ∷ []) (drop (i + 1) bodies))
    ∙ map-append (λ (b : Listed ℕ). b.items) (take i bodies) (body ∷ drop (i + 1) bodies)

-- one body more
pub bodies_more : (bodies : List (Listed ℕ)) (i : ℕ) (body : Listed ℕ) → i < length bodies → body ≡ get_or bodies i body → items_of (take (i + 1) bodies) ≡ items_of (take i bodies) ++ body.items ∷ []
bodies_more bodies i body within here =
    ap items_of (take_more bodies i body within ∙ ap (λ x. take i bodies ++ x ∷ []) (sym here))
    ∙ map-append (λ (b : Listed ℕ). b.items) (take i bodies) (body ∷ [])

-- a gate and four bytes of length stand before a body
opened_long : (body : List ℕ) → length (opened body) ≡ 5 + length body
opened_long body = omega arith

-- so much longer it is with one body more
pub bodies_long : (before behind : List (List ℕ)) (body : List ℕ) → length (flat_map opened (before ++ body ∷ behind)) ≡ length (flat_map opened before) + 5 + length body + length (flat_map opened behind)
bodies_long before behind body =
    let apart = ap length (flat_map-append opened before (body ∷ behind)) in
    omega (arith, apart, length-append (flat_map opened before) (opened body ++ flat_map opened behind), length-append (opened body) (flat_map opened behind), opened_long body)
