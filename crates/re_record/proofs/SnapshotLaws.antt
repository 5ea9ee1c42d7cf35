-- What the reader of snapshots answers, in the words of their bytes.
use Rattle.std.proofs.Common.{◌≡◌, ℕ, suc, ◌+◌, ◌-◌, ◌^◌, ◌<◌, ◌≤◌, Bool, true, false, cond, ltb, eqb, List, [], ◌∷◌, ◌++◌, length, take, drop, Result, Ok, Err, refl, sym, ap, subst, ◌∙◌, append_assoc, arith, length-append, length-take, length-drop}
use Rattle.std.specs.Prelude.{IfOk}
use Rattle.std.specs.Int.{w8, w32, w64, to_be_bytes, from_be_bytes}
use Rattle.std.specs.Str.{bytes_eq}
use Rattle.std.proofs.lemmas.Bool.{eqb-true, eq-eqb, ltb-false, le-ltb}
use Rattle.std.proofs.lemmas.Bool.Decides.{not_from_Decides}
use Rattle.std.proofs.lemmas.List.{append-nil, drop_at, take_at, take-append-drop, drop-drop}
use Rattle.std.proofs.lemmas.Slice.Eq.{bytes_eq-Decides}
use Rattle.re_outside.specs.Frame.{generation}
use Rattle.re_print.specs.Canonical.{program_text}
use Rattle.re_record.specs.Logs.{IsSnapshotOf}
use Rattle.re_record.specs.Slots.{kept_slots}
use Rattle.re_record.specs.Snapshots.{GivesSnapshot, HasOtherText, owner_at, span_at, text_at, head_at, span, kept_at, with_number, behind_head, snapshot_at}
use Rattle.re_record.specs.Spellings.{owner_bytes, text_bytes, head_bytes, kept_bytes, snapshot_bytes}
use Rattle.re_record.specs.declared.fault.SnapshotFault.{SnapshotFault}
use Rattle.re_record.specs.declared.fault.SnapshotFault.TheVariants as faults
use Rattle.re_record.specs.declared.snapshots.Snapshot.{Snapshot}
use Rattle.re_record.proofs.AgainRecords.{byte_first}
use Rattle.re_record.proofs.KeptWords.{words_of, words_in}
use Rattle.re_record.proofs.TakesRecords.{tag_then}
use Rattle.re_record.proofs.TakesSnapshots.{kept_takes, kept_again}
use Rattle.re_terms.proofs.OneMore.{not_true}
use Rattle.re_terms.proofs.ProgramShapes.{program_shape}
use Rattle.re_terms.specs.Programs.{IsProgram}
use Rattle.re_terms.specs.Shapes.{shape_of}
use Rattle.re_terms.specs.declared.entry.State.{State}
use Rattle.re_terms.specs.declared.program.Program.{Program}
use Rattle.re_wire.proofs.Bytes.{IsBytes}
use Rattle.re_wire.proofs.Takes.{bind_ok, unless_ok, when_ok, ok_is, Takes, Takes-then, Takes-first, Takes-second, Takes-from, wide8, wide32, wide64, number_takes, number_again, below_takes, below_again}
use Rattle.re_wire.specs.Reading.{◌>>=◌, number_at, below_at, format_at}

-- ---- the head is read

record SpanTaken (count : ℕ) (bytes : List ℕ) (at : ℕ) (x : ℕ × ℕ) : Type 0 where
  text : Takes bytes at (span bytes x) x.1
  len : length (span bytes x) ≡ count

span_takes : (count : ℕ) (bytes : List ℕ) (at : ℕ) (x : ℕ × ℕ) → span_at count bytes at ≡ Ok x → SpanTaken count bytes at x
unfolding span_at
span_takes count bytes at x e =
    let g = unless_ok (ltb (length bytes) (at + count)) at (Ok (at, at + count)) x e in
    let long : at + count ≤ length bytes = ltb-false _ _ g.0 in
    let n = at + count - at in
    let n_is : n ≡ count = omega arith in
    let len : length (take n (drop at bytes)) ≡ count = omega (arith, length-take n (drop at bytes), length-drop at bytes) in
    let behind : drop n (drop at bytes) ≡ drop (at + count) bytes = drop-drop n at bytes ∙ ap (λ (k : ℕ). drop k bytes) (omega arith) in
    subst (λ (y : ℕ × ℕ). SpanTaken count bytes at y) {x = (at, at + count)} (ok_is (at, at + count) x g.1)
    (record {
      text = record { parts = sym (take-append-drop n (drop at bytes)) ∙ ap (λ (l : List ℕ). take n (drop at bytes) ++ l) behind; place_is = omega (arith, len); bounded = long };
      len = len;
    })

text_takes : (bytes : List ℕ) (at : ℕ) (x : ℕ × ℕ) → IsBytes bytes → text_at bytes at ≡ Ok x → Takes bytes at (text_bytes (span bytes x)) x.1 × (length (span bytes x) < 2 ^ 32)
unfolding text_at text_bytes
text_takes bytes at x fits e =
    let a = bind_ok (number_at w32 bytes at) (λ count. span_at count.0 bytes count.1) x e in
    let t = number_takes w32 (2 ^ 32) wide32 bytes at a.0 fits a.1 in
    let u = span_takes a.0.0 bytes a.0.1 x a.2 in
    let first : Takes bytes at (to_be_bytes w32 (length (span bytes x))) a.0.1 = subst (λ (n : ℕ). Takes bytes at (to_be_bytes w32 n) a.0.1) (sym u.len) t.0 in
    (Takes-then bytes at (to_be_bytes w32 (length (span bytes x))) a.0.1 (span bytes x) x.1 first u.text, omega (arith, u.len, t.1))

record HeadTaken (device : ℕ) (body : List ℕ) (x : ℕ × (ℕ × ℕ)) : Type 0 where
  text : Takes body 0 (head_bytes device (generation body) x.0 (span body x.1)) x.1.1
  few : x.0 < 2 ^ 48
  short : length (span body x.1) < 2 ^ 32

format_takes : (bytes : List ℕ) (at : ℕ) (x : ℕ × ℕ) → IsBytes bytes → format_at bytes at ≡ Ok x → Takes bytes at (1 ∷ []) x.1
unfolding format_at
format_takes bytes at x fits e =
    let b = bind_ok (number_at w8 bytes at) (λ format. cond (eqb format.0 1) (Ok format) (Err at)) x e in
    let g = when_ok (eqb b.0.0 1) at (Ok b.0) x b.2 in
    let t = number_takes w8 (2 ^ 8) wide8 bytes at b.0 fits b.1 in
    let one : b.0.0 ≡ 1 = eqb-true _ _ g.0 in
    let text : Takes bytes at (1 ∷ []) b.0.1 = subst (λ (n : ℕ). Takes bytes at (to_be_bytes w8 n) b.0.1) one t.0 in
    subst (λ (y : ℕ × ℕ). Takes bytes at (1 ∷ []) y.1) (ok_is b.0 x g.1) text

owner_takes : (device : ℕ) (bytes : List ℕ) (at : ℕ) (x : ℕ × ℕ) → device < 256 → IsBytes bytes → owner_at device bytes at ≡ Ok x → Takes bytes at (device ∷ []) x.1
unfolding owner_at
owner_takes device bytes at x small fits e =
    let b = bind_ok (number_at w8 bytes at) (λ owner. cond (eqb owner.0 device) (Ok owner) (Err at)) x e in
    let g = when_ok (eqb b.0.0 device) at (Ok b.0) x b.2 in
    let t = number_takes w8 (2 ^ 8) wide8 bytes at b.0 fits b.1 in
    let same : b.0.0 ≡ device = eqb-true _ _ g.0 in
    let byte : to_be_bytes w8 b.0.0 ≡ device ∷ [] = ap (λ (n : ℕ). to_be_bytes w8 n) same ∙ (let e : device ≡ device = refl in ap (λ (n : ℕ). n ∷ []) (omega arith)) in
    subst (λ (y : ℕ × ℕ). Takes bytes at (device ∷ []) y.1) (ok_is b.0 x g.1) (subst (λ (l : List ℕ). Takes bytes at l b.0.1) byte t.0)

-- a snapshot begins with its generation
generation_stands : (body : List ℕ) → IsBytes body → 8 ≤ length body → Takes body 0 (to_be_bytes w64 (generation body)) 8
generation_stands body fits long =
    let test : ltb (length body) 8 ≡ false = le-ltb _ _ long in
    let read : number_at w64 body 0 ≡ Ok (generation body, 8) = rw test refl in
    (number_takes w64 (2 ^ 64) wide64 body 0 (generation body, 8) fits read).0

head_takes : (device : ℕ) (body : List ℕ) (x : ℕ × (ℕ × ℕ)) → device < 256 → IsBytes body → 8 ≤ length body → head_at device body ≡ Ok x → HeadTaken device body x
unfolding head_at head_bytes owner_bytes
head_takes device body x small fits long e =
    let a = bind_ok (format_at body 8) (λ format. owner_at device body format.1 >>= λ owner. below_at w64 (2 ^ 48) body owner.1 >>= λ number. text_at body number.1 >>= λ text. Ok (number.0, text)) x e in
    let b = bind_ok (owner_at device body a.0.1) (λ owner. below_at w64 (2 ^ 48) body owner.1 >>= λ number. text_at body number.1 >>= λ text. Ok (number.0, text)) x a.2 in
    let c = bind_ok (below_at w64 (2 ^ 48) body b.0.1) (λ number. text_at body number.1 >>= λ text. Ok (number.0, text)) x b.2 in
    let d = bind_ok (text_at body c.0.1) (λ text. Ok (c.0.0, text)) x c.2 in
    let t = below_takes w64 (2 ^ 64) wide64 (2 ^ 48) body b.0.1 c.0 fits c.1 in
    let u = text_takes body c.0.1 d.0 fits d.1 in
    let own = Takes-then body a.0.1 (device ∷ []) b.0.1 (to_be_bytes w64 c.0.0) c.0.1 (owner_takes device body a.0.1 b.0 small fits b.1) t.0 in
    let formatted = Takes-then body 8 (1 ∷ []) a.0.1 (device ∷ to_be_bytes w64 c.0.0) c.0.1 (format_takes body 8 a.0 fits a.1) own in
    let front = Takes-then body 0 (to_be_bytes w64 (generation body)) 8 (1 ∷ device ∷ to_be_bytes w64 c.0.0) c.0.1 (generation_stands body fits long) formatted in
    let whole = Takes-then body 0 (to_be_bytes w64 (generation body) ++ (1 ∷ device ∷ to_be_bytes w64 c.0.0)) c.0.1 (text_bytes (span body d.0)) d.0.1 front u.0 in
    let same : (c.0.0, d.0) ≡ x = ok_is (c.0.0, d.0) x d.2 in
    record {
      text = subst (λ (y : ℕ × (ℕ × ℕ)). Takes body 0 ((to_be_bytes w64 (generation body) ++ (1 ∷ device ∷ to_be_bytes w64 y.0)) ++ text_bytes (span body y.1)) y.1.1) {x = (c.0.0, d.0)} same whole;
      few = subst (λ (y : ℕ × (ℕ × ℕ)). y.0 < 2 ^ 48) {x = (c.0.0, d.0)} same t.1;
      short = subst (λ (y : ℕ × (ℕ × ℕ)). length (span body y.1) < 2 ^ 32) {x = (c.0.0, d.0)} same u.1;
    }

-- ---- a head that stands is read

drop_behind : (body front rest : List ℕ) → body ≡ front ++ rest → drop (0 + length front) body ≡ rest
drop_behind body front rest e = ap (λ (ys : List ℕ). drop (0 + length front) ys) e ∙ drop_at front rest (0 + length front) (omega arith)

text_short : (device g number : ℕ) (text rest body : List ℕ) → length body < 2 ^ 32 → body ≡ head_bytes device g number text ++ rest → length text < 2 ^ 32
unfolding head_bytes text_bytes
text_short device g number text rest body limit e =
    let front = owner_bytes device g number in
    let last = to_be_bytes w32 (length text) ++ text in
    omega (arith, ap (λ (l : List ℕ). length l) e, length-append (front ++ last) rest, length-append front last, length-append (to_be_bytes w32 (length text)) text)

record HeadRead (device : ℕ) (body : List ℕ) (number : ℕ) (text rest : List ℕ) : Type 0 where
  end : ℕ
  read : head_at device body ≡ Ok (number, (22, end))
  span_is : span body (22, end) ≡ text
  behind : drop end body ≡ rest
  within : end ≤ length body

head_read : (device g number : ℕ) (text rest body : List ℕ) → device < 256 → number < 2 ^ 48 → length text < 2 ^ 32 → body ≡ head_bytes device g number text ++ rest → HeadRead device body number text rest
unfolding head_at head_bytes owner_bytes text_bytes text_at span_at owner_at format_at
head_read device g number text rest body small few short e =
    let own = 1 ∷ device ∷ to_be_bytes w64 number in
    let front = to_be_bytes w64 g ++ own in
    let last = to_be_bytes w32 (length text) ++ text in
    let end = 22 + length text in
    let whole = Takes-from body 0 (front ++ last) rest (omega arith) e in
    let place_is : 0 + length (front ++ last) ≡ end = omega (arith, length-append front last, length-append (to_be_bytes w32 (length text)) text) in
    let t : Takes body 0 (front ++ last) end = subst (λ (n : ℕ). Takes body 0 (front ++ last) n) place_is whole in
    let a : Takes body 0 front 18 = Takes-first body 0 front last end t in
    let b : Takes body 18 last end = Takes-second body 0 front last end t in
    let c : Takes body 8 own 18 = Takes-second body 0 (to_be_bytes w64 g) own 18 a in
    let d = byte_first body 8 1 (device ∷ to_be_bytes w64 number) 18 (omega arith) c in
    let o = byte_first body 9 device (to_be_bytes w64 number) 18 small d.1 in
    let n : below_at w64 (2 ^ 48) body 10 ≡ Ok (number, 18) = below_again w64 (2 ^ 64) wide64 (2 ^ 48) body 10 number 18 (omega arith) few o.1 in
    let l : number_at w32 body 18 ≡ Ok (length text, 22) = number_again w32 (2 ^ 32) wide32 body 18 (length text) 22 short (Takes-first body 18 (to_be_bytes w32 (length text)) text end b) in
    let f : Takes body 22 text end = Takes-second body 18 (to_be_bytes w32 (length text)) text end b in
    let test : ltb (length body) (22 + length text) ≡ false = le-ltb _ _ f.bounded in
    let itself : eqb device device ≡ true = eq-eqb _ _ refl in
    let size : end - 22 ≡ length text = omega arith in
    let behind : drop end body ≡ rest = ap (λ (k : ℕ). drop k body) (sym place_is) ∙ drop_behind body (front ++ last) rest e in
    record {
      end = end;
      read = rw (d.0, o.0, itself, n, l, test) refl;
      span_is = ap (λ (k : ℕ). take k (drop 22 body)) size ∙ ap (λ (ys : List ℕ). take (length text) ys) f.parts ∙ take_at text (drop end body) (length text) refl;
      behind = behind;
      within = f.bounded;
    }

-- ---- a snapshot is read

pub record SnapshotStands (p : Program) (device : ℕ) (body : List ℕ) (s : Snapshot) : Type 0 where
  pub fits : IsSnapshotOf p s.number s.state
  pub text : body ≡ snapshot_bytes p device (generation body) s.number s.state

module _ (p : Program) (device : ℕ) (body : List ℕ) (is_program : IsProgram p) (small : device < 256) (fits : IsBytes body) (long : 8 ≤ length body) where
  by_kept : (h : ℕ × (ℕ × ℕ)) (r : Result State ℕ) (s : Snapshot) → head_at device body ≡ Ok h → span body h.1 ≡ program_text p → kept_at p (shape_of p) body h.1.1 ≡ r → with_number h.0 r ≡ Ok s → SnapshotStands p device body s
  unfolding snapshot_bytes
  by_kept h (Ok state) s head same kept e =
      let t = head_takes device body h small fits long head in
      let k = kept_takes p (shape_of p) body h.1.1 state (program_shape p is_program) fits t.text.bounded kept in
      let front : Takes body 0 (head_bytes device (generation body) h.0 (program_text p)) h.1.1 = subst (λ (text : List ℕ). Takes body 0 (head_bytes device (generation body) h.0 text) h.1.1) same t.text in
      let made : Snapshot = record { number = h.0; state = state } in
      let is : made ≡ s = cc in
      subst (λ (y : Snapshot). SnapshotStands p device body y) is
      (record {
        fits = record { few = t.few; state = record { words = words_of p state.words.items k.words; rep = k.rep }; plain = k.plain };
        text = front.parts ∙ ap (λ (ys : List ℕ). head_bytes device (generation body) h.0 (program_text p) ++ ys) k.text;
      })
  by_kept h (Err place) s head same kept e = absurd cc

  by_text : (h : ℕ × (ℕ × ℕ)) (test : Bool) (s : Snapshot) → head_at device body ≡ Ok h → bytes_eq (span body h.1) (program_text p) ≡ test → cond test (with_number h.0 (kept_at p (shape_of p) body h.1.1)) (Err faults.OtherText) ≡ Ok s → SnapshotStands p device body s
  by_text h true s head same e = by_kept h (kept_at p (shape_of p) body h.1.1) s head ((bytes_eq-Decides (span body h.1) (program_text p)).0 same) refl e
  by_text h false s head same e = absurd cc

  by_head : (r : Result (ℕ × (ℕ × ℕ)) ℕ) (s : Snapshot) → head_at device body ≡ r → behind_head p (shape_of p) body r ≡ Ok s → SnapshotStands p device body s
  by_head (Ok h) s head e = by_text h (bytes_eq (span body h.1) (program_text p)) s head refl e
  by_head (Err place) s head e = absurd cc

  stands : (s : Snapshot) → snapshot_at p (shape_of p) device body ≡ Ok s → SnapshotStands p device body s
  unfolding snapshot_at
  stands s e = by_head (head_at device body) s refl e

  -- ---- another text

  other_kept : (number : ℕ) (r : Result State ℕ) → with_number number r ≡ Err faults.OtherText → ⊥
  other_kept number (Ok state) e = cc
  other_kept number (Err place) e = cc

  other_text : (h : ℕ × (ℕ × ℕ)) (test : Bool) → head_at device body ≡ Ok h → bytes_eq (span body h.1) (program_text p) ≡ test → cond test (with_number h.0 (kept_at p (shape_of p) body h.1.1)) (Err faults.OtherText) ≡ Err faults.OtherText → HasOtherText p device body
  other_text h true head same e = absurd (other_kept h.0 (kept_at p (shape_of p) body h.1.1) e)
  other_text h false head same e =
      let t = head_takes device body h small fits long head in
      record {
        number = h.0;
        text = span body h.1;
        rest = drop h.1.1 body;
        few = t.few;
        short = t.short;
        stands = t.text.parts;
        other = not_from_Decides (bytes_eq (span body h.1) (program_text p)) (bytes_eq-Decides (span body h.1) (program_text p)) same;
      }

  other_head : (r : Result (ℕ × (ℕ × ℕ)) ℕ) → head_at device body ≡ r → behind_head p (shape_of p) body r ≡ Err faults.OtherText → HasOtherText p device body
  other_head (Ok h) head e = other_text h (bytes_eq (span body h.1) (program_text p)) head refl e
  other_head (Err place) head e = absurd cc

  other_stands : snapshot_at p (shape_of p) device body ≡ Err faults.OtherText → HasOtherText p device body
  unfolding snapshot_at
  other_stands e = other_head (head_at device body) refl e

pub snapshot_stands : (p : Program) (device : ℕ) (body : List ℕ) (r : Result Snapshot SnapshotFault) → IsProgram p → device < 256 → IsBytes body → 8 ≤ length body → GivesSnapshot r (snapshot_at p (shape_of p) device body) → IfOk r (SnapshotStands p device body)
snapshot_stands p device body (Ok s) is_program small fits long given = stands p device body is_program small fits long s given
snapshot_stands p device body (Err e) is_program small fits long given = tt

pub other_found : (p : Program) (device : ℕ) (body : List ℕ) (r : Result Snapshot SnapshotFault) → IsProgram p → device < 256 → IsBytes body → 8 ≤ length body → GivesSnapshot r (snapshot_at p (shape_of p) device body) → r ≡ Err faults.OtherText → HasOtherText p device body
other_found p device body (Ok s) is_program small fits long given e = absurd cc
other_found p device body (Err faults.Memory) is_program small fits long given e = absurd cc
other_found p device body (Err (faults.At place)) is_program small fits long given e = absurd cc
other_found p device body (Err faults.OtherText) is_program small fits long given e = other_stands p device body is_program small fits long given

pub other_there : (p : Program) (device : ℕ) (body : List ℕ) → device < 256 → HasOtherText p device body → snapshot_at p (shape_of p) device body ≡ Err faults.OtherText
unfolding snapshot_at
other_there p device body small h =
    let r = head_read device (generation body) h.number h.text h.rest body small h.few h.short h.stands in
    let test : bytes_eq (span body (22, r.end)) (program_text p) ≡ false = not_true (bytes_eq (span body (22, r.end)) (program_text p)) (λ e. h.other (sym r.span_is ∙ (bytes_eq-Decides (span body (22, r.end)) (program_text p)).0 e)) in
    rw (r.read, test) refl

pub snapshot_there : (p : Program) (device number : ℕ) (body : List ℕ) (s : State) → IsProgram p → device < 256 → length body < 2 ^ 32 → IsSnapshotOf p number s → body ≡ snapshot_bytes p device (generation body) number s → snapshot_at p (shape_of p) device body ≡ Ok (record { number = number; state = s })
unfolding snapshot_at snapshot_bytes
snapshot_there p device number body s is_program small limit is e =
    let text = program_text p in
    let rest = kept_bytes (shape_of p).devices s in
    let short : length text < 2 ^ 32 = text_short device (generation body) number text rest body limit e in
    let r = head_read device (generation body) number text rest body small is.few short e in
    let test : bytes_eq (span body (22, r.end)) text ≡ true = (bytes_eq-Decides (span body (22, r.end)) text).1 r.span_is in
    let kept = kept_again p (shape_of p) body r.end s (program_shape p is_program) r.within (words_in p s.words.items is.state.words) is.state.rep is.plain r.behind in
    rw (r.read, test, kept) refl
