-- The program part, line by line.
use Rattle.std.proofs.Common.{arith, ◌≡◌, ◌≤◌, ◌<◌, ◌+◌, ◌-◌, ◌++◌, ◌∷◌, [], ℕ, List, length, take, sym, ◌∙◌, ap, refl, append_assoc, Bool, true, false, length-append}
use Rattle.std.specs.List.{flat_map}
use Rattle.std.proofs.lemmas.List.{append-nil, take_at}
use Rattle.re_outside.specs.Outside.{Seen, Does, IsAtEnd, none}
use Rattle.re_outside.proofs.Does.{does-nil}
use Rattle.re_tool.specs.declared.reader.Reader.{Reader}
use Rattle.re_tool.specs.Clipped.{Clipped, clipped}
use Rattle.re_tool.specs.Lines.{split, ended, ArePlain, without_return}
use Rattle.re_tool.specs.Part.{Undivided, is_separator, part_of, part_in}
use Rattle.re_tool.specs.Reads.{Reads, ReadFails, Takes, limit}
use Rattle.re_tool.specs.PartReading.{kept_text, Divides, ReadsAll, PartFails, PartTooLong, PartStops}
use Rattle.re_tool.proofs.Clipping.{take-take-append, take-cut_within, separator-kept, separator-kept_last}
use Rattle.re_tool.proofs.PassedLines.{does_more}
use Rattle.re_tool.proofs.Splits.{plain_more, split_last, flat_more, undivided_more, divided_at, divided_none, part_short, part_long}

-- What was read so far, between two lines of the program part.
pub record PartSoFar (a b : Seen) (r : Reader) (text line : Clipped) : Type 0 where
  pub lines : List (List ℕ)
  pub read : List ℕ
  pub plain : ArePlain lines
  pub undivided : Undivided lines
  pub whole : read ≡ flat_map ended lines ++ r.chunk
  pub taken : r.taken ≡ length read
  pub few : r.taken ≤ limit
  pub does : Does a b read [] none
  pub keeps : text ≡ kept_text (flat_map ended lines)
  pub most : line.most ≡ 65538

pub read_more : (front read chunk bytes line tail : List ℕ) → read ≡ front ++ chunk → chunk ++ bytes ≡ line ++ tail → read ++ bytes ≡ front ++ (line ++ tail)
read_more front read chunk bytes line tail p q = ap (λ l. l ++ bytes) p ∙ append_assoc front chunk bytes ∙ ap (λ l. front ++ l) q

pub taken_more : (before taken : ℕ) (read bytes : List ℕ) → before ≡ length read → taken ≡ before + length bytes → taken ≡ length (read ++ bytes)
taken_more before taken read bytes p q = q ∙ ap (λ n. n + length bytes) p ∙ sym (length-append read bytes)

pub part_start : (s : Seen) (r : Reader) (text line : Clipped) → r ≡ record { chunk = []; taken = 0 } → text ≡ clipped 65537 [] → line ≡ clipped 65538 [] → PartSoFar s s r text line
part_start s r text line e t l = record {
  lines = [];
  read = [];
  plain = tt;
  undivided = tt;
  whole = ap (λ (x : Reader). x.chunk) (sym e);
  taken = ap (λ (x : Reader). x.taken) e;
  few = omega (arith, ap (λ (x : Reader). x.taken) e);
  does = does-nil s;
  keeps = t;
  most = ap (λ (x : Clipped). x.most) l;
}

-- a line more is kept behind the text
kept_more : (lines : List (List ℕ)) (line : List ℕ) (text text' line' : Clipped) → text ≡ kept_text (flat_map ended lines) → line' ≡ clipped 65538 line → text' ≡ clipped text.most (text.items ++ ended line'.items)
    → text' ≡ kept_text (flat_map ended (lines ++ line ∷ []))
kept_more lines line text text' line' p q h =
    let F = flat_map ended lines in
    h ∙ ap (λ (t : Clipped). clipped t.most (t.items ++ ended line'.items)) p ∙ ap (λ (l : Clipped). clipped 65537 (take 65537 F ++ ended l.items)) q
    ∙ ap (λ l. let x : Clipped = record { items = l; most = 65537 } in x)
    (take-take-append 65537 F (take 65538 line ++ 10 ∷ []) ∙ take-cut_within 65537 65538 F line (10 ∷ []) (omega arith) ∙ ap (take 65537) (flat_more lines line [] ∙ append-nil (flat_map ended (lines ++ line ∷ []))))

-- a last line is kept behind the text
kept_last : (lines : List (List ℕ)) (line : List ℕ) (text text' line' : Clipped) → text ≡ kept_text (flat_map ended lines) → line' ≡ clipped 65538 line → text' ≡ clipped text.most (text.items ++ line'.items)
    → text' ≡ kept_text (flat_map ended lines ++ line)
kept_last lines line text text' line' p q h =
    let F = flat_map ended lines in
    h ∙ ap (λ (t : Clipped). clipped t.most (t.items ++ line'.items)) p ∙ ap (λ (l : Clipped). clipped 65537 (take 65537 F ++ l.items)) q
    ∙ ap (λ l. let x : Clipped = record { items = l; most = 65537 } in x)
    (take-take-append 65537 F (take 65538 line) ∙ ap (λ l. take 65537 (F ++ l)) (sym (append-nil (take 65538 line))) ∙ take-cut_within 65537 65538 F line [] (omega arith) ∙ ap (λ l. take 65537 (F ++ l)) (append-nil line))

module _ (a b c : Seen) (r r' : Reader) (text line line' : Clipped) (s : PartSoFar a b r text line) where
  keeps_line : {end : List ℕ} → (d : Reads r r' line' line.most b c end) → line' ≡ clipped 65538 d.line
  keeps_line d = d.keeps ∙ ap (λ n. clipped n d.line) s.most

  line_most : {end : List ℕ} → Reads r r' line' line.most b c end → line'.most ≡ 65538
  line_most d = ap (λ (l : Clipped). l.most) (keeps_line d)

  read_line : (d : Reads r r' line' line.most b c (10 ∷ [])) → s.read ++ d.bytes ≡ flat_map ended (s.lines ++ d.line ∷ []) ++ r'.chunk
  read_line d = read_more (flat_map ended s.lines) s.read r.chunk d.bytes d.line (10 ∷ r'.chunk) s.whole d.whole ∙ flat_more s.lines d.line r'.chunk

  -- a line of the program part is passed
  pub part_more : (text' : Clipped) → Reads r r' line' line.most b c (10 ∷ []) → r'.taken ≤ limit → is_separator (without_return line'.items) ≡ false → text' ≡ clipped text.most (text.items ++ ended line'.items)
      → PartSoFar a c r' text' line'
  part_more text' d few not h =
      let keeps = keeps_line d in
      record {
        lines = s.lines ++ d.line ∷ [];
        read = s.read ++ d.bytes;
        plain = plain_more s.lines d.line s.plain d.plain;
        undivided = undivided_more s.lines d.line s.undivided (sym (separator-kept 65538 d.line (omega arith)) ∙ ap (λ (l : Clipped). is_separator (without_return l.items)) (sym keeps) ∙ not);
        whole = read_line d;
        taken = taken_more r.taken r'.taken s.read d.bytes s.taken d.taken;
        few = few;
        does = does_more a b c s.read d.bytes [] s.does d.does;
        keeps = kept_more s.lines d.line text text' line' s.keeps keeps h;
        most = line_most d;
      }

  -- the separator is passed
  pub part_divides : Reads r r' line' line.most b c (10 ∷ []) → r'.taken ≤ limit → is_separator (without_return line'.items) ≡ true → Divides r' text a c
  part_divides d few is =
      let keeps = keeps_line d in
      record {
        read = s.read ++ d.bytes;
        front = s.lines;
        head = s.lines ++ d.line ∷ [];
        plain = plain_more s.lines d.line s.plain d.plain;
        divides = λ more. divided_at s.lines d.line more s.undivided (sym (separator-kept 65538 d.line (omega arith)) ∙ ap (λ (l : Clipped). is_separator (without_return l.items)) (sym keeps) ∙ is);
        whole = read_line d;
        taken = taken_more r.taken r'.taken s.read d.bytes s.taken d.taken;
        few = few;
        does = does_more a b c s.read d.bytes [] s.does d.does;
        keeps = s.keeps;
      }

  read_last : (d : Reads r r' line' line.most b c []) → r'.chunk ≡ [] → s.read ++ d.bytes ≡ flat_map ended s.lines ++ d.line
  read_last d empty =
      read_more (flat_map ended s.lines) s.read r.chunk d.bytes d.line r'.chunk s.whole d.whole ∙ ap (λ l. flat_map ended s.lines ++ (d.line ++ l)) empty ∙ ap (λ l. flat_map ended s.lines ++ l) (append-nil d.line)

  split_read : (d : Reads r r' line' line.most b c []) → r'.chunk ≡ [] → split (s.read ++ d.bytes) ≡ (s.lines, d.line)
  split_read d empty = ap split (read_last d empty) ∙ split_last s.lines d.line s.plain d.plain

  read_few : {end : List ℕ} → (d : Reads r r' line' line.most b c end) → r'.taken ≤ limit → length (s.read ++ d.bytes) ≤ limit
  read_few d few = omega (arith, taken_more r.taken r'.taken s.read d.bytes s.taken d.taken)

  part_at_end : (d : Reads r r' line' line.most b c []) → r'.taken ≤ limit → r'.chunk ≡ [] → (failed : Bool) → part_of (s.read ++ d.bytes) failed ≡ part_in (s.lines, d.line) failed
  part_at_end d few empty failed = part_short (s.read ++ d.bytes) failed (read_few d few) ∙ ap (λ p. part_in p failed) (split_read d empty)

  -- the last line is a separator without its LF
  pub part_ends : Reads r r' line' line.most b c [] → r'.taken ≤ limit → r'.chunk ≡ [] → IsAtEnd c → is_separator line'.items ≡ true → ReadsAll r' text a c
  part_ends d few empty end is =
      let keeps = keeps_line d in
      let here : is_separator d.line ≡ true = sym (separator-kept_last 65538 d.line (omega arith)) ∙ ap (λ (l : Clipped). is_separator l.items) (sym keeps) ∙ is in
      record {
        read = s.read ++ d.bytes;
        few = read_few d few;
        taken = few;
        empty = empty;
        part = flat_map ended s.lines;
        is_part = part_at_end d few empty false ∙ rw (divided_none s.lines s.undivided, here) refl;
        does = does_more a b c s.read d.bytes [] s.does d.does;
        keeps = s.keeps;
        end = end;
      }

  -- the last line is of the program part
  pub part_ends_within : (text' : Clipped) → Reads r r' line' line.most b c [] → r'.taken ≤ limit → r'.chunk ≡ [] → IsAtEnd c → is_separator line'.items ≡ false → text' ≡ clipped text.most (text.items ++ line'.items) → ReadsAll r' text' a c
  part_ends_within text' d few empty end not h =
      let keeps = keeps_line d in
      let here : is_separator d.line ≡ false = sym (separator-kept_last 65538 d.line (omega arith)) ∙ ap (λ (l : Clipped). is_separator l.items) (sym keeps) ∙ not in
      record {
        read = s.read ++ d.bytes;
        few = read_few d few;
        taken = few;
        empty = empty;
        part = flat_map ended s.lines ++ d.line;
        is_part = part_at_end d few empty false ∙ rw (divided_none s.lines s.undivided, here) refl;
        does = does_more a b c s.read d.bytes [] s.does d.does;
        keeps = kept_last s.lines d.line text text' line' s.keeps keeps h;
        end = end;
      }

  pub part_too_long : Reads r r' line' line.most b c [] → r'.taken ≡ limit + 1 → length r'.chunk ≡ 1 → PartTooLong a c
  part_too_long d long one =
      let read = s.read ++ d.bytes in
      let whole : read ≡ (flat_map ended s.lines ++ d.line) ++ r'.chunk = read_more (flat_map ended s.lines) s.read r.chunk d.bytes d.line r'.chunk s.whole d.whole ∙ sym (append_assoc (flat_map ended s.lines) d.line r'.chunk) in
      let taken : r'.taken ≡ length read = taken_more r.taken r'.taken s.read d.bytes s.taken d.taken in
      let size : length (flat_map ended s.lines ++ d.line) ≡ limit = omega (arith, ap length whole, length-append (flat_map ended s.lines ++ d.line) r'.chunk) in
      let front : take limit read ≡ flat_map ended s.lines ++ d.line = ap (take limit) whole ∙ take_at (flat_map ended s.lines ++ d.line) r'.chunk limit size in
      let over : limit < length read = omega arith in
      let parts : split (take limit read) ≡ (s.lines, d.line) = ap split front ∙ split_last s.lines d.line s.plain d.plain in
      record {
        read = read;
        long = sym taken ∙ long;
        is_none = part_long read false over ∙ ap (λ p. part_in p true) parts ∙ rw (divided_none s.lines s.undivided) refl;
        does = does_more a b c s.read d.bytes [] s.does d.does;
      }

  pub part_stops : Takes r r' b c → r'.taken ≤ limit → PartStops a c
  part_stops d few = record {
    read = s.read ++ d.bytes;
    few = omega (arith, taken_more r.taken r'.taken s.read d.bytes s.taken d.taken);
    does = does_more a b c s.read d.bytes [] s.does d.does;
  }

  pub part_stops_behind : {end : List ℕ} → Reads r r' line' line.most b c end → r'.taken ≤ limit → PartStops a c
  part_stops_behind d few = part_stops (record { bytes = d.bytes; does = d.does; taken = d.taken }) few

-- the input failed before the program part ended
pub part_fails : (a b c : Seen) (r r' : Reader) (text line line' : Clipped) (s : PartSoFar a b r text line) → ReadFails r r' line' line.most b c → r'.taken ≤ limit → r'.chunk ≡ [] → PartFails a c
unfolding part_at_end read_few
part_fails a b c r r' text line line' s d few empty = record {
  read = s.read ++ d.reads.bytes;
  few = read_few a b d.mid r r' text line line' s d.reads few;
  is_none = part_at_end a b d.mid r r' text line line' s d.reads few empty true ∙ rw (divided_none s.lines s.undivided) refl;
  mid = d.mid;
  does = does_more a b d.mid s.read d.reads.bytes [] s.does d.reads.does;
  fails = d.fails;
}

-- each whole line takes from what may still be read
pub line_smaller : (a b : Seen) (r r' : Reader) (line' : Clipped) (most : ℕ) → Reads r r' line' most a b (10 ∷ []) → r'.taken ≤ limit → (limit - r'.taken) + length r'.chunk < (limit - r.taken) + length r.chunk
line_smaller a b r r' line' most d few =
    omega (arith, d.taken, ap length d.whole, length-append r.chunk d.bytes, length-append d.line (10 ∷ r'.chunk))
