-- How bytes split into lines.
use Rattle.std.proofs.Common.{◌≡◌, ◌≤◌, ◌<◌, ◌++◌, ◌∷◌, [], ℕ, List, length, take, sym, ◌∙◌, ap, subst, refl, append_assoc, Bool, true, false, Option, Some, None}
use Rattle.std.specs.Prelude.{◌||◌, ◌==◌, option_map}
use Rattle.std.specs.List.{flat_map}
use Rattle.std.proofs.lemmas.Bool.{lt-ltb, le-ltb, eqb-true}
use Rattle.std.proofs.lemmas.List.{append-nil, take_all}
use Rattle.re_tool.specs.Lines.{split, onto, ended, IsPlain, ArePlain, without_return}
use Rattle.re_tool.specs.Part.{divided, Undivided, IsFirstSeparator, is_separator, is_over, part_of, part_in}
use Rattle.re_tool.specs.Reads.{limit}

pub plain_more : (lines : List (List ℕ)) (line : List ℕ) → ArePlain lines → IsPlain line → ArePlain (lines ++ line ∷ [])
plain_more [] line p q = (q, tt)
plain_more (x ∷ lines) line p q = (p.0, plain_more lines line p.1 q)

-- bytes without an LF stand before the first line of what follows
split_plain : (line : List ℕ) → IsPlain line → split line ≡ ([], line)
split_plain [] p = refl
split_plain (b ∷ line) p = rw (p.0, split_plain line p.1) refl

split_line : (line rest : List ℕ) → IsPlain line → split (line ++ 10 ∷ rest) ≡ (line ∷ (split rest).0, (split rest).1)
split_line [] rest p = refl
split_line (b ∷ line) rest p = rw (p.0, split_line line rest p.1) refl

pub split_lines : (lines : List (List ℕ)) (rest : List ℕ) → ArePlain lines → split (flat_map ended lines ++ rest) ≡ (lines ++ (split rest).0, (split rest).1)
split_lines [] rest p = refl
split_lines (line ∷ lines) rest p =
    let e : flat_map ended (line ∷ lines) ++ rest ≡ line ++ 10 ∷ (flat_map ended lines ++ rest) = simp append_assoc in
    ap split e ∙ split_line line _ p.0 ∙ ap (λ (q : List (List ℕ) × List ℕ). (line ∷ q.0, q.1)) (split_lines lines rest p.1)

-- whole lines, and one without its LF
pub split_last : (lines : List (List ℕ)) (line : List ℕ) → ArePlain lines → IsPlain line → split (flat_map ended lines ++ line) ≡ (lines, line)
split_last lines line p q = split_lines lines line p ∙ ap (λ (s : List (List ℕ) × List ℕ). (lines ++ s.0, s.1)) (split_plain line q) ∙ ap (λ l. (l, line)) (append-nil lines)

-- a line more behind whole lines
pub flat_more : (lines : List (List ℕ)) (line chunk : List ℕ) → flat_map ended lines ++ (line ++ 10 ∷ chunk) ≡ flat_map ended (lines ++ line ∷ []) ++ chunk
flat_more [] line chunk = simp append_assoc
flat_more (x ∷ lines) line chunk = append_assoc (ended x) (flat_map ended lines) (line ++ 10 ∷ chunk) ∙ ap (λ l. ended x ++ l) (flat_more lines line chunk) ∙ sym (append_assoc (ended x) (flat_map ended (lines ++ line ∷ [])) chunk)

pub undivided_more : (lines : List (List ℕ)) (line : List ℕ) → Undivided lines → is_separator (without_return line) ≡ false → Undivided (lines ++ line ∷ [])
undivided_more [] line p q = (q, tt)
undivided_more (x ∷ lines) line p q = (p.0, undivided_more lines line p.1 q)

-- the lines behind a separator are those of the session
pub divided_at : (front : List (List ℕ)) (line : List ℕ) (more : List (List ℕ)) → Undivided front → is_separator (without_return line) ≡ true → divided ((front ++ line ∷ []) ++ more) ≡ Some (front, more)
divided_at [] line more p q = rw q refl
divided_at (x ∷ front) line more p q = rw (p.0, divided_at front line more p.1 q) refl

pub divided_none : (lines : List (List ℕ)) → Undivided lines → divided lines ≡ None
divided_none [] p = refl
divided_none (x ∷ lines) p = rw (p.0, divided_none lines p.1) refl

-- what was read up to the limit counts whole
pub part_short : (read : List ℕ) (failed : Bool) → length read ≤ limit → part_of read failed ≡ part_in (split read) failed
part_short read failed h =
    ap (λ l. part_in (split l) (is_over read || failed)) (take_all limit read h) ∙ ap (λ b. part_in (split read) (b || failed)) (le-ltb limit (length read) h)

-- what was read beyond the limit is cut there
pub part_long : (read : List ℕ) (failed : Bool) → limit < length read → part_of read failed ≡ part_in (split (take limit read)) true
part_long read failed h = ap (λ b. part_in (split (take limit read)) (b || failed)) (lt-ltb limit (length read) h)

-- ---- the lines of any bytes

onto_whole : (b : ℕ) (q : List (List ℕ) × List ℕ) → flat_map ended (onto b q).0 ++ (onto b q).1 ≡ b ∷ (flat_map ended q.0 ++ q.1)
onto_whole b ([], rest) = refl
onto_whole b (line ∷ lines, rest) = refl

onto_plain : (b : ℕ) (q : List (List ℕ) × List ℕ) → (b == 10) ≡ false → ArePlain q.0 → ArePlain (onto b q).0
onto_plain b ([], rest) n p = tt
onto_plain b (line ∷ lines, rest) n p = ((n, p.0), p.1)

onto_rest : (b : ℕ) (q : List (List ℕ) × List ℕ) → (b == 10) ≡ false → IsPlain q.1 → IsPlain (onto b q).1
onto_rest b ([], rest) n p = (n, p)
onto_rest b (line ∷ lines, rest) n p = p

-- the lines with their LFs and the rest are the bytes
pub split_whole : (bytes : List ℕ) → flat_map ended (split bytes).0 ++ (split bytes).1 ≡ bytes
split_whole [] = refl
split_whole (b ∷ bytes) = by (split_whole bytes) (b == 10) refl
  where
    by : flat_map ended (split bytes).0 ++ (split bytes).1 ≡ bytes → (t : Bool) → (b == 10) ≡ t → flat_map ended (split (b ∷ bytes)).0 ++ (split (b ∷ bytes)).1 ≡ b ∷ bytes
    by rest true is = let same : 10 ≡ b = sym (eqb-true b 10 is) in rw is (ap (λ l. 10 ∷ l) rest ∙ ap (λ x. x ∷ bytes) same)
    by rest false is = rw is (onto_whole b (split bytes) ∙ ap (λ l. b ∷ l) rest)

-- no LF stands within a line, nor in the rest
pub split_are_plain : (bytes : List ℕ) → ArePlain (split bytes).0 × IsPlain (split bytes).1
split_are_plain [] = (tt, tt)
split_are_plain (b ∷ bytes) = by (split_are_plain bytes) (b == 10) refl
  where
    by : ArePlain (split bytes).0 × IsPlain (split bytes).1 → (t : Bool) → (b == 10) ≡ t → ArePlain (split (b ∷ bytes)).0 × IsPlain (split (b ∷ bytes)).1
    by rest true is = rw is ((tt, rest.0), rest.1)
    by rest false is = rw is (onto_plain b (split bytes) is rest.0, onto_rest b (split bytes) is rest.1)

-- the parts of a division, empty where there is none
abbrev front_in : Option (List (List ℕ) × List (List ℕ)) → List (List ℕ)
front_in None = []
front_in (Some p) = p.0

abbrev back_in : Option (List (List ℕ) × List (List ℕ)) → List (List ℕ)
back_in None = []
back_in (Some p) = p.1

-- the line stands before the others of a front
abbrev before : List ℕ → List (List ℕ) × List (List ℕ) → List (List ℕ) × List (List ℕ)
before line p = (line ∷ p.0, p.1)

-- what divides lines is their first separator
pub divided_first : (lines front back : List (List ℕ)) → divided lines ≡ Some (front, back) → IsFirstSeparator lines front back
divided_first [] front back h = absurd (cc)
divided_first (line ∷ lines) front back h = by (divided_first lines) (is_separator (without_return line)) refl
  where
    at_once : ◌≡◌ {A = Option (List (List ℕ) × List (List ℕ))} (Some ([], lines)) (Some (front, back)) → is_separator (without_return line) ≡ true → IsFirstSeparator (line ∷ lines) front back
    at_once e is =
        let f : [] ≡ front = ap front_in e in
        let l : lines ≡ back = ap back_in e in
        record { line = line; whole = (λ i. f i ++ line ∷ l i); separates = is; first = subst Undivided f tt }

    later : ((f b : List (List ℕ)) → divided lines ≡ Some (f, b) → IsFirstSeparator lines f b) → is_separator (without_return line) ≡ false → (d : Option (List (List ℕ) × List (List ℕ))) → divided lines ≡ d → option_map {U = List (List ℕ) × List (List ℕ)} (before line) d ≡ Some (front, back) → IsFirstSeparator (line ∷ lines) front back
    later rest not None q e = absurd (cc)
    later rest not (Some (f, b)) q e =
        let r = rest f b q in
        let g : line ∷ f ≡ front = ap front_in e in
        let l : b ≡ back = ap back_in e in
        record { line = r.line; whole = ap (λ x. line ∷ x) r.whole ∙ (λ i. g i ++ r.line ∷ l i); separates = r.separates; first = subst Undivided g (not, r.first) }

    by : ((f b : List (List ℕ)) → divided lines ≡ Some (f, b) → IsFirstSeparator lines f b) → (t : Bool) → is_separator (without_return line) ≡ t → IsFirstSeparator (line ∷ lines) front back
    by rest true is = at_once (rw is at h) is
    by rest false is = later rest is (divided lines) refl (rw is at h)

-- lines that nothing divides have no separator
pub divided_nowhere : (lines : List (List ℕ)) → divided lines ≡ None → Undivided lines
divided_nowhere [] h = tt
divided_nowhere (line ∷ lines) h = by (divided_nowhere lines) (is_separator (without_return line)) refl
  where
    later : (divided lines ≡ None → Undivided lines) → is_separator (without_return line) ≡ false → (d : Option (List (List ℕ) × List (List ℕ))) → divided lines ≡ d → option_map {U = List (List ℕ) × List (List ℕ)} (before line) d ≡ None → Undivided (line ∷ lines)
    later rest not None q e = (not, rest q)
    later rest not (Some p) q e = absurd (cc)

    by : (divided lines ≡ None → Undivided lines) → (t : Bool) → is_separator (without_return line) ≡ t → Undivided (line ∷ lines)
    by rest true is = let e : ◌≡◌ {A = Option (List (List ℕ) × List (List ℕ))} (Some ([], lines)) None = rw is at h in absurd (cc)
    by rest false is = later rest is (divided lines) refl (rw is at h)
