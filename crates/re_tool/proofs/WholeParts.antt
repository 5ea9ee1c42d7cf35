-- The program that a run opens devices for is the one that its input gives.
use Rattle.std.proofs.Common.{◌≡◌, ◌≤◌, ◌++◌, ◌∷◌, ◌⊎◌, [], ℕ, Bool, false, true, List, None, Option, Some, ap, append_assoc, arith, drop, inl, inr, length, length-append, refl, subst, sym, take, ◌∙◌}
use Rattle.std.specs.List.{flat_map}
use Rattle.std.specs.Prelude.{◌||◌, IsSome}
use Rattle.std.proofs.lemmas.List.{append-nil, nil_from_length, take-append-drop, take-append-le, take-take, take_at}
use Rattle.re_outside.specs.Outside.{Seen}
use Rattle.re_terms.specs.declared.program.Program.{Program}
use Rattle.re_tool.specs.Lines.{ended, split}
use Rattle.re_tool.specs.Part.{HasSeparator, Part, divided, is_over, part_by, part_of}
use Rattle.re_tool.specs.Reads.{limit}
use Rattle.re_tool.specs.Relay.{Gives}
use Rattle.re_tool.specs.Session.{Runs}
use Rattle.re_tool.specs.Verdict.{Accepted, Decides, IsJudged}
use Rattle.re_tool.specs.declared.words.Job.{Job}
use Rattle.re_tool.specs.declared.status.Status.{Status}
use Rattle.re_tool.proofs.Splits.{divided_at, divided_first, split_are_plain, split_lines, split_whole}

abbrev text_in : Option Part → List ℕ
text_in None = []
text_in (Some part) = part.text

-- the parts of the same lines have one text, whether or not the input is cut
one_text : (whole : List (List ℕ)) (rest : List ℕ) (b c : Bool) (o : Option (List (List ℕ) × List (List ℕ))) (x y : Part) → part_by whole rest b o ≡ Some x → part_by whole rest c o ≡ Some y → x.text ≡ y.text
one_text whole rest true c None x y h k = absurd (cc)
one_text whole rest false true None x y h k = absurd (cc)
one_text whole rest false false None x y h k = ap text_in (sym h ∙ k)
one_text whole rest b c (Some (front, back)) x y h k = sym (ap text_in h) ∙ ap text_in k

-- lines behind the separator change nothing before it
divided_more : (lines more front back : List (List ℕ)) → divided lines ≡ Some (front, back) → divided (lines ++ more) ≡ Some (front, back ++ more)
divided_more lines more front back h =
    let s = divided_first lines front back h in
    let e : lines ++ more ≡ (front ++ s.line ∷ []) ++ (back ++ more) = ap (λ l. l ++ more) s.whole ∙ simp append_assoc in
    ap divided e ∙ divided_at front s.line (back ++ more) s.first s.separates

-- the first bytes of more, up to the limit
within_limit : (m z : List ℕ) → length m ≤ limit → take limit (m ++ z) ≡ m ++ drop (length m) (take limit (m ++ z))
within_limit m z h =
    sym (take-append-drop (length m) (take limit (m ++ z)))
    ∙ ap (λ l. l ++ drop (length m) (take limit (m ++ z))) (take-take (length m) limit (m ++ z) h ∙ take_at m z (length m) refl)

-- of two fronts the longer one begins with the other
front_of : (m rest read left : List ℕ) → m ++ rest ≡ read ++ left → length m ≤ length read → read ≡ m ++ drop (length m) read
front_of m rest read left e h =
    sym (take-append-drop (length m) read)
    ∙ ap (λ l. l ++ drop (length m) read) (sym (take-append-le (length m) read left h) ∙ ap (take (length m)) (sym e) ∙ take_at m rest (length m) refl)

module _ (m z : List ℕ) (c : Bool) (front back : List (List ℕ)) (few : length m ≤ limit) (h : divided (split m).0 ≡ Some (front, back)) where
  abbrev more : List ℕ
  more = (split m).1 ++ drop (length m) (take limit (m ++ z))

  lines_are : split (take limit (m ++ z)) ≡ ((split m).0 ++ (split more).0, (split more).1)
  lines_are =
      let bytes : take limit (m ++ z) ≡ flat_map ended (split m).0 ++ more = within_limit m z few ∙ ap (λ l. l ++ drop (length m) (take limit (m ++ z))) (sym (split_whole m)) ∙ append_assoc (flat_map ended (split m).0) (split m).1 (drop (length m) (take limit (m ++ z))) in
      ap split bytes ∙ split_lines (split m).0 more (split_are_plain m).0

  -- the program part before a separator that was read
  separated : (y : Part) → part_of (m ++ z) c ≡ Some y → y.text ≡ flat_map ended front
  separated y k =
      let parts = split (take limit (m ++ z)) in
      let d : divided parts.0 ≡ Some (front, back ++ (split more).0) = ap (λ (q : List (List ℕ) × List ℕ). divided q.0) lines_are ∙ divided_more (split m).0 (split more).0 front back h in
      let e = ap (part_by parts.0 parts.1 (is_over (m ++ z) || c)) d in
      sym (ap text_in k) ∙ ap text_in e

-- what was read of an input whose part was read whole has the input's part
module _ (input m behind read left : List ℕ) (failed : Bool) (x y : Part) (first : input ≡ m ++ behind) (all : input ≡ read ++ left) (few : length m ≤ limit) (longer : length left ≤ length behind) (of_read : part_of read failed ≡ Some x) (of_input : part_of input false ≡ Some y) where
  by_separator : (o : Option (List (List ℕ) × List (List ℕ))) → divided (split m).0 ≡ o → HasSeparator m → x.text ≡ y.text
  by_separator None e has = let no : false ≡ true = subst IsSome e has in absurd (cc)
  by_separator (Some (front, back)) e has =
      let lengths = sym (ap length all ∙ length-append read left) ∙ ap length first ∙ length-append m behind in
      let of_front : read ≡ m ++ drop (length m) read = front_of m behind read left (sym first ∙ all) (omega (arith, lengths, longer)) in
      separated m (drop (length m) read) failed front back few e x (ap (λ r. part_of r failed) (sym of_front) ∙ of_read)
      ∙ sym (separated m behind false front back few e y (ap (λ r. part_of r false) (sym first) ∙ of_input))

  at_end : behind ≡ [] → x.text ≡ y.text
  at_end e =
      let none : left ≡ [] = nil_from_length left (omega (arith, longer, ap length e)) in
      let same : read ≡ input = sym (append-nil read) ∙ ap (λ l. read ++ l) (sym none) ∙ sym all in
      let parts = split (take limit input) in
      one_text parts.0 parts.1 (is_over input || failed) (is_over input || false) (divided parts.0) x y (ap (λ r. part_of r failed) (sym same) ∙ of_read) of_input

  pub one_part : HasSeparator m ⊎ (behind ≡ []) → x.text ≡ y.text
  one_part (inl has) = by_separator (divided (split m).0) refl has
  one_part (inr none) = at_end none

accepted_one : (p q : Program) → Accepted q ≡ Accepted p → q ≡ p
accepted_one p q e = cc

-- The program part was read whole, and the run took it for this program; so its input gives no other.
module _ (j : Job) (old new : Seen) (s : Status) (r : Runs j old new s) (input : List ℕ) (is : input ≡ r.read ++ new.left) (p q : Program) (verdict : r.verdict ≡ Accepted q) (gives : Gives input p) (m behind : List ℕ) (first : input ≡ m ++ behind) (few : length m ≤ limit) (far : HasSeparator m ⊎ (behind ≡ [])) (longer : length new.left ≤ length behind) where
  by_part : (o : Option Part) → part_of r.read r.outcomes.input_failed ≡ o → IsJudged (Accepted q) o r.outcomes.stopped → q ≡ p
  by_part None e k = absurd (cc)
  by_part (Some x) e (inr k) = let no = k.0 in absurd (cc)
  by_part (Some x) e (inl d) =
      let text : x.text ≡ gives.part.text = one_part input m behind r.read new.left r.outcomes.input_failed x gives.part first is few longer e gives.is_part far in
      let here : Decides gives.part.text (Accepted q) = subst (λ t. Decides t (Accepted q)) text d in
      accepted_one p q (gives.accepted.only (Accepted q) here.has)

  pub given_program : q ≡ p
  given_program = by_part (part_of r.read r.outcomes.input_failed) refl (subst (λ v. IsJudged v (part_of r.read r.outcomes.input_failed) r.outcomes.stopped) verdict r.judged)
