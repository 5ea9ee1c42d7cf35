-- Parts between commas.
use Rattle.std.proofs.Common.{ℕ, zero, suc, ◌≡◌, ◌-◌, ◌<◌, Bool, true, false, cond, List, [], ◌∷◌, ◌++◌, length, get_or, map, Option, Some, None, option_map, refl, sym, ap, ◌∙◌, arith}
use Rattle.std.specs.List.{slice_split, onto_first}
use Rattle.std.specs.Borrow.{Bor}
use Rattle.std.proofs.lemmas.List.{map_push}
use Rattle.re_terms.specs.Kinds.{◌>>=◌}
use Rattle.re_terms.specs.Listed.{Listed, plain}
use Rattle.re_terms.specs.declared.token.Mark.{Mark}
use Rattle.re_terms.specs.declared.token.Token.{Token}
use Rattle.re_terms.specs.declared.raw.RawPart.{RawPart}
use Rattle.re_commands.specs.LineGrammar.{part_of, all_of, is_comma, turn_of}
use Rattle.re_commands.specs.RawLines.{marks_of}

-- one item more
then_push : {B : Type 0} (o : Option B) (r : Option (List B)) (ys : List B) (y : B) → o ≡ Some y → r ≡ Some ys → (o >>= λ z. r >>= λ zs. Some (z ∷ zs)) ≡ Some (y ∷ ys)
then_push o r ys y h k = ap (λ o. o >>= λ z. r >>= λ zs. Some (z ∷ zs)) h ∙ ap (λ r. r >>= λ zs. Some (y ∷ zs)) k

push_by : {A B : Type 0} (f : A → Option B) (xs : List A) (x : A) (y : B) (o : Option B) (r : Option (List B)) (ys : List B) → (o >>= λ z. r >>= λ zs. Some (z ∷ zs)) ≡ Some ys
    → ((zs : List B) → r ≡ Some zs → all_of f (xs ++ x ∷ []) ≡ Some (zs ++ y ∷ [])) → (o >>= λ z. all_of f (xs ++ x ∷ []) >>= λ zs. Some (z ∷ zs)) ≡ Some (ys ++ y ∷ [])
push_by f xs x y None r ys e more = absurd (cc)
push_by f xs x y (Some z) None ys e more = absurd (cc)
push_by f xs x y (Some z) (Some zs) ys e more = ap (λ r. r >>= λ zs. Some (z ∷ zs)) (more zs refl) ∙ ap (λ o. option_map (λ v. v ++ y ∷ []) o) e

pub all_of-push : {A B : Type 0} (f : A → Option B) (xs : List A) (x : A) (ys : List B) (y : B) → all_of f xs ≡ Some ys → f x ≡ Some y → all_of f (xs ++ x ∷ []) ≡ Some (ys ++ y ∷ [])
all_of-push f [] x ys y e k = then_push (f x) (Some []) [] y k refl ∙ ap (option_map (λ v. v ++ y ∷ [])) e
all_of-push f (w ∷ xs) x ys y e k = push_by f xs x y (f w) (all_of f xs) ys e (λ zs h. all_of-push f xs x zs y h k)

-- an item of which nothing is made
none_second : {B : Type 0} (o : Option B) → (o >>= λ z. None >>= λ zs. Some (z ∷ zs)) ≡ None
none_second None = refl
none_second (Some z) = refl

pub all_of-none : {A B : Type 0} (f : A → Option B) (xs : List A) (n : ℕ) (d : A) → n < length xs → f (get_or xs n d) ≡ None → all_of f xs ≡ None
all_of-none f [] n d h e = absurd (omega arith)
all_of-none f (x ∷ xs) zero d h e = ap (λ o. o >>= λ z. all_of f xs >>= λ zs. Some (z ∷ zs)) e
all_of-none f (x ∷ xs) (suc n) d h e = ap (λ r. f x >>= λ z. r >>= λ zs. Some (z ∷ zs)) (all_of-none f xs n d (omega arith) e) ∙ none_second (f x)

-- the marks of what stands between commas
is_comma_token : Token → Bool
is_comma_token t = is_comma t.mark

onto_marks : (t : Token) (parts : List (List Token)) → map marks_of (onto_first t parts) ≡ onto_first t.mark (map marks_of parts)
onto_marks t [] = refl
onto_marks t (part ∷ parts) = refl

split_step : (c : Bool) (t : Token) (parts : List (List Token)) (others : List (List Mark)) → map marks_of parts ≡ others
    → map marks_of (cond c ([] ∷ parts) (onto_first t parts)) ≡ cond c ([] ∷ others) (onto_first t.mark others)
split_step true t parts others e = ap (λ v. [] ∷ v) e
split_step false t parts others e = onto_marks t parts ∙ ap (onto_first t.mark) e

pub split-marks : (tokens : List Token) → map marks_of (slice_split (λ t. is_comma t.mark) tokens) ≡ slice_split is_comma (marks_of tokens)
split-marks [] = refl
split-marks (t ∷ tokens) = split_step (is_comma t.mark) t _ _ (split-marks tokens)

all_of-map : {A B C : Type 0} (f : B → Option C) (g : A → B) (xs : List A) → all_of f (map g xs) ≡ all_of (λ x. f (g x)) xs
all_of-map f g [] = refl
all_of-map f g (x ∷ xs) = ap (λ r. f (g x) >>= λ z. r >>= λ zs. Some (z ∷ zs)) (all_of-map f g xs)

-- what some tokens are as a part
abbrev pub token_part : List Token → Option RawPart
token_part tokens = part_of (marks_of tokens)

-- the turn of some tokens
turn_of-split : (tokens : List Token) (o : Option (List RawPart)) → 0 < length tokens → all_of token_part (slice_split (λ t. is_comma t.mark) tokens) ≡ o
    → turn_of (marks_of tokens) ≡ option_map (λ parts. record { parts = plain parts }) o
turn_of-split [] o h e = absurd (omega arith)
turn_of-split (t ∷ tokens) o h e =
    ap (option_map (λ parts. record { parts = plain parts }))
    (ap (all_of part_of) (sym (split-marks (t ∷ tokens))) ∙ all_of-map part_of marks_of (slice_split (λ t. is_comma t.mark) (t ∷ tokens)) ∙ e)

-- the parts that are read so far
pub record Reads (betweens : List (List Token)) (parts : Listed RawPart) : Type 0 where
  pub parts_are : all_of token_part betweens ≡ Some parts.items
  pub unreserved : parts.spare ≡ 0

pub reads_more : (yielded : List (Bor (List Token))) (between : Bor (List Token)) (parts pushed : Listed RawPart) (part : RawPart) → Reads (map (λ b. b.now) yielded) parts → part_of (marks_of between.now) ≡ Some part
    → pushed ≡ record { items = parts.items ++ part ∷ []; spare = parts.spare - 1 } → Reads (map (λ b. b.now) (yielded ++ between ∷ [])) pushed
reads_more yielded between parts pushed part r h e =
    let s = r.unreserved in
    let none : parts.spare - 1 ≡ 0 = omega arith in
    record {
      parts_are = ap (all_of token_part) (map_push (λ b. b.now) yielded between)
          ∙ all_of-push token_part (map (λ b. b.now) yielded) between.now parts.items part r.parts_are h
          ∙ ap (λ l. Some l.items) (sym e);
      unreserved = ap (λ l. l.spare) e ∙ none;
    }

listed_is : (l : Listed RawPart) → l.spare ≡ 0 → l ≡ plain l.items
listed_is l e = ap (λ n. record { items = l.items; spare = n }) e

pub reads_all : (tokens : List Token) (betweens : List (List Token)) (parts : Listed RawPart) → 0 < length tokens → Reads betweens parts → betweens ≡ slice_split (λ t. is_comma t.mark) tokens
    → Some (record { parts = parts }) ≡ turn_of (marks_of tokens)
reads_all tokens betweens parts h r e =
    ap (λ l. Some (record { parts = l })) (listed_is parts r.unreserved)
    ∙ sym (turn_of-split tokens _ h (ap (all_of token_part) (sym e) ∙ r.parts_are))

pub reads_none : (tokens between : List Token) (n : ℕ) → 0 < length tokens → (n < length (slice_split (λ t. is_comma t.mark) tokens)) × (between ≡ get_or (slice_split (λ t. is_comma t.mark) tokens) n between) → part_of (marks_of between) ≡ None
    → None ≡ turn_of (marks_of tokens)
reads_none tokens between n h at e =
    sym (turn_of-split tokens _ h (all_of-none token_part (slice_split (λ t. is_comma t.mark) tokens) n between at.0 (ap token_part (sym at.1) ∙ e)))
