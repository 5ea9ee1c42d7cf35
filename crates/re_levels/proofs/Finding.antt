-- What is found along the ranks is what is seen.
use Rattle.std.proofs.Common.{◌≡◌, ◌<◌, ◌≤◌, ◌+◌, ◌==◌, ◌⊎◌, inl, inr, ℕ, Bool, true, false, ◌&&◌, ◌||◌, List, [], ◌∷◌, ◌++◌, length, get_or, refl, sym, ap, subst, ◌∙◌, arith}
use Rattle.std.specs.Prelude.{Option, None, Some, find, if◌then◌else◌, nat_lt, slice_get}
use Rattle.std.specs.List.{All}
use Rattle.std.specs.Option.{option_map_or}
use Rattle.std.proofs.lemmas.Bool.{cases_eq, eq-eqb, ne_eqb, lt-ltb, le-ltb, ltb-true, ltb-false}
use Rattle.std.proofs.lemmas.List.{length-map}
use Rattle.std.proofs.lemmas.List.Elements.{All-nil, All-cons, All-head, All-tail}
use Rattle.std.proofs.lemmas.Option.{slice_get_within}
use Rattle.re_terms.specs.declared.program.Decl.{Decl}
use Rattle.re_terms.specs.declared.program.Program.{Program}
use Rattle.re_terms.specs.Dependencies.{PlainNode, below, graph_of, inputs, inputs_at, is_reached, node_of}
use Rattle.re_terms.specs.Programs.{IsProgram}
use Rattle.re_terms.specs.Propagation.{Effect, no_effect, word_effect}
use Rattle.re_terms.proofs.Ordered.{inputs-before}
use Rattle.re_graph.specs.Kept.{is_among}
use Rattle.re_graph.proofs.Own.{below-places, is_reached-none}
use Rattle.re_levels.specs.declared.found.Found.{Found as One}
use Rattle.re_levels.specs.Found.{effect_among, effect_of, seen_one}
use Rattle.re_levels.specs.Places.{IsRanking}
use Rattle.re_levels.specs.Seen.{Sight, body_seen, place_seen, seen}
use Rattle.re_levels.proofs.Bodies.{IsInputAlike, body-alike}
use Rattle.re_levels.proofs.Seeing.{All-among, seen-reached, seen-unreached}
use Rattle.re_levels.proofs.Unreached.{inputs_of}

abbrev first_of : Option One → Option One → Option One
first_of None other = other
first_of (Some f) other = Some f

-- one more at the end is found where none was
find_by : (p : One → Bool) (y x : One) (here more : Option One) (b : Bool) → more ≡ first_of here (if p x then Some x else None) → (if b then Some y else more) ≡ first_of (if b then Some y else here) (if p x then Some x else None)
find_by p y x here more true h = refl
find_by p y x here more false h = h

find_push : (p : One → Bool) (xs : List One) (x : One) → find p (xs ++ x ∷ []) ≡ first_of (find p xs) (if p x then Some x else None)
find_push p [] x = refl
find_push p (y ∷ xs) x = find_by p y x (find p xs) (find p (xs ++ x ∷ [])) (p y) (find_push p xs x)

-- what was found is what is seen of the reached declarations with ranks below a rank
abbrev pub AreFound : Program → Sight → List ℕ → List One → ℕ → Type 0
AreFound p s ranks found next = (id : ℕ) → find (λ f. f.id == id) found ≡ (if nat_lt (get_or ranks id 0) next && is_reached (graph_of p.decls.items) s.touched id then Some (seen_one p s id) else None)

pub none_found : (p : Program) (s : Sight) (ranks : List ℕ) → AreFound p s ranks [] 0
none_found p s ranks id = ap (λ b. if b && is_reached (graph_of p.decls.items) s.touched id then Some (seen_one p s id) else None) (sym (le-ltb (get_or ranks id 0) 0 (omega arith)))

module _ (p : Program) (program : IsProgram p) (s : Sight) (order ranks : List ℕ) (ranking : IsRanking (graph_of p.decls.items) order ranks) where
  abbrev graph : List PlainNode
  graph = graph_of p.decls.items

  abbrev R : ℕ → Bool
  R = is_reached graph s.touched

  abbrev rank : ℕ → ℕ
  rank id = get_or ranks id 0

  module _ (found : List One) (next k : ℕ) (are : AreFound p s ranks found next) (from : next ≤ k) (taken : ℕ) (taken_rank : rank taken ≡ k) (taken_reached : R taken ≡ true) (none_between : (id : ℕ) → id < length graph → next ≤ rank id → rank id < k → R id ≡ false) (taken_more : (i : ℕ) → i < length graph → (nat_lt (rank i) (k + 1) && R i) ≡ ((nat_lt (rank i) next && R i) || (i == taken))) where
    module _ (d : Decl) (at : slice_get p.decls.items taken ≡ Some d) where
      inside : taken < length p.decls.items
      inside = slice_get_within p.decls.items taken d at

      abbrev F : ℕ → Effect
      F = below no_effect (place_seen p s) taken

      abbrev Alike : ℕ → Type 0
      Alike = IsInputAlike p s s (effect_among s.old found) F

      found_on : (n : ℕ) → n < length graph → rank n < k → R n ≡ true → (b : Bool) → nat_lt (rank n) next ≡ b → find (λ f. f.id == n) found ≡ Some (seen_one p s n)
      found_on n within under on true lt = are n ∙ ap (λ b. if b && R n then Some (seen_one p s n) else None) lt ∙ ap (λ b. if b then Some (seen_one p s n) else None) on
      found_on n within under on false lt = absurd (let off = none_between n within (ltb-false (rank n) next lt) under in let no : true ≡ false = sym on ∙ off in cc)

      found_off : (n : ℕ) → R n ≡ false → (b : Bool) → nat_lt (rank n) next ≡ b → find (λ f. f.id == n) found ≡ None
      found_off n off true lt = are n ∙ ap (λ b. if b && R n then Some (seen_one p s n) else None) lt ∙ ap (λ b. if b then Some (seen_one p s n) else None) off
      found_off n off false lt = are n ∙ ap (λ b. if b && R n then Some (seen_one p s n) else None) lt

      same_by : (n : ℕ) → n < taken → rank n < k → (b : Bool) → R n ≡ b → effect_among s.old found n ≡ F n
      same_by n lower under true on =
          let declared : n < length graph = omega (arith, lower, inside, length-map p.decls.items node_of) in
          ap (λ o. option_map_or effect_of o (word_effect (s.old.word n))) (found_on n declared under on (nat_lt (rank n) next) refl)
          ∙ below-places no_effect (place_seen p s) (length p.decls.items) taken n (omega (arith, lower, inside)) lower
      same_by n lower under false off =
          ap (λ o. option_map_or effect_of o (word_effect (s.old.word n))) (found_off n off (nat_lt (rank n) next) refl)
          ∙ sym (seen-unreached p s n (omega (arith, lower, inside)) off)
          ∙ below-places no_effect (place_seen p s) (length p.decls.items) taken n (omega (arith, lower, inside)) lower

      alike_all : (xs : List ℕ) → All (λ n. n < taken) xs → All (λ n. is_among (inputs_at graph taken) n ≡ true) xs → All Alike xs
      alike_all [] a b = All-nil Alike
      alike_all (x ∷ xs) a b =
          let lower : x < taken = All-head (λ n. n < taken) x xs a in
          let under = ranking.later taken x (All-head (λ n. is_among (inputs_at graph taken) n ≡ true) x xs b) in
          let same = same_by x lower (omega (arith, under, taken_rank)) (R x) refl in
          All-cons Alike x xs (record { word = λ valued. ap (λ e. e.word) same; occurrence = ap (λ e. e.occurrence) same; before = λ valued. refl; size = λ set. refl; has = λ set w. refl })
          (alike_all xs (All-tail (λ n. n < taken) x xs a) (All-tail (λ n. is_among (inputs_at graph taken) n ≡ true) x xs b))

      among : All (λ n. is_among (inputs_at graph taken) n ≡ true) (inputs d.body)
      among = subst (λ xs. All (λ n. is_among xs n ≡ true) (inputs d.body)) (sym (inputs_of p taken d at)) (All-among (inputs d.body))

      -- what is made of what was found is what is seen
      pub body_is : body_seen s taken d.body (effect_among s.old found) ≡ seen p s taken
      body_is =
          body-alike p program taken d at s s (effect_among s.old found) F refl refl (λ valued. refl) (λ replicated valued. refl) (alike_all (inputs d.body) (inputs-before p program taken d at) among)
          ∙ sym (seen-reached p s taken d at taken_reached)

    more_by : (id : ℕ) → (b : Bool) → nat_lt id (length graph) ≡ b → (id ≡ taken → ⊥) → (nat_lt (rank id) next && R id) ≡ (nat_lt (rank id) (k + 1) && R id)
    more_by id true lt other = sym (taken_more id (ltb-true id (length graph) lt) ∙ ap (λ b. (nat_lt (rank id) next && R id) || b) (ne_eqb id taken other) ∙ or_false (nat_lt (rank id) next && R id))
      where
        or_false : (b : Bool) → (b || false) ≡ b
        or_false true = refl
        or_false false = refl
    more_by id false lt other =
        let off = is_reached-none graph s.touched id (ltb-false id (length graph) lt) in
        ap (λ b. nat_lt (rank id) next && b) off ∙ and_false (nat_lt (rank id) next) ∙ sym (ap (λ b. nat_lt (rank id) (k + 1) && b) off ∙ and_false (nat_lt (rank id) (k + 1)))
      where
        and_false : (b : Bool) → (b && false) ≡ false
        and_false true = refl
        and_false false = refl

    found_by : (f : One) → f ≡ seen_one p s taken → (id : ℕ) → (id ≡ taken) ⊎ (id ≡ taken → ⊥) → find (λ g. g.id == id) (found ++ f ∷ []) ≡ (if nat_lt (rank id) (k + 1) && R id then Some (seen_one p s id) else None)
    found_by f is id (inl e) =
        let own : rank id ≡ k = ap rank e ∙ taken_rank in
        let on : R id ≡ true = ap R e ∙ taken_reached in
        let none : find (λ g. g.id == id) found ≡ None = are id ∙ ap (λ b. if b && R id then Some (seen_one p s id) else None) (le-ltb (rank id) next (omega (arith, own, from))) in
        let here : (f.id == id) ≡ true = eq-eqb f.id id (ap (λ g. g.id) is ∙ sym e) in
        find_push (λ g. g.id == id) found f
        ∙ ap (λ o. first_of o (if f.id == id then Some f else None)) none
        ∙ ap (λ b. if b then Some f else None) here
        ∙ ap Some (is ∙ ap (seen_one p s) (sym e))
        ∙ sym (ap (λ b. if b && R id then Some (seen_one p s id) else None) (lt-ltb (rank id) (k + 1) (omega (arith, own))) ∙ ap (λ b. if b then Some (seen_one p s id) else None) on)
    found_by f is id (inr other) =
        let away : (f.id == id) ≡ false = ne_eqb f.id id (λ e. other (sym e ∙ ap (λ g. g.id) is)) in
        find_push (λ g. g.id == id) found f
        ∙ ap (λ b. first_of (find (λ g. g.id == id) found) (if b then Some f else None)) away
        ∙ first_none (find (λ g. g.id == id) found)
        ∙ are id
        ∙ ap (λ b. if b then Some (seen_one p s id) else None) (more_by id (nat_lt id (length graph)) refl other)
      where
        first_none : (o : Option One) → first_of o None ≡ o
        first_none None = refl
        first_none (Some g) = refl

    -- one more is found
    pub found_more : (f : One) → f ≡ seen_one p s taken → AreFound p s ranks (found ++ f ∷ []) (k + 1)
    found_more f is id = found_by f is id (cases_eq id taken)
