-- The way along what an entry reaches: its start, one step, and its end.
use Rattle.std.proofs.Common.{◌≡◌, ◌<◌, ◌≤◌, ◌+◌, ◌==◌, ◌⊎◌, inl, inr, ℕ, Bool, true, false, ◌&&◌, ◌||◌, cond, List, [], ◌∷◌, ◌++◌, length, get_or, refl, sym, ap, ◌∙◌, arith}
use Rattle.std.specs.Prelude.{None, Some, count_by, find, if◌then◌else◌, nat_le, nat_lt, slice_get}
use Rattle.std.specs.List.{All, list_any, range_with_len}
use Rattle.std.specs.Option.{option_map_or}
use Rattle.std.proofs.lemmas.Bool.{cases_eq, eq-eqb, ne_eqb, lt-ltb, le-ltb, le-leb, ltb-true, ltb-false}
use Rattle.std.proofs.lemmas.List.{get_or_default, length_push}
use Rattle.std.proofs.lemmas.List.Elements.{All-weaker}
use Rattle.std.proofs.lemmas.List.Folds.{list_any_none}
use Rattle.re_terms.specs.declared.program.Decl.{Decl}
use Rattle.re_terms.specs.declared.program.Program.{Program}
use Rattle.re_terms.specs.Dependencies.{IsOrdered, PlainNode, graph_of, inputs_at, is_reached}
use Rattle.re_terms.specs.Listed.{Listed}
use Rattle.re_terms.specs.Programs.{IsProgram}
use Rattle.re_terms.proofs.Ordered.{program-ordered}
use Rattle.re_graph.specs.Kept.{is_among, list_at}
use Rattle.re_graph.proofs.Lists.{list_any_same}
use Rattle.re_graph.proofs.Own.{inputs_at-none, is_reached-none}
use Rattle.re_levels.specs.declared.found.Found.{Found as One}
use Rattle.re_levels.specs.declared.ranks.Ranks.{Ranks as Set}
use Rattle.re_levels.specs.Found.{effect_among, effect_of, expressions_reached, has_expression, has_expression_at, seen_one}
use Rattle.re_levels.specs.Places.{AreReaders, IsRanking}
use Rattle.re_levels.specs.Ranks.{TakesLowest, has_rank}
use Rattle.re_levels.specs.Seen.{Sight, body_seen, seen}
use Rattle.re_levels.proofs.Counting.{count-filter, count-less, count-more}
use Rattle.re_levels.proofs.Finding.{AreFound, body_is, found_more, none_found}
use Rattle.re_levels.proofs.Seeing.{All-among}
use Rattle.re_levels.proofs.Walking.{IsDue, all_taken, due_next, is_due_in, low, none_between, order_is, taken_low, taken_more, taken_rank, taken_reached}

-- a reached declaration with a rank below this and an expression
abbrev pub is_counted : Program → Sight → List ℕ → ℕ → ℕ → Bool
is_counted p s ranks next id = (nat_lt (get_or ranks id 0) next && is_reached (graph_of p.decls.items) s.touched id) && has_expression_at p.decls.items id

-- what is due from a rank on is in the set, what is reached below it was found, and each expression there was evaluated once at most
pub record IsWalking (p : Program) (s : Sight) (order ranks : List ℕ) (dirty : Set) (found : List One) (evaluated next : ℕ) : Type 0 where
  pub due : IsDue (graph_of p.decls.items) s.touched order ranks dirty next
  pub found_all : AreFound p s ranks found next
  pub few : length found ≤ next
  pub once : evaluated ≤ count_by (is_counted p s ranks next) (range_with_len 0 (length (graph_of p.decls.items)))
  pub short : evaluated ≤ length found

abbrev unit_of : Bool → ℕ
unit_of b = cond b 1 0

one_less : (b c : Bool) → (b ≡ true → c ≡ true) → cond b 1 0 ≤ cond c 1 0
one_less true c h = let one : ℕ = 1 in let e : cond c 1 0 ≡ one = ap (λ x. cond x 1 0) (h refl) in omega (arith, e)
one_less false c h = omega arith

and_first : (a b : Bool) → (a && b) ≡ true → a ≡ true
and_first true b h = refl
and_first false b h = h

and_second : (a b : Bool) → (a && b) ≡ true → b ≡ true
and_second true b h = h
and_second false b h = absurd (let no : false ≡ true = h in cc)

both_true : (a b : Bool) → a ≡ true → b ≡ true → (a && b) ≡ true
both_true a b e f = ap (λ x. x && b) e ∙ f

or_false : (b : Bool) → (b || false) ≡ b
or_false true = refl
or_false false = refl

and_false : (b : Bool) → (b && false) ≡ false
and_false true = refl
and_false false = refl

-- ranks of few declarations are few
pub ranks_few : (graph : List PlainNode) (order ranks : List ℕ) → IsRanking graph order ranks → length graph ≤ 512 → (k d : ℕ) → k < length ranks → get_or ranks k d < 512
ranks_few graph order ranks ranking few k d within =
    let low = ranking.low k (let c = ranking.rank_count in omega arith) in
    let same : get_or ranks k d ≡ get_or ranks k 0 = get_or_default ranks k d 0 within in
    omega (arith, low, same)

reader_by : (graph : List PlainNode) (x id : ℕ) → is_among (inputs_at graph x) id ≡ true → (b : Bool) → nat_lt x (length graph) ≡ b → x < length graph
reader_by graph x id among true lt = ltb-true x (length graph) lt
reader_by graph x id among false lt = absurd (let no : false ≡ true = sym (ap (λ xs. is_among xs id) (inputs_at-none graph x (ltb-false x (length graph) lt))) ∙ among in cc)

-- who names a declaration is declared
pub readers_low : (graph : List PlainNode) (readers : List (Listed ℕ)) → AreReaders graph readers → (id : ℕ) → All (λ x. x < length graph) (list_at readers id)
readers_low graph readers are id = All-weaker (λ x. is_among (list_at readers id) x ≡ true) (λ x. x < length graph) (λ x among. reader_by graph x id (sym (are.links id x) ∙ among) (nat_lt x (length graph)) refl) (list_at readers id) (All-among (list_at readers id))

module _ (p : Program) (program : IsProgram p) (s : Sight) (order ranks : List ℕ) (ranking : IsRanking (graph_of p.decls.items) order ranks) where
  abbrev graph : List PlainNode
  graph = graph_of p.decls.items

  abbrev R : ℕ → Bool
  R = is_reached graph s.touched

  abbrev rank : ℕ → ℕ
  rank id = get_or ranks id 0

  abbrev at : ℕ → ℕ
  at r = get_or order r 0

  same_test : (r x : ℕ) → r < length graph → x < length graph → (rank x ≡ r) ⊎ (rank x ≡ r → ⊥) → (rank x == r) ≡ (x == at r)
  same_test r x low_r inside (inl e) = eq-eqb (rank x) r e ∙ sym (eq-eqb x (at r) (sym (ranking.back x inside) ∙ ap at e))
  same_test r x low_r inside (inr other) = ne_eqb (rank x) r other ∙ sym (ne_eqb x (at r) (λ e. other (ap rank e ∙ ranking.again r low_r)))

  start_by : (dirty : Set) → ((r : ℕ) → has_rank dirty r ≡ list_any (λ x. rank x == r) s.touched) → All (λ x. x < length graph) s.touched → (r : ℕ) → (b : Bool) → nat_lt r (length graph) ≡ b → has_rank dirty r ≡ (nat_lt r (length graph) && (nat_le 0 r && is_due_in graph s.touched ranks 0 (at r)))
  start_by dirty marked declared r true is =
      let low_r : r < length graph = ltb-true r (length graph) is in
      marked r
      ∙ list_any_same (λ x. rank x == r) (λ x. x == at r) s.touched (All-weaker (λ x. x < length graph) (λ x. (rank x == r) ≡ (x == at r)) (λ x inside. same_test r x low_r inside (cases_eq (rank x) r)) s.touched declared)
      ∙ sym (or_false (is_among s.touched (at r)))
      ∙ ap (λ b. is_among s.touched (at r) || b) (sym (list_any_none (λ input. nat_lt (rank input) 0 && R input) (inputs_at graph (at r)) (λ k d within. ap (λ b. b && R (get_or (inputs_at graph (at r)) k d)) (le-ltb (rank (get_or (inputs_at graph (at r)) k d)) 0 (omega arith)))))
      ∙ sym (ap (λ b. b && (nat_le 0 r && is_due_in graph s.touched ranks 0 (at r))) is ∙ ap (λ b. b && is_due_in graph s.touched ranks 0 (at r)) (le-leb 0 r (omega arith)))
  start_by dirty marked declared r false is =
      let past : length graph ≤ r = ltb-false r (length graph) is in
      marked r
      ∙ list_any_none (λ x. rank x == r) s.touched (All-weaker (λ x. x < length graph) (λ x. (rank x == r) ≡ false) (λ x inside. ne_eqb (rank x) r (λ e. absurd (let l = ranking.low x inside in omega arith))) s.touched declared)
      ∙ ap (λ b. b && (nat_le 0 r && is_due_in graph s.touched ranks 0 (at r))) (sym is)

  -- at the start the touched are due, and nothing was found
  pub walk_start : (dirty : Set) → ((r : ℕ) → has_rank dirty r ≡ list_any (λ x. rank x == r) s.touched) → All (λ x. x < length graph) s.touched → IsWalking p s order ranks dirty [] 0 0
  walk_start dirty marked declared = record {
    due = record { within = omega arith; due = λ r. start_by dirty marked declared r (nat_lt r (length graph)) refl };
    found_all = none_found p s ranks;
    few = omega arith;
    once = omega arith;
    short = omega arith;
  }

  -- no more were evaluated than there are expressions among what is reached
  pub once_most : (next : ℕ) → count_by (is_counted p s ranks next) (range_with_len 0 (length graph)) ≤ expressions_reached p s.touched
  once_most next =
      let less = count-less (is_counted p s ranks next) (λ id. R id && has_expression_at p.decls.items id) (range_with_len 0 (length graph)) (λ id. one_less (is_counted p s ranks next id) (R id && has_expression_at p.decls.items id)
      (λ h. let a = and_first (nat_lt (rank id) next && R id) (has_expression_at p.decls.items id) h in
      let b = and_second (nat_lt (rank id) next && R id) (has_expression_at p.decls.items id) h in
      both_true (R id) (has_expression_at p.decls.items id) (and_second (nat_lt (rank id) next) (R id) a) b)) in
      let all = count-filter (has_expression_at p.decls.items) R (range_with_len 0 (length graph)) in
      omega (arith, less, all)

  module _ (dirty : Set) (found : List One) (evaluated next : ℕ) (walking : IsWalking p s order ranks dirty found evaluated next) where
    end_by : (id : ℕ) → Bool → ((r : ℕ) → has_rank dirty r ≡ false) → (b c : Bool) → nat_lt id (length graph) ≡ b → nat_lt (rank id) next ≡ c → (nat_lt (rank id) next && R id) ≡ R id
    end_by id x empty true true lt under = ap (λ b. b && R id) under
    end_by id x empty true false lt under =
        let off = all_taken graph s.touched order ranks (program-ordered p program) ranking dirty next walking.due empty (rank id + 1) id (ltb-true id (length graph) lt) (ltb-false (rank id) next under) (omega arith) in
        ap (λ b. b && R id) under ∙ sym off
    end_by id x empty false c lt under =
        let off = is_reached-none graph s.touched id (ltb-false id (length graph) lt) in
        ap (λ b. nat_lt (rank id) next && b) off ∙ and_false (nat_lt (rank id) next) ∙ sym off

    -- at the end all that is reached was found
    pub walk_end : ((r : ℕ) → has_rank dirty r ≡ false) → (id : ℕ) → find (λ f. f.id == id) found ≡ (if R id then Some (seen_one p s id) else None)
    walk_end empty id = walking.found_all id ∙ ap (λ b. if b then Some (seen_one p s id) else None) (end_by id true empty (nat_lt id (length graph)) (nat_lt (rank id) next) refl refl)

    module _ (left : Set) (k : ℕ) (takes : TakesLowest dirty left k) where
      abbrev ordered : IsOrdered graph
      ordered = program-ordered p program

      pub step_low : k < length graph
      step_low = low graph s.touched order ranks ordered ranking dirty next walking.due left k takes

      pub step_declared : at k < length graph
      step_declared = taken_low graph s.touched order ranks ordered ranking dirty next walking.due left k takes

      pub step_few : length found < length graph
      step_few = let from = order_is graph s.touched order ranks ordered ranking dirty next walking.due left k takes in let l = step_low in let f = walking.few in omega (arith, from, l, f)

      own_rank : rank (at k) ≡ k
      own_rank = taken_rank graph s.touched order ranks ordered ranking dirty next walking.due left k takes

      own_reached : R (at k) ≡ true
      own_reached = taken_reached graph s.touched order ranks ordered ranking dirty next walking.due left k takes

      from_next : next ≤ k
      from_next = order_is graph s.touched order ranks ordered ranking dirty next walking.due left k takes

      module _ (d : Decl) (here : slice_get p.decls.items (at k) ≡ Some d) (more : ℕ) (most : more ≤ evaluated + cond (has_expression d.body) 1 0) where
        grows : (id : ℕ) → cond (is_counted p s ranks next id) 1 0 ≤ cond (is_counted p s ranks (k + 1) id) 1 0
        grows id = one_less (is_counted p s ranks next id) (is_counted p s ranks (k + 1) id) (λ h.
            let a = and_first (nat_lt (rank id) next && R id) (has_expression_at p.decls.items id) h in
            let b = and_second (nat_lt (rank id) next && R id) (has_expression_at p.decls.items id) h in
            let under : rank id < next = ltb-true (rank id) next (and_first (nat_lt (rank id) next) (R id) a) in
            let from = from_next in
            both_true (nat_lt (rank id) (k + 1) && R id) (has_expression_at p.decls.items id) (both_true (nat_lt (rank id) (k + 1)) (R id) (lt-ltb (rank id) (k + 1) (omega arith)) (and_second (nat_lt (rank id) next) (R id) a)) b)

        not_yet : is_counted p s ranks next (at k) ≡ false
        not_yet = let own = own_rank in let from = from_next in ap (λ b. (b && R (at k)) && has_expression_at p.decls.items (at k)) (le-ltb (rank (at k)) next (omega (arith, own, from)))

        now : is_counted p s ranks (k + 1) (at k) ≡ has_expression d.body
        now =
            let own = own_rank in
            ap (λ b. (b && R (at k)) && has_expression_at p.decls.items (at k)) (lt-ltb (rank (at k)) (k + 1) (omega (arith, own)))
            ∙ ap (λ b. b && has_expression_at p.decls.items (at k)) own_reached
            ∙ ap (λ o. option_map_or (λ x. has_expression x.body) o false) here

        -- each expression was evaluated once at most, this one too
        pub step_once : more ≤ count_by (is_counted p s ranks (k + 1)) (range_with_len 0 (length graph))
        step_once =
            let one : unit_of (is_counted p s ranks (k + 1) (at k)) ≡ unit_of (has_expression d.body) = ap unit_of now in
            let count = count-more (is_counted p s ranks next) (is_counted p s ranks (k + 1)) (at k) 0 (length graph) grows not_yet (omega arith) (let l = step_declared in omega (arith, l)) in
            let so_far = walking.once in
            omega (arith, most, one, count, so_far)

        pub step_most : more ≤ expressions_reached p s.touched
        step_most = let a = step_once in let b = once_most (k + 1) in omega (arith, a, b)

        module _ (f : One) (own : f.id ≡ at k) (made : effect_of f ≡ body_seen s (at k) d.body (effect_among s.old found)) where
          is_seen : f ≡ seen_one p s (at k)
          is_seen =
              let same : effect_of f ≡ seen p s (at k) = made ∙ body_is p program s order ranks ranking found next k walking.found_all from_next (at k) own_rank own_reached
              (none_between graph s.touched order ranks ordered ranking dirty next walking.due left k takes) (taken_more graph s.touched order ranks ordered ranking dirty next walking.due left k takes) d here in
              λ i. record { id = own i; word = (same i).word; value = (same i).occurrence }

          -- one step
          pub walk_step : (new : Set) (readers : List ℕ) → ((r : ℕ) → has_rank new r ≡ (has_rank left r || list_any (λ x. rank x == r) readers)) → ((other : ℕ) → is_among readers other ≡ is_among (inputs_at graph other) (at k)) → IsWalking p s order ranks new (found ++ f ∷ []) more (k + 1)
          walk_step new readers marked links = record {
            due = due_next graph s.touched order ranks ordered ranking dirty next walking.due left k takes new readers marked links;
            found_all = found_more p program s order ranks ranking found next k walking.found_all from_next (at k) own_rank own_reached
                (none_between graph s.touched order ranks ordered ranking dirty next walking.due left k takes) (taken_more graph s.touched order ranks ordered ranking dirty next walking.due left k takes) f is_seen;
            few = let from = from_next in let few = walking.few in omega (arith, length_push found f, from, few);
            once = step_once;
            short = let h = walking.short in let c = one_less (has_expression d.body) true (λ e. refl) in omega (arith, length_push found f, most, h, c);
          }
