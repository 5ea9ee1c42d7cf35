-- Each kind of step keeps the rule.
use Rattle.std.proofs.Common.{◌≡◌, ◌≢◌, ◌⊎◌, ℕ, zero, suc, ◌+◌, ◌<◌, List, [], ◌∷◌, ◌++◌, length, set, Option, Some, None, eqb, eq-eqb, ne_eqb, refl, sym, ap, ◌∙◌, subst, ⊎_elim, inl, inr, arith, length-append}
use Rattle.std.specs.Prelude.{slice_index}
use mathlib.Core.Option.{some, some-ne-none, some-injective}
use lib.ListN.{get_elem?}
use prog.Atomic.{either}
use Rattle.atomic_table.specs.Table.{State, Me, keeps, Allows, Splits, Joins}
use Rattle.atomic_table.proofs.Lists.{at_set, exchanged}
use Rattle.re_history.specs.declared.rule.Pen.{Pen}
use Rattle.re_history.specs.declared.rule.Chair.{Chair}
use Rattle.re_history.specs.declared.rule.View.{View}
use Rattle.re_history.specs.Items.{next_item}
use Rattle.re_history.specs.Rule.{nobody, of_pen, of_chair, of_both, first_pen, empty_pen, new_chair, one_more, next_chair, pen_of, chair_of, without_pen, pen_alone, with_pen, counted, caught_up, halted, stop_word, Stands, Counts, Looks, FitsPen, Fits, Keeps}
use Rattle.re_history.proofs.Items.{items_of-same, items_of-other, prefix_longer, prefix_self}

-- a fact of each view of a list, after one was changed, and after one more
each_set : {A : Type 0} (F : ℕ → A → Type 0) (views : List A) (by : ℕ) (w : A) → ((j : ℕ) (u : A) → j ≢ by → get_elem? views j ≡ some u → F j u) → F by w → (j : ℕ) (u : A) → get_elem? (set views by w) j ≡ some u → F j u
each_set {A} F views by w others mine j u e =
    ⊎_elim
    (λ (x : (j ≡ by) × (w ≡ u)). subst (λ (y : ℕ × A). F y.0 y.1) (λ i. (sym x.0 i, x.1 i)) mine)
    (λ (x : (j ≢ by) × (get_elem? views j ≡ some u)). others j u x.0 x.1)
    (at_set views by j w u e)

snoc_at : {A : Type 0} (l : List A) (a b : A) (j : ℕ) → get_elem? (l ++ a ∷ []) j ≡ some b → ((j < length l) × (get_elem? l j ≡ some b)) ⊎ ((j ≡ length l) × (a ≡ b))
snoc_at [] a b zero e = inr (refl, some-injective a b e)
snoc_at [] a b (suc j) e = absurd (some-ne-none b (sym e))
snoc_at (x ∷ xs) a b zero e = inl ((omega arith), e)
snoc_at (x ∷ xs) a b (suc j) e = ⊎_elim (λ t. let less = t.0 in inl ((omega arith), t.1)) (λ t. inr (ap suc t.0, t.1)) (snoc_at xs a b j e)

each_snoc : {A : Type 0} (F : ℕ → A → Type 0) (views : List A) (w : A) → ((j : ℕ) (u : A) → j < length views → get_elem? views j ≡ some u → F j u) → F (length views) w → (j : ℕ) (u : A) → get_elem? (views ++ w ∷ []) j ≡ some u → F j u
each_snoc {A} F views w others mine j u e =
    ⊎_elim
    (λ (x : (j < length views) × (get_elem? views j ≡ some u)). others j u x.0 x.1)
    (λ (x : (j ≡ length views) × (w ≡ u)). subst (λ (y : ℕ × A). F y.0 y.1) (λ i. (sym x.0 i, x.1 i)) mine)
    (snoc_at views w u j e)

none_some : {A : Type 0} (x : A) → None ≡ Some x → ⊥
none_some x e = cc e

some_same : {A : Type 0} (x y : A) → Some x ≡ Some y → x ≡ y
some_same x y e = cc e

count_words : (ws : List ℕ) (n stop old m : ℕ) → ws ≡ n ∷ stop ∷ [] → old ≡ n → m ≡ n + 1 → set ws 0 (either (eqb (slice_index ws 0) old) (old + 1) (slice_index ws 0)) ≡ m ∷ stop ∷ []
count_words ws n stop old m is same more =
    subst (λ (l : List ℕ). set l 0 (either (eqb (slice_index l 0) old) (old + 1) (slice_index l 0)) ≡ m ∷ stop ∷ []) (sym is)
    (exchanged n old (old + 1) (λ w. w ∷ stop ∷ [] ≡ m ∷ stop ∷ []) (λ hit. ap (λ w. w ∷ stop ∷ []) (omega arith)) (λ miss. absurd (miss (sym same))))

load_words : (ws : List ℕ) (n stop : ℕ) → ws ≡ n ∷ stop ∷ [] → set ws 0 (slice_index ws 0) ≡ n ∷ stop ∷ []
load_words ws n stop is = subst (λ (l : List ℕ). set l 0 (slice_index l 0) ≡ n ∷ stop ∷ []) (sym is) refl

stop_words : (ws : List ℕ) (n stop at : ℕ) → ws ≡ n ∷ stop ∷ [] → set ws 1 at ≡ n ∷ at ∷ []
stop_words ws n stop at is = subst (λ (l : List ℕ). set l 1 at ≡ n ∷ at ∷ []) (sym is) refl

module _ {T : Type 0} where
  -- what the rule says of each view, at a pen that is known
  Each : ℕ → (ℕ → ℕ) → Pen T → List (View T) → Type 0
  Each home places pen views = (by : ℕ) (v : View T) → get_elem? views by ≡ some v → Fits home places pen by v

  -- at the place with the pen, the pen is the board's
  known : (s : State T (View T)) (k : Keeps s) (id : ℕ) (v : View T) (p : Pen T) → get_elem? s.views id ≡ some v → v.pen ≡ Some p → (id ≡ k.home) × (p ≡ k.pen)
  known s k id v p at is = (k.each id v at).0 p is

  -- elsewhere there is no pen
  elsewhere : (home : ℕ) (places : ℕ → ℕ) (pen : Pen T) (id j : ℕ) (u : View T) (home' : ℕ) (pen' : Pen T) → id ≡ home → j ≢ id → Fits home places pen j u → FitsPen home' pen' j u
  elsewhere home places pen id j u home' pen' here apart fits p is = absurd (apart ((fits.0 p is).0 ∙ sym here))

  pub parts : (id : ℕ) (v : View T) (p : Pen T) → v.pen ≡ Some p → Splits Keeps id v (without_pen v) (pen_alone v)
  parts id v p is s k at =
      let mine = known s k id v p at is in
      let views = set s.views id (without_pen v) in
      let F : ℕ → View T → Type 0 = Fits (length views) k.places k.pen in
      record {
        home = length views;
        places = k.places;
        pen = k.pen;
        words = k.words;
        each = each_snoc F views (pen_alone v)
            (λ j u _ e. each_set F s.views id (without_pen v)
            (λ i y apart e'. (elsewhere k.home k.places k.pen id i y (length views) k.pen mine.0 apart (k.each i y e'), (k.each i y e').1))
            ((λ q none. absurd (none_some q none)), (k.each id v at).1)
            j u e)
            ((λ q same. (refl, ((k.each id v at).0 q same).1)), (λ c none. absurd (none_some c none)));
      }

  pub takes : (id : ℕ) (v : View T) (other : ℕ) (w : View T) (p : Pen T) → w.pen ≡ Some p → Joins Keeps id v other w (with_pen v w) nobody
  takes id v other w p is s k at apart there =
      let was : get_elem? s.views other ≡ some w = ⊎_elim (λ (t : (other ≡ id) × (with_pen v w ≡ w)). absurd (apart t.0)) (λ (t : (other ≢ id) × (get_elem? s.views other ≡ some w)). t.1) (at_set s.views id other (with_pen v w) w there) in
      let theirs = known s k other w p was is in
      let F : ℕ → View T → Type 0 = Fits id k.places k.pen in
      let others : (j : ℕ) (u : View T) → j ≢ other → get_elem? s.views j ≡ some u → F j u = λ j u far e. (elsewhere k.home k.places k.pen other j u id k.pen theirs.0 far (k.each j u e), (k.each j u e).1) in
      let mine : F id (with_pen v w) = ((λ q same. (refl, ((k.each other w was).0 q same).1)), (k.each id v at).1) in
      record {
        home = id;
        places = k.places;
        pen = k.pen;
        words = k.words;
        each = each_set F (set s.views id (with_pen v w)) other nobody
            (λ j u far e. ⊎_elim
            (λ (x : (j ≡ id) × (with_pen v w ≡ u)). subst (λ (y : ℕ × View T). F y.0 y.1) (λ i. (sym x.0 i, x.1 i)) mine)
            (λ (x : (j ≢ id) × (get_elem? s.views j ≡ some u)). others j u far x.1)
            (at_set s.views id j (with_pen v w) u e))
            ((λ q none. absurd (none_some q none)), (λ c none. absurd (none_some c none)));
      }

  -- the list and the stop of a known pen are in the words
  two_words : (s : State T (View T)) (k : Keeps s) (p : Pen T) → p ≡ k.pen → s.words ≡ length p.items ∷ stop_word p.stop ∷ []
  two_words s k p same = k.words ∙ ap (λ (q : Pen T). length q.items ∷ stop_word q.stop ∷ []) (sym same)

  at_pen : (s : State T (View T)) (k : Keeps s) (p : Pen T) → p ≡ k.pen → (by : ℕ) (v : View T) → get_elem? s.views by ≡ some v → Fits k.home k.places p by v
  at_pen s k p same by v at = subst (λ (q : Pen T). Fits k.home k.places q by v) (sym same) (k.each by v at)

  -- what another chair knows stands in a longer list too
  longer : (p : Pen T) (c d : Chair T) (x : T) (made : ℕ) → c.number ≢ d.number → Stands p d → Stands record { items = p.items ++ next_item c.number c.own x ∷ []; stop = p.stop; made = made } d
  longer p c d x made apart a = (prefix_longer d.front p.items (next_item c.number c.own x ∷ []) a.0, a.1 ∙ sym (items_of-other c.number d.number p.items c.own x apart), a.2)

  pub counts : (slots id : ℕ) (held : List (ℕ × T)) (p : Pen T) (c : Chair T) (x : T) (old : ℕ) → old ≡ length p.items
      → Allows Keeps slots id (of_both p c, held) 0 (λ n. either (eqb n old) (old + 1) n) (λ found w. Counts (some x) (of_both p c) w.0 × (w.1 ≡ held))
  counts slots id held p c x old len s k _ at small =
      let mine = known s k id (of_both p c) p at refl in
      let each = at_pen s k p mine.1 in
      let here = (each id (of_both p c) at).1 c refl in
      let item = next_item c.number c.own x in
      let items = p.items ++ item ∷ [] in
      let q : Pen T = record { items = items; stop = p.stop; made = p.made } in
      let F : ℕ → View T → Type 0 = Fits k.home k.places q in (
        counted p c x,
        keeps,
        tt,
        record {
          home = k.home;
          places = k.places;
          pen = q;
          words = count_words s.words (length p.items) (stop_word p.stop) old (length items) (two_words s k p mine.1) len (length-append p.items (item ∷ []));
          each = each_set F s.views id (counted p c x)
              (λ j u far e. (
                elsewhere k.home k.places p id j u k.home q mine.0 far (each j u e),
                λ d is. let there = (each j u e).1 d is in (there.0, there.1, longer p c d x p.made (λ same. far (there.0 ∙ ap k.places (sym same) ∙ sym here.0)) there.2),
              )) (
                (λ r same. (mine.0, sym (some_same q r same))),
                λ d same. subst (λ (y : Chair T). (id ≡ k.places y.number) × (y.number < p.made) × Stands q y) (some_same _ d same)
                    (here.0, here.1, (prefix_self items, (ap (λ l. l ++ item ∷ []) here.2.1 ∙ sym (items_of-same c.number p.items c.own x)), here.2.2)),
              );
        },
        ((λ y same. (ap (counted p c) (some-injective x y same), here.2)), refl),
      )

  pub looks : (slots id : ℕ) (held : List (ℕ × T)) (p : Pen T) (c : Chair T) → Allows Keeps slots id (of_both p c, held) 0 (λ n. n) (λ found w. Looks (of_both p c) w.0 × (w.1 ≡ held))
  looks slots id held p c s k _ at small =
      let mine = known s k id (of_both p c) p at refl in
      let each = at_pen s k p mine.1 in
      let here = (each id (of_both p c) at).1 c refl in
      let F : ℕ → View T → Type 0 = Fits k.home k.places p in (
        caught_up p c,
        keeps,
        tt,
        record {
          home = k.home;
          places = k.places;
          pen = p;
          words = load_words s.words (length p.items) (stop_word p.stop) (two_words s k p mine.1);
          each = each_set F s.views id (caught_up p c)
              (λ j u far e. each j u e) (
                (λ r same. (mine.0, sym (some_same p r same))),
                λ d same. subst (λ (y : Chair T). (id ≡ k.places y.number) × (y.number < p.made) × Stands p y) (some_same _ d same)
                    (here.0, here.1, (prefix_self p.items, here.2.1, λ at e. e)),
              );
        },
        ((refl, here.2), refl),
      )

  pub halts : (slots id : ℕ) (held : List (ℕ × T)) (p : Pen T) (new : ℕ) → p.stop ≡ None → Allows Keeps slots id (of_pen p, held) 1 (λ _. new) (λ _ w. (w.0 ≡ halted new (of_pen p)) × (w.1 ≡ held))
  halts slots id held p new first s k _ at small =
      let mine = known s k id (of_pen p) p at refl in
      let each = at_pen s k p mine.1 in
      let q : Pen T = record { items = p.items; stop = Some new; made = p.made } in
      let F : ℕ → View T → Type 0 = Fits k.home k.places q in (
        of_pen q,
        keeps,
        tt,
        record {
          home = k.home;
          places = k.places;
          pen = q;
          words = stop_words s.words (length p.items) (stop_word p.stop) new (two_words s k p mine.1);
          each = each_set F s.views id (of_pen q)
              (λ j u far e. (
                elsewhere k.home k.places p id j u k.home q mine.0 far (each j u e),
                λ d is. let there = (each j u e).1 d is in (there.0, there.1, (there.2.0, there.2.1, λ n told. absurd (none_some n (sym first ∙ there.2.2 n told)))),
              ))
              ((λ r same. (mine.0, sym (some_same q r same))), (λ d none. absurd (none_some d none)));
        },
        (refl, refl),
      )

  -- before the first item each new seat gets the next number
  pub deals : (id : ℕ) (stop : Option ℕ) (made : ℕ) → let p : Pen T = record { items = []; stop = stop; made = made } in Splits Keeps id (of_pen p) (one_more (of_pen p)) (next_chair (of_pen p))
  deals id stop made s k at =
      let p : Pen T = record { items = []; stop = stop; made = made } in
      let q : Pen T = record { items = []; stop = stop; made = made + 1 } in
      let mine = known s k id (of_pen p) p at refl in
      let each = at_pen s k p mine.1 in
      let views = set s.views id (of_pen q) in
      let places : ℕ → ℕ = λ n. either (eqb n made) (length views) (k.places n) in
      let F : ℕ → View T → Type 0 = Fits k.home places q in
      let old : (n : ℕ) → n < made → places n ≡ k.places n = λ n less. ap (λ b. either b (length views) (k.places n)) (ne_eqb n made (λ e. omega arith)) in
      record {
        home = k.home;
        places = places;
        pen = q;
        words = two_words s k p mine.1;
        each = each_snoc F views (of_chair (new_chair made))
            (λ j u _ e. each_set F s.views id (of_pen q)
            (λ i y far e'. (
              elsewhere k.home k.places p id i y k.home q mine.0 far (each i y e'),
              λ d is. let there = (each i y e').1 d is in let less = there.1 in (there.0 ∙ sym (old d.number less), (omega arith), there.2),
            ))
            ((λ r same. (mine.0, sym (some_same q r same))), (λ d none. absurd (none_some d none)))
            j u e) (
              (λ r none. absurd (none_some r none)),
              λ d same. subst (λ (y : Chair T). (length views ≡ places y.number) × (y.number < made + 1) × Stands q y) (some_same _ d same)
                  (sym (ap (λ b. either b (length views) (k.places made)) (eq-eqb made made refl)), (omega arith), (prefix_self [], refl, λ n none. absurd (none_some n none))),
            );
      }

  pub begins : Keeps {T = T} record { words = 0 ∷ 0 ∷ []; homes = []; views = of_pen first_pen ∷ [] }
  begins =
      record {
        home = 0;
        places = λ n. n;
        pen = first_pen;
        words = refl;
        each = each_snoc (Fits 0 (λ n. n) first_pen) [] (of_pen first_pen)
            (λ j u less e. absurd (omega arith))
            ((λ r same. (refl, sym (some_same first_pen r same))), (λ d none. absurd (none_some d none)));
      }

  -- the pen with a chair, and what the steps told there
  pub both_is : (a b : Me T (View T)) (p : Pen T) (c : Chair T) → a ≡ (of_pen p, []) → b ≡ (of_chair c, []) → let m : Me T (View T) = (with_pen b.0 (pen_alone a.0), b.1) in m ≡ (of_both p c, [])
  both_is a b p c ea eb = λ i. (with_pen (eb i).0 (pen_alone (ea i).0), (eb i).1)

  pub counts_as : (slots id : ℕ) (me : Me T (View T)) (p : Pen T) (c : Chair T) (x : T) (old : ℕ) → me ≡ (of_both p c, []) → old ≡ length p.items
      → Allows Keeps slots id me 0 (λ n. either (eqb n old) (old + 1) n) (λ found w. Counts (some x) me.0 w.0 × (w.1 ≡ me.1))
  counts_as slots id me p c x old is len =
      subst (λ (m : Me T (View T)). Allows Keeps slots id m 0 (λ n. either (eqb n old) (old + 1) n) (λ found w. Counts (some x) m.0 w.0 × (w.1 ≡ m.1))) (sym is) (counts slots id [] p c x old len)

  pub count_told : (me new : Me T (View T)) (p : Pen T) (c : Chair T) (x : T) → me ≡ (of_both p c, []) → Counts (some x) me.0 new.0 × (new.1 ≡ me.1) → (new ≡ (counted p c x, [])) × Stands p c
  count_told me new p c x is told =
      let here : Counts (some x) (of_both p c) new.0 × (new.1 ≡ []) = subst (λ (m : Me T (View T)). Counts (some x) m.0 new.0 × (new.1 ≡ m.1)) is told in
      let now = here.0 x refl in
      ((λ i. (now.0 i, here.1 i)), now.1)

  -- what counting told, from the writer and the seat before it
  pub append_told : (w s h t : Me T (View T)) (x : T) → w ≡ (of_pen (pen_of w.0), []) → s ≡ (of_chair (chair_of s.0), []) → h ≡ (with_pen s.0 (pen_alone w.0), s.1)
      → Counts (some x) h.0 t.0 × (t.1 ≡ h.1) → (t ≡ (counted (pen_of w.0) (chair_of s.0) x, [])) × Stands (pen_of w.0) (chair_of s.0)
  append_told w s h t x pen chair lent told = count_told h t (pen_of w.0) (chair_of s.0) x (lent ∙ both_is w s (pen_of w.0) (chair_of s.0) pen chair) told

  pub looks_as : (slots id : ℕ) (me : Me T (View T)) (p : Pen T) (c : Chair T) → me ≡ (of_both p c, []) → Allows Keeps slots id me 0 (λ n. n) (λ found w. Looks me.0 w.0 × (w.1 ≡ me.1))
  looks_as slots id me p c is = subst (λ (m : Me T (View T)). Allows Keeps slots id m 0 (λ n. n) (λ found w. Looks m.0 w.0 × (w.1 ≡ m.1))) (sym is) (looks slots id [] p c)

  pub look_told : (me new : Me T (View T)) (p : Pen T) (c : Chair T) → me ≡ (of_both p c, []) → Looks me.0 new.0 × (new.1 ≡ me.1) → (new ≡ (caught_up p c, [])) × Stands p c
  look_told me new p c is told =
      let here : Looks (of_both p c) new.0 × (new.1 ≡ []) = subst (λ (m : Me T (View T)). Looks m.0 new.0 × (new.1 ≡ m.1)) is told in
      ((λ i. (here.0.0 i, here.1 i)), here.0.1)

  -- what loading told, from the writer and the seat before it
  pub catch_up_told : (w s h t : Me T (View T)) → w ≡ (of_pen (pen_of w.0), []) → s ≡ (of_chair (chair_of s.0), []) → h ≡ (with_pen s.0 (pen_alone w.0), s.1)
      → Looks h.0 t.0 × (t.1 ≡ h.1) → (t ≡ (caught_up (pen_of w.0) (chair_of s.0), [])) × Stands (pen_of w.0) (chair_of s.0)
  catch_up_told w s h t pen chair lent told = look_told h t (pen_of w.0) (chair_of s.0) (lent ∙ both_is w s (pen_of w.0) (chair_of s.0) pen chair) told

  pub halts_as : (slots id : ℕ) (me : Me T (View T)) (p : Pen T) (new : ℕ) → me ≡ (of_pen p, []) → p.stop ≡ None → Allows Keeps slots id me 1 (λ _. new) (λ _ w. (w.0 ≡ halted new me.0) × (w.1 ≡ me.1))
  halts_as slots id me p new is first = subst (λ (m : Me T (View T)). Allows Keeps slots id m 1 (λ _. new) (λ _ w. (w.0 ≡ halted new m.0) × (w.1 ≡ m.1))) (sym is) (halts slots id [] p new first)

  pub deals_as : (id : ℕ) (v : View T) (made : ℕ) → v ≡ of_pen (empty_pen made) → Splits Keeps id v (one_more v) (next_chair v)
  deals_as id v made is = subst (λ (u : View T). Splits Keeps id u (one_more u) (next_chair u)) (sym is) (deals id None made)

  -- the pen is back, and the chair is apart from it
  pub chair_back : (m : Me T (View T)) (p : Pen T) (c : Chair T) → m ≡ (of_both p c, []) → let n : Me T (View T) = (without_pen m.0, m.1) in n ≡ (of_chair c, [])
  chair_back m p c is = λ i. (without_pen (is i).0, (is i).1)

  pub pen_gone : (w : Me T (View T)) (p : Pen T) → w ≡ (of_pen p, []) → let n : Me T (View T) = (without_pen w.0, w.1) in n ≡ (nobody, [])
  pen_gone w p is = λ i. (without_pen (is i).0, (is i).1)

  pub pen_back : (w m : Me T (View T)) (p : Pen T) (c : Chair T) → w ≡ (nobody, []) → m ≡ (of_both p c, []) → let n : Me T (View T) = (with_pen w.0 (pen_alone m.0), w.1) in n ≡ (of_pen p, [])
  pen_back w m p c ew em = λ i. (with_pen (ew i).0 (pen_alone (em i).0), (ew i).1)
