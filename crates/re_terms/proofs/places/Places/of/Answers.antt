-- One declaration more has its places, and raises the counts.
use Rattle.std.proofs.Common.{◌≡◌, ◌+◌, ◌-◌, ◌<◌, ◌++◌, ◌∷◌, [], ℕ, Bool, true, false, cond, List, length, map, get_or, take, refl, sym, ap, subst, ◌∙◌, arith}
use mir.Val.{bool_byte}
use Rattle.std.specs.List.{count_by, range_with_len}
use Rattle.std.proofs.lemmas.List.FromFn.{map-range_with_len_more}
use Rattle.std.proofs.lemmas.List.Sums.{sum_by_more}
use Rattle.re_terms.specs.declared.program.Decl.{Decl}
use Rattle.re_terms.specs.Listed.{Listed, plain}
use Rattle.re_terms.specs.Programs.{is_replicated}
use Rattle.re_terms.specs.Cells.{is_cell, cell_place}
use Rattle.re_terms.specs.SignalWords.{replicated_place}
use Rattle.re_terms.proofs.places.Places.of.Goals as goal

-- a place is pushed behind those of the declarations before
pushed : (count : ℕ → ℕ) (i x : ℕ) (before after : Listed ℕ) → before ≡ plain (map count (range_with_len 0 i)) → x ≡ count i → after ≡ record { items = before.items ++ x ∷ []; spare = before.spare - 1 } → after ≡ plain (map count (range_with_len 0 (i + 1)))
pushed count i x before after is own pushes =
    pushes
    ∙ ap (λ (l : Listed ℕ). record { items = l.items ++ x ∷ []; spare = l.spare - 1 }) is
    ∙ ap (λ v. plain (map count (range_with_len 0 i) ++ v ∷ [])) own
    ∙ ap plain (sym (map-range_with_len_more count 0 i i (omega arith)))

bool_byte-is : (b : Bool) → bool_byte b ≡ cond b 1 0
bool_byte-is true = refl
bool_byte-is false = refl

-- the count so far and the next declaration
counted : (p : Decl → Bool) (decls found : List Decl) (i now byte : ℕ) (d : Decl) → found ≡ decls → i < length found → d ≡ get_or found i d → now ≡ count_by p (take i decls) → byte ≡ bool_byte (p d) → now + byte ≡ count_by p (take (i + 1) decls)
counted p decls found i now byte d is within here before one =
    let more = sum_by_more (λ (x : Decl). cond {A = ℕ} (p x) 1 0) decls i d (subst (λ (l : List Decl). i < length l) is within) in
    let at : bool_byte (p d) ≡ bool_byte (p (get_or decls i d)) = ap (λ x. bool_byte (p x)) (here ∙ ap (λ l. get_or l i d) is) in
    let unit = bool_byte-is (p (get_or decls i d)) in
    omega (arith, more, at, before, one, unit)

pub loop-decl-preserved : goal.loop-decl-preserved
loop-decl-preserved c =
    let decls : List Decl = c.args.p.now.decls.items in
    let i : ℕ = c.loop-decl.decl-index in
    record {
      words = pushed (cell_place decls) i c.loop-decl.word_count c.loop-decl.words c.push.new.self c.loop-decl.invariant.words c.loop-decl.invariant.word_count c.in_ok-push.ensures.ok;
      replicated = pushed (replicated_place decls) i c.loop-decl.replicated_count c.loop-decl.replicated c.push-in-loop-decl.new.self c.loop-decl.invariant.replicated c.loop-decl.invariant.replicated_count c.in_ok-push-2.ensures.ok;
      word_count = counted is_cell decls c.as_slice-decl-items.result.now i c.loop-decl.word_count c.from-word_count.result c.decl-item.result c.as_slice-decl-items.ensures c.loop-decl-test.true c.decl-item.is c.loop-decl.invariant.word_count (c.from-word_count.ensures ∙ ap bool_byte c.is_cell.ensures);
      replicated_count = counted is_replicated decls c.as_slice-decl-items.result.now i c.loop-decl.replicated_count c.from-replicated_count.result c.decl-item.result c.as_slice-decl-items.ensures c.loop-decl-test.true c.decl-item.is c.loop-decl.invariant.replicated_count (c.from-replicated_count.ensures ∙ ap bool_byte c.is_replicated.ensures);
    }
