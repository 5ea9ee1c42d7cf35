-- What a state of a program begins with and shows is of its kinds.
use Rattle.std.proofs.Common.{◌≡◌, ◌<◌, ◌≤◌, ◌+◌, ℕ, zero, suc, true, ◌&&◌, cond, List, [], ◌∷◌, length, map, take, refl, sym, ap, subst, ◌∙◌, arith}
use Rattle.std.specs.Prelude.{pos, ◌-ℤ◌, Option, None, Some, slice_get, slice_index_or, count_by}
use Rattle.std.specs.List.{cons_option, sum, sum_by}
use Rattle.std.proofs.lemmas.List.{length-map}
use Rattle.std.proofs.lemmas.List.Sums.{sum_by-cons, sum_by-take-le}
use Rattle.std.proofs.lemmas.Option.{slice_get_within}
use Rattle.re_terms.specs.declared.program.Body.{Body}
use Rattle.re_terms.specs.declared.program.Body.TheVariants as body
use Rattle.re_terms.specs.declared.program.Decl.{Decl}
use Rattle.re_terms.specs.declared.program.Program.{Program}
use Rattle.re_terms.specs.declared.replicated.RCell.{RCell}
use Rattle.re_terms.specs.declared.replicated.RCell.TheVariants as cell
use Rattle.re_terms.specs.declared.replicated.RKind.{RKind}
use Rattle.re_terms.specs.declared.replicated.RKind.TheVariants as replicated
use Rattle.re_terms.specs.declared.replicated.RState.{RState}
use Rattle.re_terms.specs.declared.word.Kind.{Kind}
use Rattle.re_terms.specs.declared.word.Word.{Word}
use Rattle.re_terms.specs.Admission.{symbol_count}
use Rattle.re_terms.specs.Arithmetic.{is_word_number}
use Rattle.re_terms.specs.Cells.{is_cell, is_cell_body, cell_place}
use Rattle.re_terms.specs.Kinds.{Sort, Value, is_start, sort_of, sorts_of, expr_kind, in_fold, event_kind, agrees_with}
use Rattle.re_terms.specs.Programs.{IsProgram, is_literal_word, is_ranged, is_ranged_expr, is_symbol}
use Rattle.re_terms.specs.Trees.{is_region}
use Rattle.re_terms.specs.Shapes.{FitsKind, FitsShape, is_word_of, pair_count, replicated_kind, replicated_kinds, shape_of, start_word, start_words}
use Rattle.re_terms.specs.SignalWords.{no_word}
use Rattle.re_terms.specs.Views.{cell_size, cell_word, view_of}
use Rattle.re_terms.specs.WordKinds.{AreWordsOf, IsViewOf, is_kept_word, is_shown_word}
use Rattle.re_terms.proofs.DeclaredSorts.{declared}
use Rattle.re_terms.proofs.Ordered.{through, some_sort}
use Rattle.re_terms.proofs.ReplicatedPlaces.{kind_from}
use Rattle.re_terms.proofs.WordMeanings.{never, only, start_word_of, whole_word, word_or_fault}
use Rattle.re_terms.proofs.WordOrders.{length-words}
use Rattle.std.proofs.lemmas.Bool.{and_parts}

-- ---- the words of registers

-- a register's start word is of its kind
register_start : (n symbols : ℕ) (sorts : List Sort) (b : Body) (s : Sort) (k : Kind) (start : Word) → n ≤ symbols → sort_of sorts b ≡ Some s → is_ranged n b ≡ true → replicated_kind b ≡ Some (replicated.Register k start) → is_word_of symbols k start ≡ true
register_start n symbols sorts (body.Register j own) s k start few h range e =
    let a : j ≡ k = cc in
    let b : own ≡ start = cc in
    let o = only (is_start j own) (Value j) s h in
    subst (λ x. is_word_of symbols x start ≡ true) a (subst (λ w. is_word_of symbols j w ≡ true) b (start_word_of n symbols j own few o.0 range))
register_start n symbols sorts body.Counter s k start few h range e = absurd (cc)
register_start n symbols sorts (body.Set j) s k start few h range e = absurd (cc)
register_start n symbols sorts b s k start few h range e = absurd (cc)

module _ (p : Program) (program : IsProgram p) where
  start_kept : (place : ℕ) (k : Kind) (start : Word) → slice_get (replicated_kinds p.decls.items) place ≡ Some (replicated.Register k start) → is_word_of (symbol_count p.decls.items) k start ≡ true
  start_kept place k start at =
      let f = kind_from p.decls.items place (replicated.Register k start) at in
      let s = some_sort (sort_of (sorts_of (take f.id p.decls.items)) f.declaration.body) (program.kinds f.id f.declaration f.at) in
      register_start (count_by is_symbol (take f.id p.decls.items)) (symbol_count p.decls.items) (sorts_of (take f.id p.decls.items)) f.declaration.body s.0 k start
      (sum_by-take-le (λ d. cond (is_symbol d) 1 0) p.decls.items f.id) s.1 (program.ranges f.id f.declaration f.at) f.is

  written_by : (k : Kind) (start word : Word) (stamp : ℕ) → is_word_of (symbol_count p.decls.items) k start ≡ true → (stamp ≡ 0 → word ≡ start) → (0 < stamp → is_word_of (symbol_count p.decls.items) k word ≡ true) → is_word_of (symbol_count p.decls.items) k word ≡ true
  written_by k start word zero is none some = subst (λ w. is_word_of (symbol_count p.decls.items) k w ≡ true) (sym (none refl)) is
  written_by k start word (suc n) is none some = some (omega arith)

  shown : (counts : List ℕ) (place : ℕ) (k : RKind) (c : RCell) → slice_get (replicated_kinds p.decls.items) place ≡ Some k → FitsKind (shape_of p) counts k c → is_shown_word (symbol_count p.decls.items) k (cell_word (Some c)) ≡ true
  shown counts place replicated.Counter (cell.Counter rows) at fits = whole_word (symbol_count p.decls.items) (pos (sum rows.plus) -ℤ pos (sum rows.minus))
  shown counts place replicated.Counter (cell.Set pairs) at fits = absurd fits
  shown counts place replicated.Counter (cell.Register w) at fits = absurd fits
  shown counts place (replicated.Set k) c at fits = refl
  shown counts place (replicated.Register k start) (cell.Counter rows) at fits = absurd fits
  shown counts place (replicated.Register k start) (cell.Set pairs) at fits = absurd fits
  shown counts place (replicated.Register k start) (cell.Register w) at fits = written_by k start w.word w.stamp (start_kept place k start at) (λ e. (fits.unwritten e).1) (λ h. (fits.written h).1)

  shown_at : (r : RState) (place : ℕ) (k : RKind) → FitsShape (shape_of p) r → slice_get (replicated_kinds p.decls.items) place ≡ Some k → is_shown_word (symbol_count p.decls.items) k (cell_word (slice_get r.cells.items place)) ≡ true
  shown_at r place k fits at =
      let within = slice_get_within (replicated_kinds p.decls.items) place k at in
      let count = fits.count in
      let c = declared r.cells.items place (omega arith) in
      subst (λ o. is_shown_word (symbol_count p.decls.items) k (cell_word o) ≡ true) (sym c.1) (shown r.vector.counts place k c.0 at (fits.cells place k c.0 at c.1))

-- ---- sizes

counted : (cells : List RCell) (place : ℕ) (c : RCell) → slice_get cells place ≡ Some c → pair_count c ≤ sum_by pair_count cells
counted [] place c at = absurd (let e : None ≡ Some c = at in cc)
counted (x ∷ cells) zero c at =
    let own : Some x ≡ Some c = at in
    let same : x ≡ c = cc in
    let e = ap pair_count same in
    omega (arith, e, sum_by-cons pair_count x cells)
counted (x ∷ cells) (suc place) c at = omega (arith, counted cells place c at, sum_by-cons pair_count x cells)

size_low : (c : RCell) → cell_size (Some c) ≤ pair_count c
size_low (cell.Counter rows) = omega arith
size_low (cell.Set pairs) = omega (arith, length-words (map (λ p. p.element) pairs.items), length-map pairs.items (λ p. p.element))
size_low (cell.Register w) = omega arith

size_by : (cells : List RCell) (place : ℕ) (o : Option RCell) → slice_get cells place ≡ o → sum_by pair_count cells ≤ 1024 → cell_size o ≤ 1024
size_by cells place None at few = omega arith
size_by cells place (Some c) at few = omega (arith, few, counted cells place c at, size_low c)

size_word : (n : ℕ) → n ≤ 1024 → is_word_number (pos n) ≡ true
size_word n h = grind arith

pub view_kept : (p : Program) (r : RState) → IsProgram p → FitsShape (shape_of p) r → IsViewOf p (view_of r)
view_kept p r program fits = record {
  words = λ place k at. shown_at p program r place k fits at;
  sizes = λ place. size_word _ (size_by r.cells.items place (slice_get r.cells.items place) refl fits.pairs);
}

-- ---- start words

start_kind : (n symbols : ℕ) (sorts : List Sort) (b : Body) (s : Sort) (w : Word) → n ≤ symbols → sort_of sorts b ≡ Some s → is_ranged n b ≡ true → start_word b ≡ Some w → is_kept_word symbols b w ≡ true
start_kind n symbols sorts (body.Var k start region) s w few h range e =
    let own : start ≡ w = cc in
    let o = only (is_start k start) (Value k) s h in
    subst (λ x. is_word_of symbols k x ≡ true) own (start_word_of n symbols k start few o.0 (and_parts (is_literal_word n start) (is_region region) range).0)
start_kind n symbols sorts (body.Fold k start source expr region) s w few h range e =
    let own : start ≡ w = cc in
    let a = through (event_kind sorts source) _ s h in
    let o = only (is_start k start && agrees_with k (expr_kind sorts (in_fold a.value k) expr)) (Value k) s a.then_is in
    let both = and_parts (is_start k start) (agrees_with k (expr_kind sorts (in_fold a.value k) expr)) o.0 in
    let parts = and_parts (is_literal_word n start && is_ranged_expr n expr) (is_region region) range in
    let literal = and_parts (is_literal_word n start) (is_ranged_expr n expr) parts.0 in
    word_or_fault symbols k w (subst (λ x. is_word_of symbols k x ≡ true) own (start_word_of n symbols k start few both.0 literal.0))
start_kind n symbols sorts b s w few h range e = absurd (cc)

started : (b : Body) → is_cell_body b ≡ true → (w : Word) × (start_word b ≡ Some w)
started (body.Var k start region) h = (start, refl)
started (body.Fold k start source expr region) h = (start, refl)
started b h = never h

one_word : (b : Body) (words : List Word) → length (cons_option (start_word b) words) ≡ cond (is_cell_body b) 1 0 + length words
one_word (body.Var k start region) words = omega arith
one_word (body.Fold k start source expr region) words = omega arith
one_word b words = omega arith

start_count : (decls : List Decl) → length (start_words decls) ≡ count_by is_cell decls
start_count [] = refl
start_count (d ∷ decls) = one_word d.body (start_words decls) ∙ ap (λ n. cond (is_cell d) 1 0 + n) (start_count decls) ∙ sym (sum_by-cons (λ x. cond (is_cell x) 1 0) d decls)

word_behind : (b : Body) (words : List Word) (n : ℕ) → slice_index_or (cons_option (start_word b) words) (cond (is_cell_body b) 1 0 + n) no_word ≡ slice_index_or words n no_word
word_behind (body.Var k start region) words n = let e : 1 + n ≡ suc n = omega arith in ap (λ i. slice_index_or (start ∷ words) i no_word) e
word_behind (body.Fold k start source expr region) words n = let e : 1 + n ≡ suc n = omega arith in ap (λ i. slice_index_or (start ∷ words) i no_word) e
word_behind b words n = let e : 0 + n ≡ n = omega arith in ap (λ i. slice_index_or words i no_word) e

start_at : (decls : List Decl) (id : ℕ) (d : Decl) (w : Word) → slice_get decls id ≡ Some d → start_word d.body ≡ Some w → slice_index_or (start_words decls) (cell_place decls id) no_word ≡ w
start_at [] id d w at is = absurd (let e : None ≡ Some d = at in cc)
start_at (x ∷ decls) zero d w at is =
    let own : Some x ≡ Some d = at in
    let e : x ≡ d = cc in
    ap (λ (o : Option Word). slice_index_or (cons_option o (start_words decls)) 0 no_word) (ap (λ (y : Decl). start_word y.body) e ∙ is)
start_at (x ∷ decls) (suc id) d w at is =
    ap (λ i. slice_index_or (start_words (x ∷ decls)) i no_word) (sum_by-cons (λ (y : Decl). cond (is_cell y) 1 0) x (take id decls))
    ∙ word_behind x.body (start_words decls) (cell_place decls id)
    ∙ start_at decls id d w at is

pub starts_kept : (p : Program) → IsProgram p → AreWordsOf p (start_words p.decls.items)
starts_kept p program = record {
  count = start_count p.decls.items;
  kinds = λ id d at cell.
      let w = started d.body cell in
      let s = some_sort (sort_of (sorts_of (take id p.decls.items)) d.body) (program.kinds id d at) in
      subst (λ x. is_kept_word (symbol_count p.decls.items) d.body x ≡ true) (sym (start_at p.decls.items id d w.0 at w.1))
      (start_kind (count_by is_symbol (take id p.decls.items)) (symbol_count p.decls.items) (sorts_of (take id p.decls.items)) d.body s.0 w.0 (sum_by-take-le (λ d. cond (is_symbol d) 1 0) p.decls.items id) s.1 (program.ranges id d at) w.1);
}
