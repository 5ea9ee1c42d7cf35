-- The words of vars and folds, one for each slot, are those that a state of the program has, and back.
use Rattle.std.proofs.Common.{◌≡◌, ℕ, zero, suc, ◌+◌, ◌<◌, ◌≤◌, Bool, true, false, cond, List, [], ◌∷◌, length, take, get_or, Option, None, Some, refl, sym, ap, subst, ◌∙◌, arith}
use Rattle.std.specs.Prelude.{count_by, slice_get}
use Rattle.std.specs.List.{cons_option}
use Rattle.std.specs.Option.{is_some, option_map_or}
use Rattle.std.proofs.lemmas.List.Sums.{sum_by-cons}
use Rattle.re_record.specs.Slots.{kept_slots, slot_of}
use Rattle.re_record.specs.declared.slots.Role.TheVariants.{Change}
use Rattle.re_record.specs.declared.slots.Slot.{Slot}
use Rattle.re_record.proofs.Roles.{takes_word, change_word}
use Rattle.re_terms.specs.Admission.{symbol_count}
use Rattle.re_terms.specs.Cells.{is_cell, is_cell_body}
use Rattle.re_terms.specs.SignalWords.{no_word}
use Rattle.re_terms.specs.WordKinds.{AreWordsOf, is_kept_word}
use Rattle.re_terms.specs.declared.program.Body.{Body}
use Rattle.re_terms.specs.declared.program.Body.TheVariants as body
use Rattle.re_terms.specs.declared.program.Decl.{Decl}
use Rattle.re_terms.specs.declared.program.Program.{Program}
use Rattle.re_terms.specs.declared.word.Word.{Word}
use Rattle.re_wire.specs.Reading.{is_allowed_word}

-- a word for each slot
abbrev pub AreWordsIn : ℕ → List Slot → List Word → Type 0
AreWordsIn symbols [] [] = Unit {0}
AreWordsIn symbols [] (w ∷ ws) = ⊥
AreWordsIn symbols (slot ∷ slots) [] = ⊥
AreWordsIn symbols (slot ∷ slots) (w ∷ ws) = (is_allowed_word slot.kind slot.fold symbols w ≡ true) × AreWordsIn symbols slots ws

-- one for each var and fold
record AreKept (symbols : ℕ) (decls : List Decl) (ws : List Word) : Type 0 where
  count : length ws ≡ count_by is_cell decls
  kinds : (id : ℕ) (d : Decl) → slice_get decls id ≡ Some d → is_cell d ≡ true → is_kept_word symbols d.body (get_or ws (count_by is_cell (take id decls)) no_word) ≡ true

cell_is : (b : Body) → is_cell_body b ≡ is_some (slot_of Change b)
cell_is (body.Var k start region) = refl
cell_is (body.Fold k start source expr region) = refl
cell_is body.Device = refl
cell_is body.Symbol = refl
cell_is (body.Event k) = refl
cell_is (body.Signal k expr) = refl
cell_is (body.Changed of) = refl
cell_is (body.Map source k expr) = refl
cell_is (body.Filter source expr) = refl
cell_is (body.Either left right) = refl
cell_is body.Counter = refl
cell_is (body.Set k) = refl
cell_is (body.Register k start) = refl

-- how many cells stand in front, with one declaration more
cells_more : (d : Decl) (decls : List Decl) (b : Bool) (n : ℕ) → is_cell d ≡ b → cond b 1 0 ≡ n → count_by is_cell (d ∷ decls) ≡ n + count_by is_cell decls
cells_more d decls b n is size = sum_by-cons (λ y. cond (is_cell y) 1 0) d decls ∙ ap (λ (c : Bool). cond c 1 0 + count_by is_cell decls) is ∙ ap (λ (m : ℕ). m + count_by is_cell decls) size

contradicts : {A : Type 0} (b : Bool) → b ≡ true → b ≡ false → A
contradicts true e h = absurd cc
contradicts false e h = absurd cc

-- ---- one declaration more

more_kinds : (symbols : ℕ) (d : Decl) (decls : List Decl) (ws vs : List Word) (n : ℕ) → ((id : ℕ) → count_by is_cell (take (suc id) (d ∷ decls)) ≡ n + count_by is_cell (take id decls)) → ((k : ℕ) → get_or ws (n + k) no_word ≡ get_or vs k no_word)
    → (is_cell d ≡ true → is_kept_word symbols d.body (get_or ws 0 no_word) ≡ true)
    → ((id : ℕ) (e : Decl) → slice_get decls id ≡ Some e → is_cell e ≡ true → is_kept_word symbols e.body (get_or vs (count_by is_cell (take id decls)) no_word) ≡ true)
    → (id : ℕ) (e : Decl) → slice_get (d ∷ decls) id ≡ Some e → is_cell e ≡ true → is_kept_word symbols e.body (get_or ws (count_by is_cell (take id (d ∷ decls))) no_word) ≡ true
more_kinds symbols d decls ws vs n place moved first kinds zero e at cell =
    let same : d ≡ e = cc in
    subst (λ (x : Decl). is_kept_word symbols x.body (get_or ws 0 no_word) ≡ true) same (first (ap is_cell same ∙ cell))
more_kinds symbols d decls ws vs n place moved first kinds (suc id) e at cell =
    let there : get_or ws (count_by is_cell (take (suc id) (d ∷ decls))) no_word ≡ get_or vs (count_by is_cell (take id decls)) no_word = ap (λ (k : ℕ). get_or ws k no_word) (place id) ∙ moved (count_by is_cell (take id decls)) in
    subst (λ (w : Word). is_kept_word symbols e.body w ≡ true) (sym there) (kinds id e at cell)

less_kinds : (symbols : ℕ) (d : Decl) (decls : List Decl) (ws vs : List Word) (n : ℕ) → ((id : ℕ) → count_by is_cell (take (suc id) (d ∷ decls)) ≡ n + count_by is_cell (take id decls)) → ((k : ℕ) → get_or ws (n + k) no_word ≡ get_or vs k no_word)
    → ((id : ℕ) (e : Decl) → slice_get (d ∷ decls) id ≡ Some e → is_cell e ≡ true → is_kept_word symbols e.body (get_or ws (count_by is_cell (take id (d ∷ decls))) no_word) ≡ true)
    → (id : ℕ) (e : Decl) → slice_get decls id ≡ Some e → is_cell e ≡ true → is_kept_word symbols e.body (get_or vs (count_by is_cell (take id decls)) no_word) ≡ true
less_kinds symbols d decls ws vs n place moved kinds id e at cell =
    let there : get_or ws (count_by is_cell (take (suc id) (d ∷ decls))) no_word ≡ get_or vs (count_by is_cell (take id decls)) no_word = ap (λ (k : ℕ). get_or ws k no_word) (place id) ∙ moved (count_by is_cell (take id decls)) in
    subst (λ (w : Word). is_kept_word symbols e.body w ≡ true) there (kinds (suc id) e at cell)

places : (d : Decl) (decls : List Decl) (b : Bool) (n : ℕ) → is_cell d ≡ b → cond b 1 0 ≡ n → (id : ℕ) → count_by is_cell (take (suc id) (d ∷ decls)) ≡ n + count_by is_cell (take id decls)
places d decls b n is size id = cells_more d (take id decls) b n is size

stays : (ws : List Word) (k : ℕ) → get_or ws (0 + k) no_word ≡ get_or ws k no_word
stays ws k = ap (λ (n : ℕ). get_or ws n no_word) (omega arith)

moves : (w : Word) (ws : List Word) (k : ℕ) → get_or (w ∷ ws) (1 + k) no_word ≡ get_or ws k no_word
moves w ws k = let e : 1 + k ≡ suc k = omega arith in ap (λ (n : ℕ). get_or (w ∷ ws) n no_word) e

-- ---- both ways

to_by : (symbols : ℕ) (d : Decl) (decls : List Decl) (found : Option Slot) → slot_of Change d.body ≡ found → ((vs : List Word) → AreWordsIn symbols (kept_slots decls) vs → AreKept symbols decls vs)
    → (ws : List Word) → AreWordsIn symbols (cons_option found (kept_slots decls)) ws → AreKept symbols (d ∷ decls) ws
to_by symbols d decls None found rest ws words =
    let none : is_cell d ≡ false = cell_is d.body ∙ ap (λ (o : Option Slot). is_some o) found in
    let kept = rest ws words in
    record {
      count = (let e = cells_more d decls false 0 none refl in let n = kept.count in omega (arith, e, n));
      kinds = more_kinds symbols d decls ws ws 0 (places d decls false 0 none refl) (stays ws) (λ cell. contradicts (is_cell d) cell none) kept.kinds;
    }
to_by symbols d decls (Some slot) found rest [] words = absurd words
to_by symbols d decls (Some slot) found rest (w ∷ ws) words =
    let some : is_cell d ≡ true = cell_is d.body ∙ ap (λ (o : Option Slot). is_some o) found in
    let kept = rest ws words.1 in
    let first : is_kept_word symbols d.body w ≡ true = sym (change_word symbols d.body w) ∙ ap (λ (o : Option Slot). takes_word symbols o w) found ∙ words.0 in
    record {
      count = (let e = cells_more d decls true 1 some refl in let n = kept.count in omega (arith, e, n));
      kinds = more_kinds symbols d decls (w ∷ ws) ws 1 (places d decls true 1 some refl) (moves w ws) (λ cell. first) kept.kinds;
    }

to : (symbols : ℕ) (decls : List Decl) (ws : List Word) → AreWordsIn symbols (kept_slots decls) ws → AreKept symbols decls ws
to symbols [] [] words = record { count = refl; kinds = λ id e at cell. absurd (cc (at)) }
to symbols [] (w ∷ ws) words = absurd words
to symbols (d ∷ decls) ws words = to_by symbols d decls (slot_of Change d.body) refl (to symbols decls) ws words

from_by : (symbols : ℕ) (d : Decl) (decls : List Decl) (found : Option Slot) → slot_of Change d.body ≡ found → ((vs : List Word) → AreKept symbols decls vs → AreWordsIn symbols (kept_slots decls) vs)
    → (ws : List Word) → AreKept symbols (d ∷ decls) ws → AreWordsIn symbols (cons_option found (kept_slots decls)) ws
from_by symbols d decls None found rest ws kept =
    let none : is_cell d ≡ false = cell_is d.body ∙ ap (λ (o : Option Slot). is_some o) found in
    rest ws (record {
      count = (let e = cells_more d decls false 0 none refl in let n = kept.count in omega (arith, e, n));
      kinds = less_kinds symbols d decls ws ws 0 (places d decls false 0 none refl) (stays ws) kept.kinds;
    })
from_by symbols d decls (Some slot) found rest [] kept =
    let some : is_cell d ≡ true = cell_is d.body ∙ ap (λ (o : Option Slot). is_some o) found in
    absurd (let e = cells_more d decls true 1 some refl in let n = kept.count in omega (arith, e, n))
from_by symbols d decls (Some slot) found rest (w ∷ ws) kept =
    let some : is_cell d ≡ true = cell_is d.body ∙ ap (λ (o : Option Slot). is_some o) found in
    let first : is_kept_word symbols d.body w ≡ true = kept.kinds 0 d refl some in (
      sym (ap (λ (o : Option Slot). takes_word symbols o w) found) ∙ change_word symbols d.body w ∙ first,
      rest ws (record {
        count = (let e = cells_more d decls true 1 some refl in let n = kept.count in omega (arith, e, n));
        kinds = less_kinds symbols d decls (w ∷ ws) ws 1 (places d decls true 1 some refl) (moves w ws) kept.kinds;
      }),
    )

from : (symbols : ℕ) (decls : List Decl) (ws : List Word) → AreKept symbols decls ws → AreWordsIn symbols (kept_slots decls) ws
from symbols [] [] kept = tt
from symbols [] (w ∷ ws) kept = absurd (let n = kept.count in omega (arith, n))
from symbols (d ∷ decls) ws kept = from_by symbols d decls (slot_of Change d.body) refl (from symbols decls) ws kept

pub words_of : (p : Program) (ws : List Word) → AreWordsIn (symbol_count p.decls.items) (kept_slots p.decls.items) ws → AreWordsOf p ws
words_of p ws words = let kept = to (symbol_count p.decls.items) p.decls.items ws words in record { count = kept.count; kinds = kept.kinds }

pub words_in : (p : Program) (ws : List Word) → AreWordsOf p ws → AreWordsIn (symbol_count p.decls.items) (kept_slots p.decls.items) ws
words_in p ws words = from (symbol_count p.decls.items) p.decls.items ws (record { count = words.count; kinds = words.kinds })
