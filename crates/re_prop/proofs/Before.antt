-- The words before an entry, by their places.
use Rattle.std.proofs.Common.{◌≡◌, ◌<◌, ◌≤◌, ℕ, Bool, true, false, List, map, length, refl, sym, ap, ◌∙◌, arith}
use Rattle.std.specs.Prelude.{if◌then◌else◌, Some, nat_lt, slice_get, slice_index_or}
use Rattle.std.specs.Option.{option_map_or}
use Rattle.std.specs.List.{range_with_len}
use Rattle.std.proofs.Math.Path.{fun_ext}
use Rattle.std.proofs.lemmas.Bool.{ltb-true, ltb-false}
use Rattle.std.proofs.lemmas.List.{get_or_past}
use Rattle.std.proofs.lemmas.Option.{slice_get_within}
use Rattle.std.proofs.lemmas.List.FromFn.{length-map-range_with_len, get_or-map-range_with_len}
use Rattle.re_terms.specs.declared.word.Word.{Word}
use Rattle.re_terms.specs.declared.word.Kind.{Kind}
use Rattle.re_terms.specs.declared.expr.Expr.{Expr}
use Rattle.re_terms.specs.declared.entry.State.{State}
use Rattle.re_terms.specs.declared.program.Body.{Body}
use Rattle.re_terms.specs.declared.program.Body.TheVariants as body
use Rattle.re_terms.specs.declared.program.Decl.{Decl}
use Rattle.re_terms.specs.declared.program.Program.{Program}
use Rattle.re_terms.specs.Dependencies.{below}
use Rattle.re_terms.specs.Propagation.{is_signal_at, is_signal_body}
use Rattle.re_terms.specs.Cells.{is_cell_body, cell_place}
use Rattle.re_terms.specs.SignalWords.{no_word, body_word, place_word, signal_word}
use Rattle.re_terms.specs.Views.{View, view_of}
use Rattle.re_graph.proofs.Own.{below-none, below-own, below-places}
use Rattle.re_prop.specs.Caching.{cached_word, signal_words}
use Rattle.re_prop.specs.Effects.{words_before}

never : false ≡ true → ⊥
never e = cc

-- no word stands behind the list
pub signal_word-none : (p : Program) (cells : List Word) (view : View) (id : ℕ) → length p.decls.items ≤ id → signal_word p cells view id ≡ no_word
signal_word-none p cells view id behind = below-none no_word (place_word p.decls.items cells view) (length p.decls.items) id behind

at_by : (p : Program) (s : State) (id : ℕ) (b : Bool) → nat_lt id (length p.decls.items) ≡ b → slice_index_or (words_before p s) id no_word ≡ signal_word p s.words.items (view_of s.rep) id
at_by p s id true is = get_or-map-range_with_len (signal_word p s.words.items (view_of s.rep)) 0 (length p.decls.items) id id no_word (ltb-true id (length p.decls.items) is) (omega arith)
at_by p s id false is =
    let behind : length p.decls.items ≤ id = ltb-false id (length p.decls.items) is in
    get_or_past (words_before p s) id no_word (omega (arith, behind, length-map-range_with_len (signal_word p s.words.items (view_of s.rep)) 0 (length p.decls.items)))
    ∙ sym (signal_word-none p s.words.items (view_of s.rep) id behind)

pub word_before_at : (p : Program) (s : State) (words : List Word) (id : ℕ) → words ≡ words_before p s → slice_index_or words id no_word ≡ signal_word p s.words.items (view_of s.rep) id
word_before_at p s words id is = ap (λ ws. slice_index_or ws id no_word) is ∙ at_by p s id (nat_lt id (length p.decls.items)) refl

-- what the word of a declaration is made of
pub signal_word-own : (p : Program) (cells : List Word) (view : View) (id : ℕ) (d : Decl) → slice_get p.decls.items id ≡ Some d → signal_word p cells view id ≡ body_word p.decls.items cells view id d.body (below no_word (place_word p.decls.items cells view) id)
signal_word-own p cells view id d at =
    below-own no_word (place_word p.decls.items cells view) (length p.decls.items) id (slice_get_within p.decls.items id d at)
    ∙ ap (λ found. option_map_or (λ found. body_word p.decls.items cells view id found.body (below no_word (place_word p.decls.items cells view) id)) found no_word) at

cell_body : (decls : List Decl) (cells : List Word) (view : View) (id : ℕ) (b : Body) (words : ℕ → Word) → is_cell_body b ≡ true → body_word decls cells view id b words ≡ slice_index_or cells (cell_place decls id) no_word
cell_body decls cells view id (body.Var kind start region) words h = refl
cell_body decls cells view id (body.Fold kind start source expr region) words h = refl
cell_body decls cells view id body.Device words h = absurd (never h)
cell_body decls cells view id body.Symbol words h = absurd (never h)
cell_body decls cells view id (body.Event kind) words h = absurd (never h)
cell_body decls cells view id (body.Signal kind expr) words h = absurd (never h)
cell_body decls cells view id (body.Changed of) words h = absurd (never h)
cell_body decls cells view id (body.Map source kind expr) words h = absurd (never h)
cell_body decls cells view id (body.Filter source expr) words h = absurd (never h)
cell_body decls cells view id (body.Either left right) words h = absurd (never h)
cell_body decls cells view id body.Counter words h = absurd (never h)
cell_body decls cells view id (body.Set kind) words h = absurd (never h)
cell_body decls cells view id (body.Register kind start) words h = absurd (never h)

-- a var or a fold has the word that is kept for it
pub kept_word : (p : Program) (cells : List Word) (view : View) (id : ℕ) (d : Decl) → slice_get p.decls.items id ≡ Some d → is_cell_body d.body ≡ true → signal_word p cells view id ≡ slice_index_or cells (cell_place p.decls.items id) no_word
kept_word p cells view id d at cell = signal_word-own p cells view id d at ∙ cell_body p.decls.items cells view id d.body (below no_word (place_word p.decls.items cells view) id) cell

-- a signal's word among these; no word for any other declaration
abbrev pub signal_only : List Decl → List Word → ℕ → Word
signal_only decls words id = if is_signal_at decls id then slice_index_or words id no_word else no_word

pub length-signal_words : (p : Program) (cells : List Word) (view : View) → length (signal_words p cells view) ≡ length p.decls.items
length-signal_words p cells view = length-map-range_with_len (cached_word p cells view) 0 (length p.decls.items)

-- the word of a signal is kept
pub cached_at : (p : Program) (cells : List Word) (view : View) (id : ℕ) (d : Decl) (kept : List Word) → kept ≡ signal_words p cells view → slice_get p.decls.items id ≡ Some d → is_signal_body d.body ≡ true → slice_index_or kept id no_word ≡ signal_word p cells view id
cached_at p cells view id d kept is at signal =
    ap (λ ws. slice_index_or ws id no_word) is
    ∙ get_or-map-range_with_len (cached_word p cells view) 0 (length p.decls.items) id id no_word (slice_get_within p.decls.items id d at) (omega arith)
    ∙ ap (λ found. if option_map_or (λ d. is_signal_body d.body) found false then signal_word p cells view id else no_word) at
    ∙ ap (λ b. if b then signal_word p cells view id else no_word) signal

so_far_by : (p : Program) (cells : List Word) (view : View) (n name : ℕ) → n ≤ length p.decls.items → (b : Bool) → nat_lt name n ≡ b → slice_index_or (map (signal_word p cells view) (range_with_len 0 n)) name no_word ≡ below no_word (place_word p.decls.items cells view) n name
so_far_by p cells view n name within true is =
    let before : name < n = ltb-true name n is in
    get_or-map-range_with_len (signal_word p cells view) 0 n name name no_word before (omega arith)
    ∙ below-places no_word (place_word p.decls.items cells view) (length p.decls.items) n name (omega arith) before
so_far_by p cells view n name within false is =
    let behind : n ≤ name = ltb-false name n is in
    get_or_past (map (signal_word p cells view) (range_with_len 0 n)) name no_word (omega (arith, behind, length-map-range_with_len (signal_word p cells view) 0 n))
    ∙ sym (below-none no_word (place_word p.decls.items cells view) n name behind)

-- the words of the first declarations are those that the next one is made of
pub words_so_far : (p : Program) (cells : List Word) (view : View) (n : ℕ) (words : List Word) → n ≤ length p.decls.items → words ≡ map (signal_word p cells view) (range_with_len 0 n) → (λ name. slice_index_or words name no_word) ≡ below no_word (place_word p.decls.items cells view) n
words_so_far p cells view n words within is = fun_ext (λ name. ap (λ ws. slice_index_or ws name no_word) is ∙ so_far_by p cells view n name within (nat_lt name n) refl)

-- one declaration more
pub next_word : (p : Program) (cells : List Word) (view : View) (n : ℕ) (d : Decl) (words : List Word) (w : Word) → slice_get p.decls.items n ≡ Some d → words ≡ map (signal_word p cells view) (range_with_len 0 n) → w ≡ body_word p.decls.items cells view n d.body (λ name. slice_index_or words name no_word) → w ≡ signal_word p cells view n
next_word p cells view n d words w at so_far is =
    let within : n < length p.decls.items = slice_get_within p.decls.items n d at in
    is ∙ ap (body_word p.decls.items cells view n d.body) (words_so_far p cells view n words (omega arith) so_far) ∙ sym (signal_word-own p cells view n d at)

pub signal_only_at : (decls : List Decl) (words : List Word) (id : ℕ) (d : Decl) (w v : Word) → slice_get decls id ≡ Some d → w ≡ slice_index_or words id no_word → v ≡ (if is_signal_body d.body then w else no_word) → v ≡ signal_only decls words id
signal_only_at decls words id d w v at found is =
    is
    ∙ ap (λ found. if option_map_or (λ d. is_signal_body d.body) found false then w else no_word) (sym at)
    ∙ ap (λ w. if is_signal_at decls id then w else no_word) found

-- the words of the signals among all words are those of the signals
pub signals_are : (p : Program) (s : State) (decls : List Decl) (words : List Word) → decls ≡ p.decls.items → words ≡ words_before p s → map (signal_only decls words) (range_with_len 0 (length decls)) ≡ signal_words p s.words.items (view_of s.rep)
signals_are p s decls words same is =
    ap (λ ds. map (signal_only ds words) (range_with_len 0 (length ds))) same
    ∙ ap (λ f. map f (range_with_len 0 (length p.decls.items))) (fun_ext (λ id. ap (λ w. if is_signal_at p.decls.items id then w else no_word) (word_before_at p s words id is)))

pub not_signal : (b : Body) → ((kind : Kind) (expr : Expr) → b ≡ body.Signal kind expr → ⊥) → is_signal_body b ≡ false
not_signal (body.Signal kind expr) other = absurd (other kind expr refl)
not_signal body.Device other = refl
not_signal body.Symbol other = refl
not_signal (body.Var kind start region) other = refl
not_signal (body.Event kind) other = refl
not_signal (body.Changed of) other = refl
not_signal (body.Map source kind expr) other = refl
not_signal (body.Filter source expr) other = refl
not_signal (body.Either left right) other = refl
not_signal (body.Fold kind start source expr region) other = refl
not_signal body.Counter other = refl
not_signal (body.Set kind) other = refl
not_signal (body.Register kind start) other = refl
