-- One declaration more keeps what the declarations of a program have.
use Rattle.std.proofs.Common.{ℕ, zero, suc, ◌≡◌, ◌≢◌, ◌<◌, ◌≤◌, ◌+◌, ◌-◌, ◌⊎◌, inl, inr, Bool, true, cond, if◌then◌else◌, List, [], ◌∷◌, ◌++◌, length, take, get_or, Some, None, is_some, unwrap_or, refl, sym, ap, subst, ◌∙◌, zero-add, arith}
use Rattle.std.specs.Prelude.{slice_get, count_by}
use Rattle.std.specs.List.{list_all}
use Rattle.std.specs.Str.{bytes_eq}
use Rattle.std.proofs.Math.Seq.{take-append_seam}
use Rattle.std.proofs.lemmas.List.{length-append, length-map, map-append, take-append-le}
use Rattle.std.proofs.lemmas.List.Sums.{sum_by-append, fold-append}
use Rattle.std.proofs.lemmas.List.Folds.{list_all-append, list_any_at}
use Rattle.std.proofs.lemmas.List.Quantifiers.{all_pairs_push}
use Rattle.std.proofs.lemmas.Option.{slice_get_within}
use Rattle.std.proofs.lemmas.Slice.Eq.{bytes_eq-Decides}
use Rattle.re_terms.specs.Trees.{is_name_text}
use Rattle.re_terms.specs.Cells.{is_cell}
use Rattle.re_terms.specs.Kinds.{Sort, Device, Symbol, is_symbol_sort, sort_of, sorts_of, with_sort, keeps_kinds}
use Rattle.re_terms.specs.Programs.{is_device, is_symbol, is_replicated, names_of, is_ranged}
use Rattle.re_terms.specs.declared.program.Decl.{Decl}
use Rattle.re_types.specs.Resolving.{Scope, scope_of, place_of}
use Rattle.re_types.specs.Scopes.{IsScope}
use Rattle.re_types.specs.Tables.{AreDeclarations, IsTable}
use Rattle.re_types.specs.declared.resolving.Table.{Table}
use Rattle.re_types.proofs.NameTables.{is_some-position}

-- an item of the longer list is one of the others or the last
slice_get-push : {A : Type 0} (xs : List A) (x : A) (i : ℕ) (y : A) → slice_get (xs ++ x ∷ []) i ≡ Some y → (slice_get xs i ≡ Some y) ⊎ ((i ≡ length xs) × (x ≡ y))
slice_get-push [] x zero y e = inr (refl, cc)
slice_get-push [] x (suc i) y e = absurd (cc)
slice_get-push (z ∷ xs) x zero y e = inl e
slice_get-push (z ∷ xs) x (suc i) y e = elim (slice_get-push xs x i y e) [ inl h ↦ inl h | inr h ↦ inr (ap suc h.0, h.1) ]

-- what holds of each item behind those before it holds so with one item more
each-push : (P : List Decl → Decl → Type 0) (xs : List Decl) (x : Decl) → ((i : ℕ) (d : Decl) → slice_get xs i ≡ Some d → P (take i xs) d) → P xs x → (i : ℕ) (d : Decl) → slice_get (xs ++ x ∷ []) i ≡ Some d → P (take i (xs ++ x ∷ [])) d
each-push P xs x before last i d e =
    elim (slice_get-push xs x i d e) [
      | inl h ↦ subst (λ l. P l d) (sym (take-append-le i xs (x ∷ []) (let within = slice_get_within xs i d h in omega arith))) (before i d h)
      | inr h ↦ subst (λ l. P l d) (sym (ap (λ n. take n (xs ++ x ∷ [])) h.0 ∙ take-append_seam xs (x ∷ []))) (subst (λ y. P xs y) h.1 last)
    ]

pub count_by-push : {A : Type 0} (p : A → Bool) (xs : List A) (x : A) → count_by p (xs ++ x ∷ []) ≡ count_by p xs + (if p x then 1 else 0)
count_by-push p xs x = sum_by-append (λ y. cond (p y) 1 0) xs (x ∷ []) ∙ ap (λ n. count_by p xs + n) (zero-add (cond (p x) 1 0))

length-push : {A : Type 0} (xs : List A) (x : A) → length (xs ++ x ∷ []) ≡ length xs + 1
length-push xs x = length-append xs (x ∷ [])

list_all-push : {A : Type 0} (p : A → Bool) (xs : List A) (x : A) → list_all p xs ≡ true → p x ≡ true → list_all p (xs ++ x ∷ []) ≡ true
list_all-push p xs x before last = rw (list_all-append p xs (x ∷ []), before, last) refl

-- the next declaration, and what its name stands for: it is new, keeps the rules and passes no limit
pub record Follows (earlier : List Decl) (d : Decl) (s : Sort) : Type 0 where
  pub few : length earlier < 512
  pub cells : count_by is_cell earlier + (if is_cell d then 1 else 0) ≤ 256
  pub replicated : count_by is_replicated earlier + (if is_replicated d then 1 else 0) ≤ 32
  pub devices : count_by is_device earlier + (if is_device d then 1 else 0) ≤ 16
  pub name : is_name_text d.name ≡ true
  pub new : place_of (names_of earlier) d.name.items ≡ None
  pub sort : sort_of (sorts_of earlier) d.body ≡ Some s
  pub ranges : is_ranged (count_by is_symbol earlier) d.body ≡ true
  pub symbol : is_symbol_sort s ≡ is_symbol d
  pub number : (n : ℕ) → s ≡ Symbol n → n ≡ count_by is_symbol_sort (sorts_of earlier)

names_of-push : (xs : List Decl) (x : Decl) → names_of (xs ++ x ∷ []) ≡ names_of xs ++ x.name.items ∷ []
names_of-push xs x = map-append (λ (d : Decl). d.name.items) xs (x ∷ [])

sorts_of-push : (xs : List Decl) (x : Decl) (s : Sort) → sort_of (sorts_of xs) x.body ≡ Some s → sorts_of (xs ++ x ∷ []) ≡ sorts_of xs ++ s ∷ []
sorts_of-push xs x s e = fold-append with_sort [] xs (x ∷ []) ∙ ap (λ o. sorts_of xs ++ unwrap_or o Device ∷ []) e

-- a new name is none of the others
apart : (names : List (List ℕ)) (name : List ℕ) → place_of names name ≡ None → (k : ℕ) (d : List ℕ) → k < length names → get_or names k d ≢ name
apart names name new k d within e =
    let found = list_any_at (bytes_eq name) names k d within ((bytes_eq-Decides name (get_or names k d)).1 (sym e)) in
    let none = sym (is_some-position (bytes_eq name) names) ∙ ap is_some new in
    absurd (cc)

-- a symbol counts
own_count : (s : Sort) (n : ℕ) → s ≡ Symbol n → ◌≡◌ {A = ℕ} (if is_symbol_sort s then 1 else 0) 1
own_count s n e = let weight : Sort → ℕ = λ x. if is_symbol_sort x then 1 else 0 in ap weight e

-- each symbol's number stays below their count
numbered : (sorts : List Sort) (s : Sort) → ((id n : ℕ) → slice_get sorts id ≡ Some (Symbol n) → n < count_by is_symbol_sort sorts) → ((n : ℕ) → s ≡ Symbol n → n ≡ count_by is_symbol_sort sorts) → (id n : ℕ) → slice_get (sorts ++ s ∷ []) id ≡ Some (Symbol n) → n < count_by is_symbol_sort (sorts ++ s ∷ [])
numbered sorts s before last id n e =
    let more = count_by-push is_symbol_sort sorts s in
    elim (slice_get-push sorts s id (Symbol n) e) [
      | inl h ↦ (let below = before id n h in omega (arith, more, below))
      | inr h ↦ (let own = last n h.1 in let one = own_count s n h.1 in omega (arith, more, own, one))
    ]

scope-push : (xs : List Decl) (x : Decl) (s : Sort) → Follows xs x s → IsScope (scope_of xs) → IsScope (scope_of (xs ++ x ∷ []))
scope-push xs x s f scope = record {
  few = (let names = length-map (xs ++ x ∷ []) (λ (d : Decl). d.name.items) in let n = length-push xs x in omega (arith, names, n, f.few));
  below = (λ id n. rw (sorts_of-push xs x s f.sort) (numbered (sorts_of xs) s scope.below f.number id n));
}

declarations-push : (xs : List Decl) (x : Decl) (s : Sort) → AreDeclarations xs → Follows xs x s → AreDeclarations (xs ++ x ∷ [])
declarations-push xs x s a f = record {
  few = (let n = length-push xs x in omega (arith, n, f.few));
  cells = (let n = count_by-push is_cell xs x in omega (arith, n, f.cells));
  replicated = (let n = count_by-push is_replicated xs x in omega (arith, n, f.replicated));
  devices = (let n = count_by-push is_device xs x in omega (arith, n, f.devices));
  names = list_all-push (λ (d : Decl). is_name_text d.name) xs x a.names f.name;
  distinct = rw (names_of-push xs x) (all_pairs_push (λ a b. a ≢ b) (names_of xs) x.name.items a.distinct (apart (names_of xs) x.name.items f.new));
  kinds = each-push (λ earlier d. keeps_kinds earlier d.body ≡ true) xs x a.kinds (ap is_some f.sort);
  ranges = each-push (λ earlier d. is_ranged (count_by is_symbol earlier) d.body ≡ true) xs x a.ranges f.ranges;
  symbols = ap (count_by is_symbol_sort) (sorts_of-push xs x s f.sort) ∙ count_by-push is_symbol_sort (sorts_of xs) s
      ∙ ap (λ n. n + (if is_symbol_sort s then 1 else 0)) a.symbols ∙ ap (λ b. count_by is_symbol xs + (if b then 1 else 0)) f.symbol
      ∙ sym (count_by-push is_symbol xs x);
  scope = scope-push xs x s f a.scope;
}

-- the scope with one declaration more
scope_of-push : (xs : List Decl) (x : Decl) (s : Sort) → sort_of (sorts_of xs) x.body ≡ Some s → scope_of (xs ++ x ∷ []) ≡ record { names = names_of xs ++ x.name.items ∷ []; sorts = sorts_of xs ++ s ∷ [] }
scope_of-push xs x s e =
    let with_names : List (List ℕ) → Scope = λ names. record { names = names; sorts = sorts_of (xs ++ x ∷ []) } in
    let with_sorts : List Sort → Scope = λ sorts. record { names = names_of xs ++ x.name.items ∷ []; sorts = sorts } in
    ap with_names (names_of-push xs x) ∙ ap with_sorts (sorts_of-push xs x s e)

-- the table that stands for one declaration more
pub table-push : (old new : Table) (d : Decl) (s : Sort) → IsTable old → Follows old.decls.items d s
    → new.decls ≡ record { items = old.decls.items ++ d ∷ []; spare = old.decls.spare - 1 }
    → new.scope ≡ record { names = old.scope.names ++ d.name.items ∷ []; sorts = old.scope.sorts ++ s ∷ [] }
    → new.counts.devices ≡ old.counts.devices + (if is_device d then 1 else 0)
    → new.counts.cells ≡ old.counts.cells + (if is_cell d then 1 else 0)
    → new.counts.replicated ≡ old.counts.replicated + (if is_replicated d then 1 else 0)
    → IsTable new
table-push old new d s t f decls scope devices cells replicated =
    let items : new.decls.items ≡ old.decls.items ++ d ∷ [] = ap (λ l. l.items) decls in
    let widened : Scope → Scope = λ sc. record { names = sc.names ++ d.name.items ∷ []; sorts = sc.sorts ++ s ∷ [] } in
    record {
      plain = ap (λ l. l.spare) decls ∙ (let none = t.plain in omega arith);
      scope = scope ∙ ap widened t.scope ∙ sym (scope_of-push old.decls.items d s f.sort) ∙ ap scope_of (sym items);
      devices = devices ∙ ap (λ n. n + (if is_device d then 1 else 0)) t.devices ∙ sym (count_by-push is_device old.decls.items d) ∙ ap (count_by is_device) (sym items);
      cells = cells ∙ ap (λ n. n + (if is_cell d then 1 else 0)) t.cells ∙ sym (count_by-push is_cell old.decls.items d) ∙ ap (count_by is_cell) (sym items);
      replicated = replicated ∙ ap (λ n. n + (if is_replicated d then 1 else 0)) t.replicated ∙ sym (count_by-push is_replicated old.decls.items d) ∙ ap (count_by is_replicated) (sym items);
      sound = subst AreDeclarations (sym items) (declarations-push old.decls.items d s t.sound f);
    }
