-- What comes of a declaration, case by case.
use Rattle.std.proofs.Common.{ℕ, ◌≡◌, ◌<◌, ◌≤◌, ◌+◌, Bool, true, false, not, ◌||◌, if◌then◌else◌, length, Option, Some, None, Ok, Err, refl, ap, subst, ◌∙◌, arith}
use Rattle.std.specs.Prelude.{option_and_then, option_map, nat_lt, is_some, count_by}
use Rattle.std.proofs.lemmas.Bool.{ltb-true}
use Rattle.re_terms.specs.Cells.{is_cell, is_cell_body}
use Rattle.re_terms.specs.Kinds.{Sort, Symbol, is_symbol_sort, event_kind, expr_kind, in_signal, at_event, sort_of}
use Rattle.re_terms.specs.Programs.{is_device, is_device_body, is_replicated, is_replicated_body, is_symbol_body, names_of, is_ranged}
use Rattle.re_terms.specs.Trees.{is_name_text, is_body, is_declaration}
use Rattle.re_terms.specs.declared.program.Body.{Body}
use Rattle.re_terms.specs.declared.program.Body.TheVariants as body
use Rattle.re_terms.specs.declared.program.Decl.{Decl}
use Rattle.re_terms.specs.declared.raw.RawBody.{RawBody}
use Rattle.re_terms.specs.declared.raw.RawBody.TheVariants as raw
use Rattle.re_terms.specs.declared.raw.RawDecl.{RawDecl}
use Rattle.re_types.specs.declared.fault.TypeFault.TheVariants as fault
use Rattle.re_types.specs.Resolving.{Scope, scope_of, place_of, is_known, knows_body, start_word, resolved_expr, one_kind, resolved_body, kinded_body, kinded, is_raw_device, is_raw_cell, is_raw_replicated, has_room, has_room_behind, declared, declarations}
use Rattle.re_types.specs.Tables.{IsTable}
use Rattle.re_types.specs.declared.resolving.Table.{Table}
use Rattle.re_types.proofs.Conjunctions.{both, all_four}
use Rattle.re_types.proofs.Declaring.{Follows}

-- resolving keeps what counts towards a limit
pub record CountsAlike (r : RawBody) (b : Body) : Type 0 where
  pub devices : is_device_body b ≡ is_raw_device r
  pub cells : is_cell_body b ≡ is_raw_cell r
  pub replicated : is_replicated_body b ≡ is_raw_replicated r

alike : (r : RawBody) (x b : Body) → CountsAlike r x → Some x ≡ Some b → CountsAlike r b
alike r x b h e = let same : x ≡ b = cc in subst (CountsAlike r) same h

-- what holds of each value that a step gives holds of what the step gives behind another
behind : {A : Type 0} (r : RawBody) (o : Option A) (f : A → Option Body) → ((a : A) (b : Body) → f a ≡ Some b → CountsAlike r b) → (b : Body) → option_and_then f o ≡ Some b → CountsAlike r b
behind r None f h b e = absurd (cc)
behind r (Some a) f h b e = h a b e

mapped : {A : Type 0} (r : RawBody) (o : Option A) (f : A → Body) → ((a : A) → CountsAlike r (f a)) → (b : Body) → option_map f o ≡ Some b → CountsAlike r b
mapped r None f h b e = absurd (cc)
mapped r (Some a) f h b e = alike r (f a) b (h a) e

pub counts_alike : (scope : Scope) (r : RawBody) (b : Body) → resolved_body scope r ≡ Some b → CountsAlike r b
counts_alike scope raw.Device b e = alike _ body.Device b (record { devices = refl; cells = refl; replicated = refl }) e
counts_alike scope raw.Symbol b e = alike _ body.Symbol b (record { devices = refl; cells = refl; replicated = refl }) e
counts_alike scope (raw.Var kind start region) b e = behind _ (start_word scope start) _ (λ w x. alike _ (body.Var kind w region) x (record { devices = refl; cells = refl; replicated = refl })) b e
counts_alike scope (raw.Event kind) b e = alike _ (body.Event kind) b (record { devices = refl; cells = refl; replicated = refl }) e
counts_alike scope (raw.Signal expr) b e =
    behind _ (resolved_expr scope expr) _ (λ x. behind _ (one_kind (expr_kind scope.sorts in_signal x)) _ (λ kind y. alike _ (body.Signal kind x) y (record { devices = refl; cells = refl; replicated = refl }))) b e
counts_alike scope (raw.Changed of) b e = mapped _ _ body.Changed (λ id. record { devices = refl; cells = refl; replicated = refl }) b e
counts_alike scope (raw.Map source expr) b e =
    behind _ (place_of scope.names source.items) _ (λ id. behind _ (resolved_expr scope expr) _ (λ x. behind _ (event_kind scope.sorts id) _ (λ arg.
    behind _ (one_kind (expr_kind scope.sorts (at_event arg) x)) _ (λ kind y. alike _ (body.Map id kind x) y (record { devices = refl; cells = refl; replicated = refl }))))) b e
counts_alike scope (raw.Filter source expr) b e =
    behind _ (place_of scope.names source.items) _ (λ id. behind _ (resolved_expr scope expr) _ (λ x y. alike _ (body.Filter id x) y (record { devices = refl; cells = refl; replicated = refl }))) b e
counts_alike scope (raw.Either left right) b e =
    behind _ (place_of scope.names left.items) _ (λ l. behind _ (place_of scope.names right.items) _ (λ r y. alike _ (body.Either l r) y (record { devices = refl; cells = refl; replicated = refl }))) b e
counts_alike scope (raw.Fold kind start source expr region) b e =
    behind _ (start_word scope start) _ (λ w. behind _ (place_of scope.names source.items) _ (λ id. behind _ (resolved_expr scope expr) _ (λ x y. alike _ (body.Fold kind w id x region) y (record { devices = refl; cells = refl; replicated = refl })))) b e
counts_alike scope raw.Counter b e = alike _ body.Counter b (record { devices = refl; cells = refl; replicated = refl }) e
counts_alike scope (raw.Set kind) b e = alike _ (body.Set kind) b (record { devices = refl; cells = refl; replicated = refl }) e
counts_alike scope (raw.Register kind start) b e = behind _ (start_word scope start) _ (λ w x. alike _ (body.Register kind w) x (record { devices = refl; cells = refl; replicated = refl })) b e

-- the body keeps the kind rules
pub kinded_body-some : (scope : Scope) (r : RawBody) (b : Body) (s : Sort) → resolved_body scope r ≡ Some b → sort_of scope.sorts b ≡ Some s → kinded_body scope r ≡ Some b
kinded_body-some scope r b s e k = rw (e, k) refl

-- the body breaks one
pub kinded_body-none : (scope : Scope) (r : RawBody) (b : Body) → resolved_body scope r ≡ Some b → sort_of scope.sorts b ≡ None → kinded_body scope r ≡ None
kinded_body-none scope r b e k = rw (e, k) refl

-- room for one more that counts
one_more : (counted alike : Bool) (count limit : ℕ) → counted ≡ alike → (not alike || nat_lt count limit) ≡ true → count ≤ limit → count + (if counted then 1 else 0) ≤ limit
one_more counted true count limit e h below = rw e (below_limit h)
  where
    below_limit : nat_lt count limit ≡ true → count + 1 ≤ limit
    below_limit less = let l = ltb-true count limit less in omega arith
one_more counted false count limit e h below = rw e (omega (arith, below))

-- where there is room, fewer than 512 declarations stand before
pub few_before : (declarations devices cells replicated : ℕ) (b : RawBody) → has_room_behind declarations devices cells replicated b ≡ true → declarations < 512
few_before declarations devices cells replicated b room =
    ltb-true declarations 512 (all_four (nat_lt declarations 512) (not (is_raw_device b) || nat_lt devices 16) (not (is_raw_cell b) || nat_lt cells 256) (not (is_raw_replicated b) || nat_lt replicated 32) room).0

-- what is known of a table and a declaration where this has room, a new name, and names that are known
pub record IsNamed (t : Table) (d : RawDecl) (b : Body) : Type 0 where
  pub table : IsTable t
  pub room : has_room_behind (length t.decls.items) t.counts.devices t.counts.cells t.counts.replicated d.body ≡ true
  pub new : is_known t.scope.names d.name ≡ false
  pub known : knows_body t.scope.names d.body ≡ true
  pub body : resolved_body t.scope d.body ≡ Some b

abbrev over : Body → RawDecl → Decl
over b d = record { name = d.name; body = b }

plain_room : (t : Table) (d : RawDecl) (b : Body) → IsNamed t d b → has_room t.decls.items d.body ≡ true
plain_room t d b n = rw (n.table.devices, n.table.cells, n.table.replicated) at n.room

-- past the first three faults
declared-kinded : (t : Table) (d : RawDecl) (b : Body) → IsNamed t d b
    → declared t.decls.items d ≡ kinded (length t.decls.items) d.name (kinded_body (scope_of t.decls.items) d.body)
declared-kinded t d b n =
    let room = plain_room t d b n in
    let new = rw n.table.scope at n.new in
    let known = rw n.table.scope at n.known in
    rw (room, new, known) refl

-- it breaks a kind rule
pub declared-none : (t : Table) (d : RawDecl) (b : Body) → IsNamed t d b → sort_of t.scope.sorts b ≡ None → declared t.decls.items d ≡ Err (fault.Kind (length t.decls.items))
declared-none t d b n k =
    declared-kinded t d b n ∙ ap (kinded (length t.decls.items) d.name) (kinded_body-none (scope_of t.decls.items) d.body b (rw n.table.scope at n.body) (rw n.table.scope at k))

-- it keeps them
pub declared-some : (t : Table) (d : RawDecl) (b : Body) (s : Sort) → IsNamed t d b → sort_of t.scope.sorts b ≡ Some s → declared t.decls.items d ≡ Ok (over b d)
declared-some t d b s n k =
    declared-kinded t d b n ∙ ap (kinded (length t.decls.items) d.name) (kinded_body-some (scope_of t.decls.items) d.body b s (rw n.table.scope at n.body) (rw n.table.scope at k))

none_known : (o : Option ℕ) → is_some o ≡ false → o ≡ None
none_known None e = refl
none_known (Some x) e = absurd (cc)

pub follows : (t : Table) (d : RawDecl) (b : Body) (s : Sort) → IsNamed t d b → is_declaration d ≡ true
    → sort_of t.scope.sorts b ≡ Some s
    → is_ranged (count_by is_symbol_sort t.scope.sorts) b ≡ true
    → is_symbol_sort s ≡ is_symbol_body b
    → ((n : ℕ) → s ≡ Symbol n → n ≡ count_by is_symbol_sort t.scope.sorts)
    → Follows t.decls.items (over b d) s
follows t d b s n raw sort ranged symbol number =
    let items = t.decls.items in
    let room = plain_room t d b n in
    let rooms = all_four (nat_lt (length items) 512) (not (is_raw_device d.body) || nat_lt (count_by is_device items) 16) (not (is_raw_cell d.body) || nat_lt (count_by is_cell items) 256) (not (is_raw_replicated d.body) || nat_lt (count_by is_replicated items) 32) room in
    let alike = counts_alike t.scope d.body b n.body in
    let sound = n.table.sound in
    let new = rw n.table.scope at n.new in
    let ranges = rw (n.table.scope, sound.symbols) at ranged in
    record {
      few = ltb-true (length items) 512 rooms.0;
      cells = one_more (is_cell_body b) (is_raw_cell d.body) (count_by is_cell items) 256 alike.cells rooms.2 sound.cells;
      replicated = one_more (is_replicated_body b) (is_raw_replicated d.body) (count_by is_replicated items) 32 alike.replicated rooms.3 sound.replicated;
      devices = one_more (is_device_body b) (is_raw_device d.body) (count_by is_device items) 16 alike.devices rooms.1 sound.devices;
      name = (both {a = is_name_text d.name} {b = is_body d.body} raw).0;
      new = none_known (place_of (names_of items) d.name.items) new;
      sort = rw n.table.scope at sort;
      ranges = ranges;
      symbol = symbol;
      number = rw n.table.scope at number;
    }
