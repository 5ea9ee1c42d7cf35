-- What the declarations of a program's text mean.
use Rattle.std.proofs.Common.{ℕ, suc, ◌≡◌, ◌≤◌, ◌+◌, ◌&&◌, ◌||◌, Bool, true, false, cond, not, nat_lt, List, [], ◌∷◌, ◌++◌, length, take, Option, Some, None, option_map, refl, sym, ap, subst, ◌∙◌, arith, append_assoc, length-append}
use Rattle.std.specs.Prelude.{slice_get, count_by, is_some, nat_le, Ok, Err}
use Rattle.std.specs.List.{list_all}
use Rattle.std.proofs.Math.Seq.{take-append_seam}
use Rattle.std.proofs.lemmas.Bool.{and_parts, and_from, not_from_true, lt-ltb, ltb-true, cond-false}
use Rattle.std.proofs.lemmas.List.{append-nil}
use Rattle.std.proofs.lemmas.List.Sums.{sum_by-append}
use Rattle.std.proofs.lemmas.Option.{option_and_then_some}
use Rattle.re_terms.specs.Listed.{plain}
use Rattle.re_terms.specs.Trees.{is_region, is_name_text}
use Rattle.re_terms.specs.Cells.{is_cell, is_cell_body}
use Rattle.re_terms.specs.Kinds.{Sort, Value, Event, SomeKind, ◌>>=◌, only_if, kind_eq, is_of_kind, agrees_with, is_start, in_signal, at_event, in_fold, value_kind, event_kind, expr_kind, sort_of, sorts_of, keeps_kinds}
use Rattle.re_terms.specs.Programs.{IsProgram, is_device_body, is_device, is_symbol, is_replicated_body, is_replicated, names_of, is_literal_word, has_literals, expr_depth, is_ranged_expr, is_ranged}
use Rattle.re_terms.specs.declared.word.Word.{Word}
use Rattle.re_terms.specs.declared.word.Word.TheVariants as word
use Rattle.re_terms.specs.declared.word.Kind.{Kind}
use Rattle.re_terms.specs.declared.word.Kind.TheVariants as kind
use Rattle.re_terms.specs.declared.expr.Expr.{Expr}
use Rattle.re_terms.specs.declared.program.Body.{Body}
use Rattle.re_terms.specs.declared.program.Body.TheVariants as body
use Rattle.re_terms.specs.declared.program.Decl.{Decl}
use Rattle.re_terms.specs.declared.program.Program.{Program}
use Rattle.re_types.specs.declared.fault.TypeFault.TheVariants as fault
use Rattle.re_types.specs.Resolving.{scope_of, place_of, is_known, knows_literal, knows_body, symbol_of, start_word, resolved_expr, one_kind, resolved_body, kinded_body, is_raw_device, is_raw_cell, is_raw_replicated, has_room, kinded, declared, then_others, declarations}
use Rattle.re_print.specs.Canonical.{name_text, symbol_text}
use Rattle.re_tokens.proofs.Marks.{and_four_from}
use Rattle.re_reading.proofs.NamePlaces.{Context, NameIs, all_split, get_at, own_name_new}
use Rattle.re_reading.proofs.Sorts.{one_if, count_first, symbol_is_at}
use Rattle.re_reading.proofs.ExprMeans.{then_some, mapped_some, value_sort, event_sort, sorted_name, expr_means}
use Rattle.re_reading.proofs.Unresolved.{raw_literal, raw_expr, raw_body, raw_declaration, raw_declarations, is_sayable, is_sayable_body, is_plain_word, is_readable_body, is_written}

-- what tests say
chosen : {A : Type 0} (c : Bool) (x y : A) → only_if c x ≡ Some y → c ≡ true
chosen true x y e = refl
chosen false x y e = absurd (cc)

same_kind : (a b : Kind) → kind_eq a b ≡ true → a ≡ b
same_kind kind.Int kind.Int h = refl
same_kind kind.Int kind.Bool h = absurd (cc)
same_kind kind.Int kind.Sym h = absurd (cc)
same_kind kind.Bool kind.Int h = absurd (cc)
same_kind kind.Bool kind.Bool h = refl
same_kind kind.Bool kind.Sym h = absurd (cc)
same_kind kind.Sym kind.Int h = absurd (cc)
same_kind kind.Sym kind.Bool h = absurd (cc)
same_kind kind.Sym kind.Sym h = refl

of_kind : (k : Kind) (o : Option SomeKind) → is_of_kind k o ≡ true → o ≡ Some (Some k)
of_kind k None h = absurd (cc)
of_kind k (Some None) h = absurd (cc)
of_kind k (Some (Some a)) h = ap (λ x. Some (Some x)) (same_kind a k h)

agreed : (k : Kind) (o : Option SomeKind) (P : Type 0) → agrees_with k o ≡ true → ((x : SomeKind) → o ≡ Some x → P) → P
agreed k None P h more = absurd (cc)
agreed k (Some None) P h more = more None refl
agreed k (Some (Some a)) P h more = more (Some a) refl

there : {A : Type 0} (o : Option A) (P : Type 0) → is_some o ≡ true → ((x : A) → o ≡ Some x → P) → P
there None P h more = absurd (cc)
there (Some x) P h more = more x refl

-- a start word
record StartMeaning (p : Program) (earlier : List Decl) (w : Word) : Type 0 where
  resolved : start_word (scope_of earlier) (raw_literal p w) ≡ Some w
  known : knows_literal (names_of earlier) (raw_literal p w) ≡ true
  sayable : is_sayable p w ≡ true
  no_fault : is_plain_word w ≡ true

start_means : (p : Program) (earlier rest : List Decl) (k : Kind) (w : Word) → Context p earlier rest → is_start k w ≡ true → is_literal_word (count_by is_symbol earlier) w ≡ true → StartMeaning p earlier w
start_means p earlier rest k (word.Int z) c h l = record { resolved = refl; known = refl; sayable = l; no_fault = refl }
start_means p earlier rest k (word.Bool b) c h l = record { resolved = refl; known = refl; sayable = refl; no_fault = refl }
start_means p earlier rest k (word.Sym number) c h l =
    let s = symbol_is_at p earlier rest number c (ltb-true number (count_by is_symbol earlier) l) in
    record {
      resolved =
          then_some (place_of (names_of earlier) (symbol_text p number)) s.id (λ id. symbol_of (slice_get (sorts_of earlier) id) >>= λ n. Some (word.Sym n)) s.place
          ∙ ap (λ o. symbol_of o >>= λ n. Some (word.Sym n)) s.sort;
      known = ap is_some s.place;
      sayable = s.named;
      no_fault = refl;
    }
start_means p earlier rest k (word.Fault code) c h l = absurd (cc)

-- what stands behind a declaration's name
record BodyMeaning (p : Program) (earlier : List Decl) (b : Body) : Type 0 where
  resolved : resolved_body (scope_of earlier) (raw_body p b) ≡ Some b
  known : knows_body (names_of earlier) (raw_body p b) ≡ true
  sayable : is_sayable_body p b ≡ true
  readable : is_readable_body b ≡ true

known_name : (names : List (List ℕ)) (name : List ℕ) (id : ℕ) → place_of names name ≡ Some id → is_known names (plain name) ≡ true
known_name names name id e = ap is_some e

var_means : (p : Program) (earlier rest : List Decl) (k : Kind) (w : Word) (region : ℕ) → Context p earlier rest → is_start k w ≡ true → is_literal_word (count_by is_symbol earlier) w ≡ true → is_region region ≡ true → BodyMeaning p earlier (body.Var k w region)
var_means p earlier rest k w region c h l r =
    let s = start_means p earlier rest k w c h l in
    record { resolved = then_some _ w (λ v. Some (body.Var k v region)) s.resolved; known = s.known; sayable = and_from _ _ s.sayable r; readable = s.no_fault }

register_means : (p : Program) (earlier rest : List Decl) (k : Kind) (w : Word) → Context p earlier rest → is_start k w ≡ true → is_literal_word (count_by is_symbol earlier) w ≡ true → BodyMeaning p earlier (body.Register k w)
register_means p earlier rest k w c h l =
    let s = start_means p earlier rest k w c h l in
    record { resolved = then_some _ w (λ v. Some (body.Register k v)) s.resolved; known = s.known; sayable = s.sayable; readable = s.no_fault }

signal_means : (p : Program) (earlier rest : List Decl) (k : Kind) (e : Expr) → Context p earlier rest → is_of_kind k (expr_kind (sorts_of earlier) in_signal e) ≡ true → is_ranged_expr (count_by is_symbol earlier) e ≡ true → BodyMeaning p earlier (body.Signal k e)
signal_means p earlier rest k e c h l =
    let q = and_parts (has_literals (count_by is_symbol earlier) e) (nat_le (expr_depth e) 64) l in
    let o = of_kind k _ h in
    let m = expr_means p earlier rest in_signal c e (Some k) o q.0 in
    record {
      resolved =
          then_some _ e (λ x. one_kind (expr_kind (sorts_of earlier) in_signal x) >>= λ v. Some (body.Signal v x)) m.resolved
          ∙ ap (λ v. one_kind v >>= λ v. Some (body.Signal v e)) o;
      known = m.known;
      sayable = m.sayable;
      readable = q.1;
    }

changed_means : (p : Program) (earlier rest : List Decl) (of : ℕ) (k : Kind) → Context p earlier rest → value_kind (sorts_of earlier) of ≡ Some k → BodyMeaning p earlier (body.Changed of)
changed_means p earlier rest of k c e =
    let n = sorted_name p earlier rest of (Value k) c (value_sort _ k e) in
    record { resolved = ap (option_map body.Changed) n.place; known = known_name (names_of earlier) (name_text p of) of n.place; sayable = n.named; readable = refl }

event_name : (p : Program) (earlier rest : List Decl) (id : ℕ) (k : Kind) → Context p earlier rest → event_kind (sorts_of earlier) id ≡ Some k → NameIs p earlier id
event_name p earlier rest id k c e = sorted_name p earlier rest id (Event k) c (event_sort _ k e)

map_means : (p : Program) (earlier rest : List Decl) (source : ℕ) (k : Kind) (e : Expr) (arg : Kind) → Context p earlier rest → event_kind (sorts_of earlier) source ≡ Some arg → is_of_kind k (expr_kind (sorts_of earlier) (at_event arg) e) ≡ true → is_ranged_expr (count_by is_symbol earlier) e ≡ true → BodyMeaning p earlier (body.Map source k e)
map_means p earlier rest source k e arg c a h l =
    let q = and_parts (has_literals (count_by is_symbol earlier) e) (nat_le (expr_depth e) 64) l in
    let o = of_kind k _ h in
    let m = expr_means p earlier rest (at_event arg) c e (Some k) o q.0 in
    let n = event_name p earlier rest source arg c a in
    record {
      resolved =
          then_some _ source (λ id. resolved_expr (scope_of earlier) (raw_expr p e) >>= λ x. event_kind (sorts_of earlier) id >>= λ v. one_kind (expr_kind (sorts_of earlier) (at_event v) x) >>= λ j. Some (body.Map id j x)) n.place
          ∙ then_some _ e (λ x. event_kind (sorts_of earlier) source >>= λ v. one_kind (expr_kind (sorts_of earlier) (at_event v) x) >>= λ j. Some (body.Map source j x)) m.resolved
          ∙ then_some _ arg (λ v. one_kind (expr_kind (sorts_of earlier) (at_event v) e) >>= λ j. Some (body.Map source j e)) a
          ∙ ap (λ v. one_kind v >>= λ j. Some (body.Map source j e)) o;
      known = and_from _ _ (known_name (names_of earlier) (name_text p source) source n.place) m.known;
      sayable = and_from _ _ n.named m.sayable;
      readable = q.1;
    }

filter_means : (p : Program) (earlier rest : List Decl) (source : ℕ) (e : Expr) (arg : Kind) → Context p earlier rest → event_kind (sorts_of earlier) source ≡ Some arg → agrees_with kind.Bool (expr_kind (sorts_of earlier) (at_event arg) e) ≡ true → is_ranged_expr (count_by is_symbol earlier) e ≡ true → BodyMeaning p earlier (body.Filter source e)
filter_means p earlier rest source e arg c a h l =
    let q = and_parts (has_literals (count_by is_symbol earlier) e) (nat_le (expr_depth e) 64) l in
    agreed kind.Bool _ _ h (λ x o.
    let m = expr_means p earlier rest (at_event arg) c e x o q.0 in
    let n = event_name p earlier rest source arg c a in
    record {
      resolved =
          then_some _ source (λ id. resolved_expr (scope_of earlier) (raw_expr p e) >>= λ x. Some (body.Filter id x)) n.place
          ∙ then_some _ e (λ x. Some (body.Filter source x)) m.resolved;
      known = and_from _ _ (known_name (names_of earlier) (name_text p source) source n.place) m.known;
      sayable = and_from _ _ n.named m.sayable;
      readable = q.1;
    })

either_means : (p : Program) (earlier rest : List Decl) (left right : ℕ) (a b : Kind) → Context p earlier rest → event_kind (sorts_of earlier) left ≡ Some a → event_kind (sorts_of earlier) right ≡ Some b → BodyMeaning p earlier (body.Either left right)
either_means p earlier rest left right a b c e f =
    let m = event_name p earlier rest left a c e in
    let n = event_name p earlier rest right b c f in
    record {
      resolved =
          then_some _ left (λ x. place_of (names_of earlier) (name_text p right) >>= λ y. Some (body.Either x y)) m.place
          ∙ then_some _ right (λ y. Some (body.Either left y)) n.place;
      known = and_from _ _ (known_name (names_of earlier) (name_text p left) left m.place) (known_name (names_of earlier) (name_text p right) right n.place);
      sayable = and_from _ _ m.named n.named;
      readable = refl;
    }

fold_means : (p : Program) (earlier rest : List Decl) (k : Kind) (w : Word) (source : ℕ) (e : Expr) (region : ℕ) (arg : Kind) → Context p earlier rest → event_kind (sorts_of earlier) source ≡ Some arg → is_start k w ≡ true
    → agrees_with k (expr_kind (sorts_of earlier) (in_fold arg k) e) ≡ true → is_literal_word (count_by is_symbol earlier) w ≡ true → is_ranged_expr (count_by is_symbol earlier) e ≡ true → is_region region ≡ true → BodyMeaning p earlier (body.Fold k w source e region)
fold_means p earlier rest k w source e region arg c a h g l r t =
    let q = and_parts (has_literals (count_by is_symbol earlier) e) (nat_le (expr_depth e) 64) r in
    let s = start_means p earlier rest k w c h l in
    agreed k _ _ g (λ x o.
    let m = expr_means p earlier rest (in_fold arg k) c e x o q.0 in
    let n = event_name p earlier rest source arg c a in
    record {
      resolved =
          then_some _ w (λ v. place_of (names_of earlier) (name_text p source) >>= λ id. resolved_expr (scope_of earlier) (raw_expr p e) >>= λ x. Some (body.Fold k v id x region)) s.resolved
          ∙ then_some _ source (λ id. resolved_expr (scope_of earlier) (raw_expr p e) >>= λ x. Some (body.Fold k w id x region)) n.place
          ∙ then_some _ e (λ x. Some (body.Fold k w source x region)) m.resolved;
      known = and_from _ _ (and_from _ _ s.known (known_name (names_of earlier) (name_text p source) source n.place)) m.known;
      sayable = and_from _ _ s.sayable (and_from _ _ n.named (and_from _ _ m.sayable t));
      readable = and_from _ _ s.no_fault q.1;
    })

body_by : (p : Program) (earlier rest : List Decl) (b : Body) (s : Sort) → Context p earlier rest → sort_of (sorts_of earlier) b ≡ Some s → is_ranged (count_by is_symbol earlier) b ≡ true → BodyMeaning p earlier b
body_by p earlier rest body.Device s c e l = record { resolved = refl; known = refl; sayable = refl; readable = refl }
body_by p earlier rest body.Symbol s c e l = record { resolved = refl; known = refl; sayable = refl; readable = refl }
body_by p earlier rest (body.Var k w region) s c e l =
    let q = and_parts (is_literal_word (count_by is_symbol earlier) w) (is_region region) l in
    var_means p earlier rest k w region c (chosen _ _ s e) q.0 q.1
body_by p earlier rest (body.Event k) s c e l = record { resolved = refl; known = refl; sayable = refl; readable = refl }
body_by p earlier rest (body.Signal k x) s c e l = signal_means p earlier rest k x c (chosen _ _ s e) l
body_by p earlier rest (body.Changed of) s c e l = mapped_some _ _ s _ e (λ k f. changed_means p earlier rest of k c f)
body_by p earlier rest (body.Map source k x) s c e l = option_and_then_some _ _ s e (λ arg a f. map_means p earlier rest source k x arg c a (chosen _ _ s f) l)
body_by p earlier rest (body.Filter source x) s c e l = option_and_then_some _ _ s e (λ arg a f. filter_means p earlier rest source x arg c a (chosen _ _ s f) l)
body_by p earlier rest (body.Either left right) s c e l = option_and_then_some _ _ s e (λ a f g. option_and_then_some _ _ s g (λ b h i. either_means p earlier rest left right a b c f h))
body_by p earlier rest (body.Fold k w source x region) s c e l =
    let q = and_parts (is_literal_word (count_by is_symbol earlier) w && is_ranged_expr (count_by is_symbol earlier) x) (is_region region) l in
    let r = and_parts (is_literal_word (count_by is_symbol earlier) w) (is_ranged_expr (count_by is_symbol earlier) x) q.0 in
    option_and_then_some _ _ s e (λ arg a f.
    let t = and_parts (is_start k w) (agrees_with k (expr_kind (sorts_of earlier) (in_fold arg k) x)) (chosen _ _ s f) in
    fold_means p earlier rest k w source x region arg c a t.0 t.1 r.0 r.1 q.1)
body_by p earlier rest body.Counter s c e l = record { resolved = refl; known = refl; sayable = refl; readable = refl }
body_by p earlier rest (body.Set k) s c e l = record { resolved = refl; known = refl; sayable = refl; readable = refl }
body_by p earlier rest (body.Register k w) s c e l = register_means p earlier rest k w c (chosen _ _ s e) l

-- the forms of declarations
raw_device_is : (p : Program) (b : Body) → is_raw_device (raw_body p b) ≡ is_device_body b
raw_device_is p body.Device = refl
raw_device_is p body.Symbol = refl
raw_device_is p (body.Var k w region) = refl
raw_device_is p (body.Event k) = refl
raw_device_is p (body.Signal k e) = refl
raw_device_is p (body.Changed of) = refl
raw_device_is p (body.Map source k e) = refl
raw_device_is p (body.Filter source e) = refl
raw_device_is p (body.Either left right) = refl
raw_device_is p (body.Fold k w source e region) = refl
raw_device_is p body.Counter = refl
raw_device_is p (body.Set k) = refl
raw_device_is p (body.Register k w) = refl

raw_cell_is : (p : Program) (b : Body) → is_raw_cell (raw_body p b) ≡ is_cell_body b
raw_cell_is p body.Device = refl
raw_cell_is p body.Symbol = refl
raw_cell_is p (body.Var k w region) = refl
raw_cell_is p (body.Event k) = refl
raw_cell_is p (body.Signal k e) = refl
raw_cell_is p (body.Changed of) = refl
raw_cell_is p (body.Map source k e) = refl
raw_cell_is p (body.Filter source e) = refl
raw_cell_is p (body.Either left right) = refl
raw_cell_is p (body.Fold k w source e region) = refl
raw_cell_is p body.Counter = refl
raw_cell_is p (body.Set k) = refl
raw_cell_is p (body.Register k w) = refl

raw_replicated_is : (p : Program) (b : Body) → is_raw_replicated (raw_body p b) ≡ is_replicated_body b
raw_replicated_is p body.Device = refl
raw_replicated_is p body.Symbol = refl
raw_replicated_is p (body.Var k w region) = refl
raw_replicated_is p (body.Event k) = refl
raw_replicated_is p (body.Signal k e) = refl
raw_replicated_is p (body.Changed of) = refl
raw_replicated_is p (body.Map source k e) = refl
raw_replicated_is p (body.Filter source e) = refl
raw_replicated_is p (body.Either left right) = refl
raw_replicated_is p (body.Fold k w source e region) = refl
raw_replicated_is p body.Counter = refl
raw_replicated_is p (body.Set k) = refl
raw_replicated_is p (body.Register k w) = refl

-- a limit that the whole program keeps leaves room for one declaration of it
room : (q : Decl → Bool) (c : Bool) (decls earlier : List Decl) (d : Decl) (rest : List Decl) (limit : ℕ) → q d ≡ c → decls ≡ earlier ++ d ∷ rest → count_by q decls ≤ limit → (not c || nat_lt (count_by q earlier) limit) ≡ true
room q false decls earlier d rest limit e whole few = refl
room q true decls earlier d rest limit e whole few =
    let all : count_by q decls ≡ count_by q earlier + count_by q (d ∷ rest) = ap (count_by q) whole ∙ sum_by-append (λ x. cond (q x) 1 0) earlier (d ∷ rest) in
    let first = count_first q d rest in
    let one : one_if (q d) ≡ 1 = ap one_if e in
    lt-ltb (count_by q earlier) limit (omega arith)

has_room_is : (p : Program) (earlier : List Decl) (d : Decl) (rest : List Decl) → IsProgram p → p.decls.items ≡ earlier ++ d ∷ rest → has_room earlier (raw_body p d.body) ≡ true
has_room_is p earlier d rest i whole =
    let long : length p.decls.items ≡ length earlier + suc (length rest) = ap length whole ∙ length-append earlier (d ∷ rest) in
    let few = i.few in
    and_four_from _ _ _ _ (lt-ltb (length earlier) 512 (omega arith))
    (room is_device _ p.decls.items earlier d rest 16 (sym (raw_device_is p d.body)) whole i.devices)
    (room is_cell _ p.decls.items earlier d rest 256 (sym (raw_cell_is p d.body)) whole i.cells)
    (room is_replicated _ p.decls.items earlier d rest 32 (sym (raw_replicated_is p d.body)) whole i.replicated)

-- a declaration of a program
record DeclMeaning (p : Program) (earlier : List Decl) (d : Decl) : Type 0 where
  declared_is : declared earlier (raw_declaration p d) ≡ Ok d
  written : is_written p d ≡ true

decl_by : (p : Program) (earlier : List Decl) (d : Decl) (rest : List Decl) (s : Sort) → IsProgram p → Context p earlier (d ∷ rest) → sort_of (sorts_of earlier) d.body ≡ Some s → is_ranged (count_by is_symbol earlier) d.body ≡ true → DeclMeaning p earlier d
decl_by p earlier d rest s i c e l =
    let m = body_by p earlier (d ∷ rest) d.body s c e l in
    let known : is_known (names_of earlier) d.name ≡ false = ap is_some (own_name_new p earlier d rest c) in
    let named : is_name_text d.name ≡ true = all_split (λ x. is_name_text x.name) earlier d rest (subst (λ ds. list_all (λ x. is_name_text x.name) ds ≡ true) c.whole c.names) in
    let kinded_is : kinded_body (scope_of earlier) (raw_body p d.body) ≡ Some d.body =
    then_some _ d.body (λ b. sort_of (sorts_of earlier) b >>= λ k. Some b) m.resolved ∙ then_some _ s (λ k. Some d.body) e in
    let r = raw_declaration p d in
    let last = kinded (length earlier) d.name (kinded_body (scope_of earlier) (raw_body p d.body)) in
    let third = cond (not (knows_body (names_of earlier) (raw_body p d.body))) (Err (fault.Unknown (length earlier))) last in
    let second = cond (is_known (names_of earlier) d.name) (Err (fault.Twice (length earlier))) third in
    record {
      declared_is =
          cond-false (not (has_room earlier (raw_body p d.body))) (Err (fault.TooMany (length earlier))) second (not_from_true _ (has_room_is p earlier d rest i c.whole))
          ∙ cond-false (is_known (names_of earlier) d.name) (Err (fault.Twice (length earlier))) third known
          ∙ cond-false (not (knows_body (names_of earlier) (raw_body p d.body))) (Err (fault.Unknown (length earlier))) last (not_from_true _ m.known)
          ∙ ap (kinded (length earlier) d.name) kinded_is;
      written = and_from _ _ (and_from _ _ named m.sayable) m.readable;
    }

decl_means : (p : Program) (earlier : List Decl) (d : Decl) (rest : List Decl) → IsProgram p → p.decls.items ≡ earlier ++ d ∷ rest → DeclMeaning p earlier d
decl_means p earlier d rest i whole =
    let c : Context p earlier (d ∷ rest) = record { whole = whole; names = i.names; distinct = i.distinct } in
    let found : slice_get p.decls.items (length earlier) ≡ Some d = ap (λ ds. slice_get ds (length earlier)) whole ∙ get_at earlier d rest in
    let before : take (length earlier) p.decls.items ≡ earlier = ap (take (length earlier)) whole ∙ take-append_seam earlier (d ∷ rest) in
    let kinds : keeps_kinds earlier d.body ≡ true = ap (λ ds. keeps_kinds ds d.body) (sym before) ∙ i.kinds (length earlier) d found in
    let ranges : is_ranged (count_by is_symbol earlier) d.body ≡ true = ap (λ ds. is_ranged (count_by is_symbol ds) d.body) (sym before) ∙ i.ranges (length earlier) d found in
    there _ _ kinds (λ s e. decl_by p earlier d rest s i c e ranges)

-- the declarations from one on
pub record LinesMean (p : Program) (earlier rest : List Decl) : Type 0 where
  pub declared_are : declarations earlier (raw_declarations p rest) ≡ Ok p.decls.items
  pub written : list_all (is_written p) rest ≡ true

pub lines_mean : (p : Program) (earlier rest : List Decl) → IsProgram p → p.decls.items ≡ earlier ++ rest → LinesMean p earlier rest
lines_mean p earlier [] i whole = record { declared_are = ap Ok (sym (append-nil earlier) ∙ sym whole); written = refl }
lines_mean p earlier (d ∷ rest) i whole =
    let m = decl_means p earlier d rest i whole in
    let n = lines_mean p (earlier ++ d ∷ []) rest i (whole ∙ sym (append_assoc earlier (d ∷ []) rest)) in
    record {
      declared_are = ap (λ r. then_others earlier r (λ next. declarations next (raw_declarations p rest))) m.declared_is ∙ n.declared_are;
      written = and_from _ _ m.written n.written;
    }
