-- What parts mean: the turn where no fault holds, and that a program allows it.
use Rattle.std.proofs.Common.{ℕ, zero, suc, ◌≡◌, ◌≢◌, ◌<◌, ◌≤◌, ◌+◌, ◌==◌, ◌||◌, Bool, true, false, cond, if◌then◌else◌, List, [], ◌∷◌, ◌++◌, length, take, drop, get_or, nat_lt, Option, Some, None, is_some, Result, Ok, Err, refl, sym, ap, subst, ◌∙◌, arith}
use Rattle.std.specs.Prelude.{slice_get, count_by, option_map}
use Rattle.std.specs.List.{filter_map, cons_option, list_all, list_any}
use Rattle.std.specs.Option.{option_map_or}
use Rattle.std.proofs.lemmas.Bool.{lt-ltb}
use Rattle.std.proofs.lemmas.List.{append-nil, take_more}
use Rattle.std.proofs.lemmas.List.Sums.{sum_by-cons}
use Rattle.std.proofs.lemmas.List.Elements.{filter_map-append}
use Rattle.std.proofs.lemmas.List.Folds.{list_all_more}
use Rattle.std.proofs.lemmas.Option.{slice_get_within}
use Rattle.re_terms.specs.Listed.{Listed, plain}
use Rattle.re_terms.specs.Kinds.{◌>>=◌, only_if}
use Rattle.re_terms.specs.Programs.{names_of, is_replicated, is_replicated_body}
use Rattle.re_terms.specs.Propagation.{put_word}
use Rattle.re_terms.specs.Shapes.{replicated_kind, replicated_kinds, is_word_of}
use Rattle.re_terms.specs.SignalWords.{replicated_place}
use Rattle.re_terms.specs.Admission.{symbol_count, var_kind, source_kind, is_put_of, is_act_of, is_operation_of, IsAdmitted}
use Rattle.re_terms.specs.declared.word.Kind.{Kind}
use Rattle.re_terms.specs.declared.entry.Put.{Put}
use Rattle.re_terms.specs.declared.entry.Turn.{Turn}
use Rattle.re_terms.specs.declared.entry.Admitted.{Admitted}
use Rattle.re_terms.specs.declared.replicated.Act.{Act}
use Rattle.re_terms.specs.declared.replicated.Act.TheVariants as act
use Rattle.re_terms.specs.declared.replicated.RKind.{RKind}
use Rattle.re_terms.specs.declared.replicated.RepOp.{RepOp}
use Rattle.re_terms.specs.declared.program.Body.{Body}
use Rattle.re_terms.specs.declared.program.Body.TheVariants as body
use Rattle.re_terms.specs.declared.program.Decl.{Decl}
use Rattle.re_terms.specs.declared.program.Program.{Program}
use Rattle.re_terms.specs.declared.raw_expr.RawLit.{RawLit}
use Rattle.re_terms.specs.declared.raw.RawPart.{RawPart}
use Rattle.re_terms.specs.declared.raw.RawPart.TheVariants as raw
use Rattle.re_types.specs.Resolving.{place_of, scope_of, start_word}
use Rattle.re_types.specs.Admitting.{knows_part, put_on, put_of, operation_of, set_of, fire_of, act_of, keeps_kind, sets_of, fires_of, some_set, some_fire, is_twice, by_id, turn_of, turn_or_fault}
use Rattle.re_types.specs.Parts.{set_in, fire_in, operation_in, with_part, turn_in_order}
use Rattle.re_types.specs.PutOrder.{IsOrderOf}
use Rattle.re_types.specs.declared.parts.Part.{Part}
use Rattle.re_types.specs.declared.parts.Part.TheVariants as part
use Rattle.re_types.specs.declared.fault.AdmitFault.{AdmitFault}
use Rattle.re_types.specs.declared.fault.AdmitFault.TheVariants as fault
use Rattle.re_types.proofs.Conjunctions.{both}
use Rattle.re_types.proofs.PutOrder.{ordered_is, rising}
use Rattle.re_types.proofs.Sorts.{split_at}

-- what stands behind a step that succeeds
from-bind : {A B : Type 0} (o : Option A) (f : A → Option B) (b : B) (P : Type 0) → ((a : A) → o ≡ Some a → f a ≡ Some b → P) → (o >>= f) ≡ Some b → P
from-bind (Some a) f b P k e = k a refl e
from-bind None f b P k e = absurd (cc)

from-only_if : {A : Type 0} (c : Bool) (x y : A) → only_if c x ≡ Some y → (c ≡ true) × (x ≡ y)
from-only_if true x y e = (refl, cc)
from-only_if false x y e = absurd (cc)

put_of-is : (kind_of : Body → Option Kind) (decls : List Decl) (name : Listed ℕ) (lit : RawLit) (put : Put) → put_of kind_of decls name lit ≡ Some put → is_put_of kind_of decls put ≡ true
put_of-is kind_of decls name lit put e =
    from-bind (place_of (names_of decls) name.items) _ put (is_put_of kind_of decls put ≡ true) (λ id _ f.
    from-bind (start_word (scope_of decls) lit) _ put (is_put_of kind_of decls put ≡ true) (λ w _ g.
    let parts = from-only_if (is_put_of kind_of decls (put_on id w)) (put_on id w) put g in
    ap (is_put_of kind_of decls) (sym parts.1) ∙ parts.0) f) e

-- a declaration is a replicated cell exactly where it has such a kind
kind-replicated : (b : Body) → is_some (replicated_kind b) ≡ is_replicated_body b
kind-replicated body.Device = refl
kind-replicated body.Symbol = refl
kind-replicated (body.Var k start region) = refl
kind-replicated (body.Event k) = refl
kind-replicated (body.Signal k expr) = refl
kind-replicated (body.Changed of) = refl
kind-replicated (body.Map source k expr) = refl
kind-replicated (body.Filter source expr) = refl
kind-replicated (body.Either left right) = refl
kind-replicated (body.Fold k start source expr region) = refl
kind-replicated body.Counter = refl
kind-replicated (body.Set k) = refl
kind-replicated (body.Register k start) = refl

length-cons_option : {A : Type 0} (o : Option A) (xs : List A) → length (cons_option o xs) ≡ (if is_some o then 1 else 0) + length xs
length-cons_option (Some x) xs = omega arith
length-cons_option None xs = omega arith

kinds-count : (decls : List Decl) → length (replicated_kinds decls) ≡ count_by is_replicated decls
kinds-count [] = refl
kinds-count (d ∷ decls) =
    let whole : length (replicated_kinds (d ∷ decls)) ≡ (if is_some (replicated_kind d.body) then 1 else 0) + length (replicated_kinds decls) = length-cons_option (replicated_kind d.body) (replicated_kinds decls) in
    let own : ◌≡◌ {A = ℕ} (if is_some (replicated_kind d.body) then 1 else 0) (cond (is_replicated d) 1 0) = ap (λ b. cond b 1 0) (kind-replicated d.body) in
    let count : count_by is_replicated (d ∷ decls) ≡ cond (is_replicated d) 1 0 + count_by is_replicated decls = sum_by-cons (λ (x : Decl). cond (is_replicated x) 1 0) d decls in
    let rest = kinds-count decls in
    omega (arith, whole, own, count, rest)

slice_get-between : {A : Type 0} (xs : List A) (y : A) (ys : List A) → slice_get (xs ++ y ∷ ys) (length xs) ≡ Some y
slice_get-between [] y ys = refl
slice_get-between (x ∷ xs) y ys = slice_get-between xs y ys

replicated-at : (decls : List Decl) (id : ℕ) (d : Decl) (k : RKind) → slice_get decls id ≡ Some d → replicated_kind d.body ≡ Some k → slice_get (replicated_kinds decls) (replicated_place decls id) ≡ Some k
replicated-at decls id d k at is =
    let first = replicated_kinds (take id decls) in
    let rest = replicated_kinds (drop (suc id) decls) in
    let whole : replicated_kinds decls ≡ first ++ k ∷ rest =
    ap replicated_kinds (split_at decls id d at) ∙ filter_map-append (λ (x : Decl). replicated_kind x.body) (take id decls) (d ∷ drop (suc id) decls) ∙ ap (λ o. first ++ cons_option o rest) is in
    ap (λ kinds. slice_get kinds (replicated_place decls id)) whole ∙ ap (slice_get (first ++ k ∷ rest)) (sym (kinds-count (take id decls))) ∙ slice_get-between first k rest

operation_of-is : (decls : List Decl) (name : Listed ℕ) (a : Option Act) (op : RepOp) → operation_of decls name a ≡ Some op → is_operation_of decls op ≡ true
operation_of-is decls name a op e =
    let P : Type 0 = is_operation_of decls op ≡ true in
    from-bind (place_of (names_of decls) name.items) _ op P (λ id _ f.
    from-bind (slice_get decls id) _ op P (λ d at g.
    from-bind (replicated_kind d.body) _ op P (λ k is h.
    from-bind a _ op P (λ v _ i.
    let own : RepOp = record { cell = replicated_place decls id; act = v } in
    let parts = from-only_if (is_act_of (symbol_count decls) k v) own op i in
    let found = ap (λ o. option_map_or (λ j. is_act_of (symbol_count decls) j v) o false) (replicated-at decls id d k at is) in
    ap (is_operation_of decls) (sym parts.1) ∙ found ∙ parts.0) h) g) f) e

set_of-is : (decls : List Decl) (x : RawPart) (put : Put) → set_of decls x ≡ Some put → is_put_of var_kind decls put ≡ true
set_of-is decls (raw.Put name lit) put e = put_of-is var_kind decls name lit put e
set_of-is decls (raw.Fire name lit) put e = absurd (cc)
set_of-is decls (raw.Add name z) put e = absurd (cc)
set_of-is decls (raw.Insert name lit) put e = absurd (cc)
set_of-is decls (raw.Remove name lit) put e = absurd (cc)
set_of-is decls (raw.Write name lit) put e = absurd (cc)

fire_of-is : (decls : List Decl) (x : RawPart) (put : Put) → fire_of decls x ≡ Some put → is_put_of source_kind decls put ≡ true
fire_of-is decls (raw.Put name lit) put e = absurd (cc)
fire_of-is decls (raw.Fire name lit) put e = put_of-is source_kind decls name lit put e
fire_of-is decls (raw.Add name z) put e = absurd (cc)
fire_of-is decls (raw.Insert name lit) put e = absurd (cc)
fire_of-is decls (raw.Remove name lit) put e = absurd (cc)
fire_of-is decls (raw.Write name lit) put e = absurd (cc)

act_of-is : (decls : List Decl) (x : RawPart) (op : RepOp) → act_of decls x ≡ Some op → is_operation_of decls op ≡ true
act_of-is decls (raw.Put name lit) op e = absurd (cc)
act_of-is decls (raw.Fire name lit) op e = absurd (cc)
act_of-is decls (raw.Add name z) op e = operation_of-is decls name (Some (act.Add z)) op e
act_of-is decls (raw.Insert name lit) op e = operation_of-is decls name (option_map act.Insert (start_word (scope_of decls) lit)) op e
act_of-is decls (raw.Remove name lit) op e = operation_of-is decls name (option_map act.Remove (start_word (scope_of decls) lit)) op e
act_of-is decls (raw.Write name lit) op e = operation_of-is decls name (option_map act.Write (start_word (scope_of decls) lit)) op e

all-cons_option : {A : Type 0} (p : A → Bool) (o : Option A) (xs : List A) → ((x : A) → o ≡ Some x → p x ≡ true) → list_all p xs ≡ true → list_all p (cons_option o xs) ≡ true
all-cons_option p (Some x) xs h all = rw (h x refl, all) refl
all-cons_option p None xs h all = all

all-filter_map : {A B : Type 0} (p : B → Bool) (h : A → Option B) (xs : List A) → ((x : A) (y : B) → h x ≡ Some y → p y ≡ true) → list_all p (filter_map h xs) ≡ true
all-filter_map p h [] each = refl
all-filter_map p h (x ∷ xs) each = all-cons_option p (h x) (filter_map h xs) (each x) (all-filter_map p h xs each)

any-cons_option : {A : Type 0} (p : A → Bool) (o : Option A) (xs : List A) → list_any p (cons_option o xs) ≡ (option_map_or p o false || list_any p xs)
any-cons_option p (Some x) xs = refl
any-cons_option p None xs = refl

any-filter_map : {A B : Type 0} (p : B → Bool) (h : A → Option B) (xs : List A) → list_any p (filter_map h xs) ≡ list_any (λ x. option_map_or p (h x) false) xs
any-filter_map p h [] = refl
any-filter_map p h (x ∷ xs) = any-cons_option p (h x) (filter_map h xs) ∙ ap (λ b. option_map_or p (h x) false || b) (any-filter_map p h xs)

all-weaker : {A : Type 0} (p q : A → Bool) (xs : List A) → ((x : A) → p x ≡ true → q x ≡ true) → list_all p xs ≡ true → list_all q xs ≡ true
all-weaker p q [] h all = refl
all-weaker p q (x ∷ xs) h all =
    let parts = both {a = p x} {b = list_all p xs} all in
    rw (h x parts.0, all-weaker p q xs h parts.1) refl

some-if : {A : Type 0} (o : Option A) (p : A → Bool) → option_map_or p o false ≡ true → (x : A) × (o ≡ Some x)
some-if (Some x) p h = (x, refl)
some-if None p h = absurd (cc)

-- a put is on a declaration
within-decls : (kind_of : Body → Option Kind) (decls : List Decl) (put : Put) → is_put_of kind_of decls put ≡ true → nat_lt put.id (0 + length decls) ≡ true
within-decls kind_of decls put is =
    let found = some-if (slice_get decls put.id) (λ (d : Decl). option_map_or (λ k. is_word_of (symbol_count decls) k put.word) (kind_of d.body) false) is in
    let below = slice_get_within decls put.id found.0 found.1 in
    lt-ltb put.id (0 + length decls) (omega (arith, below))

-- the puts of the ids in order are those that were put in order
by_id-is : (kind_of : Body → Option Kind) (decls : List Decl) (puts : List Put) (ordered : Listed Put) → IsOrderOf puts ordered → list_all (is_put_of kind_of decls) puts ≡ true → plain (by_id (length decls) puts) ≡ ordered
by_id-is kind_of decls puts ordered order all =
    let bound = order.all (λ (x : Put). nat_lt x.id (0 + length decls)) (all-weaker (is_put_of kind_of decls) (λ (x : Put). nat_lt x.id (0 + length decls)) puts (within-decls kind_of decls) all) in
    let items = ordered_is (put_word puts) (length decls) 0 ordered.items (λ id _. sym (order.words id)) order.ascends bound in
    let listed : List Put → Listed Put = λ xs. plain xs in
    let spared : ℕ → Listed Put = λ n. record { items = ordered.items; spare = n } in
    ap listed items ∙ ap spared (sym order.plain)

first-or : (b : Bool) → (b || false || false) ≡ true → b ≡ true
first-or true h = refl
first-or false h = h

second-or : (b : Bool) → (b || false) ≡ true → b ≡ true
second-or true h = refl
second-or false h = h

-- each part is of one sort
one-of : (decls : List Decl) (x : RawPart) → keeps_kind decls x ≡ true → ◌≡◌ {A = ℕ} ((if is_some (set_of decls x) then 1 else 0) + (if is_some (fire_of decls x) then 1 else 0) + (if is_some (act_of decls x) then 1 else 0)) 1
one-of decls (raw.Put name lit) h = rw (first-or (is_some (put_of var_kind decls name lit)) h) refl
one-of decls (raw.Fire name lit) h = rw (second-or (is_some (put_of source_kind decls name lit)) h) refl
one-of decls (raw.Add name z) h = rw h refl
one-of decls (raw.Insert name lit) h = rw h refl
one-of decls (raw.Remove name lit) h = rw h refl
one-of decls (raw.Write name lit) h = rw h refl

part-count : (decls : List Decl) (parts : List RawPart) → list_all (keeps_kind decls) parts ≡ true → length (sets_of decls parts) + length (fires_of decls parts) + length (filter_map (act_of decls) parts) ≡ length parts
part-count decls [] all = refl
part-count decls (x ∷ parts) all =
    let split = both {a = keeps_kind decls x} {b = list_all (keeps_kind decls) parts} all in
    let one = one-of decls x split.0 in
    let rest = part-count decls parts split.1 in
    let s : length (sets_of decls (x ∷ parts)) ≡ (if is_some (set_of decls x) then 1 else 0) + length (sets_of decls parts) = length-cons_option (set_of decls x) (sets_of decls parts) in
    let f : length (fires_of decls (x ∷ parts)) ≡ (if is_some (fire_of decls x) then 1 else 0) + length (fires_of decls parts) = length-cons_option (fire_of decls x) (fires_of decls parts) in
    let a : length (filter_map (act_of decls) (x ∷ parts)) ≡ (if is_some (act_of decls x) then 1 else 0) + length (filter_map (act_of decls) parts) = length-cons_option (act_of decls x) (filter_map (act_of decls) parts) in
    let l : length (x ∷ parts) ≡ 1 + length parts = omega arith in
    omega (arith, one, rest, s, f, a, l)

-- parts that keep the kinds, of which none sets or fires twice, in order
pub record AreOrdered (decls : List Decl) (parts : List RawPart) (t : Turn) : Type 0 where
  pub known : list_all (knows_part (names_of decls)) parts ≡ true
  pub kinds : list_all (keeps_kind decls) parts ≡ true
  pub sets : IsOrderOf (sets_of decls parts) t.sets
  pub fires : IsOrderOf (fires_of decls parts) t.fires
  pub ops : t.ops ≡ plain (filter_map (act_of decls) parts)

all-sets : (decls : List Decl) (parts : List RawPart) → list_all (is_put_of var_kind decls) (sets_of decls parts) ≡ true
all-sets decls parts = all-filter_map (is_put_of var_kind decls) (set_of decls) parts (set_of-is decls)

all-fires : (decls : List Decl) (parts : List RawPart) → list_all (is_put_of source_kind decls) (fires_of decls parts) ≡ true
all-fires decls parts = all-filter_map (is_put_of source_kind decls) (fire_of decls) parts (fire_of-is decls)

-- the turn is allowed
pub turn_admitted : (p : Program) (parts : List RawPart) (t : Turn) → AreOrdered p.decls.items parts t → 1 ≤ length parts → length parts ≤ 64 → IsAdmitted p t
turn_admitted p parts t o some few =
    let decls = p.decls.items in
    let ops : t.ops.items ≡ filter_map (act_of decls) parts = ap (λ l. l.items) o.ops in
    let sets = o.sets.count in
    let fires = o.fires.count in
    let count = part-count decls parts o.kinds in
    let lengths : length t.ops.items ≡ length (filter_map (act_of decls) parts) = ap length ops in
    record {
      sets = o.sets.all (is_put_of var_kind decls) (all-sets decls parts);
      set_order = λ i j d less within. rising 0 t.sets.items i j d o.sets.ascends less within;
      fires = o.fires.all (is_put_of source_kind decls) (all-fires decls parts);
      fire_order = λ i j d less within. rising 0 t.fires.items i j d o.fires.ascends less within;
      operations = ap (list_all (is_operation_of decls)) ops ∙ all-filter_map (is_operation_of decls) (act_of decls) parts (act_of-is decls);
      some = omega (arith, sets, fires, count, lengths, some);
      few = omega (arith, sets, fires, count, lengths, few);
    }

-- its puts are those of the parts
pub turn_sets : (decls : List Decl) (parts : List RawPart) (t : Turn) → AreOrdered decls parts t → (test : Put → Bool) → list_any test t.sets.items ≡ some_set decls test parts
turn_sets decls parts t o test = o.sets.any test ∙ any-filter_map test (set_of decls) parts

pub turn_fires : (decls : List Decl) (parts : List RawPart) (t : Turn) → AreOrdered decls parts t → (test : Put → Bool) → list_any test t.fires.items ≡ some_fire decls test parts
turn_fires decls parts t o test = o.fires.any test ∙ any-filter_map test (fire_of decls) parts

-- the faults, each where those before it don't hold
pub kind-fault : (decls : List Decl) (parts : List RawPart) → list_all (knows_part (names_of decls)) parts ≡ true → list_all (keeps_kind decls) parts ≡ false → turn_or_fault decls parts ≡ Err fault.Kind
kind-fault decls parts known kinds = rw (known, kinds) refl

pub twice-set : (decls : List Decl) (parts : List RawPart) → list_all (knows_part (names_of decls)) parts ≡ true → list_all (keeps_kind decls) parts ≡ true → is_twice (sets_of decls parts) ≡ true → turn_or_fault decls parts ≡ Err fault.Twice
twice-set decls parts known kinds twice = rw (known, kinds, twice) refl

pub twice-fired : (decls : List Decl) (parts : List RawPart) → list_all (knows_part (names_of decls)) parts ≡ true → list_all (keeps_kind decls) parts ≡ true → is_twice (sets_of decls parts) ≡ false → is_twice (fires_of decls parts) ≡ true → turn_or_fault decls parts ≡ Err fault.Twice
twice-fired decls parts known kinds once twice = rw (known, kinds, once, twice) refl

pub many-fault : (decls : List Decl) (parts : List RawPart) (t : Turn) → AreOrdered decls parts t → (length parts == 0) ≡ false → nat_lt 64 (length parts) ≡ true → turn_or_fault decls parts ≡ Err fault.TooMany
many-fault decls parts t o some many = rw (o.known, o.kinds, o.sets.once, o.fires.once, some, many) refl

-- and the turn, where none does
pub turn-answer : (decls : List Decl) (parts : List RawPart) (t : Turn) → AreOrdered decls parts t → (length parts == 0) ≡ false → nat_lt 64 (length parts) ≡ false → turn_or_fault decls parts ≡ Ok (record { turn = t })
turn-answer decls parts t o some few =
    let sets = by_id-is var_kind decls (sets_of decls parts) t.sets o.sets (all-sets decls parts) in
    let fires = by_id-is source_kind decls (fires_of decls parts) t.fires o.fires (all-fires decls parts) in
    let with_sets : Listed Put → Turn = λ l. record { sets = l; fires = plain (by_id (length decls) (fires_of decls parts)); ops = plain (filter_map (act_of decls) parts) } in
    let with_fires : Listed Put → Turn = λ l. record { sets = t.sets; fires = l; ops = plain (filter_map (act_of decls) parts) } in
    let with_ops : Listed RepOp → Turn = λ l. record { sets = t.sets; fires = t.fires; ops = l } in
    let same : turn_of decls parts ≡ t = ap with_sets sets ∙ ap with_fires fires ∙ ap with_ops (sym o.ops) in
    let answer : Turn → Result Admitted AdmitFault = λ x. Ok (record { turn = x }) in
    let whole : turn_or_fault decls parts ≡ Ok (record { turn = turn_of decls parts }) = rw (o.known, o.kinds, o.sets.once, o.fires.once, some, few) refl in
    whole ∙ ap answer same

-- a refusal that has its cause is the answer
pub refused : (decls : List Decl) (parts : List RawPart) (r : Result Admitted AdmitFault) (f k : AdmitFault) (P : Type 0) → r ≡ Err f → (f ≢ fault.Memory → (f ≡ k) × P) → (P → turn_or_fault decls parts ≡ Err k) → r ≢ Err fault.Memory → r ≡ turn_or_fault decls parts
refused decls parts r f k P is cause holds other =
    let found = cause (λ e. other (is ∙ ap Err e)) in
    is ∙ ap Err found.0 ∙ sym (holds found.1)

-- one part more
push-some : {A B : Type 0} (h : A → Option B) (xs : List A) (x : A) (y : B) → h x ≡ Some y → filter_map h (xs ++ x ∷ []) ≡ filter_map h xs ++ y ∷ []
push-some h xs x y e = filter_map-append h xs (x ∷ []) ∙ ap (λ o. filter_map h xs ++ cons_option o []) e

push-none : {A B : Type 0} (h : A → Option B) (xs : List A) (x : A) → h x ≡ None → filter_map h (xs ++ x ∷ []) ≡ filter_map h xs
push-none h xs x e = filter_map-append h xs (x ∷ []) ∙ ap (λ o. filter_map h xs ++ cons_option o []) e ∙ append-nil (filter_map h xs)

push-part : (decls : List Decl) (parts : List RawPart) (x : RawPart) (p : Part) → set_of decls x ≡ set_in (Some p) → fire_of decls x ≡ fire_in (Some p) → act_of decls x ≡ operation_in (Some p) → with_part (turn_in_order decls parts) p ≡ turn_in_order decls (parts ++ x ∷ [])
push-part decls parts x (part.Set put) s f a = rw (push-some (set_of decls) parts x put s, push-none (fire_of decls) parts x f, push-none (act_of decls) parts x a) refl
push-part decls parts x (part.Fire put) s f a = rw (push-none (set_of decls) parts x s, push-some (fire_of decls) parts x put f, push-none (act_of decls) parts x a) refl
push-part decls parts x (part.Operation op) s f a = rw (push-none (set_of decls) parts x s, push-none (fire_of decls) parts x f, push-some (act_of decls) parts x op a) refl

keeps-some : (decls : List Decl) (x : RawPart) (p : Part) → set_of decls x ≡ set_in (Some p) → fire_of decls x ≡ fire_in (Some p) → act_of decls x ≡ operation_in (Some p) → keeps_kind decls x ≡ true
keeps-some decls x (part.Set put) s f a = rw s refl
keeps-some decls x (part.Fire put) s f a = rw (s, f) refl
keeps-some decls x (part.Operation op) s f a = rw (s, f, a) refl

-- what a loop over parts makes of the next one
pub next-part : (decls : List Decl) (parts : List RawPart) (i : ℕ) (x : RawPart) (p : Part) (old new : Turn) → i < length parts → x ≡ get_or parts i x
    → set_of decls x ≡ set_in (Some p) → fire_of decls x ≡ fire_in (Some p) → act_of decls x ≡ operation_in (Some p)
    → old ≡ turn_in_order decls (take i parts) → list_all (keeps_kind decls) (take i parts) ≡ true → new ≡ with_part old p
    → (new ≡ turn_in_order decls (take (i + 1) parts)) × (list_all (keeps_kind decls) (take (i + 1) parts) ≡ true)
next-part decls parts i x p old new within is s f a turn kinds e =
    let more : take (i + 1) parts ≡ take i parts ++ x ∷ [] = take_more parts i x within ∙ ap (λ y. take i parts ++ y ∷ []) (sym is) in
    let keeps : keeps_kind decls (get_or parts i x) ≡ true = ap (keeps_kind decls) (sym is) ∙ keeps-some decls x p s f a in (
      e ∙ ap (λ t. with_part t p) turn ∙ push-part decls (take i parts) x p s f a ∙ ap (turn_in_order decls) (sym more),
      list_all_more (keeps_kind decls) parts i x within ∙ rw (kinds, keeps) refl,
    )

-- where nothing stands twice
pub are_ordered : (decls kept : List Decl) (parts : List RawPart) (t : Turn) (seen_sets seen_fires : List Put) (sets fires : Listed Put) → kept ≡ decls
    → list_all (knows_part (names_of decls)) parts ≡ true → list_all (keeps_kind kept) parts ≡ true → t ≡ turn_in_order kept parts
    → seen_sets ≡ t.sets.items → seen_fires ≡ t.fires.items → IsOrderOf seen_sets sets → IsOrderOf seen_fires fires
    → AreOrdered decls parts (record { sets = sets; fires = fires; ops = t.ops })
are_ordered decls kept parts t seen_sets seen_fires sets fires same known kinds turn s f order_sets order_fires = record {
  known = known;
  kinds = subst (λ d. list_all (keeps_kind d) parts ≡ true) same kinds;
  sets = subst (λ puts. IsOrderOf puts sets) (s ∙ ap (λ x. x.sets.items) turn ∙ ap (λ d. sets_of d parts) same) order_sets;
  fires = subst (λ puts. IsOrderOf puts fires) (f ∙ ap (λ x. x.fires.items) turn ∙ ap (λ d. fires_of d parts) same) order_fires;
  ops = ap (λ x. x.ops) turn ∙ ap (λ d. plain (filter_map (act_of d) parts)) same;
}

pub not_empty : (n : ℕ) → (n == 0) ≡ false → 1 ≤ n
not_empty zero e = absurd (cc)
not_empty (suc n) e = omega arith
