-- What an id stands for, in the words of the reader and in those of programs.
use Rattle.std.proofs.Common.{◌≡◌, ℕ, zero, suc, ◌+◌, ◌^◌, ◌<◌, ◌≤◌, Bool, true, false, cond, ltb, List, [], ◌∷◌, length, get_or, Option, None, Some, refl, sym, ap, ◌∙◌, arith}
use Rattle.std.specs.Prelude.{◌&&◌, slice_get}
use Rattle.std.specs.List.{All, AllPairs, list_all}
use Rattle.std.specs.Option.{option_and_then, option_map_or}
use Rattle.std.proofs.lemmas.Bool.{and_parts, and_from, ltb-true, ltb-false, lt-ltb, le-ltb}
use Rattle.std.proofs.lemmas.List.Kept.{AllPairs-cons}
use Rattle.re_record.specs.Slots.{slot_from, slot_of}
use Rattle.re_record.specs.declared.slots.Role.{Role}
use Rattle.re_record.specs.declared.slots.Role.TheVariants as role
use Rattle.re_record.specs.declared.slots.Slot.{Slot}
use Rattle.re_record.proofs.AgainPuts.{AreSmall}
use Rattle.re_record.proofs.TakesPuts.{IsPut, ArePuts}
use Rattle.re_terms.specs.Admission.{AreAscending, is_put_of, source_kind, symbol_count, var_kind}
use Rattle.re_terms.specs.Shapes.{is_word_of}
use Rattle.re_terms.specs.WordKinds.{is_change_of, is_kept_word, is_word_or_fault}
use Rattle.re_terms.specs.declared.entry.Put.{Put}
use Rattle.re_terms.specs.declared.program.Body.{Body}
use Rattle.re_terms.specs.declared.program.Body.TheVariants as body
use Rattle.re_terms.specs.declared.program.Decl.{Decl}
use Rattle.re_terms.specs.declared.word.Kind.{Kind}
use Rattle.re_terms.specs.declared.word.Kind.TheVariants as kind
use Rattle.re_terms.specs.declared.word.Word.{Word}
use Rattle.re_terms.specs.declared.word.Word.TheVariants as word
use Rattle.re_wire.specs.Reading.{is_allowed_word}

-- ---- ids

pub record Found (decls : List Decl) (r : Role) (least id : ℕ) (slot : Slot) : Type 0 where
  pub decl : Decl
  pub at : slice_get decls id ≡ Some decl
  pub takes : slot_of r decl.body ≡ Some slot
  pub least_is : least ≤ id

of_decl : (decls : List Decl) (r : Role) (least id : ℕ) (slot : Slot) (found : Option Decl) → slice_get decls id ≡ found → least ≤ id → option_and_then (λ d. slot_of r d.body) found ≡ Some slot → Found decls r least id slot
of_decl decls r least id slot None at from e = absurd cc
of_decl decls r least id slot (Some d) at from e = record { decl = d; at = at; takes = e; least_is = from }

by_test : (decls : List Decl) (r : Role) (least id : ℕ) (slot : Slot) (test : Bool) → ltb id least ≡ test → cond test None (option_and_then (λ d. slot_of r d.body) (slice_get decls id)) ≡ Some slot → Found decls r least id slot
by_test decls r least id slot true test e = absurd cc
by_test decls r least id slot false test e = of_decl decls r least id slot (slice_get decls id) refl (ltb-false _ _ test) e

pub found_in : (decls : List Decl) (r : Role) (least id : ℕ) (slot : Slot) → slot_from decls r least id ≡ Some slot → Found decls r least id slot
found_in decls r least id slot e = by_test decls r least id slot (ltb id least) refl e

id_below : (decls : List Decl) (id : ℕ) (d : Decl) → slice_get decls id ≡ Some d → id < length decls
id_below [] id d e = absurd cc
id_below (x ∷ decls) zero d e = omega arith
id_below (x ∷ decls) (suc id) d e = let h = id_below decls id d e in omega arith

-- ids of a program have two bytes
pub small_ids : (decls : List Decl) (symbols : ℕ) (r : Role) (least : ℕ) (puts : List Put) → length decls ≤ 512 → ArePuts decls symbols r least puts → AreSmall puts
small_ids decls symbols r least [] short each = tt
small_ids decls symbols r least (x ∷ puts) short each =
    let f = found_in decls r least x.id each.0.slot each.0.is in
    (omega (arith, id_below decls x.id f.decl f.at), small_ids decls symbols r (x.id + 1) puts short each.1)

-- ---- words

-- a declaration takes the word in a role
abbrev pub takes_word : ℕ → Option Slot → Word → Bool
takes_word symbols found w = option_map_or (λ slot. is_allowed_word slot.kind slot.fold symbols w) found false

-- the declaration with an id does
abbrev pub is_put_in : List Decl → ℕ → Role → Put → Bool
is_put_in decls symbols r put = option_map_or (λ d. takes_word symbols (slot_of r d.body) put.word) (slice_get decls put.id) false

no_fault : (symbols : ℕ) (k : Kind) (w : Word) → is_allowed_word k false symbols w ≡ is_word_of symbols k w
no_fault symbols k (word.Int z) = refl
no_fault symbols k (word.Bool b) = refl
no_fault symbols k (word.Sym n) = refl
no_fault symbols kind.Int (word.Fault code) = refl
no_fault symbols kind.Bool (word.Fault code) = refl
no_fault symbols kind.Sym (word.Fault code) = refl

or_fault : (symbols : ℕ) (k : Kind) (w : Word) → is_allowed_word k true symbols w ≡ is_word_or_fault symbols k w
or_fault symbols k (word.Int z) = refl
or_fault symbols k (word.Bool b) = refl
or_fault symbols k (word.Sym n) = refl
or_fault symbols k (word.Fault code) = refl

set_word : (symbols : ℕ) (b : Body) (w : Word) → takes_word symbols (slot_of role.Set b) w ≡ option_map_or (λ k. is_word_of symbols k w) (var_kind b) false
set_word symbols (body.Var k start region) w = no_fault symbols k w
set_word symbols body.Device w = refl
set_word symbols body.Symbol w = refl
set_word symbols (body.Event k) w = refl
set_word symbols (body.Signal k expr) w = refl
set_word symbols (body.Changed of) w = refl
set_word symbols (body.Map source k expr) w = refl
set_word symbols (body.Filter source expr) w = refl
set_word symbols (body.Either left right) w = refl
set_word symbols (body.Fold k start source expr region) w = refl
set_word symbols body.Counter w = refl
set_word symbols (body.Set k) w = refl
set_word symbols (body.Register k start) w = refl

fire_word : (symbols : ℕ) (b : Body) (w : Word) → takes_word symbols (slot_of role.Fire b) w ≡ option_map_or (λ k. is_word_of symbols k w) (source_kind b) false
fire_word symbols (body.Event k) w = no_fault symbols k w
fire_word symbols (body.Var k start region) w = refl
fire_word symbols body.Device w = refl
fire_word symbols body.Symbol w = refl
fire_word symbols (body.Signal k expr) w = refl
fire_word symbols (body.Changed of) w = refl
fire_word symbols (body.Map source k expr) w = refl
fire_word symbols (body.Filter source expr) w = refl
fire_word symbols (body.Either left right) w = refl
fire_word symbols (body.Fold k start source expr region) w = refl
fire_word symbols body.Counter w = refl
fire_word symbols (body.Set k) w = refl
fire_word symbols (body.Register k start) w = refl

pub change_word : (symbols : ℕ) (b : Body) (w : Word) → takes_word symbols (slot_of role.Change b) w ≡ is_kept_word symbols b w
change_word symbols (body.Var k start region) w = no_fault symbols k w
change_word symbols (body.Fold k start source expr region) w = or_fault symbols k w
change_word symbols (body.Event k) w = refl
change_word symbols body.Device w = refl
change_word symbols body.Symbol w = refl
change_word symbols (body.Signal k expr) w = refl
change_word symbols (body.Changed of) w = refl
change_word symbols (body.Map source k expr) w = refl
change_word symbols (body.Filter source expr) w = refl
change_word symbols (body.Either left right) w = refl
change_word symbols body.Counter w = refl
change_word symbols (body.Set k) w = refl
change_word symbols (body.Register k start) w = refl

-- two tests of what is found answer alike
alike : {X : Type 0} (f g : X → Bool) (found : Option X) → ((x : X) → f x ≡ g x) → option_map_or f found false ≡ option_map_or g found false
alike f g None h = refl
alike f g (Some x) h = h x

pub is_set : (decls : List Decl) (put : Put) → is_put_in decls (symbol_count decls) role.Set put ≡ is_put_of var_kind decls put
is_set decls put = alike _ _ (slice_get decls put.id) (λ d. set_word (symbol_count decls) d.body put.word)

pub is_fire : (decls : List Decl) (put : Put) → is_put_in decls (symbol_count decls) role.Fire put ≡ is_put_of source_kind decls put
is_fire decls put = alike _ _ (slice_get decls put.id) (λ d. fire_word (symbol_count decls) d.body put.word)

pub is_change : (decls : List Decl) (put : Put) → is_put_in decls (symbol_count decls) role.Change put ≡ is_change_of decls put
is_change decls put = alike _ _ (slice_get decls put.id) (λ d. change_word (symbol_count decls) d.body put.word)

-- ---- lists

-- a put of the reader's is one of the program's, and back
put_to : (decls : List Decl) (symbols : ℕ) (r : Role) (least : ℕ) (put : Put) → IsPut decls symbols r least put → is_put_in decls symbols r put ≡ true
put_to decls symbols r least put is =
    let f = found_in decls r least put.id is.slot is.is in
    rw (f.at, f.takes) is.word

slot_there : (symbols : ℕ) (found : Option Slot) (w : Word) → takes_word symbols found w ≡ true → (slot : Slot) × (found ≡ Some slot) × (is_allowed_word slot.kind slot.fold symbols w ≡ true)
slot_there symbols None w h = absurd cc
slot_there symbols (Some slot) w h = (slot, refl, h)

decl_there : (symbols : ℕ) (r : Role) (found : Option Decl) (w : Word) → option_map_or (λ d. takes_word symbols (slot_of r d.body) w) found false ≡ true → (d : Decl) × (found ≡ Some d) × (takes_word symbols (slot_of r d.body) w ≡ true)
decl_there symbols r None w h = absurd cc
decl_there symbols r (Some d) w h = (d, refl, h)

slot_is : (decls : List Decl) (r : Role) (least id : ℕ) (d : Decl) (slot : Slot) → ltb id least ≡ false → slice_get decls id ≡ Some d → slot_of r d.body ≡ Some slot → slot_from decls r least id ≡ Some slot
slot_is decls r least id d slot test at takes = rw (test, at) takes

put_from : (decls : List Decl) (symbols : ℕ) (r : Role) (least : ℕ) (put : Put) → least ≤ put.id → is_put_in decls symbols r put ≡ true → IsPut decls symbols r least put
put_from decls symbols r least put from h =
    let d = decl_there symbols r (slice_get decls put.id) put.word h in
    let s = slot_there symbols (slot_of r d.0.body) put.word d.2 in
    let test : ltb put.id least ≡ false = le-ltb _ _ from in
    record { slot = s.0; is = slot_is decls r least put.id d.0 s.0 test d.1 s.1; word = s.2 }

pub all_in : (decls : List Decl) (symbols : ℕ) (r : Role) (least : ℕ) (puts : List Put) → ArePuts decls symbols r least puts → list_all (is_put_in decls symbols r) puts ≡ true
all_in decls symbols r least [] each = refl
all_in decls symbols r least (x ∷ puts) each = and_from _ _ (put_to decls symbols r least x each.0) (all_in decls symbols r (x.id + 1) puts each.1)

pub from_least : (decls : List Decl) (symbols : ℕ) (r : Role) (least : ℕ) (puts : List Put) → ArePuts decls symbols r least puts → All (λ put. least ≤ put.id) puts
from_least decls symbols r least [] each k d lt = absurd (omega arith)
from_least decls symbols r least (x ∷ puts) each zero d lt = (found_in decls r least x.id each.0.slot each.0.is).least_is
from_least decls symbols r least (x ∷ puts) each (suc k) d lt =
    let first = (found_in decls r least x.id each.0.slot each.0.is).least_is in
    let h = from_least decls symbols r (x.id + 1) puts each.1 k d (omega arith) in
    omega (arith, first, h)

pub ascends : (decls : List Decl) (symbols : ℕ) (r : Role) (least : ℕ) (puts : List Put) → ArePuts decls symbols r least puts → AreAscending puts
ascends decls symbols r least [] each = λ i j d lt l. absurd (omega arith)
ascends decls symbols r least (x ∷ puts) each =
    AllPairs-cons (λ (a b : Put). a.id < b.id) x puts
    (λ k d lt. let h = from_least decls symbols r (x.id + 1) puts each.1 k d lt in omega (arith, h))
    (ascends decls symbols r (x.id + 1) puts each.1)

pub puts_from : (decls : List Decl) (symbols : ℕ) (r : Role) (least : ℕ) (puts : List Put) → list_all (is_put_in decls symbols r) puts ≡ true → AreAscending puts → All (λ put. least ≤ put.id) puts → ArePuts decls symbols r least puts
puts_from decls symbols r least [] all order from = tt
puts_from decls symbols r least (x ∷ puts) all order from =
    let both = and_parts (is_put_in decls symbols r x) (list_all (is_put_in decls symbols r) puts) all in
    let first : least ≤ x.id = from 0 x (omega arith) in
    let later : AreAscending puts = λ i j d lt l. order (suc i) (suc j) d (omega arith) (omega arith) in
    let above : All (λ put. x.id + 1 ≤ put.id) puts = λ k d lt. (let h : x.id < (get_or puts k d).id = order 0 (suc k) d (omega arith) (omega arith) in omega (arith, h)) in
    (put_from decls symbols r least x first both.0, puts_from decls symbols r (x.id + 1) puts both.1 later above)
