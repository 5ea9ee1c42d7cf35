use Rattle.std.proofs.Common.{ℕ, zero, suc, ◌+◌, ◌<◌, ◌≡◌, inl, inr, Bool, true, false, ◌||◌, List, [], ◌∷◌, length, Some, refl, sym, subst, ◌∙◌, ap, arith, lit≤, lit<}
use Rattle.re_terms.specs.Listed.{Listed, plain}
use Rattle.re_terms.specs.declared.reserved.TheConstants.{DEVICE, VAR, EVENT, SIGNAL, FOLD, SET, REGISTER, CHANGED, MAP, FILTER, EITHER, ON, DO, IN}
use Rattle.re_terms.specs.declared.signs.TheConstants.{SEMICOLON, EQUALS, COMMA, OPEN, CLOSE}
use Rattle.re_terms.specs.declared.token.Token.{Token}
use Rattle.re_terms.specs.declared.token.Mark.{Mark}
use Rattle.re_terms.specs.declared.token.Mark.TheVariants as mark
use Rattle.re_terms.specs.declared.word.Kind.{Kind}
use Rattle.re_terms.specs.declared.raw_expr.RawLit.{RawLit}
use Rattle.re_terms.specs.declared.raw_expr.RawExpr.{RawExpr}
use Rattle.re_terms.specs.declared.raw.RawBody.{RawBody}
use Rattle.re_terms.specs.declared.raw.RawBody.TheVariants as body
use Rattle.re_syntax.specs.declared.stop.Stop.TheVariants as stop
use Rattle.re_syntax.specs.Grammar.{kind_of, Literal, Region, unwritten, written, Source, changed, mapped, filtered, either, Content, device, symbol, var, event, derived, signal, fold, counter, set, register, Declaration}
use Rattle.re_syntax.specs.Places as places
use Rattle.re_syntax.specs.Places.{SourceHead, ContentHead, Head, IsDeep, open_limit}
use Rattle.re_syntax.specs.Steps.{Language, text, Holds, nothing, joins, extends, is_region_word, Accepts, Stops, Then, Done, Single, Named, ARegion, ASource, AContent, ADeclaration, FirstName, KindPart, StartPart, DeepAt, DeepSource, DeepContent, DeepDeclaration}
use Rattle.re_syntax.proofs.Steps.{Completes, Follows, Includes, no_true, so_next, done_completes, then_completes, after_one}
use Rattle.re_syntax.proofs.Tokens.{Stage, one_longer, not_joined}
use Rattle.re_syntax.proofs.Rules.{clash, var_rest, var_builds, event_rest, event_builds, signal_rest, signal_builds, fold_rest, fold_builds, set_rest, set_builds, register_rest, register_builds}
use Rattle.re_syntax.proofs.Leaves.{mark_completes, name_completes, kind_completes, literal_completes, region_completes}
use Rattle.re_syntax.proofs.Levels.{no_in, no_semicolon, expression_completes}

-- what an accepted step stands for in its own text
pub reading : {V : Type 0} {X : Language V} {goes_on : Mark → Bool} {ahead : ℕ} {tokens : List Token} {v : V} {i n : ℕ} → Accepts X goes_on ahead tokens v i n → X (text tokens) open_limit v i n
reading {tokens = tokens} a = a.exact.read open_limit (λ _. lit≤ tt) (text tokens) (λ _ _. refl)

-- one phrase more, behind a mark that was seen already
pub next_far : {A V : Type 0} {X : Language V} {goes_on ends : Mark → Bool} {tokens : List Token} {i k k' : ℕ} {Y : Language A} {Z : A → Language V} {a : A}
    → Stage X goes_on tokens 1 i k (Then Y Z) → Accepts Y ends 0 tokens a k k' → k < k' → Follows ends Z goes_on → Stage X goes_on tokens 0 i k' (Z a)
next_far {A} {V} {X} {goes_on} {ends} {tokens} {i} {k} {k'} {Y} {Z} {a} s e longer f =
    record { so_far = so_next X goes_on (text tokens) (k + 1) (k' + 0) i k k' Y Z ends a s.so_far e.exact (omega arith) f }

pub kind_longer : (tokens : List Token) (k : Kind) (i n : ℕ) → Accepts KindPart nothing 0 tokens k i n → i < n
kind_longer tokens k i n a = let r = reading a in omega (arith, r.first.next, r.second.next)

-- sources

pub head_of_map : {at : ℕ → Mark} {i s : ℕ} → at i ≡ mark.Reserved MAP → SourceHead at i s → (t : Listed ℕ) × FirstName at open_limit t (i + 1) s
head_of_map {at} {i} h (places.mapped {t = t} _ a b c) = (
  t,
  record {
    value = tt;
    middle = i + 2;
    first = record { fits = a; next = omega arith };
    second = record { value = t; middle = i + 3; first = record { fits = b; next = omega arith }; second = record { value = tt; middle = i + 4; first = record { fits = c; next = omega arith }; second = record { is = refl; stays = refl } } };
  },
)
head_of_map h (places.filtered g _ _ _) = absurd (omega (arith, clash h g))

pub head_of_filter : {at : ℕ → Mark} {i s : ℕ} → at i ≡ mark.Reserved FILTER → SourceHead at i s → (t : Listed ℕ) × FirstName at open_limit t (i + 1) s
head_of_filter h (places.mapped g _ _ _) = absurd (omega (arith, clash h g))
head_of_filter {at} {i} h (places.filtered {t = t} _ a b c) = (
  t,
  record {
    value = tt;
    middle = i + 2;
    first = record { fits = a; next = omega arith };
    second = record { value = t; middle = i + 3; first = record { fits = b; next = omega arith }; second = record { value = tt; middle = i + 4; first = record { fits = c; next = omega arith }; second = record { is = refl; stays = refl } } };
  },
)

pub no_head : {at : ℕ → Mark} {i s : ℕ} → (at i ≡ mark.Reserved MAP → ⊥) → (at i ≡ mark.Reserved FILTER → ⊥) → SourceHead at i s → ⊥
no_head a b (places.mapped g _ _ _) = a g
no_head a b (places.filtered g _ _ _) = b g

-- "(" NAME "," takes three marks
first_name_end : {at : ℕ → Mark} {limit : ℕ → ℕ} {t : Listed ℕ} {i n : ℕ} → FirstName at limit t i n → n ≡ i + 3
first_name_end r = omega (arith, r.first.next, r.second.first.next, r.second.second.first.next, r.second.second.second.stays)

moved_mark : (at : ℕ → Mark) (p q : ℕ) (m : Mark) → at p ≡ m → p ≡ q → at q ≡ m
moved_mark at p q m h e = subst (λ (k : ℕ). at k ≡ m) e h

head_behind_map : {at : ℕ → Mark} {t : Listed ℕ} {i n : ℕ} → at i ≡ mark.Reserved MAP → FirstName at open_limit t (i + 1) n → SourceHead at i n
head_behind_map {at} {t} {i} {n} h r =
    let e : i + 4 ≡ n = omega (arith, first_name_end r) in
    let a = moved_mark at r.middle (i + 2) (mark.Name r.second.value) r.second.first.fits (omega (arith, r.first.next)) in
    let b = moved_mark at r.second.middle (i + 3) (mark.Sign COMMA) r.second.second.first.fits (omega (arith, r.first.next, r.second.first.next)) in
    subst (λ (q : ℕ). SourceHead at i q) e (places.mapped h r.first.fits a b)

head_behind_filter : {at : ℕ → Mark} {t : Listed ℕ} {i n : ℕ} → at i ≡ mark.Reserved FILTER → FirstName at open_limit t (i + 1) n → SourceHead at i n
head_behind_filter {at} {t} {i} {n} h r =
    let e : i + 4 ≡ n = omega (arith, first_name_end r) in
    let a = moved_mark at r.middle (i + 2) (mark.Name r.second.value) r.second.first.fits (omega (arith, r.first.next)) in
    let b = moved_mark at r.second.middle (i + 3) (mark.Sign COMMA) r.second.second.first.fits (omega (arith, r.first.next, r.second.first.next)) in
    subst (λ (q : ℕ). SourceHead at i q) e (places.filtered h r.first.fits a b)

pub map_up : (tokens : List Token) (t : Listed ℕ) (i n : ℕ) → text tokens i ≡ mark.Reserved MAP → FirstName (text tokens) open_limit t (i + 1) n → (j : ℕ) → DeepAt tokens n j → DeepSource tokens i j
map_up tokens t i n h r j d = (subst (λ (q : ℕ). SourceHead (text tokens) i q) (sym d.0) (head_behind_map h r), subst (λ (q : ℕ). IsDeep (text tokens) q) (sym d.0) d.1)

pub map_down : (tokens : List Token) (t : Listed ℕ) (i n : ℕ) → text tokens i ≡ mark.Reserved MAP → FirstName (text tokens) open_limit t (i + 1) n → (j : ℕ) → DeepSource tokens i j → DeepAt tokens n j
map_down tokens t i n h r j d =
    let f = (head_of_map h d.0).1 in
    let e : j ≡ n = omega (arith, first_name_end f, first_name_end r) in
    (e, subst (λ (q : ℕ). IsDeep (text tokens) q) e d.1)

pub filter_up : (tokens : List Token) (t : Listed ℕ) (i n : ℕ) → text tokens i ≡ mark.Reserved FILTER → FirstName (text tokens) open_limit t (i + 1) n → (j : ℕ) → DeepAt tokens n j → DeepSource tokens i j
filter_up tokens t i n h r j d = (subst (λ (q : ℕ). SourceHead (text tokens) i q) (sym d.0) (head_behind_filter h r), subst (λ (q : ℕ). IsDeep (text tokens) q) (sym d.0) d.1)

pub filter_down : (tokens : List Token) (t : Listed ℕ) (i n : ℕ) → text tokens i ≡ mark.Reserved FILTER → FirstName (text tokens) open_limit t (i + 1) n → (j : ℕ) → DeepSource tokens i j → DeepAt tokens n j
filter_down tokens t i n h r j d =
    let f = (head_of_filter h d.0).1 in
    let e : j ≡ n = omega (arith, first_name_end f, first_name_end r) in
    (e, subst (λ (q : ℕ). IsDeep (text tokens) q) e d.1)

no_source : (other : ℕ → Mark) (limit : ℕ → ℕ) (b : RawBody) (i n : ℕ) → (other i ≡ mark.Reserved CHANGED → ⊥) → (other i ≡ mark.Reserved MAP → ⊥) → (other i ≡ mark.Reserved FILTER → ⊥) → (other i ≡ mark.Reserved EITHER → ⊥)
    → Source other limit b i n → ⊥
no_source other limit _ _ _ a b c d (changed g _ _ _) = a g
no_source other limit _ _ _ a b c d (mapped g _ _ _ _ _) = b g
no_source other limit _ _ _ a b c d (filtered g _ _ _ _ _) = c g
no_source other limit _ _ _ a b c d (either g _ _ _ _ _) = d g

-- `changed(a)`
changed_marks : List Mark
changed_marks = mark.Reserved CHANGED ∷ mark.Sign OPEN ∷ mark.Name (plain []) ∷ mark.Sign CLOSE ∷ []

changed_holds : (other : ℕ → Mark) (limit : ℕ → ℕ) (i n : ℕ) → Holds other i changed_marks n → Source other limit (body.Changed (plain [])) i n
unfolding changed_marks
changed_holds other limit i n h =
    let e : i + 4 ≡ n = omega (arith, h.1.1.1.1) in
    subst (λ (q : ℕ). Source other limit (body.Changed (plain [])) i q) e
    (changed h.0 h.1.0 (moved_mark other (i + 1 + 1) (i + 2) (mark.Name (plain [])) h.1.1.0 (omega arith)) (moved_mark other (i + 1 + 1 + 1) (i + 3) (mark.Sign CLOSE) h.1.1.1.0 (omega arith)))

pub source_completes : Completes ASource
unfolding changed_marks
source_completes = record { value = body.Changed (plain []); ahead = changed_marks; whole = λ limit other k n room h. changed_holds other limit k n h }

pub source_refused : (tokens : List Token) (i : ℕ) → i < length tokens → (text tokens i ≡ mark.Reserved CHANGED → ⊥) → (text tokens i ≡ mark.Reserved MAP → ⊥) → (text tokens i ≡ mark.Reserved FILTER → ⊥) → (text tokens i ≡ mark.Reserved EITHER → ⊥)
    → Stops ASource nothing (DeepSource tokens i) tokens i (stop.Unexpected i)
unfolding changed_marks
source_refused tokens i inside a b c d = record {
  told = (
    record {
      reached = omega arith;
      value = body.Changed (plain []);
      ahead = changed_marks;
      some = lit< tt;
      begun = λ limit roomy other n agrees holds. changed_holds other limit i n holds;
      ended = λ limit under other w n agrees x.
          let s : text tokens i ≡ other i = sym (agrees i (omega arith)) in
          absurd (no_source other limit w i n (λ g. a (s ∙ g)) (λ g. b (s ∙ g)) (λ g. c (s ∙ g)) (λ g. d (s ∙ g)) x);
    },
    inside,
    λ s deep. no_head b c deep.0,
  );
  within = tt;
}

-- contents

pub no_content_head : {at : ℕ → Mark} {word i s : ℕ} → (word ≡ EVENT → ⊥) → (word ≡ SIGNAL → ⊥) → (word ≡ FOLD → ⊥) → ContentHead at word i s → ⊥
no_content_head a b c (places.derived g _ _) = a g
no_content_head a b c (places.signal g _) = b g
no_content_head a b c (places.fold g _ _ _ _ _ _ _) = c g

pub plain_not_deep : (tokens : List Token) (word i : ℕ) → (word ≡ EVENT → ⊥) → (word ≡ SIGNAL → ⊥) → (word ≡ FOLD → ⊥) → (s : ℕ) → DeepContent tokens word i s → ⊥
plain_not_deep tokens word i a b c s d = no_content_head a b c d.0

event_head : {at : ℕ → Mark} {i s : ℕ} → ContentHead at EVENT i s → (at i ≡ mark.Sign EQUALS) × SourceHead at (i + 1) s
event_head (places.derived _ e h) = (e, h)
event_head (places.signal g _) = absurd (omega (arith, g))
event_head (places.fold g _ _ _ _ _ _ _) = absurd (omega (arith, g))

pub event_not_deep : (tokens : List Token) (i : ℕ) → (text tokens i ≡ mark.Sign EQUALS → ⊥) → (s : ℕ) → DeepContent tokens EVENT i s → ⊥
event_not_deep tokens i h s d = h (event_head d.0).0

pub event_up : (tokens : List Token) (i : ℕ) → text tokens i ≡ mark.Sign EQUALS → (j : ℕ) → DeepSource tokens (i + 1) j → DeepContent tokens EVENT i j
event_up tokens i h j d = (places.derived refl h d.0, d.1)

pub event_down : (tokens : List Token) (i : ℕ) (j : ℕ) → DeepContent tokens EVENT i j → DeepSource tokens (i + 1) j
event_down tokens i j d = ((event_head d.0).1, d.1)

signal_head : {at : ℕ → Mark} {i s : ℕ} → ContentHead at SIGNAL i s → (at i ≡ mark.Sign EQUALS) × (s ≡ i + 1)
signal_head (places.derived g _ _) = absurd (omega (arith, g))
signal_head (places.signal _ e) = (e, refl)
signal_head (places.fold g _ _ _ _ _ _ _) = absurd (omega (arith, g))

pub signal_reads : (tokens : List Token) (i n : ℕ) → DeepContent tokens SIGNAL i n → (v : Unit {0}) × (m : ℕ) × Single (mark.Sign EQUALS) (text tokens) open_limit v i m
signal_reads tokens i n d = (tt, i + 1, record { fits = (signal_head d.0).0; next = refl })

pub signal_up : (tokens : List Token) (i n : ℕ) → text tokens i ≡ mark.Sign EQUALS → n ≡ i + 1 → (j : ℕ) → DeepAt tokens n j → DeepContent tokens SIGNAL i j
signal_up tokens i n h e j d = (subst (λ (q : ℕ). ContentHead (text tokens) SIGNAL i q) (sym (d.0 ∙ e)) (places.signal refl h), subst (λ (q : ℕ). IsDeep (text tokens) q) (sym d.0) d.1)

pub signal_down : (tokens : List Token) (i n : ℕ) → n ≡ i + 1 → (j : ℕ) → DeepContent tokens SIGNAL i j → DeepAt tokens n j
signal_down tokens i n e j d = let f : j ≡ n = (signal_head d.0).1 ∙ sym e in (f, subst (λ (q : ℕ). IsDeep (text tokens) q) f d.1)

-- what stands before the expression of a fold
pub record FoldHead (at : ℕ → Mark) (i s : ℕ) : Type 0 where
  pub kind : Kind
  pub start : RawLit
  pub name : Listed ℕ
  pub behind : ℕ
  pub part : StartPart at open_limit (kind, start) i behind
  pub on : at behind ≡ mark.Reserved ON
  pub named : at (behind + 1) ≡ mark.Name name
  pub step : at (behind + 2) ≡ mark.Reserved DO
  pub ends : s ≡ behind + 3

pub fold_head : {at : ℕ → Mark} {i s : ℕ} → ContentHead at FOLD i s → FoldHead at i s
fold_head (places.derived g _ _) = absurd (omega (arith, g))
fold_head (places.signal g _) = absurd (omega (arith, g))
fold_head {at} {i} (places.fold {j = j} {t = t} {k = k} {v = v} _ a b c l o n d) = record {
  kind = k;
  start = v;
  name = t;
  behind = j;
  part = record {
    value = k;
    middle = i + 2;
    first = record { value = tt; middle = i + 1; first = record { fits = a; next = refl }; second = record { fits = b; next = omega arith } };
    second = record { value = tt; middle = i + 3; first = record { fits = c; next = omega arith }; second = record { value = v; middle = j; first = l; second = record { is = refl; stays = refl } } };
  };
  on = o;
  named = n;
  step = d;
  ends = refl;
}

moved_kind : (at : ℕ → Mark) (p q : ℕ) (k : Kind) → kind_of (at p) ≡ Some k → p ≡ q → kind_of (at q) ≡ Some k
moved_kind at p q k h e = subst (λ (r : ℕ). kind_of (at r) ≡ Some k) e h

pub fold_made : {at : ℕ → Mark} {i behind : ℕ} (v : Kind × RawLit) (t : Listed ℕ) → StartPart at open_limit v i behind → at behind ≡ mark.Reserved ON → at (behind + 1) ≡ mark.Name t → at (behind + 2) ≡ mark.Reserved DO
    → ContentHead at FOLD i (behind + 3)
fold_made {at} {i} {behind} v t r o n d =
    let p = r.first in let q = r.second in let l = q.second in
    let e1 : p.middle ≡ i + 1 = p.first.next in
    let e2 : r.middle ≡ i + 2 = omega (arith, e1, p.second.next) in
    let e3 : q.middle ≡ i + 3 = omega (arith, e2, q.first.next) in
    let e4 : l.middle ≡ behind = sym l.second.stays in
    places.fold refl p.first.fits (moved_kind at p.middle (i + 1) r.value p.second.fits e1) (moved_mark at r.middle (i + 2) (mark.Sign EQUALS) q.first.fits e2)
    (subst (λ (a : ℕ). Literal at l.value a behind) e3 (subst (λ (a : ℕ). Literal at l.value q.middle a) e4 l.first)) o n d

-- the head of a fold begins with the start part that was read
pub fold_same : (tokens : List Token) (v : Kind × RawLit) (i n s : ℕ) → Accepts StartPart nothing 0 tokens v i n → (h : FoldHead (text tokens) i s) → h.behind ≡ n
fold_same tokens v i n s a h = elim (a.exact.only open_limit (text tokens) (h.kind, h.start) h.behind (λ _ _. refl) h.part) [ inl same ↦ same.1 | inr early ↦ absurd (no_true early.0) ]

pub fold_up : (tokens : List Token) (v : Kind × RawLit) (t : Listed ℕ) (i n p q r : ℕ) → Accepts StartPart nothing 0 tokens v i n → Accepts (Single (mark.Reserved ON)) nothing 0 tokens tt n p → Accepts Named nothing 0 tokens t p q
    → Accepts (Single (mark.Reserved DO)) nothing 0 tokens tt q r → (j : ℕ) → DeepAt tokens r j → DeepContent tokens FOLD i j
fold_up tokens v t i n p q r a b c d j deep =
    let rb = reading b in let rc = reading c in let rd = reading d in
    let e1 : p ≡ n + 1 = rb.next in
    let e2 : q ≡ n + 2 = omega (arith, e1, rc.next) in
    let e3 : n + 3 ≡ j = omega (arith, e2, rd.next, deep.0) in (
      subst (λ (k : ℕ). ContentHead (text tokens) FOLD i k) e3
          (fold_made v t (reading a) rb.fits (moved_mark (text tokens) p (n + 1) (mark.Name t) rc.fits e1) (moved_mark (text tokens) q (n + 2) (mark.Reserved DO) rd.fits e2)),
      subst (λ (k : ℕ). IsDeep (text tokens) k) (sym deep.0) deep.1,
    )

pub fold_down : (tokens : List Token) (v : Kind × RawLit) (t : Listed ℕ) (i n p q r : ℕ) → Accepts StartPart nothing 0 tokens v i n → Accepts (Single (mark.Reserved ON)) nothing 0 tokens tt n p → Accepts Named nothing 0 tokens t p q
    → Accepts (Single (mark.Reserved DO)) nothing 0 tokens tt q r → (j : ℕ) → DeepContent tokens FOLD i j → DeepAt tokens r j
fold_down tokens v t i n p q r a b c d j deep =
    let h = fold_head deep.0 in
    let e0 : h.behind ≡ n = fold_same tokens v i n j a h in
    let e : j ≡ r = omega (arith, e0, h.ends, one_longer b, one_longer c, one_longer d) in
    (e, subst (λ (k : ℕ). IsDeep (text tokens) k) e deep.1)

pub fold_reads_start : (tokens : List Token) (i s : ℕ) → DeepContent tokens FOLD i s → (v : Kind × RawLit) × (m : ℕ) × StartPart (text tokens) open_limit v i m
fold_reads_start tokens i s d = let h = fold_head d.0 in ((h.kind, h.start), h.behind, h.part)

pub fold_reads_on : (tokens : List Token) (v : Kind × RawLit) (i n : ℕ) → Accepts StartPart nothing 0 tokens v i n → (s : ℕ) → DeepContent tokens FOLD i s
    → (u : Unit {0}) × (m : ℕ) × Single (mark.Reserved ON) (text tokens) open_limit u n m
fold_reads_on tokens v i n a s d = let h = fold_head d.0 in
    (tt, n + 1, record { fits = moved_mark (text tokens) h.behind n (mark.Reserved ON) h.on (fold_same tokens v i n s a h); next = refl })

pub fold_reads_name : (tokens : List Token) (v : Kind × RawLit) (i n p : ℕ) → Accepts StartPart nothing 0 tokens v i n → Accepts (Single (mark.Reserved ON)) nothing 0 tokens tt n p → (s : ℕ) → DeepContent tokens FOLD i s
    → (t : Listed ℕ) × (m : ℕ) × Named (text tokens) open_limit t p m
fold_reads_name tokens v i n p a b s d = let h = fold_head d.0 in
    let e : h.behind + 1 ≡ p = omega (arith, fold_same tokens v i n s a h, one_longer b) in
    (h.name, p + 1, record { fits = moved_mark (text tokens) (h.behind + 1) p (mark.Name h.name) h.named e; next = refl })

pub fold_reads_do : (tokens : List Token) (v : Kind × RawLit) (t : Listed ℕ) (i n p q : ℕ) → Accepts StartPart nothing 0 tokens v i n → Accepts (Single (mark.Reserved ON)) nothing 0 tokens tt n p → Accepts Named nothing 0 tokens t p q
    → (s : ℕ) → DeepContent tokens FOLD i s → (u : Unit {0}) × (m : ℕ) × Single (mark.Reserved DO) (text tokens) open_limit u q m
fold_reads_do tokens v t i n p q a b c s d = let h = fold_head d.0 in
    let e : h.behind + 2 ≡ q = omega (arith, fold_same tokens v i n s a h, one_longer b, one_longer c) in
    (tt, q + 1, record { fits = moved_mark (text tokens) (h.behind + 2) q (mark.Reserved DO) h.step e; next = refl })

-- behind an expression

pub wide : Includes (joins 0) extends
wide = record { each = λ m h. rw h refl }

pub region_wide : Includes is_region_word extends
region_wide = record { each = λ m h. or_right (joins 0 m) (is_region_word m) h }
  where
    or_right : (a b : Bool) → b ≡ true → (a || b) ≡ true
    or_right true b h = refl
    or_right false b h = h

pub after_whole : {V : Type 0} (f : RawExpr → V) → Follows (joins 0) (λ a. Done (f a)) extends
after_whole f = record { at_once = λ limit other a v k n j x. (wide.each (other n) (ap (joins 0) (ap other x.stays) ∙ j), x.stays) }

region_once : {V : Type 0} (f : ℕ → V) (limit : ℕ → ℕ) (other : ℕ → Mark) (v : V) (r k m n : ℕ) → joins 0 (other k) ≡ true → Region other r k m → Done (f r) other limit v m n → (extends (other n) ≡ true) × (n ≡ k)
region_once f limit other v _ k _ n j unwritten d = (wide.each (other n) (ap (joins 0) (ap other d.stays) ∙ j), d.stays)
region_once f limit other v _ k _ n j (written g _ _ _) d = absurd (no_join (other k) g j)
  where
    no_join : (m : Mark) → m ≡ mark.Reserved IN → joins 0 m ≡ true → ⊥
    no_join m e h = not_joined 0 (mark.Reserved IN) no_in (subst (λ (g : Mark). joins 0 g ≡ true) e h)

pub after_fold : {V : Type 0} (f : RawExpr → ℕ → V) → Follows (joins 0) (λ a. Then ARegion (λ r. Done (f a r))) extends
after_fold f = record { at_once = λ limit other a v k n j x. region_once (f a) limit other v x.value k x.middle n j x.first x.second }

pub after_region : {V : Type 0} (f : ℕ → V) → Follows is_region_word (λ r. Done (f r)) extends
after_region f = record { at_once = λ limit other a v k n j x. (region_wide.each (other n) (ap is_region_word (ap other x.stays) ∙ j), x.stays) }

-- declarations

pub after_content : {V : Type 0} (Z : RawBody → Unit {0} → Language V) → Follows extends (λ b. Then (Single (mark.Sign SEMICOLON)) (Z b)) nothing
after_content Z = after_one {first = extends} (λ m b h is. no_true (sym no_semicolon ∙ ap extends (sym is) ∙ h))

declared_word : {at : ℕ → Mark} {limit : ℕ → ℕ} {w : ℕ} {b : RawBody} {i n : ℕ} → Content at limit w b i n → w < 9
declared_word (device g) = omega (arith, g)
declared_word (symbol g) = omega (arith, g)
declared_word (var g _ _ _ _ _) = omega (arith, g)
declared_word (event g _ _) = omega (arith, g)
declared_word (derived g _ _) = omega (arith, g)
declared_word (signal g _ _) = omega (arith, g)
declared_word (fold g _ _ _ _ _ _ _ _ _) = omega (arith, g)
declared_word (counter g) = omega (arith, g)
declared_word (set g _ _) = omega (arith, g)
declared_word (register g _ _ _ _) = omega (arith, g)

head_word : {at : ℕ → Mark} {w i s : ℕ} → ContentHead at w i s → w < 9
head_word (places.derived g _ _) = omega (arith, g)
head_word (places.signal g _) = omega (arith, g)
head_word (places.fold g _ _ _ _ _ _ _) = omega (arith, g)

-- `device a;`
device_marks : List Mark
device_marks = mark.Reserved DEVICE ∷ mark.Name (plain []) ∷ mark.Sign SEMICOLON ∷ []

device_holds : (other : ℕ → Mark) (limit : ℕ → ℕ) (i n : ℕ) → Holds other i device_marks n → Declaration other limit (record { name = plain []; body = body.Device }) i n
unfolding device_marks
device_holds other limit i n h = record {
  word = DEVICE;
  last = i + 2;
  begins = h.0;
  named = h.1.0;
  content = device refl;
  ends = moved_mark other (i + 1 + 1) (i + 2) (mark.Sign SEMICOLON) h.1.1.0 (omega arith);
  next = omega (arith, h.1.1.1);
}

pub declaration_refused : (tokens : List Token) (i : ℕ) → i < length tokens → ((w : ℕ) → text tokens i ≡ mark.Reserved w → w < 9 → ⊥) → Stops ADeclaration nothing (DeepDeclaration tokens i) tokens i (stop.Unexpected i)
unfolding device_marks
declaration_refused tokens i inside none = record {
  told = (
    record {
      reached = omega arith;
      value = record { name = plain []; body = body.Device };
      ahead = device_marks;
      some = lit< tt;
      begun = λ limit roomy other n agrees holds. device_holds other limit i n holds;
      ended = λ limit under other w n agrees x. absurd (none x.word (sym (agrees i (omega arith)) ∙ x.begins) (declared_word x.content));
    },
    inside,
    λ s d. none d.0.word d.0.begins (head_word d.0.content),
  );
  within = tt;
}

pub declaration_reads : (tokens : List Token) (i n : ℕ) → DeepDeclaration tokens i n → (t : Listed ℕ) × (m : ℕ) × Named (text tokens) open_limit t (i + 1) m
declaration_reads tokens i n d = (d.0.name, i + 1 + 1, record { fits = d.0.named; next = refl })

same_words : {m : Mark} {a b : ℕ} → m ≡ mark.Reserved a → m ≡ mark.Reserved b → a ≡ b
same_words e f = cc

pub declaration_up : (tokens : List Token) (word : ℕ) (t : Listed ℕ) (i n : ℕ) → text tokens i ≡ mark.Reserved word → Accepts Named nothing 0 tokens t (i + 1) n → (j : ℕ) → DeepContent tokens word n j → DeepDeclaration tokens i j
declaration_up tokens word t i n h a j d =
    let r = reading a in
    let e : n ≡ i + 2 = omega (arith, r.next) in
    (record { word = word; name = t; begins = h; named = r.fits; content = subst (λ (q : ℕ). ContentHead (text tokens) word q j) e d.0 }, d.1)

pub declaration_down : (tokens : List Token) (word : ℕ) (t : Listed ℕ) (i n : ℕ) → text tokens i ≡ mark.Reserved word → Accepts Named nothing 0 tokens t (i + 1) n → (j : ℕ) → DeepDeclaration tokens i j → DeepContent tokens word n j
declaration_down tokens word t i n h a j d =
    let r = reading a in
    let e : i + 2 ≡ n = omega (arith, r.next) in
    let w : d.0.word ≡ word = same_words d.0.begins h in
    (subst (λ (q : ℕ). ContentHead (text tokens) word q j) e (subst (λ (q : ℕ). ContentHead (text tokens) q (i + 2) j) w d.0.content), d.1)

nothing_content : (word : ℕ) (b : RawBody) → ((limit : ℕ → ℕ) (other : ℕ → Mark) (k : ℕ) → Content other limit word b k k) → Completes (AContent word)
nothing_content word b build = record { value = b; ahead = []; whole = λ limit other k n room h. subst (λ (q : ℕ). Content other limit word b k q) (sym h) (build limit other k) }

-- a rule is completed as what its marks are read as
built_completes : (word : ℕ) (R : Language RawBody) → Completes R → ((limit : ℕ → ℕ) (other : ℕ → Mark) (v : RawBody) (i n : ℕ) → R other limit v i n → Content other limit word v i n) → Completes (AContent word)
built_completes word R c build = record { value = c.value; ahead = c.ahead; whole = λ limit other k n room h. build limit other c.value k n (c.whole limit other k n room h) }

var_completes : Completes (AContent VAR)
var_completes = built_completes VAR var_rest (then_completes (mark_completes _) (λ _. then_completes kind_completes (λ _. then_completes (mark_completes _) (λ _. then_completes literal_completes (λ _. then_completes region_completes (λ _. done_completes _)))))) var_builds

event_completes : Completes (AContent EVENT)
event_completes = built_completes EVENT event_rest (then_completes (mark_completes _) (λ _. then_completes kind_completes (λ _. done_completes _))) event_builds

signal_completes : Completes (AContent SIGNAL)
signal_completes = built_completes SIGNAL signal_rest (then_completes (mark_completes _) (λ _. then_completes (expression_completes 1 (lit≤ tt)) (λ _. done_completes _))) signal_builds

fold_completes : Completes (AContent FOLD)
fold_completes = built_completes FOLD fold_rest (then_completes (mark_completes _) (λ _. then_completes kind_completes (λ _. then_completes (mark_completes _) (λ _. then_completes literal_completes (λ _. then_completes (mark_completes _) (λ _.
    then_completes name_completes (λ _. then_completes (mark_completes _) (λ _. then_completes (expression_completes 1 (lit≤ tt)) (λ _. then_completes region_completes (λ _. done_completes _)))))))))) fold_builds

set_completes : Completes (AContent SET)
set_completes = built_completes SET set_rest (then_completes (mark_completes _) (λ _. then_completes kind_completes (λ _. done_completes _))) set_builds

register_completes : Completes (AContent REGISTER)
register_completes = built_completes REGISTER register_rest (then_completes (mark_completes _) (λ _. then_completes kind_completes (λ _. then_completes (mark_completes _) (λ _. then_completes literal_completes (λ _. done_completes _))))) register_builds

pub content_completes : (word : ℕ) → word < 9 → Completes (AContent word)
content_completes zero h = nothing_content 0 body.Device (λ limit other k. device refl)
content_completes (suc zero) h = nothing_content 1 body.Symbol (λ limit other k. symbol refl)
content_completes (suc (suc zero)) h = var_completes
content_completes (suc (suc (suc zero))) h = event_completes
content_completes (suc (suc (suc (suc zero)))) h = signal_completes
content_completes (suc (suc (suc (suc (suc zero))))) h = fold_completes
content_completes (suc (suc (suc (suc (suc (suc zero)))))) h = nothing_content 6 body.Counter (λ limit other k. counter refl)
content_completes (suc (suc (suc (suc (suc (suc (suc zero))))))) h = set_completes
content_completes (suc (suc (suc (suc (suc (suc (suc (suc zero)))))))) h = register_completes
content_completes (suc (suc (suc (suc (suc (suc (suc (suc (suc w))))))))) h = absurd (omega arith)
