use Rattle.std.proofs.Common.{ℕ, zero, suc, ◌+◌, ◌<◌, ◌≤◌, ◌≡◌, ◌&&◌, inl, inr, Bool, true, false, List, [], ◌∷◌, ◌++◌, length, length-take, length-append, append_assoc, take, Some, refl, sym, subst, ◌∙◌, ap, arith, lit≤, nat_le, cond}
use Rattle.std.specs.List.{list_all}
use Rattle.std.specs.Prelude.{slice_get}
use Rattle.std.proofs.Common.{get_or}
use Rattle.std.proofs.lemmas.List.{length-map}
use Rattle.re_terms.specs.Listed.{Listed}
use Rattle.re_terms.specs.Tokens.{IsTokenList, ends_from, ends_well, is_mark}
use Rattle.re_terms.specs.Trees.{is_declaration, is_name_text}
use Rattle.re_terms.specs.declared.token.Token.{Token}
use Rattle.re_terms.specs.declared.token.Mark.{Mark}
use Rattle.re_terms.specs.declared.token.Mark.TheVariants as mark
use Rattle.re_terms.specs.declared.raw.RawDecl.{RawDecl}
use Rattle.re_syntax.specs.declared.stop.Stop.{Stop}
use Rattle.re_syntax.specs.declared.stop.Stop.TheVariants as stop
use Rattle.std.proofs.Math.Nat.{lt_of_not-le}
use Rattle.re_terms.specs.declared.raw_expr.RawLit.{RawLit}
use Rattle.re_terms.specs.declared.raw_expr.RawExpr.{RawExpr}
use Rattle.re_terms.specs.declared.raw.RawBody.{RawBody}
use Rattle.re_syntax.specs.Grammar.{marks_of, mark_at, Literal, number, negative, truth, falsity, name, Region, unwritten, written, Phrase, Reads, condition, plain, operands, primary, last, again, once, literal_, arg, own, brackets, negation, recovery, fault, size, membership, Source, changed, mapped, filtered, either, Content, device, symbol, var, event, derived, signal, fold, counter, set, register, Declaration, Declarations, none, more}
use Rattle.re_syntax.specs.Places.{Agrees, Begins, Head, IsDeep, IsUnexpected, OpensTooMany, EndsTooDeep, StandsAt, IsTooDeep, open_limit}
use Rattle.re_syntax.specs.Programs.{IsShallow, IsProgram, StopsProgram}
use Rattle.re_syntax.specs.Steps.{text, Holds, IsEnough, IsRoomy, nothing, EndsLast, Cause, Unfit, Beyond, fitting, IsRefusedUnder, Refusal, Accepts, Stops, ADeclaration, DeepDeclaration}
use Rattle.re_syntax.proofs.Steps.{no_true, holds_split}
use Rattle.re_syntax.proofs.Depths.{patched, same_before}
use Rattle.re_syntax.proofs.Forms.{HasNames, declaration_is}

no_end : {w : ℕ} {m : Mark} → m ≡ mark.Reserved w → m ≡ mark.End → ⊥
no_end e f = cc

-- lists of tokens

and_first : (a b : Bool) → (a && b) ≡ true → a ≡ true
and_first true b h = refl
and_first false b h = absurd (no_true h)

and_second : (a b : Bool) → (a && b) ≡ true → b ≡ true
and_second true b h = h
and_second false b h = absurd (no_true h)

well_more : (m : Mark) (u : Token) (us : List Token) (rest : Bool) → ends_well m (u ∷ us) rest ≡ true → (is_mark m ≡ true) × (rest ≡ true)
well_more (mark.Number n) u us rest h = (and_first (is_mark (mark.Number n)) rest h, and_second (is_mark (mark.Number n)) rest h)
well_more (mark.Name t) u us rest h = (and_first (is_mark (mark.Name t)) rest h, and_second (is_mark (mark.Name t)) rest h)
well_more (mark.Reserved k) u us rest h = (and_first (is_mark (mark.Reserved k)) rest h, and_second (is_mark (mark.Reserved k)) rest h)
well_more (mark.Sign k) u us rest h = (and_first (is_mark (mark.Sign k)) rest h, and_second (is_mark (mark.Sign k)) rest h)
well_more mark.End u us rest h = absurd (no_true h)

well_one : (m : Mark) → ends_well m [] false ≡ true → m ≡ mark.End
well_one (mark.Number n) h = absurd (no_true (and_second (is_mark (mark.Number n)) false h))
well_one (mark.Name t) h = absurd (no_true (and_second (is_mark (mark.Name t)) false h))
well_one (mark.Reserved k) h = absurd (no_true (and_second (is_mark (mark.Reserved k)) false h))
well_one (mark.Sign k) h = absurd (no_true (and_second (is_mark (mark.Sign k)) false h))
well_one mark.End h = refl

here_ends : (least : ℕ) (t : Token) (us : List Token) → ends_from least (t ∷ us) ≡ true → ends_well t.mark us (ends_from (suc t.at) us) ≡ true
here_ends least t us h = and_second (nat_le least t.at) (ends_well t.mark us (ends_from (suc t.at) us)) h

pub ends_before : (tokens : List Token) (least : ℕ) → ends_from least tokens ≡ true → (k : ℕ) → k < length tokens → (text tokens k ≡ mark.End → ⊥) → k + 1 < length tokens
ends_before [] least h k inside other = absurd (omega arith)
ends_before (t ∷ []) least h zero inside other = absurd (other (well_one t.mark (here_ends least t [] h)))
ends_before (t ∷ []) least h (suc k) inside other = absurd (omega arith)
ends_before (t ∷ u ∷ us) least h zero inside other = omega arith
ends_before (t ∷ u ∷ us) least h (suc k) inside other =
    let rest = (well_more t.mark u us (ends_from (suc t.at) (u ∷ us)) (here_ends least t (u ∷ us) h)).1 in
    let ih = ends_before (u ∷ us) (suc t.at) rest k (omega arith) other in omega (arith, ih)

pub end_is_last : (tokens : List Token) (least k : ℕ) → ends_from least tokens ≡ true → k < length tokens → text tokens k ≡ mark.End → k + 1 ≡ length tokens
end_is_last [] least k h inside e = absurd (omega arith)
end_is_last (t ∷ []) least zero h inside e = refl
end_is_last (t ∷ []) least (suc k) h inside e = absurd (omega arith)
end_is_last (t ∷ u ∷ us) least zero h inside e =
    let w = well_more t.mark u us (ends_from (suc t.at) (u ∷ us)) (here_ends least t (u ∷ us) h) in
    absurd (no_true (sym (ap is_mark e) ∙ w.0))
end_is_last (t ∷ u ∷ us) least (suc k) h inside e =
    let rest = (well_more t.mark u us (ends_from (suc t.at) (u ∷ us)) (here_ends least t (u ∷ us) h)).1 in
    let ih = end_is_last (u ∷ us) (suc t.at) k rest (omega arith) e in omega (arith, ih)

no_end_name : {t : Listed ℕ} → mark.End ≡ mark.Name t → ⊥
no_end_name e = cc

name_held : (tokens : List Token) (least : ℕ) → ends_from least tokens ≡ true → (i : ℕ) (n : Listed ℕ) → text tokens i ≡ mark.Name n → is_name_text n ≡ true
name_held [] least h i n e = absurd (no_end_name e)
name_held (t ∷ []) least h zero n e = absurd (no_end_name (sym (well_one t.mark (here_ends least t [] h)) ∙ e))
name_held (t ∷ []) least h (suc i) n e = absurd (no_end_name e)
name_held (t ∷ u ∷ us) least h zero n e =
    let w = well_more t.mark u us (ends_from (suc t.at) (u ∷ us)) (here_ends least t (u ∷ us) h) in
    sym (ap is_mark e) ∙ w.0
name_held (t ∷ u ∷ us) least h (suc i) n e =
    let rest = (well_more t.mark u us (ends_from (suc t.at) (u ∷ us)) (here_ends least t (u ∷ us) h)).1 in
    name_held (u ∷ us) (suc t.at) rest i n e

pub names_hold : (tokens : List Token) → IsTokenList tokens → HasNames (text tokens)
names_hold tokens h = record { each = λ i t e. name_held tokens 0 h i t e }

pub ends_last : (tokens : List Token) → IsTokenList tokens → EndsLast tokens
ends_last tokens h = λ k inside other. ends_before tokens 0 h k inside other

pub not_empty : (tokens : List Token) → IsTokenList tokens → 0 < length tokens
not_empty [] h = absurd (no_true h)
not_empty (t ∷ tokens) h = omega arith

holds_end : (other : ℕ → Mark) (k n : ℕ) (ms : List Mark) → Holds other k ms n → n ≡ k + length ms
holds_end other k n [] h = omega (arith, h)
holds_end other k n (m ∷ ms) h = let ih = holds_end other (k + 1) n ms h.1 in omega (arith, ih)

-- what was read of the declarations before a place
pub record Progress (tokens : List Token) (done : List RawDecl) (here : ℕ) : Type 0 where
  pub inside : here < length tokens
  pub build : (limit : ℕ → ℕ) → IsEnough limit → (other : ℕ → Mark) (ds : List RawDecl) (n : ℕ) → Agrees here (text tokens) other → Declarations other limit ds here n → Declarations other limit (done ++ ds) 0 n
  pub invert : (limit : ℕ → ℕ) (other : ℕ → Mark) (ds : List RawDecl) (n : ℕ) → Agrees here (text tokens) other → here ≤ n → Declarations other limit ds 0 n
      → (rest : List RawDecl) × ((ds ≡ done ++ rest) × Declarations other limit rest here n)
  pub deep : (before : List RawDecl) (start s : ℕ) → Declarations (text tokens) open_limit before 0 start → Head (text tokens) start s → IsDeep (text tokens) s → here ≤ start
  pub shallow : list_all is_declaration done ≡ true

pub progress_start : (tokens : List Token) → IsTokenList tokens → Progress tokens [] 0
progress_start tokens h = record {
  inside = not_empty tokens h;
  build = λ limit enough other ds n agrees x. x;
  invert = λ limit other ds n agrees le x. (ds, (refl, x));
  deep = λ before start s x y z. omega arith;
  shallow = refl;
}

pub first_rest : (limit : ℕ → ℕ) (other : ℕ → Mark) (rest : List RawDecl) (here n next : ℕ) (d : RawDecl) (done : List RawDecl) → here < next → next ≤ n
    → ((e : RawDecl) (k : ℕ) → Declaration other limit e here k → (e ≡ d) × (k ≡ next)) → Declarations other limit rest here n
    → (ds : List RawDecl) × ((done ++ rest ≡ (done ++ (d ∷ [])) ++ ds) × Declarations other limit ds next n)
first_rest limit other _ here _ next d done longer far only none = absurd (omega arith)
first_rest limit other _ here n next d done longer far only (more {k = k} {d = e} {ds = ds} x y) =
    let same = only e k x in
    (ds, (ap (λ (a : RawDecl). done ++ (a ∷ ds)) same.0 ∙ sym (append_assoc done (d ∷ []) ds), subst (λ (q : ℕ). Declarations other limit ds q n) same.1 y))

all_more : (done : List RawDecl) (d : RawDecl) → list_all is_declaration done ≡ true → is_declaration d ≡ true → list_all is_declaration (done ++ (d ∷ [])) ≡ true
all_more [] d h g = rw g refl
all_more (x ∷ done) d h g = split (is_declaration x) (list_all is_declaration done) (list_all is_declaration (done ++ (d ∷ []))) h (λ e. all_more done d e g)
  where
    split : (a b c : Bool) → (a && b) ≡ true → (b ≡ true → c ≡ true) → (a && c) ≡ true
    split true b c h f = f h
    split false b c h f = absurd (no_true h)

-- places never go back

region_forward : {at : ℕ → Mark} {r i n : ℕ} → Region at r i n → i ≤ n
region_forward unwritten = omega arith
region_forward (written _ _ _ _) = omega arith

literal_forward : {at : ℕ → Mark} {v : RawLit} {i n : ℕ} → Literal at v i n → i ≤ n
literal_forward (number _ _) = omega arith
literal_forward (negative _ _ _) = omega arith
literal_forward (truth _) = omega arith
literal_forward (falsity _) = omega arith
literal_forward (name _) = omega arith

reads_forward : {at : ℕ → Mark} {limit : ℕ → ℕ} {p : Phrase} {opened : ℕ} {e : RawExpr} {i n : ℕ} → Reads at limit p opened e i n → i ≤ n
reads_forward (condition _ _ x _ y _ z) = omega (arith, reads_forward x, reads_forward y, reads_forward z)
reads_forward (plain _ x) = reads_forward x
reads_forward (operands _ x y) = omega (arith, reads_forward x, reads_forward y)
reads_forward (primary _ x) = reads_forward x
reads_forward last = omega arith
reads_forward (again _ _ _ x y) = omega (arith, reads_forward x, reads_forward y)
reads_forward (once _ _ _ x) = omega (arith, reads_forward x)
reads_forward (literal_ x) = literal_forward x
reads_forward (arg _) = omega arith
reads_forward (own _) = omega arith
reads_forward (brackets _ x _) = omega (arith, reads_forward x)
reads_forward (negation _ _ x _) = omega (arith, reads_forward x)
reads_forward (recovery _ _ x _ y _) = omega (arith, reads_forward x, reads_forward y)
reads_forward (fault _ _ _ _ _ _) = omega arith
reads_forward (size _ _ _ _) = omega arith
reads_forward (membership _ _ _ _ x _) = omega (arith, reads_forward x)

source_forward : {at : ℕ → Mark} {limit : ℕ → ℕ} {b : RawBody} {i n : ℕ} → Source at limit b i n → i ≤ n
source_forward (changed _ _ _ _) = omega arith
source_forward (mapped _ _ _ _ x _) = omega (arith, reads_forward x)
source_forward (filtered _ _ _ _ x _) = omega (arith, reads_forward x)
source_forward (either _ _ _ _ _ _) = omega arith

pub content_forward : {at : ℕ → Mark} {limit : ℕ → ℕ} {word : ℕ} {b : RawBody} {i n : ℕ} → Content at limit word b i n → i ≤ n
content_forward (device _) = omega arith
content_forward (symbol _) = omega arith
content_forward (var _ _ _ _ l r) = omega (arith, literal_forward l, region_forward r)
content_forward (event _ _ _) = omega arith
content_forward (derived _ _ s) = omega (arith, source_forward s)
content_forward (signal _ _ x) = omega (arith, reads_forward x)
content_forward (fold _ _ _ _ l _ _ _ x r) = omega (arith, literal_forward l, reads_forward x, region_forward r)
content_forward (counter _) = omega arith
content_forward (set _ _ _) = omega arith
content_forward (register _ _ _ _ l) = omega (arith, literal_forward l)

declaration_forward : {at : ℕ → Mark} {limit : ℕ → ℕ} {d : RawDecl} {i n : ℕ} → Declaration at limit d i n → i ≤ n
declaration_forward x = omega (arith, content_forward x.content, x.next)

pub declarations_forward : {at : ℕ → Mark} {limit : ℕ → ℕ} {ds : List RawDecl} {i n : ℕ} → Declarations at limit ds i n → i ≤ n
declarations_forward none = omega arith
declarations_forward (more x y) = omega (arith, declaration_forward x, declarations_forward y)

deep_rest : (at : ℕ → Mark) (rest : List RawDecl) (here start next : ℕ) → (start ≡ here → ⊥) → ((e : RawDecl) (k : ℕ) → Declaration at open_limit e here k → k ≡ next) → Declarations at open_limit rest here start → next ≤ start
deep_rest at _ here _ next differ only none = absurd (differ refl)
deep_rest at _ here start next differ only (more {k = k} {d = e} x y) = let same : k ≡ next = only e k x in omega (arith, declarations_forward y)

pub progress_step : (tokens : List Token) (done : List RawDecl) (here next : ℕ) (d : RawDecl) → IsTokenList tokens → Progress tokens done here → Accepts ADeclaration nothing 0 tokens d here next → here < next → IsShallow d.body
    → ((s : ℕ) → DeepDeclaration tokens here s → ⊥) → Progress tokens (done ++ (d ∷ [])) next
progress_step tokens done here next d list p a longer shallow not_deep = record {
  inside = a.inside;
  build = λ limit enough other ds n agrees x. subst (λ (l : List RawDecl). Declarations other limit l 0 n) (sym (append_assoc done (d ∷ []) ds))
      (p.build limit enough other (d ∷ ds) n (λ k below. agrees k (omega arith)) (more (a.exact.read limit enough other agrees) x));
  invert = λ limit other ds n agrees le x.
      let r = p.invert limit other ds n (λ k below. agrees k (omega arith)) (omega arith) x in
      let f = first_rest limit other r.0 here n next d done longer le
      (λ e k y. elim (a.exact.only limit other e k (λ q below. agrees q (omega arith)) y) [ inl same ↦ same | inr early ↦ absurd (no_true early.0) ]) r.1.1 in
      (f.0, (r.1.0 ∙ f.1.0, f.1.1));
  deep = λ before start s x y z.
      let least = p.deep before start s x y z in
      let r = p.invert open_limit (text tokens) before start (λ _ _. refl) least x in
      deep_rest (text tokens) r.0 here start next (λ e. not_deep s (subst (λ (q : ℕ). Head (text tokens) q s) e y, z))
      (λ e k w. elim (a.exact.only open_limit (text tokens) e k (λ _ _. refl) w) [ inl same ↦ same.1 | inr early ↦ absurd (no_true early.0) ]) r.1.1;
  shallow = all_more done d p.shallow (declaration_is d here next (names_hold tokens list) (a.exact.read open_limit (λ _. lit≤ tt) (text tokens) (λ _ _. refl)) shallow);
}

-- the end of the text

ended_rest : (other : ℕ → Mark) (limit : ℕ → ℕ) (rest : List RawDecl) (here n : ℕ) → other here ≡ mark.End → Declarations other limit rest here n → (rest ≡ []) × (n ≡ here)
ended_rest other limit _ here _ e none = (refl, refl)
ended_rest other limit _ here _ e (more x y) = absurd (no_end x.begins e)

pub append_none : (ds : List RawDecl) → ds ++ [] ≡ ds
append_none [] = refl
append_none (d ∷ ds) = ap (λ (l : List RawDecl). d ∷ l) (append_none ds)

pub progress_ends : (tokens : List Token) (done : Listed RawDecl) (here : ℕ) → IsTokenList tokens → done.spare ≡ 0 → Progress tokens done.items here → text tokens here ≡ mark.End → IsProgram tokens done
progress_ends tokens done here list bare p e =
    let end : here + 1 ≡ length tokens = end_is_last tokens 0 here list p.inside e in
    let long : length (marks_of tokens) ≡ length tokens = length-map tokens (λ t. t.mark) in
    record {
      plain = bare;
      derived = record { last = here; declarations = subst (λ (l : List RawDecl). Declarations (text tokens) open_limit l 0 here) (append_none done.items) (p.build open_limit (λ _. lit≤ tt) (text tokens) [] here (λ _ _. refl) none); end = e; all = omega arith };
      declarations = p.shallow;
      only = λ limit other x.
          let same : x.last ≡ here = omega (arith, x.all) in
          let r = p.invert limit (text tokens) other x.last (λ _ _. refl) (omega arith) x.declarations in
          let f = ended_rest (text tokens) limit r.0 here x.last e r.1.1 in
          r.1.0 ∙ ap (λ (l : List RawDecl). done.items ++ l) f.0 ∙ append_none done.items;
      shallow = λ byte x.
          let least = p.deep x.before x.start x.number x.declared x.head x.deep in
          let r = p.invert open_limit (text tokens) x.before x.start (λ _ _. refl) least x.declared in
          let f = ended_rest (text tokens) open_limit r.0 here x.start e r.1.1 in
          no_end (subst (λ (q : ℕ). text tokens q ≡ mark.Reserved x.head.word) f.1 x.head.begins) e;
    }

-- refusals

limit_to : ℕ → ℕ → ℕ
limit_to j k = cond (nat_le k j) 128 129

limit_low : (j k : ℕ) → k ≤ j → limit_to j k ≤ 128
unfolding limit_to
limit_low j k h = let e : nat_le k j ≡ true = grind arith in rw e (lit≤ tt)

limit_high : (j k : ℕ) → j < k → 129 ≤ limit_to j k
unfolding limit_to
limit_high j k h = let e : nat_le k j ≡ false = grind arith in rw e (lit≤ tt)

limit_least : (j k : ℕ) → 128 ≤ limit_to j k
unfolding limit_to
limit_least j k = least (nat_le k j)
  where
    least : (b : Bool) → 128 ≤ cond b 128 129
    least true = lit≤ tt
    least false = lit≤ tt

limit_roomy : (j : ℕ) → IsRoomy j (limit_to j)
limit_roomy j = record { enough = λ k. limit_least j k; behind = λ k h. limit_high j k h }

fits_in : (tokens : List Token) (cause : Cause) (j : ℕ) → j < length tokens → fitting cause j ≤ length (marks_of tokens)
fits_in tokens Unfit j h = rw length-map (omega arith)
fits_in tokens Beyond j h = rw length-map (omega arith)

refused_begins : (tokens : List Token) (done : List RawDecl) (here j : ℕ) (cause : Cause) → Progress tokens done here → j < length tokens → Refusal ADeclaration nothing (text tokens) cause here j → Begins (limit_to j) (marks_of tokens) (fitting cause j)
refused_begins tokens done here j cause p inside r =
    let count : ℕ = fitting cause j in
    let room : count ≤ length (marks_of tokens) = fits_in tokens cause j inside in
    let ms : List Mark = r.ahead ++ (mark.End ∷ []) in
    let h = patched (marks_of tokens) ms count room in
    let q = holds_split (mark_at (take count (marks_of tokens) ++ ms)) count (count + length ms) r.ahead (mark.End ∷ []) h.1 in
    let long : length (take count (marks_of tokens)) ≡ count = rw length-take (omega arith) in
    let reached : here ≤ count = r.reached in
    record {
      more = ms;
      program = done ++ (r.value ∷ []);
      derived = record {
        last = q.0;
        declarations = p.build (limit_to j) (limit_roomy j).enough (mark_at (take count (marks_of tokens) ++ ms)) (r.value ∷ []) q.0 (λ k below. h.0 k (omega arith))
            (more (r.begun (limit_to j) (limit_roomy j) (mark_at (take count (marks_of tokens) ++ ms)) q.0 h.0 q.1.0) none);
        end = q.1.1.0;
        all = rw length-append (omega (arith, long, q.1.1.1));
      };
    }

refused_rest : (tokens : List Token) (cause : Cause) (here j n : ℕ) (limit : ℕ → ℕ) (other : ℕ → Mark) (rest : List RawDecl) → Refusal ADeclaration nothing (text tokens) cause here j → IsRefusedUnder cause j limit → Agrees (j + 1) (text tokens) other
    → (n ≡ here → ⊥) → Declarations other limit rest here n → ⊥
refused_rest tokens cause here j _ limit other _ r under agrees differ none = differ refl
refused_rest tokens cause here j n limit other _ r under agrees differ (more {k = k} {d = d} x y) = no_true (r.ended limit under other d k agrees x).0

refused_ends : (tokens : List Token) (done : List RawDecl) (here j : ℕ) (cause : Cause) → IsTokenList tokens → Progress tokens done here → (text tokens here ≡ mark.End → ⊥) → here ≤ j → j < length tokens
    → Refusal ADeclaration nothing (text tokens) cause here j → (limit : ℕ → ℕ) → IsRefusedUnder cause j limit → Begins limit (marks_of tokens) (j + 1) → ⊥
refused_ends tokens done here j cause list p other within inside r limit under b =
    let room : j + 1 ≤ length (marks_of tokens) = rw length-map (omega arith) in
    let at : ℕ → Mark = mark_at (take (j + 1) (marks_of tokens) ++ b.more) in
    let agrees : Agrees (j + 1) (text tokens) (mark_at (take (j + 1) (marks_of tokens) ++ b.more)) = λ k below. same_before (marks_of tokens) b.more (j + 1) k room below in
    let x = b.derived in
    let far : here < x.last + 1 = lt_of_not-le (λ h.
    let early : x.last + 1 ≡ length tokens = end_is_last tokens 0 x.last list (let i : here < length tokens = p.inside in omega (arith, h)) (sym (agrees x.last (omega (arith, h))) ∙ x.end) in
    let i : here < length tokens = p.inside in omega (arith, h)) in
    let s = p.invert limit (mark_at (take (j + 1) (marks_of tokens) ++ b.more)) b.program x.last (λ k below. agrees k (omega arith)) (omega arith) x.declarations in
    refused_rest tokens cause here j x.last limit (mark_at (take (j + 1) (marks_of tokens) ++ b.more)) s.0 r under agrees
    (λ e. other (sym (agrees here (omega arith)) ∙ subst (λ (q : ℕ). mark_at (take (j + 1) (marks_of tokens) ++ b.more) q ≡ mark.End) e x.end)) s.1.1

under_limit : (cause : Cause) (j : ℕ) → IsRefusedUnder cause j open_limit
under_limit Unfit j = tt
under_limit Beyond j = λ k h. lit≤ tt

refused_not_deep : (tokens : List Token) (done : List RawDecl) (here j : ℕ) (cause : Cause) → Progress tokens done here → Refusal ADeclaration nothing (text tokens) cause here j → ((s : ℕ) → DeepDeclaration tokens here s → ⊥)
    → (byte : ℕ) → EndsTooDeep tokens byte → ⊥
refused_not_deep tokens done here j cause p r not_deep byte x =
    let least = p.deep x.before x.start x.number x.declared x.head x.deep in
    let s = p.invert open_limit (text tokens) x.before x.start (λ _ _. refl) least x.declared in
    refused_rest tokens cause here j x.start open_limit (text tokens) s.0 r (under_limit cause j) (λ _ _. refl)
    (λ e. not_deep x.number (subst (λ (q : ℕ). Head (text tokens) q x.number) e x.head, x.deep)) s.1.1

pub progress_stops : (tokens : List Token) (done : List RawDecl) (here : ℕ) (s : Stop) → IsTokenList tokens → Progress tokens done here → (text tokens here ≡ mark.End → ⊥) → Stops ADeclaration nothing (DeepDeclaration tokens here) tokens here s → StopsProgram tokens s
progress_stops tokens done here stop.Memory list p other r = record { told = tt }
progress_stops tokens done here (stop.Unexpected j) list p other r =
    let within : here ≤ j = r.told.0.reached in
    record {
      told = (
        r.told.1,
        λ byte at. record {
          number = j;
          stands = at;
          limit = limit_to j;
          kept = λ k h. limit_low j k h;
          begun = refused_begins tokens done here j Unfit p r.told.1 r.told.0;
          ended = λ limit b. refused_ends tokens done here j Unfit list p other within r.told.1 r.told.0 limit tt b;
          first = λ deep x. refused_not_deep tokens done here j Unfit p r.told.0 r.told.2 deep x;
        },
      );
    }
progress_stops tokens done here (stop.TooMany j) list p other r =
    record {
      told = (
        r.told.1,
        λ byte at. record {
          number = j;
          stands = at;
          limit = limit_to j;
          kept = λ k h. limit_low j k h;
          begun = refused_begins tokens done here j Beyond p r.told.1 r.told.0;
          ended = λ limit kept b. refused_ends tokens done here j Beyond list p other r.within r.told.1 r.told.0 limit kept b;
          first = λ deep x. refused_not_deep tokens done here j Beyond p r.told.0 r.told.2 deep x;
        },
      );
    }
progress_stops tokens done here (stop.TooDeep j) list p other r =
    record {
      told = (
        r.told.1,
        λ byte at. record {
          number = j;
          stands = at;
          before = done;
          start = here;
          declared = subst (λ (l : List RawDecl). Declarations (text tokens) open_limit l 0 here) (append_none done) (p.build open_limit (λ _. lit≤ tt) (text tokens) [] here (λ _ _. refl) none);
          shallow = p.shallow;
          head = r.told.0.0;
          deep = r.told.0.1;
        },
      );
    }

-- places

pub token_stands : (tokens : List Token) (i : ℕ) (t : Token) → i < length tokens → t ≡ get_or tokens i t → slice_get tokens i ≡ Some t
token_stands [] i t inside e = absurd (omega arith)
token_stands (u ∷ us) zero t inside e = ap Some (sym e)
token_stands (u ∷ us) (suc i) t inside e = token_stands us i t (omega arith) e

pub as_unexpected : (tokens : List Token) (s : Stop) (j b byte : ℕ) → StopsProgram tokens s → s ≡ stop.Unexpected j → StandsAt tokens j b → b ≡ byte → IsUnexpected tokens byte
as_unexpected tokens s j b byte r e at h = let q = subst (λ (x : Stop). StopsProgram tokens x) e r in subst (λ (x : ℕ). IsUnexpected tokens x) h (q.told.1 b at)

pub as_many : (tokens : List Token) (s : Stop) (j b byte : ℕ) → StopsProgram tokens s → s ≡ stop.TooMany j → StandsAt tokens j b → b ≡ byte → IsTooDeep tokens byte
as_many tokens s j b byte r e at h = let q = subst (λ (x : Stop). StopsProgram tokens x) e r in inl (subst (λ (x : ℕ). OpensTooMany tokens x) h (q.told.1 b at))

pub as_deep : (tokens : List Token) (s : Stop) (j b byte : ℕ) → StopsProgram tokens s → s ≡ stop.TooDeep j → StandsAt tokens j b → b ≡ byte → IsTooDeep tokens byte
as_deep tokens s j b byte r e at h = let q = subst (λ (x : Stop). StopsProgram tokens x) e r in inr (subst (λ (x : ℕ). EndsTooDeep tokens x) h (q.told.1 b at))

pub inside_unexpected : (tokens : List Token) (s : Stop) (j : ℕ) → StopsProgram tokens s → s ≡ stop.Unexpected j → j < length tokens
inside_unexpected tokens s j r e = (subst (λ (x : Stop). StopsProgram tokens x) e r).told.0

pub inside_many : (tokens : List Token) (s : Stop) (j : ℕ) → StopsProgram tokens s → s ≡ stop.TooMany j → j < length tokens
inside_many tokens s j r e = (subst (λ (x : Stop). StopsProgram tokens x) e r).told.0

pub inside_deep : (tokens : List Token) (s : Stop) (j : ℕ) → StopsProgram tokens s → s ≡ stop.TooDeep j → j < length tokens
inside_deep tokens s j r e = (subst (λ (x : Stop). StopsProgram tokens x) e r).told.0
