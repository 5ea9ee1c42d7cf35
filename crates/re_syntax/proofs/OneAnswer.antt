use Rattle.std.proofs.Common.{ℕ, ◌+◌, ◌-◌, ◌<◌, ◌≤◌, ◌≡◌, inl, inr, true, List, [], ◌∷◌, ◌++◌, append_assoc, length, take, Some, refl, sym, subst, ◌∙◌, ap, arith, lit≤, nat_le}
use Rattle.std.proofs.Math.ListN.{drop}
use Rattle.std.proofs.Math.Nat.{lt_of_not-le}
use Rattle.std.proofs.Math.Seq.{take-add}
use Rattle.std.proofs.lemmas.Bool.{and_parts}
use Rattle.std.proofs.lemmas.List.{take-append-drop}
use Rattle.std.specs.List.{list_all}
use Rattle.std.specs.Prelude.{slice_get}
use Rattle.re_terms.specs.Tokens.{IsTokenList}
use Rattle.re_terms.specs.Trees.{is_name_text, is_expr, is_whole_expr, is_region, is_declaration, is_body, raw_depth}
use Rattle.re_terms.specs.declared.reserved.TheConstants.{EVENT, SIGNAL, FOLD, ON, DO}
use Rattle.re_terms.specs.declared.token.Token.{Token}
use Rattle.re_terms.specs.declared.token.Mark.{Mark}
use Rattle.re_terms.specs.declared.raw.RawBody.{RawBody}
use Rattle.re_terms.specs.declared.raw.RawBody.TheVariants as body
use Rattle.re_terms.specs.declared.raw_expr.RawExpr.{RawExpr}
use Rattle.re_terms.specs.declared.raw.RawDecl.{RawDecl}
use Rattle.re_syntax.specs.declared.fault.SyntaxFault.TheVariants as faults
use Rattle.re_syntax.specs.Grammar.{marks_of, Declaration, Declarations, none, more, Derives}
use Rattle.re_syntax.specs.Places as places
use Rattle.re_syntax.specs.Places.{open_limit, IsKeptUpTo, Begins, StandsAt, SourceHead, ContentHead, Head, IsDeep, EndsTooDeep, IsUnexpected, OpensTooMany}
use Rattle.re_syntax.specs.Programs.{IsShallow}
use Rattle.re_syntax.specs.Steps.{text, EndsLast, DeepContent, DeepDeclaration}
use Rattle.re_syntax.specs.OneAnswer.{HasNoOtherTree, HasNoOtherRefusal, HasNotBoth, HasTree}
use Rattle.re_syntax.proofs.Steps.{no_true}
use Rattle.re_syntax.proofs.Leaves.{inside_next, no_end_word}
use Rattle.re_syntax.proofs.Heads.{declaration_down, event_down, signal_down, fold_down}
use Rattle.re_syntax.proofs.Programs.{Progress, progress_start, progress_step, progress_ends, ends_last, not_empty, content_forward, declarations_forward, first_rest, append_none}
use Rattle.re_syntax.proofs.Derived.{declaration_accepted, start_accepts, word_accepts, named_accepts}

-- one tree

declaration_longer : {at : ℕ → Mark} {limit : ℕ → ℕ} {d : RawDecl} {i n : ℕ} → Declaration at limit d i n → i < n
declaration_longer x = omega (arith, content_forward x.content, x.next)

none_left : (limit : ℕ → ℕ) (at : ℕ → Mark) (es : List RawDecl) (i n : ℕ) → n ≡ i → Declarations at limit es i n → es ≡ []
none_left limit at _ i _ e none = refl
none_left limit at _ i n e (more x y) = absurd (omega (arith, e, declaration_longer x, declarations_forward y))

same_tree : (tokens : List Token) → EndsLast tokens → (limit : ℕ → ℕ) (ds es : List RawDecl) (i n : ℕ) → i < length tokens → Declarations (text tokens) open_limit ds i n → Declarations (text tokens) limit es i n → es ≡ ds
same_tree tokens ends limit _ es i _ inside none other = none_left limit (text tokens) es i i refl other
same_tree tokens ends limit _ es i n inside (more {k = k} {d = d} {ds = ds} x y) other =
    let a = declaration_accepted tokens ends d i k x inside in
    let f = first_rest limit (text tokens) es i n k d [] a.longer (declarations_forward y)
    (λ e q z. elim (a.accepts.exact.only limit (text tokens) e q (λ _ _. refl) z) [ inl same ↦ same | inr early ↦ absurd (no_true early.0) ]) other in
    f.1.0 ∙ ap (λ (l : List RawDecl). d ∷ l) (same_tree tokens ends limit ds f.0 k n a.accepts.inside y f.1.1)

pub no_other_tree : (tokens : List Token) → IsTokenList tokens → HasNoOtherTree tokens
no_other_tree tokens list = λ limit tree other x y.
    let same : y.last ≡ x.last = omega (arith, x.all, y.all) in
    same_tree tokens (ends_last tokens list) limit tree other 0 x.last (not_empty tokens list) x.declarations (subst (λ (q : ℕ). Declarations (text tokens) limit other 0 q) same y.declarations)

-- what was read of declarations within the limits

at_most : (a b : ℕ) → nat_le a b ≡ true → a ≤ b
at_most a b h = grind arith

few_of : (e : RawExpr) → is_whole_expr e ≡ true → raw_depth e ≤ 64
few_of e h = at_most (raw_depth e) 64 (and_parts (is_expr e) (nat_le (raw_depth e) 64) h).1

shallow_of : (b : RawBody) → is_body b ≡ true → IsShallow b
shallow_of body.Device h = tt
shallow_of body.Symbol h = tt
shallow_of (body.Var k v r) h = tt
shallow_of (body.Event k) h = tt
shallow_of (body.Signal e) h = few_of e h
shallow_of (body.Changed t) h = tt
shallow_of (body.Map t e) h = few_of e (and_parts (is_name_text t) (is_whole_expr e) h).1
shallow_of (body.Filter t e) h = few_of e (and_parts (is_name_text t) (is_whole_expr e) h).1
shallow_of (body.Either t u) h = tt
shallow_of (body.Fold k v t e r) h = few_of e (and_parts _ (is_whole_expr e) (and_parts _ (is_region r) h).0).1
shallow_of body.Counter h = tt
shallow_of (body.Set k) h = tt
shallow_of (body.Register k v) h = tt

progress_all : (tokens : List Token) → IsTokenList tokens → (done ds : List RawDecl) (here n : ℕ) → Progress tokens done here → Declarations (text tokens) open_limit ds here n → list_all is_declaration ds ≡ true → Progress tokens (done ++ ds) n
progress_all tokens list done _ here _ p none h = subst (λ (l : List RawDecl). Progress tokens l here) (sym (append_none done)) p
progress_all tokens list done _ here n p (more {k = k} {d = d} {ds = ds} x y) h =
    let q = and_parts (is_declaration d) (list_all is_declaration ds) h in
    let a = declaration_accepted tokens (ends_last tokens list) d here k x p.inside in
    let few = shallow_of d.body (and_parts (is_name_text d.name) (is_body d.body) q.0).1 in
    subst (λ (l : List RawDecl). Progress tokens l n) (append_assoc done (d ∷ []) ds)
    (progress_all tokens list (done ++ (d ∷ [])) ds k n (progress_step tokens done here k d list p a.accepts a.longer few (λ s deep. a.shallow few s deep)) y q.1)

-- a tree and a refusal

-- a program begins with each number of its marks
begins_of : (limit : ℕ → ℕ) (marks : List Mark) (count : ℕ) (tree : List RawDecl) → Derives limit marks tree → Begins limit marks count
begins_of limit marks count tree x = record { more = drop count marks; program = tree; derived = subst (λ (l : List Mark). Derives limit l tree) (sym (take-append-drop count marks)) x }

not_deep : (tokens : List Token) → IsTokenList tokens → (tree : List RawDecl) → HasTree tokens tree → (byte : ℕ) → EndsTooDeep tokens byte → ⊥
not_deep tokens list tree x byte d =
    let p = progress_all tokens list [] tree 0 x.derived.last (progress_start tokens list) x.derived.declarations x.declarations in
    (progress_ends tokens (record { items = tree; spare = 0 }) x.derived.last list refl p x.derived.end).shallow byte d

pub not_both : (tokens : List Token) → IsTokenList tokens → HasNotBoth tokens
not_both tokens list = λ tree one x r. apart tree one x r
  where
    apart : HasNotBoth tokens
    apart tree faults.Memory x r = r
    apart tree (faults.At byte) x r = r.ended open_limit (begins_of open_limit (marks_of tokens) (r.number + 1) tree x.derived)
    apart tree (faults.Deep byte) x (inl r) = r.ended open_limit (λ k h. lit≤ tt) (begins_of open_limit (marks_of tokens) (r.number + 1) tree x.derived)
    apart tree (faults.Deep byte) x (inr r) = not_deep tokens list tree x byte r

-- one refusal

same_byte : (tokens : List Token) (i j b c : ℕ) → i ≡ j → StandsAt tokens i b → StandsAt tokens j c → c ≡ b
same_byte tokens i j b c e s t =
    let u = subst (λ (q : ℕ). StandsAt tokens q b) e s in
    sym t.2 ∙ ap (λ (x : Token). x.at) (same_token t.1 u.1) ∙ u.2
  where
    same_token : {x y : Token} → slice_get tokens j ≡ Some x → slice_get tokens j ≡ Some y → x ≡ y
    same_token f g = cc

-- what begins with more marks begins with fewer
begins_less : (limit : ℕ → ℕ) (marks : List Mark) (k m : ℕ) → k ≤ m → Begins limit marks m → Begins limit marks k
begins_less limit marks k m h b =
    let rest : List Mark = take (m - k) (drop k marks) in
    let whole : k + (m - k) ≡ m = omega arith in
    let parts : take m marks ≡ take k marks ++ rest = subst (λ (q : ℕ). take q marks ≡ take k marks ++ take (m - k) (drop k marks)) whole (take-add k (m - k) marks) in
    record {
      more = rest ++ b.more;
      program = b.program;
      derived = subst (λ (l : List Mark). Derives limit l b.program) (ap (λ (l : List Mark). l ++ b.more) parts ∙ append_assoc (take k marks) rest b.more) b.derived;
    }

not_beyond : (m n : ℕ) → (m + 1 ≤ n → ⊥) → n ≤ m
not_beyond m n f = let e : n < m + 1 = lt_of_not-le f in omega arith

unexpected_least : (tokens : List Token) (b c : ℕ) (u : IsUnexpected tokens b) (v : IsUnexpected tokens c) → v.number ≤ u.number
unexpected_least tokens b c u v = not_beyond u.number v.number (λ h. u.ended v.limit (begins_less v.limit (marks_of tokens) (u.number + 1) v.number h v.begun))

too_many_least : (tokens : List Token) (b c : ℕ) (u : OpensTooMany tokens b) (v : OpensTooMany tokens c) → v.number ≤ u.number
too_many_least tokens b c u v = not_beyond u.number v.number
    (λ h. u.ended v.limit (λ k below. v.kept k (omega (arith, h, below))) (begins_less v.limit (marks_of tokens) (u.number + 1) (v.number + 1) (omega (arith, h)) v.begun))

unexpected_not_many : (tokens : List Token) (b c : ℕ) → IsUnexpected tokens b → OpensTooMany tokens c → ⊥
unexpected_not_many tokens b c u v =
    let early : u.number ≤ v.number = not_beyond v.number u.number (λ h. v.ended u.limit (λ k below. u.kept k (omega (arith, h, below))) (begins_less u.limit (marks_of tokens) (v.number + 1) u.number h u.begun)) in
    u.ended v.limit (begins_less v.limit (marks_of tokens) (u.number + 1) (v.number + 1) (omega arith) v.begun)

-- the first expression that is too deep

source_head_end : {at : ℕ → Mark} {i s : ℕ} → SourceHead at i s → s ≡ i + 4
source_head_end (places.mapped _ _ _ _) = refl
source_head_end (places.filtered _ _ _ _) = refl

as_word : (tokens : List Token) (word w i s : ℕ) → word ≡ w → DeepContent tokens word i s → DeepContent tokens w i s
as_word tokens word w i s e d = subst (λ (q : ℕ). DeepContent tokens q i s) e d

same_content : (tokens : List Token) → EndsLast tokens → {word i s : ℕ} → ContentHead (text tokens) word i s → i < length tokens → (n : ℕ) → DeepContent tokens word i n → n ≡ s
same_content tokens ends (places.derived {i = i} w h x) inside n d =
    let e = source_head_end (event_down tokens i n (as_word tokens _ EVENT i n w d)).0 in e ∙ sym (source_head_end x)
same_content tokens ends (places.signal {i = i} w h) inside n d = (signal_down tokens i (i + 1) refl n (as_word tokens _ SIGNAL i n w d)).0
same_content tokens ends (places.fold {i = i} {j = j} {t = t} {k = k} {v = v} w h g f l o p q) inside n d =
    let a = start_accepts tokens ends inside h g f l in
    let b = word_accepts tokens j (j + 1) ON a.inside ends o refl in
    let c = named_accepts tokens (j + 1) (j + 2) t b.inside ends p (omega arith) in
    let e = word_accepts tokens (j + 2) (j + 3) DO c.inside ends q (omega arith) in
    (fold_down tokens (k, v) t i j (j + 1) (j + 2) (j + 3) a b c e n (as_word tokens _ FOLD i n w d)).0

same_head : (tokens : List Token) → EndsLast tokens → (i s n : ℕ) → i < length tokens → Head (text tokens) i s → DeepDeclaration tokens i n → n ≡ s
same_head tokens ends i s n inside x d =
    let a = named_accepts tokens (i + 1) (i + 2) x.name (inside_next tokens i inside ends (no_end_word x.begins)) ends x.named (omega arith) in
    same_content tokens ends x.content a.inside n (declaration_down tokens x.word x.name i (i + 2) x.begins a n d)

progress_before : (tokens : List Token) → IsTokenList tokens → (byte : ℕ) (d : EndsTooDeep tokens byte) → Progress tokens d.before d.start
progress_before tokens list byte d = progress_all tokens list [] d.before 0 d.start (progress_start tokens list) d.declared d.shallow

same_deep : (tokens : List Token) → IsTokenList tokens → (b c : ℕ) → EndsTooDeep tokens b → EndsTooDeep tokens c → c ≡ b
same_deep tokens list b c d e =
    let p = progress_before tokens list b d in
    let q = progress_before tokens list c e in
    let low : d.start ≤ e.start = p.deep e.before e.start e.number e.declared e.head e.deep in
    let high : e.start ≤ d.start = q.deep d.before d.start d.number d.declared d.head d.deep in
    let same : e.start ≡ d.start = omega arith in
    let n = same_head tokens (ends_last tokens list) d.start d.number e.number p.inside d.head (subst (λ (k : ℕ). Head (text tokens) k e.number) same e.head, e.deep) in
    same_byte tokens d.number e.number b c (sym n) d.stands e.stands

pub no_other_refusal : (tokens : List Token) → IsTokenList tokens → HasNoOtherRefusal tokens
no_other_refusal tokens list = λ one other r s. same one other r s
  where
    same : HasNoOtherRefusal tokens
    same faults.Memory other r s = absurd r
    same one faults.Memory r s = absurd s
    same (faults.At b) (faults.At c) r s =
        let low = unexpected_least tokens b c r s in
        let high = unexpected_least tokens c b s r in
        ap faults.At (same_byte tokens r.number s.number b c (omega (arith, low, high)) r.stands s.stands)
    same (faults.At b) (faults.Deep c) r (inl s) = absurd (unexpected_not_many tokens b c r s)
    same (faults.At b) (faults.Deep c) r (inr s) = absurd (r.first c s)
    same (faults.Deep b) (faults.At c) (inl r) s = absurd (unexpected_not_many tokens c b s r)
    same (faults.Deep b) (faults.At c) (inr r) s = absurd (s.first b r)
    same (faults.Deep b) (faults.Deep c) (inl r) (inl s) =
        let low = too_many_least tokens b c r s in
        let high = too_many_least tokens c b s r in
        ap faults.Deep (same_byte tokens r.number s.number b c (omega (arith, low, high)) r.stands s.stands)
    same (faults.Deep b) (faults.Deep c) (inl r) (inr s) = absurd (r.first c s)
    same (faults.Deep b) (faults.Deep c) (inr r) (inl s) = absurd (s.first b r)
    same (faults.Deep b) (faults.Deep c) (inr r) (inr s) = ap faults.Deep (same_deep tokens list b c r s)
