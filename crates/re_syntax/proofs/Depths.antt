use Rattle.std.proofs.Common.{ℕ, ◌+◌, ◌<◌, ◌≤◌, ◌≡◌, inl, inr, Bool, List, [], ◌∷◌, ◌++◌, length, length-take, length-append, take, refl, sym, subst, ◌∙◌, ap, arith, lit≤, append_assoc}
use Rattle.std.proofs.Math.ListN.{get_or-append}
use Rattle.std.proofs.Math.Seq.{get_or-append_seam}
use Rattle.std.proofs.lemmas.List.{get_or-take, length-map}
use Rattle.re_terms.specs.Trees.{raw_depth}
use Rattle.re_terms.specs.declared.token.Token.{Token}
use Rattle.re_terms.specs.declared.token.Mark.{Mark}
use Rattle.re_terms.specs.declared.token.Mark.TheVariants as mark
use Rattle.re_terms.specs.declared.raw_expr.RawExpr.{RawExpr}
use Rattle.re_syntax.specs.declared.stop.Stop.{Stop}
use Rattle.re_syntax.specs.declared.stop.Stop.TheVariants as stop
use Rattle.re_syntax.specs.declared.kept.Kept.{Kept}
use Rattle.re_syntax.specs.declared.kept.Kept.TheVariants as kept
use Rattle.re_syntax.specs.Grammar.{marks_of, mark_at}
use Rattle.re_syntax.specs.Places.{Agrees, IsDeep, open_limit}
use Rattle.re_syntax.specs.Steps.{Language, text, Holds, IsRoomy, nothing, joins, Cause, Unfit, Beyond, fitting, IsRefusedUnder, Refusal, Accepts, Finds, Stands, Stops, Misses, Never, Then, AnExpression, DeepAt}
use Rattle.re_syntax.proofs.Steps.{Completes, no_true, after_nothing}
use Rattle.re_syntax.proofs.Tokens.{Stage, misses_in}

-- a text that begins like another and goes on with given marks

pub holds_behind : (before ms : List Mark) (n : ℕ) → n ≡ length before + length ms → Holds (mark_at (before ++ ms)) (length before) ms n
holds_behind before [] n h = omega (arith, h)
holds_behind before (m ∷ ms) n h =
    let whole : before ++ (m ∷ ms) ≡ (before ++ (m ∷ [])) ++ ms = sym (append_assoc before (m ∷ []) ms) in
    let long : length (before ++ (m ∷ [])) ≡ length before + 1 = omega (arith, length-append before (m ∷ [])) in
    let rest = holds_behind (before ++ (m ∷ [])) ms n (omega (arith, long, h)) in
    (get_or-append_seam before m ms mark.End, subst (λ (q : ℕ). Holds (mark_at (before ++ (m ∷ ms))) q ms n) long (subst (λ (l : List Mark). Holds (mark_at l) (length (before ++ (m ∷ []))) ms n) (sym whole) rest))

pub same_before : (marks ms : List Mark) (count k : ℕ) → count ≤ length marks → k < count → mark_at (take count marks ++ ms) k ≡ mark_at marks k
same_before marks ms count k h below =
    let long : length (take count marks) ≡ count = rw length-take (omega arith) in
    get_or-append (take count marks) ms mark.End k (omega arith) ∙ get_or-take count marks k mark.End below

pub patched : (marks ms : List Mark) (count : ℕ) → count ≤ length marks → Agrees count (mark_at marks) (mark_at (take count marks ++ ms)) × Holds (mark_at (take count marks ++ ms)) count ms (count + length ms)
patched marks ms count h =
    let long : length (take count marks) ≡ count = rw length-take (omega arith) in (
      λ k below. same_before marks ms count k h below,
      subst (λ (q : ℕ). Holds (mark_at (take count marks ++ ms)) q ms (count + length ms)) long (holds_behind (take count marks) ms (count + length ms) (omega (arith, long))),
    )

-- a refused expression didn't end

under_limit : (cause : Cause) (j : ℕ) → IsRefusedUnder cause j open_limit
under_limit Unfit j = tt
under_limit Beyond j = λ k h. lit≤ tt

pub refused_not_deep : (tokens : List Token) (cause : Cause) (i j : ℕ) → fitting cause j ≤ length tokens → Refusal (AnExpression 1) (joins 0) (text tokens) cause i j → IsDeep (text tokens) i → ⊥
refused_not_deep tokens cause i j inside r d =
    let early = r.ended open_limit (under_limit cause j) (text tokens) d.expression d.behind (λ k h. refl) d.read in
    let count : ℕ = fitting cause j in
    let room : count ≤ length (marks_of tokens) = rw length-map inside in
    let p = patched (marks_of tokens) r.ahead count room in
    let roomy : IsRoomy j (λ (_ : ℕ). 129) = record { enough = λ k. lit≤ tt; behind = λ k h. lit≤ tt } in
    let x = r.begun (λ _. 129) roomy (mark_at (take count (marks_of tokens) ++ r.ahead)) (count + length r.ahead) p.0 p.1 in
    let late : count + length r.ahead ≤ d.behind = d.whole (λ _. 129) (mark_at (take count (marks_of tokens) ++ r.ahead)) r.value (count + length r.ahead) (λ k h. p.0 k (omega (arith, early.1))) x in
    let some : 0 < length r.ahead = r.some in
    omega (arith, early.1, late)

pub accepted_not_deep : (tokens : List Token) (e : RawExpr) (i n : ℕ) → Accepts (AnExpression 1) (joins 0) 1 tokens e i n → raw_depth e ≤ 64 → IsDeep (text tokens) i → ⊥
accepted_not_deep tokens e i n a shallow d =
    let x = a.exact.read open_limit (λ _. lit≤ tt) (text tokens) (λ _ _. refl) in
    let late : n ≤ d.behind = d.whole open_limit (text tokens) e n (λ _ _. refl) x in
    elim (a.exact.only open_limit (text tokens) d.expression d.behind (λ _ _. refl) d.read) [
      | inl same ↦ (let deep : 64 < raw_depth d.expression = d.deep in let is : raw_depth d.expression ≡ raw_depth e = ap raw_depth same.0 in omega arith)
      | inr early ↦ omega (arith, early.1)
    ]

pub deep_at : (tokens : List Token) (e : RawExpr) (i n : ℕ) → Accepts (AnExpression 1) (joins 0) 1 tokens e i n → 64 < raw_depth e → IsDeep (text tokens) i
deep_at tokens e i n a deep = record {
  expression = e;
  behind = n;
  read = a.exact.read open_limit (λ _. lit≤ tt) (text tokens) (λ _ _. refl);
  deep = deep;
  whole = λ limit other w m agrees x. elim (a.exact.only limit other w m agrees x) [ inl same ↦ omega (arith, same.1) | inr early ↦ omega (arith, early.1) ];
}

pub whole_stops : (tokens : List Token) (i : ℕ) (s : Stop) → Stops (AnExpression 1) (joins 0) Never tokens i s → Stops (AnExpression 1) (joins 0) (DeepAt tokens i) tokens i s
whole_stops tokens i stop.Memory r = record { told = tt; within = tt }
whole_stops tokens i (stop.Unexpected j) r = record { told = (r.told.0, r.told.1, λ s d. refused_not_deep tokens Unfit i j (omega (arith, r.told.1)) r.told.0 d.1); within = tt }
whole_stops tokens i (stop.TooMany j) r = record { told = (r.told.0, r.told.1, λ s d. refused_not_deep tokens Beyond i j (omega (arith, r.told.1)) r.told.0 d.1); within = r.within }
whole_stops tokens i (stop.TooDeep j) r = absurd r.told.0

-- a step that reads no expression is refused where something deep would have to be read

pub misses_deep : {A V : Type 0} {X : Language V} {goes_on : Mark → Bool} {Deep : ℕ → Type 0} {tokens : List Token} {ahead i k : ℕ} {Y : Language A} {Z : A → Language V} (s : Stop)
    → Stage X goes_on tokens ahead i k (Then Y Z) → Misses Y nothing tokens k s → ahead ≤ 1 → ((a : A) → Completes (Z a))
    → ((n : ℕ) → Deep n → (v : A) × (m : ℕ) × Y (text tokens) open_limit v k m) → Stops X goes_on Deep tokens i s
misses_deep stop.Memory g r h c reads = record { told = tt; within = tt }
misses_deep {A} {V} {X} {goes_on} {Deep} {tokens} {ahead} {i} {k} {Y} {Z} (stop.Unexpected j) g r h c reads =
    let m = misses_in (stop.Unexpected j) g r h after_nothing c in
    record { told = (m.told.0, m.told.1, λ n d. let y = reads n d in no_true (r.told.0.ended open_limit tt (text tokens) y.0 y.1 (λ _ _. refl) y.2).0); within = tt }
misses_deep (stop.TooMany j) g r h c reads = absurd r.told
misses_deep (stop.TooDeep j) g r h c reads = absurd r.told

-- the answer for a whole expression

pub whole_accepts : (tokens : List Token) (i n : ℕ) (k : Kept) (tree : RawExpr) (depth : ℕ) → Finds (AnExpression 1) (joins 0) tokens k i n → k ≡ kept.Whole tree depth → Accepts (AnExpression 1) (joins 0) 1 tokens tree i n
whole_accepts tokens i n k tree depth f e =
    let s = subst (λ (q : Kept). Stands q f.expression) e f.stands in
    subst (λ (x : RawExpr). Accepts (AnExpression 1) (joins 0) 1 tokens x i n) (sym s.0) f.accepts

pub whole_depth : (tokens : List Token) (i n : ℕ) (k : Kept) (tree : RawExpr) (depth : ℕ) → Finds (AnExpression 1) (joins 0) tokens k i n → k ≡ kept.Whole tree depth → raw_depth tree ≤ 64
whole_depth tokens i n k tree depth f e =
    let s = subst (λ (q : Kept). Stands q f.expression) e f.stands in
    let d : raw_depth tree ≡ depth = ap raw_depth s.0 ∙ s.1 in
    let b : depth ≤ 64 = s.2 in
    omega arith

pub too_deep_stops : (tokens : List Token) (i n : ℕ) (k : Kept) → i < length tokens → Finds (AnExpression 1) (joins 0) tokens k i n → k ≡ kept.TooDeep → Stops (AnExpression 1) (joins 0) (DeepAt tokens i) tokens i (stop.TooDeep i)
too_deep_stops tokens i n k inside f e =
    let s = subst (λ (q : Kept). Stands q f.expression) e f.stands in
    record { told = ((refl, deep_at tokens f.expression i n f.accepts s), inside); within = tt }
