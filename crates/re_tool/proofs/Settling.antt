-- A program part has one verdict.
use Rattle.std.proofs.Common.{arith, ◌≡◌, ℕ, List, sym, ◌∙◌, ap, subst}
use Rattle.re_terms.specs.declared.token.Token.{Token}
use Rattle.re_terms.specs.declared.raw.RawDecl.{RawDecl}
use Rattle.re_terms.specs.declared.raw.Tree.{Tree}
use Rattle.re_tokens.proofs.Lists.{is_token_list}
use Rattle.re_tokens.proofs.Sameness.{one_list, one_place, never_both}
use Rattle.re_syntax.specs.Grammar.{marks_of, Derives}
use Rattle.re_syntax.specs.OneAnswer.{IsRefused}
use Rattle.re_syntax.specs.Places.{open_limit}
use Rattle.re_syntax.specs.declared.fault.SyntaxFault.{SyntaxFault}
use Rattle.re_syntax.specs.declared.fault.SyntaxFault.TheVariants as fault
use Rattle.re_syntax.proofs.OneAnswer.{no_other_tree, no_other_refusal, not_both}
use Rattle.re_types.specs.Resolving.{resolved}
use Rattle.re_tool.specs.declared.faults.Refusal.TheVariants as refusal
use Rattle.re_tool.specs.Verdict.{Verdict, Unknown, Rejected, Accepted, HasTokens, HasTree, Judges, too_long, no_token, unexpected, too_deep, whole, HasVerdict, Decides, verdict_of}

tokens_same : {text : List ℕ} {t u : List Token} → HasTokens text t → HasTokens text u → u ≡ t
tokens_same {text} {t} {u} h k = one_list text u t k.spelled h.spelled

-- the refusal of a list of tokens, as a verdict
abbrev syntax_verdict : SyntaxFault → Verdict
syntax_verdict fault.Memory = Unknown
syntax_verdict (fault.At place) = Rejected (refusal.Unexpected place)
syntax_verdict (fault.Deep place) = Rejected (refusal.TooDeep place)

refused_once : {text : List ℕ} {t u : List Token} (one other : SyntaxFault) → HasTokens text t → HasTokens text u → IsRefused t one → IsRefused u other → syntax_verdict other ≡ syntax_verdict one
refused_once {text} {t} {u} one other h k a b =
    ap syntax_verdict (no_other_refusal t (is_token_list text t h.spelled) one other a (subst (λ x. IsRefused x other) (tokens_same h k) b))

-- a tree and a refusal
refused_whole : {text : List ℕ} {tree : Tree} {u : List Token} (one : SyntaxFault) → HasTree text tree → HasTokens text u → IsRefused u one → ⊥
refused_whole {text} {tree} {u} one s k b =
    not_both s.tokens (is_token_list text s.tokens s.has.spelled) tree.decls.items one (record { derived = s.derives; declarations = s.limits.declarations }) (subst (λ x. IsRefused x one) (tokens_same s.has k) b)

tree_is : (a b : Tree) → a.decls.items ≡ b.decls.items → a.decls.spare ≡ 0 → b.decls.spare ≡ 0 → a ≡ b
tree_is a b e p q =
    let f : List RawDecl → ℕ → Tree = λ items spare. record { decls = record { items = items; spare = spare } } in
    ap (λ items. f items a.decls.spare) e ∙ ap (f b.decls.items) (p ∙ sym q)

one_tree : {text : List ℕ} {tree other : Tree} → HasTree text tree → HasTree text other → other ≡ tree
one_tree {text} {tree} {other} t s =
    tree_is other tree (no_other_tree t.tokens (is_token_list text t.tokens t.has.spelled) open_limit tree.decls.items other.decls.items t.derives (subst (λ x. Derives open_limit (marks_of x) other.decls.items) (tokens_same t.has s.has) s.derives)) s.limits.plain t.limits.plain

-- a program part is judged in one way
judged_once : (text : List ℕ) (v w : Verdict) → Judges text v → Judges text w → w ≡ v
judged_once text v w (too_long h e) (too_long k f) = f ∙ sym e
judged_once text v w (too_long h e) (no_token k n f) = absurd (omega (arith, h, k))
judged_once text v w (too_long h e) (unexpected k u f) = absurd (let l = k.few in omega (arith, h, l))
judged_once text v w (too_long h e) (too_deep k d f) = absurd (let l = k.few in omega (arith, h, l))
judged_once text v w (too_long h e) (whole k f) = absurd (let l = k.has.few in omega (arith, h, l))
judged_once text v w (no_token h n e) (too_long k f) = absurd (omega (arith, h, k))
judged_once text v w (no_token {place = a} h n e) (no_token {place = b} k m f) = f ∙ ap (λ place. Rejected (refusal.NoToken place)) (one_place text b a m n) ∙ sym e
judged_once text v w (no_token {place = a} h n e) (unexpected {tokens = t} k u f) = absurd (never_both text t a k.spelled n)
judged_once text v w (no_token {place = a} h n e) (too_deep {tokens = t} k d f) = absurd (never_both text t a k.spelled n)
judged_once text v w (no_token {place = a} h n e) (whole k f) = absurd (never_both text k.tokens a k.has.spelled n)
judged_once text v w (unexpected h u e) (too_long k f) = absurd (let l = h.few in omega (arith, k, l))
judged_once text v w (unexpected {tokens = t} h u e) (no_token {place = b} k m f) = absurd (never_both text t b h.spelled m)
judged_once text v w (unexpected {place = a} h u e) (unexpected {place = b} k x f) = f ∙ refused_once (fault.At a) (fault.At b) h k u x ∙ sym e
judged_once text v w (unexpected {place = a} h u e) (too_deep {place = b} k d f) = f ∙ refused_once (fault.At a) (fault.Deep b) h k u d ∙ sym e
judged_once text v w (unexpected {place = a} h u e) (whole k f) = absurd (refused_whole (fault.At a) k h u)
judged_once text v w (too_deep h d e) (too_long k f) = absurd (let l = h.few in omega (arith, k, l))
judged_once text v w (too_deep {tokens = t} h d e) (no_token {place = b} k m f) = absurd (never_both text t b h.spelled m)
judged_once text v w (too_deep {place = a} h d e) (unexpected {place = b} k x f) = f ∙ refused_once (fault.Deep a) (fault.At b) h k d x ∙ sym e
judged_once text v w (too_deep {place = a} h d e) (too_deep {place = b} k x f) = f ∙ refused_once (fault.Deep a) (fault.Deep b) h k d x ∙ sym e
judged_once text v w (too_deep {place = a} h d e) (whole k f) = absurd (refused_whole (fault.Deep a) k h d)
judged_once text v w (whole h e) (too_long k f) = absurd (let l = h.has.few in omega (arith, k, l))
judged_once text v w (whole h e) (no_token {place = b} k m f) = absurd (never_both text h.tokens b h.has.spelled m)
judged_once text v w (whole h e) (unexpected {place = b} k x f) = absurd (refused_whole (fault.At b) h k x)
judged_once text v w (whole h e) (too_deep {place = b} k x f) = absurd (refused_whole (fault.Deep b) h k x)
judged_once text v w (whole h e) (whole k f) = f ∙ ap (λ x. verdict_of (resolved x)) (one_tree h k) ∙ sym e

verdict_once : (text : List ℕ) (v w : Verdict) → HasVerdict text v → HasVerdict text w → w ≡ v
verdict_once text Unknown w h k = absurd h
verdict_once text (Rejected why) Unknown h k = absurd k
verdict_once text (Accepted p) Unknown h k = absurd k
verdict_once text (Rejected why) (Rejected other) h k = judged_once text (Rejected why) (Rejected other) h k
verdict_once text (Rejected why) (Accepted q) h k = judged_once text (Rejected why) (Accepted q) h k
verdict_once text (Accepted p) (Rejected other) h k = judged_once text (Accepted p) (Rejected other) h k
verdict_once text (Accepted p) (Accepted q) h k = judged_once text (Accepted p) (Accepted q) h k

-- what a program part is, is all that it is
pub decided : (text : List ℕ) (v : Verdict) → HasVerdict text v → Decides text v
decided text v h = record { has = h; only = λ w k. verdict_once text v w h k }
