-- Which acts a replicated cell takes.
use Rattle.std.proofs.Common.{ℕ, ◌≡◌, true, Option, Some, None, sym, ap, ◌∙◌}
use Rattle.re_terms.specs.Layouts.{layout_of, is_allowed}
use Rattle.re_terms.specs.Programs.{is_literal_word}
use Rattle.re_terms.specs.Shapes.{is_word_of}
use Rattle.re_terms.specs.Admission.{is_act_of}
use Rattle.re_terms.specs.declared.word.Word.{Word}
use Rattle.re_terms.specs.declared.word.Kind.{Kind}
use Rattle.re_terms.specs.declared.replicated.Act.{Act}
use Rattle.re_terms.specs.declared.replicated.Act.TheVariants as act
use Rattle.re_terms.specs.declared.replicated.RKind.{RKind}
use Rattle.re_terms.specs.declared.replicated.RKind.TheVariants as kind
use Rattle.re_types.specs.Parts.{is_literal_act, word_of, word_kind}

same : (symbols : ℕ) (j k : Kind) (v w : Word) → ◌≡◌ {A = Option Kind} (Some j) (Some k) → ◌≡◌ {A = Option Word} (Some v) (Some w) → is_word_of symbols j v ≡ is_word_of symbols k w
same symbols j k v w e f =
    let kinds : j ≡ k = cc in
    let words : v ≡ w = cc in
    ap (λ i. is_word_of symbols i v) kinds ∙ ap (is_word_of symbols k) words

-- one with a word is taken where the word is of the cell's kind
pub with_word : (symbols : ℕ) (r : RKind) (a : Act) (k : Kind) (w : Word) → is_allowed r a ≡ true → word_kind (layout_of r) ≡ Some k → word_of a ≡ Some w → is_act_of symbols r a ≡ is_word_of symbols k w
with_word symbols kind.Counter a k w e f g = absurd (cc)
with_word symbols (kind.Set j) (act.Add z) k w e f g = absurd (cc)
with_word symbols (kind.Set j) (act.Insert v) k w e f g = same symbols j k v w f g
with_word symbols (kind.Set j) (act.Remove v) k w e f g = same symbols j k v w f g
with_word symbols (kind.Set j) (act.Write v) k w e f g = absurd (cc)
with_word symbols (kind.Register j start) (act.Add z) k w e f g = absurd (cc)
with_word symbols (kind.Register j start) (act.Insert v) k w e f g = absurd (cc)
with_word symbols (kind.Register j start) (act.Remove v) k w e f g = absurd (cc)
with_word symbols (kind.Register j start) (act.Write v) k w e f g = same symbols j k v w f g

-- its word may stand as a literal
pub literal_word : (symbols : ℕ) (a : Act) (w : Word) → is_literal_act symbols a ≡ true → word_of a ≡ Some w → is_literal_word symbols w ≡ true
literal_word symbols (act.Add z) w e f = absurd (cc)
literal_word symbols (act.Insert v) w e f = let words : v ≡ w = cc in ap (is_literal_word symbols) (sym words) ∙ e
literal_word symbols (act.Remove v) w e f = let words : v ≡ w = cc in ap (is_literal_word symbols) (sym words) ∙ e
literal_word symbols (act.Write v) w e f = let words : v ≡ w = cc in ap (is_literal_word symbols) (sym words) ∙ e

-- an allowed act without a word is taken
pub without_word : (symbols : ℕ) (r : RKind) (a : Act) → is_literal_act symbols a ≡ true → is_allowed r a ≡ true → word_of a ≡ None → is_act_of symbols r a ≡ true
without_word symbols kind.Counter (act.Add z) l e f = l
without_word symbols (kind.Set k) (act.Add z) l e f = absurd (cc)
without_word symbols (kind.Register k start) (act.Add z) l e f = absurd (cc)
without_word symbols r (act.Insert w) l e f = absurd (cc)
without_word symbols r (act.Remove w) l e f = absurd (cc)
without_word symbols r (act.Write w) l e f = absurd (cc)

-- and so is an allowed act on a cell without words
pub without_kind : (symbols : ℕ) (r : RKind) (a : Act) → is_literal_act symbols a ≡ true → is_allowed r a ≡ true → word_kind (layout_of r) ≡ None → is_act_of symbols r a ≡ true
without_kind symbols kind.Counter (act.Add z) l e f = l
without_kind symbols kind.Counter (act.Insert w) l e f = absurd (cc)
without_kind symbols kind.Counter (act.Remove w) l e f = absurd (cc)
without_kind symbols kind.Counter (act.Write w) l e f = absurd (cc)
without_kind symbols (kind.Set k) a l e f = absurd (cc)
without_kind symbols (kind.Register k start) a l e f = absurd (cc)
