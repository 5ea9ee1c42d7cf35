-- The orders of words and pairs are total, and only equal ones tie. A list in that order is known by its members.
use Rattle.std.proofs.Common.{◌≡◌, ◌≤◌, length, ℕ, ℤ, pos, Bool, true, false, List, refl, sym, ap, ◌∙◌, subst}
use Rattle.std.specs.declared.cmp.Ordering.{Ordering}
use Rattle.std.specs.declared.cmp.Ordering.TheVariants.{Less, Equal, Greater}
use Rattle.std.specs.Ordering.{nat_cmp, int_cmp, bool_cmp, then_cmp, ordering_then, on, eq_by_cmp, is_eq}
use Rattle.std.specs.Cmp.{IsTotalOrder, Equal-is, bool_cmp_total}
use Rattle.std.specs.List.{list_any}
use Rattle.std.proofs.lemmas.Cmp.{nat_cmp_total, int_cmp_total, then_total, on_total, tied_itself}
use Rattle.std.specs.FinMap.{IsAntisymmetric, nat_cmp-IsAntisymmetric, int_cmp-IsAntisymmetric}
use Rattle.std.specs.List.Sorted.{IsStrictlySortedBy}
use Rattle.re_terms.proofs.Ascending.{length-ascending_by, ascending_by_same, any-ascending_by, ascending_by_is, ascending_by_sorted}
use Rattle.re_terms.specs.declared.word.Word.{Word}
use Rattle.re_terms.specs.declared.word.Word.TheVariants.{Int, Bool as Flag, Sym, Fault}
use Rattle.re_terms.specs.declared.replicated.Pair.{Pair}
use Rattle.re_terms.specs.WordOrder.{word_cmp, same_word, pair_cmp, ascending, ascending_words}

kind_of : Word → ℕ
kind_of (Int n) = 0
kind_of (Flag b) = 1
kind_of (Sym s) = 2
kind_of (Fault c) = 3

int_of : Word → ℤ
int_of (Int n) = n
int_of (Flag b) = pos 0
int_of (Sym s) = pos 0
int_of (Fault c) = pos 0

flag_of : Word → Bool
flag_of (Int n) = false
flag_of (Flag b) = b
flag_of (Sym s) = false
flag_of (Fault c) = false

number_of : Word → ℕ
number_of (Int n) = 0
number_of (Flag b) = 0
number_of (Sym s) = s
number_of (Fault c) = c

-- the same order by keys
key_cmp : Word → Word → Ordering
key_cmp = then_cmp (on kind_of nat_cmp) (then_cmp (on int_of int_cmp) (then_cmp (on flag_of bool_cmp) (on number_of nat_cmp)))

then_equal : (o : Ordering) → ordering_then o Equal ≡ o
then_equal Less = refl
then_equal Equal = refl
then_equal Greater = refl

by_keys : (x y : Word) → key_cmp x y ≡ word_cmp x y
unfolding key_cmp kind_of int_of flag_of number_of
by_keys (Int a) (Int b) = then_equal (int_cmp a b)
by_keys (Int a) (Flag b) = refl
by_keys (Int a) (Sym b) = refl
by_keys (Int a) (Fault b) = refl
by_keys (Flag a) (Int b) = refl
by_keys (Flag a) (Flag b) = then_equal (bool_cmp a b)
by_keys (Flag a) (Sym b) = refl
by_keys (Flag a) (Fault b) = refl
by_keys (Sym a) (Int b) = refl
by_keys (Sym a) (Flag b) = refl
by_keys (Sym a) (Sym b) = refl
by_keys (Sym a) (Fault b) = refl
by_keys (Fault a) (Int b) = refl
by_keys (Fault a) (Flag b) = refl
by_keys (Fault a) (Sym b) = refl
by_keys (Fault a) (Fault b) = refl

pub word_cmp_total : IsTotalOrder word_cmp
unfolding key_cmp
word_cmp_total = subst IsTotalOrder (λ i x y. by_keys x y i) (then_total (on_total kind_of nat_cmp_total) (then_total (on_total int_of int_cmp_total) (then_total (on_total flag_of bool_cmp_total) (on_total number_of nat_cmp_total))))

-- a tie of two orders is a tie in each
then_both : (a b : Ordering) → ordering_then a b ≡ Equal → (a ≡ Equal) × (b ≡ Equal)
then_both Less b e = absurd (cc)
then_both Equal b e = (refl, e)
then_both Greater b e = absurd (cc)

same_flag : (a b : Bool) → bool_cmp a b ≡ Equal → a ≡ b
same_flag true true e = refl
same_flag true false e = cc
same_flag false true e = cc
same_flag false false e = refl

pub word_cmp_same : IsAntisymmetric word_cmp
word_cmp_same (Int a) (Int b) e = ap Int (int_cmp-IsAntisymmetric a b e)
word_cmp_same (Int a) (Flag b) e = cc
word_cmp_same (Int a) (Sym b) e = cc
word_cmp_same (Int a) (Fault b) e = cc
word_cmp_same (Flag a) (Int b) e = cc
word_cmp_same (Flag a) (Flag b) e = ap Flag (same_flag a b e)
word_cmp_same (Flag a) (Sym b) e = cc
word_cmp_same (Flag a) (Fault b) e = cc
word_cmp_same (Sym a) (Int b) e = cc
word_cmp_same (Sym a) (Flag b) e = cc
word_cmp_same (Sym a) (Sym b) e = ap Sym (nat_cmp-IsAntisymmetric a b e)
word_cmp_same (Sym a) (Fault b) e = cc
word_cmp_same (Fault a) (Int b) e = cc
word_cmp_same (Fault a) (Flag b) e = cc
word_cmp_same (Fault a) (Sym b) e = cc
word_cmp_same (Fault a) (Fault b) e = ap Fault (nat_cmp-IsAntisymmetric a b e)

pub pair_cmp_total : IsTotalOrder pair_cmp
unfolding pair_cmp
pair_cmp_total = then_total (on_total (λ p. p.element) word_cmp_total) (then_total (on_total (λ p. p.dot.device) nat_cmp_total) (on_total (λ p. p.dot.number) nat_cmp_total))

pub pair_cmp_same : IsAntisymmetric pair_cmp
unfolding pair_cmp
pair_cmp_same x y e =
    let a = then_both (word_cmp x.element y.element) _ e in
    let b = then_both (nat_cmp x.dot.device y.dot.device) _ a.1 in
    let p = word_cmp_same _ _ a.0 in
    let q = nat_cmp-IsAntisymmetric _ _ b.0 in
    let r = nat_cmp-IsAntisymmetric _ _ b.1 in
    λ i. record { element = p i; dot = record { device = q i; number = r i } }

-- ---- the tests

pub same_word-is : (a b : Word) → same_word a b ≡ true → a ≡ b
unfolding same_word
same_word-is a b e = word_cmp_same a b ((Equal-is (word_cmp a b)).0 e)

pub same_word-refl : (a : Word) → same_word a a ≡ true
unfolding same_word
same_word-refl a = ap is_eq (tied_itself word_cmp_total a)

pub same_pair-is : (a b : Pair) → eq_by_cmp pair_cmp a b ≡ true → a ≡ b
same_pair-is a b e = pair_cmp_same a b ((Equal-is (pair_cmp a b)).0 e)

pub same_pair-refl : (a : Pair) → eq_by_cmp pair_cmp a a ≡ true
same_pair-refl a = ap is_eq (tied_itself pair_cmp_total a)

pub word_is : (a b : Word) → eq_by_cmp word_cmp a b ≡ true → a ≡ b
word_is a b e = word_cmp_same a b ((Equal-is (word_cmp a b)).0 e)

pub word_itself : (a : Word) → eq_by_cmp word_cmp a a ≡ true
word_itself a = ap is_eq (tied_itself word_cmp_total a)

-- ---- lists in order

-- two lists with the same members are one in order
pub ascending_same : (ps qs : List Pair) → ((p : Pair) → list_any (eq_by_cmp pair_cmp p) ps ≡ list_any (eq_by_cmp pair_cmp p) qs) → ascending ps ≡ ascending qs
ascending_same = ascending_by_same pair_cmp pair_cmp_total pair_cmp_same

-- a list in order has its members
pub any-ascending : (ps : List Pair) (p : Pair) → list_any (eq_by_cmp pair_cmp p) (ascending ps) ≡ list_any (eq_by_cmp pair_cmp p) ps
any-ascending = any-ascending_by pair_cmp pair_cmp_total

pub any-ascending_words : (ws : List Word) (e : Word) → list_any (eq_by_cmp word_cmp e) (ascending_words ws) ≡ list_any (eq_by_cmp word_cmp e) ws
any-ascending_words = any-ascending_by word_cmp word_cmp_total

pub ascending_words_same : (vs ws : List Word) → ((e : Word) → list_any (eq_by_cmp word_cmp e) vs ≡ list_any (eq_by_cmp word_cmp e) ws) → ascending_words vs ≡ ascending_words ws
ascending_words_same = ascending_by_same word_cmp word_cmp_total word_cmp_same

-- a list that ascends is in order
pub ascending_is : (ps : List Pair) → IsStrictlySortedBy pair_cmp ps → ascending ps ≡ ps
ascending_is = ascending_by_is pair_cmp pair_cmp_total pair_cmp_same

pub ascending_sorted : (ps : List Pair) → IsStrictlySortedBy pair_cmp (ascending ps)
ascending_sorted = ascending_by_sorted pair_cmp

-- how code shows that its list is the one: it ascends, and has the members
pub ascending_from : (ps qs : List Pair) → IsStrictlySortedBy pair_cmp ps → ((p : Pair) → list_any (eq_by_cmp pair_cmp p) ps ≡ list_any (eq_by_cmp pair_cmp p) qs) → ps ≡ ascending qs
ascending_from ps qs s h = sym (ascending_is ps s) ∙ ascending_same ps qs h

pub ascending_words_is : (ws : List Word) → IsStrictlySortedBy word_cmp ws → ascending_words ws ≡ ws
ascending_words_is = ascending_by_is word_cmp word_cmp_total word_cmp_same

-- at most as many as before
pub length-words : (ws : List Word) → length (ascending_words ws) ≤ length ws
length-words = length-ascending_by word_cmp word_cmp_total
