-- The order of words and of a set's pairs.
-- Read against: -3 stands before 4, `false` before `true`, the symbol 0 before the symbol 1; the pair of 4 by dot (0, 2) stands before that of 4 by dot (1, 1), and behind that of 3.
use Rattle.std.specs.Prelude.{Bool, List, map}
use Rattle.std.specs.declared.cmp.Ordering.{Ordering}
use Rattle.std.specs.declared.cmp.Ordering.TheVariants.{Less, Greater}
use Rattle.std.specs.Ordering.{nat_cmp, int_cmp, bool_cmp, then_cmp, on, eq_by_cmp}
use Rattle.std.specs.FinMap.{keys, from_entries}
use Rattle.re_terms.specs.declared.word.Word.{Word}
use Rattle.re_terms.specs.declared.word.Word.TheVariants as word
use Rattle.re_terms.specs.declared.replicated.Pair.{Pair}

-- ints by value, false before true, symbols by number; words of different kinds in this order, and faults last
abbrev pub word_cmp : Word → Word → Ordering
word_cmp (word.Int a) (word.Int b) = int_cmp a b
word_cmp (word.Bool a) (word.Bool b) = bool_cmp a b
word_cmp (word.Sym a) (word.Sym b) = nat_cmp a b
word_cmp (word.Fault a) (word.Fault b) = nat_cmp a b
word_cmp (word.Int a) b = Less
word_cmp (word.Bool a) (word.Int b) = Greater
word_cmp (word.Bool a) b = Less
word_cmp (word.Sym a) (word.Fault b) = Less
word_cmp (word.Sym a) b = Greater
word_cmp (word.Fault a) b = Greater

-- two words are the same word, a fault's code included
unfoldable pub same_word : Word → Word → Bool
same_word = eq_by_cmp word_cmp

-- pairs by element, device and number
unfoldable pub pair_cmp : Pair → Pair → Ordering
pair_cmp = then_cmp (on (λ p. p.element) word_cmp) (then_cmp (on (λ p. p.dot.device) nat_cmp) (on (λ p. p.dot.number) nat_cmp))

-- the members of a list, each once, in an order
unfoldable pub ascending_by : {K : Type 0} → (K → K → Ordering) → List K → List K
ascending_by R ks = keys (from_entries {R = R} (map (λ k. (k, tt {0})) ks))

-- pairs, each once, ascending
abbrev pub ascending : List Pair → List Pair
ascending ps = ascending_by pair_cmp ps

-- words, each once, ascending
abbrev pub ascending_words : List Word → List Word
ascending_words ws = ascending_by word_cmp ws

-- the elements of a set's pairs, each once, ascending
abbrev pub elements_of : List Pair → List Word
elements_of ps = ascending_words (map (λ p. p.element) ps)
