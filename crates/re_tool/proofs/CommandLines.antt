-- What the grammar of command lines makes of words.
use Rattle.std.proofs.Common.{map, ap, inl, inr, refl, sym, subst, codes, true, false, Bool, ℕ, List, [], ◌∷◌, ◌++◌, Option, Some, None, ◌≡◌, ◌∙◌, ◌==◌, ◌&&◌, ◌||◌, is_some, if◌then◌else◌}
use Rattle.std.specs.Prelude.{option_map, option_and_then}
use Rattle.std.specs.Cmp.{unsigned_Decides}
use Rattle.std.specs.List.{find, list_any}
use Rattle.std.specs.Option.{option_map_or}
use Rattle.std.specs.Str.{bytes_eq}
use Rattle.std.proofs.lemmas.Bool.{true≢false}
use Rattle.std.proofs.lemmas.Slice.Eq.{bytes_eq-Decides}
use Rattle.clap.specs.Lexer.{long_of, long_of_rest, short_of, short_of_rest, strip_byte}
use Rattle.clap.specs.Simple.{built, built_leaf, entered, inherited, marked_built, names_of, on_top, with_leaf_noted}
use Rattle.clap.specs.Words.{App, FailsBy, HasKind, HasMatchesOf, IsAmong, Row, Shape, Text, is_simple, is_simple_and_free, fault_of, kind_of, subcommand_name_of, subcommand_of}
use Rattle.clap.specs.Walk.{Held, Names, Rule, Step, Waiting, Walk, answers_to, arg_by_long, finished, idle, long_or_other, nothing_held, settled, short_or_plain, subcommand_met, subcommand_or_other, trailing, value, walk, walk_from, walked}
use Rattle.clap.specs.Faults.{bundle_fault, check_fault, defaults_fault, entered_fault, flag_word_fault, level_fault, other_fault, settle_fault, step_fault, turn_fault, walk_fault}
use Rattle.clap.specs.Kinds.{Kinds, or_else}
use Rattle.clap.specs.declared.error.Error.{Error}
use Rattle.clap.specs.declared.error.kind.ErrorKind.{ErrorKind}
use Rattle.clap.specs.declared.parser.matches.ArgMatches.{ArgMatches}
use Rattle.clap.specs.declared.error.kind.ErrorKind.TheVariants as kind
use Rattle.clap.proofs.OnLiterals.{clap_on_literals}
use Rattle.clap.proofs.FaultLemmas.{stopped_fault}
use Rattle.clap.proofs.WalkLemmas.{walk_stopped}
use Rattle.re_tool.specs.Words.{bare, grammar, has_option, is_option, job_of, job_of_word}
use Rattle.re_tool.specs.declared.words.Job.{Job}
use Rattle.re_tool.specs.declared.words.Job.TheVariants as job

-- ---- a word that doesn't start with `-` is no flag

no_minus : (word : Text) → is_option word ≡ false → strip_byte 45 word ≡ None
no_minus [] o = refl
no_minus (b ∷ w) o = ap (λ t. if t then Some w else None) o

no_dashes : (word : Text) → is_option word ≡ false → bytes_eq word (45 ∷ 45 ∷ []) ≡ false
no_dashes [] o = refl
no_dashes (b ∷ w) o = ap (λ t. t && bytes_eq w (45 ∷ [])) o

no_long : (word : Text) → is_option word ≡ false → long_of word ≡ None
no_long word o = ap (λ m. option_and_then long_of_rest (option_and_then (strip_byte 45) m)) (no_minus word o)

no_short : (word : Text) → is_option word ≡ false → short_of word ≡ None
no_short word o = ap (option_and_then short_of_rest) (no_minus word o)

-- the first word of a level, where it is no flag and names no subcommand, goes to a positional
plain_turn : (s : Shape) (names : Names) (word : Text) → is_option word ≡ false → subcommand_met names idle word ≡ None → turn_fault s names (walk_from nothing_held) word ≡ step_fault s 1 nothing_held value
plain_turn s names word o met =
    (λ i. or_else (other_fault s (met i) word nothing_held) (step_fault s 1 (subcommand_or_other s.rules (met i) idle 1 word nothing_held).0 (subcommand_or_other s.rules (met i) idle 1 word nothing_held).1))
    ∙ (λ i. or_else (if no_dashes word o i then [] else flag_word_fault s.rules s.args_override_self (no_long word o i) word nothing_held)
    (step_fault s 1 (if no_dashes word o i then (nothing_held, trailing 1) else long_or_other s.rules idle word (no_long word o i) nothing_held).0
    (if no_dashes word o i then (nothing_held, trailing 1) else long_or_other s.rules idle word (no_long word o i) nothing_held).1))
    ∙ (λ i. or_else (option_map_or (λ flags. bundle_fault s.rules s.args_override_self flags nothing_held) (no_short word o i) [])
    (step_fault s 1 (short_or_plain s.rules idle word (no_short word o i) nothing_held).0 (short_or_plain s.rules idle word (no_short word o i) nothing_held).1))

-- what faults first is the fault
first : (k : ErrorKind) (ks a b : Kinds) → a ≡ k ∷ ks → or_else a b ≡ k ∷ ks
first k ks a b e = ap (λ x. or_else x b) e

-- ---- a level of which the walk is known

-- what is looked at behind the words
abbrev closing : App → Walk → Kinds
closing a end = or_else (settle_fault a.top.rules a.top.args_override_self end.held)
    (or_else (defaults_fault (settled a.top.rules end.held).rows a.top.rules)
    (check_fault a.top (finished a.top.rules end.held) (is_some (entered a end.stopped))))

abbrev level_by : App → Walk → Kinds → Kinds
level_by a end faults = or_else faults (or_else (entered_fault a end.stopped) (closing a end))

fault_is : (words : List Text) → fault_of grammar words ≡ level_by (built grammar) (walk (built grammar).top.rules (names_of (built grammar)) nothing_held words) (walk_fault (built grammar).top (names_of (built grammar)) (walk_from nothing_held) words)
fault_is words = refl

-- the command line as it is built
abbrev top : App
top = built grammar

abbrev names : Names
names = names_of top

-- the walk where the first word names a subcommand
abbrev stopped_by : Text → List Text → Walk
stopped_by name rest = record (walk_from nothing_held) { stopped = Some (name, rest) }

-- the first word names no subcommand
nothing_met : (word : Text) (rest : List Text) → is_option word ≡ false → subcommand_met names idle word ≡ None → fault_of grammar (word ∷ rest) ≡ kind.UnknownArgument ∷ kind.InvalidSubcommand ∷ []
unfolding walk_fault
nothing_met word rest o met =
    let turn : turn_fault top.top names (walk_from nothing_held) word ≡ kind.UnknownArgument ∷ kind.InvalidSubcommand ∷ [] = plain_turn top.top names word o met in
    fault_is (word ∷ rest) ∙ first _ _ _ _ (first _ _ _ (walk_fault top.top names (walked top.top.rules names (walk_from nothing_held) word) rest) turn)

-- a level without words of its own, and a word that isn't a flag
leaf_met : (s : Shape) (word : Text) (rest : List Text) → is_option word ≡ false → step_fault s 1 nothing_held value ≡ kind.UnknownArgument ∷ [] → level_fault s [] nothing_held (word ∷ rest) false [] ≡ kind.UnknownArgument ∷ []
unfolding walk_fault
leaf_met s word rest o stray = first _ _ _ _ (first _ _ _ (walk_fault s [] (walked s.rules [] (walk_from nothing_held) word) rest) (plain_turn s [] word o refl ∙ stray))

-- behind the name of a subcommand
behind : (name : Text) (rest : List Text) → walk top.top.rules names nothing_held (name ∷ rest) ≡ stopped_by name rest → walk_fault top.top names (walk_from nothing_held) (name ∷ rest) ≡ [] → fault_of grammar (name ∷ rest) ≡ level_by top (stopped_by name rest) []
behind name rest met none = fault_is (name ∷ rest) ∙ (λ i. level_by top (met i) (none i))

-- a subcommand as it is built
abbrev leaf : Text → Shape
leaf name = built_leaf (inherited (on_top with_leaf_noted (on_top marked_built grammar)).top (bare name))

run_walk : (rest : List Text) → walk top.top.rules names nothing_held (codes "run" ∷ rest) ≡ stopped_by (codes "run") rest
unfolding walked
run_walk rest = sym (walk_stopped top.top.rules names (walk_from nothing_held) (codes "run") [] rest)

run_fault : (rest : List Text) → walk_fault top.top names (walk_from nothing_held) (codes "run" ∷ rest) ≡ []
unfolding walked walk_fault
run_fault rest = stopped_fault top.top names (walk_from nothing_held) (codes "run", []) rest

check_walk : (rest : List Text) → walk top.top.rules names nothing_held (codes "check" ∷ rest) ≡ stopped_by (codes "check") rest
unfolding walked
check_walk rest = sym (walk_stopped top.top.rules names (walk_from nothing_held) (codes "check") [] rest)

check_faults : (rest : List Text) → walk_fault top.top names (walk_from nothing_held) (codes "check" ∷ rest) ≡ []
unfolding walked walk_fault
check_faults rest = stopped_fault top.top names (walk_from nothing_held) (codes "check", []) rest

-- a word more behind the name of a subcommand
more : (name word : Text) (rest : List Text) → is_option word ≡ false → walk top.top.rules names nothing_held (name ∷ word ∷ rest) ≡ stopped_by name (word ∷ rest) → walk_fault top.top names (walk_from nothing_held) (name ∷ word ∷ rest) ≡ []
    → entered_fault top (Some (name, word ∷ rest)) ≡ level_fault (leaf name) [] nothing_held (word ∷ rest) false [] → fault_of grammar (name ∷ word ∷ rest) ≡ kind.UnknownArgument ∷ []
more name word rest o met none enters =
    behind name (word ∷ rest) met none
    ∙ first _ _ (entered_fault top (Some (name, word ∷ rest))) (closing top (stopped_by name (word ∷ rest))) (enters ∙ leaf_met (leaf name) word rest o refl)

-- ---- what is accepted

no_words : fault_of grammar [] ≡ kind.MissingSubcommand ∷ []
unfolding clap_on_literals
no_words = refl

run_word : fault_of grammar (codes "run" ∷ []) ≡ []
unfolding clap_on_literals
run_word = refl

check_word : fault_of grammar (codes "check" ∷ []) ≡ []
unfolding clap_on_literals
check_word = refl

abbrev pub name_of : List Text → Option Text
name_of words = option_map (λ p. p.0) (subcommand_of grammar words)

run_named : job_of (codes "run" ∷ []) ≡ option_and_then job_of_word (name_of (codes "run" ∷ []))
unfolding clap_on_literals
run_named = refl

check_named : job_of (codes "check" ∷ []) ≡ option_and_then job_of_word (name_of (codes "check" ∷ []))
unfolding clap_on_literals
check_named = refl

abbrev is_fault : Kinds → Bool
is_fault [] = false
is_fault (k ∷ ks) = true

not_both : (k : ErrorKind) (ks xs : Kinds) → xs ≡ k ∷ ks → xs ≡ [] → ⊥
not_both k ks xs e none = true≢false (sym (ap is_fault e) ∙ ap is_fault none)

first_of : (a b : Bool) → (a || b) ≡ false → a ≡ false
first_of true b e = e
first_of false b e = refl

rest_of : (a b : Bool) → (a || b) ≡ false → b ≡ false
rest_of true b e = absurd (true≢false e)
rest_of false b e = e

-- behind this name nothing may come
alone : (name : Text) (rest : List Text) → has_option rest ≡ false → ((word : Text) (behind : List Text) → is_option word ≡ false → fault_of grammar (name ∷ word ∷ behind) ≡ kind.UnknownArgument ∷ [])
    → job_of (name ∷ []) ≡ option_and_then job_of_word (name_of (name ∷ [])) → fault_of grammar (name ∷ rest) ≡ [] → job_of (name ∷ rest) ≡ option_and_then job_of_word (name_of (name ∷ rest))
alone name [] o m single e = single
alone name (word ∷ rest) o m single e = absurd (not_both _ _ _ (m word rest (first_of (is_option word) (has_option rest) o)) e)

same : (a b : Text) → bytes_eq a b ≡ true → a ≡ b
same a b e = (bytes_eq-Decides a b).0 e

abbrev Told : Text → List Text → Type 0
Told word rest = fault_of grammar (word ∷ rest) ≡ [] → job_of (word ∷ rest) ≡ option_and_then job_of_word (name_of (word ∷ rest))

told : (word : Text) (rest : List Text) (r c : Bool) → is_option word ≡ false → has_option rest ≡ false → bytes_eq (codes "run") word ≡ r → bytes_eq (codes "check") word ≡ c → Told word rest
told word rest true c o p er ec = subst (λ w. Told w rest) (same (codes "run") word er) (alone (codes "run") rest p (λ w b q. more (codes "run") w b q (run_walk (w ∷ b)) (run_fault (w ∷ b)) refl) run_named)
told word rest false true o p er ec = subst (λ w. Told w rest) (same (codes "check") word ec) (alone (codes "check") rest p (λ w b q. more (codes "check") w b q (check_walk (w ∷ b)) (check_faults (w ∷ b)) refl) check_named)
told word rest false false o p er ec = λ e. absurd (not_both _ _ _ (nothing_met word rest o
    (λ i. option_map (λ (s : Text × List Text). s.0) (if er i || false then Some (codes "run", []) else if ec i || false then Some (codes "check", []) else None))) e)

-- where clap finds no fault the words are those of the subcommand that it met
pub taken : (words : List Text) → has_option words ≡ false → fault_of grammar words ≡ [] → job_of words ≡ option_and_then job_of_word (name_of words)
taken [] o e = absurd (not_both _ _ _ no_words e)
taken (word ∷ rest) o e = told word rest _ _ (first_of (is_option word) (has_option rest) o) (rest_of (is_option word) (has_option rest) o) refl refl e

wanted_word : (word : Text) (j : Job) (r c : Bool) → bytes_eq word (codes "run") ≡ r → bytes_eq word (codes "check") ≡ c
    → (if r then Some job.Run else if c then Some job.Check else None) ≡ Some j → fault_of grammar (word ∷ []) ≡ []
wanted_word word j true c er ec e = subst (λ w. fault_of grammar (w ∷ []) ≡ []) (sym (same word (codes "run") er)) run_word
wanted_word word j false true er ec e = subst (λ w. fault_of grammar (w ∷ []) ≡ []) (sym (same word (codes "check") ec)) check_word
wanted_word word j false false er ec e = absurd (true≢false (sym (ap is_some e)))

-- and where the words ask for a job it finds none
pub wanted : (words : List Text) (j : Job) → job_of words ≡ Some j → fault_of grammar words ≡ []
wanted [] j e = absurd (true≢false (sym (ap is_some e)))
wanted (word ∷ []) j e = wanted_word word j _ _ refl refl e
wanted (word ∷ other ∷ rest) j e = absurd (true≢false (sym (ap is_some e)))

-- ---- what a parse answers

is_free : is_simple_and_free grammar ≡ true
unfolding clap_on_literals
is_free = refl

is_plain : is_simple grammar ≡ true
unfolding clap_on_literals
is_plain = refl

refused_by : (words : List Text) (fault : Error) (o : Option Job) → job_of words ≡ o → HasKind (fault_of grammar words) fault → (kind_of fault ≡ kind.OutOfMemory → ⊥) → o ≡ None
refused_by words fault None e h m = refl
refused_by words fault (Some j) e (inl oom) m = absurd (m oom)
refused_by words fault (Some j) e (inr among) m = absurd (subst (IsAmong (kind_of fault)) (wanted words j e) among)

-- a refusal but for memory refuses words that ask for no job
pub refused_words : (a : App) (words : List Text) (fault : Error) → a ≡ grammar → (is_simple_and_free a ≡ true → HasKind (fault_of a words) fault) → (kind_of fault ≡ kind.OutOfMemory → ⊥) → job_of words ≡ None
refused_words a words fault e h m =
    refused_by words fault (job_of words) refl (subst (λ (b : App). is_simple_and_free b ≡ true → HasKind (fault_of b words) fault) e h is_free) m

map_twice : {A B C : Type 0} (g : A → B) (f : B → C) (o : Option A) → option_map f (option_map g o) ≡ option_map (λ x. f (g x)) o
map_twice g f None = refl
map_twice g f (Some x) = refl

-- the subcommand that was met is named by the words
pub accepted_words : (a : App) (words : List Text) (m : ArgMatches) (name : Option Text) → a ≡ grammar → has_option words ≡ false → (is_simple_and_free a ≡ true → fault_of a words ≡ []) → HasMatchesOf a words m → name ≡ subcommand_name_of m
    → job_of words ≡ option_and_then job_of_word name
accepted_words a words m name e o none has met =
    let kept = subst (λ (b : App). HasMatchesOf b words m) e has is_plain in
    let met_by : name_of words ≡ subcommand_name_of m = sym (ap (option_map (λ p. p.0)) kept.1) ∙ map_twice _ _ _ in
    taken words o (subst (λ (b : App). is_simple_and_free b ≡ true → fault_of b words ≡ []) e none is_free)
    ∙ ap (option_and_then job_of_word) (met_by ∙ sym met)

-- ---- words that start with `-`

option_word : (word : Text) → is_option word ≡ true → job_of_word word ≡ None
option_word [] o = absurd (true≢false (sym o))
option_word (b ∷ w) o = subst (λ n. job_of_word (n ∷ w) ≡ None) (sym ((unsigned_Decides b 45).0 o)) refl

pub option_refused : (words : List Text) → has_option words ≡ true → job_of words ≡ None
option_refused [] o = refl
option_refused (word ∷ []) o = option_word word (or_none (is_option word) o)
  where
    or_none : (t : Bool) → (t || false) ≡ true → t ≡ true
    or_none true e = refl
    or_none false e = e
option_refused (word ∷ other ∷ rest) o = refl

-- a list is tested as its texts are
pub tested_as : {X : Type 0} (text : X → Text) (xs : List X) → list_any (λ x. is_option (text x)) xs ≡ has_option (map text xs)
tested_as text [] = refl
tested_as text (x ∷ xs) = ap (λ t. is_option (text x) || t) (tested_as text xs)
