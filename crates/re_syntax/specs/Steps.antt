-- What one step of reading answers: exactly a phrase, or the place of a refusal, whatever stands behind what was seen.
-- Read against: from `1 + ;` a sum is refused at place 2, since `1 + 0` is one and each that begins `1 + ;` ends before `+`.
use Rattle.std.specs.Prelude.{ℕ, ◌+◌, ◌<◌, ◌≤◌, ◌==◌, ◌≡◌, ◌⊎◌, ◌||◌, Bool, true, false, List, [], ◌∷◌, length, Option, Some, None, nat_le, max}
use Rattle.re_terms.specs.Trees.{raw_depth}
use Rattle.re_terms.specs.Listed.{Listed}
use Rattle.re_terms.specs.declared.reserved.TheConstants.{IN}
use Rattle.re_terms.specs.declared.token.Mark.{Mark}
use Rattle.re_terms.specs.declared.token.Mark.TheVariants as mark
use Rattle.re_terms.specs.declared.token.Token.{Token}
use Rattle.re_terms.specs.declared.word.Kind.{Kind}
use Rattle.re_terms.specs.declared.expr.Op.{Op}
use Rattle.re_terms.specs.declared.raw_expr.RawLit.{RawLit}
use Rattle.re_terms.specs.declared.raw_expr.RawExpr.{RawExpr}
use Rattle.re_terms.specs.declared.raw.RawBody.{RawBody}
use Rattle.re_terms.specs.declared.raw.RawDecl.{RawDecl}
use Rattle.re_syntax.specs.declared.stop.Stop.{Stop}
use Rattle.re_syntax.specs.declared.stop.Stop.TheVariants as stop
use Rattle.re_syntax.specs.declared.kept.Kept.{Kept}
use Rattle.re_syntax.specs.declared.kept.Kept.TheVariants as kept
use Rattle.re_syntax.specs.declared.kept.Branches.{Branches}
use Rattle.re_syntax.specs.declared.kept.Branches.TheVariants as branches
use Rattle.re_syntax.specs.Grammar.{marks_of, mark_at, kind_of, operator_of, level_of, Literal, Region, Phrase, Expression, Reads, Source, Content, Declaration}
use Rattle.re_terms.specs.declared.signs.TheConstants.{COLON, EQUALS, COMMA, OPEN, CLOSE}
use Rattle.re_syntax.specs.Places.{Agrees, IsDeep, SourceHead, ContentHead, Head}

-- what the marks from one place to another can be
abbrev pub Language : Type 0 → Type 1
Language V = (ℕ → Mark) → (ℕ → ℕ) → V → ℕ → ℕ → Type 0

-- the marks of tokens, by place
abbrev pub text : List Token → ℕ → Mark
text tokens = mark_at (marks_of tokens)

-- these are the marks from one place to another
abbrev pub Holds : (ℕ → Mark) → ℕ → List Mark → ℕ → Type 0
Holds at i [] n = n ≡ i
Holds at i (m ∷ ms) n = (at i ≡ m) × Holds at (i + 1) ms n

-- a limit that lets 128 expressions be open everywhere
abbrev pub IsEnough : (ℕ → ℕ) → Type 0
IsEnough limit = (k : ℕ) → 128 ≤ limit k

-- and 129 behind a place
pub record IsRoomy (place : ℕ) (limit : ℕ → ℕ) : Type 0 where
  pub enough : IsEnough limit
  pub behind : (k : ℕ) → place < k → 129 ≤ limit k

-- no mark goes on with what was read
abbrev pub nothing : Mark → Bool
nothing m = false

-- an operator of this level, or of one that binds more tightly
abbrev pub binds_from : ℕ → Option Op → Bool
binds_from level None = false
binds_from level (Some o) = nat_le level (level_of o)

-- what goes on with operands of this level
abbrev pub joins : ℕ → Mark → Bool
joins level m = binds_from level (operator_of m)

-- the word before a region
abbrev pub is_region_word : Mark → Bool
is_region_word (mark.Reserved word) = word == IN
is_region_word m = false

-- what goes on with what stands between a declaration's name and its `;`
abbrev pub extends : Mark → Bool
extends m = joins 0 m || is_region_word m

-- from place i to n stands exactly this, in each text with the same marks before `seen`; other readings end before a mark that goes on
pub record Exactly {V : Type 0} (X : Language V) (goes_on : Mark → Bool) (at : ℕ → Mark) (seen : ℕ) (v : V) (i n : ℕ) : Type 0 where
  pub forward : i ≤ n
  pub read : (limit : ℕ → ℕ) → IsEnough limit → (other : ℕ → Mark) → Agrees n at other → X other limit v i n
  pub only : (limit : ℕ → ℕ) (other : ℕ → Mark) (w : V) (m : ℕ) → Agrees seen at other → X other limit w i m
      → ((w ≡ v) × (m ≡ n)) ⊎ ((goes_on (other m) ≡ true) × (m < n))

-- why a step is refused at a mark: it fits nowhere, or it opens too many expressions
pub data Cause : Type 0 where
  Unfit : Cause
  Beyond : Cause

-- how many marks fit
abbrev pub fitting : Cause → ℕ → ℕ
fitting Unfit j = j
fitting Beyond j = j + 1

-- the limits under which the refusal stands
abbrev pub IsRefusedUnder : Cause → ℕ → (ℕ → ℕ) → Type 0
IsRefusedUnder Unfit j limit = Unit {0}
IsRefusedUnder Beyond j limit = (k : ℕ) → k ≤ j + 1 → limit k ≤ 128

-- what was read from place i on can be completed behind the marks that fit, and with the mark at j it can't
pub record Refusal {V : Type 0} (X : Language V) (goes_on : Mark → Bool) (at : ℕ → Mark) (cause : Cause) (i j : ℕ) : Type 0 where
  pub reached : i ≤ fitting cause j
  pub value : V
  pub ahead : List Mark
  pub some : 0 < length ahead
  pub begun : (limit : ℕ → ℕ) → IsRoomy j limit → (other : ℕ → Mark) (n : ℕ) → Agrees (fitting cause j) at other
      → Holds other (fitting cause j) ahead n → X other limit value i n
  pub ended : (limit : ℕ → ℕ) → IsRefusedUnder cause j limit → (other : ℕ → Mark) (w : V) (m : ℕ) → Agrees (j + 1) at other → X other limit w i m
      → (goes_on (other m) ≡ true) × (m < fitting cause j)

-- what a stop says of a step from place i that reads no expression
abbrev pub MissAnswer : {V : Type 0} → Language V → (Mark → Bool) → List Token → ℕ → Stop → Type 0
MissAnswer X goes_on tokens i stop.Memory = Unit {0}
MissAnswer X goes_on tokens i (stop.Unexpected j) = Refusal X goes_on (text tokens) Unfit i j × (j < length tokens)
MissAnswer X goes_on tokens i (stop.TooMany j) = ⊥
MissAnswer X goes_on tokens i (stop.TooDeep j) = ⊥

pub record Misses {V : Type 0} (X : Language V) (goes_on : Mark → Bool) (tokens : List Token) (i : ℕ) (s : Stop) : Type 0 where
  pub told : MissAnswer X goes_on tokens i s

-- what a stop says of a step from place i; what it says of depths is the caller's word
abbrev pub StopAnswer : {V : Type 0} → Language V → (Mark → Bool) → (ℕ → Type 0) → List Token → ℕ → Stop → Type 0
StopAnswer X goes_on Deep tokens i stop.Memory = Unit {0}
StopAnswer X goes_on Deep tokens i (stop.Unexpected j) = Refusal X goes_on (text tokens) Unfit i j × (j < length tokens) × ((s : ℕ) → Deep s → ⊥)
StopAnswer X goes_on Deep tokens i (stop.TooMany j) = Refusal X goes_on (text tokens) Beyond i j × (j < length tokens) × ((s : ℕ) → Deep s → ⊥)
StopAnswer X goes_on Deep tokens i (stop.TooDeep j) = Deep j × (j < length tokens)

-- the mark that opens one expression too many isn't before this place
abbrev pub IsNotBefore : ℕ → Stop → Type 0
IsNotBefore i (stop.TooMany j) = i ≤ j
IsNotBefore i s = Unit {0}

pub record Stops {V : Type 0} (X : Language V) (goes_on : Mark → Bool) (Deep : ℕ → Type 0) (tokens : List Token) (i : ℕ) (s : Stop) : Type 0 where
  pub told : StopAnswer X goes_on Deep tokens i s
  pub within : IsNotBefore i s

-- the same of a step whose first mark may be the one behind the refused one, which opens it
pub record StopsBehind {V : Type 0} (X : Language V) (goes_on : Mark → Bool) (Deep : ℕ → Type 0) (tokens : List Token) (i : ℕ) (s : Stop) : Type 0 where
  pub told : StopAnswer X goes_on Deep tokens i s

-- a step that looks at `ahead` marks behind what it read
pub record Accepts {V : Type 0} (X : Language V) (goes_on : Mark → Bool) (ahead : ℕ) (tokens : List Token) (v : V) (i n : ℕ) : Type 0 where
  pub exact : Exactly X goes_on (text tokens) (n + ahead) v i n
  pub inside : n < length tokens

-- the end of the text is the last token
abbrev pub EndsLast : List Token → Type 0
EndsLast tokens = (k : ℕ) → k < length tokens → (text tokens k ≡ mark.End → ⊥) → k + 1 < length tokens

-- no expression ended too deep here
abbrev pub Never : ℕ → Type 0
Never j = ⊥

-- the expression that a reader keeps or has given up because of its depth
abbrev pub Stands : Kept → RawExpr → Type 0
Stands (kept.Whole tree depth) e = (tree ≡ e) × (raw_depth e ≡ depth) × (depth ≤ 64)
Stands kept.TooDeep e = 64 < raw_depth e

-- the branches of a choice that a reader keeps or has given up
abbrev pub AreBranches : Branches → RawExpr → RawExpr → Type 0
AreBranches (branches.Whole first second depth) a b = (first ≡ a) × (second ≡ b) × (max (raw_depth a) (raw_depth b) ≡ depth) × (depth ≤ 64)
AreBranches branches.TooDeep a b = 64 < max (raw_depth a) (raw_depth b)

-- some expression was read, as far as it is kept
pub record Finds (X : Language RawExpr) (goes_on : Mark → Bool) (tokens : List Token) (k : Kept) (i n : ℕ) : Type 0 where
  pub expression : RawExpr
  pub stands : Stands k expression
  pub accepts : Accepts X goes_on 1 tokens expression i n

-- a mark that stands for a value
pub record One {V : Type 0} (P : Mark → V → Type 0) (at : ℕ → Mark) (limit : ℕ → ℕ) (v : V) (i n : ℕ) : Type 0 where
  pub fits : P (at i) v
  pub next : n ≡ i + 1

-- this mark
abbrev pub Single : Mark → Language (Unit {0})
Single m = One (λ found v. found ≡ m)

-- a name
abbrev pub Named : Language (Listed ℕ)
Named = One (λ m t. m ≡ mark.Name t)

-- a kind
abbrev pub AKind : Language Kind
AKind = One (λ m k. kind_of m ≡ Some k)

-- the number of a fault
abbrev pub FaultCode : Language ℕ
FaultCode = One (λ m code. (m ≡ mark.Number code) × (100 ≤ code) × (code ≤ 999))

abbrev pub ALiteral : Language RawLit
ALiteral at limit v i n = Literal at v i n

abbrev pub ARegion : Language ℕ
ARegion at limit r i n = Region at r i n

-- a phrase of expressions, where this many are open
abbrev pub APhrase : Phrase → ℕ → Language RawExpr
APhrase phrase opened at limit e i n = Reads at limit phrase opened e i n

abbrev pub AnExpression : ℕ → Language RawExpr
AnExpression opened = APhrase Expression opened

abbrev pub ASource : Language RawBody
ASource at limit b i n = Source at limit b i n

abbrev pub AContent : ℕ → Language RawBody
AContent word at limit b i n = Content at limit word b i n

abbrev pub ADeclaration : Language RawDecl
ADeclaration at limit d i n = Declaration at limit d i n

-- one phrase, and another behind it that depends on it
pub record Then {A V : Type 0} (X : Language A) (Y : A → Language V) (at : ℕ → Mark) (limit : ℕ → ℕ) (v : V) (i n : ℕ) : Type 0 where
  pub value : A
  pub middle : ℕ
  pub first : X at limit value i middle
  pub second : Y value at limit v middle n

-- nothing more
pub record Done {V : Type 0} (v : V) (at : ℕ → Mark) (limit : ℕ → ℕ) (w : V) (i n : ℕ) : Type 0 where
  pub is : w ≡ v
  pub stays : n ≡ i

-- "(" NAME ","
abbrev pub FirstName : Language (Listed ℕ)
FirstName = Then (Single (mark.Sign OPEN)) (λ _. Then Named (λ t. Then (Single (mark.Sign COMMA)) (λ _. Done t)))

-- "(" NAME ")"
abbrev pub OnlyName : Language (Listed ℕ)
OnlyName = Then (Single (mark.Sign OPEN)) (λ _. Then Named (λ t. Then (Single (mark.Sign CLOSE)) (λ _. Done t)))

-- ":" Kind
abbrev pub KindPart : Language Kind
KindPart = Then (Single (mark.Sign COLON)) (λ _. AKind)

-- ":" Kind "=" Lit
abbrev pub StartPart : Language (Kind × RawLit)
StartPart = Then KindPart (λ k. Then (Single (mark.Sign EQUALS)) (λ _. Then ALiteral (λ v. Done (k, v))))

-- the expression of a declaration, from this place on, is too deep
abbrev pub DeepAt : List Token → ℕ → ℕ → Type 0
DeepAt tokens i j = (j ≡ i) × IsDeep (text tokens) i

-- the expression of an event's source is too deep
abbrev pub DeepSource : List Token → ℕ → ℕ → Type 0
DeepSource tokens i j = SourceHead (text tokens) i j × IsDeep (text tokens) j

-- the expression in a declaration's content is too deep
abbrev pub DeepContent : List Token → ℕ → ℕ → ℕ → Type 0
DeepContent tokens word i j = ContentHead (text tokens) word i j × IsDeep (text tokens) j

-- the expression of a declaration is too deep
abbrev pub DeepDeclaration : List Token → ℕ → ℕ → Type 0
DeepDeclaration tokens i j = Head (text tokens) i j × IsDeep (text tokens) j
