-- The marks of a program's text are its declarations, over names.
use Rattle.std.proofs.Common.{ℕ, ◌≡◌, ◌≤◌, ◌+◌, ◌&&◌, true, List, [], ◌∷◌, ◌++◌, length, refl, sym, ap, subst, ◌∙◌, Some, arith}
use Rattle.std.specs.Prelude.{nat_le}
use Rattle.std.specs.List.{list_all}
use Rattle.std.proofs.lemmas.Bool.{and_parts, and_from, leb-true}
use Rattle.std.proofs.lemmas.List.{append-nil}
use Rattle.re_terms.specs.Trees.{is_region, is_name_text, is_literal, is_whole_expr, is_body, is_declaration}
use Rattle.re_terms.specs.Programs.{expr_depth}
use Rattle.re_terms.specs.declared.token.Mark.{Mark}
use Rattle.re_terms.specs.declared.token.Mark.TheVariants as mark
use Rattle.re_terms.specs.declared.word.Word.{Word}
use Rattle.re_terms.specs.declared.word.Word.TheVariants as word
use Rattle.re_terms.specs.declared.word.Kind.{Kind}
use Rattle.re_terms.specs.declared.expr.Expr.{Expr}
use Rattle.re_terms.specs.declared.program.Body.{Body}
use Rattle.re_terms.specs.declared.program.Body.TheVariants as body
use Rattle.re_terms.specs.declared.program.Decl.{Decl}
use Rattle.re_terms.specs.declared.program.Program.{Program}
use Rattle.re_terms.specs.declared.raw_expr.RawLit.{RawLit}
use Rattle.re_terms.specs.declared.raw.RawBody.TheVariants as raw
use Rattle.re_syntax.specs.Grammar.{mark_at, kind_of, Literal, Region, Source, Content, Declaration, Declarations, Derives}
use Rattle.re_syntax.specs.Grammar as grammar
use Rattle.re_syntax.specs.Places.{open_limit}
use Rattle.re_reading.proofs.ExprReads.{word_read, expr_read, expr_ranged, raw_depth_is}
use Rattle.re_reading.proofs.Levels.{kind_is}
use Rattle.re_reading.proofs.Places.{Stand, apart, at_as, stand_all}
use Rattle.re_reading.proofs.Unresolved.{name_of, raw_literal, raw_expr, raw_body, raw_declaration, raw_declarations, colon, equals, comma, opening, closing, semicolon, reserved, kind_mark, word_marks, name_mark, expr_marks, body_marks, keyword_place, line_marks, program_marks, is_sayable, is_named, is_sayable_expr, is_sayable_body, is_sayable_declaration, is_plain_word, is_readable_body, is_written}
use Rattle.re_terms.specs.declared.reserved.TheConstants.{DEVICE, SYMBOL, VAR, EVENT, FOLD, COUNTER, SET, REGISTER, MAP, FILTER, ON, DO, IN}
use Rattle.re_terms.specs.declared.signs.TheConstants.{COLON, EQUALS}

region_read : (at : ℕ → Mark) (region i n : ℕ) → is_region region ≡ true → Stand at i (reserved IN ∷ mark.Number region ∷ []) n → Region at region i n
region_read at region i n h s =
    let p = and_parts (nat_le 1 region) (nat_le region 4) h in
    let e : n ≡ i + 2 = let k = s.1.1 in omega arith in
    subst (Region at region i) (sym e) (grammar.written s.0 s.1.0 (leb-true 1 region p.0) (leb-true region 4 p.1))

-- `: ` kind ` = ` word, and what stands behind it
record Started (at : ℕ → Mark) (v : RawLit) (k : Kind) (i : ℕ) (marks : List Mark) (n : ℕ) : Type 0 where
  middle : ℕ
  colon_is : at i ≡ mark.Sign COLON
  kinded : kind_of (at (i + 1)) ≡ Some k
  equals_is : at (i + 2) ≡ mark.Sign EQUALS
  start : Literal at v (i + 3) middle
  behind : Stand at middle marks n

started : (at : ℕ → Mark) (p : Program) (k : Kind) (w : Word) (i : ℕ) (marks : List Mark) (n : ℕ) → is_sayable p w ≡ true → is_plain_word w ≡ true → Stand at i (colon ∷ kind_mark k ∷ equals ∷ (word_marks p w ++ marks)) n → Started at (raw_literal p w) k i marks n
started at p k w i marks n h l s =
    let t = apart at (i + 1 + 1 + 1) (word_marks p w) marks n s.1.1.1 in
    let three : i + 1 + 1 + 1 ≡ i + 3 = omega arith in
    record {
      middle = t.middle;
      colon_is = s.0;
      kinded = ap kind_of s.1.0 ∙ kind_is k;
      equals_is = at_as at (i + 1 + 1) (i + 2) equals s.1.1.0 (omega arith);
      start = subst (λ j. Literal at (raw_literal p w) j t.middle) three (word_read at p w (i + 1 + 1 + 1) t.middle h l t.first);
      behind = t.second;
    }

var_read : (at : ℕ → Mark) (p : Program) (k : Kind) (w : Word) (region i n : ℕ) → is_sayable p w ≡ true → is_region region ≡ true → is_plain_word w ≡ true → Stand at i (body_marks p (body.Var k w region)) n → Content at open_limit VAR (raw.Var k (raw_literal p w) region) i n
var_read at p k w region i n h r l s =
    let t = started at p k w i (reserved IN ∷ mark.Number region ∷ []) n h l s in
    grammar.var refl t.colon_is t.kinded t.equals_is t.start (region_read at region t.middle n r t.behind)

fold_read : (at : ℕ → Mark) (p : Program) (k : Kind) (w : Word) (source : ℕ) (e : Expr) (region i n : ℕ) → is_sayable p w ≡ true → is_sayable_expr p e ≡ true → is_region region ≡ true → is_plain_word w ≡ true → expr_depth e ≤ 64
    → Stand at i (body_marks p (body.Fold k w source e region)) n → Content at open_limit FOLD (raw.Fold k (raw_literal p w) (name_of p source) (raw_expr p e) region) i n
fold_read at p k w source e region i n h g r l d s =
    let t = started at p k w i (reserved ON ∷ name_mark p source ∷ reserved DO ∷ (expr_marks p e ++ (reserved IN ∷ mark.Number region ∷ []))) n h l s in
    let u = apart at (t.middle + 1 + 1 + 1) (expr_marks p e) (reserved IN ∷ mark.Number region ∷ []) n t.behind.1.1.1 in
    let three : t.middle + 1 + 1 + 1 ≡ t.middle + 3 = omega arith in
    grammar.fold refl t.colon_is t.kinded t.equals_is t.start t.behind.0 t.behind.1.0 (at_as at (t.middle + 1 + 1) (t.middle + 2) (reserved DO) t.behind.1.1.0 (omega arith))
    (subst (λ j. grammar.ReadsWhole at open_limit (raw_expr p e) j u.middle) three (expr_read p e at (t.middle + 1 + 1 + 1) u.middle g d u.first))
    (region_read at region u.middle n r u.second)

kind_read : (at : ℕ → Mark) (k : Kind) (i n : ℕ) → Stand at i (colon ∷ kind_mark k ∷ []) n → (at i ≡ colon) × (kind_of (at (i + 1)) ≡ Some k) × (n ≡ i + 2)
kind_read at k i n s = let e : n ≡ i + 2 = let q = s.1.1 in omega arith in (s.0, ap kind_of s.1.0 ∙ kind_is k, e)

-- an event's source of a name and an expression
source_read : (at : ℕ → Mark) (p : Program) (word source : ℕ) (e : Expr) (i n : ℕ) → is_sayable_expr p e ≡ true → expr_depth e ≤ 64 → Stand at i (reserved word ∷ opening ∷ name_mark p source ∷ comma ∷ (expr_marks p e ++ (closing ∷ []))) n
    → (m : ℕ) × (at i ≡ reserved word) × (at (i + 1) ≡ opening) × (at (i + 2) ≡ name_mark p source) × (at (i + 3) ≡ comma) × grammar.ReadsWhole at open_limit (raw_expr p e) (i + 4) m × (at m ≡ closing) × (n ≡ m + 1)
source_read at p word source e i n h d s =
    let t = apart at (i + 1 + 1 + 1 + 1) (expr_marks p e) (closing ∷ []) n s.1.1.1.1 in
    let four : i + 1 + 1 + 1 + 1 ≡ i + 4 = omega arith in (
      t.middle,
      s.0,
      s.1.0,
      at_as at (i + 1 + 1) (i + 2) (name_mark p source) s.1.1.0 (omega arith),
      at_as at (i + 1 + 1 + 1) (i + 3) comma s.1.1.1.0 (omega arith),
      subst (λ j. grammar.ReadsWhole at open_limit (raw_expr p e) j t.middle) four (expr_read p e at (i + 1 + 1 + 1 + 1) t.middle h d t.first),
      t.second.0,
      t.second.1,
    )

map_read : (at : ℕ → Mark) (p : Program) (source : ℕ) (k : Kind) (e : Expr) (i n : ℕ) → is_sayable_expr p e ≡ true → expr_depth e ≤ 64 → Stand at i (body_marks p (body.Map source k e)) n → Content at open_limit EVENT (raw.Map (name_of p source) (raw_expr p e)) i n
map_read at p source k e i n h d s =
    let t = source_read at p MAP source e (i + 1) n h d s.1 in
    grammar.derived refl s.0 (subst (Source at open_limit (raw.Map (name_of p source) (raw_expr p e)) (i + 1)) (sym t.7) (grammar.mapped t.1 t.2 t.3 t.4 t.5 t.6))

filter_read : (at : ℕ → Mark) (p : Program) (source : ℕ) (e : Expr) (i n : ℕ) → is_sayable_expr p e ≡ true → expr_depth e ≤ 64 → Stand at i (body_marks p (body.Filter source e)) n → Content at open_limit EVENT (raw.Filter (name_of p source) (raw_expr p e)) i n
filter_read at p source e i n h d s =
    let t = source_read at p FILTER source e (i + 1) n h d s.1 in
    grammar.derived refl s.0 (subst (Source at open_limit (raw.Filter (name_of p source) (raw_expr p e)) (i + 1)) (sym t.7) (grammar.filtered t.1 t.2 t.3 t.4 t.5 t.6))

changed_read : (at : ℕ → Mark) (p : Program) (of i n : ℕ) → Stand at i (body_marks p (body.Changed of)) n → Content at open_limit EVENT (raw.Changed (name_of p of)) i n
changed_read at p of i n s =
    let j = i + 1 in
    let e : n ≡ j + 4 = let q = s.1.1.1.1.1 in omega arith in
    grammar.derived refl s.0 (subst (Source at open_limit (raw.Changed (name_of p of)) j) (sym e)
    (grammar.changed s.1.0 s.1.1.0 (at_as at (j + 1 + 1) (j + 2) (name_mark p of) s.1.1.1.0 (omega arith)) (at_as at (j + 1 + 1 + 1) (j + 3) closing s.1.1.1.1.0 (omega arith))))

either_read : (at : ℕ → Mark) (p : Program) (left right i n : ℕ) → Stand at i (body_marks p (body.Either left right)) n → Content at open_limit EVENT (raw.Either (name_of p left) (name_of p right)) i n
either_read at p left right i n s =
    let j = i + 1 in
    let e : n ≡ j + 6 = let q = s.1.1.1.1.1.1.1 in omega arith in
    grammar.derived refl s.0 (subst (Source at open_limit (raw.Either (name_of p left) (name_of p right)) j) (sym e)
    (grammar.either s.1.0 s.1.1.0 (at_as at (j + 1 + 1) (j + 2) (name_mark p left) s.1.1.1.0 (omega arith)) (at_as at (j + 1 + 1 + 1) (j + 3) comma s.1.1.1.1.0 (omega arith))
    (at_as at (j + 1 + 1 + 1 + 1) (j + 4) (name_mark p right) s.1.1.1.1.1.0 (omega arith)) (at_as at (j + 1 + 1 + 1 + 1 + 1) (j + 5) closing s.1.1.1.1.1.1.0 (omega arith))))

from_end : (at : ℕ → Mark) (p : Program) (k : Kind) (w : Word) (i n : ℕ) → Stand at i (colon ∷ kind_mark k ∷ equals ∷ word_marks p w) n → Stand at i (colon ∷ kind_mark k ∷ equals ∷ (word_marks p w ++ [])) n
from_end at p k w i n s = subst (λ ms. Stand at i (colon ∷ kind_mark k ∷ equals ∷ ms) n) (sym (append-nil (word_marks p w))) s

register_read : (at : ℕ → Mark) (p : Program) (k : Kind) (w : Word) (i n : ℕ) → is_sayable p w ≡ true → is_plain_word w ≡ true → Stand at i (body_marks p (body.Register k w)) n → Content at open_limit REGISTER (raw.Register k (raw_literal p w)) i n
register_read at p k w i n h l s =
    let t = started at p k w i [] n h l (from_end at p k w i n s) in
    grammar.register refl t.colon_is t.kinded t.equals_is (subst (Literal at (raw_literal p w) (i + 3)) (sym t.behind) t.start)

content_read : (at : ℕ → Mark) (p : Program) (b : Body) (i n : ℕ) → is_sayable_body p b ≡ true → is_readable_body b ≡ true → Stand at i (body_marks p b) n → Content at open_limit (keyword_place b) (raw_body p b) i n
content_read at p body.Device i n h l s = subst (Content at open_limit DEVICE raw.Device i) (sym s) (grammar.device refl)
content_read at p body.Symbol i n h l s = subst (Content at open_limit SYMBOL raw.Symbol i) (sym s) (grammar.symbol refl)
content_read at p (body.Var k w region) i n h l s = let q = and_parts (is_sayable p w) (is_region region) h in var_read at p k w region i n q.0 q.1 l s
content_read at p (body.Event k) i n h l s = let t = kind_read at k i n s in subst (Content at open_limit EVENT (raw.Event k) i) (sym t.2) (grammar.event refl t.0 t.1)
content_read at p (body.Signal k e) i n h l s = grammar.signal refl s.0 (expr_read p e at (i + 1) n h (leb-true (expr_depth e) 64 l) s.1)
content_read at p (body.Changed of) i n h l s = changed_read at p of i n s
content_read at p (body.Map source k e) i n h l s = map_read at p source k e i n (and_parts (is_named p source) (is_sayable_expr p e) h).1 (leb-true (expr_depth e) 64 l) s
content_read at p (body.Filter source e) i n h l s = filter_read at p source e i n (and_parts (is_named p source) (is_sayable_expr p e) h).1 (leb-true (expr_depth e) 64 l) s
content_read at p (body.Either left right) i n h l s = either_read at p left right i n s
content_read at p (body.Fold k w source e region) i n h l s =
    let q = and_parts (is_sayable p w) (is_named p source && (is_sayable_expr p e && is_region region)) h in
    let r = and_parts (is_named p source) (is_sayable_expr p e && is_region region) q.1 in
    let t = and_parts (is_sayable_expr p e) (is_region region) r.1 in
    let m = and_parts (is_plain_word w) (nat_le (expr_depth e) 64) l in
    fold_read at p k w source e region i n q.0 t.0 t.1 m.0 (leb-true (expr_depth e) 64 m.1) s
content_read at p body.Counter i n h l s = subst (Content at open_limit COUNTER raw.Counter i) (sym s) (grammar.counter refl)
content_read at p (body.Set k) i n h l s = let t = kind_read at k i n s in subst (Content at open_limit SET (raw.Set k) i) (sym t.2) (grammar.set refl t.0 t.1)
content_read at p (body.Register k w) i n h l s = register_read at p k w i n h l s

line_read : (at : ℕ → Mark) (p : Program) (d : Decl) (i n : ℕ) → is_written p d ≡ true → Stand at i (line_marks p d) n → Declaration at open_limit (raw_declaration p d) i n
line_read at p d i n h s =
    let q = and_parts (is_sayable_declaration p d) (is_readable_body d.body) h in
    let r = and_parts (is_name_text d.name) (is_sayable_body p d.body) q.0 in
    let t = apart at (i + 1 + 1) (body_marks p d.body) (semicolon ∷ []) n s.1.1 in
    let two : i + 1 + 1 ≡ i + 2 = omega arith in
    record {
      word = keyword_place d.body;
      last = t.middle;
      begins = s.0;
      named = s.1.0;
      content = subst (λ j. Content at open_limit (keyword_place d.body) (raw_body p d.body) j t.middle) two (content_read at p d.body (i + 1 + 1) t.middle r.1 q.1 t.first);
      ends = t.second.0;
      next = t.second.1;
    }

lines_read : (at : ℕ → Mark) (p : Program) (decls : List Decl) (i n : ℕ) → list_all (is_written p) decls ≡ true → Stand at i (program_marks p decls) n → Declarations at open_limit (raw_declarations p decls) i n
lines_read at p [] i n h s = subst (Declarations at open_limit [] i) (sym s) grammar.none
lines_read at p (d ∷ decls) i n h s =
    let q = and_parts (is_written p d) (list_all (is_written p) decls) h in
    let t = apart at i (line_marks p d) (program_marks p decls) n s in
    grammar.more (line_read at p d i t.middle q.0 t.first) (lines_read at p decls t.middle n q.1 t.second)

pub derives : (p : Program) (decls : List Decl) (marks : List Mark) → list_all (is_written p) decls ≡ true → marks ≡ program_marks p decls ++ mark.End ∷ [] → Derives open_limit marks (raw_declarations p decls)
derives p decls marks h e =
    let t = apart (mark_at marks) 0 (program_marks p decls) (mark.End ∷ []) (length marks) (subst (λ ms. Stand (mark_at marks) 0 ms (length marks)) e (stand_all marks)) in
    record { last = t.middle; declarations = lines_read (mark_at marks) p decls 0 t.middle h t.first; end = t.second.0; all = t.second.1 }

-- the tree is one that a text can give
literal_is : (p : Program) (w : Word) → is_sayable p w ≡ true → is_literal (raw_literal p w) ≡ true
literal_is p (word.Int z) h = h
literal_is p (word.Bool b) h = refl
literal_is p (word.Sym k) h = and_from _ _ h refl
literal_is p (word.Fault code) h = refl

name_text_is : (p : Program) (id : ℕ) → is_named p id ≡ true → is_name_text (name_of p id) ≡ true
name_text_is p id h = and_from _ _ h refl

whole_is : (p : Program) (e : Expr) → is_sayable_expr p e ≡ true → nat_le (expr_depth e) 64 ≡ true → is_whole_expr (raw_expr p e) ≡ true
whole_is p e h l = and_from _ _ (expr_ranged p e h) (ap (λ n. nat_le n 64) (raw_depth_is p e) ∙ l)

body_is : (p : Program) (b : Body) → is_sayable_body p b ≡ true → is_readable_body b ≡ true → is_body (raw_body p b) ≡ true
body_is p body.Device h l = refl
body_is p body.Symbol h l = refl
body_is p (body.Var k w region) h l = let q = and_parts (is_sayable p w) (is_region region) h in and_from _ _ (literal_is p w q.0) q.1
body_is p (body.Event k) h l = refl
body_is p (body.Signal k e) h l = whole_is p e h l
body_is p (body.Changed of) h l = name_text_is p of h
body_is p (body.Map source k e) h l = let q = and_parts (is_named p source) (is_sayable_expr p e) h in and_from _ _ (name_text_is p source q.0) (whole_is p e q.1 l)
body_is p (body.Filter source e) h l = let q = and_parts (is_named p source) (is_sayable_expr p e) h in and_from _ _ (name_text_is p source q.0) (whole_is p e q.1 l)
body_is p (body.Either left right) h l = let q = and_parts (is_named p left) (is_named p right) h in and_from _ _ (name_text_is p left q.0) (name_text_is p right q.1)
body_is p (body.Fold k w source e region) h l =
    let q = and_parts (is_sayable p w) (is_named p source && (is_sayable_expr p e && is_region region)) h in
    let r = and_parts (is_named p source) (is_sayable_expr p e && is_region region) q.1 in
    let t = and_parts (is_sayable_expr p e) (is_region region) r.1 in
    let m = and_parts (is_plain_word w) (nat_le (expr_depth e) 64) l in
    and_from _ _ (and_from _ _ (and_from _ _ (literal_is p w q.0) (name_text_is p source r.0)) (whole_is p e t.0 m.1)) t.1
body_is p body.Counter h l = refl
body_is p (body.Set k) h l = refl
body_is p (body.Register k w) h l = literal_is p w h

pub declarations_are : (p : Program) (decls : List Decl) → list_all (is_written p) decls ≡ true → list_all is_declaration (raw_declarations p decls) ≡ true
declarations_are p [] h = refl
declarations_are p (d ∷ decls) h =
    let q = and_parts (is_written p d) (list_all (is_written p) decls) h in
    let r = and_parts (is_sayable_declaration p d) (is_readable_body d.body) q.0 in
    let t = and_parts (is_name_text d.name) (is_sayable_body p d.body) r.0 in
    and_from _ _ (and_from _ _ t.0 (body_is p d.body t.1 r.1)) (declarations_are p decls q.1)
