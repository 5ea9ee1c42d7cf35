-- The canonical text of a program has its marks.
use Rattle.std.proofs.Common.{ℕ, ◌≡◌, ◌==◌, ◌&&◌, true, false, List, [], ◌∷◌, ◌++◌, Some, refl, ap, ◌∙◌, arith, append_assoc}
use Rattle.std.specs.Prelude.{codes, nat_le}
use Rattle.std.specs.List.{position, flat_map, list_all}
use Rattle.std.specs.Str.{bytes_eq}
use Rattle.std.specs.Fmt.{decimal}
use Rattle.std.proofs.lemmas.Bool.{and_parts, eqb-true, leb-true}
use Rattle.re_terms.specs.Listed.{Listed, plain}
use Rattle.re_terms.specs.Tokens.{reserved_words, is_name}
use Rattle.re_terms.specs.Trees.{is_name_text, is_region}
use Rattle.re_terms.specs.declared.token.Mark.{Mark}
use Rattle.re_terms.specs.declared.token.Mark.TheVariants as mark
use Rattle.re_terms.specs.declared.word.Word.{Word}
use Rattle.re_terms.specs.declared.word.Kind.{Kind}
use Rattle.re_terms.specs.declared.word.Kind.TheVariants as kind
use Rattle.re_terms.specs.declared.expr.Expr.{Expr}
use Rattle.re_terms.specs.declared.program.Body.{Body}
use Rattle.re_terms.specs.declared.program.Body.TheVariants as body
use Rattle.re_terms.specs.declared.program.Decl.{Decl}
use Rattle.re_terms.specs.declared.program.Program.{Program}
use Rattle.re_print.specs.Canonical.{name_text, kind_text, literal_text, expr_text, keyword_text, start_text, body_text, line_text}
use Rattle.re_tokens.proofs.Marks.{begins_word}
use Rattle.re_reading.proofs.Scans.{Scans, scans_end, scans_blank, scans_reserved, scans_name, scans_close, scans_semicolon, scans_sign, scans_as}
use Rattle.re_reading.proofs.ExprScans.{scans_word, scans_number, scans_expr, scans_call, scans_apart, scans_between, scans_comma}
use Rattle.re_reading.proofs.Unresolved.{colon, equals, comma, opening, closing, semicolon, reserved, kind_mark, word_marks, expr_marks, name_mark, keyword_place, body_marks, line_marks, program_marks, is_sayable, is_named, is_sayable_expr, is_sayable_body, is_sayable_declaration}
use Rattle.re_terms.specs.declared.reserved.TheConstants.{DEVICE, SYMBOL, VAR, EVENT, SIGNAL, FOLD, COUNTER, SET, REGISTER, CHANGED, MAP, FILTER, EITHER, ON, DO, IN, INT, BOOL, SYM}
use Rattle.re_terms.specs.declared.signs.TheConstants.{COLON, EQUALS}

scans_kind : (k : Kind) (text : List ℕ) (marks : List Mark) → begins_word text ≡ false → Scans text marks → Scans (kind_text k ++ text) (kind_mark k ∷ marks)
scans_kind kind.Int text marks h s = scans_reserved INT (codes "int") text marks refl h s
scans_kind kind.Bool text marks h s = scans_reserved BOOL (codes "bool") text marks refl h s
scans_kind kind.Sym text marks h s = scans_reserved SYM (codes "sym") text marks refl h s

-- `: ` and a kind
scans_colon : (k : Kind) (text : List ℕ) (marks : List Mark) → begins_word text ≡ false → Scans text marks → Scans (58 ∷ 32 ∷ (kind_text k ++ text)) (colon ∷ kind_mark k ∷ marks)
scans_colon k text marks h s = scans_sign COLON (58 ∷ []) _ _ refl refl (scans_kind k text marks h s)

-- ` = `
scans_equals : (text : List ℕ) (marks : List Mark) → Scans text marks → Scans (32 ∷ 61 ∷ 32 ∷ text) (equals ∷ marks)
scans_equals text marks s = scans_blank 32 _ _ refl (scans_sign EQUALS (61 ∷ []) text marks refl refl s)

-- ` in ` and a region
scans_region : (region : ℕ) (text : List ℕ) (marks : List Mark) → is_region region ≡ true → begins_word text ≡ false → Scans text marks → Scans (32 ∷ 105 ∷ 110 ∷ 32 ∷ (decimal region ++ text)) (reserved IN ∷ mark.Number region ∷ marks)
scans_region region text marks h k s =
    let p = and_parts (nat_le 1 region) (nat_le region 4) h in
    let l = leb-true region 4 p.1 in
    scans_between IN (codes "in") _ _ refl (scans_number region text marks (omega arith) k s)

start_first : (k start text : List ℕ) → (codes ": " ++ k ++ codes " = " ++ start) ++ text ≡ 58 ∷ 32 ∷ (k ++ (32 ∷ 61 ∷ 32 ∷ (start ++ text)))
start_first k start text = simp append_assoc

scans_start : (p : Program) (k : Kind) (start : Word) (text : List ℕ) (marks : List Mark) → is_sayable p start ≡ true → begins_word text ≡ false → Scans text marks → Scans (start_text p k start ++ text) (colon ∷ kind_mark k ∷ equals ∷ (word_marks p start ++ marks))
scans_start p k start text marks h l s =
    scans_as _ _ _ _ (start_first (kind_text k) (literal_text p start) text) refl
    (scans_colon k _ _ refl (scans_equals _ _ (scans_word p start text marks h l s)))

-- `WORD(NAME, `
scans_source : (place : ℕ) (word name text : List ℕ) (marks : List Mark) → position (bytes_eq word) reserved_words ≡ Some place → is_name name ≡ true → Scans text marks → Scans (word ++ (40 ∷ (name ++ (44 ∷ 32 ∷ text)))) (reserved place ∷ opening ∷ mark.Name (plain name) ∷ comma ∷ marks)
scans_source place word name text marks e h s = scans_call place word _ _ e (scans_name name _ _ h refl (scans_comma text marks s))

-- what stands behind a declaration's name, before a text that doesn't go on with a word
BodyScans : Program → Body → Type 0
BodyScans p b = is_sayable_body p b ≡ true → (text : List ℕ) (marks : List Mark) → begins_word text ≡ false → Scans text marks → Scans (body_text p b ++ text) (body_marks p b ++ marks)

var_text : (start region text : List ℕ) → (start ++ codes " in " ++ region) ++ text ≡ start ++ (32 ∷ 105 ∷ 110 ∷ 32 ∷ (region ++ text))
var_text start region text = simp append_assoc

var_marks : (start : List Mark) (region k : Mark) (marks : List Mark) → (colon ∷ k ∷ equals ∷ (start ++ (reserved IN ∷ region ∷ []))) ++ marks ≡ colon ∷ k ∷ equals ∷ (start ++ (reserved IN ∷ region ∷ marks))
var_marks start region k marks = simp append_assoc

var_scans : (p : Program) (k : Kind) (start : Word) (region : ℕ) → BodyScans p (body.Var k start region)
unfolding BodyScans
var_scans p k start region h text marks l s =
    let q = and_parts (is_sayable p start) (is_region region) h in
    scans_as _ _ _ _ (var_text (start_text p k start) (decimal region) text) (var_marks (word_marks p start) (mark.Number region) (kind_mark k) marks)
    (scans_start p k start _ _ q.0 refl (scans_region region text marks q.1 l s))

event_text : (k text : List ℕ) → (codes ": " ++ k) ++ text ≡ 58 ∷ 32 ∷ (k ++ text)
event_text k text = simp append_assoc

signal_text : (e text : List ℕ) → (codes " = " ++ e) ++ text ≡ 32 ∷ 61 ∷ 32 ∷ (e ++ text)
signal_text e text = simp append_assoc

changed_text : (name text : List ℕ) → (codes " = changed(" ++ name ++ codes ")") ++ text ≡ 32 ∷ 61 ∷ 32 ∷ (codes "changed" ++ (40 ∷ (name ++ (41 ∷ text))))
changed_text name text = simp append_assoc

changed_scans : (p : Program) (of : ℕ) → BodyScans p (body.Changed of)
unfolding BodyScans
changed_scans p of h text marks l s =
    scans_as _ _ _ _ (changed_text (name_text p of) text) refl
    (scans_equals _ _ (scans_call CHANGED (codes "changed") _ _ refl (scans_name (name_text p of) _ _ h refl (scans_close text marks s))))

map_text : (name e text : List ℕ) → (codes " = map(" ++ name ++ codes ", " ++ e ++ codes ")") ++ text ≡ 32 ∷ 61 ∷ 32 ∷ (codes "map" ++ (40 ∷ (name ++ (44 ∷ 32 ∷ (e ++ (41 ∷ text))))))
map_text name e text = simp append_assoc

filter_text : (name e text : List ℕ) → (codes " = filter(" ++ name ++ codes ", " ++ e ++ codes ")") ++ text ≡ 32 ∷ 61 ∷ 32 ∷ (codes "filter" ++ (40 ∷ (name ++ (44 ∷ 32 ∷ (e ++ (41 ∷ text))))))
filter_text name e text = simp append_assoc

source_marks : (word name : Mark) (e marks : List Mark) → (equals ∷ word ∷ opening ∷ name ∷ comma ∷ (e ++ (closing ∷ []))) ++ marks ≡ equals ∷ word ∷ opening ∷ name ∷ comma ∷ (e ++ (closing ∷ marks))
source_marks word name e marks = simp append_assoc

map_scans : (p : Program) (source : ℕ) (k : Kind) (e : Expr) → BodyScans p (body.Map source k e)
unfolding BodyScans
map_scans p source k e h text marks l s =
    let q = and_parts (is_named p source) (is_sayable_expr p e) h in
    scans_as _ _ _ _ (map_text (name_text p source) (expr_text p e) text) (source_marks (reserved MAP) (name_mark p source) (expr_marks p e) marks)
    (scans_equals _ _ (scans_source MAP (codes "map") (name_text p source) _ _ refl q.0 (scans_expr p e _ _ q.1 refl (scans_close text marks s))))

filter_scans : (p : Program) (source : ℕ) (e : Expr) → BodyScans p (body.Filter source e)
unfolding BodyScans
filter_scans p source e h text marks l s =
    let q = and_parts (is_named p source) (is_sayable_expr p e) h in
    scans_as _ _ _ _ (filter_text (name_text p source) (expr_text p e) text) (source_marks (reserved FILTER) (name_mark p source) (expr_marks p e) marks)
    (scans_equals _ _ (scans_source FILTER (codes "filter") (name_text p source) _ _ refl q.0 (scans_expr p e _ _ q.1 refl (scans_close text marks s))))

either_text : (a b text : List ℕ) → (codes " = either(" ++ a ++ codes ", " ++ b ++ codes ")") ++ text ≡ 32 ∷ 61 ∷ 32 ∷ (codes "either" ++ (40 ∷ (a ++ (44 ∷ 32 ∷ (b ++ (41 ∷ text))))))
either_text a b text = simp append_assoc

either_scans : (p : Program) (left right : ℕ) → BodyScans p (body.Either left right)
unfolding BodyScans
either_scans p left right h text marks l s =
    let q = and_parts (is_named p left) (is_named p right) h in
    scans_as _ _ _ _ (either_text (name_text p left) (name_text p right) text) refl
    (scans_equals _ _ (scans_source EITHER (codes "either") (name_text p left) _ _ refl q.0 (scans_name (name_text p right) _ _ q.1 refl (scans_close text marks s))))

fold_text : (start name e region text : List ℕ) → (start ++ codes " on " ++ name ++ codes " do " ++ e ++ codes " in " ++ region) ++ text
    ≡ start ++ (32 ∷ (codes "on" ++ (32 ∷ (name ++ (32 ∷ (codes "do" ++ (32 ∷ (e ++ (32 ∷ 105 ∷ 110 ∷ 32 ∷ (region ++ text))))))))))
fold_text start name e region text = simp append_assoc

fold_marks : (k name region : Mark) (start e marks : List Mark) → (colon ∷ k ∷ equals ∷ (start ++ (reserved ON ∷ name ∷ reserved DO ∷ (e ++ (reserved IN ∷ region ∷ []))))) ++ marks
    ≡ colon ∷ k ∷ equals ∷ (start ++ (reserved ON ∷ name ∷ reserved DO ∷ (e ++ (reserved IN ∷ region ∷ marks))))
fold_marks k name region start e marks = simp append_assoc

fold_scans : (p : Program) (k : Kind) (start : Word) (source : ℕ) (e : Expr) (region : ℕ) → BodyScans p (body.Fold k start source e region)
unfolding BodyScans
fold_scans p k start source e region h text marks l s =
    let q = and_parts (is_sayable p start) (is_named p source && (is_sayable_expr p e && is_region region)) h in
    let r = and_parts (is_named p source) (is_sayable_expr p e && is_region region) q.1 in
    let t = and_parts (is_sayable_expr p e) (is_region region) r.1 in
    scans_as _ _ _ _ (fold_text (start_text p k start) (name_text p source) (expr_text p e) (decimal region) text)
    (fold_marks (kind_mark k) (name_mark p source) (mark.Number region) (word_marks p start) (expr_marks p e) marks)
    (scans_start p k start _ _ q.0 refl (scans_between ON (codes "on") _ _ refl
    (scans_name (name_text p source) _ _ r.0 refl (scans_between DO (codes "do") _ _ refl
    (scans_expr p e _ _ t.0 refl (scans_region region text marks t.1 l s))))))

scans_body : (p : Program) (b : Body) → BodyScans p b
unfolding BodyScans
scans_body p body.Device h text marks l s = s
scans_body p body.Symbol h text marks l s = s
scans_body p (body.Var k start region) h text marks l s = var_scans p k start region h text marks l s
scans_body p (body.Event k) h text marks l s = scans_as _ _ _ _ (event_text (kind_text k) text) refl (scans_colon k text marks l s)
scans_body p (body.Signal k e) h text marks l s = scans_as _ _ _ _ (signal_text (expr_text p e) text) refl (scans_equals _ _ (scans_expr p e text marks h l s))
scans_body p (body.Changed of) h text marks l s = changed_scans p of h text marks l s
scans_body p (body.Map source k e) h text marks l s = map_scans p source k e h text marks l s
scans_body p (body.Filter source e) h text marks l s = filter_scans p source e h text marks l s
scans_body p (body.Either left right) h text marks l s = either_scans p left right h text marks l s
scans_body p (body.Fold k start source e region) h text marks l s = fold_scans p k start source e region h text marks l s
scans_body p body.Counter h text marks l s = s
scans_body p (body.Set k) h text marks l s = scans_as _ _ _ _ (event_text (kind_text k) text) refl (scans_colon k text marks l s)
scans_body p (body.Register k start) h text marks l s = scans_start p k start text marks h l s

-- the word that a declaration begins with
scans_keyword : (b : Body) (text : List ℕ) (marks : List Mark) → Scans text marks → Scans (keyword_text b ++ (32 ∷ text)) (reserved (keyword_place b) ∷ marks)
scans_keyword body.Device text marks s = scans_apart DEVICE (codes "device") text marks refl s
scans_keyword body.Symbol text marks s = scans_apart SYMBOL (codes "symbol") text marks refl s
scans_keyword (body.Var k start region) text marks s = scans_apart VAR (codes "var") text marks refl s
scans_keyword (body.Event k) text marks s = scans_apart EVENT (codes "event") text marks refl s
scans_keyword (body.Signal k e) text marks s = scans_apart SIGNAL (codes "signal") text marks refl s
scans_keyword (body.Changed of) text marks s = scans_apart EVENT (codes "event") text marks refl s
scans_keyword (body.Map source k e) text marks s = scans_apart EVENT (codes "event") text marks refl s
scans_keyword (body.Filter source e) text marks s = scans_apart EVENT (codes "event") text marks refl s
scans_keyword (body.Either left right) text marks s = scans_apart EVENT (codes "event") text marks refl s
scans_keyword (body.Fold k start source e region) text marks s = scans_apart FOLD (codes "fold") text marks refl s
scans_keyword body.Counter text marks s = scans_apart COUNTER (codes "counter") text marks refl s
scans_keyword (body.Set k) text marks s = scans_apart SET (codes "set") text marks refl s
scans_keyword (body.Register k start) text marks s = scans_apart REGISTER (codes "register") text marks refl s

-- what stands behind a declaration's name begins with no byte of a word
behind_name : (p : Program) (b : Body) (text : List ℕ) → begins_word text ≡ false → begins_word (body_text p b ++ text) ≡ false
behind_name p body.Device text h = h
behind_name p body.Symbol text h = h
behind_name p (body.Var k start region) text h = refl
behind_name p (body.Event k) text h = refl
behind_name p (body.Signal k e) text h = refl
behind_name p (body.Changed of) text h = refl
behind_name p (body.Map source k e) text h = refl
behind_name p (body.Filter source e) text h = refl
behind_name p (body.Either left right) text h = refl
behind_name p (body.Fold k start source e region) text h = refl
behind_name p body.Counter text h = h
behind_name p (body.Set k) text h = refl
behind_name p (body.Register k start) text h = refl

line_first : (keyword name content text : List ℕ) → (keyword ++ codes " " ++ name ++ content ++ codes ";\n") ++ text ≡ keyword ++ (32 ∷ (name ++ (content ++ (59 ∷ 10 ∷ text))))
line_first keyword name content text = simp append_assoc

line_last : (content marks : List Mark) (keyword name : Mark) → (keyword ∷ name ∷ (content ++ (semicolon ∷ []))) ++ marks ≡ keyword ∷ name ∷ (content ++ (semicolon ∷ marks))
line_last content marks keyword name = simp append_assoc

-- a name's list has nothing reserved
pub name_is : (t : Listed ℕ) → is_name_text t ≡ true → t ≡ plain t.items
name_is t h = let e = eqb-true t.spare 0 (and_parts (is_name t.items) (t.spare == 0) h).1 in ap (λ n. record { items = t.items; spare = n }) e

scans_content : (p : Program) (b : Body) → is_sayable_body p b ≡ true → (text : List ℕ) (marks : List Mark) → begins_word text ≡ false → Scans text marks → Scans (body_text p b ++ text) (body_marks p b ++ marks)
unfolding BodyScans
scans_content p b h text marks l s = scans_body p b h text marks l s

scans_line : (p : Program) (d : Decl) (text : List ℕ) (marks : List Mark) → is_sayable_declaration p d ≡ true → Scans text marks → Scans (line_text p d ++ text) (line_marks p d ++ marks)
scans_line p d text marks h s =
    let q = and_parts (is_name_text d.name) (is_sayable_body p d.body) h in
    let n = and_parts (is_name d.name.items) (d.name.spare == 0) q.0 in
    scans_as _ _ _ _ (line_first (keyword_text d.body) d.name.items (body_text p d.body) text)
    (line_last (body_marks p d.body) marks (reserved (keyword_place d.body)) (mark.Name d.name) ∙ ap (λ t. reserved (keyword_place d.body) ∷ mark.Name t ∷ (body_marks p d.body ++ (semicolon ∷ marks))) (name_is d.name q.0))
    (scans_keyword d.body _ _ (scans_name d.name.items _ _ n.0 (behind_name p d.body (59 ∷ 10 ∷ text) refl)
    (scans_content p d.body q.1 _ _ refl (scans_semicolon _ _ (scans_blank 10 text marks refl s)))))

pub scans_lines : (p : Program) (decls : List Decl) → list_all (is_sayable_declaration p) decls ≡ true → Scans (flat_map (line_text p) decls) (program_marks p decls)
scans_lines p [] h = scans_end
scans_lines p (d ∷ decls) h = let q = and_parts (is_sayable_declaration p d) (list_all (is_sayable_declaration p) decls) h in scans_line p d _ _ q.0 (scans_lines p decls q.1)
