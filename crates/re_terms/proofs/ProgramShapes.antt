-- The shape of a program is within the limits of shapes.
use Rattle.std.proofs.Common.{◌≡◌, ℕ, ◌+◌, cond, List, [], ◌∷◌, refl, sym, ap, ◌∙◌, arith, length, count_by}
use Rattle.std.proofs.lemmas.List.Sums.{count_by-le-length, sum_by-cons}
use Rattle.re_terms.specs.Listed.{Listed}
use Rattle.re_terms.specs.Programs.{IsProgram, is_replicated, is_replicated_body, is_symbol}
use Rattle.re_terms.specs.Shapes.{IsShape, replicated_kinds, shape_of}
use Rattle.re_terms.specs.declared.program.Body.{Body}
use Rattle.re_terms.specs.declared.program.Body.TheVariants as body
use Rattle.re_terms.specs.declared.program.Decl.{Decl}
use Rattle.re_terms.specs.declared.program.Program.{Program}

one_more : (name : Listed ℕ) (b : Body) (decls : List Decl) → length (replicated_kinds (record { name = name; body = b } ∷ decls)) ≡ cond (is_replicated_body b) 1 0 + length (replicated_kinds decls)
one_more name body.Device decls = omega arith
one_more name body.Symbol decls = omega arith
one_more name (body.Var kind start region) decls = omega arith
one_more name (body.Event kind) decls = omega arith
one_more name (body.Signal kind expr) decls = omega arith
one_more name (body.Changed of) decls = omega arith
one_more name (body.Map source kind expr) decls = omega arith
one_more name (body.Filter source expr) decls = omega arith
one_more name (body.Either left right) decls = omega arith
one_more name (body.Fold kind start source expr region) decls = omega arith
one_more name body.Counter decls = omega arith
one_more name (body.Set kind) decls = omega arith
one_more name (body.Register kind start) decls = omega arith

kinds-count : (decls : List Decl) → length (replicated_kinds decls) ≡ count_by is_replicated decls
kinds-count [] = refl
kinds-count (d ∷ decls) = one_more d.name d.body decls ∙ ap (λ n. cond (is_replicated d) 1 0 + n) (kinds-count decls) ∙ sym (sum_by-cons (λ x. cond (is_replicated x) 1 0) d decls)

pub program_shape : (p : Program) → IsProgram p → IsShape (shape_of p)
program_shape p is = record { devices = is.devices; symbols = let h = count_by-le-length is_symbol p.decls.items in let k = is.few in omega arith; cells = let e = kinds-count p.decls.items in let h = is.replicated in omega arith }
