-- The declarations that remain to be resolved.
use Rattle.std.proofs.Common.{ℕ, suc, ◌≡◌, ◌<◌, ◌+◌, true, List, length, drop, get_or, drop-cons, add-one, [], ◌∷◌, ◌++◌, Result, Ok, Err, sym, ap, ◌∙◌}
use Rattle.std.specs.List.{list_all}
use Rattle.re_terms.specs.Trees.{is_declaration}
use Rattle.re_terms.specs.declared.program.Decl.{Decl}
use Rattle.re_terms.specs.declared.raw.RawDecl.{RawDecl}
use Rattle.re_types.specs.declared.fault.TypeFault.{TypeFault}
use Rattle.re_types.specs.Resolving.{declared, declarations, then_others}
use Rattle.re_types.proofs.Conjunctions.{both}

-- resolving the rest behind these gives what resolving all gives behind the first
pub record Remain (start : List Decl) (all : List RawDecl) (now : List Decl) (rest : List RawDecl) : Type 0 where
  pub same : declarations now rest ≡ declarations start all
  pub raw : list_all is_declaration rest ≡ true

next_of : (now : List Decl) (o : Result Decl TypeFault) (next : List Decl) (others : List Decl → Result (List Decl) TypeFault) → then_others now o Ok ≡ Ok next → then_others now o others ≡ others next
next_of now (Ok d) next others e = let same : now ++ d ∷ [] ≡ next = cc in ap others same
next_of now (Err f) next others e = absurd (cc)

pub remain_next : (start : List Decl) (all : List RawDecl) (now next : List Decl) (d : RawDecl) (rest : List RawDecl) → Remain start all now (d ∷ rest) → then_others now (declared now d) Ok ≡ Ok next → Remain start all next rest
remain_next start all now next d rest r e = record {
  same = sym (next_of now (declared now d) next (λ n. declarations n rest) e) ∙ r.same;
  raw = (both {a = is_declaration d} {b = list_all is_declaration rest} r.raw).1;
}

-- the next of them and those behind it
pub next_left : (decls : List RawDecl) (i : ℕ) (d : RawDecl) → i < length decls → d ≡ get_or decls i d → drop i decls ≡ d ∷ drop (i + 1) decls
next_left decls i d within is = drop-cons decls i d within ∙ ap (λ x. x ∷ drop (suc i) decls) (sym is) ∙ ap (λ n. d ∷ drop n decls) (sym (add-one i))
