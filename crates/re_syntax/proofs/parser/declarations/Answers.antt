use Rattle.std.proofs.Common.{◌≡◌, sym, ap, ◌∙◌, arith}
use Rattle.std.proofs.lemmas.Result.{err_from_is_err_and}
use Rattle.re_syntax.proofs.Programs.{progress_start, progress_step, progress_ends, progress_stops, ends_last, Progress}
use Rattle.std.proofs.Common.{List, subst}
use Rattle.re_terms.specs.declared.raw.RawDecl.{RawDecl}
use Rattle.re_syntax.proofs.parser.declarations.Goals as goal

pub declarations-init : goal.declarations-init
declarations-init c = record { plain = ap (λ d. d.spare) c.new-decls.ensures; read = subst (λ (l : List RawDecl). Progress c.args.tokens.now l 0) (sym (ap (λ d. d.items) c.new-decls.ensures)) (progress_start c.args.tokens.now c.requires) }

pub returns-then-is_end-clause-ok : goal.returns-then-is_end-clause-ok
returns-then-is_end-clause-ok c = progress_ends c.args.tokens.now c.declarations.decls c.declarations.at c.requires c.declarations.invariant.plain c.declarations.invariant.read (c.is_end.ensures.yes c.if-is_end.true)

pub declarations-preserved : goal.declarations-preserved
declarations-preserved c =
    let p = c.in_ok-push.ensures.ok in
    record {
      plain = ap (λ d. d.spare) p ∙ (let e : c.declarations.decls.spare ≡ 0 = c.declarations.invariant.plain in omega arith);
      read = subst (λ (l : List RawDecl). Progress c.args.tokens.now l c.in_ok-decl.next) (sym (ap (λ d. d.items) p))
          (progress_step c.args.tokens.now c.declarations.decls.items c.declarations.at c.in_ok-decl.next c.in_ok-decl.decl c.requires c.declarations.invariant.read c.in_ok-decl.ensures.ok c.in_ok-decl.ensures.behind c.in_ok-decl.ensures.depth c.in_ok-decl.ensures.shallow);
    }

pub declaration-requires-clause-ends : goal.declaration-requires-clause-ends
declaration-requires-clause-ends c = ends_last c.args.tokens.now c.requires

pub declarations-smaller : goal.declarations-smaller
declarations-smaller c = omega (arith, c.in_ok-decl.ensures.behind, c.in_ok-decl.ensures.ok.inside)

pub returns-in_err-decl-clause-stop : goal.returns-in_err-decl-clause-stop
returns-in_err-decl-clause-stop c =
    let p = err_from_is_err_and c.from_residual.result c.from_residual.ensures.1 in
    rw (p.1, p.2) (progress_stops c.args.tokens.now c.declarations.decls.items c.declarations.at _ c.requires c.declarations.invariant.read (c.is_end.ensures.other c.if-is_end.false) c.in_err-decl.ensures.stop)
