use Rattle.std.proofs.Common.{rules, ◌≡◌, ◌<◌, length, slice_get, take, Some, refl, sym, ap, subst, ◌∙◌}
use Rattle.std.specs.Prelude.{count_by}
use Rattle.re_terms.specs.Programs.{is_symbol}
use Rattle.std.proofs.lemmas.Option.{slice_get_read}
use Rattle.re_types.proofs.Numbers.{symbol_number, symbol_number-none, count_before}
use Rattle.re_types.proofs.lookup.symbol.Goals as goal

pub returns-then-not-is_symbol-clause-number : goal.returns-then-not-is_symbol-clause-number
returns-then-not-is_symbol-clause-number c =
    let at : slice_get c.args.decls.now c.args.place ≡ Some c.index-decls-place.result = slice_get_read c.args.decls.now (length c.args.decls.now) c.args.place c.index-decls-place.result refl c.requires.within c.index-decls-place.is in
    sym (symbol_number-none c.args.decls.now c.args.place c.index-decls-place.result at (ap is_symbol c.index-decls-place.is ∙ sym c.is_symbol.ensures ∙ c.if-not-is_symbol.true))

pub returns-clause-number : goal.returns-clause-number
returns-clause-number c =
    let at : slice_get c.args.decls.now c.args.place ≡ Some c.index-decls-place.result = slice_get_read c.args.decls.now (length c.args.decls.now) c.args.place c.index-decls-place.result refl c.requires.within c.index-decls-place.is in
    let count : c.count-before.result ≡ count_by is_symbol (take c.args.place c.args.decls.now) = search rules in
    ap Some count ∙ sym (symbol_number c.args.decls.now c.args.place c.index-decls-place.result at (ap is_symbol c.index-decls-place.is ∙ sym c.is_symbol.ensures ∙ c.if-not-is_symbol.false))

pub returns-clause-below : goal.returns-clause-below
returns-clause-below c =
    let at : slice_get c.args.decls.now c.args.place ≡ Some c.index-decls-place.result = slice_get_read c.args.decls.now (length c.args.decls.now) c.args.place c.index-decls-place.result refl c.requires.within c.index-decls-place.is in
    let count : c.count-before.result ≡ count_by is_symbol (take c.args.place c.args.decls.now) = search rules in
    subst (λ n. n < count_by is_symbol c.args.decls.now) (sym count) (count_before is_symbol c.args.decls.now c.args.place c.index-decls-place.result at (ap is_symbol c.index-decls-place.is ∙ sym c.is_symbol.ensures ∙ c.if-not-is_symbol.false))
