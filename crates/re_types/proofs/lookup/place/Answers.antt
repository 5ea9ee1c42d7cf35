use Rattle.std.proofs.Common.{rules, tests, sym, ◌∙◌}
use Rattle.std.specs.Str.{bytes_eq}
use Rattle.std.proofs.lemmas.Iterator.{YieldsList-from_slice}
use Rattle.std.proofs.lemmas.Iterator.Search.{position_from_yields_List}
use Rattle.re_terms.specs.declared.program.Decl.{Decl}
use Rattle.re_types.proofs.NameTables.{position-map}
use Rattle.re_types.proofs.lookup.place.Goals as goal

pub returns-clause-place : goal.returns-clause-place
returns-clause-place c =
    let same = bytes_eq c.args.name.now.items in
    position_from_yields_List (λ (d : Decl). same d.name.items) _ _ c.position.result c.position.ensures.ran (YieldsList-from_slice c.args.decls.now (cc)) (λ x b q k. search (rules, tests))
    ∙ sym (position-map same (λ (d : Decl). d.name.items) c.args.decls.now)
