use Rattle.std.proofs.Common.{◌&&◌, false, refl, ap, sym, ◌∙◌, get_or}
use Rattle.std.specs.Option.{option_map_or}
use Rattle.re_prop.specs.Reading.{is_valued_at, is_valued_body}
use Rattle.re_prop.proofs.Choosing.{item_at, range_push}
use Rattle.re_prop.proofs.reading.with_words.Goals as goal

pub choosing-preserved : goal.choosing-preserved
choosing-preserved c =
    let decls = c.args.decls.now in
    let used = c.args.used.now in
    let id = c.choosing.id in
    let decl = c.index-decls-id.result in
    let at = item_at decls decls id decl refl c.choosing-test.true c.index-decls-id.is in
    c.in_ok-push.ensures.items ∙ range_push (λ id. is_valued_at decls id && get_or used id false) c.choosing.marks.items id c.is_read.result c.choosing.invariant
    (c.is_read.ensures ∙ ap (λ found. option_map_or (λ d. is_valued_body d.body) found false && get_or used id false) (sym at))
