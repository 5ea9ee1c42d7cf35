use Rattle.std.proofs.Common.{sym, ap, ◌∙◌}
use Rattle.std.specs.List.{position}
use Rattle.std.specs.Str.{bytes_eq}
use Rattle.re_types.proofs.NameTables.{position-map}
use Rattle.re_types.proofs.names.Names.place.Goals as goal

pub returns : goal.returns
returns c =
    let same = bytes_eq c.args.name.now in
    c.get_index_of.ensures.index ∙ sym (position-map same (λ key. key.now) c.self.inside.table.keys) ∙ ap (position same) c.self.view_is
