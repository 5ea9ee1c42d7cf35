use Rattle.std.proofs.Common.{◌++◌, ◌∷◌, [], ap, ◌∙◌}
use Rattle.std.specs.Str.{bytes_eq}
use Rattle.std.specs.List.{position}
use Rattle.re_types.proofs.NameTables.{inserted}
use Rattle.re_types.proofs.names.Names.insert.Goals as goal

pub returns : goal.returns
returns c =
    let same = bytes_eq c.args.name.now in
    let absent = ap (position same) c.self.view_is ∙ c.requires in
    inserted same c.self.inside.table.keys c.insert_full.new.self.keys c.args.name absent c.in_ok-insert_full.ensures.keys ∙ ap (λ names. names ++ c.args.name.now ∷ []) c.self.view_is
