use Rattle.re_terms.specs.Trees.{is_literal, is_name_text, is_region, is_whole_expr}
use Rattle.re_types.specs.Resolving.{is_known, knows_literal, knows_expr}
use Rattle.re_types.proofs.Conjunctions.{both, all_three, all_four}
use Rattle.re_types.proofs.scope.Scope.body.Goals as goal

pub mapped-requires-clause-raw : goal.mapped-requires-clause-raw
mapped-requires-clause-raw c = (both {a = is_name_text c.in-Map.source} {b = is_whole_expr c.in-Map.expr} (rw c.in-Map.is at c.requires.raw)).1

pub filtered-requires-clause-known : goal.filtered-requires-clause-known
filtered-requires-clause-known c =
    (both {a = is_known c.args.self.now.names c.in-Filter.source} {b = knows_expr c.args.self.now.names c.in-Filter.expr} (rw c.in-Filter.is at c.requires.known)).1

pub filtered-requires-clause-raw : goal.filtered-requires-clause-raw
filtered-requires-clause-raw c = (both {a = is_name_text c.in-Filter.source} {b = is_whole_expr c.in-Filter.expr} (rw c.in-Filter.is at c.requires.raw)).1

pub fold-requires-clause-known : goal.fold-requires-clause-known
fold-requires-clause-known c =
    let names = c.args.self.now.names in
    (all_three (knows_literal names c.in-Fold.start) (is_known names c.in-Fold.source) (knows_expr names c.in-Fold.expr) (rw c.in-Fold.is at c.requires.known)).2

pub fold-requires-clause-raw : goal.fold-requires-clause-raw
fold-requires-clause-raw c =
    (all_four (is_literal c.in-Fold.start) (is_name_text c.in-Fold.source) (is_whole_expr c.in-Fold.expr) (is_region c.in-Fold.region) (rw c.in-Fold.is at c.requires.raw)).2

pub fold-requires-clause-region : goal.fold-requires-clause-region
fold-requires-clause-region c =
    (all_four (is_literal c.in-Fold.start) (is_name_text c.in-Fold.source) (is_whole_expr c.in-Fold.expr) (is_region c.in-Fold.region) (rw c.in-Fold.is at c.requires.raw)).3
