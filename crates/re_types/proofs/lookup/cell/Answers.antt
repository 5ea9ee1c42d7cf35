use Rattle.std.proofs.Common.{rules, ◌≡◌, take, arith}
use Rattle.std.specs.Prelude.{count_by}
use Rattle.re_terms.specs.Programs.{is_replicated}
use Rattle.re_types.proofs.Numbers.{count_first}
use Rattle.re_types.proofs.lookup.cell.Goals as goal

pub overflow_cast-result : goal.overflow_cast-result
overflow_cast-result c =
    let count : c.count-before.result ≡ count_by is_replicated (take c.args.place c.args.decls.now) = search rules in
    let few = count_first is_replicated c.args.decls.now c.args.place in
    omega (arith, count, few, c.requires.few)

pub returns : goal.returns
returns c =
    let count : c.count-before.result ≡ count_by is_replicated (take c.args.place c.args.decls.now) = search rules in
    count
