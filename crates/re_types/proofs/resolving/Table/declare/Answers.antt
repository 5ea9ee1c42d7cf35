use Rattle.std.proofs.Common.{ℕ, Ok, Err, List, length, Result, sym, ap, ◌∙◌, arith}
use Rattle.std.specs.Prelude.{option_map}
use Rattle.re_terms.specs.Trees.{is_name_text, is_body}
use Rattle.re_terms.specs.declared.program.Decl.{Decl}
use Rattle.re_types.specs.Scopes.{plain_sort}
use Rattle.re_types.specs.Resolving.{Scope, then_others}
use Rattle.re_types.specs.declared.fault.TypeFault.{TypeFault}
use Rattle.re_types.specs.declared.fault.TypeFault.TheVariants as fault
use Rattle.re_types.proofs.Conjunctions.{both}
use Rattle.re_types.proofs.Declaring.{table-push}
use Rattle.re_types.proofs.Sorts.{sorts_of-length}
use Rattle.re_types.proofs.Outcomes.{few_before, IsNamed, declared-none, declared-some, follows}
use Rattle.re_types.proofs.resolving.Table.declare.Goals as goal

pub body-requires-clause-raw : goal.body-requires-clause-raw
body-requires-clause-raw c = (both {a = is_name_text c.args.raw.now.name} {b = is_body c.args.raw.now.body} c.requires.raw).1

pub returns-in_default-sort_of-clause-fault : goal.returns-in_default-sort_of-clause-fault
returns-in_default-sort_of-clause-fault c =
    let room = sym c.has_room.ensures ∙ c.if-not-has_room.false in
    let named : IsNamed c.args.self.now c.args.raw.now c.in-Some.body = record {
      table = c.requires.table;
      room = rw c.len.ensures at room;
      new = sym c.knows.ensures ∙ c.if-knows.false;
      known = sym c.knows_body.ensures ∙ c.if-not-knows_body.false;
      body = sym c.in_ok-body.ensures.body ∙ c.in-Some.is;
    } in
    let broken = sym c.sort_of.ensures.sort ∙ ap (option_map plain_sort) c.in_default-sort_of.is in
    λ other. declared-none c.args.self.now c.args.raw.now c.in-Some.body named broken ∙ ap (λ k. Err (fault.Kind k)) (sym c.len-place.ensures)

pub push-requires-clause-few : goal.push-requires-clause-few
push-requires-clause-few c =
    let counts = c.args.self.now.counts in
    let few = few_before c.len.result counts.devices counts.cells counts.replicated c.args.raw.now.body (sym c.has_room.ensures ∙ c.if-not-has_room.false) in
    let count : Scope → ℕ = λ scope. length scope.sorts in
    let lengths = ap count c.requires.table.scope ∙ sorts_of-length c.args.self.now.decls.items in
    omega (arith, few, lengths, c.len.ensures)

pub returns-clause-table : goal.returns-clause-table
returns-clause-table c =
    let room = sym c.has_room.ensures ∙ c.if-not-has_room.false in
    let named : IsNamed c.args.self.now c.args.raw.now c.in-Some.body = record {
      table = c.requires.table;
      room = rw c.len.ensures at room;
      new = sym c.knows.ensures ∙ c.if-knows.false;
      known = sym c.knows_body.ensures ∙ c.if-not-knows_body.false;
      body = sym c.in_ok-body.ensures.body ∙ c.in-Some.is;
    } in
    let own = c.in-Some-sort_of.sort in
    let sort = sym c.sort_of.ensures.sort ∙ ap (option_map plain_sort) c.in-Some-sort_of.is in
    let ranged = rw c.in-Some.is at c.in_ok-body.ensures.ranged in
    let more = follows c.args.self.now c.args.raw.now c.in-Some.body (plain_sort own) named c.requires.raw sort ranged c.in-Some-sort_of.ensures.symbol c.in-Some-sort_of.ensures.number in
    let p = c.in_ok-push.ensures in
    table-push c.args.self.now c.push.new.self _ (plain_sort own) c.requires.table more p.decls p.scope p.devices p.cells p.replicated

pub returns-clause-declared : goal.returns-clause-declared
returns-clause-declared c =
    let room = sym c.has_room.ensures ∙ c.if-not-has_room.false in
    let named : IsNamed c.args.self.now c.args.raw.now c.in-Some.body = record {
      table = c.requires.table;
      room = rw c.len.ensures at room;
      new = sym c.knows.ensures ∙ c.if-knows.false;
      known = sym c.knows_body.ensures ∙ c.if-not-knows_body.false;
      body = sym c.in_ok-body.ensures.body ∙ c.in-Some.is;
    } in
    let own = c.in-Some-sort_of.sort in
    let sort = sym c.sort_of.ensures.sort ∙ ap (option_map plain_sort) c.in-Some-sort_of.is in
    let items = c.args.self.now.decls.items in
    let added : Result Decl TypeFault → Result (List Decl) TypeFault = λ o. then_others items o Ok in
    ap added (declared-some c.args.self.now c.args.raw.now c.in-Some.body (plain_sort own) named sort) ∙ ap Ok (sym (ap (λ l. l.items) c.in_ok-push.ensures.decls))
