-- An entry of the program may be done, and its changes have their places.
use Rattle.std.proofs.Common.{◌≡◌, List, true, ap, subst, sym, ◌∙◌}
use Rattle.std.specs.List.{list_all}
use Rattle.re_terms.specs.WordKinds.{is_change_of}
use Rattle.re_terms.specs.declared.entry.Put.{Put}
use Rattle.re_restore.proofs.OneEntry.{takes_in, words_kept}
use Rattle.re_restore.proofs.Placing.{changes_declared, changes_own, changes_placed}
use Rattle.re_restore.proofs.replay.Replay.replay_entry.Goals as goal

pub do_entry-requires : goal.do_entry-requires
do_entry-requires c = takes_in c.args.p.now c.args.self.now.replica.shape c.args.logged.now.entry c.requires.keeps.shape c.requires.entry.entry

pub put_changes-requires-clause-declared : goal.put_changes-requires-clause-declared
put_changes-requires-clause-declared c =
    changes_declared c.args.p.now.decls.items c.as_slice.result.now c.as_slice-changes.result.now (c.as_slice.ensures ∙ ap (λ x. x.words.items) c.requires.keeps.places)
    (subst (λ (l : List Put). list_all (is_change_of c.args.p.now.decls.items) l ≡ true) (sym c.as_slice-changes.ensures) c.requires.entry.changes.kinds)

pub put_changes-requires-clause-placed : goal.put_changes-requires-clause-placed
put_changes-requires-clause-placed c =
    changes_placed c.args.p.now.decls.items c.as_slice.result.now c.as_slice-changes.result.now (c.as_slice.ensures ∙ ap (λ x. x.words.items) c.requires.keeps.places)
    (subst (λ (l : List Put). list_all (is_change_of c.args.p.now.decls.items) l ≡ true) (sym c.as_slice-changes.ensures) c.requires.entry.changes.kinds)
    _ c.requires.keeps.words.count

pub put_changes-requires-clause-own : goal.put_changes-requires-clause-own
put_changes-requires-clause-own c =
    changes_own c.args.p.now.decls.items c.as_slice.result.now c.as_slice-changes.result.now (c.as_slice.ensures ∙ ap (λ x. x.words.items) c.requires.keeps.places)
    (subst (λ (l : List Put). list_all (is_change_of c.args.p.now.decls.items) l ≡ true) (sym c.as_slice-changes.ensures) c.requires.entry.changes.kinds)

pub returns-clause-keeps : goal.returns-clause-keeps
returns-clause-keeps c =
    record {
      words = words_kept c.args.p.now c.args.self.now.words c.put_changes.new.words c.as_slice-changes.result.now c.requires.keeps.words
          (subst (λ (l : List Put). list_all (is_change_of c.args.p.now.decls.items) l ≡ true) (sym c.as_slice-changes.ensures) c.requires.entry.changes.kinds)
          c.put_changes.ensures;
      unreserved = ap (λ l. l.spare) c.put_changes.ensures ∙ c.requires.keeps.unreserved;
      places = c.requires.keeps.places;
      shape = ap (λ r. r.shape) c.in_ok-do_entry.ensures.state ∙ c.requires.keeps.shape;
      number = c.if-number-ge-NUMBERS.false;
    }
