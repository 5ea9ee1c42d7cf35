use Rattle.std.proofs.Common.{◌∙◌, Err, ap, arith}
use Rattle.re_replica.proofs.Acts.{count_inserted, not_over}
use Rattle.re_replica.proofs.acting.act_on.Goals.{in-Counter-Add+in-Ok, in-Counter-Add+in-Err, in-Set-Insert+in-Ok-insert, in-Set-Insert+in-Err-Memory, in-Set-Insert+in-Err-SetFull, in-Set-Remove, in-Register-Write+in-Ok-assign, in-Register-Write+in-Err-assign, in_default, in_default-2, in_default-3}
use Rattle.re_replica.proofs.acting.act_on.Goals as goal

pub returns-clause-set_full : goal.returns-clause-set_full
returns-clause-set_full c =
    let dot = c.args.dot in
    let act = c.args.act in
    let cell = c.args.cell.now in
    let room = c.args.room in
    elim c.match-cell.branch [
      | in-Counter-Add+in-Ok w ↦ (λ e. absurd (cc), λ over. absurd (not_over dot act cell room c.requires.within (λ e ps a b. cc) over))
      | in-Counter-Add+in-Err w ↦ (λ e. absurd (cc), λ over. absurd (not_over dot act cell room c.requires.within (λ e ps a b. cc) over))
      | in-Set-Insert+in-Ok-insert w ↦
          let count = count_inserted dot act cell w.in-Set-Insert.element w.in-Set-Insert.pairs w.in-Set-Insert.is-1 w.in-Set-Insert.is-0 in
          (λ e. absurd (cc), λ over. let full = w.insert.ensures.full.1 (omega arith) in absurd (cc))
      | in-Set-Insert+in-Err-Memory w ↦
          let count = count_inserted dot act cell w.in-Set-Insert.element w.in-Set-Insert.pairs w.in-Set-Insert.is-1 w.in-Set-Insert.is-0 in
          (λ e. absurd (cc), λ over. let full = w.insert.ensures.full.1 (omega arith) in absurd (cc))
      | in-Set-Insert+in-Err-SetFull w ↦
          let count = count_inserted dot act cell w.in-Set-Insert.element w.in-Set-Insert.pairs w.in-Set-Insert.is-1 w.in-Set-Insert.is-0 in
          let over = w.insert.ensures.full.0 (w.in-Err-SetFull.is ∙ ap Err w.in-Err-SetFull.field-0-is) in
          (λ _. omega arith, λ _. w.result-is)
      | in-Set-Remove w ↦ (λ e. absurd (cc), λ over. absurd (not_over dot act cell room c.requires.within (λ e ps a b. cc) over))
      | in-Register-Write+in-Ok-assign w ↦ (λ e. absurd (cc), λ over. absurd (not_over dot act cell room c.requires.within (λ e ps a b. cc) over))
      | in-Register-Write+in-Err-assign w ↦ (λ e. absurd (cc), λ over. absurd (not_over dot act cell room c.requires.within (λ e ps a b. cc) over))
      | in_default w ↦ (λ e. absurd (cc), λ over. absurd (not_over dot act cell room c.requires.within (λ e ps a b. cc) over))
      | in_default-2 w ↦ (λ e. absurd (cc), λ over. absurd (not_over dot act cell room c.requires.within (λ e ps a b. grind (arith, w.in_default)) over))
      | in_default-3 w ↦ (λ e. absurd (cc), λ over. absurd (not_over dot act cell room c.requires.within (λ e ps a b. cc) over))
    ]
