use Rattle.std.proofs.Common.{◌≡◌, ◌++◌, ◌∷◌, [], ap, ◌∙◌, append_assoc}
use Rattle.std.proofs.lemmas.Result.{on_ok_weaker}
use Rattle.re_record.specs.Spellings.{owner_bytes}
use Rattle.re_record.proofs.snapshots.write_owner.Goals as goal
use Rattle.re_wire.proofs.Appending.{appended_next}
use Rattle.re_wire.specs.Appended.{appended}

pub returns : goal.returns
unfolding owner_bytes
returns c =
    let out = c.args.out.now in
    let xs = c.to_be_bytes.result in
    let middle = 1 ∷ c.args.device ∷ [] in
    let ys = c.to_be_bytes-2.result in
    let two = appended_next out c.write.new.out c.write-2.new.out xs middle c.in_ok-write.ensures c.in_ok-write-2.ensures in
    on_ok_weaker c.write-3.result
    (λ e. appended_next out c.write-2.new.out c.write-3.new.out (xs ++ middle) ys two e ∙ ap (appended out) (append_assoc xs middle ys) ∙ (λ i. appended out (c.to_be_bytes.ensures i ++ (1 ∷ c.args.device ∷ c.to_be_bytes-2.ensures i))))
    c.write-3.ensures
