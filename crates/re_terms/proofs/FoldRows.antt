-- Worked sessions with folds, by the definitions of worlds and lines.
use Rattle.std.proofs.Common.{refl, ◌++◌, ◌≡◌, ℕ, ℤ, pos, List, [], ◌∷◌, ap, ◌∙◌}
use Rattle.std.specs.Prelude.{unwrap_or}
use Rattle.re_terms.specs.declared.command.Command.TheVariants as command
use Rattle.re_terms.specs.declared.expr.Expr.{Expr}
use Rattle.re_terms.specs.declared.expr.Expr.TheFolds.{fold-roll-Expr}
use Rattle.re_terms.specs.declared.expr.Expr.TheOpen.{Lit, Own, Bin}
use Rattle.re_terms.specs.declared.expr.Expr.TheVariants as expr
use Rattle.re_terms.specs.declared.expr.Op.TheVariants as op
use Rattle.re_terms.specs.declared.program.Body.TheVariants as body
use Rattle.re_terms.specs.declared.program.Program.{Program}
use Rattle.re_terms.specs.declared.replicated.Act.TheVariants.{Add}
use Rattle.re_terms.specs.declared.word.Kind.TheVariants as kind
use Rattle.re_terms.specs.declared.word.Word.{Word}
use Rattle.re_terms.specs.declared.word.Word.TheVariants as word
use Rattle.re_terms.specs.Arithmetic.{operator_word}
use Rattle.re_terms.specs.DeviceWorlds.{blank_world}
use Rattle.re_terms.specs.Entries.{Merge, PlainEntry, entry_after, run_entries, turn_entry}
use Rattle.re_terms.specs.Limits.{updates_made}
use Rattle.re_terms.specs.Lines.{acknowledged, Done, replies}
use Rattle.re_terms.specs.Meaning.{Environment, meaning, meaning_step}
use Rattle.re_terms.specs.Runs.{PlainState, plain_start}
use Rattle.re_terms.specs.Updates.{Update, greatest_number, vector_of, greatest_stamp, stamp_in}
use Rattle.re_terms.specs.Values.{total_amount}
use Rattle.re_terms.specs.Vectors.{by_device, covers}
use Rattle.re_terms.specs.WordOrder.{same_word}
use Rattle.re_terms.specs.Worlds.{Packet, Entered, Value, Down, Up, shown}
use Rattle.re_terms.proofs.WorldPrograms.{operated, on, declared, program, int, set_to, fine}

-- `self + 1`
abbrev one_more : Expr
one_more = expr.Bin op.Add expr.Own (expr.Lit (int (pos 1)))

one_more_is : (env : Environment) → meaning one_more env ≡ operator_word op.Add (unwrap_or env.own (word.Fault 2)) (int (pos 1))
unfolding Rattle.re_terms.specs.declared.expr.Expr.TheViews.roll-Expr denote.Hole.Carrier.roll
one_more_is env =
    ap (λ f. f env) (fold-roll-Expr (Environment → Word) meaning_step (Bin op.Add expr.Own (expr.Lit (int (pos 1)))))
    ∙ (λ i. operator_word op.Add (fold-roll-Expr (Environment → Word) meaning_step Own i env) (fold-roll-Expr (Environment → Word) meaning_step (Lit (int (pos 1))) i env))

-- `device a; var x: int = 1; event e = changed(x); fold n: int = 0 on e do self + 1;`
abbrev changing : Program
changing =
    program (
    declared body.Device
    ∷ declared (body.Var kind.Int (int (pos 1)) 1)
    ∷ declared (body.Changed 1)
    ∷ declared (body.Fold kind.Int (int (pos 0)) 2 one_more 1)
    ∷ []
    )

-- x and n
abbrev holding : ℤ → ℤ → PlainState
holding x n = record { words = int x ∷ int n ∷ []; taken = [] }

abbrev set_x : ℕ → PlainEntry
set_x n = turn_entry (set_to 1 (int (pos n)))

first : entry_after changing 0 (plain_start changing) (set_x 2) ≡ holding (pos 2) (pos 1)
unfolding same_word
first = ap (λ n. record { words = int (pos 2) ∷ n ∷ []; taken = [] }) (one_more_is _)

second : entry_after changing 0 (holding (pos 2) (pos 1)) (set_x 3) ≡ holding (pos 3) (pos 2)
unfolding same_word
second = ap (λ n. record { words = int (pos 3) ∷ n ∷ []; taken = [] }) (one_more_is _)

third : entry_after changing 0 (holding (pos 3) (pos 2)) (set_x 4) ≡ holding (pos 4) (pos 3)
unfolding same_word
third = ap (λ n. record { words = int (pos 4) ∷ n ∷ []; taken = [] }) (one_more_is _)

ran : run_entries changing 0 (plain_start changing) (set_x 2 ∷ set_x 3 ∷ set_x 4 ∷ []) ≡ holding (pos 4) (pos 3)
ran =
    ap (λ s. run_entries changing 0 s (set_x 3 ∷ set_x 4 ∷ [])) first
    ∙ ap (λ s. run_entries changing 0 s (set_x 4 ∷ [])) second
    ∙ third

-- turns, a fold that counts changes, and a restart with all of them
abbrev restarted : List Done
restarted =
    fine (command.Turn 0 (set_to 1 (int (pos 2))))
    ∷ fine (command.Turn 0 (set_to 1 (int (pos 3))))
    ∷ fine (command.Turn 0 (set_to 1 (int (pos 4))))
    ∷ fine (command.Crash 0)
    ∷ fine (command.Restart 0)
    ∷ fine (command.Get 0 1)
    ∷ fine (command.Get 0 3)
    ∷ fine (command.Turn 0 (set_to 1 (int (pos 5))))
    ∷ []

restarted_is : replies changing (blank_world changing) restarted ≡ Entered 1 ∷ Entered 2 ∷ Entered 3 ∷ Down ∷ Up 3 ∷ Value (int (pos 4)) ∷ Value (int (pos 3)) ∷ Entered 4 ∷ []
restarted_is = ap (λ s. Entered 1 ∷ Entered 2 ∷ Entered 3 ∷ Down ∷ Up 3 ∷ shown changing s 1 ∷ shown changing s 3 ∷ Entered 4 ∷ []) ran

-- ---- packets out of order, and one of them twice: each merge is an entry, and the fold steps where the counter changed

-- `device a; device b; counter c; event e = changed(c); fold n: int = 0 on e do self + 1;`
abbrev watched : Program
watched =
    program (
    declared body.Device
    ∷ declared body.Device
    ∷ declared body.Counter
    ∷ declared (body.Changed 2)
    ∷ declared (body.Fold kind.Int (int (pos 0)) 3 one_more 1)
    ∷ []
    )

abbrev out_of_order : List Done
out_of_order =
    fine (command.Turn 0 (operated (on 0 (Add (pos 2)) ∷ [])))
    ∷ fine (command.Send 0)
    ∷ fine (command.Turn 0 (operated (on 0 (Add (pos 3)) ∷ [])))
    ∷ fine (command.Send 0)
    ∷ fine (command.Deliver 1 1)
    ∷ fine (command.Deliver 1 1)
    ∷ fine (command.Deliver 0 1)
    ∷ fine (command.Get 1 2)
    ∷ fine (command.Get 1 4)
    ∷ []

-- the two packets
abbrev one_update : List Update
one_update = updates_made 0 (on 0 (Add (pos 2)) ∷ []) []

abbrev two_updates : List Update
two_updates = one_update ++ updates_made 0 (on 0 (Add (pos 3)) ∷ []) one_update

abbrev counted : PlainState
counted = record { words = int (pos 1) ∷ []; taken = two_updates }

first_merge : entry_after watched 1 (plain_start watched) (Merge two_updates) ≡ counted
unfolding vector_of greatest_number by_device covers total_amount greatest_stamp stamp_in same_word
first_merge = ap (λ n. record { words = n ∷ []; taken = two_updates }) (one_more_is _)

same_merge : entry_after watched 1 counted (Merge two_updates) ≡ counted
unfolding vector_of greatest_number by_device covers total_amount greatest_stamp stamp_in same_word
same_merge = refl

older_merge : entry_after watched 1 counted (Merge one_update) ≡ counted
unfolding vector_of greatest_number by_device covers total_amount greatest_stamp stamp_in same_word
older_merge = refl

merged : run_entries watched 1 (plain_start watched) (Merge two_updates ∷ Merge two_updates ∷ Merge one_update ∷ []) ≡ counted
merged =
    ap (λ s. run_entries watched 1 s (Merge two_updates ∷ Merge one_update ∷ [])) first_merge
    ∙ ap (λ s. run_entries watched 1 s (Merge one_update ∷ [])) same_merge
    ∙ older_merge

out_of_order_is : replies watched (blank_world watched) out_of_order ≡ Entered 1 ∷ Packet 0 ∷ Entered 2 ∷ Packet 1 ∷ Entered 1 ∷ Entered 2 ∷ Entered 3 ∷ Value (int (pos 5)) ∷ Value (int (pos 1)) ∷ []
unfolding vector_of greatest_number by_device covers total_amount greatest_stamp stamp_in same_word
out_of_order_is = ap (λ s. Entered 1 ∷ Packet 0 ∷ Entered 2 ∷ Packet 1 ∷ Entered 1 ∷ Entered 2 ∷ Entered 3 ∷ shown watched s 2 ∷ shown watched s 4 ∷ []) merged

-- the answers of the merges tell of the device that took them
told_is : acknowledged watched (blank_world watched) out_of_order 6 1 ≡ 2
unfolding vector_of greatest_number by_device covers greatest_stamp stamp_in
told_is = refl
