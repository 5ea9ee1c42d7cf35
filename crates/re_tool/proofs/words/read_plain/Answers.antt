use Rattle.std.proofs.Common.{Bor, Global, IfErr, IfOk, List, Option, map, None, option_map, subst, sym, ℕ, ◌∙◌, ◌≡◌}
use Rattle.std.specs.Prelude.{option_and_then}
use Rattle.std.specs.String.{string_bytes}
use Rattle.clap.specs.Words.{app_of}
use Rattle.re_tool.proofs.CommandLines.{accepted_words, refused_words}
use Rattle.re_tool.proofs.words.read_plain.Goals as goal
use Rattle.re_tool.specs.Words.{IsWish, job_of, job_of_word}
use Rattle.re_tool.specs.declared.words.Job.{Job}
use Rattle.re_tool.specs.declared.words.WordFault.TheVariants.{Words}

pub returns-in-Ok-clause-accepted : goal.returns-in-Ok-clause-accepted
returns-in-Ok-clause-accepted c =
    let words = map (string_bytes {Z = Global}) c.args.words.now in
    let is = accepted_words (app_of c.in_ok-grammar.field-0) words c.in-Ok.matches (option_map (λ (w : Bor (List ℕ)). w.now) c.subcommand_name.result) c.in_ok-grammar.ensures c.requires.plain c.in-Ok.ensures.kinds c.in-Ok.ensures.matches c.subcommand_name.ensures in
    subst (λ (o : Option Job). IfOk c.wish_of.result (IsWish o)) (sym is) c.wish_of.ensures.accepted

pub returns-in-Ok-clause-refused : goal.returns-in-Ok-clause-refused
returns-in-Ok-clause-refused c = λ e.
    let words = map (string_bytes {Z = Global}) c.args.words.now in
    let is = accepted_words (app_of c.in_ok-grammar.field-0) words c.in-Ok.matches (option_map (λ (w : Bor (List ℕ)). w.now) c.subcommand_name.result) c.in_ok-grammar.ensures c.requires.plain c.in-Ok.ensures.kinds c.in-Ok.ensures.matches c.subcommand_name.ensures in
    is ∙ subst (λ r. IfErr r (λ fault. option_and_then job_of_word (option_map (λ (w : Bor (List ℕ)). w.now) c.subcommand_name.result) ≡ None)) e c.wish_of.ensures.refused

pub returns-in-Err-clause-refused : goal.returns-in-Err-clause-refused
returns-in-Err-clause-refused c = λ e.
    let words = map (string_bytes {Z = Global}) c.args.words.now in
    let told : c.word_fault.result ≡ Words = cc in
    refused_words (app_of c.in_ok-grammar.field-0) words c.in-Err.fault c.in_ok-grammar.ensures c.in-Err.ensures.kinds (λ oom. c.word_fault.ensures told (c.kind.ensures ∙ oom))
