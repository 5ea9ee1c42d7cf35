-- The words of a command line.
-- Read against: `run` and `check` are accepted; `run now`, `--help` and no word at all are refused.
use Rattle.std.specs.Prelude.{ℕ, ◌≡◌, ◌==◌, Bool, true, false, List, [], ◌∷◌, Option, Some, None, if◌then◌else◌, codes}
use Rattle.std.specs.List.{list_any}
use Rattle.std.specs.Str.{bytes_eq}
use Rattle.clap.specs.Words.{App, Shape, new_app, with_subcommand}
use Rattle.re_tool.specs.declared.words.Job.{Job}
use Rattle.re_tool.specs.declared.words.Job.TheVariants as job
use Rattle.re_tool.specs.declared.words.Wish.{Wish}
use Rattle.re_tool.specs.declared.words.Wish.TheVariants as wish

-- what one word asks for
abbrev pub job_of_word : List ℕ → Option Job
job_of_word word = if bytes_eq word (codes "run") then Some job.Run else if bytes_eq word (codes "check") then Some job.Check else None

-- the job that the words ask for, where they are accepted: one word
abbrev pub job_of : List (List ℕ) → Option Job
job_of (word ∷ []) = job_of_word word
job_of words = None

-- what is wished is this job
abbrev pub IsWish : Option Job → Wish → Type 0
IsWish o (wish.Job j) = o ≡ Some j

-- the word starts with `-`
abbrev pub is_option : List ℕ → Bool
is_option [] = false
is_option (byte ∷ bytes) = byte == 45

-- some word starts with `-`
abbrev pub has_option : List (List ℕ) → Bool
has_option = list_any is_option

-- a command without words of its own
abbrev pub bare : List ℕ → Shape
bare name = (new_app name).top

-- the command lines that are accepted: one of these words
abbrev pub grammar : App
grammar = let a = new_app (codes "rescala") in
    with_subcommand (with_subcommand (record a { top = record a.top { no_binary_name = true; disable_help_flag = true; disable_help_subcommand = true; subcommand_required = true } })
    (bare (codes "run"))) (bare (codes "check"))
