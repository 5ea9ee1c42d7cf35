-- What the expression of a declaration names beside its cells.
-- Read against: `self + arg` is given what it names in a fold, `arg + 1` in a fold, `map` and `filter`, and neither in a signal.
use Rattle.std.specs.Prelude.{Bool, true, false}
use Rattle.re_terms.specs.declared.program.Body.{Body}
use Rattle.re_terms.specs.declared.program.Body.TheVariants as body
use Rattle.re_eval.specs.Given.{is_given}

-- a signal's expression names neither `arg` nor `self`, and one at an event doesn't name `self`
abbrev pub is_given_body : Body → Bool
is_given_body (body.Signal kind expr) = is_given false false expr
is_given_body (body.Map source kind expr) = is_given true false expr
is_given_body (body.Filter source expr) = is_given true false expr
is_given_body (body.Fold kind start source expr region) = is_given true true expr
is_given_body b = true
