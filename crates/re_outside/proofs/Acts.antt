-- What steps were to a file, one part behind the other.
use Rattle.std.proofs.Common.{◌≡◌, ℕ, List, [], ◌∷◌, ◌++◌, refl, sym, ◌∙◌, ap, append_assoc}
use Rattle.re_outside.specs.FileAct.{FileAct}
use Rattle.re_outside.specs.Trace.{acts_of, act_of}
use Rattle.re_outside.specs.declared.step.Step.{Step}

-- what the steps of two parts were to a file
pub acts_of-append : (d f : ℕ) (xs ys : List Step) → acts_of d f (xs ++ ys) ≡ acts_of d f xs ++ acts_of d f ys
acts_of-append d f [] ys = refl
acts_of-append d f (s ∷ xs) ys = ap (λ (l : List FileAct). act_of d f s ++ l) (acts_of-append d f xs ys) ∙ sym (append_assoc (act_of d f s) (acts_of d f xs) (acts_of d f ys))
