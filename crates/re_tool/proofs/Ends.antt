-- What a call that fails adds to what was done.
use Rattle.std.proofs.Common.{arith, ◌≡◌, ◌++◌, [], ℕ, List, Bool, true, false, subst}
use Rattle.std.proofs.lemmas.List.{append-nil}
use Rattle.re_outside.specs.Outside.{Seen, Input, Output, Does, DoesWith, Fails, Faults, none, plus, input_fault, output_fault}
use Rattle.re_outside.specs.declared.step.Call.TheVariants as call
use Rattle.re_outside.specs.declared.step.Step.{Step}
use Rattle.re_outside.proofs.Does.{does_with-trans, fails_take}
use Rattle.re_session.specs.Serving.{Goes}
use Rattle.re_tool.specs.Session.{one_if}

abbrev pub AnySteps : List Step → Type 0
AnySteps steps = Unit {0}

-- Bytes are read and a text is said, and a call that takes failed or didn't, and one that says.
pub record Ran (a b : Seen) (read text : List ℕ) (failed broke : Bool) : Type 0 where
  pub faults : Faults
  pub input : faults Input ≡ one_if failed
  pub output : faults Output ≡ one_if broke
  pub does : DoesWith AnySteps a b read text faults

pub ran_goes : (a b : Seen) (read text : List ℕ) → Goes a b read text → Ran a b read text false false
ran_goes a b read text g = record { faults = g.faults; input = g.input; output = g.output; does = g.does }

-- one part behind the other
behind : {P : List Step → Type 0} (a b c : Seen) (read text more : List ℕ) (f g : Faults) → DoesWith AnySteps a b read text f → DoesWith P b c [] more g → DoesWith AnySteps a c read (text ++ more) (plus f g)
behind {P} a b c read text more f g d e = subst (λ x. DoesWith AnySteps a c x (text ++ more) (plus f g)) (append-nil read) (does_with-trans AnySteps P AnySteps a b c read [] text more f g (λ xs ys p q. tt) d e)

-- a `take` fails behind what was done
pub ran_input : (a b c : Seen) (read text : List ℕ) → Ran a b read text false false → Fails b c call.Take input_fault → Ran a c read text true false
ran_input a b c read text r f = record {
  faults = plus r.faults input_fault;
  input = omega (arith, r.input);
  output = omega (arith, r.output);
  does = subst (λ x. DoesWith AnySteps a c read x (plus r.faults input_fault)) (append-nil text) (behind a b c read text [] r.faults input_fault r.does (fails_take b c f));
}

-- a text is said behind what was done
pub ran_says : (a b c : Seen) (read text more : List ℕ) (failed : Bool) → Ran a b read text failed false → Does b c [] more none → Ran a c read (text ++ more) failed false
ran_says a b c read text more failed r d = record {
  faults = plus r.faults none;
  input = omega (arith, r.input);
  output = omega (arith, r.output);
  does = behind a b c read text more r.faults none r.does d;
}

-- a `say` fails behind what was done
pub ran_breaks : (a b c : Seen) (read text front : List ℕ) (failed : Bool) → Ran a b read text failed false → Does b c [] front (plus none output_fault) → Ran a c read (text ++ front) failed true
ran_breaks a b c read text front failed r d = record {
  faults = plus r.faults (plus none output_fault);
  input = omega (arith, r.input);
  output = omega (arith, r.output);
  does = behind a b c read text front r.faults (plus none output_fault) r.does d;
}
