-- What a line in hand is, as far as it is kept.
use Rattle.std.proofs.Common.{◌≡◌, ℕ, List, take, ◌∙◌, ap, subst, sym}
use Rattle.re_commands.specs.Commanding.{commanded}
use Rattle.re_outside.specs.Outside.{Seen}
use Rattle.re_session.specs.Serving.{DoesLine, Serves, asks, finds_no_memory, holds_none, is_faulty}
use Rattle.re_terms.specs.DeviceWorlds.{Outcome}
use Rattle.re_terms.specs.declared.command.Answer.{Answer}
use Rattle.re_terms.specs.declared.program.Program.{Program}
use Rattle.re_tool.specs.Clipped.{Clipped, clipped}
use Rattle.re_tool.specs.Lines.{without_return}
use Rattle.re_tool.proofs.Programs.{line-kept, line-kept_last}
use Rattle.re_world.specs.State.{WorldState}
use Rattle.std.specs.Prelude.{Option}

kept_is : (p : Program) (line' : Clipped) (most : ℕ) (raw : List ℕ) → line' ≡ clipped most raw → most ≡ 1026 → commanded p (without_return line'.items) ≡ commanded p (without_return raw)
kept_is p line' most raw e m = ap (λ (l : Clipped). commanded p (without_return l.items)) e ∙ ap (λ n. commanded p (without_return (take n raw))) m ∙ line-kept p raw

last_is : (p : Program) (line' : Clipped) (most : ℕ) (raw : List ℕ) → line' ≡ clipped most raw → most ≡ 1026 → commanded p line'.items ≡ commanded p raw
last_is p line' most raw e m = ap (λ (l : Clipped). commanded p l.items) e ∙ ap (λ n. commanded p (take n raw)) m ∙ line-kept_last p raw

-- the same line in other words
line_as : (p : Program) (line line' : List ℕ) (v v' : WorldState) (x : Option Answer) (o : Outcome) (a b : Seen) → commanded p line ≡ commanded p line' → DoesLine p line v v' x o a b → DoesLine p line' v v' x o a b
line_as p line line' v v' x o a b e (holds_none is none fine same still) = holds_none (sym e ∙ is) none fine same still
line_as p line line' v v' x o a b e (is_faulty is answer fine same still) = is_faulty (sym e ∙ is) answer fine same still
line_as p line line' v v' x o a b e (finds_no_memory some answer memory same still) = finds_no_memory (λ h. some (e ∙ h)) answer memory same still
line_as p line line' v v' x o a b e (asks is answer does) = asks (sym e ∙ is) answer does

module _ (p : Program) (line' : Clipped) (most : ℕ) (raw : List ℕ) (v v' : WorldState) (a b : Seen) (Told : Seen → Seen → List ℕ → Type 0) (e : line' ≡ clipped most raw) (m : most ≡ 1026) where
  pub serves_kept : Serves p (without_return line'.items) v v' a b Told → Serves p (without_return raw) v v' a b Told
  serves_kept s = record { answer = s.answer; outcome = s.outcome; done = s.done; does = line_as p _ _ v v' s.answer s.outcome a s.done (kept_is p line' most raw e m) s.does; told = s.told }

  pub serves_kept_last : Serves p line'.items v v' a b Told → Serves p raw v v' a b Told
  serves_kept_last s = record { answer = s.answer; outcome = s.outcome; done = s.done; does = line_as p _ _ v v' s.answer s.outcome a s.done (last_is p line' most raw e m) s.does; told = s.told }

-- the same of the same program
pub serves_of : (p q : Program) (line : List ℕ) (v v' : WorldState) (a b : Seen) (Told : Seen → Seen → List ℕ → Type 0) → p ≡ q → Serves p line v v' a b Told → Serves q line v v' a b Told
serves_of p q line v v' a b Told e s = subst (λ r. Serves r line v v' a b Told) e s
