-- What stays while bytes are read and a text is said.
use Rattle.std.proofs.Common.{◌≡◌, ◌++◌, ◌∷◌, [], ℕ, List, ap, length, subst, sym, true, ◌∙◌}
use Rattle.std.proofs.lemmas.List.{append-nil}
use Rattle.re_outside.proofs.Elsewhere.{kept_by_outputs}
use Rattle.re_outside.specs.Moment.{IsKept}
use Rattle.re_outside.specs.Outside.{Does, Faults, Seen}
use Rattle.re_outside.specs.Port.{past_in}
use Rattle.re_outside.specs.Trace.{Past, content_at, with_steps}
use Rattle.re_record.specs.Represents.{Represents}
use Rattle.re_session.proofs.Acting.{line_goes, texts-append}
use Rattle.re_session.specs.Acts.{Acts, DoneLine}
use Rattle.re_session.specs.Begins.{Begins}
use Rattle.re_session.specs.LineAnswers.{texts}
use Rattle.re_terms.specs.DeviceWorlds.{Outcome, World}
use Rattle.re_terms.specs.Runs.{PlainState}
use Rattle.re_terms.specs.Updates.{Update}
use Rattle.re_terms.specs.declared.program.Program.{Program}
use Rattle.re_world.proofs.Stepped.{world_kept}
use Rattle.re_world.specs.Standing.{IsWorldOf}
use Rattle.re_world.specs.Starting.{IsBaseOf, StartsAt}
use Rattle.re_world.specs.State.{WorldState}

-- no file changes
kept_on : (a b : Seen) (read text : List ℕ) (f : Faults) → a.told ≡ true → Does a b read text f → (d g : ℕ) → IsKept d g (past_in 0 a) (past_in 0 b)
kept_on a b read text f told does d g =
    let moved : past_in 0 b ≡ with_steps (past_in 0 a) does.steps = λ i. record { device = 0; start = does.moves.start told i; trace = does.moves.trace told i } in
    subst (IsKept d g (past_in 0 a)) (sym moved) (kept_by_outputs d g (past_in 0 a) does.steps does.holds)

-- a world stays what it is
pub world_on : (p : Program) (w : World) (v : WorldState) (a b : Seen) (read text : List ℕ) (f : Faults) → a.told ≡ true → Does a b read text f → IsWorldOf p w v a → IsWorldOf p w v b
world_on p w v a b read text f told does is = world_kept p w v a b is (kept_on a b read text f told does)

-- files start the same world
starts_on : (p : Program) (base : ℕ → PlainState) (number : ℕ → ℕ) (log : List Update) (old now : Past) → ((d g : ℕ) → IsKept d g old now) → StartsAt p base number log old → StartsAt p base number log now
starts_on p base number log old now kept s =
    let same : content_at now ≡ content_at old = λ i d g. (kept d g).content i in
    record {
      settled = λ d g file image. s.settled d g file ((kept d g).images file image) ∙ sym ((kept d g).content);
      represents = subst (λ files. Represents p files log) (sym same) s.represents;
      bases = λ d below. subst (λ files. IsBaseOf p d (files d 0) (files d 1) log (base d) (number d)) (sym same) (s.bases d below);
    }

-- a session may begin in the same world
pub begins_on : (p : Program) (w : World) (a b : Seen) (read text : List ℕ) (f : Faults) → Does a b read text f → Begins p w a → Begins p w b
begins_on p w a b read text f does h = record {
  told = does.moves.told ∙ h.told;
  base = h.base;
  base_number = h.base_number;
  log = h.log;
  starts = starts_on p h.base h.base_number h.log (past_in 0 a) (past_in 0 b) (kept_on a b read text f h.told does) h.starts;
  is = h.is;
}

-- an outside tells what is seen always or never
pub acts_told : (p : Program) (lines : List DoneLine) (v v' : WorldState) (a b : Seen) → Acts p lines v v' a b → b.told ≡ a.told
acts_told p [] v v' a b e = ap (λ (s : Seen). s.told) e.1
acts_told p (l ∷ lines) v v' a b e =
    acts_told p lines e.devices v' e.mid b e.there
    ∙ (e.here.says.moves.told ∙ ((line_goes p l.line v e.devices l.answer l.outcome e.here.begun e.here.done e.here.own).does.moves.told ∙ e.here.reads.moves.told))

-- an outcome more changes nothing before it
pub texts_front : (p : Program) (w : World) (lines : List (List ℕ)) (os : List Outcome) (o : Outcome) → length os ≡ length lines → texts p w lines (os ++ o ∷ []) ≡ texts p w lines os
texts_front p w lines os o h = ap (λ l. texts p w l (os ++ o ∷ [])) (sym (append-nil lines)) ∙ texts-append p w lines [] os (o ∷ []) h ∙ append-nil (texts p w lines os)
