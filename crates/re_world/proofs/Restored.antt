-- A device over what was restored.
use Rattle.std.proofs.Common.{◌≡◌, ℕ, List, sym, ap, subst, ◌∙◌}
use Rattle.re_device.proofs.Memories.{plain_after}
use Rattle.re_device.specs.Device.{opened_at}
use Rattle.re_device.specs.Standing.{StandsSettled}
use Rattle.re_outside.specs.Trace.{Past}
use Rattle.re_record.specs.Restoring.{Opened}
use Rattle.re_record.specs.Stores.{ComesTo, OpensTo, laid}
use Rattle.re_restore.specs.Opening.{StandsOpened, opened_as}
use Rattle.re_restore.specs.declared.opening.Restored.{Restored}
use Rattle.re_terms.specs.Listed.{plain}
use Rattle.re_terms.specs.declared.entry.State.{State}
use Rattle.re_terms.specs.declared.program.Program.{Program}

-- nothing is reserved in the words of a state to which a store comes
unreserved : (p : Program) (d : ℕ) (snapshot : List ℕ) (bodies : List (List ℕ)) (o : Opened) → ComesTo p d snapshot bodies o → o.state.words.spare ≡ 0
unreserved p d snapshot bodies o comes = ap (λ (x : Opened). x.state.words.spare) comes.opened ∙ plain_after p d comes.entries (laid comes.snapshot) comes.reads.0.plain

plain_words : (s : State) (number : ℕ) → s.words.spare ≡ 0 → ◌≡◌ {A = Opened} (record { state = record { words = plain s.words.items; rep = s.rep }; number = number }) (record { state = s; number = number })
plain_words s number none = ap (λ (k : ℕ). record { state = record { words = record { items = s.words.items; spare = k }; rep = s.rep }; number = number }) (sym none)

module _ (p : Program) (d : ℕ) (r : Restored) (now : Past) (stands : StandsOpened p d r now) (room : ℕ) where
  -- what it has settled is what was restored
  pub settled_is : (opened_at p d r.state r.number).settled ≡ opened_as r
  settled_is = plain_words r.state r.number (unreserved p d stands.snapshot stands.bodies (opened_as r) stands.comes)

  -- the device stands there
  pub stands_restored : StandsSettled (record { memory = opened_at p d r.state r.number; room = room; generation = r.generation; journal = r.journal }) now
  stands_restored = record {
    snapshot = stands.snapshot;
    bodies = stands.bodies;
    stands = stands.stands;
    comes = subst (ComesTo p d stands.snapshot stands.bodies) (sym settled_is) stands.comes;
    number_is = stands.generation;
  }

  -- and its files opened to what it has settled
  pub opens_restored : (first second : List ℕ) → OpensTo p d first second (opened_as r) → OpensTo p d first second (opened_at p d r.state r.number).settled
  opens_restored first second opens = subst (OpensTo p d first second) (sym settled_is) opens
