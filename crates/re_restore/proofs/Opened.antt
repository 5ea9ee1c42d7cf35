-- To what two files open, by what was found in them.
use Rattle.std.proofs.Common.{inl, inr, ℕ, List, Some, refl, sym, ap}
use Rattle.re_outside.specs.Frame as frame
use Rattle.re_outside.specs.Frame.{HasStoreFrame}
use Rattle.re_record.specs.Restoring.{Opened, unopened}
use Rattle.re_record.specs.Snapshots.{HasOtherText}
use Rattle.re_record.specs.Stores.{Bad, Blank, ComesTo, HasStore, OpensTo, OtherProgram, Store}
use Rattle.re_terms.specs.declared.program.Program.{Program}
use Rattle.re_restore.specs.Reading.{IsRefusedStore}

-- a store opens to what its snapshot and records come to
pub opens_store : (p : Program) (device file : ℕ) (a b body : List ℕ) (bodies : List (List ℕ)) (o : Opened) → HasStoreFrame a b (frame.Store file body bodies) → ComesTo p device body bodies o → OpensTo p device a b o
opens_store p device file a b body bodies o has c =
    (Store (frame.generation body) c.snapshot c.entries, (file, body, bodies, has, refl, c.reads, c.records), ap Some (sym c.opened))

-- two blank files open to the start
pub opens_blank : (p : Program) (device : ℕ) (a b : List ℕ) → HasStoreFrame a b frame.Blank → OpensTo p device a b (unopened p)
opens_blank p device a b has = (Blank, has, refl)

-- a store is refused where its file is, or its snapshot or a record of it
pub bad_frame : (p : Program) (device file at : ℕ) (a b : List ℕ) → HasStoreFrame a b (frame.Bad file at) → HasStore p device a b (Bad file at)
bad_frame p device file at a b has = inl has

pub bad_store : (p : Program) (device file at : ℕ) (a b body : List ℕ) (bodies : List (List ℕ)) → HasStoreFrame a b (frame.Store file body bodies) → IsRefusedStore p device body bodies at → HasStore p device a b (Bad file at)
bad_store p device file at a b body bodies has is = inr (body, bodies, has, is)

pub other_store : (p : Program) (device file : ℕ) (a b body : List ℕ) (bodies : List (List ℕ)) → HasStoreFrame a b (frame.Store file body bodies) → HasOtherText p device body → HasStore p device a b OtherProgram
other_store p device file a b body bodies has is = (file, body, bodies, has, is)
