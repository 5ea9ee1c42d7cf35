-- No line means that memory ran out.
use Rattle.std.proofs.Common.{ℕ, Bool, true, false, ◌≡◌, [], ◌∷◌, List, Option, Some, None, Ok, Err, ap, length, refl}
use Rattle.std.specs.Prelude.{Result, nat_lt, if◌then◌else◌}
use Rattle.re_commands.specs.Commanding.{is_device_at, device_number, device_at, shown_at, made, turn_as, both, meant, line_meant, marks_meant, commanded}
use Rattle.re_commands.specs.Faults.{first_fault}
use Rattle.re_commands.specs.LineGrammar.{Line, Turn, Lazy, Settle, Get, Send, Deliver, Hex, Crash, Restart, read_line}
use Rattle.re_commands.specs.declared.fault.CommandFault.{CommandFault}
use Rattle.re_commands.specs.declared.fault.CommandFault.TheVariants as fault
use Rattle.re_terms.specs.Admission.{is_shown_at}
use Rattle.re_terms.specs.declared.entry.Admitted.{Admitted}
use Rattle.re_terms.specs.declared.program.Decl.{Decl}
use Rattle.re_terms.specs.declared.program.Program.{Program}
use Rattle.re_terms.specs.declared.raw.RawTurn.{RawTurn}
use Rattle.re_terms.specs.declared.token.Mark.{Mark}
use Rattle.re_tokens.specs.WholeLists.{tokens_of}
use Rattle.re_types.specs.Admitting.{admitted}
use Rattle.re_types.specs.declared.fault.AdmitFault.{AdmitFault}
use Rattle.re_types.specs.declared.fault.AdmitFault.TheVariants as parts

device_no : (decls : List Decl) (o : Option ℕ) → device_at decls o ≡ Err fault.Memory → ⊥
device_no decls None h = absurd (cc)
device_no decls (Some id) h = by (is_device_at decls id) h
  where
    by : (b : Bool) → (if b then Ok (device_number decls id) else Err fault.Kind) ≡ Err fault.Memory → ⊥
    by true h = cc
    by false h = cc

shown_no : (decls : List Decl) (o : Option ℕ) → shown_at decls o ≡ Err fault.Memory → ⊥
shown_no decls None h = absurd (cc)
shown_no decls (Some id) h = by (is_shown_at decls id) h
  where
    by : (b : Bool) → (if b then Ok id else Err fault.Kind) ≡ Err fault.Memory → ⊥
    by true h = cc
    by false h = cc

parts_no : (p : Program) (turn : RawTurn) (r : Result Admitted AdmitFault) → (r ≡ Err parts.Memory → ⊥) → turn_as r ≡ Err fault.Memory → ⊥
parts_no p turn (Ok t) n h = cc
parts_no p turn (Err parts.Memory) n h = n refl
parts_no p turn (Err parts.Unknown) n h = cc
parts_no p turn (Err parts.Kind) n h = cc
parts_no p turn (Err parts.Twice) n h = cc
parts_no p turn (Err parts.Empty) n h = cc
parts_no p turn (Err parts.TooMany) n h = cc

chosen : (b : Bool) (f : AdmitFault) (rest : Result Admitted AdmitFault) → (f ≡ parts.Memory → ⊥) → (rest ≡ Err parts.Memory → ⊥) → (if b then Err f else rest) ≡ Err parts.Memory → ⊥
chosen true f rest n m h = let e : f ≡ parts.Memory = cc in n e
chosen false f rest n m h = m h

unknown_no : parts.Unknown ≡ parts.Memory → ⊥
unknown_no e = cc

kind_no : parts.Kind ≡ parts.Memory → ⊥
kind_no e = cc

twice_no : parts.Twice ≡ parts.Memory → ⊥
twice_no e = cc

empty_no : parts.Empty ≡ parts.Memory → ⊥
empty_no e = cc

too_many_no : parts.TooMany ≡ parts.Memory → ⊥
too_many_no e = cc

taken_no : (t : Admitted) → ◌≡◌ {A = Result Admitted AdmitFault} (Ok t) (Err parts.Memory) → ⊥
taken_no t e = cc

turn_no : (p : Program) (turn : RawTurn) → admitted p turn ≡ Err parts.Memory → ⊥
turn_no p turn = chosen _ parts.Unknown _ unknown_no (chosen _ parts.Kind _ kind_no (chosen _ parts.Twice _ twice_no (chosen _ parts.Empty _ empty_no (chosen _ parts.TooMany _ too_many_no (taken_no _)))))

first_no : (e f : CommandFault) (b : Bool) → (e ≡ fault.Memory → ⊥) → (f ≡ fault.Memory → ⊥) → (if b then e else f) ≡ fault.Memory → ⊥
first_no e f true n m h = n h
first_no e f false n m h = m h

both_no : {A B : Type 0} (x : Result A CommandFault) (y : Result B CommandFault) → (x ≡ Err fault.Memory → ⊥) → (y ≡ Err fault.Memory → ⊥) → both x y ≡ Err fault.Memory → ⊥
both_no (Ok x) (Ok y) n m h = cc
both_no (Ok x) (Err f) n m h = let e : f ≡ fault.Memory = cc in m (ap Err e)
both_no (Err e) (Ok y) n m h = let k : e ≡ fault.Memory = cc in n (ap Err k)
both_no (Err e) (Err f) n m h = let k : first_fault e f ≡ fault.Memory = cc in first_no e f _ (λ q. n (ap Err q)) (λ q. m (ap Err q)) k

made_no : {A B : Type 0} (f : A → B) (x : Result A CommandFault) → (x ≡ Err fault.Memory → ⊥) → made f x ≡ Err fault.Memory → ⊥
made_no f (Ok x) n h = cc
made_no f (Err e) n h = let k : e ≡ fault.Memory = cc in n (ap Err k)

meant_no : (p : Program) (line : Line) → meant p line ≡ Err fault.Memory → ⊥
meant_no p (Turn device turn) h = made_no _ _ (both_no _ _ (device_no p.decls.items _) (parts_no p turn (admitted p turn) (turn_no p turn))) h
meant_no p (Lazy device turn) h = made_no _ _ (both_no _ _ (device_no p.decls.items _) (parts_no p turn (admitted p turn) (turn_no p turn))) h
meant_no p (Settle device) h = made_no _ _ (device_no p.decls.items _) h
meant_no p (Get device name) h = made_no _ _ (both_no _ _ (device_no p.decls.items _) (shown_no p.decls.items _)) h
meant_no p (Send device) h = made_no _ _ (device_no p.decls.items _) h
meant_no p (Deliver packet device) h = made_no _ _ (device_no p.decls.items _) h
meant_no p (Hex packet) h = cc
meant_no p (Crash device) h = made_no _ _ (device_no p.decls.items _) h
meant_no p (Restart device) h = made_no _ _ (device_no p.decls.items _) h

line_no : (p : Program) (o : Option Line) → line_meant p o ≡ Err fault.Memory → ⊥
line_no p None h = cc
line_no p (Some line) h = meant_no p line h

marks_no : (p : Program) (o : Option (List Mark)) → marks_meant p o ≡ Err fault.Memory → ⊥
marks_no p None h = cc
marks_no p (Some []) h = cc
marks_no p (Some (m ∷ marks)) h = made_no Some (line_meant p (read_line (m ∷ marks))) (line_no p (read_line (m ∷ marks))) h

-- no line means that memory ran out
pub no_memory : (p : Program) (line : List ℕ) → commanded p line ≡ Err fault.Memory → ⊥
no_memory p line h = by (nat_lt 1024 (length line)) h
  where
    by : (b : Bool) → (if b then Err fault.Syntax else marks_meant p (tokens_of line)) ≡ Err fault.Memory → ⊥
    by true h = cc
    by false h = marks_no p (tokens_of line) h
