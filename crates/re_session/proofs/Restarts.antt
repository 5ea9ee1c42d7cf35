-- A line that restarts a device names one of the program.
use Rattle.std.proofs.Common.{◌≡◌, ◌<◌, [], ◌∷◌, ℕ, Bool, true, false, Err, List, None, Ok, Option, Some, ap, get_or, length, refl, subst, sym, take, ◌∙◌, zero, suc}
use Rattle.std.specs.Prelude.{Result, if◌then◌else◌, nat_lt, slice_get}
use Rattle.std.specs.Option.{option_map_or}
use Rattle.std.proofs.lemmas.Option.{slice_get_within}
use Rattle.re_commands.proofs.Devices.{number_below}
use Rattle.re_commands.specs.Commanding.{commanded, device_at, device_number, device_of, device_turn, is_device_at, line_meant, made, marks_meant, meant, both, shown_of}
use Rattle.re_commands.specs.LineGrammar.{Crash, Deliver, Get, Hex, Lazy, Line, Restart, Send, Settle, Turn, read_line}
use Rattle.re_commands.specs.declared.fault.CommandFault.{CommandFault}
use Rattle.re_commands.specs.declared.fault.CommandFault.TheVariants as fault
use Rattle.re_terms.specs.Admission.{device_count}
use Rattle.re_terms.specs.Programs.{is_device, names_of}
use Rattle.re_terms.specs.declared.command.Command.{Command}
use Rattle.re_terms.specs.declared.command.Command.TheVariants as command
use Rattle.re_terms.specs.declared.program.Decl.{Decl}
use Rattle.re_terms.specs.declared.program.Program.{Program}
use Rattle.re_terms.specs.declared.token.Mark.{Mark}
use Rattle.re_tokens.specs.WholeLists.{tokens_of}
use Rattle.re_types.specs.Resolving.{place_of}

-- ---- devices

found : (xs : List Decl) (i : ℕ) (x y : Decl) → slice_get xs i ≡ Some x → x ≡ get_or xs i y
found [] i x y e = absurd (cc)
found (z ∷ xs) zero x y e = cc
found (z ∷ xs) (suc i) x y e = found xs i x y e

numbered : (decls : List Decl) (id : ℕ) (o : Option Decl) → slice_get decls id ≡ o → option_map_or is_device o false ≡ true → device_count (take id decls) < device_count decls
numbered decls id None at is = absurd (cc)
numbered decls id (Some d) at is = number_below decls id d (slice_get_within decls id d at) (found decls id d d at) is

device_below : (decls : List Decl) (o : Option ℕ) (d : ℕ) → device_at decls o ≡ Ok d → d < device_count decls
device_below decls None d e = absurd (cc)
device_below decls (Some id) d e = by (is_device_at decls id) refl
  where
    by : (b : Bool) → is_device_at decls id ≡ b → d < device_count decls
    by true is =
        let h : ◌≡◌ {A = Result ℕ CommandFault} (Ok (device_number decls id)) (Ok d) = sym (ap (λ b. if b then Ok (device_number decls id) else Err fault.Kind) is) ∙ e in
        let same : device_number decls id ≡ d = cc in
        subst (λ n. n < device_count decls) same (numbered decls id (slice_get decls id) refl is)
    by false is = let h : ◌≡◌ {A = Result ℕ CommandFault} (Err fault.Kind) (Ok d) = sym (ap (λ b. if b then Ok (device_number decls id) else Err fault.Kind) is) ∙ e in absurd (cc)

-- ---- lines

abbrev AsksFor : Result (Option Command) CommandFault → ℕ → Type 0
AsksFor r d = r ≡ Ok (Some (command.Restart d))

never : {A : Type 0} (f : A → Command) (r : Result A CommandFault) (d : ℕ) → ((x : A) → f x ≡ command.Restart d → ⊥) → AsksFor (made Some (made f r)) d → ⊥
never f (Ok x) d other e = other x (cc)
never f (Err k) d other e = cc

restart_is : (r : Result ℕ CommandFault) (d : ℕ) → AsksFor (made Some (made command.Restart r)) d → r ≡ Ok d
restart_is (Ok x) d e = let same : x ≡ d = cc in λ i. Ok (same i)
restart_is (Err k) d e = absurd (cc)

line_below : (p : Program) (l : Line) (d : ℕ) → AsksFor (made Some (meant p l)) d → d < device_count p.decls.items
line_below p (Turn device turn) d e = absurd (never (λ t. command.Turn t.0 t.1) (device_turn p device turn) d (λ x h. cc) e)
line_below p (Lazy device turn) d e = absurd (never (λ t. command.Lazy t.0 t.1) (device_turn p device turn) d (λ x h. cc) e)
line_below p (Settle device) d e = absurd (never command.Settle (device_of p.decls.items device) d (λ x h. cc) e)
line_below p (Get device name) d e = absurd (never (λ t. command.Get t.0 t.1) (both (device_of p.decls.items device) (shown_of p.decls.items name)) d (λ x h. cc) e)
line_below p (Send device) d e = absurd (never command.Send (device_of p.decls.items device) d (λ x h. cc) e)
line_below p (Deliver packet device) d e = absurd (never (command.Deliver packet) (device_of p.decls.items device) d (λ x h. cc) e)
line_below p (Hex packet) d e = absurd (cc)
line_below p (Crash device) d e = absurd (never command.Crash (device_of p.decls.items device) d (λ x h. cc) e)
line_below p (Restart device) d e = device_below p.decls.items (place_of (names_of p.decls.items) device.items) d (restart_is (device_of p.decls.items device) d e)

marks_below : (p : Program) (marks : Option (List Mark)) (d : ℕ) → AsksFor (marks_meant p marks) d → d < device_count p.decls.items
marks_below p None d e = absurd (cc)
marks_below p (Some []) d e = absurd (cc)
marks_below p (Some (m ∷ marks)) d e = by_line (read_line (m ∷ marks)) e
  where
    by_line : (l : Option Line) → AsksFor (made Some (line_meant p l)) d → d < device_count p.decls.items
    by_line None h = absurd (cc)
    by_line (Some l) h = line_below p l d h

pub restarts_below : (p : Program) (line : List ℕ) (d : ℕ) → commanded p line ≡ Ok (Some (command.Restart d)) → d < device_count p.decls.items
restarts_below p line d e = by (nat_lt 1024 (length line)) e
  where
    by : (b : Bool) → AsksFor (if b then Err fault.Syntax else marks_meant p (tokens_of line)) d → d < device_count p.decls.items
    by true h = absurd (cc)
    by false h = marks_below p (tokens_of line) d h
