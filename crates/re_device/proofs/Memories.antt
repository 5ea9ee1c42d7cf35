-- What a device has in memory after an entry.
use Rattle.std.proofs.Common.{◌≡◌, ◌≤◌, ◌+◌, ◌^◌, ◌||◌, ◌&&◌, cond, ◌++◌, ◌∷◌, [], ℕ, Bool, true, false, Option, None, List, length, drop, refl, sym, ap, subst, ◌∙◌, arith}
use Rattle.std.specs.Prelude.{filter, nat_le, not}
use Rattle.std.specs.Option.{is_some}
use Rattle.std.specs.List.{range_with_len}
use Rattle.std.proofs.lemmas.List.{length-map}
use Rattle.std.proofs.lemmas.Bool.{lt-leb}
use Rattle.std.proofs.lemmas.List.{drop-append-le}
use Rattle.re_record.proofs.StoreLaws.{after_more}
use Rattle.re_record.specs.Restoring.{AreAccepted, Opened, after_all, is_refused, opened_after}
use Rattle.re_terms.specs.Admission.{IsEntryOf}
use Rattle.re_terms.specs.Changes.{with_changes}
use Rattle.re_terms.specs.Limits.{OperationFault}
use Rattle.re_terms.specs.Listed.{plain}
use Rattle.re_terms.specs.Programs.{IsProgram}
use Rattle.re_terms.specs.Cells.{is_cell}
use Rattle.re_terms.specs.Propagation.{Step, changes, effect, is_cell_at, words_after}
use Rattle.re_terms.specs.SignalWords.{signal_word}
use Rattle.re_terms.specs.WordOrder.{same_word}
use Rattle.re_terms.specs.Shapes.{FitsShape, shape_of}
use Rattle.re_terms.specs.WordKinds.{AreWordsOf, IsStateOf, IsStepOf}
use Rattle.re_terms.specs.declared.entry.Entry.{Entry}
use Rattle.re_terms.specs.declared.entry.Logged.{Logged}
use Rattle.re_terms.specs.declared.entry.Put.{Put}
use Rattle.re_terms.specs.declared.entry.State.{State}
use Rattle.re_terms.specs.declared.program.Program.{Program}
use Rattle.re_terms.specs.declared.replicated.RState.{RState}
use Rattle.re_terms.specs.declared.word.Word.{Word}
use Rattle.re_terms.proofs.ChangesKept.{after_kept, cells_agree, changes_kept}
use Rattle.re_terms.proofs.RangedPlaces.{length-passing}
use Rattle.re_terms.proofs.PutWords.{words_put}
use Rattle.re_terms.proofs.StatesKept.{step_is}
use Rattle.re_device.proofs.Puts.{room_left}
use Rattle.re_device.specs.Device.{DeviceMemory, current, limit_against, logged, rep_after, step_by, takes_no_more, with_entry}
use Rattle.re_device.specs.Keeping.{AreCurrent, IsTaken}

-- one entry behind the others
pub current_more : (m : DeviceMemory) (l : Logged) → current (with_entry m l) ≡ opened_after m.program m.device l (current m)
current_more m l = after_more m.program m.device m.unsettled (l ∷ []) m.settled

-- nothing is reserved in the words after entries, where nothing was before
pub plain_after : (p : Program) (device : ℕ) (entries : List Logged) (o : Opened) → o.state.words.spare ≡ 0 → (after_all p device entries o).state.words.spare ≡ 0
plain_after p device [] o is = is
plain_after p device (l ∷ entries) o is = plain_after p device entries (opened_after p device l o) refl

-- each entry has the next number
pub number_after : (p : Program) (device : ℕ) (entries : List Logged) (o : Opened) → (after_all p device entries o).number ≡ o.number + length entries
number_after p device [] o = omega arith
number_after p device (l ∷ entries) o = let e = number_after p device entries (opened_after p device l o) in omega (arith, e)

-- the kept state and number, with nothing reserved, are those that they agree with
pub as_kept : (o : Opened) (s : State) (number : ℕ) → AreCurrent o s number → o.state.words.spare ≡ 0 → record { state = record { words = plain s.words.items; rep = s.rep }; number = number } ≡ o
as_kept o s number are is =
    ap (λ (w : List Word). record { state = record { words = plain w; rep = s.rep }; number = number }) are.words
    ∙ ap (λ (k : ℕ). record { state = record { words = record { items = o.state.words.items; spare = k }; rep = s.rep }; number = number }) (sym is)
    ∙ ap (λ (r : RState). record { state = record { words = o.state.words; rep = r }; number = number }) are.rep
    ∙ ap (λ (k : ℕ). record { state = o.state; number = k }) are.number_is

-- a state that agrees with one of the program
pub agrees_kept : (p : Program) (o : Opened) (s : State) (number : ℕ) → AreCurrent o s number → IsStateOf p s → IsStateOf p o.state
agrees_kept p o s number are is = record { words = subst (AreWordsOf p) are.words is.words; rep = subst (FitsShape (shape_of p)) are.rep is.rep }

pub accepted-append : (p : Program) (device : ℕ) (o : Opened) (xs ys : List Logged) → AreAccepted p device o xs → AreAccepted p device (after_all p device xs o) ys → AreAccepted p device o (xs ++ ys)
accepted-append p device o [] ys are behind = behind
accepted-append p device o (x ∷ xs) ys are behind = (are.0, accepted-append p device (opened_after p device x o) xs ys are.1 behind)

-- an entry against which no limit stands, and for which there is room, isn't refused
pub not_refused : (m : DeviceMemory) (e : Entry) → limit_against m e ≡ None → takes_no_more m ≡ false → is_refused m.program m.device (current m) e ≡ false
not_refused m e free more =
    let room = room_left (length m.entries) (current m).number more in
    ap (λ (f : Option OperationFault). is_some f || nat_le (2 ^ 48) ((current m).number + 1)) free ∙ lt-leb (2 ^ 48) ((current m).number + 1) room.1

-- it is accepted behind the unsettled ones
pub accepted_more : (m : DeviceMemory) (e : Entry) → AreAccepted m.program m.device m.settled m.unsettled → limit_against m e ≡ None → takes_no_more m ≡ false → AreAccepted m.program m.device m.settled (m.unsettled ++ logged m e ∷ [])
accepted_more m e are free more = accepted-append m.program m.device m.settled m.unsettled (logged m e ∷ []) are (not_refused m e free more, record {})

step_both : (p q : Bool) (x : ℕ) (l k : List ℕ) → length l ≤ length k → length (cond (p && q) (x ∷ l) l) ≤ length (cond p (x ∷ k) k)
step_both true true x l k few = omega (arith, few)
step_both true false x l k few = omega (arith, few)
step_both false true x l k few = few
step_both false false x l k few = few

-- of those that pass one test no more pass another too
fewer : (a b : ℕ → Bool) (xs : List ℕ) → length (filter (λ x. a x && b x) xs) ≤ length (filter a xs)
fewer a b [] = omega arith
fewer a b (x ∷ xs) = step_both (a x) (b x) x (filter (λ y. a y && b y) xs) (filter a xs) (fewer a b xs)

-- an entry changes no more than there are vars and folds
changes_few : (p : Program) (s : Step) → IsProgram p → length (changes p s) ≤ 256
changes_few p s is =
    let test : ℕ → Bool = λ id. not (same_word (signal_word p s.words s.old_view id) (effect p s id).word) in
    let ids = range_with_len 0 (length p.decls.items) in
    let few = fewer (is_cell_at p.decls.items) test ids in
    omega (arith, few, is.cells, length-map {B = Put} (filter (λ id. is_cell_at p.decls.items id && test id) ids) (λ (id : ℕ). record { id = id; word = (effect p s id).word }), length-passing (is_cell_at p.decls.items) is_cell p.decls.items 0 (cells_agree p.decls.items))

module _ (m : DeviceMemory) (e : Entry) (program : IsProgram m.program) (state : IsStateOf m.program (current m).state) (is : IsEntryOf m.program e) (fits : FitsShape (shape_of m.program) (rep_after m e)) where
  step_kept : IsStepOf m.program (step_by m e)
  step_kept = step_is m.program (current m).state e (rep_after m e) program state is fits

  -- it may stand in a record
  pub taken_is : IsTaken m.program (logged m e)
  taken_is = record { entry = is; changes = changes_kept m.program program (step_by m e) step_kept; few = changes_few m.program (step_by m e) program }

  -- its changes give the words after it
  pub words_are : with_changes m.program.decls.items (current m).state.words.items (changes m.program (step_by m e)) ≡ words_after m.program (step_by m e)
  words_are = words_put m.program (step_by m e) state.words.count

  -- the state after it is one of the program
  pub state_kept : IsStateOf m.program (opened_after m.program m.device (logged m e) (current m)).state
  state_kept = record { words = subst (AreWordsOf m.program) (sym words_are) (after_kept m.program program (step_by m e) step_kept); rep = fits }

-- the entries behind the settled ones, with one more
pub unsettled_more : (count : ℕ) (entries : List Logged) (l : Logged) → count ≤ length entries → drop count (entries ++ l ∷ []) ≡ drop count entries ++ l ∷ []
unsettled_more count entries l within = drop-append-le count entries (l ∷ []) within
