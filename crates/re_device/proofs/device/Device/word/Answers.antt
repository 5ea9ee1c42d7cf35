-- Each form of declaration has its word where the device keeps it.
use Rattle.std.proofs.Common.{◌≡◌, ◌≤◌, [], ◌∷◌, ℕ, zero, suc, inl, inr, true, None, Some, List, length, sym, ap, ◌∙◌, arith}
use Rattle.std.specs.Prelude.{slice_get, slice_index_or}
use Rattle.std.proofs.lemmas.Option.{slice_get_within}
use Rattle.re_terms.specs.declared.word.Word.{Word}
use Rattle.re_terms.specs.declared.program.Body.{Body}
use Rattle.re_terms.specs.declared.program.Decl.{Decl}
use Rattle.re_terms.specs.Propagation.{is_signal_body}
use Rattle.re_terms.specs.Cells.{is_cell_body, cell_place}
use Rattle.re_terms.specs.SignalWords.{body_word, no_word, replicated_place, signal_word}
use Rattle.re_terms.specs.Views.{View, cell_word, view_of}
use Rattle.re_prop.proofs.Before.{signal_word-none, cached_at, length-signal_words}
use Rattle.re_device.specs.Device.{DeviceState, current}
use Rattle.re_device.proofs.Shown.{shown_word}
use Rattle.re_terms.proofs.Placed.{length-at_each}
use Rattle.re_prop.proofs.ReadWords.{IsOther, other_word, own_word, kept_at, replicated_at}
use Rattle.re_device.proofs.device.Device.word.Goals as goal

none_past : (decls : List Decl) (id : ℕ) → None ≡ slice_get decls id → length decls ≤ id
none_past [] id none = omega arith
none_past (d ∷ decls) zero none = absurd (let e : None ≡ Some d = none in cc)
none_past (d ∷ decls) (suc id) none = omega (arith, none_past decls id none)

pub returns-in_default : goal.returns-in_default
returns-in_default c =
    let d = c.self.inside in
    sym (signal_word-none d.program d.state.words.items (view_of d.state.rep) c.args.id (none_past d.program.decls.items c.args.id c.in_default.ensures))
    ∙ shown_word d c.self.invariant c.args.id
    ∙ ap (λ (v : DeviceState). signal_word v.memory.program (current v.memory).state.words.items (view_of (current v.memory).state.rep) c.args.id) c.self.view_is

pub word-requires : goal.word-requires
word-requires c =
    let d = c.self.inside in
    let within = slice_get_within d.program.decls.items c.args.id c.in-Some.decl.now (sym c.in-Some.ensures) in
    omega (arith, within, ap (λ x. length x.words.items) c.self.invariant.places, length-at_each cell_place d.program.decls.items)

pub word-requires-in-Signal : goal.word-requires-in-Signal
word-requires-in-Signal c =
    let d = c.self.inside in
    let within = slice_get_within d.program.decls.items c.args.id c.in-Some.decl.now (sym c.in-Some.ensures) in
    omega (arith, within, ap length c.self.invariant.cache, length-signal_words d.program d.state.words.items (view_of d.state.rep))

pub returns-in-Var : goal.returns-in-Var
returns-in-Var c =
    let d = c.self.inside in
    let cell : is_cell_body c.in-Some.decl.now.body ≡ true = elim c.in-Var.is [ inl e ↦ ap is_cell_body e.3 | inr e ↦ ap is_cell_body e.5 ] in
    c.word_in.ensures
    ∙ ap (λ l. slice_index_or l c.word.result no_word) c.as_slice.ensures
    ∙ ap (λ place. slice_index_or d.state.words.items place no_word) c.word.ensures
    ∙ kept_at d.program d.state.words.items (view_of d.state.rep) d.places.words.items c.args.id c.in-Some.decl.now (sym c.in-Some.ensures) cell (ap (λ x. x.words.items) c.self.invariant.places)
    ∙ shown_word d c.self.invariant c.args.id
    ∙ ap (λ (v : DeviceState). signal_word v.memory.program (current v.memory).state.words.items (view_of (current v.memory).state.rep) c.args.id) c.self.view_is

pub returns-in-Counter : goal.returns-in-Counter
returns-in-Counter c =
    let d = c.self.inside in
    let view : View = view_of d.state.rep in
    let decls : List Decl = d.program.decls.items in
    let each : (words : ℕ → Word) → body_word decls d.state.words.items view c.args.id c.in-Some.decl.now.body words ≡ view.word (replicated_place decls c.args.id) =
    elim c.in-Counter.is [ inl e ↦ (λ words. ap (λ (b : Body). body_word decls d.state.words.items view c.args.id b words) e) | inr e ↦ (λ words. ap (λ (b : Body). body_word decls d.state.words.items view c.args.id b words) e.2) ] in
    c.word_at.ensures
    ∙ ap (λ l. cell_word (slice_get l c.replicated.result)) c.as_slice-in-Counter.ensures
    ∙ ap view.word (replicated_at decls d.places c.args.id c.replicated.result c.self.invariant.places c.replicated.ensures)
    ∙ own_word d.program d.state.words.items view c.args.id c.in-Some.decl.now (view.word (replicated_place decls c.args.id)) (sym c.in-Some.ensures) each
    ∙ shown_word d c.self.invariant c.args.id
    ∙ ap (λ (v : DeviceState). signal_word v.memory.program (current v.memory).state.words.items (view_of (current v.memory).state.rep) c.args.id) c.self.view_is

pub returns-in-Signal : goal.returns-in-Signal
returns-in-Signal c =
    let d = c.self.inside in
    let signal : is_signal_body c.in-Some.decl.now.body ≡ true = ap is_signal_body c.in-Signal.is in
    c.word-in-Signal.ensures
    ∙ cached_at d.program d.state.words.items (view_of d.state.rep) c.args.id c.in-Some.decl.now d.cache c.self.invariant.cache (sym c.in-Some.ensures) signal
    ∙ shown_word d c.self.invariant c.args.id
    ∙ ap (λ (v : DeviceState). signal_word v.memory.program (current v.memory).state.words.items (view_of (current v.memory).state.rep) c.args.id) c.self.view_is

pub returns-in_default-body : goal.returns-in_default-body
returns-in_default-body c =
    let d = c.self.inside in
    let other : IsOther c.in-Some.decl.now.body = record { var = c.in_default-body.not-Var; fold = c.in_default-body.not-Fold; counter = c.in_default-body.not-Counter; register = c.in_default-body.not-Register; signal = c.in_default-body.not-Signal } in
    own_word d.program d.state.words.items (view_of d.state.rep) c.args.id c.in-Some.decl.now no_word (sym c.in-Some.ensures) (λ words. other_word d.program.decls.items d.state.words.items (view_of d.state.rep) c.args.id c.in-Some.decl.now.body words other)
    ∙ shown_word d c.self.invariant c.args.id
    ∙ ap (λ (v : DeviceState). signal_word v.memory.program (current v.memory).state.words.items (view_of (current v.memory).state.rep) c.args.id) c.self.view_is
