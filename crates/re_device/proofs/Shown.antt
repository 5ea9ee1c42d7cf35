-- What is shown is what the device has.
use Rattle.std.proofs.Common.{◌≡◌, ◌∙◌, ℕ, List, ap}
use Rattle.re_device.specs.Device.{current}
use Rattle.re_device.specs.Keeping.{IsKept, memory_of}
use Rattle.re_device.specs.declared.device.Device.TheInside.{Inside}
use Rattle.re_terms.specs.SignalWords.{signal_word}
use Rattle.re_terms.specs.Views.{view_of}
use Rattle.re_terms.specs.declared.replicated.RState.{RState}
use Rattle.re_terms.specs.declared.word.Word.{Word}

pub shown_word : (d : Inside) → IsKept d → (id : ℕ) → signal_word d.program d.state.words.items (view_of d.state.rep) id ≡ signal_word d.program (current (memory_of d)).state.words.items (view_of (current (memory_of d)).state.rep) id
shown_word d kept id =
    ap (λ (w : List Word). signal_word d.program w (view_of d.state.rep) id) kept.current.words
    ∙ ap (λ (r : RState). signal_word d.program (current (memory_of d)).state.words.items (view_of r) id) kept.current.rep
