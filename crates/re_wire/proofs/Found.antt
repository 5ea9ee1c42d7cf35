-- What the readers promise of a value that was read, from the laws.
use Rattle.std.proofs.Common.{◌≡◌, ℕ, ◌+◌, ◌^◌, ◌<◌, ◌≤◌, Bool, true, List, ◌++◌, length, take, drop, Result, Ok, Err, sym, ap, ◌∙◌, append_assoc, length-take, arith}
use Rattle.std.specs.Prelude.{IfOk}
use Rattle.std.proofs.lemmas.List.{take-append-drop}
use Rattle.re_terms.specs.Shapes.{IsShape, FitsShape}
use Rattle.re_terms.specs.Spellings.{word_bytes, state_bytes, packet_bytes}
use Rattle.re_terms.specs.declared.word.Kind.{Kind}
use Rattle.re_terms.specs.declared.word.Word.{Word}
use Rattle.re_terms.specs.declared.replicated.RState.{RState}
use Rattle.re_terms.specs.declared.replicated.Shape.{Shape}
use Rattle.re_wire.specs.declared.fault.WireFault.{WireFault}
use Rattle.re_wire.specs.Reading.{Gives, Reads, is_allowed_word, word_at, state_at, packet_at}
use Rattle.re_wire.proofs.Bytes.{IsBytes}
use Rattle.re_wire.proofs.Laws.{word_takes, word_again, state_takes, state_again, packet_takes}

abbrev pub WordStands : Kind → Bool → ℕ → List ℕ → ℕ → Word × ℕ → Type 0
WordStands k fold symbols bytes at x = (is_allowed_word k fold symbols x.0 ≡ true) × (x.1 ≤ length bytes) × (drop at bytes ≡ word_bytes x.0 ++ drop x.1 bytes)

pub word_stands : (k : Kind) (fold : Bool) (symbols : ℕ) (bytes : List ℕ) (at : ℕ) (r : Result (Word × ℕ) WireFault) → IsBytes bytes → at ≤ length bytes → Reads r (word_at k fold symbols bytes at) → IfOk r (WordStands k fold symbols bytes at)
word_stands k fold symbols bytes at (Ok x) is_bytes within given = word_takes k fold symbols bytes at x.0 x.1 is_bytes within given
word_stands k fold symbols bytes at (Err e) is_bytes within given = tt

pub word_there : (k : Kind) (fold : Bool) (symbols : ℕ) (bytes : List ℕ) (at : ℕ) (w : Word) (rest : List ℕ) → symbols < 2 ^ 16 → at ≤ length bytes → is_allowed_word k fold symbols w ≡ true → drop at bytes ≡ word_bytes w ++ rest
    → word_at k fold symbols bytes at ≡ Ok (w, at + length (word_bytes w))
word_there k fold symbols bytes at w rest few within allowed e =
    let front = take at bytes in
    let whole : bytes ≡ front ++ word_bytes w ++ rest = sym (take-append-drop at bytes) ∙ ap (λ (ys : List ℕ). front ++ ys) e ∙ sym (append_assoc front (word_bytes w) rest) in
    let len : at ≡ length front = omega (arith, length-take at bytes) in
    (λ i. word_at k fold symbols (whole i) (len i)) ∙ word_again k fold symbols front rest w few allowed ∙ ap (λ (n : ℕ). Ok (w, n + length (word_bytes w))) (sym len)

abbrev pub StateStands : Shape → List ℕ → ℕ → RState × ℕ → Type 0
StateStands shape bytes at x = FitsShape shape x.0 × (x.1 ≤ length bytes) × (drop at bytes ≡ state_bytes shape.devices x.0 ++ drop x.1 bytes)

pub state_stands : (shape : Shape) (bytes : List ℕ) (at : ℕ) (r : Result (RState × ℕ) WireFault) → IsShape shape → IsBytes bytes → at ≤ length bytes → Gives r (state_at shape bytes at) → IfOk r (StateStands shape bytes at)
state_stands shape bytes at (Ok x) is_shape is_bytes within given = state_takes shape bytes at x.0 x.1 is_shape is_bytes within given
state_stands shape bytes at (Err e) is_shape is_bytes within given = tt

pub state_there : (shape : Shape) (bytes : List ℕ) (at : ℕ) (s : RState) (rest : List ℕ) → IsShape shape → at ≤ length bytes → FitsShape shape s → drop at bytes ≡ state_bytes shape.devices s ++ rest
    → state_at shape bytes at ≡ Ok (s, at + length (state_bytes shape.devices s))
state_there shape bytes at s rest is_shape within fits e =
    let front = take at bytes in
    let text = state_bytes shape.devices s in
    let whole : bytes ≡ front ++ text ++ rest = sym (take-append-drop at bytes) ∙ ap (λ (ys : List ℕ). front ++ ys) e ∙ sym (append_assoc front text rest) in
    let len : at ≡ length front = omega (arith, length-take at bytes) in
    (λ i. state_at shape (whole i) (len i)) ∙ state_again shape front rest s is_shape fits ∙ ap (λ (n : ℕ). Ok (s, n + length text)) (sym len)

pub packet_stands : (shape : Shape) (bytes : List ℕ) (r : Result RState WireFault) → IsShape shape → IsBytes bytes → Gives r (packet_at shape bytes) → IfOk r (λ s. FitsShape shape s × (bytes ≡ packet_bytes shape.devices s))
packet_stands shape bytes (Ok s) is_shape is_bytes given = packet_takes shape bytes s is_shape is_bytes given
packet_stands shape bytes (Err e) is_shape is_bytes given = tt
