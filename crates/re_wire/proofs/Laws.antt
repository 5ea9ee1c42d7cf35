-- What is read has those bytes, and what has those bytes is read.
use Rattle.std.proofs.Common.{◌≡◌, ℕ, ◌+◌, ◌^◌, ◌<◌, ◌≤◌, Bool, true, List, ◌++◌, length, drop, Ok, arith}
use Rattle.re_terms.specs.Shapes.{IsShape, FitsShape}
use Rattle.re_terms.specs.Spellings.{word_bytes, state_bytes, packet_bytes}
use Rattle.re_terms.specs.declared.word.Kind.{Kind}
use Rattle.re_terms.specs.declared.word.Word.{Word}
use Rattle.re_terms.specs.declared.replicated.RState.{RState}
use Rattle.re_terms.specs.declared.replicated.Shape.{Shape}
use Rattle.re_wire.proofs.Bytes.{IsBytes}
use Rattle.re_wire.proofs.TakesWords as takes_words
use Rattle.re_wire.proofs.TakesStates as takes_states
use Rattle.re_wire.proofs.AgainWords as again_words
use Rattle.re_wire.proofs.AgainStates as again_states
use Rattle.re_wire.specs.Reading.{is_allowed_word, word_at, state_at, packet_at}

pub word_takes : (k : Kind) (fold : Bool) (symbols : ℕ) (bytes : List ℕ) (at : ℕ) (w : Word) (behind : ℕ) → IsBytes bytes → at ≤ length bytes → word_at k fold symbols bytes at ≡ Ok (w, behind)
    → (is_allowed_word k fold symbols w ≡ true) × (behind ≤ length bytes) × (drop at bytes ≡ word_bytes w ++ drop behind bytes)
word_takes k fold symbols bytes at w behind is_bytes within e = takes_words.word_takes k fold symbols bytes at w behind is_bytes e

pub word_again : (k : Kind) (fold : Bool) (symbols : ℕ) (front rest : List ℕ) (w : Word) → symbols < 2 ^ 16 → is_allowed_word k fold symbols w ≡ true → word_at k fold symbols (front ++ word_bytes w ++ rest) (length front) ≡ Ok (w, length front + length (word_bytes w))
word_again k fold symbols front rest w few allowed = again_words.word_again k fold symbols front rest w (omega arith) allowed

pub state_takes : (shape : Shape) (bytes : List ℕ) (at : ℕ) (s : RState) (behind : ℕ) → IsShape shape → IsBytes bytes → at ≤ length bytes → state_at shape bytes at ≡ Ok (s, behind)
    → FitsShape shape s × (behind ≤ length bytes) × (drop at bytes ≡ state_bytes shape.devices s ++ drop behind bytes)
state_takes = takes_states.state_takes

pub state_again : (shape : Shape) (front rest : List ℕ) (s : RState) → IsShape shape → FitsShape shape s → state_at shape (front ++ state_bytes shape.devices s ++ rest) (length front) ≡ Ok (s, length front + length (state_bytes shape.devices s))
state_again = again_states.state_again

pub packet_takes : (shape : Shape) (bytes : List ℕ) (s : RState) → IsShape shape → IsBytes bytes → packet_at shape bytes ≡ Ok s → FitsShape shape s × (bytes ≡ packet_bytes shape.devices s)
packet_takes = takes_states.packet_takes

pub packet_again : (shape : Shape) (s : RState) → IsShape shape → FitsShape shape s → packet_at shape (packet_bytes shape.devices s) ≡ Ok s
packet_again = again_states.packet_again
