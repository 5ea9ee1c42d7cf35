-- What is kept of lines and of a program part decides what they are.
use Rattle.std.proofs.Common.{arith, ◌≡◌, ◌≤◌, ◌<◌, ℕ, List, length, take, sym, ◌∙◌, ap, subst, refl, ◌⊎◌, inl, inr, Err, length-take}
use Rattle.std.proofs.lemmas.Bool.{lt-ltb, cases_lt}
use Rattle.std.proofs.lemmas.List.{take_all}
use Rattle.re_terms.specs.declared.program.Program.{Program}
use Rattle.re_commands.specs.declared.fault.CommandFault.TheVariants as fault
use Rattle.re_commands.specs.Commanding.{commanded}
use Rattle.re_tool.specs.Lines.{without_return}
use Rattle.re_tool.specs.Verdict.{Verdict, Unknown, Rejected, Accepted, Judges, too_long, no_token, unexpected, too_deep, whole, HasVerdict, Decides}
use Rattle.re_tool.proofs.Clipping.{length-without_return}

-- a text that is too long is refused as such, and so is what is kept of it
long_kept : {text : List ℕ} (v : Verdict) → 65537 < length text → Judges (take 65537 text) v → Judges text v
long_kept {text} v long (too_long h e) = too_long (omega arith) e
long_kept {text} v long (no_token h n e) = absurd (omega (arith, length-take 65537 text))
long_kept {text} v long (unexpected t u e) = absurd (let k = t.few in omega (arith, length-take 65537 text))
long_kept {text} v long (too_deep t d e) = absurd (let k = t.few in omega (arith, length-take 65537 text))
long_kept {text} v long (whole t e) = absurd (let k = t.has.few in omega (arith, length-take 65537 text))

judged_kept : (text : List ℕ) (v : Verdict) → (65537 < length text) ⊎ (length text ≤ 65537) → Judges (take 65537 text) v → Judges text v
judged_kept text v (inl long) j = long_kept v long j
judged_kept text v (inr short) j = subst (λ t. Judges t v) (take_all 65537 text short) j

judged : (text : List ℕ) (v : Verdict) → Judges (take 65537 text) v → Judges text v
judged text v j = judged_kept text v (cases_lt 65537 (length text)) j

-- the converse
long_back : {text : List ℕ} (v : Verdict) → 65537 < length text → Judges text v → Judges (take 65537 text) v
long_back {text} v long (too_long h e) = too_long (omega (arith, length-take 65537 text)) e
long_back {text} v long (no_token h n e) = absurd (omega arith)
long_back {text} v long (unexpected t u e) = absurd (let k = t.few in omega arith)
long_back {text} v long (too_deep t d e) = absurd (let k = t.few in omega arith)
long_back {text} v long (whole t e) = absurd (let k = t.has.few in omega arith)

judged_back : (text : List ℕ) (v : Verdict) → (65537 < length text) ⊎ (length text ≤ 65537) → Judges text v → Judges (take 65537 text) v
judged_back text v (inl long) j = long_back v long j
judged_back text v (inr short) j = subst (λ t. Judges t v) (sym (take_all 65537 text short)) j

back : (text : List ℕ) (v : Verdict) → Judges text v → Judges (take 65537 text) v
back text v j = judged_back text v (cases_lt 65537 (length text)) j

has_kept : (text : List ℕ) (v : Verdict) → HasVerdict (take 65537 text) v → HasVerdict text v
has_kept text Unknown h = h
has_kept text (Rejected why) h = judged text (Rejected why) h
has_kept text (Accepted p) h = judged text (Accepted p) h

has_back : (text : List ℕ) (v : Verdict) → HasVerdict text v → HasVerdict (take 65537 text) v
has_back text Unknown h = h
has_back text (Rejected why) h = back text (Rejected why) h
has_back text (Accepted p) h = back text (Accepted p) h

-- what is kept of a program part has its verdict
pub verdict-kept : (text : List ℕ) (v : Verdict) → Decides (take 65537 text) v → Decides text v
verdict-kept text v d = record { has = has_kept text v d.has; only = λ w k. d.only w (has_back text w k) }

line-long : (p : Program) (line : List ℕ) → 1024 < length line → commanded p line ≡ Err fault.Syntax
line-long p line h = rw (lt-ltb 1024 (length line) h) refl

line_cases : (p : Program) (line : List ℕ) → (1026 < length line) ⊎ (length line ≤ 1026) → commanded p (without_return (take 1026 line)) ≡ commanded p (without_return line)
line_cases p line (inr h) = ap (λ l. commanded p (without_return l)) (take_all 1026 line h)
line_cases p line (inl h) =
    line-long p (without_return (take 1026 line)) (omega (arith, length-without_return (take 1026 line), length-take 1026 line))
    ∙ sym (line-long p (without_return line) (omega (arith, length-without_return line)))

-- what is kept of a line is the same line
pub line-kept : (p : Program) (line : List ℕ) → commanded p (without_return (take 1026 line)) ≡ commanded p (without_return line)
line-kept p line = line_cases p line (cases_lt 1026 (length line))

last_cases : (p : Program) (line : List ℕ) → (1026 < length line) ⊎ (length line ≤ 1026) → commanded p (take 1026 line) ≡ commanded p line
last_cases p line (inr h) = ap (commanded p) (take_all 1026 line h)
last_cases p line (inl h) = line-long p (take 1026 line) (omega (arith, length-take 1026 line)) ∙ sym (line-long p line (omega arith))

-- the same of a last line, which keeps its CR
pub line-kept_last : (p : Program) (line : List ℕ) → commanded p (take 1026 line) ≡ commanded p line
line-kept_last p line = last_cases p line (cases_lt 1026 (length line))
