-- Lines passed over, piece by piece.
use Rattle.std.proofs.Common.{◌≡◌, ◌+◌, ◌++◌, ◌∷◌, [], ℕ, List, length, take, sym, ◌∙◌, ap, subst, refl, append_assoc, false, add-zero, add_assoc, length-append}
use Rattle.std.proofs.lemmas.List.{append-nil}
use Rattle.std.specs.Prelude.{◌==◌}
use Rattle.re_outside.specs.Outside.{Seen, Does, none}
use Rattle.re_outside.proofs.Does.{does-nil, does_read, none-plus}
use Rattle.re_outside.specs.Outside.{Fails, input_fault}
use Rattle.re_outside.specs.declared.step.Call.TheVariants as call
use Rattle.re_tool.specs.declared.reader.Reader.{Reader}
use Rattle.re_tool.specs.Lines.{IsPlain}
use Rattle.re_tool.specs.Clipped.{Clipped, clipped}
use Rattle.re_tool.specs.Reads.{Passes, Reads, ReadFails, Fills, Takes}
use Rattle.re_tool.proofs.Clipping.{take-take-append}

pub plain-append : (xs ys : List ℕ) → IsPlain xs → IsPlain ys → IsPlain (xs ++ ys)
plain-append [] ys p q = q
plain-append (x ∷ xs) ys p q = (p.0, plain-append xs ys p.1 q)

-- bytes are read behind what was done
pub does_more : (a b c : Seen) (read bytes text : List ℕ) → Does a b read text none → Does b c bytes [] none → Does a c (read ++ bytes) text none
does_more a b c read bytes text p q = subst (Does a c (read ++ bytes) text) (none-plus none) (does_read a b c read bytes text none none p q)

-- nothing is passed over yet
pub passes_none : (a : Reader) (line : Clipped) → Passes a a line line []
passes_none a line = record {
  passed = [];
  plain = tt;
  most = refl;
  kept = λ before h. h ∙ ap (take line.most) (sym (append-nil before));
  whole = refl;
  taken = refl;
}

-- one byte more is passed over
pub passes_more : (a b c : Reader) (line line' line'' : Clipped) (byte : ℕ) → Passes a b line line' [] → b.chunk ≡ byte ∷ c.chunk → (byte == 10) ≡ false → line'' ≡ clipped line'.most (line'.items ++ byte ∷ []) → c.taken ≡ b.taken → Passes a c line line'' []
passes_more a b c line line' line'' byte p e plain keeps taken = record {
  passed = p.passed ++ byte ∷ [];
  plain = plain-append p.passed (byte ∷ []) p.plain (plain, tt);
  most = ap (λ (l : Clipped). l.most) keeps ∙ p.most;
  kept = λ before h.
      ap (λ (l : Clipped). l.items) keeps ∙ ap (λ n. take n (line'.items ++ byte ∷ [])) p.most ∙ ap (λ l. take line.most (l ++ byte ∷ [])) (p.kept before h)
      ∙ take-take-append line.most (before ++ p.passed) (byte ∷ []) ∙ ap (take line.most) (append_assoc before p.passed (byte ∷ []));
  whole = p.whole ∙ ap (λ l. p.passed ++ l) e ∙ sym (append_assoc p.passed (byte ∷ []) c.chunk);
  taken = taken ∙ p.taken;
}

-- the LF behind what was passed over
pub passes_end : (a b c : Reader) (line line' : Clipped) (byte : ℕ) → Passes a b line line' [] → b.chunk ≡ byte ∷ c.chunk → byte ≡ 10 → c.taken ≡ b.taken → Passes a c line line' (10 ∷ [])
passes_end a b c line line' byte p e lf taken = record {
  passed = p.passed;
  plain = p.plain;
  most = p.most;
  kept = p.kept;
  whole = p.whole ∙ ap (λ l. p.passed ++ l) e ∙ ap (λ x. p.passed ++ x ∷ c.chunk) lf;
  taken = taken ∙ p.taken;
}

pub reads_none : (a : Reader) (line : Clipped) (most : ℕ) (s : Seen) → line ≡ clipped most [] → Reads a a line most s s []
reads_none a line most s keeps = record {
  bytes = [];
  line = [];
  plain = tt;
  keeps = keeps;
  does = does-nil s;
  taken = sym (add-zero a.taken);
  whole = append-nil a.chunk;
}

kept_as : (line' : Clipped) (most : ℕ) (items : List ℕ) → line'.most ≡ most → line'.items ≡ take most items → line' ≡ clipped most items
kept_as line' most items e h =
    ap (λ i. let x : Clipped = record { items = i; most = line'.most } in x) h ∙ ap (λ m. let x : Clipped = record { items = take most items; most = m } in x) e

-- a piece more of the line is passed over
pub reads_pass : (a b c : Reader) (line line' : Clipped) (most : ℕ) (s t : Seen) (end : List ℕ) → Reads a b line most s t [] → Passes b c line line' end → Reads a c line' most s t end
reads_pass a b c line line' most s t end r p =
    let is_most : line.most ≡ most = ap (λ (l : Clipped). l.most) r.keeps in
    let is_items : line.items ≡ take line.most r.line = ap (λ (l : Clipped). l.items) r.keeps ∙ ap (λ n. take n r.line) (sym is_most) in
    record {
      bytes = r.bytes;
      line = r.line ++ p.passed;
      plain = plain-append r.line p.passed r.plain p.plain;
      keeps = kept_as line' most (r.line ++ p.passed) (p.most ∙ is_most) (p.kept r.line is_items ∙ ap (λ n. take n (r.line ++ p.passed)) is_most);
      does = r.does;
      taken = p.taken ∙ r.taken;
      whole = r.whole ∙ ap (λ l. r.line ++ l) p.whole ∙ sym (append_assoc r.line p.passed (end ++ c.chunk));
    }

-- a chunk more is taken
pub reads_fill : (a b c : Reader) (line : Clipped) (most : ℕ) (s t u : Seen) → Reads a b line most s t [] → b.chunk ≡ [] → Fills b c t u → Reads a c line most s u []
reads_fill a b c line most s t u r empty f = record {
  bytes = r.bytes ++ c.chunk;
  line = r.line;
  plain = r.plain;
  keeps = r.keeps;
  does = does_more s t u r.bytes c.chunk [] r.does f.does;
  taken = f.taken ∙ ap (λ n. n + length c.chunk) r.taken ∙ add_assoc a.taken (length r.bytes) (length c.chunk) ∙ ap (λ n. a.taken + n) (sym (length-append r.bytes c.chunk));
  whole = sym (append_assoc a.chunk r.bytes c.chunk) ∙ ap (λ l. l ++ c.chunk) (r.whole ∙ ap (λ l. r.line ++ l) empty ∙ append-nil r.line);
}

-- the input failed behind a piece of the line
pub reads_fails : (a b c : Reader) (line : Clipped) (most : ℕ) (s t u : Seen) → Reads a b line most s t [] → b.chunk ≡ [] → Fails t u call.Take input_fault → c.taken ≡ b.taken → c.chunk ≡ [] → ReadFails a c line most s u
reads_fails a b c line most s t u r empty f taken ahead = record {
  mid = t;
  reads = record {
    bytes = r.bytes;
    line = r.line;
    plain = r.plain;
    keeps = r.keeps;
    does = r.does;
    taken = taken ∙ r.taken;
    whole = r.whole ∙ ap (λ l. r.line ++ l) (empty ∙ sym ahead);
  };
  fails = f;
}

-- memory ran out behind what was taken
pub takes_reads : (a b c : Reader) (line : Clipped) (most : ℕ) (s t : Seen) (end : List ℕ) → Reads a b line most s t end → c.taken ≡ b.taken → Takes a c s t
takes_reads a b c line most s t end r e = record { bytes = r.bytes; does = r.does; taken = e ∙ r.taken }
