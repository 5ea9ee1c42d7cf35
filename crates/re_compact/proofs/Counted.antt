-- What the file that counts says of the two.
use Rattle.std.specs.Prelude.{◌||◌, ◌==◌, not}
use Rattle.std.specs.Int.{w32, w64, to_be_bytes}
use Rattle.std.proofs.Common.{◌≡◌, inl, inr, ℕ, zero, suc, ◌<◌, ◌≤◌, Bool, false, List, [], ◌∷◌, ◌++◌, length, slice_index, refl, sym, ◌∙◌, ap, subst, arith, length-append}
use Rattle.std.proofs.lemmas.Bool.Decides.{leb_tells}
use Rattle.re_outside.specs.Frame.{Bad, Store, HasStoreFrame, HasFrame, HasBadFrame, HasGeneration, generation, is_blank}
use Rattle.re_outside.specs.Moment.{IsSettled}
use Rattle.re_outside.specs.Trace.{Past, content_of}
use Rattle.re_outside.proofs.Readings.{read_file}
use Rattle.re_outside.proofs.Stores.{one_store, generation_read}
use Rattle.re_journal.specs.Journals.{other_file, HasGates}
use Rattle.re_journal.specs.Scans.{IsRefusedAt}
use Rattle.re_journal.specs.declared.journal.Journal.{Journal}
use Rattle.re_compact.specs.Choices.{IsCounting}
use Rattle.re_compact.specs.Finding.{AreSettled, CountsIn}
use Rattle.re_compact.specs.Pair.{StandsIn}

-- a file with a generation isn't blank
pub generation_full : (file : List ℕ) (g : ℕ) → HasGeneration file g → is_blank file ≡ false
generation_full file g (n, rest, is, fits, number) = ap is_blank is ∙ long (to_be_bytes w32 n ++ (to_be_bytes w64 g ++ rest)) (omega (arith, length-append (to_be_bytes w32 n) (to_be_bytes w64 g ++ rest)))
  where
    long : (tail : List ℕ) → 1 ≤ length tail → is_blank (1 ∷ tail) ≡ false
    long tail some = elim (leb_tells (length (1 ∷ tail)) 1) [
      | inl short ↦ absurd (omega (arith, short.1))
      | inr more ↦ ap (λ b. b || not (slice_index (1 ∷ tail) 0 == 1)) more.0
    ]

-- a file with a generation is refused behind it
pub refused_behind : (file : List ℕ) (g place : ℕ) → HasGeneration file g → IsRefusedAt file place → HasBadFrame file place
refused_behind file g place has (inr bad) = bad
refused_behind file g place has (inl bad) = elim (read_file file g has) [
  | inl (s, bs, frame) ↦ absurd (let same = one_store file [] (Bad 0 place) (Store 0 s bs) (inl (inl (refl, bad))) (file, inl (refl, refl, g, has, inl refl), frame) in cc)
  | inr (other, worse) ↦
      let same : Bad 0 place ≡ Bad 0 other = one_store file [] (Bad 0 place) (Bad 0 other) (inl (inl (refl, bad))) (inr (file, inl (refl, refl, g, has, inl refl), worse)) in
      let at : other ≡ place = cc in
      subst (HasBadFrame file) at worse
]

settled_either : (f : ℕ) → f < 2 → (now : Past) → AreSettled now → IsSettled f (content_of now f) now
settled_either zero low now settled = settled.first
settled_either (suc zero) low now settled = settled.second
settled_either (suc (suc f)) low now settled = absurd (omega arith)

store_either : (f : ℕ) → f < 2 → (now : Past) (g : ℕ) (blank : Bool) (s : List ℕ) (bs : List (List ℕ)) → IsCounting (content_of now f) (content_of now (other_file f)) g blank → HasFrame (content_of now f) s bs
    → HasStoreFrame (content_of now 0) (content_of now 1) (Store f s bs)
store_either zero low now g blank s bs counting frame = (content_of now 0, inl (refl, refl, g, counting.0, counting.1), frame)
store_either (suc zero) low now g blank s bs counting frame = (content_of now 1, inr (refl, refl, g, counting.0, counting.1), frame)
store_either (suc (suc f)) low now g blank s bs counting frame = absurd (omega arith)

pub bad_either : (f : ℕ) → f < 2 → (now : Past) (g : ℕ) (blank : Bool) (place : ℕ) → IsCounting (content_of now f) (content_of now (other_file f)) g blank → IsRefusedAt (content_of now f) place
    → HasStoreFrame (content_of now 0) (content_of now 1) (Bad f place)
bad_either zero low now g blank place counting refused = inr (content_of now 0, inl (refl, refl, g, counting.0, counting.1), refused_behind (content_of now 0) g place counting.0 refused)
bad_either (suc zero) low now g blank place counting refused = inr (content_of now 1, inr (refl, refl, g, counting.0, counting.1), refused_behind (content_of now 1) g place counting.0 refused)
bad_either (suc (suc f)) low now g blank place counting refused = absurd (omega arith)

-- the journal stands on the store of the file that counts
pub counts_stand : (now : Past) (j : Journal) (g other_length : ℕ) (blank : Bool) (s : List ℕ) (bs : List (List ℕ)) → CountsIn j.file g other_length blank now → HasGates j (content_of now j.file) s bs
    → j.length ≡ length (content_of now j.file) → j.other_length ≡ other_length → j.other_blank ≡ blank → StandsIn j (Store j.file s bs) now
counts_stand now j g other_length blank s bs counts gates size other_size other_blank = record {
  rests = record { first = counts.settled.first; second = counts.settled.second; frame = store_either j.file j.file_is now g blank s bs counts.counting gates.frame };
  here = refl;
  stands = record {
    files = record {
      own = settled_either j.file j.file_is now counts.settled;
      own_length = size;
      other = settled_either (other_file j.file) (omega arith) now counts.settled;
      other_length = other_size ∙ counts.size;
      other_blank = other_blank ∙ counts.counting.2;
    };
    gates = gates;
  };
}

pub its_generation : (now : Past) (f g other_length : ℕ) (blank : Bool) (s : List ℕ) (bs : List (List ℕ)) → CountsIn f g other_length blank now → HasFrame (content_of now f) s bs → g ≡ generation s
its_generation now f g other_length blank s bs counts frame = sym (generation_read (content_of now f) s bs g counts.counting.0 frame)
