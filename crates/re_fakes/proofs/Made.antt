-- Files and steps go on together.
use Rattle.std.proofs.Common.{◌≡◌, ◌≢◌, ◌<◌, ◌≤◌, ◌⊎◌, inl, inr, ℕ, zero, suc, Bool, true, false, ◌&&◌, List, [], ◌∷◌, ◌++◌, length, take, sym, ◌∙◌, ap, subst, refl, arith, length-append, length-take}
use Rattle.std.specs.Prelude.{◌==◌, nat_lt, if◌then◌else◌, Result, Ok, Err, OnOk, OnErr}
use Rattle.std.specs.List.{list_all}
use Rattle.std.proofs.lemmas.Bool.{cases_eq}
use Rattle.std.proofs.lemmas.Bool.Decides.{nat_tests, leb_tells}
use Rattle.std.proofs.lemmas.List.{append-nil, take_all, take-append-le}
use Rattle.std.proofs.Math.Seq.{take-length}
use Rattle.re_outside.specs.FileAct.{FileAct, Wrote, CutTo, Synced, WriteFailed, CutFailed, SyncFailed}
use Rattle.re_outside.specs.Image.{after, content, IsHonest, IsCrashImage, written, IsTorn, IsCutShort}
use Rattle.re_outside.specs.Outside.{IsOutput}
use Rattle.re_outside.specs.Trace.{act_of, acts_of, failed_act}
use Rattle.re_outside.specs.Listed.{Listed}
use Rattle.re_outside.specs.declared.step.Step.{Step}
use Rattle.re_outside.specs.declared.step.Step.TheVariants as steps
use Rattle.re_outside.specs.declared.step.Call.{Call}
use Rattle.re_outside.specs.declared.step.Call.TheVariants as kind
use Rattle.re_outside.proofs.Images.{content-append, image_start}
use Rattle.re_outside.proofs.Honest.{image_next, written_torn}
use Rattle.re_outside.proofs.Steps.{acts_of-snoc, torn_same}
use Rattle.re_fakes.specs.Files.{file_at, file_in, place_of, SameFiles, IsPut}
use Rattle.re_fakes.specs.Replay.{file_of}
use Rattle.re_fakes.specs.Past.{IsPast, MakesFile, Makes}
use Rattle.re_fakes.proofs.Follow.{place_apart, same_test, other_test}
use Rattle.re_fakes.proofs.Filled.{one_act}

-- what reads of a file give goes on
reads_more : (start : List ℕ) (acts more : List FileAct) → ((more ≡ []) ⊎ ((a : FileAct) × (more ≡ a ∷ []))) → (old new : List ℕ) → old ≡ content start acts → MakesFile old more new → new ≡ content start (acts ++ more)
reads_more start acts more (inl none) old new reads makes =
    let same : new ≡ old = subst (λ (l : List FileAct). MakesFile old l new) none makes in
    same ∙ reads ∙ ap (content start) (sym (append-nil acts) ∙ ap (λ (l : List FileAct). acts ++ l) (sym none))
reads_more start acts more (inr one) old new reads makes =
    let a = one.0 in
    let goes : (new ≡ after old a) × IsHonest old a = subst (λ (l : List FileAct). MakesFile old l new) one.1 makes in
    goes.0 ∙ ap (λ n. after n a) reads ∙ sym (content-append start acts (a ∷ [])) ∙ ap (content start) (ap (λ (l : List FileAct). acts ++ l) (sym one.1))

-- it can be left by a stop
possible_more : (start : List ℕ) (acts more : List FileAct) → ((more ≡ []) ⊎ ((a : FileAct) × (more ≡ a ∷ []))) → (old new : List ℕ) → old ≡ content start acts → MakesFile old more new
    → IsCrashImage start acts (content start acts) → IsCrashImage start (acts ++ more) (content start (acts ++ more))
possible_more start acts more (inl none) old new reads makes image =
    subst (λ (l : List FileAct). IsCrashImage start l (content start l)) (sym (append-nil acts) ∙ ap (λ (l : List FileAct). acts ++ l) (sym none)) image
possible_more start acts more (inr one) old new reads makes image =
    let a = one.0 in
    let goes : (new ≡ after old a) × IsHonest old a = subst (λ (l : List FileAct). MakesFile old l new) one.1 makes in
    subst (λ (l : List FileAct). IsCrashImage start l (content start l)) (ap (λ (l : List FileAct). acts ++ l) (sym one.1)) (image_next start acts a (subst (λ n. IsHonest n a) reads goes.1) image)

all_more : (trace : List Step) (step : Step) → list_all (λ s. nat_lt (file_of s) 2) trace ≡ true → file_of step < 2 → list_all (λ s. nat_lt (file_of s) 2) (trace ++ step ∷ []) ≡ true
all_more [] step named h = grind (arith, nat_tests)
all_more (s ∷ trace) step named h = both (nat_lt (file_of s) 2) (list_all (λ s. nat_lt (file_of s) 2) trace) _ named (λ rest. all_more trace step rest h)
  where
    both : (b r r' : Bool) → (b && r) ≡ true → (r ≡ true → r' ≡ true) → (b && r') ≡ true
    both true r r' e more = more e
    both false r r' e more = absurd (cc)

-- a step more
pub past_more : (start old new : List (List ℕ)) (trace trace' : List Step) (step : Step) → IsPast start old trace → Makes old step new → trace' ≡ trace ++ step ∷ [] → IsPast start new trace'
past_more start old new trace trace' step past makes is = subst (IsPast start new) (sym is) (record {
  reads = λ d f. reads_more (file_in start d f) (acts_of d f trace) (act_of d f step) (one_act d f step) (file_in old d f) (file_in new d f) (past.reads d f) (makes.each d f) ∙ ap (content (file_in start d f)) (sym (acts_of-snoc d f trace step));
  possible = λ n d f. elim (leb_tells n (length trace)) [
    | inl within ↦ subst (λ (l : List Step). IsCrashImage (file_in start d f) (acts_of d f l) (content (file_in start d f) (acts_of d f l))) (before n within.1) (past.possible n d f)
    | inr past_end ↦ subst (λ (l : List Step). IsCrashImage (file_in start d f) (acts_of d f l) (content (file_in start d f) (acts_of d f l))) (whole n past_end.1) (at_end d f)
  ];
  named = all_more trace step past.named makes.named;
})
  where
    before : (n : ℕ) → n ≤ length trace → take n trace ≡ take n (trace ++ step ∷ [])
    before n h = sym (take-append-le n trace (step ∷ []) h)

    whole : (n : ℕ) → length trace < n → trace ++ step ∷ [] ≡ take n (trace ++ step ∷ [])
    whole n h = sym (take_all n (trace ++ step ∷ []) (simp length-append (omega arith)))

    at_end : (d f : ℕ) → IsCrashImage (file_in start d f) (acts_of d f (trace ++ step ∷ [])) (content (file_in start d f) (acts_of d f (trace ++ step ∷ [])))
    at_end d f =
        let now : IsCrashImage (file_in start d f) (acts_of d f trace) (content (file_in start d f) (acts_of d f trace)) = subst (λ (l : List Step). IsCrashImage (file_in start d f) (acts_of d f l) (content (file_in start d f) (acts_of d f l))) (take-length trace) (past.possible (length trace) d f) in
        subst (λ (acts : List FileAct). IsCrashImage (file_in start d f) acts (content (file_in start d f) acts)) (sym (acts_of-snoc d f trace step))
        (possible_more (file_in start d f) (acts_of d f trace) (act_of d f step) (one_act d f step) (file_in old d f) (file_in new d f) (past.reads d f) (makes.each d f) now)

-- the same files by place are the same files
in_same : (old new : List (List ℕ)) → SameFiles old new → (d f : ℕ) → file_in new d f ≡ file_in old d f
in_same old new same d f = ap (λ (l : List ℕ). if nat_lt f 2 then l else []) (same (place_of d f))

-- no step, and the same files
pub past_same : (start old new : List (List ℕ)) (trace trace' : List Step) → IsPast start old trace → SameFiles old new → trace' ≡ trace → IsPast start new trace'
past_same start old new trace trace' past same is = subst (IsPast start new) (sym is) (record { reads = λ d f. in_same old new same d f ∙ past.reads d f; possible = past.possible; named = past.named })

image_none : (file : List ℕ) → IsCrashImage file [] file
image_none file = record { no_shorter = omega arith; no_longer = omega arith; kept = λ i within there out. refl }

-- at first
pub past_start : (start files : List (List ℕ)) (trace : List Step) → files ≡ start → trace ≡ [] → IsPast start files trace
past_start start files trace same none = subst (IsPast start files) (sym none) (record { reads = λ d f. ap (λ (l : List (List ℕ)). file_in l d f) same; possible = λ n d f. at_first n (file_in start d f) d f; named = refl })
  where
    at_first : (n : ℕ) (file : List ℕ) (d f : ℕ) → IsCrashImage file (acts_of d f (take n [])) (content file (acts_of d f (take n [])))
    at_first zero file d f = image_none file
    at_first (suc n) file d f = image_none file

-- a file in the list
pub in_place : (files : List (List ℕ)) (d f : ℕ) → f < 2 → file_in files d f ≡ file_at files (place_of d f)
in_place files d f h = let test : nat_lt f 2 ≡ true = grind (arith, nat_tests) in ap (λ (b : Bool). if b then file_at files (place_of d f) else []) test

-- no file of the list
pub not_there : (files : List (List ℕ)) (d f : ℕ) → 2 ≤ f → file_in files d f ≡ []
not_there files d f h = let test : nat_lt f 2 ≡ false = grind (arith, nat_tests) in ap (λ (b : Bool). if b then file_at files (place_of d f) else []) test

module _ (old new : List (List ℕ)) (device file : ℕ) (step : Step) (acts : List FileAct) (is_file : file < 2) (own : (d f : ℕ) → act_of d f step ≡ (if d == device && f == file then acts else [])) where
  other_stays : ((other : ℕ) → other ≢ place_of device file → file_at new other ≡ file_at old other) → (d f : ℕ) → (d ≢ device) ⊎ (f ≢ file) → file_in new d f ≡ file_in old d f
  other_stays others d f apart = elim (leb_tells 2 f) [
    | inl beyond ↦ not_there new d f beyond.1 ∙ sym (not_there old d f beyond.1)
    | inr within ↦ in_place new d f within.1 ∙ others (place_of d f) (place_apart d f device file within.1 is_file apart) ∙ sym (in_place old d f within.1)
  ]

  other_made : ((other : ℕ) → other ≢ place_of device file → file_at new other ≡ file_at old other) → (d f : ℕ) → (d ≢ device) ⊎ (f ≢ file) → MakesFile (file_in old d f) (act_of d f step) (file_in new d f)
  other_made others d f apart =
      let none : act_of d f step ≡ [] = own d f ∙ ap (λ (b : Bool). if b then acts else []) (other_test d f device file apart) in
      subst (λ (l : List FileAct). MakesFile (file_in old d f) l (file_in new d f)) (sym none) (other_stays others d f apart)

  own_made : MakesFile (file_at old (place_of device file)) acts (file_at new (place_of device file)) → MakesFile (file_in old device file) (act_of device file step) (file_in new device file)
  own_made makes =
      let is : act_of device file step ≡ acts = own device file ∙ ap (λ (b : Bool). if b then acts else []) (same_test device file) in
      subst (λ (l : List FileAct). MakesFile (file_in old device file) l (file_in new device file)) (sym is)
      (subst (λ (o : List ℕ). MakesFile o acts (file_in new device file)) (sym (in_place old device file is_file)) (subst (λ (n : List ℕ). MakesFile (file_at old (place_of device file)) acts n) (sym (in_place new device file is_file)) makes))

  -- a step makes one file new
  pub makes_step : file_of step ≡ file → ((other : ℕ) → other ≢ place_of device file → file_at new other ≡ file_at old other) → MakesFile (file_at old (place_of device file)) acts (file_at new (place_of device file)) → Makes old step new
  makes_step named others makes = record {
    named = subst (λ n. n < 2) (sym named) is_file;
    each = λ d f. elim (cases_eq d device) [
      | inr apart ↦ other_made others d f (inl apart)
      | inl same_d ↦ elim (cases_eq f file) [
        | inr apart ↦ other_made others d f (inr apart)
        | inl same_f ↦ subst (λ e. MakesFile (file_in old e f) (act_of e f step) (file_in new e f)) (sym same_d) (subst (λ g. MakesFile (file_in old device g) (act_of device g step) (file_in new device g)) (sym same_f) (own_made makes))
      ]
    ];
  }

-- a step that is nothing to any file
makes_nothing : (files : List (List ℕ)) (step : Step) → file_of step ≡ 0 → ((d f : ℕ) → act_of d f step ≡ []) → Makes files step files
makes_nothing files step named none = record {
  named = subst (λ n. n < 2) (sym named) (omega arith);
  each = λ d f. subst (λ (l : List FileAct). MakesFile (file_in files d f) l (file_in files d f)) (sym (none d f)) refl;
}

-- the steps of the world
pub makes_say : (files : List (List ℕ)) (bytes : Listed ℕ) → Makes files (steps.Say bytes) files
makes_say files bytes = makes_nothing files (steps.Say bytes) refl (λ d f. refl)

no_output : (call : Call) → IsOutput call → (b : Bool) (at : ℕ) (bytes content : List ℕ) → (if b then failed_act call at bytes content else []) ≡ []
no_output call output false at bytes content = refl
no_output kind.Take output true at bytes content = refl
no_output kind.Say output true at bytes content = refl
no_output kind.Size output true at bytes content = absurd output
no_output kind.Fetch output true at bytes content = absurd output
no_output kind.Write output true at bytes content = absurd output
no_output kind.Cut output true at bytes content = absurd output
no_output kind.Sync output true at bytes content = absurd output

pub makes_fail_output : (files : List (List ℕ)) (call : Call) (bytes content : Listed ℕ) → IsOutput call → Makes files (steps.Fail call 0 0 0 bytes content) files
makes_fail_output files call bytes content output = makes_nothing files (steps.Fail call 0 0 0 bytes content) refl (λ d f. no_output call output (d == 0 && f == 0) 0 bytes.items content.items)

quiet_failed : (call : Call) (old : List ℕ) (at : ℕ) (bytes content : List ℕ) → content ≡ old → MakesFile old (failed_act call at bytes content) old
quiet_failed kind.Write old at bytes content same = (sym same, subst (IsTorn (length old) at (length bytes) old) (sym same) (torn_same (length old) at (length bytes) old))
quiet_failed kind.Cut old at bytes content same = (sym same, subst (IsCutShort at old) (sym same) (record { no_shorter = omega arith; front = sym (take-length old) }))
quiet_failed kind.Sync old at bytes content same = (refl, tt)
quiet_failed kind.Take old at bytes content same = refl
quiet_failed kind.Say old at bytes content same = refl
quiet_failed kind.Size old at bytes content same = refl
quiet_failed kind.Fetch old at bytes content same = refl

pub makes_fail : (files : List (List ℕ)) (call : Call) (device file at : ℕ) (bytes content : Listed ℕ) → file < 2 → content.items ≡ file_at files (place_of device file) → Makes files (steps.Fail call device file at bytes content) files
makes_fail files call device file at bytes content is_file same =
    makes_step files files device file (steps.Fail call device file at bytes content) (failed_act call at bytes.items content.items) is_file (λ d f. refl) refl (λ other apart. refl) (quiet_failed call (file_at files (place_of device file)) at bytes.items content.items same)

pub makes_sync : (files : List (List ℕ)) (device file : ℕ) → file < 2 → Makes files (steps.Sync device file) files
makes_sync files device file is_file = makes_step files files device file (steps.Sync device file) (Synced ∷ []) is_file (λ d f. refl) refl (λ other apart. refl) (refl, tt)

pub makes_cut : (old new : List (List ℕ)) (device file n : ℕ) → file < 2 → IsPut old new (place_of device file) (take n (file_at old (place_of device file))) → Makes old (steps.Cut device file n) new
makes_cut old new device file n is_file put = makes_step old new device file (steps.Cut device file n) (CutTo n ∷ []) is_file (λ d f. refl) refl put.others (put.own, tt)

pub makes_write : (old new : List (List ℕ)) (device file at : ℕ) (bytes : Listed ℕ) (given : List ℕ) → file < 2 → bytes.items ≡ given → IsPut old new (place_of device file) (written (file_at old (place_of device file)) at given) → Makes old (steps.Write device file at bytes) new
makes_write old new device file at bytes given is_file same put = makes_step old new device file (steps.Write device file at bytes) (Wrote at bytes.items ∷ []) is_file (λ d f. refl) refl put.others (put.own ∙ ap (written (file_at old (place_of device file)) at) (sym same), tt)

pub makes_fail_write : (old new : List (List ℕ)) (device file at done : ℕ) (bytes content : Listed ℕ) (given put_bytes : List ℕ) → file < 2 → done ≤ length given → bytes.items ≡ given → content.items ≡ put_bytes
    → put_bytes ≡ written (file_at old (place_of device file)) at (take done given) → IsPut old new (place_of device file) put_bytes → Makes old (steps.Fail kind.Write device file at bytes content) new
makes_fail_write old new device file at done bytes content given put_bytes is_file some same told made put =
    let before = file_at old (place_of device file) in
    let torn : IsTorn (length before) at (length given) before (written before at (take done given)) = written_torn before at (take done given) (length given) (simp length-take (omega arith)) in
    makes_step old new device file (steps.Fail kind.Write device file at bytes content) (WriteFailed at bytes.items content.items ∷ []) is_file (λ d f. refl) refl put.others
    (put.own ∙ sym told, subst (λ (l : List ℕ). IsTorn (length before) at (length l) before content.items) (sym same) (subst (IsTorn (length before) at (length given) before) (sym (told ∙ made)) torn))

-- a step that couldn't be pushed isn't there
pub past_pushed : {T E : Type 0} (r : Result T E) (start files : List (List ℕ)) (trace trace' : List Step) (step : Step) → IsPast start files trace → Makes files step files → OnOk r (trace' ≡ trace ++ step ∷ []) → OnErr r (trace' ≡ trace) → IsPast start files trace'
past_pushed (Ok x) start files trace trace' step past makes ok err = past_more start files files trace trace' step past makes ok
past_pushed (Err e) start files trace trace' step past makes ok err = past_same start files files trace trace' past (λ place. refl) err

-- a step is put behind others where there is room
pub past_added : (start old new : List (List ℕ)) (trace mid trace' : List Step) (step : Step) → IsPast start old trace → Makes old step new → mid ≡ trace → trace' ≡ mid ++ step ∷ [] → IsPast start new trace'
past_added start old new trace mid trace' step past makes same is = past_more start old new trace trace' step past makes (is ∙ ap (λ (l : List Step). l ++ step ∷ []) same)

-- what reads give is what stands in the list
pub read_place : (start files : List (List ℕ)) (trace : List Step) (d f : ℕ) → IsPast start files trace → f < 2 → content (file_in start d f) (acts_of d f trace) ≡ file_at files (place_of d f)
read_place start files trace d f past h = sym (past.reads d f) ∙ in_place files d f h
