-- How a store stands in the two files of a device: gates, and between them bodies with their lengths.
-- A file is a gate, the snapshot's length and the snapshot, a gate, and then records, each a length, the record and a gate. The gate
-- before a body is open, which is the byte 1, or else what stands from it on is ignored. A snapshot begins with its generation.
-- Read against: the file 01 00 00 00 46 is bad at 5, for its snapshot of 70 bytes is cut off; the file of the one byte 01 is blank; a
-- gate of 07 is closed.
use Rattle.std.specs.Prelude.{◌≡◌, ◌≢◌, ◌⊎◌, ℕ, ◌+◌, ◌-◌, ◌^◌, ◌<◌, ◌≤◌, ◌==◌, ◌||◌, not, Bool, true, false, nat_le, List, [], ◌∷◌, ◌++◌, length, slice_index, take}
use Rattle.std.specs.List.{flat_map}
use Rattle.std.specs.Int.{w32, w64, to_be_bytes, from_be_bytes}

-- ---- bodies

-- how many bytes a snapshot may have
abbrev pub IsSnapshotLength : ℕ → Type 0
IsSnapshotLength n = (8 ≤ n) × (n ≤ 131072)

-- how many bytes a record may have
abbrev pub IsRecordLength : ℕ → Type 0
IsRecordLength n = (1 ≤ n) × (n ≤ 65536)

-- each of these may be a record
abbrev pub AreRecords : List (List ℕ) → Type 0
AreRecords [] = Unit {0}
AreRecords (body ∷ bodies) = IsRecordLength (length body) × AreRecords bodies

-- a body behind its length, which has four bytes
abbrev pub framed : List ℕ → List ℕ
framed body = to_be_bytes w32 (length body) ++ body

-- a body behind an open gate
abbrev pub opened : List ℕ → List ℕ
opened body = 1 ∷ framed body

-- no length of this sort stands in front of these bytes
abbrev pub HasNoLength : (ℕ → Type 0) → List ℕ → Type 0
HasNoLength Fits bytes = (n : ℕ) (rest : List ℕ) → bytes ≡ to_be_bytes w32 n ++ rest → Fits n → ⊥

-- a length of this sort stands in front of these bytes, and fewer bytes than that behind it
abbrev pub IsCutOff : (ℕ → Type 0) → List ℕ → Type 0
IsCutOff Fits bytes = (n : ℕ) × (rest : List ℕ) × (bytes ≡ to_be_bytes w32 n ++ rest) × Fits n × (length rest < n)

-- a body with its length is refused at place k of these bytes: at the length, or at the body's first byte
abbrev pub IsRefusedBody : (ℕ → Type 0) → List ℕ → ℕ → Type 0
IsRefusedBody Fits bytes k = (HasNoLength Fits bytes × (k ≡ 0)) ⊎ (IsCutOff Fits bytes × (k ≡ 4))

-- ---- generations

-- the generation of a snapshot, which is a number from 1 to 2^62 in its first 8 bytes
abbrev pub generation : List ℕ → ℕ
generation snapshot = from_be_bytes w64 (take 8 snapshot)

-- a number that may be a generation
abbrev pub IsGeneration : ℕ → Type 0
IsGeneration g = (1 ≤ g) × (g ≤ 2 ^ 62)

-- the file is blank: it has at most one byte, or its first byte isn't 1
abbrev pub is_blank : List ℕ → Bool
is_blank file = nat_le (length file) 1 || not (slice_index file 0 == 1)

-- the file isn't blank, and its length and its generation read
abbrev pub HasGeneration : List ℕ → ℕ → Type 0
HasGeneration file g = (n : ℕ) × (rest : List ℕ) × (file ≡ 1 ∷ to_be_bytes w32 n ++ to_be_bytes w64 g ++ rest) × IsSnapshotLength n × IsGeneration g

-- no generation stands in front of these bytes
abbrev pub HasNoGeneration : List ℕ → Type 0
HasNoGeneration bytes = (g : ℕ) (rest : List ℕ) → bytes ≡ to_be_bytes w64 g ++ rest → IsGeneration g → ⊥

-- the file isn't blank, and it is refused at its length or at its generation
abbrev pub IsBadHead : List ℕ → ℕ → Type 0
IsBadHead file place =
    (is_blank file ≡ false) × (bytes : List ℕ) × (file ≡ 1 ∷ bytes)
    × ((HasNoLength IsSnapshotLength bytes × (place ≡ 1)) ⊎ ((n : ℕ) × (rest : List ℕ) × (bytes ≡ to_be_bytes w32 n ++ rest) × IsSnapshotLength n × HasNoGeneration rest × (place ≡ 5)))

-- ---- the frame of one file

-- a file up to the gate behind these records
abbrev pub front : List ℕ → List (List ℕ) → List ℕ
front snapshot bodies = opened snapshot ++ flat_map opened bodies

-- how many bytes the journal of these records has: those behind the gate that follows the snapshot
abbrev pub journal_bytes : List (List ℕ) → ℕ
journal_bytes bodies = length (flat_map opened bodies) - 1

-- the gate behind these records may be open: the journal has at most 65,536 bytes, or the generation is the last
abbrev pub MayOpen : ℕ → List (List ℕ) → Type 0
MayOpen g bodies = (journal_bytes bodies ≤ 65536) ⊎ (g ≡ 2 ^ 62)

-- the file's frame reads up to the gate behind these records, and there the rest begins
pub record ReadsTo (file snapshot : List ℕ) (bodies : List (List ℕ)) (rest : List ℕ) : Type 0 where
  pub whole : file ≡ front snapshot bodies ++ rest
  pub snapshot_length : IsSnapshotLength (length snapshot)
  pub generation_fits : IsGeneration (generation snapshot)
  pub records : AreRecords bodies
  pub gates : (before behind : List (List ℕ)) (body : List ℕ) → bodies ≡ before ++ body ∷ behind → MayOpen (generation snapshot) before

-- a closed gate stands in front of these bytes
abbrev pub IsClosed : List ℕ → Type 0
IsClosed rest = (gate : ℕ) × (behind : List ℕ) × (gate ≢ 1) × (rest ≡ gate ∷ behind)

-- the bytes from the gate behind these records on are refused at their place k: the gate is missing; it is open and may not be; or it
-- is open and the record behind it is refused
abbrev pub IsRefusedGate : ℕ → List (List ℕ) → List ℕ → ℕ → Type 0
IsRefusedGate g bodies rest k =
    ((rest ≡ []) × (k ≡ 0)) ⊎ (((behind : List ℕ) × (rest ≡ 1 ∷ behind) × (MayOpen g bodies → ⊥) × (k ≡ 0))
    ⊎ ((behind : List ℕ) × (i : ℕ) × (rest ≡ 1 ∷ behind) × MayOpen g bodies × IsRefusedBody IsRecordLength behind i × (k ≡ 1 + i)))

-- the file has this snapshot and these records, with the first closed gate behind them
abbrev pub HasFrame : List ℕ → List ℕ → List (List ℕ) → Type 0
HasFrame file snapshot bodies = (rest : List ℕ) × ReadsTo file snapshot bodies rest × IsClosed rest

-- the frame of a file whose length and generation read is refused at this place: at the snapshot, which is cut off, or from the gate
-- behind some records on
abbrev pub HasBadFrame : List ℕ → ℕ → Type 0
HasBadFrame file place =
    ((bytes : List ℕ) × (file ≡ 1 ∷ bytes) × IsCutOff IsSnapshotLength bytes × (place ≡ 5))
    ⊎ ((snapshot : List ℕ) × (bodies : List (List ℕ)) × (rest : List ℕ) × (k : ℕ) × ReadsTo file snapshot bodies rest × IsRefusedGate (generation snapshot) bodies rest k × (place ≡ length (front snapshot bodies) + k))

-- ---- the store in two files

-- what the two files are: both blank, refused in one of them at a place, or a store in one of them
pub data StoreFrame : Type 0 where
  Blank : StoreFrame
  Bad : (file place : ℕ) → StoreFrame
  Store : (file : ℕ) (snapshot : List ℕ) (bodies : List (List ℕ)) → StoreFrame

-- the file is blank or of a lesser generation
abbrev pub IsOlder : List ℕ → ℕ → Type 0
IsOlder file g = (is_blank file ≡ true) ⊎ ((h : ℕ) × HasGeneration file h × (h < g))

-- the file is blank, or its length and generation read
abbrev pub HasHead : List ℕ → Type 0
HasHead file = (is_blank file ≡ true) ⊎ ((g : ℕ) × HasGeneration file g)

-- the file with this number is the one that counts, the one of greater generation
abbrev pub Counting : List ℕ → List ℕ → ℕ → List ℕ → Type 0
Counting first second number file =
    ((number ≡ 0) × (file ≡ first) × (g : ℕ) × HasGeneration first g × IsOlder second g)
    ⊎ ((number ≡ 1) × (file ≡ second) × (g : ℕ) × HasGeneration second g × IsOlder first g)

-- a length or a generation is refused: file 0 is tested first, and two equal generations are refused in file 1
abbrev pub HasBadHead : List ℕ → List ℕ → ℕ → ℕ → Type 0
HasBadHead first second number place =
    ((number ≡ 0) × IsBadHead first place)
    ⊎ (((number ≡ 1) × HasHead first × IsBadHead second place)
    ⊎ ((number ≡ 1) × (place ≡ 5) × (g : ℕ) × HasGeneration first g × HasGeneration second g))

-- the two files are this
abbrev pub HasStoreFrame : List ℕ → List ℕ → StoreFrame → Type 0
HasStoreFrame first second Blank = (is_blank first ≡ true) × (is_blank second ≡ true)
HasStoreFrame first second (Bad number place) = HasBadHead first second number place ⊎ ((file : List ℕ) × Counting first second number file × HasBadFrame file place)
HasStoreFrame first second (Store number snapshot bodies) = (file : List ℕ) × Counting first second number file × HasFrame file snapshot bodies
