-- A stream of bytes as records: a length of four bytes, and that many bytes.
use Rattle.std.specs.Prelude.{◌≡◌, ℕ, ◌<◌, ◌≤◌, ◌^◌, List, [], ◌∷◌, ◌++◌, length}
use Rattle.std.specs.Int.{w32, to_be_bytes}
use Rattle.star_io.specs.declared.record.TheConstants.{MAX_RECORD_BYTES}
use Rattle.star_io.specs.declared.record.Record.{Record}
use Rattle.star_io.specs.declared.record.Record.TheVariants.{Whole, TooLong, CutLength, CutRecord}

-- The bytes begin with the spelling of this record, and the rest follows it. A record that is cut has no rest.
abbrev pub Begins : Record → List ℕ → List ℕ → Type 0
Begins (Whole body) bytes rest =
    (length body ≤ MAX_RECORD_BYTES) × (bytes ≡ to_be_bytes w32 (length body) ++ body ++ rest)
Begins (TooLong said) bytes rest =
    (MAX_RECORD_BYTES < said) × (said < 2 ^ 32)
    × ((body : List ℕ) × (length body ≡ said) × (bytes ≡ to_be_bytes w32 said ++ body ++ rest))
Begins (CutLength have) bytes rest =
    (0 < have) × (have < 4) × (length bytes ≡ have) × (rest ≡ [])
Begins (CutRecord said have) bytes rest =
    (have < said) × (said < 2 ^ 32)
    × ((body : List ℕ) × (length body ≡ have) × (bytes ≡ to_be_bytes w32 said ++ body)) × (rest ≡ [])

-- The bytes begin with the spellings of these records, joined, and the rest follows them.
abbrev pub BeginAll : List Record → List ℕ → List ℕ → Type 0
BeginAll [] bytes rest = bytes ≡ rest
BeginAll (first ∷ others) bytes rest = (middle : List ℕ) × Begins first bytes middle × BeginAll others middle rest

-- The bytes are the spellings of these records, joined.
abbrev pub AreRecords : List Record → List ℕ → Type 0
AreRecords records bytes = BeginAll records bytes []

-- Each list of bytes has a list of records, and no other.
abbrev pub HasOneList : List ℕ → Type 0
HasOneList bytes = (records : List Record) × AreRecords records bytes × ((others : List Record) → AreRecords others bytes → others ≡ records)
