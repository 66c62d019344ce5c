-- The records of a list of bytes, and the bytes of a list of records, as functions.
use Rattle.std.specs.Prelude.{◌≡◌, ◌<◌, ◌≤◌, ℕ, zero, suc, List, [], ◌∷◌, ◌++◌, length, take, drop, map, All, nat_lt, if◌then◌else◌}
use Rattle.std.specs.List.{flat_map}
use Rattle.std.specs.Int.{w32, to_be_bytes, from_be_bytes}
use Rattle.star_io.specs.declared.record.TheConstants.{MAX_RECORD_BYTES}
use Rattle.star_io.specs.declared.record.Record.{Record}
use Rattle.star_io.specs.declared.record.Record.TheVariants.{Whole, TooLong, CutLength, CutRecord}
use Rattle.star_io.specs.Records.{BeginAll}

-- the record of so many bytes, where these follow its length, and what follows it
unfoldable pub record_of_length : ℕ → List ℕ → Record × List ℕ
record_of_length said bytes =
    if nat_lt (length bytes) said then (CutRecord said (length bytes), [])
    else if nat_lt MAX_RECORD_BYTES said then (TooLong said, drop said bytes)
    else (Whole (take said bytes), drop said bytes)

-- the first record of bytes that are not empty, and what follows it
unfoldable pub first_record : List ℕ → Record × List ℕ
first_record bytes =
    if nat_lt (length bytes) 4 then (CutLength (length bytes), [])
    else record_of_length (from_be_bytes w32 (take 4 bytes)) (drop 4 bytes)

-- the first n records, or all where there are fewer
unfoldable pub first_records : ℕ → List ℕ → List Record
first_records n [] = []
first_records zero (byte ∷ bytes) = []
first_records (suc n) (byte ∷ bytes) =
    let first = first_record (byte ∷ bytes) in first.0 ∷ first_records n first.1

-- the records of the bytes: each has at least one byte
unfoldable pub stream_records : List ℕ → List Record
stream_records bytes = first_records (length bytes) bytes

-- what follows the first n records
unfoldable pub rest_after : ℕ → List ℕ → List ℕ
rest_after n [] = []
rest_after zero (byte ∷ bytes) = byte ∷ bytes
rest_after (suc n) (byte ∷ bytes) = rest_after n (first_record (byte ∷ bytes)).1

-- the bytes begin with so many records, and at least one byte follows them
abbrev pub HasMoreThan : ℕ → List ℕ → Type 0
HasMoreThan n bytes =
    (records : List Record) × (rest : List ℕ) × BeginAll records bytes rest × (length records ≡ n) × (0 < length rest)

-- the bytes of a record of these bytes: their length, and they
abbrev pub record_bytes : List ℕ → List ℕ
record_bytes body = to_be_bytes w32 (length body) ++ body

-- the stream of records of these bytes
abbrev pub stream_of : List (List ℕ) → List ℕ
stream_of bodies = flat_map record_bytes bodies

-- the records of these bytes
abbrev pub whole : List (List ℕ) → List Record
whole bodies = map (λ (body : List ℕ). Whole body) bodies

-- none is too long for a record
abbrev pub AreShort : List (List ℕ) → Type 0
AreShort bodies = All (λ body. length body ≤ MAX_RECORD_BYTES) bodies
