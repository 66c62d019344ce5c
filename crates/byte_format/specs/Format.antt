-- A format of bytes as data: its fields from left to right, each with its size, its range and the fault of a value out of
-- that range. What follows a number may depend on it, so a version decides on the fields behind it, and a count on how many
-- there are. K is the type of the kinds of faults.
use Rattle.std.specs.Prelude.{◌≡◌, ◌⊎◌, ℕ, ◌<◌, ◌≤◌, List, [], ◌∷◌, ◌++◌, length, take, Option, Some, None}
use Rattle.std.specs.Int.{Width, w8, w16, w32, w64, byte_len, to_be_bytes, from_be_bytes}

-- how many bytes a number has
pub data Size : Type 0 where
  OneByte : Size
  TwoBytes : Size
  FourBytes : Size
  EightBytes : Size

-- the same as one of std's widths
abbrev pub width : Size → Width
width OneByte = w8
width TwoBytes = w16
width FourBytes = w32
width EightBytes = w64

-- the number of bytes
abbrev pub bytes_of : Size → ℕ
bytes_of size = byte_len (width size)

-- the number that these bytes spell, which are big-endian
abbrev pub number_of : Size → List ℕ → ℕ
number_of size bytes = from_be_bytes (width size) bytes

-- the fields, in order
pub data Format (K : Type 0) : Type 0 where
  -- Nothing more: the fault of bytes that follow, or none where any may follow.
  End : Option K → Format K
  -- A number: its size, its fault where it is out of range, its least and its greatest value. What follows may depend on it.
  NumberField : Size → K → ℕ → ℕ → (ℕ → Format K) → Format K
  -- so many bytes
  BytesField : ℕ → Format K → Format K

-- what stands in a field
pub data Entry : Type 0 where
  Number : ℕ → Entry
  Bytes : List ℕ → Entry

-- The entries stand in the first fields, each in its range, and Q holds of the fields that follow.
abbrev pub After : {K : Type 0} → Format K → List Entry → (Format K → Type 0) → Type 0
After format [] Q = Q format
After (End trailing) (e ∷ es) Q = ⊥
After (NumberField size fault low high next) (Number n ∷ es) Q = (low ≤ n) × (n ≤ high) × After (next n) es Q
After (NumberField size fault low high next) (Bytes b ∷ es) Q = ⊥
After (BytesField len next) (Number n ∷ es) Q = ⊥
After (BytesField len next) (Bytes b ∷ es) Q = (length b ≡ len) × After next es Q

-- the bytes of the entries, joined: a number is big-endian, in the size of its field
abbrev pub spelling : {K : Type 0} → Format K → List Entry → List ℕ
spelling format [] = []
spelling (End trailing) (e ∷ es) = []
spelling (NumberField size fault low high next) (Number n ∷ es) = to_be_bytes (width size) n ++ spelling (next n) es
spelling (NumberField size fault low high next) (Bytes b ∷ es) = []
spelling (BytesField len next) (Number n ∷ es) = []
spelling (BytesField len next) (Bytes b ∷ es) = b ++ spelling next es

-- no field follows, and this is the fault of other bytes, or none
abbrev pub IsEnd : {K : Type 0} → Option K → Format K → Type 0
IsEnd trailing (End other) = other ≡ trailing
IsEnd trailing (NumberField size fault low high next) = ⊥
IsEnd trailing (BytesField len next) = ⊥

-- these bytes may follow a format that ends so
abbrev pub MayFollow : {K : Type 0} → Option K → List ℕ → Type 0
MayFollow None rest = Unit {0}
MayFollow (Some kind) rest = rest ≡ []

-- The bytes don't begin with the next field: it is cut short, which is of the first kind, or whole and out of its range, or
-- none is due.
abbrev pub IsWrong : {K : Type 0} → K → List ℕ → K → Format K → Type 0
IsWrong short rest kind (End None) = ⊥
IsWrong short rest kind (End (Some trailing)) = (0 < length rest) × (kind ≡ trailing)
IsWrong short rest kind (NumberField size fault low high next) =
    ((length rest < bytes_of size) × (kind ≡ short))
    ⊎ ((bytes_of size ≤ length rest) × (kind ≡ fault)
    × ((number_of size (take (bytes_of size) rest) < low) ⊎ (high < number_of size (take (bytes_of size) rest))))
IsWrong short rest kind (BytesField len next) = (length rest < len) × (kind ≡ short)
