-- The frame of a report, its one spelling, and the one fault of bytes that are no frame (docs/FORMATS.md).
use Rattle.std.specs.Prelude.{◌≡◌, ◌⊎◌, ℕ, ◌-◌, ◌^◌, ◌<◌, ◌≤◌, List, [], ◌∷◌, ◌++◌, length, take, Some}
use Rattle.field61.specs.declared.TheConstants.{MODULUS}
use Rattle.report_frame.specs.declared.limits.TheConstants.{MAGIC, MIN_THRESHOLD, TAG_BYTES, CHECK_BYTES, MAX_VALUE, NONCE_BYTES, SEAL_BYTES, MAX_FRAME_ONE, MAX_FRAME_TWO}
use Rattle.report_frame.specs.declared.fault.FaultKind.{FaultKind}
use Rattle.report_frame.specs.declared.fault.FaultKind.TheVariants.{TooLong, Truncated, Magic, Version as VersionFault, Level, Threshold, Point, Share, BoxLength, BodyLength, Trailing}
use Rattle.report_frame.specs.declared.version.Version.{Version}
use Rattle.report_frame.specs.declared.version.Version.TheVariants.{One, Two}
use Rattle.report_frame.specs.Versions.{version_number, version_of, max_level, max_threshold, max_frame}
use Rattle.byte_format.specs.Format.{Format, Entry, After, IsEnd, IsWrong, spelling}
use Rattle.byte_format.specs.Format.Size.{OneByte, TwoBytes, FourBytes, EightBytes}
use Rattle.byte_format.specs.Format.Format.{End, NumberField, BytesField}
use Rattle.byte_format.specs.Format.Entry.{Number, Bytes}

-- the fields of a report
pub record Fields : Type 0 where
  pub version : Version
  pub level : ℕ
  pub epoch : ℕ
  pub k : ℕ
  pub x : ℕ
  pub y0 : ℕ
  pub y1 : ℕ
  pub y2 : ℕ
  pub tag : List ℕ
  pub check : List ℕ
  pub boxed : List ℕ
  pub nonce : List ℕ
  pub body : List ℕ
  pub seal : List ℕ

-- The layout of a frame. The fields from the length of the box on:
abbrev pub back : Format FaultKind
back =
    NumberField OneByte BoxLength 1 MAX_VALUE (λ box_length.
    BytesField box_length (
    BytesField NONCE_BYTES (
    NumberField TwoBytes BodyLength 1 (2 ^ 16 - 1) (λ body_length.
    BytesField body_length (
    BytesField SEAL_BYTES (End (Some Trailing)))))))

-- The fields behind the version, which gives the ranges of level and threshold. The epoch may be any number of four
-- bytes, so its fault never comes.
abbrev pub behind_version : Version → Format FaultKind
behind_version version =
    NumberField OneByte Level 0 (max_level version) (λ _.
    NumberField FourBytes Truncated 0 (2 ^ 32 - 1) (λ _.
    NumberField TwoBytes Threshold MIN_THRESHOLD (max_threshold version) (λ _.
    NumberField EightBytes Point 1 (MODULUS - 1) (λ _.
    NumberField EightBytes Share 0 (MODULUS - 1) (λ _.
    NumberField EightBytes Share 0 (MODULUS - 1) (λ _.
    NumberField EightBytes Share 0 (MODULUS - 1) (λ _.
    BytesField TAG_BYTES (
    BytesField CHECK_BYTES back))))))))

-- And all of them.
abbrev pub frame : Format FaultKind
frame =
    NumberField TwoBytes Magic MAGIC MAGIC (λ _.
    NumberField OneByte VersionFault (version_number One) (version_number Two) (λ number.
    behind_version (version_of number)))

-- what a report puts into the fields from the length of the box to the body
abbrev pub middle_entries : Fields → List Entry
middle_entries r = Number (length r.boxed) ∷ Bytes r.boxed ∷ Bytes r.nonce ∷ Number (length r.body) ∷ Bytes r.body ∷ []

-- what a report puts into the fields before the length of the box
abbrev pub front_entries : Fields → List Entry
front_entries r =
    Number MAGIC ∷ Number (version_number r.version) ∷ Number r.level ∷ Number r.epoch ∷ Number r.k ∷ Number r.x
    ∷ Number r.y0 ∷ Number r.y1 ∷ Number r.y2 ∷ Bytes r.tag ∷ Bytes r.check ∷ []

-- what a report puts into the fields before the seal
abbrev pub sealed_entries : Fields → List Entry
sealed_entries r = front_entries r ++ middle_entries r

-- what a report puts into all the fields
abbrev pub entries : Fields → List Entry
entries r = sealed_entries r ++ Bytes r.seal ∷ []

-- the bytes before the seal
abbrev pub sealed_part : Fields → List ℕ
sealed_part r = spelling frame (sealed_entries r)

-- The bytes are the frame of this report.
pub record IsFrame (r : Fields) (bytes : List ℕ) : Type 0 where
  pub range : After frame (entries r) (IsEnd (Some Trailing))
  pub spelt : bytes ≡ spelling frame (entries r)
  pub short : length bytes ≤ max_frame r.version

-- The first three bytes are the magic and the number of version 1.
abbrev pub BeginsAsOne : List ℕ → Type 0
BeginsAsOne bytes = take 3 bytes ≡ spelling frame (Number MAGIC ∷ Number (version_number One) ∷ [])

-- There are more bytes than a frame may have, which is this limit: that of version 2, or where they begin as version 1
-- does, that one's.
abbrev pub IsTooLong : List ℕ → ℕ → Type 0
IsTooLong bytes limit =
    ((MAX_FRAME_TWO < length bytes) × (limit ≡ MAX_FRAME_TWO))
    ⊎ ((MAX_FRAME_ONE < length bytes) × (length bytes ≤ MAX_FRAME_TWO) × BeginsAsOne bytes × (limit ≡ MAX_FRAME_ONE))

-- The bytes are no frame: they are too long, or the first fields end at this place and what follows them is wrong.
abbrev pub FaultAt : List ℕ → FaultKind → ℕ → Type 0
FaultAt bytes kind at =
    ((kind ≡ TooLong) × IsTooLong bytes at)
    ⊎ (((limit : ℕ) → IsTooLong bytes limit → ⊥)
    × ((first : List Entry) × (rest : List ℕ) × (bytes ≡ spelling frame first ++ rest)
    × (at ≡ length (spelling frame first)) × After frame first (IsWrong Truncated rest kind)))
