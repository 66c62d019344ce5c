-- A certificate, its one spelling, and the one fault of bytes that begin with none (docs/FORMATS.md).
use Rattle.std.specs.Prelude.{◌≡◌, ℕ, zero, suc, ◌+◌, ◌-◌, ◌*◌, ◌^◌, ◌<◌, ◌≤◌, List, [], ◌∷◌, ◌++◌, length, map, slice_index, None, All}
use Rattle.std.specs.Int.{w64, to_be_bytes}
use Rattle.std.specs.List.Sorted.{IsStrictlyIncreasing}
use Rattle.field61.specs.declared.TheConstants.{MODULUS}
use Rattle.field61.specs.Field.{AreElements}
use Rattle.report_frame.specs.declared.limits.TheConstants.{MIN_THRESHOLD, TAG_BYTES, CHECK_BYTES, MAX_VALUE}
use Rattle.report_frame.specs.declared.version.Version.{Version}
use Rattle.report_frame.specs.declared.version.Version.TheVariants.{One, Two}
use Rattle.report_frame.specs.Versions.{version_number, version_of, max_level, max_threshold}
use Rattle.byte_format.specs.Format.{Format, Entry, After, spelling, IsWrong}
use Rattle.byte_format.specs.Format.Size.{OneByte, TwoBytes, FourBytes, EightBytes}
use Rattle.byte_format.specs.Format.Entry.{Number, Bytes}
use Rattle.byte_format.specs.Format.Format.{End, NumberField, BytesField}
use Rattle.shamir_limbs.specs.declared.share.Point.{Point}
use Rattle.shamir_limbs.specs.KeyLine.{xs_of}
use Rattle.cert_audit.specs.declared.kind.CertKind.{CertKind}
use Rattle.cert_audit.specs.declared.kind.CertKind.TheVariants.{Truncated, Magic, Format as FormatFault, Range}
use Rattle.cert_audit.specs.declared.limits.TheConstants.{CERT_MAGIC, CERT_FORMAT, MAX_POINTS}
use Rattle.cert_audit.specs.declared.cert.Cert.{Cert}

-- ---- certificates

-- each field is in its range, beside what its type says
pub record IsCert (c : Cert) : Type 0 where
  pub level : c.level ≤ max_level c.head.version
  pub k_low : MIN_THRESHOLD ≤ c.head.k
  pub k_high : c.head.k ≤ max_threshold c.head.version
  pub few : length c.points ≤ MAX_POINTS
  -- the x of the points are above 0, and ascend strictly
  pub ascending : IsStrictlyIncreasing (0 ∷ xs_of c.points)
  pub numbers : length c.numbers ≡ 3 * c.head.k

-- the numbers of a point are field elements
pub record IsPoint (p : Point) : Type 0 where
  pub x : p.x < MODULUS
  pub three : length p.y ≡ 3
  pub y0 : slice_index p.y 0 < MODULUS
  pub y1 : slice_index p.y 1 < MODULUS
  pub y2 : slice_index p.y 2 < MODULUS

-- each field is in its range, with what the types say
pub record InRange (c : Cert) : Type 0 where
  pub is_cert : IsCert c
  pub epoch : c.epoch < 2 ^ 32
  pub parent : length c.parent ≡ CHECK_BYTES
  pub tag : length c.head.tag ≡ TAG_BYTES
  pub check : length c.head.check ≡ CHECK_BYTES
  pub box_low : 1 ≤ length c.head.boxed
  pub box_high : length c.head.boxed ≤ MAX_VALUE
  pub points : All IsPoint c.points
  pub elements : AreElements c.numbers

-- ---- the layout

-- so many field numbers
abbrev pub numbers_layout : ℕ → Format CertKind
numbers_layout zero = End None
numbers_layout (suc m) = NumberField EightBytes Range 0 (MODULUS - 1) (λ _. numbers_layout m)

-- so many points, each with an x above the one before it, and then the rest
abbrev pub points_layout : ℕ → ℕ → Format CertKind → Format CertKind
points_layout zero previous rest = rest
points_layout (suc n) previous rest =
    NumberField EightBytes Range (previous + 1) (MODULUS - 1) (λ x.
    NumberField EightBytes Range 0 (MODULUS - 1) (λ _.
    NumberField EightBytes Range 0 (MODULUS - 1) (λ _.
    NumberField EightBytes Range 0 (MODULUS - 1) (λ _. points_layout n x rest))))

-- The fields behind the threshold.
abbrev pub behind_threshold : ℕ → Format CertKind
behind_threshold k =
    BytesField CHECK_BYTES (
    BytesField TAG_BYTES (
    BytesField CHECK_BYTES (
    NumberField OneByte Range 1 MAX_VALUE (λ box_length.
    BytesField box_length (
    NumberField FourBytes Range 0 MAX_POINTS (λ n. points_layout n 0 (numbers_layout (3 * k))))))))

-- The fields behind the version, which gives the ranges of level and threshold. The epoch may be any number of four bytes.
abbrev pub behind_version : Version → Format CertKind
behind_version version =
    NumberField OneByte Range 0 (max_level version) (λ _.
    NumberField FourBytes Range 0 (2 ^ 32 - 1) (λ _.
    NumberField TwoBytes Range MIN_THRESHOLD (max_threshold version) (λ k. behind_threshold k)))

-- And all of them.
abbrev pub certificate : Format CertKind
certificate =
    NumberField EightBytes Magic CERT_MAGIC CERT_MAGIC (λ _.
    NumberField OneByte FormatFault CERT_FORMAT CERT_FORMAT (λ _.
    NumberField OneByte Range (version_number One) (version_number Two) (λ number. behind_version (version_of number))))

-- what a certificate puts into the fields up to the threshold
abbrev pub start_entries : Cert → List Entry
start_entries c =
    Number CERT_MAGIC ∷ Number CERT_FORMAT ∷ Number (version_number c.head.version) ∷ Number c.level ∷ Number c.epoch ∷ Number c.head.k ∷ []

-- from there to the points
abbrev pub head_entries : Cert → List Entry
head_entries c =
    Bytes c.parent ∷ Bytes c.head.tag ∷ Bytes c.head.check ∷ Number (length c.head.boxed) ∷ Bytes c.head.boxed ∷ Number (length c.points) ∷ []

-- and before the points
abbrev pub front_entries : Cert → List Entry
front_entries c = start_entries c ++ head_entries c

-- the bytes of field numbers
abbrev pub number_bytes : List ℕ → List ℕ
number_bytes [] = []
number_bytes (n ∷ ns) = to_be_bytes w64 n ++ number_bytes ns

-- what a point puts in
abbrev pub entries_of_point : Point → List Entry
entries_of_point p = Number p.x ∷ Number (slice_index p.y 0) ∷ Number (slice_index p.y 1) ∷ Number (slice_index p.y 2) ∷ []

-- and points
abbrev pub point_entries : List Point → List Entry
point_entries [] = []
point_entries (p ∷ ps) = entries_of_point p ++ point_entries ps

-- and numbers
abbrev pub number_entries : List ℕ → List Entry
number_entries numbers = map (λ n. Number n) numbers

-- the bytes of a point
abbrev pub bytes_of_point : Point → List ℕ
bytes_of_point p = number_bytes (p.x ∷ slice_index p.y 0 ∷ slice_index p.y 1 ∷ slice_index p.y 2 ∷ [])

-- and of points
abbrev pub point_bytes : List Point → List ℕ
point_bytes [] = []
point_bytes (p ∷ ps) = bytes_of_point p ++ point_bytes ps

-- what a certificate puts into all the fields
abbrev pub entries : Cert → List Entry
entries c = front_entries c ++ (point_entries c.points ++ number_entries c.numbers)

-- ---- spellings and faults

-- the bytes of a certificate
unfoldable pub cert_spelling : Cert → List ℕ
cert_spelling c = spelling certificate (entries c)

-- The bytes begin with the spelling of this certificate, which is so long.
pub record BeginsWith (c : Cert) (used : ℕ) (bytes : List ℕ) : Type 0 where
  pub in_range : InRange c
  pub rest : List ℕ
  pub spelt : bytes ≡ cert_spelling c ++ rest
  pub long : used ≡ length (cert_spelling c)

-- The bytes begin with no certificate: the first fields end at this place, and what follows them is wrong.
pub record FaultAt (bytes : List ℕ) (kind : CertKind) (at : ℕ) : Type 0 where
  pub first : List Entry
  pub rest : List ℕ
  pub spelt : bytes ≡ spelling certificate first ++ rest
  pub place : at ≡ length (spelling certificate first)
  pub wrong : After certificate first (IsWrong Truncated rest kind)
