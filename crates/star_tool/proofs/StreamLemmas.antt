-- The input of a command that reads a stream of records.
use Rattle.std.proofs.Common.{◌≡◌, ◌<◌, ℕ, Bool, true, false, List, [], length, drop, Some, None, refl}
use Rattle.std.specs.Prelude.{nat_lt, ◌↔◌, if◌then◌else◌}
use Rattle.std.proofs.lemmas.Bool.{lt-ltb, ltb-true}
use Rattle.star_io.specs.Bytes.{AreBytes}
use Rattle.star_io.specs.declared.record.TheConstants.{MAX_RECORDS}
use Rattle.star_io.specs.RecordLists.{rest_after, HasMoreThan}
use Rattle.star_io.proofs.RecordListLaws.{more_follows, follows_more}
use Rattle.star_tool.specs.declared.status.Status.{Status}
use Rattle.star_tool.specs.declared.status.Status.TheVariants.{TooMany}
use Rattle.star_tool.specs.Seen.{Seen}
use Rattle.star_tool.specs.StreamInput.{stream_refusal, stream_rest}

-- something behind the last record that is read is a refusal
many_refused : (bytes : List ℕ) → 0 < length (rest_after MAX_RECORDS bytes) → stream_refusal bytes ≡ Some TooMany
many_refused bytes many = rw (lt-ltb 0 (length (rest_after MAX_RECORDS bytes)) many) refl

-- where a byte was seen behind that record, the stream is refused, and what is behind the byte is left
pub stream_refused : (input : Seen) → ((bytes : List ℕ) → input.left ≡ Some bytes
    → (0 < length (rest_after MAX_RECORDS bytes)) × (input.left_after ≡ Some (drop 1 (rest_after MAX_RECORDS bytes))))
    → (bytes : List ℕ) → input.left ≡ Some bytes → (stream_refusal bytes ≡ Some TooMany) × (input.left_after ≡ Some (stream_rest bytes))
stream_refused input many = λ bytes told. let behind = many bytes told in (many_refused bytes behind.0, behind.1)

-- and where nothing is behind it, the stream isn't
pub stream_good : (bytes : List ℕ) → rest_after MAX_RECORDS bytes ≡ [] → stream_refusal bytes ≡ None
stream_good bytes none = rw none refl

-- ---- what a refusal means

-- a test that chooses a refusal has passed where there is one
chosen : (b : Bool) (status : Status) → (if b then Some TooMany else None) ≡ Some status → (b ≡ true) × (status ≡ TooMany)
chosen true status is = (refl, cc)
chosen false status is = absurd cc

pub too_many_means : (bytes : List ℕ) → AreBytes bytes → (stream_refusal bytes ≡ Some TooMany) ↔ HasMoreThan MAX_RECORDS bytes
too_many_means bytes are_bytes = (
  λ refused. follows_more MAX_RECORDS bytes are_bytes (ltb-true 0 (length (rest_after MAX_RECORDS bytes)) (chosen (nat_lt 0 (length (rest_after MAX_RECORDS bytes))) TooMany refused).0),
  λ more. many_refused bytes (more_follows MAX_RECORDS bytes more),
)

pub too_many_only : (bytes : List ℕ) (status : Status) → stream_refusal bytes ≡ Some status → status ≡ TooMany
too_many_only bytes status refused = (chosen (nat_lt 0 (length (rest_after MAX_RECORDS bytes))) status refused).1
