-- The command `audit`.
use Rattle.std.specs.Prelude.{◌≡◌, ◌≢◌, ℕ, ◌+◌, ◌≤◌, List, [], ◌++◌, length, drop, All, nat_lt, Option, Some, option_map, if◌then◌else◌}
use Rattle.std.specs.List.{flat_map}
use Rattle.cert_audit.specs.declared.cert.Cert.{Cert}
use Rattle.cert_audit.specs.declared.kind.CertKind.{CertKind}
use Rattle.cert_audit.specs.Certificate.{InRange, FaultAt, cert_spelling}
use Rattle.star_tool.specs.AuditText.{audit_text_of, certs_in}
use Rattle.star_tool.specs.declared.status.Status.{Status}
use Rattle.star_tool.specs.declared.status.Status.TheVariants.{TooMany, BadCert}
use Rattle.star_tool.specs.declared.verbs.audit.TheConstants.{MAX_CERTS_BYTES}

-- too many bytes, then the fault of what follows the certificates
abbrev pub audit_refusal : (bytes : List ℕ) → Option Status
audit_refusal bytes =
    if nat_lt MAX_CERTS_BYTES (length bytes) then Some TooMany
    else option_map (λ fault. BadCert (length (certs_in bytes).certs) fault.kind fault.at) (certs_in bytes).fault

-- what it leaves of an input that it refuses: it takes a byte more than certificates may have
abbrev pub audit_rest : (bytes : List ℕ) → List ℕ
audit_rest bytes = drop (MAX_CERTS_BYTES + 1) bytes

-- the lines of the certificates
abbrev pub audit_output : (bytes : List ℕ) → List ℕ
audit_output bytes = audit_text_of (certs_in bytes).certs

-- ---- what a refusal means

-- The bytes aren't too many, and after this many whole certificates something follows that is none, with this fault.
pub record HasBadCert (bytes : List ℕ) (cert : ℕ) (kind : CertKind) (at : ℕ) : Type 0 where
  pub few : length bytes ≤ MAX_CERTS_BYTES
  pub certs : List Cert
  pub in_range : All InRange certs
  pub rest : List ℕ
  pub spelt : bytes ≡ flat_map cert_spelling certs ++ rest
  pub count : cert ≡ length certs
  pub more : rest ≢ []
  pub fault : FaultAt rest kind at

-- The bytes aren't too many, and are whole certificates one after the other.
pub record AreCerts (bytes : List ℕ) : Type 0 where
  pub few : length bytes ≤ MAX_CERTS_BYTES
  pub certs : List Cert
  pub in_range : All InRange certs
  pub spelt : bytes ≡ flat_map cert_spelling certs
