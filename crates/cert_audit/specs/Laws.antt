-- What the laws of certificates say.
use Rattle.std.specs.Prelude.{◌≡◌, ℕ, ◌≤◌, List, length, Some}
use Rattle.shamir_limbs.specs.declared.key.Key.{Key}
use Rattle.shamir_limbs.specs.Search.{key_line_of}
use Rattle.adss_commit.specs.Derivation.{opened_value}
use Rattle.cert_audit.specs.declared.fault.CertFault.{CertFault}
use Rattle.cert_audit.specs.declared.fault.CertError.{CertError}
use Rattle.cert_audit.specs.declared.fault.CertError.TheVariants.{Bad, NoMemory}
use Rattle.cert_audit.specs.declared.cert.Cert.{Cert}
use Rattle.cert_audit.specs.declared.cert.ReadCert.{ReadCert}
use Rattle.cert_audit.specs.Certificate.{BeginsWith, FaultAt}

-- The points give one key, on which so many of them agree, and under it the head gives this value at its place.
pub record Opens (c : Cert) (value : List ℕ) (agree : ℕ) : Type 0 where
  pub many : c.head.k ≤ length c.points
  pub key : Key
  pub line : key_line_of c.points c.head.k ≡ Some (record { key = key; agree = agree })
  pub opened : opened_value key c.head c.parent c.epoch c.level ≡ Some value

-- The bytes begin with one certificate alone, and have no fault.
pub record BeginsWithOne (bytes : List ℕ) : Type 0 where
  pub read : ReadCert
  pub begins : BeginsWith read.cert read.used bytes
  pub only : (r : ReadCert) → BeginsWith r.cert r.used bytes → r ≡ read
  pub no_fault : (f : CertFault) → FaultAt bytes f.kind f.at → ⊥

-- The bytes have one fault alone, and begin with no certificate.
pub record HasOneFault (bytes : List ℕ) : Type 0 where
  pub fault : CertFault
  pub is_fault : FaultAt bytes fault.kind fault.at
  pub only : (f : CertFault) → FaultAt bytes f.kind f.at → f ≡ fault
  pub no_cert : (r : ReadCert) → BeginsWith r.cert r.used bytes → ⊥

-- An error names the fault of the bytes, unless memory ran out.
abbrev pub IsFaultOf : List ℕ → CertError → Type 0
IsFaultOf bytes (Bad kind at) = FaultAt bytes kind at
IsFaultOf bytes NoMemory = Unit {0}
