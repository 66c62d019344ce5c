-- Reading the certificate that bytes begin with, or their first fault.
use Rattle.std.specs.Prelude.{◌≡◌, ℕ, zero, suc, ◌+◌, ◌*◌, List, [], ◌∷◌, map, drop, Result, Ok, Err}
use Rattle.report_frame.specs.Versions.{version_of}
use Rattle.byte_format.specs.Format.{Entry}
use Rattle.byte_format.specs.Reading.{Reader, ◌>>=◌, read, number_in, bytes_in}
use Rattle.shamir_limbs.specs.declared.share.Point.{Point}
use Rattle.cert_audit.specs.declared.kind.CertKind.{CertKind}
use Rattle.cert_audit.specs.declared.kind.CertKind.TheVariants.{Truncated}
use Rattle.cert_audit.specs.declared.fault.CertFault.{CertFault}
use Rattle.cert_audit.specs.declared.fault.CertError.{CertError}
use Rattle.cert_audit.specs.declared.fault.CertError.TheVariants.{Bad, NoMemory}
use Rattle.cert_audit.specs.declared.cert.Cert.{Cert}
use Rattle.cert_audit.specs.declared.cert.ReadCert.{ReadCert}
use Rattle.cert_audit.specs.Certificate.{certificate}

-- A reader of certificates: a field that is cut short is of kind `Truncated`, and the entries are kept with the place behind them.
abbrev pub certs : Reader CertKind CertFault (List Entry × ℕ)
certs = record { fail = λ kind at. record { kind = kind; at = at }; short = Truncated; done = λ es at. (es, at) }

-- what reading the entries answers
abbrev pub Answer : Type 0
Answer = Result (List Entry × ℕ) CertFault

-- the fault of this kind at this place
abbrev pub fault_at : {A : Type 0} → CertKind → ℕ → Result A CertFault
fault_at kind at = Err (record { kind = kind; at = at })

-- the points in so many entries
abbrev pub points_in : ℕ → List Entry → List Point
points_in zero es = []
points_in (suc n) es =
    record { x = number_in 0 es; y = number_in 1 es ∷ number_in 2 es ∷ number_in 3 es ∷ [] } ∷ points_in n (drop 4 es)

-- the certificate whose entries these are
abbrev pub cert_from : List Entry → Cert
cert_from es = record {
  level = number_in 3 es;
  epoch = number_in 4 es;
  parent = bytes_in 6 es;
  head = record { version = version_of (number_in 2 es); k = number_in 5 es; tag = bytes_in 7 es; check = bytes_in 8 es; boxed = bytes_in 10 es };
  points = points_in (number_in 11 es) (drop 12 es);
  numbers = map (λ e. number_in 0 (e ∷ [])) (drop (12 + 4 * number_in 11 es) es);
}

-- the certificate that the bytes begin with and how long it is, or their one fault
unfoldable pub reading : List ℕ → Result ReadCert CertFault
reading bytes = read certs certificate 0 [] bytes >>= λ r. Ok (record { cert = cert_from r.0; used = r.1 })

-- What a call answered is what reading gives, unless memory ran out.
abbrev pub Answers : Result ReadCert CertError → Result ReadCert CertFault → Type 0
Answers (Ok r) read = read ≡ Ok r
Answers (Err (Bad kind at)) read = read ≡ fault_at kind at
Answers (Err NoMemory) read = Unit {0}
