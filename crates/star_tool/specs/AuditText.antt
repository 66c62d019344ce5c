-- The lines of `audit`: one for each certificate, and a last one that counts them (docs/FORMATS.md).
use Rattle.std.specs.Prelude.{◌≡◌, ⊤, ℕ, zero, suc, ◌+◌, Bool, true, false, List, [], ◌∷◌, ◌++◌, length, drop, count_by, codes, Option, Some, None, Result, Ok, Err}
use Rattle.std.specs.Fmt.{decimal}
use Rattle.layer_walk.specs.declared.path.Step.{Step}
use Rattle.reveal_report.specs.Paths.{step_text}
use Rattle.cert_audit.specs.declared.cert.Cert.{Cert}
use Rattle.cert_audit.specs.declared.cert.ReadCert.{ReadCert}
use Rattle.cert_audit.specs.declared.fault.CertFault.{CertFault}
use Rattle.cert_audit.specs.declared.verdict.Verdict.{Verdict}
use Rattle.cert_audit.specs.declared.verdict.Verdict.TheVariants.{Yes, Few, Key, Short, Value}
use Rattle.cert_audit.specs.Audit.{verdict_of}
use Rattle.cert_audit.specs.Names.{verdict_name}
use Rattle.cert_audit.specs.Reading.{reading}
use Rattle.star_tool.specs.declared.status.Status.{Status}
use Rattle.star_tool.specs.declared.status.Status.TheVariants.{NoMemory, BadCert}

-- ---- the certificates of bytes

-- certificates one after the other, and the fault of what follows them, if something does
pub record CertsIn : Type 0 where
  pub certs : List Cert
  pub fault : Option CertFault

-- the certificate first, and then those that follow it
abbrev pub put_first : Result ReadCert CertFault → (ℕ → CertsIn) → CertsIn
put_first (Ok r) rest = record { certs = r.cert ∷ (rest r.used).certs; fault = (rest r.used).fault }
put_first (Err fault) rest = record { certs = []; fault = Some fault }

-- the first n certificates of bytes, or all where there are fewer
unfoldable pub first_certs : ℕ → List ℕ → CertsIn
first_certs n [] = record { certs = []; fault = None }
first_certs zero (byte ∷ bytes) = record { certs = []; fault = None }
first_certs (suc n) (byte ∷ bytes) = put_first (reading (byte ∷ bytes)) (λ used. first_certs n (drop used (byte ∷ bytes)))

-- the certificates of the bytes: each has at least one byte
unfoldable pub certs_in : List ℕ → CertsIn
certs_in bytes = first_certs (length bytes) bytes

-- ---- the text

-- the value of a group with its threshold and version, as `reveal` prints it
abbrev pub step_of : Cert → List ℕ → Step
step_of cert value = record { value = value; k = cert.head.k; version = cert.head.version }

-- its level, how many points it has, and how many of them agree
abbrev pub counts_text : Cert → ℕ → List ℕ
counts_text cert agree = codes " level=" ++ decimal cert.level ++ codes " points=" ++ decimal (length cert.points) ++ codes " agree=" ++ decimal agree ++ codes "\n"

abbrev pub yes_line : ℕ → Cert → List ℕ → ℕ → List ℕ
yes_line i cert value agree = decimal i ++ codes " yes " ++ step_text (step_of cert value) ++ counts_text cert agree

abbrev pub no_line : ℕ → Verdict → List ℕ
no_line i verdict = decimal i ++ codes " no " ++ verdict_name verdict ++ codes "\n"

-- the line of certificate i, by its verdict
abbrev pub cert_line : ℕ → Cert → Verdict → List ℕ
cert_line i cert (Yes value agree) = yes_line i cert value agree
cert_line i cert Few = no_line i Few
cert_line i cert Key = no_line i Key
cert_line i cert (Short agree) = no_line i (Short agree)
cert_line i cert Value = no_line i Value

abbrev pub is_yes : Verdict → Bool
is_yes (Yes value agree) = true
is_yes Few = false
is_yes Key = false
is_yes (Short agree) = false
is_yes Value = false

-- the lines of certificates that are numbered from i
abbrev pub cert_lines : ℕ → List Cert → List ℕ
cert_lines i [] = []
cert_lines i (cert ∷ certs) = cert_line i cert (verdict_of cert) ++ cert_lines (i + 1) certs

abbrev pub last_line : (certs good : ℕ) → List ℕ
last_line certs good = codes "certs=" ++ decimal certs ++ codes " yes=" ++ decimal good ++ codes "\n"

-- the text for these certificates
abbrev pub audit_text_of : List Cert → List ℕ
audit_text_of certs = cert_lines 0 certs ++ last_line (length certs) (count_by (λ cert. is_yes (verdict_of cert)) certs)

-- the line of certificate i was put behind a text, and the answer says whether its verdict is Yes
abbrev pub WritesVerdict : ℕ → Cert → Bool → List ℕ → List ℕ → Type 0
WritesVerdict i cert good old new = (good ≡ is_yes (verdict_of cert)) × (new ≡ old ++ cert_line i cert (verdict_of cert))

-- ---- why there is none

-- the fault of the bytes behind so many certificates, unless memory ran out
abbrev pub CertEnds : ℕ → Result ReadCert CertFault → Status → Type 0
CertEnds certs read (BadCert cert kind at) = (cert ≡ certs) × (read ≡ Err (record { kind = kind; at = at }))
CertEnds certs read NoMemory = ⊤
CertEnds certs read status = ⊥

-- the same of what the certificates of bytes end at
abbrev pub AuditEnds : CertsIn → Status → Type 0
AuditEnds found (BadCert cert kind at) = (cert ≡ length found.certs) × (found.fault ≡ Some (record { kind = kind; at = at }))
AuditEnds found NoMemory = ⊤
AuditEnds found status = ⊥
