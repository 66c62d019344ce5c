-- Reading the fields of a certificate up to its threshold.
use Rattle.std.proofs.Common.{◌≡◌, ℕ, ◌-◌, ◌*◌, ◌^◌, ◌≤◌, List, [], ◌∷◌, Result, Ok, Err, refl, ap, ◌∙◌, IfOk, IfErr}
use Rattle.std.proofs.Math.Nat.{le_antisymm}
use Rattle.report_frame.specs.declared.limits.TheConstants.{MIN_THRESHOLD}
use Rattle.report_frame.specs.declared.version.Version.{Version}
use Rattle.report_frame.specs.declared.version.Version.TheVariants.{One, Two}
use Rattle.report_frame.specs.Versions.{version_number, version_of, max_level, max_threshold}
use Rattle.byte_format.specs.Format.{Entry}
use Rattle.byte_format.specs.Format.Size.{OneByte, TwoBytes, FourBytes, EightBytes}
use Rattle.byte_format.specs.Format.Entry.{Number}
use Rattle.report_frame.proofs.VersionFacts.{version_of_number}
use Rattle.cert_audit.specs.declared.kind.CertKind.{CertKind}
use Rattle.cert_audit.specs.declared.kind.CertKind.TheVariants.{Magic, Format as FormatFault, Range}
use Rattle.cert_audit.specs.declared.limits.TheConstants.{CERT_MAGIC, CERT_FORMAT}
use Rattle.cert_audit.specs.declared.fault.CertFault.{CertFault}
use Rattle.cert_audit.specs.declared.front.Front.{Front}
use Rattle.byte_format.specs.Format.{Format}
use Rattle.byte_format.specs.Format.Format.{NumberField}
use Rattle.cert_audit.specs.Certificate.{certificate, behind_version, behind_threshold, points_layout, numbers_layout}
use Rattle.cert_audit.specs.Front.{entries_of_start, entries_of_front}
use Rattle.byte_format.specs.Reading.{number_at, read}
use Rattle.cert_audit.specs.Reading.{certs, Answer}
use Rattle.byte_format.proofs.OneField.{read-number}

-- the fields up to the version
magic_read : (b0 b1 b2 b3 : List ℕ) (magic format : ℕ) (v : Version)
    → number_at certs EightBytes Magic CERT_MAGIC CERT_MAGIC 0 b0 ≡ Ok (magic, b1) → CERT_MAGIC ≤ magic → magic ≤ CERT_MAGIC
    → number_at certs OneByte FormatFault CERT_FORMAT CERT_FORMAT 8 b1 ≡ Ok (format, b2) → CERT_FORMAT ≤ format → format ≤ CERT_FORMAT
    → number_at certs OneByte Range (version_number One) (version_number Two) 9 b2 ≡ Ok (version_number v, b3)
    → read certs certificate 0 [] b0
    ≡ read certs (behind_version v) 10 (Number CERT_MAGIC ∷ Number CERT_FORMAT ∷ Number (version_number v) ∷ []) b3
magic_read b0 b1 b2 b3 magic format v is0 low0 high0 is1 low1 high1 is2 =
    let versions : ℕ → Format CertKind = λ number. behind_version (version_of number) in
    let formats : ℕ → Format CertKind = λ _. NumberField OneByte Range (version_number One) (version_number Two) versions in
    let magics : ℕ → Format CertKind = λ _. NumberField OneByte FormatFault CERT_FORMAT CERT_FORMAT formats in
    read-number certs EightBytes Magic CERT_MAGIC CERT_MAGIC magics 0 0 [] b0 magic b1 refl is0
    ∙ read-number certs OneByte FormatFault CERT_FORMAT CERT_FORMAT formats 8 8 (Number magic ∷ []) b1 format b2 refl is1
    ∙ read-number certs OneByte Range (version_number One) (version_number Two) versions 9 9 (Number magic ∷ Number format ∷ []) b2
    (version_number v) b3 refl is2
    ∙ ap (λ (w : Version). read certs (behind_version w) 10 (Number magic ∷ Number format ∷ Number (version_number v) ∷ []) b3)
    (version_of_number v)
    ∙ ap (λ (n : ℕ). read certs (behind_version v) 10 (Number n ∷ Number format ∷ Number (version_number v) ∷ []) b3)
    (le_antisymm high0 low0)
    ∙ ap (λ (n : ℕ). read certs (behind_version v) 10 (Number CERT_MAGIC ∷ Number n ∷ Number (version_number v) ∷ []) b3)
    (le_antisymm high1 low1)

-- and those behind it
level_read : (v : Version) (b3 b4 b5 b6 : List ℕ) (level epoch k : ℕ)
    → number_at certs OneByte Range 0 (max_level v) 10 b3 ≡ Ok (level, b4)
    → number_at certs FourBytes Range 0 (2 ^ 32 - 1) 11 b4 ≡ Ok (epoch, b5)
    → number_at certs TwoBytes Range MIN_THRESHOLD (max_threshold v) 15 b5 ≡ Ok (k, b6)
    → read certs (behind_version v) 10 (Number CERT_MAGIC ∷ Number CERT_FORMAT ∷ Number (version_number v) ∷ []) b3
    ≡ read certs (behind_threshold k) 17 (entries_of_start (record { version = v; level = level; epoch = epoch; k = k })) b6
level_read v b3 b4 b5 b6 level epoch k is3 is4 is5 =
    let front : List Entry → List Entry = λ l. Number CERT_MAGIC ∷ Number CERT_FORMAT ∷ Number (version_number v) ∷ l in
    let epochs : ℕ → Format CertKind = λ _. NumberField TwoBytes Range MIN_THRESHOLD (max_threshold v) (λ k. behind_threshold k) in
    let levels : ℕ → Format CertKind = λ _. NumberField FourBytes Range 0 (2 ^ 32 - 1) epochs in
    read-number certs OneByte Range 0 (max_level v) levels 10 10 (front []) b3 level b4 refl is3
    ∙ read-number certs FourBytes Range 0 (2 ^ 32 - 1) epochs 11 11 (front (Number level ∷ [])) b4 epoch b5 refl is4
    ∙ read-number certs TwoBytes Range MIN_THRESHOLD (max_threshold v) (λ k. behind_threshold k) 15 15
    (front (Number level ∷ Number epoch ∷ [])) b5 k b6 refl is5

-- together
pub start_read : (b0 b1 b2 b3 b4 b5 b6 : List ℕ) (magic format level epoch k : ℕ) (v : Version)
    → number_at certs EightBytes Magic CERT_MAGIC CERT_MAGIC 0 b0 ≡ Ok (magic, b1) → CERT_MAGIC ≤ magic → magic ≤ CERT_MAGIC
    → number_at certs OneByte FormatFault CERT_FORMAT CERT_FORMAT 8 b1 ≡ Ok (format, b2) → CERT_FORMAT ≤ format → format ≤ CERT_FORMAT
    → number_at certs OneByte Range (version_number One) (version_number Two) 9 b2 ≡ Ok (version_number v, b3)
    → number_at certs OneByte Range 0 (max_level v) 10 b3 ≡ Ok (level, b4)
    → number_at certs FourBytes Range 0 (2 ^ 32 - 1) 11 b4 ≡ Ok (epoch, b5)
    → number_at certs TwoBytes Range MIN_THRESHOLD (max_threshold v) 15 b5 ≡ Ok (k, b6)
    → read certs certificate 0 [] b0
    ≡ read certs (behind_threshold k) 17 (entries_of_start (record { version = v; level = level; epoch = epoch; k = k })) b6
start_read b0 b1 b2 b3 b4 b5 b6 magic format level epoch k v is0 low0 high0 is1 low1 high1 is2 is3 is4 is5 =
    magic_read b0 b1 b2 b3 magic format v is0 low0 high0 is1 low1 high1 is2 ∙ level_read v b3 b4 b5 b6 level epoch k is3 is4 is5

-- what is read behind the start is what is read
pub front_follows : (r : Result Front CertFault) (a b : Answer) → a ≡ b
    → IfOk r (λ f. b ≡ read certs (points_layout f.points 0 (numbers_layout (3 * f.start.k))) f.at (entries_of_front f) f.rest.now)
    → IfOk r (λ f. a ≡ read certs (points_layout f.points 0 (numbers_layout (3 * f.start.k))) f.at (entries_of_front f) f.rest.now)
front_follows (Ok f) a b same is = same ∙ is
front_follows (Err e) a b same is = tt

pub fault_follows : (r : Result Front CertFault) (a b : Answer) → a ≡ b → IfErr r (λ e. b ≡ Err e) → IfErr r (λ e. a ≡ Err e)
fault_follows (Ok f) a b same is = tt
fault_follows (Err e) a b same is = same ∙ is
