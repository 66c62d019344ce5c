-- What the reader of certificates answers.
use Rattle.std.proofs.Common.{◌≡◌, ℕ, ◌+◌, ◌*◌, List, [], ◌∷◌, ◌++◌, length, Result, Ok, Err, IfErr, sym, ap, subst, ◌∙◌, append_assoc}
use Rattle.std.specs.Prelude.{IsErrAnd}
use Rattle.star_io.specs.Bytes.{AreBytes}
use Rattle.byte_format.specs.Format.{Entry}
use Rattle.byte_format.specs.Format.Entry.{Number, Bytes}
use Rattle.report_frame.specs.Versions.{version_number}
use Rattle.shamir_limbs.specs.declared.share.Point.{Point}
use Rattle.cert_audit.specs.declared.limits.TheConstants.{CERT_MAGIC, CERT_FORMAT}
use Rattle.cert_audit.specs.declared.fault.CertFault.{CertFault}
use Rattle.cert_audit.specs.declared.fault.CertError.{CertError}
use Rattle.cert_audit.specs.declared.fault.CertError.TheVariants.{Bad}
use Rattle.cert_audit.specs.declared.front.Front.{Front}
use Rattle.cert_audit.specs.declared.cert.Cert.{Cert}
use Rattle.cert_audit.specs.declared.cert.ReadCert.{ReadCert}
use Rattle.cert_audit.specs.Certificate.{certificate, points_layout, numbers_layout, point_entries, number_entries, entries}
use Rattle.cert_audit.specs.Front.{entries_of_front, head_of_front}
use Rattle.cert_audit.specs.Laws.{IsFaultOf}
use Rattle.byte_format.specs.Reading.{read}
use Rattle.cert_audit.specs.Reading.{certs, Answers, reading}
use Rattle.cert_audit.proofs.CertLaws.{fault_read, reading-fault}

-- what comes out where an error is this one
pub at_exit : {T E : Type 0} (P : E → Type 0) (r : Result T E) (e : E) → IsErrAnd r (λ error. error ≡ e) → P e → IfErr r P
at_exit P (Ok x) e is holds = tt
at_exit P (Err error) e is holds = subst P (sym is) holds

-- the fault of reading the fields is what is answered
pub bad_read : (bytes : List ℕ) (r : Result ReadCert CertError) (f : CertFault) → AreBytes bytes → IsErrAnd r (λ e. e ≡ Bad f.kind f.at)
    → read certs certificate 0 [] bytes ≡ Err f → Answers r (reading bytes)
bad_read bytes (Ok x) f are_bytes is faulty = absurd is
bad_read bytes (Err e) f are_bytes is faulty = subst (λ (k : CertError). Answers (Err k) (reading bytes)) (sym is)
    (reading-fault bytes f (fault_read bytes f are_bytes faulty))

pub bad_fault : (bytes : List ℕ) (r : Result ReadCert CertError) (f : CertFault) → AreBytes bytes → IsErrAnd r (λ e. e ≡ Bad f.kind f.at)
    → read certs certificate 0 [] bytes ≡ Err f → IfErr r (IsFaultOf bytes)
bad_fault bytes r f are_bytes is faulty = at_exit (IsFaultOf bytes) r (Bad f.kind f.at) is (fault_read bytes f are_bytes faulty)

-- the certificate of a front, points and numbers
abbrev pub cert_of : Front → List Point → List ℕ → Cert
cert_of f points numbers = record { level = f.start.level; epoch = f.start.epoch; parent = f.parent.now; head = head_of_front f; points = points; numbers = numbers }

-- what was read in three parts are the entries of a certificate
pub whole_walk : (bytes rest behind : List ℕ) (f : Front) (at m : ℕ) (points : List Point) (numbers : List ℕ) → length points ≡ f.points → m
    ≡ 3 * f.start.k
    → read certs certificate 0 [] bytes
    ≡ read certs (points_layout f.points 0 (numbers_layout (3 * f.start.k))) at (entries_of_front f) rest
    → read certs (points_layout f.points 0 (numbers_layout (3 * f.start.k))) at (entries_of_front f) rest
    ≡ read certs (numbers_layout (3 * f.start.k)) (at + 32 * f.points) (entries_of_front f ++ point_entries points) behind
    → read certs (numbers_layout m) (at + 32 * f.points) (entries_of_front f ++ point_entries points) behind
    ≡ Ok (entries_of_front f ++ point_entries points ++ number_entries numbers, at + 32 * f.points + 8 * m)
    → read certs certificate 0 [] bytes ≡ Ok (entries (cert_of f points numbers), at + 32 * f.points + 8 * m)
whole_walk bytes rest behind f at m points numbers many three first second third =
    let used : ℕ = at + 32 * f.points + 8 * m in
    let front : ℕ → List Entry = λ n.
    Number CERT_MAGIC ∷ Number CERT_FORMAT ∷ Number
    (version_number f.start.version) ∷ Number f.start.level ∷ Number f.start.epoch ∷ Number f.start.k
    ∷ Bytes f.parent.now ∷ Bytes f.tag.now ∷ Bytes f.check.now ∷ Number (length f.boxed.now) ∷ Bytes f.boxed.now ∷ Number n ∷ [] in
    first ∙ second
    ∙ ap (λ (n : ℕ). read certs (numbers_layout n) (at + 32 * f.points) (entries_of_front f ++ point_entries points) behind) (sym three)
    ∙ third
    ∙ ap (λ (es : List Entry). Ok (es, used)) (append_assoc (front f.points) (point_entries points) (number_entries numbers))
    ∙ ap (λ (n : ℕ). Ok (front n ++ (point_entries points ++ number_entries numbers), used)) (sym many)
