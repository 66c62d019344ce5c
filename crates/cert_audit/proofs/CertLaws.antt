-- The laws of certificates, for the layers above.
use Rattle.std.proofs.Common.{◌≡◌, ℕ, ◌+◌, List, [], ◌++◌, length, None, Result, Ok, Err, refl, sym, ap, ◌∙◌, arith, inl, inr}
use Rattle.std.specs.Prelude.{◌⊎◌, ◌↔◌, All}
use Rattle.star_io.specs.Bytes.{AreBytes}
use Rattle.byte_format.specs.Format.{Entry}
use Rattle.cert_audit.specs.declared.fault.CertFault.{CertFault}
use Rattle.cert_audit.specs.declared.cert.Cert.{Cert}
use Rattle.cert_audit.specs.declared.cert.ReadCert.{ReadCert}
use Rattle.byte_format.specs.Format.{spelling}
use Rattle.cert_audit.specs.Certificate.{InRange, certificate, entries, cert_spelling, BeginsWith, FaultAt}
use Rattle.byte_format.specs.Reading.{◌>>=◌, read}
use Rattle.cert_audit.specs.Reading.{certs, Answer, fault_at, reading, cert_from}
use Rattle.cert_audit.specs.Laws.{BeginsWithOne, HasOneFault}
use Rattle.byte_format.proofs.Answered.{Answered, Found, Failed, good_exactly, bad_exactly}
use Rattle.byte_format.proofs.Found.{found, Whole, Wrong}
use Rattle.byte_format.proofs.Spelt.{read-whole, read-wrong}
use Rattle.cert_audit.proofs.Entries.{certificate_is_sound, after-entries, whole_entries, cert_from-entries, are_three}

-- a place, counted from the front
from_front : (n : ℕ) → 0 + n ≡ n
from_front n = omega arith

-- what is read of entries and a place
abbrev of_answer : Answer → Result ReadCert CertFault
of_answer r = r >>= λ x. Ok (record { cert = cert_from x.0; used = x.1 })

-- ---- reading

-- bytes that begin with a certificate give it
pub reading-cert : (r : ReadCert) (bytes : List ℕ) → BeginsWith r.cert r.used bytes → reading bytes ≡ Ok r
unfolding reading cert_spelling
reading-cert r bytes begins =
    let entries_read : read certs certificate 0 [] bytes ≡ Ok (entries r.cert, 0 + length (spelling certificate (entries r.cert))) =
    ap (read certs certificate 0 []) begins.spelt
    ∙ read-whole certs certificate 0 (entries r.cert) None begins.rest certificate_is_sound (after-entries r.cert begins.in_range) tt in
    ap of_answer entries_read
    ∙ ap (λ (c : Cert). Ok (record { cert = c; used = 0 + length (spelling certificate (entries r.cert)) }))
    (cert_from-entries r.cert (are_three r.cert begins.in_range))
    ∙ ap (λ (n : ℕ). Ok (record { cert = r.cert; used = n })) (from_front _ ∙ sym begins.long)

-- and bytes with a fault give the fault
pub reading-fault : (bytes : List ℕ) (f : CertFault) → FaultAt bytes f.kind f.at → reading bytes ≡ Err f
unfolding reading
reading-fault bytes f wrong =
    let fault_read : read certs certificate 0 [] bytes ≡ fault_at f.kind (0 + length (spelling certificate wrong.first)) =
    ap (read certs certificate 0 []) wrong.spelt
    ∙ read-wrong certs certificate 0 wrong.first wrong.rest f.kind certificate_is_sound wrong.wrong in
    ap of_answer fault_read ∙ ap (λ (p : ℕ). fault_at f.kind p) (from_front _ ∙ sym wrong.place)

-- what bytes give holds of them
pub reads_to : (bytes : List ℕ) → AreBytes bytes
    → Answered (λ r. BeginsWith r.cert r.used bytes) (λ f. FaultAt bytes f.kind f.at) (reading bytes)
unfolding cert_spelling
reads_to bytes are_bytes = elim (found certs certificate 0 [] bytes are_bytes) [
  | Whole es rest end place after may parts place_is is ↦
      let whole = whole_entries end es after in
      let r : ReadCert = record { cert = whole.cert; used = place } in
      let begins : BeginsWith whole.cert place bytes = record {
        in_range = whole.in_range;
        rest = rest;
        spelt = parts ∙ ap (λ (l : List Entry). spelling certificate l ++ rest) whole.is;
        long = place_is ∙ from_front _ ∙ ap (λ (l : List Entry). length (spelling certificate l)) whole.is;
      } in
      Found r begins (reading-cert r bytes begins)
  | Wrong es rest kind place after parts place_is is ↦
      let f : CertFault = record { kind = kind; at = place } in
      let wrong : FaultAt bytes kind place =
      record { first = es; rest = rest; spelt = parts; place = place_is ∙ from_front _; wrong = after } in
      Failed f wrong (reading-fault bytes f wrong)
]

-- ---- one certificate, one fault

-- reading gives a certificate exactly where the bytes begin with it
pub reading_cert : (bytes : List ℕ) (r : ReadCert) → AreBytes bytes → (reading bytes ≡ Ok r) ↔ BeginsWith r.cert r.used bytes
reading_cert bytes r are_bytes =
    good_exactly (λ q. BeginsWith q.cert q.used bytes) (λ f. FaultAt bytes f.kind f.at) (reading bytes) (reads_to bytes are_bytes)
    (λ q begins. reading-cert q bytes begins) r

-- and a fault exactly where it is theirs
pub reading_fault : (bytes : List ℕ) (f : CertFault) → AreBytes bytes → (reading bytes ≡ Err f) ↔ FaultAt bytes f.kind f.at
reading_fault bytes f are_bytes =
    bad_exactly (λ q. BeginsWith q.cert q.used bytes) (λ g. FaultAt bytes g.kind g.at) (reading bytes) (reads_to bytes are_bytes)
    (λ g wrong. reading-fault bytes g wrong) f

-- bytes begin with one certificate, or have one fault
pub cert_or_fault : (bytes : List ℕ) → AreBytes bytes → BeginsWithOne bytes ⊎ HasOneFault bytes
cert_or_fault bytes are_bytes = elim (reads_to bytes are_bytes) [
  | Found r begins is ↦ inl (record {
    read = r;
    begins = begins;
    only = λ q begins_q. let is_q = reading-cert q bytes begins_q in let e : q ≡ r = cc in e;
    no_fault = λ f wrong. let is_f = reading-fault bytes f wrong in absurd cc;
  })
  | Failed f wrong is ↦ inr (record {
    fault = f;
    is_fault = wrong;
    only = λ g wrong_g. let is_g = reading-fault bytes g wrong_g in let e : g ≡ f = cc in e;
    no_cert = λ r begins. let is_r = reading-cert r bytes begins in absurd cc;
  })
]

-- a certificate's bytes, whatever follows them, are those of no other
pub no_prefix : (c d : Cert) (more other : List ℕ) → InRange c → InRange d → cert_spelling c ++ more ≡ cert_spelling d ++ other → c ≡ d
no_prefix c d more other of_c of_d same =
    let bytes : List ℕ = cert_spelling c ++ more in
    let r : ReadCert = record { cert = c; used = length (cert_spelling c) } in
    let q : ReadCert = record { cert = d; used = length (cert_spelling d) } in
    let is_c = reading-cert r bytes (record { in_range = of_c; rest = more; spelt = refl; long = refl }) in
    let is_d = reading-cert q bytes (record { in_range = of_d; rest = other; spelt = same; long = refl }) in
    let e : r ≡ q = cc in ap (λ (p : ReadCert). p.cert) e

-- ---- what the code reads

-- a certificate whose entries were read is in range, and the bytes begin with it
pub entries_read : (bytes : List ℕ) (c : Cert) (used : ℕ) → AreBytes bytes → All (λ p. length p.y ≡ 3) c.points
    → read certs certificate 0 [] bytes ≡ Ok (entries c, used) → BeginsWith c used bytes
unfolding reading
entries_read bytes c used are_bytes are is =
    (reading_cert bytes (record { cert = c; used = used }) are_bytes).0
    (ap of_answer is ∙ ap (λ (d : Cert). Ok (record { cert = d; used = used })) (cert_from-entries c are))

-- the fault of reading the entries is that of the bytes
pub fault_read : (bytes : List ℕ) (f : CertFault) → AreBytes bytes → read certs certificate 0 [] bytes ≡ Err f → FaultAt bytes f.kind f.at
unfolding reading
fault_read bytes f are_bytes is = (reading_fault bytes f are_bytes).0 (ap of_answer is)
