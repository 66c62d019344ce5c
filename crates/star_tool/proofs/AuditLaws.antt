-- What a refusal of `audit` means.
use Rattle.std.proofs.Common.{◌≡◌, ◌∙◌, ◌<◌, ◌≤◌, ◌+◌, ℕ, zero, suc, List, [], ◌∷◌, ◌++◌, length, drop, Option, Some, None, Ok, Err, inl, inr, refl, sym, ap, subst, arith, All, append_assoc, append-nil, length-append}
use Rattle.std.specs.Prelude.{◌↔◌, ◌≢◌}
use Rattle.std.specs.List.{flat_map}
use Rattle.std.proofs.Math.Seq.{drop-append_seam}
use Rattle.std.proofs.lemmas.Bool.{cases_lt}
use Rattle.std.proofs.lemmas.List.Elements.{All-nil, All-cons, All-head, All-tail}
use Rattle.star_io.specs.Bytes.{AreBytes}
use Rattle.star_io.proofs.ByteLists.{AreBytes-drop}
use Rattle.cert_audit.specs.declared.cert.Cert.{Cert}
use Rattle.cert_audit.specs.declared.cert.ReadCert.{ReadCert}
use Rattle.cert_audit.specs.declared.fault.CertFault.{CertFault}
use Rattle.cert_audit.specs.declared.kind.CertKind.{CertKind}
use Rattle.cert_audit.specs.Certificate.{InRange, BeginsWith, FaultAt, cert_spelling}
use Rattle.cert_audit.specs.Reading.{reading}
use Rattle.cert_audit.proofs.CertLaws.{reading-cert, reading-fault, reading_cert, reading_fault}
use Rattle.star_tool.specs.declared.status.Status.{Status}
use Rattle.star_tool.specs.declared.status.Status.TheVariants.{TooMany, BadCert}
use Rattle.star_tool.specs.declared.verbs.audit.TheConstants.{MAX_CERTS_BYTES}
use Rattle.star_tool.specs.AuditText.{CertsIn, put_first, first_certs, certs_in, audit_text_of}
use Rattle.star_tool.specs.Verbs.Audit.{audit_refusal, audit_output, HasBadCert, AreCerts}
use Rattle.star_tool.proofs.AuditLemmas.{long_refused, fault_refused, certs_kept}
use Rattle.star_tool.proofs.Certificates.{behind, some_bytes, first_step, no_bytes}

abbrev spelt : List Cert → List ℕ
spelt certs = flat_map cert_spelling certs

-- ---- from certificates to what is read

-- certificates, and then what reads so
walk : (certs : List Cert) (rest : List ℕ) (end : CertsIn) → ((m : ℕ) → length rest ≤ m → first_certs m rest ≡ end) → All InRange certs
    → (n : ℕ) → length (spelt certs ++ rest) ≤ n → first_certs n (spelt certs ++ rest) ≡ behind certs end
walk [] rest end ends range n enough = ends n enough
walk (c ∷ certs) rest end ends range zero enough =
    absurd (omega (arith, some_bytes c, length-append (cert_spelling c ++ spelt certs) rest, length-append (cert_spelling c) (spelt certs)))
walk (c ∷ certs) rest end ends range (suc n) enough =
    let more = spelt certs ++ rest in
    let bytes = cert_spelling c ++ more in
    let whole : (cert_spelling c ++ spelt certs) ++ rest ≡ bytes = append_assoc (cert_spelling c) (spelt certs) rest in
    let long : length bytes ≡ length (cert_spelling c) + length more = length-append (cert_spelling c) more in
    let r : ReadCert = record { cert = c; used = length (cert_spelling c) } in
    let begins : BeginsWith c r.used bytes = record { in_range = All-head InRange c certs range; rest = more; spelt = refl; long = refl } in
    let small : length bytes ≤ suc n = omega (arith, enough, ap length whole) in
    ap (first_certs (suc n)) whole
    ∙ first_step n bytes (omega (arith, long, some_bytes c))
    ∙ ap (λ o. put_first o (λ used. first_certs n (drop used bytes))) (reading-cert r bytes begins)
    ∙ ap (λ l. behind (c ∷ []) (first_certs n l)) (drop-append_seam (cert_spelling c) more)
    ∙ ap (behind (c ∷ [])) (walk certs rest end ends (All-tail InRange c certs range) n (omega (arith, small, long, some_bytes c)))

read_whole : (certs : List Cert) → All InRange certs → certs_in (spelt certs) ≡ record { certs = certs; fault = None }
unfolding certs_in
read_whole certs range =
    let none : CertsIn = record { certs = []; fault = None } in
    ap (λ l. first_certs (length l) l) (sym (append-nil (spelt certs)))
    ∙ walk certs [] none (λ m enough. no_bytes m [] (omega arith)) range (length (spelt certs ++ [])) (omega arith)
    ∙ ap (λ l. let found : CertsIn = record { certs = l; fault = None } in found) (append-nil certs)

longer : (bytes : List ℕ) → bytes ≢ [] → 0 < length bytes
longer [] some = absurd (some refl)
longer (byte ∷ bytes) some = omega arith

fault_alone : (m : ℕ) (rest : List ℕ) (fault : CertFault) → rest ≢ [] → FaultAt rest fault.kind fault.at → length rest ≤ m → first_certs m rest ≡ record { certs = []; fault = Some fault }
fault_alone zero rest fault some bad enough = absurd (omega (arith, enough, longer rest some))
fault_alone (suc m) rest fault some bad enough =
    first_step m rest (longer rest some) ∙ ap (λ o. put_first o (λ used. first_certs m (drop used rest))) (reading-fault rest fault bad)

read_fault : (certs : List Cert) (rest : List ℕ) (fault : CertFault) → All InRange certs → rest ≢ [] → FaultAt rest fault.kind fault.at
    → certs_in (spelt certs ++ rest) ≡ record { certs = certs; fault = Some fault }
unfolding certs_in
read_fault certs rest fault range some bad =
    let end : CertsIn = record { certs = []; fault = Some fault } in
    walk certs rest end (λ m enough. fault_alone m rest fault some bad enough) range (length (spelt certs ++ rest)) (omega arith)
    ∙ ap (λ l. let found : CertsIn = record { certs = l; fault = Some fault } in found) (append-nil certs)

-- ---- from what is read to certificates

-- nothing is left, or what is left has this fault
abbrev Ends : List ℕ → Option CertFault → Type 0
Ends rest None = rest ≡ []
Ends rest (Some fault) = (rest ≢ []) × FaultAt rest fault.kind fault.at

record IsFound (bytes : List ℕ) (found : CertsIn) : Type 0 where
  in_range : All InRange found.certs
  rest : List ℕ
  is : bytes ≡ spelt found.certs ++ rest
  ends : Ends rest found.fault

found : (n : ℕ) (bytes : List ℕ) → AreBytes bytes → length bytes ≤ n → IsFound bytes (first_certs n bytes)
unfolding first_certs
found n [] are enough = record { in_range = All-nil InRange; rest = []; is = refl; ends = refl }
found zero (byte ∷ bytes) are enough = absurd (omega arith)
found (suc n) (byte ∷ bytes) are enough =
    let all = byte ∷ bytes in
    elim (reading all) as (λ o. reading all ≡ o → IsFound all (put_first o (λ used. first_certs n (drop used all)))) [
      | Ok r ↦ λ read.
          let begins = (reading_cert all r are).0 read in
          let left = drop r.used all in
          let next : left ≡ begins.rest =
          (λ i. drop (begins.long i) (begins.spelt i)) ∙ drop-append_seam (cert_spelling r.cert) begins.rest in
          let long : length all ≡ length (cert_spelling r.cert) + length begins.rest = ap length begins.spelt ∙ length-append (cert_spelling r.cert) begins.rest in
          let small : length left ≤ n = omega (arith, enough, long, ap length next, some_bytes r.cert) in
          let more = found n left (AreBytes-drop r.used all are) small in
          record {
            in_range = All-cons InRange r.cert (first_certs n left).certs begins.in_range more.in_range;
            rest = more.rest;
            is = begins.spelt ∙ ap (λ l. cert_spelling r.cert ++ l) (sym next ∙ more.is) ∙ sym (append_assoc (cert_spelling r.cert) (spelt (first_certs n left).certs) more.rest);
            ends = more.ends;
          }
      | Err fault ↦ λ read. record {
        in_range = All-nil InRange;
        rest = all;
        is = refl;
        ends = ((λ none. let bad : byte ∷ bytes ≡ [] = none in cc), (reading_fault all fault are).0 read);
      }
    ] refl

found_in : (bytes : List ℕ) → AreBytes bytes → IsFound bytes (certs_in bytes)
unfolding certs_in
found_in bytes are = found (length bytes) bytes are (omega arith)

-- ---- what a refusal means

-- too many bytes, or the fault behind the certificates
data Cause (bytes : List ℕ) (status : Status) : Type 0 where
  Long : MAX_CERTS_BYTES < length bytes → status ≡ TooMany → Cause bytes status
  Faulty : length bytes ≤ MAX_CERTS_BYTES → (fault : CertFault) → (certs_in bytes).fault ≡ Some fault → status ≡ BadCert (length (certs_in bytes).certs) fault.kind fault.at → Cause bytes status

-- what the test of a status says of it
same_status : (o : Option Status) (one other : Status) → o ≡ Some one → o ≡ Some other → other ≡ one
same_status None one other a b = absurd (cc)
same_status (Some s) one other a b = let first : s ≡ one = cc in let second : s ≡ other = cc in sym second ∙ first

cause : (bytes : List ℕ) (status : Status) → audit_refusal bytes ≡ Some status → Cause bytes status
cause bytes status refused = elim (cases_lt MAX_CERTS_BYTES (length bytes)) [
  | inl many ↦ Long many (same_status (audit_refusal bytes) TooMany status (long_refused bytes many) refused)
  | inr few ↦ elim (certs_in bytes).fault as (λ o. (certs_in bytes).fault ≡ o → Cause bytes status) [
    | None ↦ λ none. absurd (let no : None ≡ Some status = sym (certs_kept bytes few none) ∙ refused in cc)
    | Some fault ↦ λ is. Faulty few fault is (same_status (audit_refusal bytes) (BadCert (length (certs_in bytes).certs) fault.kind fault.at) status (fault_refused bytes fault few is) refused)
  ] refl
]

pub too_many_means : (bytes : List ℕ) → (audit_refusal bytes ≡ Some TooMany) ↔ (MAX_CERTS_BYTES < length bytes)
too_many_means bytes = ((λ refused. of_cause (cause bytes TooMany refused)), long_refused bytes)
  where
    of_cause : Cause bytes TooMany → MAX_CERTS_BYTES < length bytes
    of_cause (Long many is) = many
    of_cause (Faulty few fault there is) = absurd (cc)

pub bad_means : (bytes : List ℕ) (cert : ℕ) (kind : CertKind) (at : ℕ) → AreBytes bytes → (audit_refusal bytes ≡ Some (BadCert cert kind at)) ↔ HasBadCert bytes cert kind at
bad_means bytes cert kind at are = (
  (λ refused. of_cause (cause bytes (BadCert cert kind at) refused)),
  (λ has.
      let fault : CertFault = record { kind = kind; at = at } in
      let there : certs_in bytes ≡ record { certs = has.certs; fault = Some fault } = ap certs_in has.spelt ∙ read_fault has.certs has.rest fault has.in_range has.more has.fault in
      fault_refused bytes fault has.few (ap (λ (f : CertsIn). f.fault) there)
      ∙ ap (λ n. Some (BadCert n kind at)) (ap (λ (f : CertsIn). length f.certs) there ∙ sym has.count)),
)
  where
    of_cause : Cause bytes (BadCert cert kind at) → HasBadCert bytes cert kind at
    of_cause (Long many is) = absurd (cc)
    of_cause (Faulty few fault there is) =
        let is_found = found_in bytes are in
        let ends = subst (Ends is_found.rest) there is_found.ends in
        let count : cert ≡ length (certs_in bytes).certs = cc in
        let same_kind : kind ≡ fault.kind = cc in
        let same_place : at ≡ fault.at = cc in
        record {
          few = few;
          certs = (certs_in bytes).certs;
          in_range = is_found.in_range;
          rest = is_found.rest;
          spelt = is_found.is;
          count = count;
          more = ends.0;
          fault = subst (λ k. FaultAt is_found.rest k at) (sym same_kind) (subst (FaultAt is_found.rest fault.kind) (sym same_place) ends.1);
        }

pub none_means : (bytes : List ℕ) → AreBytes bytes → (audit_refusal bytes ≡ None) ↔ AreCerts bytes
none_means bytes are = (
  (λ kept.
      let few : length bytes ≤ MAX_CERTS_BYTES = elim (cases_lt MAX_CERTS_BYTES (length bytes)) [
        | inl many ↦ absurd (let no : Some TooMany ≡ None = sym (long_refused bytes many) ∙ kept in cc)
        | inr few ↦ few
      ] in
      let none : (certs_in bytes).fault ≡ None = elim (certs_in bytes).fault as (λ o. (certs_in bytes).fault ≡ o → o ≡ None) [
        | None ↦ λ is. refl
        | Some fault ↦ λ is. absurd (let no : Some (BadCert (length (certs_in bytes).certs) fault.kind fault.at) ≡ None = sym (fault_refused bytes fault few is) ∙ kept in cc)
      ] refl in
      let is_found = found_in bytes are in
      let ends : is_found.rest ≡ [] = subst (Ends is_found.rest) none is_found.ends in
      record {
        few = few;
        certs = (certs_in bytes).certs;
        in_range = is_found.in_range;
        spelt = is_found.is ∙ ap (λ l. spelt (certs_in bytes).certs ++ l) ends ∙ append-nil (spelt (certs_in bytes).certs);
      }),
  (λ has. certs_kept bytes has.few (ap (λ (f : CertsIn). f.fault) (ap certs_in has.spelt ∙ read_whole has.certs has.in_range))),
)

-- ---- what is told

-- the text of the certificates that the bytes spell
pub certs_told : (certs : List Cert) (bytes : List ℕ) → All InRange certs → bytes ≡ spelt certs → audit_output bytes ≡ audit_text_of certs
certs_told certs bytes range is = ap (λ (f : CertsIn). audit_text_of f.certs) (ap certs_in is ∙ read_whole certs range)
