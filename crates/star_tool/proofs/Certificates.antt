-- Certificates one after the other.
use Rattle.std.proofs.Common.{◌≡◌, ◌∙◌, ◌<◌, ◌≤◌, ◌+◌, ◌-◌, ℕ, suc, Bool, true, false, cond, List, [], ◌∷◌, ◌++◌, length, take, drop, Some, None, Ok, Err, refl, sym, ap, arith, append_assoc, append-nil, length-append, zero-add}
use Rattle.std.specs.Prelude.{count_by}
use Rattle.std.proofs.lemmas.List.{length-drop, drop-drop, take_all}
use Rattle.std.proofs.lemmas.List.Sums.{sum_by-append}
use Rattle.std.specs.Int.{to_be_bytes}
use Rattle.report_frame.specs.declared.version.Version.TheVariants.{One, Two}
use Rattle.report_frame.specs.Versions.{version_number, version_of}
use Rattle.byte_format.specs.Format.{Format, Entry, spelling, width}
use Rattle.byte_format.specs.Format.Size.{OneByte, EightBytes}
use Rattle.byte_format.specs.Format.Entry.{Number}
use Rattle.byte_format.specs.Format.Format.{NumberField}
use Rattle.byte_format.proofs.Sizes.{length_of_spelling}
use Rattle.cert_audit.specs.declared.limits.TheConstants.{CERT_MAGIC, CERT_FORMAT}
use Rattle.cert_audit.specs.declared.kind.CertKind.{CertKind}
use Rattle.cert_audit.specs.declared.kind.CertKind.TheVariants.{Magic, Format as FormatFault, Range}
use Rattle.cert_audit.specs.declared.cert.Cert.{Cert}
use Rattle.cert_audit.specs.declared.cert.ReadCert.{ReadCert}
use Rattle.cert_audit.specs.declared.fault.CertFault.{CertFault}
use Rattle.cert_audit.specs.Audit.{verdict_of}
use Rattle.cert_audit.specs.Certificate.{BeginsWith, behind_version, entries, cert_spelling}
use Rattle.cert_audit.specs.Reading.{reading}
use Rattle.star_tool.specs.declared.status.Status.{Status}
use Rattle.star_tool.specs.declared.status.Status.TheVariants.{Done, Usage, ReadFault, WriteFault, TooMany, NoMemory, BadTable, ShortCoins, BadVector, BadBook, BookEpoch, BadCert}
use Rattle.star_tool.specs.AuditText.{CertsIn, CertEnds, AuditEnds, WritesVerdict, put_first, first_certs, certs_in, cert_line, cert_lines, is_yes, audit_text_of, last_line}

-- the verdict on the certificate is Yes
abbrev pub says_yes : Cert → Bool
says_yes cert = is_yes (verdict_of cert)

-- these certificates, and then those
abbrev pub behind : List Cert → CertsIn → CertsIn
behind done found = record { certs = done ++ found.certs; fault = found.fault }

front_some : (front rest : List ℕ) → 1 ≤ length front → 1 ≤ length (front ++ rest)
front_some front rest some = omega (arith, length-append front rest)

some_spelt : (n : ℕ) (next : ℕ → Format CertKind) (es : List Entry)
    → 1 ≤ length (spelling (NumberField EightBytes Magic CERT_MAGIC CERT_MAGIC next) (Number n ∷ es))
some_spelt n next es = front_some (to_be_bytes (width EightBytes) n) (spelling (next n) es) (omega (arith, length_of_spelling EightBytes n))

-- the spelling of a certificate has a byte
pub some_bytes : (cert : Cert) → 1 ≤ length (cert_spelling cert)
unfolding cert_spelling
some_bytes cert =
    some_spelt CERT_MAGIC
    (λ _. NumberField OneByte FormatFault CERT_FORMAT CERT_FORMAT (λ _.
    NumberField OneByte Range (version_number One) (version_number Two) (λ number. behind_version (version_of number))))
    (drop 1 (entries cert))

drop-zero : (bytes : List ℕ) → drop 0 bytes ≡ bytes
drop-zero [] = refl
drop-zero (byte ∷ bytes) = refl

-- a slice from here on has all that is left
pub all_left : (at : ℕ) (bytes : List ℕ) → take (length bytes - at) (drop at bytes) ≡ drop at bytes
all_left at bytes = take_all (length bytes - at) (drop at bytes) (omega (arith, length-drop at bytes))

-- ---- one step

pub first_step : (n : ℕ) (bytes : List ℕ) → 0 < length bytes → first_certs (suc n) bytes ≡ put_first (reading bytes) (λ used. first_certs n (drop used bytes))
unfolding first_certs
first_step n [] some = absurd (omega arith)
first_step n (byte ∷ bytes) some = refl

pub no_bytes : (n : ℕ) (bytes : List ℕ) → length bytes ≤ 0 → first_certs n bytes ≡ record { certs = []; fault = None }
unfolding first_certs
no_bytes n [] none = refl
no_bytes n (byte ∷ bytes) none = absurd (omega arith)

lines_push : (i : ℕ) (certs : List Cert) (cert : Cert) → cert_lines i (certs ++ cert ∷ []) ≡ cert_lines i certs ++ cert_line (i + length certs) cert (verdict_of cert)
lines_push i [] cert = append-nil _ ∙ ap (λ n. cert_line n cert (verdict_of cert)) {x = i} {y = i + 0} (omega arith)
lines_push i (c ∷ certs) cert =
    ap (λ l. cert_line i c (verdict_of c) ++ l) (lines_push (i + 1) certs cert ∙ ap (λ n. cert_lines (i + 1) certs ++ cert_line n cert (verdict_of cert)) {x = i + 1 + length certs} {y = i + suc (length certs)} (omega arith))
    ∙ sym (append_assoc (cert_line i c (verdict_of c)) (cert_lines (i + 1) certs) (cert_line (i + suc (length certs)) cert (verdict_of cert)))

count_push : (certs : List Cert) (cert : Cert) → count_by says_yes (certs ++ cert ∷ []) ≡ count_by says_yes certs + cond (says_yes cert) 1 0
count_push certs cert = sum_by-append (λ c. cond (says_yes c) 1 0) certs (cert ∷ []) ∙ ap (λ (n : ℕ). count_by says_yes certs + n) (zero-add (cond (says_yes cert) 1 0))

-- ---- the way through bytes

-- So many certificates of the bytes are done, so many of them with the verdict Yes: this is their text, and the others stand from
-- here on.
pub record IsAt (bytes : List ℕ) (at certs good : ℕ) (text : List ℕ) : Type 0 where
  pub done : List Cert
  pub fuel : ℕ
  pub within : at ≤ length bytes
  pub few : certs ≤ at
  pub fewer : good ≤ certs
  pub count : certs ≡ length done
  pub count_yes : good ≡ count_by says_yes done
  pub lines : text ≡ cert_lines 0 done
  pub enough : length bytes ≤ at + fuel
  pub left : certs_in bytes ≡ behind done (first_certs fuel (drop at bytes))

-- none is done
pub at_start : (bytes text : List ℕ) → text ≡ [] → IsAt bytes 0 0 0 text
unfolding certs_in
at_start bytes text none = record {
  done = [];
  fuel = length bytes;
  within = omega arith;
  few = omega arith;
  fewer = omega arith;
  count = refl;
  count_yes = refl;
  lines = none;
  enough = omega arith;
  left = ap (first_certs (length bytes)) (sym (drop-zero bytes));
}

-- one more is done
pub at_next : (bytes : List ℕ) (at certs good : ℕ) (text : List ℕ) (r : ReadCert) (says : Bool) (longer : List ℕ) (at' certs' good' : ℕ) → IsAt bytes at certs good text → at < length bytes
    → reading (drop at bytes) ≡ Ok r → BeginsWith r.cert r.used (drop at bytes) → WritesVerdict certs r.cert says text longer
    → at' ≡ at + r.used → certs' ≡ certs + 1 → good' ≡ good + cond says 1 0 → IsAt bytes at' certs' good' longer
at_next bytes at certs good text r says longer at' certs' good' is inside read begins writes next more count =
    let fuel = is.fuel in
    let here = drop at bytes in
    let long : length here ≡ length bytes - at = length-drop at bytes in
    let used : 1 ≤ r.used = omega (arith, begins.long, some_bytes r.cert) in
    let whole : length here ≡ length (cert_spelling r.cert) + length begins.rest = ap length begins.spelt ∙ length-append (cert_spelling r.cert) begins.rest in
    let one : cond says 1 0 ≤ 1 = elim says as (λ b. cond b 1 0 ≤ 1) [ true ↦ omega arith | false ↦ omega arith ] in
    let m : ℕ = fuel - 1 in
    let some : fuel ≡ suc m = omega (arith, is.enough) in
    let rest = first_certs m (drop at' bytes) in
    let then_rest : drop r.used here ≡ drop at' bytes = drop-drop r.used at bytes ∙ ap (λ n. drop n bytes) (sym next) in
    let step : first_certs fuel here ≡ record { certs = r.cert ∷ rest.certs; fault = rest.fault } =
    ap (λ n. first_certs n here) some ∙ first_step m here (omega (arith, long)) ∙ ap (λ o. put_first o (λ n. first_certs m (drop n here))) read
    ∙ ap (λ l. let found : CertsIn = record { certs = r.cert ∷ (first_certs m l).certs; fault = (first_certs m l).fault } in found) then_rest in
    record {
      done = is.done ++ r.cert ∷ [];
      fuel = m;
      within = omega (arith, is.within, whole, long, begins.long, next);
      few = omega (arith, is.few, used, next, more);
      fewer = omega (arith, is.fewer, one, more, count);
      count = omega (arith, is.count, more, length-append is.done (r.cert ∷ []));
      count_yes = count ∙ (λ i. is.count_yes i + cond (writes.0 i) 1 0) ∙ sym (count_push is.done r.cert);
      lines = writes.1 ∙ (λ i. is.lines i ++ cert_line (is.count i) r.cert (verdict_of r.cert)) ∙ ap (λ n. cert_lines 0 is.done ++ cert_line n r.cert (verdict_of r.cert)) {x = length is.done} {y = 0 + length is.done} (omega arith)
          ∙ sym (lines_push 0 is.done r.cert);
      enough = omega (arith, is.enough, used, next, some);
      left = is.left ∙ ap (behind is.done) step ∙ ap (λ l. let found : CertsIn = record { certs = l; fault = rest.fault } in found) (sym (append_assoc is.done (r.cert ∷ []) rest.certs));
    }

-- all are done
pub at_end : (bytes : List ℕ) (at certs good : ℕ) (text : List ℕ) (is : IsAt bytes at certs good text) → length bytes ≤ at → certs_in bytes ≡ record { certs = is.done; fault = None }
at_end bytes at certs good text is past =
    is.left ∙ ap (behind is.done) (no_bytes is.fuel (drop at bytes) (omega (arith, length-drop at bytes)))
    ∙ ap (λ l. let found : CertsIn = record { certs = l; fault = None } in found) (append-nil is.done)

-- the text is whole
pub whole_text : (bytes : List ℕ) (at certs good : ℕ) (text longer : List ℕ) → IsAt bytes at certs good text → length bytes ≤ at → longer ≡ text ++ last_line certs good
    → longer ≡ audit_text_of (certs_in bytes).certs
whole_text bytes at certs good text longer is past last =
    last ∙ (λ i. is.lines i ++ last_line (is.count i) (is.count_yes i)) ∙ ap audit_text_of (ap (λ (found : CertsIn). found.certs) (sym (at_end bytes at certs good text is past)))

-- what is here is no certificate
fault_here : (bytes : List ℕ) (at certs good : ℕ) (text : List ℕ) (fault : CertFault) (is : IsAt bytes at certs good text) → at < length bytes → reading (drop at bytes) ≡ Err fault
    → certs_in bytes ≡ record { certs = is.done; fault = Some fault }
fault_here bytes at certs good text fault is inside read =
    let m : ℕ = is.fuel - 1 in
    let some : is.fuel ≡ suc m = omega (arith, is.enough) in
    let here = drop at bytes in
    let step : first_certs is.fuel here ≡ record { certs = []; fault = Some fault } =
    ap (λ n. first_certs n here) some ∙ first_step m here (omega (arith, length-drop at bytes)) ∙ ap (λ o. put_first o (λ n. first_certs m (drop n here))) read in
    is.left ∙ ap (behind is.done) step ∙ ap (λ l. let found : CertsIn = record { certs = l; fault = Some fault } in found) (append-nil is.done)

pub at_fault : (bytes : List ℕ) (at certs good : ℕ) (text : List ℕ) (status : Status) → IsAt bytes at certs good text → at < length bytes → CertEnds certs (reading (drop at bytes)) status
    → AuditEnds (certs_in bytes) status
at_fault bytes at certs good text (BadCert cert kind place) is inside ends =
    let found = fault_here bytes at certs good text (record { kind = kind; at = place }) is inside ends.1 in
    (ends.0 ∙ is.count ∙ ap (λ (f : CertsIn). length f.certs) (sym found), ap (λ (f : CertsIn). f.fault) found)
at_fault bytes at certs good text NoMemory is inside ends = tt
at_fault bytes at certs good text Done is inside ends = absurd ends
at_fault bytes at certs good text Usage is inside ends = absurd ends
at_fault bytes at certs good text ReadFault is inside ends = absurd ends
at_fault bytes at certs good text WriteFault is inside ends = absurd ends
at_fault bytes at certs good text TooMany is inside ends = absurd ends
at_fault bytes at certs good text (BadTable row column) is inside ends = absurd ends
at_fault bytes at certs good text (ShortCoins have) is inside ends = absurd ends
at_fault bytes at certs good text (BadVector number got wanted) is inside ends = absurd ends
at_fault bytes at certs good text (BadBook book kind place) is inside ends = absurd ends
at_fault bytes at certs good text (BookEpoch book have) is inside ends = absurd ends
