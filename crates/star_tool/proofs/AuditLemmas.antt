-- The command `audit`.
use Rattle.std.proofs.Common.{◌≡◌, ◌∙◌, ◌<◌, ◌≤◌, ◌+◌, ℕ, List, [], length, Some, None, refl, sym, ap, subst, arith}
use Rattle.std.specs.Prelude.{option_map}
use Rattle.std.proofs.lemmas.Bool.{lt-ltb, le-ltb}
use Rattle.std.proofs.lemmas.List.{length-drop, nil_from_length}
use Rattle.cert_audit.specs.declared.fault.CertFault.{CertFault}
use Rattle.command_words.specs.declared.command.Command.TheVariants.{Audit}
use Rattle.star_tool.specs.declared.status.Status.{Status}
use Rattle.star_tool.specs.declared.status.Status.TheVariants.{Done, Usage, ReadFault, WriteFault, TooMany, NoMemory, BadTable, ShortCoins, BadVector, BadBook, BookEpoch, BadCert}
use Rattle.star_tool.specs.declared.verbs.audit.TheConstants.{MAX_CERTS_BYTES}
use Rattle.star_tool.specs.AuditText.{AuditEnds, certs_in, audit_text_of}
use Rattle.star_tool.specs.Run.{IsRefused, IsOutput, Reason}
use Rattle.star_tool.specs.Seen.{Seen}
use Rattle.star_tool.specs.Verbs.Audit.{audit_refusal, audit_rest}
use Rattle.star_tool.proofs.MakeLemmas.{IsWhole}

-- ---- what refuses bytes

pub long_refused : (bytes : List ℕ) → MAX_CERTS_BYTES < length bytes → audit_refusal bytes ≡ Some TooMany
long_refused bytes many = rw (lt-ltb MAX_CERTS_BYTES (length bytes) many) refl

-- the fault of what follows the certificates
pub fault_refused : (bytes : List ℕ) (fault : CertFault) → length bytes ≤ MAX_CERTS_BYTES → (certs_in bytes).fault ≡ Some fault
    → audit_refusal bytes ≡ Some (BadCert (length (certs_in bytes).certs) fault.kind fault.at)
fault_refused bytes fault few is =
    rw (le-ltb MAX_CERTS_BYTES (length bytes) few) (ap (option_map (λ (f : CertFault). BadCert (length (certs_in bytes).certs) f.kind f.at)) is)

-- and nothing certificates one after the other
pub certs_kept : (bytes : List ℕ) → length bytes ≤ MAX_CERTS_BYTES → (certs_in bytes).fault ≡ None → audit_refusal bytes ≡ None
certs_kept bytes few is =
    rw (le-ltb MAX_CERTS_BYTES (length bytes) few) (ap (option_map (λ (f : CertFault). BadCert (length (certs_in bytes).certs) f.kind f.at)) is)

-- ---- why there is no output

-- no byte is left of certificates
rest_of_certs : (bytes : List ℕ) → length bytes ≤ MAX_CERTS_BYTES → audit_rest bytes ≡ []
rest_of_certs bytes few = nil_from_length (audit_rest bytes) (omega (arith, length-drop (MAX_CERTS_BYTES + 1) bytes))

-- a byte more was taken than certificates may have
pub too_long : (input : Seen) → ((bytes : List ℕ) → input.left ≡ Some bytes → (MAX_CERTS_BYTES < length bytes) × (input.left_after ≡ Some (audit_rest bytes)))
    → IsRefused Audit input TooMany
too_long input many = λ bytes told. let behind = many bytes told in (long_refused bytes behind.0, behind.1)

-- the bytes end at a fault
bad_certs : (input : Seen) (taken : List ℕ) (fault : CertFault) (cert : ℕ) → IsWhole input taken → length taken ≤ MAX_CERTS_BYTES
    → cert ≡ length (certs_in taken).certs → (certs_in taken).fault ≡ Some fault → IsRefused Audit input (BadCert cert fault.kind fault.at)
bad_certs input taken fault cert whole few count is = λ bytes told.
    let all = whole bytes told in
    let small : length bytes ≤ MAX_CERTS_BYTES = omega (arith, few, ap length all.0) in (
      subst (λ b. audit_refusal b ≡ Some (BadCert cert fault.kind fault.at)) all.0
          (fault_refused taken fault few is ∙ ap (λ n. Some (BadCert n fault.kind fault.at)) (sym count)),
      all.1 ∙ ap Some (sym (rest_of_certs bytes small)),
    )

pub no_text : (input coins : Seen) (taken : List ℕ) (status : Status) → IsWhole input taken → length taken ≤ MAX_CERTS_BYTES → AuditEnds (certs_in taken) status → Reason Audit input coins status
no_text input coins taken (BadCert cert kind at) whole few ends = bad_certs input taken (record { kind = kind; at = at }) cert whole few ends.0 ends.1
no_text input coins taken NoMemory whole few ends = tt
no_text input coins taken Done whole few ends = absurd ends
no_text input coins taken Usage whole few ends = absurd ends
no_text input coins taken ReadFault whole few ends = absurd ends
no_text input coins taken WriteFault whole few ends = absurd ends
no_text input coins taken TooMany whole few ends = absurd ends
no_text input coins taken (BadTable row column) whole few ends = absurd ends
no_text input coins taken (ShortCoins have) whole few ends = absurd ends
no_text input coins taken (BadVector number got wanted) whole few ends = absurd ends
no_text input coins taken (BadBook book kind at) whole few ends = absurd ends
no_text input coins taken (BookEpoch book have) whole few ends = absurd ends

-- ---- the output

-- the lines of all certificates are the output
pub audit_made : (input coins : Seen) (taken text : List ℕ) → IsWhole input taken → length taken ≤ MAX_CERTS_BYTES → (certs_in taken).fault ≡ None → text ≡ audit_text_of (certs_in taken).certs
    → IsOutput Audit input coins text
audit_made input coins taken text whole few none is = λ bytes told.
    let all = whole bytes told in
    (subst (λ b. audit_refusal b ≡ None) all.0 (certs_kept taken few none), all.1, ([], tt, is ∙ ap (λ b. audit_text_of (certs_in b).certs) all.0))
