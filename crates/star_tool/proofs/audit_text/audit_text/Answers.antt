use Rattle.std.proofs.Common.{◌≡◌, ◌∙◌, ◌+◌, ℕ, List, Ok, ap, refl, subst, arith}
use Rattle.std.specs.Prelude.{string_bytes, Vec}
use Rattle.std.specs.declared.alloc.Global.{Global}
use Rattle.cert_audit.specs.Certificate.{BeginsWith}
use Rattle.cert_audit.specs.Reading.{reading}
use Rattle.star_tool.specs.AuditText.{CertsIn, CertEnds}
use Rattle.star_tool.proofs.Certificates.{some_bytes, all_left, at_start, at_next, at_end, whole_text, at_fault}
use Rattle.star_tool.proofs.Lines.{bool_byte-cond}
use Rattle.star_tool.proofs.Reasons.{of_error}
use Rattle.star_tool.proofs.audit_text.audit_text.Goals as goal

pub loop-at-init : goal.loop-at-init
loop-at-init c = at_start c.args.bytes.now _ c.new-text.ensures.bytes

pub loop-at-preserved : goal.loop-at-preserved
loop-at-preserved c =
    let r = c.in_ok-cert.field-0 in
    let says = c.in_ok-says_yes.says_yes in
    let left = all_left c.loop-at.at c.args.bytes.now in
    at_next c.args.bytes.now c.loop-at.at c.loop-at.certs c.loop-at.yes (string_bytes c.loop-at.text) r says (string_bytes c.push_verdict.new.text) _ _ _
    c.loop-at.invariant c.loop-at-test.true (subst (λ (b : List ℕ). reading b ≡ Ok r) left c.in_ok-cert.ensures.read)
    (subst (λ (b : List ℕ). BeginsWith r.cert r.used b) left c.in_ok-cert.ensures.found) c.in_ok-says_yes.ensures
    refl refl (ap (λ (n : ℕ). c.loop-at.yes + n) (c.from-yes.ensures ∙ bool_byte-cond says))

pub loop-at-smaller : goal.loop-at-smaller
loop-at-smaller c = omega (arith, c.loop-at-test.true, c.in_ok-cert.ensures.found.long, some_bytes c.in_ok-cert.field-0.cert)

pub returns-in_err-cert-clause-bad : goal.returns-in_err-cert-clause-bad
returns-in_err-cert-clause-bad c =
    of_error _ _ _ c.from_residual.ensures.1
    (at_fault c.args.bytes.now c.loop-at.at c.loop-at.certs c.loop-at.yes (string_bytes c.loop-at.text) c.in_err-cert.field-0.0 c.loop-at.invariant c.loop-at-test.true
    (subst (λ (b : List ℕ). CertEnds c.loop-at.certs (reading b) c.in_err-cert.field-0.0) (all_left c.loop-at.at c.args.bytes.now) c.in_err-cert.ensures.bad))

pub returns-clause-good : goal.returns-clause-good
returns-clause-good c =
    ap (λ (found : CertsIn). found.fault)
    (at_end c.args.bytes.now c.loop-at.at c.loop-at.certs c.loop-at.yes (string_bytes c.loop-at.text) c.loop-at.invariant c.loop-at-test.false)

pub returns-clause-text : goal.returns-clause-text
returns-clause-text c =
    whole_text c.args.bytes.now c.loop-at.at c.loop-at.certs c.loop-at.yes (string_bytes c.loop-at.text) _ c.loop-at.invariant c.loop-at-test.false
    (ap (λ (v : Vec ℕ Global). v.items) c.into_bytes.ensures.value ∙ c.in_ok-push_last_line.ensures)
