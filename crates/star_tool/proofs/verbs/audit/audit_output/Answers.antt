use Rattle.std.proofs.Common.{◌∙◌, ap, refl, sym, subst, Err}
use Rattle.command_words.specs.declared.command.Command.TheVariants.{Audit}
use Rattle.star_tool.specs.AuditText.{AuditEnds, audit_text_of, certs_in}
use Rattle.star_tool.specs.Seen.{seen, unseen}
use Rattle.star_tool.proofs.AuditLemmas.{too_long, no_text, audit_made}
use Rattle.star_tool.proofs.Reasons.{of_error, read_reason}
use Rattle.star_tool.proofs.verbs.audit.audit_output.Goals as goal

pub returns-in_err-bytes-clause-reason : goal.returns-in_err-bytes-clause-reason
returns-in_err-bytes-clause-reason g c =
    of_error _ _ _ c.from_residual.ensures.1
    (read_reason Audit _ unseen c.in_err-bytes.field-0.0 refl (λ is. c.in_err-bytes.ensures.read (ap (λ e. Err e) is))
    (λ is. too_long (seen g.S.Source.left g.S.Source.faults c.args.input.now c.read_bytes.new.input) (c.in_err-bytes.ensures.too_many (ap (λ e. Err e) is))))

pub returns-in_err-text-clause-reason : goal.returns-in_err-text-clause-reason
returns-in_err-text-clause-reason g c =
    of_error _ _ _ c.from_residual-in_err-text.ensures.1
    (no_text (seen g.S.Source.left g.S.Source.faults c.args.input.now c.read_bytes.new.input) unseen c.in_ok-bytes.bytes.items c.in_err-text.field-0.0
    c.in_ok-bytes.ensures.bytes c.in_ok-bytes.ensures.few (subst (λ b. AuditEnds (certs_in b) c.in_err-text.field-0.0) c.deref.ensures.value c.in_err-text.ensures.bad))

pub returns-clause-output : goal.returns-clause-output
returns-clause-output g c = λ coins.
    audit_made (seen g.S.Source.left g.S.Source.faults c.args.input.now c.read_bytes.new.input) coins c.in_ok-bytes.bytes.items c.in_ok-text.text.items
    c.in_ok-bytes.ensures.bytes c.in_ok-bytes.ensures.few
    (ap (λ b. (certs_in b).fault) (sym c.deref.ensures.value) ∙ c.in_ok-text.ensures.good)
    (c.in_ok-text.ensures.text ∙ ap (λ b. audit_text_of (certs_in b).certs) c.deref.ensures.value)
