use Rattle.std.proofs.Common.{ap, refl, sym, subst, arith, Err, All, length}
use Rattle.cert_audit.specs.Certificate.{IsCert}
use Rattle.command_words.specs.declared.command.Command.TheVariants.{Certify}
use Rattle.star_tool.specs.Seen.{seen, unseen}
use Rattle.star_tool.proofs.Reasons.{of_error, read_reason}
use Rattle.star_tool.proofs.CertifyLemmas.{certify_made}
use Rattle.star_tool.proofs.StreamLemmas.{stream_refused}
use Rattle.star_tool.proofs.verbs.certify.certify_output.Goals as goal

pub returns-in_err-records-clause-reason : goal.returns-in_err-records-clause-reason
returns-in_err-records-clause-reason g c =
    of_error _ _ _ c.from_residual.ensures.1
    (read_reason (Certify c.args.epoch) _ unseen c.in_err-records.field-0.0 refl (λ is. c.in_err-records.ensures.read (ap (λ e. Err e) is))
    (λ is. stream_refused (seen g.S.Source.left g.S.Source.faults c.args.input.now c.read_records.new.input) (c.in_err-records.ensures.too_many (ap (λ e. Err e) is))))

pub certs_bytes-requires : goal.certs_bytes-requires
certs_bytes-requires g c =
    subst (All IsCert) (sym c.as_slice.ensures)
    (c.in_ok-certs.ensures.range (omega (arith, c.in_ok-records.ensures.few, ap length c.deref.ensures.value)))

pub returns-clause-output : goal.returns-clause-output
returns-clause-output g c = λ coins.
    certify_made c.args.epoch (seen g.S.Source.left g.S.Source.faults c.args.input.now c.read_records.new.input) coins c.in_ok-records.records.items _ c.in_ok-certs.certs _ _
    c.in_ok-records.ensures.records c.deref.ensures.value c.in_ok-certs.ensures.certs c.as_slice.ensures c.in_ok-bytes.ensures
