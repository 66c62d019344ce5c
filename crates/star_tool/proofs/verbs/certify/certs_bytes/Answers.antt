use Rattle.std.proofs.Common.{◌∙◌, ◌++◌, take, ap, sym, subst}
use Rattle.std.specs.List.{flat_map}
use Rattle.star_lists.proofs.Mapped.{flat_map-push, take-step}
use Rattle.cert_audit.specs.Certificate.{IsCert, cert_spelling}
use Rattle.star_tool.proofs.verbs.certify.certs_bytes.Goals as goal

pub cert_bytes-requires : goal.cert_bytes-requires
cert_bytes-requires c = subst IsCert (sym c.cert-item.is) (c.requires c.loop-cert.cert-index c.cert-item.result c.loop-cert-test.true)

pub loop-cert-preserved : goal.loop-cert-preserved
loop-cert-preserved c =
    let certs = c.args.certs.now in
    let i = c.loop-cert.cert-index in
    let cert = c.cert-item.result in
    c.in_ok-extend_from_slice.ensures.items
    ∙ (λ j. c.loop-cert.invariant j ++ (c.deref.ensures.value ∙ c.in_ok-spelt.ensures.spelt) j)
    ∙ sym (flat_map-push cert_spelling (take i certs) cert)
    ∙ ap (flat_map cert_spelling) (sym (take-step certs i cert c.loop-cert-test.true c.cert-item.is))
