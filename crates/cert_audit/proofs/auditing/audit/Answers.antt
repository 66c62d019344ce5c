use Rattle.std.proofs.Common.{◌≡◌, ◌∙◌, ℕ, List, Option, length, sym, ap, subst, arith}
use Rattle.std.specs.Prelude.{is_some, IsSome}
use Rattle.shamir_limbs.specs.declared.key.Key.{Key}
use Rattle.shamir_limbs.specs.Limbs.{key_bytes, AreLimbs}
use Rattle.shamir_limbs.specs.Search.{are_limbs}
use Rattle.adss_commit.specs.Derivation.{opened_value}
use Rattle.cert_audit.specs.declared.cert.Cert.{Cert}
use Rattle.cert_audit.specs.declared.verdict.Verdict.TheVariants.{Yes, Short}
use Rattle.cert_audit.specs.Audit.{claimed_limbs, claimed_key, agree_of, claimed_value, verdict_with}
use Rattle.cert_audit.proofs.Sound.{audit_sound, verdict-few, verdict-key, verdict-short, verdict-value, limbs_wrong, limbs_cut, agree_cut}
use Rattle.cert_audit.proofs.auditing.audit.Goals as goal

-- the value under a key with the claimed bytes is the claimed one
value_of_key : (c : Cert) (key : Key) (o : Option (List ℕ)) (numbers : List ℕ) → key.bytes ≡ key_bytes numbers → numbers ≡ claimed_limbs c
    → o ≡ opened_value key c.head c.parent c.epoch c.level → claimed_value c ≡ o
value_of_key c key o numbers bytes same opened =
    let is : key ≡ claimed_key c = ap (λ (b : List ℕ). let k : Key = record { bytes = b } in k) (bytes ∙ ap key_bytes same) in
    sym (opened ∙ ap (λ (k : Key). opened_value k c.head c.parent c.epoch c.level) is)

pub returns-then-points-k-clause-verdict : goal.returns-then-points-k-clause-verdict
returns-then-points-k-clause-verdict c = sym
    (verdict-few c.args.cert.now (omega (arith, c.if-points-k.true, ap length c.as_slice-points.ensures)))

pub returns-in_default-clause-verdict : goal.returns-in_default-clause-verdict
returns-in_default-clause-verdict c =
    let cert = c.args.cert.now in
    let values : c.values_at.result ≡ claimed_limbs cert =
    c.values_at.ensures ∙ limbs_cut cert c.as_slice-numbers.result.now c.as_slice-numbers.ensures in
    let wrong = limbs_wrong c.key_of.result c.values_at.result c.key_of.ensures.found c.in_default.is in
    sym (verdict-key cert (omega (arith, c.if-points-k.false, ap length c.as_slice-points.ensures)) (ap are_limbs (sym values) ∙ wrong))

pub returns-then-agree-points-clause-verdict : goal.returns-then-agree-points-clause-verdict
returns-then-agree-points-clause-verdict c =
    let cert = c.args.cert.now in
    let values : c.values_at.result ≡ claimed_limbs cert =
    c.values_at.ensures ∙ limbs_cut cert c.as_slice-numbers.result.now c.as_slice-numbers.ensures in
    let some : IsSome c.key_of.result = ap is_some c.in-Some.is in
    let limbs : AreLimbs (claimed_limbs cert) = subst AreLimbs values (c.key_of.ensures.found.0 some) in
    let agree : c.agreement-agree.result ≡ agree_of cert =
    c.agreement-agree.ensures
    ∙ agree_cut cert c.as_slice-numbers.result.now c.as_slice-points.result.now c.as_slice-numbers.ensures c.as_slice-points.ensures in
    let size = ap length c.as_slice-points.ensures in
    ap Short agree ∙ sym (verdict-short cert (omega (arith, c.if-points-k.false, size)) limbs
    (omega (arith, c.if-agree-points.true, agree, size)))

pub returns-in-Some-open_value-clause-verdict : goal.returns-in-Some-open_value-clause-verdict
returns-in-Some-open_value-clause-verdict c =
    let cert = c.args.cert.now in
    let values : c.values_at.result ≡ claimed_limbs cert =
    c.values_at.ensures ∙ limbs_cut cert c.as_slice-numbers.result.now c.as_slice-numbers.ensures in
    let some : IsSome c.key_of.result = ap is_some c.in-Some.is in
    let limbs : AreLimbs (claimed_limbs cert) = subst AreLimbs values (c.key_of.ensures.found.0 some) in
    let agree : c.agreement-agree.result ≡ agree_of cert =
    c.agreement-agree.ensures
    ∙ agree_cut cert c.as_slice-numbers.result.now c.as_slice-points.result.now c.as_slice-numbers.ensures c.as_slice-points.ensures in
    let size = ap length c.as_slice-points.ensures in
    let value = value_of_key cert c.in-Some.key c.open_value.result c.values_at.result c.in-Some.ensures.bytes values c.open_value.ensures.opened ∙ c.in-Some-open_value.is in
    ap (Yes c.in-Some-open_value.value) agree
    ∙ sym (verdict-value cert (omega (arith, c.if-points-k.false, size)) limbs (omega (arith, c.if-agree-points.false, agree, size))
    ∙ ap (verdict_with (agree_of cert)) value)

pub returns-in-Some-open_value-clause-sound : goal.returns-in-Some-open_value-clause-sound
returns-in-Some-open_value-clause-sound c value agree is = audit_sound c.args.cert.now value agree c.know_cert.ensures
    (sym (returns-in-Some-open_value-clause-verdict c) ∙ is)

pub returns-in-None-clause-verdict : goal.returns-in-None-clause-verdict
returns-in-None-clause-verdict c =
    let cert = c.args.cert.now in
    let values : c.values_at.result ≡ claimed_limbs cert =
    c.values_at.ensures ∙ limbs_cut cert c.as_slice-numbers.result.now c.as_slice-numbers.ensures in
    let some : IsSome c.key_of.result = ap is_some c.in-Some.is in
    let limbs : AreLimbs (claimed_limbs cert) = subst AreLimbs values (c.key_of.ensures.found.0 some) in
    let agree : c.agreement-agree.result ≡ agree_of cert =
    c.agreement-agree.ensures
    ∙ agree_cut cert c.as_slice-numbers.result.now c.as_slice-points.result.now c.as_slice-numbers.ensures c.as_slice-points.ensures in
    let size = ap length c.as_slice-points.ensures in
    let value = value_of_key cert c.in-Some.key c.open_value.result c.values_at.result c.in-Some.ensures.bytes values c.open_value.ensures.opened ∙ c.in-None.is in
    sym (verdict-value cert (omega (arith, c.if-points-k.false, size)) limbs (omega (arith, c.if-agree-points.false, agree, size))
    ∙ ap (verdict_with (agree_of cert)) value)
