use Rattle.std.proofs.Common.{◌≡◌, ℕ, [], Ok, subst}
use Rattle.report_frame.specs.declared.limits.TheConstants.{MIN_THRESHOLD}
use Rattle.byte_format.specs.Format.Size.{OneByte, TwoBytes}
use Rattle.report_frame.specs.Versions.{max_level, max_threshold}
use Rattle.cert_audit.specs.declared.kind.CertKind.TheVariants.{Range}
use Rattle.cert_audit.specs.Certificate.{certificate, behind_threshold}
use Rattle.cert_audit.specs.Front.{entries_of_start}
use Rattle.byte_format.specs.Reading.{number_at, read}
use Rattle.cert_audit.specs.Reading.{certs}
use Rattle.cert_audit.proofs.Fronts.{start_read, front_follows, fault_follows}
use Rattle.cert_audit.proofs.front.read_front.Goals as goal

pub returns-clause-ok : goal.returns-clause-ok
returns-clause-ok c =
    let version = c.in_ok-version.version in
    let level : number_at certs OneByte Range 0 (max_level version) 10 c.in_ok-version.rest.now
    ≡ Ok (c.in_ok-level.level, c.in_ok-level.rest.now) =
    subst (λ (high : ℕ). number_at certs OneByte Range 0 high 10 c.in_ok-version.rest.now
    ≡ Ok (c.in_ok-level.level, c.in_ok-level.rest.now)) c.max_level.ensures c.in_ok-level.ensures.found in
    let threshold : number_at certs TwoBytes Range MIN_THRESHOLD (max_threshold version) 15 c.in_ok-epoch.rest.now
    ≡ Ok (c.in_ok-k.k, c.in_ok-k.rest.now) =
    subst (λ (high : ℕ). number_at certs TwoBytes Range MIN_THRESHOLD high 15 c.in_ok-epoch.rest.now
    ≡ Ok (c.in_ok-k.k, c.in_ok-k.rest.now)) c.max_threshold.ensures c.in_ok-k.ensures in
    front_follows c.read_behind.result (read certs certificate 0 [] c.args.bytes.now)
    (read certs (behind_threshold c.in_ok-k.k) 17
    (entries_of_start (record { version = version; level = c.in_ok-level.level; epoch = c.in_ok-epoch.epoch; k = c.in_ok-k.k })) c.in_ok-k.rest.now)
    (start_read c.args.bytes.now c.in_ok-rest.rest.now c.in_ok-rest-2.rest.now c.in_ok-version.rest.now c.in_ok-level.rest.now c.in_ok-epoch.rest.now c.in_ok-k.rest.now
    c.in_ok-rest.field-0-0 c.in_ok-rest-2.field-0-0 c.in_ok-level.level c.in_ok-epoch.epoch c.in_ok-k.k version
    c.in_ok-rest.ensures.found c.in_ok-rest.ensures.low c.in_ok-rest.ensures.high c.in_ok-rest-2.ensures.found c.in_ok-rest-2.ensures.low c.in_ok-rest-2.ensures.high
    c.in_ok-version.ensures level c.in_ok-epoch.ensures threshold)
    c.read_behind.ensures.ok

pub returns-clause-fault : goal.returns-clause-fault
returns-clause-fault c =
    let version = c.in_ok-version.version in
    let level : number_at certs OneByte Range 0 (max_level version) 10 c.in_ok-version.rest.now
    ≡ Ok (c.in_ok-level.level, c.in_ok-level.rest.now) =
    subst (λ (high : ℕ). number_at certs OneByte Range 0 high 10 c.in_ok-version.rest.now
    ≡ Ok (c.in_ok-level.level, c.in_ok-level.rest.now)) c.max_level.ensures c.in_ok-level.ensures.found in
    let threshold : number_at certs TwoBytes Range MIN_THRESHOLD (max_threshold version) 15 c.in_ok-epoch.rest.now
    ≡ Ok (c.in_ok-k.k, c.in_ok-k.rest.now) =
    subst (λ (high : ℕ). number_at certs TwoBytes Range MIN_THRESHOLD high 15 c.in_ok-epoch.rest.now
    ≡ Ok (c.in_ok-k.k, c.in_ok-k.rest.now)) c.max_threshold.ensures c.in_ok-k.ensures in
    fault_follows c.read_behind.result (read certs certificate 0 [] c.args.bytes.now)
    (read certs (behind_threshold c.in_ok-k.k) 17
    (entries_of_start (record { version = version; level = c.in_ok-level.level; epoch = c.in_ok-epoch.epoch; k = c.in_ok-k.k })) c.in_ok-k.rest.now)
    (start_read c.args.bytes.now c.in_ok-rest.rest.now c.in_ok-rest-2.rest.now c.in_ok-version.rest.now c.in_ok-level.rest.now c.in_ok-epoch.rest.now c.in_ok-k.rest.now
    c.in_ok-rest.field-0-0 c.in_ok-rest-2.field-0-0 c.in_ok-level.level c.in_ok-epoch.epoch c.in_ok-k.k version
    c.in_ok-rest.ensures.found c.in_ok-rest.ensures.low c.in_ok-rest.ensures.high c.in_ok-rest-2.ensures.found c.in_ok-rest-2.ensures.low c.in_ok-rest-2.ensures.high
    c.in_ok-version.ensures level c.in_ok-epoch.ensures threshold)
    c.read_behind.ensures.fault
