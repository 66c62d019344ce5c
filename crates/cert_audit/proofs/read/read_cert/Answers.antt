use Rattle.std.proofs.Common.{◌≡◌, ◌∙◌, ℕ, ◌+◌, ◌*◌, List, [], ◌-◌, ◌++◌, length, take, drop, Ok, refl, sym, ap, subst}
use Rattle.std.proofs.lemmas.List.{take_rest}
use Rattle.star_io.proofs.ByteLists.{AreBytes-from_fits}
use Rattle.report_frame.specs.declared.head.Head.{Head}
use Rattle.byte_format.specs.Format.{Entry}
use Rattle.shamir_limbs.specs.declared.share.Point.{Point}
use Rattle.cert_audit.specs.declared.cert.Cert.{Cert}
use Rattle.cert_audit.specs.declared.cert.ReadCert.{ReadCert}
use Rattle.cert_audit.specs.Certificate.{certificate, numbers_layout, point_entries, entries, BeginsWith}
use Rattle.cert_audit.specs.Front.{entries_of_front, head_of_front}
use Rattle.byte_format.specs.Reading.{read}
use Rattle.cert_audit.specs.Reading.{certs}
use Rattle.cert_audit.proofs.Whole.{bad_read, bad_fault, whole_walk, cert_of}
use Rattle.cert_audit.proofs.CertLaws.{entries_read, reading-cert}
use Rattle.cert_audit.proofs.read.read_cert.Goals as goal

pub returns-in_err-front-clause-read : goal.returns-in_err-front-clause-read
returns-in_err-front-clause-read c =
    bad_read c.args.bytes.now c.from_residual.result c.in_err-front.field-0.0
    (AreBytes-from_fits _ c.type_inv.bytes) c.from_residual.ensures.1 c.in_err-front.ensures.fault

pub returns-in_err-front-clause-fault : goal.returns-in_err-front-clause-fault
returns-in_err-front-clause-fault c =
    bad_fault c.args.bytes.now c.from_residual.result c.in_err-front.field-0.0
    (AreBytes-from_fits _ c.type_inv.bytes) c.from_residual.ensures.1 c.in_err-front.ensures.fault

pub returns-in_err-points-clause-read : goal.returns-in_err-points-clause-read
returns-in_err-points-clause-read c =
    let f = c.in_ok-front.front in
    bad_read c.args.bytes.now c.from_residual-in_err-points.result c.in_err-points.field-0.0
    (AreBytes-from_fits _ c.type_inv.bytes) c.from_residual-in_err-points.ensures.1
    (c.in_ok-front.ensures.ok ∙ c.in_err-points.ensures.fault (numbers_layout (3 * f.start.k)) (entries_of_front f))

pub returns-in_err-points-clause-fault : goal.returns-in_err-points-clause-fault
returns-in_err-points-clause-fault c =
    let f = c.in_ok-front.front in
    bad_fault c.args.bytes.now c.from_residual-in_err-points.result c.in_err-points.field-0.0
    (AreBytes-from_fits _ c.type_inv.bytes) c.from_residual-in_err-points.ensures.1
    (c.in_ok-front.ensures.ok ∙ c.in_err-points.ensures.fault (numbers_layout (3 * f.start.k)) (entries_of_front f))

pub returns-in_err-numbers-clause-read : goal.returns-in_err-numbers-clause-read
returns-in_err-numbers-clause-read c =
    let f = c.in_ok-front.front in
    let before : List Entry = entries_of_front f ++ point_entries c.in_ok-points.points.items in
    bad_read c.args.bytes.now c.from_residual-in_err-numbers.result c.in_err-numbers.field-0.0
    (AreBytes-from_fits _ c.type_inv.bytes) c.from_residual-in_err-numbers.ensures.1
    (c.in_ok-front.ensures.ok ∙ c.in_ok-points.ensures.ok (numbers_layout (3 * f.start.k)) (entries_of_front f)
    ∙ ap (λ (b : List ℕ). read certs (numbers_layout (3 * f.start.k)) (f.at + 32 * f.points) before b)
    (sym (take_rest f.rest.now (32 * f.points)))
    ∙ c.in_err-numbers.ensures.fault before)

pub returns-in_err-numbers-clause-fault : goal.returns-in_err-numbers-clause-fault
returns-in_err-numbers-clause-fault c =
    let f = c.in_ok-front.front in
    let before : List Entry = entries_of_front f ++ point_entries c.in_ok-points.points.items in
    bad_fault c.args.bytes.now c.from_residual-in_err-numbers.result c.in_err-numbers.field-0.0
    (AreBytes-from_fits _ c.type_inv.bytes) c.from_residual-in_err-numbers.ensures.1
    (c.in_ok-front.ensures.ok ∙ c.in_ok-points.ensures.ok (numbers_layout (3 * f.start.k)) (entries_of_front f)
    ∙ ap (λ (b : List ℕ). read certs (numbers_layout (3 * f.start.k)) (f.at + 32 * f.points) before b)
    (sym (take_rest f.rest.now (32 * f.points)))
    ∙ c.in_err-numbers.ensures.fault before)

pub head_of-requires-clause-low : goal.head_of-requires-clause-low
head_of-requires-clause-low c = c.in_ok-front.ensures.box_low

pub head_of-requires-clause-high : goal.head_of-requires-clause-high
head_of-requires-clause-high c = c.in_ok-front.ensures.box_high

pub returns-clause-found : goal.returns-clause-found
returns-clause-found c =
    let f = c.in_ok-front.front in
    let points : List Point = c.in_ok-points.points.items in
    let numbers : List ℕ = c.in_ok-numbers.numbers.items in
    let used : ℕ = f.at + 32 * f.points + 8 * (3 * f.start.k) in
    let cert : Head → List Point → List ℕ → Cert = λ h ps ns.
    record { level = f.start.level; epoch = f.start.epoch; parent = f.parent.now; head = h; points = ps; numbers = ns } in
    let walk : read certs certificate 0 [] c.args.bytes.now ≡ Ok (entries (cert_of f points numbers), used) =
    whole_walk c.args.bytes.now f.rest.now (take (length f.rest.now - 32 * f.points) (drop (32 * f.points) f.rest.now)) f f.at
    (3 * f.start.k) points numbers c.in_ok-points.ensures.many refl c.in_ok-front.ensures.ok
    (c.in_ok-points.ensures.ok (numbers_layout (3 * f.start.k)) (entries_of_front f)
    ∙ ap (λ (b : List ℕ). read certs (numbers_layout (3 * f.start.k)) (f.at + 32 * f.points) (entries_of_front f ++ point_entries points) b)
    (sym (take_rest f.rest.now (32 * f.points))))
    (c.in_ok-numbers.ensures.ok (entries_of_front f ++ point_entries points)) in
    let begins : BeginsWith (cert_of f points numbers) used c.args.bytes.now =
    entries_read c.args.bytes.now (cert_of f points numbers) used
    (AreBytes-from_fits _ c.type_inv.bytes) c.in_ok-points.ensures.three walk in
    subst (λ (h : Head). BeginsWith (cert h c.from_vec.result c.from_vec-2.result) used c.args.bytes.now) (sym c.head_of.ensures)
    (subst (λ (ps : List Point). BeginsWith (cert (head_of_front f) ps c.from_vec-2.result) used c.args.bytes.now) (sym c.from_vec.ensures)
    (subst (λ (ns : List ℕ). BeginsWith (cert (head_of_front f) points ns) used c.args.bytes.now) (sym c.from_vec-2.ensures) begins))

pub returns-clause-read : goal.returns-clause-read
returns-clause-read c =
    let f = c.in_ok-front.front in
    let cert : Cert = record {
      level = f.start.level;
      epoch = f.start.epoch;
      parent = f.parent.now;
      head = c.head_of.result;
      points = c.from_vec.result;
      numbers = c.from_vec-2.result;
    } in
    let r : ReadCert = record { cert = cert; used = f.at + 32 * f.points + 8 * (3 * f.start.k) } in
    reading-cert r c.args.bytes.now (returns-clause-found c)
