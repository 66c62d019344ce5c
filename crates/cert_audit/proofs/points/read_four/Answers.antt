use Rattle.std.proofs.Common.{◌≡◌, ◌∙◌, ℕ, suc, ◌+◌, List, [], ◌∷◌, ◌++◌, length, Err, ap, arith, length-drop}
use Rattle.byte_format.specs.Format.{Format, Entry}
use Rattle.byte_format.specs.Format.Entry.{Number}
use Rattle.cert_audit.specs.declared.fault.CertFault.{CertFault}
use Rattle.cert_audit.specs.declared.kind.CertKind.{CertKind}
use Rattle.cert_audit.specs.Certificate.{points_layout}
use Rattle.byte_format.specs.Reading.{read}
use Rattle.cert_audit.specs.Reading.{certs}
use Rattle.cert_audit.proofs.Steps.{elements, x_read, y0_read, y1_read, y2_read, element_fault, drop-behind}
use Rattle.cert_audit.proofs.Whole.{at_exit}
use Rattle.cert_audit.proofs.points.read_four.Goals as goal

-- the fault of four numbers that are read at this place above this number
abbrev FaultOf : ℕ → ℕ → List ℕ → CertFault → Type 0
FaultOf above at bytes e = (n : ℕ) (next : Format CertKind) (before : List Entry)
    → read certs (points_layout (suc n) above next) at before bytes ≡ Err e

pub returns-in_err-x-clause-fault : goal.returns-in_err-x-clause-fault
returns-in_err-x-clause-fault c =
    at_exit (FaultOf c.args.above c.args.at c.args.bytes.now) c.from_residual.result c.in_err-x.field-0.0 c.from_residual.ensures.1
    (λ n next before.
    element_fault (c.args.above + 1) c.args.at
    (λ x. elements 3 (points_layout n x next)) before c.args.bytes.now c.in_err-x.field-0.0 c.in_err-x.ensures.found)

pub returns-in_err-y0-clause-fault : goal.returns-in_err-y0-clause-fault
returns-in_err-y0-clause-fault c =
    let x : ℕ = c.in_ok-x.x in
    at_exit (FaultOf c.args.above c.args.at c.args.bytes.now) c.from_residual-in_err-y0.result c.in_err-y0.field-0.0 c.from_residual-in_err-y0.ensures.1
    (λ n next before. x_read c.args.above c.args.at n x next before c.args.bytes.now c.in_ok-x.rest.now c.in_ok-x.ensures.found
    ∙ element_fault 0 (c.args.at + 8) (λ _. elements 2 (points_layout n x next)) (before ++ Number x ∷ []) c.in_ok-x.rest.now
    c.in_err-y0.field-0.0 c.in_err-y0.ensures.found)

pub returns-in_err-y1-clause-fault : goal.returns-in_err-y1-clause-fault
returns-in_err-y1-clause-fault c =
    let x : ℕ = c.in_ok-x.x in
    let y0 : ℕ = c.in_ok-y0.y0 in
    at_exit (FaultOf c.args.above c.args.at c.args.bytes.now) c.from_residual-in_err-y1.result c.in_err-y1.field-0.0 c.from_residual-in_err-y1.ensures.1
    (λ n next before. y0_read c.args.above c.args.at n x y0 next before c.args.bytes.now c.in_ok-x.rest.now c.in_ok-y0.rest.now
    c.in_ok-x.ensures.found c.in_ok-y0.ensures.found
    ∙ element_fault 0 (c.args.at + 16) (λ _. elements 1 (points_layout n x next)) (before ++ Number x ∷ Number y0 ∷ []) c.in_ok-y0.rest.now
    c.in_err-y1.field-0.0 c.in_err-y1.ensures.found)

pub returns-in_err-y2-clause-fault : goal.returns-in_err-y2-clause-fault
returns-in_err-y2-clause-fault c =
    let x : ℕ = c.in_ok-x.x in
    let y0 : ℕ = c.in_ok-y0.y0 in
    let y1 : ℕ = c.in_ok-y1.y1 in
    at_exit (FaultOf c.args.above c.args.at c.args.bytes.now) c.from_residual-in_err-y2.result c.in_err-y2.field-0.0 c.from_residual-in_err-y2.ensures.1
    (λ n next before. y1_read c.args.above c.args.at n x y0 y1 next before c.args.bytes.now c.in_ok-x.rest.now c.in_ok-y0.rest.now
    c.in_ok-y1.rest.now c.in_ok-x.ensures.found c.in_ok-y0.ensures.found c.in_ok-y1.ensures.found
    ∙ element_fault 0 (c.args.at + 24) (λ _. points_layout n x next) (before ++ Number x ∷ Number y0 ∷ Number y1 ∷ []) c.in_ok-y1.rest.now
    c.in_err-y2.field-0.0 c.in_err-y2.ensures.found)

pub returns-clause-ok : goal.returns-clause-ok
returns-clause-ok c n next before =
    y2_read c.args.above c.args.at n c.in_ok-x.x c.in_ok-y0.y0 c.in_ok-y1.y1 c.in_ok-y2.y2 next before c.args.bytes.now c.in_ok-x.rest.now
    c.in_ok-y0.rest.now c.in_ok-y1.rest.now c.in_ok-y2.rest.now c.in_ok-x.ensures.found c.in_ok-y0.ensures.found c.in_ok-y1.ensures.found
    c.in_ok-y2.ensures.found

pub returns-clause-rest : goal.returns-clause-rest
returns-clause-rest c =
    drop-behind 24 8 c.args.bytes.now c.in_ok-y1.rest.now c.in_ok-y2.rest.now
    (drop-behind 16 8 c.args.bytes.now c.in_ok-y0.rest.now c.in_ok-y1.rest.now
    (drop-behind 8 8 c.args.bytes.now c.in_ok-x.rest.now c.in_ok-y0.rest.now c.in_ok-x.ensures.rest c.in_ok-y0.ensures.rest)
    c.in_ok-y1.ensures.rest)
    c.in_ok-y2.ensures.rest

pub returns-clause-long : goal.returns-clause-long
returns-clause-long c =
    let first : length c.in_ok-x.rest.now + 8 ≡ length c.args.bytes.now =
    omega (arith, ap length c.in_ok-x.ensures.rest, length-drop 8 c.args.bytes.now, c.in_ok-x.ensures.long) in
    let second : length c.in_ok-y0.rest.now + 8 ≡ length c.in_ok-x.rest.now =
    omega (arith, ap length c.in_ok-y0.ensures.rest, length-drop 8 c.in_ok-x.rest.now, c.in_ok-y0.ensures.long) in
    let third : length c.in_ok-y1.rest.now + 8 ≡ length c.in_ok-y0.rest.now =
    omega (arith, ap length c.in_ok-y1.ensures.rest, length-drop 8 c.in_ok-y0.rest.now, c.in_ok-y1.ensures.long) in
    omega (arith, first, second, third, c.in_ok-y2.ensures.long)
