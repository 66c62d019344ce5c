use Rattle.std.proofs.Common.{◌≡◌, ◌∙◌, ℕ, List, drop, inr, refl, ap, arith}
use Rattle.std.proofs.lemmas.List.{take_at, length-take}
use Rattle.nest_client.specs.Place.{report_bytes}
use Rattle.star_client_c.specs.Request.{Request, request, report_length}
use Rattle.star_client_c.proofs.Cells.{length_is, made}
use Rattle.star_client_c.proofs.star_client_report.Goals as goal

pub returns-then-out-n-clause-fault : goal.returns-then-out-n-clause-fault
returns-then-out-n-clause-fault c _ =
    let r : Request = request c.args.version c.args.cells.now c.args.thresholds.now c.args.extra.now in
    let long : c.report_bytes-n.result ≡ report_length r =
    length_is r c.in-Ok.content.row.items c.in-Ok.content.extra c.report_bytes-n.result c.in-Ok.ensures.row c.in-Ok.ensures.extra
    (c.report_bytes-n.ensures.bytes ∙ ap (λ (vs : List (List ℕ)). report_bytes vs c.in-Ok.content.extra) c.as_slice.ensures.value) in
    inr (inr (refl, c.in-Ok.ensures.good, c.in-Some.ensures.found.0 refl, omega (arith, long)))

pub returns-clause-length : goal.returns-clause-length
returns-clause-length c _ =
    let r : Request = request c.args.version c.args.cells.now c.args.thresholds.now c.args.extra.now in
    length_is r c.in-Ok.content.row.items c.in-Ok.content.extra c.report_bytes-n.result c.in-Ok.ensures.row c.in-Ok.ensures.extra
    (c.report_bytes-n.ensures.bytes ∙ ap (λ (vs : List (List ℕ)). report_bytes vs c.in-Ok.content.extra) c.as_slice.ensures.value)

pub returns-clause-made : goal.returns-clause-made
returns-clause-made c _ =
    let r : Request = request c.args.version c.args.cells.now c.args.thresholds.now c.args.extra.now in
    let n : ℕ = c.report_bytes-n.result in
    made r c.args.epoch c.args.client c.args.seed.now c.in-Ok.content.version c.in-Some.seed c.in-Ok.content.extra c.in-Ok.content.row.items c.as_slice-values.result.now
    c.write_report.new.frame _ c.in-Ok.ensures.row c.in-Ok.ensures.version c.in-Some.ensures.seed c.in-Ok.ensures.extra c.as_slice-values.ensures.value
    (take_at c.write_report.new.frame (drop n c.args.out.now) n (omega (arith, length-take n c.args.out.now))) c.write_report.ensures
