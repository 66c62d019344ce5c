use Rattle.std.proofs.Common.{◌∙◌, ℕ, List, ap}
use Rattle.nest_client.specs.Place.{report_bytes}
use Rattle.star_client_c.specs.Request.{Request, request}
use Rattle.star_client_c.proofs.Cells.{length_is}
use Rattle.star_client_c.proofs.star_client_length.Goals as goal

pub returns-in-Ok-clause-length : goal.returns-in-Ok-clause-length
returns-in-Ok-clause-length c _ =
    let r : Request = request c.args.version c.args.cells.now c.args.thresholds.now c.args.extra.now in
    length_is r c.in-Ok.content.row.items c.in-Ok.content.extra c.report_bytes.result c.in-Ok.ensures.row c.in-Ok.ensures.extra
    (c.report_bytes.ensures.bytes ∙ ap (λ (vs : List (List ℕ)). report_bytes vs c.in-Ok.content.extra) c.as_slice.ensures.value)
