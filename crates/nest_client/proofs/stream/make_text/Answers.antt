use Rattle.std.proofs.Common.{◌≡◌, ◌∙◌, ℕ, List, length, ap, arith}
use Rattle.report_frame.specs.declared.version.Version.TheVariants.{One}
use Rattle.nest_client.specs.Report.{client_of, frame_of, report}
use Rattle.nest_client.specs.Stream.{first_of, row_frame}
use Rattle.nest_client.proofs.Layers.{frame_is}
use Rattle.star_io.specs.RecordLists.{stream_of}
use Rattle.star_io.proofs.RecordListLaws.{only_stream}
use Rattle.nest_client.proofs.Records.{one_more}
use Rattle.nest_client.proofs.stream.make_text.Goals as goal

pub rows-preserved : goal.rows-preserved
rows-preserved c =
    let thresholds : List ℕ = c.args.thresholds.now in
    one_more (row_frame c.args.table.now thresholds c.args.epoch c.args.seed.now) c.rows.i c.rows.text.items c.push_record.new.text.items _ c.rows.invariant
    (omega (arith, ap length c.deref.ensures.value, c.in_ok-report.ensures.most))
    (c.deref.ensures.value ∙ frame_is _ _ c.in_ok-report.ensures.frame
    ∙ ap (λ (values : List (List ℕ)). frame_of (report (client_of One c.args.epoch c.args.seed.now c.rows.i) values thresholds)) c.row.ensures)
    c.in_ok-push_record.ensures

pub returns-clause-stream : goal.returns-clause-stream
returns-clause-stream c =
    let all : c.rows.i ≡ length c.args.table.now = omega arith in
    only_stream _ _ c.rows.invariant ∙ ap (λ (n : ℕ). stream_of (first_of (row_frame c.args.table.now c.args.thresholds.now c.args.epoch c.args.seed.now) n)) all
