use Rattle.std.proofs.Common.{◌≡◌, ◌∙◌, ℕ, length, ap, arith}
use Rattle.nest_client.specs.Stream.{first_of}
use Rattle.nest_client.specs.Generator.{drawn_frame}
use Rattle.star_io.specs.RecordLists.{stream_of}
use Rattle.star_io.proofs.RecordListLaws.{only_stream}
use Rattle.nest_client.proofs.Records.{one_more}
use Rattle.nest_client.proofs.generator.gen_text.Goals as goal

pub reports-preserved : goal.reports-preserved
reports-preserved c =
    one_more (drawn_frame c.args.number c.args.liars) c.reports.i c.reports.text.items c.push_record.new.text.items _ c.reports.invariant
    (omega (arith, ap length c.deref.ensures.value, c.in_ok-report.ensures.short)) (c.deref.ensures.value ∙ c.in_ok-report.ensures.bytes) c.in_ok-push_record.ensures

pub returns-clause-stream : goal.returns-clause-stream
returns-clause-stream c =
    let all : c.reports.i ≡ c.args.reports = omega arith in
    only_stream _ _ c.reports.invariant ∙ ap (λ (n : ℕ). stream_of (first_of (drawn_frame c.args.number c.args.liars) n)) all
