use Rattle.std.proofs.Common.{◌≡◌, ◌++◌, List, ℕ, ap, sym, subst, ◌∙◌}
use Rattle.report_frame.specs.Frame.{IsFrame, frame, entries, sealed_part}
use Rattle.byte_format.specs.Format.{spelling}
use Rattle.report_frame.specs.Report.{fields_of_report}
use Rattle.report_frame.proofs.Frames.{decoded-frame}
use Rattle.report_frame.proofs.FrameLaws.{has_frame, sealed_then_seal}
use Rattle.report_frame.proofs.spell.encode.Goals as goal

is_frame : (c : goal.In_ok-extend_from_slice) → IsFrame (fields_of_report c.args.report.now) c.extend_from_slice.new.self.items
is_frame c =
    let report = fields_of_report c.args.report.now in
    let spelt : IsFrame report (spelling frame (entries report)) = has_frame report c.know_ranges.ensures c.requires.short in
    let same : c.extend_from_slice.new.self.items ≡ sealed_part report ++ report.seal =
    c.in_ok-extend_from_slice.ensures.items ∙ ap (λ (part : List ℕ). part ++ report.seal) c.in_ok-frame.ensures.part in
    subst (IsFrame report) (sealed_then_seal report (spelling frame (entries report)) spelt ∙ sym same) spelt

pub returns-clause-frame : goal.returns-clause-frame
returns-clause-frame c = is_frame c

pub returns-clause-decoded : goal.returns-clause-decoded
returns-clause-decoded c = decoded-frame (fields_of_report c.args.report.now) _ (is_frame c)
