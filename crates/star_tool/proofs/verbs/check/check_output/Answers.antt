use Rattle.std.proofs.Common.{[], List, map, ap, refl, Err, string_bytes}
use Rattle.star_io.specs.declared.record.Record.{Record}
use Rattle.command_words.specs.declared.command.Command.TheVariants.{Check}
use Rattle.star_tool.specs.Seen.{seen, unseen}
use Rattle.star_tool.specs.CheckText.{HasLines, finding_of}
use Rattle.star_tool.proofs.Reasons.{of_error, read_reason}
use Rattle.star_tool.proofs.CheckLemmas.{check_made}
use Rattle.star_tool.proofs.StreamLemmas.{stream_refused}
use Rattle.star_tool.proofs.verbs.check.check_output.Goals as goal

pub returns-in_err-feed-clause-reason : goal.returns-in_err-feed-clause-reason
returns-in_err-feed-clause-reason g c =
    of_error _ _ _ c.from_residual.ensures.1
    (read_reason Check _ unseen c.in_err-feed.field-0.0 refl (λ is. c.in_err-feed.ensures.read (ap (λ e. Err e) is))
    (λ is. stream_refused (seen g.S.Source.left g.S.Source.faults c.args.input.now c.feed.new.input)
    (c.in_err-feed.ensures.too_many (ap (λ e. Err e) is))))

pub returns-clause-output : goal.returns-clause-output
returns-clause-output g c = λ coins.
    let lines = c.feed.new.taker in
    check_made (λ (records : List Record). HasLines (map finding_of records) lines.good lines.refused (string_bytes lines.text))
    (seen g.S.Source.left g.S.Source.faults c.args.input.now c.feed.new.input) coins c.in_ok-text.text.items
    (λ bytes told. let all = c.in_ok-feed.ensures.records bytes told in (all.0 0 [] c.new-lines.ensures.lines, all.1, all.2))
    c.in_ok-text.ensures
