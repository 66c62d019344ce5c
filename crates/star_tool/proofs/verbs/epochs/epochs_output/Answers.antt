use Rattle.std.proofs.Common.{[], ap, refl, Err}
use Rattle.epoch_walk.specs.Standing.{StandsFor}
use Rattle.command_words.specs.declared.command.Command.TheVariants.{Epochs}
use Rattle.star_tool.specs.Seen.{seen, unseen}
use Rattle.star_tool.proofs.Reasons.{of_error, read_reason}
use Rattle.star_tool.proofs.EpochsLemmas.{epochs_made}
use Rattle.star_tool.proofs.StreamLemmas.{stream_refused}
use Rattle.star_tool.proofs.verbs.epochs.epochs_output.Goals as goal

pub returns-in_err-feed-clause-reason : goal.returns-in_err-feed-clause-reason
returns-in_err-feed-clause-reason g c =
    of_error _ _ _ c.from_residual.ensures.1
    (read_reason (Epochs c.args.workers) _ unseen c.in_err-feed.field-0.0 refl (λ is. c.in_err-feed.ensures.read (ap (λ e. Err e) is))
    (λ is. stream_refused (seen g.S.Source.left g.S.Source.faults c.args.input.now c.feed.new.input)
    (c.in_err-feed.ensures.too_many (ap (λ e. Err e) is))))

pub returns-clause-output : goal.returns-clause-output
returns-clause-output g c = λ coins.
    epochs_made (StandsFor c.feed.new.taker) c.args.workers (seen g.S.Source.left g.S.Source.faults c.args.input.now c.feed.new.input) coins
    c.in_ok-told.told c.in_ok-text.text.items
    (λ bytes told. let all = c.in_ok-feed.ensures.records bytes told in (all.0 0 [] c.new-walk.ensures.stands, all.1, all.2))
    c.in_ok-told.ensures c.in_ok-text.ensures
