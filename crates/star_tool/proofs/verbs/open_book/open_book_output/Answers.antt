use Rattle.std.proofs.Common.{ap, refl, Err}
use Rattle.command_words.specs.declared.command.Command.TheVariants.{OpenBook}
use Rattle.star_tool.specs.Seen.{seen, unseen}
use Rattle.star_tool.proofs.Reasons.{of_error}
use Rattle.star_tool.proofs.BookVerbs.{open_book_made, merge_reason}
use Rattle.star_tool.proofs.verbs.open_book.open_book_output.Goals as goal

pub returns-in_err-sum-clause-reason : goal.returns-in_err-sum-clause-reason
returns-in_err-sum-clause-reason g c =
    of_error _ _ _ c.from_residual.ensures.1
    (merge_reason (OpenBook c.args.epoch c.args.workers) c.args.epoch (seen g.S.Source.left g.S.Source.faults c.args.input.now c.read_sum.new.input) unseen c.in_err-sum.field-0.0 refl (λ status why. why)
    c.in_err-sum.ensures.fault (λ is. c.in_err-sum.ensures.read (ap (λ e. Err e) is)))

pub returns-clause-output : goal.returns-clause-output
returns-clause-output g c = λ coins.
    open_book_made c.args.epoch c.args.workers (seen g.S.Source.left g.S.Source.faults c.args.input.now c.read_sum.new.input) coins c.in_ok-sum.sum c.in_ok-walk.walk c.in_ok-revealed.revealed c.in_ok-text.text.items
    c.in_ok-sum.ensures.sum c.in_ok-sum.ensures.epoch c.in_ok-walk.ensures.epoch c.in_ok-walk.ensures.records c.in_ok-revealed.ensures c.in_ok-text.ensures
