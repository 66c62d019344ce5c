use Rattle.std.proofs.Common.{◌≡◌, ◌⊎◌, subst, sym}
use Rattle.command_words.specs.declared.command.Command.{Command}
use Rattle.std.specs.Prelude.{IfErr}
use Rattle.std.proofs.lemmas.Result.{IfErr-weaker}
use Rattle.command_words.specs.declared.command.Command.TheVariants.{Audit}
use Rattle.star_tool.specs.Run.{Draws, Reason, ending}
use Rattle.star_tool.specs.Seen.{seen, unseen}
use Rattle.star_tool.proofs.Reasons.{audit_reason}
use Rattle.star_tool.proofs.run.answer_of.Goals as goal

pub returns-in-Make-clause-coins : goal.returns-in-Make-clause-coins
returns-in-Make-clause-coins g c =
    let input = seen g.S.Source.left g.S.Source.faults c.args.input.now c.make_output.new.input in
    let coins = seen g.C.Source.left g.C.Source.faults c.args.coins.now c.make_output.new.coins in
    subst (λ (command : Command). (c.make_output.new.coins ≡ c.args.coins.now) ⊎ Draws command input coins (ending c.make_output.result)) (sym c.in-Make.is) c.make_output.ensures.coins

pub returns-in-Expect-clause-reason : goal.returns-in-Expect-clause-reason
returns-in-Expect-clause-reason g c =
    let input = seen g.S.Source.left g.S.Source.faults c.args.input.now c.expect_output.new.input in
    let coins = seen g.C.Source.left g.C.Source.faults c.args.coins.now c.args.coins.now in
    subst (λ (command : Command). IfErr c.expect_output.result (Reason command input coins)) (sym c.in-Expect.is) (c.expect_output.ensures.reason coins)

pub returns-in-Audit-clause-reason : goal.returns-in-Audit-clause-reason
returns-in-Audit-clause-reason g c =
    let input = seen g.S.Source.left g.S.Source.faults c.args.input.now c.audit_output.new.input in
    let coins = seen g.C.Source.left g.C.Source.faults c.args.coins.now c.args.coins.now in
    subst (λ (command : Command). IfErr c.audit_output.result (Reason command input coins)) (sym c.in-Audit.is)
    (IfErr-weaker c.audit_output.result (Reason Audit input unseen) (Reason Audit input coins) (audit_reason input coins) c.audit_output.ensures.reason)
