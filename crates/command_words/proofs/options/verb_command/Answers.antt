use Rattle.std.proofs.Common.{◌≡◌, ◌∙◌, [], Bor, ap₂, arith, get_or, rules}
use Rattle.clap.specs.Words.{rule_of, with_rule}
use Rattle.command_words.specs.Parse.{option_rule}
use Rattle.command_words.specs.Options.{Text}
use Rattle.command_words.proofs.VerbRules.{verb_app-more}
use Rattle.command_words.proofs.options.verb_command.Goals as goal

pub loop-name-preserved : goal.loop-name-preserved
loop-name-preserved c =
    let none : Bor Text = record { ref_ptr = (0, 0); now = [] } in
    let rule : rule_of c.long.result ≡ option_rule (get_or c.args.names.now c.loop-name.name-index none).now = search rules in
    c.in_ok-command.ensures.shape (search rules) ∙ ap₂ with_rule c.loop-name.invariant rule
    ∙ verb_app-more c.args.verb.now c.args.names.now c.loop-name.name-index none (omega arith)
