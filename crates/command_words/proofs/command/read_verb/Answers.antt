use Rattle.std.proofs.Common.{◌∙◌, sym}
use Rattle.std.proofs.lemmas.Result.{IfOk-weaker}
use Rattle.command_words.specs.Options.{texts_of}
use Rattle.command_words.proofs.CommandLemmas.{command_of-verb, command_of-other}
use Rattle.command_words.proofs.command.read_verb.Goals as goal

pub returns-in-Some-clause-command : goal.returns-in-Some-clause-command
returns-in-Some-clause-command c =
    let whole = command_of-verb c.args.word.now (texts_of c.args.words.now) c.in-Some.verb (sym c.of.ensures ∙ c.in-Some.is) in
    IfOk-weaker c.read_options.result _ _ (λ command is. whole ∙ is) c.read_options.ensures.command

pub returns-in-Some-clause-usage : goal.returns-in-Some-clause-usage
returns-in-Some-clause-usage c = λ usage.
    command_of-verb c.args.word.now (texts_of c.args.words.now) c.in-Some.verb (sym c.of.ensures ∙ c.in-Some.is) ∙ c.read_options.ensures.usage usage

pub returns-in-None-clause-usage : goal.returns-in-None-clause-usage
returns-in-None-clause-usage c = λ usage. command_of-other c.args.word.now (texts_of c.args.words.now) (sym c.of.ensures ∙ c.in-None.is)
