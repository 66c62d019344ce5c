use Rattle.std.proofs.Common.{◌≡◌, ◌∙◌, [], ap, sym}
use Rattle.std.proofs.lemmas.List.{nil_from_length}
use Rattle.command_words.specs.Options.{texts_of}
use Rattle.command_words.specs.Words.{command_of}
use Rattle.command_words.proofs.CommandLemmas.{command_of-none}
use Rattle.command_words.proofs.command.words_of.Goals as goal

pub returns-clause-usage : goal.returns-clause-usage
returns-clause-usage c = λ usage.
    let none : c.args.words.now ≡ [] =
    sym c.in_ok-texts.ensures ∙ ap texts_of (sym c.deref.ensures.value ∙ nil_from_length c.deref.result.now c.in-None.ensures.cases) in
    ap command_of none ∙ command_of-none
