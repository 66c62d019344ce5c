use Rattle.std.proofs.Common.{◌∙◌, List, Some, ap, sym}
use Rattle.clap.specs.Words.{app_of, found_of, rows_of}
use Rattle.command_words.specs.Options.{Pair, texts_of}
use Rattle.command_words.proofs.OptionPairs.{options_of-bad}
use Rattle.command_words.proofs.ParseLemmas.{found-pairs, found-value, options-parsed, options-refused, texts-tested}
use Rattle.command_words.proofs.options.Options.read.Goals as goal

pub returns-then-not-are_option_words-clause-usage : goal.returns-then-not-are_option_words-clause-usage
returns-then-not-are_option_words-clause-usage c = λ usage.
    let bad = texts-tested c.args.words.now c.are_option_words.result c.are_option_words.ensures ∙ c.if-not-are_option_words.true in
    options_of-bad (texts_of c.args.names.now) (texts_of c.args.words.now) bad

pub invariant_of-result : goal.invariant_of-result
invariant_of-result c = λ name.
    let plain = texts-tested c.args.words.now c.are_option_words.result c.are_option_words.ensures ∙ c.if-not-are_option_words.false in
    let parsed = options-parsed c.args.verb.now (texts_of c.args.names.now) (texts_of c.args.words.now) plain (app_of c.in_ok-command.command) (rows_of (found_of c.in-Ok.matches))
    c.in_ok-command.ensures (λ simple. (c.in-Ok.ensures.matches simple).0) c.in-Ok.ensures.kinds in
    found-value (found_of c.in-Ok.matches) parsed.0 name parsed.1

pub returns-in-Ok-clause-options : goal.returns-in-Ok-clause-options
returns-in-Ok-clause-options c =
    let plain = texts-tested c.args.words.now c.are_option_words.result c.are_option_words.ensures ∙ c.if-not-are_option_words.false in
    let parsed = options-parsed c.args.verb.now (texts_of c.args.names.now) (texts_of c.args.words.now) plain (app_of c.in_ok-command.command) (rows_of (found_of c.in-Ok.matches))
    c.in_ok-command.ensures (λ simple. (c.in-Ok.ensures.matches simple).0) c.in-Ok.ensures.kinds in
    parsed.2 ∙ ap (λ (given : List Pair). Some given) (sym (found-pairs (found_of c.in-Ok.matches) parsed.0 parsed.1))

pub returns : goal.returns
returns c =
    let plain = texts-tested c.args.words.now c.are_option_words.result c.are_option_words.ensures ∙ c.if-not-are_option_words.false in
    record {
      options = tt;
      usage = λ usage. options-refused c.args.verb.now (texts_of c.args.names.now) (texts_of c.args.words.now) plain (app_of c.in_ok-command.command) c.in-Err.error
          c.in_ok-command.ensures c.in-Err.ensures.kinds (λ memory. c.in_default.not-OutOfMemory (c.kind.ensures ∙ memory));
    }
