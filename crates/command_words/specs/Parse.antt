-- How `clap` reads the options of a verb: the command that it is given, the words that may reach it, and what it finds.
use Rattle.std.specs.Prelude.{◌||◌, Bool, true, List, [], ◌∷◌, Some, map, is_some}
use Rattle.clap.specs.Lexer.{long_of}
use Rattle.clap.specs.Words.{App, Rule, new_rule, rows_of}
use Rattle.clap.specs.Simple.{new_shape}
use Rattle.clap.specs.declared.parser.matches.Found.{Found}
use Rattle.command_words.specs.Options.{Text, Pair, is_value}

-- an option `--name` that takes one text
abbrev pub option_rule : Text → Rule
option_rule name = record (new_rule name) { long = Some name }

-- the command of a verb with options of these names, for the words after the verb: it has no help and no version
abbrev pub verb_app : Text → List Text → App
verb_app verb names = record {
  top = record (new_shape verb) {
    rules = map option_rule names;
    no_binary_name = true;
    disable_help_flag = true;
  };
  subs = [];
}

-- the word is a value, `--name` or `--name=value`
abbrev pub is_option_word : Text → Bool
is_option_word word = is_value word || is_some (long_of word)

-- the first of an option's values
abbrev pub first_text : List Text → Text
first_text [] = []
first_text (text ∷ texts) = text

-- the options that a parse found, each with its value
abbrev pub pairs_in : Found → List Pair
pairs_in found = map (λ row. (row.id, first_text row.values)) (rows_of found)
