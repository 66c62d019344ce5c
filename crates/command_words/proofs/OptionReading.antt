-- The options of words, read a word at a time: an option that was named may still want its value.
use Rattle.std.specs.Prelude.{Bool, not, List, [], ◌∷◌, ◌++◌, Option, Some, None, is_some, if◌then◌else◌}
use Rattle.std.specs.List.{list_any}
use Rattle.std.specs.Str.{bytes_eq}
use Rattle.clap.specs.Lexer.{long_of}
use Rattle.command_words.specs.Options.{Text, Pair, is_among}

-- the word is no `--name` and no `--name=value`
abbrev pub is_other : Text → Bool
is_other word = not (is_some (long_of word))

-- the name was given a value
abbrev pub is_given : List Pair → Text → Bool
is_given given name = list_any (λ pair. bytes_eq pair.0 name) given

-- an option with its value, where it was not given before
abbrev pub with_option : List Pair → Text → Text → (List Pair → Option (List Pair)) → Option (List Pair)
with_option given name value next = if is_given given name then None else next (given ++ (name, value) ∷ [])

-- an option with the value in its own word, or with none there
abbrev pub named_option : List Pair → Text → Option Text → (List Pair → Option (List Pair)) → Option (List Pair) → Option (List Pair)
named_option given name (Some value) next waits = with_option given name value next
named_option given name None next waits = waits

-- a word where an option is due
abbrev pub option_word : List Text → List Pair → Option (Text × Option Text) → (List Pair → Option (List Pair)) → (Text → Option (List Pair)) → Option (List Pair)
option_word names given None next waits = None
option_word names given (Some p) next waits = if is_among names p.0 then named_option given p.0 p.1 next (waits p.0) else None

-- the options that the words give after those given before, where the option `due` still wants its value
unfoldable pub options_from : List Text → List Pair → Option Text → List Text → Option (List Pair)
options_from names given None [] = Some given
options_from names given (Some name) [] = None
options_from names given None (word ∷ words) =
    option_word names given (long_of word) (λ now. options_from names now None words) (λ name. options_from names given (Some name) words)
options_from names given (Some name) (word ∷ words) =
    if is_other word then with_option given name word (λ now. options_from names now None words) else None
