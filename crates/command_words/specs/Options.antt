-- The options of a verb: `--name value` or `--name=value`, in any order, each at most once.
use Rattle.std.specs.Prelude.{◌==◌, ◌&&◌, ℕ, Bool, true, not, List, [], ◌∷◌, map, find, Option, Some, None, is_none, option_map, option_and_then, if◌then◌else◌}
use Rattle.std.specs.Borrow.{Bor}
use Rattle.std.specs.List.{list_all, list_any}
use Rattle.std.specs.Option.{option_or}
use Rattle.std.specs.Str.{bytes_eq}
use Rattle.clap.specs.Lexer.{long_of}

-- the bytes of a word
abbrev pub Text : Type 0
Text = List ℕ

-- the bytes of each word
abbrev pub texts_of : List (Bor Text) → List Text
texts_of = map (λ word. word.now)

-- an option's name and its value
abbrev pub Pair : Type 0
Pair = Text × Text

-- the word may follow a name as its value: it doesn't begin with a hyphen, which is 45
abbrev pub is_value : Text → Bool
is_value [] = true
is_value (byte ∷ bytes) = not (byte == 45)

-- the option of one word, `--name=value`
abbrev pub joined_option : Text → Option Pair
joined_option word = option_and_then (λ (name, value). option_map (λ text. (name, text)) value) (long_of word)

-- the option of two words, `--name value`
abbrev pub parted_option : Text → Text → Option Pair
parted_option word next =
    option_and_then (λ (name, value). if is_none value && is_value next then Some (name, next) else None) (long_of word)

-- an option, and others after it
abbrev pub ahead_of : Option (List Pair) → Option Pair → Option (List Pair)
ahead_of others = option_and_then (λ pair. option_map (λ pairs. pair ∷ pairs) others)

-- the options that words spell, in order
unfoldable pub pairs_of : List Text → Option (List Pair)
pairs_of [] = Some []
pairs_of (word ∷ []) = ahead_of (Some []) (joined_option word)
pairs_of (word ∷ next ∷ words) =
    option_or (ahead_of (pairs_of (next ∷ words)) (joined_option word)) (ahead_of (pairs_of words) (parted_option word next))

-- the name is one of these
abbrev pub is_among : List Text → Text → Bool
is_among names name = list_any (λ other. bytes_eq other name) names

-- no name stands twice
abbrev pub are_distinct : List Text → Bool
are_distinct [] = true
are_distinct (name ∷ names) = not (is_among names name) && are_distinct names

-- each option has one of these names, and none is given twice
abbrev pub are_options : List Text → List Pair → Bool
are_options names pairs = list_all (λ pair. is_among names pair.0) pairs && are_distinct (map (λ pair. pair.0) pairs)

-- the options of a verb that has these names, in the words after the verb
unfoldable pub options_of : List Text → List Text → Option (List Pair)
options_of names words = option_and_then (λ pairs. if are_options names pairs then Some pairs else None) (pairs_of words)

-- the value that an option was given
abbrev pub value_of : List Pair → Text → Option Text
value_of pairs name = option_map (λ pair. pair.1) (find (λ pair. bytes_eq pair.0 name) pairs)
