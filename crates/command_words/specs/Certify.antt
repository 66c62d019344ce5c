-- The command of the verb `certify`.
use Rattle.std.specs.Prelude.{◌-◌, ◌^◌, List, [], ◌∷◌, codes, Option, option_and_then, option_map}
use Rattle.command_words.specs.Numbers.{number_in}
use Rattle.command_words.specs.Options.{Text, Pair, value_of}
use Rattle.command_words.specs.declared.command.Command.{Command}
use Rattle.command_words.specs.declared.command.Command.TheVariants.{Certify}

-- the options of `certify`
abbrev pub certify_names : List Text
certify_names = codes "epoch" ∷ []

-- `certify` by its options
abbrev pub certify_of : List Pair → Option Command
certify_of options = option_map (λ e. Certify e) (option_and_then (number_in 0 (2 ^ 32 - 1)) (value_of options (codes "epoch")))
