-- The command of the verb `epochs`.
use Rattle.std.specs.Prelude.{List, [], ◌∷◌, codes, Option, option_map}
use Rattle.command_words.specs.Options.{Text, Pair}
use Rattle.command_words.specs.Workers.{workers_of}
use Rattle.command_words.specs.declared.command.Command.{Command}
use Rattle.command_words.specs.declared.command.Command.TheVariants.{Epochs}

-- the options of `epochs`
abbrev pub epochs_names : List Text
epochs_names = codes "workers" ∷ []

-- `epochs` by its options
abbrev pub epochs_of : List Pair → Option Command
epochs_of options = option_map (λ w. Epochs w) (workers_of options)
