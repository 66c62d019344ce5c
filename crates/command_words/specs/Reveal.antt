-- The command of the verb `reveal`.
use Rattle.std.specs.Prelude.{◌-◌, ◌^◌, ℕ, List, [], ◌∷◌, codes, Option, option_and_then, option_map}
use Rattle.command_words.specs.Numbers.{number_in}
use Rattle.command_words.specs.Options.{Text, Pair, value_of}
use Rattle.command_words.specs.Workers.{workers_of}
use Rattle.command_words.specs.declared.command.Command.{Command}
use Rattle.command_words.specs.declared.command.Command.TheVariants.{Reveal}

-- the options of `reveal`
abbrev pub reveal_names : List Text
reveal_names = codes "epoch" ∷ codes "workers" ∷ []

-- `reveal` of what was read, where both are there
abbrev pub reveal_by : Option ℕ → Option ℕ → Option Command
reveal_by epoch workers = option_and_then (λ e. option_map (λ w. Reveal e w) workers) epoch

-- `reveal` by its options
abbrev pub reveal_of : List Pair → Option Command
reveal_of options = reveal_by (option_and_then (number_in 0 (2 ^ 32 - 1)) (value_of options (codes "epoch"))) (workers_of options)
