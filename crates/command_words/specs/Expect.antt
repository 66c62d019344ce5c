-- The command of the verb `expect`.
use Rattle.std.specs.Prelude.{◌-◌, ◌^◌, ℕ, List, [], ◌∷◌, codes, Option, option_and_then, option_map}
use Rattle.command_words.specs.Numbers.{number_in}
use Rattle.command_words.specs.Options.{Text, Pair, value_of}
use Rattle.command_words.specs.Seed.{seed_of}
use Rattle.command_words.specs.Thresholds.{thresholds_of}
use Rattle.report_frame.specs.declared.version.Version.TheVariants.{One}
use Rattle.command_words.specs.declared.command.Command.{Command}
use Rattle.command_words.specs.declared.command.Command.TheVariants.{Expect}

-- the options of `expect`
abbrev pub expect_names : List Text
expect_names = codes "epoch" ∷ codes "thresholds" ∷ codes "seed" ∷ []

-- `expect` of what was read, where all are there
abbrev pub expect_by : Option ℕ → Option (List ℕ) → Option (List ℕ) → Option Command
expect_by epoch thresholds seed = option_and_then (λ e. option_and_then (λ t. option_map (λ s. Expect e t s) seed) thresholds) epoch

-- `expect` by its options
abbrev pub expect_of : List Pair → Option Command
expect_of options = expect_by
    (option_and_then (number_in 0 (2 ^ 32 - 1)) (value_of options (codes "epoch")))
    (option_and_then (thresholds_of One) (value_of options (codes "thresholds")))
    (option_and_then seed_of (value_of options (codes "seed")))
