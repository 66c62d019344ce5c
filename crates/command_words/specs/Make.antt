-- The command of the verb `make`.
use Rattle.std.specs.Prelude.{◌-◌, ◌^◌, ℕ, List, [], ◌∷◌, codes, Option, Some, None, option_and_then, option_map}
use Rattle.std.specs.Option.{option_map_or}
use Rattle.command_words.specs.Numbers.{number_in}
use Rattle.command_words.specs.Options.{Text, Pair, value_of}
use Rattle.command_words.specs.Seed.{seed_of}
use Rattle.command_words.specs.Thresholds.{thresholds_of}
use Rattle.command_words.specs.Version.{version_in}
use Rattle.report_frame.specs.declared.version.Version.{Version}
use Rattle.report_frame.specs.declared.version.Version.TheVariants.{One}
use Rattle.command_words.specs.declared.command.Command.{Command}
use Rattle.command_words.specs.declared.command.Command.TheVariants.{Make}

-- the options of `make`
abbrev pub make_names : List Text
make_names = codes "epoch" ∷ codes "version" ∷ codes "thresholds" ∷ codes "seed" ∷ []

-- `make` of what was read, where the epoch and the thresholds are there and the seed is none or good
abbrev pub make_by : Version → Option ℕ → Option (List ℕ) → Option (Option (List ℕ)) → Option Command
make_by version epoch thresholds seed =
    option_and_then (λ e. option_and_then (λ t. option_map (λ s. Make e version t s) seed) thresholds) epoch

-- the version of the options, which is the first where none is given
abbrev pub version_of : List Pair → Option Version
version_of options = option_map_or version_in (value_of options (codes "version")) (Some One)

-- `make` by its options
abbrev pub make_of : List Pair → Option Command
make_of options = option_and_then (λ version. make_by version
    (option_and_then (number_in 0 (2 ^ 32 - 1)) (value_of options (codes "epoch")))
    (option_and_then (thresholds_of version) (value_of options (codes "thresholds")))
    (option_map_or (λ text. option_map Some (seed_of text)) (value_of options (codes "seed")) (Some None))) (version_of options)
