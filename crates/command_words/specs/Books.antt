-- The commands of the verbs `book`, `merge` and `openbook`.
use Rattle.std.specs.Prelude.{◌-◌, ◌^◌, ℕ, List, [], ◌∷◌, codes, Option, option_and_then, option_map}
use Rattle.command_words.specs.Numbers.{number_in}
use Rattle.command_words.specs.Options.{Text, Pair, value_of}
use Rattle.command_words.specs.Workers.{workers_of}
use Rattle.command_words.specs.declared.command.Command.{Command}
use Rattle.command_words.specs.declared.command.Command.TheVariants.{Book, Merge, OpenBook}

-- the options of `book`, and those of `merge`
abbrev pub book_names : List Text
book_names = codes "epoch" ∷ []

-- the options of `openbook`
abbrev pub open_book_names : List Text
open_book_names = codes "epoch" ∷ codes "workers" ∷ []

-- the epoch of the options
abbrev pub epoch_of : List Pair → Option ℕ
epoch_of options = option_and_then (number_in 0 (2 ^ 32 - 1)) (value_of options (codes "epoch"))

-- `book` by its options
abbrev pub book_of : List Pair → Option Command
book_of options = option_map (λ e. Book e) (epoch_of options)

-- `merge` by its options
abbrev pub merge_of : List Pair → Option Command
merge_of options = option_map (λ e. Merge e) (epoch_of options)

-- `openbook` of what was read, where both are there
abbrev pub open_book_by : Option ℕ → Option ℕ → Option Command
open_book_by epoch workers = option_and_then (λ e. option_map (λ w. OpenBook e w) workers) epoch

-- `openbook` by its options
abbrev pub open_book_of : List Pair → Option Command
open_book_of options = open_book_by (epoch_of options) (workers_of options)
