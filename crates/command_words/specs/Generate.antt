-- The command of the verb `gen`.
use Rattle.std.specs.Prelude.{◌-◌, ◌^◌, ℕ, ◌≤◌, List, [], ◌∷◌, codes, Option, option_and_then, option_map}
use Rattle.command_words.specs.Numbers.{number_in}
use Rattle.command_words.specs.Options.{Text, Pair, value_of}
use Rattle.command_words.specs.Workers.{workers_of}
use Rattle.command_words.specs.declared.generate.TheConstants.{MAX_REPORTS, MAX_LIARS}
use Rattle.command_words.specs.declared.command.Command.{Command}
use Rattle.command_words.specs.declared.command.Command.TheVariants.{Gen}

-- the options of `gen`
abbrev pub gen_names : List Text
gen_names = codes "number" ∷ codes "reports" ∷ codes "liars" ∷ codes "workers" ∷ []

-- `gen` of what was read, where all are there
abbrev pub gen_by : (number reports liars workers : Option ℕ) → Option Command
gen_by number reports liars workers =
    option_and_then (λ n. option_and_then (λ r. option_and_then (λ l. option_map (λ w. Gen n r l w) workers) liars) reports) number

-- the number of an option
abbrev pub number_of : List Pair → Text → (low high : ℕ) → Option ℕ
number_of options name low high = option_and_then (number_in low high) (value_of options name)

-- `gen` by its options
abbrev pub gen_of : List Pair → Option Command
gen_of options = gen_by
    (number_of options (codes "number") 0 (2 ^ 32 - 1))
    (number_of options (codes "reports") 1 MAX_REPORTS)
    (number_of options (codes "liars") 0 MAX_LIARS)
    (workers_of options)

-- so many reports with so many liars in a hundred may be made
pub record IsTrial (reports liars : ℕ) : Type 0 where
  pub some : 1 ≤ reports
  pub few : reports ≤ MAX_REPORTS
  pub part : liars ≤ MAX_LIARS
