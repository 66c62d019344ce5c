-- The number of workers of the command line.
use Rattle.std.specs.Prelude.{ℕ, ◌≤◌, List, codes, Option, Some}
use Rattle.std.specs.Option.{option_map_or}
use Rattle.recovery_pool.specs.declared.limits.TheConstants.{MAX_WORKERS}
use Rattle.command_words.specs.Numbers.{number_in}
use Rattle.command_words.specs.Options.{Pair, value_of}
use Rattle.command_words.specs.declared.workers.TheConstants.{DEFAULT_WORKERS}

-- the number of workers of the options, which is 4 where none is given
abbrev pub workers_of : List Pair → Option ℕ
workers_of options = option_map_or (number_in 1 MAX_WORKERS) (value_of options (codes "workers")) (Some DEFAULT_WORKERS)

-- so many workers may do jobs
abbrev pub AreWorkers : ℕ → Type 0
AreWorkers workers = (1 ≤ workers) × (workers ≤ MAX_WORKERS)
