-- The rows of a table by the values with which they begin.
use Rattle.std.specs.Prelude.{◌≡◌, ◌<◌, ℕ, Bool, ◌==◌, List, length, map, count_by, slice_index, unwrap_or}
use Rattle.star_lists.specs.Places.{place_of}
use Rattle.table_law.specs.Prefixes.{Values, same_front, is_open}

-- the place of the first row that begins with the row's first n values
abbrev pub first_of : List Values → ℕ → Values → ℕ
first_of table n row = unwrap_or (place_of (same_front n row) table) 0

-- the same for each row
unfoldable pub firsts_of : List Values → ℕ → List ℕ
firsts_of table n = map (first_of table n) table

-- for each row, whether its first n values are open
unfoldable pub opens_of : List Values → List ℕ → ℕ → List Bool
opens_of table ks n = map (is_open table ks n) table

-- for each number below as many as there are, how often it is one of them
pub record AreCounts (numbers counts : List ℕ) : Type 0 where
  pub long : length counts ≡ length numbers
  pub each : (j : ℕ) → j < length numbers → slice_index counts j ≡ count_by (λ n. n == j) numbers
