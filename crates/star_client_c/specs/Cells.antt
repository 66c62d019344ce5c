-- A row of values in one list of bytes, as a caller in C hands it in.
use Rattle.std.specs.Prelude.{ℕ, ◌≡◌, ◌≤◌, List, ◌∷◌, length, All}
use Rattle.std.specs.List.{flat_map}
use Rattle.report_frame.specs.declared.limits.TheConstants.{MAX_VALUE}

-- a value after the byte with its length
abbrev pub cell : List ℕ → List ℕ
cell value = length value ∷ value

-- the cells of the values, one after the other
abbrev pub cells_of : List (List ℕ) → List ℕ
cells_of row = flat_map cell row

-- bytes that are a value
abbrev pub IsValue : List ℕ → Type 0
IsValue v = (1 ≤ length v) × (length v ≤ MAX_VALUE)

-- the row has these cells, and a value for each of so many layers
pub record IsRow (row : List (List ℕ)) (cells : List ℕ) (layers : ℕ) : Type 0 where
  pub spelled : cells_of row ≡ cells
  pub width : length row ≡ layers
  pub values : All IsValue row

-- some row has
abbrev pub HasRow : List ℕ → ℕ → Type 0
HasRow cells layers = (row : List (List ℕ)) × IsRow row cells layers
