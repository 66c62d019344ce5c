-- The prefixes of a table that enough rows begin with.
use Rattle.std.specs.Prelude.{ℕ, zero, suc, Bool, true, ◌&&◌, nat_le, List, [], ◌∷◌, ◌++◌, length, map, filter, get_or, slice_index}
use Rattle.std.specs.Str.{bytes_eq}
use Rattle.report_frame.specs.declared.version.Version.TheVariants.{One}
use Rattle.star_lists.specs.FirstOnes.{first_ones}
use Rattle.star_lists.specs.Ascending.{in_order}
use Rattle.star_lists.specs.Numbered.{joined_below}
use Rattle.layer_walk.specs.declared.path.Step.{Step}
use Rattle.layer_walk.specs.declared.revealed.OpenedGroup.{OpenedGroup}
use Rattle.layer_walk.specs.Reveal.{by_path}

-- the values of a row
abbrev pub Values : Type 0
Values = List (List ℕ)

-- value n of a row
abbrev pub value_at : Values → ℕ → List ℕ
value_at row n = get_or row n []

-- the rows share their first n values
unfoldable pub same_front : ℕ → Values → Values → Bool
same_front zero a b = true
same_front (suc n) a b = same_front n a b && bytes_eq (value_at a n) (value_at b n)

-- how many rows of the table begin with the row's first n values
abbrev pub how_many : List Values → ℕ → Values → ℕ
how_many table n row = length (filter (same_front n row) table)

-- for each i below n at least k_i rows begin with the row's first i + 1 values
unfoldable pub is_open : List Values → List ℕ → ℕ → Values → Bool
is_open table ks zero row = true
is_open table ks (suc n) row = is_open table ks n row && nat_le (slice_index ks n) (how_many table (suc n) row)

-- step n of the path of a row
abbrev pub step_at : List ℕ → ℕ → Values → Step
step_at ks n row = record { value = value_at row n; k = slice_index ks n; version = One }

-- the path of the row's first n values
unfoldable pub path_to : List ℕ → ℕ → Values → List Step
path_to ks zero row = []
path_to ks (suc n) row = path_to ks n row ++ step_at ks n row ∷ []

-- the row's first n values as a group that all of its points open
abbrev pub entry : List Values → List ℕ → ℕ → Values → OpenedGroup
entry table ks n row = record { path = path_to ks n row; points = how_many table n row; agree = how_many table n row; members = how_many table n row }

-- the prefixes of n values, each at the first row that begins with it
unfoldable pub prefixes_of : List Values → List ℕ → ℕ → List OpenedGroup
prefixes_of table ks n = map (entry table ks n) (filter (is_open table ks n) (first_ones (same_front n) table))

-- the prefixes of the table, in order of path
unfoldable pub prefixes : List Values → List ℕ → List OpenedGroup
prefixes table ks = in_order by_path (joined_below (λ l. prefixes_of table ks (suc l)) (length ks))
