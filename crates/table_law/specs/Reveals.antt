-- What a clear table reveals.
use Rattle.std.specs.Prelude.{◌≡◌, ◌≤◌, ℕ, List, [], length, All}
use Rattle.report_frame.specs.declared.limits.TheConstants.{MAX_VALUE}
use Rattle.layer_walk.specs.declared.revealed.OpenedGroup.{OpenedGroup}
use Rattle.layer_walk.specs.declared.revealed.LevelCount.{LevelCount}
use Rattle.layer_walk.specs.declared.revealed.Revealed.{Revealed}
use Rattle.table_law.specs.Prefixes.{Values}

-- a value has 1 to 64 bytes
abbrev pub IsValue : List ℕ → Type 0
IsValue value = (1 ≤ length value) × (length value ≤ MAX_VALUE)

-- the row has a value for each threshold
pub record IsRowOf (ks : List ℕ) (row : Values) : Type 0 where
  pub width : length row ≡ length ks
  pub values : All IsValue row

-- each row has a value for each threshold
abbrev pub IsTableOf : List ℕ → List Values → Type 0
IsTableOf ks table = All (IsRowOf ks) table

-- no group of the level was without a line or had a bad value
abbrev pub IsClean : LevelCount → Type 0
IsClean c = (c.no_line ≡ 0) × (c.bad_value ≡ 0)

-- The reveal has these groups, no refusals, and no group that has no line or a bad value.
pub record RevealsOnly (wanted : List OpenedGroup) (revealed : Revealed) : Type 0 where
  pub groups : revealed.groups ≡ wanted
  pub refusals : revealed.refusals ≡ []
  pub clean : All IsClean revealed.levels
