-- What is seen of a source over a file.
use Rattle.std.specs.Prelude.{ℕ, List, Bool, Option, None, Some}
use Rattle.star_io.specs.StdAdapter.{StdAdapter}

-- the path of the file, whether it is open, the bytes left, where they are told, and the count of faults
pub record FileState : Type 0 where
  pub path : List ℕ
  pub is_open : Bool
  pub left : Option (List ℕ)
  pub faults : ℕ

-- those that are told of the path, and once the file is open those that it tells
abbrev pub left_of : (at_path : Option (List ℕ)) → (file : Option StdAdapter) → Option (List ℕ)
left_of at_path None = at_path
left_of at_path (Some file) = file.tells
