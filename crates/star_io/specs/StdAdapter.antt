-- What is seen of a source or a sink over another object.
use Rattle.std.specs.Prelude.{ℕ, List, Option}

-- the bytes that the other object tells, and the count of its faults
pub record StdAdapter : Type 0 where
  pub tells : Option (List ℕ)
  pub faults : ℕ
