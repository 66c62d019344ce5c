-- What is seen of a source before a call and after it.
use Rattle.std.specs.Prelude.{ℕ, List, Option, None}

-- the bytes left, where it tells them, and its count of faults
pub record Seen : Type 0 where
  pub left : Option (List ℕ)
  pub left_after : Option (List ℕ)
  pub faults : ℕ
  pub faults_after : ℕ

-- what these two words show of a source
abbrev pub seen : {T : Type 0} → (T → Option (List ℕ)) → (T → ℕ) → (old new : T) → Seen
seen left faults old new = record { left = left old; left_after = left new; faults = faults old; faults_after = faults new }

-- nothing is seen
abbrev pub unseen : Seen
unseen = record { left = None; left_after = None; faults = 0; faults_after = 0 }
