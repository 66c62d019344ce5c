-- Counts of calls and of faults. A count never falls, and stands still at 2^64 - 1.
use Rattle.std.specs.Prelude.{◌≡◌, ℕ, ◌+◌, ◌-◌, ◌^◌, ◌≤◌, min, Result, OnErr, MatchResult}

-- a count after one more
abbrev pub count_after : ℕ → ℕ
count_after count = min (count + 1) (2 ^ 64 - 1)

-- the count rose, or stands at its end
abbrev pub Rose : ℕ → ℕ → Type 0
Rose before now = count_after before ≤ now

-- a call that failed was met by a fault of the object that it was handed
pub record HasCause {T E : Type 0} (before now : ℕ) (result : Result T E) : Type 0 where
  pub later : before ≤ now
  pub failed : OnErr result (Rose before now)

-- the count is one more where the call failed, and else the same
abbrev pub CountsFault : {T E : Type 0} → ℕ → ℕ → Result T E → Type 0
CountsFault before now result = MatchResult result (λ _. now ≡ before) (λ _. now ≡ count_after before)
