-- A source over memory.
use Rattle.std.specs.Prelude.{◌≡◌, ℕ, zero, suc, ◌+◌, ◌-◌, ◌^◌, min, max, nat_lt, ◌==◌, ◌&&◌, ◌↔◌, if◌then◌else◌, Bool, IsTrue, List, length, slice_index_or, Result, IsErr, IfOk}
use Rattle.std.specs.List.{list_any}
use Rattle.star_io.specs.Faults.{count_after}

-- the bytes left, where takes are cut, the calls that fail, and the number of calls so far
pub record SourceState : Type 0 where
  pub left : List ℕ
  pub cuts : List ℕ
  pub fails : List ℕ
  pub calls : ℕ

-- call c is one that fails
abbrev pub fails_at : List ℕ → ℕ → Bool
fails_at fails c = nat_lt c (2 ^ 64 - 1) && list_any (λ f. f == c) fails

-- how many of the first calls fail
unfoldable pub faults_of : List ℕ → ℕ → ℕ
faults_of fails zero = 0
faults_of fails (suc c) = faults_of fails c + (if fails_at fails c then 1 else 0)

-- how many bytes a call gives that doesn't fail
abbrev pub given : SourceState → ℕ → ℕ
given state room = min (min (max 1 (slice_index_or state.cuts state.calls room)) room) (length state.left)

-- one take, beside what every source does
pub record TakesFromMemory {E : Type 0} (old new : SourceState) (room : ℕ) (result : Result ℕ E) : Type 0 where
  pub fails : IsErr result ↔ IsTrue (fails_at old.fails old.calls)
  pub count : IfOk result (λ n. n ≡ given old room)
  pub calls : new.calls ≡ count_after old.calls
  pub same_cuts : new.cuts ≡ old.cuts
  pub same_fails : new.fails ≡ old.fails
