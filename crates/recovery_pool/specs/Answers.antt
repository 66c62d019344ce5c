-- Which values answer the jobs.
use Rattle.std.specs.Prelude.{◌≡◌, ℕ, ◌<◌, List, length, map, slice_index_or, All}
use Rattle.recovery_pool.specs.declared.entry.Entry.{Entry}

-- there is one value for each job, and the i-th answers job i
pub record AnswersEach {X : Type 0} (answers : ℕ → X → Type 0) (count : ℕ) (xs : List X) : Type 0 where
  pub len : length xs ≡ count
  pub each : (i : ℕ) (d : X) → i < count → answers i (slice_index_or xs i d)

-- each job has at most one answer
abbrev pub HaveOneAnswer : {X : Type 0} → (ℕ → X → Type 0) → ℕ → Type 0
HaveOneAnswer {X} answers count = (i : ℕ) (x y : X) → i < count → answers i x → answers i y → x ≡ y

abbrev pub numbers : {X : Type 0} → List (Entry X) → List ℕ
numbers entries = map (λ e. e.number) entries

-- the entries stand in the order in which their numbers were drawn, and each value answers its number
pub record AnswersDrawn {X : Type 0} (answers : ℕ → X → Type 0) (drawn : List ℕ) (entries : List (Entry X)) : Type 0 where
  pub same : numbers entries ≡ drawn
  pub each : All (λ e. answers e.number e.out) entries
