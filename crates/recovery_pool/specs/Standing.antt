-- What always holds of the ticket word and of the views of all passes.
use Rattle.std.specs.Prelude.{◌≡◌, ◌==◌, ℕ, ◌+◌, ◌≤◌, Bool, true, false, ◌&&◌, if◌then◌else◌, List, [], ◌∷◌, length}
use Rattle.std.specs.Bool.{nat_lt}
use mathlib.Core.Option.{some}
use lib.ListN.{get_elem?}
use Rattle.recovery_pool.specs.declared.pass_view.PassView.{PassView}

-- 1 where the test holds, else 0
abbrev pub one_if : Bool → ℕ
one_if b = if b then 1 else 0

-- how often t stands in the list
abbrev pub times : ℕ → List ℕ → ℕ
times t [] = 0
times t (x ∷ xs) = one_if (x == t) + times t xs

-- each number below `jobs` stands in the list exactly once, and no other number does
abbrev pub HasEachOnce : ℕ → List ℕ → Type 0
HasEachOnce jobs numbers = (t : ℕ) → times t numbers ≡ one_if (nat_lt t jobs)

-- f of each view, added up
abbrev pub total : (PassView → ℕ) → List PassView → ℕ
total f [] = 0
total f (v ∷ vs) = f v + total f vs

-- what holds of one view. One with no share is the view that a join leaves behind
pub record Fits (word jobs : ℕ) (v : PassView) : Type 0 where
  pub few_nones : v.nones ≤ v.share
  pub no_nones : v.spent ≡ false → v.nones ≡ 0
  pub all_drawn : 1 ≤ v.share → v.spent ≡ true → jobs ≤ word
  pub left_behind : v.share ≡ 0 → (v.drawn ≡ []) × (v.nones ≡ 0)
  pub told : 1 ≤ v.share → v.jobs ≡ jobs

-- a number below both the word and `jobs` stands once in all drawn lists together, and every other number in none. The word counts the numbers drawn and the Nones, and the shares add up to `workers`
pub record TicketsStand (word : ℕ) (views : List PassView) (jobs workers : ℕ) : Type 0 where
  pub once : (t : ℕ) → total (λ v. times t v.drawn) views ≡ one_if (nat_lt t word && nat_lt t jobs)
  pub counted : word ≡ total (λ v. length v.drawn) views + total (λ v. v.nones) views
  pub shares : total (λ v. v.share) views ≡ workers
  pub each : (k : ℕ) (v : PassView) → get_elem? views k ≡ some v → Fits word jobs v
