-- Counting the calls that fail.
use Rattle.std.proofs.Common.{◌≡◌, ℕ, ◌+◌, ◌-◌, ◌^◌, ◌<◌, ◌≤◌, Bool, true, cond, List, refl, ap, ◌∙◌, arith, inl, inr, add-one}
use Rattle.std.proofs.lemmas.Bool.{cases_lt, ltb-true}
use Rattle.star_io.specs.Faults.{count_after, Rose}
use Rattle.star_io.specs.MemorySource.{fails_at, faults_of}

-- the count after one more call
one_more : (fails : List ℕ) (c : ℕ) → faults_of fails (c + 1) ≡ faults_of fails c + cond (fails_at fails c) 1 0
unfolding faults_of
one_more fails c = rw add-one refl

-- the count never falls
pub no_fewer : (fails : List ℕ) (c d : ℕ) → c < 2 ^ 64 → d ≡ count_after c → faults_of fails c ≤ faults_of fails d
no_fewer fails c d fits e =
    elim (cases_lt c (2 ^ 64 - 1)) [
      | inl lt ↦
          let n : d ≡ c + 1 = omega arith in
          rw n (omega (arith, one_more fails c))
      | inr le ↦
          let n : d ≡ c = omega arith in
          rw n (omega arith)
    ]

-- at the end of the count of calls none fails
below_end : (fails : List ℕ) (c : ℕ) → fails_at fails c ≡ true → c < 2 ^ 64 - 1
below_end fails c h = grind (arith, ltb-true)

-- a call that fails raises the count
pub rose : (fails : List ℕ) (c d : ℕ) → fails_at fails c ≡ true → d ≡ count_after c → Rose (faults_of fails c) (faults_of fails d)
rose fails c d h e =
    let lt = below_end fails c h in
    let n : d ≡ c + 1 = omega arith in
    rw n (omega (arith, one_more fails c ∙ ap (λ (b : Bool). faults_of fails c + cond b 1 0) h))
