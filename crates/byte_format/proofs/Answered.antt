-- A reading that answers exactly what holds of its bytes: something good, or a fault, and never both.
use Rattle.std.proofs.Common.{◌≡◌, Result, Ok, Err, subst}
use Rattle.std.specs.Prelude.{◌↔◌}

-- what is answered holds
pub data Answered {A E : Type 0} (Good : A → Type 0) (Bad : E → Type 0) (answer : Result A E) : Type 0 where
  Found : (a : A) → Good a → answer ≡ Ok a → Answered Good Bad answer
  Failed : (e : E) → Bad e → answer ≡ Err e → Answered Good Bad answer

module _ {A E : Type 0} (Good : A → Type 0) (Bad : E → Type 0) (answer : Result A E) (answered : Answered Good Bad answer) where
  -- where what is good is answered, it is answered exactly there
  pub good_exactly : ((a : A) → Good a → answer ≡ Ok a) → (a : A) → (answer ≡ Ok a) ↔ Good a
  good_exactly good a = (
    λ is. elim answered [
      | Found other holds is_other ↦ let same : other ≡ a = cc in subst Good same holds
      | Failed e holds is_e ↦ absurd cc
    ],
    good a,
  )

  -- and a fault, where that is
  pub bad_exactly : ((e : E) → Bad e → answer ≡ Err e) → (e : E) → (answer ≡ Err e) ↔ Bad e
  bad_exactly bad e = (
    λ is. elim answered [
      | Found a holds is_a ↦ absurd cc
      | Failed other holds is_other ↦ let same : other ≡ e = cc in subst Bad same holds
    ],
    bad e,
  )
