-- What the laws of the field say.
use Rattle.std.specs.Prelude.{◌≡◌, ℕ, ◌<◌}

-- The numbers below m are a commutative ring with 0 and 1 under these operations.
pub record IsCommutativeRing (m : ℕ) (sum product : ℕ → ℕ → ℕ) (negative : ℕ → ℕ) : Type 0 where
  pub sum_below : (a b : ℕ) → sum a b < m
  pub sum_commutes : (a b : ℕ) → sum a b ≡ sum b a
  pub sum_associates : (a b c : ℕ) → sum (sum a b) c ≡ sum a (sum b c)
  pub sum_zero : (a : ℕ) → a < m → sum a 0 ≡ a
  pub negative_below : (a : ℕ) → negative a < m
  pub sum_negative : (a : ℕ) → sum a (negative a) ≡ 0
  pub product_below : (a b : ℕ) → product a b < m
  pub product_commutes : (a b : ℕ) → product a b ≡ product b a
  pub product_associates : (a b c : ℕ) → product (product a b) c ≡ product a (product b c)
  pub product_one : (a : ℕ) → a < m → product a 1 ≡ a
  pub product_distributes : (a b c : ℕ) → product a (sum b c) ≡ sum (product a b) (product a c)

-- a has one inverse below m
pub record HasOneInverse (m : ℕ) (product : ℕ → ℕ → ℕ) (a : ℕ) : Type 0 where
  pub inverse : ℕ
  pub below : inverse < m
  pub is_inverse : product a inverse ≡ 1
  pub only : (b : ℕ) → b < m → product a b ≡ 1 → b ≡ inverse
