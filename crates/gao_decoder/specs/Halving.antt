-- Rows of polynomials that act on pairs of numbers.
use Rattle.std.specs.Prelude.{ℕ, ◌≡◌, List}
use Rattle.field61.specs.Field.{field_sum, field_product, field_difference}
use Rattle.poly61.specs.Poly.{value}

-- the row (v, r) takes the pair (a, b) at x to this
abbrev pub row_at : List ℕ → List ℕ → ℕ → ℕ → ℕ → ℕ
row_at v r x a b = field_sum (field_product (value v x) a) (field_product (value r x) b)

-- the rows (av, ar) and (bv, br) take the pair (a, b) at x to (c, d)
pub record TakesTo (av ar bv br : List ℕ) (x a b c d : ℕ) : Type 0 where
  pub first : row_at av ar x a b ≡ c
  pub second : row_at bv br x a b ≡ d

-- The pivot's row is multiplied by z - x, and the other one by p, with n times the pivot's row added.
pub record IsPivoted (pv pr qv qr new_pv new_pr new_qv new_qr : List ℕ) (x p n : ℕ) : Type 0 where
  pub pivot_v : (z : ℕ) → value new_pv z ≡ field_product (field_difference z x) (value pv z)
  pub pivot_r : (z : ℕ) → value new_pr z ≡ field_product (field_difference z x) (value pr z)
  pub other_v : (z : ℕ) → value new_qv z ≡ field_sum (field_product p (value qv z)) (field_product n (value pv z))
  pub other_r : (z : ℕ) → value new_qr z ≡ field_sum (field_product p (value qr z)) (field_product n (value pr z))

-- the polynomial is f · g + h · l
abbrev pub IsSumOfProducts : List ℕ → List ℕ → List ℕ → List ℕ → List ℕ → Type 0
IsSumOfProducts out f g h l = (z : ℕ) → value out z ≡ field_sum (field_product (value f z) (value g z)) (field_product (value h z) (value l z))
