-- Products and values in blocks.
use Rattle.std.specs.Prelude.{ℕ, ◌+◌, ◌-◌, ◌<◌, ◌≡◌, List, length, slice_index}
use Rattle.field61.specs.Field.{field_sum, field_product, field_negative, field_power}
use Rattle.field61.specs.Sums.{field_total}
use Rattle.poly61.specs.Poly.{value}

-- the powers of x from x^0
abbrev pub ArePowers : List ℕ → ℕ → Type 0
ArePowers powers x = (i : ℕ) → i < length powers → slice_index powers i ≡ field_power x i

-- at each place the value of new is c · old + d · other
abbrev pub IsBlend : List ℕ → List ℕ → ℕ → ℕ → List ℕ → Type 0
IsBlend old new c d other = (z : ℕ) → value new z ≡ field_sum (field_product c (value old z)) (field_product d (value other z))

-- at each place the value of new is old + f · g
abbrev pub AddsProduct : List ℕ → List ℕ → List ℕ → List ℕ → Type 0
AddsProduct old new f g = (z : ℕ) → value new z ≡ field_sum (value old z) (field_product (value f z) (value g z))

-- the coefficient of x^t in the product f · g
abbrev pub product_at : List ℕ → List ℕ → ℕ → ℕ
product_at f g t = field_total (t + 1) (λ i. field_product (slice_index f i) (slice_index g (t - i)))

-- the polynomial is low + x^at · high
abbrev pub IsSplit : List ℕ → List ℕ → List ℕ → ℕ → Type 0
IsSplit f low high at = (z : ℕ) → value f z ≡ field_sum (value low z) (field_product (field_power z at) (value high z))

-- at each place the value of new is old + x^shift · other
abbrev pub AddsShifted : List ℕ → List ℕ → ℕ → List ℕ → Type 0
AddsShifted old new shift other = (z : ℕ) → value new z ≡ field_sum (value old z) (field_product (field_power z shift) (value other z))

-- at each place the value of new is old - other
abbrev pub Subtracts : List ℕ → List ℕ → List ℕ → Type 0
Subtracts old new other = (z : ℕ) → value new z ≡ field_sum (value old z) (field_product (field_negative 1) (value other z))

-- at each place the value of new is old + low + x^half · (middle - low - high) + x^(2 half) · high
abbrev pub IsJoined : List ℕ → List ℕ → List ℕ → List ℕ → List ℕ → ℕ → Type 0
IsJoined old new low middle high half = (z : ℕ) →
    let rest = field_sum (field_sum (value middle z) (field_product (field_negative 1) (value low z))) (field_product (field_negative 1) (value high z)) in
    value new z ≡ field_sum (field_sum (field_sum (value old z) (field_product (field_power z 0) (value low z))) (field_product (field_power z half) rest)) (field_product (field_power z (half + half)) (value high z))
