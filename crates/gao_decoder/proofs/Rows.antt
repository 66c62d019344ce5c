-- What the steps of halving do to the pairs.
use Rattle.std.proofs.Common.{ℕ, ◌≡◌, ◌<◌, ◌∙◌, sym, ap, List, length, get_or}
use Rattle.field61.specs.declared.TheConstants.{MODULUS}
use Rattle.field61.specs.Field.{field_sum, field_product, field_negative, field_difference}
use Rattle.field61.proofs.FieldLaws.{ring, product_below, product_commutes, sum_negative, sum_zero, zero_sum, zero_product, product_zero, one_product, difference_self}
use Rattle.poly61.specs.Poly.{value}
use Rattle.poly61.proofs.Elements.{minus_is_zero, zero_sum_zero}
use Rattle.poly61.proofs.Lists.{value-below}
use Rattle.gao_decoder.specs.Sequence.{IsTied}
use Rattle.gao_decoder.specs.Halving.{row_at, TakesTo, IsPivoted, IsSumOfProducts}

pivot_step : (d v r a b : ℕ) → field_sum (field_product (field_product d v) a) (field_product (field_product d r) b) ≡ field_product (field_sum (field_product v a) (field_product r b)) d
pivot_step d v r a b = simp ring

other_step : (p n qv qr pv pr a b : ℕ) → field_sum (field_product (field_sum (field_product p qv) (field_product n pv)) a) (field_product (field_sum (field_product p qr) (field_product n pr)) b)
    ≡ field_sum (field_product (field_sum (field_product qv a) (field_product qr b)) p) (field_product (field_sum (field_product pv a) (field_product pr b)) n)
other_step p n qv qr pv pr a b = simp ring

compose : (p q u v w z a b : ℕ) →
    field_sum (field_product (field_sum (field_product p u) (field_product q w)) a) (field_product (field_sum (field_product p v) (field_product q z)) b)
    ≡ field_sum (field_product p (field_sum (field_product u a) (field_product v b))) (field_product q (field_sum (field_product w a) (field_product z b)))
compose p q u v w z a b = simp ring

-- the new rows at x
pub pivot_at : (pv pr qv qr new_pv new_pr new_qv new_qr : List ℕ) (y p n x a b : ℕ) → IsPivoted pv pr qv qr new_pv new_pr new_qv new_qr y p n → row_at new_pv new_pr x a b ≡ field_product (row_at pv pr x a b) (field_difference x y)
pivot_at pv pr qv qr new_pv new_pr new_qv new_qr y p n x a b is =
    ap (λ v. field_sum (field_product v a) (field_product (value new_pr x) b)) (is.pivot_v x)
    ∙ ap (λ r. field_sum (field_product (field_product (field_difference x y) (value pv x)) a) (field_product r b)) (is.pivot_r x)
    ∙ pivot_step (field_difference x y) (value pv x) (value pr x) a b

pub other_at : (pv pr qv qr new_pv new_pr new_qv new_qr : List ℕ) (y p n x a b : ℕ) → IsPivoted pv pr qv qr new_pv new_pr new_qv new_qr y p n → row_at new_qv new_qr x a b ≡ field_sum (field_product (row_at qv qr x a b) p) (field_product (row_at pv pr x a b) n)
other_at pv pr qv qr new_pv new_pr new_qv new_qr y p n x a b is =
    ap (λ v. field_sum (field_product v a) (field_product (value new_qr x) b)) (is.other_v x)
    ∙ ap (λ r. field_sum (field_product (field_sum (field_product p (value qv x)) (field_product n (value pv x))) a) (field_product r b)) (is.other_r x)
    ∙ other_step p n (value qv x) (value qr x) (value pv x) (value pr x) a b

-- a pair that is (0, 0) stays
pub pivot_zero : (c d : ℕ) → c ≡ 0 → field_product c d ≡ 0
pivot_zero c d e = ap (λ y. field_product y d) e ∙ zero_product d

pub other_zero : (c d p n : ℕ) → c ≡ 0 → d ≡ 0 → field_sum (field_product d p) (field_product c n) ≡ 0
other_zero c d p n e f = ap (λ y. field_sum (field_product d p) y) (pivot_zero c n e) ∙ ap (λ y. field_sum y 0) (pivot_zero d p f) ∙ zero_sum_zero

-- the pair of the pivot's point becomes (0, 0)
pub pivot_here : (p x : ℕ) → field_product p (field_difference x x) ≡ 0
pivot_here p x = ap (field_product p) (difference_self x) ∙ product_zero p

factor_out : (p q m : ℕ) → field_sum (field_product q p) (field_product p m) ≡ field_product p (field_sum q m)
factor_out p q m = simp ring

pub other_here : (p q : ℕ) → field_sum (field_product q p) (field_product p (field_negative q)) ≡ 0
other_here p q = factor_out p q (field_negative q) ∙ ap (field_product p) (sum_negative q) ∙ product_zero p

-- the rows (1, 0) and (0, 1)
pub unit_rows : (av ar bv br : List ℕ) (x a b : ℕ) → value av x ≡ 1 → value ar x ≡ 0 → value bv x ≡ 0 → value br x ≡ 1 → a < MODULUS → b < MODULUS → TakesTo av ar bv br x a b a b
unit_rows av ar bv br x a b one none none' one' a_below b_below = record {
  first = ap (λ v. field_sum (field_product v a) (field_product (value ar x) b)) one ∙ ap (λ r. field_sum (field_product 1 a) (field_product r b)) none ∙ ap (field_sum (field_product 1 a)) (zero_product b) ∙ sum_zero _ (product_below 1 a) ∙ one_product a a_below;
  second = ap (λ v. field_sum (field_product v a) (field_product (value br x) b)) none' ∙ ap (λ r. field_sum (field_product 0 a) (field_product r b)) one' ∙ ap (λ y. field_sum y (field_product 1 b)) (zero_product a) ∙ zero_sum _ (product_below 1 b) ∙ one_product b b_below;
}

-- a product of rows acts as one after the other
pub row_at-product : (v r sv sr av ar bv br : List ℕ) (x a b : ℕ) → IsSumOfProducts v sv av sr bv → IsSumOfProducts r sv ar sr br → row_at v r x a b ≡ row_at sv sr x (row_at av ar x a b) (row_at bv br x a b)
row_at-product v r sv sr av ar bv br x a b is_v is_r =
    ap (λ y. field_sum (field_product y a) (field_product (value r x) b)) (is_v x)
    ∙ ap (λ y. field_sum (field_product (field_sum (field_product (value sv x) (value av x)) (field_product (value sr x) (value bv x))) a) (field_product y b)) (is_r x)
    ∙ compose (value sv x) (value sr x) (value av x) (value ar x) (value bv x) (value br x) a b

pub row_at-zero : (v r : List ℕ) (x : ℕ) → row_at v r x 0 0 ≡ 0
row_at-zero v r x = ap (λ y. field_sum y (field_product (value r x) 0)) (product_zero (value v x)) ∙ ap (field_sum 0) (product_zero (value r x)) ∙ zero_sum_zero

-- a row that takes each (y, -1) to 0 is tied
pub tied_row : (v r xs ys : List ℕ) → ((i : ℕ) → i < length xs → row_at v r (get_or xs i 0) (get_or ys i 0) (field_negative 1) ≡ 0) → IsTied r v xs ys
tied_row v r xs ys none i h =
    sym (minus_is_zero (field_product (value v (get_or xs i 0)) (get_or ys i 0)) (value r (get_or xs i 0)) (product_below _ _) (value-below r (get_or xs i 0))
    (ap (field_sum (field_product (value v (get_or xs i 0)) (get_or ys i 0))) (product_commutes (field_negative 1) (value r (get_or xs i 0))) ∙ none i h))

-- rows after rows
pub takes_after : (oav oar obv obr sav sar sbv sbr fav far fbv fbr : List ℕ) (x a b c d : ℕ) →
    row_at oav oar x a b ≡ row_at sav sar x (row_at fav far x a b) (row_at fbv fbr x a b) → row_at obv obr x a b ≡ row_at sbv sbr x (row_at fav far x a b) (row_at fbv fbr x a b) →
    TakesTo fav far fbv fbr x a b c d → TakesTo sav sar sbv sbr x c d 0 0 → TakesTo oav oar obv obr x a b 0 0
takes_after oav oar obv obr sav sar sbv sbr fav far fbv fbr x a b c d pa pb first second = record {
  first = pa ∙ ap (λ u. row_at sav sar x u (row_at fbv fbr x a b)) first.first ∙ ap (row_at sav sar x c) first.second ∙ second.first;
  second = pb ∙ ap (λ u. row_at sbv sbr x u (row_at fbv fbr x a b)) first.first ∙ ap (row_at sbv sbr x c) first.second ∙ second.second;
}

pub takes_zero : (av ar bv br : List ℕ) (x : ℕ) → TakesTo av ar bv br x 0 0 0 0
takes_zero av ar bv br x = record { first = row_at-zero av ar x; second = row_at-zero bv br x }

pub tied_from : (v r xs ys firsts seconds : List ℕ) → ((i : ℕ) → i < length xs → row_at v r (get_or xs i 0) (get_or firsts i 0) (get_or seconds i 0) ≡ 0) → ((i : ℕ) → i < length xs → get_or firsts i 0 ≡ get_or ys i 0) → ((i : ℕ) → i < length xs → get_or seconds i 0 ≡ field_negative 1) → IsTied r v xs ys
tied_from v r xs ys firsts seconds none is_y is_minus = tied_row v r xs ys (λ i h.
    ap (λ a. row_at v r (get_or xs i 0) a (field_negative 1)) (sym (is_y i h)) ∙ ap (row_at v r (get_or xs i 0) (get_or firsts i 0)) (sym (is_minus i h)) ∙ none i h)
