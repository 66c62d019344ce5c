-- A product by the halves of its factors.
use Rattle.std.proofs.Common.{ℕ, zero, suc, ◌+◌, ◌-◌, ◌<◌, ◌≡◌, ◌∙◌, sym, ap, ap₂, arith, List, get_or}
use Rattle.field61.specs.Field.{field_sum, field_product, field_negative, field_power}
use Rattle.field61.proofs.FieldLaws.{ring, power_zero, power_below, sum_zero, sum_below, zero_sum, product_below, one_product}
use Rattle.poly61.specs.Poly.{value, IsZero, HasDegreeBelow}
use Rattle.poly61.specs.Blocks.{AddsProduct, IsSplit, AddsShifted, IsJoined}
use Rattle.poly61.proofs.Elements.{zero_sum_zero, minus_self, power-suc}
use Rattle.poly61.proofs.Places.{value_to, value_to-same}
use Rattle.poly61.proofs.Lists.{coefficient_of, value-places, value-below}
use Rattle.poly61.proofs.Convolution.{value_to-split}
use Rattle.poly61.proofs.Values.{value-zero}

associated : (a b c : ℕ) → field_product a (field_product b c) ≡ field_product (field_product a b) c
associated a b c = simp ring

-- the sum of two exponents
pub power-plus : (x m n : ℕ) → field_power x (m + n) ≡ field_product (field_power x m) (field_power x n)
power-plus x zero n = ap (field_power x) {x = zero + n} {y = n} (omega arith) ∙ sym (ap (λ y. field_product y (field_power x n)) (power_zero x) ∙ one_product (field_power x n) (power_below x n))
power-plus x (suc m) n =
    ap (field_power x) {x = suc m + n} {y = suc (m + n)} (omega arith) ∙ power-suc x (m + n) ∙ ap (field_product x) (power-plus x m n) ∙ associated x (field_power x m) (field_power x n)
    ∙ ap (λ y. field_product y (field_power x n)) (sym (power-suc x m))

-- the places below one and those from there on
pub is_split : (f low high : List ℕ) (at places : ℕ) → at < places → HasDegreeBelow f places → ((i : ℕ) → i < at - 0 → get_or low i 0 ≡ get_or f (0 + i) 0) → HasDegreeBelow low (at - 0)
    → ((i : ℕ) → i < places - at → get_or high i 0 ≡ get_or f (at + i) 0) → HasDegreeBelow high (places - at) → IsSplit f low high at
is_split f low high at places some f_below low_is low_below high_is high_below z =
    let rest : ℕ = places - at in
    let low_same : value_to at (coefficient_of f) z ≡ value low z = value_to-same at (coefficient_of f) (coefficient_of low) z (λ i h. sym (low_is i (omega arith) ∙ ap (coefficient_of f) (omega arith)))
    ∙ sym (value-places at low z (λ i h. low_below i (omega arith))) in
    let high_same : value_to rest (λ i. coefficient_of f (at + i)) z ≡ value high z = value_to-same rest (λ i. coefficient_of f (at + i)) (coefficient_of high) z (λ i h. sym (high_is i h)) ∙ sym (value-places rest high z high_below) in
    value-places places f z f_below ∙ ap (λ k. value_to k (coefficient_of f) z) {x = places} {y = at + rest} (omega arith) ∙ value_to-split at rest (coefficient_of f) z
    ∙ ap₂ (λ (u v : ℕ). field_sum u (field_product (field_power z at) v)) low_same high_same

regrouped : (a b c d n : ℕ) → field_sum (field_sum (field_product (field_sum a b) (field_sum c d)) (field_product n (field_product a c))) (field_product n (field_product b d))
    ≡ field_sum (field_sum (field_product a d) (field_product b c)) (field_sum (field_sum (field_product a c) (field_product n (field_product a c))) (field_sum (field_product b d) (field_product n (field_product b d))))
regrouped a b c d n = simp ring

-- the mixed products by one product of sums
mixed : (a b c d : ℕ) → field_sum (field_sum (field_product (field_sum a b) (field_sum c d)) (field_product (field_negative 1) (field_product a c))) (field_product (field_negative 1) (field_product b d))
    ≡ field_sum (field_product a d) (field_product b c)
mixed a b c d =
    regrouped a b c d (field_negative 1)
    ∙ ap₂ (λ (u v : ℕ). field_sum (field_sum (field_product a d) (field_product b c)) (field_sum u v)) (minus_self (field_product a c) (product_below a c)) (minus_self (field_product b d) (product_below b d))
    ∙ ap (field_sum (field_sum (field_product a d) (field_product b c))) zero_sum_zero ∙ sum_zero _ (sum_below (field_product a d) (field_product b c))

whole : (o a b c d t : ℕ) → field_sum (field_sum (field_sum o (field_product a c)) (field_product t (field_sum (field_product a d) (field_product b c)))) (field_product (field_product t t) (field_product b d))
    ≡ field_sum o (field_product (field_sum a (field_product t b)) (field_sum c (field_product t d)))
whole o a b c d t = simp ring

-- what is joined is the product
pub adds_halves : (old new f g fl fh gl gh sf sg low0 low mid0 mid high0 high : List ℕ) (half : ℕ) → IsSplit f fl fh half → IsSplit g gl gh half → IsZero low0 → IsZero mid0 → IsZero high0
    → AddsProduct low0 low fl gl → AddsProduct high0 high fh gh → AddsShifted fl sf 0 fh → AddsShifted gl sg 0 gh → AddsProduct mid0 mid sf sg → IsJoined old new low mid high half → AddsProduct old new f g
adds_halves old new f g fl fh gl gh sf sg low0 low mid0 mid high0 high half f_split g_split low_none mid_none high_none lows highs f_sum g_sum mids joined z =
    let n : ℕ = field_negative 1 in
    let o : ℕ = value old z in
    let a : ℕ = value fl z in
    let b : ℕ = value fh z in
    let c : ℕ = value gl z in
    let d : ℕ = value gh z in
    let t : ℕ = field_power z half in
    let low_is : value low z ≡ field_product a c = lows z ∙ ap (λ y. field_sum y (field_product a c)) (value-zero low0 z low_none) ∙ zero_sum _ (product_below a c) in
    let high_is : value high z ≡ field_product b d = highs z ∙ ap (λ y. field_sum y (field_product b d)) (value-zero high0 z high_none) ∙ zero_sum _ (product_below b d) in
    let sf_is : value sf z ≡ field_sum a b = f_sum z ∙ ap (field_sum a) (ap (λ y. field_product y b) (power_zero z) ∙ one_product b (value-below fh z)) in
    let sg_is : value sg z ≡ field_sum c d = g_sum z ∙ ap (field_sum c) (ap (λ y. field_product y d) (power_zero z) ∙ one_product d (value-below gh z)) in
    let mid_is : value mid z ≡ field_product (field_sum a b) (field_sum c d) = mids z ∙ ap (λ y. field_sum y (field_product (value sf z) (value sg z))) (value-zero mid0 z mid_none) ∙ zero_sum _ (product_below (value sf z) (value sg z))
    ∙ ap₂ field_product sf_is sg_is in
    let shape : ℕ → ℕ → ℕ → ℕ → ℕ → ℕ = λ p l m h q. field_sum (field_sum (field_sum o (field_product p l)) (field_product t (field_sum (field_sum m (field_product n l)) (field_product n h)))) (field_product q h) in
    let ac : ℕ = field_product a c in
    let bd : ℕ = field_product b d in
    joined z
    ∙ ap (λ p. shape p (value low z) (value mid z) (value high z) (field_power z (half + half))) (power_zero z)
    ∙ ap (λ l. shape 1 l (value mid z) (value high z) (field_power z (half + half))) low_is
    ∙ ap (λ m. shape 1 ac m (value high z) (field_power z (half + half))) mid_is
    ∙ ap (λ h. shape 1 ac (field_product (field_sum a b) (field_sum c d)) h (field_power z (half + half))) high_is
    ∙ ap (shape 1 ac (field_product (field_sum a b) (field_sum c d)) bd) (power-plus z half half)
    ∙ ap₂ (λ (l m : ℕ). field_sum (field_sum (field_sum o l) (field_product t m)) (field_product (field_product t t) bd)) (one_product ac (product_below a c)) (mixed a b c d)
    ∙ whole o a b c d t
    ∙ sym (ap₂ (λ (u v : ℕ). field_sum o (field_product u v)) (f_split z) (g_split z))
