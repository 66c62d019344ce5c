-- The steps of the remainder sequence.
use Rattle.std.proofs.Common.{ℕ, ◌+◌, ◌-◌, ◌<◌, ◌≡◌, ◌≢◌, ◌∙◌, sym, ap, arith, inl, inr, ◌⊎◌, List, get_or}
use Rattle.std.proofs.lemmas.Bool.{cases_eq}
use Rattle.field61.specs.declared.TheConstants.{MODULUS}
use Rattle.field61.specs.Field.{field_sum, field_product, field_negative, field_difference, field_power, AreElements}
use Rattle.field61.proofs.FieldLaws.{ring, zero_sum, product_zero, product_one, product_commutes, product_associates, product_below, negative_below, negative_is_zero, difference_is_sum, difference_self}
use Rattle.poly61.specs.Poly.{value, HasDegree, HasDegreeBelow, TakesOff}
use Rattle.poly61.proofs.Elements.{other_factor, one_is_not_zero, nothing_taken}
use Rattle.poly61.proofs.Lists.{AreElements-bounded}
use Rattle.poly61.proofs.Values.{TakesOff-value, TakesOff-zero}
use Rattle.gao_decoder.specs.Sequence.{IsTied}

tied_ring : (v w y t p : ℕ) → field_sum (field_product v y) (field_product t (field_product p (field_product w y))) ≡ field_product (field_sum v (field_product t (field_product p w))) y
tied_ring v w y t p = simp ring

-- the same multiple taken off a remainder and its cofactor leaves them tied
pub IsTied-step : (xs ys r v s w new_r new_v : List ℕ) (c shift : ℕ) → AreElements r → AreElements v → TakesOff r new_r c shift s → TakesOff v new_v c shift w → IsTied r v xs ys → IsTied s w xs ys → IsTied new_r new_v xs ys
IsTied-step xs ys r v s w new_r new_v c shift r_elements v_elements r_taken v_taken upper lower i within =
    let x : ℕ = get_or xs i 0 in
    let y : ℕ = get_or ys i 0 in
    let t : ℕ = field_negative c in
    let p : ℕ = field_power x shift in
    TakesOff-value r new_r c shift s x r_elements r_taken
    ∙ ap (λ z. field_sum z (field_product t (field_product p (value s x)))) (upper i within)
    ∙ ap (λ z. field_sum (field_product (value v x) y) (field_product t (field_product p z))) (lower i within)
    ∙ tied_ring (value v x) (value w x) y t p ∙ sym (ap (λ z. field_product z y) (TakesOff-value v new_v c shift w x v_elements v_taken))

-- with c the quotient of the tops, the place of the upper top is 0
pub top_is_gone : (r s new : List ℕ) (c shift low inverse : ℕ) → TakesOff r new c shift s → c ≡ field_product (get_or r (low + shift) 0) inverse → field_product (get_or s low 0) inverse ≡ 1 → AreElements r → get_or new (low + shift) 0 ≡ 0
top_is_gone r s new c shift low inverse taken is one r_elements =
    let top : ℕ = get_or r (low + shift) 0 in
    let top_below : top < MODULUS = AreElements-bounded r r_elements (low + shift) in
    let whole : field_product c (get_or s low 0) ≡ top =
    ap (λ z. field_product z (get_or s low 0)) is ∙ product_associates top inverse (get_or s low 0) ∙ ap (field_product top) (product_commutes inverse (get_or s low 0) ∙ one) ∙ product_one top top_below in
    ap (λ i. get_or new i 0) {x = low + shift} {y = shift + low} (omega arith) ∙ taken.rest low
    ∙ ap (λ i. field_difference (get_or r i 0) (field_product c (get_or s low 0))) {x = shift + low} {y = low + shift} (omega arith)
    ∙ ap (field_difference top) whole ∙ difference_self top

pub step_below : (r s new : List ℕ) (c shift low inverse : ℕ) → AreElements r → TakesOff r new c shift s → c ≡ field_product (get_or r (low + shift) 0) inverse → field_product (get_or s low 0) inverse ≡ 1 →
    HasDegreeBelow s (low + 1) → HasDegreeBelow r (low + shift + 1) → HasDegreeBelow new (low + shift)
step_below r s new c shift low inverse r_elements taken is one s_below r_below i past = by (cases_eq i (low + shift))
  where
    by : (i ≡ low + shift) ⊎ (i ≢ low + shift) → get_or new i 0 ≡ 0
    by (inl same) = ap (λ j. get_or new j 0) same ∙ top_is_gone r s new c shift low inverse taken is one r_elements
    by (inr other) = TakesOff-zero r new c shift s i r_elements taken (r_below i (omega arith)) (λ k place. s_below k (omega arith))

-- a quotient of tops is not 0
pub quotient_nonzero : (a l inverse : ℕ) → a < MODULUS → inverse < MODULUS → (a ≡ 0 → ⊥) → field_product l inverse ≡ 1 → field_product a inverse ≡ 0 → ⊥
quotient_nonzero a l inverse a_below inverse_below nonzero one none =
    one_is_not_zero (field_product l inverse) one (ap (field_product l) (other_factor a inverse a_below inverse_below nonzero none) ∙ product_zero l)

above_step : (v w new : List ℕ) (c shift e n : ℕ) → AreElements v → TakesOff v new c shift w → HasDegreeBelow v n → HasDegreeBelow w (e + 1) → shift + e < n → HasDegreeBelow new n
above_step v w new c shift e n elements taken v_below w_below within i past = TakesOff-zero v new c shift w i elements taken (v_below i past) (λ k place. w_below k (omega arith))

-- the first step of a round sets the top of the cofactor
pub step_top : (v w new : List ℕ) (c shift e : ℕ) → AreElements v → AreElements w → TakesOff v new c shift w → c < MODULUS → (c ≡ 0 → ⊥) → HasDegree w e → HasDegreeBelow v e → HasDegree new (e + shift)
step_top v w new c shift e v_elements w_elements taken c_below nonzero degree v_below = record {
  top = λ none. degree.top (other_factor c (get_or w e 0) c_below (AreElements-bounded w w_elements e) nonzero
      (negative_is_zero (field_product c (get_or w e 0)) (product_below c (get_or w e 0)) (sym (is ∙ zero_sum _ (negative_below _)) ∙ none)));
  above = above_step v w new c shift e (e + shift + 1) v_elements taken (λ i past. v_below i (omega arith)) degree.above (omega arith);
}
  where
    is : get_or new (e + shift) 0 ≡ field_sum 0 (field_negative (field_product c (get_or w e 0)))
    is = ap (λ i. get_or new i 0) {x = e + shift} {y = shift + e} (omega arith) ∙ taken.rest e ∙ ap (λ z. field_difference z (field_product c (get_or w e 0))) (v_below (shift + e) (omega arith)) ∙ difference_is_sum 0 (field_product c (get_or w e 0))

-- a later one leaves it
pub step_keeps : (v w new : List ℕ) (c shift e n : ℕ) → AreElements v → TakesOff v new c shift w → HasDegree w e → e + shift < n → HasDegree v n → HasDegree new n
step_keeps v w new c shift e n elements taken w_degree less v_degree = record {
  top = λ none. v_degree.top (sym (same (n - shift) (omega arith)) ∙ none);
  above = above_step v w new c shift e (n + 1) elements taken v_degree.above w_degree.above (omega arith);
}
  where
    same : (k : ℕ) → n ≡ shift + k → get_or new n 0 ≡ get_or v n 0
    same k place = ap (λ i. get_or new i 0) place ∙ taken.rest k ∙ nothing_taken (get_or v (shift + k) 0) c (get_or w k 0) (AreElements-bounded v elements (shift + k)) (inr (w_degree.above k (omega arith))) ∙ ap (λ i. get_or v i 0) (sym place)
