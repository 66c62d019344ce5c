-- What the stopped sequence tells of a polynomial that agrees with many points, over coefficient functions.
use Rattle.std.proofs.Common.{ℕ, suc, ◌+◌, ◌*◌, ◌<◌, ◌≤◌, ◌≡◌, ◌∙◌, sym, ap, refl, arith, Bool, true, false, eqb}
use mathlib.Core.Bool.{◌&&◌}
use Rattle.std.proofs.lemmas.Bool.{false≢true, eqb-true, eq-eqb}
use Rattle.field61.specs.Field.{field_product}
use Rattle.field61.proofs.FieldLaws.{product_commutes, product_cancels}
use Rattle.poly61.specs.Counts.{count_to}
use Rattle.poly61.proofs.Places.{value_to, value_to-below, value_to-same, value_to-enough, IsZeroFrom, IsBounded, product_of, product_of-below, product_of-high, value_to-product}
use Rattle.poly61.proofs.Counts.{count_to-grows, count_to-both}
use Rattle.poly61.proofs.Roots.{AreApart, same_from_agreement}

-- a polynomial f of k places agrees with many points: then v * (b - f) is zero at every point
pub forwards : (n k r_places v_top : ℕ) (a b r v f : ℕ → ℕ) → AreApart n a → IsBounded a → IsBounded r → IsBounded v → IsBounded f →
    ((i : ℕ) → i < n → value_to r_places r (a i) ≡ field_product (value_to (suc v_top) v (a i)) (b i)) → IsZeroFrom r r_places → IsZeroFrom v (suc v_top) → IsZeroFrom f k →
    1 ≤ k → k ≤ n → 2 * r_places < n + k + 2 → 2 * v_top + k ≤ n → n + k ≤ 2 * count_to n (λ i. eqb (value_to k f (a i)) (b i)) →
    (i : ℕ) → i < n → field_product (value_to (suc v_top) v (a i)) (b i) ≡ field_product (value_to (suc v_top) v (a i)) (value_to k f (a i))
forwards n k r_places v_top a b r v f apart a_below r_below v_below f_below tied r_past v_past f_past some threshold r_few v_few many i h = sym (tied i h) ∙ equal (a i)
  where
    m : ℕ
    m = count_to n (λ i. eqb (value_to k f (a i)) (b i))

    g : ℕ → ℕ
    g = product_of k f v

    g_past : IsZeroFrom g (k + v_top)
    g_past = product_of-high k v_top f v v_past

    r_value : (x : ℕ) → value_to m r x ≡ value_to r_places r x
    r_value x = value_to-enough m r_places r x (omega arith) r_past

    g_value : (x : ℕ) → value_to m g x ≡ field_product (value_to (suc v_top) v x) (value_to k f x)
    g_value x = value_to-enough m (k + v_top) g x (omega arith) g_past ∙ value_to-product k v_top f v x v_past ∙ product_commutes (value_to k f x) (value_to (suc v_top) v x)

    agree : m ≤ count_to n (λ i. eqb (value_to m r (a i)) (value_to m g (a i)))
    agree = count_to-grows n _ _ (λ j l t. eq-eqb _ _ (r_value (a j) ∙ tied j l ∙ ap (field_product (value_to (suc v_top) v (a j))) (sym (eqb-true _ _ t)) ∙ sym (g_value (a j))))

    equal : (x : ℕ) → value_to r_places r x ≡ field_product (value_to (suc v_top) v x) (value_to k f x)
    equal x = sym (r_value x) ∙ value_to-same m r g x (same_from_agreement n m a r g apart a_below r_below (product_of-below k f v) agree) ∙ g_value x

and_left : (b c : Bool) → (b && c) ≡ true → b ≡ true
and_left true c e = refl
and_left false c e = e

and_right : (b c : Bool) → (b && c) ≡ true → c ≡ true
and_right true c e = e
and_right false c e = absurd (false≢true e)

-- so at each point that is no root of v, f has the given value
pub forwards_at : (n k r_places v_top : ℕ) (a b r v f : ℕ → ℕ) → AreApart n a → IsBounded a → IsBounded b → IsBounded r → IsBounded v → IsBounded f →
    ((i : ℕ) → i < n → value_to r_places r (a i) ≡ field_product (value_to (suc v_top) v (a i)) (b i)) → IsZeroFrom r r_places → IsZeroFrom v (suc v_top) → IsZeroFrom f k →
    1 ≤ k → k ≤ n → 2 * r_places < n + k + 2 → 2 * v_top + k ≤ n → n + k ≤ 2 * count_to n (λ i. eqb (value_to k f (a i)) (b i)) →
    (i : ℕ) → i < n → (value_to (suc v_top) v (a i) ≡ 0 → ⊥) → value_to k f (a i) ≡ b i
forwards_at n k r_places v_top a b r v f apart a_below b_below r_below v_below f_below tied r_past v_past f_past some threshold r_few v_few many i h nonzero =
    sym (product_cancels (value_to (suc v_top) v (a i)) (b i) (value_to k f (a i)) (value_to-below (suc v_top) v (a i)) (b_below i) (value_to-below k f (a i)) nonzero (forwards n k r_places v_top a b r v f apart a_below r_below v_below f_below tied r_past v_past f_past some threshold r_few v_few many i h))

-- at most one such polynomial
pub one_only : (n k : ℕ) (a b f g : ℕ → ℕ) → AreApart n a → IsBounded a → IsBounded f → IsBounded g → k ≤ n →
    n + k ≤ 2 * count_to n (λ i. eqb (value_to k f (a i)) (b i)) → n + k ≤ 2 * count_to n (λ i. eqb (value_to k g (a i)) (b i)) → (i : ℕ) → i < k → f i ≡ g i
one_only n k a b f g apart a_below f_below g_below threshold f_many g_many = same_from_agreement n k a f g apart a_below f_below g_below (let l : count_to n (λ i. eqb (value_to k f (a i)) (b i) && eqb (value_to k g (a i)) (b i)) ≤ count_to n (λ i. eqb (value_to k f (a i)) (value_to k g (a i))) =
    count_to-grows n _ _ (λ i _ t. both _ _ _ t) in omega (arith, count_to-both n (λ i. eqb (value_to k f (a i)) (b i)) (λ i. eqb (value_to k g (a i)) (b i))))
  where
    both : (x y z : ℕ) → (eqb x z && eqb y z) ≡ true → eqb x y ≡ true
    both x y z t = eq-eqb x y (eqb-true x z (and_left (eqb x z) (eqb y z) t) ∙ sym (eqb-true y z (and_right (eqb x z) (eqb y z) t)))
