-- Sums over all views, and how many numbers below a bound a list has.
use Rattle.std.proofs.Common.{◌≡◌, ◌==◌, ltb, ℕ, zero, suc, ◌+◌, ◌<◌, ◌≤◌, List, [], ◌∷◌, ◌++◌, length, set, sym, refl, ap, ◌∙◌, subst, arith}
use Rattle.std.specs.Prelude.{min}
use Rattle.std.proofs.lemmas.Bool.Decides.{nat_tests}
use mathlib.Core.Option.{some, some-injective, some-ne-none}
use lib.ListN.{get_elem?}
use Rattle.recovery_pool.specs.declared.pass_view.PassView.{PassView}
use Rattle.recovery_pool.specs.Standing.{one_if, times, total}

pub total_set : (f : PassView → ℕ) (views : List PassView) (id : ℕ) (v w : PassView) → get_elem? views id ≡ some v → total f (set views id w) + f v ≡ total f views + f w
total_set f [] id v w e = absurd (some-ne-none v (sym e))
total_set f (x ∷ xs) zero v w e = omega (arith, ap f (some-injective x v e))
total_set f (x ∷ xs) (suc id) v w e = omega (arith, total_set f xs id v w e)

pub total_more : (f : PassView → ℕ) (views : List PassView) (w : PassView) → total f (views ++ w ∷ []) ≡ total f views + f w
total_more f [] w = omega arith
total_more f (x ∷ xs) w = omega (arith, total_more f xs w)

total_plus : (f g h : PassView → ℕ) → ((v : PassView) → h v ≡ f v + g v) → (views : List PassView) → total h views ≡ total f views + total g views
total_plus f g h e [] = refl
total_plus f g h e (x ∷ xs) = omega (arith, e x, total_plus f g h e xs)

pub total_le : (f g : PassView → ℕ) (views : List PassView) → ((k : ℕ) (v : PassView) → get_elem? views k ≡ some v → f v ≤ g v) → total f views ≤ total g views
total_le f g [] h = omega arith
total_le f g (x ∷ xs) h = omega (arith, h 0 x refl, total_le f g xs (λ k v e. h (suc k) v e))

pub total_one : (f : PassView → ℕ) (views : List PassView) (id : ℕ) (v : PassView) → get_elem? views id ≡ some v → f v ≤ total f views
total_one f [] id v e = absurd (some-ne-none v (sym e))
total_one f (x ∷ xs) zero v e = omega (arith, ap f (some-injective x v e))
total_one f (x ∷ xs) (suc id) v e = omega (arith, total_one f xs id v e)

-- where g has nothing, f has nothing, and one view has all of g: then it has all of f
total_none : (f g : PassView → ℕ) (views : List PassView) → total g views ≡ 0 → ((k : ℕ) (v : PassView) → get_elem? views k ≡ some v → g v ≡ 0 → f v ≡ 0) → total f views ≡ 0
total_none f g [] e h = refl
total_none f g (x ∷ xs) e h = omega (arith, h 0 x refl (omega arith), total_none f g xs (omega arith) (λ k v e. h (suc k) v e))

pub total_alone : (f g : PassView → ℕ) (views : List PassView) (id : ℕ) (v : PassView) → get_elem? views id ≡ some v → total g views ≡ g v → ((k : ℕ) (u : PassView) → get_elem? views k ≡ some u → g u ≡ 0 → f u ≡ 0) → total f views ≡ f v
total_alone f g [] id v at e h = absurd (some-ne-none v (sym at))
total_alone f g (x ∷ xs) zero v at e h =
    let same : x ≡ v = some-injective x v at in
    let gs : g x ≡ g v = ap g same in
    let fs : f x ≡ f v = ap f same in
    omega (arith, total_none f g xs (omega arith) (λ k u e. h (suc k) u e))
total_alone f g (x ∷ xs) (suc id) v at e h =
    let one = total_one g xs id v at in
    omega (arith, h 0 x refl (omega arith), total_alone f g xs id v at (omega arith) (λ k u e. h (suc k) u e))

pub times-append : (t : ℕ) (xs ys : List ℕ) → times t (xs ++ ys) ≡ times t xs + times t ys
times-append t [] ys = omega arith
times-append t (x ∷ xs) ys = omega (arith, times-append t xs ys)

-- how many elements are below n
below : ℕ → List ℕ → ℕ
below n [] = 0
below n (x ∷ xs) = one_if (ltb x n) + below n xs

below_step : (x n : ℕ) → one_if (ltb x (n + 1)) ≡ one_if (ltb x n) + one_if (x == n)
below_step x n = grind (arith, nat_tests)

below_more : (n : ℕ) (xs : List ℕ) → below (n + 1) xs ≡ below n xs + times n xs
unfolding below
below_more n [] = refl
below_more n (x ∷ xs) = omega (arith, below_step x n, below_more n xs)

below_zero : (xs : List ℕ) → below 0 xs ≡ 0
unfolding below
below_zero [] = refl
below_zero (x ∷ xs) = let e : one_if (ltb x 0) ≡ 0 = grind (arith, nat_tests) in omega (arith, e, below_zero xs)

-- each element and one more, added up: every element is below it
above : List ℕ → ℕ
above [] = 0
above (x ∷ xs) = x + 1 + above xs

below_all : (n : ℕ) (xs : List ℕ) → above xs ≤ n → below n xs ≡ length xs
unfolding below above
below_all n [] h = refl
below_all n (x ∷ xs) h =
    let lt : x < n = omega arith in
    let e : one_if (ltb x n) ≡ 1 = grind (arith, nat_tests) in
    omega (arith, e, below_all n xs (omega arith))

all_below : (n : ℕ) (views : List PassView) → total (λ v. above v.drawn) views ≤ n → total (λ v. below n v.drawn) views ≡ total (λ v. length v.drawn) views
all_below n [] h = refl
all_below n (x ∷ xs) h = omega (arith, below_all n x.drawn (omega arith), all_below n xs (omega arith))

none_below : (views : List PassView) → total (λ v. below 0 v.drawn) views ≡ 0
none_below [] = refl
none_below (x ∷ xs) = omega (arith, below_zero x.drawn, none_below xs)

-- where each number below m stands in all lists together once, and no other number does, as many numbers stand there below n as there are below n and m
counts : (m : ℕ) (views : List PassView) → ((t : ℕ) → total (λ v. times t v.drawn) views ≡ one_if (ltb t m)) → (n : ℕ) → total (λ v. below n v.drawn) views ≡ min n m
counts m views h zero = none_below views ∙ (omega arith)
counts m views h (suc n) =
    let step : total (λ v. below (n + 1) v.drawn) views ≡ total (λ v. below n v.drawn) views + total (λ v. times n v.drawn) views = total_plus (λ v. below n v.drawn) (λ v. times n v.drawn) (λ v. below (n + 1) v.drawn) (λ v. below_more n v.drawn) views in
    let so : total (λ v. below n v.drawn) views ≡ min n m = counts m views h n in
    let one : min (n + 1) m ≡ min n m + one_if (ltb n m) = grind (arith, nat_tests) in
    let is : suc n ≡ n + 1 = omega arith in
    subst (λ (k : ℕ). total (λ v. below k v.drawn) views ≡ min k m) (sym is) (omega (arith, step, so, h n, one))

-- so there are at most m of them
pub drawn_at_most : (m : ℕ) (views : List PassView) → ((t : ℕ) → total (λ v. times t v.drawn) views ≡ one_if (ltb t m)) → total (λ v. length v.drawn) views ≤ m
drawn_at_most m views h =
    let n : ℕ = total (λ v. above v.drawn) views in
    let e : total (λ v. below n v.drawn) views ≡ min n m = counts m views h n in
    let a : total (λ v. below n v.drawn) views ≡ total (λ v. length v.drawn) views = all_below n views (omega arith) in
    omega (arith, e, a)
