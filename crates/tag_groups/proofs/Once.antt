-- What a sort by x and the removal of doubles side by side leave.
use Rattle.std.proofs.Common.{◌≡◌, ℕ, suc, ◌<◌, ◌≤◌, Bool, true, false, cond, eqb, eqb-true, eq-eqb, ◌&&◌, List, [], ◌∷◌, None, length, refl, sym, ap, ◌∙◌, subst, arith, get_or}
use Rattle.std.proofs.lemmas.Bool.{false≢true, and_from}
use Rattle.std.proofs.lemmas.List.Kept.{Contains-dedup, Contains-from_dedup}
use Rattle.std.proofs.lemmas.List.Filters.{dedup_is}
use Rattle.std.proofs.lemmas.List.Sorted.{Contains-permutation, IsPermutation-sym}
use Rattle.std.specs.Cmp.{IsEquivalence, both_ways, first_so, second_so}
use Rattle.std.specs.Cmp.Lexicographic.{bytes_decides}
use Rattle.std.specs.List.{dedup, dedup_from}
use Rattle.std.specs.List.Retain.{IsFiltered, DiffersFromLast}
use Rattle.std.specs.List.Sorted.{IsPermutation, IsNonDecreasingBy}
use Rattle.std.specs.Str.{bytes_eq}
use Rattle.shamir_limbs.specs.declared.share.Point.{Point}
use Rattle.tag_groups.specs.Left.{points_left_of}
use Rattle.tag_groups.specs.Apart.{apart_from}
use Rattle.tag_groups.proofs.Left.{Up, lower, NotFirst, Differ, apart_is_left}
use Rattle.star_lists.proofs.Elements.{In, in_from_Contains, Contains-from_in}

up_of : (b : ℕ) (ps : List Point) → ((d : Point) → 0 < length ps → b ≤ (get_or ps 0 d).x) → IsNonDecreasingBy (λ (p : Point). p.x) ps → Up b ps
up_of b [] f up = tt
up_of b (p ∷ ps) f up =
    (f p (omega arith), up_of p.x ps (λ d h. up 0 1 d (omega arith) (omega (arith, h))) (λ i j d h k. up (suc i) (suc j) d (omega (arith, h)) (omega (arith, k))))

module _ (E : Point → Point → Bool) (same : (a b : Point) → E a b ≡ (eqb a.x b.x && bytes_eq a.y b.y)) where
  tells : (a b : Point) → E a b ≡ true → a ≡ b
  tells a b h =
      let both : (eqb a.x b.x && bytes_eq a.y b.y) ≡ true = sym (same a b) ∙ h in
      let x : a.x ≡ b.x = eqb-true a.x b.x (first_so _ _ both) in
      let y : a.y ≡ b.y = (bytes_decides a.y b.y).0 (second_so (eqb a.x b.x) _ both) in
      λ i. record { x = x i; y = y i }

  itself : (a : Point) → E a a ≡ true
  itself a = same a a ∙ and_from _ _ (eq-eqb a.x a.x refl) ((bytes_decides a.y a.y).1 refl)

  of_same : (a b : Point) → a ≡ b → E a b ≡ true
  of_same a b e = subst (λ w. E a w ≡ true) e (itself a)

  equals : IsEquivalence E
  equals = record {
    refl = itself;
    symm = λ x y. both_ways (E x y) (E y x) (λ h. of_same y x (sym (tells x y h))) (λ h. of_same x y (sym (tells y x h)));
    congr = λ x y z h. ap (λ w. E w z) (tells x y h);
  }

  up_once : (b : ℕ) (k : Point) (xs : List Point) → b ≤ k.x → Up k.x xs → Up b (dedup_from E k xs)
  up_once b k [] h u = (h, tt)
  up_once b k (x ∷ xs) h u =
      elim (E x k) as (λ t. Up b (cond t (dedup_from E k xs) (k ∷ dedup_from E x xs))) [
        | true ↦ up_once b k xs h (lower k.x x.x xs u.0 u.1)
        | false ↦ (h, up_once k.x x xs u.0 u.1)
      ]

  first_once : (p k : Point) (xs : List Point) → (p ≡ k → ⊥) → NotFirst p (dedup_from E k xs)
  first_once p k [] n = n
  first_once p k (x ∷ xs) n =
      elim (E x k) as (λ t. NotFirst p (cond t (dedup_from E k xs) (k ∷ dedup_from E x xs))) [
        | true ↦ first_once p k xs n
        | false ↦ n
      ]

  differ_once : (k : Point) (xs : List Point) → Differ (dedup_from E k xs)
  differ_once k [] = (tt, tt)
  differ_once k (x ∷ xs) =
      elim (E x k) as (λ t. E x k ≡ t → Differ (cond t (dedup_from E k xs) (k ∷ dedup_from E x xs))) [
        | true ↦ λ e. differ_once k xs
        | false ↦ λ e. (first_once k x xs (λ is. false≢true (sym e ∙ of_same x k (sym is))), differ_once x xs)
      ] refl

  up_all : (xs : List Point) → Up 0 xs → Up 0 (dedup E xs)
  up_all [] u = tt
  up_all (x ∷ xs) u = up_once 0 x xs u.0 u.1

  differ_all : (xs : List Point) → Differ (dedup E xs)
  differ_all [] = tt
  differ_all (x ∷ xs) = differ_once x xs

  pub left_after : (xs sorted ds : List Point) → IsFiltered (DiffersFromLast E) [] sorted ds → IsPermutation xs sorted → IsNonDecreasingBy (λ (p : Point). p.x) sorted → apart_from None ds ≡ points_left_of xs
  left_after xs sorted ds once moved up =
      let d : ds ≡ dedup E sorted = dedup_is E sorted ds once in
      let to : (z : Point) → In z xs → In z (dedup E sorted) = λ z i. in_from_Contains (dedup E sorted) z (Contains-dedup equals tells sorted z (Contains-permutation xs sorted z moved (Contains-from_in xs z i))) in
      let back : (z : Point) → In z (dedup E sorted) → In z xs = λ z i. in_from_Contains xs z (Contains-permutation sorted xs z (IsPermutation-sym xs sorted moved) (Contains-from_dedup E sorted z (Contains-from_in (dedup E sorted) z i))) in
      ap (apart_from None) d ∙ apart_is_left xs (dedup E sorted) (up_all sorted (up_of 0 sorted (λ d h. omega arith) up)) (differ_all sorted) to back
