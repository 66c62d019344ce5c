-- The place at which a key occurred first, in a map of the keys so far.
use Rattle.std.proofs.Common.{◌≡◌, ℕ, ◌+◌, ◌<◌, Bool, true, false, inl, inr, Option, Some, None, refl, sym, subst, arith}
use Rattle.std.specs.Prelude.{if◌then◌else◌, unwrap_or}
use Rattle.std.specs.Option.{option_or}
use Rattle.std.specs.Ordering.{is_eq}
use Rattle.std.specs.BTreeMap.{BTreeMap, get}
use Rattle.std.specs.declared.cmp.Ordering.{Ordering}
use Rattle.std.proofs.lemmas.Bool.{cases_lt, false≢true}

-- the first number below n of which P holds, or none
abbrev pub IsFirst : (ℕ → Type 0) → ℕ → Option ℕ → Type 0
IsFirst P n None = (j : ℕ) → j < n → P j → ⊥
IsFirst P n (Some p) = (p < n) × P p × ((j : ℕ) → j < p → P j → ⊥)

-- with one number more, for which a test says whether P holds
first_more : (P : ℕ → Type 0) (n : ℕ) (o : Option ℕ) (b : Bool) → IsFirst P n o → (b ≡ true → P n) → (P n → b ≡ true) → IsFirst P (n + 1) (option_or o (if b then Some n else None))
first_more P n (Some p) b h sound complete = (omega (arith, h.0), h.1, h.2)
first_more P n None true h sound complete = (omega arith, sound refl, h)
first_more P n None false h sound complete = λ j lt holds. elim (cases_lt j n) [
  | inl less ↦ h j less holds
  | inr ge ↦ (let is : j ≡ n = omega arith in false≢true (complete (subst P is holds)))
]

-- if P holds of n, the first one is the one found, or else n
pub first_found : (P : ℕ → Type 0) (n : ℕ) (o : Option ℕ) → IsFirst P n o → P n → IsFirst P (n + 1) (Some (unwrap_or o n))
first_found P n (Some p) h holds = (omega (arith, h.0), h.1, h.2)
first_found P n None h holds = (omega arith, holds, h)

-- the map has the first place of each key among those of the chosen numbers below n
abbrev pub HasFirstsOf : {K : Type 0} → (ℕ → Type 0) → (K → K → Ordering) → (ℕ → K) → ℕ → BTreeMap K ℕ → Type 0
HasFirstsOf {K} Chosen cmp key n places = (q : K) → IsFirst (λ j. Chosen j × (is_eq (cmp (key j) q) ≡ true)) n (get cmp places q)

-- with one more key
pub chosen_more : {K : Type 0} (Chosen : ℕ → Type 0) (cmp : K → K → Ordering) (key : ℕ → K) (n : ℕ) (old new : BTreeMap K ℕ) (next : K) → HasFirstsOf Chosen cmp key n old → Chosen n → next ≡ key n →
    ((q : K) → get cmp new q ≡ option_or (get cmp old q) (if is_eq (cmp next q) then Some n else None)) → HasFirstsOf Chosen cmp key (n + 1) new
chosen_more Chosen cmp key n old new next h chosen is grown q =
    subst (IsFirst (λ j. Chosen j × (is_eq (cmp (key j) q) ≡ true)) (n + 1)) (sym (grown q))
    (first_more (λ j. Chosen j × (is_eq (cmp (key j) q) ≡ true)) n (get cmp old q) (is_eq (cmp next q)) (h q)
    (λ e. (chosen, subst (λ k. is_eq (cmp k q) ≡ true) is e)) (λ e. subst (λ k. is_eq (cmp k q) ≡ true) (sym is) e.1))

-- with a number that isn't chosen
pub chosen_less : {K : Type 0} (Chosen : ℕ → Type 0) (cmp : K → K → Ordering) (key : ℕ → K) (n : ℕ) (places : BTreeMap K ℕ) → HasFirstsOf Chosen cmp key n places → (Chosen n → ⊥) → HasFirstsOf Chosen cmp key (n + 1) places
chosen_less Chosen cmp key n places h out q = kept (get cmp places q) (h q)
  where
    kept : (o : Option ℕ) → IsFirst (λ j. Chosen j × (is_eq (cmp (key j) q) ≡ true)) n o → IsFirst (λ j. Chosen j × (is_eq (cmp (key j) q) ≡ true)) (n + 1) o
    kept (Some p) f = (omega (arith, f.0), f.1, f.2)
    kept None f = λ j lt holds. elim (cases_lt j n) [
      | inl less ↦ f j less holds
      | inr ge ↦ (let is : j ≡ n = omega arith in out (subst Chosen is holds.0))
    ]

-- the map has the first place of each of n keys
abbrev pub HasFirsts : {K : Type 0} → (K → K → Ordering) → (ℕ → K) → ℕ → BTreeMap K ℕ → Type 0
HasFirsts {K} cmp key n places = (q : K) → IsFirst (λ j. is_eq (cmp (key j) q) ≡ true) n (get cmp places q)

-- with one more key
pub firsts_more : {K : Type 0} (cmp : K → K → Ordering) (key : ℕ → K) (n : ℕ) (old new : BTreeMap K ℕ) (next : K) → HasFirsts cmp key n old → next ≡ key n →
    ((q : K) → get cmp new q ≡ option_or (get cmp old q) (if is_eq (cmp next q) then Some n else None)) → HasFirsts cmp key (n + 1) new
firsts_more cmp key n old new next h is grown q =
    subst (IsFirst (λ j. is_eq (cmp (key j) q) ≡ true) (n + 1)) (sym (grown q))
    (first_more (λ j. is_eq (cmp (key j) q) ≡ true) n (get cmp old q) (is_eq (cmp next q)) (h q)
    (λ e. subst (λ k. is_eq (cmp k q) ≡ true) is e) (λ e. subst (λ k. is_eq (cmp k q) ≡ true) (sym is) e))

-- a key that ties with none before it is found at its own place alone
pub none_tied : (P : ℕ → Type 0) (n place : ℕ) (o : Option ℕ) → IsFirst P n o → P n → place ≡ unwrap_or o n → place ≡ n → (j : ℕ) → j < n → P j → ⊥
none_tied P n place (Some p) f holds is own = absurd (omega (arith, f.0, is))
none_tied P n place None f holds is own = f

-- one that is found elsewhere ties with one before it
pub one_tied : (P : ℕ → Type 0) (n place : ℕ) (o : Option ℕ) → IsFirst P n o → place ≡ unwrap_or o n → (place ≡ n → ⊥) → (place < n) × P place
one_tied P n place (Some p) f is other = (omega (arith, f.0, is), subst P (sym is) f.1)
one_tied P n place None f is other = absurd (other is)
