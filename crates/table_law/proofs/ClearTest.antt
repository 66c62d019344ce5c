-- The test passes exactly for clear tables.
use Rattle.std.proofs.Common.{◌≡◌, ◌≢◌, ℕ, zero, suc, ◌<◌, Bool, true, false, not, ◌||◌, List, [], inl, inr, refl, sym, subst, length, get_or, arith, eqb, eqb-true, eq-eqb}
use Rattle.std.specs.Prelude.{◌↔◌}
use Rattle.std.specs.Str.{bytes_eq}
use Rattle.std.specs.Cmp.{first_so, second_so}
use Rattle.std.specs.Cmp.Lexicographic.{bytes_decides}
use Rattle.std.proofs.lemmas.Bool.{cases_lt, false≢true, and_from}
use Rattle.report_frame.specs.View.{head_of}
use Rattle.tag_groups.specs.Keys.{same_head}
use Rattle.tag_groups.proofs.Keys.{same_head_is, same_head_self}
use Rattle.table_law.specs.Prefixes.{Values, value_at, same_front}
use Rattle.table_law.specs.Layers.{row_report}
use Rattle.table_law.specs.Clear.{IsClearAt, Clear, all_below, keep_clear, is_clear_at, is_clear}
use Rattle.table_law.proofs.FrontLaws.{front_turned}

each_below : (test : ℕ → Bool) (n : ℕ) → all_below test n ≡ true → (i : ℕ) → i < n → test i ≡ true
each_below test zero h i lt = absurd (omega arith)
each_below test (suc n) h i lt = elim (cases_lt i n) [
  | inl less ↦ each_below test n (first_so (all_below test n) (test n) h) i less
  | inr ge ↦ (let is : n ≡ i = omega arith in subst (λ m. test m ≡ true) is (second_so (all_below test n) (test n) h))
]

below_each : (test : ℕ → Bool) (n : ℕ) → ((i : ℕ) → i < n → test i ≡ true) → all_below test n ≡ true
below_each test zero h = refl
below_each test (suc n) h = and_from (all_below test n) (test n) (below_each test n (λ i lt. h i (omega arith))) (h n (omega arith))

-- if the first holds, the second doesn't
not_both : (a b : Bool) → (not a || not b) ≡ true → a ≡ true → b ≡ true → ⊥
not_both true true h p q = false≢true h
not_both true false h p q = false≢true q
not_both false b h p q = false≢true p

never_both : (a b : Bool) → (a ≡ true → b ≡ true → ⊥) → (not a || not b) ≡ true
never_both true true h = absurd (h refl refl)
never_both true false h = refl
never_both false b h = refl

one_of_three : (a b c : Bool) → (not a || (b || not c)) ≡ true → a ≡ true → (b ≡ true → ⊥) → c ≡ true → ⊥
one_of_three true true c h p q r = q refl
one_of_three true false true h p q r = false≢true h
one_of_three true false false h p q r = false≢true r
one_of_three false b c h p q r = false≢true p

of_three : (a b c : Bool) → (a ≡ true → (b ≡ true → ⊥) → c ≡ true → ⊥) → (not a || (b || not c)) ≡ true
of_three true true c h = refl
of_three true false true h = absurd (h refl false≢true refl)
of_three true false false h = refl
of_three false b c h = refl

module _ (table : List Values) (ks : List ℕ) (e : ℕ) (seed : List ℕ) where
  abbrev row_at : ℕ → Values
  row_at i = get_or table i []

  -- two rows
  keeps : (l i j : ℕ) → IsClearAt table ks e seed l → i < length table → j < length table → i ≢ j → keep_clear table ks e seed l i j ≡ true
  keeps l i j clear li lj apart =
      and_from _ _
      (never_both (same_front (suc l) (row_at i) (row_at j)) (eqb (row_report table ks e seed l i).x (row_report table ks e seed l j).x)
      (λ same tie. clear.points i j li lj apart same (eqb-true _ _ tie)))
      (of_three (same_front l (row_at i) (row_at j)) (bytes_eq (value_at (row_at i) l) (value_at (row_at j) l)) (same_head (head_of (row_report table ks e seed l i)) (head_of (row_report table ks e seed l j)))
      (λ same other tie. clear.heads i j li lj apart same (λ v. other ((bytes_decides (value_at (row_at i) l) (value_at (row_at j) l)).1 v)) (same_head_is _ _ tie)))

  points_kept : (l i j : ℕ) → keep_clear table ks e seed l i j ≡ true → same_front (suc l) (row_at i) (row_at j) ≡ true → (row_report table ks e seed l i).x ≢ (row_report table ks e seed l j).x
  points_kept l i j h same tie =
      not_both (same_front (suc l) (row_at i) (row_at j)) (eqb (row_report table ks e seed l i).x (row_report table ks e seed l j).x) (first_so _ _ h) same (eq-eqb _ _ tie)

  heads_kept : (l i j : ℕ) → keep_clear table ks e seed l i j ≡ true → same_front l (row_at i) (row_at j) ≡ true → value_at (row_at i) l ≢ value_at (row_at j) l →
      head_of (row_report table ks e seed l i) ≢ head_of (row_report table ks e seed l j)
  heads_kept l i j h same other tie =
      one_of_three (same_front l (row_at i) (row_at j)) (bytes_eq (value_at (row_at i) l) (value_at (row_at j) l)) (same_head (head_of (row_report table ks e seed l i)) (head_of (row_report table ks e seed l j)))
      (second_so (not (same_front (suc l) (row_at i) (row_at j)) || not (eqb (row_report table ks e seed l i).x (row_report table ks e seed l j).x)) _ h) same
      (λ v. other ((bytes_decides (value_at (row_at i) l) (value_at (row_at j) l)).0 v))
      (subst (λ k. same_head (head_of (row_report table ks e seed l i)) k ≡ true) tie (same_head_self (head_of (row_report table ks e seed l i))))

  -- a layer
  layer_decides : (l : ℕ) → (is_clear_at table ks e seed l ≡ true) ↔ IsClearAt table ks e seed l
  unfolding is_clear_at
  layer_decides l = (
    (λ h.
        let kept = λ (i : ℕ) (j : ℕ) (lt : i < j) (lj : j < length table). each_below (λ i. keep_clear table ks e seed l i j) j (each_below (λ j. all_below (λ i. keep_clear table ks e seed l i j) j) (length table) h j lj) i lt in
        record {
          points = λ i j li lj apart same. elim (cases_lt i j) [
            | inl less ↦ points_kept l i j (kept i j less lj) same
            | inr ge ↦ elim (cases_lt j i) [
              | inl less ↦ (λ tie. points_kept l j i (kept j i less li) (front_turned (suc l) (row_at i) (row_at j) same) (sym tie))
              | inr le ↦ (λ tie. apart (omega arith))
            ]
          ];
          heads = λ i j li lj apart same other. elim (cases_lt i j) [
            | inl less ↦ heads_kept l i j (kept i j less lj) same other
            | inr ge ↦ elim (cases_lt j i) [
              | inl less ↦ (λ tie. heads_kept l j i (kept j i less li) (front_turned l (row_at i) (row_at j) same) (λ v. other (sym v)) (sym tie))
              | inr le ↦ (λ tie. apart (omega arith))
            ]
          ];
        }),
    (λ clear. below_each (λ j. all_below (λ i. keep_clear table ks e seed l i j) j) (length table) (λ j lj.
        below_each (λ i. keep_clear table ks e seed l i j) j (λ i lt. keeps l i j clear (omega arith) lj (λ s. absurd (omega arith))))),
  )

  -- the test passes exactly for a clear table
  pub clear_decides : (is_clear table ks e seed ≡ true) ↔ Clear table ks e seed
  unfolding is_clear
  clear_decides = (
    (λ h. record { at = λ l lt. (layer_decides l).0 (each_below (is_clear_at table ks e seed) (length ks) h l lt) }),
    (λ clear. below_each (is_clear_at table ks e seed) (length ks) (λ l lt. (layer_decides l).1 (clear.at l lt))),
  )

-- a test that passes exactly for clear tables is this one
pub same_test : (b c : Bool) {P : Type 0} → (b ≡ true) ↔ P → (c ≡ true) ↔ P → b ≡ c
same_test true true f g = refl
same_test true false f g = absurd (false≢true (g.1 (f.0 refl)))
same_test false true f g = absurd (false≢true (f.1 (g.0 refl)))
same_test false false f g = refl
