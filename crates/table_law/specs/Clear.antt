-- When the reports of a table don't conflict with each other.
use Rattle.std.specs.Prelude.{◌≡◌, ◌≢◌, ◌<◌, ◌==◌, ℕ, zero, suc, Bool, true, not, ◌&&◌, ◌||◌, List, [], length, get_or}
use Rattle.std.specs.Str.{bytes_eq}
use Rattle.report_frame.specs.View.{head_of}
use Rattle.tag_groups.specs.Keys.{same_head}
use Rattle.table_law.specs.Prefixes.{Values, value_at, same_front}
use Rattle.table_law.specs.Layers.{row_report}

-- Any two rows that share their first l + 1 values have different x in layer l, and any two that share their first l values and
-- differ in value l have different heads there.
pub record IsClearAt (table : List Values) (ks : List ℕ) (e : ℕ) (seed : List ℕ) (l : ℕ) : Type 0 where
  pub points : (i j : ℕ) → i < length table → j < length table → i ≢ j → same_front (suc l) (get_or table i []) (get_or table j []) ≡ true →
      (row_report table ks e seed l i).x ≢ (row_report table ks e seed l j).x
  pub heads : (i j : ℕ) → i < length table → j < length table → i ≢ j → same_front l (get_or table i []) (get_or table j []) ≡ true →
      value_at (get_or table i []) l ≢ value_at (get_or table j []) l → head_of (row_report table ks e seed l i) ≢ head_of (row_report table ks e seed l j)

-- The same at each layer.
pub record Clear (table : List Values) (ks : List ℕ) (e : ℕ) (seed : List ℕ) : Type 0 where
  pub at : (l : ℕ) → l < length ks → IsClearAt table ks e seed l

-- ---- the same as a test

-- the test passes for each number below n
abbrev pub all_below : (ℕ → Bool) → ℕ → Bool
all_below test zero = true
all_below test (suc n) = all_below test n && test n

-- rows i and j don't conflict in layer l
abbrev pub keep_clear : List Values → List ℕ → ℕ → List ℕ → (l i j : ℕ) → Bool
keep_clear table ks e seed l i j =
    let a = get_or table i [] in let b = get_or table j [] in
    let one = row_report table ks e seed l i in let other = row_report table ks e seed l j in
    (not (same_front (suc l) a b) || not (one.x == other.x))
    && (not (same_front l a b) || (bytes_eq (value_at a l) (value_at b l) || not (same_head (head_of one) (head_of other))))

-- no row conflicts with one before it in layer l
unfoldable pub is_clear_at : List Values → List ℕ → ℕ → List ℕ → ℕ → Bool
is_clear_at table ks e seed l = all_below (λ j. all_below (λ i. keep_clear table ks e seed l i j) j) (length table)

-- nor in any layer
unfoldable pub is_clear : List Values → List ℕ → ℕ → List ℕ → Bool
is_clear table ks e seed = all_below (is_clear_at table ks e seed) (length ks)
