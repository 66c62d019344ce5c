-- The fields of the certificate of a group are in their ranges.
use Rattle.std.proofs.Common.{◌≡◌, ℕ, zero, suc, ◌*◌, ◌<◌, ◌≤◌, List, [], ◌∷◌, inl, inr, length, map, refl, sym, ap, ◌∙◌, subst, arith}
use Rattle.std.specs.List.{AllByRecursion}
use Rattle.std.specs.List.Sorted.{IsStrictlySortedBy, IsStrictlyIncreasing}
use Rattle.std.specs.Ordering.{nat_cmp}
use Rattle.std.specs.Cmp.{nat_cmp_is}
use Rattle.std.specs.declared.cmp.Ordering.TheVariants.{Less}
use Rattle.std.proofs.lemmas.List.{length-map}
use Rattle.std.proofs.lemmas.List.Elements.{All-from_recursion}
use Rattle.std.proofs.lemmas.Map.Keys.{IsStrictlyIncreasing-from_sorted}
use Rattle.star_io.specs.declared.record.Record.{Record}
use Rattle.field61.specs.Field.{AreElements}
use Rattle.field61.specs.declared.TheConstants.{MODULUS}
use Rattle.report_frame.specs.Laws.{InRange}
use Rattle.report_frame.specs.View.{head_of}
use Rattle.report_frame.specs.Versions.{max_level, max_threshold}
use Rattle.report_frame.specs.declared.head.Head.{Head}
use Rattle.report_frame.proofs.FrameLaws.{in_range}
use Rattle.shamir_limbs.specs.declared.share.Point.{Point}
use Rattle.shamir_limbs.specs.KeyLine.{xs_of}
use Rattle.star_lists.proofs.Elements.{In, from_filter, filter_fewer, filter_map_fewer}
use Rattle.star_lists.proofs.Inside.{from_map}
use Rattle.tag_groups.specs.Left.{x_cmp, point_of}
use Rattle.tag_groups.proofs.Left.{from_left, rising_left}
use Rattle.tag_groups.proofs.LeftLaws.{few_left}
use Rattle.layer_walk.specs.Rows.{Row, same_group, members, points_left}
use Rattle.layer_walk.specs.Levels.{next_row, next_rows, rows_from}
use Rattle.layer_walk.specs.Reveal.{outer_rows}
use Rattle.layer_walk.specs.Laws.{AreByteRecords}
use Rattle.layer_walk.proofs.Firsts.{few_rows}
use Rattle.layer_walk.proofs.Framed.{each_framed}
use Rattle.cert_audit.specs.declared.cert.Cert.{Cert}
use Rattle.cert_audit.specs.declared.limits.TheConstants.{MAX_POINTS}
use Rattle.cert_audit.specs.Certificate.{IsCert}

-- no level has more rows than level 0
few_from : (e : ℕ) (rows : List Row) (l : ℕ) → length (rows_from e rows l) ≤ length rows
unfolding rows_from next_rows
few_from e rows zero = omega arith
few_from e rows (suc l) = omega (arith, filter_map_fewer (next_row e l (rows_from e rows l)) (rows_from e rows l), few_from e rows l)

-- no group has more points left than there are rows
few_points : (rows : List Row) (row : Row) → length (points_left rows row) ≤ length rows
few_points rows row =
    omega (arith, few_left (map (λ (r : Row). point_of r.frame) (members rows row)), length-map (members rows row) (λ (r : Row). point_of r.frame), filter_fewer (same_group row) rows)

-- what holds of the point of each row holds of the points left
points_hold : (P : Point → Type 0) (rows : List Row) (row : Row) → ((r : Row) → In r rows → P (point_of r.frame)) → (p : Point) → In p (points_left rows row) → P p
points_hold P rows row f p i =
    let left = from_left (map (λ (r : Row). point_of r.frame) (members rows row)) p i in
    let from = from_map (λ (r : Row). point_of r.frame) p (members rows row) left.0 in
    subst P from.2 (f from.0 (from_filter (same_group row) rows from.0 from.1).0)

-- ---- the x of points

later_xs : (p : Point) (ps : List Point) → AllByRecursion (λ q. x_cmp p q ≡ Less) ps → AllByRecursion (λ y. nat_cmp p.x y ≡ Less) (xs_of ps)
later_xs p [] h = tt
later_xs p (q ∷ ps) h = (h.0, later_xs p ps h.1)

rising_xs : (points : List Point) → IsStrictlySortedBy x_cmp points → IsStrictlySortedBy nat_cmp (xs_of points)
unfolding IsStrictlySortedBy
rising_xs [] h = tt
rising_xs (p ∷ ps) h = (later_xs p ps h.0, rising_xs ps h.1)

above_zero : (points : List Point) → ((p : Point) → In p points → 1 ≤ p.x) → AllByRecursion (λ y. nat_cmp 0 y ≡ Less) (xs_of points)
above_zero [] f = tt
above_zero (p ∷ ps) f =
    let above : 0 < p.x = omega (arith, f p (inl refl)) in
    (sym (nat_cmp_is 0 p.x Less above), above_zero ps (λ q i. f q (inr i)))

all_below : (points : List Point) → ((p : Point) → In p points → p.x < MODULUS) → AllByRecursion (λ x. x < MODULUS) (xs_of points)
all_below [] f = tt
all_below (p ∷ ps) f = (f p (inl refl), all_below ps (λ q i. f q (inr i)))

ascending_xs : (points : List Point) → IsStrictlySortedBy x_cmp points → ((p : Point) → In p points → 1 ≤ p.x) → IsStrictlyIncreasing (0 ∷ xs_of points)
unfolding IsStrictlySortedBy
ascending_xs points up f = IsStrictlyIncreasing-from_sorted (0 ∷ xs_of points) (above_zero points f, rising_xs points up)

-- ---- the groups of a level of a stream

module _ (e : ℕ) (records : List Record) (bytes : AreByteRecords records) (l : ℕ) where
  abbrev rows : List Row
  rows = rows_from e (outer_rows e records) l

  framed : (row : Row) → In row rows → InRange row.frame
  framed row i = let at = each_framed e records bytes l row i in in_range row.frame at.bytes at.is_frame

  -- the x of the points left are field elements
  pub left_elements : (row : Row) → AreElements (xs_of (points_left rows row))
  left_elements row =
      let below : (p : Point) → In p (points_left rows row) → p.x < MODULUS = points_hold (λ p. p.x < MODULUS) rows row (λ r i. (framed r i).x_high) in
      All-from_recursion (λ x. x < MODULUS) (xs_of (points_left rows row)) (all_below (points_left rows row) below)

  left_rise : (row : Row) → IsStrictlyIncreasing (0 ∷ xs_of (points_left rows row))
  left_rise row =
      ascending_xs (points_left rows row) (rising_left (map (λ (r : Row). point_of r.frame) (members rows row)))
      (points_hold (λ p. 1 ≤ p.x) rows row (λ r i. (framed r i).x_low))

  -- a certificate with the place, the head and the points left of a row's group is in range
  pub cert_in_range : length records ≤ MAX_POINTS → (row : Row) → In row rows → (cert : Cert) → cert.level ≡ l → cert.head ≡ head_of row.frame → cert.points ≡ points_left rows row → length cert.numbers ≡ 3 * cert.head.k → IsCert cert
  cert_in_range small row i cert level head points numbers =
      let range = framed row i in
      let at = each_framed e records bytes l row i in
      let low : cert.level ≤ max_level row.frame.version = subst (λ n. n ≤ max_level row.frame.version) (at.level ∙ sym level) range.level in
      record {
        level = subst (λ (h : Head). cert.level ≤ max_level h.version) (sym head) low;
        k_low = omega (arith, range.k_low, ap (λ (h : Head). h.k) head);
        k_high = subst (λ (h : Head). h.k ≤ max_threshold h.version) (sym head) range.k_high;
        few = omega (arith, ap length points, few_points rows row, few_from e (outer_rows e records) l, few_rows e records, small);
        ascending = subst (λ ps. IsStrictlyIncreasing (0 ∷ xs_of ps)) (sym points) (left_rise row);
        numbers = numbers;
      }
