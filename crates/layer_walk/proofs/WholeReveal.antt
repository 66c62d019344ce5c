-- The opened groups of a reveal rise strictly by their paths.
use Rattle.std.proofs.Common.{◌≡◌, ◌≢◌, ℕ, zero, suc, List, [], ◌∷◌, refl, sym, ap, ◌∙◌, length, arith, get_or}
use Rattle.std.specs.List.{AllPairs}
use Rattle.std.specs.List.Sorted.{IsStrictlySortedBy}
use Rattle.std.specs.Cmp.Lexicographic.{slice_cmp}
use Rattle.std.specs.Ordering.{nat_cmp, ordering_then}
use Rattle.std.specs.declared.cmp.Ordering.{Ordering}
use Rattle.std.specs.declared.cmp.Ordering.TheVariants.{Less, Equal, Greater}
use Rattle.std.proofs.lemmas.Cmp.{tied_itself}
use Rattle.std.proofs.lemmas.Map.Lookups.{exact_bytes, exact_unsigned}
use Rattle.star_io.specs.declared.record.Record.{Record}
use Rattle.report_frame.specs.declared.version.Version.{Version}
use Rattle.report_frame.specs.declared.version.Version.TheVariants as version
use Rattle.report_frame.specs.Versions.{version_number}
use Rattle.star_lists.proofs.Elements.{Pairwise, all_of, of_all, in_at}
use Rattle.star_lists.proofs.InOrder.{rising_in_order}
use Rattle.layer_walk.specs.declared.level.Parent.{Parent}
use Rattle.layer_walk.specs.declared.path.Step.{Step}
use Rattle.layer_walk.specs.declared.revealed.OpenedGroup.{OpenedGroup}
use Rattle.layer_walk.specs.Reveal.{outer_rows, step_cmp, by_path, level_count, groups_told, reveal_of}
use Rattle.layer_walk.proofs.Orders.{path_total}
use Rattle.layer_walk.proofs.OuterRows.{outer_row}
use Rattle.layer_walk.proofs.WholePaths.{PathsFix, Depth, PathsApart, groups_apart}

-- ---- the order of paths

both_equal : (a b : Ordering) → ordering_then a b ≡ Equal → (a ≡ Equal) × (b ≡ Equal)
both_equal Less b e = absurd (cc)
both_equal Equal b e = (refl, e)
both_equal Greater b e = absurd (cc)

same_version_number : (a b : Version) → version_number a ≡ version_number b → a ≡ b
same_version_number version.One version.One e = refl
same_version_number version.One version.Two e = absurd (omega (arith, e))
same_version_number version.Two version.One e = absurd (omega (arith, e))
same_version_number version.Two version.Two e = refl

tied_steps : (a b : Step) → step_cmp a b ≡ Equal → a ≡ b
tied_steps a b e =
    let value_and_more = both_equal (slice_cmp nat_cmp a.value b.value) (ordering_then (nat_cmp a.k b.k) (nat_cmp (version_number a.version) (version_number b.version))) e in
    let threshold_and_version = both_equal (nat_cmp a.k b.k) (nat_cmp (version_number a.version) (version_number b.version)) value_and_more.1 in
    let value = exact_bytes a.value b.value value_and_more.0 in
    let k = exact_unsigned a.k b.k threshold_and_version.0 in
    let version = same_version_number a.version b.version (exact_unsigned (version_number a.version) (version_number b.version) threshold_and_version.1) in
    λ i. record { value = value i; k = k i; version = version i }

tied_paths : (p q : List Step) → slice_cmp step_cmp p q ≡ Equal → p ≡ q
tied_paths [] [] e = refl
tied_paths [] (y ∷ q) e = absurd (cc)
tied_paths (x ∷ p) [] e = absurd (cc)
tied_paths (x ∷ p) (y ∷ q) e =
    let both = both_equal (step_cmp x y) (slice_cmp step_cmp p q) e in
    let head = tied_steps x y both.0 in
    let tail = tied_paths p q both.1 in
    λ i. head i ∷ tail i

-- ---- no two opened groups have the same path

pub paths_untied : (groups : List OpenedGroup) → PathsApart groups → Pairwise (λ (g h : OpenedGroup). by_path g h ≡ Equal → ⊥) groups
paths_untied [] h = tt
paths_untied (g ∷ groups) h = (all_of (λ (k : OpenedGroup). by_path g k ≡ Equal → ⊥) groups (λ k i e. of_all (λ (k : OpenedGroup). g.path ≢ k.path) groups h.0 k i (tied_paths g.path k.path e)), paths_untied groups h.1)

outer_fix : (e : ℕ) (records : List Record) → PathsFix (outer_rows e records)
unfolding PathsFix
outer_fix e records a b ia ib same =
    ap (λ (p : Parent). p.check) (outer_row e records a ia).parent ∙ sym (ap (λ (p : Parent). p.check) (outer_row e records b ib).parent)

outer_depth : (e : ℕ) (records : List Record) → Depth 0 (outer_rows e records)
unfolding Depth
outer_depth e records r i = ap (λ (p : Parent). length p.path) (outer_row e records r i).parent

-- the groups rise strictly by their paths
pub groups_rise : (e : ℕ) (records : List Record) → IsStrictlySortedBy by_path (reveal_of e records).groups
unfolding reveal_of
groups_rise e records =
    rising_in_order by_path path_total (groups_told e (outer_rows e records) level_count)
    (paths_untied _ (groups_apart e (outer_rows e records) (outer_fix e records) (outer_depth e records) level_count))

rises_apart : (groups : List OpenedGroup) → IsStrictlySortedBy by_path groups → AllPairs (λ (g h : OpenedGroup). g.path ≢ h.path) groups
unfolding IsStrictlySortedBy
rises_apart [] h i j d lt inside same = omega arith
rises_apart (g ∷ groups) h zero zero d lt inside same = omega arith
rises_apart (g ∷ groups) h zero (suc j) d lt inside same =
    let less : by_path g (get_or groups j d) ≡ Less = of_all (λ k. by_path g k ≡ Less) groups h.0 (get_or groups j d) (in_at groups j d (omega arith)) in
    let tie : by_path g (get_or groups j d) ≡ by_path g g = ap (slice_cmp step_cmp g.path) (sym same) in
    let self : by_path g g ≡ Equal = tied_itself path_total g in
    let no : Less ≡ Equal = sym less ∙ tie ∙ self in
    cc
rises_apart (g ∷ groups) h (suc i) zero d lt inside same = omega arith
rises_apart (g ∷ groups) h (suc i) (suc j) d lt inside same = rises_apart groups h.1 i j d (omega arith) (omega arith) same

-- so no two have one
pub groups_differ : (e : ℕ) (records : List Record) → AllPairs (λ (g h : OpenedGroup). g.path ≢ h.path) (reveal_of e records).groups
groups_differ e records = rises_apart (reveal_of e records).groups (groups_rise e records)
