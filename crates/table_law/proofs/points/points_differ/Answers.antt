use Rattle.std.proofs.Common.{◌≡◌, ◌∙◌, ℕ, ◌≤◌, List, true, inl, inr, [], refl, sym, ap, length, get_or, slice_index, arith}
use Rattle.std.specs.Ordering.{is_eq}
use Rattle.std.specs.BTreeMap.{get}
use Rattle.std.proofs.lemmas.Bool.{cases_lt, false≢true}
use Rattle.std.proofs.lemmas.List.{get_or_default, get_or_past}
use Rattle.table_law.specs.declared.points.PointMark.{PointMark}
use Rattle.table_law.proofs.FirstPlaces.{firsts_more, none_tied, one_tied}
use Rattle.table_law.proofs.Marks.{point_cmp, point_mark, points_tie, tied_points}
use Rattle.table_law.proofs.points.points_differ.Goals as goal

-- a number that isn't 0 is there
read : (xs : List ℕ) (l d : ℕ) → 1 ≤ slice_index xs l → get_or xs l d ≡ slice_index xs l
read xs l d some = elim (cases_lt l (length xs)) [
  | inl lt ↦ get_or_default xs l d 0 lt
  | inr ge ↦ absurd (omega (arith, get_or_past xs l 0 (omega arith)))
]

pub returns-then-branch-i : goal.returns-then-branch-i
returns-then-branch-i c =
    let points = c.args.points.now in
    let firsts = c.args.firsts.now in
    let layer : ℕ = c.args.layer in
    let i : ℕ = c.rows.i in
    let key : PointMark = record { first = slice_index firsts i; x = get_or (get_or points i []) layer c.index-points-i.result } in
    let same : key.x ≡ (point_mark points layer firsts i).x = read (get_or points i []) layer c.index-points-i.result (c.requires.some i (omega arith)) in
    let tied = one_tied (λ j. is_eq (point_cmp (point_mark points layer firsts j) key) ≡ true) i c.in_ok-first_place.field-0 (get point_cmp c.rows.places key)
    (c.rows.invariant.places key) c.in_ok-first_place.ensures.place (λ e. absurd (c.if-branch-i.true e)) in
    let both = points_tie (point_mark points layer firsts c.in_ok-first_place.field-0) key tied.1 in
    ((λ t. absurd (false≢true t)), (λ differ. absurd (differ c.in_ok-first_place.field-0 i tied.0 (omega arith) both.0 (both.1 ∙ same))))

pub rows-preserved : goal.rows-preserved
rows-preserved c =
    let points = c.args.points.now in
    let firsts = c.args.firsts.now in
    let layer : ℕ = c.args.layer in
    let i : ℕ = c.rows.i in
    let key : PointMark = record { first = slice_index firsts i; x = get_or (get_or points i []) layer c.index-points-i.result } in
    let value : key.x ≡ (point_mark points layer firsts i).x = read (get_or points i []) layer c.index-points-i.result (c.requires.some i (omega arith)) in
    let same : key ≡ point_mark points layer firsts i = λ n. record { first = slice_index firsts i; x = value n } in
    let none = none_tied (λ j. is_eq (point_cmp (point_mark points layer firsts j) key) ≡ true) i c.in_ok-first_place.field-0 (get point_cmp c.rows.places key)
    (c.rows.invariant.places key) (tied_points (point_mark points layer firsts i) key refl (sym value)) c.in_ok-first_place.ensures.place c.if-branch-i.false in
    record {
      places = firsts_more point_cmp (point_mark points layer firsts) i c.rows.places c.first_place.new.places key c.rows.invariant.places same c.in_ok-first_place.ensures.places;
      differ = λ a b less lt first tie. elim (cases_lt b i) [
        | inl before ↦ c.rows.invariant.differ a b less before first tie
        | inr ge ↦
            let is : b ≡ i = omega arith in
            none a (omega arith) (tied_points (point_mark points layer firsts a) key (first ∙ ap (slice_index firsts) is) (tie ∙ ap (λ n. slice_index (get_or points n []) layer) is ∙ sym value))
      ];
    }
