use Rattle.std.proofs.Common.{◌≡◌, ◌∙◌, ℕ, ◌+◌, ◌<◌, inl, inr, [], ◌∷◌, ◌++◌, refl, sym, ap, subst, length, map, get_or, slice_index, arith}
use Rattle.std.proofs.lemmas.Bool.{cases_lt}
use Rattle.std.proofs.lemmas.List.{length-map, map_more, take_all}
use Rattle.table_law.specs.declared.fronts.Front.{Front}
use Rattle.table_law.specs.Prefixes.{value_at}
use Rattle.table_law.specs.Fronts.{first_of, firsts_of}
use Rattle.table_law.specs.Reveals.{IsValue}
use Rattle.table_law.proofs.FirstPlaces.{firsts_more}
use Rattle.table_law.proofs.FrontMarks.{front_cmp, front_of, value_there, front_step}
use Rattle.table_law.proofs.fronts.longer_fronts.Goals as goal

pub bounds-firsts-i : goal.bounds-firsts-i
unfolding firsts_of
bounds-firsts-i c = omega (arith, ap length c.requires.firsts, length-map c.args.table.now (first_of c.args.table.now c.args.layer))

pub rows-preserved : goal.rows-preserved
rows-preserved c =
    let table = c.args.table.now in
    let layer : ℕ = c.args.layer in
    let firsts = c.args.firsts.now in
    let i : ℕ = c.rows.i in
    let within : i < length table = omega (arith, c.len-i-end.ensures) in
    let read : c.index-row-layer.result ≡ value_at (get_or table i []) layer =
    value_there c.row.result.now (get_or table i []) c.index-row-layer.result layer c.row.ensures c.index-row-layer.is (c.requires.width i within) in
    let key : Front = record { before = slice_index firsts i; value = c.copy.result } in
    let value : key.value ≡ value_at (get_or table i []) layer = c.copy.ensures ∙ read in
    let same : key ≡ front_of table layer firsts i = λ k. record { before = slice_index firsts i; value = value k } in
    let first : first_of table (layer + 1) (get_or table i []) ≡ c.in_ok-place.place =
    front_step table layer i c.in_ok-place.place firsts key c.rows.places c.requires.firsts within refl value c.rows.invariant.places c.in_ok-place.ensures.place in
    record {
      places = firsts_more front_cmp (front_of table layer firsts) i c.rows.places c.first_place.new.places key c.rows.invariant.places same c.in_ok-place.ensures.places;
      longer = c.in_ok-push.ensures.items ∙ (λ k. c.rows.invariant.longer k ++ sym first k ∷ []) ∙ sym (map_more (first_of table (layer + 1)) table i [] within);
      values = λ j lt. elim (cases_lt j i) [
        | inl less ↦ c.rows.invariant.values j less
        | inr ge ↦ (let is : i ≡ j = omega arith in subst (λ n. IsValue (value_at (get_or table n []) layer)) is (subst IsValue read (c.as_slice-bytes.ensures.low, c.as_slice-bytes.ensures.high)))
      ];
    }

pub returns-clause-firsts : goal.returns-clause-firsts
unfolding firsts_of
returns-clause-firsts c =
    c.rows.invariant.longer ∙ ap (map (first_of c.args.table.now (c.args.layer + 1))) (take_all c.rows.i c.args.table.now (omega (arith, c.len-i-end.ensures)))
