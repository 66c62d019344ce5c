use Rattle.std.proofs.Common.{arith, ℕ, ◌≡◌, ◌∙◌, refl, sym, ap, inl, inr, get_or}
use Rattle.std.proofs.lemmas.Grind.{common_steps}
use Rattle.std.proofs.lemmas.Bool.{cases_lt}
use Rattle.field61.specs.Field.{field_sum, field_product, field_difference, field_negative}
use Rattle.gao_decoder.specs.Halving.{row_at}
use Rattle.gao_decoder.proofs.Rows.{pivot_at, other_at, pivot_zero, other_zero, pivot_here, other_here}
use Rattle.gao_decoder.proofs.halving.pivot.Goals as goal

pub returns-clause-keeps : goal.returns-clause-keeps
returns-clause-keeps c _ i a b within before old =
    let row = c.args.row.now in
    let other = c.args.other.now in
    let new = c.pivot_rows.new.row in
    let new_other = c.pivot_rows.new.other in
    let x : ℕ = get_or c.args.xs.now i 0 in
    let y : ℕ = c.index-xs-j.result in
    let p : ℕ = c.index-pivots-j.result in
    let n : ℕ = c.neg-n.result in
    let u : ℕ = get_or c.args.pivots.now i 0 in
    let v : ℕ = get_or c.args.others.now i 0 in
    let is_y : y ≡ get_or c.args.xs.now c.args.j 0 = grind (arith, common_steps) in
    let is = c.if-not-pivot_rows.ensures refl in
    let first : row_at new.v new.r x a b ≡ field_product u (field_difference x y) = pivot_at row.v row.r other.v other.r new.v new.r new_other.v new_other.r y p n x a b is ∙ ap (λ w. field_product w (field_difference x y)) old.first in
    let second : row_at new_other.v new_other.r x a b ≡ field_sum (field_product v p) (field_product u n) = other_at row.v row.r other.v other.r new.v new.r new_other.v new_other.r y p n x a b is
    ∙ ap (λ w. field_sum (field_product w p) (field_product (row_at row.v row.r x a b) n)) old.second ∙ ap (λ w. field_sum (field_product v p) (field_product w n)) old.first in
    elim (cases_lt i c.args.j) [
      | inl less ↦ record {
        first = first ∙ pivot_zero u (field_difference x y) (before less).0 ∙ sym (c.pivot_pairs.ensures.pivots_rest i (inl less) ∙ (before less).0);
        second = second ∙ other_zero u v p n (before less).0 (before less).1 ∙ sym (c.pivot_pairs.ensures.others_rest i (inl less) ∙ (before less).1);
      }
      | inr past ↦ record {
        first = first ∙ ap (λ w. field_product u (field_difference x w)) is_y ∙ sym (c.pivot_pairs.ensures.pivots i past within);
        second = second ∙ sym (c.pivot_pairs.ensures.others i past within);
      }
    ]

pub returns-clause-zero : goal.returns-clause-zero
returns-clause-zero c _ =
    let u : ℕ = get_or c.args.pivots.now c.args.j 0 in
    let v : ℕ = get_or c.args.others.now c.args.j 0 in
    let is_p : c.index-pivots-j.result ≡ get_or c.args.pivots.now c.args.j 0 = grind (arith, common_steps) in
    let is_v : c.index-others-j.result ≡ get_or c.args.others.now c.args.j 0 = grind (arith, common_steps) in (
      c.pivot_pairs.ensures.pivots c.args.j (omega arith) c.requires.point ∙ pivot_here u (get_or c.args.xs.now c.args.j 0),
      c.pivot_pairs.ensures.others c.args.j (omega arith) c.requires.point ∙ ap (λ w. field_sum (field_product v w) (field_product u c.neg-n.result)) is_p
          ∙ ap (λ w. field_sum (field_product v u) (field_product u w)) (c.neg-n.ensures.negative ∙ ap field_negative is_v) ∙ other_here u v,
    )
