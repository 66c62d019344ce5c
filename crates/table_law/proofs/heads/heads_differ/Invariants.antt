use Rattle.std.proofs.Common.{◌≡◌, ◌≢◌, ℕ, ◌<◌, slice_index}
use Rattle.table_law.specs.Marks.{row_head}
use Rattle.table_law.proofs.FirstPlaces.{HasFirstsOf}
use Rattle.table_law.proofs.Marks.{head_cmp, head_mark}
use Rattle.table_law.proofs.heads.heads_differ.Given as goal

abbrev pub invariant-rows : goal.invariant-rows
invariant-rows l = record {
  places : HasFirstsOf (λ j. slice_index l.longer j ≡ j) head_cmp (head_mark l.fn.epoch l.thresholds l.layer l.table l.firsts) l.i l.places;
  differ : (i j : ℕ) → i < j → j < l.i → slice_index l.longer i ≡ i → slice_index l.longer j ≡ j → slice_index l.firsts i ≡ slice_index l.firsts j →
      row_head l.fn.epoch l.thresholds l.layer l.table i ≢ row_head l.fn.epoch l.thresholds l.layer l.table j;
}
