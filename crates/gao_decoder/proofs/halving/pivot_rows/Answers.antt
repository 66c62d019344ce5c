use Rattle.std.proofs.Common.{refl}
use Rattle.poly61.proofs.Values.{linear_value}
use Rattle.gao_decoder.proofs.halving.pivot_rows.Goals as goal

pub returns : goal.returns
returns c t = record {
  pivot_v = λ z. linear_value c.times_linear_if_room.new.self c.args.row.now.v c.args.a z (c.if-not-times_linear_if_room.ensures.product refl);
  pivot_r = λ z. linear_value c.times_linear_if_room-2.new.self c.args.row.now.r c.args.a z (c.times_linear_if_room-2.ensures.product t);
  other_v = c.if-not-blend.ensures.blend refl;
  other_r = c.if-not-blend-2.ensures.blend refl;
}
