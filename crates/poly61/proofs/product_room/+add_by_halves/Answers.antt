use Rattle.std.proofs.Common.{refl}
use Rattle.poly61.proofs.Halves.{adds_halves}
use Rattle.poly61.proofs.product_room.+add_by_halves.Goals as goal

pub returns : goal.returns
returns t c is =
    let level = c.prepare.new.level in
    adds_halves c.args.out.now c.join.new.out c.args.f.now c.args.g.now level.f_low level.f_high level.g_low level.g_high c.add_shifted.new.self c.add_shifted-2.new.self
    level.low c.add_by_halves-2.new.out level.middle c.add_by_halves-4.new.out level.high c.add_by_halves-3.new.out c.in-Some-prepare.half
    c.in-Some-prepare.ensures.first c.in-Some-prepare.ensures.second c.in-Some-prepare.ensures.low c.in-Some-prepare.ensures.middle c.in-Some-prepare.ensures.high
    (c.if-not-add_by_halves.ensures refl) (c.if-not-add_by_halves-2.ensures refl) (c.if-not-add_shifted.ensures refl) (c.if-not-add_shifted-2.ensures refl) (c.if-not-add_by_halves-3.ensures refl) (c.join.ensures is)
