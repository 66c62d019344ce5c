use Rattle.std.proofs.Common.{arith, refl}
use Rattle.poly61.proofs.Halves.{is_split}
use Rattle.poly61.proofs.product_room.split.Goals as goal

pub returns : goal.returns
returns c is =
    is_split c.args.f.now c.copy_places.new.self c.copy_places-2.new.self c.args.at c.places-places.result (omega arith) c.places-places.ensures.below
    (c.if-not-copy_places.ensures.places refl) (c.if-not-copy_places.ensures.below refl) (c.copy_places-2.ensures.places is) (c.copy_places-2.ensures.below is)
