use Rattle.poly61.proofs.product_room.ProductRoom.with_room.Given as goal

abbrev pub decreases-loop-places : goal.decreases-loop-places
decreases-loop-places l = l.places
