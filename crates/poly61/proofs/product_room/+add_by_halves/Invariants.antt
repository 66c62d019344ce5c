use Rattle.std.proofs.Common.{length}
use Rattle.poly61.proofs.product_room.+add_by_halves.Given as goal

abbrev pub decreases-add_by_halves : goal.decreases-add_by_halves
decreases-add_by_halves l = length l.rest.now
