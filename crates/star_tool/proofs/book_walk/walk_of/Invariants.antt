use Rattle.std.proofs.Common.{◌≡◌}
use Rattle.star_tool.proofs.BookWalk.{HasWalked}
use Rattle.star_tool.proofs.book_walk.walk_of.Given as goal

abbrev pub invariant-loop-frame : goal.invariant-loop-frame
invariant-loop-frame l = record {
  epoch : l.walk.epoch ≡ l.book.epoch;
  walked : HasWalked l.walk l.frame-iterator l.book.entries;
}
