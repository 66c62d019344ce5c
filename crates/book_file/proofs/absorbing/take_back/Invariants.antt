use Rattle.std.proofs.Common.{◌≡◌, List, take}
use Rattle.book_file.specs.Book.{Entry}
use Rattle.book_file.specs.BookOf.{entries_sum}
use Rattle.book_file.proofs.Entries.{Rises}
use Rattle.book_file.proofs.Sums.{Counts}
use Rattle.book_file.proofs.absorbing.take_back.Given as goal

abbrev pub invariant-loop-frame : goal.invariant-loop-frame
invariant-loop-frame l = record {
  can_next : (goal.iterator-loop-frame).can_next l.frame-iterator;
  is_finite : (goal.iterator-loop-frame).is_finite l.frame-iterator;
  rises : Rises l.frame-iterator;
  counts : Counts l.frame-iterator;
  back : (before : List Entry) → Rises before → Counts before → l.initial.into.entries ≡ entries_sum before (take l.done l.other.entries) → l.into.entries ≡ entries_sum before (take l.left l.frame-iterator);
}
