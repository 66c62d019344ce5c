use Rattle.std.proofs.Common.{◌≡◌, ◌+◌, ◌++◌, length, map, sum}
use Rattle.std.specs.Map.{values_of}
use Rattle.std.specs.Map.Iter.{deref_pair}
use Rattle.book_file.specs.BookOf.{entries_sum}
use Rattle.book_file.proofs.absorbing.add_all.Given as goal

abbrev pub invariant-loop-frame : goal.invariant-loop-frame
invariant-loop-frame l = record {
  can_next : (goal.iterator-loop-frame).can_next l.frame-iterator;
  is_finite : (goal.iterator-loop-frame).is_finite l.frame-iterator;
  count : l.done ≡ length l.yielded;
  whole : map deref_pair l.yielded ++ l.frame-iterator ≡ l.other.entries;
  summed : l.into.entries ≡ entries_sum l.initial.into.entries (map deref_pair l.yielded);
  total : sum (values_of l.into.entries) ≡ sum (values_of l.initial.into.entries) + sum (values_of (map deref_pair l.yielded));
}
