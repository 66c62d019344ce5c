use Rattle.std.proofs.Common.{◌≡◌, ◌+◌, ◌*◌, ◌-◌, ◌≤◌, ℕ, List, Some}
use Rattle.book_file.specs.Format.{entries_format}
use Rattle.book_file.specs.Taking.{Stands}
use Rattle.book_file.proofs.from_source.next_book.Given as goal

abbrev pub invariant-loop-done : goal.invariant-loop-done
invariant-loop-done g l = record {
  stands : (bytes : List ℕ) → g.S.Source.left l.fn.source ≡ Some bytes → Stands (entries_format (l.number - l._done) l.book) l.at (g.S.Source.left l.source) bytes;
  near : l.at ≤ 21 + 65541 * l._done;
  later : g.S.Source.faults l.fn.source ≤ g.S.Source.faults l.source;
}
