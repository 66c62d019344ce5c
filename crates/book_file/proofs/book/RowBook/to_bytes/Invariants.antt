use Rattle.std.proofs.Common.{◌≡◌, ◌++◌, true}
use Rattle.std.specs.Prelude.{All}
use Rattle.std.specs.List.{flat_map}
use Rattle.std.specs.Map.{keys_of}
use Rattle.book_file.specs.Book.{is_outer_frame}
use Rattle.book_file.specs.Spelling.{spelling, entry_bytes}
use Rattle.book_file.proofs.book.RowBook.to_bytes.Given as goal

abbrev pub invariant-loop-frame : goal.invariant-loop-frame
invariant-loop-frame l = record {
  can_next : (goal.iterator-loop-frame).can_next l.frame-iterator;
  is_finite : (goal.iterator-loop-frame).is_finite l.frame-iterator;
  whole : l.bytes.items ++ flat_map entry_bytes l.frame-iterator ≡ spelling l.self;
  good : All (λ frame. is_outer_frame l.self.epoch frame ≡ true) (keys_of l.frame-iterator);
}
