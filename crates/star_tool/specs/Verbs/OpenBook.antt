-- The command `openbook`.
use Rattle.std.specs.Prelude.{ℕ, List}
use Rattle.layer_walk.specs.Reveal.{reveal_of}
use Rattle.reveal_report.specs.RevealText.{text_of}
use Rattle.book_file.specs.Book.{Book}
use Rattle.book_merge.specs.Merging.{merged}
use Rattle.book_merge.specs.Records.{records_of}
use Rattle.star_tool.specs.Verbs.Merge.{of_sum}

-- the text of what the records of a book tell
abbrev pub opened : (epoch : ℕ) → Book → List ℕ
opened epoch book = text_of (reveal_of epoch (records_of book))

-- that of the sum of the books
abbrev pub open_book_output : (epoch : ℕ) → (bytes : List ℕ) → List ℕ
open_book_output epoch bytes = of_sum (opened epoch) (merged epoch bytes)
