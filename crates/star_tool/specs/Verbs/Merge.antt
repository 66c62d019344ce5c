-- The command `merge`.
use Rattle.std.specs.Prelude.{ℕ, List, [], Option, None, Some, Result, Ok, Err}
use Rattle.book_file.specs.Book.{Book}
use Rattle.book_file.specs.Spelling.{spelling}
use Rattle.book_merge.specs.Merging.{merged}
use Rattle.book_merge.specs.declared.fault.MergeFault.{MergeFault}
use Rattle.star_tool.specs.declared.status.Status.{Status}
use Rattle.star_tool.specs.Status.{fault_status}

-- why there is no sum, if so
abbrev pub refusal_in : Result Book MergeFault → Option Status
refusal_in (Ok sum) = None
refusal_in (Err fault) = Some (fault_status fault)

-- why these bytes have no sum of books of the epoch, if so
abbrev pub merge_refusal : (epoch : ℕ) → (bytes : List ℕ) → Option Status
merge_refusal epoch bytes = refusal_in (merged epoch bytes)

-- f of the sum, where there is one
abbrev pub of_sum : (Book → List ℕ) → Result Book MergeFault → List ℕ
of_sum f (Ok sum) = f sum
of_sum f (Err fault) = []

-- the sum of the books
abbrev pub merge_output : (epoch : ℕ) → (bytes : List ℕ) → List ℕ
merge_output epoch bytes = of_sum spelling (merged epoch bytes)
