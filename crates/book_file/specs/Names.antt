-- The names under which faults are printed.
use Rattle.std.specs.Prelude.{ℕ, List, codes}
use Rattle.book_file.specs.declared.book_kind.BookKind.{BookKind}
use Rattle.book_file.specs.declared.book_kind.BookKind.TheVariants.{Truncated, Magic, Version, Count, Frame, Order}

abbrev pub name_of : BookKind → List ℕ
name_of Truncated = codes "Truncated"
name_of Magic = codes "Magic"
name_of Version = codes "Version"
name_of Count = codes "Count"
name_of Frame = codes "Frame"
name_of Order = codes "Order"
