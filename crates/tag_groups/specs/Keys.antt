-- When two rows are in the same group.
use Rattle.std.specs.Prelude.{◌≤◌, Bool, true, false, ◌==◌, ◌&&◌}
use Rattle.std.specs.Str.{bytes_eq}
use Rattle.report_frame.specs.declared.head.Head.{Head}
use Rattle.report_frame.specs.declared.version.Version.{Version}
use Rattle.report_frame.specs.declared.version.Version.TheVariants.{One, Two}
use Rattle.report_frame.specs.declared.limits.TheConstants.{MIN_THRESHOLD}
use Rattle.report_frame.specs.Versions.{max_threshold}
use Rattle.report_frame.specs.View.{head_of}
use Rattle.tag_groups.specs.RowView.{RowView}
use Rattle.tag_groups.specs.declared.key.Key.{Key}

-- the parent and the head of a row
abbrev pub key_of : RowView → Key
key_of row = record { parent = row.parent; head = head_of row.report }

-- whether two versions are one
abbrev pub same_version : Version → Version → Bool
same_version One One = true
same_version One Two = false
same_version Two One = false
same_version Two Two = true

-- whether two heads are one: version, threshold, tag, check and box
abbrev pub same_head : Head → Head → Bool
same_head a b = same_version a.version b.version && ((a.k == b.k) && (bytes_eq a.tag b.tag && (bytes_eq a.check b.check && bytes_eq a.boxed b.boxed)))

-- the row is of this key
abbrev pub is_row_of : Key → RowView → Bool
is_row_of key row = (key.parent == row.parent) && same_head key.head (head_of row.report)

-- the rows have the same parent and the same head
abbrev pub same_key : RowView → RowView → Bool
same_key a b = is_row_of (key_of a) b

-- the threshold is one of the head's version
abbrev pub HasThreshold : Head → Type 0
HasThreshold head = (MIN_THRESHOLD ≤ head.k) × (head.k ≤ max_threshold head.version)
