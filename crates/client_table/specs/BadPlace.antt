-- The first bad place of a table, as a function.
use Rattle.std.specs.Prelude.{ℕ, zero, suc, ◌+◌, List, [], length, get_or, Bool, Option, Some, None, is_some, option_map, option_and_then, if◌then◌else◌}
use Rattle.std.specs.Option.{option_or}
use Rattle.report_frame.specs.declared.version.Version.{Version}
use Rattle.client_table.specs.Table.{cells_of, is_bad_at}

-- the first number below n that passes
unfoldable pub first_below : (test : ℕ → Bool) → (n : ℕ) → Option ℕ
first_below test zero = None
first_below test (suc n) = option_or (first_below test n) (if test n then Some n else None)

-- the first column at which a record is bad: if it is good up to the one after its last, it is good at all
abbrev pub bad_column : Version → (width : ℕ) → List (List ℕ) → Option ℕ
bad_column version width cells = first_below (is_bad_at version width cells) (cells_of version width + 1)

-- the first record that is bad at some column
abbrev pub bad_row : Version → (width : ℕ) → List (List (List ℕ)) → Option ℕ
bad_row version width rows = first_below (λ row. is_some (bad_column version width (get_or rows row []))) (length rows)

-- the first bad place: its row and its column
unfoldable pub bad_place : Version → (width : ℕ) → List (List (List ℕ)) → Option (ℕ × ℕ)
bad_place version width rows =
    option_and_then (λ row. option_map (λ column. (row, column)) (bad_column version width (get_or rows row []))) (bad_row version width rows)
