-- The frames and records of streams of reports.
use Rattle.std.specs.Prelude.{ℕ, List, [], get_or, length, map}
use Rattle.std.specs.List.{range_with_len}
use Rattle.star_io.specs.declared.record.Record.{Record}
use Rattle.star_io.specs.RecordLists.{whole}
use Rattle.report_frame.specs.declared.version.Version.TheVariants.{One, Two}
use Rattle.nest_client.specs.Report.{client_of, frame_of, report, report2}

-- f 0, f 1 and so on, n of them
abbrev pub first_of : (ℕ → List ℕ) → ℕ → List (List ℕ)
first_of f n = map f (range_with_len 0 n)

-- the frame of the report of row i, as client i
abbrev pub row_frame : List (List (List ℕ)) → List ℕ → ℕ → List ℕ → ℕ → List ℕ
row_frame rows thresholds epoch seed i = frame_of (report (client_of One epoch seed i) (get_or rows i []) thresholds)

-- the frames of rows 0, 1 and so on
abbrev pub table_frames : List (List (List ℕ)) → List ℕ → ℕ → List ℕ → List (List ℕ)
table_frames rows thresholds epoch seed = first_of (row_frame rows thresholds epoch seed) (length rows)

-- their records
abbrev pub table_records : List (List (List ℕ)) → List ℕ → ℕ → List ℕ → List Record
table_records rows thresholds epoch seed = whole (table_frames rows thresholds epoch seed)

-- the same in version 2, in which a row has extra bytes besides its values
abbrev pub row2_frame : List (List (List ℕ) × List ℕ) → List ℕ → ℕ → List ℕ → ℕ → List ℕ
row2_frame rows thresholds epoch seed i =
    let row = get_or rows i ([], []) in frame_of (report2 (client_of Two epoch seed i) row.1 row.0 thresholds)

abbrev pub table2_frames : List (List (List ℕ) × List ℕ) → List ℕ → ℕ → List ℕ → List (List ℕ)
table2_frames rows thresholds epoch seed = first_of (row2_frame rows thresholds epoch seed) (length rows)

abbrev pub table2_records : List (List (List ℕ) × List ℕ) → List ℕ → ℕ → List ℕ → List Record
table2_records rows thresholds epoch seed = whole (table2_frames rows thresholds epoch seed)
